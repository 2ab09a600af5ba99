-- `answers::put::put_char` meets its contract.
use Rattle.answers.proofs.Putting.{puts}
use Rattle.answers.proofs.put.put_char.Goals as goal

pub returns-then-c-lt128 : goal.returns-then-c-lt128
returns-then-c-lt128 c = search puts

pub returns-then-c-lt2048 : goal.returns-then-c-lt2048
returns-then-c-lt2048 c = search puts

pub returns-then-c-lt65536 : goal.returns-then-c-lt65536
returns-then-c-lt65536 c = search puts

pub returns : goal.returns
returns c = search puts
