-- `utf16::decode_ordered` meets its contract.
use Rattle.utf16.proofs.Answers.{orders}
use Rattle.utf16.proofs.decode_ordered.Goals as goal

pub returns-then-raw-gt1048576 : goal.returns-then-raw-gt1048576
returns-then-raw-gt1048576 c = search orders

pub returns-then-raw-eq1 : goal.returns-then-raw-eq1
returns-then-raw-eq1 c = search orders

pub returns-then-n-gt1048576 : goal.returns-then-n-gt1048576
returns-then-n-gt1048576 c = search orders

pub returns-in-Err : goal.returns-in-Err
returns-in-Err c = search orders

pub returns-else-n-gt1048576 : goal.returns-else-n-gt1048576
returns-else-n-gt1048576 c = search orders
