-- `writers::put_direction` meets its contract.
use Rattle.writers.proofs.Texts.{tags}
use Rattle.writers.proofs.put_direction.Goals as goal

pub returns-in-0 : goal.returns-in-0
returns-in-0 c = search tags

pub returns-in-1 : goal.returns-in-1
returns-in-1 c = search tags

pub returns-in_default : goal.returns-in_default
returns-in_default c = search tags
