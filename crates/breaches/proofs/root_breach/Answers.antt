-- `breaches::root_breach` meets its contract. The first token is the root's start tag.
use Rattle.breaches.proofs.Whole.{roots}
use Rattle.breaches.proofs.root_breach.Goals as goal

pub returns-then-equal : goal.returns-then-equal
returns-then-equal c = search roots

pub returns-else-equal : goal.returns-else-equal
returns-else-equal c = search roots

pub returns-in_default : goal.returns-in_default
returns-in_default c = search roots

pub returns-in_default-2 : goal.returns-in_default-2
returns-in_default-2 c = search roots
