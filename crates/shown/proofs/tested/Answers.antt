-- `shown::tested` meets its contract: the test is called at the text that is shown, or at more than 255 bytes.
use Rattle.shown.proofs.Tests.{tests_plain, tests_changed}
use Rattle.shown.proofs.tested.Goals as goal

pub returns-in-Plain : goal.returns-in-Plain
returns-in-Plain g c = λ p d says short. tests_plain c.in-Plain.is c.raw.ensures (says _ _ c.test.ensures)

pub returns : goal.returns
returns g c = λ p d says short. tests_changed short c.changed-n.ensures (says _ _ c.test-in_default.ensures)
