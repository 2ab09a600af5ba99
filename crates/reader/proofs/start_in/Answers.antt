-- What `reader::start_in` leaves to show.
use mathlib.Core.Path.{refl}
use Rattle.reader.proofs.Turning.{begun_open, begun_child}
use Rattle.reader.proofs.start_in.Goals as goal

pub returns-then-c-eq-NODE-clause-is : goal.returns-then-c-eq-NODE-clause-is
returns-then-c-eq-NODE-clause-is c = begun_open c.requires.started c.if-c-eq-NODE.true refl c.open_node.ensures

pub returns-clause-is : goal.returns-clause-is
returns-clause-is c = begun_child c.requires.started refl c.read_child.ensures.is
