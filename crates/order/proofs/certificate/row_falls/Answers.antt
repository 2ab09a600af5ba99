-- `order::certificate::row_falls` meets its contract.
use Rattle.std.proofs.Common.{ap, not}
use Rattle.order.proofs.Checking.{row_told, row_falling}
use Rattle.order.proofs.Waiting.{held_within}
use Rattle.order.proofs.Waiting.{row_held}
use Rattle.order.proofs.certificate.row_falls.Goals as goal

pub edge_falls-requires : goal.edge_falls-requires
edge_falls-requires c = record { few = held_within c.args.by_name.now.table.now.held; row = search row_falling; target = search row_falling }

pub edge_falls-requires-2 : goal.edge_falls-requires-2
edge_falls-requires-2 c = record { few = held_within c.args.by_name.now.table.now.held; row = search row_falling; target = search row_falling }

pub bears_none-requires : goal.bears_none-requires
bears_none-requires c = record { held = row_held c.args.by_name.now.table.now.held c.requires; whole = search row_falling; less = search row_falling }

pub returns : goal.returns
returns c = row_told
    c.parent.ensures
    c.in_ok-i.was
    c.requires
    c.find_target-whole.ensures
    c.find_target-less.ensures
    c.edge_falls.ensures
    (ap not c.if-not-edge_falls.false)
    c.edge_falls-2.ensures
    (ap not c.if-not-edge_falls-2.false)
    c.word.ensures
    c.if-word-ne-MEMBER.false
    c.bears_none.ensures
