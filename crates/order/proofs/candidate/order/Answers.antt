-- `order::candidate::order` meets its contract.
use Rattle.order.proofs.Keeping.{candidates}
use Rattle.order.proofs.candidate.order.Goals as goal

pub link_all-requires : goal.link_all-requires
link_all-requires c = search candidates
