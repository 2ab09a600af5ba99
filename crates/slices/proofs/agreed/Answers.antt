-- `slices::agreed` meets its contract: where words are equal, so are their bytes.
use Rattle.std.proofs.Common.{rules}
use Rattle.slices.proofs.Words.{agrees_blocks, twin}
use Rattle.slices.proofs.agreed.Goals as goal

pub returns : goal.returns
returns c = agrees_blocks c.blocks-2.ensures.passed (λ at h p. search (twin, rules))
