-- `utf8::blocks` meets its contract: a block that passes has no byte above 127.
use Rattle.std.proofs.Common.{rules}
use Rattle.utf8.proofs.Ascii.{ascii_blocks, most_low}
use Rattle.utf8.proofs.blocks.Goals as goal

pub returns : goal.returns
returns c = ascii_blocks c.blocks-2.ensures.passed (λ at h p. search (most_low, rules))
