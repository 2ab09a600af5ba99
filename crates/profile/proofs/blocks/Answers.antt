-- `profile::blocks` meets its contract: a block that passes has no place of such a character.
use Rattle.std.proofs.Common.{rules}
use Rattle.profile.proofs.NoChars.{free_blocks, clear_not}
use Rattle.profile.proofs.blocks.Goals as goal

pub returns : goal.returns
returns c = free_blocks c.blocks-2.ensures.passed (λ at h p. search (clear_not, rules))
