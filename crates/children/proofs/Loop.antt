-- The rules of the loop over children: what it has read so far, and what a reader keeps.
use borrow.Author.Rules.{rules}
use Rattle.document.proofs.Loops.{loops}
use Rattle.document.proofs.Openings.{contents}
use Rattle.document.proofs.Readers.{keeps_same}

pub ruleset looping = (keeps_same, loops)

pub ruleset all = (keeps_same, contents, rules)
