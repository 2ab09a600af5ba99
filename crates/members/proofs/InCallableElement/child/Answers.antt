-- What `members::InCallableElement::child` leaves to show.
use mathlib.Core.Path.{refl}
use borrow.Author.Rules.{rules}
use Rattle.document.proofs.Loops.{child_begins}
use Rattle.members.proofs.Members.{none_empty, none_more, child_else}
use Rattle.members.proofs.InCallableElement.child.Goals as goal

pub returns-in-7-clause-is : goal.returns-in-7-clause-is
returns-in-7-clause-is c = child_begins c.requires.owner c.in-7.is refl refl c.arg.ensures.is

pub returns-in-6-clause-is : goal.returns-in-6-clause-is
returns-in-6-clause-is c = child_begins c.requires.owner c.in-6.is refl refl c.annotation.ensures.is

pub returns-in_default-clause-is : goal.returns-in_default-clause-is
returns-in_default-clause-is c = child_else (none_more (search rules) (none_more (search rules) none_empty)) c.docstring_or_skip.ensures
