-- What `interfaces::InInterfaceElement::child` leaves to show.
use mathlib.Core.Path.{refl}
use borrow.Author.Rules.{rules}
use Rattle.document.proofs.Loops.{child_begins}
use Rattle.members.proofs.Members.{none_more, child_else}
use Rattle.interfaces.proofs.Interfaces.{child_definition, interface_holds, among_none}
use Rattle.interfaces.proofs.InInterfaceElement.child.Goals as goal

pub returns-in-3-clause-is : goal.returns-in-3-clause-is
returns-in-3-clause-is c = child_begins c.requires.owner c.in-3.is refl refl c.callable.ensures.is

pub returns-in-4-clause-is : goal.returns-in-4-clause-is
returns-in-4-clause-is c = child_begins c.requires.owner c.in-4.is refl refl c.property.ensures.is

pub returns-in-5-clause-is : goal.returns-in-5-clause-is
returns-in-5-clause-is c = child_begins c.requires.owner c.in-5.is refl refl c.callable-in-5.ensures.is

pub returns-in-6-clause-is : goal.returns-in-6-clause-is
returns-in-6-clause-is c = child_begins c.requires.owner c.in-6.is refl refl c.annotation.ensures.is

pub returns-then-is_definition-clause-is : goal.returns-then-is_definition-clause-is
returns-then-is_definition-clause-is c = child_definition c.requires.owner interface_holds c.is_definition.ensures c.if-is_definition.true c.definition.ensures.is

pub returns-else-is_definition-clause-is : goal.returns-else-is_definition-clause-is
returns-else-is_definition-clause-is c =
    child_else (none_more (search rules) (none_more (search rules) (none_more (search rules) (none_more (search rules) (among_none c.is_definition.ensures c.if-is_definition.false))))) c.docstring_or_skip.ensures
