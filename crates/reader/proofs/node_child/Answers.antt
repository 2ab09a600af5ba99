-- What `reader::node_child` leaves to show.
use mathlib.Core.Path.{refl}
use borrow.Author.Rules.{rules}
use Rattle.document.proofs.Loops.{child_begins}
use Rattle.members.proofs.Members.{none_more, child_else}
use Rattle.interfaces.proofs.Interfaces.{child_definition, among_none}
use Rattle.reader.proofs.NodeChildren.{node_holds}
use Rattle.reader.proofs.node_child.Goals as goal

pub returns-in-2-clause-is : goal.returns-in-2-clause-is
returns-in-2-clause-is c = child_begins c.requires.owner c.in-2.is refl refl c.interface.ensures.is

pub returns-then-is_definition-clause-is : goal.returns-then-is_definition-clause-is
returns-then-is_definition-clause-is c = child_definition c.requires.owner node_holds c.is_definition.ensures c.if-is_definition.true c.definition.ensures.is

pub returns-else-is_definition-clause-is : goal.returns-else-is_definition-clause-is
returns-else-is_definition-clause-is c = child_else (none_more c.requires.no_node (none_more (search rules) (among_none c.is_definition.ensures c.if-is_definition.false))) c.docstring_or_skip.ensures
