-- A child of a node that is no node itself.
use borrow.Author.Rules.{rules}
use Rattle.document.specs.Kinds.{in_node}
use Rattle.document.proofs.Readers.{keeping}
use Rattle.document.proofs.Loops.{child_begins}
use Rattle.members.proofs.Members.{none_more, child_else, child_parent}
use Rattle.interfaces.proofs.Interfaces.{HoldsDefinitions, holds_definitions, holds_more, child_definition, definition_kind, among_none}

pub node_holds : HoldsDefinitions in_node
node_holds = holds_more (holds_more holds_definitions)

pub ruleset node_children = (node_holds, child_definition, definition_kind, among_none, none_more, child_begins, child_else, child_parent, keeping, rules)
