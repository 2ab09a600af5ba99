-- Which elements are read the same way.
use Rattle.std.specs.Prelude.{ℕ, ◌≡◌, true, false, not, eqb}
use Rattle.names.specs.Names.{member_name}
use Rattle.document.specs.Kinds as kinds
use Rattle.document.specs.Elements.{among, held_by}
use Rattle.elements.specs.Outcome.{NamedKind}

-- method and signal: a name that is good; they hold annotations, args and docstrings
pub record CallableKind (k : ℕ) : Type 0 where
  pub named : NamedKind member_name k
  pub held : held_by k ≡ kinds.in_callable
  pub docs : not (eqb k kinds.annotation) ≡ true
  pub plain : among k kinds.definitions ≡ false
  pub node : eqb k kinds.node ≡ false
