-- Trees that are read back: their elements have what their kinds need, stand where they may, have the members that they need, are arranged
-- in groups, and are not too deep.
use Prim.Native.Nat.{ℕ, suc}
use mathlib.Core.Path.{◌≡◌}
use mathlib.Core.List.{List}
use mathlib.Core.Option.{Option, none, some}
use mathlib.Core.Bool.{Bool, true, false}
use lib.Dec.{eqb, leb}
use Rattle.slices.specs.Bytes.{if}
use Rattle.utf8.specs.WellFormed.{well_formed}
use Rattle.names.specs.Signature.{basic_signature}
use Rattle.document.specs.Kinds as kinds
use Rattle.document.specs.Elements.{among, may_hold}
use Rattle.items.specs.Sound.{Use, name_use, value_use, tp_use, valid_name, valid_value, valid_word, any_text}
use Rattle.items.specs.Content.{present}
use Rattle.roundtrip.proofs.Held.{keeps}
use Rattle.docstrings.specs.Passable.{Passable}
use Rattle.trees.specs.Trees.{Tree, tree, Forest, bare, more}
use Rattle.trees.specs.Shape.{grouped}
use Rattle.trees.specs.Written.{Element}
use Rattle.trees.specs.Writing.{is_open_node}

-- a text is there where it must be, and only where it may; it is UTF-8 and valid
abbrev pub Fitting : Use → (List ℕ → Bool) → Option (List ℕ) → Type 0
Fitting u valid none = u.must ≡ false
Fitting u valid (some s) = (u.may ≡ true) × (well_formed s ≡ true) × (valid s ≡ true)

abbrev pub Documented : ℕ → Option (List ℕ) → Type 0
Documented k none = Unit {0}
Documented k (some s) = (eqb k kinds.annotation ≡ false) × (well_formed s ≡ true) × Passable keeps s

-- what an element needs
pub record Fit (e : Element) : Type 0 where
  pub name : Fitting (name_use e.kind) (valid_name e.kind) e.name
  pub value : Fitting (value_use e.kind) (valid_value e.kind) e.value
  pub tp : Fitting (tp_use e.kind) any_text e.tp
  pub doc : Documented e.kind e.doc
  pub word : valid_word e.kind e.word ≡ true

abbrev pub kind_in : Tree Element → ℕ
kind_in (tree e f) = e.kind

-- the trees of some kinds
abbrev pub of_kinds : List ℕ → Forest Element → Forest Element
of_kinds ks bare = bare
of_kinds ks (more t f) = let r = of_kinds ks f in if (among (kind_in t) ks) (more t r) r

-- a struct has a member; a mapping has two, and the first one's signature is basic
abbrev pub value_in : Tree Element → List ℕ
value_in (tree e f) = present e.value

abbrev pub any_tree : Forest Element → Bool
any_tree bare = false
any_tree (more t f) = true

abbrev pub keyed_in : Forest Element → Bool
keyed_in bare = false
keyed_in (more k bare) = false
keyed_in (more k (more v bare)) = basic_signature (value_in k)
keyed_in (more k (more v (more t f))) = false

abbrev pub complete : ℕ → Forest Element → Bool
complete k f = if (eqb k kinds.struct) (any_tree f) (if (eqb k kinds.mapping) (keyed_in f) true)

-- how many nodes are open inside, where d are open around
abbrev pub open_in : ℕ → Element → Forest Element → ℕ
open_in d e f = if (is_open_node e f) (suc d) d

-- d nodes are open around the tree; and the trees stand in an element of kind k
abbrev mutual
  pub Good : ℕ → Tree Element → Type 0
  Good d (tree e f) =
      Fit e × (complete e.kind f ≡ true) × (grouped (λ ks. of_kinds ks f) ≡ f) × (is_open_node e f ≡ true → leb 1024 d ≡ false) × Goods (open_in d e f) e.kind f

  pub Goods : ℕ → ℕ → Forest Element → Type 0
  Goods d k bare = Unit {0}
  Goods d k (more t f) = (may_hold k (kind_in t) ≡ true) × Good d t × Goods d k f
