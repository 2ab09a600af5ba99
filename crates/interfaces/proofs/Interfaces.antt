-- The laws of the children of an interface.
use Prim.Native.Nat.{ℕ, ◌+◌, ◌<◌}
use mathlib.Core.Path.{◌≡◌, refl, sym, ◌∙◌}
use mathlib.Core.List.{List, [], ◌∷◌}
use mathlib.Core.Bool.{Bool, true, false}
use borrow.Author.Rules.{rules}
use borrow.Author.Tests.{eq-eqb, ne_eqb}
use lib.Dec.{eqb}
use Rattle.std.specs.Prelude.{Result}
use Rattle.slices.proofs.Runs.{if_true, if_same}
use Rattle.document.specs.Kinds.{definitions, in_interface}
use Rattle.document.specs.Elements.{among}
use Rattle.document.specs.Outcome.{Lent, Begins, Child}
use Rattle.document.specs.declared.StartTag.{StartTag}
use Rattle.document.specs.declared.Fill.{Fill}
use Rattle.document.specs.declared.Refusal.{Refusal}
use Rattle.document.proofs.Readers.{keeping}
use Rattle.document.proofs.Tests.{among_each}
use Rattle.document.proofs.Loops.{child_begins, parts_and_docstring}
use Rattle.telepathy.specs.Outcome.{DefinitionKind}
use Rattle.members.proofs.Members.{NoneOf, none_more, child_else, child_parent, child_taken, method_callable, signal_callable}
use Rattle.interfaces.specs.Among.{Among}

-- one of these kinds, looked for from the first on
pub among_first : {k x : ℕ} {ks : List ℕ} → k ≡ x → Among k (x ∷ ks) true
among_first {k} {x} e = record { is = rw (eq-eqb k x e) }

pub among_later : {k x : ℕ} {ks : List ℕ} {r : Bool} → (k ≡ x → ⊥) → Among k ks r → Among k (x ∷ ks) r
among_later {k} {x} n h = record { is = rw (ne_eqb k x n) h.is }

pub among_last : {k x : ℕ} → Among k (x ∷ []) (eqb k x)
among_last {k} {x} = record { is = sym (if_same (eqb k x)) }

pub ruleset kinds = (among_first, among_later, among_last, rules)

pub among_none : {k : ℕ} {ks : List ℕ} {t : Bool} → Among k ks t → t ≡ false → NoneOf k ks
among_none h e = record { is = sym h.is ∙ e }

-- a kind that was found among the definitions
pub definition_kind : {k : ℕ} {t : Bool} → Among k definitions t → t ≡ true → DefinitionKind k
definition_kind h e = record { is = sym h.is ∙ e }

-- an element that holds these kinds holds definitions
pub record HoldsDefinitions (ks : List ℕ) : Type 0 where
  pub is : (k : ℕ) → among k definitions ≡ true → among k ks ≡ true

pub holds_definitions : HoldsDefinitions definitions
holds_definitions = record { is = λ k e. e }

pub holds_more : {x : ℕ} {ks : List ℕ} → HoldsDefinitions ks → HoldsDefinitions (x ∷ ks)
holds_more {x} h = record { is = λ k e. rw (h.is k e) (if_true (eqb k x)) }

pub interface_holds : HoldsDefinitions in_interface
interface_holds = holds_more (holds_more (holds_more (holds_more holds_definitions)))

no_part : (k : ℕ) → among k definitions ≡ true → among k parts_and_docstring ≡ false
no_part k e = among_each (λ j. among j parts_and_docstring ≡ false) k definitions e (refl, (refl, (refl, (refl, tt))))

pub child_definition : {doc hs : List ℕ} {docs : Bool} {c : StartTag} {i : ℕ} {f : Fill} {b b' : Lent} {t : Bool} {r : Result Fill Refusal} → i < f.rows → HoldsDefinitions hs → Among c.kind definitions t → t ≡ true → Begins doc c.kind c (i + 1) f b b' r → Child doc hs docs c i f b b' r
child_definition {c = c} l d a e h = let y = sym a.is ∙ e in child_begins l refl (d.is c.kind y) (no_part c.kind y) h

pub ruleset interfaces = (child_definition, interface_holds, definition_kind, among_none, method_callable, signal_callable, child_taken, child_begins, none_more, child_else, child_parent, keeping, rules)
