-- The laws of the members of an interface.
use Prim.Native.Nat.{ℕ, ◌+◌, ◌≤◌, ◌<◌}
use mathlib.Core.Path.{◌≡◌, refl}
use mathlib.Core.List.{List, [], ◌∷◌}
use mathlib.Core.Bool.{Bool, true, false}
use borrow.Author.Rules.{rules}
use native.Mathlib.Omega.{arith}
use Rattle.std.specs.Prelude.{Result, Ok}
use Rattle.document.specs.Kinds as kinds
use Rattle.document.specs.Elements.{among}
use Rattle.document.specs.Outcome.{lent, Lent, Ready, Others, Opening, Begins, Child, Contents}
use Rattle.document.specs.declared.StartTag.{StartTag}
use Rattle.document.specs.declared.Fill.{Fill}
use Rattle.document.specs.declared.Refusal.{Refusal}
use Rattle.document.proofs.Readers.{keeping}
use Rattle.document.proofs.Loops.{child_bare, child_begins, child_other, among_not, name_inside, parts_and_docstring}
use Rattle.document.proofs.Openings.{openings, opening_contents}
use Rattle.elements.proofs.Rows.{method_kind, signal_kind}
use Rattle.members.specs.Kinds.{CallableKind}

pub ruleset bare_children = (child_bare, keeping, rules)

pub ruleset elements = (name_inside, openings, keeping)

-- a method or a signal
pub callable_contents : {doc : List ℕ} {k : ℕ} {c : StartTag} {p : ℕ} {f g : Fill} {rows rows' w bytes bytes' : List ℕ} {a : Result Fill Refusal} {b : Lent} {r : Result Fill Refusal} → CallableKind k → Opening doc k c p f rows rows' bytes bytes' a → a ≡ Ok g → Contents doc kinds.in_callable true c f.rows g (lent rows' w bytes') b r → Begins doc k c p f (lent rows w bytes) b r
callable_contents m o e l = opening_contents o e m.plain m.node (rw (m.held, m.docs) l)

pub method_callable : CallableKind kinds.method
method_callable = record { named = method_kind; held = refl; docs = refl; plain = refl; node = refl }

pub signal_callable : CallableKind kinds.signal
signal_callable = record { named = signal_kind; held = refl; docs = refl; plain = refl; node = refl }

pub ruleset callables = (callable_contents, elements)

-- a row plus one or two is small
pub child_parent : {doc : List ℕ} {c : StartTag} {i : ℕ} {f : Fill} (n : ℕ) → Ready doc c f → i < f.rows → n ≤ 2 → i + n ≤ 1048576
child_parent n r l h = omega (arith, l, h, r.few, r.fits.inside, r.fits.within, r.sound.small)

-- a kind is none of these
pub record NoneOf (k : ℕ) (ks : List ℕ) : Type 0 where
  pub is : among k ks ≡ false

pub none_empty : {k : ℕ} → NoneOf k []
none_empty = record { is = refl }

pub none_more : {k x : ℕ} {ks : List ℕ} → (k ≡ x → ⊥) → NoneOf k ks → NoneOf k (x ∷ ks)
none_more {k} {x} {ks} n h = record { is = among_not k x ks n h.is }

pub child_else : {doc hs rows rows' w w' bytes : List ℕ} {c : StartTag} {i : ℕ} {f : Fill} {r : Result Fill Refusal} → NoneOf c.kind hs → Others doc c i f rows rows' w w' r → Child doc hs true c i f (lent rows w bytes) (lent rows' w' bytes) r
child_else n h = child_other n.is h

-- the same where the answer is taken apart
pub child_taken : {doc hs : List ℕ} {docs : Bool} {c : StartTag} {i : ℕ} {f : Fill} {b b' : Lent} {m : ℕ} {v r : Result Fill Refusal} → i < f.rows → c.kind ≡ m → among m hs ≡ true → among m parts_and_docstring ≡ false → Begins doc m c (i + 1) f b b' v → v ≡ r → Child doc hs docs c i f b b' r
child_taken {hs = hs} {docs = docs} l k a x h e = rw e at (child_begins {hs = hs} {docs = docs} l k a x h)

pub ruleset children = (child_taken, child_begins, none_empty, none_more, child_else, child_parent, keeping, rules)
