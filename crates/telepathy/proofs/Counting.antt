-- One part more: whether one was incomplete, and whether the first one's type is basic.
use Prim.Native.Nat.{ℕ, ◌+◌, ◌<◌}
use mathlib.Core.Path.{◌≡◌, refl, sym, ◌∙◌, ap}
use mathlib.Core.List.{List}
use mathlib.Core.Option.{Option}
use mathlib.Core.Bool.{Bool, true, false, not}
use borrow.Author.Rules.{rules}
use borrow.Author.Tests.{ne_eqb}
use native.Mathlib.Numerals.{add-one}
use native.Mathlib.Omega.{arith}
use Rattle.slices.specs.Bytes.{bytes}
use Rattle.names.specs.Signature.{basic_signature}
use Rattle.document.specs.Tags.{Shown}
use Rattle.document.specs.Elements.{attr}
use Rattle.document.specs.Reading.{is_some}
use Rattle.document.specs.Outcome.{ValueIs, Ready, is_absent}
use Rattle.document.specs.declared.Value.{Value}
use Rattle.document.specs.declared.StartTag.{StartTag}
use Rattle.document.specs.declared.Fill.{Fill}
use Rattle.document.proofs.Presence.{value_absent, value_there}
use Rattle.shown.specs.Outcome.{Tests}
use Rattle.elements.proofs.Rows.{lies_ty}
use Rattle.telepathy.specs.Outcome.{PartKind, Completes, Breaks, Keyed, More}
use Rattle.telepathy.specs.declared.Parts.{Parts}

-- a value that is there or not, and what a test says of it
module _ (doc : List ℕ) (v : Value) (o : Option Shown) (h : ValueIs doc v o) where
  some_not : (p : List ℕ → Bool) → is_absent v ≡ true → is_some p o ≡ false
  some_not p e = rw (value_absent doc v o h e)

  some_is : {p : List ℕ → Bool} {r : Bool} → is_absent v ≡ false → Tests p doc v r → r ≡ is_some p o
  some_is {p} e t = let s = value_there doc v o h e in t.is s.0 s.2 ∙ sym (ap (is_some p) s.1)

module _ {doc : List ℕ} {c : StartTag} {p : Parts} where
  pub breaks_before : p.broken ≡ true → Breaks doc c p true
  breaks_before e = record { is = λ t z. rw e }

  pub breaks_now : {r : Bool} → p.broken ≡ false → Completes doc c r → Breaks doc c p (not r)
  breaks_now e h = record { is = λ t z. rw e (ap not (h.is t z)) }

  pub keyed_before : (p.count ≡ 0 → ⊥) → Keyed doc c p p.basic
  keyed_before n = record { is = λ t z. rw (ne_eqb p.count 0 n) }

  pub keyed_untyped : p.count ≡ 0 → is_absent c.values.ty ≡ true → Keyed doc c p false
  keyed_untyped e k = record { is = λ t z. rw e (sym (some_not doc c.values.ty (attr (bytes "type") t) z.values.ty basic_signature k)) }

  pub keyed_typed : {r : Bool} → p.count ≡ 0 → is_absent c.values.ty ≡ false → Tests basic_signature doc c.values.ty r → Keyed doc c p r
  keyed_typed e n i = record { is = λ t z. rw e (some_is doc c.values.ty (attr (bytes "type") t) z.values.ty n i) }

  pub more : {x y : Bool} → PartKind c.kind → Breaks doc c p x → Keyed doc c p y → More doc c p (record { count = p.count + 1; broken = x; basic = y })
  more h b k = record { kind = h; counts = refl; is = λ t z. rw (add-one, b.is t z, k.is t z) }

-- the count of the parts up to a place is small
pub count_small : {doc : List ℕ} {c : StartTag} {f : Fill} {n : ℕ} → Ready doc c f → n < f.at → n < 1048576
count_small r h = omega (arith, h, r.at, r.sound.small, r.fits.within)

pub ruleset counts = (lies_ty, breaks_before, breaks_now, keyed_before, keyed_untyped, keyed_typed, more, count_small, rules)
