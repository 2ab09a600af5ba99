-- What types within the limits are written as is a signature.
use Prim.Native.Nat.{ℕ, suc, ◌+◌, ◌≤◌}
use mathlib.Core.Path.{◌≡◌, refl, ap, sym, subst, ◌∙◌}
use mathlib.Core.Bool.{Bool, true, false}
use mathlib.Core.List.{List, [], ◌∷◌, ◌++◌, append_assoc}
use borrow.Author.Tests.{ne_eqb, le-leb, lt-ltb}
use native.Mathlib.Omega.{arith}
use lib.Dec.{T, eqb}
use lib.ListN.{length}
use Rattle.slices.specs.Bytes.{if}
use Rattle.names.specs.Types.{Basic, Complete, Element, Fields, code, written, written_element, written_fields, arrays, arrays_element, arrays_fields, parentheses, parentheses_element, parentheses_fields, AllShallow, written_all, IsSignature}
use Rattle.names.specs.Signature.{Open, State, is_array, count, basic_code, begins, byte, accepts, ended, signature}
use Rattle.names.specs.Checks.{is_parenthesis, awaited}
use Rattle.names.proofs.Codes.{code_basic}
use Rattle.names.proofs.Checks.{ended_field}

-- a byte with which no complete type begins is no code
no_code : (k : Basic) (b : ℕ) → basic_code b ≡ false → eqb (code k) b ≡ false
no_code k b e =
    ne_eqb (code k) b (λ q. let z : basic_code (code k) ≡ false = rw q e in absurd (subst T z (subst T (sym (code_basic k)) tt)))

-- what is open takes every byte but a closing parenthesis and an opening brace as the begin of a complete type
abbrev Takes : List Open → Type 0
Takes os = (b : ℕ) → eqb b 123 ≡ false → eqb b 41 ≡ false → byte os b ≡ begins os b

takes_field : (o : Open) (os : List Open) → is_array o ≡ false → Takes (o ∷ os)
takes_field Open.element os i = absurd (subst T i tt)
takes_field Open.key os i = absurd (subst T i tt)
takes_field Open.value os i = absurd (subst T i tt)
takes_field Open.brace os i = absurd (subst T i tt)
takes_field Open.first os i = λ b e f. refl
takes_field Open.fields os i = λ b e f. rw f

begins_type : (t : Complete) (os : List Open) (r : List ℕ) → Takes os → accepts (written t ++ r) (State.good os) ≡ awaited os (written t ++ r)
begins_type (Complete.basic k) os r f = ap (accepts r) (f (code k) (no_code k 123 refl) (no_code k 41 refl))
begins_type Complete.variant os r f = ap (accepts r) (f 118 refl refl)
begins_type (Complete.array e) os r f = ap (accepts (written_element e ++ r)) (f 97 refl refl)
begins_type (Complete.struct g) os r f = ap (accepts ((written_fields g ++ (41 ∷ [])) ++ r)) (f 40 refl refl)

keyed : (k : Basic) (os : List Open) (l : List ℕ) → accepts (code k ∷ l) (State.good (Open.key ∷ os)) ≡ accepts l (State.good (Open.value ∷ os))
keyed k os l = ap (λ (t : Bool). accepts l (if t (State.good (Open.value ∷ os)) State.bad)) (code_basic k)

mutual
  spelled_type : (t : Complete) (os : List Open) (r : List ℕ) → count is_array os + arrays t ≤ 32 → count is_parenthesis os + parentheses t ≤ 32 → awaited os (written t ++ r) ≡ accepts r (State.good (ended os))
  spelled_type (Complete.basic k) os r h l = rw (code_basic k)
  spelled_type Complete.variant os r h l = refl
  spelled_type (Complete.array e) os r h l = rw (lt-ltb (count is_array os) 32 (omega arith)) (spelled_element e os r (omega arith) l)
  spelled_type (Complete.struct g) os r h l =
      rw (lt-ltb (count is_parenthesis os) 32 (omega arith), append_assoc (written_fields g) (41 ∷ []) r)
      (spelled_fields g Open.first os (41 ∷ r) refl h (omega arith))

  spelled_element : (e : Element) (os : List Open) (r : List ℕ) → suc (count is_array os) + arrays_element e ≤ 32 → count is_parenthesis os + parentheses_element e ≤ 32 → accepts (written_element e ++ r) (State.good (Open.element ∷ os)) ≡ accepts r (State.good (ended os))
  spelled_element (Element.single t) os r h l =
      begins_type t (Open.element ∷ os) r (λ b e f. rw e) ∙ spelled_type t (Open.element ∷ os) r h l
  spelled_element (Element.entry k t) os r h l =
      keyed k os ((written t ++ (125 ∷ [])) ++ r)
      ∙ ap (λ (x : List ℕ). accepts x (State.good (Open.value ∷ os))) (append_assoc (written t) (125 ∷ []) r)
      ∙ begins_type t (Open.value ∷ os) (125 ∷ r) (λ b e f. refl)
      ∙ spelled_type t (Open.value ∷ os) (125 ∷ r) h l

  spelled_fields : (g : Fields) (o : Open) (os : List Open) (r : List ℕ) → is_array o ≡ false → count is_array os + arrays_fields g ≤ 32 → suc (count is_parenthesis os) + parentheses_fields g ≤ 32 → accepts (written_fields g ++ r) (State.good (o ∷ os)) ≡ accepts r (State.good (Open.fields ∷ os))
  spelled_fields (Fields.last t) o os r i h l =
      begins_type t (o ∷ os) r (takes_field o os i)
      ∙ spelled_type t (o ∷ os) r (rw i h) (rw i l)
      ∙ ap (λ (x : List Open). accepts r (State.good x)) (ended_field o os i)
  spelled_fields (Fields.more t g) o os r i h l =
      rw (append_assoc (written t) (written_fields g) r)
      (begins_type t (o ∷ os) (written_fields g ++ r) (takes_field o os i)
      ∙ spelled_type t (o ∷ os) (written_fields g ++ r) (rw i (omega arith)) (rw i (omega arith))
      ∙ ap (λ (x : List Open). accepts (written_fields g ++ r) (State.good x)) (ended_field o os i)
      ∙ spelled_fields g Open.fields os r refl (omega arith) (omega arith))

spelled_all : {ts : List Complete} → AllShallow ts → accepts (written_all ts) (State.good []) ≡ true
spelled_all AllShallow.none = refl
spelled_all (AllShallow.some {t} {ts} s m) =
    begins_type t [] (written_all ts) (λ b e f. refl)
    ∙ spelled_type t [] (written_all ts) (omega (arith, s.few_arrays)) (omega (arith, s.few_parentheses))
    ∙ spelled_all m

pub spelled_signature : {s : List ℕ} → IsSignature s → signature s ≡ true
unfolding signature
spelled_signature {s} g =
    let e : accepts s (State.good []) ≡ true = rw g.spelled at (spelled_all g.shallow) in
    rw (e, le-leb (length s) 255 g.short)
