-- The test that computes says the grammar of types: it accepts a text where it is what some types within the limits are written as,
-- which proofs/Spelled.antt shows, and no other, which is shown here.
use Prim.Native.Nat.{ℕ, zero, suc, ◌+◌, ◌*◌, ◌≤◌, ◌<◌}
use mathlib.Core.Path.{◌≡◌, refl, ap, sym, ◌∙◌}
use mathlib.Core.Bool.{Bool, true, false, false≢true}
use mathlib.Core.List.{List, [], ◌∷◌, ◌++◌, append_assoc}
use borrow.Author.Tests.{leb-true, ltb-true, eqb-true}
use native.Mathlib.Omega.{arith}
use lib.Dec.{eqb, leb, ltb}
use lib.ListN.{length}
use Rattle.slices.specs.Bytes.{if}
use Rattle.slices.proofs.Runs.{and_both, by_byte}
use Rattle.names.specs.Types.{Complete, Element, Fields, written, written_element, written_fields, arrays, arrays_element, arrays_fields, parentheses, parentheses_element, parentheses_fields, AllShallow, written_all, IsSignature}
use Rattle.names.specs.Signature.{Open, State, is_array, count, basic_code, begins, accepts, ended, signature}
use Rattle.names.specs.Grammar.{SignatureGrammar}
use Rattle.names.specs.Checks.{is_parenthesis, awaited}
use Rattle.names.proofs.Codes.{basic_coded}
use Rattle.names.proofs.Checks.{accepts_bad, ended_field, expects}
use Rattle.names.proofs.Spelled.{spelled_signature}

-- a test that leads to a good state holds
guarded : (t : Bool) (l : List ℕ) (os : List Open) → accepts l (if t (State.good os) State.bad) ≡ true → (t ≡ true) × (accepts l (State.good os) ≡ true)
guarded true l os e = (refl, e)
guarded false l os e = absurd (false≢true (sym (accepts_bad l) ∙ e))

-- a complete type at the begin of a text, what follows it, and room for it within the limits
record Begun (os : List Open) (l : List ℕ) : Type 0 where
  type : Complete
  rest : List ℕ
  spelled : written type ++ rest ≡ l
  goes_on : accepts rest (State.good (ended os)) ≡ true
  few_arrays : count is_array os + arrays type ≤ 32
  few_parentheses : count is_parenthesis os + parentheses type ≤ 32
  shorter : length rest < length l

-- the same for the element of an array that is open on these
record BegunElement (os : List Open) (l : List ℕ) : Type 0 where
  element : Element
  rest : List ℕ
  spelled : written_element element ++ rest ≡ l
  goes_on : accepts rest (State.good (ended os)) ≡ true
  few_arrays : suc (count is_array os) + arrays_element element ≤ 32
  few_parentheses : count is_parenthesis os + parentheses_element element ≤ 32
  shorter : length rest < length l

-- the same for the fields of a struct that is open on these, and its closing parenthesis
record BegunFields (os : List Open) (l : List ℕ) : Type 0 where
  fields : Fields
  rest : List ℕ
  spelled : written_fields fields ++ (41 ∷ rest) ≡ l
  goes_on : accepts rest (State.good (ended os)) ≡ true
  few_arrays : count is_array os + arrays_fields fields ≤ 32
  few_parentheses : suc (count is_parenthesis os) + parentheses_fields fields ≤ 32
  shorter : length rest < length l

-- what is open is within the limits
record Within (os : List Open) : Type 0 where
  few_arrays : count is_array os ≤ 32
  few_parentheses : count is_parenthesis os ≤ 32

module _ (os : List Open) (l : List ℕ) where
  is_basic : (b : ℕ) → Within os → basic_code b ≡ true → accepts l (begins os b) ≡ true → Begun os (b ∷ l)
  is_basic b w e h =
      let k = basic_coded b e in
      record {
        type = Complete.basic k.0;
        rest = l;
        spelled = ap (λ (x : ℕ). x ∷ l) (sym k.1);
        goes_on = rw e at h;
        few_arrays = omega (arith, w.few_arrays);
        few_parentheses = omega (arith, w.few_parentheses);
        shorter = omega arith;
      }

  is_variant : Within os → accepts l (begins os 118) ≡ true → Begun os (118 ∷ l)
  is_variant w h = record {
    type = Complete.variant;
    rest = l;
    spelled = refl;
    goes_on = h;
    few_arrays = omega (arith, w.few_arrays);
    few_parentheses = omega (arith, w.few_parentheses);
    shorter = omega arith;
  }

  array_begun : BegunElement os l → Begun os (97 ∷ l)
  array_begun g = record {
    type = Complete.array g.element;
    rest = g.rest;
    spelled = ap (◌∷◌ 97) g.spelled;
    goes_on = g.goes_on;
    few_arrays = omega (arith, g.few_arrays);
    few_parentheses = g.few_parentheses;
    shorter = omega (arith, g.shorter);
  }

  is_struct : BegunFields os l → Begun os (40 ∷ l)
  is_struct g = record {
    type = Complete.struct g.fields;
    rest = g.rest;
    spelled = ap (◌∷◌ 40) (append_assoc (written_fields g.fields) (41 ∷ []) g.rest ∙ g.spelled);
    goes_on = g.goes_on;
    few_arrays = g.few_arrays;
    few_parentheses = omega (arith, g.few_parentheses);
    shorter = omega (arith, g.shorter);
  }

  is_single : Begun (Open.element ∷ os) l → BegunElement os l
  is_single g = record {
    element = Element.single g.type;
    rest = g.rest;
    spelled = g.spelled;
    goes_on = g.goes_on;
    few_arrays = g.few_arrays;
    few_parentheses = g.few_parentheses;
    shorter = g.shorter;
  }

-- after the value of a dict entry comes a closing brace
closed : (os : List Open) (r : List ℕ) → accepts r (State.good (Open.brace ∷ os)) ≡ true → (z : List ℕ) × (125 ∷ z ≡ r) × (accepts z (State.good (ended os)) ≡ true)
closed os [] h = absurd (false≢true h)
closed os (b ∷ r) h = let g = guarded (eqb b 125) r (ended os) h in (r, ap (λ (x : ℕ). x ∷ r) (sym (eqb-true b 125 g.0)), g.1)

is_entry : (os : List Open) (b : ℕ) (l : List ℕ) → basic_code b ≡ true → Begun (Open.value ∷ os) l → BegunElement os (123 ∷ b ∷ l)
is_entry os b l e g =
    let k = basic_coded b e in
    let c = closed os g.rest g.goes_on in
    record {
      element = Element.entry k.0 g.type;
      rest = c.0;
      spelled =
          ap (λ (x : ℕ). 123 ∷ x ∷ (written g.type ++ (125 ∷ [])) ++ c.0) (sym k.1)
          ∙ ap (λ (x : List ℕ). 123 ∷ b ∷ x) (append_assoc (written g.type) (125 ∷ []) c.0 ∙ ap (λ (x : List ℕ). written g.type ++ x) c.1 ∙ g.spelled);
      goes_on = c.2;
      few_arrays = g.few_arrays;
      few_parentheses = g.few_parentheses;
      shorter = omega (arith, g.shorter, ap length c.1);
    }

-- a field, and the closing parenthesis or more fields
module _ (o : Open) (os : List Open) (l : List ℕ) (i : is_array o ≡ false) (g : Begun (o ∷ os) l) where
  is_last : (r : List ℕ) → 41 ∷ r ≡ g.rest → accepts r (State.good (ended os)) ≡ true → BegunFields os l
  is_last r e h = record {
    fields = Fields.last g.type;
    rest = r;
    spelled = ap (λ (x : List ℕ). written g.type ++ x) e ∙ g.spelled;
    goes_on = h;
    few_arrays = rw i at g.few_arrays;
    few_parentheses = rw i at g.few_parentheses;
    shorter = omega (arith, g.shorter, ap length e);
  }

  is_more : BegunFields os g.rest → BegunFields os l
  is_more f = record {
    fields = Fields.more g.type f.fields;
    rest = f.rest;
    spelled = append_assoc (written g.type) (written_fields f.fields) (41 ∷ f.rest) ∙ ap (λ (x : List ℕ). written g.type ++ x) f.spelled ∙ g.spelled;
    goes_on = f.goes_on;
    few_arrays = omega (arith, f.few_arrays, rw i at g.few_arrays);
    few_parentheses = omega (arith, f.few_parentheses, rw i at g.few_parentheses);
    shorter = omega (arith, f.shorter, g.shorter);
  }

-- by the first byte, where a complete type is awaited
module _ (os : List Open) (l : List ℕ) (w : Within os) where
  abbrev Typing : ℕ → Type 0
  Typing b = accepts l (begins os b) ≡ true → Begun os (b ∷ l)

  by_begin : (count is_array os < 32 → accepts l (State.good (Open.element ∷ os)) ≡ true → BegunElement os l) → (count is_parenthesis os < 32 → accepts l (State.good (Open.first ∷ os)) ≡ true → BegunFields os l) → (b : ℕ) → Typing b
  by_begin arr str b = go (basic_code b) refl
    where
      go : (t : Bool) → basic_code b ≡ t → Typing b
      go true e = is_basic os l b w e
      go false e =
          by_byte Typing b 118 (is_variant os l w) (λ v.
          by_byte Typing b 97 (λ h. let g = guarded (ltb (count is_array os) 32) l (Open.element ∷ os) h in array_begun os l (arr (ltb-true _ _ g.0) g.1)) (λ a.
          by_byte Typing b 40 (λ h. let g = guarded (ltb (count is_parenthesis os) 32) l (Open.first ∷ os) h in is_struct os l (str (ltb-true _ _ g.0) g.1)) (λ p h.
          absurd (false≢true (sym (accepts_bad l) ∙ (rw (e, v, a, p) at h))))))

-- by the first byte, where an element is awaited
by_element : (os : List Open) (b : ℕ) (l : List ℕ) → ((k : List ℕ) → length k ≤ length l → awaited (Open.value ∷ os) k ≡ true → Begun (Open.value ∷ os) k) → (awaited (Open.element ∷ os) (b ∷ l) ≡ true → Begun (Open.element ∷ os) (b ∷ l)) → accepts (b ∷ l) (State.good (Open.element ∷ os)) ≡ true → BegunElement os (b ∷ l)
by_element os b l val sing =
    by_byte (λ (x : ℕ). (awaited (Open.element ∷ os) (x ∷ l) ≡ true → Begun (Open.element ∷ os) (x ∷ l)) → accepts (x ∷ l) (State.good (Open.element ∷ os)) ≡ true → BegunElement os (x ∷ l)) b 123
    (λ f. entry l val)
    (λ n f h. is_single os (b ∷ l) (f (rw n at h)))
    sing
  where
    entry : (k : List ℕ) → ((j : List ℕ) → length j ≤ length k → awaited (Open.value ∷ os) j ≡ true → Begun (Open.value ∷ os) j) → accepts k (State.good (Open.key ∷ os)) ≡ true → BegunElement os (123 ∷ k)
    entry [] f h = absurd (false≢true h)
    entry (c ∷ k) f h =
        let g = guarded (basic_code c) k (Open.value ∷ os) h in
        is_entry os c k g.0 (f k (omega arith) (sym (expects Open.value os (λ x. refl) k) ∙ g.1))

-- by what follows a field
by_field : (o : Open) (os : List Open) (l : List ℕ) → is_array o ≡ false → (g : Begun (o ∷ os) l) → (awaited (Open.fields ∷ os) g.rest ≡ true → BegunFields os g.rest) → BegunFields os l
by_field o os l i g f =
    go g.rest refl (ap (λ (x : List Open). accepts g.rest (State.good x)) (sym (ended_field o os i)) ∙ g.goes_on)
  where
    go : (r : List ℕ) → r ≡ g.rest → accepts r (State.good (Open.fields ∷ os)) ≡ true → BegunFields os l
    go [] e h = absurd (false≢true h)
    go (b ∷ r) e h =
        by_byte (λ (x : ℕ). x ∷ r ≡ g.rest → accepts (x ∷ r) (State.good (Open.fields ∷ os)) ≡ true → BegunFields os l) b 41
        (λ q. is_last o os l i g r q)
        (λ n q t. is_more o os l i g (f (ap (awaited (Open.fields ∷ os)) (sym q) ∙ (rw n at t))))
        e h

mutual
  begun : (n : ℕ) (os : List Open) (l : List ℕ) → 2 * length l ≤ n → Within os → awaited os l ≡ true → Begun os l
  begun zero os [] h w e = absurd (false≢true e)
  begun zero os (b ∷ l) h w e = absurd (omega arith)
  begun (suc n) os [] h w e = absurd (false≢true e)
  begun (suc n) os (b ∷ l) h w e =
      by_begin os l w
      (λ c i. begun_element n os l (omega arith) record { few_arrays = omega arith; few_parentheses = w.few_parentheses } i)
      (λ c i. begun_fields n Open.first os l refl (omega arith) record { few_arrays = w.few_arrays; few_parentheses = omega arith } (sym (expects Open.first os (λ x. refl) l) ∙ i))
      b e

  begun_element : (n : ℕ) (os : List Open) (l : List ℕ) → 2 * length l < n → Within (Open.element ∷ os) → accepts l (State.good (Open.element ∷ os)) ≡ true → BegunElement os l
  begun_element zero os [] h w e = absurd (false≢true e)
  begun_element zero os (b ∷ l) h w e = absurd (omega arith)
  begun_element (suc n) os [] h w e = absurd (false≢true e)
  begun_element (suc n) os (b ∷ l) h w e =
      by_element os b l
      (λ k j i. begun n (Open.value ∷ os) k (omega arith) record { few_arrays = w.few_arrays; few_parentheses = w.few_parentheses } i)
      (λ i. begun n (Open.element ∷ os) (b ∷ l) (omega arith) w i)
      e

  begun_fields : (n : ℕ) (o : Open) (os : List Open) (l : List ℕ) → is_array o ≡ false → 2 * length l < n → Within (o ∷ os) → awaited (o ∷ os) l ≡ true → BegunFields os l
  begun_fields zero o os l i h w e = absurd (omega arith)
  begun_fields (suc n) o os l i h w e =
      let g = begun n (o ∷ os) l (omega arith) w e in
      by_field o os l i g
      (λ t. begun_fields n Open.fields os g.rest refl (omega (arith, g.shorter))
      record { few_arrays = rw i at w.few_arrays; few_parentheses = rw i at w.few_parentheses } t)

-- the types of a whole text
all_begun : (n : ℕ) (l : List ℕ) → length l ≤ n → accepts l (State.good []) ≡ true → (ts : List Complete) × AllShallow ts × (written_all ts ≡ l)
all_begun zero [] h e = ([], AllShallow.none, refl)
all_begun zero (b ∷ l) h e = absurd (omega arith)
all_begun (suc n) [] h e = ([], AllShallow.none, refl)
all_begun (suc n) (b ∷ l) h e =
    let g = begun (2 * suc (length l)) [] (b ∷ l) (omega arith) record { few_arrays = omega arith; few_parentheses = omega arith } e in
    let i = all_begun n g.rest (omega (arith, g.shorter)) g.goes_on in (
      g.type ∷ i.0,
      AllShallow.some {t = g.type} record { few_arrays = omega (arith, g.few_arrays); few_parentheses = omega (arith, g.few_parentheses) } i.1,
      ap (λ (x : List ℕ). written g.type ++ x) i.2 ∙ g.spelled,
    )

signature_spelled : {s : List ℕ} → signature s ≡ true → IsSignature s
unfolding signature
signature_spelled {s} e =
    let t = and_both (accepts s (State.good [])) (leb (length s) 255) e in
    let g = all_begun (length s) s (omega arith) t.0 in
    record { types = g.0; shallow = g.1; spelled = g.2; short = leb-true (length s) 255 t.1 }

pub grammar : SignatureGrammar
grammar s = (signature_spelled, spelled_signature)
