-- The checker of signatures: what each way of `complete`, `fields`, `entry` and `signature` says.
use Prim.Native.Nat.{ℕ, ◌+◌, ◌-◌, ◌*◌, ◌≤◌, ◌<◌}
use mathlib.Core.Path.{◌≡◌, refl, ap, sym, subst, ◌∙◌}
use mathlib.Core.Bool.{Bool, true, false, ◌||◌, and-true, and-false, or-false}
use mathlib.Core.Logic.{◌⊎◌, inl, inr}
use mathlib.Core.List.{List, [], ◌∷◌}
use Rattle.std.proofs.Common.{Option, None, Some}
use borrow.Author.Rules.{rules}
use borrow.Author.Tests.{ne_eqb, le-leb, lt-leb, lt-ltb, le-ltb}
use native.Mathlib.Numerals.{add-one}
use native.Mathlib.Omega.{arith}
use lib.Dec.{T, eqb}
use lib.ListN.{length, drop, get_or, drop_of_length-le}
use lib.Seq.{drop-cons}
use Rattle.slices.specs.Bytes.{if}
use Rattle.names.specs.Signature.{Open, State, is_array, count, basic_code, begins, byte, accepts, ended, nothing_open, signature}
use Rattle.names.specs.Checks.{is_parenthesis, awaited, Onward, Ends, Counted, Typed, Fielded, Entered}
use Rattle.names.proofs.Codes.{flag_on, flag_off}

-- one byte
pub accepts_bad : (l : List ℕ) → accepts l State.bad ≡ false
accepts_bad [] = refl
accepts_bad (b ∷ l) = accepts_bad l

module _ (s : List ℕ) (at b : ℕ) (h : at < length s) (e : get_or s at 0 ≡ b) where
  from_byte : drop at s ≡ b ∷ drop (at + 1) s
  from_byte = rw (← e, add-one, drop-cons s at 0 h)

  awaited_byte : (os : List Open) → awaited os (drop at s) ≡ accepts (drop (at + 1) s) (begins os b)
  awaited_byte os = ap (awaited os) from_byte

  accepts_byte : (os : List Open) → accepts (drop at s) (State.good os) ≡ accepts (drop (at + 1) s) (byte os b)
  accepts_byte os = ap (λ (l : List ℕ). accepts l (State.good os)) from_byte

  -- a byte that begins a complete type there
  expects_at : (os : List Open) → byte os b ≡ begins os b → accepts (drop at s) (State.good os) ≡ awaited os (drop at s)
  expects_at os f = accepts_byte os ∙ ap (accepts (drop (at + 1) s)) f ∙ sym (awaited_byte os)

-- before a value and before the first field every byte does
pub expects : (o : Open) (os : List Open) → ((b : ℕ) → byte (o ∷ os) b ≡ begins (o ∷ os) b) → (l : List ℕ) → accepts l (State.good (o ∷ os)) ≡ awaited (o ∷ os) l
expects o os f [] = refl
expects o os f (b ∷ l) = ap (accepts l) (f b)

-- the answer of a callee, from an earlier test and an earlier place
moved : (s : List ℕ) {x y : Bool} (os : List Open) (r : Option ℕ) → x ≡ y → Ends s y os r → Ends s x os r
moved s os r e i = subst (λ (t : Bool). Ends s t os r) (sym e) i

sooner : (s : List ℕ) (at to : ℕ) (r : Option ℕ) → at ≤ to → Onward s to r → Onward s at r
sooner s at to None h o = tt
sooner s at to (Some e) h o = omega arith

-- an array is opened
opens : (s : List ℕ) (at a p : ℕ) (os : List Open) → at < length s → get_or s at 0 ≡ 97 → a < 32 → Counted os a p → awaited os (drop at s) ≡ accepts (drop (at + 1) s) (State.good (Open.element ∷ os))
opens s at a p os h e l c = awaited_byte s at 97 h e os ∙ rw (lt-ltb (count is_array os) 32 (omega (arith, c.of_arrays)))

one_more : {a p : ℕ} (o : Open) (os : List Open) → is_array o ≡ true → Counted os a p → Counted (o ∷ os) (a + 1) p
one_more o os i c = record { of_arrays = rw i (omega (arith, c.of_arrays)); of_parentheses = rw i c.of_parentheses }

-- the ways of `complete`
module _ {s : List ℕ} {at a p : ℕ} where
  pub type_end : length s ≤ at → Typed s at a p None
  type_end h = record { onward = tt; ends = λ os c. rw (drop_of_length-le s h) }

  module _ (h : at < length s) where
    refused : (b : ℕ) → get_or s at 0 ≡ b → ((os : List Open) → Counted os a p → begins os b ≡ State.bad) → Typed s at a p None
    refused b e f = record { onward = tt; ends = λ os c. awaited_byte s at b h e os ∙ rw (f os c) (accepts_bad (drop (at + 1) s)) }

    pub type_basic : {r : Bool} → r ≡ basic_code (get_or s at 0) → r ≡ true → Typed s at a p (Some (at + 1))
    type_basic e q = record {
      onward = omega arith;
      ends = λ os c. let t : basic_code (get_or s at 0) ≡ true = sym e ∙ q in awaited_byte s at (get_or s at 0) h refl os ∙ rw t;
    }

    pub type_variant : get_or s at 0 ≡ 118 → Typed s at a p (Some (at + 1))
    type_variant e = record { onward = omega arith; ends = λ os c. awaited_byte s at 118 h e os }

    pub type_deep : get_or s at 0 ≡ 40 → 32 ≤ p → Typed s at a p None
    type_deep e l = refused 40 e (λ os c. rw (le-ltb (count is_parenthesis os) 32 (omega (arith, c.of_parentheses))))

    type_nested : get_or s at 0 ≡ 97 → 32 ≤ a → Typed s at a p None
    type_nested e l = refused 97 e (λ os c. rw (le-ltb (count is_array os) 32 (omega (arith, c.of_arrays))))

    type_other : {r : Bool} → r ≡ basic_code (get_or s at 0) → r ≡ false → (get_or s at 0 ≡ 118 → ⊥) → (get_or s at 0 ≡ 40 → ⊥) → (get_or s at 0 ≡ 97 → ⊥) → Typed s at a p None
    type_other e q v o n = refused (get_or s at 0) refl (λ os c. let t : basic_code (get_or s at 0) ≡ false = sym e ∙ q in rw (t, ne_eqb _ _ v, ne_eqb _ _ n, ne_eqb _ _ o))

    pub type_none : {r : Bool} → r ≡ basic_code (get_or s at 0) → r ≡ false → (get_or s at 0 ≡ 118 → ⊥) → (get_or s at 0 ≡ 40 → ⊥) → (get_or s at 0 ≡ 97 → ⊥) ⊎ ((get_or s at 0 ≡ 97) × (32 ≤ a)) → Typed s at a p None
    type_none e q v o (inl n) = type_other e q v o n
    type_none e q v o (inr n) = type_nested n.0 n.1

    pub type_struct : {r : Option ℕ} → get_or s at 0 ≡ 40 → p < 32 → Fielded s (at + 1) a (p + 1) r → Typed s at a p r
    type_struct {r} e l f = record {
      onward = sooner s at (at + 1) r (omega arith) f.onward;
      ends = λ os c.
          moved s (ended os) r
          (awaited_byte s at 40 h e os ∙ rw (lt-ltb (count is_parenthesis os) 32 (omega (arith, c.of_parentheses))) (expects Open.first os (λ b. refl) (drop (at + 1) s)))
          (f.ends Open.first os refl record { of_arrays = c.of_arrays; of_parentheses = omega (arith, c.of_parentheses) });
    }

    -- an array
    module _ (e : get_or s at 0 ≡ 97) (l : a < 32) where
      pub type_bare : length s ≤ at + 1 → Typed s at a p None
      type_bare n = record { onward = tt; ends = λ os c. opens s at a p os h e l c ∙ rw (drop_of_length-le s n) }

      pub type_dict : {r : Option ℕ} → at + 1 < length s → get_or s (at + 1) 0 ≡ 123 → Entered s (at + 1 + 1) (a + 1) p r → Typed s at a p r
      type_dict {r} m k f = record {
        onward = sooner s at (at + 1 + 1) r (omega arith) f.onward;
        ends = λ os c.
            moved s (ended os) r (opens s at a p os h e l c ∙ accepts_byte s (at + 1) 123 m k (Open.element ∷ os))
            (f.ends os (one_more Open.key os refl c));
      }

      pub type_array : {r : Option ℕ} → at + 1 < length s → (get_or s (at + 1) 0 ≡ 123 → ⊥) → Typed s (at + 1) (a + 1) p r → Typed s at a p r
      type_array {r} m k f = record {
        onward = sooner s at (at + 1) r (omega arith) f.onward;
        ends = λ os c.
            moved s (ended os) r
            (opens s at a p os h e l c ∙ expects_at s (at + 1) (get_or s (at + 1) 0) m refl (Open.element ∷ os) (rw (ne_eqb _ _ k)))
            (f.ends (Open.element ∷ os) (one_more Open.element os refl c));
      }

-- the ways of `fields`, by the answer r of `complete`
pub ended_field : (o : Open) (os : List Open) → is_array o ≡ false → ended (o ∷ os) ≡ Open.fields ∷ os
ended_field Open.element os e = absurd (subst T e tt)
ended_field Open.key os e = absurd (subst T e tt)
ended_field Open.value os e = absurd (subst T e tt)
ended_field Open.brace os e = absurd (subst T e tt)
ended_field Open.first os e = refl
ended_field Open.fields os e = refl

module _ {s : List ℕ} {at a p : ℕ} {r : Option ℕ} (f : Typed s at a p r) where
  pub field_bad : r ≡ None → Fielded s at a p None
  field_bad q = record { onward = tt; ends = λ o os i c. (rw q at f).ends (o ∷ os) c }

  module _ {e : ℕ} (q : r ≡ Some e) where
    field : Typed s at a p (Some e)
    field = rw q at f

    after : (o : Open) (os : List Open) → is_array o ≡ false → Counted (o ∷ os) a p → awaited (o ∷ os) (drop at s) ≡ accepts (drop e s) (State.good (Open.fields ∷ os))
    after o os i c = field.ends (o ∷ os) c ∙ ap (λ (x : List Open). accepts (drop e s) (State.good x)) (ended_field o os i)

    pub field_end : length s ≤ e → Fielded s at a p None
    field_end h = record { onward = tt; ends = λ o os i c. after o os i c ∙ rw (drop_of_length-le s h) }

    module _ (h : e < length s) where
      pub field_close : get_or s e 0 ≡ 41 → Fielded s at a p (Some (e + 1))
      field_close k = record {
        onward = omega (arith, field.onward);
        ends = λ o os i c. after o os i c ∙ accepts_byte s e 41 h k (Open.fields ∷ os);
      }

      pub field_more : {z : Option ℕ} → (get_or s e 0 ≡ 41 → ⊥) → Fielded s e a p z → Fielded s at a p z
      field_more {z} k g = record {
        onward = sooner s at e z (omega (arith, field.onward)) g.onward;
        ends = λ o os i c.
            moved s (ended os) z
            (after o os i c ∙ expects_at s e (get_or s e 0) h refl (Open.fields ∷ os) (rw (ne_eqb _ _ k)))
            (g.ends Open.fields os refl record { of_arrays = rw i at c.of_arrays; of_parentheses = rw i at c.of_parentheses });
      }

-- the ways of `entry`
module _ {s : List ℕ} {at a p : ℕ} where
  pub key_end : length s ≤ at → Entered s at a p None
  key_end h = record { onward = tt; ends = λ os c. rw (drop_of_length-le s h) }

  module _ (h : at < length s) where
    pub key_none : basic_code (get_or s at 0) ≡ false → Entered s at a p None
    key_none n = record {
      onward = tt;
      ends = λ os c. accepts_byte s at (get_or s at 0) h refl (Open.key ∷ os) ∙ rw n (accepts_bad (drop (at + 1) s));
    }

    module _ {r : Option ℕ} (n : basic_code (get_or s at 0) ≡ true) (f : Typed s (at + 1) a p r) where
      valued : (os : List Open) → accepts (drop at s) (State.good (Open.key ∷ os)) ≡ awaited (Open.value ∷ os) (drop (at + 1) s)
      valued os =
          accepts_byte s at (get_or s at 0) h refl (Open.key ∷ os) ∙ rw n (expects Open.value os (λ b. refl) (drop (at + 1) s))

      same_count : (os : List Open) → Counted (Open.key ∷ os) a p → Counted (Open.value ∷ os) a p
      same_count os c = record { of_arrays = c.of_arrays; of_parentheses = c.of_parentheses }

      pub value_bad : r ≡ None → Entered s at a p None
      value_bad q = record { onward = tt; ends = λ os c. valued os ∙ (rw q at f).ends (Open.value ∷ os) (same_count os c) }

      -- the same where `?` answers z
      pub value_none : {z : Option ℕ} → r ≡ None → z ≡ None → Entered s at a p z
      value_none q w = rw w (value_bad q)

      module _ {e : ℕ} (q : r ≡ Some e) where
        value : Typed s (at + 1) a p (Some e)
        value = rw q at f

        closing : (os : List Open) → Counted (Open.key ∷ os) a p → accepts (drop at s) (State.good (Open.key ∷ os)) ≡ accepts (drop e s) (State.good (Open.brace ∷ os))
        closing os c = valued os ∙ value.ends (Open.value ∷ os) (same_count os c)

        pub brace_end : length s ≤ e → Entered s at a p None
        brace_end m = record { onward = tt; ends = λ os c. closing os c ∙ rw (drop_of_length-le s m) }

        pub brace_none : e < length s → (get_or s e 0 ≡ 125 → ⊥) → Entered s at a p None
        brace_none m k = record {
          onward = tt;
          ends = λ os c. closing os c ∙ accepts_byte s e (get_or s e 0) m refl (Open.brace ∷ os) ∙ rw (ne_eqb _ _ k) (accepts_bad (drop (e + 1) s));
        }

        pub brace_close : e < length s → get_or s e 0 ≡ 125 → Entered s at a p (Some (e + 1))
        brace_close m k = record {
          onward = omega (arith, value.onward);
          ends = λ os c. closing os c ∙ accepts_byte s e 125 m k (Open.brace ∷ os);
        }

-- the measure of `fields` falls over a field
pub field_falls : {s : List ℕ} {at a p : ℕ} {r : Option ℕ} (e t : ℕ) → Typed s at a p r → r ≡ Some e → 2 * (length s - at) + 1 ≡ t → 2 * (length s - e) + 1 < t
field_falls {s} {at} {a} {p} e t f q m = let g : Typed s at a p (Some e) = rw q at f in omega (arith, g.onward)

pub ruleset types = (type_end, type_basic, type_variant, type_deep, type_none, type_struct, type_bare, type_dict, type_array, rules)

pub ruleset field_lists = (field_bad, field_end, field_close, field_more, field_falls, rules)

pub ruleset entries = (flag_on, flag_off, key_end, key_none, value_bad, value_none, brace_end, brace_none, brace_close, rules)

-- the ways of `signature` for one byte, and for too many
pub long_signature : (s : List ℕ) → 255 < length s → false ≡ signature s
unfolding signature
long_signature s h = rw (lt-leb (length s) 255 h) (sym (and-false (accepts s (State.good []))))

one_byte : (b : ℕ) → signature (b ∷ []) ≡ basic_code b || eqb b 118
unfolding signature
one_byte b = and-true _ ∙ go (basic_code b || eqb b 118) (eqb b 97) (eqb b 40)
  where
    go : (t u v : Bool) → nothing_open (if t (State.good []) (if u (State.good (Open.element ∷ [])) (if v (State.good (Open.first ∷ [])) State.bad))) ≡ t
    go true u v = refl
    go false true v = refl
    go false false true = refl
    go false false false = refl

pub one_variant : (s : List ℕ) → length s ≡ 1 → get_or s 0 0 ≡ 118 → true ≡ signature s
unfolding signature
one_variant [] n e = absurd (omega arith)
one_variant (b ∷ []) n e = rw e
one_variant (b ∷ c ∷ s) n e = absurd (omega arith)

pub one_basic : (s : List ℕ) {r : Bool} → length s ≡ 1 → (get_or s 0 0 ≡ 118 → ⊥) → r ≡ basic_code (get_or s 0 0) → r ≡ signature s
one_basic [] n v e = absurd (omega arith)
one_basic (b ∷ []) n v e = e ∙ sym (one_byte b ∙ rw (ne_eqb b 118 v) (or-false (basic_code b)))
one_basic (b ∷ c ∷ s) n v e = absurd (omega arith)

-- the loop of `signature`: with nothing open, what follows the place decides
pub record Signing (s : List ℕ) (at : ℕ) : Type 0 where
  pub left : signature s ≡ accepts (drop at s) (State.good [])
  pub inside : at ≤ length s

nothing : Counted [] 0 0
nothing = record { of_arrays = refl; of_parentheses = refl }

pub sign_begins : {s : List ℕ} → length s ≤ 255 → Signing s 0
unfolding signature
sign_begins {s} h = record { left = rw (le-leb (length s) 255 h) (and-true (accepts s (State.good []))); inside = omega arith }

module _ {s : List ℕ} {at : ℕ} (g : Signing s at) where
  pub sign_ends : length s ≤ at → true ≡ signature s
  sign_ends h = sym (g.left ∙ rw (drop_of_length-le s h))

  module _ {r : Option ℕ} (h : at < length s) (f : Typed s at 0 0 r) where
    pub sign_bad : r ≡ None → false ≡ signature s
    sign_bad q = sym (g.left ∙ expects_at s at (get_or s at 0) h refl [] refl ∙ (rw q at f).ends [] nothing)

    pub sign_more : {e : ℕ} → r ≡ Some e → Signing s e
    sign_more {e} q =
        let t : Typed s at 0 0 (Some e) = rw q at f in
        record { left = g.left ∙ expects_at s at (get_or s at 0) h refl [] refl ∙ t.ends [] nothing; inside = t.onward.1 }

pub sign_falls : {s : List ℕ} (at a p : ℕ) {r : Option ℕ} (e : ℕ) → Typed s at a p r → r ≡ Some e → length s - e < length s - at
sign_falls {s} at a p e f q = let g : Typed s at a p (Some e) = rw q at f in omega (arith, g.onward)

pub ruleset signatures = (long_signature, one_variant, one_basic, sign_begins, sign_ends, sign_bad, sign_more, sign_falls, rules)
