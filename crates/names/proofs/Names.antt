-- Names: their elements, where each ends, and the loop over them.
use Prim.Native.Nat.{ℕ, suc, ◌+◌, ◌≤◌, ◌<◌}
use mathlib.Core.Path.{◌≡◌, refl, ap, sym, subst, ◌∙◌}
use mathlib.Core.Bool.{Bool, true, false, not, ◌&&◌, ◌||◌, and-true, and-false, or-true, or-false}
use mathlib.Core.List.{List, [], ◌∷◌, ◌++◌, append-nil}
use borrow.Author.Rules.{rules}
use borrow.Author.Tests.{ne_eqb, le-leb, lt-leb}
use native.Mathlib.Nat.{add-zero}
use native.Mathlib.Numerals.{add-one}
use native.Mathlib.Omega.{arith}
use lib.Dec.{T, eqb, leb, eqb-suc-suc, eqb-zero-suc}
use lib.ListN.{length, drop, get_or, length-drop, drop_of_length-le}
use lib.Seq.{drop-cons, drop-drop, get_or-drop}
use Rattle.slices.specs.Bytes.{if, all, span, digit}
use Rattle.slices.specs.Run.{Run}
use Rattle.slices.proofs.Runs.{both, and_both, if_false, by_byte, span_end}
use Rattle.names.specs.Names.{element_byte, element, grown, elements, every, interface_name, member_name}
use Rattle.names.specs.Checks.{lead, Element}

-- a run is of the class, and it is all there is where it is as long
span_class : (p : ℕ → Bool) (l : List ℕ) → all p (span p l) ≡ true
span_class p [] = refl
span_class p (b ∷ l) = go (span_class p l) (p b) refl
  where
    go : all p (span p l) ≡ true → (t : Bool) → p b ≡ t → all p (if t (b ∷ span p l) []) ≡ true
    go i true e = rw e i
    go i false e = refl

span_front : (p : ℕ → Bool) (l : List ℕ) → span p l ++ drop (length (span p l)) l ≡ l
span_front p [] = refl
span_front p (b ∷ l) = go (span_front p l) (p b)
  where
    go : span p l ++ drop (length (span p l)) l ≡ l → (t : Bool) → if t (b ∷ span p l) [] ++ drop (length (if t (b ∷ span p l) [])) (b ∷ l) ≡ b ∷ l
    go i true = ap (◌∷◌ b) i
    go i false = refl

span_whole : (p : ℕ → Bool) (l : List ℕ) → eqb (length (span p l)) (length l) ≡ all p l
span_whole p [] = refl
span_whole p (b ∷ l) = go (span_whole p l) (p b)
  where
    go : eqb (length (span p l)) (length l) ≡ all p l → (t : Bool) → eqb (length (if t (b ∷ span p l) [])) (suc (length l)) ≡ if t (all p l) false
    go i true = eqb-suc-suc (length (span p l)) (length l) ∙ i
    go i false = eqb-zero-suc (length l)

-- the element that a text begins with
lead_whole : (l : List ℕ) → (length l ≡ 0 → ⊥) → eqb (length (lead l)) (length l) ≡ element l
lead_whole [] h = absurd (h refl)
lead_whole (b ∷ l) h = go (digit b)
  where
    go : (t : Bool) → eqb (length (if t [] (span element_byte (b ∷ l)))) (suc (length l)) ≡ not t && all element_byte (b ∷ l)
    go true = eqb-zero-suc (length l)
    go false = span_whole element_byte (b ∷ l)

lead_element : (l : List ℕ) → (length (lead l) ≡ 0 → ⊥) → element (lead l) ≡ true
lead_element [] h = absurd (h refl)
lead_element (b ∷ l) h = go (digit b) refl (element_byte b) refl h
  where
    go : (t : Bool) → digit b ≡ t → (u : Bool) → element_byte b ≡ u → (length (if t [] (if u (b ∷ span element_byte l) [])) ≡ 0 → ⊥) → element (if t [] (if u (b ∷ span element_byte l) [])) ≡ true
    go true e u f n = absurd (n refl)
    go false e true f n = rw (f, e) (span_class element_byte l)
    go false e false f n = absurd (n refl)

lead_front : (l : List ℕ) → lead l ++ drop (length (lead l)) l ≡ l
lead_front [] = refl
lead_front (b ∷ l) = go (digit b)
  where
    go : (t : Bool) → if t [] (span element_byte (b ∷ l)) ++ drop (length (if t [] (span element_byte (b ∷ l)))) (b ∷ l) ≡ b ∷ l
    go true = refl
    go false = span_front element_byte (b ∷ l)

lead_next : (l : List ℕ) → (length (lead l) ≡ 0 → ⊥) → length (lead l) < length l → element_byte (get_or l (length (lead l)) 0) ≡ false
lead_next [] n h = absurd (n refl)
lead_next (b ∷ l) n h = go (digit b) n h
  where
    go : (t : Bool) → (length (if t [] (span element_byte (b ∷ l))) ≡ 0 → ⊥) → length (if t [] (span element_byte (b ∷ l))) < suc (length l) → element_byte (get_or (b ∷ l) (length (if t [] (span element_byte (b ∷ l)))) 0) ≡ false
    go true n h = absurd (n refl)
    go false n h = span_end element_byte (b ∷ l) h

-- the bytes of a run go to the front of the first element
abbrev prefixed : List ℕ → List (List ℕ) → List (List ℕ)
prefixed a [] = a ∷ []
prefixed a (e ∷ es) = (a ++ e) ∷ es

no_dot : (b : ℕ) → element_byte b ≡ true → eqb b 46 ≡ false
no_dot b = by_byte (λ (x : ℕ). element_byte x ≡ true → eqb x 46 ≡ false) b 46 (λ e. absurd (subst T (sym e) tt)) (λ n e. n)

elements_run : (a r : List ℕ) → all element_byte a ≡ true → elements (a ++ r) ≡ prefixed a (elements r)
elements_run [] [] h = refl
elements_run [] (b ∷ r) h = one (eqb b 46) (elements r)
  where
    one : (t : Bool) (es : List (List ℕ)) → if t ([] ∷ es) (grown b es) ≡ prefixed [] (if t ([] ∷ es) (grown b es))
    one true es = refl
    one false [] = refl
    one false (e ∷ es) = refl
elements_run (x ∷ a) r h =
    let t = both (element_byte x) (all element_byte a) h in
    rw (no_dot x t.0, elements_run a r t.1) (more (elements r))
  where
    more : (es : List (List ℕ)) → grown x (prefixed a es) ≡ prefixed (x ∷ a) es
    more [] = refl
    more (e ∷ es) = refl

pub element_class : (a : List ℕ) → element a ≡ true → all element_byte a ≡ true
element_class [] h = refl
element_class (b ∷ a) h = (and_both (not (digit b)) (all element_byte (b ∷ a)) h).1

-- an element with a byte of another class is none
element_spoilt : (a : List ℕ) (b : ℕ) (r : List ℕ) → element_byte b ≡ false → element (a ++ b ∷ r) ≡ false
element_spoilt [] b r h = rw h (and-false (not (digit b)))
element_spoilt (x ∷ a) b r h = rw (spoilt (x ∷ a)) (and-false (not (digit x)))
  where
    spoilt : (c : List ℕ) → all element_byte (c ++ b ∷ r) ≡ false
    spoilt [] = rw h
    spoilt (y ∷ c) = rw (spoilt c) (if_false (element_byte y))

-- what is left of a name to check, after a dot or not
abbrev pub named : Bool → List ℕ → Bool
named d l = every element (elements l) && (d || leb 2 (length (elements l)))

named_end : (d : Bool) (a : List ℕ) → element a ≡ true → named d (a ++ []) ≡ d
named_end d a h = rw (elements_run a [] (element_class a h), append-nil a, h) (or-false d)

some_elements : (l : List ℕ) → 1 ≤ length (elements l)
some_elements [] = omega arith
some_elements (b ∷ l) = one (eqb b 46) (elements l)
  where
    one : (t : Bool) (es : List (List ℕ)) → 1 ≤ length (if t ([] ∷ es) (grown b es))
    one true es = omega arith
    one false [] = omega arith
    one false (e ∷ es) = omega arith

named_dot : (d : Bool) (a r : List ℕ) → element a ≡ true → named d (a ++ 46 ∷ r) ≡ named true r
named_dot d a r h =
    rw (elements_run a (46 ∷ r) (element_class a h), append-nil a, h, le-leb 2 (suc (length (elements r))) (omega (arith, some_elements r)), or-true d)

named_spoilt : (d : Bool) (a : List ℕ) (b : ℕ) (r : List ℕ) → all element_byte a ≡ true → element_byte b ≡ false → eqb b 46 ≡ false → named d (a ++ b ∷ r) ≡ false
named_spoilt d a b r h n m = rw (elements_run a (b ∷ r) h, m) (one (elements r))
  where
    one : (es : List (List ℕ)) → every element (prefixed a (grown b es)) && (d || leb 2 (length (prefixed a (grown b es)))) ≡ false
    one [] = rw (element_spoilt a b [] n)
    one (e ∷ es) = rw (element_spoilt a b e n)

-- no element at the start
named_none : (d : Bool) (l : List ℕ) → length (lead l) ≡ 0 → named d l ≡ false
named_none d [] h = refl
named_none d (b ∷ l) h = go (digit b) refl (element_byte b) refl h (eqb b 46) (elements l)
  where
    go : (t : Bool) → digit b ≡ t → (u : Bool) → element_byte b ≡ u → length (if t [] (if u (b ∷ span element_byte l) [])) ≡ 0 → (v : Bool) (es : List (List ℕ)) → every element (if v ([] ∷ es) (grown b es)) && (d || leb 2 (length (if v ([] ∷ es) (grown b es)))) ≡ false
    go t e u f n true es = refl
    go true e u f n false [] = rw e
    go true e u f n false (x ∷ es) = rw e
    go false e true f n false es = absurd (omega arith)
    go false e false f n false [] = rw (element_spoilt [] b [] f)
    go false e false f n false (x ∷ es) = rw (element_spoilt [] b x f)

-- the ways of `element`
pub element_end : {s : List ℕ} {from : ℕ} → from ≤ length s → length s ≤ from → Element s from from
element_end {s} {from} h l = record { ends = rw (drop_of_length-le s l) (sym (add-zero from)); onward = omega arith; within = h }

pub element_digit : {s : List ℕ} {from : ℕ} {r : Bool} → from < length s → r ≡ digit (get_or s from 0) → r ≡ true → Element s from from
element_digit {s} {from} h e q = record {
  ends = let t : digit (get_or s from 0) ≡ true = sym e ∙ q in rw (drop-cons s from 0 h, t) (sym (add-zero from));
  onward = omega arith;
  within = omega arith;
}

lead_run : (b : ℕ) (l : List ℕ) → digit b ≡ false → lead (b ∷ l) ≡ span element_byte (b ∷ l)
lead_run b l e = go (digit b) e
  where
    go : (t : Bool) → t ≡ false → if t [] (span element_byte (b ∷ l)) ≡ span element_byte (b ∷ l)
    go true q = absurd (subst T q tt)
    go false q = refl

pub element_run : {s : List ℕ} {from to : ℕ} {r : Bool} → from < length s → r ≡ digit (get_or s from 0) → r ≡ false → Run element_byte s from to → Element s from to
element_run {s} {from} {to} h e q g =
    let b = get_or s from 0 in
    let l = drop (suc from) s in
    let c : drop from s ≡ b ∷ l = drop-cons s from 0 h in
    record {
      ends = g.ends ∙ ap (λ (x : List ℕ). from + length x) (ap (span element_byte) c ∙ sym (ap lead c ∙ lead_run b l (sym e ∙ q)));
      onward = g.onward;
      within = g.within;
    }

-- the ways of `member_name`
pub member_none : (s : List ℕ) → length s ≡ 0 → false ≡ member_name s
unfolding member_name
member_none [] e = refl
member_none (b ∷ s) e = absurd (omega arith)

pub member_long : (s : List ℕ) → 255 < length s → false ≡ member_name s
unfolding member_name
member_long s h = rw (lt-leb (length s) 255 h) (sym (and-false (element s)))

pub member_is : (s : List ℕ) (e : ℕ) → Element s 0 e → (length s ≡ 0 → ⊥) → length s ≤ 255 → eqb e (length s) ≡ member_name s
unfolding member_name
member_is s e g n h =
    let q : e ≡ length (lead s) = omega (arith, g.ends) in
    rw (q, le-leb (length s) 255 h) (lead_whole s n ∙ sym (and-true (element s)))

-- a loop over the elements of a name: what is left to check is what was asked
pub record Naming (s : List ℕ) (at : ℕ) (d : Bool) : Type 0 where
  pub left : interface_name s ≡ named d (drop at s)
  pub short : length s ≤ 255
  pub inside : at ≤ length s

pub name_begins : {s : List ℕ} → length s ≤ 255 → Naming s 0 false
unfolding interface_name
name_begins {s} h = record { left = rw (le-leb (length s) 255 h) (and-true _); short = h; inside = omega arith }

pub name_long : (s : List ℕ) → 255 < length s → false ≡ interface_name s
unfolding interface_name
name_long s h =
    rw (lt-leb (length s) 255 h) (sym (and-false (every element (elements s) && leb 2 (length (elements s)))))

module _ {s : List ℕ} {at e : ℕ} {d : Bool} (g : Naming s at d) (i : Element s at e) where
  -- the text from the place on is the element and what follows its end
  parts : drop at s ≡ lead (drop at s) ++ drop e s
  parts = sym (lead_front (drop at s)) ∙ ap (λ (l : List ℕ). lead (drop at s) ++ l) (drop-drop (length (lead (drop at s))) at s ∙ ap (λ (k : ℕ). drop k s) (sym i.ends))

  some_lead : (e ≡ at → ⊥) → length (lead (drop at s)) ≡ 0 → ⊥
  some_lead n q = n (i.ends ∙ rw q (add-zero at))

  pub name_none : e ≡ at → false ≡ interface_name s
  name_none q = sym (g.left ∙ named_none d (drop at s) (omega (arith, i.ends)))

  pub name_end : (e ≡ at → ⊥) → e ≡ length s → d ≡ interface_name s
  name_end n q =
      let r : drop e s ≡ [] = drop_of_length-le s {i = e} (omega arith) in
      sym (g.left ∙ ap (named d) (parts ∙ ap (λ (l : List ℕ). lead (drop at s) ++ l) r) ∙ named_end d (lead (drop at s)) (lead_element (drop at s) (some_lead n)))

  module _ (n : e ≡ at → ⊥) (m : e ≡ length s → ⊥) where
    from_end : drop at s ≡ lead (drop at s) ++ get_or s e 0 ∷ drop (e + 1) s
    from_end = parts ∙ ap (λ (l : List ℕ). lead (drop at s) ++ l) (rw (add-one, drop-cons s e 0 (omega (arith, i.within, m))))

    pub name_spoilt : (get_or s e 0 ≡ 46 → ⊥) → false ≡ interface_name s
    name_spoilt k =
        let a = lead (drop at s) in
        let f : at + length a ≡ e = sym i.ends in
        let t : element_byte (get_or s e 0) ≡ false =
        rw (get_or-drop at s (length a) 0, f) at (lead_next (drop at s) (some_lead n) (rw length-drop (omega (arith, i.within, m)))) in
        sym (g.left ∙ ap (named d) from_end ∙ named_spoilt d a (get_or s e 0) (drop (e + 1) s) (element_class a (lead_element (drop at s) (some_lead n))) t (ne_eqb _ _ k))

    pub name_dot : get_or s e 0 ≡ 46 → Naming s (e + 1) true
    name_dot k = record {
      left = g.left ∙ ap (named d) (from_end ∙ ap (λ (b : ℕ). lead (drop at s) ++ b ∷ drop (e + 1) s) k) ∙ named_dot d (lead (drop at s)) (drop (e + 1) s) (lead_element (drop at s) (some_lead n));
      short = g.short;
      inside = omega (arith, i.within, m);
    }

pub ruleset name_loops = (name_begins, name_long, name_none, name_end, name_spoilt, name_dot, rules)

pub ruleset members = (member_none, member_long, member_is, rules)

pub ruleset leads = (element_end, element_digit, element_run, rules)
