-- Remarks do not steer the record: two documents that differ inside one comment that reading meets are read alike.
use Prim.Native.Nat.{ℕ, suc, ◌+◌, ◌-◌, ◌≤◌}
use mathlib.Core.Path.{◌≡◌, refl, sym, ap, ◌∙◌}
use mathlib.Core.List.{List, [], ◌∷◌, ◌++◌, append_assoc}
use mathlib.Core.Bool.{true}
use mathlib.Core.Logic.{◌⊎◌, inl, inr}
use native.Mathlib.Omega.{arith}
use lib.ListN.{length, take, drop, length-append, length-drop, take-append-drop}
use lib.Seq.{drop-drop, drop-append-add, take-add, length-take-le}
use Rattle.slices.specs.Bytes.{if, bytes}
use Rattle.utf8.specs.WellFormed.{ill_formed}
use Rattle.document.specs.Tags.{Shown}
use Rattle.document.specs.Tokens.{Token, start, close, fault, end, tokens}
use Rattle.document.specs.Elements.{among}
use Rattle.document.specs.Reading.{State, begun, step, fold, run}
use Rattle.document.specs.Refusals.{fault_in}
use Rattle.document.specs.Outcome.{whole}
use Rattle.document.specs.Whole.{meaning, read, verdict_of, rows_left, warnings_left, text_left}
use Rattle.accepted.proofs.Tokens.{AllCome, tokens_come}
use Rattle.remarks.proofs.Comments.{comments, met_among}
use Rattle.met.specs.Met.{goes_on, reached, met_tokens}
use Rattle.remarks.specs.Differing.{Differ, EquallyLong, Unsteered, CallsUnsteered}
use Rattle.remarks.proofs.Meets.{Out, AllOut, tokens_same}
use Rattle.remarks.proofs.Folding.{StateOk, AllOk, step_alike, fold_alike}
use Rattle.remarks.proofs.Contents.{Opens, Shuts, content_alike, ends_same}
use Rattle.remarks.proofs.Standing.{Begins, starts_split, Found, seek_split, comment_stands}

-- ---- the two documents, from `<` to `>` and around it

pub record Shape (c e : ℕ) (d d' : List ℕ) : Type 0 where
  pub before : List ℕ
  pub inside : List ℕ
  pub other : List ℕ
  pub after : List ℕ
  pub is : before ++ 60 ∷ (inside ++ 62 ∷ after) ≡ d
  pub is_other : before ++ 60 ∷ (other ++ 62 ∷ after) ≡ d'
  pub place : length before ≡ c
  pub long : length inside ≡ length other
  pub ends : c + suc (length inside + 1) ≡ e

-- what follows the key that was found
found_rest : (key x l : List ℕ) (at e : ℕ) (f : Found key l at e) → l ≡ drop at x → drop e x ≡ f.rest
found_rest key x l at e f h =
    let n : at + (length f.front + (length key + 0)) ≡ e = omega (arith, f.long) in
    let u = ap (λ i. drop i x) (sym n) ∙ sym (drop-drop (length f.front + (length key + 0)) at x) in
    let v = ap (drop (length f.front + (length key + 0))) (sym h ∙ f.is) in
    let w = drop-append-add f.front (key ++ f.rest) (length key + 0) ∙ drop-append-add key f.rest 0 in
    u ∙ v ∙ w

-- from the `<` of a comment on
around : (a x y : List ℕ) → (a ++ (60 ∷ 33 ∷ 45 ∷ 45 ∷ [])) ++ (x ++ 45 ∷ 45 ∷ 62 ∷ y) ≡ a ++ 60 ∷ ((33 ∷ 45 ∷ 45 ∷ (x ++ 45 ∷ 45 ∷ [])) ++ 62 ∷ y)
around a x y =
    append_assoc a (60 ∷ 33 ∷ 45 ∷ 45 ∷ []) (x ++ 45 ∷ 45 ∷ 62 ∷ y)
    ∙ ap (λ z. a ++ 60 ∷ 33 ∷ 45 ∷ 45 ∷ z) (sym (append_assoc x (45 ∷ 45 ∷ []) (62 ∷ y)))

module _ (c e : ℕ) (d d' : List ℕ) (w : Differ c e d d') where
  met : among c (comments d) ≡ true
  met = met_among d c w.met

  mark : Begins (bytes "<!--") (drop c d)
  mark = starts_split (bytes "<!--") (drop c d) (comment_stands c d met)

  pub room : c + 4 ≤ length d
  room = let z = ap length mark.is in omega (arith, length-drop c d)

  front_is : take (c + 4) d ≡ take c d ++ (60 ∷ 33 ∷ 45 ∷ 45 ∷ [])
  front_is = take-add c 4 d ∙ ap (λ l. take c d ++ take 4 l) mark.is

  -- the same front before what follows in the second
  pub front_also : take (c + 4) d ++ drop (c + 4) d' ≡ d'
  front_also = ap (λ (l : List ℕ). l ++ drop (c + 4) d') w.before ∙ take-append-drop (c + 4) d'

  here : Found (bytes "-->") (drop (c + 4) d) (c + 4) e
  here = seek_split 22 (bytes "-->") (c + 4) (drop (c + 4) d) (c + 4) e w.closes

  there : Found (bytes "-->") (drop (c + 4) d') (c + 4) e
  there = seek_split 22 (bytes "-->") (c + 4) (drop (c + 4) d') (c + 4) e w.also

  rests : there.rest ≡ here.rest
  rests =
      sym (found_rest (bytes "-->") d' (drop (c + 4) d') (c + 4) e there refl) ∙ sym w.after ∙ found_rest (bytes "-->") d (drop (c + 4) d) (c + 4) e here refl

  pub shape : Shape c e d d'
  shape = record {
    before = take c d;
    inside = 33 ∷ 45 ∷ 45 ∷ (here.front ++ 45 ∷ 45 ∷ []);
    other = 33 ∷ 45 ∷ 45 ∷ (there.front ++ 45 ∷ 45 ∷ []);
    after = here.rest;
    is =
        sym (around (take c d) here.front here.rest)
        ∙ ap (λ l. l ++ (here.front ++ 45 ∷ 45 ∷ 62 ∷ here.rest)) (sym front_is)
        ∙ ap (λ l. take (c + 4) d ++ l) (sym here.is)
        ∙ take-append-drop (c + 4) d;
    is_other =
        sym (around (take c d) there.front here.rest)
        ∙ ap (λ l. l ++ (there.front ++ 45 ∷ 45 ∷ 62 ∷ here.rest)) (sym front_is)
        ∙ ap (λ l. take (c + 4) d ++ (there.front ++ 45 ∷ 45 ∷ 62 ∷ l)) (sym rests)
        ∙ ap (λ l. take (c + 4) d ++ l) (sym there.is)
        ∙ front_also;
    place = length-take-le c d (omega (arith, room));
    long = rw (length-append here.front (45 ∷ 45 ∷ []), length-append there.front (45 ∷ 45 ∷ [])) (omega (arith, here.long, there.long));
    ends = rw (length-append here.front (45 ∷ 45 ∷ [])) (omega (arith, here.long));
  }

  -- ---- the same tokens, and none ends or closes inside the comment

  rest-is : (x : List ℕ) → drop (e - (c + 4)) (drop (c + 4) x) ≡ drop e x
  rest-is x =
      let n : c + 4 + (e - (c + 4)) ≡ e = omega (arith, here.long) in
      drop-drop (e - (c + 4)) (c + 4) x ∙ rw n

  far : (x : List ℕ) → Found (bytes "-->") x (c + 4) e → e ≤ c + 4 + length x
  far x f = rw (f.is, length-append f.front (bytes "-->" ++ f.rest)) (omega (arith, f.long))

  pub same-tokens : (tokens d 0 ≡ tokens d' 0) × AllOut c e (tokens d 0)
  unfolding tokens comments
  same-tokens =
      let s = take (c + 4) d in
      let u : s ++ drop (c + 4) d ≡ d = take-append-drop (c + 4) d in
      let v : s ++ drop (c + 4) d' ≡ d' = front_also in
      let l : 0 + length s ≡ c + 4 = rw (length-take-le (c + 4) d room) (omega arith) in
      let t = tokens_same c e (drop (c + 4) d) (drop (c + 4) d') (drop e d) w.closes w.also (omega (arith, here.long)) (far (drop (c + 4) d) here) (far (drop (c + 4) d') there) (rest-is d) (rest-is d' ∙ sym w.after) 0 s 0 l (rw u met) in
      rw (u, v) at t

-- ---- the same state

-- a closing tag begins outside of the comment
pub close_out : (c e lt : ℕ) (n : List ℕ) → (suc (suc lt) + length n ≤ c) ⊎ (e ≤ lt) → Out c e lt
close_out c e lt n (inl h) = inl (omega arith)
close_out c e lt n (inr h) = inr h

-- a fault shows what follows its place
fault_same : (d d' : List ℕ) (n p : ℕ) → drop p d ≡ drop p d' → fault_in d n p ≡ fault_in d' n p
unfolding fault_in
fault_same d d' n p e = rw e

module _ (c e : ℕ) (a m n y : List ℕ) (la : length a ≡ c) (lm : length m ≡ length n) (le : c + suc (length m + 1) ≡ e) where
  abbrev first : List ℕ
  first = a ++ 60 ∷ (m ++ 62 ∷ y)

  abbrev second : List ℕ
  second = a ++ 60 ∷ (n ++ 62 ∷ y)

  module _ (h : ill_formed first ≡ length first) (g : ill_formed second ≡ length second) where
    abbrev Ok : List Token → Type 0
    Ok ts = AllOk whole first second (Opens c e a m n y la lm le) (Shuts c e a m n y la lm le) (λ s lt i u o b. content_alike c e a m n y la lm le h g s lt i u o b) ts

    ok : (ts : List Token) → AllOut c e ts → AllCome first ts → AllCome second ts → Ok ts
    ok [] o f s = tt
    ok (start t ∷ ts) o f s = ((f.0.after, s.0.after, o.0), ok ts o.1 f.1 s.1)
    ok (close lt k q ∷ ts) o f s = ((f.0.begins, s.0.begins, close_out c e lt k o.0), ok ts o.1 f.1 s.1)
    ok (fault k p ∷ ts) o f s = (fault_same first second k p (ends_same c e a m n y la lm le p o.0), ok ts o.1 f.1 s.1)
    ok (end p ∷ ts) o f s = (tt, ok ts o.1 f.1 s.1)

    abbrev Kept : State Shown → Type 0
    Kept s = StateOk whole first second (Opens c e a m n y la lm le) (Shuts c e a m n y la lm le) (λ s lt i u o b. content_alike c e a m n y la lm le h g s lt i u o b) s

    -- reading comes to the same tokens
    reached_same : (s : State Shown) (ts : List Token) → Ok ts → Kept s → reached first s ts ≡ reached second s ts
    reached_same s [] o k = refl
    reached_same s (t ∷ ts) o k =
        let z = step_alike whole first second (Opens c e a m n y la lm le) (Shuts c e a m n y la lm le) (λ s lt i u o b. content_alike c e a m n y la lm le h g s lt i u o b) s t o.0 k in
        ap (λ (r : List Token). if (goes_on s) (t ∷ r) []) (reached_same (step whole first s t) ts o.1 z.1 ∙ ap (λ (x : State Shown). reached second x ts) z.0)

    met_alike : tokens first 0 ≡ tokens second 0 → AllOut c e (tokens first 0) → met_tokens first ≡ met_tokens second
    unfolding met_tokens
    met_alike t o =
        reached_same begun (tokens first 0) (ok (tokens first 0) o (tokens_come first) (rw t (tokens_come second))) tt ∙ ap (reached second begun) t

    runs_alike : tokens first 0 ≡ tokens second 0 → AllOut c e (tokens first 0) → run whole first 0 begun ≡ run whole second 0 begun
    unfolding run
    runs_alike t o =
        let k = ok (tokens first 0) o (tokens_come first) (rw t (tokens_come second)) in
        fold_alike whole first second (Opens c e a m n y la lm le) (Shuts c e a m n y la lm le) (λ s lt i u o b. content_alike c e a m n y la lm le h g s lt i u o b) begun (tokens first 0) k tt
        ∙ ap (fold whole second begun) t

-- ---- the theorem

lengths : (a m n y : List ℕ) → length m ≡ length n → length (a ++ 60 ∷ (m ++ 62 ∷ y)) ≡ length (a ++ 60 ∷ (n ++ 62 ∷ y))
lengths a m n y l =
    rw (length-append a (60 ∷ (m ++ 62 ∷ y)), length-append a (60 ∷ (n ++ 62 ∷ y)), length-append m (62 ∷ y), length-append n (62 ∷ y), l)

meanings : (d d' : List ℕ) → length d ≡ length d' → ill_formed d ≡ length d → ill_formed d' ≡ length d' → run whole d 0 begun ≡ run whole d' 0 begun → meaning d ≡ meaning d'
unfolding meaning
meanings d d' l h g r = rw (h, g, l, r)

module _ (c e : ℕ) (d d' : List ℕ) (w : Differ c e d d') where
  long : length d ≡ length d'
  long =
      let s = shape c e d d' w in
      ap length (sym s.is) ∙ lengths s.before s.inside s.other s.after s.long ∙ ap length s.is_other

  same_run : run whole d 0 begun ≡ run whole d' 0 begun
  same_run =
      let s = shape c e d d' w in
      let t = same-tokens c e d d' w in
      let f = runs_alike c e s.before s.inside s.other s.after s.place s.long s.ends (rw s.is w.utf8) (rw s.is_other w.utf8_also) (rw (s.is, s.is_other) t.0) (rw s.is t.1) in
      rw (s.is, s.is_other) at f

  pub met_same : met_tokens d ≡ met_tokens d'
  met_same =
      let s = shape c e d d' w in
      let t = same-tokens c e d d' w in
      let f = met_alike c e s.before s.inside s.other s.after s.place s.long s.ends (rw s.is w.utf8) (rw s.is_other w.utf8_also) (rw (s.is, s.is_other) t.0) (rw s.is t.1) in
      rw (s.is, s.is_other) at f

pub equally_long : EquallyLong
equally_long = long

pub unsteered : Unsteered
unfolding read
unsteered c e d d' w room =
    rw (long c e d d' w, meanings d d' (long c e d d' w) w.utf8 w.utf8_also (same_run c e d d' w))

-- of two calls
pub calls_unsteered : CallsUnsteered
calls_unsteered c e d d' w room rows warnings text rows' warnings' text' v v' s s' =
    let q = unsteered c e d d' w room in
    record {
      answer = s.verdict ∙ ap verdict_of q ∙ sym s'.verdict;
      row_words = s.of_rows ∙ ap (rows_left room) q ∙ sym s'.of_rows;
      warning_words = s.of_warnings ∙ ap (warnings_left room) q ∙ sym s'.of_warnings;
      text_bytes = s.of_text ∙ ap (text_left room) q ∙ sym s'.of_text;
    }
