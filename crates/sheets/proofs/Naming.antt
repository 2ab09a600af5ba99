-- The next name of a list, and names that are opened.
use Rattle.std.proofs.Common.{◌≡◌, ℕ, suc, ◌+◌, ◌-◌, ◌<◌, ◌≤◌, Bool, true, false, ◌&&◌, eqb, leb, List, [], ◌∷◌, length, get_or, take, drop, take_all, sym, refl, ap, ◌∙◌, add-one, arith, length-drop, drop_of_length-le, drop-cons, rules, le-leb, eq-eqb, ne_eqb}
use native.Mathlib.Decide.{dec_lt}
use borrow.Author.Tests.{not-false, lt-leb}
use lib.Seq.{length-take-le}
use Rattle.slices.specs.Bytes.{if, other, span, past, all, empty}
use Rattle.slices.specs.Run.{Run}
use Rattle.slices.proofs.Runs.{span_end}
use Rattle.slices.proofs.Ends.{run_length, run_span, run_rest, run_some}
use Rattle.sheets.specs.Names.{later_lines, named, names_of, openable, Placed}

-- ---- lines

later_past : (l : List ℕ) → later_lines l ≡ later_lines (past (other 10) l)
later_past [] = refl
later_past (b ∷ l) = go (eqb b 10) refl (later_past l)
  where
    go : (t : Bool) → eqb b 10 ≡ t → later_lines l ≡ later_lines (past (other 10) l) → later_lines (b ∷ l) ≡ later_lines (past (other 10) (b ∷ l))
    go true e i =
        let p : past (other 10) (b ∷ l) ≡ b ∷ l = rw e in
        ap later_lines (sym p)
    go false e i =
        let p : past (other 10) (b ∷ l) ≡ past (other 10) l = rw e in
        let q : later_lines (b ∷ l) ≡ later_lines l = rw e in
        q ∙ i ∙ ap later_lines (sym p)

span_past : (p : ℕ → Bool) (l : List ℕ) → span p (past p l) ≡ []
span_past p [] = refl
span_past p (b ∷ l) = go (p b) refl (span_past p l)
  where
    go : (t : Bool) → p b ≡ t → span p (past p l) ≡ [] → span p (past p (b ∷ l)) ≡ []
    go true e i =
        let q : past p (b ∷ l) ≡ past p l = rw e in
        ap (span p) q ∙ i
    go false e i =
        let q : past p (b ∷ l) ≡ b ∷ l = rw e in
        let r : span p (b ∷ l) ≡ [] = rw e in
        ap (span p) q ∙ r

-- a line that is no name, and one that is
named_none : (n : List ℕ) (ns : List (List ℕ)) → n ≡ [] → named (n ∷ ns) ≡ named ns
named_none n ns e = rw e

named_one : (n : List ℕ) (ns : List (List ℕ)) → empty n ≡ false → named (n ∷ ns) ≡ n ∷ named ns
named_one n ns e = rw e

lf_first : (b : ℕ) (l : List ℕ) → eqb b 10 ≡ true → names_of (b ∷ l) ≡ names_of l
unfolding names_of
lf_first b l e = rw e

module _ {s : List ℕ} {from r : ℕ} (n : Run (other 10) s from r) where
  name_here : from < r → names_of (drop from s) ≡ take (r - from) (drop from s) ∷ names_of (drop r s)
  unfolding names_of
  name_here h =
      let later : later_lines (drop from s) ≡ later_lines (drop r s) = later_past (drop from s) ∙ ap later_lines (run_rest n) in
      let none : span (other 10) (drop r s) ≡ [] = rw (← run_rest n) (span_past (other 10) (drop from s)) in
      named_one (span (other 10) (drop from s)) (later_lines (drop from s)) (run_some n h)
      ∙ ap (λ (l : List ℕ). l ∷ named (later_lines (drop from s))) (run_span n)
      ∙ ap (λ (ls : List (List ℕ)). take (r - from) (drop from s) ∷ ls) (ap named later ∙ sym (named_none (span (other 10) (drop r s)) (later_lines (drop r s)) none))

  line_empty : r ≤ from → from < length s → names_of (drop from s) ≡ names_of (drop (r + 1) s)
  line_empty h l =
      let z : length (span (other 10) (drop from s)) ≡ 0 = omega (arith, run_length n, n.onward) in
      let e : r ≡ from = omega (arith, n.onward) in
      let i : length (span (other 10) (drop from s)) < length (drop from s) = rw (z, length-drop) (omega arith) in
      let b : other 10 (get_or (drop from s) 0 0) ≡ false = rw z at (span_end (other 10) (drop from s) i) in
      let d : eqb (get_or (drop from s) 0 0) 10 ≡ true = not-false _ b in
      let c : drop from s ≡ get_or s from 0 ∷ drop (suc from) s = drop-cons s from 0 l in
      let f : eqb (get_or s from 0) 10 ≡ true = rw c at d in
      rw (add-one, e, c) (lf_first (get_or s from 0) (drop (suc from) s) f)

-- ---- the loop

pub record Seeking (s : List ℕ) (at : ℕ) : Type 0 where
  pub same : names_of s ≡ names_of (drop at s)

pub seek_begins : (s : List ℕ) → Seeking s 0
seek_begins s = record { same = refl }

module _ {s : List ℕ} {at r : ℕ} (g : Seeking s at) (n : Run (other 10) s at r) where
  pub seek_more : at < length s → r ≤ at → Seeking s (r + 1)
  seek_more h l = record { same = g.same ∙ line_empty n l h }

  pub seek_found : at < r → names_of s ≡ take (r - at) (drop at s) ∷ names_of (take (length s - r) (drop r s))
  seek_found h = rw (take_all (length s - r) (drop r s) (rw length-drop (omega arith))) (g.same ∙ name_here n h)

-- a name from a place up to another, and the rest from there on
placed : {s n t : List ℕ} {at r : ℕ} → at < r → r ≤ length s → n ≡ take (r - at) (drop at s) → t ≡ drop r s → Placed s n t
placed {s} {n} {t} {at} {r} h l e f =
    let k : length n ≡ r - at = rw e (length-take-le (r - at) (drop at s) (rw length-drop (omega arith))) in
    let m : length t ≡ length s - r = rw f (length-drop r s) in
    let b : length s - length t ≡ r = omega (arith, m) in
    let a : length s - length t - length n ≡ at = omega (arith, m, k) in
    record { some = omega (arith, k); named = rw (a, k) e; follows = rw b f }

pub found_placed : {s : List ℕ} {at r : ℕ} → Run (other 10) s at r → at < r → Placed s (take (r - at) (drop at s)) (take (length s - r) (drop r s))
found_placed {s} {at} {r} n h = placed h n.within refl (take_all (length s - r) (drop r s) (rw length-drop (omega arith)))

pub seek_ends : {s : List ℕ} {at : ℕ} → Seeking s at → length s ≤ at → names_of s ≡ []
unfolding names_of
seek_ends {s} g h = g.same ∙ rw (drop_of_length-le s h)

pub ruleset seeking = (seek_begins, seek_more, seek_found, found_placed, seek_ends, rules)

-- ---- names that are opened

all_short : (p : ℕ → Bool) (s : List ℕ) → length (span p s) < length s → all p s ≡ false
all_short p [] h = absurd (omega arith)
all_short p (b ∷ s) h = go (p b) h (all_short p s)
  where
    go : (t : Bool) → length (if t (b ∷ span p s) []) < suc (length s) → (length (span p s) < length s → all p s ≡ false) → if t (all p s) false ≡ false
    go true k i = i (omega arith)
    go false k i = refl

all_long : (p : ℕ → Bool) (s : List ℕ) → length s ≤ length (span p s) → all p s ≡ true
all_long p [] h = refl
all_long p (b ∷ s) h = go (p b) h (all_long p s)
  where
    go : (t : Bool) → suc (length s) ≤ length (if t (b ∷ span p s) []) → (length s ≤ length (span p s) → all p s ≡ true) → if t (all p s) false ≡ true
    go true k i = i (omega arith)
    go false k i = absurd (omega arith)

pub open_long : (s : List ℕ) → 255 < length s → false ≡ openable s
unfolding openable
open_long s h = rw (lt-leb (length s) 255 h)

module _ (s : List ℕ) {r : ℕ} (h : length s ≤ 255) (n : Run (other 0) s 0 r) where
  pub open_short : eqb r (length s) ≡ openable s
  unfolding openable
  open_short = go (dec_lt r (length s))
    where
      go : Dec (r < length s) → eqb r (length s) ≡ leb (length s) 255 && all (other 0) s
      go (yes l) = rw (ne_eqb r (length s) (λ e. omega (arith, e)), le-leb (length s) 255 h, all_short (other 0) s (omega (arith, n.ends)))
      go (no l) = rw (eq-eqb r (length s) (omega (arith, n.within)), le-leb (length s) 255 h, all_long (other 0) s (omega (arith, n.ends)))

pub ruleset opening = (open_long, open_short, rules)
