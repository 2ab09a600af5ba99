-- What follows the root: the pieces, and the loop over them.
use Prim.Native.Nat.{ℕ, zero, suc, ◌+◌, ◌-◌, ◌≤◌, ◌<◌}
use mathlib.Core.Path.{◌≡◌, refl, sym, ◌∙◌}
use mathlib.Core.List.{List, [], ◌∷◌}
use mathlib.Core.Bool.{Bool, true, false}
use borrow.Author.Rules.{rules}
use borrow.Author.Tests.{lt-ltb, le-ltb}
use native.Mathlib.Nat.{add-zero}
use native.Mathlib.Numerals.{add-one}
use native.Mathlib.Omega.{arith}
use lib.ListN.{length, take, drop, get_or, length-drop, drop_of_length-le}
use lib.Seq.{drop-cons, drop-drop, length-take-le}
use Rattle.slices.specs.Bytes.{bytes, starts}
use Rattle.slices.proofs.Runs.{starts_fits}
use Rattle.scan.specs.Ignorable.{Scans, seek}
use Rattle.std.proofs.Common.{Result, Ok, Err}
use Rattle.std.specs.Prelude.{Option, Some, None}
use Rattle.std.specs.Result.{MatchResult, IsErrAnd}
use Rattle.std.proofs.lemmas.Result.{err_from_is_err_and}
use Rattle.faults.specs.Fault.{fault}
use Rattle.faults.specs.declared.Fault.{Fault}
use Rattle.scan.proofs.Seek.{seek_past}
use Rattle.profile.specs.Places.{found}
use Rattle.profile.specs.Profile.{comment_fault}
use Rattle.profile.specs.After.{space, space_first, ended, instruction, commented, comment, misc, further, after_from, after_fault, Closes, Tells}
use Rattle.profile.proofs.Places.{found_there, found_none, some_found, none_found}

-- F of two faults says that the second is 29 at the place
pub closed_told : {key s : List ℕ} {at from : ℕ} {x r : Result ℕ Fault} {F : Fault → Fault → Type 0} → at < from → from ≤ length s → Scans (seek 29 key from) s from x
    → MatchResult x (λ p. r ≡ Ok p) (λ f. IsErrAnd r (F f)) → ((f g : Fault) → F f g → g ≡ fault 29 at) → Closes key s at from r
closed_told {key} {s} {at} {from} {x} {r} {F} h i c m t = go x refl m
  where
    go : (y : Result ℕ Fault) → x ≡ y → MatchResult y (λ p. r ≡ Ok p) (λ f. IsErrAnd r (F f)) → Closes key s at from r
    go (Ok p) e a =
        let d : Scans (seek 29 key from) s from (Ok p) = rw e at c in
        rw a record { is = rw (← d.is); onward = (omega (arith, d.onward.0, h), d.onward.1) }
    go (Err f) e a =
        let b = err_from_is_err_and r a in
        let z : b.0 ≡ fault 29 at = t f b.0 b.2 in
        rw (b.1, z) record { is = rw (← c.is, e); onward = omega arith }

pub instruction_told : {s : List ℕ} {at : ℕ} {r : Result ℕ Fault} → Closes (bytes "?>") s at (at + 2) r → Tells instruction s at r
unfolding instruction
instruction_told {s} {at} c = record { is = rw (drop-drop 2 at s, ← c.is); onward = c.onward }

-- what ends was closed, and what does not has the fault of the comment
ended_ok : (at : ℕ) {p : ℕ} (y : Result ℕ Fault) → Ok p ≡ ended at y → y ≡ Ok p
ended_ok at {p} (Ok q) e = sym e
ended_ok at {p} (Err f) e = let z : ◌≡◌ {A = Result ℕ Fault} (Ok p) (Err (fault 29 at)) = e in absurd cc

ended_err : (l : List ℕ) (at : ℕ) {f : Fault} (y : Result ℕ Fault) → Err f ≡ ended at y → Err f ≡ commented l at y
ended_err l at {f} (Ok q) e = let z : ◌≡◌ {A = Result ℕ Fault} (Err f) (Ok q) = e in absurd cc
ended_err l at {f} (Err g) e = e

module _ (s : List ℕ) (at : ℕ) {x : Result ℕ Fault} (c : Closes (bytes "-->") s at (at + 4) x) where
  pub comment_open : {f : Fault} → x ≡ Err f → Tells comment s at (Err f)
  unfolding comment
  comment_open {f} e =
      let d : Closes (bytes "-->") s at (at + 4) (Err f) = rw e at c in
      record { is = rw (drop-drop 4 at s) (ended_err (drop at s) at (seek 29 (bytes "-->") (at + 4) (drop (at + 4) s) (at + 4)) d.is); onward = d.onward }

  module _ {p : ℕ} (e : x ≡ Ok p) where
    closed : Closes (bytes "-->") s at (at + 4) (Ok p)
    closed = rw e at c

    sought : seek 29 (bytes "-->") (at + 4) (drop (at + 4) s) (at + 4) ≡ Ok p
    sought = ended_ok at (seek 29 (bytes "-->") (at + 4) (drop (at + 4) s) (at + 4)) closed.is

    pub comment_far : at + 7 ≤ p
    comment_far = let z = seek_past 29 (bytes "-->") (at + 4) (drop (at + 4) s) (at + 4) p sought in omega arith

    pub comment_end : p ≤ length s
    comment_end = closed.onward.1

    -- what the code asks on its way
    pub comment_three : 3 ≤ p
    comment_three = omega (arith, comment_far)

    pub comment_start : at + 4 ≤ p - 3
    comment_start = omega (arith, comment_far)

    pub comment_close : p - 3 ≤ length s
    comment_close = omega (arith, comment_end)

    long : length (take (p - 3 - (at + 4)) (drop (at + 4) s)) ≡ p - 3 - (at + 4)
    long = length-take-le (p - 3 - (at + 4)) (drop (at + 4) s) (rw (length-drop (at + 4) s) (omega (arith, comment_end)))

    abbrev inner : List ℕ
    inner = take (p - 3 - (at + 4)) (drop (at + 4) s)

    module _ {r : Option ℕ} (g : r ≡ found (length inner) (comment_fault inner)) where
      pub comment_inside : {f : ℕ} → r ≡ Some f → at + 4 + f < length s
      comment_inside q =
          let d = some_found g q in
          omega (arith, d.0, d.1, long, comment_end, comment_far)

      pub comment_breach : {b : Fault} {f : ℕ} → r ≡ Some f → b ≡ fault 29 (at + 4 + f) → Tells comment s at (Err b)
      unfolding comment
      comment_breach {f = f} q i =
          let d = some_found g q in
          record {
            is = rw (i, d.0, drop-drop 4 at s, sought, drop-drop 4 at s, lt-ltb (comment_fault inner) (length inner) d.1);
            onward = rw i (comment_inside q);
          }

      pub comment_closed : r ≡ None → Tells comment s at (Ok p)
      unfolding comment
      comment_closed q = record {
        is = rw (drop-drop 4 at s, sought, drop-drop 4 at s, le-ltb (comment_fault inner) (length inner) (none_found g q));
        onward = closed.onward;
      }

pub ruleset closes = (instruction_told, comment_open, comment_three, comment_start, comment_close, comment_inside, comment_breach, comment_closed, rules)

-- what stands at a place
module _ (s : List ℕ) (at : ℕ) (h : at < length s) {t : Bool} (a : t ≡ starts (bytes "<!--") (drop at s)) where
  pub comment_fits : t ≡ true → at + 4 ≤ length s
  comment_fits e = let n = starts_fits (bytes "<!--") (drop at s) (sym a ∙ e) in omega (arith, n, length-drop at s)

  pub misc_comment : {r : Result ℕ Fault} → t ≡ true → Tells comment s at r → Tells misc s at r
  unfolding misc
  misc_comment e c = record { is = c.is ∙ rw (← a, e); onward = c.onward }

  module _ (e : t ≡ false) {u : Bool} (b : u ≡ starts (bytes "<?") (drop at s)) where
    pub instruction_fits : u ≡ true → at + 2 ≤ length s
    instruction_fits f = let n = starts_fits (bytes "<?") (drop at s) (sym b ∙ f) in omega (arith, n, length-drop at s)

    pub misc_instruction : {r : Result ℕ Fault} → u ≡ true → Tells instruction s at r → Tells misc s at r
    unfolding misc
    misc_instruction f c = record { is = c.is ∙ rw (← a, e, ← b, f); onward = c.onward }

    module _ (f : u ≡ false) {v : Bool} (k : v ≡ space (get_or s at 0)) where
      first : space_first (drop at s) ≡ v
      first = rw (drop-cons s at 0 h) (sym k)

      pub misc_space : v ≡ true → Tells misc s at (Ok (at + 1))
      unfolding misc
      misc_space g = record { is = rw (← a, e, ← b, f, first, g, add-one); onward = (omega arith, omega arith) }

      pub misc_other : {b : Fault} → v ≡ false → b ≡ fault 29 at → Tells misc s at (Err b)
      unfolding misc
      misc_other g i = record { is = rw (i, ← a, e, ← b, f, first, g); onward = rw i h }

pub ruleset miscs = (comment_fits, misc_comment, instruction_fits, misc_instruction, misc_space, misc_other, rules)

-- bytes that are taken already are dropped
taken : (k : ℕ) (l : List ℕ) (at : ℕ) → k ≤ length l → after_from k l at ≡ after_from 0 (drop k l) (at + k)
taken zero l at h = rw add-zero
taken (suc k) [] at h = absurd (omega arith)
taken (suc k) (b ∷ l) at h =
    let e : suc at + k ≡ at + suc k = omega arith in
    rw (← e) (taken k l (suc at) (omega arith))

-- reading on that began at from and stands at at: what is left is what was asked
pub record Reading (s : List ℕ) (from at : ℕ) : Type 0 where
  pub left : after_fault (drop from s) from ≡ after_fault (drop at s) at
  pub inside : at ≤ length s

pub after_begins : {s : List ℕ} {from : ℕ} → from ≤ length s → Reading s from from
after_begins h = record { left = refl; inside = h }

module _ {s : List ℕ} {from at : ℕ} (g : Reading s from at) where
  pub after_ends : length s ≤ at → None ≡ found (length s) (after_fault (drop from s) from)
  after_ends h =
      let z : after_fault (drop from s) from ≡ at = unfold after_fault in g.left ∙ rw (drop_of_length-le s h) in
      sym (rw z (found_none (length s) at h))

  module _ (h : at < length s) {m : Result ℕ Fault} (c : Tells misc s at m) where
    step : after_fault (drop from s) from ≡ further m (λ p. after_from (p - suc at) (drop (suc at) s) (suc at))
    unfolding after_fault
    step = g.left ∙ rw (drop-cons s at 0 h) (rw (← d))
      where
        d : m ≡ misc (get_or s at 0 ∷ drop (suc at) s) at
        d = rw (drop-cons s at 0 h) at c.is

    pub after_stops : {f : Fault} → m ≡ Err f → Some f.place ≡ found (length s) (after_fault (drop from s) from)
    after_stops {f} e =
        let z : after_fault (drop from s) from ≡ f.place = step ∙ rw e in
        let d : Tells misc s at (Err f) = rw e at c in
        sym (rw z (found_there (length s) f.place d.onward))

    module _ {p : ℕ} (e : m ≡ Ok p) where
      on : Tells misc s at (Ok p)
      on = rw e at c

      pub after_more : Reading s from p
      after_more = record { left = step ∙ rw e (go (omega (arith, on.onward.0)) (omega (arith, on.onward.1))); inside = on.onward.1 }
        where
          go : suc at + (p - suc at) ≡ p → p - suc at ≤ length s - suc at → after_from (p - suc at) (drop (suc at) s) (suc at) ≡ after_fault (drop p s) p
          go q b = taken (p - suc at) (drop (suc at) s) (suc at) (rw length-drop b) ∙ rw (drop-drop (p - suc at) (suc at) s, q) (unfold after_fault in refl)

      pub after_less : length s - p < length s - at
      after_less = omega (arith, on.onward.0, on.onward.1)

pub ruleset afters = (after_begins, after_ends, after_stops, after_more, after_less, rules)
