-- The search for the first ill-formed sequence: what each way of a turn makes of what is left.
use Prim.Native.Nat.{ℕ, ◌+◌, ◌-◌, ◌≤◌, ◌<◌, ◌^◌}
use mathlib.Core.Path.{◌≡◌, sym, ◌∙◌}
use mathlib.Core.List.{List}
use borrow.Author.Rules.{rules}
use native.Mathlib.Nat.{add-zero}
use native.Mathlib.Omega.{arith}
use mir.Syntax.{w64}
use mir.Val.{Fits}
use lib.ListN.{length, take, drop, length-drop, take-append-drop, drop_of_length-le}
use lib.Seq.{drop-drop, length-take-le, get_or-take, get_or-drop}
use Rattle.utf8.specs.WellFormed.{sequence, ill_formed}
use Rattle.slices.specs.Run.{Run}
use Rattle.utf8.specs.Ascii.{Ascii, ascii}
use Rattle.utf8.specs.Trim.{Start}
use Rattle.utf8.proofs.Ascii.{ascii_run, run_low}
use Rattle.utf8.proofs.Texts.{Whole, whole, formed, whole_char, after_whole, sequence_char, sequence_none, ascii_whole}

-- the search has come to a place: what it asks is what is left from there
pub record Found (s : List ℕ) (at : ℕ) : Type 0 where
  pub left : ill_formed s ≡ at + ill_formed (drop at s)
  pub inside : at ≤ length s

-- past characters
passes : (s : List ℕ) (at n : ℕ) → n ≤ length s - at → Whole (take n (drop at s)) → ill_formed (drop at s) ≡ n + ill_formed (drop (at + n) s)
passes s at n h w =
    let e = after_whole (drop n (drop at s)) w in
    let k : length (take n (drop at s)) ≡ n = length-take-le n (drop at s) (rw (length-drop at s) h) in
    rw (take-append-drop n (drop at s), k, drop-drop n at s) at e

past_ascii : (s : List ℕ) (at r : ℕ) → Ascii s at r → ill_formed (drop at s) ≡ (r - at) + ill_formed (drop r s)
past_ascii s at r a =
    let e : at + (r - at) ≡ r = omega (arith, a.onward) in
    let k : length (take (r - at) (drop at s)) ≡ r - at = length-take-le (r - at) (drop at s) (rw (length-drop at s) (omega (arith, a.inside))) in
    rw e at (passes s at (r - at) (omega (arith, a.inside)) (ascii_whole (take (r - at) (drop at s))
    (λ i h. let g : i < r - at = rw k at h in
    rw (get_or-take (r - at) (drop at s) i 0 g, get_or-drop at s i 0) (a.low (at + i) (omega arith) (omega arith)))))

pub found_first : {s : List ℕ} {r : ℕ} → Start s r → Found s r
found_first {s} {r} b =
    let k : length (take r s) ≡ r = length-take-le r s b.inside in
    let z : 0 + r ≡ r = omega arith in
    record { left = rw z at (passes s 0 r (omega (arith, b.inside)) (whole (take r s) (b.is ∙ sym k))); inside = b.inside }

-- bytes below 128 are well-formed
pub start_ascii : {s : List ℕ} {r : ℕ} → Run ascii s 0 r → Start s r
start_ascii {s} {r} g =
    let a = run_low g in
    let k : length (take r s) ≡ r = length-take-le r s a.inside in
    let w : Whole (take r s) = ascii_whole (take r s) (λ i h. let g : i < r = rw k at h in rw (get_or-take r s i 0 g) (a.low i (omega arith) g)) in
    record { inside = a.inside; is = formed w ∙ k }

module _ {s : List ℕ} {at : ℕ} (f : Found s at) where
  pub found_end : length s ≤ at → at ≡ ill_formed s
  unfolding ill_formed
  found_end h = sym (f.left ∙ rw (drop_of_length-le s h) (add-zero at))

  module _ (n : ℕ) (e : n ≡ sequence (drop at s)) where
    pub found_stop : n ≡ 0 → at ≡ ill_formed s
    found_stop z = sym (f.left ∙ rw (sequence_none (drop at s) (sym e ∙ z)) (add-zero at))

    module _ (z : n ≡ 0 → ⊥) where
      pub room : at + n ≤ length s
      room = let c = sequence_char (drop at s) n e z in omega (arith, rw (length-drop at s) at c.1, f.inside)

      pub sum_fits : length s < 2 ^ 64 → Fits w64 (at + n)
      sum_fits h = let r = room in omega arith

      pub found_more : {r : ℕ} → Run ascii s (at + n) r → Found s r
      found_more {r} g = let a = run_low g in record {
        left =
            let c = sequence_char (drop at s) n e z in
            let p = passes s at n (rw (length-drop at s) at c.1) (whole_char c.0) in
            let q = past_ascii s (at + n) r a in
            omega (arith, f.left, p, q, a.onward);
        inside = a.inside;
      }

pub ruleset starts = (ascii_run, start_ascii, rules)

pub ruleset finds = (found_first, found_end, found_stop, room, sum_fits, found_more, rules)
