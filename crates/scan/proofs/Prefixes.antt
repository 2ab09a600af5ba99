-- The colons of a name: they stand in it; a part without one, and a loop from colon to colon.
use Prim.Native.Nat.{ℕ, zero, suc, ◌+◌, ◌-◌, ◌≤◌, ◌<◌}
use mathlib.Core.Path.{◌≡◌, refl, sym, ◌∙◌}
use mathlib.Core.List.{List, [], ◌∷◌}
use mathlib.Core.Bool.{Bool, true, false, not, ◌&&◌}
use borrow.Author.Rules.{rules}
use borrow.Author.Tests.{ne_eqb}
use native.Mathlib.Decide.{dec_lt}
use native.Mathlib.Nat.{add-zero}
use native.Mathlib.Numerals.{add-one}
use native.Mathlib.Omega.{arith}
use lib.Dec.{eqb}
use lib.ListN.{length, take, drop, get_or, drop_of_length-le}
use lib.Seq.{take-nil, drop-cons, drop-drop}
use Rattle.std.proofs.Common.{Option, Some, None}
use Rattle.slices.specs.Bytes.{if, span}
use Rattle.slices.specs.Run.{Run}
use Rattle.slices.proofs.Runs.{run_past, run_stop}
use Rattle.slices.proofs.Ends.{run_span}
use Rattle.scan.specs.Classes.{name_byte, nc_name_byte}
use Rattle.scan.specs.Colons.{colons, colon_at, colons_from, Scanned}
use Rattle.scan.specs.declared.Colons.{Colons}
use Rattle.scan.specs.declared.Name.{Name}

-- the colons of a name stand in it
abbrev pub Within : ℕ → ℕ → Option Colons → Type 0
Within from to None = Unit {0}
Within from to (Some c) = (from ≤ c.first) × (c.first ≤ c.last) × (c.last < to)

pub colons_within : (n : List ℕ) (p : ℕ) → Within p (p + length n) (colons_from n p)
colons_within [] p = tt
colons_within (b ∷ n) p = go (eqb b 58) (colons_from n (suc p)) (colons_within n (suc p))
  where
    go : (t : Bool) (c : Option Colons) → Within (suc p) (suc p + length n) c → Within p (p + suc (length n)) (if t (colon_at p c) c)
    go true None h = (omega arith, omega arith, omega arith)
    go true (Some c) h = (omega arith, omega (arith, h.0, h.1), omega (arith, h.2))
    go false None h = tt
    go false (Some c) h = (omega (arith, h.0), h.1, omega (arith, h.2))

-- a name's byte that is no colon, and a byte that is neither
nc_name : (b : ℕ) → nc_name_byte b ≡ true → (name_byte b ≡ true) × (eqb b 58 ≡ false)
nc_name b e = go (name_byte b) (eqb b 58) e
  where
    go : (n c : Bool) → (n && not c) ≡ true → (n ≡ true) × (c ≡ false)
    go true false e = (refl, refl)
    go true true e = (cc, cc)
    go false c e = (cc, cc)

no_name : (b : ℕ) → nc_name_byte b ≡ false → eqb b 58 ≡ false → name_byte b ≡ false
no_name b e f = go (name_byte b) (eqb b 58) e f
  where
    go : (n c : Bool) → (n && not c) ≡ false → c ≡ false → n ≡ false
    go false c e f = refl
    go true true e f = cc
    go true false e f = cc

-- past a part without a colon the name ends where it did, and has the colons that it had
module _ {s : List ℕ} {from at : ℕ} (r : Run nc_name_byte s from at) where
  part_end : from + length (span name_byte (drop from s)) ≡ at + length (span name_byte (drop at s))
  part_end =
      run_past (λ l p. p + length (span name_byte l)) nc_name_byte
      (λ b l p e. let n = (nc_name b e).0 in rw n (omega arith))
      s from r

  part_colons : colons_from (span name_byte (drop from s)) from ≡ colons_from (span name_byte (drop at s)) at
  part_colons =
      run_past (λ l p. colons_from (span name_byte l) p) nc_name_byte
      (λ b l p e. let n = nc_name b e in rw (n.0, n.1))
      s from r

  -- where it is followed by no colon either, the name ends
  none_left : (at < length s → eqb (get_or s at 0) 58 ≡ false) → span name_byte (drop at s) ≡ []
  none_left h = go (dec_lt at (length s))
    where
      go : Dec (at < length s) → span name_byte (drop at s) ≡ []
      go (yes l) = rw (drop-cons s at 0 l, no_name (get_or s at 0) (run_stop r l) (h l))
      go (no l) = rw (drop_of_length-le s {i = at} (omega arith))

-- the end of a name, and its colons, where a part without one ends and none follows
module _ {s : List ℕ} {from at : ℕ} (r : Run nc_name_byte s from at) where
  bare : span name_byte (drop at s) ≡ [] → Scanned s from (record { end = at; colons = None })
  bare e = record {
    run = record { ends = sym (part_end r ∙ rw e (add-zero at)); onward = r.onward; within = r.within };
    colons = sym (part_colons r ∙ rw e);
  }

  pub name_ends : length s ≤ at → Scanned s from (record { end = at; colons = None })
  name_ends h = bare (none_left r (λ l. absurd (omega arith)))

  pub name_stops : (get_or s at 0 ≡ 58 → ⊥) → Scanned s from (record { end = at; colons = None })
  name_stops e = bare (none_left r (λ l. ne_eqb _ _ e))

  -- a colon follows: the name goes on
  pub name_prefixed : {n : Name} → Scanned s at n → Scanned s from n
  name_prefixed {n} g = record {
    run = record { ends = g.run.ends ∙ sym (part_end r); onward = omega (arith, r.onward, g.run.onward); within = g.run.within };
    colons = g.colons ∙ sym (part_colons r);
  }

-- what of a name stands from a place in it on
drop-take : (k m : ℕ) (l : List ℕ) → drop k (take m l) ≡ take (m - k) (drop k l)
drop-take zero m l = let z : m - 0 ≡ m = omega arith in rw z
drop-take (suc k) zero l = let z : 0 - suc k ≡ 0 = omega arith in rw z
drop-take (suc k) (suc m) [] = sym (take-nil (suc m - suc k))
drop-take (suc k) (suc m) (x ∷ l) = let z : suc m - suc k ≡ m - k = omega arith in rw z (drop-take k m l)

pub name_from : {s : List ℕ} {from at : ℕ} {n : Name} → Scanned s from n → from ≤ at → at ≤ n.end → take (n.end - at) (drop at s) ≡ drop (at - from) (span name_byte (drop from s))
name_from {s} {from} {at} {n} g h l =
    let a : n.end - from - (at - from) ≡ n.end - at = omega arith in
    let b : from + (at - from) ≡ at = omega arith in
    rw (run_span g.run, drop-take (at - from) (n.end - from) (drop from s), a, drop-drop (at - from) from s, b)

-- ---- a loop from colon to colon

-- those of what is left, after a first and a last
abbrev pub after : ℕ → ℕ → Option Colons → Option Colons
after first last None = Some (colons first last)
after first last (Some c) = Some (colons first c.last)

after_one : (p : ℕ) (c : Option Colons) → colon_at p c ≡ after p p c
after_one p None = refl
after_one p (Some c) = refl

after_more : (first last p : ℕ) (c : Option Colons) → after first last (colon_at p c) ≡ after first p c
after_more first last p None = refl
after_more first last p (Some c) = refl

-- from the first colon on, the last so far, and the end of the part after it: what is left of the name is what was asked
pub record Prefixed (s : List ℕ) (first last at : ℕ) : Type 0 where
  pub left : first + length (span name_byte (drop first s)) ≡ at + length (span name_byte (drop at s))
  pub colons : colons_from (span name_byte (drop first s)) first ≡ after first last (colons_from (span name_byte (drop at s)) at)
  pub stop : at < length s → nc_name_byte (get_or s at 0) ≡ false
  pub since : first ≤ at
  pub inside : at ≤ length s

-- a colon, and the part after it
module _ {s : List ℕ} {p : ℕ} (h : p < length s) (e : get_or s p 0 ≡ 58) {at : ℕ} (r : Run nc_name_byte s (p + 1) at) where
  colon_end : p + length (span name_byte (drop p s)) ≡ at + length (span name_byte (drop at s))
  colon_end =
      let q : suc p + length (span name_byte (drop (suc p) s)) ≡ at + length (span name_byte (drop at s)) = rw add-one at (part_end r) in
      rw (drop-cons s p 0 h, e) (omega (arith, q))

  colon_colons : colons_from (span name_byte (drop p s)) p ≡ colon_at p (colons_from (span name_byte (drop at s)) at)
  colon_colons =
      let q : colons_from (span name_byte (drop (suc p) s)) (suc p) ≡ colons_from (span name_byte (drop at s)) at = rw add-one at (part_colons r) in
      rw (drop-cons s p 0 h, e, q)

  pub prefixed_begins : Prefixed s p p at
  prefixed_begins = record {
    left = colon_end;
    colons = colon_colons ∙ after_one p (colons_from (span name_byte (drop at s)) at);
    stop = λ l. run_stop r l;
    since = omega (arith, r.onward);
    inside = r.within;
  }

  pub prefixed_more : {first last : ℕ} → Prefixed s first last p → Prefixed s first p at
  prefixed_more {first} {last} g = record {
    left = g.left ∙ colon_end;
    colons = g.colons ∙ rw colon_colons (after_more first last p (colons_from (span name_byte (drop at s)) at));
    stop = λ l. run_stop r l;
    since = omega (arith, g.since, r.onward);
    inside = r.within;
  }

  pub prefixed_less : length s - at < length s - p
  prefixed_less = omega (arith, r.onward)

module _ {s : List ℕ} {first last at : ℕ} (g : Prefixed s first last at) where
  done : span name_byte (drop at s) ≡ [] → Scanned s first (record { end = at; colons = Some (colons first last) })
  done e = record {
    run = record { ends = sym (g.left ∙ rw e (add-zero at)); onward = g.since; within = g.inside };
    colons = sym (g.colons ∙ rw e);
  }

  pub prefixed_ends : length s ≤ at → Scanned s first (record { end = at; colons = Some (colons first last) })
  prefixed_ends h = done (rw (drop_of_length-le s {i = at} h))

  pub prefixed_stops : at < length s → (get_or s at 0 ≡ 58 → ⊥) → Scanned s first (record { end = at; colons = Some (colons first last) })
  prefixed_stops h e = done (rw (drop-cons s at 0 h, no_name (get_or s at 0) (g.stop h) (ne_eqb _ _ e)))

-- what answers every need of `name_at` and `prefixed`
pub ruleset named = (name_ends, name_stops, name_prefixed, prefixed_begins, prefixed_more, prefixed_less, prefixed_ends, prefixed_stops, rules)
