-- The local name and the tp type, by the colons of a name.
use Prim.Native.Nat.{ℕ, suc, ◌-◌, ◌≤◌}
use mathlib.Core.Path.{◌≡◌, refl, ap}
use mathlib.Core.List.{List, [], ◌∷◌}
use mathlib.Core.Bool.{Bool, true, false, not, and-false}
use borrow.Author.Tests.{eqb-true, eq-eqb, ne_eqb}
use native.Mathlib.Omega.{arith}
use lib.Dec.{eqb}
use lib.ListN.{drop}
use Rattle.std.specs.Prelude.{Option, Some, None}
use Rattle.slices.specs.Bytes.{if, other, span, past, all, empty}
use Rattle.scan.specs.Colons.{colons, colon_at, colons_from}
use Rattle.scan.specs.declared.Colons.{Colons}
use Rattle.document.specs.Tags.{is_tp_type}
use Rattle.document.specs.Elements.{local_name}
use Rattle.document.specs.Prefixes.{local_start, tp_type_by, LocalNames, TpTypes}

-- one byte more before it
drop_more : (b : ℕ) (n : List ℕ) (p q : ℕ) → suc p ≤ q → drop (q - p) (b ∷ n) ≡ drop (q - suc p) n
drop_more b n p q h = let z : q - p ≡ suc (q - suc p) = omega arith in rw z

drop-one : (b : ℕ) (n : List ℕ) (p : ℕ) → drop (suc p - p) (b ∷ n) ≡ n
drop-one b n p = let z : suc p - p ≡ 1 = omega arith in rw z

drop_none : (n : List ℕ) (p : ℕ) → drop (p - p) n ≡ n
drop_none n p = let z : p - p ≡ 0 = omega arith in rw z

-- ---- the local name

-- a name with no colon is its own
whole : (n : List ℕ) → all (other 58) n ≡ true → local_name n ≡ n
whole [] h = refl
whole (b ∷ n) h = rw h

-- by the colons c of a name from p on
abbrev LocalBy : List ℕ → ℕ → Option Colons → Type 0
LocalBy n p None = all (other 58) n ≡ true
LocalBy n p (Some q) = (all (other 58) n ≡ false) × (p ≤ q.last) × (local_name n ≡ drop (suc q.last - p) n)

local_by : (n : List ℕ) (p : ℕ) → LocalBy n p (colons_from n p)
local_by [] p = refl
local_by (b ∷ n) p = go (eqb b 58) refl (colons_from n (suc p)) (local_by n (suc p))
  where
    go : (t : Bool) → eqb b 58 ≡ t → (c : Option Colons) → LocalBy n (suc p) c → LocalBy (b ∷ n) p (if t (colon_at p c) c)
    go true e None h = (rw e, omega arith, rw (e, drop-one b n p) (whole n h))
    go true e (Some q) h = (rw e, omega (arith, h.1), rw (e, drop_more b n p (suc q.last) (omega (arith, h.1))) h.2)
    go false e None h = rw e h
    go false e (Some q) h =
        (rw (e, h.0), omega (arith, h.1), rw (e, h.0, drop_more b n p (suc q.last) (omega (arith, h.1))) h.2)

pub local_names : LocalNames
local_names n p = go (colons_from n p) (local_by n p)
  where
    go : (c : Option Colons) → LocalBy n p c → local_name n ≡ drop (local_start p c - p) n
    go None h = rw (drop_none n p) (whole n h)
    go (Some q) h = h.2

-- ---- the tp type

-- by the colons c of a name from p on: what stands up to the first, and from it on
abbrev FirstBy : List ℕ → ℕ → Option Colons → Type 0
FirstBy n p None = past (other 58) n ≡ []
FirstBy n p (Some q) =
    (p ≤ q.first) × (empty (span (other 58) n) ≡ eqb q.first p) × (past (other 58) n ≡ 58 ∷ drop (suc q.first - p) n)

first_by : (n : List ℕ) (p : ℕ) → FirstBy n p (colons_from n p)
first_by [] p = refl
first_by (b ∷ n) p = go (eqb b 58) refl (colons_from n (suc p)) (first_by n (suc p))
  where
    here : eqb b 58 ≡ true → (last : ℕ) → FirstBy (b ∷ n) p (Some (colons p last))
    here e last = (omega arith, rw (e, eq-eqb p p refl), rw (e, drop-one b n p) (ap (λ (x : ℕ). x ∷ n) (eqb-true b 58 e)))

    go : (t : Bool) → eqb b 58 ≡ t → (c : Option Colons) → FirstBy n (suc p) c → FirstBy (b ∷ n) p (if t (colon_at p c) c)
    go true e None h = here e p
    go true e (Some q) h = here e q.last
    go false e None h = rw e h
    go false e (Some q) h = (
      omega (arith, h.0),
      rw (e, ne_eqb q.first p (λ w. absurd (omega (arith, h.0)))),
      rw (e, drop_more b n p (suc q.first) (omega (arith, h.0))) h.2,
    )

pub tp_type : TpTypes
tp_type n p = go (colons_from n p) (first_by n p)
  where
    go : (c : Option Colons) → FirstBy n p c → is_tp_type n ≡ tp_type_by n p c
    go None h = rw h (and-false (not (empty (span (other 58) n))))
    go (Some q) h = rw (h.1, h.2)
