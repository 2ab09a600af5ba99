-- The first fault of some bytes is the least of all: of names, values and comments.
use Prim.Native.Nat.{ℕ, suc, ◌+◌, ◌-◌, ◌≤◌, ◌<◌}
use mathlib.Core.Path.{◌≡◌, refl, ap, sym, ◌∙◌}
use mathlib.Core.List.{List, [], ◌∷◌}
use mathlib.Core.Bool.{Bool, true, false}
use borrow.Author.Tests.{lt-ltb, le-ltb}
use native.Mathlib.Decide.{dec_lt}
use native.Mathlib.Omega.{arith}
use lib.ListN.{length, take, drop}
use Rattle.std.specs.Prelude.{Option, Some, None, MatchOption}
use Rattle.std.specs.Option.{IsSomeAnd}
use Rattle.slices.specs.Bytes.{if}
use Rattle.profile.specs.Places.{first_place, found}
use Rattle.profile.specs.Profile.{name_fault}
use Rattle.profile.proofs.Places.{found_there, found_none, some_found, none_found}
use Rattle.breaches.specs.Least.{lesser, least}
use Rattle.breaches.specs.Breaches.{places_of, fault_at, in_name}

module _ (at f n : ℕ) where
  fault_there : f < n → Some (at + f) ≡ least (fault_at at f n)
  unfolding least lesser
  fault_there h = rw (lt-ltb f n h)

  fault_none : n ≤ f → None ≡ least (fault_at at f n)
  unfolding least
  fault_none h = rw (le-ltb f n h)

-- one byte further on
fault_on : (at f n : ℕ) → least (fault_at (suc at) f n) ≡ least (fault_at at (suc f) (suc n))
fault_on at f n = go (dec_lt f n)
  where
    go : Dec (f < n) → least (fault_at (suc at) f n) ≡ least (fault_at at (suc f) (suc n))
    go (yes h) =
        let e : suc at + f ≡ at + suc f = omega arith in
        sym (fault_there (suc at) f n h) ∙ rw e (fault_there at (suc f) (suc n) (omega arith))
    go (no h) = sym (fault_none (suc at) f n (omega arith)) ∙ fault_none at (suc f) (suc n) (omega arith)

-- a place is less than those further on
less_later : (at f n : ℕ) → lesser (Some at) (least (fault_at (suc at) f n)) ≡ Some at
unfolding lesser
less_later at f n = go (dec_lt f n)
  where
    go : Dec (f < n) → lesser (Some at) (least (fault_at (suc at) f n)) ≡ Some at
    go (yes h) = rw (← fault_there (suc at) f n h) (ap Some (omega arith))
    go (no h) = rw (← fault_none (suc at) f n (omega arith)) refl

pub first_least : (p : List ℕ → Bool) (s : List ℕ) (at : ℕ) → least (places_of p s at) ≡ least (fault_at at (first_place p s) (length s))
unfolding least
first_least p [] at = fault_none at 0 0 (omega arith)
first_least p (b ∷ l) at = go (p (b ∷ l)) (first_least p l (suc at))
  where
    go : (t : Bool) → least (places_of p l (suc at)) ≡ least (fault_at (suc at) (first_place p l) (length l)) → least (if t (at ∷ places_of p l (suc at)) (places_of p l (suc at))) ≡ least (fault_at at (if t 0 (suc (first_place p l))) (suc (length l)))
    go true h =
        let e : at ≡ at + 0 = omega arith in
        ap (lesser (Some at)) h ∙ less_later at (first_place p l) (length l) ∙ ap Some e ∙ fault_there at 0 (suc (length l)) (omega arith)
    go false h = h ∙ fault_on at (first_place p l) (length l)

-- a place that is found is the least
pub found_least : (n f : ℕ) → found n f ≡ least (fault_at 0 f n)
found_least n f = go (dec_lt f n)
  where
    go : Dec (f < n) → found n f ≡ least (fault_at 0 f n)
    go (yes h) = let z : f ≡ 0 + f = omega arith in found_there n f h ∙ ap Some z ∙ fault_there 0 f n h
    go (no h) = found_none n f (omega arith) ∙ fault_none 0 f n (omega arith)

-- it is told from where the bytes begin; F of two places says that the second is so much further on
shifted : (n f at : ℕ) {F : ℕ → ℕ → Type 0} (x r : Option ℕ) → x ≡ found n f → MatchOption x (r ≡ None) (λ p. IsSomeAnd r (F p)) → ((p q : ℕ) → F p q → q ≡ at + p) → r ≡ least (fault_at at f n)
shifted n f at None r e m t = m ∙ fault_none at f n (none_found e refl)
shifted n f at (Some p) (Some q) e m t =
    let d = some_found e refl in
    let z : q ≡ at + f = t p q m ∙ rw d.0 in
    rw z (fault_there at f n d.1)
shifted n f at (Some p) None e m t = absurd m

-- the bytes from a place to another
module _ (doc : List ℕ) (from to : ℕ) where
  abbrev part : List ℕ
  part = take (to - from) (drop from doc)

  module _ {x r : Option ℕ} {F : ℕ → ℕ → Type 0} (m : MatchOption x (r ≡ None) (λ p. IsSomeAnd r (F p))) (t : (p q : ℕ) → F p q → q ≡ from + p) where
    pub part_places : (p : List ℕ → Bool) → x ≡ found (length part) (first_place p part) → r ≡ least (places_of p part from)
    part_places p e = shifted (length part) (first_place p part) from x r e m t ∙ sym (first_least p part from)

    pub part_name : x ≡ found (length part) (name_fault part) → r ≡ least (in_name part from)
    unfolding in_name
    part_name e = shifted (length part) (name_fault part) from x r e m t
