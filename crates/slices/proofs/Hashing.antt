-- The hash of bytes: what the loop over them knows.
use Rattle.std.proofs.Common.{◌≡◌, ℕ, ◌+◌, ◌<◌, ◌≤◌, List, length, get_or, drop, sym, refl, ap, ◌∙◌, add-one, drop_of_length-le, drop-cons, rules}
use Rattle.slices.specs.Hash.{mixed, hash_from, hash_of, HashIs}

-- what is left to hash makes the hash of all
pub record Hashing (s : List ℕ) (i h : ℕ) : Type 0 where
  pub rest : hash_from h (drop i s) ≡ hash_of s

pub hashing_begins : {s : List ℕ} → Hashing s 0 0
unfolding hash_of
hashing_begins = record { rest = refl }

module _ {s : List ℕ} {i h : ℕ} (g : Hashing s i h) where
  pub hashing_ends : length s ≤ i → HashIs s h
  hashing_ends l = record { is = sym (ap (hash_from h) (drop_of_length-le s {i = i} l)) ∙ g.rest }

  pub hashing_more : {r : ℕ} → i < length s → r ≡ mixed h (get_or s i 0) → Hashing s (i + 1) r
  hashing_more l e = record { rest = rw (e, add-one) (sym (ap (hash_from h) (drop-cons s i 0 l)) ∙ g.rest) }

pub ruleset hashing = (hashing_begins, hashing_ends, hashing_more, rules)
