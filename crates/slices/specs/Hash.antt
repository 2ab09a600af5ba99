-- The hash of bytes. Nothing is asked of it but that equal bytes have equal hashes.
use Rattle.std.specs.Prelude.{◌≡◌, ℕ, ◌+◌, ◌*◌, ◌%◌, List, [], ◌∷◌}

-- byte by byte, modulo 2^32
unfoldable pub mixed : ℕ → ℕ → ℕ
mixed h b = (h * 16777619 + b) % 4294967296

abbrev pub hash_from : ℕ → List ℕ → ℕ
hash_from h [] = h
hash_from h (b ∷ s) = hash_from (mixed h b) s

unfoldable pub hash_of : List ℕ → ℕ
hash_of s = hash_from 0 s

pub record HashIs (s : List ℕ) (r : ℕ) : Type 0 where
  pub is : r ≡ hash_of s
