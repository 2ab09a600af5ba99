-- What a function that counts the bytes it puts needs.
use Rattle.std.specs.Prelude.{ℕ, ◌+◌, ◌<◌, ◌^◌}

-- there is room to count so many more
pub record CountFits (n more : ℕ) : Type 0 where
  pub fits : n + more < 2 ^ 62
