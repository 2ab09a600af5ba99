-- The words of a row, and what its triples show.
use Prim.Native.Nat.{ℕ, ◌*◌}
use mathlib.Core.Path.{◌≡◌, sym, ◌∙◌, refl}
use mathlib.Core.List.{List, []}
use lib.ListN.{drop, get_or}
use mathlib.Core.Option.{none, some}
use mathlib.Core.Bool.{Bool, true, false, ◌&&◌}
use borrow.Author.Tests.{eqb-true}
use native.Mathlib.Omega.{arith}
use lib.Dec.{eqb}
use Rattle.slices.specs.Bytes.{if}
use Rattle.tables.specs.Triple.{shown}
use Rattle.tables.specs.declared.Triple.{Triple}
use Rattle.items.specs.Words.{Word, word_at, absent, shown_by}
use Rattle.items.specs.Content.{present}
use Rattle.items.proofs.Rows.{row_word}

-- a word, as the definition has it
pub word_is : {ws : List ℕ} {i k v : ℕ} → Word ws i k v → v ≡ word_at ws i k
word_is w = w.is

-- a word, as one of the words that begin with the row
pub word_in : {ws : List ℕ} {i k a : ℕ} → Word ws i k a → a ≡ get_or (drop (i * 16) ws) k 0
word_in {ws} {i} {k} w = w.is ∙ sym (row_word i k ws)

-- a triple that is absent shows nothing
shows_none : (d x : List ℕ) (t : Triple) → absent t ≡ true → shown d x t ≡ []
unfolding shown
shows_none d x t e = go (eqb t.source 0) refl e
  where
    go : (b : Bool) → eqb t.source 0 ≡ b → b && eqb t.start 0 && eqb t.len 0 ≡ true → shown d x t ≡ []
    go true b e = rw (eqb-true t.source 0 b)
    go false b e = let z : ◌≡◌ {A = ℕ} 0 1 = cc in absurd (omega arith)

-- the text of a row, there or not
pub present_shown : (d x : List ℕ) (t : Triple) → present (shown_by d x t) ≡ shown d x t
present_shown d x t = go (absent t) refl
  where
    go : (b : Bool) → absent t ≡ b → present (if b none (some (shown d x t))) ≡ shown d x t
    go true e = sym (shows_none d x t e)
    go false e = refl
