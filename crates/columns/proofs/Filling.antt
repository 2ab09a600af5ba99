-- The loops over the words of a block and over the blocks, and what they have put when they end.
use Rattle.std.proofs.Common.{◌≡◌, ℕ, ◌+◌, ◌<◌, ◌≤◌, List, ◌∙◌, arith, rules}
use Rattle.tables.specs.Table.{Rep}
use Rattle.columns.specs.Put.{Roomy, Block, Puts, Apart, Below, Lays}
use Rattle.columns.proofs.Putting.{no_rows, no_words, rows_joined, words_joined}

-- the words before m of the rows from a on before n are put
pub record Going (place f : ℕ → ℕ → ℕ) (m a n : ℕ) (t₀ t : List ℕ) : Type 0 where
  pub puts : Puts place f 0 m a n t₀ t
  pub within : m ≤ 16

-- all words of the rows before n are put
pub record Filled (place f : ℕ → ℕ → ℕ) (R n : ℕ) (t₀ t : List ℕ) : Type 0 where
  pub puts : Puts place f 0 16 0 n t₀ t
  pub few : n ≤ R

module _ {place f : ℕ → ℕ → ℕ} {t : List ℕ} where
  pub going_none : {a n : ℕ} → Going place f 0 a n t t
  going_none = record { puts = no_words; within = omega arith }

  pub filled_none : {R : ℕ} → Filled place f R 0 t t
  filled_none = record { puts = no_rows; few = omega arith }

module _ {place f : ℕ → ℕ → ℕ} {t₀ t : List ℕ} where
  pub going_end : {m a n : ℕ} → Going place f m a n t₀ t → 16 ≤ m → Puts place f 0 16 a n t₀ t
  going_end {m} g h =
      let e : m ≡ 16 = omega (arith, g.within) in
      rw e at g.puts

  pub going_ready : {m a n R : ℕ} {xs : List ℕ} → Going place f m a n t₀ t → Roomy R xs t₀ → Roomy R xs t
  going_ready g y = record { few = y.few; held = y.held; room = rw g.puts.same y.room }

  pub filled_ready : {n R : ℕ} {xs : List ℕ} → Filled place f R n t₀ t → Roomy R xs t₀ → Roomy R xs t
  filled_ready g y = record { few = y.few; held = y.held; room = rw g.puts.same y.room }

  -- all words of the row above are put
  pub filled_below : {n R : ℕ} → Filled place f R n t₀ t → Below place f n t
  filled_below g = record { above = λ k r h e. g.puts.here k r (omega arith) h (omega arith) (omega arith) }

module _ {place f : ℕ → ℕ → ℕ} {R : ℕ} (apart : Apart place R) {t₀ t : List ℕ} where
  module _ {t' : List ℕ} where
    pub going_more : {m a n : ℕ} → Going place f m a n t₀ t → Block a n R → m < 16 → Puts place f m (m + 1) a n t t' → Going place f (m + 1) a n t₀ t'
    going_more g z b p = record {
      puts = words_joined {place = place} {f = f} apart (omega arith) z.within (omega arith) (omega arith) g.puts p;
      within = omega arith;
    }

    pub filled_more : {a n : ℕ} → Filled place f R a t₀ t → a < n → n ≤ R → Puts place f 0 16 a n t t' → Filled place f R n t₀ t'
    filled_more g h l p = record {
      puts = rows_joined {place = place} {f = f} apart (omega arith) l (omega arith) (omega arith) g.puts p;
      few = l;
    }

  -- the row above a block stays as it is while the block is put
  pub going_below : {m a n : ℕ} → Going place f m a n t₀ t → Block a n R → Below place f a t₀ → Below place f a t
  going_below {m} {a} {n} g z b = record {
    above = λ k r h e.
        g.puts.other (place k r)
        (λ k' r' x y u v w.
        let s : r ≡ r' = (apart k k' r r' h (omega (arith, g.within)) (omega (arith, z.order, z.within)) (omega (arith, z.within)) w).1 in
        omega arith)
        ∙ b.above k r h e;
  }

pub filled_end : {place : ℕ → ℕ → ℕ → ℕ} {word : ℕ → List ℕ → ℕ → ℕ → ℕ} {words : ℕ → List ℕ → List ℕ} {R n : ℕ} {xs t₀ t : List ℕ} → Lays place word words → Filled (place R) (word R xs) R n t₀ t → R ≤ n → Rep 16 t R (words R xs)
filled_end {R = R} {n} {xs} {t₀} {t} y g h = y.whole R xs t (λ k r b l. g.puts.here k r (omega arith) b (omega arith) (omega (arith, h)))

pub block_of : {a n R : ℕ} → (a < n) × (n ≤ R) → Block a n R
block_of h = record { order = omega (arith, h); within = h.1 }

pub ruleset filling = (going_none, filled_none, going_end, going_ready, filled_ready, filled_below, going_more, filled_more, going_below, filled_end, block_of, rules)
