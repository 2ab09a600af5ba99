-- Words put into the output: one, those of a block's column, those of a block, those of all rows.
use Rattle.std.proofs.Common.{◌≡◌, ℕ, zero, suc, ◌+◌, ◌-◌, ◌*◌, ◌%◌, ◌^◌, ◌<◌, ◌≤◌, List, length, get_or, set, refl, ◌∙◌, add-one, arith, length-set, get_or-set_other, get_or-set_same, w64, Fits, rules}
use native.Mathlib.Decide.{dec_lt}
use Rattle.columns.specs.Words.{less, in_rows, in_columns, difference, restored}
use Rattle.columns.specs.Put.{Roomy, Block, Puts, Apart, word_above, restored_above, Below}
use Rattle.columns.specs.Statement.{Words}
use Rattle.columns.proofs.Wrapped.{wrapped_none}
use Rattle.columns.specs.Places.{column_before, column_inside, row_inside, columns_apart, rows_apart}

module _ {place f : ℕ → ℕ → ℕ} where
  pub no_rows : {j m a : ℕ} {t : List ℕ} → Puts place f j m a a t t
  no_rows = record { same = refl; here = λ k r h l b c. absurd (omega arith); other = λ p h. refl }

  pub no_words : {j a n : ℕ} {t : List ℕ} → Puts place f j j a n t t
  no_words = record { same = refl; here = λ k r h l b c. absurd (omega arith); other = λ p h. refl }

  pub one_put : {k r : ℕ} {t : List ℕ} (v : ℕ) → place k r < length t → v ≡ f k r → Puts place f k (k + 1) r (r + 1) t (set t (place k r) v)
  one_put {k} {r} {t} v l e = record {
    same = length-set t (place k r) v;
    here = λ j s h b c d.
        let p : j ≡ k = omega arith in
        let q : s ≡ r = omega arith in
        rw (p, q) (get_or-set_same t (place k r) v 0 l ∙ e);
    other = λ p h. get_or-set_other t (place k r) p v 0 (h k r (omega arith) (omega arith) (omega arith) (omega arith));
  }

  module _ {R : ℕ} (apart : Apart place R) {j m a n : ℕ} {t t' t'' : List ℕ} where
    -- more rows of the same words
    pub rows_joined : {b : ℕ} → m ≤ 16 → n ≤ R → a ≤ b → b ≤ n → Puts place f j m a b t t' → Puts place f j m b n t' t'' → Puts place f j m a n t t''
    rows_joined {b} w l q o g g' = record {
      same = g'.same ∙ g.same;
      here = λ k r h i c d. go k r h i c d (dec_lt r b);
      other = λ p h.
          g'.other p (λ k r x y z u. h k r x y (omega arith) u)
          ∙ g.other p (λ k r x y z u. h k r x y z (omega arith));
    }
      where
        go : (k r : ℕ) → j ≤ k → k < m → a ≤ r → r < n → Dec (r < b) → get_or t'' (place k r) 0 ≡ f k r
        go k r h i c d (yes e) =
            g'.other (place k r)
            (λ k' r' x y z u v. let s = (apart k k' r r' (omega arith) (omega arith) (omega arith) (omega arith) v).1 in omega arith)
            ∙ g.here k r h i c e
        go k r h i c d (no e) = g'.here k r h i (omega arith) d

    -- more words of the same rows
    pub words_joined : {i : ℕ} → m ≤ 16 → n ≤ R → j ≤ i → i ≤ m → Puts place f j i a n t t' → Puts place f i m a n t' t'' → Puts place f j m a n t t''
    words_joined {i} w l q o g g' = record {
      same = g'.same ∙ g.same;
      here = λ k r h b c d. go k r h b c d (dec_lt k i);
      other = λ p h.
          g'.other p (λ k r x y z u. h k r (omega arith) y z u)
          ∙ g.other p (λ k r x y z u. h k r x (omega arith) z u);
    }
      where
        go : (k r : ℕ) → j ≤ k → k < m → a ≤ r → r < n → Dec (k < i) → get_or t'' (place k r) 0 ≡ f k r
        go k r h b c d (yes e) =
            g'.other (place k r)
            (λ k' r' x y z u v. let s = (apart k k' r r' (omega arith) (omega arith) (omega arith) (omega arith) v).0 in omega arith)
            ∙ g.here k r h e c d
        go k r h b c d (no e) = g'.here k r (omega arith) b c d

-- ---- the word above

pub above_none : {r : ℕ} (k : ℕ) (xs : List ℕ) → r ≡ 0 → 0 ≡ word_above xs k r
above_none k xs e = rw e refl

pub above_some : (r k : ℕ) (xs : List ℕ) → (r ≡ 0 → ⊥) → get_or xs ((r - 1) * 16 + k) 0 ≡ word_above xs k r
above_some zero k xs h = absurd (h refl)
above_some (suc r) k xs h =
    let e : suc r - 1 ≡ r = omega arith in
    rw e

-- v is what is put at row r, where b is the word above that row
difference_is : (xs : List ℕ) (k r b v : ℕ) → Words xs → b ≡ word_above xs k r → v ≡ less (get_or xs (in_rows k r) 0) b → v ≡ difference xs k r
difference_is xs k zero b v w e q = omega (arith, w (in_rows k 0))
difference_is xs k (suc r) b v w e q = q ∙ rw e

restored_is : (R : ℕ) (xs : List ℕ) (k r b v : ℕ) → Words xs → b ≡ restored_above R xs k r → v ≡ (b + get_or xs (in_columns R k r) 0) % 2 ^ 32 → v ≡ restored R xs k r
restored_is R xs k zero b v w e q = q ∙ rw e (wrapped_none _ (w (in_columns R k 0)))
restored_is R xs k (suc r) b v w e q = q ∙ rw e

-- ---- the loop that puts a column of a block, before row r: b is the word above that row

pub record ColumnGoing (R k : ℕ) (xs : List ℕ) (a n : ℕ) (t₀ t : List ℕ) (b r : ℕ) : Type 0 where
  pub puts : Puts (in_columns R) (difference xs) k (k + 1) a r t₀ t
  pub last : b ≡ word_above xs k r
  pub after : a ≤ r
  pub within : r ≤ n

pub column_begins : {R k a n b : ℕ} {xs t : List ℕ} → a ≤ n → b ≡ word_above xs k a → ColumnGoing R k xs a n t t b a
column_begins h e = record { puts = no_rows; last = e; after = omega arith; within = h }

module _ {R k a n b r : ℕ} {xs t₀ t : List ℕ} (g : ColumnGoing R k xs a n t₀ t b r) where
  pub column-more : Roomy R xs t₀ → Block a n R → k < 16 → r < n → Words xs → (v : ℕ) → v ≡ less (get_or xs (in_rows k r) 0) b → ColumnGoing R k xs a n t₀ (set t (in_columns R k r) v) (get_or xs (in_rows k r) 0) (r + 1)
  column-more y z h l w v q = record {
    puts = rows_joined {place = in_columns R} {f = difference xs} (columns_apart R) (omega arith) (omega (arith, z.within)) g.after (omega arith) g.puts
        (one_put {place = in_columns R} {f = difference xs} v (omega (arith, column_inside R k r h (omega (arith, z.within)), y.room, g.puts.same)) (difference_is xs k r b v w g.last q));
    last = rw add-one;
    after = omega (arith, g.after);
    within = omega arith;
  }

  pub column_ends : n ≤ r → Puts (in_columns R) (difference xs) k (k + 1) a n t₀ t
  column_ends h =
      let e : r ≡ n = omega (arith, g.within) in
      rw e at g.puts

-- ---- the loop that puts a word of each row of a block, before row r: b is the word above that row

pub record WordsGoing (R k : ℕ) (xs : List ℕ) (a n : ℕ) (t₀ t : List ℕ) (b r : ℕ) : Type 0 where
  pub puts : Puts in_rows (restored R xs) k (k + 1) a r t₀ t
  pub last : b ≡ restored_above R xs k r
  pub after : a ≤ r
  pub within : r ≤ n

pub words_begin : {R k a n b : ℕ} {xs t : List ℕ} → a ≤ n → b ≡ word_above t k a → word_above t k a ≡ restored_above R xs k a → WordsGoing R k xs a n t t b a
words_begin h e q = record { puts = no_rows; last = e ∙ q; after = omega arith; within = h }

module _ {R k a n b r : ℕ} {xs t₀ t : List ℕ} (g : WordsGoing R k xs a n t₀ t b r) where
  pub words_more : Roomy R xs t₀ → Block a n R → k < 16 → r < n → Words xs → (v : ℕ) → v ≡ (b + get_or xs (in_columns R k r) 0) % 2 ^ 32 → WordsGoing R k xs a n t₀ (set t (in_rows k r) v) v (r + 1)
  words_more y z h l w v q =
      let e : v ≡ restored R xs k r = restored_is R xs k r b v w g.last q in
      record {
        puts = rows_joined {place = in_rows} {f = restored R xs} (rows_apart R) (omega arith) (omega (arith, z.within)) g.after (omega arith) g.puts
            (one_put {place = in_rows} {f = restored R xs} v (omega (arith, row_inside R k r h (omega (arith, z.within)), y.room, g.puts.same)) e);
        last = rw add-one e;
        after = omega (arith, g.after);
        within = omega arith;
      }

  pub words_end : n ≤ r → Puts in_rows (restored R xs) k (k + 1) a n t₀ t
  words_end h =
      let e : r ≡ n = omega (arith, g.within) in
      rw e at g.puts

-- what is put of the row above a block is the word above it
pub below_above : (R : ℕ) (xs : List ℕ) {t : List ℕ} (a k : ℕ) → Below in_rows (restored R xs) a t → k < 16 → word_above t k a ≡ restored_above R xs k a
below_above R xs zero k b h = refl
below_above R xs (suc a) k b h = b.above k a h refl

-- ---- a column's place is a number that fits, and inside

module _ {R : ℕ} {xs t₀ : List ℕ} (y : Roomy R xs t₀) where
  pub from_fits : (k : ℕ) → k < 16 → Fits w64 (k * R)
  from_fits k h = record { fits = omega (arith, column_before R k h, y.few) }

  module _ {a n : ℕ} (z : Block a n R) (k r : ℕ) (h : k < 16) (l : r < n) where
    inside : k * R + r < R * 16
    inside = column_inside R k r h (omega (arith, z.within))

    pub place_fits : Fits w64 (k * R + r)
    place_fits = record { fits = omega (arith, inside, y.few) }

    pub bytes_fit : Fits w64 ((k * R + r) * 4)
    bytes_fit = record { fits = omega (arith, inside, y.few) }

    pub place_held : k * R + r < length xs
    place_held = omega (arith, inside, y.held)

    pub place_room : (t : List ℕ) → length t ≡ length t₀ → k * R + r < length t
    place_room t e = omega (arith, inside, y.room)

pub ruleset putting = (below_above, above_none, above_some, column_begins, column_ends, words_begin, words_end, from_fits, place_fits, bytes_fit, place_held, place_room, rules)
