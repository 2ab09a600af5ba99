-- The rows of a table, read back from its words: they show what was kept.
use Prim.Native.Nat.{ℕ, zero, suc, ◌+◌, ◌*◌, ◌<◌}
use mathlib.Core.Path.{◌≡◌, refl, sym, ap, ◌∙◌}
use mathlib.Core.List.{List, [], ◌∷◌, ◌++◌, map, append_assoc}
use native.Mathlib.Omega.{arith}
use lib.ListN.{length, drop, get_or}
use lib.Seq.{drop_at}
use Rattle.document.specs.Tags.{Shown}
use Rattle.document.specs.Rows.{Row, row_text, row_words, words_from, texts}
use Rattle.rows.proofs.Words.{length_row_words}
use Rattle.items.specs.Words.{RowWords, row_of, rows_of, viewed}
use Rattle.items.specs.View.{view_row, text_shown}
use Rattle.items.proofs.Rows.{row-at}
use Rattle.accepted.proofs.Values.{RowsHeld}
use Rattle.accepted.proofs.Triples.{words_of, row_of_words, Within, within_first, within_more, row_shown}

-- of rows before which n bytes of text stand
abbrev pub rows_from : ℕ → List (Row Shown) → List RowWords
rows_from n [] = []
rows_from n (r ∷ rs) = words_of n r ∷ rows_from (n + length (row_text r)) rs

pub rows_words : (n : ℕ) (rs : List (Row Shown)) (z : List ℕ) → rows_of (length rs) (words_from n rs ++ z) ≡ rows_from n rs
rows_words n [] z = refl
rows_words n (r ∷ rs) z =
    let m = n + length (row_text r) in
    let rest = words_from m rs ++ z in
    let e : (row_words n r ++ words_from m rs) ++ z ≡ row_words n r ++ rest = append_assoc (row_words n r) (words_from m rs) z in
    ap (λ (k : List ℕ). row_of k ∷ rows_of (length rs) (drop 16 k)) e
    ∙ rw (row_of_words n r rest, drop_at (row_words n r) rest 16 (length_row_words n r), rows_words m rs z)

pub rows_show : (doc x : List ℕ) (n : ℕ) (rs : List (Row Shown)) → RowsHeld doc rs → Within x n (texts rs) → map (viewed doc x) (rows_from n rs) ≡ map (view_row text_shown) rs
rows_show doc x n [] h w = refl
rows_show doc x n (r ∷ rs) h w =
    rw (row_shown doc x r h.0 (within_first (row_text r) (texts rs) w), rows_show doc x (n + length (row_text r)) rs h.1 (within_more (row_text r) (texts rs) w))

-- row i, read back
pub row_back : (rs : List (Row Shown)) (blank : Row Shown) (z : List ℕ) (i : ℕ) → i < length rs → (m : ℕ) × (row_of (drop (i * 16) (words_from 0 rs ++ z)) ≡ words_of m (get_or rs i blank))
row_back rs blank z i l =
    let b = from 0 rs i l in
    let e : row_of (drop (i * 16) ws) ∷ drop (suc i) (rows_of (length rs) ws) ≡ words_of b.0 (get_or rs i blank) ∷ b.1 = sym (row-at (length rs) i ws l) ∙ ap (drop i) (rows_words 0 rs z) ∙ b.2 in
    (b.0, cc)
  where
    ws : List ℕ
    ws = words_from 0 rs ++ z

    from : (n : ℕ) (rs : List (Row Shown)) (i : ℕ) → i < length rs → (m : ℕ) × (ss : List RowWords) × (drop i (rows_from n rs) ≡ words_of m (get_or rs i blank) ∷ ss)
    from n [] i l = absurd (omega arith)
    from n (r ∷ rs) zero l = (n, rows_from (n + length (row_text r)) rs, refl)
    from n (r ∷ rs) (suc i) l = from (n + length (row_text r)) rs i (omega arith)
