-- The tree of the rows that the reader leaves, whatever stands after them in the buffers.
use Prim.Native.Nat.{ℕ, zero, suc, ◌+◌, ◌*◌, ◌<◌}
use mathlib.Core.Path.{◌≡◌, refl, ap, sym, ◌∙◌}
use mathlib.Core.List.{List, [], ◌∷◌, ◌++◌, map, append-nil}
use mathlib.Core.Option.{none}
use mathlib.Core.Bool.{Bool, true, false}
use native.Mathlib.Omega.{arith}
use lib.ListN.{length, drop, get_or}
use lib.Seq.{drop-drop}
use Rattle.document.specs.Tags.{Shown}
use Rattle.document.specs.Rows.{Row, Tables, row_text, words_from, texts}
use Rattle.document.specs.Reading.{accepted}
use Rattle.document.specs.Whole.{meaning}
use Rattle.items.specs.Words.{row_of, viewed, rows_shown, shown_row}
use Rattle.items.specs.View.{view_row, text_shown}
use Rattle.items.specs.Content as content
use Rattle.accepted.proofs.Folding.{meaning_accepts}
use Rattle.accepted.proofs.Rows.{rows_from, rows_words}
use Rattle.accepted.proofs.Accepted.{words_shown}
use Rattle.trees.specs.Trees.{tree, Forest, more, joined, map_tree, map_forest}
use Rattle.trees.specs.Shape.{Link, link_of, types, args, members, annotations, nodes, grouped, chosen, stands, forest, under, shape_at}
use Rattle.trees.specs.Written.{Element, element_of, element_at, tree_at}
use Rattle.trees_read.specs.Statement.{tree_of}
use Rattle.trees_read.proofs.Regrown.{map_joined}
use Rattle.trees_read.proofs.Rooted.{accepts_rooted}

-- ---- trees of rows below n, whose elements are the same

module _ (e g : ℕ → Element) where
  joined_alike : (a b : Forest ℕ) → map_forest e a ≡ map_forest g a → map_forest e b ≡ map_forest g b → map_forest e (joined a b) ≡ map_forest g (joined a b)
  joined_alike a b p q =
      map_joined e a b
      ∙ ap (λ (x : Forest Element). joined x (map_forest e b)) p
      ∙ ap (joined (map_forest g a)) q
      ∙ sym (map_joined g a b)

  grouped_alike : (h : List ℕ → Forest ℕ) → ((ks : List ℕ) → map_forest e (h ks) ≡ map_forest g (h ks)) → map_forest e (grouped h) ≡ map_forest g (grouped h)
  grouped_alike h a =
      joined_alike (h types) _ (a types)
      (joined_alike (h args) _ (a args) (joined_alike (h members) _ (a members) (joined_alike (h annotations) _ (a annotations) (a nodes))))

  module _ (n : ℕ) (same : (i : ℕ) → i < n → e i ≡ g i) where
    forest_alike : (rs : List Link) (ks : List ℕ) (p k : ℕ) → k + length rs ≡ n → map_forest e (forest ks p k rs) ≡ map_forest g (forest ks p k rs)
    forest_alike [] ks p k l = refl
    forest_alike (r ∷ rs) ks p k l =
        go (stands ks p r) (same k (omega arith)) (grouped_alike (λ gs. forest gs (suc k) (suc k) rs) (λ gs. forest_alike rs gs (suc k) (suc k) (omega arith))) (forest_alike rs ks p (suc k) (omega arith))
      where
        go : (t : Bool) → e k ≡ g k → map_forest e (grouped (λ gs. forest gs (suc k) (suc k) rs)) ≡ map_forest g (grouped (λ gs. forest gs (suc k) (suc k) rs)) → map_forest e (forest ks p (suc k) rs) ≡ map_forest g (forest ks p (suc k) rs) → map_forest e (chosen t k (λ gs. forest gs (suc k) (suc k) rs) (forest ks p (suc k) rs)) ≡ map_forest g (chosen t k (λ gs. forest gs (suc k) (suc k) rs) (forest ks p (suc k) rs))
        go true a b c =
            ap (λ (x : Element). more (tree x (map_forest e (grouped (λ gs. forest gs (suc k) (suc k) rs)))) (map_forest e (forest ks p (suc k) rs))) a
            ∙ ap (λ (f : Forest Element). more (tree (g k) f) (map_forest e (forest ks p (suc k) rs))) b
            ∙ ap (more (tree (g k) (map_forest g (grouped (λ gs. forest gs (suc k) (suc k) rs))))) c
        go false a b c = c

    root_alike : (rs : List Link) → 0 < n → length rs ≡ n → map_tree e (tree 0 (under 0 rs)) ≡ map_tree g (tree 0 (under 0 rs))
    root_alike [] l m = absurd (omega arith)
    root_alike (r ∷ rs) l m =
        ap (λ (x : Element). tree x (map_forest e (under 0 (r ∷ rs)))) (same 0 l)
        ∙ ap (tree (g 0)) (grouped_alike (λ ks. forest ks 1 1 rs) (λ ks. forest_alike rs ks 1 1 (omega arith)))

-- ---- the rows of a document that is accepted

abbrev bare_row : content.Row
bare_row = record { kind = 0; parent = 0; name = none; value = none; tp = none; doc = none; word = 0; at = 0 }

shown_row_is : (doc x ws : List ℕ) (n i : ℕ) → i < n → get_or (rows_shown doc x ws n) i bare_row ≡ shown_row doc x ws i
shown_row_is doc x ws zero i l = absurd (omega arith)
shown_row_is doc x ws (suc n) zero l = refl
shown_row_is doc x ws (suc n) (suc i) l =
    let e : 16 + i * 16 ≡ suc i * 16 = omega arith in
    shown_row_is doc x (drop 16 ws) n i (omega arith)
    ∙ ap (λ (k : List ℕ). viewed doc x (row_of k)) (drop-drop (i * 16) 16 ws ∙ ap (λ (k : ℕ). drop k ws) e)

links_long : (m : ℕ) (rs : List (Row Shown)) → length (map link_of (rows_from m rs)) ≡ length rs
links_long m [] = refl
links_long m (r ∷ rs) = ap suc (links_long (m + length (row_text r)) rs)

module _ (doc : List ℕ) (u : Tables Shown) (e : meaning doc ≡ accepted u) where
  abbrev known : ℕ → Element
  known i = element_of doc (get_or (map (view_row text_shown) u.rows) i bare_row)

  left_known : (y z : List ℕ) → tree_at doc (texts u.rows ++ y) (words_from 0 u.rows ++ z) (length u.rows) 0 ≡ map_tree known (tree 0 (under 0 (map link_of (rows_from 0 u.rows))))
  unfolding shape_at
  left_known y z =
      let x = texts u.rows ++ y in
      let ws = words_from 0 u.rows ++ z in
      ap (λ rs. map_tree (element_at doc x ws) (tree 0 (under 0 (map link_of rs)))) (rows_words 0 u.rows z)
      ∙ root_alike (element_at doc x ws) known (length u.rows)
      (λ i l. ap (element_of doc) (sym (shown_row_is doc x ws (length u.rows) i l) ∙ ap (λ rs. get_or rs i bare_row) (words_shown doc u e y z)))
      (map link_of (rows_from 0 u.rows))
      (accepts_rooted doc (meaning_accepts doc u e))
      (links_long 0 u.rows)

  pub left_tree : (y z : List ℕ) → tree_at doc (texts u.rows ++ y) (words_from 0 u.rows ++ z) (length u.rows) 0 ≡ tree_of doc u
  left_tree y z = left_known y z ∙ sym (rw (append-nil (texts u.rows), append-nil (words_from 0 u.rows)) at (left_known [] []))
