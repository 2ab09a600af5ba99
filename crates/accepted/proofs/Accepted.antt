-- Of a document that is accepted: the rows that the reader leaves show what it read, are sound and in order, and say where their
-- elements begin, whatever stands after them in the buffers lent.
use Prim.Native.Nat.{ℕ, zero, suc, ◌-◌, ◌/◌, ◌≤◌, ◌<◌}
use mathlib.Core.Path.{◌≡◌, refl, sym, ap, ◌∙◌}
use mathlib.Core.List.{List, [], ◌++◌}
use mathlib.Core.Bool.{Bool, true, false, ◌||◌}
use borrow.Author.Tests.{le-ltb}
use native.Mathlib.Omega.{arith}
use lib.Dec.{ltb}
use lib.ListN.{length, replicate}
use Rattle.std.specs.Prelude.{Ok}
use Rattle.slices.specs.Bytes.{if}
use Rattle.utf8.specs.WellFormed.{ill_formed}
use Rattle.document.specs.Tags.{Shown}
use Rattle.document.specs.Rows.{Row, Tables, words_from, texts}
use Rattle.document.specs.Refusals.{bare}
use Rattle.document.specs.Elements.{whole}
use Rattle.document.specs.Reading.{State, begun, reading, accepted, refused, run}
use Rattle.document.specs.Whole.{Room, meaning, fitted, read, verdict_of, rows_left, Says}
use Rattle.document.specs.declared.Counts.{Counts}
use Rattle.document.specs.Verdict.{counts}
use Rattle.items.specs.Words.{RowWords, word_at}
use Rattle.items.specs.Order.{DocumentOrder}
use Rattle.items.proofs.Order.{document_in_order}
use Rattle.items.proofs.Rows.{row_word}
use Rattle.bounds.proofs.Whole as bounds
use Rattle.accepted.specs.Tables.{WordsShown, TablesSound, LeftShown, RowsInOrder, Begins, RowsBegin, RowsInDocumentOrder}
use Rattle.accepted.proofs.Order.{accepts_follow, words_ordered}
use Rattle.accepted.proofs.Folding.{meaning_accepts}
use Rattle.accepted.proofs.Values.{accepts_held}
use Rattle.accepted.proofs.Triples.{Within}
use Rattle.accepted.proofs.Rows.{rows_words, rows_show, row_back}
use Rattle.accepted.proofs.Frames.{Placed}
use Rattle.accepted.proofs.States.{blank, row_at, accepts_holds}
use Rattle.accepted.proofs.Members.{accepts_enough}
use Rattle.accepted.proofs.Soundness.{words_sound}

-- a text, and what stands after it
from_start : (x y : List ℕ) → Within (x ++ y) 0 x
from_start x y = record { before = []; rest = y; long = refl; is = refl }

pub words_shown : WordsShown
words_shown doc t e y z =
    rw (rows_words 0 t.rows z)
    (rows_show doc (texts t.rows ++ y) 0 t.rows (accepts_held doc (meaning_accepts doc t e)) (from_start (texts t.rows) y))

pub tables_sound : TablesSound
tables_sound doc t e y z =
    let a = meaning_accepts doc t e in
    let f = a.sound.utf8 in
    words_sound doc (texts t.rows ++ y) f t.rows (accepts_holds doc f a) (accepts_enough doc a) (accepts_held doc a) (from_start (texts t.rows) y) z (omega (arith, (bounds.room doc e).few, a.sound.small))

-- ---- with the room lent

fitted_accepts : (end : ℕ) (r : Room) (s : State Shown) (t : Tables Shown) → fitted end r s ≡ accepted t → s ≡ accepted t
fitted_accepts end r begun t e = e
fitted_accepts end r (reading fs u) t e = e
fitted_accepts end r (accepted u) t e =
    go (ltb (r.rows / 16) (length u.rows) || ltb (r.warnings / 4) (length u.warnings) || ltb r.text (length (texts u.rows))) e
  where
    go : (b : Bool) → if b (refused (bare 18 end)) (accepted u) ≡ accepted t → accepted u ≡ accepted t
    go true e = cc
    go false e = e
fitted_accepts end r (refused x) t e = e

pub read_accepts : (doc : List ℕ) (r : Room) (t : Tables Shown) → read doc r ≡ accepted t → meaning doc ≡ accepted t
unfolding read
read_accepts doc r t e = fitted_accepts (length doc) r (meaning doc) t e

-- a document that is short enough and UTF-8 means what its run comes to
pub means_run : (doc : List ℕ) → length doc ≤ 1048576 → ill_formed doc ≡ length doc → meaning doc ≡ run whole doc 0 begun
unfolding meaning
means_run doc s w = rw (le-ltb 1048576 (length doc) s, w, le-ltb (length doc) (length doc) (omega arith))

-- what it means is read where there is room for its rows, its warnings and their text
pub means_read : (doc : List ℕ) (r : Room) (t : Tables Shown) → meaning doc ≡ accepted t → length t.rows ≤ r.rows / 16 → length t.warnings ≤ r.warnings / 4 → length (texts t.rows) ≤ r.text → read doc r ≡ accepted t
unfolding read
means_read doc r t e a b c = rw e (rw (le-ltb (r.rows / 16) (length t.rows) a, le-ltb (r.warnings / 4) (length t.warnings) b, le-ltb r.text (length (texts t.rows)) c))

pub left_shown : LeftShown
left_shown doc r t e =
    rw e
    (words_shown doc t (read_accepts doc r t e) (replicate (r.text - length (texts t.rows)) 0) (replicate (r.rows - length (words_from 0 t.rows)) 0))

-- ---- words of rows

-- kind, parent's row plus one, and place
words_back : (rs : List (Row Shown)) (z : List ℕ) (i : ℕ) → i < length rs → (word_at (words_from 0 rs ++ z) i 0 ≡ (row_at rs i).kind) × (word_at (words_from 0 rs ++ z) i 1 ≡ (row_at rs i).parent) × (word_at (words_from 0 rs ++ z) i 15 ≡ (row_at rs i).at)
unfolding row_at
words_back rs z i l =
    let ws = words_from 0 rs ++ z in
    let e = (row_back rs blank z i l).1 in (
      sym (row_word i 0 ws) ∙ ap (λ (r : RowWords). r.kind) e,
      sym (row_word i 1 ws) ∙ ap (λ (r : RowWords). r.parent) e,
      sym (row_word i 15 ws) ∙ ap (λ (r : RowWords). r.at) e,
    )

-- what holds of the rows of a document that is accepted, whatever stands after them, holds of the rows that the reader leaves
of_rows : (P : List ℕ → List ℕ → ℕ → Type 0) → ((doc : List ℕ) (t : Tables Shown) → meaning doc ≡ accepted t → (z : List ℕ) → P doc (words_from 0 t.rows ++ z) (length t.rows)) → (doc rows warnings text : List ℕ) (room : Room) (n x w : ℕ) → Says doc room rows warnings text (Ok (counts n x w)) → P doc rows n
of_rows P h doc rows warnings text room n x w s = go (read doc room) refl s.verdict s.of_rows
  where
    go : (r : State Shown) → read doc room ≡ r → Ok (counts n x w) ≡ verdict_of r → rows ≡ rows_left room r → P doc rows n
    go begun q e f = let z : ◌≡◌ {A = ℕ} 0 1 = cc in absurd (omega arith)
    go (reading fs u) q e f = let z : ◌≡◌ {A = ℕ} 0 1 = cc in absurd (omega arith)
    go (accepted t) q e f =
        let k : counts n x w ≡ counts (length t.rows) (length (texts t.rows)) (length t.warnings) = cc in
        let l : n ≡ length t.rows = ap (λ (c : Counts). c.rows) k in
        rw (f, l) (h doc t (read_accepts doc room t q) (replicate (room.rows - length (words_from 0 t.rows)) 0))
    go (refused y) q e f = let z : ◌≡◌ {A = ℕ} 0 1 = cc in absurd (omega arith)

-- ---- in document order

ordered : (doc : List ℕ) (t : Tables Shown) → meaning doc ≡ accepted t → (z : List ℕ) → DocumentOrder (words_from 0 t.rows ++ z) (length t.rows)
ordered doc t e z = words_ordered t.rows z (λ i l. (words_back t.rows z i l).1) (accepts_follow doc (meaning_accepts doc t e))

pub rows_in_document_order : RowsInDocumentOrder
rows_in_document_order = of_rows (λ doc rows n. DocumentOrder rows n) ordered

pub rows_in_order : RowsInOrder
rows_in_order doc rows warnings text room n x w s = document_in_order rows n (rows_in_document_order doc rows warnings text room n x w s)

-- ---- where elements begin

-- a parent's row plus one is 0 for row 0 only
has_parent : (ks : ℕ → ℕ) (i k p : ℕ) → Placed ks i k p → 0 < i → 0 < p
has_parent ks zero k p h l = absurd (omega arith)
has_parent ks (suc i) k p h l = h.0

begun_at : (doc : List ℕ) (t : Tables Shown) → meaning doc ≡ accepted t → (z : List ℕ) (i : ℕ) → i < length t.rows → Begins doc (words_from 0 t.rows ++ z) i
begun_at doc t e z i l =
    let a = meaning_accepts doc t e in
    let h = accepts_holds doc a.sound.utf8 a in
    let w = words_back t.rows z i l in
    let o = h.tags i l in
    record {
      byte = rw w.2 o.byte;
      named = rw w.2 o.some;
      kind = λ m. rw (w.2, w.0) (o.kind (has_parent (λ j. (row_at t.rows j).kind) i (row_at t.rows i).kind (row_at t.rows i).parent (h.fine i l).0 m));
    }

pub rows_begin : RowsBegin
rows_begin = of_rows (λ doc rows n. (i : ℕ) → i < n → Begins doc rows i) begun_at
