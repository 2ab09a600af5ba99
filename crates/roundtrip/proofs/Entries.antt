-- What the statements say of the tables that the reader leaves, and of what the entries say.
use Prim.Native.Nat.{ℕ, ◌+◌, ◌-◌}
use native.Mathlib.Omega.{arith}
use mathlib.Core.Path.{◌≡◌, refl, ap, ◌∙◌}
use mathlib.Core.List.{List, [], ◌∷◌, ◌++◌, append-nil}
use mathlib.Core.Option.{Option, none, some}
use mathlib.Core.Bool.{Bool, true, false, ◌||◌}
use lib.Dec.{ltb}
use lib.ListN.{length, take, replicate}
use lib.Seq.{take_at}
use Rattle.std.specs.Prelude.{Ok}
use Rattle.slices.specs.Bytes.{if}
use Rattle.answers.specs.Text.{Text, text, wrong, answer_of, left_of}
use Rattle.document.specs.Rows.{words_from, texts}
use Rattle.document.specs.Whole.{Room, verdict_of, filled, Says}
use Rattle.document.specs.Verdict.{Verdict, counts}
use Rattle.accepted.proofs.Accepted.{words_shown}
use Rattle.items.specs.Words.{rows_shown}
use Rattle.items.specs.Sound.{Soundness, sound, unsound, soundness}
use Rattle.items.specs.Written.{Item, written}
use Rattle.items.specs.Content.{content, content_at}
use Rattle.items.specs.Writing.{item_written, checked, writing, Writes}
use Rattle.roundtrip.specs.Items.{rows, node_row, interface_row, values, referenced}
use Rattle.roundtrip.specs.Statement.{ReadsAs}
use Rattle.roundtrip.specs.Entries.{Returns}
use Rattle.roundtrip.proofs.Content.{table_back}
use Rattle.roundtrip.proofs.Whole.{Answers}

-- ---- the tables that the reader leaves

module _ {doc : List ℕ} {room : Room} {name : List ℕ} {c : Item} (a : Answers doc room name c) where
  -- whatever stands after them in the buffers
  left_shown : (y z : List ℕ) → rows_shown doc (texts a.tables.rows ++ y) (words_from 0 a.tables.rows ++ z) (length a.tables.rows) ≡ node_row ∷ interface_row name ∷ rows 2 2 c
  left_shown y z = words_shown doc a.tables a.means y z ∙ a.shows

  pub reads_as : ReadsAs doc room name c
  reads_as = record {
    tables = a.tables;
    accepts = a.reads;
    silent = a.silent;
    gives = gives;
    same = ap (λ t. content t 2) gives ∙ table_back name c;
  }
    where
      gives : rows_shown doc (texts a.tables.rows) (words_from 0 a.tables.rows) (length a.tables.rows) ≡ node_row ∷ interface_row name ∷ rows 2 2 c
      gives = rw (append-nil (texts a.tables.rows), append-nil (words_from 0 a.tables.rows)) at (left_shown [] [])

module _ {doc rows' warnings text' name : List ℕ} {c : Item} {lent : Room} {r : Verdict} (a : Answers doc lent name c) (p : Says doc lent rows' warnings text' r) where
  pub returns : Returns doc rows' text' name c r
  returns = record {
    verdict = p.verdict ∙ ap verdict_of a.reads ∙ counted;
    gives = gives;
    same = ap (λ t. content t 2) gives ∙ table_back name c;
  }
    where
      counted : ◌≡◌ {A = Verdict} (Ok (counts (length a.tables.rows) (length (texts a.tables.rows)) (length a.tables.warnings))) (Ok (counts (2 + length (rows 2 2 c)) (referenced (values c)) 0))
      counted = rw (a.many, a.text, a.silent)

      rows_are : rows' ≡ filled lent.rows (words_from 0 a.tables.rows)
      rows_are = rw a.reads at p.of_rows

      text_is : text' ≡ filled lent.text (texts a.tables.rows)
      text_is = rw a.reads at p.of_text

      filled_shown : (x w : List ℕ) (m k : ℕ) → x ≡ filled m (texts a.tables.rows) → w ≡ filled k (words_from 0 a.tables.rows) → rows_shown doc x w (2 + length (rows 2 2 c)) ≡ node_row ∷ interface_row name ∷ rows 2 2 c
      filled_shown x w m k e f = rw (e, f, ← a.many) (left_shown a _ _)

      gives : rows_shown doc text' rows' (2 + length (rows 2 2 c)) ≡ node_row ∷ interface_row name ∷ rows 2 2 c
      gives = filled_shown text' rows' lent.text lent.rows text_is rows_are

-- ---- the bytes that `write` leaves

pub text_of : (m : ℕ) (o : Text) → Ok m ≡ answer_of o → (t : List ℕ) × (o ≡ text t) × (length t ≡ m)
text_of m (text t) e = (t, refl, cc)
text_of m (wrong k p) e = let z : ◌≡◌ {A = ℕ} 0 1 = cc in absurd (omega arith)

-- a test that did not end in a refusal
pub passed : (b : Bool) (k p : ℕ) (o : Text) (t : List ℕ) → if b (wrong k p) o ≡ text t → o ≡ text t
passed true k p o t e = let z : ◌≡◌ {A = ℕ} 0 1 = cc in absurd (omega arith)
passed false k p o t e = e

pub sound_then : (s : Soundness) (o : Text) (t : List ℕ) → checked s o ≡ text t → (s ≡ sound) × (o ≡ text t)
sound_then sound o t e = (refl, e)
sound_then (unsound p) o t e = let z : ◌≡◌ {A = ℕ} 0 1 = cc in absurd (omega arith)

item_then : (i room : ℕ) (o : Option Item) (t : List ℕ) → item_written i room o ≡ text t → (c : Item) × (o ≡ some c) × (t ≡ written c)
item_then i room none t e = let z : ◌≡◌ {A = ℕ} 0 1 = cc in absurd (omega arith)
item_then i room (some c) t e =
    let q : text (written c) ≡ text t = passed (ltb room (length (written c))) 21 (length (written c)) (text (written c)) t e in
    (c, refl, cc)

-- the rows are sound, and the bytes are those of the row's content
pub record Leaves (document text ws : List ℕ) (n i : ℕ) (b : List ℕ) : Type 0 where
  pub is_sound : soundness document text ws n ≡ sound
  pub item : Item
  pub is_item : content_at document text ws n i ≡ some item
  pub bytes : b ≡ written item

pub leaves : (document x ws out : List ℕ) (n i room m : ℕ) → Writes document x ws n i room out (Ok m) → Leaves document x ws n i (take m out)
unfolding writing
leaves document x ws out n i room m w =
    let t = text_of m (writing document x ws n i room) w.says.answer in
    let r = checked (soundness document x ws n) (item_written i room (content_at document x ws n i)) in
    let u = passed (ltb 1048576 (length document) || ltb 1048576 (length x)) 2 1048576 r t.0 t.1 in
    let s = sound_then (soundness document x ws n) (item_written i room (content_at document x ws n i)) t.0 u in
    let c = item_then i room (content_at document x ws n i) t.0 s.1 in
    let left : out ≡ t.0 ++ replicate (room - length t.0) 0 = w.says.left ∙ ap (left_of room) t.1 in
    record {
      is_sound = s.0;
      item = c.0;
      is_item = c.1;
      bytes = ap (take m) left ∙ take_at t.0 (replicate (room - length t.0) 0) m t.2 ∙ c.2;
    }
