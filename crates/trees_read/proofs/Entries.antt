-- What the statements on trees say of the entries.
use Prim.Native.Nat.{ℕ, ◌-◌, ◌≤◌, ◌<◌}
use mathlib.Core.Path.{◌≡◌, refl, ap, sym, subst, ◌∙◌}
use mathlib.Core.List.{List, [], ◌∷◌, ◌++◌}
use mathlib.Core.Option.{Option, none, some}
use mathlib.Core.Bool.{Bool, true, false, not, ◌||◌}
use borrow.Author.Tests.{ltb-true, lt-ltb, le-ltb}
use native.Mathlib.Omega.{arith}
use lib.Dec.{ltb}
use lib.ListN.{length, take, replicate}
use lib.Seq.{take_at}
use Rattle.std.specs.Prelude.{Ok, Result}
use Rattle.faults.specs.declared.Fault.{Fault}
use Rattle.slices.specs.Bytes.{if}
use Rattle.slices.proofs.Runs.{and_both}
use Rattle.answers.specs.Text.{Text, text, wrong, roomy, answer_of, left_of}
use Rattle.document.specs.Kinds as kinds
use Rattle.document.specs.Tags.{Shown}
use Rattle.document.specs.Rows.{Row, Tables, words_from, texts}
use Rattle.document.specs.Elements.{among}
use Rattle.document.specs.Reading.{State, begun, reading, accepted, refused}
use Rattle.document.specs.Whole.{Room, read, meaning, verdict_of, filled, rows_left, text_left, Says}
use Rattle.document.specs.declared.Counts.{Counts}
use Rattle.document.specs.Verdict.{Verdict, counts}
use Rattle.items.specs.Words.{rows_of}
use Rattle.items.specs.Sound.{kind_at, Soundness, sound, soundness}
use Rattle.items.specs.Writing.{checked}
use Rattle.roundtrip.specs.Items.{referenced}
use Rattle.accepted.proofs.Folding.{meaning_accepts}
use Rattle.accepted.proofs.Rows.{rows_from, rows_words}
use Rattle.accepted.proofs.States.{row_at, accepts_holds}
use Rattle.accepted.proofs.Accepted.{tables_sound, read_accepts}
use Rattle.trees.specs.Trees.{Tree, size}
use Rattle.trees.specs.Shape.{shape_at}
use Rattle.trees.specs.Written.{Element, element_at, tree_at, written_tree}
use Rattle.trees.specs.Writing.{too_deep, tree_written, is_writable, tree_writing, WritesTree}
use Rattle.roundtrip.proofs.Entries.{text_of, passed, sound_then}
use Rattle.trees_read.specs.Statement.{values, Fits, tree_of, ReadsBack, ReaderTrees, SoundTrees}
use Rattle.trees_read.specs.Entries.{Returns, ReturnsFrom, Writable, ReaderEntries, SoundEntries}
use Rattle.trees_read.proofs.Shallow.{shallow}
use Rattle.trees_read.proofs.Rooted.{accepts_rooted}
use Rattle.trees_read.proofs.Left.{left_tree}

-- ---- the reader

module _ {t : Tree Element} {lent : Room} {rows warnings x : List ℕ} {v : Verdict} (b : ReadsBack t lent) (p : Says (written_tree t) lent rows warnings x v) where
  returned : Returns (written_tree t) rows x t v
  returned = record {
    verdict = p.verdict ∙ ap verdict_of b.accepts ∙ counted;
    same = subst (λ k. tree_at (written_tree t) x rows k 0 ≡ t) b.rows (tree_left x rows x_is rows_are ∙ b.same);
  }
    where
      u : Tables Shown
      u = b.tables

      counted : ◌≡◌ {A = Verdict} (Ok (counts (length u.rows) (length (texts u.rows)) (length u.warnings))) (Ok (counts (size t) (referenced (values t)) 0))
      counted = rw (b.rows, b.bytes, b.silent)

      rows_are : rows ≡ filled lent.rows (words_from 0 u.rows)
      rows_are = rw b.accepts at p.of_rows

      x_is : x ≡ filled lent.text (texts u.rows)
      x_is = rw b.accepts at p.of_text

      tree_left : (x w : List ℕ) → x ≡ filled lent.text (texts u.rows) → w ≡ filled lent.rows (words_from 0 u.rows) → tree_at (written_tree t) x w (length u.rows) 0 ≡ tree_of (written_tree t) u
      tree_left x w e f =
          rw (e, f)
          (left_tree (written_tree t) u (read_accepts (written_tree t) lent u b.accepts) (replicate (lent.text - length (texts u.rows)) 0) (replicate (lent.rows - length (words_from 0 u.rows)) 0))

returns_from : (doc : List ℕ) (t : Tree Element) → doc ≡ written_tree t → ((lent : Room) → Fits t lent → ReadsBack t lent) → ReturnsFrom doc t
returns_from doc t e h =
    subst (λ d. ReturnsFrom d t) (sym e) (λ rows warnings x lent v f p. returned (h lent f) p)

-- ---- the bytes that `write_tree` leaves

no_text : {X : Type 0} (k p : ℕ) (t : List ℕ) → wrong k p ≡ text t → X
no_text k p t e = let z : ◌≡◌ {A = ℕ} 0 1 = cc in absurd (omega arith)

held : (b : Bool) (k p : ℕ) (o : Text) (t : List ℕ) → if b o (wrong k p) ≡ text t → (b ≡ true) × (o ≡ text t)
held true k p o t e = (refl, e)
held false k p o t e = no_text k p t e

written_then : (room : ℕ) (o : Option ℕ) (b : Tree Element) (t : List ℕ) → tree_written room o b ≡ text t → (o ≡ none) × (t ≡ written_tree b)
written_then room none b t e =
    let q : text (written_tree b) ≡ text t = passed (ltb room (length (written_tree b))) 21 (length (written_tree b)) (text (written_tree b)) t e in
    (refl, cc)
written_then room (some p) b t e = no_text 7 p t e

-- the rows are sound, row 0 is there, no node is too deep, and the bytes are those of its tree
record Leaves (document x ws : List ℕ) (n : ℕ) (b : List ℕ) : Type 0 where
  pub is_sound : soundness document x ws n ≡ sound
  pub there : 0 < n
  pub low : too_deep (element_at document x ws) 0 (shape_at ws n 0) ≡ none
  pub bytes : b ≡ written_tree (tree_at document x ws n 0)

leaves : (document x ws out : List ℕ) (n room m : ℕ) → WritesTree document x ws n 0 room out (Ok m) → Leaves document x ws n (take m out)
unfolding tree_writing
leaves document x ws out n room m w =
    let t = text_of m (tree_writing document x ws n 0 room) w.says.answer in
    let o = tree_written room (too_deep (element_at document x ws) 0 (shape_at ws n 0)) (tree_at document x ws n 0) in
    let k = if (is_writable ws n 0) o (wrong 20 0) in
    let c = passed (ltb 1048576 (length document) || ltb 1048576 (length x)) 2 1048576 (checked (soundness document x ws n) k) t.0 t.1 in
    let s = sound_then (soundness document x ws n) k t.0 c in
    let h = held (is_writable ws n 0) 20 0 o t.0 s.1 in
    let b = written_then room (too_deep (element_at document x ws) 0 (shape_at ws n 0)) (tree_at document x ws n 0) t.0 h.1 in
    let left : out ≡ t.0 ++ replicate (room - length t.0) 0 = w.says.left ∙ ap (left_of room) t.1 in
    record {
      is_sound = s.0;
      there = ltb-true 0 n (and_both (ltb 0 n) (not (among (kind_at (rows_of n ws) 0) kinds.parts)) h.0).0;
      low = b.0;
      bytes = ap (take m) left ∙ take_at t.0 (replicate (room - length t.0) 0) m t.2 ∙ b.1;
    }

-- B
pub entries_of_sound : SoundTrees → SoundEntries
entries_of_sound h document x ws out n room m w d =
    let l = leaves document x ws out n room m w in
    (l.bytes, returns_from (take m out) (tree_at document x ws n 0) l.bytes (λ lent f. h document x ws n l.is_sound l.there d l.low lent f))

-- ---- what the reader leaves, written

writable : {t : Tree Element} {room : ℕ} {out : List ℕ} {r : Result ℕ Fault} (o : Text) → o ≡ roomy room (text (written_tree t)) → r ≡ answer_of o → out ≡ left_of room o → ((lent : Room) → Fits t lent → ReadsBack t lent) → Writable t room out r
writable {t} {room} {out} {r} o e a f h = record {
  done = λ l. a ∙ ap answer_of (e ∙ whole l);
  short = λ l. a ∙ ap answer_of (e ∙ over l);
  left = left;
  returns = λ l. returns_from (take (length (written_tree t)) out) t (left l) h;
}
  where
    whole : length (written_tree t) ≤ room → roomy room (text (written_tree t)) ≡ text (written_tree t)
    whole l = rw (le-ltb room (length (written_tree t)) l)

    over : room < length (written_tree t) → roomy room (text (written_tree t)) ≡ wrong 21 (length (written_tree t))
    over l = rw (lt-ltb room (length (written_tree t)) l)

    left : length (written_tree t) ≤ room → take (length (written_tree t)) out ≡ written_tree t
    left l =
        ap (take (length (written_tree t))) (f ∙ ap (left_of room) (e ∙ whole l))
        ∙ take_at (written_tree t) (replicate (room - length (written_tree t)) 0) (length (written_tree t)) refl

kind_first : (m : ℕ) (rs : List (Row Shown)) → 0 < length rs → kind_at (rows_from m rs) 0 ≡ (row_at rs 0).kind
unfolding row_at
kind_first m [] l = absurd (omega arith)
kind_first m (r ∷ rs) l = refl

no_refusal : (a b c : Bool) (s : Soundness) (o : Option ℕ) (t : Tree Element) (room : ℕ) → a ≡ false → b ≡ false → s ≡ sound → c ≡ true → o ≡ none → if (a || b) (wrong 2 1048576) (checked s (if c (tree_written room o t) (wrong 20 0))) ≡ roomy room (text (written_tree t))
no_refusal a b c s o t room p q u v w = rw (p, q, u, v, w)

module _ (doc : List ℕ) (u : Tables Shown) (e : meaning doc ≡ accepted u) (y z : List ℕ) where
  abbrev x : List ℕ
  x = texts u.rows ++ y

  abbrev ws : List ℕ
  ws = words_from 0 u.rows ++ z

  abbrev n : ℕ
  n = length u.rows

  asked : is_writable ws n 0 ≡ true
  asked =
      let a = meaning_accepts doc u e in
      let l = accepts_rooted doc a in
      let k : kind_at (rows_of n ws) 0 ≡ kinds.node = ap (λ rs. kind_at rs 0) (rows_words 0 u.rows z) ∙ kind_first 0 u.rows l ∙ ((accepts_holds doc a.sound.utf8 a).fine 0 l).0.0 in
      rw (lt-ltb 0 n l, k)

  pub tree_made : length x ≤ 1048576 → (room : ℕ) → tree_writing doc x ws n 0 room ≡ roomy room (text (written_tree (tree_at doc x ws n 0)))
  unfolding tree_writing
  tree_made l room =
      let a = meaning_accepts doc u e in
      no_refusal (ltb 1048576 (length doc)) (ltb 1048576 (length x)) (is_writable ws n 0) (soundness doc x ws n) (too_deep (element_at doc x ws) 0 (shape_at ws n 0)) (tree_at doc x ws n 0) room
      (le-ltb 1048576 (length doc) a.sound.small)
      (le-ltb 1048576 (length x) l)
      (tables_sound doc u e y z)
      asked
      (shallow doc u a x z)

  written_back : {room : ℕ} {out : List ℕ} {r : Result ℕ Fault} → ((lent : Room) → Fits (tree_of doc u) lent → ReadsBack (tree_of doc u) lent) → length x ≤ 1048576 → WritesTree doc x ws n 0 room out r → Writable (tree_at doc x ws n 0) room out r
  written_back {room} h l w =
      writable (tree_writing doc x ws n 0 room) (tree_made l room) w.says.answer w.says.left
      (subst (λ t. (lent : Room) → Fits t lent → ReadsBack t lent) (sym (left_tree doc u e y z)) h)

-- A
pub entries_of_reader : ReaderTrees → ReaderEntries
entries_of_reader h doc rows warnings x lent n c w s l room out r p = go (read doc lent) refl s.verdict s.of_rows s.of_text
  where
    Goes : List ℕ → List ℕ → ℕ → Type 0
    Goes x rows n = length x ≤ 1048576 → WritesTree doc x rows n 0 room out r → Writable (tree_at doc x rows n 0) room out r

    go : (q : State Shown) → read doc lent ≡ q → Ok (counts n c w) ≡ verdict_of q → rows ≡ rows_left lent q → x ≡ text_left lent q → Writable (tree_at doc x rows n 0) room out r
    go begun q e f g = let z : ◌≡◌ {A = ℕ} 0 1 = cc in absurd (omega arith)
    go (reading fs u) q e f g = let z : ◌≡◌ {A = ℕ} 0 1 = cc in absurd (omega arith)
    go (accepted u) q e f g =
        let k : counts n c w ≡ counts (length u.rows) (length (texts u.rows)) (length u.warnings) = cc in
        let m : n ≡ length u.rows = ap (λ (z : Counts). z.rows) k in
        subst (λ k. Goes x rows k) (sym m)
        (subst (λ v. Goes x v (length u.rows)) (sym f)
        (subst (λ v. Goes v (filled lent.rows (words_from 0 u.rows)) (length u.rows)) (sym g)
        (λ l p. written_back doc u (read_accepts doc lent u q) (replicate (lent.text - length (texts u.rows)) 0) (replicate (lent.rows - length (words_from 0 u.rows)) 0) (h doc lent u q).1 l p)))
        l p
    go (refused y) q e f g = let z : ◌≡◌ {A = ℕ} 0 1 = cc in absurd (omega arith)
