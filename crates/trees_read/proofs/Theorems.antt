-- The theorems: good trees are read, and their rows regrow them; the rows of a document that is accepted, and sound rows with no docstring,
-- give good trees; and a tree that reads back is written as the same bytes again.
use Prim.Native.Nat.{ℕ, zero, suc, ◌≤◌, ◌<◌}
use mathlib.Core.Path.{◌≡◌, refl, ap, sym, subst, ◌∙◌}
use mathlib.Core.List.{List, [], ◌∷◌, ◌++◌, append-nil}
use mathlib.Core.Option.{Option, none, some}
use borrow.Author.Tests.{eq-eqb, le-ltb}
use native.Mathlib.Omega.{arith}
use lib.ListN.{length}
use Rattle.answers.specs.Text.{text, roomy}
use Rattle.document.specs.Kinds as kinds
use Rattle.document.specs.Tags.{Shown}
use Rattle.document.specs.Rows.{Doc, Row, Tables, words_from, texts}
use Rattle.document.specs.Reading.{accepted}
use Rattle.document.specs.Whole.{Room, read, meaning}
use Rattle.items.specs.Words.{docstring_by, rows_shown}
use Rattle.items.specs.View.{over}
use Rattle.items.specs.Sound.{sound, soundness}
use Rattle.bounds.proofs.Whole as bounds
use Rattle.roundtrip.proofs.Held.{keeps}
use Rattle.accepted.proofs.Folding.{Accepts, meaning_accepts}
use Rattle.accepted.proofs.Docstrings.{DocIn, DocsIn}
use Rattle.accepted.proofs.Triples.{doc_of}
use Rattle.accepted.proofs.States.{row_at, accepts_holds}
use Rattle.accepted.proofs.Accepted.{tables_sound, read_accepts}
use Rattle.docstrings.specs.Passable.{PassableDoc, AllPassable, DocstringsPassable}
use Rattle.docstrings.proofs.Whole.{docstrings_passable}
use Rattle.trees.specs.Trees.{Tree}
use Rattle.trees.specs.Written.{Element, docstring, element_at, tree_at, written_tree}
use Rattle.trees.specs.Writing.{tree_writing}
use Rattle.trees_read.specs.Statement.{Fits, tree_of, ReadsBack, ReaderTrees, NoDocstrings, SoundTrees, TreeRows}
use Rattle.trees_read.specs.Entries.{ReaderEntries, SoundEntries}
use Rattle.trees_read.proofs.Good.{Documented, kind_in, Good}
use Rattle.trees_read.proofs.Flat.{flat}
use Rattle.trees_read.proofs.Depths.{doc_in}
use Rattle.trees_read.proofs.Shallow.{kind_is, doc_is, never_deep}
use Rattle.trees_read.proofs.Rooted.{accepts_rooted}
use Rattle.trees_read.proofs.Regrown.{regrown}
use Rattle.trees_read.proofs.SoundTrees.{sound_good}
use Rattle.trees_read.proofs.Sizes.{tree_size}
use Rattle.trees_read.proofs.Answers.{Answers, reads}
use Rattle.trees_read.proofs.Entries.{tree_made, entries_of_reader, entries_of_sound}

-- ---- written again

pub again : (t : Tree Element) (room : Room) (u : Tables Shown) → read (written_tree t) room ≡ accepted u → tree_of (written_tree t) u ≡ t → (lent : ℕ) → length (written_tree t) ≤ lent → tree_writing (written_tree t) (texts u.rows) (words_from 0 u.rows) (length u.rows) 0 lent ≡ text (written_tree t)
again t room u e s lent l =
    rw (append-nil (texts u.rows), append-nil (words_from 0 u.rows)) at (tree_made doc u m [] [] short lent)
    ∙ ap (λ b. roomy lent (text (written_tree b))) s
    ∙ whole
  where
    doc : List ℕ
    doc = written_tree t

    m : meaning doc ≡ accepted u
    m = read_accepts doc room u e

    short : length (texts u.rows ++ []) ≤ 1048576
    short = rw (append-nil (texts u.rows)) (omega (arith, (bounds.room doc m).text, (meaning_accepts doc u m).sound.small))

    whole : roomy lent (text (written_tree t)) ≡ text (written_tree t)
    whole = rw (le-ltb lent (length (written_tree t)) l)

-- ---- docstrings

docs_at : (doc : List ℕ) (rs : List (Row Shown)) (i : ℕ) → DocsIn doc rs → AllPassable keeps doc rs → DocIn doc (row_at rs i).kind (doc_in rs i) × PassableDoc keeps doc (doc_in rs i)
unfolding row_at doc_in
docs_at doc [] i h p = (tt, tt)
docs_at doc (r ∷ rs) zero h p = (h.0, p.0)
docs_at doc (r ∷ rs) (suc i) h p = docs_at doc rs i h.1 p.1

doc_documented : (doc : List ℕ) (k : ℕ) (o : Option Doc) → DocIn doc k o → PassableDoc keeps doc o → Documented k (over (docstring doc) (docstring_by (doc_of o)))
doc_documented doc k none h p = tt
doc_documented doc k (some d) h p = (h.0, eq-eqb _ _ h.1.formed, p)

-- those of a document that is accepted
pub reader_documented : DocstringsPassable keeps → (doc : List ℕ) (room : Room) (u : Tables Shown) → read doc room ≡ accepted u → (i : ℕ) → i < length u.rows → Documented (element_at doc (texts u.rows) (words_from 0 u.rows) i).kind (element_at doc (texts u.rows) (words_from 0 u.rows) i).doc
reader_documented h doc room u e i l =
    subst (λ ws. Documented (element_at doc (texts u.rows) ws i).kind (element_at doc (texts u.rows) ws i).doc) (append-nil (words_from 0 u.rows))
    (rw (kind_is doc u a (texts u.rows) [] i l, doc_is doc u a (texts u.rows) [] i l)
    (doc_documented doc (row_at u.rows i).kind (doc_in u.rows i) d.0 d.1))
  where
    a : Accepts doc u
    a = meaning_accepts doc u (read_accepts doc room u e)

    d : DocIn doc (row_at u.rows i).kind (doc_in u.rows i) × PassableDoc keeps doc (doc_in u.rows i)
    d = docs_at doc u.rows i (accepts_holds doc a.sound.utf8 a).docs (h doc room u e)

-- of rows that have none
pub none_documented : (document x ws : List ℕ) (n : ℕ) → NoDocstrings ws n → (i : ℕ) → i < n → Documented (element_at document x ws i).kind (element_at document x ws i).doc
none_documented document x ws n h i l = rw (h i l) tt

-- ---- the statements

pub reads_back : (t : Tree Element) (room : Room) → kind_in t ≡ kinds.node → Good 0 t → Fits t room → ReadsBack t room
reads_back t room k g f = record {
  tables = a.tables;
  accepts = a.accepts;
  silent = a.silent;
  rows = a.rows;
  bytes = a.bytes;
  same = back;
  again = again t room a.tables a.accepts back;
}
  where
    a : Answers t room
    a = reads t room k g f

    back : tree_of (written_tree t) a.tables ≡ t
    back =
        subst (λ n. tree_at (written_tree t) (texts a.tables.rows) (words_from 0 a.tables.rows) n 0 ≡ t) (sym a.rows)
        (regrown (written_tree t) (texts a.tables.rows) (words_from 0 a.tables.rows) t 0 g refl
        (subst (λ n. rows_shown (written_tree t) (texts a.tables.rows) (words_from 0 a.tables.rows) n ≡ flat 0 0 0 t) a.rows a.shows))

pub sound_trees : SoundTrees
sound_trees document x ws n s l d w lent f =
    let g = sound_good document x ws n s l (none_documented document x ws n d) w in
    reads_back (tree_at document x ws n 0) lent g.1 g.0 f

pub reader_trees : ReaderTrees
reader_trees doc room u e = (
  never_deep doc room u e,
  λ lent f. reads_back (tree_of doc u) lent g.1 g.0 f,
)
  where
    m : meaning doc ≡ accepted u
    m = read_accepts doc room u e

    is_sound : soundness doc (texts u.rows) (words_from 0 u.rows) (length u.rows) ≡ sound
    is_sound = rw (append-nil (texts u.rows), append-nil (words_from 0 u.rows)) at (tables_sound doc u m [] [])

    g : Good 0 (tree_of doc u) × (kind_in (tree_of doc u) ≡ kinds.node)
    g =
        sound_good doc (texts u.rows) (words_from 0 u.rows) (length u.rows) is_sound (accepts_rooted doc (meaning_accepts doc u m))
        (reader_documented (docstrings_passable keeps) doc room u e)
        (never_deep doc room u e)

pub tree_rows : TreeRows
tree_rows = tree_size

-- ---- at the entries

pub reader_entries : ReaderEntries
reader_entries = entries_of_reader reader_trees

pub sound_entries : SoundEntries
sound_entries = entries_of_sound sound_trees
