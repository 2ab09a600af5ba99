-- The rows of a lent table, by their words (docs/FORMAT.md, Tables), and what they show.
use Rattle.std.specs.Prelude.{ℕ, zero, suc, ◌+◌, ◌*◌, ◌≡◌, List, [], ◌∷◌, map, Bool, ◌&&◌, eqb, drop, get_or}
use Rattle.std.proofs.Math.Option.{Option, none, some}
use Rattle.slices.specs.Bytes.{if}
use Rattle.tables.specs.Triple.{shown}
use Rattle.tables.specs.declared.Triple.{Triple}
use Rattle.document.specs.Rows.{Doc, Row}

-- kind (word 0), parent's row plus one, name, value or signature, tp type, docstring, word 14, place of `<` (word 15)
pub record RowWords : Type 0 where
  pub kind : ℕ
  pub parent : ℕ
  pub name : Triple
  pub value : Triple
  pub tp : Triple
  pub doc : Triple
  pub word : ℕ
  pub at : ℕ

-- source, start, length from word k on
abbrev pub triple_at : ℕ → List ℕ → Triple
triple_at k ws = record { source = get_or ws k 0; start = get_or ws (suc k) 0; len = get_or ws (suc (suc k)) 0 }

-- word k of row i
abbrev pub word_at : List ℕ → ℕ → ℕ → ℕ
word_at ws i k = get_or ws (i * 16 + k) 0

pub record Word (ws : List ℕ) (i k r : ℕ) : Type 0 where
  pub is : r ≡ word_at ws i k

-- the triple from word k on of row i
pub record TripleIs (ws : List ℕ) (i k : ℕ) (r : Triple) : Type 0 where
  pub is : r ≡ triple_at k (drop (i * 16) ws)

-- the row with which the words begin
abbrev pub row_of : List ℕ → RowWords
row_of ws = record {
  kind = get_or ws 0 0;
  parent = get_or ws 1 0;
  name = triple_at 2 ws;
  value = triple_at 5 ws;
  tp = triple_at 8 ws;
  doc = triple_at 11 ws;
  word = get_or ws 14 0;
  at = get_or ws 15 0;
}

-- the first n rows
abbrev pub rows_of : ℕ → List ℕ → List RowWords
rows_of zero ws = []
rows_of (suc n) ws = row_of ws ∷ rows_of n (drop 16 ws)

-- of kind k, with a parent whose row plus one is p
abbrev pub is_child : ℕ → ℕ → ℕ → ℕ → Bool
is_child k p kind parent = eqb kind k && eqb parent p

-- absent is three zeros
abbrev pub absent : Triple → Bool
absent t = eqb t.source 0 && eqb t.start 0 && eqb t.len 0

-- what a triple shows, if it is there
abbrev pub shown_by : List ℕ → List ℕ → Triple → Option (List ℕ)
shown_by document text t = let s = some (shown document text t) in if (absent t) none s

abbrev pub docstring_by : Triple → Option Doc
docstring_by t = let d : Doc = record { start = t.start; len = t.len } in if (absent t) none (some d)

-- a row with the bytes that it shows; the place of its element is left out
abbrev pub viewed : List ℕ → List ℕ → RowWords → Row (List ℕ)
viewed document text r = record {
  kind = r.kind;
  parent = r.parent;
  name = shown_by document text r.name;
  value = shown_by document text r.value;
  tp = shown_by document text r.tp;
  doc = docstring_by r.doc;
  word = r.word;
  at = 0;
}

-- row i of a lent table, with what it shows
abbrev pub shown_row : List ℕ → List ℕ → List ℕ → ℕ → Row (List ℕ)
shown_row d x ws i = viewed d x (row_of (drop (i * 16) ws))

-- the first n rows of a table, with the bytes that they show
abbrev pub rows_shown : List ℕ → List ℕ → List ℕ → ℕ → List (Row (List ℕ))
rows_shown document text ws n = map (viewed document text) (rows_of n ws)
