-- What the functions say: a row or a warning more in the lent tables.
use Rattle.std.specs.Prelude.{ℕ, suc, ◌+◌, ◌-◌, ◌*◌, ◌≤◌, ◌<◌, ◌≡◌, List, [], ◌∷◌, length}
use Rattle.std.proofs.Math.Option.{Option, none}
use Rattle.answers.specs.Puts.{Puts}
use Rattle.document.specs.Tags.{Shown}
use Rattle.document.specs.Rows.{Row, Tables, triple, text_of}
use Rattle.document.specs.Reading.{with_row, with_warning}
use Rattle.document.specs.Outcome.{ValueIs, lent, Stands}
use Rattle.document.specs.declared.Value.{Value}
use Rattle.document.specs.declared.Fill.{Fill}
use Rattle.rows.specs.declared.Head.{Head}
use Rattle.rows.specs.declared.Placed.{Placed}

-- what placing a value says, when n bytes of text stand before it: the words of its triple, and its bytes put
pub record Places (doc : List ℕ) (v : Value) (n : ℕ) (before after : List ℕ) (r : Placed) : Type 0 where
  pub least : n ≤ r.text
  pub most : r.text ≤ n + v.len
  pub words : (o : Option Shown) → ValueIs doc v o → triple n o ≡ r.source ∷ r.start ∷ r.len ∷ []
  pub puts : (o : Option Shown) → ValueIs doc v o → Puts (text_of o) n before after r.text

-- the words of a row with three values that are placed, and no docstring
abbrev pub placed : Head → Placed → Placed → Placed → List ℕ
placed h a b c =
    h.kind ∷ h.parent ∷ a.source ∷ a.start ∷ a.len ∷ b.source ∷ b.start ∷ b.len ∷ c.source ∷ c.start ∷ c.len ∷ 0 ∷ 0 ∷ 0 ∷ h.word ∷ (h.at - 1) ∷ []

-- the bounds within which every word of a row fits
pub record RowFits (doc : List ℕ) (h : Head) (name second tp : Value) (f : Fill) : Type 0 where
  pub small : length doc ≤ 1048576
  pub named : name.at + name.len ≤ length doc
  pub valued : second.at + second.len ≤ length doc
  pub typed : tp.at + tp.len ≤ length doc
  pub parent : h.parent ≤ 1048576
  pub after : 0 < h.at
  pub place : h.at ≤ 1048576
  pub rows : f.rows < 1048576
  pub text : f.text ≤ 3 * 1048576

-- what adding a row says: it is counted, and the buffers stand for the tables with the row
pub record RowPut (doc : List ℕ) (h : Head) (name second tp : Value) (f : Fill) (rows rows' text text' : List ℕ) (r : Fill) : Type 0 where
  pub at : r.at ≡ f.at
  pub counts : r.rows ≡ f.rows + 1
  pub warnings : r.warnings ≡ f.warnings
  pub least : f.text ≤ r.text
  pub most : r.text ≤ f.text + (name.len + second.len + tp.len)
  pub stands :
      (row : Row Shown) (u : Tables Shown) (w : List ℕ)
      → row.kind ≡ h.kind
      → row.parent ≡ h.parent
      → row.word ≡ h.word
      → h.at ≡ suc row.at
      → row.doc ≡ none
      → ValueIs doc name row.name
      → ValueIs doc second row.value
      → ValueIs doc tp row.tp
      → Stands u (lent rows w text) f
      → Stands (with_row row u) (lent rows' w text') r

-- the bounds within which every word of a warning fits; the place is that of the element's name
pub record WarningFits (at len : ℕ) (f : Fill) : Type 0 where
  pub after : 0 < at
  pub place : at ≤ 1048576
  pub short : len ≤ 1048576
  pub few : f.warnings < 1048576

-- what adding a warning says
pub record WarningPut (reason place len : ℕ) (f : Fill) (before after : List ℕ) (r : Fill) : Type 0 where
  pub at : r.at ≡ f.at
  pub rows : r.rows ≡ f.rows
  pub counts : r.warnings ≡ f.warnings + 1
  pub text : r.text ≡ f.text
  pub stands :
      (u : Tables Shown) (rows text : List ℕ) (name : List ℕ) (lt : ℕ)
      → place ≡ suc lt
      → length name ≡ len
      → Stands u (lent rows before text) f
      → Stands (with_warning reason lt name u) (lent rows after text) r
