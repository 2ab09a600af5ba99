-- Rows and warnings, and the words and text that they are in the tables (docs/FORMAT.md, Tables).
use Rattle.std.specs.Prelude.{ℕ, zero, suc, ◌+◌, List, [], ◌∷◌, ◌++◌, length}
use Rattle.std.proofs.Math.Option.{Option, none, some}
use Rattle.slices.specs.Bytes.{if, all}
use Rattle.references.specs.Unescape.{plain}
use Rattle.document.specs.Tags.{Shown}

-- a docstring: its place and its length in the document
pub record Doc : Type 0 where
  pub start : ℕ
  pub len : ℕ

-- kind (word 0), parent's row plus one, name (suffix), value or signature, tp type, docstring, word 14, place of `<` (word 15)
-- A is what a row keeps of an attribute: all of it, or the text that its value shows
pub record Row (A : Type 0) : Type 0 where
  pub kind : ℕ
  pub parent : ℕ
  pub name : Option A
  pub value : Option A
  pub tp : Option A
  pub doc : Option Doc
  pub word : ℕ
  pub at : ℕ

-- reason, place of `<`, element name
pub record Warning : Type 0 where
  pub reason : ℕ
  pub at : ℕ
  pub name : List ℕ

pub record Tables (A : Type 0) : Type 0 where
  pub rows : List (Row A)
  pub warnings : List Warning

module _ {A : Type 0} where
  abbrev pub with_doc : Doc → Row A → Row A
  with_doc d r = record { kind = r.kind; parent = r.parent; name = r.name; value = r.value; tp = r.tp; doc = some d; word = r.word; at = r.at }

  -- a docstring for row i
  abbrev pub documented : ℕ → Doc → List (Row A) → List (Row A)
  documented i d [] = []
  documented zero d (r ∷ rs) = with_doc d r ∷ rs
  documented (suc i) d (r ∷ rs) = r ∷ documented i d rs

-- the bytes that an attribute adds to the text: none if its value is left in the document
abbrev pub text_of : Option Shown → List ℕ
text_of none = []
text_of (some s) = if (all plain s.attr.raw) [] s.value

-- source, start, length; n bytes of text stand before it
abbrev pub triple : ℕ → Option Shown → List ℕ
triple n none = 0 ∷ 0 ∷ 0 ∷ []
triple n (some s) = if (all plain s.attr.raw) (1 ∷ s.attr.valued ∷ length s.attr.raw ∷ []) (2 ∷ n ∷ length s.value ∷ [])

abbrev pub doc_triple : Option Doc → List ℕ
doc_triple none = 0 ∷ 0 ∷ 0 ∷ []
doc_triple (some d) = 1 ∷ d.start ∷ d.len ∷ []

-- within a row: name, words 5-7, tp type
abbrev pub row_text : Row Shown → List ℕ
row_text r = text_of r.name ++ text_of r.value ++ text_of r.tp

unfoldable pub row_words : ℕ → Row Shown → List ℕ
row_words n r =
    r.kind ∷ r.parent
    ∷ triple n r.name
    ++ triple (n + length (text_of r.name)) r.value
    ++ triple (n + length (text_of r.name) + length (text_of r.value)) r.tp
    ++ doc_triple r.doc
    ++ (r.word ∷ r.at ∷ [])

-- the words of rows before which n bytes of text stand, and their text
abbrev pub words_from : ℕ → List (Row Shown) → List ℕ
words_from n [] = []
words_from n (r ∷ rs) = row_words n r ++ words_from (n + length (row_text r)) rs

abbrev pub texts : List (Row Shown) → List ℕ
texts [] = []
texts (r ∷ rs) = row_text r ++ texts rs

abbrev pub warning_words : Warning → List ℕ
warning_words w = w.reason ∷ w.at ∷ suc w.at ∷ length w.name ∷ []

abbrev pub warned : List Warning → List ℕ
warned [] = []
warned (w ∷ ws) = warning_words w ++ warned ws
