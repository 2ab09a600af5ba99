-- The same of the code: in the records that the contracts of `writers::write` and `reader::parse_with_warnings` cite.
use Rattle.std.specs.Prelude.{ℕ, ◌+◌, ◌≡◌, List, [], ◌∷◌, true, length, take, Ok}
use Rattle.std.proofs.Math.Option.{some}
use Rattle.names.specs.Names.{interface_name}
use Rattle.document.specs.Kinds as kinds
use Rattle.document.specs.Elements.{among}
use Rattle.document.specs.Whole.{Room, Says}
use Rattle.document.specs.Verdict.{Verdict, counts}
use Rattle.items.specs.Words.{rows_of, rows_shown}
use Rattle.items.specs.Sound.{kind_at}
use Rattle.items.specs.Written.{Item}
use Rattle.items.specs.Content.{content_at}
use Rattle.items.specs.Writing.{Writes}
use Rattle.roundtrip.specs.Items.{rows, node_row, interface_row, values, referenced}
use Rattle.roundtrip.specs.Statement.{around, Fits, Told}

-- the verdict and the rows left are those of that node, that interface and that item
pub record Returns (doc rows' text : List ℕ) (name : List ℕ) (c : Item) (r : Verdict) : Type 0 where
  pub verdict : r ≡ Ok (counts (2 + length (rows 2 2 c)) (referenced (values c)) 0)
  pub gives : rows_shown doc text rows' (2 + length (rows 2 2 c)) ≡ node_row ∷ interface_row name ∷ rows 2 2 c
  pub same : content_at doc text rows' (2 + length (rows 2 2 c)) 2 ≡ some c

-- 1. for whatever was handed to `write`: if it wrote m bytes for a row of a method, a signal or an annotation, `parse_with_warnings` reads them back
abbrev pub EntriesAgree : Type 0
EntriesAgree =
    (document text ws out : List ℕ) (n i room m : ℕ) →
    Writes document text ws n i room out (Ok m) →
    among (kind_at (rows_of n ws) i) (kinds.method ∷ kinds.signal ∷ kinds.annotation ∷ []) ≡ true →
    (c : Item)
    × (content_at document text ws n i ≡ some c)
    × ((name rows' warnings text' : List ℕ) (lent : Room) (r : Verdict) →
    interface_name name ≡ true →
    Fits name c lent →
    Says (around name (take m out)) lent rows' warnings text' r →
    Returns (around name (take m out)) rows' text' name c r)

-- 2. for any two calls of `write` that wrote: the bytes tell the content
abbrev pub EntriesTell : Type 0
EntriesTell =
    (document text ws out document' text' ws' out' : List ℕ) (n i room m n' i' room' m' : ℕ) →
    Writes document text ws n i room out (Ok m) →
    Writes document' text' ws' n' i' room' out' (Ok m') →
    (c : Item)
    × (c' : Item)
    × (content_at document text ws n i ≡ some c)
    × (content_at document' text' ws' n' i' ≡ some c')
    × Told c c' (take m out) (take m' out')
