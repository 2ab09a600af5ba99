-- What the answers of two documents that differ inside a comment show: the same bytes, but for a docstring around the comment.
use Rattle.std.specs.Prelude.{ℕ, ◌+◌, ◌*◌, ◌≤◌, ◌<◌, ◌≡◌, List, ◌⊎◌, take, drop, get_or, Ok, Err}
use Rattle.tables.specs.Triple.{shown}
use Rattle.tables.specs.declared.Triple.{Triple}
use Rattle.document.specs.Whole.{Room, Says}
use Rattle.document.specs.declared.Excerpt.{Excerpt}
use Rattle.document.specs.declared.Refusal.{Refusal}
use Rattle.document.specs.Verdict.{counts}
use Rattle.items.specs.Words.{triple_at, rows_shown}
use Rattle.remarks.specs.Differing.{Differ}

-- the same bytes stand in both documents at a place, so many
abbrev pub Same : List ℕ → List ℕ → ℕ → ℕ → Type 0
Same d d' at n = take n (drop at d) ≡ take n (drop at d')

-- the docstring of row i
abbrev pub docstring_of : List ℕ → ℕ → Triple
docstring_of rows i = triple_at 11 (drop (i * 16) rows)

-- a triple spans the comment from c to e
abbrev pub Spans : ℕ → ℕ → Triple → Type 0
Spans c e t = (t.start ≤ c) × (e ≤ t.start + t.len)

-- n rows and w warnings: names, values and tp types of rows, and the names of warnings, show the same bytes; so does a docstring, unless
-- it spans the comment
pub record ShownAlike (c e : ℕ) (d d' rows warnings text : List ℕ) (n w : ℕ) : Type 0 where
  pub values : rows_shown d text rows n ≡ rows_shown d' text rows n
  pub docstrings : (i : ℕ) → i < n → (shown d text (docstring_of rows i) ≡ shown d' text (docstring_of rows i)) ⊎ Spans c e (docstring_of rows i)
  pub names : (i : ℕ) → i < w → Same d d' (get_or warnings (i * 4 + 2) 0) (get_or warnings (i * 4 + 3) 0)

-- of a document that is accepted
abbrev pub ShowsUnsteered : Type 0
ShowsUnsteered =
    (c e : ℕ) (d d' : List ℕ) →
    Differ c e d d' →
    (room : Room) (rows warnings text : List ℕ) (n x w : ℕ) →
    Says d room rows warnings text (Ok (counts n x w)) →
    ShownAlike c e d d' rows warnings text n w

-- an excerpt that a message shows has the same bytes
abbrev pub SameIn : List ℕ → List ℕ → Excerpt → Type 0
SameIn d d' x = Same d d' x.at x.len

-- so have both, of a document that is refused
abbrev pub MessagesUnsteered : Type 0
MessagesUnsteered =
    (c e : ℕ) (d d' : List ℕ) →
    Differ c e d d' →
    (room : Room) (rows warnings text : List ℕ) (x : Refusal) →
    Says d room rows warnings text (Err x) →
    SameIn d d' x.first × SameIn d d' x.second
