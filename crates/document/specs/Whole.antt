-- A whole document and the room lent (docs/FORMAT.md, Answers): the answer, and every word and byte of rows, warnings and text.
use Rattle.std.specs.Prelude.{ℕ, ◌-◌, ◌/◌, ◌≡◌, List, ◌++◌, ◌||◌, ltb, length, replicate, Ok, Err}
use Rattle.slices.specs.Bytes.{if}
use Rattle.utf8.specs.WellFormed.{ill_formed}
use Rattle.document.specs.Tags.{Shown}
use Rattle.document.specs.Rows.{Tables, words_from, texts, warned}
use Rattle.document.specs.Refusals.{bare}
use Rattle.document.specs.Elements.{whole}
use Rattle.document.specs.Reading.{State, begun, reading, accepted, refused, run}
use Rattle.document.specs.Verdict.{Verdict, counts}

-- how many words of rows, words of warnings and bytes of text are lent
pub record Room : Type 0 where
  pub rows : ℕ
  pub warnings : ℕ
  pub text : ℕ

-- order: 2, 1, the first fault met while reading, 18 last
unfoldable pub meaning : List ℕ → State Shown
meaning doc =
    let r = run whole doc 0 begun in
    let u = if (ltb (ill_formed doc) (length doc)) (refused (bare 1 (ill_formed doc))) r in
    if (ltb 1048576 (length doc)) (refused (bare 2 1048576)) u

-- 18 if a table is short: only whole rows and whole warnings count as room
abbrev pub fitted : ℕ → Room → State Shown → State Shown
fitted end r begun = begun
fitted end r (reading fs t) = reading fs t
fitted end r (accepted t) =
    if (ltb (r.rows / 16) (length t.rows) || ltb (r.warnings / 4) (length t.warnings) || ltb r.text (length (texts t.rows)))
    (refused (bare 18 end))
    (accepted t)
fitted end r (refused x) = refused x

unfoldable pub read : List ℕ → Room → State Shown
read doc r = fitted (length doc) r (meaning doc)

-- the refusal, or the counts; no document ends in `begun` or `reading`, since its last token is the end
abbrev pub verdict_of : State Shown → Verdict
verdict_of begun = Err (bare 0 0)
verdict_of (reading fs t) = Err (bare 0 0)
verdict_of (accepted t) = Ok (counts (length t.rows) (length (texts t.rows)) (length t.warnings))
verdict_of (refused x) = Err x

-- what is used, and zeros past it; zeros alone after a refusal
abbrev pub filled : ℕ → List ℕ → List ℕ
filled room xs = xs ++ replicate (room - length xs) 0

abbrev pub left_in : ℕ → (Tables Shown → List ℕ) → State Shown → List ℕ
left_in room f begun = replicate room 0
left_in room f (reading fs t) = replicate room 0
left_in room f (accepted t) = filled room (f t)
left_in room f (refused x) = replicate room 0

abbrev pub rows_left : Room → State Shown → List ℕ
rows_left r s = left_in r.rows (λ t. words_from 0 t.rows) s

abbrev pub warnings_left : Room → State Shown → List ℕ
warnings_left r s = left_in r.warnings (λ t. warned t.warnings) s

abbrev pub text_left : Room → State Shown → List ℕ
text_left r s = left_in r.text (λ t. texts t.rows) s

-- the room of the buffers lent
abbrev pub room_of : List ℕ → List ℕ → List ℕ → Room
room_of rows warnings text = record { rows = length rows; warnings = length warnings; text = length text }

-- what reading a document with that room answers, and what it leaves in the buffers
pub record Says (doc : List ℕ) (room : Room) (rows warnings text : List ℕ) (v : Verdict) : Type 0 where
  pub verdict : v ≡ verdict_of (read doc room)
  pub of_rows : rows ≡ rows_left room (read doc room)
  pub of_warnings : warnings ≡ warnings_left room (read doc room)
  pub of_text : text ≡ text_left room (read doc room)
