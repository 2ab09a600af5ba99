-- The words of each answer, in the order of include/introspection.h.
use Rattle.std.specs.Prelude.{ℕ, suc, ◌≡◌, List, [], ◌∷◌, ◌++◌, Bool, ltb, length, replicate, get_or, Result, Ok, Err}
use Rattle.slices.specs.Bytes.{if}
use Rattle.tables.specs.Triple.{inside, resolved}
use Rattle.tables.specs.declared.Triple.{Triple}
use Rattle.columns.specs.Entries.{Outcome}
use Rattle.columns.specs.Entries as entries
use Rattle.answers.specs.Text.{Text, answer_of, left_of}
use Rattle.messages.specs.Message.{message_of, warning_message_of}
use Rattle.messages.specs.declared.Wide.{Wide}
use Rattle.messages.specs.declared.Told.{Told}
use Rattle.order.specs.Ordering as ordering
use Rattle.order.specs.declared.Ordered.{Ordered}
use Rattle.faults.specs.declared.Fault.{Fault}
use Rattle.document.specs.Tags.{Shown}
use Rattle.document.specs.Reading.{State}
use Rattle.document.specs.Refusals.{shown_by}
use Rattle.document.specs.Whole.{Room, verdict_of, rows_left, warnings_left, text_left}
use Rattle.document.specs.declared.Refusal.{Refusal}
use Rattle.document.specs.Verdict.{Verdict}
use Rattle.utf16.specs.Entry.{left}
use Rattle.files.specs.Files.{read_file, decoded_length}
use Rattle.strict.specs.Strict.{strict_file}

abbrev pub bit : Bool → ℕ
bit b = if b 1 0

-- number, place, rows, text bytes, warnings; then what a refusal's message shows: two triples, whose source is 1 where the number
-- shows so many, and a key; then how many bytes were decoded, and three zeros
abbrev pub shown_words : Refusal → ℕ → List ℕ
shown_words x d =
    bit (ltb 0 (shown_by x.number)) ∷ x.first.at ∷ x.first.len
    ∷ bit (ltb 1 (shown_by x.number)) ∷ x.second.at ∷ x.second.len
    ∷ x.key ∷ d ∷ 0 ∷ 0 ∷ 0 ∷ []

abbrev pub refusal_words : Refusal → ℕ → List ℕ
refusal_words x d = x.number ∷ x.place ∷ 0 ∷ 0 ∷ 0 ∷ shown_words x d

abbrev pub verdict_words : Verdict → ℕ → List ℕ
verdict_words (Err x) d = refusal_words x d
verdict_words (Ok n) d = 0 ∷ 0 ∷ n.rows ∷ n.text ∷ n.warnings ∷ replicate 7 0 ++ (d ∷ 0 ∷ 0 ∷ 0 ∷ [])

-- number, place, bytes written
abbrev pub answer_words : Result ℕ Fault → List ℕ
answer_words (Err f) = f.number ∷ f.place ∷ 0 ∷ []
answer_words (Ok n) = 0 ∷ 0 ∷ n ∷ []

-- number, place
abbrev pub columns_words : Result (Unit {0}) Fault → List ℕ
columns_words (Err f) = f.number ∷ f.place ∷ []
columns_words (Ok u) = 0 ∷ 0 ∷ []

-- number, place, definitions, members whose tp type no row defines
abbrev pub order_words : Result Ordered Fault → List ℕ
order_words (Err f) = f.number ∷ f.place ∷ 0 ∷ 0 ∷ []
order_words (Ok o) = 0 ∷ 0 ∷ o.definitions ∷ o.unnamed ∷ []

-- of a file that was read; the number is 0 for those accepted alone, since every other number is more than 0 (crate bounds)
abbrev pub read_words : State Shown → ℕ → List ℕ
read_words s d = verdict_words (verdict_of s) d

-- what is answered for a file whose reading comes to a state, and what is left in the buffers
pub record Answers (s : State Shown) (raw : List ℕ) (room : Room) (decoding_room : ℕ) (rows warnings text decoded answer : List ℕ) : Type 0 where
  pub words : answer ≡ read_words s (decoded_length raw decoding_room)
  pub of_rows : rows ≡ rows_left room s
  pub of_warnings : warnings ≡ warnings_left room s
  pub of_text : text ≡ text_left room s
  pub of_decoded : decoded ≡ left raw decoding_room

-- `introspection_read`, and `introspection_read_strict`
abbrev pub Reads : List ℕ → Room → ℕ → List ℕ → List ℕ → List ℕ → List ℕ → List ℕ → Type 0
Reads raw room decoding_room = Answers (read_file raw room decoding_room) raw room decoding_room

abbrev pub ReadsStrictly : List ℕ → Room → ℕ → List ℕ → List ℕ → List ℕ → List ℕ → List ℕ → Type 0
ReadsStrictly raw room decoding_room = Answers (strict_file raw room decoding_room) raw room decoding_room

-- of a text that was made
abbrev pub text_words : Text → List ℕ
text_words t = answer_words (answer_of t)

-- of words that were made
abbrev pub outcome_words : Outcome → List ℕ
outcome_words o = columns_words (entries.answer_of o)

-- of definitions that were ordered
abbrev pub ordering_words : ordering.Outcome → List ℕ
ordering_words o = order_words (ordering.answer_of o)

-- ---- the answer's words, and what is left in the buffers lent; `made` tells what is made in each room, and the room is that of the buffer lent

-- of a text
pub record MakesText (made : ℕ → Text) (lent output answer : List ℕ) : Type 0 where
  pub words : answer ≡ text_words (made (length lent))
  pub of_output : output ≡ left_of (length lent) (made (length lent))

-- of words
pub record MakesWords (made : ℕ → Outcome) (lent output answer : List ℕ) : Type 0 where
  pub words : answer ≡ outcome_words (made (length lent))
  pub of_output : output ≡ entries.words_left (length lent) (made (length lent))

-- of an order of definitions; the words lent for work are zeros afterwards
pub record MakesOrder (made : ℕ → ordering.Outcome) (lent lent_work output work answer : List ℕ) : Type 0 where
  pub words : answer ≡ ordering_words (made (length lent))
  pub of_output : output ≡ ordering.left_of (length lent) (made (length lent))
  pub of_work : work ≡ replicate (length lent_work) 0

-- of several items, with words lent for their ends
pub record MakesItems (made : ℕ → ℕ → Text) (ends_made : ℕ → ℕ → List ℕ) (lent lent_ends output ends answer : List ℕ) : Type 0 where
  pub words : answer ≡ text_words (made (length lent) (length lent_ends))
  pub of_output : output ≡ left_of (length lent) (made (length lent) (length lent_ends))
  pub of_ends : ends ≡ ends_made (length lent) (length lent_ends)

-- 1 or 0; source, start and length of the part
abbrev pub part_words : Bool → Triple → List ℕ
part_words b t = bit b ∷ t.source ∷ t.start ∷ t.len ∷ []

abbrev pub lookup_words : List ℕ → List ℕ → Triple → List ℕ
lookup_words document text t = part_words (inside document text t) (resolved document text t)

-- a refusal by its words, as `introspection_read` answers it, or of whatever content
abbrev pub wide_at : ℕ → List ℕ → Wide
wide_at k ws = record { source = get_or ws k 0; start = get_or ws (suc k) 0; len = get_or ws (suc (suc k)) 0 }

abbrev pub told_by : List ℕ → Told
told_by ws = record { number = get_or ws 0 0; key = get_or ws 11 0; first = wide_at 5 ws; second = wide_at 8 ws }

-- the message of a refusal; of a warning by its four words
unfoldable pub message_by : List ℕ → List ℕ → ℕ → Text
message_by document ws room = message_of document (told_by ws) room

unfoldable pub warning_message_by : List ℕ → List ℕ → ℕ → Text
warning_message_by document ws room = warning_message_of document (get_or ws 0 0) (get_or ws 2 0) (get_or ws 3 0) room
