-- A refusal of reading and a warning of its tables, as they are told to `messages::message` and `warning_message`; and the theorem that
-- each of them has a message: with its document it is never answered by 19.
use Rattle.std.specs.Prelude.{ℕ, ◌+◌, ◌*◌, ◌<◌, ◌≡◌, List, Bool, ltb, get_or, Ok, Err}
use Rattle.slices.specs.Bytes.{if}
use Rattle.answers.specs.Text.{wrong}
use Rattle.document.specs.Refusals.{shown_by}
use Rattle.document.specs.Whole.{Room, Says}
use Rattle.document.specs.declared.Excerpt.{Excerpt}
use Rattle.document.specs.declared.Refusal.{Refusal}
use Rattle.document.specs.Verdict.{counts}
use Rattle.files.specs.Files.{Reads, document_left}
use Rattle.files.specs.declared.Reading.{Reading}
use Rattle.messages.specs.Message.{message_of, warning_message_of}
use Rattle.messages.specs.declared.Wide.{Wide}
use Rattle.messages.specs.declared.Told.{Told}

-- an excerpt is of source 1, the document, where the number shows it
abbrev pub triple_of : Bool → Excerpt → Wide
triple_of b e = record { source = if b 1 0; start = e.at; len = e.len }

abbrev pub told_of : Refusal → Told
told_of x = record {
  number = x.number;
  key = x.key;
  first = triple_of (ltb 0 (shown_by x.number)) x.first;
  second = triple_of (ltb 1 (shown_by x.number)) x.second;
}

-- every refusal of the reader, whatever room there is for its message
abbrev pub RefusalsTold : Type 0
RefusalsTold =
    (doc rows warnings text : List ℕ) (room : Room) (x : Refusal) →
    Says doc room rows warnings text (Err x) →
    (out : ℕ) → message_of doc (told_of x) out ≡ wrong 19 0 → ⊥

-- word k of warning i: reason, place, where the element's name begins, how long it is
abbrev pub warning_word : List ℕ → ℕ → ℕ → ℕ
warning_word ws i k = get_or ws (i * 4 + k) 0

-- and every warning that it leaves of a document that it accepts
abbrev pub WarningsTold : Type 0
WarningsTold =
    (doc rows warnings text : List ℕ) (room : Room) (n t w : ℕ) →
    Says doc room rows warnings text (Ok (counts n t w)) →
    (i : ℕ) →
    i < w →
    (out : ℕ) → warning_message_of doc (warning_word warnings i 0) (warning_word warnings i 2) (warning_word warnings i 3) out ≡ wrong 19 0 → ⊥

-- ---- the same of files, with the document that what follows is handed

abbrev pub FileRefusalsTold : Type 0
FileRefusalsTold =
    (raw rows warnings text decoded : List ℕ) (room : Room) (decoding_room : ℕ) (r : Reading) (x : Refusal) →
    Reads raw room decoding_room rows warnings text decoded r →
    r.verdict ≡ Err x →
    (out : ℕ) → message_of (document_left raw decoded r.decoded) (told_of x) out ≡ wrong 19 0 → ⊥

abbrev pub FileWarningsTold : Type 0
FileWarningsTold =
    (raw rows warnings text decoded : List ℕ) (room : Room) (decoding_room : ℕ) (r : Reading) (n t w : ℕ) →
    Reads raw room decoding_room rows warnings text decoded r →
    r.verdict ≡ Ok (counts n t w) →
    (i : ℕ) →
    i < w →
    (out : ℕ) →
    warning_message_of (document_left raw decoded r.decoded) (warning_word warnings i 0) (warning_word warnings i 2) (warning_word warnings i 3) out ≡ wrong 19 0 →
    ⊥
