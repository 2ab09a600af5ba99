-- Two documents that differ only inside a comment that reading meets, and what is then said of their answers.
use Rattle.std.specs.Prelude.{ℕ, ◌+◌, ◌≡◌, List, true, length, take, drop, Ok}
use Rattle.slices.specs.Bytes.{bytes}
use Rattle.utf8.specs.WellFormed.{ill_formed}
use Rattle.scan.specs.Ignorable.{seek}
use Rattle.document.specs.Elements.{among}
use Rattle.document.specs.Whole.{Room, read, Says}
use Rattle.document.specs.Verdict.{Verdict}
use Rattle.met.specs.Met.{met_comments}

-- the comment begins at c, is one that reading the first document meets, and closes at its first `-->`, which ends at e in both; they
-- agree before its inside and after it, and both are UTF-8
pub record Differ (c e : ℕ) (d d' : List ℕ) : Type 0 where
  pub met : among c (met_comments d) ≡ true
  pub before : take (c + 4) d ≡ take (c + 4) d'
  pub closes : seek 22 (bytes "-->") (c + 4) (drop (c + 4) d) (c + 4) ≡ Ok e
  pub also : seek 22 (bytes "-->") (c + 4) (drop (c + 4) d') (c + 4) ≡ Ok e
  pub after : drop e d ≡ drop e d'
  pub utf8 : ill_formed d ≡ length d
  pub utf8_also : ill_formed d' ≡ length d'

-- then the lengths are equal, and the second document meets the comment too
abbrev pub EquallyLong : Type 0
EquallyLong = (c e : ℕ) (d d' : List ℕ) → Differ c e d d' → length d ≡ length d'

abbrev pub MetInBoth : Type 0
MetInBoth = (c e : ℕ) (d d' : List ℕ) → Differ c e d d' → Differ c e d' d

-- and whatever the room is, they are read to the same state: the same refusal, number, place, excerpts and key; or the same rows and
-- warnings
abbrev pub Unsteered : Type 0
Unsteered = (c e : ℕ) (d d' : List ℕ) → Differ c e d d' → (room : Room) → read d room ≡ read d' room

-- of two calls, that answered v and v' and left what follows in the buffers lent: the same answer, and the same words and bytes
pub record Alike (rows warnings text : List ℕ) (v : Verdict) (rows' warnings' text' : List ℕ) (v' : Verdict) : Type 0 where
  pub answer : v ≡ v'
  pub row_words : rows ≡ rows'
  pub warning_words : warnings ≡ warnings'
  pub text_bytes : text ≡ text'

abbrev pub CallsUnsteered : Type 0
CallsUnsteered =
    (c e : ℕ) (d d' : List ℕ) →
    Differ c e d d' →
    (room : Room) (rows warnings text rows' warnings' text' : List ℕ) (v v' : Verdict) →
    Says d room rows warnings text v →
    Says d' room rows' warnings' text' v' →
    Alike rows warnings text v rows' warnings' text' v'
