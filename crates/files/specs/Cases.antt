-- Worked cases: files, each with the room for its text, and what reading it comes to: the refusal or the counts, and the decoded length.
use Rattle.std.specs.Prelude.{ℕ, ◌≡◌, refl, List, [], ◌∷◌, map, Ok, Err}
use Rattle.utf8.specs.WellFormed.{sequence, ill_formed}
use Rattle.utf8.specs.Encoding.{utf8}
use Rattle.scan.specs.Ignorable.{ignorable}
use Rattle.utf16.specs.Decode.{rest}
use Rattle.utf16.specs.Entry.{ordered, decoding}
use Rattle.document.specs.Tags.{attribute, gather}
use Rattle.document.specs.Tokens.{opening, closing, next, tokens}
use Rattle.document.specs.Refusals.{bare, fault_in}
use Rattle.document.specs.Elements.{kind_of, may_hold, opens_as}
use Rattle.document.specs.Reading.{begins, step, run}
use Rattle.document.specs.Whole.{Room, meaning, read, verdict_of}
use Rattle.document.specs.Verdict.{Verdict, counts}
use Rattle.files.specs.Files.{document_of, read_file, decoded_length}

-- one row
abbrev pub room : Room
room = record { rows = 16; warnings = 0; text = 0 }

-- a byte of a mark alone, each; a mark alone, which needs no room; U+0000; a second mark, which is text; an odd number of bytes, before it a
-- surrogate; a surrogate alone; `<x/>` with and without room; `<<`, refused once it is decoded; `<x/>` in UTF-8
abbrev pub cases : List (List ℕ × ℕ × Verdict × ℕ)
cases =
    (0xfe ∷ [], 9, Err (bare 1 0), 0)
    ∷ (0xff ∷ [], 9, Err (bare 1 0), 0)
    ∷ (0xfe ∷ 0xff ∷ [], 0, Err (bare 3 0), 0)
    ∷ (0xff ∷ 0xfe ∷ 0x00 ∷ 0x00 ∷ [], 9, Err (bare 3 1), 1)
    ∷ (0xfe ∷ 0xff ∷ 0xfe ∷ 0xff ∷ [], 9, Err (bare 3 3), 3)
    ∷ (0xfe ∷ 0xff ∷ 0xd8 ∷ 0x00 ∷ 0x3c ∷ [], 9, Err (bare 26 5), 0)
    ∷ (0xff ∷ 0xfe ∷ 0x00 ∷ 0xdc ∷ [], 9, Err (bare 27 2), 0)
    ∷ (0xff ∷ 0xfe ∷ 0x3c ∷ 0x00 ∷ 0x78 ∷ 0x00 ∷ 0x2f ∷ 0x00 ∷ 0x3e ∷ 0x00 ∷ [], 3, Err (bare 18 10), 0)
    ∷ (0xff ∷ 0xfe ∷ 0x3c ∷ 0x00 ∷ 0x78 ∷ 0x00 ∷ 0x2f ∷ 0x00 ∷ 0x3e ∷ 0x00 ∷ [], 4, Ok (counts 1 0 0), 4)
    ∷ (0xfe ∷ 0xff ∷ 0x00 ∷ 0x3c ∷ 0x00 ∷ 0x3c ∷ [], 4, Err (bare 4 1), 2)
    ∷ (0x3c ∷ 0x78 ∷ 0x2f ∷ 0x3e ∷ [], 0, Ok (counts 1 0 0), 0)
    ∷ []

pub worked : map (λ c. verdict_of (read_file c.0 room c.1)) cases ≡ map (λ c. c.2) cases
unfolding read_file document_of decoding ordered rest utf8 read meaning fault_in ill_formed sequence run step begins opens_as kind_of may_hold tokens next opening closing gather attribute ignorable
worked = refl

pub decoded : map (λ c. decoded_length c.0 c.1) cases ≡ map (λ c. c.3) cases
unfolding decoded_length decoding ordered rest utf8
decoded = refl
