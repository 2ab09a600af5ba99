-- Worked examples: files, the room for rows, and what reading them by the profile answers.
use Rattle.std.specs.Prelude.{ℕ, ◌≡◌, refl, List, [], ◌∷◌, map, Ok, Err}
use Rattle.slices.specs.Bytes.{bytes}
use Rattle.utf8.specs.WellFormed.{sequence, ill_formed}
use Rattle.utf8.specs.WhiteSpace.{characters}
use Rattle.utf8.specs.Encoding.{utf8}
use Rattle.scan.specs.Ignorable.{ignorable}
use Rattle.utf16.specs.Decode.{rest}
use Rattle.utf16.specs.Entry.{ordered, decoding}
use Rattle.references.specs.Characters.{xml_char}
use Rattle.document.specs.Tags.{attribute, gather}
use Rattle.document.specs.Tokens.{opening, closing, next, tokens}
use Rattle.document.specs.Refusals.{bare, fault_in}
use Rattle.document.specs.Elements.{kind_of, may_hold, opens_as}
use Rattle.document.specs.Reading.{step, begins, run}
use Rattle.document.specs.Whole.{Room, meaning, read, verdict_of}
use Rattle.document.specs.Verdict.{Verdict, counts}
use Rattle.files.specs.Files.{document_of}
use Rattle.profile.specs.Names.{name_start_char, name_more, name_char}
use Rattle.profile.specs.Profile.{char_fault, name_fault, hyphens, raw}
use Rattle.profile.specs.After.{instruction, comment, misc, after_fault}
use Rattle.met.specs.Passed.{passed_over}
use Rattle.met.specs.Met.{met_tokens}
use Rattle.breaches.specs.Least.{lesser, least}
use Rattle.breaches.specs.Breaches.{in_value, in_comment, in_name, breaches}
use Rattle.strict.specs.Strict.{strict, strict_file}

abbrev pub rows_for : ℕ → Room
rows_for n = record { rows = n; warnings = 0; text = 0 }

-- 18 comes before 29, and so does a fault; the last two are `<x/>` in UTF-16
abbrev pub cases : List (List ℕ × ℕ × Verdict)
cases =
    (bytes "<x/>", 0, Err (bare 18 4))
    ∷ (bytes "<x/>", 16, Err (bare 29 1))
    ∷ (bytes "<node/>", 16, Ok (counts 1 0 0))
    ∷ (bytes "<node/><!-- -- -->", 16, Err (bare 29 12))
    ∷ (bytes "<-></-", 16, Err (bare 4 4))
    ∷ (0xfe ∷ 0xff ∷ 0x00 ∷ 0x3c ∷ 0x00 ∷ 0x78 ∷ 0x00 ∷ 0x2f ∷ 0x00 ∷ 0x3e ∷ [], 0, Err (bare 18 4))
    ∷ (0xff ∷ 0xfe ∷ 0x3c ∷ 0x00 ∷ 0x78 ∷ 0x00 ∷ 0x2f ∷ 0x00 ∷ 0x3e ∷ 0x00 ∷ [], 16, Err (bare 29 1))
    ∷ []

pub worked : map (λ c. verdict_of (strict_file c.0 (rows_for c.1) 4)) cases ≡ map (λ c. c.2) cases
unfolding strict_file document_of decoding ordered rest utf8 strict read meaning run fault_in ill_formed least lesser breaches in_value in_comment in_name name_fault char_fault hyphens raw name_start_char name_more name_char characters sequence xml_char after_fault misc comment instruction met_tokens passed_over tokens next ignorable opening closing gather attribute step begins kind_of may_hold opens_as
worked = refl
