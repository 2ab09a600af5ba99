-- What is promised of the strict profile: the theorems that proofs/Promised.antt proves.
use Rattle.std.specs.Prelude.{ℕ, ◌≤◌, ◌≡◌, List, [], true, false}
use Rattle.slices.specs.Bytes.{empty}
use Rattle.answers.specs.Text.{text}
use Rattle.document.specs.Tags.{Shown}
use Rattle.document.specs.Rows.{Tables}
use Rattle.document.specs.Refusals.{bare}
use Rattle.document.specs.Elements.{among}
use Rattle.document.specs.Reading.{accepted, refused}
use Rattle.document.specs.Whole.{Room}
use Rattle.document.specs.declared.Refusal.{Refusal}
use Rattle.files.specs.Files.{document_of, read_file}
use Rattle.breaches.specs.Breaches.{breaches}
use Rattle.strict.specs.Strict.{strict_file}

-- what is accepted has no breach, and its tables are the ordinary reader's
abbrev pub AcceptedHasNone : Type 0
AcceptedHasNone =
    (raw : List ℕ) (room : Room) (decoding_room : ℕ) (t : Tables Shown) →
    strict_file raw room decoding_room ≡ accepted t →
    (doc : List ℕ) × (document_of raw decoding_room ≡ text doc) × (breaches doc ≡ []) × (read_file raw room decoding_room ≡ accepted t)

-- what the ordinary reader accepts and has no breach is accepted, with the same tables
abbrev pub NoneIsAccepted : Type 0
NoneIsAccepted =
    (raw doc : List ℕ) (room : Room) (decoding_room : ℕ) (t : Tables Shown) →
    document_of raw decoding_room ≡ text doc →
    read_file raw room decoding_room ≡ accepted t →
    breaches doc ≡ [] →
    strict_file raw room decoding_room ≡ accepted t

-- what the ordinary reader accepts and has a breach is refused by 29, at a breach with none before it
abbrev pub SomeIsRefused : Type 0
SomeIsRefused =
    (raw doc : List ℕ) (room : Room) (decoding_room : ℕ) (t : Tables Shown) →
    document_of raw decoding_room ≡ text doc →
    read_file raw room decoding_room ≡ accepted t →
    empty (breaches doc) ≡ false →
    (p : ℕ) × (strict_file raw room decoding_room ≡ refused (bare 29 p)) × (among p (breaches doc) ≡ true) × ((q : ℕ) → among q (breaches doc) ≡ true → p ≤ q)

-- what the ordinary reader refuses is refused alike
abbrev pub RefusedAlike : Type 0
RefusedAlike =
    (raw : List ℕ) (room : Room) (decoding_room : ℕ) (x : Refusal) → read_file raw room decoding_room ≡ refused x → strict_file raw room decoding_room ≡ refused x
