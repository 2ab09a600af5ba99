-- What has to stand in the document for a refusal or a warning to have a message; and it then has one.
use Prim.Native.Nat.{ℕ, ◌+◌, ◌≤◌}
use mathlib.Core.Path.{◌≡◌, refl, sym, ap, subst, ◌∙◌}
use mathlib.Core.List.{List, [], ◌∷◌}
use mathlib.Core.Bool.{Bool, true, false, not, ◌&&◌}
use borrow.Author.Tests.{eq-eqb, le-leb}
use native.Mathlib.Omega.{arith}
use lib.Dec.{eqb, ltb}
use lib.ListN.{length, take, drop}
use Rattle.slices.specs.Bytes.{if, bytes}
use Rattle.utf8.specs.WellFormed.{ill_formed}
use Rattle.answers.specs.Text.{Text, text, wrong, roomy}
use Rattle.answers.proofs.Answers.{no_text}
use Rattle.references.specs.Unescape.{unescape}
use Rattle.document.specs.Elements.{among}
use Rattle.document.specs.Refusals.{shown_by}
use Rattle.document.proofs.Tests.{among_each}
use Rattle.document.specs.declared.Excerpt.{Excerpt}
use Rattle.document.specs.declared.Refusal.{Refusal}
use Rattle.messages.specs.Texts.{pieces_of, refusals, warnings, key_name}
use Rattle.messages.specs.Message.{is_shown, excerpt_of, present, joined, message_by, message_of, warned, warning_message_of}
use Rattle.messages.specs.declared.Wide.{Wide}
use Rattle.messages.specs.declared.Told.{Told}
use Rattle.refusals.specs.Told.{told_of}

-- an excerpt stands in the document, and is UTF-8
abbrev pub bytes_at : List ℕ → Excerpt → List ℕ
bytes_at doc e = take e.len (drop e.at doc)

pub record Stands (doc : List ℕ) (e : Excerpt) : Type 0 where
  pub inside : e.at + e.len ≤ length doc
  pub formed : ill_formed (bytes_at doc e) ≡ length (bytes_at doc e)

-- a raw value that does, and is unescaped
pub record Reads (doc : List ℕ) (e : Excerpt) : Type 0 where
  pub stands : Stands doc e
  pub shows : (t : List ℕ) × (unescape (bytes_at doc e) ≡ text t)

-- the numbers that show nothing, and the reasons of warnings
abbrev pub silent : List ℕ
silent = 1 ∷ 2 ∷ 3 ∷ 4 ∷ 7 ∷ 9 ∷ 13 ∷ 14 ∷ 17 ∷ 18 ∷ 22 ∷ 23 ∷ 24 ∷ 25 ∷ 26 ∷ 27 ∷ []

abbrev pub reasons : List ℕ
reasons = 1 ∷ 2 ∷ 3 ∷ 4 ∷ 5 ∷ 6 ∷ 7 ∷ 8 ∷ 9 ∷ []

-- what a refusal shows is there: nothing; one name or reference; two names; a name and a key; a raw value
pub data Showable (doc : List ℕ) (x : Refusal) : Type 0 where
  nothing_shown : among x.number silent ≡ true → Showable doc x
  one_shown : among x.number (5 ∷ 8 ∷ 10 ∷ 11 ∷ []) ≡ true → Stands doc x.first → Showable doc x
  two_shown : x.number ≡ 6 → Stands doc x.first → Stands doc x.second → Showable doc x
  key_shown : x.number ≡ 12 → among x.key (1 ∷ 2 ∷ 3 ∷ 4 ∷ []) ≡ true → Stands doc x.first → Showable doc x
  value_shown : among x.number (15 ∷ 16 ∷ []) ≡ true → Reads doc x.first → Showable doc x

-- it is a text
abbrev Telling : Text → Type 0
Telling o = (t : List ℕ) × (o ≡ text t)

other_number : {A : Type 0} (n p : ℕ) → (n ≡ 19 → ⊥) → wrong n p ≡ wrong 19 0 → A
other_number n p h e = let q : n ≡ 19 = cc in absurd (h q)

roomy_tells : (room : ℕ) (o : Text) → Telling o → roomy room o ≡ wrong 19 0 → ⊥
roomy_tells room o (t, e) q = go (ltb room (length t)) (rw e at q)
  where
    go : (b : Bool) → if b (wrong 21 (length t)) (text t) ≡ wrong 19 0 → ⊥
    go true q = other_number 21 (length t) (λ z. absurd (omega arith)) q
    go false q = no_text 19 0 t (sym q)

limited : (b : Bool) (o : Text) → (o ≡ wrong 19 0 → ⊥) → if b (wrong 2 1048576) o ≡ wrong 19 0 → ⊥
limited true o h q = other_number 2 1048576 (λ z. absurd (omega arith)) q
limited false o h q = h q

message_tells : (doc : List ℕ) (x : Told) (room : ℕ) → Telling (message_by doc x (pieces_of refusals x.number)) → message_of doc x room ≡ wrong 19 0 → ⊥
unfolding message_of
message_tells doc x room t q = limited (ltb 1048576 (length doc) && not (eqb x.number 2)) _ (roomy_tells room (message_by doc x (pieces_of refusals x.number)) t) q

-- an excerpt that stands in the document is shown
abbrev in_document : Excerpt → Wide
in_document e = record { source = 1; start = e.at; len = e.len }

module _ {doc : List ℕ} {e : Excerpt} where
  excerpt_shown : Stands doc e → excerpt_of doc (in_document e) ≡ text (bytes_at doc e)
  unfolding excerpt_of is_shown
  excerpt_shown s = rw (le-leb (e.at + e.len) (length doc) s.inside, eq-eqb _ _ s.formed)

-- the texts, of whatever is told
module _ (doc : List ℕ) (y : Told) where
  abbrev Tells : ℕ → Type 0
  Tells n = Telling (message_by doc y (pieces_of refusals n))

  plain_tells : (n : ℕ) → among n silent ≡ true → Tells n
  plain_tells n e = among_each Tells n silent e ((_, refl), ((_, refl), ((_, refl), ((_, refl), ((_, refl), ((_, refl), ((_, refl), ((_, refl), ((_, refl), ((_, refl), ((_, refl), ((_, refl), ((_, refl), ((_, refl), ((_, refl), ((_, refl), tt))))))))))))))))

  module _ {s : List ℕ} (q : excerpt_of doc y.first ≡ text s) where
    first_tells : (n : ℕ) → among n (5 ∷ 8 ∷ 10 ∷ 11 ∷ []) ≡ true → Tells n
    first_tells n e = among_each Tells n (5 ∷ 8 ∷ 10 ∷ 11 ∷ []) e (five, (eight, (ten, (eleven, tt))))
      where
        five : Tells 5
        five = rw q (_, refl)

        eight : Tells 8
        eight = rw q (_, refl)

        ten : Tells 10
        ten = rw q (_, refl)

        eleven : Tells 11
        eleven = rw q (_, refl)

    second_tells : {s' : List ℕ} → excerpt_of doc y.second ≡ text s' → Tells 6
    second_tells q' = rw (q, q') (_, refl)

    key_tells : among y.key (1 ∷ 2 ∷ 3 ∷ 4 ∷ []) ≡ true → Tells 12
    key_tells e = among_each (λ k. Telling (joined (text (bytes "missing attribute `")) (joined (present (key_name k)) (joined (text (bytes "` on `<")) (joined (excerpt_of doc y.first) (text (bytes ">`"))))))) y.key (1 ∷ 2 ∷ 3 ∷ 4 ∷ []) e (rw q (_, refl), (rw q (_, refl), (rw q (_, refl), (rw q (_, refl), tt))))

    value_tells : {t : List ℕ} → unescape s ≡ text t → (n : ℕ) → among n (15 ∷ 16 ∷ []) ≡ true → Tells n
    value_tells u n e = among_each Tells n (15 ∷ 16 ∷ []) e (fifteen, (sixteen, tt))
      where
        fifteen : Tells 15
        fifteen = rw (q, u) (_, refl)

        sixteen : Tells 16
        sixteen = rw (q, u) (_, refl)

    reason_tells : (n : ℕ) → among n reasons ≡ true → Telling (message_by doc y (pieces_of warnings n))
    reason_tells n e = among_each (λ n. Telling (message_by doc y (pieces_of warnings n))) n reasons e (rw q (_, refl), (rw q (_, refl), (rw q (_, refl), (rw q (_, refl), (rw q (_, refl), (rw q (_, refl), (rw q (_, refl), (rw q (_, refl), (rw q (_, refl), tt)))))))))

-- what is told of a refusal whose number shows an excerpt
told_first : (x : Refusal) → ltb 0 (shown_by x.number) ≡ true → (told_of x).first ≡ in_document x.first
told_first x e = rw e

-- a refusal whose excerpts are there is not answered by 19
pub refusal_told : (doc : List ℕ) (x : Refusal) → Showable doc x → (room : ℕ) → message_of doc (told_of x) room ≡ wrong 19 0 → ⊥
refusal_told doc x (nothing_shown e) room = message_tells doc (told_of x) room (plain_tells doc (told_of x) x.number e)
refusal_told doc x (one_shown e s) room =
    let w : ltb 0 (shown_by x.number) ≡ true = among_each (λ n. ltb 0 (shown_by n) ≡ true) x.number (5 ∷ 8 ∷ 10 ∷ 11 ∷ []) e (refl, (refl, (refl, (refl, tt)))) in
    message_tells doc (told_of x) room (first_tells doc (told_of x) (ap (excerpt_of doc) (told_first x w) ∙ excerpt_shown s) x.number e)
refusal_told doc x (two_shown e s s') room =
    let w : ltb 0 (shown_by x.number) ≡ true = rw e in
    let v : (told_of x).second ≡ in_document x.second = rw e in
    message_tells doc (told_of x) room (subst (Tells doc (told_of x)) (sym e) (second_tells doc (told_of x) (ap (excerpt_of doc) (told_first x w) ∙ excerpt_shown s) (ap (excerpt_of doc) v ∙ excerpt_shown s')))
refusal_told doc x (key_shown e k s) room =
    let w : ltb 0 (shown_by x.number) ≡ true = rw e in
    message_tells doc (told_of x) room (subst (Tells doc (told_of x)) (sym e) (key_tells doc (told_of x) (ap (excerpt_of doc) (told_first x w) ∙ excerpt_shown s) k))
refusal_told doc x (value_shown e s) room =
    let w : ltb 0 (shown_by x.number) ≡ true = among_each (λ n. ltb 0 (shown_by n) ≡ true) x.number (15 ∷ 16 ∷ []) e (refl, (refl, tt)) in
    message_tells doc (told_of x) room (value_tells doc (told_of x) (ap (excerpt_of doc) (told_first x w) ∙ excerpt_shown s.stands) s.shows.1 x.number e)

-- nor is a warning with a known reason, whose name is there
pub warning_told : (doc : List ℕ) (reason : ℕ) (e : Excerpt) → among reason reasons ≡ true → Stands doc e → (room : ℕ) → warning_message_of doc reason e.at e.len room ≡ wrong 19 0 → ⊥
unfolding warning_message_of
warning_told doc reason e h s room q =
    let y : Told = warned reason e.at e.len in
    limited (ltb 1048576 (length doc)) _ (roomy_tells room (message_by doc y (pieces_of warnings reason)) (reason_tells doc y (excerpt_shown s) reason h)) q
