-- Of every file (docs/FORMAT.md, Files in UTF-16): it is accepted or refused by a known number, and how much room is always enough.
use Prim.Native.Nat.{ℕ, ◌*◌, ◌≤◌}
use mathlib.Core.Path.{◌≡◌, refl, sym, ◌∙◌}
use mathlib.Core.List.{List, [], ◌∷◌}
use mathlib.Core.Bool.{Bool, true, false}
use native.Mathlib.Omega.{arith}
use lib.ListN.{length}
use Rattle.slices.specs.Bytes.{if, all}
use Rattle.answers.specs.Text.{Text, text, wrong}
use Rattle.utf16.specs.Entry.{marked, decoding}
use Rattle.utf16.specs.Promises.{is_byte}
use Rattle.utf16.proofs.Formed.{short}
use Rattle.document.specs.Tags.{Shown}
use Rattle.document.specs.Elements.{among}
use Rattle.document.specs.Reading.{State, begun, reading, accepted, refused}
use Rattle.document.specs.Refusals.{bare}
use Rattle.document.specs.Whole.{meaning, read}
use Rattle.document.proofs.Tests.{never, among_all, among_there}
use Rattle.files.specs.Files.{document_of, read_text, read_file}
use Rattle.files.proofs.Promises.{decoding_refused, decoded_room}
use Rattle.bounds.specs.Bounds.{lent_refusals, Told}
use Rattle.bounds.specs.Files.{file_refusals, Numbered, FilesNumbered, DocumentRoom, FileRoom}
use Rattle.bounds.proofs.Whole.{read_told, room_enough, refusal}

-- ---- numbers

told_numbered : (len : ℕ) (s : State Shown) → Told lent_refusals len s → Numbered s
told_numbered len begun h = h
told_numbered len (reading fs u) h = h
told_numbered len (accepted u) h = tt
told_numbered len (refused x) h = among_there x.number 26 (27 ∷ lent_refusals) (among_there x.number 27 lent_refusals h.number)

pub files_numbered : FilesNumbered
unfolding read_file
files_numbered raw r decoding_room = go (document_of raw decoding_room) refl
  where
    go : (o : Text) → document_of raw decoding_room ≡ o → Numbered (read_text o r)
    go (text t) e = told_numbered (length t) (read t r) (read_told t r)
    go (wrong n p) e = among_all (λ m. among m file_refusals) n (2 ∷ 18 ∷ 26 ∷ 27 ∷ []) refl (decoding_refused raw decoding_room n p e)

-- ---- room

pub document_room : DocumentRoom
unfolding read_file
document_room raw t r decoding_room e a b c = rw e (room_enough t r a b c)

-- a document has at most 3/2 of its file's bytes
document_short : (raw t : List ℕ) (room : ℕ) → all is_byte raw ≡ true → document_of raw room ≡ text t → 2 * length t ≤ 3 * length raw
unfolding document_of
document_short raw t room a = go (marked raw)
  where
    go : (m : Bool) → if m (decoding raw room) (text raw) ≡ text t → 2 * length t ≤ 3 * length raw
    go true e = short raw t room a e
    go false e = let q : raw ≡ t = cc in rw (← q) (omega arith)

pub file_room : FileRoom
unfolding read_file
file_room raw r decoding_room a h w x d y e = go (document_of raw decoding_room) refl
  where
    go : (o : Text) → document_of raw decoding_room ≡ o → y.number ≡ 18 → ⊥
    go (text t) f n =
        let l = document_short raw t decoding_room a f in
        let m : meaning t ≡ refused y = sym (document_room raw t r decoding_room f (omega arith) (omega arith) (omega arith)) ∙ e in
        never (rw n at (refusal t m).number)
    go (wrong k p) f n =
        let g : refused (bare k p) ≡ refused y = rw f at e in
        let q : bare k p ≡ y = cc in
        let i : k ≡ 18 = rw (← q) at n in
        decoded_room raw decoding_room p a d (rw i at f)
