-- Every refusal and every warning of a file has a message, with the document that what follows is handed.
use Prim.Native.Nat.{ℕ}
use mathlib.Core.Path.{◌≡◌, refl, sym, ◌∙◌}
use mathlib.Core.List.{List, [], ◌∷◌}
use mathlib.Core.Bool.{true}
use native.Mathlib.Omega.{arith}
use Rattle.std.specs.Prelude.{Ok, Err}
use Rattle.answers.specs.Text.{Text, text, wrong}
use Rattle.document.specs.Elements.{among}
use Rattle.document.specs.Refusals.{bare}
use Rattle.document.specs.Whole.{verdict_of, Says}
use Rattle.document.specs.declared.Refusal.{Refusal}
use Rattle.document.proofs.Tests.{among_all}
use Rattle.document.specs.Verdict.{counts}
use Rattle.messages.specs.Message.{message_of}
use Rattle.files.specs.Files.{document_of, read_text, read_file, document_left}
use Rattle.files.proofs.Promises.{read_as_document, nothing_read, document_is_left, accepted_document, decoding_refused}
use Rattle.refusals.specs.Told.{told_of, FileRefusalsTold, FileWarningsTold}
use Rattle.refusals.proofs.Telling.{silent, nothing_shown, refusal_told}
use Rattle.refusals.proofs.Whole.{refusals_told, warnings_told}

-- a refusal that shows nothing has a message with any document
plain_told : (doc : List ℕ) (n p : ℕ) (x : Refusal) → among n silent ≡ true → bare n p ≡ x → (out : ℕ) → message_of doc (told_of x) out ≡ wrong 19 0 → ⊥
plain_told doc n p x h e = rw (← e) (refusal_told doc (bare n p) (nothing_shown h))

pub file_refusals_told : FileRefusalsTold
unfolding read_file
file_refusals_told raw rows warnings x decoded room decoding_room r y s v = go (document_of raw decoding_room) refl (sym s.verdict ∙ v)
  where
    go : (o : Text) → document_of raw decoding_room ≡ o → verdict_of (read_text o room) ≡ Err y → (out : ℕ) → message_of (document_left raw decoded r.decoded) (told_of y) out ≡ wrong 19 0 → ⊥
    go (text []) e f =
        let g : Err (bare 3 0) ≡ Err y = rw (nothing_read room) at f in
        plain_told (document_left raw decoded r.decoded) 3 0 y refl cc
    go (text (b ∷ t)) e f =
        let l : document_left raw decoded r.decoded ≡ b ∷ t = rw (s.of_decoded, s.length) (document_is_left raw decoding_room (b ∷ t) e (λ h. absurd (omega arith))) in
        let p : Says (b ∷ t) room rows warnings x (Err y) = rw v at (read_as_document raw (b ∷ t) rows warnings x decoded room decoding_room r e s) in
        rw l (refusals_told (b ∷ t) rows warnings x room y p)
    go (wrong n p) e f =
        let i : among n silent ≡ true = among_all (λ m. among m silent) n (2 ∷ 18 ∷ 26 ∷ 27 ∷ []) refl (decoding_refused raw decoding_room n p e) in
        plain_told (document_left raw decoded r.decoded) n p y i cc

pub file_warnings_told : FileWarningsTold
file_warnings_told raw rows warnings x decoded room decoding_room r n t w s v =
    let e = accepted_document raw rows warnings x decoded room decoding_room r n t w s v in
    let p : Says (document_left raw decoded r.decoded) room rows warnings x (Ok (counts n t w)) = rw v at (read_as_document raw (document_left raw decoded r.decoded) rows warnings x decoded room decoding_room r e s) in
    warnings_told (document_left raw decoded r.decoded) rows warnings x room n t w p
