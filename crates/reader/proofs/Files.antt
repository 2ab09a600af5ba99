-- Reading a file, by what decoding it answers.
use Prim.Native.Nat.{ℕ, ◌≤◌}
use mathlib.Core.Path.{◌≡◌, sym, ◌∙◌}
use mathlib.Core.List.{List}
use borrow.Author.Rules.{rules}
use lib.ListN.{length, take}
use Rattle.std.specs.Prelude.{Result, Ok, Err, Option, Some, None}
use Rattle.faults.specs.declared.Fault.{Fault}
use Rattle.utf16.specs.Entry.{answer}
use Rattle.utf16.specs.Promises.{DecodesWhole}
use Rattle.document.specs.Refusals.{bare}
use Rattle.document.specs.Whole.{Room, room_of, Says}
use Rattle.document.specs.declared.Refusal.{Refusal}
use Rattle.document.specs.Verdict.{Verdict}
use Rattle.files.specs.Files.{Reads}
use Rattle.files.proofs.Documents.{document_unmarked, none_unmarked, document_refused, none_refused, document_decoded, some_decoded, inside_decoded, reads_document, reads_refused}
use Rattle.reader.specs.Entry.{Refuses}

module _ {raw lent decoded : List ℕ} {a : Result (Option ℕ) Fault} (d : DecodesWhole raw lent decoded a) where
  module _ {rows warnings text : List ℕ} {r : Room} {v : Verdict} where
    -- without a mark the file is read
    pub reads_unmarked : Says raw r rows warnings text v → a ≡ Ok None → Reads raw r (length lent) rows warnings text decoded (record { verdict = v; decoded = 0 })
    reads_unmarked s f =
        let h : answer raw (length lent) ≡ Ok None = sym d.answers ∙ f in
        reads_document d.leaves (sym (none_unmarked raw (length lent) h)) raw (document_unmarked raw (length lent) h) s

    -- else what was decoded
    pub reads_decoded : {n : ℕ} → Says (take n decoded) r rows warnings text v → a ≡ Ok (Some n) → Reads raw r (length lent) rows warnings text decoded (record { verdict = v; decoded = n })
    reads_decoded {n} s f =
        let h : answer raw (length lent) ≡ Ok (Some n) = sym d.answers ∙ f in
        reads_document d.leaves (sym (some_decoded raw (length lent) h)) (take n decoded) (rw d.leaves (document_decoded raw (length lent) h)) s

  -- where it cannot be decoded every buffer is cleared
  pub reads_faulty : {f : Fault} {y : Refusal} {b b' w w' t t' : List ℕ} {v : Verdict} → Refuses y b b' w w' t t' v → y ≡ bare f.number f.place → a ≡ Err f → Reads raw (room_of b w t) (length lent) b' w' t' decoded (record { verdict = v; decoded = 0 })
  reads_faulty {f} z q g =
      let h : answer raw (length lent) ≡ Err f = sym d.answers ∙ g in
      reads_refused d.leaves (sym (none_refused raw (length lent) h)) f.number f.place (document_refused raw (length lent) h) (rw q at z.verdict) z.of_rows z.of_warnings z.of_text

  -- the decoded text lies in the buffer
  pub decoded_inside : {n : ℕ} → a ≡ Ok (Some n) → n ≤ length decoded
  decoded_inside {n} f =
      let h : answer raw (length lent) ≡ Ok (Some n) = sym d.answers ∙ f in
      rw d.leaves (inside_decoded raw (length lent) h)

pub ruleset files = (reads_unmarked, reads_decoded, reads_faulty, decoded_inside, rules)
