-- The document of a file and its decoded length, by what decoding answers; and what reading it says, by what reading the document says.
use Prim.Native.Nat.{ℕ, ◌-◌, ◌≤◌}
use mathlib.Core.Path.{◌≡◌, refl, sym, ap}
use mathlib.Core.List.{List, ◌++◌}
use mathlib.Core.Bool.{Bool, true, false}
use native.Mathlib.Omega.{arith}
use lib.ListN.{length, take, replicate, length-append}
use lib.Seq.{take-append_seam}
use Rattle.std.specs.Prelude.{Ok, Err, Some, None}
use Rattle.faults.specs.declared.Fault.{Fault}
use Rattle.faults.specs.Fault.{fault}
use Rattle.slices.specs.Bytes.{if}
use Rattle.answers.specs.Text.{Text, text, wrong}
use Rattle.utf16.specs.Entry.{marked, decoding, answer_of, answer, left}
use Rattle.document.specs.Refusals.{bare}
use Rattle.document.specs.Reading.{refused}
use Rattle.document.specs.Whole.{Room, verdict_of, Says}
use Rattle.document.specs.Verdict.{Verdict}
use Rattle.files.specs.Files.{document_of, read_file, decoded_length, Reads}

-- ---- what decoding answers, by the mark

module _ (raw : List ℕ) (room : ℕ) where
  of_unmarked : (m : Bool) (o : Text) → if m (answer_of o) (Ok None) ≡ Ok None → m ≡ false
  of_unmarked true (text t) e = let z : ◌≡◌ {A = ℕ} 0 1 = cc in absurd (omega arith)
  of_unmarked true (wrong k q) e = let z : ◌≡◌ {A = ℕ} 0 1 = cc in absurd (omega arith)
  of_unmarked false o e = refl

  of_refused : (f : Fault) (m : Bool) (o : Text) → if m (answer_of o) (Ok None) ≡ Err f → (m ≡ true) × (o ≡ wrong f.number f.place)
  of_refused f true (text t) e = let z : ◌≡◌ {A = ℕ} 0 1 = cc in absurd (omega arith)
  of_refused f true (wrong k q) e = (refl, let g : fault k q ≡ f = cc in ap (λ (z : Fault). wrong z.number z.place) g)
  of_refused f false o e = let z : ◌≡◌ {A = ℕ} 0 1 = cc in absurd (omega arith)

  of_decoded : (n : ℕ) (m : Bool) (o : Text) → if m (answer_of o) (Ok None) ≡ Ok (Some n) → (m ≡ true) × (t : List ℕ) × (o ≡ text t) × (n ≡ length t)
  of_decoded n true (text t) e = (refl, t, refl, cc)
  of_decoded n true (wrong k q) e = let z : ◌≡◌ {A = ℕ} 0 1 = cc in absurd (omega arith)
  of_decoded n false o e = let z : ◌≡◌ {A = ℕ} 0 1 = cc in absurd (omega arith)

  unmarked : answer raw room ≡ Ok None → marked raw ≡ false
  unfolding answer
  unmarked = of_unmarked (marked raw) (decoding raw room)

  refusing : {f : Fault} → answer raw room ≡ Err f → (marked raw ≡ true) × (decoding raw room ≡ wrong f.number f.place)
  unfolding answer
  refusing {f} = of_refused f (marked raw) (decoding raw room)

  decodes : {n : ℕ} → answer raw room ≡ Ok (Some n) → (marked raw ≡ true) × (t : List ℕ) × (decoding raw room ≡ text t) × (n ≡ length t)
  unfolding answer
  decodes {n} = of_decoded n (marked raw) (decoding raw room)

  left_is : (t : List ℕ) → marked raw ≡ true → decoding raw room ≡ text t → left raw room ≡ t ++ replicate (room - length t) 0
  unfolding left
  left_is t m d = rw (m, d)

  pub front_is : (n : ℕ) (t : List ℕ) → marked raw ≡ true → decoding raw room ≡ text t → n ≡ length t → take n (left raw room) ≡ t
  front_is n t m d k = rw (left_is t m d, k) (take-append_seam t (replicate (room - length t) 0))

  -- ---- the document, and how many bytes were decoded

  pub document_unmarked : answer raw room ≡ Ok None → document_of raw room ≡ text raw
  unfolding document_of
  document_unmarked e = rw (unmarked e)

  pub none_unmarked : answer raw room ≡ Ok None → decoded_length raw room ≡ 0
  unfolding decoded_length
  none_unmarked e = rw (unmarked e)

  pub document_refused : {f : Fault} → answer raw room ≡ Err f → document_of raw room ≡ wrong f.number f.place
  unfolding document_of
  document_refused e = let h = refusing e in rw (h.0, h.1)

  pub none_refused : {f : Fault} → answer raw room ≡ Err f → decoded_length raw room ≡ 0
  unfolding decoded_length
  none_refused e = let h = refusing e in rw (h.0, h.1)

  pub document_decoded : {n : ℕ} → answer raw room ≡ Ok (Some n) → document_of raw room ≡ text (take n (left raw room))
  unfolding document_of
  document_decoded {n} e = let h = decodes e in rw (h.0, h.2) (ap text (sym (front_is n h.1 h.0 h.2 h.3)))

  pub some_decoded : {n : ℕ} → answer raw room ≡ Ok (Some n) → decoded_length raw room ≡ n
  unfolding decoded_length
  some_decoded e = let h = decodes e in rw (h.0, h.2) (sym h.3)

  pub inside_decoded : {n : ℕ} → answer raw room ≡ Ok (Some n) → n ≤ length (left raw room)
  inside_decoded e =
      let h = decodes e in
      rw (left_is h.1 h.0 h.2) (omega (arith, length-append h.1 (replicate (room - length h.1) 0), h.3))

-- ---- reading

module _ {raw rows warnings x decoded : List ℕ} {r : Room} {room n : ℕ} {v : Verdict} (l : decoded ≡ left raw room) (k : n ≡ decoded_length raw room) where
  pub reads_document : (t : List ℕ) → document_of raw room ≡ text t → Says t r rows warnings x v → Reads raw r room rows warnings x decoded (record { verdict = v; decoded = n })
  unfolding read_file
  reads_document t e s = record {
    verdict = rw e s.verdict;
    of_rows = rw e s.of_rows;
    of_warnings = rw e s.of_warnings;
    of_text = rw e s.of_text;
    of_decoded = l;
    length = k;
  }

  pub reads_refused : (m p : ℕ) → document_of raw room ≡ wrong m p → v ≡ verdict_of (refused (bare m p)) → rows ≡ replicate r.rows 0 → warnings ≡ replicate r.warnings 0 → x ≡ replicate r.text 0 → Reads raw r room rows warnings x decoded (record { verdict = v; decoded = n })
  unfolding read_file
  reads_refused m p e f a b c = record {
    verdict = rw e f;
    of_rows = rw e a;
    of_warnings = rw e b;
    of_text = rw e c;
    of_decoded = l;
    length = k;
  }
