-- The strict entry: what it says, on each of its ways.
use Prim.Native.Nat.{ℕ, ◌-◌, ◌≤◌}
use mathlib.Core.Path.{◌≡◌, refl, sym, ◌∙◌}
use mathlib.Core.List.{List}
use mathlib.Core.Bool.{Bool, true, false}
use borrow.Author.Rules.{rules}
use borrow.Author.Tests.{ne_eqb}
use native.Mathlib.Omega.{arith}
use lib.ListN.{length, take, replicate, length-append}
use Rattle.std.specs.Prelude.{Ok, Err, Option, Some, None}
use Rattle.slices.specs.Bytes.{if}
use Rattle.answers.specs.Text.{Text, text, wrong, left_of}
use Rattle.utf16.specs.Entry.{marked, decoding, left}
use Rattle.document.specs.Tags.{Shown}
use Rattle.document.specs.Rows.{Tables}
use Rattle.document.specs.Refusals.{bare}
use Rattle.document.specs.Reading.{State, begun, reading, accepted, refused}
use Rattle.document.specs.Whole.{Room, read, verdict_of, rows_left, warnings_left, text_left, Says}
use Rattle.document.specs.declared.Refusal.{Refusal}
use Rattle.document.specs.Verdict.{Verdict}
use Rattle.document.specs.declared.Counts.{Counts}
use Rattle.files.specs.Files.{document_of, read_text, read_file, length_of, decoded_length, document_left, Reads}
use Rattle.files.specs.declared.Reading.{Reading}
use Rattle.files.proofs.Promises.{read_as_document, accepted_document}
use Rattle.accepted.proofs.Folding.{meaning_accepts}
use Rattle.accepted.proofs.Accepted.{read_accepts}
use Rattle.breaches.specs.Least.{least}
use Rattle.breaches.specs.Breaches.{breaches}
use Rattle.breaches.specs.Outcome as breach
use Rattle.strict.specs.Strict.{judged, strict, strict_text, strict_file, ReadsStrictly}
use Rattle.strict.specs.Entry.{IsJudged, Judges}

-- ---- the document of a file

-- what the verdict tells of reading
accepts : (doc : List ℕ) (room : Room) {k : Counts} → Ok k ≡ verdict_of (read doc room) → (u : Tables Shown) × (read doc room ≡ accepted u)
accepts doc room {k} e = go (read doc room) refl e
  where
    go : (s : State Shown) → read doc room ≡ s → Ok k ≡ verdict_of s → (u : Tables Shown) × (read doc room ≡ accepted u)
    go begun f e = let z : ◌≡◌ {A = ℕ} 0 1 = cc in absurd (omega arith)
    go (reading fs u) f e = let z : ◌≡◌ {A = ℕ} 0 1 = cc in absurd (omega arith)
    go (accepted u) f e = (u, f)
    go (refused x) f e = let z : ◌≡◌ {A = ℕ} 0 1 = cc in absurd (omega arith)

refuses : (s : State Shown) (b : Option ℕ) {x : Refusal} → Err x ≡ verdict_of s → judged s b ≡ s
refuses begun b e = refl
refuses (reading fs u) b e = refl
refuses (accepted u) b e = let z : ◌≡◌ {A = ℕ} 0 1 = cc in absurd (omega arith)
refuses (refused y) b e = refl

-- the answer and the buffers by the profile
record Strictly (doc : List ℕ) (room : Room) (rows warnings text : List ℕ) (v : Verdict) : Type 0 where
  verdict : v ≡ verdict_of (strict doc room)
  of_rows : rows ≡ rows_left room (strict doc room)
  of_warnings : warnings ≡ warnings_left room (strict doc room)
  of_text : text ≡ text_left room (strict doc room)

module _ {doc rows warnings text : List ℕ} {room : Room} {k : Counts} (s : Says doc room rows warnings text (Ok k)) where
  says_accepted : breach.Accepted doc
  says_accepted =
      let u = accepts doc room s.verdict in
      let a = meaning_accepts doc u.0 (read_accepts doc room u.0 u.1) in
      record { sound = a.sound; tables = u.0; reads = a.reads }

  -- the buffers had the same room all along
  says_judged : {r' w' t' : List ℕ} {v' : Verdict} → Judges doc k rows r' warnings w' text t' v' → length rows ≡ room.rows → length warnings ≡ room.warnings → length text ≡ room.text → Strictly doc room r' w' t' v'
  unfolding strict
  says_judged {r'} {w'} {t'} {v'} j a b c = go (least (breaches doc)) refl j.is
    where
      go : (b : Option ℕ) → least (breaches doc) ≡ b → IsJudged b k rows r' warnings w' text t' v' → Strictly doc room r' w' t' v'
      go None f i =
          let u = accepts doc room s.verdict in
          let k : strict doc room ≡ read doc room = rw (u.1, f) in
          record {
            verdict = i.0 ∙ s.verdict ∙ rw k;
            of_rows = i.1 ∙ s.of_rows ∙ rw k;
            of_warnings = i.2 ∙ s.of_warnings ∙ rw k;
            of_text = i.3 ∙ s.of_text ∙ rw k;
          }
      go (Some p) f i =
          let u = accepts doc room s.verdict in
          let q : strict doc room ≡ refused (bare 29 p) = rw (u.1, f) in
          record {
            verdict = i.verdict ∙ rw q;
            of_rows = i.of_rows ∙ rw (q, a);
            of_warnings = i.of_warnings ∙ rw (q, b);
            of_text = i.of_text ∙ rw (q, c);
          }

-- ---- the entry

-- what was decoded lies in the buffer
decoded_fits : (raw : List ℕ) (room : ℕ) → decoded_length raw room ≤ length (left raw room)
unfolding decoded_length left
decoded_fits raw room = go (marked raw) (decoding raw room)
  where
    go : (m : Bool) (o : Text) → if m (length_of o) 0 ≤ length (if m (left_of room o) (replicate room 0))
    go true (text t) = omega (arith, length-append t (replicate (room - length t) 0))
    go true (wrong n p) = omega arith
    go false o = omega arith

-- the state of what is refused
refused_file : (raw : List ℕ) (room : Room) (dr : ℕ) {x : Refusal} → Err x ≡ verdict_of (read_file raw room dr) → strict_file raw room dr ≡ read_file raw room dr
unfolding strict_file read_file strict
refused_file raw room dr {x} e = go (document_of raw dr) e
  where
    go : (o : Text) → Err x ≡ verdict_of (read_text o room) → strict_text o room ≡ read_text o room
    go (text t) e = refuses (read t room) (least (breaches t)) e
    go (wrong n p) e = refl

module _ {raw rows warnings x decoded : List ℕ} {room : Room} {dr : ℕ} {r : Reading} (s : Reads raw room dr rows warnings x decoded r) where
  -- what is refused stays refused
  pub file_refused : {y : Refusal} → r.verdict ≡ Err y → ReadsStrictly raw room dr rows warnings x decoded (record { verdict = Err y; decoded = r.decoded })
  file_refused e =
      let k = refused_file raw room dr (sym e ∙ s.verdict) in
      record {
        verdict = sym e ∙ s.verdict ∙ rw k;
        of_rows = s.of_rows ∙ rw k;
        of_warnings = s.of_warnings ∙ rw k;
        of_text = s.of_text ∙ rw k;
        of_decoded = s.of_decoded;
        length = s.length;
      }

  pub file_inside : r.decoded ≤ length decoded
  file_inside = rw (s.length, s.of_decoded) (decoded_fits raw dr)

  module _ {k : Counts} (e : r.verdict ≡ Ok k) where
    abbrev document : List ℕ
    document = document_left raw decoded r.decoded

    is_document : document_of raw dr ≡ text document
    is_document = accepted_document raw rows warnings x decoded room dr r k.rows k.text k.warnings s e

    says : Says document room rows warnings x (Ok k)
    says = rw e at (read_as_document raw document rows warnings x decoded room dr r is_document s)

    judged_file : {r' w' t' : List ℕ} {v : Verdict} → Judges document k rows r' warnings w' x t' v → length rows ≡ room.rows → length warnings ≡ room.warnings → length x ≡ room.text → ReadsStrictly raw room dr r' w' t' decoded (record { verdict = v; decoded = r.decoded })
    unfolding strict_file
    judged_file j a b c =
        let k = says_judged says j a b c in
        record {
          verdict = rw is_document k.verdict;
          of_rows = rw is_document k.of_rows;
          of_warnings = rw is_document k.of_warnings;
          of_text = rw is_document k.of_text;
          of_decoded = s.of_decoded;
          length = s.length;
        }

    -- the file itself, or the text that it decodes to
    module _ (z : r.decoded ≡ 0) where
      itself : document ≡ raw
      itself = rw z refl

      pub raw_accepted : breach.Accepted raw
      raw_accepted = rw itself at (says_accepted says)

      pub raw_judged : {r' w' t' : List ℕ} {v : Verdict} → Judges raw k rows r' warnings w' x t' v → length rows ≡ room.rows → length warnings ≡ room.warnings → length x ≡ room.text → ReadsStrictly raw room dr r' w' t' decoded (record { verdict = v; decoded = r.decoded })
      raw_judged {r'} {w'} {t'} {v} j a b c =
          let i : Judges document k rows r' warnings w' x t' v = rw itself j in
          judged_file i a b c

    module _ (z : r.decoded ≡ 0 → ⊥) where
      decodes : document ≡ take r.decoded decoded
      decodes = rw (ne_eqb r.decoded 0 z) refl

      pub text_accepted : breach.Accepted (take r.decoded decoded)
      text_accepted = rw decodes at (says_accepted says)

      pub text_judged : {r' w' t' : List ℕ} {v : Verdict} → Judges (take r.decoded decoded) k rows r' warnings w' x t' v → length rows ≡ room.rows → length warnings ≡ room.warnings → length x ≡ room.text → ReadsStrictly raw room dr r' w' t' decoded (record { verdict = v; decoded = r.decoded })
      text_judged {r'} {w'} {t'} {v} j a b c =
          let i : Judges document k rows r' warnings w' x t' v = rw decodes j in
          judged_file i a b c

pub ruleset entry = (file_refused, file_inside, raw_accepted, raw_judged, text_accepted, text_judged, rules)
