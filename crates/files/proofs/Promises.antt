-- What is promised of every file that is read.
use Prim.Native.Nat.{ℕ, ◌%◌, ◌<◌}
use mathlib.Core.Path.{◌≡◌, refl, sym, ap, ◌∙◌}
use mathlib.Core.List.{List, [], ◌∷◌}
use mathlib.Core.Bool.{Bool, true, false}
use mathlib.Core.Logic.{◌⊎◌, inl, inr}
use borrow.Author.Tests.{ne_eqb, ltb-true, le-ltb}
use native.Mathlib.Omega.{arith}
use lib.Dec.{eqb, ltb}
use lib.ListN.{length}
use Rattle.std.specs.Prelude.{Ok}
use Rattle.slices.specs.Bytes.{if, starts}
use Rattle.utf8.specs.WellFormed.{ill_formed}
use Rattle.scan.specs.Ignorable.{ignorable}
use Rattle.answers.specs.Text.{Text, text, wrong}
use Rattle.utf16.specs.Decode.{Scalars, scalars, lone, rest, in_bytes, text_of}
use Rattle.utf16.specs.Entry.{big_mark, marked, fitting, ordered, decoding, left}
use Rattle.utf16.proofs.Formed.{short}
use Rattle.document.specs.Tokens.{next, tokens}
use Rattle.document.specs.Refusals.{bare}
use Rattle.document.specs.Elements.{among}
use Rattle.document.specs.Reading.{refused, step, run}
use Rattle.document.specs.Whole.{Room, meaning, read, verdict_of}
use Rattle.document.specs.Verdict.{counts}
use Rattle.files.specs.Files.{document_of, read_text, read_file, decoded_length, document_left}
use Rattle.files.specs.Promises.{Unmarked, ReadAsDocument, AcceptedDocument, DecodingRefused, DecodedRoom}
use Rattle.files.proofs.Documents.{front_is}

pub of_no_mark : Unmarked
unfolding document_of
of_no_mark raw room e = rw e

pub read_as_document : ReadAsDocument
unfolding read_file
read_as_document raw t rows warnings x decoded room decoding_room r e s = record {
  verdict = rw e at s.verdict;
  of_rows = rw e at s.of_rows;
  of_warnings = rw e at s.of_warnings;
  of_text = rw e at s.of_text;
}

-- ---- the document of everything that follows

-- nothing is no document
pub nothing_read : (r : Room) → read [] r ≡ refused (bare 3 0)
unfolding read meaning ill_formed run step tokens next ignorable
nothing_read r = refl

-- of a document that is something
pub document_is_left : (raw : List ℕ) (room : ℕ) (t : List ℕ) → document_of raw room ≡ text t → (length t ≡ 0 → ⊥) → document_left raw (left raw room) (decoded_length raw room) ≡ t
unfolding document_of decoded_length
document_is_left raw room t = go (marked raw) refl
  where
    go : (m : Bool) → marked raw ≡ m → document_of raw room ≡ text t → (length t ≡ 0 → ⊥) → document_left raw (left raw room) (decoded_length raw room) ≡ t
    go false m e h =
        let f : text raw ≡ text t = rw m at e in
        let q : raw ≡ t = cc in
        rw m q
    go true m e h =
        let f : decoding raw room ≡ text t = rw m at e in
        rw (m, f, ne_eqb (length t) 0 h) (front_is raw room (length t) t m f refl)

pub accepted_document : AcceptedDocument
unfolding read_file
accepted_document raw rows warnings x decoded room decoding_room r n m k s a = go (document_of raw decoding_room) refl (sym s.verdict ∙ a)
  where
    left_is : (t : List ℕ) → document_of raw decoding_room ≡ text t → (length t ≡ 0 → ⊥) → document_left raw decoded r.decoded ≡ t
    left_is t e h = rw (s.of_decoded, s.length) (document_is_left raw decoding_room t e h)

    go : (o : Text) → document_of raw decoding_room ≡ o → verdict_of (read_text o room) ≡ Ok (counts n m k) → o ≡ text (document_left raw decoded r.decoded)
    go (text []) e f = let q = rw (nothing_read room) at f in let z : ◌≡◌ {A = ℕ} 0 1 = cc in absurd (omega arith)
    go (text (b ∷ t)) e f = ap text (sym (left_is (b ∷ t) e (λ h. absurd (omega arith))))
    go (wrong p q) e f = let z : ◌≡◌ {A = ℕ} 0 1 = cc in absurd (omega arith)

-- ---- where decoding is refused

-- by the first of its tests that finds a fault
module _ (raw : List ℕ) (room : ℕ) where
  abbrev ending : Bool → Bool → Scalars → ℕ → Text
  ending long odd s k = if long (wrong 2 1048576) (if odd (wrong 26 (length raw)) (fitting (length raw) k (text_of s)))

  decoding_ends : (k : ℕ) → decoding raw k ≡ ending (ltb 1048576 (length raw)) (eqb (length raw % 2) 1) (rest (starts big_mark raw) raw 2) k
  unfolding decoding ordered
  decoding_ends k = refl

  abbrev Unfit : ℕ → List ℕ → Type 0
  Unfit n t = (n ≡ 2) ⊎ ((n ≡ 18) × (room < length t) × (fitting (length raw) (length t) (text t) ≡ text t))

  of_text : (n p : ℕ) (t : List ℕ) → fitting (length raw) room (text t) ≡ wrong n p → Unfit n t
  of_text n p t = go (ltb 1048576 (length t)) (ltb room (length t)) refl refl
    where
      go : (x y : Bool) → ltb 1048576 (length t) ≡ x → ltb room (length t) ≡ y → if x (wrong 2 1048576) (if y (wrong 18 (length raw)) (text t)) ≡ wrong n p → Unfit n t
      go true y a b e = inl cc
      go false true a b e = inr (cc, ltb-true room (length t) b, rw (a, le-ltb (length t) (length t) (omega arith)))
      go false false a b e = let z : ◌≡◌ {A = ℕ} 0 1 = cc in absurd (omega arith)

  refused_by : (long odd : Bool) (s : Scalars) (n p : ℕ) → ending long odd s room ≡ wrong n p → among n (2 ∷ 18 ∷ 26 ∷ 27 ∷ []) ≡ true
  refused_by true odd s n p e = let q : 2 ≡ n = cc in rw (← q) refl
  refused_by false true s n p e = let q : 26 ≡ n = cc in rw (← q) refl
  refused_by false false (lone k) n p e = let q : 27 ≡ n = cc in rw (← q) refl
  refused_by false false (scalars cs) n p e = go (of_text n p (in_bytes cs) e)
    where
      go : Unfit n (in_bytes cs) → among n (2 ∷ 18 ∷ 26 ∷ 27 ∷ []) ≡ true
      go (inl q) = rw q refl
      go (inr q) = rw q.0 refl

  -- the text that has no room would be decoded with as much as it takes
  crowded_by : (long odd : Bool) (s : Scalars) (p : ℕ) → ending long odd s room ≡ wrong 18 p → (t : List ℕ) × (ending long odd s (length t) ≡ text t) × (room < length t)
  crowded_by true odd s p e = let q : ◌≡◌ {A = ℕ} 2 18 = cc in absurd (omega arith)
  crowded_by false true s p e = let q : ◌≡◌ {A = ℕ} 26 18 = cc in absurd (omega arith)
  crowded_by false false (lone k) p e = let q : ◌≡◌ {A = ℕ} 27 18 = cc in absurd (omega arith)
  crowded_by false false (scalars cs) p e = go (of_text 18 p (in_bytes cs) e)
    where
      go : Unfit 18 (in_bytes cs) → (t : List ℕ) × (fitting (length raw) (length t) (text (in_bytes cs)) ≡ text t) × (room < length t)
      go (inl q) = absurd (omega arith)
      go (inr q) = (in_bytes cs, q.2, q.1)

  crowded : (p : ℕ) → decoding raw room ≡ wrong 18 p → (t : List ℕ) × (decoding raw (length t) ≡ text t) × (room < length t)
  crowded p e =
      let c = crowded_by (ltb 1048576 (length raw)) (eqb (length raw % 2) 1) (rest (starts big_mark raw) raw 2) p (sym (decoding_ends room) ∙ e) in
      (c.0, decoding_ends (length c.0) ∙ c.1, c.2)

-- a fault of the document is one of decoding
fault_decodes : (raw : List ℕ) (room n p : ℕ) → document_of raw room ≡ wrong n p → decoding raw room ≡ wrong n p
unfolding document_of
fault_decodes raw room n p = go (marked raw)
  where
    go : (m : Bool) → if m (decoding raw room) (text raw) ≡ wrong n p → decoding raw room ≡ wrong n p
    go true e = e
    go false e = let z : ◌≡◌ {A = ℕ} 0 1 = cc in absurd (omega arith)

pub decoding_refused : DecodingRefused
decoding_refused raw room n p e =
    refused_by raw room (ltb 1048576 (length raw)) (eqb (length raw % 2) 1) (rest (starts big_mark raw) raw 2) n p (sym (decoding_ends raw room room) ∙ fault_decodes raw room n p e)

pub decoded_room : DecodedRoom
decoded_room raw room p a h e =
    let c = crowded raw room p (fault_decodes raw room 18 p e) in
    let s = short raw c.0 (length c.0) a c.1 in
    omega (arith, s, c.2)
