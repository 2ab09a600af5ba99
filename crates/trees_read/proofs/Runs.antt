-- Runs at a place of a document where the bytes are known: one token, and a docstring.
use Prim.Native.Nat.{ℕ, ◌+◌, ◌-◌, ◌≤◌, ◌<◌}
use native.Mathlib.Omega.{arith}
use native.Mathlib.Nat.{add-zero}
use mathlib.Core.Path.{◌≡◌, refl, ap, sym, ◌∙◌}
use mathlib.Core.List.{List, [], ◌∷◌, ◌++◌, append_assoc}
use mathlib.Core.Bool.{Bool, false}
use borrow.Author.Tests.{lt-ltb}
use lib.ListN.{length, length-append, length-drop, drop}
use lib.Seq.{drop-drop, drop-append_seam, take-append_seam}
use Rattle.slices.proofs.Ends.{not_empty}
use Rattle.document.specs.Rows.{Doc, with_doc, documented}
use Rattle.document.specs.Tokens.{Token, start, close, more, next, tokens}
use Rattle.document.specs.Reading as reading
use Rattle.document.specs.Reading.{Frame, passing, captures, step, run}
use Rattle.document.proofs.Runs.{run_more}
use Rattle.items.specs.Written.{Pair, tag, closing_tag}
use Rattle.roundtrip.proofs.Tags.{Name, TagName, Keys, tag_at, tag_next, close_next}
use Rattle.roundtrip.proofs.Held.{keeps, Row, State, table, inside}
use Rattle.roundtrip.proofs.Elements.{name_from, fold-append}
use Rattle.docstrings.specs.Passable.{Passable}
use Rattle.trees.specs.Written.{doc_tag}

module _ (doc : List ℕ) (at : ℕ) where
  -- what stands after bytes
  pub after : (b r : List ℕ) → drop at doc ≡ b ++ r → drop (at + length b) doc ≡ r
  after b r e = sym (drop-drop (length b) at doc) ∙ ap (drop (length b)) e ∙ drop-append_seam b r

  inside_document : (b r : List ℕ) → 0 < length b → drop at doc ≡ b ++ r → at + length b ≤ length doc
  inside_document b r h e =
      let l : length (drop at doc) ≡ length b + length r = ap length e ∙ length-append b r in
      omega (arith, length-drop at doc)

  pub token_run : (b r : List ℕ) (t : Token) → 0 < length b → drop at doc ≡ b ++ r → next (b ++ r) at ≡ more t (at + length b) → (s : State) → run keeps doc at s ≡ run keeps doc (at + length b) (step keeps doc s t)
  token_run b r t h e n s = run_more keeps doc at s t (at + length b) (rw e n) (omega arith) (inside_document b r h e)

  pub tag_run : (n : List ℕ) (ps : List Pair) (self : Bool) (r : List ℕ) → TagName n → Keys [] ps → length ps ≤ 256 → drop at doc ≡ tag n ps self ++ r → (s : State) → run keeps doc at s ≡ run keeps doc (at + length (tag n ps self)) (step keeps doc s (start (tag_at at n ps self)))
  unfolding tag
  tag_run n ps self r h k l e s = token_run (tag n ps self) r (start (tag_at at n ps self)) (omega arith) e (simp append_assoc (tag_next at n ps self r h k l)) s

  pub close_run : (n r : List ℕ) → Name n → drop at doc ≡ closing_tag n ++ r → (s : State) → run keeps doc at s ≡ run keeps doc (at + length (closing_tag n)) (step keeps doc s (close at n (at + length (closing_tag n))))
  unfolding closing_tag
  close_run n r h e s = token_run (closing_tag n) r (close at n (at + length (closing_tag n))) (omega arith) e (simp append_assoc (close_next at n r h)) s

-- ---- a docstring, in an element whose row is i

-- where its bytes begin
abbrev pub text_at : ℕ → ℕ
text_at at = at + length (tag doc_tag [] false)

abbrev pub catching : ℕ → ℕ → Frame
catching at i = passing (captures (text_at at) i) (name_from at doc_tag ∷ [])

-- its bytes lead to its closing tag
text_run : (doc : List ℕ) (at : ℕ) (s r : List ℕ) → Passable keeps s → drop at doc ≡ s ++ (60 ∷ 47 ∷ r) → (n : reading.Name) (p : reading.Purpose) (fs : List Frame) (rs : List Row) → run keeps doc at (inside (passing p (n ∷ []) ∷ fs) rs []) ≡ run keeps doc (at + length s) (inside (passing p (n ∷ []) ∷ fs) rs [])
unfolding run
text_run doc at s r h e n p fs rs =
    let q = inside (passing p (n ∷ []) ∷ fs) rs [] in
    rw (e, after doc at s (60 ∷ 47 ∷ r) e, h.lexed at r, fold-append doc q (h.toks at) (tokens (60 ∷ 47 ∷ r) (at + length s)), h.folds doc at n p fs (table rs []))

-- its closing tag
text_closed : (doc : List ℕ) (at i : ℕ) (s r : List ℕ) → Passable keeps s → drop (text_at at) doc ≡ s ++ r → (f : Frame) (fs : List Frame) (rs : List Row) (q : ℕ) → step keeps doc (inside (catching at i ∷ f ∷ fs) rs []) (close (text_at at + length s) doc_tag q) ≡ inside (f ∷ fs) (documented i (record { start = text_at at; len = length s }) rs) []
unfolding step
text_closed doc at i s r h e f fs rs q =
    let d : text_at at + length s - text_at at ≡ length s = omega arith in
    let z : length s - 0 ≡ length s = omega arith in
    rw (d, e, take-append_seam s r, h.start, h.end, lt-ltb 0 (length s) (not_empty s h.some), add-zero, z)

spelled : (s n r : List ℕ) → s ++ (closing_tag n ++ r) ≡ s ++ (60 ∷ 47 ∷ (n ++ (62 ∷ [])) ++ r)
unfolding closing_tag
spelled s n r = refl

doc_tag_name : TagName doc_tag
doc_tag_name = (refl, refl, refl, refl)

-- the last row is documented
pub documented_last : (d : Doc) (rs : List Row) (r : Row) → documented (length rs) d (rs ++ r ∷ []) ≡ rs ++ with_doc d r ∷ []
documented_last d [] r = refl
documented_last d (x ∷ rs) r = ap (◌∷◌ x) (documented_last d rs r)

abbrev pub written : List ℕ → List ℕ
written s = tag doc_tag [] false ++ (s ++ closing_tag doc_tag)

-- all of it, if its start tag opens it
pub docstring_run : (doc : List ℕ) (at i : ℕ) (s r : List ℕ) → Passable keeps s → drop at doc ≡ written s ++ r → (f : Frame) (fs : List Frame) (rs : List Row) → step keeps doc (inside (f ∷ fs) rs []) (start (tag_at at doc_tag [] false)) ≡ inside (catching at i ∷ f ∷ fs) rs [] → run keeps doc at (inside (f ∷ fs) rs []) ≡ run keeps doc (at + length (written s)) (inside (f ∷ fs) (documented i (record { start = text_at at; len = length s }) rs) [])
docstring_run doc at i s r h e f fs rs o =
    let e0 : drop at doc ≡ tag doc_tag [] false ++ (s ++ (closing_tag doc_tag ++ r)) = e ∙ append_assoc (tag doc_tag [] false) (s ++ closing_tag doc_tag) r ∙ ap (λ l. tag doc_tag [] false ++ l) (append_assoc s (closing_tag doc_tag) r) in
    let e1 : drop (text_at at) doc ≡ s ++ (closing_tag doc_tag ++ r) = after doc at (tag doc_tag [] false) (s ++ (closing_tag doc_tag ++ r)) e0 in
    let e2 : drop (text_at at + length s) doc ≡ closing_tag doc_tag ++ r = after doc (text_at at) s (closing_tag doc_tag ++ r) e1 in
    let c : text_at at + length s + length (closing_tag doc_tag) ≡ at + length (written s) = omega (arith, length-append (tag doc_tag [] false) (s ++ closing_tag doc_tag), length-append s (closing_tag doc_tag)) in
    tag_run doc at doc_tag [] false (s ++ (closing_tag doc_tag ++ r)) doc_tag_name tt (omega arith) e0 (inside (f ∷ fs) rs [])
    ∙ ap (run keeps doc (text_at at)) o
    ∙ text_run doc (text_at at) s ((doc_tag ++ (62 ∷ [])) ++ r) h (e1 ∙ spelled s doc_tag r) (name_from at doc_tag) (captures (text_at at) i) (f ∷ fs) rs
    ∙ close_run doc (text_at at + length s) doc_tag r refl e2 (inside (catching at i ∷ f ∷ fs) rs [])
    ∙ ap (run keeps doc (text_at at + length s + length (closing_tag doc_tag))) (text_closed doc at i s (closing_tag doc_tag ++ r) h e1 f fs rs (text_at at + length s + length (closing_tag doc_tag)))
    ∙ ap (λ p. run keeps doc p (inside (f ∷ fs) (documented i (record { start = text_at at; len = length s }) rs) [])) c
