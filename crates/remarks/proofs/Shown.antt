-- What the answers of two documents that differ inside a comment show: the same bytes, but for a docstring around the comment.
use Prim.Native.Nat.{ℕ, zero, suc, ◌+◌, ◌-◌, ◌*◌, ◌/◌, ◌≤◌, ◌<◌}
use mathlib.Core.Path.{◌≡◌, refl, sym, ap, subst, ◌∙◌}
use mathlib.Core.List.{List, [], ◌∷◌, ◌++◌}
use mathlib.Core.Option.{Option, none, some}
use mathlib.Core.Bool.{Bool, true, false, ◌||◌}
use mathlib.Core.Logic.{◌⊎◌, inl, inr}
use native.Mathlib.Omega.{arith}
use lib.Dec.{leb, ltb}
use lib.ListN.{length, take, drop, get_or, replicate}
use Rattle.std.specs.Prelude.{Ok, Err}
use Rattle.slices.specs.Bytes.{if}
use Rattle.scan.specs.Classes.{name_byte}
use Rattle.utf8.specs.WellFormed.{ill_formed}
use Rattle.tables.specs.Triple.{shown}
use Rattle.tables.specs.declared.Triple.{Triple}
use Rattle.document.specs.Tags.{Shown}
use Rattle.document.specs.Tokens.{Token, start, close, fault, end, tokens}
use Rattle.document.specs.Rows.{Doc, Row, Warning, words_from, texts, warned}
use Rattle.document.specs.Refusals.{bare}
use Rattle.document.specs.Reading.{State, begun, reading, accepted, refused, run}
use Rattle.document.specs.Outcome.{whole}
use Rattle.document.specs.Whole.{Room, meaning, fitted, read, verdict_of, rows_left, warnings_left}
use Rattle.document.proofs.Tests.{either}
use Rattle.document.proofs.Steps.{Kept}
use Rattle.items.specs.Words.{RowWords}
use Rattle.document.proofs.Places.{span_left}
use Rattle.document.specs.declared.Counts.{Counts}
use Rattle.document.specs.Verdict.{counts}
use Rattle.accepted.proofs.Tokens as standing
use Rattle.accepted.proofs.Tokens.{AllHeld, AllCome, tokens_come}
use Rattle.accepted.proofs.Triples.{doc_of}
use Rattle.accepted.proofs.Rows.{row_back}
use Rattle.accepted.proofs.States.{blank}
use Rattle.accepted.proofs.Accepted.{left_shown}
use Rattle.remarks.specs.Differing.{Differ}
use Rattle.remarks.specs.Alike.{Same, docstring_of, Spans, ShownAlike, ShowsUnsteered, MessagesUnsteered}
use Rattle.remarks.proofs.Meets.{AllOut}
use Rattle.remarks.proofs.Contents.{DocOut, ends_same, out_same, Opens, Shuts, content_out}
use Rattle.remarks.proofs.Whole.{shape, same-tokens, close_out, equally_long, unsteered}
use Rattle.remarks.proofs.Showing.{DocOk, DocsOk, RawsSame, WarningsSame, FaultSame, held, AllOk, fold_holds}

-- what a state is known to show
abbrev Told : ℕ → ℕ → List ℕ → List ℕ → State Shown → Type 0
Told c e d d' begun = Unit {0}
Told c e d d' (reading fs u) = Unit {0}
Told c e d d' (accepted u) = DocsOk (DocOut c e) u.rows × WarningsSame d d' u.warnings
Told c e d d' (refused x) = FaultSame d d' x

-- ---- tags of both documents

name_same : (d d' : List ℕ) (at : ℕ) (n : List ℕ) → standing.Opens d at n → standing.Opens d' at n → Same d d' (suc at) (length n)
name_same d d' at n o o' = stands d o ∙ sym (stands d' o')
  where
    stands : (x : List ℕ) → standing.Opens x at n → take (length n) (drop (suc at) x) ≡ n
    stands x o = rw o.named at (span_left x name_byte (suc at) (drop (suc at) x) refl)

raws_same : (d d' : List ℕ) (xs : List Shown) → AllHeld d xs → AllHeld d' xs → RawsSame d d' xs
raws_same d d' [] h g = tt
raws_same d d' (s ∷ xs) h g = (h.0.stands.raw ∙ sym g.0.stands.raw, raws_same d d' xs h.1 g.1)

module _ (c e : ℕ) (a m n y : List ℕ) (la : length a ≡ c) (lm : length m ≡ length n) (le : c + suc (length m + 1) ≡ e) where
  abbrev first : List ℕ
  first = a ++ 60 ∷ (m ++ 62 ∷ y)

  abbrev second : List ℕ
  second = a ++ 60 ∷ (n ++ 62 ∷ y)

  abbrev Opened : ℕ → Type 0
  Opened = Opens c e a m n y la lm le

  abbrev Closed : ℕ → Type 0
  Closed = Shuts c e a m n y la lm le

  close_same : (lt : ℕ) (k : List ℕ) → (suc (suc lt) + length k ≤ c) ⊎ (e ≤ lt) → Same first second (suc (suc lt)) (length k)
  close_same lt k (inl h) = out_same c e a m n y la lm le (suc (suc lt)) (length k) (inl h)
  close_same lt k (inr h) = out_same c e a m n y la lm le (suc (suc lt)) (length k) (inr (omega arith))

  ok : (ts : List Token) → AllOut c e ts → AllCome first ts → AllCome second ts → AllOk first second Opened Closed (DocOut c e) ts
  ok [] o f s = tt
  ok (start t ∷ ts) o f s = (
    record {
      name = name_same first second t.at t.name f.0.opens s.0.opens;
      raws = raws_same first second t.attrs f.0.attrs s.0.attrs;
      after = (f.0.after, s.0.after, o.0);
    },
    ok ts o.1 f.1 s.1,
  )
  ok (close lt k q ∷ ts) o f s = (((f.0.begins, s.0.begins, close_out c e lt k o.0), close_same lt k o.0), ok ts o.1 f.1 s.1)
  ok (fault k p ∷ ts) o f s = (ends_same c e a m n y la lm le p o.0, ok ts o.1 f.1 s.1)
  ok (end p ∷ ts) o f s = (tt, ok ts o.1 f.1 s.1)

  module _ (h : ill_formed first ≡ length first) (g : ill_formed second ≡ length second) where
    told : (s : State Shown) → Kept (held first second Opened Closed (DocOut c e)) s → Told c e first second s
    told begun k = tt
    told (reading fs u) k = tt
    told (accepted u) k = (k.docs, k.warnings)
    told (refused x) k = k

    runs_told : tokens first 0 ≡ tokens second 0 → AllOut c e (tokens first 0) → Told c e first second (run whole first 0 begun)
    unfolding run
    runs_told t o =
        told (run whole first 0 begun)
        (fold_holds first second Opened Closed (DocOut c e) (λ s lt x z. content_out c e a m n y la lm le h g s lt x z) begun (tokens first 0) (ok (tokens first 0) o (tokens_come first) (rw t (tokens_come second))) tt)

-- ---- the whole document, with the room lent

module _ (c e : ℕ) (d d' : List ℕ) (w : Differ c e d d') where
  run_told : Told c e d d' (run whole d 0 begun)
  run_told =
      let s = shape c e d d' w in
      let t = same-tokens c e d d' w in
      let f = runs_told c e s.before s.inside s.other s.after s.place s.long s.ends (rw s.is w.utf8) (rw s.is_other w.utf8_also) (rw (s.is, s.is_other) t.0) (rw s.is t.1) in
      rw (s.is, s.is_other) at f

  meaning_told : Told c e d d' (meaning d)
  unfolding meaning
  meaning_told =
      either (Told c e d d') (ltb 1048576 (length d))
      (λ t. (refl, refl))
      (λ t. either (Told c e d d') (ltb (ill_formed d) (length d)) (λ t. (refl, refl)) (λ t. run_told))

  fitted_told : (top : ℕ) (r : Room) (s : State Shown) → Told c e d d' s → Told c e d d' (fitted top r s)
  fitted_told top r begun h = tt
  fitted_told top r (reading fs u) h = tt
  fitted_told top r (accepted u) h =
      either (Told c e d d') (ltb (r.rows / 16) (length u.rows) || ltb (r.warnings / 4) (length u.warnings) || ltb r.text (length (texts u.rows)))
      (λ t. (refl, refl))
      (λ t. h)
  fitted_told top r (refused x) h = h

  read_told : (r : Room) → Told c e d d' (read d r)
  unfolding read
  read_told r = fitted_told (length d) r (meaning d) meaning_told

  -- ---- the words of docstrings and of warnings

  doc_at : (rs : List (Row Shown)) (i : ℕ) → i < length rs → DocsOk (DocOut c e) rs → DocOk (DocOut c e) (get_or rs i blank).doc
  doc_at [] i l h = absurd (omega arith)
  doc_at (r ∷ rs) zero l h = h.0
  doc_at (r ∷ rs) (suc i) l h = doc_at rs i (omega arith) h.1

  -- the same bytes, or around the comment
  abbrev Either : List ℕ → Triple → Type 0
  Either text t = (shown d text t ≡ shown d' text t) ⊎ Spans c e t

  shown_by : (x text : List ℕ) (at k : ℕ) (b : Bool) → leb (at + k) (length x) ≡ b → shown x text (record { source = 1; start = at; len = k }) ≡ if b (take k (drop at x)) []
  unfolding shown
  shown_by x text at k true q = rw q
  shown_by x text at k false q = rw q

  shown-same : (text : List ℕ) (at k : ℕ) → Same d d' at k → shown d text (record { source = 1; start = at; len = k }) ≡ shown d' text (record { source = 1; start = at; len = k })
  shown-same text at k s =
      let b = leb (at + k) (length d) in
      let q : leb (at + k) (length d') ≡ b = rw (equally_long c e d d' w) in
      shown_by d text at k b refl ∙ ap (λ (l : List ℕ). if b l []) s ∙ sym (shown_by d' text at k b q)

  doc_shown : (text : List ℕ) (o : Option Doc) → DocOk (DocOut c e) o → Either text (doc_of o)
  unfolding shown
  doc_shown text none h = inl refl
  doc_shown text (some x) h = go h
    where
      out : (x.start + x.len ≤ c) ⊎ (e ≤ x.start) → Same d d' x.start x.len
      out o =
          let s = shape c e d d' w in
          rw (s.is, s.is_other) at (out_same c e s.before s.inside s.other s.after s.place s.long s.ends x.start x.len o)

      go : DocOut c e x → Either text (doc_of (some x))
      go (inl h) = inl (shown-same text x.start x.len (out (inl h)))
      go (inr (inl h)) = inl (shown-same text x.start x.len (out (inr h)))
      go (inr (inr h)) = inr h

  docs_shown : (rs : List (Row Shown)) (z text : List ℕ) → DocsOk (DocOut c e) rs → (i : ℕ) → i < length rs → Either text (docstring_of (words_from 0 rs ++ z) i)
  docs_shown rs z text h i l =
      let t : docstring_of (words_from 0 rs ++ z) i ≡ doc_of (get_or rs i blank).doc = ap (λ (r : RowWords). r.doc) (row_back rs blank z i l).1 in
      subst (Either text) (sym t) (doc_shown text (get_or rs i blank).doc (doc_at rs i l h))

  warned_same : (ws : List Warning) (z : List ℕ) → WarningsSame d d' ws → (i : ℕ) → i < length ws → Same d d' (get_or (warned ws ++ z) (i * 4 + 2) 0) (get_or (warned ws ++ z) (i * 4 + 3) 0)
  warned_same [] z h i l = absurd (omega arith)
  warned_same (x ∷ ws) z h zero l = h.0
  warned_same (x ∷ ws) z h (suc i) l =
      let a : suc i * 4 + 2 ≡ suc (suc (suc (suc (i * 4 + 2)))) = omega arith in
      let b : suc i * 4 + 3 ≡ suc (suc (suc (suc (i * 4 + 3)))) = omega arith in
      rw (a, b) (warned_same ws z h.1 i (omega arith))

-- ---- the theorems

pub shows_unsteered : ShowsUnsteered
shows_unsteered c e d d' w room rows warnings text n x k s = go (read d room) refl (read_told c e d d' w room) s.verdict s.of_rows s.of_warnings
  where
    go : (r : State Shown) → read d room ≡ r → Told c e d d' r → Ok (counts n x k) ≡ verdict_of r → rows ≡ rows_left room r → warnings ≡ warnings_left room r → ShownAlike c e d d' rows warnings text n k
    go begun q h v f g = let z : ◌≡◌ {A = ℕ} 0 1 = cc in absurd (omega arith)
    go (reading fs u) q h v f g = let z : ◌≡◌ {A = ℕ} 0 1 = cc in absurd (omega arith)
    go (refused y) q h v f g = let z : ◌≡◌ {A = ℕ} 0 1 = cc in absurd (omega arith)
    go (accepted u) q h v f g =
        let m : counts n x k ≡ counts (length u.rows) (length (texts u.rows)) (length u.warnings) = cc in
        let i : n ≡ length u.rows = ap (λ (z : Counts). z.rows) m in
        let j : k ≡ length u.warnings = ap (λ (z : Counts). z.warnings) m in
        let o = unsteered c e d d' w room in
        let p = left_shown d room u q in
        let p' = left_shown d' room u (sym o ∙ q) in
        record {
          values = rw (s.of_rows, s.of_text, i) (p ∙ sym (rw (← o) at p'));
          docstrings = rw (f, i) (docs_shown c e d d' w u.rows (replicate (room.rows - length (words_from 0 u.rows)) 0) text h.0);
          names = rw (g, j) (warned_same c e d d' w u.warnings (replicate (room.warnings - length (warned u.warnings)) 0) h.1);
        }

pub messages_unsteered : MessagesUnsteered
messages_unsteered c e d d' w room rows warnings text x s = go (read d room) (read_told c e d d' w room) s.verdict
  where
    go : (r : State Shown) → Told c e d d' r → Err x ≡ verdict_of r → FaultSame d d' x
    go begun h v = let y : x ≡ bare 0 0 = cc in rw y (refl, refl)
    go (reading fs u) h v = let y : x ≡ bare 0 0 = cc in rw y (refl, refl)
    go (accepted u) h v = let z : ◌≡◌ {A = ℕ} 0 1 = cc in absurd (omega arith)
    go (refused y) h v = let z : x ≡ y = cc in rw z h
