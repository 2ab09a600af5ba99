-- The theorems of Statement.
use Rattle.std.proofs.Common.{◌≡◌, ℕ, zero, suc, ◌+◌, ◌-◌, ◌<◌, ◌≤◌, List, [], ◌∷◌, ◌++◌, map, length, drop, replicate, refl, ap, ◌∙◌, append_assoc, arith, length-drop, drop_at, eq-eqb, ne_eqb}
use native.Mathlib.Decide.{dec_lt}
use Rattle.document.specs.Tags.{Shown}
use Rattle.document.specs.Rows.{Row, Warning, row_words, row_text, words_from, warned}
use Rattle.document.specs.Reading as reading
use Rattle.document.specs.Whole.{verdict_of, rows_left, warnings_left}
use Rattle.rows.proofs.Words.{length_row_words}
use Rattle.sheets.specs.Sheet.{Outcome, unreadable, refused, accepted, occurs, Sheet, blank, added, summed, sheet_of}
use Rattle.sheets.specs.Answer.{firsts, outcome_of}
use Rattle.sheets.specs.Files.{program_room, document_outcome}
use Rattle.sheets.specs.Statement.{FilesAdd, total, Numbered, RefusalsAdd, SheetsJoin, DocumentAccepted, DocumentRefused}

-- ---- sums

abbrev files_of : (s : Sheet) → ℕ
files_of s = s.accepted + s.refused + s.unreadable

files_added : (o : Outcome) (s : Sheet) → files_of (added o s) ≡ files_of s + 1
files_added unreadable s = omega arith
files_added (refused n) s = omega arith
files_added (accepted ks ws) s = omega arith

files_summed : (s : Sheet) (os : List Outcome) → files_of (summed s os) ≡ files_of s + length os
files_summed s [] = omega arith
files_summed s (o ∷ os) = let i = files_summed (added o s) os in omega (arith, i, files_added o s)

pub files_add : FilesAdd
files_add os = omega (arith, files_summed blank os)

total_added : (f g : ℕ → ℕ) (n : ℕ) → total (λ k. f k + g k) n ≡ total f n + total g n
total_added f g zero = omega arith
total_added f g (suc n) = let i = total_added f g n in omega arith

total_none : (m n : ℕ) → n ≤ m → total (λ k. occurs k (m ∷ [])) n ≡ 0
total_none m zero h = refl
total_none m (suc n) h =
    let e : occurs n (m ∷ []) ≡ 0 = rw (ne_eqb m n (omega arith)) in
    let i = total_none m n (omega arith) in
    omega (arith, e, i)

total-one : (m n : ℕ) → m < n → total (λ k. occurs k (m ∷ [])) n ≡ 1
total-one m zero h = absurd (omega arith)
total-one m (suc n) h = go (dec_lt m n) (total-one m n)
  where
    go : Dec (m < n) → (m < n → total (λ k. occurs k (m ∷ [])) n ≡ 1) → total (λ k. occurs k (m ∷ [])) n + occurs n (m ∷ []) ≡ 1
    go (yes l) i =
        let e : occurs n (m ∷ []) ≡ 0 = rw (ne_eqb m n (omega arith)) in
        omega (arith, e, i l)
    go (no l) i =
        let e : occurs n (m ∷ []) ≡ 1 = rw (eq-eqb m n (omega arith)) in
        omega (arith, e, total_none m n (omega arith))

total-zero : (n : ℕ) → total (λ k. 0) n ≡ 0
total-zero zero = refl
total-zero (suc n) = let i = total-zero n in omega arith

refusals_summed : (m : ℕ) (s : Sheet) (os : List Outcome) → Numbered m os → total s.numbers m ≡ s.refused → total (summed s os).numbers m ≡ (summed s os).refused
refusals_summed m s [] h e = e
refusals_summed m s (unreadable ∷ os) h e = refusals_summed m (added unreadable s) os h e
refusals_summed m s (refused n ∷ os) h e =
    refusals_summed m (added (refused n) s) os h.1
    (total_added s.numbers (λ k. occurs k (n ∷ [])) m ∙ omega (arith, e, total-one n m h.0))
refusals_summed m s (accepted ks ws ∷ os) h e = refusals_summed m (added (accepted ks ws) s) os h e

pub refusals_add : RefusalsAdd
refusals_add m os h = refusals_summed m blank os h (total-zero m)

summed_append : (s : Sheet) (os ps : List Outcome) → summed s (os ++ ps) ≡ summed (summed s os) ps
summed_append s [] ps = refl
summed_append s (o ∷ os) ps = summed_append (added o s) os ps

abbrev sum : (Outcome → ℕ) → List Outcome → ℕ
sum d [] = 0
sum d (o ∷ os) = d o + sum d os

-- a count to which each outcome adds so much
module _ (f : Sheet → ℕ) (d : Outcome → ℕ) (one : (o : Outcome) (s : Sheet) → f (added o s) ≡ f s + d o) where
  counted : (s : Sheet) (os : List Outcome) → f (summed s os) ≡ f s + sum d os
  counted s [] = omega arith
  counted s (o ∷ os) = let i = counted (added o s) os in omega (arith, i, one o s)

  counted_from : (s : Sheet) (os : List Outcome) → f blank ≡ 0 → f (summed s os) ≡ f s + f (summed blank os)
  counted_from s os z = omega (arith, counted s os, counted blank os, z)

  counted_joins : f blank ≡ 0 → (os ps : List Outcome) → f (sheet_of (os ++ ps)) ≡ f (sheet_of os) + f (sheet_of ps)
  counted_joins z os ps = ap f (summed_append blank os ps) ∙ counted_from (summed blank os) ps z

-- what an outcome adds to each count
abbrev accepteds : Outcome → ℕ
accepteds unreadable = 0
accepteds (refused n) = 0
accepteds (accepted ks ws) = 1

abbrev refuseds : Outcome → ℕ
refuseds unreadable = 0
refuseds (refused n) = 1
refuseds (accepted ks ws) = 0

abbrev unreadables : Outcome → ℕ
unreadables unreadable = 1
unreadables (refused n) = 0
unreadables (accepted ks ws) = 0

abbrev numbers_in : ℕ → Outcome → ℕ
numbers_in k unreadable = 0
numbers_in k (refused n) = occurs k (n ∷ [])
numbers_in k (accepted ks ws) = 0

abbrev kinds_in : ℕ → Outcome → ℕ
kinds_in k unreadable = 0
kinds_in k (refused n) = 0
kinds_in k (accepted ks ws) = occurs k ks

abbrev reasons_in : ℕ → Outcome → ℕ
reasons_in k unreadable = 0
reasons_in k (refused n) = 0
reasons_in k (accepted ks ws) = occurs k ws

module _ (k : ℕ) where
  accepted_one : (o : Outcome) (s : Sheet) → (added o s).accepted ≡ s.accepted + accepteds o
  accepted_one unreadable s = omega arith
  accepted_one (refused n) s = omega arith
  accepted_one (accepted ks ws) s = omega arith

  refused_one : (o : Outcome) (s : Sheet) → (added o s).refused ≡ s.refused + refuseds o
  refused_one unreadable s = omega arith
  refused_one (refused n) s = omega arith
  refused_one (accepted ks ws) s = omega arith

  unreadable_one : (o : Outcome) (s : Sheet) → (added o s).unreadable ≡ s.unreadable + unreadables o
  unreadable_one unreadable s = omega arith
  unreadable_one (refused n) s = omega arith
  unreadable_one (accepted ks ws) s = omega arith

  number_one : (o : Outcome) (s : Sheet) → (added o s).numbers k ≡ s.numbers k + numbers_in k o
  number_one unreadable s = omega arith
  number_one (refused n) s = refl
  number_one (accepted ks ws) s = omega arith

  kind_one : (o : Outcome) (s : Sheet) → (added o s).kinds k ≡ s.kinds k + kinds_in k o
  kind_one unreadable s = omega arith
  kind_one (refused n) s = omega arith
  kind_one (accepted ks ws) s = refl

  reason_one : (o : Outcome) (s : Sheet) → (added o s).reasons k ≡ s.reasons k + reasons_in k o
  reason_one unreadable s = omega arith
  reason_one (refused n) s = omega arith
  reason_one (accepted ks ws) s = refl

pub sheets_join : SheetsJoin
sheets_join os ps k = (
  counted_joins (λ (s : Sheet). s.accepted) accepteds (accepted_one k) refl os ps,
  counted_joins (λ (s : Sheet). s.refused) refuseds (refused_one k) refl os ps,
  counted_joins (λ (s : Sheet). s.unreadable) unreadables (unreadable_one k) refl os ps,
  counted_joins (λ (s : Sheet). s.numbers k) (numbers_in k) (number_one k) refl os ps,
  counted_joins (λ (s : Sheet). s.kinds k) (kinds_in k) (kind_one k) refl os ps,
  counted_joins (λ (s : Sheet). s.reasons k) (reasons_in k) (reason_one k) refl os ps,
)

-- ---- documents

row_head : (n : ℕ) (r : Row Shown) → row_words n r ≡ r.kind ∷ drop 1 (row_words n r)
unfolding row_words
row_head n r = refl

firsts_rows : (n : ℕ) (rs : List (Row Shown)) (z : List ℕ) → firsts 16 (length rs) (words_from n rs ++ z) ≡ map (λ (r : Row Shown). r.kind) rs
firsts_rows n [] z = refl
firsts_rows n (r ∷ rs) z =
    let w = drop 1 (row_words n r) in
    let m = n + length (row_text r) in
    let l : length w ≡ 15 = omega (arith, length-drop 1 (row_words n r), length_row_words n r) in
    ap (λ (x : List ℕ). firsts 16 (suc (length rs)) ((x ++ words_from m rs) ++ z)) (row_head n r)
    ∙ ap (λ (x : List ℕ). firsts 16 (suc (length rs)) (r.kind ∷ x)) (append_assoc w (words_from m rs) z)
    ∙ ap (λ (x : List ℕ). r.kind ∷ firsts 16 (length rs) x) (drop_at w (words_from m rs ++ z) 15 l)
    ∙ ap (λ (x : List ℕ). r.kind ∷ x) (firsts_rows m rs z)

firsts_warnings : (ws : List Warning) (z : List ℕ) → firsts 4 (length ws) (warned ws ++ z) ≡ map (λ (w : Warning). w.reason) ws
firsts_warnings [] z = refl
firsts_warnings (w ∷ ws) z = ap (λ (x : List ℕ). w.reason ∷ x) (firsts_warnings ws z)

-- the outcome of a state
abbrev state_outcome : reading.State Shown → Outcome
state_outcome s = outcome_of (verdict_of s) (rows_left program_room s) (warnings_left program_room s)

pub document_accepted : DocumentAccepted
unfolding document_outcome
document_accepted doc t e =
    ap state_outcome e
    ∙ ap (λ (ks : List ℕ). accepted ks (firsts 4 (length t.warnings) (warned t.warnings ++ replicate (16384 - length (warned t.warnings)) 0))) (firsts_rows 0 t.rows (replicate (16384 - length (words_from 0 t.rows)) 0))
    ∙ ap (λ (ws : List ℕ). accepted (map (λ (r : Row Shown). r.kind) t.rows) ws) (firsts_warnings t.warnings (replicate (16384 - length (warned t.warnings)) 0))

pub document_refused : DocumentRefused
unfolding document_outcome
document_refused doc x e = ap state_outcome e
