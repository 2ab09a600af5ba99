-- Rows of a lent table: the row at a place, and what sound rows are.
use Prim.Native.Nat.{ℕ, zero, suc, ◌+◌, ◌*◌, ◌-◌, ◌/◌, ◌≤◌, ◌<◌}
use mathlib.Core.Path.{◌≡◌, refl, sym, ap, ◌∙◌}
use mathlib.Core.List.{List, [], ◌∷◌}
use mathlib.Core.Bool.{Bool, true, false, ◌&&◌}
use borrow.Author.Tests.{eqb-true, leb-true, ltb-false}
use native.Mathlib.Nat.{add-zero, zero-add, div-mul-le_self}
use native.Mathlib.Omega.{arith}
use lib.Dec.{eqb, leb, ltb}
use lib.ListN.{length, drop, get_or}
use lib.Seq.{drop-drop, drop-nil, get_or-drop}
use Rattle.slices.specs.Bytes.{if}
use Rattle.slices.proofs.Runs.{and_both}
use Rattle.document.specs.Kinds as kinds
use Rattle.document.specs.Elements.{may_hold}
use Rattle.items.specs.Words.{RowWords, row_of, rows_of}
use Rattle.items.specs.Sound.{kind_at, placed, good_triple, name_use, value_use, tp_use, doc_use, valid_name, valid_value, any_text, in_document, valid_word, sound_row, first_bad, sound, unsound, soundness, members_of, good_row, counted}

-- ---- the row at a place

pub length_rows_of : (n : ℕ) (ws : List ℕ) → length (rows_of n ws) ≡ n
length_rows_of zero ws = refl
length_rows_of (suc n) ws = ap suc (length_rows_of n (drop 16 ws))

row_drop : (i : ℕ) (ws : List ℕ) → drop (i * 16) (drop 16 ws) ≡ drop (suc i * 16) ws
row_drop i ws =
    let e : 16 + i * 16 ≡ suc i * 16 = omega arith in
    drop-drop (i * 16) 16 ws ∙ ap (λ (k : ℕ). drop k ws) e

-- the rows from row i on begin with row i
pub row-at : (n i : ℕ) (ws : List ℕ) → i < n → drop i (rows_of n ws) ≡ row_of (drop (i * 16) ws) ∷ drop (suc i) (rows_of n ws)
row-at zero i ws h = absurd (omega arith)
row-at (suc n) zero ws h = refl
row-at (suc n) (suc i) ws h =
    row-at n i (drop 16 ws) (omega arith)
    ∙ ap (λ (l : List ℕ). row_of l ∷ drop (suc i) (rows_of n (drop 16 ws))) (row_drop i ws)

pub rows_past : (n : ℕ) (ws : List ℕ) → drop n (rows_of n ws) ≡ []
rows_past zero ws = refl
rows_past (suc n) ws = rows_past n (drop 16 ws)

-- a word of row i
pub row_word : (i k : ℕ) (ws : List ℕ) → get_or (drop (i * 16) ws) k 0 ≡ get_or ws (i * 16 + k) 0
row_word i k ws = get_or-drop (i * 16) ws k 0

pub kind_word : (n i : ℕ) (ws : List ℕ) → i < n → kind_at (rows_of n ws) i ≡ get_or ws (i * 16) 0
kind_word zero i ws h = absurd (omega arith)
kind_word (suc n) zero ws h = refl
kind_word (suc n) (suc i) ws h =
    let e : 16 + i * 16 ≡ suc i * 16 = omega arith in
    kind_word n i (drop 16 ws) (omega arith) ∙ get_or-drop 16 ws (i * 16) 0 ∙ ap (λ (k : ℕ). get_or ws k 0) e

-- ---- sound rows

pub before_it : (rows : List RowWords) (i : ℕ) (r : RowWords) → placed rows i r ≡ true → r.parent ≤ i
before_it rows zero r e = omega (arith, eqb-true r.parent 0 (and_both (eqb r.kind kinds.node) (eqb r.parent 0) e).1)
before_it rows (suc i) r e =
    let p = and_both (ltb 0 r.parent && leb r.parent (suc i)) (may_hold (kind_at rows (r.parent - 1)) r.kind) e in
    leb-true r.parent (suc i) (and_both (ltb 0 r.parent) (leb r.parent (suc i)) p.0).1

-- what a sound row is, part by part
pub record RowIs (d x : List ℕ) (rows : List RowWords) (i : ℕ) (r : RowWords) : Type 0 where
  pub placed : placed rows i r ≡ true
  pub name : good_triple d x (name_use r.kind) (valid_name r.kind) r.name ≡ true
  pub value : good_triple d x (value_use r.kind) (valid_value r.kind) r.value ≡ true
  pub tp : good_triple d x (tp_use r.kind) any_text r.tp ≡ true
  pub doc : good_triple d x (doc_use r.kind) any_text r.doc ≡ true
  pub source : in_document r.doc ≡ true
  pub word : valid_word r.kind r.word ≡ true
  pub at : ltb r.at (length d) ≡ true
  pub counted : counted d x r.kind (members_of (suc i) rows) ≡ true

pub row_parts : (d x : List ℕ) (rows : List RowWords) (i : ℕ) (r : RowWords) → sound_row d x rows i r ≡ true → RowIs d x rows i r
unfolding sound_row good_row
row_parts d x rows i r e =
    let both = and_both (good_row d x rows i r) (counted d x r.kind (members_of (suc i) rows)) e in
    go
    (placed rows i r)
    (good_triple d x (name_use r.kind) (valid_name r.kind) r.name)
    (good_triple d x (value_use r.kind) (valid_value r.kind) r.value)
    (good_triple d x (tp_use r.kind) any_text r.tp)
    (good_triple d x (doc_use r.kind) any_text r.doc)
    (in_document r.doc)
    (valid_word r.kind r.word)
    (ltb r.at (length d))
    both.0
    (λ p n v t o s w l. record { placed = p; name = n; value = v; tp = t; doc = o; source = s; word = w; at = l; counted = both.1 })
  where
    go : {A : Type 0} (p n v t o s w l : Bool) → p && n && v && t && o && s && w && l ≡ true → (p ≡ true → n ≡ true → v ≡ true → t ≡ true → o ≡ true → s ≡ true → w ≡ true → l ≡ true → A) → A
    go p n v t o s w l e f =
        let a = and_both (p && n && v && t && o && s && w) l e in
        let b = and_both (p && n && v && t && o && s) w a.0 in
        let c = and_both (p && n && v && t && o) s b.0 in
        let d = and_both (p && n && v && t) o c.0 in
        let e = and_both (p && n && v) t d.0 in
        let g = and_both (p && n) v e.0 in
        let h = and_both p n g.0 in
        f h.0 h.1 g.1 e.1 d.1 c.1 b.1 a.1

module _ (d x : List ℕ) where
  -- where the first bad row is past all of the rows from row i on, each of them is sound
  all_sound : (rows : List RowWords) (i : ℕ) (rs : List RowWords) → i + length rs ≤ first_bad d x rows i rs → (k : ℕ) (r : RowWords) (ss : List RowWords) → drop k rs ≡ r ∷ ss → sound_row d x rows (i + k) r ≡ true
  all_sound rows i [] h k r ss e = let z : ◌≡◌ {A = List RowWords} [] (r ∷ ss) = sym (drop-nil k) ∙ e in cc
  all_sound rows i (q ∷ rs) h k r ss e = go (sound_row d x rows i q) refl h k e (all_sound rows (suc i) rs)
    where
      Rest : Type 0
      Rest = suc i + length rs ≤ first_bad d x rows (suc i) rs → (k : ℕ) (r : RowWords) (ss : List RowWords) → drop k rs ≡ r ∷ ss → sound_row d x rows (suc i + k) r ≡ true

      go : (b : Bool) → sound_row d x rows i q ≡ b → i + suc (length rs) ≤ if b (first_bad d x rows (suc i) rs) i → (k : ℕ) → drop k (q ∷ rs) ≡ r ∷ ss → Rest → sound_row d x rows (i + k) r ≡ true
      go false t h k e f = absurd (omega arith)
      go true t h zero e f = let z : q ≡ r = cc in rw (add-zero, ← z) t
      go true t h (suc k) e f = let z : suc i + k ≡ i + suc k = omega arith in rw z at (f (omega arith) k r ss e)

  module _ (ws : List ℕ) (n : ℕ) (g : soundness d x ws n ≡ sound) where
    parts : (n ≤ 262144) × (n ≤ length ws / 16) × (n ≤ first_bad d x (rows_of n ws) 0 (rows_of n ws))
    unfolding soundness
    parts = go (ltb 262144 n) (ltb (length ws / 16) n) (ltb bad n) refl refl refl g
      where
        bad : ℕ
        bad = first_bad d x (rows_of n ws) 0 (rows_of n ws)

        go : (a b c : Bool) → ltb 262144 n ≡ a → ltb (length ws / 16) n ≡ b → ltb bad n ≡ c → if a (unsound 262144) (if b (unsound (length ws / 16)) (if c (unsound bad) sound)) ≡ sound → (n ≤ 262144) × (n ≤ length ws / 16) × (n ≤ bad)
        go true b c p q r e = let z : ◌≡◌ {A = ℕ} 0 1 = cc in absurd (omega arith)
        go false true c p q r e = let z : ◌≡◌ {A = ℕ} 0 1 = cc in absurd (omega arith)
        go false false true p q r e = let z : ◌≡◌ {A = ℕ} 0 1 = cc in absurd (omega arith)
        go false false false p q r e = (ltb-false 262144 n p, ltb-false (length ws / 16) n q, ltb-false bad n r)

    pub sound_claimed : n ≤ 262144
    sound_claimed = parts.0

    pub sound_held : n * 16 ≤ length ws
    sound_held = omega (arith, parts.1, div-mul-le_self (length ws) 16)

    pub row_is_sound : (i : ℕ) → i < n → sound_row d x (rows_of n ws) i (row_of (drop (i * 16) ws)) ≡ true
    row_is_sound i h =
        rw zero-add at
        (all_sound (rows_of n ws) 0 (rows_of n ws) (omega (arith, parts.2, length_rows_of n ws)) i (row_of (drop (i * 16) ws)) (drop (suc i) (rows_of n ws)) (row-at n i ws h))

    -- the parent's row plus one is at most the row's number
    pub sound_parent : (i : ℕ) → i < n → get_or ws (i * 16 + 1) 0 ≤ i
    sound_parent i h = rw (← row_word i 1 ws) (before_it (rows_of n ws) i (row_of (drop (i * 16) ws)) (row_parts d x (rows_of n ws) i (row_of (drop (i * 16) ws)) (row_is_sound i h)).placed)
