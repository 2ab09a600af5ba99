-- Laws of the entry: what sound rows are known to have, which row is written, and what is answered.
use Prim.Native.Nat.{ℕ, zero, suc, ◌+◌, ◌-◌, ◌*◌, ◌≤◌, ◌<◌}
use native.Mathlib.Omega.{arith}
use native.Mathlib.Nat.{add-zero}
use mathlib.Core.Path.{◌≡◌, refl, ap, sym, subst, ◌∙◌}
use mathlib.Core.List.{List, [], ◌∷◌}
use mathlib.Core.Bool.{Bool, true, false, not, ◌&&◌}
use borrow.Author.Rules.{rules}
use borrow.Author.Tests.{lt-ltb, le-ltb, ltb-true, leb-true}
use lib.Dec.{T, eqb, ltb, leb}
use lib.ListN.{length, drop, get_or}
use Rattle.faults.specs.declared.Fault.{Fault}
use Rattle.slices.specs.Bytes.{if}
use Rattle.answers.specs.Text.{Text, wrong, Says, Finishes}
use Rattle.answers.proofs.Answers.{told, finished}
use Rattle.document.specs.Kinds as kinds
use Rattle.document.specs.Elements.{among, may_hold}
use Rattle.items.specs.Words.{Word, triple_at, row_of, rows_of, RowWords}
use Rattle.items.specs.Sound.{kind_at, placed, good_triple, doc_use, any_text, sound, soundness}
use Rattle.items.specs.Writing.{checked}
use Rattle.items.proofs.Rows.{row_word, kind_word, row_parts, RowIs, sound_claimed, sound_held, row_is_sound}
use Rattle.soundness.specs.Outcome.{Admits}
use Rattle.soundness.proofs.Rows.{admitted, refused_as, admitted_as}
use Rattle.trees.specs.Shape.{shape_at}
use Rattle.trees.specs.Written.{element_at, tree_at, written_tree}
use Rattle.trees.specs.Writing.{too_deep, tree_written, is_writable, tree_writing, WritesTree}
use Rattle.trees.specs.Steps.{group_kinds, group_of, Held}
use Rattle.std.specs.Prelude.{Result, Ok, Err}
use Rattle.slices.proofs.Runs.{and_both}
use Rattle.document.proofs.Tests.{Each, among_each}
use Rattle.trees.specs.Walk.{Walks, Writable, WritesSound}

-- ---- sound rows

abbrev Grouped : ℕ → Type 0
Grouped k = among k (group_kinds (group_of k)) ≡ true

-- the kinds that an element holds are in groups
held_grouped : (k c : ℕ) → may_hold k c ≡ true → Grouped c
unfolding may_hold
held_grouped k c h = go (eqb k kinds.node) (eqb k kinds.interface) (among k kinds.callables) (among k kinds.values) (eqb k kinds.enum) (among k (kinds.struct ∷ kinds.mapping ∷ [])) h
  where
    from : (l : List ℕ) → Each Grouped l → among c l ≡ true → Grouped c
    from l a e = among_each Grouped c l e a

    go : (a b u v p q : Bool) → among c (if a kinds.in_node (if b kinds.in_interface (if u kinds.in_callable (if v kinds.in_value (if p (kinds.enumvalue ∷ []) (if q (kinds.member ∷ []) [])))))) ≡ true → Grouped c
    go true b u v p q e = from kinds.in_node (refl, (refl, (refl, (refl, (refl, (refl, tt)))))) e
    go false true u v p q e = from kinds.in_interface (refl, (refl, (refl, (refl, (refl, (refl, (refl, (refl, tt)))))))) e
    go false false true v p q e = from kinds.in_callable (refl, (refl, tt)) e
    go false false false true p q e = from kinds.in_value (refl, tt) e
    go false false false false true q e = from (kinds.enumvalue ∷ []) (refl, tt) e
    go false false false false false true e = from (kinds.member ∷ []) (refl, tt) e
    go false false false false false false e = absurd (subst T (sym e) tt)

placed_grouped : (rows : List RowWords) (i : ℕ) (r : RowWords) → placed rows i r ≡ true → Grouped r.kind
placed_grouped rows zero r e = among_each Grouped r.kind (kinds.node ∷ []) (rw (and_both (eqb r.kind kinds.node) (eqb r.parent 0) e).0) (refl, tt)
placed_grouped rows (suc i) r e =
    held_grouped (kind_at rows (r.parent - 1)) r.kind (and_both (ltb 0 r.parent && leb r.parent (suc i)) (may_hold (kind_at rows (r.parent - 1)) r.kind) e).1

placed_parent : (rows : List RowWords) (i : ℕ) (r : RowWords) → 0 < i → placed rows i r ≡ true → (0 < r.parent) × (r.parent ≤ i)
placed_parent rows zero r h e = absurd (omega (arith, h))
placed_parent rows (suc i) r h e =
    let p = and_both (ltb 0 r.parent && leb r.parent (suc i)) (may_hold (kind_at rows (r.parent - 1)) r.kind) e in
    let q = and_both (ltb 0 r.parent) (leb r.parent (suc i)) p.0 in
    (ltb-true 0 r.parent q.0, leb-true r.parent (suc i) q.1)

module _ (d x ws : List ℕ) (n : ℕ) (g : soundness d x ws n ≡ sound) where
  row_is : (k : ℕ) → k < n → RowIs d x (rows_of n ws) k (row_of (drop (k * 16) ws))
  row_is k h = row_parts d x (rows_of n ws) k (row_of (drop (k * 16) ws)) (row_is_sound d x ws n g k h)

  pub sound_rows_held : length d ≤ 1048576 → length x ≤ 1048576 → Held d x ws n
  sound_rows_held a b = record {
    document = a;
    text = b;
    few = sound_claimed d x ws n g;
    held = sound_held d x ws n g;
    parents = λ k h z.
        rw (row_word k 1 ws) at
        (placed_parent (rows_of n ws) k (row_of (drop (k * 16) ws)) z (row_is k h).placed);
    grouped = λ k h.
        subst Grouped (row_word k 0 ws) (placed_grouped (rows_of n ws) k (row_of (drop (k * 16) ws)) (row_is k h).placed);
    words = λ k h. rw (row_word k 0 ws, row_word k 14 ws) at (row_is k h).word;
    docs = λ k h. subst (λ z. good_triple d x (doc_use z) any_text (triple_at 11 (drop (k * 16) ws)) ≡ true) (row_word k 0 ws) (row_is k h).doc;
    docs_in = λ k h. (row_is k h).source;
  }

-- ---- which row is written

writable_is : {ws : List ℕ} {n i k : ℕ} {b : Bool} → i < n → Word ws i 0 k → Writable k b → is_writable ws n i ≡ b
writable_is {ws} {n} {i} {k} {b} l w y =
    let e : kind_at (rows_of n ws) i ≡ k = kind_word n i ws l ∙ ap (λ z. get_or ws z 0) (sym (add-zero (i * 16))) ∙ sym w.is in
    ap (λ z. z && not (among (kind_at (rows_of n ws) i) kinds.parts)) (lt-ltb i n l)
    ∙ ap (λ z. not (among z kinds.parts)) e
    ∙ ap not y.is
    ∙ go b
  where
    go : (b : Bool) → not (if b false true) ≡ b
    go true = refl
    go false = refl

module _ {d x ws t t' : List ℕ} {n i : ℕ} {r : Result ℕ Fault} where
  pub no_row : n ≤ i → Says (wrong 20 i) (length t) t' r → WritesSound d x ws n i t t' r
  no_row h s = record { says = rw (le-ltb i n h) s }

  module _ (l : i < n) {k : ℕ} {b : Bool} (w : Word ws i 0 k) (y : Writable k b) where
    pub no_kind : b ≡ false → Says (wrong 20 i) (length t) t' r → WritesSound d x ws n i t t' r
    no_kind e s = record { says = rw (writable_is l w y ∙ e) s }

    module _ {z : Result ℕ ℕ} {t₁ : List ℕ} (e : b ≡ true) (q : Walks d x ws n i t₁ z) (same : length t₁ ≡ length t) where
      pub row_deep : {p : ℕ} → z ≡ Err p → Says (wrong 7 p) (length t₁) t' r → WritesSound d x ws n i t t' r
      row_deep f s =
          let v = (subst (λ z. Walks d x ws n i t₁ z) f q).is.is in
          record { says = rw (writable_is l w y ∙ e, v) (rw same at s) }

      pub row_written : {m : ℕ} → z ≡ Ok m → Finishes m 21 m t₁ t' r → WritesSound d x ws n i t t' r
      row_written {m} f s =
          let v = (subst (λ z. Walks d x ws n i t₁ z) f q).is in
          let whole = written_tree (tree_at d x ws n i) in
          let u = s.says whole v.stands in
          let k : m ≡ length whole = sym (v.stands.many ∙ omega arith) in
          record { says = rw (writable_is l w y ∙ e, v.shallow) (rw (same, k) at u) }

module _ {d x ws : List ℕ} {n i : ℕ} (h : Held d x ws n) (l : i < n) where
  pub row_held : i * 16 + 16 ≤ length ws
  row_held = omega (arith, l, h.held)

pub ruleset rows = (told, finished, no_row, no_kind, row_deep, row_written, row_held, rules)

-- ---- the answers

-- of row i of sound rows
abbrev answered : List ℕ → List ℕ → List ℕ → ℕ → ℕ → ℕ → Text
answered d x ws n i room =
    let t = tree_written room (too_deep (element_at d x ws) 0 (shape_at ws n i)) (tree_at d x ws n i) in
    if (is_writable ws n i) t (wrong 20 i)

module _ {d x ws t' : List ℕ} {n i room : ℕ} {r : Result ℕ Fault} {z : Result Unit Fault} (g : Admits d x ws n z) where
  pub refused : {f : Fault} → z ≡ Err f → Says (wrong f.number f.place) room t' r → WritesTree d x ws n i room t' r
  unfolding tree_writing
  refused e s =
      let a = refused_as g wrong (λ v. checked v (answered d x ws n i room)) (λ p. refl) e in
      record { says = subst (λ o. Says o room t' r) (sym a) s }

  pub is_sound : {u : Unit} {t : List ℕ} → z ≡ Ok u → length t ≡ room → WritesSound d x ws n i t t' r → WritesTree d x ws n i room t' r
  unfolding tree_writing
  is_sound e l s =
      let a = admitted_as g wrong (λ v. checked v (answered d x ws n i room)) e in
      record { says = subst (λ o. Says o room t' r) (sym a) (rw l at s.says) }

pub admits : {d x ws : List ℕ} {n : ℕ} {z : Result Unit Fault} {u : Unit} → Admits d x ws n z → z ≡ Ok u → Held d x ws n
admits {d} {x} {ws} {n} g e = let a = admitted g e in sound_rows_held d x ws n a.2 a.0 a.1

pub ruleset entry = (refused, is_sound, admits, rules)
