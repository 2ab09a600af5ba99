-- Laws of the rows from one on, and of what the children of a row among them give.
use Prim.Native.Nat.{ℕ, zero, suc, ◌+◌, ◌-◌, ◌*◌, ◌≤◌, ◌<◌}
use native.Mathlib.Nat.{add-zero, zero-add}
use native.Mathlib.Omega.{arith}
use mathlib.Core.Path.{◌≡◌, refl, ap, sym, ◌∙◌}
use mathlib.Core.List.{List, [], ◌∷◌, ◌++◌, map, append-nil}
use mathlib.Core.Bool.{Bool, true, false, not, and-false}
use borrow.Author.Tests.{ne_eqb}
use lib.Dec.{eqb}
use lib.ListN.{length, drop, get_or, length-map}
use lib.Seq.{get_or-drop}
use Rattle.slices.specs.Bytes.{if, empty}
use Rattle.document.specs.Kinds as kinds
use Rattle.items.specs.Words.{RowWords, viewed, rows_shown, word_at, is_child, shown_row}
use Rattle.items.specs.Written.{concat}
use Rattle.items.specs.Content.{Row, annotation_of, annotations, arg_of, args}
use Rattle.items.proofs.Children.{annotations_append, args_append}
use Rattle.items.proofs.Rows.{length_rows_of}
use Rattle.writers.specs.Rows.{words_in, rows_in, any_child, Held, Last}
use Rattle.writers.proofs.Scans.{rows_one}

-- one row shown, and those after it
pub shown_one : (d x ws : List ℕ) (k n : ℕ) → rows_in d x ws k (suc n) ≡ shown_row d x ws k ∷ rows_in d x ws (suc k) n
shown_one d x ws k n = ap (map (viewed d x)) (rows_one ws k n)

-- the rows from row i on, in two parts
shown_split : (d x ws : List ℕ) (i a b : ℕ) → rows_in d x ws i (a + b) ≡ rows_in d x ws i a ++ rows_in d x ws (i + a) b
shown_split d x ws i zero b = rw (zero-add b, add-zero i)
shown_split d x ws i (suc a) b =
    let e : suc i + a ≡ i + suc a = omega arith in
    let f : suc a + b ≡ suc (a + b) = omega arith in
    ap (λ n. rows_in d x ws i n) f
    ∙ shown_one d x ws i (a + b)
    ∙ ap (◌∷◌ (shown_row d x ws i)) (shown_split d x ws (suc i) a b ∙ ap (λ k. rows_in d x ws (suc i) a ++ rows_in d x ws k b) e)
    ∙ ap (λ l. l ++ rows_in d x ws (i + suc a) b) (sym (shown_one d x ws i a))

shown_parts : (d x ws : List ℕ) (i a b j n : ℕ) → i + a ≡ j → n ≡ a + b → rows_in d x ws i n ≡ rows_in d x ws i a ++ rows_in d x ws j b
shown_parts d x ws i a b j n e f =
    ap (λ m. rows_in d x ws i m) f ∙ shown_split d x ws i a b ∙ ap (λ k. rows_in d x ws i a ++ rows_in d x ws k b) e

length-rows : (d x ws : List ℕ) (i a : ℕ) → length (rows_in d x ws i a) ≡ a
length-rows d x ws i a = length-map (words_in ws i a) (viewed d x) ∙ length_rows_of a (drop (i * 16) ws)

-- no row from row i on is a child of row p less one
record Clear (ws : List ℕ) (p i a : ℕ) : Type 0 where
  none : (k : ℕ) → i ≤ k → k < i + a → word_at ws k 1 ≡ p → ⊥

later_clear : {ws : List ℕ} {p i a : ℕ} → Clear ws p i (suc a) → Clear ws p (suc i) a
later_clear h = record { none = λ k l m. h.none k (omega (arith, l)) (omega (arith, m)) }

no_child : (d x ws : List ℕ) (kind p i : ℕ) {a : ℕ} → Clear ws p i (suc a) → is_child kind p (shown_row d x ws i).kind (shown_row d x ws i).parent ≡ false
no_child d x ws kind p i h =
    rw (get_or-drop (i * 16) ws 1 0, ne_eqb (word_at ws i 1) p (h.none i (omega arith) (omega arith)))
    (and-false (eqb (get_or (drop (i * 16) ws) 0 0) kind))

-- the rows up to a row are no children of it
before_clear : {ws : List ℕ} {m i : ℕ} → Held ws m → i < m → Clear ws (suc i) 0 (suc i)
before_clear h l = record { none = λ k a b e. absurd (omega (arith, e, h.parents k (omega (arith, b, l)), b)) }

-- a row r that is row k and a child of row p less one gives `a k r`; `all k l` lists what the rows l give, the first of which is
-- row k
pub record Gives {A : Type 0} (kind p : ℕ) (a : ℕ → Row → A) (all : ℕ → List Row → List A) : Type 0 where
  pub none : (k : ℕ) → all k [] ≡ []
  pub one : (k : ℕ) (r : Row) (l : List Row) → all k (r ∷ l) ≡ if (is_child kind p r.kind r.parent) (a k r ∷ all (suc k) l) (all (suc k) l)
  pub append : (k : ℕ) (l m : List Row) → all k (l ++ m) ≡ all k l ++ all (k + length l) m

pub give_annotations : (p : ℕ) → Gives kinds.annotation p (λ k. annotation_of) (λ k. annotations p)
give_annotations p = record { none = λ k. refl; one = λ k r l. refl; append = λ k. annotations_append p }

pub give_args : (t : List Row) (p : ℕ) → Gives kinds.arg p (arg_of t) (args t p)
give_args t p = record { none = λ k. refl; one = λ k r l. refl; append = args_append t p }

module _ {A : Type 0} {kind p : ℕ} {a : ℕ → Row → A} {all : ℕ → List Row → List A} (g : Gives kind p a all) where
  -- what is written of the rows from row k on up to another
  module _ (w : A → List ℕ) (d x ws : List ℕ) (k to : ℕ) where
    pub write_one : k < to → concat (map w (all k (rows_in d x ws k (to - k)))) ≡ if (is_child kind p (shown_row d x ws k).kind (shown_row d x ws k).parent) (w (a k (shown_row d x ws k))) [] ++ concat (map w (all (suc k) (rows_in d x ws (suc k) (to - suc k))))
    write_one h =
        let e : to - k ≡ suc (to - suc k) = omega (arith, h) in
        let later = rows_in d x ws (suc k) (to - suc k) in
        ap (λ n. concat (map w (all k (rows_in d x ws k n)))) e
        ∙ ap (λ l. concat (map w (all k l))) (shown_one d x ws k (to - suc k))
        ∙ ap (λ l. concat (map w l)) (g.one k (shown_row d x ws k) later)
        ∙ first (is_child kind p (shown_row d x ws k).kind (shown_row d x ws k).parent) (a k (shown_row d x ws k)) (all (suc k) later)
      where
        first : (b : Bool) (c : A) (l : List A) → concat (map w (if b (c ∷ l) l)) ≡ if b (w c) [] ++ concat (map w l)
        first true c l = refl
        first false c l = refl

    pub write_none : to ≤ k → concat (map w (all k (rows_in d x ws k (to - k)))) ≡ []
    write_none h =
        let e : to - k ≡ 0 = omega (arith, h) in
        ap (λ n. concat (map w (all k (rows_in d x ws k n)))) e ∙ ap (λ l. concat (map w l)) (g.none k)

  -- whether there are any
  pub any_given : (d x : List ℕ) (k : ℕ) (rs : List RowWords) → any_child kind p rs ≡ not (empty (all k (map (viewed d x) rs)))
  any_given d x k [] = ap (λ l. not (empty l)) (sym (g.none k))
  any_given d x k (r ∷ rs) =
      go (is_child kind p r.kind r.parent) (any_given d x (suc k) rs)
      ∙ ap (λ l. not (empty l)) (sym (g.one k (viewed d x r) (map (viewed d x) rs)))
    where
      go : (b : Bool) → any_child kind p rs ≡ not (empty (all (suc k) (map (viewed d x) rs))) → if b true (any_child kind p rs) ≡ not (empty (if b (a k (viewed d x r) ∷ all (suc k) (map (viewed d x) rs)) (all (suc k) (map (viewed d x) rs))))
      go true e = refl
      go false e = e

  none_given : (d x ws : List ℕ) (i n : ℕ) → Clear ws p i n → all i (rows_in d x ws i n) ≡ []
  none_given d x ws i zero h = g.none i
  none_given d x ws i (suc n) h =
      let later = rows_in d x ws (suc i) n in
      ap (all i) (shown_one d x ws i n)
      ∙ g.one i (shown_row d x ws i) later
      ∙ ap (λ b. if b (a i (shown_row d x ws i) ∷ all (suc i) later) (all (suc i) later)) (no_child d x ws kind p i h)
      ∙ none_given d x ws (suc i) n (later_clear h)

-- the children of row i are those among the rows after it, up to where its children end
pub own_given : {A : Type 0} {kind i : ℕ} {a : ℕ → Row → A} {all : ℕ → List Row → List A} → Gives kind (suc i) a all → (d x ws : List ℕ) (m to : ℕ) → Held ws m → Last ws m i to → all 0 (rows_shown d x ws m) ≡ all (suc i) (rows_in d x ws (suc i) (to - suc i))
own_given {i = i} {all = all} g d x ws m to h l =
    let n = to - suc i in
    let b = m - to in
    let before = rows_in d x ws 0 (suc i) in
    let own = rows_in d x ws (suc i) n in
    let after = rows_in d x ws to b in
    let e : 0 + length before ≡ suc i = omega (arith, length-rows d x ws 0 (suc i)) in
    let f : suc i + length own ≡ to = omega (arith, length-rows d x ws (suc i) n, l.onward) in
    ap (all 0) (shown_parts d x ws 0 (suc i) (n + b) (suc i) m (omega arith) (omega (arith, l.onward, l.within)))
    ∙ g.append 0 before (rows_in d x ws (suc i) (n + b))
    ∙ ap (λ u. u ++ all (0 + length before) (rows_in d x ws (suc i) (n + b))) (none_given g d x ws 0 (suc i) (before_clear h (omega (arith, l.onward, l.within))))
    ∙ ap (λ k. all k (rows_in d x ws (suc i) (n + b))) e
    ∙ ap (all (suc i)) (shown_parts d x ws (suc i) n b to (n + b) (omega (arith, l.onward)) refl)
    ∙ g.append (suc i) own after
    ∙ ap (λ k. all (suc i) own ++ all k after) f
    ∙ ap (◌++◌ (all (suc i) own)) (none_given g d x ws to b (record { none = λ k u v. l.none k u (omega (arith, v, l.within)) }))
    ∙ append-nil (all (suc i) own)
