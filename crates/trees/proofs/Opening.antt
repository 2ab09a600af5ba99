-- Laws of one element: whether something follows its attributes, its bytes, and whether it is too deep.
use Prim.Native.Nat.{ℕ, zero, suc, ◌+◌, ◌-◌, ◌*◌, ◌≤◌, ◌<◌}
use native.Mathlib.Omega.{arith}
use mathlib.Core.Path.{◌≡◌, refl, ap, sym, subst, ◌∙◌}
use mathlib.Core.List.{List, [], ◌∷◌, ◌++◌, append_assoc}
use mathlib.Core.Option.{Option, none, some}
use mathlib.Core.Bool.{Bool, true, false, not, ◌&&◌, ◌||◌, and-false, or-false, and-true}
use borrow.Author.Rules.{rules}
use borrow.Author.Tests.{eq-eqb, ne_eqb, eqb-true, leb-true, leb-false, le-leb, lt-leb}
use native.Mathlib.Numerals.{add-one}
use lib.Dec.{T, eqb, leb}
use lib.ListN.{length, take, drop, length-drop}
use Rattle.slices.specs.Bytes.{if, bytes, empty}
use Rattle.utf8.specs.WellFormed.{well_formed}
use Rattle.tables.specs.Triple.{inside, shown}
use Rattle.tables.specs.declared.Triple.{Triple}
use Rattle.answers.specs.Puts.{Puts}
use Rattle.answers.proofs.Putting.{puts_then, puts_as}
use Rattle.document.specs.Kinds as kinds
use Rattle.items.specs.View.{over}
use Rattle.items.specs.Words.{Word, word_at, triple_at, absent, docstring_by}
use Rattle.items.specs.Sound.{Use, good_triple, doc_use, any_text, in_document}
use Rattle.items.specs.Written.{Pair, pairs, ending, tag, closing_tag, concat, element}
use Rattle.items.proofs.Rows.{row_word}
use Rattle.items.proofs.Written.{concat-append}
use Rattle.trees.specs.Trees.{tree, Forest, bare, more, map_tree, map_forest}
use Rattle.trees.specs.Shape.{links_of, under}
use Rattle.trees.specs.Written.{Element, docstring, element_at, tag_of, attributes, docstrings, written_tree, written_forest}
use Rattle.trees.specs.Writing.{is_open, is_open_node, too_deep, too_deeps}
use Rattle.trees.specs.Steps.{Held, HasChild, StartPut, DocstringPut}
use Rattle.trees.specs.declared.children.Standing.{Standing}
use Rattle.trees.specs.declared.walk.Start.TheVariants.{Closed, Opened}
use Rattle.std.specs.Prelude.{Ok, Err}
use Rattle.trees.specs.Walk.{bytes_of, bytes_in, inside_of, OpenIs, IsDeep, IsAround, Resumes, Opens, Begins}
use Rattle.trees.proofs.Standing.{held_row, held_few}
use Rattle.trees.proofs.Zipper.{some_tree, under_none, under_some}

-- ---- docstrings

last_true : (a b c : Bool) → a && b && c ≡ true → c ≡ true
last_true true true c e = e
last_true true false c e = absurd (subst T (sym e) tt)
last_true false b c e = absurd (subst T (sym e) tt)

doc_none : (d : List ℕ) (t : Triple) → t.len ≡ 0 → docstrings (over (docstring d) (docstring_by t)) ≡ []
doc_none d t e = go (absent t)
  where
    nothing : (n : ℕ) → n ≡ 0 → docstrings (some (take n (drop t.start d))) ≡ []
    nothing zero e = refl
    nothing (suc n) e = absurd (omega (arith, e))

    go : (b : Bool) → docstrings (over (docstring d) (if b none (some record { start = t.start; len = t.len }))) ≡ []
    go true = refl
    go false = nothing t.len e

take_some : (m : ℕ) (l : List ℕ) → 0 < m → m ≤ length l → empty (docstrings (some (take m l))) ≡ false
take_some zero l a b = absurd (omega (arith, a))
take_some (suc m) [] a b = absurd (omega (arith, b))
take_some (suc m) (x ∷ l) a b = refl

there_inside : (d x : List ℕ) (u : Use) (t : Triple) → absent t ≡ false → good_triple d x u any_text t ≡ true → inside d x t ≡ true
unfolding good_triple
there_inside d x u t a h = go u.may (inside d x t) (well_formed (shown d x t)) (sym (ap (λ b. if b (not u.must) (u.may && inside d x t && well_formed (shown d x t) && true)) a) ∙ h)
  where
    go : (a b c : Bool) → a && b && c && true ≡ true → b ≡ true
    go true true c e = refl
    go true false c e = e
    go false b c e = absurd (subst T (sym e) tt)

in_first : (d x : List ℕ) (t : Triple) → in_document t ≡ true → inside d x t ≡ true → t.start + t.len ≤ length d
in_first d x t h k = go (eqb t.source 1) refl
  where
    fits : (a b : Bool) → (a && leb (t.start + t.len) (length d)) || (b && leb (t.start + t.len) (length x)) ≡ true → a ≡ true → b ≡ false → leb (t.start + t.len) (length d) ≡ true
    fits true true e f g = absurd (subst T g tt)
    fits true false e f g = sym (or-false (leb (t.start + t.len) (length d))) ∙ e
    fits false b e f g = absurd (subst T (sym f) tt)

    zero_source : t.source ≡ 0 → t.start + t.len ≤ length d
    zero_source z =
        let none_of : inside d x t ≡ false = rw (ne_eqb t.source 1 (λ p. omega (arith, p, z)), ne_eqb t.source 2 (λ p. omega (arith, p, z))) in
        absurd (subst T (sym k ∙ none_of) tt)

    not-one : (b : Bool) → eqb t.source 0 ≡ b → eqb t.source 1 ≡ false → t.start + t.len ≤ length d
    not-one true e o = zero_source (eqb-true t.source 0 e)
    not-one false e o =
        let neither : in_document t ≡ false = rw (e, o) in
        absurd (subst T (sym h ∙ neither) tt)

    go : (b : Bool) → eqb t.source 1 ≡ b → t.start + t.len ≤ length d
    go true e =
        leb-true (t.start + t.len) (length d) (fits (eqb t.source 1) (eqb t.source 2) k e (ne_eqb t.source 2 (λ p. omega (arith, p, eqb-true t.source 1 e))))
    go false e = not-one (eqb t.source 0) refl e

doc_some : (d x : List ℕ) (u : Use) (t : Triple) → (t.len ≡ 0 → ⊥) → good_triple d x u any_text t ≡ true → in_document t ≡ true → empty (docstrings (over (docstring d) (docstring_by t))) ≡ false
doc_some d x u t z h i = go (absent t) refl
  where
    go : (b : Bool) → absent t ≡ b → empty (docstrings (over (docstring d) (if b none (some record { start = t.start; len = t.len })))) ≡ false
    go true a = absurd (z (eqb-true t.len 0 (last_true (eqb t.source 0) (eqb t.start 0) (eqb t.len 0) a)))
    go false a =
        let f = in_first d x t i (there_inside d x u t a h) in
        take_some t.len (drop t.start d) (omega (arith, z)) (omega (arith, f, length-drop t.start d))

module _ {d x ws : List ℕ} {n i : ℕ} (h : Held d x ws n) (l : i < n) where
  no_docstring : word_at ws i 13 ≡ 0 → docstrings (element_at d x ws i).doc ≡ []
  no_docstring e = doc_none d (triple_at 11 (drop (i * 16) ws)) (row_word i 13 ws ∙ e)

  a_docstring : (word_at ws i 13 ≡ 0 → ⊥) → empty (docstrings (element_at d x ws i).doc) ≡ false
  a_docstring e = doc_some d x (doc_use (word_at ws i 0)) (triple_at 11 (drop (i * 16) ws)) (λ z. e (sym (row_word i 13 ws) ∙ z)) (h.docs i l) (h.docs_in i l)

-- ---- whether something follows the attributes

open_doc : {A : Type 0} (e : Element) (f : Forest A) → empty (docstrings e.doc) ≡ false → is_open e f ≡ true
open_doc e bare h = ap not h
open_doc e (more t f) h = refl

open_tree : {A : Type 0} (e : Element) (f : Forest A) → some_tree f ≡ true → is_open e f ≡ true
open_tree e bare h = absurd (subst T (sym h) tt)
open_tree e (more t f) h = refl

module _ {d x ws : List ℕ} {n i : ℕ} (h : Held d x ws n) (l : i < n) where
  pub opens_docstring : {k : ℕ} → Word ws i 13 k → (k ≡ 0 → ⊥) → OpenIs d x ws n i (not (eqb k 0))
  opens_docstring {k} w z = record {
    is = ap not (ne_eqb k 0 z) ∙ sym (open_doc (element_at d x ws i) (under i (links_of n ws)) (a_docstring h l (λ e. z (w.is ∙ e))));
  }

  pub opens_child : {k : ℕ} {r : Bool} → Word ws i 13 k → k ≡ 0 → HasChild ws n i r → OpenIs d x ws n i r
  opens_child {r = r} w z c = record { is = go r refl }
    where
      go : (b : Bool) → r ≡ b → r ≡ is_open (element_at d x ws i) (under i (links_of n ws))
      go true e = e ∙ sym (open_tree (element_at d x ws i) (under i (links_of n ws)) (under_some ws n h.grouped c e))
      go false e =
          e
          ∙ sym (ap (λ l. not (empty l)) (no_docstring h l (sym w.is ∙ z)))
          ∙ ap (is_open (element_at d x ws i)) (sym (under_none ws n l c e))

pub ruleset opening = (held_row, held_few, opens_docstring, opens_child, rules)

-- ---- nodes

module _ {k o : ℕ} where
  pub deep_node : {b : Bool} → k ≡ kinds.node → b ≡ leb 1024 o → IsDeep k o b
  deep_node {b} e f = record {
    deep = λ t. (e, leb-true 1024 o (sym f ∙ t));
    shallow = λ t _. leb-false 1024 o (sym f ∙ t);
  }

  pub deep_other : (k ≡ kinds.node → ⊥) → IsDeep k o false
  deep_other e = record { deep = λ t. absurd (subst T (sym t) tt); shallow = λ t f. absurd (e f) }

  pub around_node : k ≡ kinds.node → IsAround k o (o - 1)
  around_node e = record { is = λ a p. omega (arith, p ∙ ap (λ b. if b (suc a) a) (eq-eqb k kinds.node e)) }

  pub around_other : (k ≡ kinds.node → ⊥) → IsAround k o o
  around_other e = record { is = λ a p. p ∙ ap (λ b. if b (suc a) a) (ne_eqb k kinds.node e) }

pub ruleset counting = (deep_node, deep_other, around_node, around_other, rules)

pub resume_ordered : {s : Standing} {i end : ℕ} → s.ordered ≡ true → Resumes s i end end
resume_ordered e = record { ordered = λ _. refl; other = λ f. absurd (subst T (sym e ∙ f) tt) }

pub resume_other : {s : Standing} {i end : ℕ} → s.ordered ≡ false → Resumes s i end (i + 1)
resume_other {i = i} e = record { ordered = λ f. absurd (subst T (sym f ∙ e) tt); other = λ _. add-one i }

pub ruleset resuming = (resume_ordered, resume_other, rules)

-- ---- bytes

tag_bytes : (n : List ℕ) (ps : List Pair) (b : Bool) → tag n ps b ≡ (60 ∷ n ++ pairs ps) ++ ending b
unfolding tag
tag_bytes n ps b = ap (◌∷◌ 60) (sym (append_assoc n (pairs ps) (ending b)))

element_none : (n : List ℕ) (ps : List Pair) (cs : List (List ℕ)) → empty cs ≡ true → element n ps cs ≡ tag n ps true
element_none n ps [] h = refl
element_none n ps (c ∷ cs) h = absurd (subst T (sym h) tt)

pub element_some : (n : List ℕ) (ps : List Pair) (cs : List (List ℕ)) → empty cs ≡ false → element n ps cs ≡ tag n ps false ++ (concat cs ++ closing_tag n)
element_some n ps [] h = absurd (subst T h tt)
element_some n ps (c ∷ cs) h = refl

open_empty : (g : ℕ → Element) (e : Element) (f : Forest ℕ) → empty (docstrings e.doc ++ written_forest (map_forest g f)) ≡ not (is_open e f)
open_empty g e bare = go (docstrings e.doc)
  where
    go : (l : List (List ℕ)) → empty (l ++ []) ≡ not (not (empty l))
    go [] = refl
    go (c ∷ l) = refl
open_empty g e (more t f) = go (docstrings e.doc)
  where
    go : (l : List (List ℕ)) → empty (l ++ (written_tree (map_tree g t) ∷ written_forest (map_forest g f))) ≡ false
    go [] = refl
    go (c ∷ l) = refl

module _ (d x ws : List ℕ) (k : ℕ) (f : Forest ℕ) where
  pub closed_bytes : is_open (element_at d x ws k) f ≡ false → bytes_of d x ws (tree k f) ≡ (60 ∷ tag_of (word_at ws k 0) ++ pairs (attributes (element_at d x ws k))) ++ bytes "/>"
  closed_bytes h =
      ap (λ t. element (tag_of t) (attributes (element_at d x ws k)) (docstrings (element_at d x ws k).doc ++ written_forest (map_forest (element_at d x ws) f))) (row_word k 0 ws)
      ∙ element_none (tag_of (word_at ws k 0)) (attributes (element_at d x ws k)) (docstrings (element_at d x ws k).doc ++ written_forest (map_forest (element_at d x ws) f)) (open_empty (element_at d x ws) (element_at d x ws k) f ∙ ap not h)
      ∙ tag_bytes (tag_of (word_at ws k 0)) (attributes (element_at d x ws k)) true

  together : (s g t w c : List ℕ) → (s ++ g) ++ ((t ++ w) ++ c) ≡ (s ++ (g ++ t)) ++ (w ++ c)
  together s g t w c =
      append_assoc s g ((t ++ w) ++ c)
      ∙ ap (λ l. s ++ (g ++ l)) (append_assoc t w c)
      ∙ ap (◌++◌ s) (sym (append_assoc g t (w ++ c)))
      ∙ sym (append_assoc s (g ++ t) (w ++ c))

  pub open_bytes : is_open (element_at d x ws k) f ≡ true → bytes_of d x ws (tree k f) ≡ ((60 ∷ tag_of (word_at ws k 0) ++ pairs (attributes (element_at d x ws k))) ++ (bytes ">" ++ concat (docstrings (element_at d x ws k).doc))) ++ (bytes_in d x ws f ++ closing_tag (tag_of (word_at ws k 0)))
  open_bytes h =
      let cs = docstrings (element_at d x ws k).doc ++ written_forest (map_forest (element_at d x ws) f) in
      let n = tag_of (word_at ws k 0) in
      let ps = attributes (element_at d x ws k) in
      ap (λ t. element (tag_of t) ps cs) (row_word k 0 ws)
      ∙ element_some n ps cs (open_empty (element_at d x ws) (element_at d x ws k) f ∙ ap not h)
      ∙ ap (λ l. l ++ (concat cs ++ closing_tag n)) (tag_bytes n ps false)
      ∙ ap (λ l. ((60 ∷ n ++ pairs ps) ++ bytes ">") ++ (l ++ closing_tag n)) (concat-append (docstrings (element_at d x ws k).doc) (written_forest (map_forest (element_at d x ws) f)))
      ∙ together (60 ∷ n ++ pairs ps) (bytes ">") (concat (docstrings (element_at d x ws k).doc)) (bytes_in d x ws f) (closing_tag n)

  -- ---- too deep

  closed_bare : is_open (element_at d x ws k) f ≡ false → f ≡ bare
  closed_bare h = go f h
    where
      go : (f : Forest ℕ) → is_open (element_at d x ws k) f ≡ false → f ≡ bare
      go bare h = refl
      go (more t f) h = absurd (subst T h tt)

  pub closed_shallow : (a : ℕ) → is_open (element_at d x ws k) f ≡ false → too_deep (element_at d x ws) a (tree k f) ≡ none
  closed_shallow a h =
      ap (λ b. if b (if (leb 1024 a) (some k) (too_deeps (element_at d x ws) (suc a) f)) (too_deeps (element_at d x ws) a f)) (ap (λ b. eqb (element_at d x ws k).kind kinds.node && b) h ∙ and-false (eqb (element_at d x ws k).kind kinds.node))
      ∙ ap (too_deeps (element_at d x ws) a) (closed_bare h)

  node_open : is_open (element_at d x ws k) f ≡ true → {c : Bool} → eqb (word_at ws k 0) kinds.node ≡ c → is_open_node (element_at d x ws k) f ≡ c
  node_open h {c} e = ap (λ b. eqb (element_at d x ws k).kind kinds.node && b) h ∙ ap (λ t. eqb t kinds.node && true) (row_word k 0 ws) ∙ ap (λ b. b && true) e ∙ and-true c

  abbrev answer : ℕ → Bool → Bool → Option ℕ
  answer a b c = if b (if c (some k) (too_deeps (element_at d x ws) (suc a) f)) (too_deeps (element_at d x ws) a f)

  pub open_deep : (a : ℕ) → is_open (element_at d x ws k) f ≡ true → word_at ws k 0 ≡ kinds.node → 1024 ≤ a → too_deep (element_at d x ws) a (tree k f) ≡ some k
  open_deep a h e l =
      ap (λ b. answer a b (leb 1024 a)) (node_open h (eq-eqb (word_at ws k 0) kinds.node e)) ∙ ap (λ b. answer a true b) (le-leb 1024 a l)

  pub open_shallow : (a : ℕ) → is_open (element_at d x ws k) f ≡ true → (word_at ws k 0 ≡ kinds.node → a < 1024) → too_deep (element_at d x ws) a (tree k f) ≡ too_deeps (element_at d x ws) (inside_of (word_at ws k 0) a) f
  open_shallow a h l = go (eqb (word_at ws k 0) kinds.node) refl
    where
      go : (c : Bool) → eqb (word_at ws k 0) kinds.node ≡ c → too_deep (element_at d x ws) a (tree k f) ≡ too_deeps (element_at d x ws) (if c (suc a) a) f
      go true e =
          ap (λ b. answer a b (leb 1024 a)) (node_open h e)
          ∙ ap (λ b. answer a true b) (lt-leb 1024 a (l (eqb-true (word_at ws k 0) kinds.node e)))
      go false e = ap (λ b. answer a b (leb 1024 a)) (node_open h e)

-- ---- the start of an element

module _ {d x ws : List ℕ} {i put a k : ℕ} {c : Bool} (w : Word ws i 0 k) (g : IsDeep k a c) where
  pub opens_deep : {t t₁ : List ℕ} → c ≡ true → Opens d x ws i a put t t₁ (Err i)
  opens_deep f = record { is = record { row = refl; node = sym w.is ∙ (g.deep f).0; deep = (g.deep f).1 } }

  pub opens_put : {t t₁ t₂ : List ℕ} {u r : ℕ} → c ≡ false → Puts (bytes ">") put t t₁ u → DocstringPut d x ws i u t₁ t₂ r → Opens d x ws i a put t t₂ (Ok r)
  opens_put f p z = record {
    is = record {
      shallow = λ v. g.shallow f (w.is ∙ v);
      puts = puts_then p z.puts;
      most = omega (arith, p.counts, z.most);
    };
  }

pub ruleset openings = (held_row, held_few, opens_deep, opens_put, rules)

module _ {d x ws : List ℕ} {n i put : ℕ} where
  module _ {t t₁ : List ℕ} {m : ℕ} (q : StartPut d x ws i put t t₁ m) where
    module _ {b : Bool} (o : OpenIs d x ws n i b) {a : ℕ} {t₂ : List ℕ} where
      pub begins_closed : {r : ℕ} → b ≡ false → Puts (bytes "/>") m t₁ t₂ r → Begins d x ws n i a put t t₂ (Ok (Closed r))
      begins_closed e p =
          let c = sym o.is ∙ e in
          record {
            is = record {
              closed = c;
              puts = puts_as (sym (closed_bytes d x ws i (under i (links_of n ws)) c)) (puts_then q.puts p);
              most = omega (arith, q.most, p.counts);
            };
          }

      pub begins_deep : {k : ℕ} → b ≡ true → Opens d x ws i a m t₁ t₂ (Err k) → Begins d x ws n i a put t t₂ (Err k)
      begins_deep e p =
          let c = sym o.is ∙ e in
          record { is = record { row = p.is.row; opens = c; node = p.is.node; deep = p.is.deep } }

      pub begins_open : {r : ℕ} → b ≡ true → Opens d x ws i a m t₁ t₂ (Ok r) → Begins d x ws n i a put t t₂ (Ok (Opened r))
      begins_open e p =
          let c = sym o.is ∙ e in
          record {
            is = record {
              opens = c;
              shallow = p.is.shallow;
              begun = (60 ∷ tag_of (word_at ws i 0) ++ pairs (attributes (element_at d x ws i))) ++ (bytes ">" ++ concat (docstrings (element_at d x ws i).doc));
              puts = puts_then q.puts p.is.puts;
              is = open_bytes d x ws i (under i (links_of n ws)) c;
              most = omega (arith, q.most, p.is.most);
            };
          }

pub ruleset beginning = (begins_closed, begins_deep, begins_open, rules)
