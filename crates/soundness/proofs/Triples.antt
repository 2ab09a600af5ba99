-- Triples of a row: absent, or a text that its kind may have there.
use Prim.Native.Nat.{ℕ, ◌+◌, ◌≤◌, ◌<◌}
use mathlib.Core.Path.{◌≡◌, refl, sym, ap, ◌∙◌}
use mathlib.Core.List.{List}
use mathlib.Core.Bool.{Bool, true, false, not, ◌&&◌, and-true, and-false}
use borrow.Author.Rules.{rules}
use borrow.Author.Tests.{eqb-true, ne_eqb, le-leb, lt-leb}
use lib.Dec.{eqb, leb}
use lib.ListN.{length, take, drop}
use Rattle.slices.specs.Bytes.{if}
use Rattle.slices.proofs.Runs.{and_both}
use Rattle.utf8.specs.WellFormed.{well_formed}
use Rattle.tables.specs.Triple.{inside, shown}
use Rattle.tables.specs.declared.Triple.{Triple}
use Rattle.document.specs.Kinds as kinds
use Rattle.document.specs.Elements.{among}
use Rattle.items.specs.Words.{absent}
use Rattle.items.specs.Sound.{Use, nameless, tp_typed, unused, optional, required, name_use, value_use, tp_use, doc_use, valid_name, valid_value, any_text, good_triple, in_document}
use Rattle.soundness.specs.Outcome.{may_lack_name, uses_value, uses_tp, is_part, is_text, good_doc}

-- ---- a text

module _ (s : List ℕ) (t : Triple) where
  pub part_past : length s < t.start + t.len → false ≡ is_part s t
  unfolding is_part
  part_past l = rw (lt-leb (t.start + t.len) (length s) l)

  pub part_in : {r : Bool} → t.start + t.len ≤ length s → r ≡ well_formed (take t.len (drop t.start s)) → r ≡ is_part s t
  unfolding is_part
  part_in l h = h ∙ rw (le-leb (t.start + t.len) (length s) l)

module _ (d x : List ℕ) (t : Triple) where
  pub text_of_document : {r : Bool} → t.source ≡ 1 → r ≡ is_part d t → r ≡ is_text d x t
  unfolding is_text is_part shown
  text_of_document e h = h ∙ go (leb (t.start + t.len) (length d)) refl
    where
      go : (b : Bool) → leb (t.start + t.len) (length d) ≡ b → leb (t.start + t.len) (length d) && well_formed (take t.len (drop t.start d)) ≡ is_text d x t
      go true z = rw (e, z)
      go false z = rw (e, z)

  pub text_of_text : {r : Bool} → t.source ≡ 2 → r ≡ is_part x t → r ≡ is_text d x t
  unfolding is_text is_part shown
  text_of_text e h = h ∙ go (leb (t.start + t.len) (length x)) refl
    where
      go : (b : Bool) → leb (t.start + t.len) (length x) ≡ b → leb (t.start + t.len) (length x) && well_formed (take t.len (drop t.start x)) ≡ is_text d x t
      go true z = rw (e, z)
      go false z = rw (e, z)

  pub text_nowhere : (t.source ≡ 1 → ⊥) → (t.source ≡ 2 → ⊥) → false ≡ is_text d x t
  unfolding is_text
  text_nowhere n e = rw (ne_eqb t.source 1 n, ne_eqb t.source 2 e)

pub ruleset in_buffers = (part_past, part_in, text_of_document, text_of_text, text_nowhere, rules)

-- ---- a triple where a kind may or must have one

module _ (d x : List ℕ) (u : Use) (valid : List ℕ → Bool) (t : Triple) where
  good_absent : absent t ≡ true → good_triple d x u valid t ≡ not u.must
  unfolding good_triple
  good_absent e = rw e

  good_unused : absent t ≡ false → u.may ≡ false → good_triple d x u valid t ≡ false
  unfolding good_triple
  good_unused e m = rw (e, m)

  good_no_text : absent t ≡ false → is_text d x t ≡ false → good_triple d x u valid t ≡ false
  unfolding good_triple is_text
  good_no_text e f = rw e (go u.may (inside d x t) (well_formed (shown d x t)) f)
    where
      go : (m i w : Bool) → i && w ≡ false → m && i && w && valid (shown d x t) ≡ false
      go false i w h = refl
      go true false w h = refl
      go true true w h = rw h

  good_text : absent t ≡ false → u.may ≡ true → is_text d x t ≡ true → good_triple d x u valid t ≡ valid (shown d x t)
  unfolding good_triple is_text
  good_text e m f = rw (e, m) (go (inside d x t) (well_formed (shown d x t)) f)
    where
      go : (i w : Bool) → i && w ≡ true → i && w && valid (shown d x t) ≡ valid (shown d x t)
      go false w h = cc
      go true w h = rw h

  good_any : absent t ≡ false → u.may ≡ true → good_triple d x u any_text t ≡ is_text d x t
  unfolding good_triple is_text
  good_any e m = rw (e, m) (and-true (inside d x t && well_formed (shown d x t)))

-- ---- by kind

either_not : (b : Bool) → not (if b optional required).must ≡ b
either_not true = refl
either_not false = refl

either_named : (b : Bool) → (if b optional required).may ≡ true
either_named true = refl
either_named false = refl

module _ (d x : List ℕ) (k : ℕ) (t : Triple) {a : Bool} (e : a ≡ absent t) where
  pub name_absent : {r : Bool} → a ≡ true → r ≡ may_lack_name k → r ≡ good_triple d x (name_use k) (valid_name k) t
  unfolding may_lack_name
  name_absent h q = q ∙ sym (good_absent d x (name_use k) (valid_name k) t (sym e ∙ h) ∙ either_not (among k nameless))

  module _ {b : Bool} (h : a ≡ false) (f : b ≡ is_text d x t) where
    pub name_no_text : b ≡ false → false ≡ good_triple d x (name_use k) (valid_name k) t
    name_no_text q = sym (good_no_text d x (name_use k) (valid_name k) t (sym e ∙ h) (sym f ∙ q))

    pub name_text : {s : List ℕ} {r : Bool} → b ≡ true → s ≡ shown d x t → r ≡ valid_name k s → r ≡ good_triple d x (name_use k) (valid_name k) t
    name_text q g v =
        v
        ∙ ap (valid_name k) g
        ∙ sym (good_text d x (name_use k) (valid_name k) t (sym e ∙ h) (either_named (among k nameless)) (sym f ∙ q))

pub ruleset named = (name_absent, name_no_text, name_text, rules)

either_valued : (b : Bool) → (if b required unused).may ≡ b
either_valued true = refl
either_valued false = refl

either_needed : (b : Bool) → (if b required unused).must ≡ b
either_needed true = refl
either_needed false = refl

module _ (d x : List ℕ) (k : ℕ) (t : Triple) where
  module _ {u : Bool} (n : u ≡ uses_value k) where
    used : {b : Bool} → uses_value k ≡ b → (value_use k).may ≡ b
    unfolding uses_value
    used e = either_valued (uses_value k) ∙ e

    needed : {b : Bool} → uses_value k ≡ b → not (value_use k).must ≡ not b
    unfolding uses_value
    needed e = ap not (either_needed (uses_value k) ∙ e)

    pub value_unused : {r : Bool} → u ≡ false → r ≡ absent t → r ≡ good_triple d x (value_use k) (valid_value k) t
    value_unused q e = e ∙ go (absent t) refl
      where
        go : (b : Bool) → absent t ≡ b → absent t ≡ good_triple d x (value_use k) (valid_value k) t
        go true f = f ∙ sym (good_absent d x (value_use k) (valid_value k) t f ∙ needed (sym n ∙ q))
        go false f = f ∙ sym (good_unused d x (value_use k) (valid_value k) t f (used (sym n ∙ q)))

    module _ {a : Bool} (q : u ≡ true) (e : a ≡ absent t) where
      pub value_absent : a ≡ true → false ≡ good_triple d x (value_use k) (valid_value k) t
      value_absent h = sym (good_absent d x (value_use k) (valid_value k) t (sym e ∙ h) ∙ needed (sym n ∙ q))

      module _ {b : Bool} (h : a ≡ false) (f : b ≡ is_text d x t) where
        pub value_no_text : b ≡ false → false ≡ good_triple d x (value_use k) (valid_value k) t
        value_no_text w = sym (good_no_text d x (value_use k) (valid_value k) t (sym e ∙ h) (sym f ∙ w))

        pub value_text : {s : List ℕ} {r : Bool} → b ≡ true → s ≡ shown d x t → r ≡ valid_value k s → r ≡ good_triple d x (value_use k) (valid_value k) t
        value_text w g v =
            v
            ∙ ap (valid_value k) g
            ∙ sym (good_text d x (value_use k) (valid_value k) t (sym e ∙ h) (used (sym n ∙ q)) (sym f ∙ w))

pub ruleset valued = (value_unused, value_absent, value_no_text, value_text, rules)

either_optional : (b : Bool) → not (if b optional unused).must ≡ true
either_optional true = refl
either_optional false = refl

either_typed : (b : Bool) → (if b optional unused).may ≡ b
either_typed true = refl
either_typed false = refl

module _ (d x : List ℕ) (k : ℕ) (t : Triple) {a : Bool} (e : a ≡ absent t) where
  pub tp_absent : a ≡ true → true ≡ good_triple d x (tp_use k) any_text t
  tp_absent h = sym (good_absent d x (tp_use k) any_text t (sym e ∙ h) ∙ either_optional (among k tp_typed))

  module _ {u : Bool} (h : a ≡ false) (n : u ≡ uses_tp k) where
    typed : {b : Bool} → uses_tp k ≡ b → (tp_use k).may ≡ b
    unfolding uses_tp
    typed f = either_typed (uses_tp k) ∙ f

    pub tp_unused : u ≡ false → false ≡ good_triple d x (tp_use k) any_text t
    tp_unused q = sym (good_unused d x (tp_use k) any_text t (sym e ∙ h) (typed (sym n ∙ q)))

    pub tp_text : {r : Bool} → u ≡ true → r ≡ is_text d x t → r ≡ good_triple d x (tp_use k) any_text t
    tp_text q f = f ∙ sym (good_any d x (tp_use k) any_text t (sym e ∙ h) (typed (sym n ∙ q)))

pub ruleset typed_texts = (tp_absent, tp_unused, tp_text, rules)

-- ---- docstrings

either_doc : (b : Bool) → not (if b unused optional).must ≡ true
either_doc true = refl
either_doc false = refl

module _ (d x : List ℕ) (k : ℕ) (t : Triple) {a : Bool} (e : a ≡ absent t) where
  pub doc_absent : a ≡ true → true ≡ good_doc d x k t
  unfolding good_doc
  doc_absent h =
      let s : absent t ≡ true = sym e ∙ h in
      let z : eqb t.source 0 ≡ true = (and_both (eqb t.source 0) (eqb t.start 0) (and_both (eqb t.source 0 && eqb t.start 0) (eqb t.len 0) s).0).0 in
      sym (rw (good_absent d x (doc_use k) any_text t s, either_doc (eqb k kinds.annotation), z))

  module _ (h : a ≡ false) where
    pub doc_unused : k ≡ kinds.annotation → false ≡ good_doc d x k t
    unfolding good_doc
    doc_unused q = sym (rw (q, good_unused d x unused any_text t (sym e ∙ h) refl))

    pub doc_elsewhere : (t.source ≡ 1 → ⊥) → false ≡ good_doc d x k t
    unfolding good_doc is_text
    doc_elsewhere q = go (eqb t.source 0) refl
      where
        nowhere : eqb t.source 0 ≡ true → is_text d x t ≡ false
        nowhere z = rw (eqb-true t.source 0 z)

        go : (b : Bool) → eqb t.source 0 ≡ b → false ≡ good_triple d x (doc_use k) any_text t && in_document t
        go true z = sym (rw (good_no_text d x (doc_use k) any_text t (sym e ∙ h) (nowhere z)))
        go false z = sym (rw (z, ne_eqb t.source 1 q, and-false))

    pub doc_text : {r : Bool} → (k ≡ kinds.annotation → ⊥) → t.source ≡ 1 → r ≡ is_part d t → r ≡ good_doc d x k t
    unfolding good_doc
    doc_text n q f = text_of_document d x t q f ∙ sym (rw (ne_eqb k kinds.annotation n, good_any d x optional any_text t (sym e ∙ h) refl, q, and-true))

pub ruleset documented = (doc_absent, doc_unused, doc_elsewhere, doc_text, rules)
