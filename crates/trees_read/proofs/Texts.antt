-- A written tree is well-formed UTF-8.
use Prim.Native.Nat.{ℕ}
use mathlib.Core.Path.{◌≡◌, refl, sym, subst}
use mathlib.Core.List.{List, [], ◌∷◌, ◌++◌}
use mathlib.Core.Option.{Option, none, some}
use mathlib.Core.Bool.{Bool, true, false}
use borrow.Author.Tests.{eqb-true, eq-eqb}
use lib.Dec.{eqb, ltb}
use lib.ListN.{length}
use Rattle.slices.specs.Bytes.{if, bytes, all}
use Rattle.utf8.specs.WellFormed.{ill_formed, well_formed}
use Rattle.utf8.proofs.Texts.{Whole, none_whole, whole, formed, whole_append, ascii}
use Rattle.references.specs.Escape.{escape}
use Rattle.references.proofs.Formed.{escape_formed}
use Rattle.document.specs.Kinds as kinds
use Rattle.document.specs.Elements.{among}
use Rattle.items.specs.Sound.{Use}
use Rattle.items.specs.Written.{Pair, pairs, concat}
use Rattle.items.proofs.Written.{concat-append}
use Rattle.items.proofs.Written.{pairs-append}
use Rattle.roundtrip.proofs.Texts.{first, whole_tag, whole_close, whole_element}
use Rattle.trees.specs.Trees.{Tree, tree, Forest, bare, more}
use Rattle.trees.specs.Written.{Element, tag_of, given, name_key, value_key, tp_key, word_pairs, attributes, doc_tag, docstrings, written_tree, written_forest}
use Rattle.trees_read.proofs.Good.{Fitting, Documented, Fit, open_in, Good, Goods}

either : {A : Type 0} (P : A → Type 0) (b : Bool) {x y : A} → P x → P y → P (if b x y)
either P true h k = h
either P false h k = k

formed_whole : (s : List ℕ) → well_formed s ≡ true → Whole s
formed_whole s h = whole s (eqb-true (ill_formed s) (length s) h)

plain : (s : List ℕ) → all (λ b. ltb b 128) s ≡ true → well_formed s ≡ true
plain s h = eq-eqb (ill_formed s) (length s) (formed (ascii s h))

-- ---- attributes

whole_pair : (k v : List ℕ) → Whole k → well_formed v ≡ true → Whole (pairs (given k (some v)))
whole_pair k v h f =
    whole_append
    (first 32 _ refl
    (whole_append h (first 61 _ refl (first 34 _ refl (whole_append (whole (escape v) (escape_formed v (eqb-true (ill_formed v) (length v) f))) (ascii _ refl))))))
    none_whole

whole_given : (k : List ℕ) → Whole k → (u : Use) (valid : List ℕ → Bool) (o : Option (List ℕ)) → Fitting u valid o → Whole (pairs (given k o))
whole_given k h u valid none f = none_whole
whole_given k h u valid (some v) f = whole_pair k v h f.1

joint : (xs ys : List Pair) → Whole (pairs xs) → Whole (pairs ys) → Whole (pairs (xs ++ ys))
joint xs ys h k = subst Whole (sym (pairs-append xs ys)) (whole_append h k)

whole_word : (k w : ℕ) → Whole (pairs (word_pairs k w))
whole_word k w =
    either (λ ps. Whole (pairs ps)) (eqb k kinds.property)
    (either access (eqb w 1) (whole_pair (bytes "access") (bytes "read") (ascii _ refl) (plain (bytes "read") refl)) (either access (eqb w 2) (whole_pair (bytes "access") (bytes "write") (ascii _ refl) (plain (bytes "write") refl)) (either access (eqb w 3) (whole_pair (bytes "access") (bytes "readwrite") (ascii _ refl) (plain (bytes "readwrite") refl)) none_whole)))
    (either (λ ps. Whole (pairs ps)) (eqb k kinds.arg)
    (either direction (eqb w 1) (whole_pair (bytes "direction") (bytes "in") (ascii _ refl) (plain (bytes "in") refl)) (either direction (eqb w 2) (whole_pair (bytes "direction") (bytes "out") (ascii _ refl) (plain (bytes "out") refl)) none_whole))
    none_whole)
  where
    access : Option (List ℕ) → Type 0
    access o = Whole (pairs (given (bytes "access") o))

    direction : Option (List ℕ) → Type 0
    direction o = Whole (pairs (given (bytes "direction") o))

whole_attributes : (e : Element) → Fit e → Whole (pairs (attributes e))
whole_attributes e f =
    let k = e.kind in
    joint (given (name_key k) e.name) _ (whole_given (name_key k) (either Whole (eqb k kinds.enumvalue) (ascii _ refl) (ascii _ refl)) _ _ e.name f.name)
    (joint (given (value_key k) e.value) _ (whole_given (value_key k) (either Whole (among k (kinds.annotation ∷ kinds.enumvalue ∷ [])) (ascii _ refl) (ascii _ refl)) _ _ e.value f.value)
    (joint (given tp_key e.tp) _ (whole_given tp_key (ascii _ refl) _ _ e.tp f.tp) (whole_word k e.word)))

-- ---- tags

whole_tag_of : (k : ℕ) → Whole (tag_of k)
unfolding tag_of
whole_tag_of k =
    either Whole (eqb k kinds.node) (ascii _ refl)
    (either Whole (eqb k kinds.interface) (ascii _ refl)
    (either Whole (eqb k kinds.method) (ascii _ refl)
    (either Whole (eqb k kinds.property) (ascii _ refl)
    (either Whole (eqb k kinds.signal) (ascii _ refl)
    (either Whole (eqb k kinds.annotation) (ascii _ refl)
    (either Whole (eqb k kinds.arg) (ascii _ refl)
    (either Whole (eqb k kinds.simple_type) (ascii _ refl)
    (either Whole (eqb k kinds.enum) (ascii _ refl)
    (either Whole (eqb k kinds.enumvalue) (ascii _ refl)
    (either Whole (eqb k kinds.struct) (ascii _ refl)
    (either Whole (eqb k kinds.member) (ascii _ refl) (ascii _ refl))))))))))))

whole_docstrings : (k : ℕ) (o : Option (List ℕ)) → Documented k o → Whole (concat (docstrings o))
whole_docstrings k none h = none_whole
whole_docstrings k (some []) h = none_whole
whole_docstrings k (some (b ∷ s)) h =
    whole_append
    (whole_append (whole_tag doc_tag [] false (ascii _ refl) none_whole) (whole_append (formed_whole (b ∷ s) h.1) (whole_close doc_tag (ascii _ refl))))
    none_whole

-- ---- trees

mutual
  pub whole_tree : (t : Tree Element) (d : ℕ) → Good d t → Whole (written_tree t)
  whole_tree (tree e f) d g =
      whole_element (tag_of e.kind) (attributes e) (docstrings e.doc ++ written_forest f) (whole_tag_of e.kind) (whole_attributes e g.0)
      (subst Whole (sym (concat-append (docstrings e.doc) (written_forest f))) (whole_append (whole_docstrings e.kind e.doc g.0.doc) (whole_forest f (open_in d e f) e.kind g.4)))

  pub whole_forest : (f : Forest Element) (d k : ℕ) → Goods d k f → Whole (concat (written_forest f))
  whole_forest bare d k g = none_whole
  whole_forest (more t f) d k g = whole_append (whole_tree t d g.1) (whole_forest f d k g.2)
