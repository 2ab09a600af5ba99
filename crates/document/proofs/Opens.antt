-- What a start tag comes to, way by way: the row of its kind, or a refusal. Whatever is to hold of it need be shown of each way only;
-- of two readers at once, which keep different things of an attribute.
use Prim.Native.Nat.{ℕ, suc}
use mathlib.Core.Path.{◌≡◌, refl}
use mathlib.Core.List.{List, [], ◌∷◌}
use mathlib.Core.Option.{Option, none, some}
use mathlib.Core.Bool.{Bool, true, false, not}
use borrow.Author.Tests.{eqb-true}
use lib.Dec.{eqb}
use Rattle.slices.specs.Bytes.{if, bytes, same}
use Rattle.names.specs.Names.{interface_name, member_name, property_name}
use Rattle.names.specs.Signature.{signature}
use Rattle.document.specs.Tags.{Shown, is_tp_type, tp_type}
use Rattle.document.specs.Tokens.{Tag}
use Rattle.document.specs.Kinds as kinds
use Rattle.document.specs.Elements.{among, access_of, direction_of, attr, Opened, opens, refuses, Keeping, row, required, valid, named_row, property_row, annotation_row, directed, arg_row, opens_as}
use Rattle.document.specs.Refusals.{raw_of, bare, showing, lacking}
use Rattle.document.specs.Reading.{is_there, is_some}
use Rattle.document.specs.declared.Refusal.{Refusal}
use Rattle.document.proofs.Tests.{pairwise}

-- the refusals of a start tag: an attribute is missing; a name or a signature is bad, at the element name; an access or a direction,
-- after the tag
pub data Refuses (t : Tag) : Refusal → Type 0 where
  lacks : (k : ℕ) → among k (1 ∷ 2 ∷ 3 ∷ 4 ∷ []) ≡ true → Refuses t (lacking k t)
  at_name : (n : ℕ) → among n (13 ∷ 14 ∷ []) ≡ true → Refuses t (bare n (suc t.at))
  at-end : (n : ℕ) (key : List ℕ) (s : Shown) → among n (15 ∷ 16 ∷ []) ≡ true → attr key t ≡ some s → Refuses t (showing n t.after (raw_of s))

-- the kinds that `opens_as` names; a row of another kind has a name at most
abbrev pub named_kinds : List ℕ
named_kinds =
    kinds.node ∷ kinds.interface ∷ kinds.method ∷ kinds.property ∷ kinds.signal ∷ kinds.annotation ∷ kinds.arg ∷ kinds.simple_type ∷ kinds.enum
    ∷ kinds.enumvalue ∷ kinds.member ∷ []

module _ {A B : Type 0} (keep : Keeping A) (seen : Keeping B) (p : ℕ) (t : Tag) (P : ℕ → Opened A → Opened B → Type 0) where
  abbrev pub OfRow : ℕ → Option Shown → Option Shown → Option Shown → ℕ → Type 0
  OfRow k n v tp w = P k (opens (row keep t k p n v tp w)) (opens (row seen t k p n v tp w))

  -- refusals; the row of each kind, with what its tag is known to have
  pub record Ways : Type 0 where
    pub refusal : (k : ℕ) (x : Refusal) → Refuses t x → P k (refuses x) (refuses x)
    pub node : OfRow kinds.node (attr (bytes "name") t) none none 0
    pub interface : is_some interface_name (attr (bytes "name") t) ≡ true → OfRow kinds.interface (attr (bytes "name") t) none none 0
    pub method : is_some member_name (attr (bytes "name") t) ≡ true → OfRow kinds.method (attr (bytes "name") t) none none 0
    pub property :
        is_some property_name (attr (bytes "name") t) ≡ true →
        is_some signature (attr (bytes "type") t) ≡ true →
        (a : List ℕ) →
        not (eqb (access_of a) 0) ≡ true →
        OfRow kinds.property (attr (bytes "name") t) (attr (bytes "type") t) (tp_type t.attrs) (access_of a)
    pub signal : is_some member_name (attr (bytes "name") t) ≡ true → OfRow kinds.signal (attr (bytes "name") t) none none 0
    pub annotation :
        is_there (attr (bytes "name") t) ≡ true →
        is_there (attr (bytes "value") t) ≡ true →
        OfRow kinds.annotation (attr (bytes "name") t) (attr (bytes "value") t) none 0
    pub arg :
        is_some signature (attr (bytes "type") t) ≡ true →
        (d : List ℕ) →
        OfRow kinds.arg (attr (bytes "name") t) (attr (bytes "type") t) (tp_type t.attrs) (direction_of d)
    pub typed : (k : ℕ) → among k kinds.typed ≡ true → OfRow k (attr (bytes "name") t) (attr (bytes "type") t) none 0
    pub enumvalue : OfRow kinds.enumvalue (attr (bytes "suffix") t) (attr (bytes "value") t) none 0
    pub member : OfRow kinds.member (attr (bytes "name") t) (attr (bytes "type") t) (tp_type t.attrs) 0
    pub other : (k : ℕ) → among k named_kinds ≡ false → OfRow k (attr (bytes "name") t) none none 0

  module _ (w : Ways) where
    on_required : (k key : ℕ) → among key (1 ∷ 2 ∷ 3 ∷ 4 ∷ []) ≡ true → (o : Option Shown) {x : Shown → Opened A} {y : Shown → Opened B} → ((s : Shown) → o ≡ some s → P k (x s) (y s)) → P k (required keep key o t x) (required seen key o t y)
    on_required k key e none h = w.refusal k (lacking key t) (lacks key e)
    on_required k key e (some s) h = h s refl

    on_valid : (k : ℕ) (b : Bool) (z : Refusal) → Refuses t z → {x : Opened A} {y : Opened B} → (b ≡ true → P k x y) → P k (valid keep b z x) (valid seen b z y)
    on_valid k b z r h = pairwise (P k) b h (λ c. w.refusal k z r)

    on_directed : (o : Option Shown) → attr (bytes "direction") t ≡ o → (x : ℕ → Opened A) (y : ℕ → Opened B) → ((d : List ℕ) → P kinds.arg (x (direction_of d)) (y (direction_of d))) → P kinds.arg (directed keep o t x) (directed seen o t y)
    on_directed none e x y h = h []
    on_directed (some d) e x y h = on_valid kinds.arg (not (eqb (direction_of d.value) 0)) (showing 16 t.after (raw_of d)) (at-end 16 (bytes "direction") d refl e) (λ c. h d.value)

    named_way : (good : List ℕ → Bool) (k : ℕ) → (is_some good (attr (bytes "name") t) ≡ true → OfRow k (attr (bytes "name") t) none none 0) → P k (named_row keep good k p t) (named_row seen good k p t)
    named_way good k h =
        on_required k 1 refl (attr (bytes "name") t) λ n e.
        on_valid k (good n.value) (bare 13 (suc t.at)) (at_name 13 refl) λ c. rw e at (h (rw e c))

    property_way : P kinds.property (property_row keep p t) (property_row seen p t)
    property_way =
        on_required kinds.property 1 refl (attr (bytes "name") t) λ n e.
        on_valid kinds.property (property_name n.value) (bare 13 (suc t.at)) (at_name 13 refl) λ c.
        on_required kinds.property 2 refl (attr (bytes "type") t) λ s f.
        on_valid kinds.property (signature s.value) (bare 14 (suc t.at)) (at_name 14 refl) λ d.
        on_required kinds.property 3 refl (attr (bytes "access") t) λ a g.
        on_valid kinds.property (not (eqb (access_of a.value) 0)) (showing 15 t.after (raw_of a)) (at-end 15 (bytes "access") a refl g) λ h.
        rw (e, f) at (w.property (rw e c) (rw f d) a.value h)

    annotation_way : P kinds.annotation (annotation_row keep p t) (annotation_row seen p t)
    annotation_way =
        on_required kinds.annotation 1 refl (attr (bytes "name") t) λ n e.
        on_required kinds.annotation 4 refl (attr (bytes "value") t) λ v f.
        rw (e, f) at (w.annotation (rw e) (rw f))

    arg_way : P kinds.arg (arg_row keep p t) (arg_row seen p t)
    arg_way =
        on_required kinds.arg 2 refl (attr (bytes "type") t) λ s e.
        on_valid kinds.arg (signature s.value) (bare 14 (suc t.at)) (at_name 14 refl) λ c.
        on_directed (attr (bytes "direction") t) refl _ _ λ d. rw e at (w.arg (rw e c) d)

    pub opens_way : (k : ℕ) → P k (opens_as keep k p t) (opens_as seen k p t)
    unfolding opens_as
    opens_way k =
        pairwise (P k) (eqb k kinds.node) (λ c. rw (eqb-true k kinds.node c) w.node)
        (λ a. pairwise (P k) (eqb k kinds.interface) (λ c. rw (eqb-true k kinds.interface c) (named_way interface_name kinds.interface w.interface))
        (λ b. pairwise (P k) (eqb k kinds.method) (λ c. rw (eqb-true k kinds.method c) (named_way member_name kinds.method w.method))
        (λ c. pairwise (P k) (eqb k kinds.property) (λ c. rw (eqb-true k kinds.property c) property_way)
        (λ d. pairwise (P k) (eqb k kinds.signal) (λ c. rw (eqb-true k kinds.signal c) (named_way member_name kinds.signal w.signal))
        (λ e. pairwise (P k) (eqb k kinds.annotation) (λ c. rw (eqb-true k kinds.annotation c) annotation_way)
        (λ f. pairwise (P k) (eqb k kinds.arg) (λ c. rw (eqb-true k kinds.arg c) arg_way)
        (λ g. pairwise (P k) (among k kinds.typed) (λ c. w.typed k c)
        (λ h. pairwise (P k) (eqb k kinds.enumvalue) (λ c. rw (eqb-true k kinds.enumvalue c) w.enumvalue)
        (λ i. pairwise (P k) (eqb k kinds.member) (λ c. rw (eqb-true k kinds.member c) w.member)
        (λ j. w.other k (rw (a, b, c, d, e, f, g) (neither (eqb k kinds.simple_type) (eqb k kinds.enum) (eqb k kinds.enumvalue) (eqb k kinds.member) h i j))))))))))))
      where
        neither : (x y z u : Bool) → if x true (if y true false) ≡ false → z ≡ false → u ≡ false → if x true (if y true (if z true (if u true false))) ≡ false
        neither true y z u h i j = h
        neither false true z u h i j = h
        neither false false z u h i j = rw (i, j)

-- a value of a row: absent, or that of an attribute
abbrev pub From : Option Shown → Option Shown → Type 0
From a o = (b : Bool) × (o ≡ if b a none)

-- a row keeps different attributes of its tag, each once
pub record Chosen (t : Tag) (n v o : Option Shown) : Type 0 where
  pub first : List ℕ
  pub second : List ℕ
  pub apart : same first second ≡ false
  pub first_plain : is_tp_type first ≡ false
  pub second_plain : is_tp_type second ≡ false
  pub name : From (attr first t) n
  pub value : From (attr second t) v
  pub tp : From (tp_type t.attrs) o

-- what need be shown of each way, where it does not matter which
module _ {A B : Type 0} (keep : Keeping A) (seen : Keeping B) (p : ℕ) (t : Tag) (P : Opened A → Opened B → Type 0) where
  pub any_way :
      ((x : Refusal) → Refuses t x → P (refuses x) (refuses x)) →
      ((k w : ℕ) (n v tp : Option Shown) → Chosen t n v tp → P (opens (row keep t k p n v tp w)) (opens (row seen t k p n v tp w))) →
      (k : ℕ) → P (opens_as keep k p t) (opens_as seen k p t)
  any_way f h =
      opens_way keep seen p t (λ k. P) (record {
        refusal = λ k. f;
        node = named 1;
        interface = λ c. named 2;
        method = λ c. named 3;
        property = λ c d a e. typed 4 (access_of a) true;
        signal = λ c. named 5;
        annotation = λ c d. h 6 0 _ _ _ (chosen (bytes "name") (bytes "value") refl refl refl (true, refl) (true, refl) (false, refl));
        arg = λ c d. typed 7 (direction_of d) true;
        typed = λ k c. typed k 0 false;
        enumvalue = h 10 0 _ _ _ (chosen (bytes "suffix") (bytes "value") refl refl refl (true, refl) (true, refl) (false, refl));
        member = typed 12 0 true;
        other = λ k c. named k;
      })
    where
      chosen : {n v tp : Option Shown} (i j : List ℕ) → same i j ≡ false → is_tp_type i ≡ false → is_tp_type j ≡ false → From (attr i t) n → From (attr j t) v → From (tp_type t.attrs) tp → Chosen t n v tp
      chosen i j a b c x y z = record { first = i; second = j; apart = a; first_plain = b; second_plain = c; name = x; value = y; tp = z }

      named : (k : ℕ) → P (opens (row keep t k p (attr (bytes "name") t) none none 0)) (opens (row seen t k p (attr (bytes "name") t) none none 0))
      named k = h k 0 _ _ _ (chosen (bytes "name") (bytes "type") refl refl refl (true, refl) (false, refl) (false, refl))

      typed : (k w : ℕ) (b : Bool) → P (opens (row keep t k p (attr (bytes "name") t) (attr (bytes "type") t) (if b (tp_type t.attrs) none) w)) (opens (row seen t k p (attr (bytes "name") t) (attr (bytes "type") t) (if b (tp_type t.attrs) none) w))
      typed k w b = h k w _ _ _ (chosen (bytes "name") (bytes "type") refl refl refl (true, refl) (true, refl) (b, refl))
