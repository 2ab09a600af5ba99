-- The row of each kind of element, from what its start tag has.
use Prim.Native.Nat.{ℕ, ◌+◌, ◌≤◌, ◌<◌, ◌^◌}
use mathlib.Core.Path.{◌≡◌, refl, sym, ◌∙◌, ap}
use mathlib.Core.List.{List}
use mathlib.Core.Option.{Option, none, some}
use mathlib.Core.Bool.{Bool, true, false, not}
use lib.Dec.{eqb}
use borrow.Author.Rules.{rules}
use borrow.Author.Tests.{ne_eqb}
use native.Mathlib.Omega.{arith}
use Rattle.std.specs.Prelude.{Ok, Err}
use Rattle.slices.specs.Bytes.{bytes}
use Rattle.names.specs.Names.{interface_name, member_name, property_name}
use Rattle.names.specs.Signature.{signature}
use Rattle.document.specs.Kinds as kinds
use Rattle.document.specs.Tags.{Shown, tp_type}
use Rattle.document.specs.Tokens.{Tag}
use Rattle.document.specs.Elements.{attr, access_of, directed, kept, row, opens, refuses, opens_as, Opened, valid}
use Rattle.document.specs.Refusals.{bare, showing, raw_of}
use Rattle.document.specs.Outcome.{Held, Lies, ValueIs, ValueFits, Ready, TagIs, Opening, whole}
use Rattle.document.specs.declared.Form.{Form}
use Rattle.document.specs.declared.Value.{Value}
use Rattle.document.specs.declared.StartTag.{StartTag}
use Rattle.document.specs.declared.Fill.{Fill}
use Rattle.document.specs.declared.Excerpt.{Excerpt}
use Rattle.document.specs.declared.Refusal.{Refusal}
use Rattle.shown.specs.Outcome.{Tests}
use Rattle.rows.specs.Outcome.{RowFits, RowPut}
use Rattle.rows.specs.declared.Head.{Head}
use Rattle.elements.specs.Outcome.{Steps, demanded, tested, accessed, Accesses, Directs, NamedKind, TypedKind, UntypedKind}

-- a value of a tag lies in the document, and so does one that is not there
pub lies : {doc : List ℕ} {c : StartTag} {f : Fill} {v : Value} → Ready doc c f → ValueFits c.at c.end v → Lies doc v
lies r h = record { small = r.sound.small; inside = omega (arith, h.until, r.fits.within) }

pub lies_ty : {doc : List ℕ} {c : StartTag} {f : Fill} → Ready doc c f → Lies doc c.values.ty
lies_ty r = lies r r.fits.values.ty

abbrev absent : Value
absent = record { at = 0; len = 0; form = Form.Absent }

pub absent_fits : {doc : List ℕ} {c : StartTag} {f : Fill} → Ready doc c f → ValueFits c.at c.end absent
absent_fits r = record { until = omega arith; short = omega (arith, r.fits.inside) }

-- the reader keeps all of an attribute
kept_is : (doc : List ℕ) (v : Value) (o : Option Shown) → ValueIs doc v o → ValueIs doc v (kept whole o)
kept_is doc v none h = h
kept_is doc v (some s) h = h

-- the head of the row of an element of kind k
abbrev head_of : StartTag → ℕ → ℕ → ℕ → Head
head_of c k p w = record { kind = k; parent = p; word = w; at = c.at }

module _ {doc : List ℕ} {c : StartTag} {f : Fill} {h : Head} {name second tp : Value} (r : Ready doc c f) (a : ValueFits c.at c.end name) (b : ValueFits c.at c.end second) (d : ValueFits c.at c.end tp) where
  pub row_fits : h.parent ≤ 1048576 → h.at ≡ c.at → RowFits doc h name second tp f
  row_fits p l = record {
    small = r.sound.small;
    named = omega (arith, a.until, r.fits.within);
    valued = omega (arith, b.until, r.fits.within);
    typed = omega (arith, d.until, r.fits.within);
    parent = p;
    after = omega (arith, r.few);
    place = omega (arith, r.sound.small, r.fits.inside, r.fits.within);
    rows = omega (arith, r.few, r.sound.small, r.fits.inside, r.fits.within);
    text = omega (arith, r.text, r.sound.small, r.fits.inside, r.fits.within);
  }

  -- a row that fits the tag's element
  opened : {k p w : ℕ} {rows rows' text text' : List ℕ} {g : Fill} → h ≡ head_of c k p w → RowPut doc h name second tp f rows rows' text text' g → ((t : Tag) → TagIs doc c t → (n v y : Option Shown) × (opens_as whole k p t ≡ opens (row whole t k p n v y w)) × ValueIs doc name n × ValueIs doc second v × ValueIs doc tp y) → Opening doc k c p f rows rows' text text' (Ok g)
  opened {k} {p} {w} {g = g} e q i = record {
    at = r.at;
    onward = (
      q.at,
      q.counts,
      record {
        sound = r.sound;
        inside = omega (arith, q.at, r.at, r.fits.within);
        few = omega (arith, q.at, r.at, q.counts, q.warnings, r.few, r.fits.named, r.fits.inside);
        text = omega (arith, q.at, r.at, q.most, r.text, a.short, b.short, d.short, r.fits.inside);
      },
    );
    is = λ t z.
        let j = i t z in
        let x = row whole t k p j.0 j.1 j.2 w in (
          x,
          j.3,
          λ u l s. q.stands x u l (sym (ap (λ (m : Head). m.kind) e)) (sym (ap (λ (m : Head). m.parent) e)) (sym (ap (λ (m : Head). m.word) e)) (ap (λ (m : Head). m.at) e ∙ z.at) refl (kept_is doc name j.0 j.4) (kept_is doc second j.1 j.5) (kept_is doc tp j.2 j.6) s,
        );
  }

-- the tag's first fault
refused : {doc : List ℕ} {c : StartTag} {f : Fill} {k p : ℕ} {x : Refusal} {rows text : List ℕ} → Ready doc c f → ((t : Tag) → TagIs doc c t → opens_as whole k p t ≡ refuses x) → Opening doc k c p f rows rows text text (Err x)
refused r i = record { at = r.at; onward = tt; is = i }

-- the row of a kind is at a step, after which something goes on with the step's answer
pub record AtStep {A : Type 0} (doc : List ℕ) (c : StartTag) (k p : ℕ) (step : Tag → (A → Opened Shown) → Opened Shown) (next : (t : Tag) → TagIs doc c t → A → Opened Shown) : Type 0 where
  pub is : (t : Tag) (z : TagIs doc c t) → opens_as whole k p t ≡ step t (next t z)

module _ {A : Type 0} {doc : List ℕ} {c : StartTag} {k p : ℕ} {step : Tag → (A → Opened Shown) → Opened Shown} {next : (t : Tag) → TagIs doc c t → A → Opened Shown} (i : AtStep doc c k p step next) where
  -- the step refuses
  pub step_refused : {f : Fill} {x : Refusal} {rows text : List ℕ} → Ready doc c f → ((t : Tag) → TagIs doc c t → (g : A → Opened Shown) → step t g ≡ refuses x) → Opening doc k c p f rows rows text text (Err x)
  step_refused r d = refused r (λ t z. i.is t z ∙ d t z (next t z))

  -- or it goes on
  past : {belongs : A → Type 0} (d : (t : Tag) → TagIs doc c t → (a : A) × belongs a × ((g : A → Opened Shown) → step t g ≡ g a)) (t : Tag) (z : TagIs doc c t) → opens_as whole k p t ≡ next t z (d t z).0
  past d t z = i.is t z ∙ (d t z).2 (next t z)

-- the last step gives the row's word
worded : {doc : List ℕ} {c : StartTag} {k p : ℕ} {f : Fill} {step : Tag → (ℕ → Opened Shown) → Opened Shown} {w : ℕ} {h : Head} {rows rows' text text' : List ℕ} {g : Fill} → Ready doc c f → (n v : (t : Tag) → TagIs doc c t → Option Shown) → ((t : Tag) (z : TagIs doc c t) → ValueIs doc c.values.name (n t z)) → ((t : Tag) (z : TagIs doc c t) → ValueIs doc c.values.ty (v t z)) → AtStep doc c k p step (λ t z w. opens (row whole t k p (n t z) (v t z) (tp_type t.attrs) w)) → Steps doc c ◌≡◌ step (Ok w) → h ≡ head_of c k p 0 → RowPut doc (record { kind = h.kind; parent = h.parent; word = w; at = h.at }) c.values.name c.values.ty c.values.tp f rows rows' text text' g → Opening doc k c p f rows rows' text text' (Ok g)
worded {k = k} {p = p} r n v a b i d e q =
    opened r r.fits.values.name r.fits.values.ty r.fits.values.tp (rw e) q
    (λ t z. (n t z, v t z, tp_type t.attrs, past i d t z ∙ ap (λ w. opens (row whole t k p (n t z) (v t z) (tp_type t.attrs) w)) (sym (d t z).1), a t z, b t z, z.values.tp))

-- the kinds by what they need
pub interface_kind : NamedKind interface_name kinds.interface
unfolding opens_as
interface_kind = record { is = λ p t. refl }

pub method_kind : NamedKind member_name kinds.method
unfolding opens_as
method_kind = record { is = λ p t. refl }

pub signal_kind : NamedKind member_name kinds.signal
unfolding opens_as
signal_kind = record { is = λ p t. refl }

pub simple_type_kind : TypedKind kinds.simple_type
unfolding opens_as
simple_type_kind = record { is = λ p t. refl }

pub enum_kind : TypedKind kinds.enum
unfolding opens_as
enum_kind = record { is = λ p t. refl }

pub node_kind : UntypedKind kinds.node
unfolding opens_as
node_kind = record { is = λ p t. refl }

pub struct_kind : UntypedKind kinds.struct
unfolding opens_as
struct_kind = record { is = λ p t. refl }

pub mapping_kind : UntypedKind kinds.mapping
unfolding opens_as
mapping_kind = record { is = λ p t. refl }

-- ---- steps

pub tag_small : {doc : List ℕ} {c : StartTag} {f : Fill} → Ready doc c f → c.at + c.len < 2 ^ 32
tag_small r = omega (arith, r.fits.inside, r.fits.within, r.sound.small)

-- what is left of a step after the attribute is there
abbrev rest : ℕ → (List ℕ → Bool) → Tag → (Shown → Opened Shown) → Shown → Opened Shown
rest number p t f s = valid whole (p s.value) (bare number (ℕ.suc t.at)) (f s)

module _ {doc k : List ℕ} {c : StartTag} {v : Value} {key : ℕ} (number : ℕ) (p : List ℕ → Bool) (h : Steps {V = Unit {0}} doc c (λ u s. Held doc v s) (demanded key k) (Ok tt)) {r : Bool} (i : Tests p doc v r) where
  pub good_there : r ≡ true → Steps {V = Unit {0}} doc c (λ u s. Held doc v s) (tested key k number p) (Ok tt)
  good_there e = λ t z. let s = h t z in (s.0, s.1, λ f. s.2 (rest number p t f) ∙ ap (λ b. valid whole b (bare number (ℕ.suc t.at)) (f s.0)) (sym (i.is s.0 s.1) ∙ e))

  pub good_bad : {x : Refusal} → r ≡ false → x ≡ bare number c.at → (t : Tag) → TagIs doc c t → (f : Shown → Opened Shown) → tested key k number p t f ≡ refuses x
  good_bad e q t z f =
      let s = h t z in
      s.2 (rest number p t f) ∙ ap (λ b. valid whole b (bare number (ℕ.suc t.at)) (f s.0)) (sym (i.is s.0 s.1) ∙ e) ∙ ap refuses (ap (bare number) (sym z.at) ∙ sym q)

-- ---- an access and a direction

-- what is left of an access after the attribute is there
abbrev after : Tag → (ℕ → Opened Shown) → Shown → Opened Shown
after t f a = valid whole (not (eqb (access_of a.value) 0)) (showing 15 t.after (raw_of a)) (f (access_of a.value))

module _ {doc : List ℕ} {c : StartTag} where
  pub access_at : {v : Value} {e : Excerpt} {t : Tag} {s : Shown} (number : ℕ) {x : Refusal} → TagIs doc c t → Held doc v s → e ≡ record { at = v.at; len = v.len } → x ≡ showing number c.end e → showing number t.after (raw_of s) ≡ x
  access_at number z h e q = sym (q ∙ rw (e, z.end, h.at, h.len))

  module _ (d : Steps {V = Unit {0}} doc c (λ u s. Held doc c.values.access s) (demanded 3 (bytes "access")) (Ok tt)) {w : ℕ} (l : Tests access_of doc c.values.access w) where
    pub access_bad : {e : Excerpt} {x : Refusal} → w ≡ 0 → e ≡ record { at = c.values.access.at; len = c.values.access.len } → x ≡ showing 15 c.end e → Accesses doc c (Err x)
    access_bad n e q = record {
      is = λ t z f.
          let s = d t z in
          s.2 (after t f) ∙ rw (sym (l.is s.0 s.1) ∙ n) (ap refuses (access_at 15 z s.1 e q));
    }

    pub access_good : (w ≡ 0 → ⊥) → Accesses doc c (Ok w)
    access_good n = record {
      is = λ t z.
          let s = d t z in
          (access_of s.0.value, l.is s.0 s.1, λ f. s.2 (after t f) ∙ rw (ne_eqb (access_of s.0.value) 0 (λ i. n (l.is s.0 s.1 ∙ i))));
    }

-- ---- rows

-- a name that is there and good
pub named_start : {doc : List ℕ} {c : StartTag} {k p : ℕ} {good : List ℕ → Bool} → NamedKind good k → AtStep doc c k p (tested 1 (bytes "name") 13 good) (λ t z n. opens (row whole t k p (some n) none none 0))
named_start {p = p} i = record { is = λ t z. i.is p t }

module _ {doc : List ℕ} {c : StartTag} {f : Fill} (r : Ready doc c f) {p : ℕ} {h : Head} {rows rows' text text' : List ℕ} {g : Fill} where
  pub untyped_done : {k : ℕ} → UntypedKind k → h ≡ head_of c k p 0 → RowPut doc h c.values.name absent absent f rows rows' text text' g → Opening doc k c p f rows rows' text text' (Ok g)
  untyped_done i e q = opened r r.fits.values.name (absent_fits r) (absent_fits r) e q (λ t z. (attr (bytes "name") t, none, none, i.is p t, z.values.name, refl, refl))

  pub typed_done : {k : ℕ} → TypedKind k → h ≡ head_of c k p 0 → RowPut doc h c.values.name c.values.ty absent f rows rows' text text' g → Opening doc k c p f rows rows' text text' (Ok g)
  typed_done i e q = opened r r.fits.values.name r.fits.values.ty (absent_fits r) e q (λ t z. (attr (bytes "name") t, attr (bytes "type") t, none, i.is p t, z.values.name, z.values.ty, refl))

  pub enumvalue_done : h ≡ head_of c kinds.enumvalue p 0 → RowPut doc h c.values.suffix c.values.value absent f rows rows' text text' g → Opening doc kinds.enumvalue c p f rows rows' text text' (Ok g)
  unfolding opens_as
  enumvalue_done e q = opened r r.fits.values.suffix r.fits.values.value (absent_fits r) e q (λ t z. (attr (bytes "suffix") t, attr (bytes "value") t, none, refl, z.values.suffix, z.values.value, refl))

  pub member_done : h ≡ head_of c kinds.member p 0 → RowPut doc h c.values.name c.values.ty c.values.tp f rows rows' text text' g → Opening doc kinds.member c p f rows rows' text text' (Ok g)
  unfolding opens_as
  member_done e q = opened r r.fits.values.name r.fits.values.ty r.fits.values.tp e q (λ t z. (attr (bytes "name") t, attr (bytes "type") t, tp_type t.attrs, refl, z.values.name, z.values.ty, z.values.tp))

  pub named_done : {k : ℕ} {good : List ℕ → Bool} → NamedKind good k → Steps {V = Unit {0}} doc c (λ u s. Held doc c.values.name s) (tested 1 (bytes "name") 13 good) (Ok tt) → h ≡ head_of c k p 0 → RowPut doc h c.values.name absent absent f rows rows' text text' g → Opening doc k c p f rows rows' text text' (Ok g)
  named_done i d e q = opened r r.fits.values.name (absent_fits r) (absent_fits r) e q (λ t z. (some (d t z).0, none, none, past (named_start i) d t z, (d t z).1, refl, refl))

-- annotation: two attributes
abbrev annotation_with : ℕ → Tag → Shown → Shown → Opened Shown
annotation_with p t n v = opens (row whole t kinds.annotation p (some n) (some v) none 0)

module _ {doc : List ℕ} {c : StartTag} {p : ℕ} where
  pub annotation_start : AtStep doc c kinds.annotation p (demanded 1 (bytes "name")) (λ t z n. demanded 4 (bytes "value") t (annotation_with p t n))
  unfolding opens_as
  annotation_start = record { is = λ t z. refl }

  module _ (d : Steps {V = Unit {0}} doc c (λ u s. Held doc c.values.name s) (demanded 1 (bytes "name")) (Ok tt)) where
    pub annotation_named : AtStep doc c kinds.annotation p (demanded 4 (bytes "value")) (λ t z. annotation_with p t (d t z).0)
    annotation_named = record { is = past annotation_start d }

    pub annotation_done : {f : Fill} {h : Head} {rows rows' text text' : List ℕ} {g : Fill} → Ready doc c f → Steps {V = Unit {0}} doc c (λ u s. Held doc c.values.value s) (demanded 4 (bytes "value")) (Ok tt) → h ≡ head_of c kinds.annotation p 0 → RowPut doc h c.values.name c.values.value absent f rows rows' text text' g → Opening doc kinds.annotation c p f rows rows' text text' (Ok g)
    annotation_done r y e q = opened r r.fits.values.name r.fits.values.value (absent_fits r) e q (λ t z. (some (d t z).0, some (y t z).0, none, past annotation_named y t z, (d t z).1, (y t z).1, refl))

-- property: three steps
abbrev property_with : ℕ → Tag → Shown → Shown → ℕ → Opened Shown
property_with p t n s w = opens (row whole t kinds.property p (some n) (some s) (tp_type t.attrs) w)

module _ {doc : List ℕ} {c : StartTag} {p : ℕ} where
  pub property_start : AtStep doc c kinds.property p (tested 1 (bytes "name") 13 property_name) (λ t z n. tested 2 (bytes "type") 14 signature t (λ s. accessed t (property_with p t n s)))
  unfolding opens_as
  property_start = record { is = λ t z. refl }

  module _ (d : Steps {V = Unit {0}} doc c (λ u s. Held doc c.values.name s) (tested 1 (bytes "name") 13 property_name) (Ok tt)) where
    pub property_named : AtStep doc c kinds.property p (tested 2 (bytes "type") 14 signature) (λ t z s. accessed t (property_with p t (d t z).0 s))
    property_named = record { is = past property_start d }

    module _ (y : Steps {V = Unit {0}} doc c (λ u s. Held doc c.values.ty s) (tested 2 (bytes "type") 14 signature) (Ok tt)) where
      pub property_typed : AtStep doc c kinds.property p accessed (λ t z. property_with p t (d t z).0 (y t z).0)
      property_typed = record { is = past property_named y }

      pub property_done : {f : Fill} {h : Head} {w : ℕ} {rows rows' text text' : List ℕ} {g : Fill} → Ready doc c f → Accesses doc c (Ok w) → h ≡ head_of c kinds.property p 0 → RowPut doc (record { kind = h.kind; parent = h.parent; word = w; at = h.at }) c.values.name c.values.ty c.values.tp f rows rows' text text' g → Opening doc kinds.property c p f rows rows' text text' (Ok g)
      property_done r a = worded r (λ t z. some (d t z).0) (λ t z. some (y t z).0) (λ t z. (d t z).1) (λ t z. (y t z).1) property_typed a.is

-- arg: two steps
abbrev arg_with : ℕ → Tag → Shown → ℕ → Opened Shown
arg_with p t s w = opens (row whole t kinds.arg p (attr (bytes "name") t) (some s) (tp_type t.attrs) w)

module _ {doc : List ℕ} {c : StartTag} {p : ℕ} where
  pub arg_start : AtStep doc c kinds.arg p (tested 2 (bytes "type") 14 signature) (λ t z s. directed whole (attr (bytes "direction") t) t (arg_with p t s))
  unfolding opens_as
  arg_start = record { is = λ t z. refl }

  module _ (y : Steps {V = Unit {0}} doc c (λ u s. Held doc c.values.ty s) (tested 2 (bytes "type") 14 signature) (Ok tt)) where
    pub arg_typed : AtStep doc c kinds.arg p (λ t f. directed whole (attr (bytes "direction") t) t f) (λ t z. arg_with p t (y t z).0)
    arg_typed = record { is = past arg_start y }

    pub arg_done : {f : Fill} {h : Head} {w : ℕ} {rows rows' text text' : List ℕ} {g : Fill} → Ready doc c f → Directs doc c (Ok w) → h ≡ head_of c kinds.arg p 0 → RowPut doc (record { kind = h.kind; parent = h.parent; word = w; at = h.at }) c.values.name c.values.ty c.values.tp f rows rows' text text' g → Opening doc kinds.arg c p f rows rows' text text' (Ok g)
    arg_done r a = worded r (λ t z. attr (bytes "name") t) (λ t z. some (y t z).0) (λ t z. z.values.name) (λ t z. (y t z).1) arg_typed a.is

pub ruleset elements = (tag_small, interface_kind, row_fits, absent_fits, rules)
