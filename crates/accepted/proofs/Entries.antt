-- The row of a start tag: what of it is sound at once, and what once its definition is complete.
use Prim.Native.Nat.{ℕ}
use mathlib.Core.Path.{◌≡◌, refl, sym}
use mathlib.Core.List.{List}
use mathlib.Core.Option.{Option, none, some}
use mathlib.Core.Bool.{Bool, true, false, not, ◌&&◌}
use lib.Dec.{eqb, leb, ltb}
use Rattle.slices.specs.Bytes.{if, bytes, same}
use Rattle.names.specs.Names.{interface_name, member_name, property_name}
use Rattle.names.specs.Signature.{signature}
use Rattle.slices.proofs.Runs.{and_both}
use Rattle.document.specs.Kinds as kinds
use Rattle.document.specs.Tags.{Shown, tp_type}
use Rattle.document.specs.Tokens.{Tag}
use Rattle.document.specs.Rows.{Row}
use Rattle.document.specs.Elements.{attr, among, access_of, direction_of, some_signature, Opened, opens, refuses, kept, row, opens_as}
use Rattle.document.specs.Reading.{tag_reason, type_reason, is_there, is_some, complete}
use Rattle.document.specs.Outcome.{whole}
use Rattle.document.proofs.Opens.{named_kinds, opens_way}
use Rattle.items.specs.Sound.{Use, optional, name_use, value_use, tp_use, valid_name, valid_value, any_text, valid_word}
use Rattle.items.specs.Sound as items
use Rattle.document.proofs.Tests.{either, never, among_each}
use Rattle.document.specs.Kinds.{definitions, parts}
use Rattle.accepted.proofs.Holding.{every_kind}

-- a value is absent where it may be, or it is used and valid
abbrev pub GoodIn : Use → (List ℕ → Bool) → Option Shown → Type 0
GoodIn u valid none = not u.must ≡ true
GoodIn u valid (some s) = (u.may ≡ true) × (valid s.value ≡ true)

-- a row but for its docstring
pub record Brief : Type 0 where
  pub kind : ℕ
  pub parent : ℕ
  pub name : Option Shown
  pub value : Option Shown
  pub tp : Option Shown
  pub word : ℕ
  pub at : ℕ

abbrev pub brief : Row Shown → Brief
brief r = record { kind = r.kind; parent = r.parent; name = r.name; value = r.value; tp = r.tp; word = r.word; at = r.at }

-- its name and value are sound
abbrev pub Complete : Brief → Type 0
Complete b = GoodIn (name_use b.kind) (valid_name b.kind) b.name × GoodIn (value_use b.kind) (valid_value b.kind) b.value

-- what its tag must have for that
abbrev pub due : ℕ → Tag → Bool
due k t =
    if (among k definitions) (eqb (tag_reason k (attr (bytes "name") t) (attr (bytes "type") t)) 0)
    (if (among k parts) (complete k t) true)

-- the row of an element of kind k; p is the parent's row plus one
pub record Entry (k p : ℕ) (t : Tag) (r : Row Shown) : Type 0 where
  pub kind : r.kind ≡ k
  pub parent : r.parent ≡ p
  pub at : r.at ≡ t.at
  pub doc : r.doc ≡ none
  pub tp : GoodIn (tp_use k) any_text r.tp
  pub word : valid_word k r.word ≡ true
  pub full : due k t ≡ true → Complete (brief r)

abbrev pub Opens : ℕ → ℕ → Tag → Opened Shown → Type 0
Opens k p t (opens r) = Entry k p t r
Opens k p t (refuses x) = Unit {0}

-- ---- values that are there or not

may_be : (v : List ℕ → Bool) (o : Option Shown) → ((s : List ℕ) → v s ≡ true) → GoodIn optional v (kept whole o)
may_be v none h = refl
may_be v (some s) h = (refl, h s.value)

there : (o : Option Shown) → is_there o ≡ true → GoodIn items.required any_text (kept whole o)
there none e = never e
there (some s) e = (refl, refl)

some_there : (v : List ℕ → Bool) (o : Option Shown) → is_some v o ≡ true → GoodIn items.required v (kept whole o)
some_there v none e = never e
some_there v (some s) e = (refl, e)

type_good : (o : Option Shown) → eqb (type_reason o) 0 ≡ true → GoodIn items.required some_signature (kept whole o)
type_good none e = never e
type_good (some s) e = (refl, go (some_signature s.value) e)
  where
    go : (b : Bool) → eqb (if b 0 4) 0 ≡ true → b ≡ true
    go true e = refl
    go false e = never e

-- ---- words

access_word : (s : List ℕ) → not (eqb (access_of s) 0) ≡ true → (ltb 0 (access_of s) && leb (access_of s) 3) ≡ true
access_word s =
    either Q (same s (bytes "read")) (λ c e. refl)
    (λ c. either Q (same s (bytes "write")) (λ c e. refl) (λ c. either Q (same s (bytes "readwrite")) (λ c e. refl) (λ c e. e)))
  where
    Q : ℕ → Type 0
    Q w = not (eqb w 0) ≡ true → (ltb 0 w && leb w 3) ≡ true

direction_word : (s : List ℕ) → leb (direction_of s) 2 ≡ true
direction_word s = either Q (same s (bytes "in")) (λ c. refl) (λ c. either Q (same s (bytes "out")) (λ c. refl) (λ c. refl))
  where
    Q : ℕ → Type 0
    Q w = leb w 2 ≡ true

-- ---- each kind

-- a definition with a type, and one without
typed_full : (k : ℕ) (n ty : Option Shown) → among k kinds.typed ≡ true → eqb (tag_reason k n ty) 0 ≡ true → GoodIn items.required any_text (kept whole n) × GoodIn items.required some_signature (kept whole ty)
typed_full k none ty c e = never e
typed_full k (some n) ty c e = ((refl, refl), type_good ty (rw c at e))

untyped_full : (k : ℕ) (n ty : Option Shown) → eqb (tag_reason k n ty) 0 ≡ true → GoodIn items.required any_text (kept whole n)
untyped_full k none ty e = never e
untyped_full k (some n) ty e = (refl, refl)

module _ (p : ℕ) (t : Tag) where
  -- a row with no tp type, and no word
  plain : {k : ℕ} (n v : Option Shown) → GoodIn (tp_use k) any_text none → valid_word k 0 ≡ true → (due k t ≡ true → Complete (brief (row whole t k p n v none 0))) → Entry k p t (row whole t k p n v none 0)
  plain n v a b f = record { kind = refl; parent = refl; at = refl; doc = refl; tp = a; word = b; full = f }

  definition_opens : (k : ℕ) → among k every_kind ≡ true → among k named_kinds ≡ false → Entry k p t (row whole t k p (attr (bytes "name") t) none none 0)
  definition_opens k e =
      among_each (λ j. among j named_kinds ≡ false → Entry j p t (row whole t j p (attr (bytes "name") t) none none 0)) k every_kind e (
        no,
        (
          no,
          (
            no,
            (
              no,
              (
                no,
                (
                  no,
                  (
                    no,
                    (
                      no,
                      (
                        no,
                        (
                          no,
                          (
                            (λ c. plain (attr (bytes "name") t) none refl refl (λ d. (untyped_full kinds.struct (attr (bytes "name") t) (attr (bytes "type") t) d, refl))),
                            (no, ((λ c. plain (attr (bytes "name") t) none refl refl (λ d. (untyped_full kinds.mapping (attr (bytes "name") t) (attr (bytes "type") t) d, refl))), tt)),
                          ),
                        ),
                      ),
                    ),
                  ),
                ),
              ),
            ),
          ),
        ),
      )
    where
      no : {X : Type 0} → true ≡ false → X
      no e = never (sym e)

  pub start_opens : (k : ℕ) → among k every_kind ≡ true → Opens k p t (opens_as whole k p t)
  start_opens k e =
      opens_way whole whole p t (λ k o o'. among k every_kind ≡ true → Opens k p t o) (record {
        refusal = λ k x r e. tt;
        node = λ e. plain name none refl refl (λ d. (may_be (valid_name kinds.node) name (λ s. refl), refl));
        interface = λ c e. plain name none refl refl (λ d. (some_there interface_name name c, refl));
        method = λ c e. plain name none refl refl (λ d. (some_there member_name name c, refl));
        property = λ c d a h e. record {
          kind = refl;
          parent = refl;
          at = refl;
          doc = refl;
          tp = may_be any_text (tp_type t.attrs) (λ s. refl);
          word = access_word a h;
          full = λ f. (some_there property_name name c, some_there signature ty d);
        };
        signal = λ c e. plain name none refl refl (λ d. (some_there member_name name c, refl));
        annotation = λ c d e. plain name value refl refl (λ f. (there name c, there value d));
        arg = λ c d e. record {
          kind = refl;
          parent = refl;
          at = refl;
          doc = refl;
          tp = may_be any_text (tp_type t.attrs) (λ s. refl);
          word = direction_word d;
          full = λ f. (may_be (valid_name kinds.arg) name (λ s. refl), some_there signature ty c);
        };
        typed = λ k c e.
            among_each (λ j. Entry j p t (row whole t j p name ty none 0)) k kinds.typed c
            (plain name ty refl refl (λ d. typed_full kinds.simple_type name ty refl d), (plain name ty refl refl (λ d. typed_full kinds.enum name ty refl d), tt));
        enumvalue = λ e. plain (attr (bytes "suffix") t) value refl refl λ d.
            let f = and_both (is_there (attr (bytes "suffix") t)) (is_there value) d in
            (there (attr (bytes "suffix") t) f.0, there value f.1);
        member = λ e. record {
          kind = refl;
          parent = refl;
          at = refl;
          doc = refl;
          tp = may_be any_text (tp_type t.attrs) (λ s. refl);
          word = refl;
          full = λ d. let f = and_both (is_there name) (is_some some_signature ty) d in (there name f.0, some_there some_signature ty f.1);
        };
        other = λ k c e. definition_opens k e c;
      }) k e
    where
      name : Option Shown
      name = attr (bytes "name") t

      ty : Option Shown
      ty = attr (bytes "type") t

      value : Option Shown
      value = attr (bytes "value") t
