-- What sound rows show: valid names and signatures, well-formed texts; and so the content of each row.
use Prim.Native.Nat.{ℕ, zero, suc, ◌+◌, ◌*◌}
use native.Mathlib.Omega.{arith}
use mathlib.Core.Path.{◌≡◌, refl, ap, sym, ◌∙◌}
use mathlib.Core.List.{List, [], ◌∷◌, ◌++◌, map}
use mathlib.Core.Option.{Option, none, some}
use mathlib.Core.Bool.{Bool, true, false, not, ◌&&◌}
use borrow.Author.Tests.{eqb-true}
use lib.Dec.{eqb}
use lib.ListN.{length, drop}
use lib.Seq.{drop-drop}
use Rattle.slices.specs.Bytes.{if}
use Rattle.utf8.specs.WellFormed.{ill_formed, well_formed}
use Rattle.utf8.proofs.Texts.{formed, none_whole}
use Rattle.names.specs.Names.{member_name}
use Rattle.names.specs.Signature.{signature}
use Rattle.slices.proofs.Runs.{and_both}
use Rattle.tables.specs.Triple as triples
use Rattle.tables.specs.declared.Triple.{Triple}
use Rattle.document.specs.Kinds as kinds
use Rattle.document.specs.Elements.{among, may_hold}
use Rattle.items.specs.Words.{RowWords, absent, row_of, rows_of, shown_by, viewed, rows_shown, is_child}
use Rattle.items.specs.Sound.{Use, name_use, value_use, valid_name, valid_value, kind_at, good_triple, sound_row, sound, soundness}
use Rattle.items.specs.Written.{Arg, Item, annotated, argument, method, signal}
use Rattle.items.specs.Content.{Row, present, annotation_of, annotations, arg_of, args, member_of, item_of, first_item, content, content_at}
use Rattle.items.proofs.Rows.{row_parts, row_is_sound}
use Rattle.roundtrip.specs.Items.{note_values, name_values, arg_values, args_values, member_values, values}
use Rattle.roundtrip.proofs.Items.{Signed, Good, kind}

-- ---- what a sound row shows

abbrev pub Formed : List ℕ → Type 0
Formed s = ill_formed s ≡ length s

module _ (document text : List ℕ) (u : Use) (valid : List ℕ → Bool) (t : Triple) (h : good_triple document text u valid t ≡ true) where
  good_formed : Formed (present (shown_by document text t))
  unfolding good_triple
  good_formed = go (absent t) h
    where
      go : (b : Bool) → if b (not u.must) (u.may && triples.inside document text t && well_formed (triples.shown document text t) && valid (triples.shown document text t)) ≡ true → Formed (present (if b none (some (triples.shown document text t))))
      go true e = formed none_whole
      go false e =
          let x = and_both (u.may && triples.inside document text t && well_formed (triples.shown document text t)) (valid (triples.shown document text t)) e in
          eqb-true _ _ (and_both (u.may && triples.inside document text t) (well_formed (triples.shown document text t)) x.0).1

  good_valid : u.must ≡ true → valid (present (shown_by document text t)) ≡ true
  unfolding good_triple
  good_valid m = go (absent t) h
    where
      go : (b : Bool) → if b (not u.must) (u.may && triples.inside document text t && well_formed (triples.shown document text t) && valid (triples.shown document text t)) ≡ true → valid (present (if b none (some (triples.shown document text t)))) ≡ true
      go true e = let z : true ≡ false = sym (rw m at e) in cc
      go false e = (and_both (u.may && triples.inside document text t && well_formed (triples.shown document text t)) (valid (triples.shown document text t)) e).1

-- names and values are well-formed; a method's and a signal's name is valid, an arg's signature too
record Fine (r : Row) : Type 0 where
  name : Formed (present r.name)
  value : Formed (present r.value)
  method_named : r.kind ≡ kinds.method → member_name (present r.name) ≡ true
  signal_named : r.kind ≡ kinds.signal → member_name (present r.name) ≡ true
  signed : r.kind ≡ kinds.arg → signature (present r.value) ≡ true

abbrev AllFine : List Row → Type 0
AllFine [] = Unit {0}
AllFine (r ∷ rs) = Fine r × AllFine rs

fine : (document text : List ℕ) (rows : List RowWords) (i : ℕ) (r : RowWords) → sound_row document text rows i r ≡ true → Fine (viewed document text r)
fine document text rows i r h =
    let k = r.kind in
    let p = row_parts document text rows i r h in
    record {
      name = good_formed document text (name_use k) (valid_name k) r.name p.name;
      value = good_formed document text (value_use k) (valid_value k) r.value p.value;
      method_named = λ q. good_valid document text (name_use kinds.method) (valid_name kinds.method) r.name (rw q at p.name) refl;
      signal_named = λ q. good_valid document text (name_use kinds.signal) (valid_name kinds.signal) r.name (rw q at p.name) refl;
      signed = λ q. good_valid document text (value_use kinds.arg) (valid_value kinds.arg) r.value (rw q at p.value) refl;
    }

-- the m rows from row i on, up to row n
all_fine : (document text ws : List ℕ) (n : ℕ) → soundness document text ws n ≡ sound → (m i : ℕ) → i + m ≡ n → AllFine (rows_shown document text (drop (i * 16) ws) m)
all_fine document text ws n e zero i l = tt
all_fine document text ws n e (suc m) i l =
    let k : i * 16 + 16 ≡ suc i * 16 = omega arith in (
      fine document text (rows_of n ws) i (row_of (drop (i * 16) ws)) (row_is_sound document text ws n e i (omega arith)),
      rw (drop-drop 16 (i * 16) ws, k) (all_fine document text ws n e m (suc i) (omega arith)),
    )

-- ---- the content of a row

abbrev pub AllFormed : List (List ℕ) → Type 0
AllFormed [] = Unit {0}
AllFormed (v ∷ vs) = Formed v × AllFormed vs

formed_append : (xs ys : List (List ℕ)) → AllFormed xs → AllFormed ys → AllFormed (xs ++ ys)
formed_append [] ys h k = k
formed_append (x ∷ xs) ys h k = (h.0, formed_append xs ys h.1 k)

name_formed : (o : Option (List ℕ)) → Formed (present o) → AllFormed (name_values o)
name_formed none h = tt
name_formed (some n) h = (h, tt)

annotations_formed : (p : ℕ) (rs : List Row) → AllFine rs → AllFormed (note_values (annotations p rs))
annotations_formed p [] h = tt
annotations_formed p (r ∷ rs) h = go (is_child kinds.annotation p r.kind r.parent) (annotations_formed p rs h.1)
  where
    go : (b : Bool) → AllFormed (note_values (annotations p rs)) → AllFormed (note_values (if b (annotation_of r ∷ annotations p rs) (annotations p rs)))
    go true k = (h.0.name, (h.0.value, k))
    go false k = k

module _ (t : List Row) (all : AllFine t) where
  arg_formed : (i : ℕ) (r : Row) → Fine r → AllFormed (arg_values (arg_of t i r))
  arg_formed i r f =
      formed_append (name_values r.name) (present r.value ∷ note_values (annotations (suc i) t)) (name_formed r.name f.name) (f.value, annotations_formed (suc i) t all)

  args_formed : (p i : ℕ) (rs : List Row) → AllFine rs → AllFormed (args_values (args t p i rs)) × Signed (args t p i rs)
  args_formed p i [] h = (tt, tt)
  args_formed p i (r ∷ rs) h = go (eqb r.kind kinds.arg) refl (eqb r.parent p) (args_formed p (suc i) rs h.1)
    where
      rest : List Arg
      rest = args t p (suc i) rs

      go : (a : Bool) → eqb r.kind kinds.arg ≡ a → (b : Bool) → AllFormed (args_values rest) × Signed rest → AllFormed (args_values (if (a && b) (arg_of t i r ∷ rest) rest)) × Signed (if (a && b) (arg_of t i r ∷ rest) rest)
      go true e true k = (
        formed_append (arg_values (arg_of t i r)) (args_values rest) (arg_formed i r h.0) k.0,
        (h.0.signed (eqb-true r.kind kinds.arg e), k.1),
      )
      go true e false k = k
      go false e b k = k

  -- a member's content
  member_formed : (i : ℕ) (r : Row) → Fine r → AllFormed (member_values (member_of t i r))
  member_formed i r f =
      (f.name, formed_append (args_values (args t (suc i) 0 t)) (note_values (annotations (suc i) t)) (args_formed (suc i) 0 t all).0 (annotations_formed (suc i) t all))

  item_good : (i : ℕ) (r : Row) → Fine r → (c : Item) → item_of t i r ≡ some c → Good c × AllFormed (values c)
  item_good i r f c = go (eqb r.kind kinds.method) refl (eqb r.kind kinds.signal) refl (eqb r.kind kinds.annotation) (eqb r.kind kinds.arg) refl
    where
      m : Item
      m = method (member_of t i r)

      s : Item
      s = signal (member_of t i r)

      a : Item
      a = annotated (annotation_of r)

      g : Item
      g = argument (arg_of t i r)

      is : (d : Item) → Good d × AllFormed (values d) → some d ≡ some c → Good c × AllFormed (values c)
      is d k e = let q : d ≡ c = cc in rw q at k

      go : (x : Bool) → eqb r.kind kinds.method ≡ x → (y : Bool) → eqb r.kind kinds.signal ≡ y → (z w : Bool) → eqb r.kind kinds.arg ≡ w → if x (some m) (if y (some s) (if z (some a) (if w (some g) none))) ≡ some c → Good c × AllFormed (values c)
      go true e y _ z w _ = is m ((f.method_named (eqb-true r.kind kinds.method e), (args_formed (suc i) 0 t all).1), member_formed i r f)
      go false _ true e z w _ = is s ((f.signal_named (eqb-true r.kind kinds.signal e), (args_formed (suc i) 0 t all).1), member_formed i r f)
      go false _ false _ true w _ = is a (tt, (f.name, (f.value, tt)))
      go false _ false _ false true e = is g (f.signed (eqb-true r.kind kinds.arg e), arg_formed i r f)
      go false _ false _ false false e = λ q. let z : ◌≡◌ {A = ℕ} 0 1 = cc in absurd (omega arith)

  first_good : (i : ℕ) (rs : List Row) → AllFine rs → (c : Item) → first_item t i rs ≡ some c → Good c × AllFormed (values c)
  first_good i [] h c e = let z : ◌≡◌ {A = ℕ} 0 1 = cc in absurd (omega arith)
  first_good i (r ∷ rs) h c e = item_good i r h.0 c e

fine_drop : (i : ℕ) (rs : List Row) → AllFine rs → AllFine (drop i rs)
fine_drop zero rs h = h
fine_drop (suc i) [] h = tt
fine_drop (suc i) (r ∷ rs) h = fine_drop i rs h.1

-- what sound rows hold is what a reader takes, and its texts are well-formed
pub content_good : (document text ws : List ℕ) (n i : ℕ) (c : Item) → soundness document text ws n ≡ sound → content_at document text ws n i ≡ some c → Good c × AllFormed (values c)
unfolding content
content_good document text ws n i c e h =
    let t = rows_shown document text ws n in
    let all : AllFine t = all_fine document text ws n e n 0 (omega arith) in
    first_good t all i (drop i t) (fine_drop i t all) c h

-- ---- there is such a row

module _ (v : RowWords → Row) (same_kind : (r : RowWords) → (v r).kind ≡ r.kind) where
  row_there : (ks : List ℕ) → among 0 ks ≡ false → (rs : List RowWords) (i : ℕ) → among (kind_at rs i) ks ≡ true → (r : Row) × (rest : List Row) × (drop i (map v rs) ≡ r ∷ rest) × (among r.kind ks ≡ true)
  row_there ks z [] i h = absurd (no_row (sym z ∙ h))
    where
      no_row : false ≡ true → ⊥
      no_row e = let y : ◌≡◌ {A = ℕ} 0 1 = cc in omega arith
  row_there ks z (r ∷ rs) zero h = (v r, map v rs, refl, rw (same_kind r) h)
  row_there ks z (r ∷ rs) (suc i) h = row_there ks z rs i h

there : (t : List Row) (i : ℕ) (r : Row) → among r.kind (kinds.method ∷ kinds.signal ∷ kinds.annotation ∷ []) ≡ true → (c : Item) × (item_of t i r ≡ some c) × (may_hold kinds.interface (kind c) ≡ true)
there t i r = go (eqb r.kind kinds.method) (eqb r.kind kinds.signal) (eqb r.kind kinds.annotation)
  where
    last : Option Item
    last = if (eqb r.kind kinds.arg) (some (argument (arg_of t i r))) none

    go : (x y z : Bool) → if x true (if y true (if z true false)) ≡ true → (c : Item) × (if x (some (method (member_of t i r))) (if y (some (signal (member_of t i r))) (if z (some (annotated (annotation_of r))) last)) ≡ some c) × (may_hold kinds.interface (kind c) ≡ true)
    go true y z h = (method (member_of t i r), refl, unfold may_hold in refl)
    go false true z h = (signal (member_of t i r), refl, unfold may_hold in refl)
    go false false true h = (annotated (annotation_of r), refl, unfold may_hold in refl)
    go false false false h = let z : ◌≡◌ {A = ℕ} 0 1 = cc in absurd (omega arith)

-- a method, a signal or an annotation has content that may stand in an interface
pub content_there : (document text ws : List ℕ) (n i : ℕ) → among (kind_at (rows_of n ws) i) (kinds.method ∷ kinds.signal ∷ kinds.annotation ∷ []) ≡ true → (c : Item) × (content_at document text ws n i ≡ some c) × (may_hold kinds.interface (kind c) ≡ true)
unfolding content
content_there document text ws n i h =
    let t = rows_shown document text ws n in
    let r = row_there (viewed document text) (λ r. refl) (kinds.method ∷ kinds.signal ∷ kinds.annotation ∷ []) refl (rows_of n ws) i h in
    let x = there t i r.0 r.3 in
    (x.0, ap (first_item t i) r.2 ∙ x.1, x.2)
