-- The tree of sound rows is good, where their docstrings are and no node is too deep.
use Prim.Native.Nat.{ℕ, zero, suc, ◌+◌, ◌*◌, ◌-◌, ◌≤◌, ◌<◌}
use native.Mathlib.Omega.{arith}
use mathlib.Core.Path.{◌≡◌, refl, sym, ap, ◌∙◌, subst}
use mathlib.Core.List.{List, [], ◌∷◌, map}
use mathlib.Core.Option.{none, some}
use mathlib.Core.Bool.{Bool, true, false, not, ◌&&◌, and-false}
use borrow.Author.Tests.{eqb-true, ne_eqb, not-true}
use lib.Dec.{eqb, leb, ltb}
use lib.ListN.{drop, get_or}
use lib.Seq.{drop-drop}
use Rattle.slices.specs.Bytes.{if}
use Rattle.slices.proofs.Runs.{and_both}
use Rattle.utf8.specs.WellFormed.{well_formed}
use Rattle.names.specs.Signature.{basic_signature}
use Rattle.tables.specs.Triple as triples
use Rattle.tables.specs.declared.Triple.{Triple}
use Rattle.document.specs.Kinds as kinds
use Rattle.document.specs.Elements.{among, may_hold}
use Rattle.items.specs.Words.{RowWords, absent, row_of, rows_of, shown_by}
use Rattle.items.specs.Sound.{Use, name_use, value_use, tp_use, valid_name, valid_value, any_text, kind_at, good_triple, members_of, any_member, keyed, counted, sound, soundness}
use Rattle.items.proofs.Rows.{RowIs, kind_word, row_word, row_parts, row_is_sound, before_it}
use Rattle.items.proofs.Words.{present_shown}
use Rattle.trees.specs.Trees.{Tree, tree, Forest, bare, more, joined, map_tree, map_forest}
use Rattle.trees.specs.Shape.{Link, link_of, links_of, grouped, chosen, forest, shape_at, types, args, members, annotations, nodes}
use Rattle.trees.specs.Written.{Element, element_at, tree_at}
use Rattle.trees.specs.Writing.{is_open_node, too_deep, too_deeps}
use Rattle.trees.proofs.Zipper.{joined_bare}
use Rattle.accepted.proofs.Members.{only_members}
use Rattle.trees_read.proofs.Good.{Good, Goods, Fit, Fitting, Documented, kind_in, of_kinds, any_tree, keyed_in, complete, open_in}
use Rattle.trees_read.proofs.Regrown.{map_grouped}
use Rattle.trees_read.proofs.Shallow.{first-none}

-- whether an element is an open node does not depend on what the trees in it hold
open_map : (e : ℕ → Element) (x : Element) (f : Forest ℕ) → is_open_node x (map_forest e f) ≡ is_open_node x f
open_map e x bare = refl
open_map e x (more t f) = refl

-- ---- kinds

not_both : false ≡ true → ⊥
not_both e = let z : ◌≡◌ {A = ℕ} 0 1 = cc in omega arith

-- no kind of js is one of ks
abbrev pub Apart : List ℕ → List ℕ → Type 0
Apart ks [] = Unit {0}
Apart ks (j ∷ js) = (among j ks ≡ false) × Apart ks js

pub apart : (ks js : List ℕ) → Apart ks js → (k : ℕ) → among k js ≡ true → among k ks ≡ false
apart ks [] a k h = absurd (not_both h)
apart ks (j ∷ js) a k h = go (eqb k j) refl (apart ks js a.1 k) h
  where
    go : (b : Bool) → eqb k j ≡ b → (among k js ≡ true → among k ks ≡ false) → if b true (among k js) ≡ true → among k ks ≡ false
    go true e r h = rw (eqb-true k j e) a.0
    go false e r h = r h

-- all are of some kinds
abbrev Within : List ℕ → Forest Element → Type 0
Within ks bare = Unit {0}
Within ks (more t f) = (among (kind_in t) ks ≡ true) × Within ks f

within_all : (ks : List ℕ) (f : Forest Element) → Within ks f → of_kinds ks f ≡ f
within_all ks bare w = refl
within_all ks (more t f) w = rw w.0 (ap (more t) (within_all ks f w.1))

within_none : (ks js : List ℕ) → Apart ks js → (f : Forest Element) → Within js f → of_kinds ks f ≡ bare
within_none ks js a bare w = refl
within_none ks js a (more t f) w = rw (apart ks js a (kind_in t) w.0) (within_none ks js a f w.1)

kinds_joined : (ks : List ℕ) (f g : Forest Element) → of_kinds ks (joined f g) ≡ joined (of_kinds ks f) (of_kinds ks g)
kinds_joined ks bare g = refl
kinds_joined ks (more t f) g = go (among (kind_in t) ks) (kinds_joined ks f g)
  where
    go : (b : Bool) → of_kinds ks (joined f g) ≡ joined (of_kinds ks f) (of_kinds ks g) → if b (more t (of_kinds ks (joined f g))) (of_kinds ks (joined f g)) ≡ joined (if b (more t (of_kinds ks f)) (of_kinds ks f)) (of_kinds ks g)
    go true e = ap (more t) e
    go false e = e

-- of each group
abbrev Each : (List ℕ → Type 0) → Type 0
Each p = p types × p args × p members × p annotations × p nodes

-- groups, one after another, are arranged
module _ (h : List ℕ → Forest Element) (w : (ks : List ℕ) → Within ks (h ks)) where
  kinds_grouped : (ks : List ℕ) → of_kinds ks (grouped h) ≡ joined (of_kinds ks (h types)) (joined (of_kinds ks (h args)) (joined (of_kinds ks (h members)) (joined (of_kinds ks (h annotations)) (of_kinds ks (h nodes)))))
  kinds_grouped ks = simp kinds_joined

  arranged : grouped (λ ks. of_kinds ks (grouped h)) ≡ grouped h
  arranged =
      let a : of_kinds types (grouped h) ≡ h types =
      kinds_grouped types
      ∙ rw (within_all types (h types) (w types), within_none types args (refl, tt) (h args) (w args), within_none types members (refl, (refl, (refl, (refl, (refl, (refl, tt)))))) (h members) (w members), within_none types annotations (refl, tt) (h annotations) (w annotations), within_none types nodes (refl, tt) (h nodes) (w nodes))
      (joined_bare (h types)) in
      let b : of_kinds args (grouped h) ≡ h args =
      kinds_grouped args
      ∙ rw (within_none args types (refl, (refl, (refl, (refl, tt)))) (h types) (w types), within_all args (h args) (w args), within_none args members (refl, (refl, (refl, (refl, (refl, (refl, tt)))))) (h members) (w members), within_none args annotations (refl, tt) (h annotations) (w annotations), within_none args nodes (refl, tt) (h nodes) (w nodes))
      (joined_bare (h args)) in
      let c : of_kinds members (grouped h) ≡ h members =
      kinds_grouped members
      ∙ rw (within_none members types (refl, (refl, (refl, (refl, tt)))) (h types) (w types), within_none members args (refl, tt) (h args) (w args), within_all members (h members) (w members), within_none members annotations (refl, tt) (h annotations) (w annotations), within_none members nodes (refl, tt) (h nodes) (w nodes))
      (joined_bare (h members)) in
      let d : of_kinds annotations (grouped h) ≡ h annotations =
      kinds_grouped annotations
      ∙ rw (within_none annotations types (refl, (refl, (refl, (refl, tt)))) (h types) (w types), within_none annotations args (refl, tt) (h args) (w args), within_none annotations members (refl, (refl, (refl, (refl, (refl, (refl, tt)))))) (h members) (w members), within_all annotations (h annotations) (w annotations), within_none annotations nodes (refl, tt) (h nodes) (w nodes))
      (joined_bare (h annotations)) in
      let e : of_kinds nodes (grouped h) ≡ h nodes =
      kinds_grouped nodes
      ∙ rw (within_none nodes types (refl, (refl, (refl, (refl, tt)))) (h types) (w types), within_none nodes args (refl, tt) (h args) (w args), within_none nodes members (refl, (refl, (refl, (refl, (refl, (refl, tt)))))) (h members) (w members), within_none nodes annotations (refl, tt) (h annotations) (w annotations), within_all nodes (h nodes) (w nodes)) in
      λ j. joined (a j) (joined (b j) (joined (c j) (joined (d j) (e j))))

-- ---- texts

fitting : (document text : List ℕ) (u : Use) (valid : List ℕ → Bool) (t : Triple) → good_triple document text u valid t ≡ true → Fitting u valid (shown_by document text t)
unfolding good_triple
fitting document text u valid t h = go (absent t) h
  where
    go : (b : Bool) → if b (not u.must) (u.may && triples.inside document text t && well_formed (triples.shown document text t) && valid (triples.shown document text t)) ≡ true → Fitting u valid (if b none (some (triples.shown document text t)))
    go true e = not-true u.must e
    go false e =
        let x = and_both (u.may && triples.inside document text t && well_formed (triples.shown document text t)) (valid (triples.shown document text t)) e in
        let y = and_both (u.may && triples.inside document text t) (well_formed (triples.shown document text t)) x.0 in
        let z = and_both u.may (triples.inside document text t) y.0 in
        (z.0, y.1, x.1)

-- ---- depth

depth_parts : (e : ℕ → Element) (d i : ℕ) (f : Forest ℕ) → too_deep e d (tree i f) ≡ none → (is_open_node (e i) f ≡ true → leb 1024 d ≡ false) × (too_deeps e (if (is_open_node (e i) f) (suc d) d) f ≡ none)
depth_parts e d i f h = go (is_open_node (e i) f) (leb 1024 d) h
  where
    go : (b c : Bool) → if b (if c (some i) (too_deeps e (suc d) f)) (too_deeps e d f) ≡ none → (b ≡ true → c ≡ false) × (too_deeps e (if b (suc d) d) f ≡ none)
    go true true h = let z : ◌≡◌ {A = ℕ} 0 1 = cc in absurd (omega arith)
    go true false h = ((λ x. refl), h)
    go false c h = ((λ x. absurd (not_both x)), h)

deeps_joined : (e : ℕ → Element) (d : ℕ) (f g : Forest ℕ) → too_deeps e d (joined f g) ≡ none → (too_deeps e d f ≡ none) × (too_deeps e d g ≡ none)
deeps_joined e d bare g h = (refl, h)
deeps_joined e d (more t f) g h =
    let a = first-none (too_deep e d t) (too_deeps e d (joined f g)) h in
    let b = deeps_joined e d f g a.1 in
    (rw a.0 b.0, b.1)

deeps_grouped : (e : ℕ → Element) (d : ℕ) (g : List ℕ → Forest ℕ) → too_deeps e d (grouped g) ≡ none → Each (λ ks. too_deeps e d (g ks) ≡ none)
deeps_grouped e d g h =
    let a = deeps_joined e d (g types) (joined (g args) (joined (g members) (joined (g annotations) (g nodes)))) h in
    let b = deeps_joined e d (g args) (joined (g members) (joined (g annotations) (g nodes))) a.1 in
    let c = deeps_joined e d (g members) (joined (g annotations) (g nodes)) b.1 in
    let f = deeps_joined e d (g annotations) (g nodes) c.1 in
    (a.0, b.0, c.0, f.0, f.1)

goods_joined : (d k : ℕ) (f g : Forest Element) → Goods d k f → Goods d k g → Goods d k (joined f g)
goods_joined d k bare g a b = b
goods_joined d k (more t f) g a b = (a.0, a.1, goods_joined d k f g a.2 b)

goods_grouped : (d k : ℕ) (g : List ℕ → Forest Element) → Each (λ ks. Goods d k (g ks)) → Goods d k (grouped g)
goods_grouped d k g h =
    goods_joined d k (g types) (joined (g args) (joined (g members) (joined (g annotations) (g nodes)))) h.0
    (goods_joined d k (g args) (joined (g members) (joined (g annotations) (g nodes))) h.1 (goods_joined d k (g members) (joined (g annotations) (g nodes)) h.2 (goods_joined d k (g annotations) (g nodes) h.3 h.4)))

-- ---- the rows of a table

abbrev row_at : List ℕ → ℕ → RowWords
row_at ws i = row_of (drop (i * 16) ws)

-- the m rows from row k on
abbrev rows_from : List ℕ → ℕ → ℕ → List RowWords
rows_from ws k zero = []
rows_from ws k (suc m) = row_at ws k ∷ rows_from ws (suc k) m

abbrev links_from : List ℕ → ℕ → ℕ → List Link
links_from ws k m = map link_of (rows_from ws k m)

rows_from_row : (m k : ℕ) (ws : List ℕ) → rows_of m (drop (k * 16) ws) ≡ rows_from ws k m
rows_from_row zero k ws = refl
rows_from_row (suc m) k ws =
    let e : k * 16 + 16 ≡ suc k * 16 = omega arith in
    ap (◌∷◌ (row_at ws k)) (ap (rows_of m) (drop-drop 16 (k * 16) ws ∙ ap (λ (j : ℕ). drop j ws) e) ∙ rows_from_row m (suc k) ws)

-- ---- the forests of a table

module _ (ws : List ℕ) (e : ℕ → Element) (same : (i : ℕ) → (e i).kind ≡ (row_at ws i).kind) where
  -- what is chosen is of the kinds
  within_forest : (m k : ℕ) (ks : List ℕ) (p : ℕ) → Within ks (map_forest e (forest ks p k (links_from ws k m)))
  within_forest zero k ks p = tt
  within_forest (suc m) k ks p = go (among (row_at ws k).kind ks) refl (eqb (row_at ws k).parent p) (within_forest m (suc k) ks p)
    where
      rest : Forest ℕ
      rest = forest ks p (suc k) (links_from ws (suc k) m)

      go : (a : Bool) → among (row_at ws k).kind ks ≡ a → (b : Bool) → Within ks (map_forest e rest) → Within ks (map_forest e (chosen (a && b) k (λ gs. forest gs (suc k) (suc k) (links_from ws (suc k) m)) rest))
      go true h true w = (rw (same k) h, w)
      go true h false w = w
      go false h b w = w

-- ---- members

-- a struct or a mapping holds members only
abbrev held_kinds : List ℕ
held_kinds = kinds.struct ∷ kinds.mapping ∷ []

no_others : (d k : ℕ) (ks : List ℕ) (f : Forest Element) → among k held_kinds ≡ true → among kinds.member ks ≡ false → Goods d k f → Within ks f → f ≡ bare
no_others d k ks bare h a g w = refl
no_others d k ks (more t f) h a g w = absurd (not_both (sym a ∙ rw (only_members k (kind_in t) h g.0) at w.0))

members_only : (d k : ℕ) (h : List ℕ → Forest Element) → among k held_kinds ≡ true → Each (λ ks. Goods d k (h ks)) → ((ks : List ℕ) → Within ks (h ks)) → grouped h ≡ h members
members_only d k h o g w =
    rw (no_others d k types (h types) o refl g.0 (w types), no_others d k args (h args) o refl g.1 (w args), no_others d k annotations (h annotations) o refl g.3 (w annotations), no_others d k nodes (h nodes) o refl g.4 (w nodes))
    (joined_bare (h members))

-- the rows of the trees of a forest
abbrev root_of : Tree ℕ → ℕ
root_of (tree i f) = i

abbrev roots_of : List ℕ → Forest ℕ → List RowWords
roots_of ws bare = []
roots_of ws (more t f) = row_at ws (root_of t) ∷ roots_of ws f

roots_any : (document text ws : List ℕ) (f : Forest ℕ) → any_tree (map_forest (element_at document text ws) f) ≡ any_member (roots_of ws f)
roots_any document text ws bare = refl
roots_any document text ws (more t f) = refl

roots_keyed : (document text ws : List ℕ) (f : Forest ℕ) → keyed_in (map_forest (element_at document text ws) f) ≡ keyed document text (roots_of ws f)
roots_keyed document text ws bare = refl
roots_keyed document text ws (more t bare) = refl
roots_keyed document text ws (more (tree i g) (more v bare)) = ap basic_signature (present_shown document text (row_at ws i).value)
roots_keyed document text ws (more t (more v (more u f))) = refl

completed : (document text : List ℕ) (k : ℕ) (f : Forest Element) (ms : List RowWords) → (among k held_kinds ≡ true → (any_tree f ≡ any_member ms) × (keyed_in f ≡ keyed document text ms)) → counted document text k ms ≡ true → complete k f ≡ true
unfolding counted
completed document text k f ms = go (eqb k kinds.struct) (eqb k kinds.mapping)
  where
    go : (a b : Bool) → (if a true (if b true false) ≡ true → (any_tree f ≡ any_member ms) × (keyed_in f ≡ keyed document text ms)) → if a (any_member ms) (if b (keyed document text ms) true) ≡ true → if a (any_tree f) (if b (keyed_in f) true) ≡ true
    go true b h e = (h refl).0 ∙ e
    go false true h e = (h refl).1 ∙ e
    go false false h e = refl

-- ---- sound rows

module _ (document text ws : List ℕ) (n : ℕ) (ok : soundness document text ws n ≡ sound) where
  abbrev shows : ℕ → Element
  shows = element_at document text ws

  is : (i : ℕ) → i < n → RowIs document text (rows_of n ws) i (row_at ws i)
  is i h = row_parts document text (rows_of n ws) i (row_at ws i) (row_is_sound document text ws n ok i h)

  earlier : (i : ℕ) → i < n → (row_at ws i).parent ≤ i
  earlier i h = before_it (rows_of n ws) i (row_at ws i) (is i h).placed

  kind_row : (i : ℕ) → i < n → kind_at (rows_of n ws) i ≡ (row_at ws i).kind
  kind_row i h = let z : i * 16 + 0 ≡ i * 16 = omega arith in kind_word n i ws h ∙ sym (row_word i 0 ws ∙ ap (λ (k : ℕ). get_or ws k 0) z)

  -- a row may stand in its parent
  held : (i j : ℕ) → i < n → j < i → (row_at ws i).parent ≡ suc j → may_hold (row_at ws j).kind (row_at ws i).kind ≡ true
  held zero j h l e = absurd (omega arith)
  held (suc i) j h l e =
      let r = row_at ws (suc i) in
      let z : r.parent - 1 ≡ j = omega arith in
      let p = (and_both (ltb 0 r.parent && leb r.parent (suc i)) (may_hold (kind_at (rows_of n ws) (r.parent - 1)) r.kind) (is (suc i) h).placed).1 in
      ap (λ (k : ℕ). may_hold k r.kind) (sym (ap (kind_at (rows_of n ws)) z ∙ kind_row j (omega arith))) ∙ p

  -- the members of row k come after it
  skip : (g i t k m : ℕ) → i + g ≡ suc k → i + t ≡ n → suc k + m ≡ n → members_of (suc k) (rows_from ws i t) ≡ members_of (suc k) (rows_from ws (suc k) m)
  skip zero i t k m a b c =
      let x : i ≡ suc k = omega arith in
      let y : t ≡ m = omega arith in
      λ j. members_of (suc k) (rows_from ws (x j) (y j))
  skip (suc g) i zero k m a b c = absurd (omega arith)
  skip (suc g) i (suc t) k m a b c =
      rw (ne_eqb (row_at ws i).parent (suc k) (λ z. omega (arith, earlier i (omega arith))), and-false (eqb (row_at ws i).kind kinds.member))
      (skip g (suc i) t k m (omega arith) (omega arith) c)

  -- and they are what stands in it
  member_roots : (m i k : ℕ) → i + m ≡ n → k < i → among (row_at ws k).kind held_kinds ≡ true → roots_of ws (forest members (suc k) i (links_from ws i m)) ≡ members_of (suc k) (rows_from ws i m)
  member_roots zero i k e l o = refl
  member_roots (suc m) i k e l o =
      go (eqb (row_at ws i).parent (suc k)) (among (row_at ws i).kind members) (eqb (row_at ws i).kind kinds.member) is_one (member_roots m (suc i) k (omega arith) (omega arith) o)
    where
      rest : Forest ℕ
      rest = forest members (suc k) (suc i) (links_from ws (suc i) m)

      later : List RowWords
      later = members_of (suc k) (rows_from ws (suc i) m)

      is_one : eqb (row_at ws i).parent (suc k) ≡ true → (among (row_at ws i).kind members ≡ true) × (eqb (row_at ws i).kind kinds.member ≡ true)
      is_one h =
          let z = only_members (row_at ws k).kind (row_at ws i).kind o (held i k (omega arith) l (eqb-true (row_at ws i).parent (suc k) h)) in
          (ap (λ (c : ℕ). among c members) z, ap (λ (c : ℕ). eqb c kinds.member) z)

      go : (b a c : Bool) → (b ≡ true → (a ≡ true) × (c ≡ true)) → roots_of ws rest ≡ later → roots_of ws (chosen (a && b) i (λ gs. forest gs (suc i) (suc i) (links_from ws (suc i) m)) rest) ≡ if (c && b) (row_at ws i ∷ later) later
      go true true true h r = ap (◌∷◌ (row_at ws i)) r
      go true true false h r = absurd (not_both (h refl).1)
      go true false c h r = absurd (not_both (h refl).0)
      go false a c h r = rw (and-false a, and-false c) r

  -- what stands in row k
  abbrev inside : ℕ → ℕ → List ℕ → Forest ℕ
  inside k m ks = forest ks (suc k) (suc k) (links_from ws (suc k) m)

  module _ (documented : (i : ℕ) → i < n → Documented (shows i).kind (shows i).doc) where
    fits : (i : ℕ) → i < n → Fit (shows i)
    fits i h =
        let r = row_at ws i in
        let p = is i h in
        record {
          name = fitting document text (name_use r.kind) (valid_name r.kind) r.name p.name;
          value = fitting document text (value_use r.kind) (valid_value r.kind) r.value p.value;
          tp = fitting document text (tp_use r.kind) any_text r.tp p.tp;
          doc = documented i h;
          word = p.word;
        }

    good_step : (k m d : ℕ) → suc k + m ≡ n → ((ks : List ℕ) (o : ℕ) → too_deeps shows o (inside k m ks) ≡ none → Goods o (row_at ws k).kind (map_forest shows (inside k m ks))) → too_deep shows d (tree k (grouped (inside k m))) ≡ none → Good d (map_tree shows (tree k (grouped (inside k m))))
    good_step k m d l r h = (fits k (omega arith), whole, arranged_all, deep, goods)
      where
        all : Forest Element
        all = map_forest shows (grouped (inside k m))

        each : List ℕ → Forest Element
        each ks = map_forest shows (inside k m ks)

        groups : all ≡ grouped each
        groups = map_grouped shows (inside k m)

        within : (ks : List ℕ) → Within ks (each ks)
        within ks = within_forest ws shows (λ i. refl) m (suc k) ks (suc k)

        arranged_all : grouped (λ ks. of_kinds ks all) ≡ all
        arranged_all = (λ j. grouped (λ ks. of_kinds ks (groups j))) ∙ arranged each within ∙ sym groups

        parts : (is_open_node (shows k) (grouped (inside k m)) ≡ true → leb 1024 d ≡ false) × (too_deeps shows (if (is_open_node (shows k) (grouped (inside k m))) (suc d) d) (grouped (inside k m)) ≡ none)
        parts = depth_parts shows d k (grouped (inside k m)) h

        deep : is_open_node (shows k) all ≡ true → leb 1024 d ≡ false
        deep b = parts.0 (sym (open_map shows (shows k) (grouped (inside k m))) ∙ b)

        o : ℕ
        o = open_in d (shows k) all

        shallow : too_deeps shows o (grouped (inside k m)) ≡ none
        shallow = rw (open_map shows (shows k) (grouped (inside k m))) parts.1

        goods_each : Each (λ ks. Goods o (row_at ws k).kind (each ks))
        goods_each =
            let s = deeps_grouped shows o (inside k m) shallow in
            (r types o s.0, r args o s.1, r members o s.2, r annotations o s.3, r nodes o s.4)

        goods : Goods o (row_at ws k).kind all
        goods = subst (λ f. Goods o (row_at ws k).kind f) (sym groups) (goods_grouped o (row_at ws k).kind each goods_each)

        rows_all : members_of (suc k) (rows_of n ws) ≡ members_of (suc k) (rows_from ws (suc k) m)
        rows_all = ap (members_of (suc k)) (rows_from_row n 0 ws) ∙ skip (suc k) 0 n k m (omega arith) (omega arith) l

        counts : among (row_at ws k).kind held_kinds ≡ true → (any_tree all ≡ any_member (members_of (suc k) (rows_of n ws))) × (keyed_in all ≡ keyed document text (members_of (suc k) (rows_of n ws)))
        counts q =
            let a : all ≡ map_forest shows (inside k m members) = groups ∙ members_only o (row_at ws k).kind each q goods_each within in
            let b : roots_of ws (inside k m members) ≡ members_of (suc k) (rows_of n ws) = member_roots m (suc k) k l (omega arith) q ∙ sym rows_all in
            (ap any_tree a ∙ roots_any document text ws (inside k m members) ∙ ap any_member b, ap keyed_in a ∙ roots_keyed document text ws (inside k m members) ∙ ap (keyed document text) b)

        whole : complete (row_at ws k).kind all ≡ true
        whole = completed document text (row_at ws k).kind all (members_of (suc k) (rows_of n ws)) counts (is k (omega arith)).counted

    -- the rows from row k on that stand in row j
    goods_forest : (m k : ℕ) (ks : List ℕ) (j d : ℕ) → k + m ≡ n → j < k → too_deeps shows d (forest ks (suc j) k (links_from ws k m)) ≡ none → Goods d (row_at ws j).kind (map_forest shows (forest ks (suc j) k (links_from ws k m)))
    goods_forest zero k ks j d e l h = tt
    goods_forest (suc m) k ks j d e l h =
        go (among (row_at ws k).kind ks) (eqb (row_at ws k).parent (suc j)) refl
        (good_step k m d (omega arith) (λ gs o. goods_forest m (suc k) gs k o (omega arith) (omega arith)))
        (goods_forest m (suc k) ks j d (omega arith) (omega arith)) h
      where
        rest : Forest ℕ
        rest = forest ks (suc j) (suc k) (links_from ws (suc k) m)

        own : Tree ℕ
        own = tree k (grouped (inside k m))

        go : (a b : Bool) → eqb (row_at ws k).parent (suc j) ≡ b → (too_deep shows d own ≡ none → Good d (map_tree shows own)) → (too_deeps shows d rest ≡ none → Goods d (row_at ws j).kind (map_forest shows rest)) → too_deeps shows d (chosen (a && b) k (inside k m) rest) ≡ none → Goods d (row_at ws j).kind (map_forest shows (chosen (a && b) k (inside k m) rest))
        go true true p f g h =
            let x = first-none (too_deep shows d own) (too_deeps shows d rest) h in
            (held k j (omega arith) l (eqb-true (row_at ws k).parent (suc j) p), f x.0, g x.1)
        go true false p f g h = g h
        go false b p f g h = g h

-- the tree of row 0 of sound rows
pub sound_good : (document text ws : List ℕ) (n : ℕ) → soundness document text ws n ≡ sound → 0 < n → ((i : ℕ) → i < n → Documented (element_at document text ws i).kind (element_at document text ws i).doc) → too_deep (element_at document text ws) 0 (shape_at ws n 0) ≡ none → Good 0 (tree_at document text ws n 0) × (kind_in (tree_at document text ws n 0) ≡ kinds.node)
unfolding shape_at
sound_good document text ws zero ok h docs deep = absurd (omega arith)
sound_good document text ws (suc m) ok h docs deep =
    let l : links_of m (drop 16 ws) ≡ links_from ws 1 m = ap (map link_of) (rows_from_row m 1 ws) in
    let g = good_step document text ws (suc m) ok docs 0 m 0 (omega arith) (λ gs o. goods_forest document text ws (suc m) ok docs m 1 gs 0 o (omega arith) (omega arith)) in
    (rw l (g (rw l at deep)), eqb-true (get_or ws 0 0) kinds.node (and_both (eqb (get_or ws 0 0) kinds.node) (eqb (get_or ws 1 0) 0) (is document text ws (suc m) ok 0 (omega arith)).placed).0)
