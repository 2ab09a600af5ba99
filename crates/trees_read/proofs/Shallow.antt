-- The tables of a document that is accepted: no node of the tree of row 0 is too deep.
use Prim.Native.Nat.{ℕ, zero, suc, ◌+◌, ◌-◌, ◌<◌}
use mathlib.Core.Path.{◌≡◌, refl, ap, sym, subst, ◌∙◌}
use mathlib.Core.List.{List, [], ◌∷◌, ◌++◌, map, append-nil}
use mathlib.Core.Option.{Option, none, some}
use mathlib.Core.Bool.{Bool, true, false, ◌&&◌}
use mathlib.Core.Logic.{◌⊎◌, inl, inr}
use borrow.Author.Tests.{eqb-true, eqb-false, not-true, lt-leb}
use native.Mathlib.Nat.{add-zero, zero-add}
use native.Mathlib.Omega.{arith}
use lib.Dec.{eqb, leb}
use lib.ListN.{length, drop}
use Rattle.slices.specs.Bytes.{if, empty}
use Rattle.slices.proofs.Runs.{and_both}
use Rattle.document.specs.Kinds as kinds
use Rattle.document.specs.Tags.{Shown}
use Rattle.document.specs.Rows.{Doc, Row, Tables, row_text, words_from, texts}
use Rattle.document.specs.Elements.{among, may_hold}
use Rattle.document.specs.Reading.{accepted}
use Rattle.document.specs.Whole.{Room, read}
use Rattle.document.proofs.Tests.{never, either}
use Rattle.items.specs.Words.{RowWords, docstring_by}
use Rattle.items.specs.View.{over}
use Rattle.accepted.proofs.Folding.{Accepts, meaning_accepts}
use Rattle.accepted.proofs.Entries.{Brief}
use Rattle.accepted.proofs.Frames.{Placed}
use Rattle.accepted.proofs.Triples.{doc_of}
use Rattle.accepted.proofs.Rows.{rows_from, rows_words, row_back}
use Rattle.accepted.proofs.States.{blank, row_at, accepts_holds}
use Rattle.accepted.proofs.Accepted.{read_accepts}
use Rattle.trees.specs.Trees.{tree, Forest, bare, more, joined}
use Rattle.trees.specs.Shape.{Link, link_of, types, args, members, annotations, nodes, grouped, chosen, stands, forest, shape_at}
use Rattle.trees.specs.Written.{Element, docstring, docstrings, element_at}
use Rattle.trees.specs.Writing.{is_open, is_open_node, first, too_deep, too_deeps}
use Rattle.trees_read.proofs.Depths.{Deep, parents, Low, doc_in, accepts_depths}

-- ---- a tree that is not too deep

pub first-none : (p q : Option ℕ) → first p q ≡ none → (p ≡ none) × (q ≡ none)
first-none none q e = (refl, e)
first-none (some p) q e = let z : ◌≡◌ {A = ℕ} 0 1 = cc in absurd (omega arith)

grouped_bare : {A : Type 0} (g : List ℕ → Forest A) → ((ks : List ℕ) → g ks ≡ bare) → grouped g ≡ bare
grouped_bare g h = rw (h types, h args, h members, h annotations, h nodes)

module _ (e : ℕ → Element) where
  joined-none : (d : ℕ) (f g : Forest ℕ) → too_deeps e d f ≡ none → too_deeps e d g ≡ none → too_deeps e d (joined f g) ≡ none
  joined-none d bare g p q = q
  joined-none d (more t f) g p q =
      let z = first-none (too_deep e d t) (too_deeps e d f) p in
      rw z.0 (joined-none d f g z.1 q)

  grouped_none : (d : ℕ) (g : List ℕ → Forest ℕ) → ((ks : List ℕ) → too_deeps e d (g ks) ≡ none) → too_deeps e d (grouped g) ≡ none
  grouped_none d g h =
      joined-none d (g types) _ (h types)
      (joined-none d (g args) _ (h args)
      (joined-none d (g members) _ (h members) (joined-none d (g annotations) _ (h annotations) (h nodes))))

  shut_none : (d : ℕ) (x : Element) (f : Forest ℕ) → is_open x f ≡ false → too_deeps e d f ≡ none
  shut_none d x bare p = refl
  shut_none d x (more t f) p = never (sym p)

  module _ (b : ℕ → Brief) (n : ℕ) (alike : (i : ℕ) → i < n → (e i).kind ≡ (b i).kind) (in-node : (c i : ℕ) → c < n → (b c).parent ≡ suc i → (b c).kind ≡ kinds.node → (b i).kind ≡ kinds.node) (holding : (c r : ℕ) → c < n → (b c).parent ≡ suc r → Low b r) (documented : (r : ℕ) → r < n → empty (docstrings (e r).doc) ≡ false → Low b r) where
    -- the rows from row k on
    abbrev From : ℕ → List Link → Type 0
    From k [] = Unit {0}
    From k (r ∷ rs) = (k < n) × (r.kind ≡ (b k).kind) × (r.parent ≡ (b k).parent) × From (suc k) rs

    -- a row that stands in p, or none
    children : (p k : ℕ) (rs : List Link) → From k rs → ((c : ℕ) × (c < n) × ((b c).parent ≡ p)) ⊎ ((ks : List ℕ) → forest ks p k rs ≡ bare)
    children p k [] m = inr (λ ks. refl)
    children p k (r ∷ rs) m = go (eqb r.parent p) refl (children p (suc k) rs m.3)
      where
        passes : (x : Bool) (i : List ℕ → Forest ℕ) → chosen (x && false) k i bare ≡ bare
        passes true i = refl
        passes false i = refl

        go : (t : Bool) → eqb r.parent p ≡ t → ((c : ℕ) × (c < n) × ((b c).parent ≡ p)) ⊎ ((ks : List ℕ) → forest ks p (suc k) rs ≡ bare) → ((c : ℕ) × (c < n) × ((b c).parent ≡ p)) ⊎ ((ks : List ℕ) → forest ks p k (r ∷ rs) ≡ bare)
        go true q s = inl (k, m.0, sym m.2 ∙ eqb-true r.parent p q)
        go false q (inl c) = inl c
        go false q (inr f) = inr (λ ks. rw (q, f ks) (passes (among r.kind ks) (λ gs. forest gs (suc k) (suc k) rs)))

    -- those that stand in p, if they are nodes, are the d-th but one
    abbrev Stand : ℕ → ℕ → Type 0
    Stand d p = (c : ℕ) → c < n → (b c).parent ≡ p → (b c).kind ≡ kinds.node → Deep (parents b) (suc d) (suc c)

    module _ (k d : ℕ) (rs : List Link) (l : k < n) (m : From (suc k) rs) (deep : (b k).kind ≡ kinds.node → Deep (parents b) (suc d) (suc k)) (each : (ks : List ℕ) (d : ℕ) → Stand d (suc k) → too_deeps e d (forest ks (suc k) (suc k) rs) ≡ none) where
      abbrev inside : Forest ℕ
      inside = grouped (λ ks. forest ks (suc k) (suc k) rs)

      low_few : (b k).kind ≡ kinds.node → Low b k → leb 1024 d ≡ false
      low_few z h = lt-leb 1024 d (h z d (deep z))

      open_few : (b k).kind ≡ kinds.node → is_open (e k) inside ≡ true → leb 1024 d ≡ false
      open_few z o = go (children (suc k) (suc k) rs m)
        where
          go : ((c : ℕ) × (c < n) × ((b c).parent ≡ suc k)) ⊎ ((ks : List ℕ) → forest ks (suc k) (suc k) rs ≡ bare) → leb 1024 d ≡ false
          go (inl c) = low_few z (holding c.0 k c.1 c.2)
          go (inr f) =
              let g : inside ≡ bare = grouped_bare (λ ks. forest ks (suc k) (suc k) rs) f in
              low_few z (documented k l (not-true (empty (docstrings (e k).doc)) (subst (λ h. is_open (e k) h ≡ true) g o)))

      tree_none : too_deep e d (tree k inside) ≡ none
      tree_none = by_kind (eqb (e k).kind kinds.node) refl
        where
          by_kind : (t : Bool) → eqb (e k).kind kinds.node ≡ t → if (t && is_open (e k) inside) (if (leb 1024 d) (some k) (too_deeps e (suc d) inside)) (too_deeps e d inside) ≡ none
          by_kind true q =
              let z : (b k).kind ≡ kinds.node = sym (alike k l) ∙ eqb-true (e k).kind kinds.node q in
              either (λ (o : Option ℕ). o ≡ none) (is_open (e k) inside)
              (λ o. rw (open_few z o)
              (grouped_none (suc d) (λ ks. forest ks (suc k) (suc k) rs)
              (λ ks. each ks (suc d) (λ c j p y. (c, refl, subst (λ w. Deep (parents b) (suc d) w) (sym p) (deep z))))))
              (λ o. shut_none d (e k) inside o)
          by_kind false q =
              grouped_none d (λ ks. forest ks (suc k) (suc k) rs)
              (λ ks. each ks d (λ c j p y. absurd (eqb-false (e k).kind kinds.node q (alike k l ∙ in-node c k j p y))))

    forest_none : (rs : List Link) (ks : List ℕ) (p k d : ℕ) → From k rs → Stand d p → too_deeps e d (forest ks p k rs) ≡ none
    forest_none [] ks p k d m h = refl
    forest_none (r ∷ rs) ks p k d m h =
        go (stands ks p r) refl (λ gs x s. forest_none rs gs (suc k) (suc k) x m.3 s) (forest_none rs ks p (suc k) d m.3 h)
      where
        go : (t : Bool) → stands ks p r ≡ t → ((gs : List ℕ) (x : ℕ) → Stand x (suc k) → too_deeps e x (forest gs (suc k) (suc k) rs) ≡ none) → too_deeps e d (forest ks p (suc k) rs) ≡ none → too_deeps e d (chosen t k (λ gs. forest gs (suc k) (suc k) rs) (forest ks p (suc k) rs)) ≡ none
        go true q i j =
            let z : (b k).parent ≡ p = sym m.2 ∙ eqb-true r.parent p (and_both (among r.kind ks) (eqb r.parent p) q).1 in
            rw (tree_none k d rs m.0 m.3 (λ y. h k m.0 z y) i) j
        go false q i j = j

    root_none : (rs : List Link) → 0 < n → (b 0).parent ≡ 0 → From 1 rs → too_deep e 0 (tree 0 (grouped (λ ks. forest ks 1 1 rs))) ≡ none
    root_none rs l p m = tree_none 0 0 rs l m (λ y. (0, refl, p)) (λ ks d s. forest_none rs ks 1 1 d m s)

-- ---- the tables of a document that is accepted

-- only nodes hold nodes
in_nodes : (k : ℕ) → may_hold k kinds.node ≡ true → k ≡ kinds.node
unfolding may_hold
in_nodes k =
    either P (eqb k kinds.node) (λ c e. eqb-true k kinds.node c)
    (λ c. either P (eqb k kinds.interface) (λ c e. never e)
    (λ c. either P (among k kinds.callables) (λ c e. never e)
    (λ c. either P (among k kinds.values) (λ c e. never e)
    (λ c. either P (eqb k kinds.enum) (λ c e. never e) (λ c. either P (among k (kinds.struct ∷ kinds.mapping ∷ [])) (λ c e. never e) (λ c e. never e))))))
  where
    P : List ℕ → Type 0
    P xs = among kinds.node xs ≡ true → k ≡ kinds.node

placed_in : (ks : ℕ → ℕ) (c i : ℕ) → Placed ks c (ks c) (suc i) → ks c ≡ kinds.node → ks i ≡ kinds.node
placed_in ks zero i h e = absurd (omega (arith, h.1))
placed_in ks (suc c) i h e =
    let z : suc i - 1 ≡ i = omega arith in
    in_nodes (ks i) (subst (λ j. may_hold (ks j) kinds.node ≡ true) z (subst (λ j. may_hold (ks (suc i - 1)) j ≡ true) e h.2))

module _ (doc : List ℕ) (u : Tables Shown) (a : Accepts doc u) (x z : List ℕ) where
  abbrev rs : List (Row Shown)
  rs = u.rows

  abbrev ws : List ℕ
  ws = words_from 0 u.rows ++ z

  pub kind_is : (i : ℕ) → i < length rs → (element_at doc x ws i).kind ≡ (row_at rs i).kind
  unfolding row_at
  kind_is i l = ap (λ (r : RowWords). r.kind) (row_back rs blank z i l).1

  pub doc_is : (i : ℕ) → i < length rs → (element_at doc x ws i).doc ≡ over (docstring doc) (docstring_by (doc_of (doc_in rs i)))
  unfolding doc_in
  doc_is i l = ap (λ (r : RowWords). over (docstring doc) (docstring_by r.doc)) (row_back rs blank z i l).1

  there : (i : ℕ) → i < length rs → empty (docstrings (element_at doc x ws i).doc) ≡ false → Low (row_at rs) i
  there i l e = go (doc_in rs i) refl (rw (doc_is i l) at e)
    where
      go : (o : Option Doc) → doc_in rs i ≡ o → empty (docstrings (over (docstring doc) (docstring_by (doc_of o)))) ≡ false → Low (row_at rs) i
      go none q e = never (sym e)
      go (some d) q e = (accepts_depths doc a).documented i d l q

  standing : (c i : ℕ) → c < length rs → (row_at rs c).parent ≡ suc i → (row_at rs c).kind ≡ kinds.node → (row_at rs i).kind ≡ kinds.node
  standing c i l p k =
      placed_in (λ j. (row_at rs j).kind) c i
      (subst (λ q. Placed (λ j. (row_at rs j).kind) c (row_at rs c).kind q) p ((accepts_holds doc a.sound.utf8 a).fine c l).0) k

  -- the links of the rows from row k on
  links : (m k : ℕ) (ss : List (Row Shown)) → k + length ss ≡ length rs → ((j : ℕ) → row_at rs (k + j) ≡ row_at ss j) → From (element_at doc x ws) (row_at rs) (length rs) kind_is standing (accepts_depths doc a).holding there k (map link_of (rows_from m ss))
  unfolding row_at
  links m k [] e f = tt
  links m k (r ∷ ss) e f =
      let g : row_at rs k ≡ row_at (r ∷ ss) 0 = rw add-zero at (f 0) in (
        omega arith,
        ap (λ (y : Brief). y.kind) (sym g),
        ap (λ (y : Brief). y.parent) (sym g),
        links (m + length (row_text r)) (suc k) ss (omega arith) (λ j. let q : suc k + j ≡ k + suc j = omega arith in rw q (f (suc j))),
      )

  -- the tree of row 0, by the rows
  shape_none : too_deep (element_at doc x ws) 0 (tree 0 (grouped (λ ks. forest ks 1 1 (drop 1 (map link_of (rows_from 0 rs)))))) ≡ none
  shape_none = go rs refl
    where
      after : (ls : List Link) → From (element_at doc x ws) (row_at rs) (length rs) kind_is standing (accepts_depths doc a).holding there 0 ls → From (element_at doc x ws) (row_at rs) (length rs) kind_is standing (accepts_depths doc a).holding there 1 (drop 1 ls)
      after [] h = tt
      after (r ∷ ls) h = h.3

      go : (ss : List (Row Shown)) → rs ≡ ss → too_deep (element_at doc x ws) 0 (tree 0 (grouped (λ ks. forest ks 1 1 (drop 1 (map link_of (rows_from 0 rs)))))) ≡ none
      go [] q =
          subst (λ ss. too_deep (element_at doc x ws) 0 (tree 0 (grouped (λ ks. forest ks 1 1 (drop 1 (map link_of (rows_from 0 ss)))))) ≡ none) (sym q)
          (either (λ (o : Option ℕ). o ≡ none) (is_open_node {A = ℕ} (element_at doc x ws 0) bare) (λ c. refl) (λ c. refl))
      go (r ∷ ss) q =
          let l : 0 < length rs = rw q (omega arith) in
          root_none (element_at doc x ws) (row_at rs) (length rs) kind_is standing (accepts_depths doc a).holding there (drop 1 (map link_of (rows_from 0 rs))) l ((accepts_holds doc a.sound.utf8 a).fine 0 l).0.1
          (after (map link_of (rows_from 0 rs)) (links 0 0 rs (zero-add (length rs)) (λ j. rw zero-add)))

  -- whatever stands after the words
  pub shallow : too_deep (element_at doc x ws) 0 (shape_at ws (length rs) 0) ≡ none
  unfolding shape_at
  shallow = rw (rows_words 0 rs z) shape_none

pub never_deep : (doc : List ℕ) (room : Room) (u : Tables Shown) → read doc room ≡ accepted u → too_deep (element_at doc (texts u.rows) (words_from 0 u.rows)) 0 (shape_at (words_from 0 u.rows) (length u.rows) 0) ≡ none
never_deep doc room u e =
    subst (λ ws. too_deep (element_at doc (texts u.rows) ws) 0 (shape_at ws (length u.rows) 0) ≡ none) (append-nil (words_from 0 u.rows))
    (shallow doc u (meaning_accepts doc u (read_accepts doc room u e)) (texts u.rows) [])
