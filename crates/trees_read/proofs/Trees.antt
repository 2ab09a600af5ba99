-- A written tree is read as its rows, with no warning.
use Prim.Native.Nat.{ℕ, suc, ◌+◌, ◌≤◌}
use native.Mathlib.Omega.{arith}
use native.Mathlib.Nat.{add-zero}
use mathlib.Core.Path.{◌≡◌, refl, ap, sym, subst, ◌∙◌}
use mathlib.Core.List.{List, [], ◌∷◌, ◌++◌, map, map-append, append-nil, append_assoc}
use mathlib.Core.Option.{Option, none, some}
use mathlib.Core.Bool.{Bool, true, false, not, ◌&&◌}
use borrow.Author.Tests.{eqb-true}
use lib.Dec.{eqb, leb}
use lib.ListN.{length, length-append, length-map, drop}
use Rattle.slices.specs.Bytes.{empty}
use Rattle.document.specs.Kinds as kinds
use Rattle.document.specs.Tokens.{start, close}
use Rattle.document.specs.Elements.{among, may_hold}
use Rattle.document.specs.Reading as reading
use Rattle.document.specs.Reading.{Parts, Frame, parts_reason, closed, too_deep, begun, accepted, step, run}
use Rattle.document.proofs.Runs.{run_accepted}
use Rattle.items.specs.Content as content
use Rattle.items.specs.Written.{Pair, tag, closing_tag, concat, element}
use Rattle.items.proofs.Written.{concat-append}
use Rattle.roundtrip.proofs.Tags.{TagName, Keys, tag_at}
use Rattle.roundtrip.proofs.Held.{keeps, Row, State, marked, table, inside}
use Rattle.roundtrip.proofs.Elements.{name_from, tag_name}
use Rattle.trees.specs.Trees.{Tree, tree, Forest, bare, more, size}
use Rattle.trees.specs.Written.{Element, tag_of, attributes, docstrings, written_tree, written_forest}
use Rattle.trees.specs.Writing.{is_open, is_open_node}
use Rattle.trees_read.proofs.Good.{Fit, Documented, kind_in, open_in, Good, Goods}
use Rattle.trees_read.proofs.Flat.{content_at, doc_at, row_for, flat, flats, length_flat}
use Rattle.trees_read.proofs.Runs.{after, tag_run, close_run, written, documented_last, docstring_run}
use Rattle.trees_read.proofs.Shapes.{Known, held_known, node_in_node}
use Rattle.trees_read.proofs.Entering.{bare_for, framed, no_parts, start_at, Enters, enters, tag_names}
use Rattle.trees_read.proofs.Frames.{plus_if, element_in, parts_after, parts_good, close_framed, docstring_start, start_self, start_open, root_self, root_open}

-- ---- an element around its content

module _ (doc : List ℕ) (at : ℕ) (n : List ℕ) (ps : List Pair) (r : List ℕ) (h : TagName n) (k : Keys [] ps) (l : length ps ≤ 256) (s s0 s1 s2 : State) where
  abbrev body : ℕ
  body = at + length (tag n ps false)

  wrap : (cs : List (List ℕ)) →
      drop at doc ≡ element n ps cs ++ r →
      (cs ≡ [] → step keeps doc s (start (tag_at at n ps true)) ≡ s2) →
      (empty cs ≡ false → step keeps doc s (start (tag_at at n ps false)) ≡ s0) →
      (empty cs ≡ false → (q : List ℕ) → drop body doc ≡ concat cs ++ q → run keeps doc body s0 ≡ run keeps doc (body + length (concat cs)) s1) →
      ((lt q : ℕ) → step keeps doc s1 (close lt n q) ≡ s2) →
      run keeps doc at s ≡ run keeps doc (at + length (element n ps cs)) s2
  wrap [] e a b c d = tag_run doc at n ps true r h k l e s ∙ ap (run keeps doc (at + length (tag n ps true))) (a refl)
  wrap (x ∷ cs) e a b c d =
      let w : List ℕ = concat (x ∷ cs) in
      let e0 : drop at doc ≡ tag n ps false ++ (w ++ (closing_tag n ++ r)) = e ∙ append_assoc (tag n ps false) (w ++ closing_tag n) r ∙ ap (λ y. tag n ps false ++ y) (append_assoc w (closing_tag n) r) in
      let e1 : drop body doc ≡ w ++ (closing_tag n ++ r) = after doc at (tag n ps false) (w ++ (closing_tag n ++ r)) e0 in
      let e2 : drop (body + length w) doc ≡ closing_tag n ++ r = after doc body w (closing_tag n ++ r) e1 in
      let f : body + length w + length (closing_tag n) ≡ at + length (element n ps (x ∷ cs)) = omega (arith, length-append (tag n ps false) (w ++ closing_tag n), length-append w (closing_tag n)) in
      tag_run doc at n ps false (w ++ (closing_tag n ++ r)) h k l e0 s
      ∙ ap (run keeps doc body) (b refl)
      ∙ c refl (closing_tag n ++ r) e1
      ∙ close_run doc (body + length w) n r (tag_name n h) e2 s1
      ∙ ap (run keeps doc (body + length w + length (closing_tag n))) (d (body + length w) (body + length w + length (closing_tag n)))
      ∙ ap (λ p. run keeps doc p s2) f

-- ---- its docstring

abbrev with_doc_at : ℕ → ℕ → Option (List ℕ) → Element → content.Row
with_doc_at p at o e = record { kind = e.kind; parent = p; name = e.name; value = e.value; tp = e.tp; doc = doc_at at o; word = e.word; at = 0 }

doc_run : (doc : List ℕ) (at : ℕ) (r : List ℕ) (o : Option (List ℕ)) (e : Element) → Documented e.kind o → drop at doc ≡ concat (docstrings o) ++ r → (n : reading.Name) (a : ℕ) (q : Parts) (fs : List Frame) (rs : List Row) (p : ℕ) → run keeps doc at (inside (framed e.kind n a (length rs) q ∷ fs) (rs ++ marked (bare_for p e) ∷ []) []) ≡ run keeps doc (at + length (concat (docstrings o))) (inside (framed e.kind n a (length rs) q ∷ fs) (rs ++ marked (with_doc_at p at o e) ∷ []) [])
doc_run doc at r none e h d n a q fs rs p = ap (λ x. run keeps doc x (inside (framed e.kind n a (length rs) q ∷ fs) (rs ++ marked (bare_for p e) ∷ []) [])) (omega arith)
doc_run doc at r (some []) e h d n a q fs rs p = let z = h.2.some in let y : ◌≡◌ {A = ℕ} 0 1 = cc in absurd (omega arith)
doc_run doc at r (some (b ∷ s)) e h d n a q fs rs p =
    let w : List ℕ = written (b ∷ s) in
    let k = e.kind in
    let f : Frame = framed k n a (length rs) q in
    let z : concat (docstrings (some (b ∷ s))) ≡ w = append-nil w in
    docstring_run doc at (length rs) (b ∷ s) r h.2 (d ∙ ap (λ x. x ++ r) z) f fs (rs ++ marked (bare_for p e) ∷ []) (docstring_start doc (among k kinds.definitions) k n a (length rs) q fs (rs ++ marked (bare_for p e) ∷ []) at h.0)
    ∙ ap (λ x. run keeps doc (at + length w) (inside (f ∷ fs) x [])) (documented_last _ rs (marked (bare_for p e)))
    ∙ ap (λ x. run keeps doc (at + length x) (inside (f ∷ fs) (rs ++ marked (with_doc_at p at (some (b ∷ s)) e) ∷ []) [])) (sym z)

-- ---- its content

-- nothing is written in an element
nothing_said : (k : ℕ) (o : Option (List ℕ)) (f : Forest Element) → Documented k o → docstrings o ++ written_forest f ≡ [] → (o ≡ none) × (f ≡ bare)
nothing_said k none bare h e = (refl, refl)
nothing_said k none (more t f) h e = let z : ◌≡◌ {A = ℕ} 0 1 = cc in absurd (omega arith)
nothing_said k (some []) f h e = let z = h.2.some in let y : ◌≡◌ {A = ℕ} 0 1 = cc in absurd (omega arith)
nothing_said k (some (b ∷ s)) f h e = let z : ◌≡◌ {A = ℕ} 0 1 = cc in absurd (omega arith)

something_said : (e : Element) (f : Forest Element) → empty (docstrings e.doc ++ written_forest f) ≡ false → is_open e f ≡ true
something_said e (more t f) h = refl
something_said e bare h = go e.doc h
  where
    go : (o : Option (List ℕ)) → empty (docstrings o ++ []) ≡ false → not (empty (docstrings o)) ≡ true
    go none h = cc
    go (some []) h = cc
    go (some (b ∷ s)) h = refl

-- what stands in an element of kind k leads on
abbrev Leads : List ℕ → ℕ → reading.Name → ℕ → ℕ → List Frame → Forest Element → Type 0
Leads doc k n a i fs f = (at : ℕ) (r : List ℕ) → drop at doc ≡ concat (written_forest f) ++ r → (p : Parts) (rs : List Row) → run keeps doc at (inside (framed k n a i p ∷ fs) rs []) ≡ run keeps doc (at + length (concat (written_forest f))) (inside (framed k n a i (parts_after f p) ∷ fs) (rs ++ map marked (flats (suc i) (length rs) at f)) [])

module _ (doc : List ℕ) (e : Element) (f : Forest Element) (g : Fit e) (h : Known e.kind) (x : Enters e) (whole : parts_reason e.kind (parts_after f no_parts) ≡ 0) (at : ℕ) (gs : List Frame) (rs : List Row) (p : ℕ) where
  abbrev frame : Parts → Frame
  frame q = framed e.kind (name_from at (tag_of e.kind)) at (length rs) q

  abbrev first : List Row
  first = rs ++ marked (bare_for p e) ∷ []

  abbrev all : List Row
  all = rs ++ map marked (flat p (length rs) at (tree e f))

  abbrev said : List (List ℕ)
  said = docstrings e.doc ++ written_forest f

  content-run : Leads doc e.kind (name_from at (tag_of e.kind)) at (length rs) gs f → (q : List ℕ) → drop (content_at at e) doc ≡ concat said ++ q → run keeps doc (content_at at e) (inside (frame no_parts ∷ gs) first []) ≡ run keeps doc (content_at at e + length (concat said)) (inside (frame (parts_after f no_parts) ∷ gs) all [])
  content-run k q d =
      let ds : List ℕ = concat (docstrings e.doc) in
      let ws : List ℕ = concat (written_forest f) in
      let c : concat said ≡ ds ++ ws = concat-append (docstrings e.doc) (written_forest f) in
      let d0 : drop (content_at at e) doc ≡ ds ++ (ws ++ q) = d ∙ ap (λ y. y ++ q) c ∙ append_assoc ds ws q in
      let d1 : drop (content_at at e + length ds) doc ≡ ws ++ q = after doc (content_at at e) ds (ws ++ q) d0 in
      let r : Row = marked (row_for p at e) in
      let l : length (rs ++ r ∷ []) ≡ suc (length rs) = omega (arith, length-append rs (r ∷ [])) in
      let m : content_at at e + length ds + length ws ≡ content_at at e + length (concat said) = omega (arith, ap length c, length-append ds ws) in
      let u : (rs ++ r ∷ []) ++ map marked (flats (suc (length rs)) (length (rs ++ r ∷ [])) (content_at at e + length ds) f) ≡ all = rw (l, append_assoc) in
      doc_run doc (content_at at e) (ws ++ q) e.doc e g.doc d0 (name_from at (tag_of e.kind)) at no_parts gs rs p
      ∙ k (content_at at e + length ds) q d1 no_parts (rs ++ r ∷ [])
      ∙ ap (λ y. run keeps doc (content_at at e + length ds + length ws) (inside (frame (parts_after f no_parts) ∷ gs) y [])) u
      ∙ ap (λ y. run keeps doc y (inside (frame (parts_after f no_parts) ∷ gs) all [])) m

  -- ---- all of it

  bare_rows : said ≡ [] → first ≡ all
  bare_rows n =
      let z = nothing_said e.kind e.doc f g.doc n in
      let y : marked (bare_for p e) ≡ marked (row_for p at e) = ap (λ o. marked (with_doc_at p (content_at at e) o e)) (sym z.0) in
      let w : flats (suc (length rs)) (suc (length rs)) (content_at at e + length (concat (docstrings e.doc))) f ≡ [] = rw z.1 in
      ap (λ (v : Row). rs ++ v ∷ []) y ∙ rw w

  pub element_run : (r : List ℕ) (s : State) →
      drop at doc ≡ written_tree (tree e f) ++ r →
      (said ≡ [] → step keeps doc s (start (start_at at e true)) ≡ closed gs (table first [])) →
      (empty said ≡ false → step keeps doc s (start (start_at at e false)) ≡ inside (frame no_parts ∷ gs) first []) →
      (empty said ≡ false → Leads doc e.kind (name_from at (tag_of e.kind)) at (length rs) gs f) →
      run keeps doc at s ≡ run keeps doc (at + length (written_tree (tree e f))) (closed gs (table all []))
  element_run r s d a b k =
      wrap doc at (tag_of e.kind) (attributes e) r (tag_names h) x.keys x.few s (inside (frame no_parts ∷ gs) first []) (inside (frame (parts_after f no_parts) ∷ gs) all []) (closed gs (table all [])) said d
      (λ n. a n ∙ ap (λ y. closed gs (table y [])) (bare_rows n))
      b
      (λ n q c. content-run (k n) q c)
      (λ lt q. close_framed doc (among e.kind kinds.definitions) e.kind (name_from at (tag_of e.kind)) at (length rs) (parts_after f no_parts) gs all lt q whole)

-- ---- depth

-- where the innermost open element is a node, d nodes are open
abbrev Nodes : ℕ → ℕ → List Frame → Type 0
Nodes k d fs = eqb k kinds.node ≡ true → suc (length fs) ≡ d

module _ (e : Element) (f : Forest Element) (d : ℕ) (o : is_open e f ≡ true) where
  open_node : eqb e.kind kinds.node ≡ true → is_open_node e f ≡ true
  open_node n = rw (n, o)

  -- inside of it
  nodes_inside : (fs : List Frame) → (eqb e.kind kinds.node ≡ true → length fs ≡ d) → Nodes e.kind (open_in d e f) fs
  nodes_inside fs h n = rw (open_node n) (ap suc (h n))

  shallow : (doc : List ℕ) (fs : List Frame) → (is_open_node e f ≡ true → leb 1024 d ≡ false) → (eqb e.kind kinds.node ≡ true → length fs ≡ d) → too_deep keeps doc e.kind fs ≡ false
  shallow doc fs l h = go (eqb e.kind kinds.node) refl
    where
      go : (b : Bool) → eqb e.kind kinds.node ≡ b → (eqb e.kind kinds.node && leb 1024 (length fs)) ≡ false
      go true n = rw (n, h n, l (open_node n))
      go false n = rw n

node_around : (k d : ℕ) (e : Element) (fs : List Frame) → may_hold k e.kind ≡ true → Nodes k d fs → eqb e.kind kinds.node ≡ true → suc (length fs) ≡ d
node_around k d e fs m h n = h (node_in_node k (subst (λ c. may_hold k c ≡ true) (eqb-true e.kind kinds.node n) m))

bare_whole : (e : Element) (f : Forest Element) → Fit e → parts_reason e.kind (parts_after f no_parts) ≡ 0 → docstrings e.doc ++ written_forest f ≡ [] → parts_reason e.kind no_parts ≡ 0
bare_whole e f g h n = subst (λ (y : Forest Element). parts_reason e.kind (parts_after y no_parts) ≡ 0) (nothing_said e.kind e.doc f g.doc n).1 h

regroup : (rs : List Row) (x y : List content.Row) → (rs ++ map marked x) ++ map marked y ≡ rs ++ map marked (x ++ y)
regroup rs x y = simp (map-append, append_assoc)

-- ---- trees

mutual
  pub forest_run : (doc : List ℕ) (f : Forest Element) (d k : ℕ) → Goods d k f → (n : reading.Name) (a i : ℕ) (fs : List Frame) → Nodes k d fs → Leads doc k n a i fs f
  forest_run doc bare d k g n a i fs h at r e p rs = rw (add-zero, append-nil)
  forest_run doc (more t f) d k g n a i fs h at r e p rs =
      let w : List ℕ = written_tree t in
      let v : List ℕ = concat (written_forest f) in
      let own : List content.Row = flat (suc i) (length rs) at t in
      let rs' : List Row = rs ++ map marked own in
      let e0 : drop at doc ≡ w ++ (v ++ r) = e ∙ append_assoc w v r in
      let l : length rs' ≡ length rs + size t = length-append rs (map marked own) ∙ ap (λ m. length rs + m) (length-map own marked ∙ length_flat (suc i) (length rs) at t) in
      let u : rs' ++ map marked (flats (suc i) (length rs') (at + length w) f) ≡ rs ++ map marked (flats (suc i) (length rs) at (more t f)) = rw l (regroup rs own (flats (suc i) (length rs + size t) (at + length w) f)) in
      let m : at + length w + length v ≡ at + length (w ++ v) = omega (arith, length-append w v) in
      let fr : Frame = framed k n a i (parts_after (more t f) p) in
      tree_run_in doc t d k g.0 g.1 n a i fs h at (v ++ r) e0 p rs
      ∙ forest_run doc f d k g.2 n a i fs h (at + length w) r (after doc at w (v ++ r) e0) (plus_if (element_in t) p) rs'
      ∙ ap (λ y. run keeps doc (at + length w + length v) (inside (fr ∷ fs) y [])) u
      ∙ ap (λ y. run keeps doc y (inside (fr ∷ fs) (rs ++ map marked (flats (suc i) (length rs) at (more t f))) [])) m

  pub tree_run_in : (doc : List ℕ) (t : Tree Element) (d k : ℕ) → may_hold k (kind_in t) ≡ true → Good d t → (n : reading.Name) (a i : ℕ) (fs : List Frame) → Nodes k d fs → (at : ℕ) (r : List ℕ) → drop at doc ≡ written_tree t ++ r → (p : Parts) (rs : List Row) → run keeps doc at (inside (framed k n a i p ∷ fs) rs []) ≡ run keeps doc (at + length (written_tree t)) (inside (framed k n a i (plus_if (element_in t) p) ∷ fs) (rs ++ map marked (flat (suc i) (length rs) at t)) [])
  tree_run_in doc (tree e f) d k m g n a i fs h at r c p rs =
      let kn = held_known k e.kind m in
      let x = enters e kn g.0 in
      let w = parts_good e.kind (open_in d e f) f g.4 g.1 in
      let gs : List Frame = framed k n a i (plus_if e p) ∷ fs in
      let dn = node_around k d e fs m h in
      element_run doc e f g.0 kn x w at gs rs (suc i) r (inside (framed k n a i p ∷ fs) rs []) c
      (λ z. start_self doc e kn x at k n a i p fs rs m (bare_whole e f g.0 w z))
      (λ z. start_open doc e kn x at k n a i p fs rs m (shallow e f d (something_said e f z) doc (framed k n a i p ∷ fs) g.3 dn))
      (λ z at' r' c' p' rs'. forest_run doc f (open_in d e f) e.kind g.4 (name_from at (tag_of e.kind)) at (length rs) gs (nodes_inside e f d (something_said e f z) gs dn) at' r' c' p' rs')

-- a written tree is read as its rows
pub tree_run : (t : Tree Element) → kind_in t ≡ kinds.node → Good 0 t → run keeps (written_tree t) 0 begun ≡ accepted (table (map marked (flat 0 0 0 t)) [])
tree_run (tree e f) is g =
    let kn : Known e.kind = subst Known (sym is) Known.node in
    let doc : List ℕ = written_tree (tree e f) in
    let x = enters e kn g.0 in
    let w = parts_good e.kind (open_in 0 e f) f g.4 g.1 in
    element_run doc e f g.0 kn x w 0 [] [] 0 [] begun (sym (append-nil doc))
    (λ z. root_self doc e kn x 0 is (bare_whole e f g.0 w z))
    (λ z. root_open doc e kn x 0 is)
    (λ z. forest_run doc f (open_in 0 e f) e.kind g.4 (name_from 0 (tag_of e.kind)) 0 0 [] (nodes_inside e f 0 (something_said e f z) [] (λ y. refl)))
    ∙ run_accepted keeps doc (0 + length doc) (table (map marked (flat 0 0 0 (tree e f))) [])
