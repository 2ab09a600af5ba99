-- The rows that a written tree is read as give the tree again.
use Prim.Native.Nat.{ℕ, zero, suc, ◌+◌, ◌*◌, ◌≤◌}
use native.Mathlib.Omega.{arith}
use mathlib.Core.Path.{◌≡◌, refl, sym, ap, ◌∙◌}
use mathlib.Core.List.{List, [], ◌∷◌, ◌++◌, map, map-append, append_assoc, append-nil}
use mathlib.Core.Option.{Option, none, some}
use mathlib.Core.Bool.{Bool, true, false, ◌&&◌, and-true, and-false}
use borrow.Author.Tests.{eq-eqb, ne_eqb}
use lib.Dec.{eqb}
use lib.ListN.{length, take, drop, length-append}
use lib.Seq.{drop-drop, drop-nil, drop_at, take-append_seam}
use Rattle.slices.specs.Bytes.{if, empty}
use Rattle.document.specs.Elements.{among}
use Rattle.items.specs.Words.{row_of, viewed, rows_shown, shown_row}
use Rattle.items.specs.View.{over}
use Rattle.items.specs.Content.{Row}
use Rattle.items.specs.Written.{Pair, tag, closing_tag, concat, element}
use Rattle.items.proofs.Written.{concat-append}
use Rattle.trees.specs.Trees.{Tree, tree, Forest, bare, more, joined, map_tree, map_forest, size, sizes}
use Rattle.trees.specs.Shape.{Link, link_of, links_of, grouped, chosen, forest, under, shape_at, types, args, members, annotations, nodes}
use Rattle.trees.specs.Written.{Element, element_of, element_at, docstring, tree_at, tag_of, attributes, doc_tag, docstrings, written_tree, written_forest}
use Rattle.trees.proofs.Opening.{element_some}
use Rattle.trees.proofs.Zipper.{joined_bare}
use Rattle.trees_read.proofs.Good.{Good, Goods, Fit, Documented, kind_in, of_kinds, any_tree, open_in}
use Rattle.trees_read.proofs.Flat.{content_at, doc_at, row_for, flat, flats, length_flat}

-- ---- forests

pub map_joined : {A B : Type 0} (g : A → B) (a b : Forest A) → map_forest g (joined a b) ≡ joined (map_forest g a) (map_forest g b)
map_joined g bare b = refl
map_joined g (more t a) b = ap (more (map_tree g t)) (map_joined g a b)

pub map_grouped : {A B : Type 0} (g : A → B) (h : List ℕ → Forest A) → map_forest g (grouped h) ≡ grouped (λ ks. map_forest g (h ks))
map_grouped g h =
    map_joined g (h types) (joined (h args) (joined (h members) (joined (h annotations) (h nodes))))
    ∙ ap (joined (map_forest g (h types)))
    (map_joined g (h args) (joined (h members) (joined (h annotations) (h nodes)))
    ∙ ap (joined (map_forest g (h args))) (map_joined g (h members) (joined (h annotations) (h nodes)) ∙ ap (joined (map_forest g (h members))) (map_joined g (h annotations) (h nodes))))

-- ---- the links of a tree's rows

-- no row has a parent from lo to hi, each plus one
abbrev Clear : ℕ → ℕ → List Link → Type 0
Clear lo hi [] = Unit {0}
Clear lo hi (r ∷ rs) = (lo ≤ r.parent → r.parent ≤ hi → ⊥) × Clear lo hi rs

clear_append : (lo hi : ℕ) (l m : List Link) → Clear lo hi l → Clear lo hi m → Clear lo hi (l ++ m)
clear_append lo hi [] m h k = k
clear_append lo hi (r ∷ l) m h k = (h.0, clear_append lo hi l m h.1 k)

narrow : (lo hi lo' hi' : ℕ) (l : List Link) → lo ≤ lo' → hi' ≤ hi → Clear lo hi l → Clear lo' hi' l
narrow lo hi lo' hi' [] a b h = tt
narrow lo hi lo' hi' (r ∷ l) a b h = ((λ x y. h.0 (omega arith) (omega arith)), narrow lo hi lo' hi' l a b h.1)

-- such rows are in no forest of such a parent
past_clear : (ks : List ℕ) (lo hi q i : ℕ) (l rest : List Link) → lo ≤ q → q ≤ hi → Clear lo hi l → forest ks q i (l ++ rest) ≡ forest ks q (i + length l) rest
past_clear ks lo hi q i [] rest a b h = let e : i ≡ i + 0 = omega arith in ap (λ (k : ℕ). forest ks q k rest) e
past_clear ks lo hi q i (r ∷ l) rest a b h =
    let e : suc i + length l ≡ i + suc (length l) = omega arith in
    rw (ne_eqb r.parent q (λ z. h.0 (omega arith) (omega arith)), and-false (among r.kind ks))
    (past_clear ks lo hi q (suc i) l rest a b h.1 ∙ ap (λ (k : ℕ). forest ks q k rest) e)

-- what stands in a tree at row i, and trees at rows i on
abbrev mutual
  inner : ℕ → Tree Element → List Link
  inner i (tree e f) = links (suc i) (suc i) f

  links : ℕ → ℕ → Forest Element → List Link
  links p i bare = []
  links p i (more t f) = record { kind = kind_in t; parent = p } ∷ (inner i t ++ links p (i + size t) f)

mutual
  inner_length : (t : Tree Element) (i : ℕ) → suc (length (inner i t)) ≡ size t
  inner_length (tree e f) i = ap suc (links_length f (suc i) (suc i))

  links_length : (f : Forest Element) (p i : ℕ) → length (links p i f) ≡ sizes f
  links_length bare p i = refl
  links_length (more t f) p i = omega (arith, length-append (inner i t) (links p (i + size t) f), inner_length t i, links_length f p (i + size t))

-- a parent is p or a row of the trees
mutual
  inner_clear : (t : Tree Element) (lo hi i : ℕ) → hi ≤ i → Clear lo hi (inner i t)
  inner_clear (tree e f) lo hi i h = links_clear f lo hi (suc i) (suc i) (λ a b. omega arith) (omega arith)

  links_clear : (f : Forest Element) (lo hi p i : ℕ) → (lo ≤ p → p ≤ hi → ⊥) → hi ≤ i → Clear lo hi (links p i f)
  links_clear bare lo hi p i g h = tt
  links_clear (more t f) lo hi p i g h =
      (g, clear_append lo hi (inner i t) (links p (i + size t) f) (inner_clear t lo hi i h) (links_clear f lo hi p (i + size t) g (omega arith)))

-- ---- the forest of these rows

-- e has the element of each row from row i on
abbrev mutual
  Shows : (ℕ → Element) → ℕ → Tree Element → Type 0
  Shows e i (tree x f) = (e i ≡ x) × ShowsAll e (suc i) f

  ShowsAll : (ℕ → Element) → ℕ → Forest Element → Type 0
  ShowsAll e i bare = Unit {0}
  ShowsAll e i (more t f) = Shows e i t × ShowsAll e (i + size t) f

-- a tree before others, if it is one of the kinds
chosen_back : (e : ℕ → Element) (b : Bool) (i : ℕ) (g : List ℕ → Forest ℕ) (f : Forest ℕ) (t : Tree Element) (h : Forest Element) → map_tree e (tree i (grouped g)) ≡ t → map_forest e f ≡ h → map_forest e (chosen b i g f) ≡ if b (more t h) h
chosen_back e true i g f t h p q = λ j. more (p j) (q j)
chosen_back e false i g f t h p q = q

joined_if : (b : Bool) (t : Tree Element) (f g : Forest Element) → joined (if b (more t f) f) g ≡ if b (more t (joined f g)) (joined f g)
joined_if true t f g = refl
joined_if false t f g = refl

-- a tree, where the forests of what stands in it are known
tree_step : (x : Element) (f : Forest Element) (e : ℕ → Element) (i : ℕ) (rest : List Link) → e i ≡ x → grouped (λ ks. of_kinds ks f) ≡ f → Clear (suc i) (i + suc (sizes f)) rest → ((ks : List ℕ) → map_forest e (forest ks (suc i) (suc i) (links (suc i) (suc i) f ++ rest)) ≡ joined (of_kinds ks f) (map_forest e (forest ks (suc i) (suc i + sizes f) rest))) → map_tree e (tree i (grouped (λ ks. forest ks (suc i) (suc i) (links (suc i) (suc i) f ++ rest)))) ≡ tree x f
tree_step x f e i rest s a c h =
    let none_left : (ks : List ℕ) → forest ks (suc i) (suc i + sizes f) rest ≡ bare = λ ks. ap (forest ks (suc i) (suc i + sizes f)) (sym (append-nil rest)) ∙ past_clear ks (suc i) (i + suc (sizes f)) (suc i) (suc i + sizes f) rest [] (omega arith) (omega arith) c in
    let each : (ks : List ℕ) → map_forest e (forest ks (suc i) (suc i) (links (suc i) (suc i) f ++ rest)) ≡ of_kinds ks f = λ ks. h ks ∙ ap (λ o. joined (of_kinds ks f) (map_forest e o)) (none_left ks) ∙ joined_bare (of_kinds ks f) in
    let all : map_forest e (grouped (λ ks. forest ks (suc i) (suc i) (links (suc i) (suc i) f ++ rest))) ≡ f = map_grouped e (λ ks. forest ks (suc i) (suc i) (links (suc i) (suc i) f ++ rest)) ∙ (λ j. grouped (λ ks. each ks j)) ∙ a in
    λ j. tree (s j) (all j)

forest_step : (t : Tree Element) (f : Forest Element) (e : ℕ → Element) (p i : ℕ) (ks : List ℕ) (rest : List Link) → p ≤ i → map_tree e (tree i (grouped (λ gs. forest gs (suc i) (suc i) (inner i t ++ (links p (i + size t) f ++ rest))))) ≡ t → map_forest e (forest ks p (i + size t) (links p (i + size t) f ++ rest)) ≡ joined (of_kinds ks f) (map_forest e (forest ks p (i + size t + sizes f) rest)) → map_forest e (forest ks p i (links p i (more t f) ++ rest)) ≡ joined (of_kinds ks (more t f)) (map_forest e (forest ks p (i + (size t + sizes f)) rest))
forest_step t f e p i ks rest l a b =
    let z : suc i + length (inner i t) ≡ i + size t = omega (arith, inner_length t i) in
    let y : i + size t + sizes f ≡ i + (size t + sizes f) = omega arith in
    let own : among (kind_in t) ks && eqb p p ≡ among (kind_in t) ks = ap (◌&&◌ (among (kind_in t) ks)) (eq-eqb p p refl) ∙ and-true (among (kind_in t) ks) in
    let later : map_forest e (forest ks p (suc i) (inner i t ++ (links p (i + size t) f ++ rest))) ≡ joined (of_kinds ks f) (map_forest e (forest ks p (i + (size t + sizes f)) rest)) =
    ap (map_forest e) (past_clear ks p p p (suc i) (inner i t) (links p (i + size t) f ++ rest) (omega arith) (omega arith) (inner_clear t p p i l) ∙ ap (λ (m : ℕ). forest ks p m (links p (i + size t) f ++ rest)) z)
    ∙ b ∙ ap (λ (m : ℕ). joined (of_kinds ks f) (map_forest e (forest ks p m rest))) y in
    rw (append_assoc (inner i t) (links p (i + size t) f) rest, own, joined_if (among (kind_in t) ks) t (of_kinds ks f) (map_forest e (forest ks p (i + (size t + sizes f)) rest)))
    (chosen_back e (among (kind_in t) ks) i (λ gs. forest gs (suc i) (suc i) (inner i t ++ (links p (i + size t) f ++ rest))) (forest ks p (suc i) (inner i t ++ (links p (i + size t) f ++ rest))) t (joined (of_kinds ks f) (map_forest e (forest ks p (i + (size t + sizes f)) rest))) a later)

mutual
  tree_back : (t : Tree Element) (e : ℕ → Element) (d i : ℕ) (rest : List Link) → Good d t → Shows e i t → Clear (suc i) (i + size t) rest → map_tree e (tree i (grouped (λ ks. forest ks (suc i) (suc i) (inner i t ++ rest)))) ≡ t
  tree_back (tree x f) e d i rest g s c =
      tree_step x f e i rest s.0 g.2 c
      (λ ks. forest_back f e (open_in d x f) x.kind (suc i) (suc i) ks rest g.4 s.1 (omega arith) (narrow (suc i) (i + suc (sizes f)) (suc (suc i)) (suc i + sizes f) rest (omega arith) (omega arith) c))

  forest_back : (f : Forest Element) (e : ℕ → Element) (d k p i : ℕ) (ks : List ℕ) (rest : List Link) → Goods d k f → ShowsAll e i f → p ≤ i → Clear (suc i) (i + sizes f) rest → map_forest e (forest ks p i (links p i f ++ rest)) ≡ joined (of_kinds ks f) (map_forest e (forest ks p (i + sizes f) rest))
  forest_back bare e d k p i ks rest g s l c = let z : i ≡ i + 0 = omega arith in ap (λ (m : ℕ). map_forest e (forest ks p m rest)) z
  forest_back (more t f) e d k p i ks rest g s l c =
      forest_step t f e p i ks rest l
      (tree_back t e d i (links p (i + size t) f ++ rest) g.1 s.0
      (clear_append (suc i) (i + size t) (links p (i + size t) f) rest (links_clear f (suc i) (i + size t) p (i + size t) (λ a b. omega arith) (omega arith)) (narrow (suc i) (i + (size t + sizes f)) (suc i) (i + size t) rest (omega arith) (omega arith) c)))
      (forest_back f e d k p (i + size t) ks rest g.2 s.1 (omega arith) (narrow (suc i) (i + (size t + sizes f)) (suc (i + size t)) (i + size t + sizes f) rest (omega arith) (omega arith) c))

-- ---- the links of the rows shown

abbrev link_in : Row → Link
link_in r = record { kind = r.kind; parent = r.parent }

mutual
  flat_links : (t : Tree Element) (p i at : ℕ) → map link_in (flat p i at t) ≡ record { kind = kind_in t; parent = p } ∷ inner i t
  flat_links (tree e f) p i at = ap (◌∷◌ (record { kind = e.kind; parent = p })) (flats_links f (suc i) (suc i) (content_at at e + length (concat (docstrings e.doc))))

  flats_links : (f : Forest Element) (p i at : ℕ) → map link_in (flats p i at f) ≡ links p i f
  flats_links bare p i at = refl
  flats_links (more t f) p i at =
      map-append link_in (flat p i at t) (flats p (i + size t) (at + length (written_tree t)) f)
      ∙ (λ j. flat_links t p i at j ++ flats_links f p (i + size t) (at + length (written_tree t)) j)

shown_links : (doc text : List ℕ) (n : ℕ) (ws : List ℕ) → links_of n ws ≡ map link_in (rows_shown doc text ws n)
shown_links doc text zero ws = refl
shown_links doc text (suc n) ws = ap (◌∷◌ (link_of (row_of ws))) (shown_links doc text n (drop 16 ws))

-- ---- the elements of the rows shown

row_shown : (doc text : List ℕ) (n i : ℕ) (ws : List ℕ) (r : Row) (rs : List Row) → drop i (rows_shown doc text ws n) ≡ r ∷ rs → shown_row doc text ws i ≡ r
row_shown doc text zero i ws r rs e = let z : ◌≡◌ {A = List Row} [] (r ∷ rs) = sym (drop-nil i) ∙ e in cc
row_shown doc text (suc n) zero ws r rs e = cc
row_shown doc text (suc n) (suc i) ws r rs e =
    let k : 16 + i * 16 ≡ suc i * 16 = omega arith in
    ap (λ l. viewed doc text (row_of l)) (ap (λ (m : ℕ). drop m ws) (sym k) ∙ sym (drop-drop (i * 16) 16 ws)) ∙ row_shown doc text n i (drop 16 ws) r rs e

some_more : (a : List (List ℕ)) (x : List ℕ) (b : List (List ℕ)) → empty (a ++ (x ∷ b)) ≡ false
some_more [] x b = refl
some_more (y ∷ a) x b = refl

-- bytes that stand at a place
bytes_at : (doc pre s post : List ℕ) (at : ℕ) → doc ≡ pre ++ (s ++ post) → length pre ≡ at → take (length s) (drop at doc) ≡ s
bytes_at doc pre s post at e h = rw e (rw (drop_at pre (s ++ post) at h) (take-append_seam s post))

regroup : (p a t s c u z r : List ℕ) → p ++ ((a ++ (((t ++ (s ++ c)) ++ u) ++ z)) ++ r) ≡ (p ++ (a ++ t)) ++ (s ++ (c ++ (u ++ (z ++ r))))
regroup p a t s c u z r = simp append_assoc

-- the docstring of an element stands where its row says
doc_back : (k : ℕ) (o : Option (List ℕ)) (doc pre post n : List ℕ) (ps : List Pair) (cs : List (List ℕ)) (at : ℕ) → Documented k o → doc ≡ pre ++ (element n ps (docstrings o ++ cs) ++ post) → length pre ≡ at → over (docstring doc) (doc_at (at + length (tag n ps false)) o) ≡ o
doc_back k none doc pre post n ps cs at g e h = refl
doc_back k (some []) doc pre post n ps cs at g e h = let y = g.2.some in let z : ◌≡◌ {A = ℕ} 0 1 = cc in absurd (omega arith)
doc_back k (some (b ∷ s)) doc pre post n ps cs at g e h =
    ap some
    (bytes_at doc (pre ++ (tag n ps false ++ tag doc_tag [] false)) (b ∷ s) (closing_tag doc_tag ++ (concat cs ++ (closing_tag n ++ post))) (at + length (tag n ps false) + length (tag doc_tag [] false))
    (e ∙ regroup pre (tag n ps false) (tag doc_tag [] false) (b ∷ s) (closing_tag doc_tag) (concat cs) (closing_tag n) post)
    (simp length-append (omega arith)))

-- and what stands in it, after its docstring
content_back : (f : Forest Element) (doc pre post n : List ℕ) (ps : List Pair) (ds : List (List ℕ)) → doc ≡ pre ++ (element n ps (ds ++ written_forest f) ++ post) → any_tree f ≡ true → doc ≡ (pre ++ (tag n ps false ++ concat ds)) ++ (concat (written_forest f) ++ (closing_tag n ++ post))
content_back bare doc pre post n ps ds e h = let z : ◌≡◌ {A = ℕ} 0 1 = cc in absurd (omega arith)
content_back (more t f) doc pre post n ps ds e h =
    e
    ∙ ap (λ l. pre ++ (l ++ post)) (element_some n ps (ds ++ (written_tree t ∷ written_forest f)) (some_more ds (written_tree t) (written_forest f)) ∙ ap (λ l. tag n ps false ++ (l ++ closing_tag n)) (concat-append ds (written_tree t ∷ written_forest f)))
    ∙ simp append_assoc

drop_next : (i : ℕ) (l : List Row) (r : Row) (rs : List Row) → drop i l ≡ r ∷ rs → drop (suc i) l ≡ rs
drop_next i l r rs e = let z : i + 1 ≡ suc i = omega arith in ap (λ (m : ℕ). drop m l) (sym z) ∙ sym (drop-drop 1 i l) ∙ ap (drop 1) e

drop_past : (i m : ℕ) (l a b : List Row) → length a ≡ m → drop i l ≡ a ++ b → drop (i + m) l ≡ b
drop_past i m l a b h e = sym (drop-drop m i l) ∙ ap (drop m) e ∙ drop_at a b m h

module _ (doc text ws : List ℕ) (n : ℕ) where
  abbrev shows : ℕ → Element
  shows = element_at doc text ws

  element_step : (e : Element) (cs : List (List ℕ)) (p i at : ℕ) (pre post : List ℕ) (rest : List Row) → Fit e → doc ≡ pre ++ (element (tag_of e.kind) (attributes e) (docstrings e.doc ++ cs) ++ post) → length pre ≡ at → drop i (rows_shown doc text ws n) ≡ row_for p at e ∷ rest → shows i ≡ e
  element_step e cs p i at pre post rest g h l r =
      let d = doc_back e.kind e.doc doc pre post (tag_of e.kind) (attributes e) cs at g.doc h l in
      ap (element_of doc) (row_shown doc text n i ws (row_for p at e) rest r)
      ∙ (λ j. record { kind = e.kind; name = e.name; value = e.value; tp = e.tp; doc = d j; word = e.word })

  mutual
    tree_shows : (t : Tree Element) (d p i at : ℕ) (pre post : List ℕ) (rest : List Row) → Good d t → doc ≡ pre ++ (written_tree t ++ post) → length pre ≡ at → drop i (rows_shown doc text ws n) ≡ flat p i at t ++ rest → Shows shows i t
    tree_shows (tree e f) d p i at pre post rest g h l r =
        let c = tag (tag_of e.kind) (attributes e) false ++ concat (docstrings e.doc) in (
          element_step e (written_forest f) p i at pre post (flats (suc i) (suc i) (content_at at e + length (concat (docstrings e.doc))) f ++ rest) g.0 h l r,
          forest_shows f (open_in d e f) e.kind (suc i) (suc i) (content_at at e + length (concat (docstrings e.doc))) (pre ++ c) (closing_tag (tag_of e.kind) ++ post) rest g.4 (content_back f doc pre post (tag_of e.kind) (attributes e) (docstrings e.doc) h) (simp length-append (omega arith)) (drop_next i (rows_shown doc text ws n) (row_for p at e) (flats (suc i) (suc i) (content_at at e + length (concat (docstrings e.doc))) f ++ rest) r),
        )

    forest_shows : (f : Forest Element) (d k p i at : ℕ) (pre post : List ℕ) (rest : List Row) → Goods d k f → (any_tree f ≡ true → doc ≡ pre ++ (concat (written_forest f) ++ post)) → length pre ≡ at → drop i (rows_shown doc text ws n) ≡ flats p i at f ++ rest → ShowsAll shows i f
    forest_shows bare d k p i at pre post rest g h l r = tt
    forest_shows (more t f) d k p i at pre post rest g h l r = (
      tree_shows t d p i at pre (concat (written_forest f) ++ post) (flats p (i + size t) (at + length (written_tree t)) f ++ rest) g.1 (h refl ∙ simp append_assoc) l (r ∙ append_assoc (flat p i at t) (flats p (i + size t) (at + length (written_tree t)) f) rest),
      forest_shows f d k p (i + size t) (at + length (written_tree t)) (pre ++ written_tree t) post rest g.2 (λ a. h refl ∙ simp append_assoc) (simp length-append (omega arith)) (drop_past i (size t) (rows_shown doc text ws n) (flat p i at t) (flats p (i + size t) (at + length (written_tree t)) f ++ rest) (length_flat p i at t) (r ∙ append_assoc (flat p i at t) (flats p (i + size t) (at + length (written_tree t)) f) rest)),
    )

-- the rows of a tree give the tree
pub regrown : (doc text ws : List ℕ) (t : Tree Element) (d : ℕ) → Good d t → doc ≡ written_tree t → rows_shown doc text ws (size t) ≡ flat 0 0 0 t → tree_at doc text ws (size t) 0 ≡ t
unfolding shape_at
regrown doc text ws t d g e r =
    let l : links_of (size t) ws ≡ record { kind = kind_in t; parent = 0 } ∷ inner 0 t = shown_links doc text (size t) ws ∙ ap (map link_in) r ∙ flat_links t 0 0 0 in
    let s : Shows (element_at doc text ws) 0 t = tree_shows doc text ws (size t) t d 0 0 0 [] [] [] g (e ∙ sym (append-nil (written_tree t))) refl (r ∙ sym (append-nil (flat 0 0 0 t))) in
    ap (λ rs. map_tree (element_at doc text ws) (tree 0 (under 0 rs))) (l ∙ ap (◌∷◌ (record { kind = kind_in t; parent = 0 })) (sym (append-nil (inner 0 t))))
    ∙ tree_back t (element_at doc text ws) d 0 [] g s tt
