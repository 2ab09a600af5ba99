-- How deep rows stand: while a document is read, the row of an open element stands as deep as elements are open up to it, and a node
-- that holds a row or has a docstring is at most the 1,024th.
use Prim.Native.Nat.{ℕ, zero, suc, ◌≤◌, ◌<◌}
use mathlib.Core.Path.{◌≡◌, refl, ap, sym, subst, ◌∙◌}
use mathlib.Core.List.{List, [], ◌∷◌, ◌++◌}
use mathlib.Core.Option.{Option, none, some}
use mathlib.Core.Bool.{Bool, true, false}
use borrow.Author.Tests.{eq-eqb, eqb-true, eqb-false, leb-false}
use native.Mathlib.Omega.{arith}
use lib.Dec.{eqb}
use lib.ListN.{length, take, get_or, length-append, get_or-append}
use lib.Seq.{length-take-le, get_or-take, get_or-append_seam}
use Rattle.utf8.proofs.Sequences.{below}
use Rattle.document.specs.Kinds as kinds
use Rattle.document.specs.Kinds.{definitions}
use Rattle.document.specs.Tags.{Shown}
use Rattle.document.specs.Tokens.{Tag, Token, start, close, fault, end, tokens}
use Rattle.document.specs.Rows.{Doc, Row, Tables, documented}
use Rattle.document.specs.Elements.{among, opens, opens_as}
use Rattle.document.specs.Reading.{Definition, Purpose, ignored, captures, Frame, element, definition, passing, State, begun, row_of, parent_of, noted, frame_of, too_deep, step, fold, run, tag_name}
use Rattle.document.specs.Outcome.{whole}
use Rattle.document.proofs.Tests.{either}
use Rattle.document.proofs.Steps.{noted_keeps, kind_in, TakesDocs, Begins, Known, Kept, Closes, Ways, step_kept}
use Rattle.rows.proofs.Words.{length_documented}
use Rattle.items.proofs.Order.{Falls, falls_more}
use Rattle.accepted.proofs.Folding.{Accepts}
use Rattle.accepted.proofs.Entries.{Brief, Entry, start_opens}
use Rattle.accepted.proofs.Frames.{Agree}
use Rattle.accepted.proofs.Entering.{begins_kind}
use Rattle.accepted.proofs.States.{blank, row_at, at_more, at_last, at_first, at_documented}

-- ---- depths

-- p, a row plus one, is 0 if d is 0; else it is a row whose parent is one less deep
abbrev pub Deep : (ℕ → ℕ) → ℕ → ℕ → Type 0
Deep f zero p = p ≡ 0
Deep f (suc d) p = (r : ℕ) × (p ≡ suc r) × Deep f d (f r)

pub deep_once : (f : ℕ → ℕ) (d e p : ℕ) → Deep f d p → Deep f e p → d ≡ e
deep_once f zero zero p h k = refl
deep_once f zero (suc e) p h k = absurd (omega (arith, h, k.1))
deep_once f (suc d) zero p h k = absurd (omega (arith, k, h.1))
deep_once f (suc d) (suc e) p h k =
    let z : k.0 ≡ h.0 = omega (arith, h.1, k.1) in
    ap suc (deep_once f d e (f h.0) h.2 (subst (λ r. Deep f e (f r)) z k.2))

-- the first n rows have the same parents
abbrev Alike : ℕ → (ℕ → ℕ) → (ℕ → ℕ) → Type 0
Alike n f g = (i : ℕ) → i < n → f i ≡ g i

deep_alike : (n : ℕ) (f g : ℕ → ℕ) → Alike n f g → Falls f n → (d p : ℕ) → p ≤ n → Deep f d p → Deep g d p
deep_alike n f g a w zero p l h = h
deep_alike n f g a w (suc d) p l h =
    let r = h.0 in
    let m : r < n = omega (arith, h.1) in
    let b = w r m in
    (r, h.1, subst (λ q. Deep g d q) (a r m) (deep_alike n f g a w d (f r) (omega arith) h.2))

-- ---- rows

abbrev pub parents : (ℕ → Brief) → ℕ → ℕ
parents b i = (b i).parent

-- a node is at most the 1,024th
abbrev pub Low : (ℕ → Brief) → ℕ → Type 0
Low b r = (b r).kind ≡ kinds.node → (d : ℕ) → Deep (parents b) (suc d) (suc r) → d < 1024

same_parents : (n : ℕ) (b c : ℕ → Brief) → Agree n b c → Alike n (parents b) (parents c)
same_parents n b c a i l = ap (λ (x : Brief). x.parent) (a i l)

falls_agree : (n : ℕ) (b c : ℕ → Brief) → Agree n b c → Falls (parents b) n → Falls (parents c) n
falls_agree n b c a w i l = subst (λ p. p ≤ i) (same_parents n b c a i l) (w i l)

low_agree : (n : ℕ) (b c : ℕ → Brief) → Agree n b c → Falls (parents b) n → (r : ℕ) → r < n → Low b r → Low c r
low_agree n b c a w r l h k d g =
    h (ap (λ (x : Brief). x.kind) (a r l) ∙ k) d
    (deep_alike n (parents c) (parents b) (λ i m. sym (same_parents n b c a i m)) (falls_agree n b c a w) (suc d) (suc r) (omega arith) g)

-- ---- open elements

abbrev Aims : ℕ → (ℕ → Brief) → Purpose → Type 0
Aims n b ignored = Unit {0}
Aims n b (captures s i) = (i < n) × Low b i

-- rows below n of open elements: their kinds and depths
abbrev Nest : ℕ → (ℕ → Brief) → List Frame → Type 0
Nest n b [] = Unit {0}
Nest n b (element k m r ∷ fs) = (r < n) × ((b r).kind ≡ k) × Deep (parents b) (suc (length fs)) (suc r) × Nest r b fs
Nest n b (definition d ∷ fs) = (d.row < n) × ((b d.row).kind ≡ d.kind) × Deep (parents b) (suc (length fs)) (suc d.row) × Nest d.row b fs
Nest n b (passing p ns ∷ fs) = Aims n b p × Nest n b fs

aims_wider : (n m : ℕ) (b : ℕ → Brief) (p : Purpose) → n ≤ m → Aims n b p → Aims m b p
aims_wider n m b ignored l h = tt
aims_wider n m b (captures s i) l h = (omega (arith, h.0), h.1)

nest_wider : (n m : ℕ) (b : ℕ → Brief) (fs : List Frame) → n ≤ m → Nest n b fs → Nest m b fs
nest_wider n m b [] l h = tt
nest_wider n m b (element k x r ∷ fs) l h = (omega (arith, h.0), h.1, h.2, h.3)
nest_wider n m b (definition d ∷ fs) l h = (omega (arith, h.0), h.1, h.2, h.3)
nest_wider n m b (passing p ns ∷ fs) l h = (aims_wider n m b p l h.0, nest_wider n m b fs l h.1)

falls_fewer : (f : ℕ → ℕ) (n m : ℕ) → n ≤ m → Falls f m → Falls f n
falls_fewer f n m l w k j = w k (omega arith)

module _ (b c : ℕ → Brief) where
  aims_agree : (n : ℕ) (p : Purpose) → Agree n b c → Falls (parents b) n → Aims n b p → Aims n c p
  aims_agree n ignored a w h = tt
  aims_agree n (captures s i) a w h = (h.0, low_agree n b c a w i h.0 h.1)

  nest_agree : (n : ℕ) (fs : List Frame) → Agree n b c → Falls (parents b) n → Nest n b fs → Nest n c fs
  nest_agree n [] a w h = tt
  nest_agree n (element k m r ∷ fs) a w h = (
    h.0,
    rw (← a r h.0) h.1,
    deep_alike n (parents b) (parents c) (same_parents n b c a) w (suc (length fs)) (suc r) (omega (arith, h.0)) h.2,
    nest_agree r fs (λ i l. a i (omega (arith, h.0))) (falls_fewer (parents b) r n (omega (arith, h.0)) w) h.3,
  )
  nest_agree n (definition d ∷ fs) a w h = (
    h.0,
    rw (← a d.row h.0) h.1,
    deep_alike n (parents b) (parents c) (same_parents n b c a) w (suc (length fs)) (suc d.row) (omega (arith, h.0)) h.2,
    nest_agree d.row fs (λ i l. a i (omega (arith, h.0))) (falls_fewer (parents b) d.row n (omega (arith, h.0)) w) h.3,
  )
  nest_agree n (passing p ns ∷ fs) a w h = (aims_agree n p a w h.0, nest_agree n fs a w h.1)

noted_long : (k : ℕ) (t : Tag) (fs : List Frame) → length (noted k t fs) ≡ length fs
noted_long k t fs = noted_keeps (λ gs. length gs ≡ length fs) k t (λ d gs h. h) fs refl

noted_nest : (n : ℕ) (b : ℕ → Brief) (k : ℕ) (t : Tag) (fs : List Frame) → Nest n b fs → Nest n b (noted k t fs)
noted_nest n b k t = noted_keeps (Nest n b) k t (λ d gs h. h)

-- each open node is at most the 1,024th
abbrev LowFrames : List Frame → Type 0
LowFrames [] = Unit {0}
LowFrames (f ∷ fs) = (kind_in f ≡ 1 → length fs < 1024) × LowFrames fs

-- what a row more stands in
module _ (n : ℕ) (b : ℕ → Brief) (k : ℕ) where
  in_deep : (fs : List Frame) → Begins n k fs → Nest n b fs → Deep (parents b) (length fs) (parent_of fs) × (parent_of fs ≤ n)
  in_deep [] g h = (refl, omega arith)
  in_deep (element c m r ∷ fs) g h = (h.2, omega (arith, h.0))
  in_deep (definition d ∷ fs) g h = (h.2, omega (arith, h.0))
  in_deep (passing p ns ∷ fs) g h = absurd g.0

low_row : (b : ℕ → Brief) (k r l : ℕ) → (b r).kind ≡ k → Deep (parents b) (suc l) (suc r) → (k ≡ kinds.node → l < 1024) → Low b r
low_row b k r l e h s z d g =
    let q : suc l ≡ suc d = deep_once (parents b) (suc l) (suc d) (suc r) h g in
    let m = s (sym e ∙ z) in
    omega arith

in_low : (n : ℕ) (b : ℕ → Brief) (f : Frame) (fs : List Frame) → TakesDocs f → LowFrames (f ∷ fs) → Nest n b (f ∷ fs) → (row_of f < n) × Low b (row_of f)
in_low n b (element c m r) fs t s h = (h.0, low_row b c r (length fs) h.1 h.2 s.0)
in_low n b (definition d) fs t s h = (h.0, low_row b d.kind d.row (length fs) h.1 h.2 s.0)
in_low n b (passing p ns) fs t s h = absurd t.0

over_low : (n : ℕ) (b : ℕ → Brief) (k q : ℕ) (fs : List Frame) → Begins n k fs → LowFrames fs → Nest n b fs → parent_of fs ≡ suc q → (q < n) × Low b q
over_low n b k q [] g s h e = absurd (omega arith)
over_low n b k q (element c m r ∷ fs) g s h e =
    let z : r ≡ q = omega arith in
    subst (λ j. (j < n) × Low b j) z (h.0, low_row b c r (length fs) h.1 h.2 s.0)
over_low n b k q (definition d ∷ fs) g s h e =
    let z : d.row ≡ q = omega arith in
    subst (λ j. (j < n) × Low b j) z (h.0, low_row b d.kind d.row (length fs) h.1 h.2 s.0)
over_low n b k q (passing p ns ∷ fs) g s h e = absurd g.0

-- ---- docstrings

unfoldable pub doc_in : List (Row Shown) → ℕ → Option Doc
doc_in rs i = (get_or rs i blank).doc

doc_more : (rs : List (Row Shown)) (r : Row Shown) (i : ℕ) → i < length rs → doc_in (rs ++ r ∷ []) i ≡ doc_in rs i
unfolding doc_in
doc_more rs r i l = ap (λ (x : Row Shown). x.doc) (get_or-append rs (r ∷ []) blank i l)

doc_last : (rs : List (Row Shown)) (r : Row Shown) → doc_in (rs ++ r ∷ []) (length rs) ≡ r.doc
unfolding doc_in
doc_last rs r = ap (λ (x : Row Shown). x.doc) (get_or-append_seam rs r [] blank)

doc_first : (n : ℕ) (rs : List (Row Shown)) (i : ℕ) → i < n → doc_in (take n rs) i ≡ doc_in rs i
unfolding doc_in
doc_first n rs i l = ap (λ (x : Row Shown). x.doc) (get_or-take n rs i blank l)

doc_documented : (i : ℕ) (d : Doc) (rs : List (Row Shown)) (j : ℕ) → (i ≡ j → ⊥) → doc_in (documented i d rs) j ≡ doc_in rs j
unfolding doc_in
doc_documented i d [] j h = refl
doc_documented zero d (r ∷ rs) zero h = absurd (h refl)
doc_documented zero d (r ∷ rs) (suc j) h = refl
doc_documented (suc i) d (r ∷ rs) zero h = refl
doc_documented (suc i) d (r ∷ rs) (suc j) h = doc_documented i d rs j (λ e. h (ap suc e))

-- ---- states

pub record Depths (fs : List Frame) (rs : List (Row Shown)) : Type 0 where
  pub falls : Falls (parents (row_at rs)) (length rs)
  pub nest : Nest (length rs) (row_at rs) fs
  pub holding : (c r : ℕ) → c < length rs → (row_at rs c).parent ≡ suc r → Low (row_at rs) r
  pub documented : (r : ℕ) (d : Doc) → r < length rs → doc_in rs r ≡ some d → Low (row_at rs) r

-- a row more
row_depths : (k : ℕ) (t : Tag) (r : Row Shown) (fs : List Frame) (rs : List (Row Shown)) → Begins (length rs) k fs → Entry k (parent_of fs) t r → LowFrames fs → Depths fs rs → Depths (frame_of k t (length rs) ∷ noted k t fs) (rs ++ r ∷ [])
row_depths k t r fs rs g e s h = record {
  falls = rw long new_falls;
  nest = rw long new_nest;
  holding = λ i q l p. below i n
      (λ m. low q (holder i q m (ap (λ (x : Brief). x.parent) (a i m) ∙ p)))
      (λ m. let z : n ≡ i = omega (arith, long) in low q (over_low n b k q fs g s h.nest (sym parent ∙ subst (λ j. (c j).parent ≡ suc q) (sym z) p)));
  documented = λ i d l p. below i n
      (λ m. low i (m, h.documented i d m (sym (doc_more rs r i m) ∙ p)))
      (λ m. let z : n ≡ i = omega (arith, long) in no_doc d (sym e.doc ∙ sym (doc_last rs r) ∙ subst (λ j. doc_in (rs ++ r ∷ []) j ≡ some d) (sym z) p));
}
  where
    n : ℕ
    n = length rs

    b : ℕ → Brief
    b = row_at rs

    c : ℕ → Brief
    c = row_at (rs ++ r ∷ [])

    long : length (rs ++ r ∷ []) ≡ suc n
    long = length-append rs (r ∷ []) ∙ omega arith

    a : Agree n b c
    a = at_more rs r

    parent : (c n).parent ≡ parent_of fs
    parent = ap (λ (x : Brief). x.parent) (at_last rs r) ∙ e.parent

    kind : (c n).kind ≡ k
    kind = ap (λ (x : Brief). x.kind) (at_last rs r) ∙ e.kind

    around : Deep (parents b) (length fs) (parent_of fs) × (parent_of fs ≤ n)
    around = in_deep n b k fs g h.nest

    new_falls : Falls (parents c) (suc n)
    new_falls = falls_more (parents c) n (falls_agree n b c a h.falls) (subst (λ p. p ≤ n) (sym parent) around.1)

    low : (q : ℕ) → (q < n) × Low b q → Low c q
    low q x = low_agree n b c a h.falls q x.0 x.1

    holder : (i q : ℕ) → i < n → (b i).parent ≡ suc q → (q < n) × Low b q
    holder i q l p = let w = h.falls i l in (omega (arith, p), h.holding i q l p)

    no_doc : {X : Type 0} (d : Doc) → none ≡ some d → X
    no_doc d e = let z : ◌≡◌ {A = ℕ} 0 1 = cc in absurd (omega arith)

    deep : Deep (parents c) (suc (length (noted k t fs))) (suc n)
    deep =
        rw (noted_long k t fs)
        (n, refl, subst (λ p. Deep (parents c) (length fs) p) (sym parent) (deep_alike n (parents b) (parents c) (same_parents n b c a) h.falls (length fs) (parent_of fs) around.1 around.0))

    inside : Nest n c (noted k t fs)
    inside = nest_agree b c n (noted k t fs) a h.falls (noted_nest n b k t fs h.nest)

    new_nest : Nest (suc n) c (frame_of k t n ∷ noted k t fs)
    new_nest =
        either (λ (f : Frame). Nest (suc n) c (f ∷ noted k t fs)) (among k definitions)
        (λ y. (omega arith, kind, deep, inside))
        (λ y. (omega arith, kind, deep, inside))

-- a definition that is dropped
dropped_depths : (d : Definition) (fs : List Frame) (rs : List (Row Shown)) → Depths (definition d ∷ fs) rs → Depths fs (take d.row rs)
dropped_depths d fs rs h = record {
  falls = rw m (falls_agree r b c a w);
  nest = rw m (nest_agree b c r fs a w h.nest.3);
  holding = λ i q l p.
      let j : i < r = omega (arith, m) in
      let e : (b i).parent ≡ suc q = ap (λ (x : Brief). x.parent) (a i j) ∙ p in
      let f = w i j in
      low_agree r b c a w q (omega (arith, e)) (h.holding i q (omega (arith, h.nest.0)) e);
  documented = λ i x l p.
      let j : i < r = omega (arith, m) in
      low_agree r b c a w i j (h.documented i x (omega (arith, h.nest.0)) (sym (doc_first r rs i j) ∙ p));
}
  where
    r : ℕ
    r = d.row

    b : ℕ → Brief
    b = row_at rs

    c : ℕ → Brief
    c = row_at (take r rs)

    m : length (take r rs) ≡ r
    m = length-take-le r rs (omega (arith, h.nest.0))

    a : Agree r b c
    a = at_first r rs

    w : Falls (parents b) r
    w = falls_fewer (parents b) r (length rs) (omega (arith, h.nest.0)) h.falls

-- a docstring for a row that is low
documented_depths : (i : ℕ) (d : Doc) (fs : List Frame) (rs : List (Row Shown)) → Low (row_at rs) i → Depths fs rs → Depths fs (documented i d rs)
documented_depths i d fs rs low h = record {
  falls = rw m (falls_agree n b c a h.falls);
  nest = rw m (nest_agree b c n fs a h.falls h.nest);
  holding = λ j q l p.
      let k : j < n = omega (arith, m) in
      let e : (b j).parent ≡ suc q = ap (λ (x : Brief). x.parent) (a j k) ∙ p in
      let f = h.falls j k in
      low_agree n b c a h.falls q (omega (arith, e)) (h.holding j q k e);
  documented = λ j x l p.
      let k : j < n = omega (arith, m) in
      low_agree n b c a h.falls j k (go j x k p (eqb i j) refl);
}
  where
    n : ℕ
    n = length rs

    b : ℕ → Brief
    b = row_at rs

    c : ℕ → Brief
    c = row_at (documented i d rs)

    m : length (documented i d rs) ≡ n
    m = length_documented d i rs

    a : Agree n b c
    a j l = at_documented i d rs j

    go : (j : ℕ) (x : Doc) → j < n → doc_in (documented i d rs) j ≡ some x → (t : Bool) → eqb i j ≡ t → Low b j
    go j x k p true e = subst (λ q. Low b q) (eqb-true i j e) low
    go j x k p false e = h.documented j x k (sym (doc_documented i d rs j (eqb-false i j e)) ∙ p)

popped : (fs : List Frame) (rs : List (Row Shown)) {gs : List Frame} → Nest (length rs) (row_at rs) fs → Depths gs rs → Depths fs rs
popped fs rs w h = record { falls = h.falls; nest = w; holding = h.holding; documented = h.documented }

-- ---- depths, step by step

noted_low : (k : ℕ) (t : Tag) (fs : List Frame) → LowFrames fs → LowFrames (noted k t fs)
noted_low k t = noted_keeps LowFrames k t (λ d gs h. h)

-- each open node under the innermost element
abbrev Under : List Frame → Type 0
Under [] = Unit {0}
Under (f ∷ fs) = LowFrames fs

held : Known Shown
held = record { first = Unit {0}; inside = λ fs u. LowFrames fs × Depths fs u.rows; done = λ u. Depths [] u.rows; fault = λ x. Unit {0} }

-- between the row of a tag `/>`, which may be a node of any depth, and the end of its element
own : Known Shown
own = record { first = Unit {0}; inside = λ fs u. Under fs × Depths fs u.rows; done = λ u. Depths [] u.rows; fault = λ x. Unit {0} }

module _ (doc : List ℕ) where
  frame_low : (k : ℕ) (t : Tag) (i : ℕ) (fs : List Frame) → too_deep whole doc k fs ≡ false → LowFrames fs → LowFrames (frame_of k t i ∷ noted k t fs)
  frame_low k t i fs d h =
      either (λ (f : Frame). LowFrames (f ∷ noted k t fs)) (among k definitions)
      (λ c. ((λ e. few e), noted_low k t fs h))
      (λ c. ((λ e. few e), noted_low k t fs h))
    where
      few : k ≡ kinds.node → length (noted k t fs) < 1024
      few e = rw (noted_long k t fs) (leb-false 1024 (length fs) (rw (eq-eqb k kinds.node e) at d))

  closes : Closes whole doc own held
  unfolding held own
  closes = record {
    element = λ k n r fs u h. (h.0, popped fs u.rows (nest_wider r (length u.rows) (row_at u.rows) fs (omega (arith, h.1.nest.0)) h.1.nest.3) h.1);
    whole = λ d fs u e h. (h.0, popped fs u.rows (nest_wider d.row (length u.rows) (row_at u.rows) fs (omega (arith, h.1.nest.0)) h.1.nest.3) h.1);
    broken = λ d fs u e h. (h.0, dropped_depths d fs u.rows h.1);
    root = λ u h. h.1;
  }

  closes_held : Closes whole doc held held
  unfolding held own
  closes_held = record {
    element = λ k n r fs u h. closes.element k n r fs u (h.0.1, h.1);
    whole = λ d fs u e h. closes.whole d fs u e (h.0.1, h.1);
    broken = λ d fs u e h. closes.broken d fs u e (h.0.1, h.1);
    root = λ u h. h.1;
  }

  ways : (t : Token) → Ways whole doc held own held t
  unfolding held own
  ways (start t) = record {
    closes = closes;
    moves = λ f fs u c h. h;
    row = λ k r fs u c b n e d h. (frame_low k t (length u.rows) fs d h.0, row_depths k t r fs u.rows b (entry k r fs u b e) h.0 h.1);
    own_row = λ k r fs u c b n e h. (noted_low k t fs h.0, row_depths k t r fs u.rows b (entry k r fs u b e) h.0 h.1);
    refusal = λ k p x e. tt;
    deep = tt;
    warning = λ f fs u c h. h;
    skips = λ f fs u c r h. (((λ e. absurd (omega arith)), h.0), popped (passing ignored (tag_name t ∷ []) ∷ f ∷ fs) u.rows (tt, h.1.nest) h.1);
    docstring = λ f fs u c d h. (
      ((λ e. absurd (omega arith)), h.0),
      popped (passing (captures t.after (row_of f)) (tag_name t ∷ []) ∷ f ∷ fs) u.rows (in_low (length u.rows) (row_at u.rows) f fs d h.0 h.1.nest, h.1.nest) h.1,
    );
    within = λ p ns fs u c d h. (((λ e. absurd (omega arith)), h.0.1), popped (passing p (tag_name t ∷ ns) ∷ fs) u.rows h.1.nest h.1);
  }
    where
      entry : (k : ℕ) (r : Row Shown) (fs : List Frame) (u : Tables Shown) → Begins (length u.rows) k fs → opens_as whole k (parent_of fs) t ≡ opens r → Entry k (parent_of fs) t r
      entry k r fs u b e = rw e at (start_opens (parent_of fs) t k (begins_kind (length u.rows) k fs b))
  ways (close lt n q) = record {
    closes = closes_held;
    passed = λ p ns fs u l h. (h.0.1, popped fs u.rows h.1.nest.1 h.1);
    docstring = λ s r ns fs u l e h. (h.0.1, documented_depths r _ fs u.rows h.1.nest.0.1 (popped fs u.rows h.1.nest.1 h.1));
    within = λ p n ns fs u l e h. (((λ e. absurd (omega arith)), h.0.1), popped (passing p ns ∷ fs) u.rows h.1.nest h.1);
    another = λ f fs u h. tt;
    none = tt;
  }
  ways (fault n p) = tt
  ways (end p) = (tt, λ f fs u h. tt)

  step_depths : (s : State Shown) (t : Token) → Kept held s → Kept held (step whole doc s t)
  unfolding held
  step_depths s t h =
      step_kept whole doc held own held s t (record {
        ways = ways t;
        empty = λ h. (tt, record { falls = λ k l. absurd (omega arith); nest = tt; holding = λ c r l. absurd (omega arith); documented = λ r d l. absurd (omega arith) });
        done = λ u h. h;
        fault = λ x h. tt;
      }) h

  fold_depths : (s : State Shown) (ts : List Token) → Kept held s → Kept held (fold whole doc s ts)
  fold_depths s [] h = h
  fold_depths s (t ∷ ts) h = fold_depths (step whole doc s t) ts (step_depths s t h)

  run_depths : Kept held (run whole doc 0 begun)
  unfolding run held
  run_depths = fold_depths begun (tokens doc 0) tt

  pub accepts_depths : {u : Tables Shown} → Accepts doc u → Depths [] u.rows
  unfolding held
  accepts_depths {u} a = rw a.reads at run_depths
