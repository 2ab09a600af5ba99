-- What a reader keeps in rows changes nothing else: a view of its state is the state of the reader that keeps the view, and no places.
use Prim.Native.Nat.{ℕ, zero, suc}
use mathlib.Core.Path.{◌≡◌, refl, ap, ◌∙◌}
use mathlib.Core.List.{List, [], ◌∷◌, map, map-append}
use mathlib.Core.Option.{Option, none, some}
use mathlib.Core.Bool.{Bool, true, false, not, ◌&&◌}
use lib.Dec.{eqb, leb, ltb}
use lib.ListN.{length, length-map, take, drop}
use Rattle.slices.specs.Bytes.{if, same}
use Rattle.utf8.specs.WhiteSpace.{trim_start, trim_end}
use Rattle.document.specs.Kinds as kinds
use Rattle.document.specs.Tags.{Shown}
use Rattle.document.specs.Tokens.{Tag, Token, start, close, fault, end, tokens}
use Rattle.document.specs.Rows.{Doc, Row, Tables, documented}
use Rattle.document.specs.Elements.{kind_of, may_hold, Opened, opens, refuses, Keeping, kept, row, opens_as}
use Rattle.document.specs.Reading.{Definition, Purpose, ignored, captures, Frame, element, definition, passing, State, begun, reading, accepted, refused, name_of, parent_of, reason_of, noted, frame_of, with_row, closed, judged, captured, passed, shut, too_deep, entered, opened, begins, unsupported, docstring_in, child, started, turn, root, inside, step, fold, run}
use Rattle.document.proofs.Opens.{any_way}
use Rattle.items.specs.View.{over, view_row, view_tables, view}

-- a function on both ways of a test
branch : {X Y : Type 0} (g : X → Y) (b : Bool) {x y : X} {x' y' : Y} → g x ≡ x' → g y ≡ y' → g (if b x y) ≡ if b x' y'
branch g true h k = h
branch g false h k = k

module _ {A B : Type 0} (f : A → B) where
  map_taken : (n : ℕ) (rs : List (Row A)) → map (view_row f) (take n rs) ≡ take n (map (view_row f) rs)
  map_taken zero rs = refl
  map_taken (suc n) [] = refl
  map_taken (suc n) (r ∷ rs) = ap (◌∷◌ (view_row f r)) (map_taken n rs)

  map_documented : (i : ℕ) (d : Doc) (rs : List (Row A)) → map (view_row f) (documented i d rs) ≡ documented i d (map (view_row f) rs)
  map_documented i d [] = refl
  map_documented zero d (r ∷ rs) = refl
  map_documented (suc i) d (r ∷ rs) = ap (◌∷◌ (view_row f r)) (map_documented i d rs)

  view_closed : (fs : List Frame) (t : Tables A) → view f (closed fs t) ≡ closed fs (view_tables f t)
  view_closed [] t = refl
  view_closed (g ∷ fs) t = refl

  view_judged : (d : Definition) (t : Tables A) → view_tables f (judged d t) ≡ judged d (view_tables f t)
  view_judged d t = branch (view_tables f) (eqb (reason_of d) 0) refl (rw map_taken)

  view_captured : (content : List ℕ) (s i : ℕ) (t : Tables A) → view_tables f (captured content s i t) ≡ captured content s i (view_tables f t)
  view_captured content s i t = branch (view_tables f) (ltb (trim_start content) (trim_end content)) (rw map_documented) refl

  view_passed : (doc : List ℕ) (p : Purpose) (lt : ℕ) (t : Tables A) → view_tables f (passed doc p lt t) ≡ passed doc p lt (view_tables f t)
  view_passed doc ignored lt t = refl
  view_passed doc (captures s i) lt t = view_captured _ s i t

  view_shut : (doc : List ℕ) (g : Frame) (fs : List Frame) (t : Tables A) (lt : ℕ) → view f (shut doc g fs t lt) ≡ shut doc g fs (view_tables f t) lt
  view_shut doc (element k n r) fs t lt = view_closed fs t
  view_shut doc (definition d) fs t lt = view_closed fs (judged d t) ∙ ap (closed fs) (view_judged d t)
  view_shut doc (passing p []) fs t lt = view_closed fs (passed doc p lt t) ∙ ap (closed fs) (view_passed doc p lt t)
  view_shut doc (passing p (n ∷ [])) fs t lt = view_closed fs (passed doc p lt t) ∙ ap (closed fs) (view_passed doc p lt t)
  view_shut doc (passing p (n ∷ m ∷ ns)) fs t lt = refl

  view_with : (r : Row A) (u : Tables A) → view_tables f (with_row r u) ≡ with_row (view_row f r) (view_tables f u)
  view_with r u = rw map-append

  abbrev view_opened : Opened A → Opened B
  view_opened (opens r) = opens (view_row f r)
  view_opened (refuses x) = refuses x

module _ {A B : Type 0} (f : A → B) (keep : Keeping A) where
  abbrev seen : Keeping B
  seen = record { attribute = λ s. f (keep.attribute s); place = λ p. 0 }

  view_kept : (o : Option Shown) → over f (kept keep o) ≡ kept seen o
  view_kept none = refl
  view_kept (some s) = refl

  -- ---- the row of a tag

  row_viewed : (t : Tag) (k p : ℕ) (n v tp : Option Shown) (w : ℕ) → view_opened f (opens (row keep t k p n v tp w)) ≡ opens (row seen t k p n v tp w)
  row_viewed t k p n v tp w = λ j. opens (record { kind = k; parent = p; name = view_kept n j; value = view_kept v j; tp = view_kept tp j; doc = none; word = w; at = 0 })

  view_opens : (p : ℕ) (t : Tag) (k : ℕ) → view_opened f (opens_as keep k p t) ≡ opens_as seen k p t
  view_opens p t k =
      any_way keep seen p t (λ o o'. view_opened f o ≡ o') (λ x r. refl) (λ k w n v tp c. row_viewed t k p n v tp w) k

  -- ---- steps

  module _ (doc : List ℕ) where
    view_entered : (k : ℕ) (t : Tag) (r : Row A) (fs : List Frame) (u : Tables A) → view f (entered keep doc k t r fs u) ≡ entered seen doc k t (view_row f r) fs (view_tables f u)
    view_entered k t r fs u =
        let g = frame_of k t (length u.rows) in
        rw (length-map u.rows (view_row f))
        (branch (view f) t.self
        (view_shut f doc g (noted k t fs) (with_row r u) 0 ∙ ap (λ x. shut doc g (noted k t fs) x 0) (view_with f r u))
        (branch (view f) (too_deep keep doc k fs) refl (ap (reading (g ∷ noted k t fs)) (view_with f r u))))

    opened_viewed : (k : ℕ) (t : Tag) (o : Opened A) (fs : List Frame) (u : Tables A) → view f (opened keep doc k t o fs u) ≡ opened seen doc k t (view_opened f o) fs (view_tables f u)
    opened_viewed k t (opens r) fs u = view_entered k t r fs u
    opened_viewed k t (refuses x) fs u = refl

    view_begins : (k : ℕ) (t : Tag) (fs : List Frame) (u : Tables A) → view f (begins keep doc k t fs u) ≡ begins seen doc k t fs (view_tables f u)
    unfolding begins
    view_begins k t fs u =
        opened_viewed k t (opens_as keep k (parent_of fs) t) fs u
        ∙ ap (λ o. opened seen doc k t o fs (view_tables f u)) (view_opens (parent_of fs) t k)

    view_unsupported : (t : Tag) (fs : List Frame) (u : Tables A) → view f (unsupported keep doc t fs u) ≡ unsupported seen doc t fs (view_tables f u)
    unfolding unsupported
    view_unsupported t fs u = branch (view f) t.self (view_closed f fs _) refl

    view_docstring : (t : Tag) (fs : List Frame) (i : ℕ) (u : Tables A) → view f (docstring_in keep doc t fs i u) ≡ docstring_in seen doc t fs i (view_tables f u)
    unfolding docstring_in
    view_docstring t fs i u = branch (view f) t.self (view_closed f fs u) refl

    view_child : (k i : ℕ) (t : Tag) (fs : List Frame) (u : Tables A) → view f (child keep doc k i t fs u) ≡ child seen doc k i t fs (view_tables f u)
    view_child k i t fs u =
        let c = kind_of t.name in
        branch (view f) (eqb c kinds.docstring && not (eqb k kinds.annotation)) (view_docstring t fs i u) (branch (view f) (may_hold k c) (view_begins c t fs u) (view_unsupported t fs u))

    view_started : (g : Frame) (fs : List Frame) (u : Tables A) (t : Tag) → view f (started keep doc g fs u t) ≡ started seen doc g fs (view_tables f u) t
    view_started (element k n i) fs u t = view_child k i t (element k n i ∷ fs) u
    view_started (definition d) fs u t = view_child d.kind d.row t (definition d ∷ fs) u
    view_started (passing p ns) fs u t = branch (view f) t.self refl (branch (view f) (leb 1024 (length ns)) refl refl)

    view_turn : (g : Frame) (fs : List Frame) (u : Tables A) (t : Token) → view f (turn keep doc g fs u t) ≡ turn seen doc g fs (view_tables f u) t
    view_turn g fs u (start t) = view_started g fs u t
    view_turn g fs u (close lt m q) = branch (view f) (same m (name_of g).bytes) (view_shut f doc g fs u lt) refl
    view_turn g fs u (fault n p) = refl
    view_turn g fs u (end p) = refl

    view_root : (t : Token) → view f (root keep doc t) ≡ root seen doc t
    view_root (start t) = view_begins 1 t [] (record { rows = []; warnings = [] })
    view_root (close lt m q) = refl
    view_root (fault n p) = refl
    view_root (end p) = refl

    view_inside : (fs : List Frame) (u : Tables A) (t : Token) → view f (inside keep doc fs u t) ≡ inside seen doc fs (view_tables f u) t
    view_inside [] u t = refl
    view_inside (g ∷ fs) u t = view_turn g fs u t

    view_step : (s : State A) (t : Token) → view f (step keep doc s t) ≡ step seen doc (view f s) t
    unfolding step
    view_step begun t = view_root t
    view_step (reading fs u) t = view_inside fs u t
    view_step (accepted u) t = refl
    view_step (refused x) t = refl

    view_fold : (s : State A) (ts : List Token) → view f (fold keep doc s ts) ≡ fold seen doc (view f s) ts
    view_fold s [] = refl
    view_fold s (t ∷ ts) = view_fold (step keep doc s t) ts ∙ ap (λ u. fold seen doc u ts) (view_step s t)

    pub view_run : (at : ℕ) (s : State A) → view f (run keep doc at s) ≡ run seen doc at (view f s)
    unfolding run
    view_run at s = view_fold s (tokens (drop at doc) at)
