-- Only a docstring's end looks at the document: reading two of them comes to one state where each docstring is trimmed alike.
use Prim.Native.Nat.{ℕ, ◌-◌}
use mathlib.Core.Path.{◌≡◌, refl, ap, ◌∙◌}
use mathlib.Core.List.{List, [], ◌∷◌}
use mathlib.Core.Bool.{Bool, not, ◌&&◌}
use lib.Dec.{eqb, leb}
use lib.ListN.{length, take, drop}
use Rattle.slices.specs.Bytes.{if, same}
use Rattle.document.specs.Tokens.{Tag, Token, start, close, fault, end}
use Rattle.document.specs.Rows.{Row, Tables}
use Rattle.document.specs.Kinds as kinds
use Rattle.document.specs.Elements.{kind_of, may_hold, among, Opened, opens, refuses, Keeping, opens_as}
use Rattle.document.specs.Refusals.{fault_in}
use Rattle.document.specs.Reading.{Purpose, ignored, captures, Frame, element, definition, passing, State, begun, reading, accepted, refused, parent_of, name_of, noted, frame_of, with_row, closed, judged, captured, passed, shut, too_deep, entered, opened, begins, unsupported, docstring_in, child, started, turn, root, step, fold}
use Rattle.document.proofs.Tests.{either, pairwise}
use Rattle.document.proofs.Steps.{noted_keeps}

-- Open holds of the places where docstrings begin, Shut of those where they end
module _ {A : Type 0} (keep : Keeping A) (d d' : List ℕ) (Open Shut : ℕ → Type 0) (alike : (s lt i : ℕ) (u : Tables A) → Open s → Shut lt → captured (take (lt - s) (drop s d)) s i u ≡ captured (take (lt - s) (drop s d')) s i u) where
  abbrev PurposeOk : Purpose → Type 0
  PurposeOk ignored = Unit {0}
  PurposeOk (captures s i) = Open s

  abbrev FrameOk : Frame → Type 0
  FrameOk (element k n r) = Unit {0}
  FrameOk (definition f) = Unit {0}
  FrameOk (passing p ns) = PurposeOk p

  abbrev FramesOk : List Frame → Type 0
  FramesOk [] = Unit {0}
  FramesOk (f ∷ fs) = FrameOk f × FramesOk fs

  abbrev pub StateOk : State A → Type 0
  StateOk begun = Unit {0}
  StateOk (reading fs u) = FramesOk fs
  StateOk (accepted u) = Unit {0}
  StateOk (refused x) = Unit {0}

  abbrev pub TokenOk : Token → Type 0
  TokenOk (start t) = Open t.after
  TokenOk (close lt m q) = Shut lt
  TokenOk (fault n p) = fault_in d n p ≡ fault_in d' n p
  TokenOk (end p) = Unit {0}

  abbrev pub AllOk : List Token → Type 0
  AllOk [] = Unit {0}
  AllOk (t ∷ ts) = TokenOk t × AllOk ts

  abbrev Alike : State A → State A → Type 0
  Alike x y = (x ≡ y) × StateOk x

  both : (t : Bool) {x x' y y' : State A} → Alike x x' → Alike y y' → Alike (if t x y) (if t x' y')
  both t f g = pairwise Alike t (λ c. f) (λ c. g)

  -- ---- frames

  noted_ok : (k : ℕ) (t : Tag) (fs : List Frame) → FramesOk fs → FramesOk (noted k t fs)
  noted_ok k t = noted_keeps FramesOk k t (λ f gs h. h)

  closed_ok : (fs : List Frame) (u : Tables A) → FramesOk fs → StateOk (closed fs u)
  closed_ok [] u h = tt
  closed_ok (f ∷ fs) u h = h

  -- ---- closing tags

  passed_alike : (p : Purpose) (lt : ℕ) (u : Tables A) → PurposeOk p → Shut lt → passed d p lt u ≡ passed d' p lt u
  passed_alike ignored lt u h g = refl
  passed_alike (captures s i) lt u h g = alike s lt i u h g

  shut_alike : (f : Frame) (fs : List Frame) (u : Tables A) (lt : ℕ) → FrameOk f → FramesOk fs → Shut lt → Alike (shut d f fs u lt) (shut d' f fs u lt)
  shut_alike (element k n r) fs u lt h g s = (refl, closed_ok fs u g)
  shut_alike (definition f) fs u lt h g s = (refl, closed_ok fs (judged f u) g)
  shut_alike (passing p []) fs u lt h g s = (ap (closed fs) (passed_alike p lt u h s), closed_ok fs (passed d p lt u) g)
  shut_alike (passing p (n ∷ [])) fs u lt h g s = (ap (closed fs) (passed_alike p lt u h s), closed_ok fs (passed d p lt u) g)
  shut_alike (passing p (n ∷ m ∷ ns)) fs u lt h g s = (refl, (h, g))

  -- ---- start tags

  -- the frame of an element or of a definition
  frame_shut : (k : ℕ) (t : Tag) (i : ℕ) (fs : List Frame) (u : Tables A) → FramesOk fs → Alike (shut d (frame_of k t i) fs u 0) (shut d' (frame_of k t i) fs u 0)
  frame_shut k t i fs u h =
      either (λ f. Alike (shut d f fs u 0) (shut d' f fs u 0)) (among k kinds.definitions)
      (λ c. (refl, closed_ok fs _ h))
      (λ c. (refl, closed_ok fs _ h))

  frame_ok : (k : ℕ) (t : Tag) (i : ℕ) → FrameOk (frame_of k t i)
  frame_ok k t i = either FrameOk (among k kinds.definitions) (λ c. tt) (λ c. tt)

  entered_alike : (k : ℕ) (t : Tag) (r : Row A) (fs : List Frame) (u : Tables A) → FramesOk fs → Alike (entered keep d k t r fs u) (entered keep d' k t r fs u)
  entered_alike k t r fs u h =
      both t.self
      (frame_shut k t (length u.rows) (noted k t fs) (with_row r u) (noted_ok k t fs h))
      (both (too_deep keep d k fs) (refl, tt) (refl, (frame_ok k t (length u.rows), noted_ok k t fs h)))

  begins_alike : (k : ℕ) (t : Tag) (fs : List Frame) (u : Tables A) → FramesOk fs → Alike (begins keep d k t fs u) (begins keep d' k t fs u)
  unfolding begins
  begins_alike k t fs u h = go (opens_as keep k (parent_of fs) t)
    where
      go : (o : Opened A) → Alike (opened keep d k t o fs u) (opened keep d' k t o fs u)
      go (opens r) = entered_alike k t r fs u h
      go (refuses x) = (refl, tt)

  unsupported_alike : (t : Tag) (fs : List Frame) (u : Tables A) → FramesOk fs → Alike (unsupported keep d t fs u) (unsupported keep d' t fs u)
  unfolding unsupported
  unsupported_alike t fs u h = both t.self (refl, closed_ok fs _ h) (refl, (tt, h))

  docstring_alike : (t : Tag) (fs : List Frame) (i : ℕ) (u : Tables A) → Open t.after → FramesOk fs → Alike (docstring_in keep d t fs i u) (docstring_in keep d' t fs i u)
  unfolding docstring_in
  docstring_alike t fs i u o h = both t.self (refl, closed_ok fs _ h) (refl, (o, h))

  child_alike : (k i : ℕ) (t : Tag) (fs : List Frame) (u : Tables A) → Open t.after → FramesOk fs → Alike (child keep d k i t fs u) (child keep d' k i t fs u)
  child_alike k i t fs u o h =
      let c = kind_of t.name in
      both (eqb c kinds.docstring && not (eqb k kinds.annotation)) (docstring_alike t fs i u o h) (both (may_hold k c) (begins_alike c t fs u h) (unsupported_alike t fs u h))

  started_alike : (f : Frame) (fs : List Frame) (u : Tables A) (t : Tag) → Open t.after → FrameOk f → FramesOk fs → Alike (started keep d f fs u t) (started keep d' f fs u t)
  started_alike (element k n i) fs u t o h g = child_alike k i t (element k n i ∷ fs) u o (tt, g)
  started_alike (definition f) fs u t o h g = child_alike f.kind f.row t (definition f ∷ fs) u o (tt, g)
  started_alike (passing p ns) fs u t o h g = both t.self (refl, (h, g)) (both (leb 1024 (length ns)) (refl, tt) (refl, (h, g)))

  -- ---- tokens

  turn_alike : (f : Frame) (fs : List Frame) (u : Tables A) (t : Token) → TokenOk t → FrameOk f → FramesOk fs → Alike (turn keep d f fs u t) (turn keep d' f fs u t)
  turn_alike f fs u (start t) o h g = started_alike f fs u t o h g
  turn_alike f fs u (close lt m q) o h g = both (same m (name_of f).bytes) (shut_alike f fs u lt h g o) (refl, tt)
  turn_alike f fs u (fault n p) o h g = (ap refused o, tt)
  turn_alike f fs u (end p) o h g = (refl, tt)

  root_alike : (t : Token) → TokenOk t → Alike (root keep d t) (root keep d' t)
  root_alike (start t) o = begins_alike kinds.node t [] (record { rows = []; warnings = [] }) tt
  root_alike (close lt m q) o = (refl, tt)
  root_alike (fault n p) o = (ap refused o, tt)
  root_alike (end p) o = (refl, tt)

  pub step_alike : (s : State A) (t : Token) → TokenOk t → StateOk s → Alike (step keep d s t) (step keep d' s t)
  unfolding step
  step_alike begun t o h = root_alike t o
  step_alike (reading [] u) t o h = (refl, tt)
  step_alike (reading (f ∷ fs) u) t o h = turn_alike f fs u t o h.0 h.1
  step_alike (accepted u) t o h = (refl, tt)
  step_alike (refused x) t o h = (refl, tt)

  pub fold_alike : (s : State A) (ts : List Token) → AllOk ts → StateOk s → fold keep d s ts ≡ fold keep d' s ts
  fold_alike s [] o h = refl
  fold_alike s (t ∷ ts) o h =
      let a = step_alike s t o.0 h in
      fold_alike (step keep d s t) ts o.1 a.1 ∙ ap (λ x. fold keep d' x ts) a.0
