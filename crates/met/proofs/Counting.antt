-- How many elements are open: a start tag opens one, or with `/>` none; a closing tag closes one; and where none is left the
-- document is accepted.
use Prim.Native.Nat.{ℕ, suc, ◌≤◌}
use mathlib.Core.Path.{◌≡◌, refl}
use mathlib.Core.List.{List, [], ◌∷◌}
use mathlib.Core.Bool.{true}
use native.Mathlib.Omega.{arith}
use lib.ListN.{length}
use Rattle.slices.specs.Bytes.{if}
use Rattle.document.specs.Kinds as kinds
use Rattle.document.specs.Tags.{Shown}
use Rattle.document.specs.Tokens.{Tag, start, close}
use Rattle.document.specs.Elements.{among}
use Rattle.document.specs.Reading.{captures, Frame, element, definition, passing, State, begun, reading, accepted, refused, noted, frame_of, step}
use Rattle.document.specs.Outcome.{whole}
use Rattle.document.proofs.Tests.{either}
use Rattle.document.proofs.Steps.{noted_keeps, Known, Kept, Closes, Shuts, Starts, step_kept}
use Rattle.met.specs.Met.{goes_on}
use Rattle.met.specs.Open.{opens_in, Open, Counted, Stands}

-- what is known where n elements are open: before a token, and after one
abbrev before : ℕ → Known Shown
before n = record { first = n ≡ 0; inside = λ fs u. Open n fs; done = λ u. ⊥; fault = λ x. ⊥ }

abbrev after : ℕ → Known Shown
after n = record { first = ⊥; inside = λ fs u. Open n fs; done = λ u. n ≡ 0; fault = λ x. Unit {0} }

stands_known : (n : ℕ) (s : State Shown) → Stands n s → Kept (before n) s
stands_known n begun h = h
stands_known n (reading [] u) h = h
stands_known n (reading (f ∷ fs) u) h = h
stands_known n (accepted u) h = h
stands_known n (refused x) h = h

known_counted : (n : ℕ) (s : State Shown) → Kept (after n) s → Counted n s
known_counted n begun h = h
known_counted n (reading [] u) h = h
known_counted n (reading (f ∷ fs) u) h = h
known_counted n (accepted u) h = h
known_counted n (refused x) h = h

noted_open : (n k : ℕ) (t : Tag) (fs : List Frame) → Open n fs → Open n (noted k t fs)
noted_open n k t = noted_keeps (Open n) k t (λ d fs h. h)

frame_one : (k : ℕ) (t : Tag) (i : ℕ) → opens_in (frame_of k t i) ≡ 1
frame_one k t i = either (λ (f : Frame). opens_in f ≡ 1) (among k kinds.definitions) (λ e. refl) (λ e. refl)

frame_open : (n k : ℕ) (t : Tag) (i : ℕ) (fs : List Frame) → Open n fs → Open (suc n) (frame_of k t i ∷ noted k t fs)
frame_open n k t i fs h = (n, omega (arith, frame_one k t i), omega (arith, frame_one k t i), noted_open n k t fs h)

-- the innermost frame has one element open
under : (n : ℕ) (f : Frame) (fs : List Frame) → opens_in f ≤ 1 → Open (suc n) (f ∷ fs) → Open n fs
under n f fs l h = let e : n ≡ h.0 = omega (arith, h.1, h.2, l) in rw e h.3

module _ (doc : List ℕ) where
  closes : (n : ℕ) → Closes whole doc (before (suc n)) (after n)
  closes n = record {
    element = λ k m r fs u h. under n (element k m r) fs (omega arith) h;
    whole = λ d fs u e h. under n (definition d) fs (omega arith) h;
    broken = λ d fs u e h. under n (definition d) fs (omega arith) h;
    root = λ u h. h;
  }

  -- how many are open after a start tag, with `/>` or without
  abbrev open_after : ℕ → Tag → ℕ
  open_after n t = if t.self n (suc n)

  starts : (n : ℕ) (t : Tag) → Starts whole doc (before n) (before (suc (open_after n t))) (after (open_after n t)) t
  starts n t = record {
    closes = closes (open_after n t);
    moves = λ f fs u c h. rw c h;
    row = λ k r fs u c b m e d h. rw c (frame_open n k t (length u.rows) fs h);
    own_row = λ k r fs u c b m e h. rw c (frame_open n k t (length u.rows) fs h);
    refusal = λ k p x e. tt;
    deep = tt;
    warning = λ f fs u c h. rw c h;
    skips = λ f fs u c r h. rw c (n, omega arith, omega arith, h);
    docstring = λ f fs u c d h. rw c (n, omega arith, omega arith, h);
    within = λ p ns fs u c d h. rw c (h.0, omega arith, omega (arith, h.2), h.3);
  }

  shuts : (n lt : ℕ) (m : List ℕ) (q : ℕ) → Shuts whole doc (before (suc n)) (after n) lt m q
  shuts n lt m q = record {
    closes = closes n;
    passed = λ p ns fs u l h. under n (passing p ns) fs l h;
    docstring = λ s r ns fs u l e h. under n (passing (captures s r) ns) fs l h;
    within = λ p k ns fs u l e h. (h.0, l, omega (arith, h.2), h.3);
    another = λ f fs u h. tt;
    none = tt;
  }

  pub start_counted : (n : ℕ) (s : State Shown) (t : Tag) → Stands n s → Counted (open_after n t) (step whole doc s (start t))
  start_counted n s t h =
      known_counted (open_after n t) (step whole doc s (start t))
      (step_kept whole doc (before n) (before (suc (open_after n t))) (after (open_after n t)) s (start t)
      (record { ways = starts n t; empty = λ e. e; done = λ u e. absurd e; fault = λ x e. absurd e })
      (stands_known n s h))

  pub close_counted : (n : ℕ) (s : State Shown) (lt : ℕ) (m : List ℕ) (q : ℕ) → Stands (suc n) s → Counted n (step whole doc s (close lt m q))
  close_counted n s lt m q h =
      known_counted n (step whole doc s (close lt m q))
      (step_kept whole doc (before (suc n)) (before (suc n)) (after n) s (close lt m q)
      (record { ways = shuts n lt m q; empty = λ e. e; done = λ u e. absurd e; fault = λ x e. absurd e })
      (stands_known (suc n) s h))

-- reading goes on while one is open
pub stands_on : (n : ℕ) (s : State Shown) → Stands n s → goes_on s ≡ true
stands_on n begun h = refl
stands_on n (reading fs u) h = refl
stands_on n (accepted u) h = absurd h
stands_on n (refused x) h = absurd h
