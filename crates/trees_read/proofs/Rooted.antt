-- The tables of a document that is accepted have a row, the root's.
use Prim.Native.Nat.{ℕ, zero, suc, ◌<◌}
use mathlib.Core.List.{List, [], ◌∷◌, ◌++◌}
use native.Mathlib.Omega.{arith}
use lib.ListN.{length, take, length-append}
use Rattle.document.specs.Kinds.{definitions}
use Rattle.document.specs.Tags.{Shown}
use Rattle.document.specs.Tokens.{Tag, Token, start, close, fault, end, tokens}
use Rattle.document.specs.Rows.{Doc, Row, Tables, documented}
use Rattle.document.specs.Elements.{among}
use Rattle.document.specs.Reading.{Frame, element, definition, passing, State, begun, reading, accepted, refused, noted, frame_of, step, fold, run}
use Rattle.document.specs.Outcome.{whole}
use Rattle.document.proofs.Tests.{either}
use Rattle.document.proofs.Steps.{noted_keeps, Begins, Known, Kept, Closes, Ways, step_kept}
use Rattle.rows.proofs.Words.{length_documented}
use Rattle.accepted.proofs.Folding.{Accepts}

-- an open definition is not row 0
abbrev Later : List Frame → Type 0
Later [] = Unit {0}
Later (element k n r ∷ fs) = Later fs
Later (definition d ∷ fs) = (0 < d.row) × Later fs
Later (passing p ns ∷ fs) = Later fs

abbrev Rooted : List Frame → List (Row Shown) → Type 0
Rooted fs rs = (0 < length rs) × Later fs

-- before the root, nothing is known; inside it, what is known after a token
abbrev Before : List Frame → List (Row Shown) → Type 0
Before [] rs = Unit {0}
Before (f ∷ fs) rs = Rooted (f ∷ fs) rs

before : Known Shown
before = record { first = Unit {0}; inside = λ fs u. Before fs u.rows; done = λ u. 0 < length u.rows; fault = λ x. Unit {0} }

after : Known Shown
after = record { first = Unit {0}; inside = λ fs u. Rooted fs u.rows; done = λ u. 0 < length u.rows; fault = λ x. Unit {0} }

noted_later : (k : ℕ) (t : Tag) (fs : List Frame) → Later fs → Later (noted k t fs)
noted_later k t = noted_keeps Later k t (λ d gs h. h)

row_rooted : (k : ℕ) (t : Tag) (r : Row Shown) (fs : List Frame) (rs : List (Row Shown)) → Begins (length rs) k fs → Before fs rs → Rooted (frame_of k t (length rs) ∷ noted k t fs) (rs ++ r ∷ [])
row_rooted k t r [] rs b h = rw b.1 (omega (arith, length-append rs (r ∷ [])), tt)
row_rooted k t r (f ∷ fs) rs b h = (
  omega (arith, length-append rs (r ∷ []), h.0),
  either (λ (g : Frame). Later (g ∷ noted k t (f ∷ fs))) (among k definitions)
      (λ c. (h.0, noted_later k t (f ∷ fs) h.1))
      (λ c. noted_later k t (f ∷ fs) h.1),
)

take_some : (n : ℕ) (rs : List (Row Shown)) → 0 < n → 0 < length rs → 0 < length (take n rs)
take_some zero rs l m = absurd (omega arith)
take_some (suc n) [] l m = absurd (omega arith)
take_some (suc n) (r ∷ rs) l m = omega arith

documented_rooted : (r : ℕ) (d : Doc) (fs : List Frame) (rs : List (Row Shown)) → Rooted fs rs → Rooted fs (documented r d rs)
documented_rooted r d fs rs h = (omega (arith, length_documented d r rs, h.0), h.1)

module _ (doc : List ℕ) where
  closes : Closes whole doc before after
  unfolding before after
  closes = record {
    element = λ k n r fs u h. (h.0, h.1);
    whole = λ d fs u e h. (h.0, h.1.1);
    broken = λ d fs u e h. (take_some d.row u.rows h.1.0 h.0, h.1.1);
    root = λ u h. h.0;
  }

  ways : (t : Token) → Ways whole doc before before after t
  unfolding before after
  ways (start t) = record {
    closes = closes;
    moves = λ f fs u c h. h;
    row = λ k r fs u c b n e d h. row_rooted k t r fs u.rows b h;
    own_row = λ k r fs u c b n e h. row_rooted k t r fs u.rows b h;
    refusal = λ k p x e. tt;
    deep = tt;
    warning = λ f fs u c h. h;
    skips = λ f fs u c r h. (h.0, h.1);
    docstring = λ f fs u c d h. (h.0, h.1);
    within = λ p ns fs u c d h. (h.0, h.1);
  }
  ways (close lt n q) = record {
    closes = closes;
    passed = λ p ns fs u l h. (h.0, h.1);
    docstring = λ s r ns fs u l e h. documented_rooted r _ fs u.rows (h.0, h.1);
    within = λ p n ns fs u l e h. (h.0, h.1);
    another = λ f fs u h. tt;
    none = tt;
  }
  ways (fault n p) = tt
  ways (end p) = (tt, λ f fs u h. tt)

  step_rooted : (s : State Shown) (t : Token) → Kept before s → Kept after (step whole doc s t)
  unfolding before after
  step_rooted s t h = step_kept whole doc before before after s t (record { ways = ways t; empty = λ h. tt; done = λ u h. h; fault = λ x h. tt }) h

  -- before the next token
  on : (s : State Shown) → Kept after s → Kept before s
  unfolding before after
  on begun h = tt
  on (reading [] u) h = h
  on (reading (f ∷ fs) u) h = h
  on (accepted u) h = h
  on (refused x) h = tt

  fold_rooted : (s : State Shown) (ts : List Token) → Kept before s → Kept before (fold whole doc s ts)
  fold_rooted s [] h = h
  fold_rooted s (t ∷ ts) h = fold_rooted (step whole doc s t) ts (on (step whole doc s t) (step_rooted s t h))

  run_rooted : Kept before (run whole doc 0 begun)
  unfolding run before
  run_rooted = fold_rooted begun (tokens doc 0) tt

  pub accepts_rooted : {u : Tables Shown} → Accepts doc u → 0 < length u.rows
  unfolding before
  accepts_rooted a = rw a.reads at run_rooted
