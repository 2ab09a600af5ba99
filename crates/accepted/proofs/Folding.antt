-- What every step keeps holds of the tables of a document that is accepted; and such a document is small, and UTF-8.
use Prim.Native.Nat.{ℕ}
use mathlib.Core.Path.{◌≡◌, refl}
use mathlib.Core.List.{List, [], ◌∷◌}
use mathlib.Core.Bool.{Bool, true, false}
use borrow.Author.Tests.{ltb-false}
use native.Mathlib.Omega.{arith}
use lib.Dec.{ltb}
use lib.ListN.{length}
use Rattle.slices.specs.Bytes.{if}
use Rattle.utf8.specs.WellFormed.{ill_formed}
use Rattle.utf8.proofs.Texts.{bounded}
use Rattle.document.specs.Tags.{Shown}
use Rattle.document.specs.Tokens.{Token, tokens}
use Rattle.document.specs.Rows.{Tables}
use Rattle.document.specs.Refusals.{bare}
use Rattle.document.specs.Reading.{State, begun, accepted, refused, step, fold, run}
use Rattle.document.specs.Whole.{meaning}
use Rattle.document.specs.Outcome.{Sound, whole}
use Rattle.document.proofs.Steps.{Known, Kept, Ways, step_kept}
use Rattle.accepted.proofs.Tokens.{Comes, AllCome, tokens_come}

module _ (doc : List ℕ) (i : Known Shown) (ways : (t : Token) → Comes doc t → Ways whole doc i i i t) (empty : i.first → i.inside [] (record { rows = []; warnings = [] })) where
  fold_kept : (s : State Shown) (ts : List Token) → AllCome doc ts → Kept i s → Kept i (fold whole doc s ts)
  fold_kept s [] c h = h
  fold_kept s (t ∷ ts) c h =
      fold_kept (step whole doc s t) ts c.1
      (step_kept whole doc i i i s t (record { ways = ways t c.0; empty = empty; done = λ u h. h; fault = λ x h. h }) h)

  pub run_kept : i.first → Kept i (run whole doc 0 begun)
  unfolding run
  run_kept h = fold_kept begun (tokens doc 0) (tokens_come doc) h

-- a document that is accepted
pub record Accepts (doc : List ℕ) (u : Tables Shown) : Type 0 where
  pub sound : Sound doc
  pub reads : run whole doc 0 begun ≡ accepted u

pub meaning_accepts : (doc : List ℕ) (u : Tables Shown) → meaning doc ≡ accepted u → Accepts doc u
unfolding meaning
meaning_accepts doc u e = go (ltb 1048576 (length doc)) (ltb (ill_formed doc) (length doc)) refl refl e
  where
    go : (a b : Bool) → ltb 1048576 (length doc) ≡ a → ltb (ill_formed doc) (length doc) ≡ b → if a (refused (bare 2 1048576)) (if b (refused (bare 1 (ill_formed doc))) (run whole doc 0 begun)) ≡ accepted u → Accepts doc u
    go true b f g e = let z : ◌≡◌ {A = ℕ} 0 1 = cc in absurd (omega arith)
    go false true f g e = let z : ◌≡◌ {A = ℕ} 0 1 = cc in absurd (omega arith)
    go false false f g e = record {
      sound = record { small = ltb-false 1048576 (length doc) f; utf8 = omega (arith, ltb-false (ill_formed doc) (length doc) g, bounded doc) };
      reads = e;
    }
