-- The comments on the way to all tokens of a document, also after the root and after the first fault, by the same recursion as the
-- tokens: those that reading meets are among them.
use Prim.Native.Nat.{ℕ, zero, suc, ◌+◌, ◌-◌, ◌≤◌, ◌<◌}
use mathlib.Core.Path.{◌≡◌, refl, sym, ◌∙◌}
use mathlib.Core.List.{List, [], ◌∷◌, ◌++◌}
use mathlib.Core.Bool.{Bool, true, false}
use native.Mathlib.Nat.{add-zero}
use native.Mathlib.Omega.{arith}
use lib.ListN.{length, drop}
use Rattle.slices.specs.Bytes.{if}
use Rattle.document.specs.Tags.{Shown}
use Rattle.document.specs.Elements.{among}
use Rattle.document.specs.Tokens.{Token, start, close, fault, end, Next, more, last, next, joined, tokens_from, tokens}
use Rattle.document.specs.Reading.{State, begun, step}
use Rattle.document.specs.Outcome.{whole}
use Rattle.document.proofs.Tests.{never, among_append}
use Rattle.document.proofs.Nexts.{Onward, Reaches, next_reaches}
use Rattle.document.proofs.Places.{next-left}
use Rattle.met.specs.Passed.{passed_from, passed_over}
use Rattle.met.specs.Met.{goes_on, reached, met_tokens, place_after, comments_to, met_comments}

abbrev pub after : Next → (ℕ → List ℕ) → List ℕ
after (more t p) f = f p
after (last t) f = []

-- those on the way to each token, when so many bytes are taken already
abbrev pub comments_from : ℕ → List ℕ → ℕ → List ℕ
comments_from k [] at = []
comments_from zero (b ∷ l) at = passed_from 0 (b ∷ l) at ++ after (next (b ∷ l) at) (λ p. comments_from (p - suc at) l (suc at))
comments_from (suc k) (b ∷ l) at = comments_from k l (suc at)

unfoldable pub comments : List ℕ → List ℕ
comments doc = comments_from 0 doc 0

-- ---- one among two lists

pub among_first : (c : ℕ) (xs ys : List ℕ) → among c xs ≡ true → among c (xs ++ ys) ≡ true
among_first c xs ys e = among_append c xs ys ∙ rw e

pub among_second : (c : ℕ) (xs ys : List ℕ) → among c ys ≡ true → among c (xs ++ ys) ≡ true
among_second c xs ys e = among_append c xs ys ∙ go (among c xs)
  where
    go : (t : Bool) → if t true (among c ys) ≡ true
    go true = refl
    go false = e

-- in the first, or in the second
pub among_either : {P : Type 0} (c : ℕ) (xs ys : List ℕ) → among c (xs ++ ys) ≡ true → (among c xs ≡ true → P) → (among c ys ≡ true → P) → P
among_either {P} c xs ys e f g = go (among c xs) refl (sym (among_append c xs ys) ∙ e)
  where
    go : (t : Bool) → among c xs ≡ t → if t true (among c ys) ≡ true → P
    go true h e = f h
    go false h e = g e

-- ---- those that reading meets

module _ (doc : List ℕ) where
  after_place : (from top : ℕ) (t : Token) (q : ℕ) → Onward from top t q → (place_after t ≡ q) × (from < q) × (q ≤ top)
  after_place from top (start t) q g = (g.after, omega (arith, g.since, g.long), g.within)
  after_place from top (close lt m p) q g = (g.after, omega (arith, g.since, g.long), g.within)
  after_place from top (fault n p) q g = absurd g
  after_place from top (end p) q g = absurd g

  covers : (k : ℕ) (l : List ℕ) (at : ℕ) → drop at doc ≡ l → k ≤ length l → comments_to doc (at + k) (tokens_from k l at) ≡ comments_from k l at
  unfolding passed_over
  covers k [] at e h = let n : at + k ≡ at = omega arith in rw (n, e)
  covers zero (b ∷ l) at e h = rw add-zero (go (next (b ∷ l) at) (next_reaches (b ∷ l) at) (λ k i. covers k l (suc at) (next-left doc at b l e) i))
    where
      go : (n : Next) → Reaches at (at + length (b ∷ l)) n → ((k : ℕ) → k ≤ length l → comments_to doc (suc at + k) (tokens_from k l (suc at)) ≡ comments_from k l (suc at)) → comments_to doc at (joined n (λ p. tokens_from (p - suc at) l (suc at))) ≡ passed_from 0 (b ∷ l) at ++ after n (λ p. comments_from (p - suc at) l (suc at))
      go (more t q) g i =
          let v = after_place at (at + length (b ∷ l)) t q g in
          let n : suc at + (q - suc at) ≡ place_after t = omega (arith, v) in
          rw (e, ← n, i (q - suc at) (omega (arith, v)))
      go (last t) g i = rw e
  covers (suc k) (b ∷ l) at e h =
      let n : suc at + k ≡ at + suc k = omega arith in
      rw (← n) (covers k l (suc at) (next-left doc at b l e) (omega arith))

  module _ (c : ℕ) where
    -- those on the way to the tokens that reading comes to
    reached_among : (s : State Shown) (at : ℕ) (ts : List Token) → among c (comments_to doc at (reached doc s ts)) ≡ true → among c (comments_to doc at ts) ≡ true
    reached_among s at [] e = never e
    reached_among s at (t ∷ ts) e = go (goes_on s) e (λ f. reached_among (step whole doc s t) (place_after t) ts f)
      where
        now : List ℕ
        now = passed_over (drop at doc) at

        go : (b : Bool) → among c (comments_to doc at (if b (t ∷ reached doc (step whole doc s t) ts) [])) ≡ true → (among c (comments_to doc (place_after t) (reached doc (step whole doc s t) ts)) ≡ true → among c (comments_to doc (place_after t) ts) ≡ true) → among c (now ++ comments_to doc (place_after t) ts) ≡ true
        go true e i =
            among_either c now (comments_to doc (place_after t) (reached doc (step whole doc s t) ts)) e
            (λ f. among_first c now (comments_to doc (place_after t) ts) f)
            (λ f. among_second c now (comments_to doc (place_after t) ts) (i f))
        go false e i = never e

    pub met_among : among c (met_comments doc) ≡ true → among c (comments doc) ≡ true
    unfolding met_tokens tokens comments
    met_among e = rw (covers 0 doc 0 refl (omega arith)) at (reached_among begun 0 (tokens doc 0) e)
