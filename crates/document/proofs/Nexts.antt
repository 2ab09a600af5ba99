-- The next token from a place on: where it ends, how long it is at least, and how long the texts in it are at most.
use Prim.Native.Nat.{ℕ, suc, ◌+◌, ◌-◌, ◌≤◌, ◌<◌}
use mathlib.Core.Path.{◌≡◌, refl}
use mathlib.Core.List.{List, [], ◌∷◌}
use mathlib.Core.Bool.{true}
use native.Mathlib.Omega.{arith}
use lib.Dec.{eqb}
use lib.ListN.{length, drop, length-drop}
use Rattle.std.specs.Prelude.{Result, Ok, Err}
use Rattle.faults.specs.declared.Fault.{Fault}
use Rattle.slices.specs.Bytes.{span, past, empty}
use Rattle.slices.proofs.Ends.{not_empty}
use Rattle.scan.specs.Classes.{white, name_byte}
use Rattle.scan.specs.Ignorable.{ignorable}
use Rattle.document.specs.Tags.{Attr, Gathered, gathered, too_many, gather, Shown, Checked, good, check}
use Rattle.document.specs.Tags as tags
use Rattle.document.specs.Tokens.{Tag, Token, start, close, fault, end, Next, more, last, slash_end, tag_end, with_shown, with_attrs, opening, close_end, closing, tag, tag_or_end, past_ignorable, next}
use Rattle.document.specs.Elements.{among}
use Rattle.document.specs.Refusals.{faults}
use Rattle.document.proofs.Tests.{either, among_all}
use Rattle.document.proofs.Branches.{span_past}
use Rattle.document.proofs.Ignorables.{Scanned, ignorable_within}
use Rattle.document.proofs.Attributes.{Met, raw_total, text_total, Gathers, gather_within, Checks, check_within}

-- a start tag that is looked for from a place on, and the place after it: `<`, a name, `>` or `/>`
pub record Starts (from top : ℕ) (t : Tag) (q : ℕ) : Type 0 where
  pub since : from ≤ t.at
  pub long : t.at + 3 ≤ q
  pub self : t.self ≡ true → t.at + 4 ≤ q
  pub after : t.after ≡ q
  pub text : t.at + text_total t.attrs < q
  pub within : q ≤ top

-- a closing tag: `</`, a name, `>`
pub record Closes (from top lt p q : ℕ) : Type 0 where
  pub since : from ≤ lt
  pub long : lt + 4 ≤ q
  pub after : p ≡ q
  pub within : q ≤ top

-- a token after which more is read, and one after which nothing is
abbrev pub Onward : ℕ → ℕ → Token → ℕ → Type 0
Onward from top (start t) q = Starts from top t q
Onward from top (close lt m p) q = Closes from top lt p q
Onward from top (fault n p) q = ⊥
Onward from top (end p) q = ⊥

pub moves_on : (at top : ℕ) (t : Token) (q : ℕ) → Onward at top t q → (at < q) × (q ≤ top)
moves_on at top (start t) q g = (omega (arith, g.since, g.long), g.within)
moves_on at top (close lt n p) q g = (omega (arith, g.since, g.long), g.within)
moves_on at top (fault n p) q g = absurd g
moves_on at top (end p) q g = absurd g

abbrev pub Ended : ℕ → Token → Type 0
Ended top (start t) = ⊥
Ended top (close lt m p) = ⊥
Ended top (fault n p) = Met top n p
Ended top (end p) = p ≡ top

abbrev pub Reaches : ℕ → ℕ → Next → Type 0
Reaches from top (more t q) = Onward from top t q
Reaches from top (last t) = Ended top t

module _ (from top : ℕ) where
  -- fault 4
  markup : {p : ℕ} → p ≤ top → Met top 4 p
  markup h = record { number = refl; place = h }

  module _ (at : ℕ) (n : List ℕ) (h : from ≤ at) where
    module _ (xs : List Shown) where
      slash_reaches : (l : List ℕ) (p : ℕ) → at + 2 ≤ p → at + text_total xs ≤ p → suc p + length l ≡ top → Reaches from top (slash_end at n xs l p)
      slash_reaches [] p i j e = markup (omega arith)
      slash_reaches (b ∷ l) p i j e =
          either (Reaches from top) (eqb b 62)
          (λ t. record { since = h; long = omega arith; self = λ s. omega arith; after = refl; text = omega arith; within = omega arith })
          (λ t. markup (omega arith))

      end_reaches : (l : List ℕ) (p : ℕ) → at + 2 ≤ p → at + text_total xs ≤ p → p + length l ≡ top → Reaches from top (tag_end at n xs l p)
      end_reaches [] p i j e = markup (omega arith)
      end_reaches (b ∷ l) p i j e =
          either (Reaches from top) (eqb b 62)
          (λ t. record { since = h; long = omega arith; self = λ s. let z : ◌≡◌ {A = ℕ} 0 1 = cc in absurd (omega arith); after = refl; text = omega arith; within = omega arith })
          (λ t. either (Reaches from top) (eqb b 47) (λ t. slash_reaches l p i j (omega arith)) (λ t. markup (omega arith)))

    shown_reaches : (ys : List Attr) (c : Checked) (l : List ℕ) (p : ℕ) → at + 2 ≤ p → at + raw_total ys ≤ p → p + length l ≡ top → Checks top ys c → Reaches from top (with_shown at n c l p)
    shown_reaches ys (tags.fault k q) l p i j e c = c
    shown_reaches ys (good xs) l p i j e c = let s = span_past white l in end_reaches xs (past white l) (p + length (span white l)) (omega arith) (omega arith) (omega arith)

    attrs_reach : (g : Gathered) (f : ℕ) → at + 2 ≤ f → Gathers f top g → Reaches from top (with_attrs at n g)
    attrs_reach (gathered xs l p) f i g = shown_reaches xs (check [] xs) l p (omega arith) (omega arith) g.rest (check_within top [] xs g.lie)
    attrs_reach (too_many p) f i g = record { number = refl; place = g }

  pub opening_reaches : (l : List ℕ) (at : ℕ) → from ≤ at → suc at + length l ≡ top → Reaches from top (opening l at)
  unfolding opening
  opening_reaches l at h e =
      let n = span name_byte l in
      let s = span_past name_byte l in
      either (Reaches from top) (empty n)
      (λ t. markup (omega arith))
      (λ t.
      let m = not_empty n t in
      attrs_reach at n h (gather 256 (past name_byte l) (suc at + length n)) (suc at + length n) (omega arith) (gather_within top 256 (past name_byte l) (suc at + length n) (omega arith)))

  close_reaches : (at : ℕ) (n l : List ℕ) (p : ℕ) → from ≤ at → at + 3 ≤ p → p + length l ≡ top → Reaches from top (close_end at n l p)
  close_reaches at n [] p h i e = markup (omega arith)
  close_reaches at n (b ∷ l) p h i e =
      either (Reaches from top) (eqb b 62)
      (λ t. record { since = h; long = omega arith; after = refl; within = omega arith })
      (λ t. markup (omega arith))

  closing_reaches : (l : List ℕ) (at : ℕ) → from ≤ at → suc (suc at) + length l ≡ top → Reaches from top (closing l at)
  unfolding closing
  closing_reaches l at h e =
      let n = span name_byte l in
      let m = past name_byte l in
      let s = span_past name_byte l in
      let w = span_past white m in
      either (Reaches from top) (empty n)
      (λ t. markup (omega arith))
      (λ t.
      let k = not_empty n t in
      close_reaches at n (past white m) (suc (suc at) + length n + length (span white m)) h (omega arith) (omega arith))

  tag_reaches : (l : List ℕ) (at : ℕ) → from ≤ at → suc at + length l ≡ top → Reaches from top (tag l at)
  tag_reaches [] at h e = markup (omega arith)
  tag_reaches (b ∷ l) at h e =
      either (Reaches from top) (eqb b 47) (λ t. closing_reaches l at h (omega arith)) (λ t. opening_reaches (b ∷ l) at h e)

  tag_or_end_reaches : (l : List ℕ) (p : ℕ) → from ≤ p → p + length l ≡ top → Reaches from top (tag_or_end l p)
  tag_or_end_reaches [] p h e = omega arith
  tag_or_end_reaches (b ∷ l) p h e = tag_reaches l p h (omega arith)

pub next_reaches : (l : List ℕ) (at : ℕ) → Reaches at (at + length l) (next l at)
unfolding next
next_reaches l at = go (ignorable l at) (ignorable_within l at)
  where
    go : (s : Result ℕ Fault) → Scanned at (at + length l) s → Reaches at (at + length l) (past_ignorable s l at)
    go (Err f) h = record { number = among_all (λ m. among m faults) f.number (22 ∷ 23 ∷ 24 ∷ 25 ∷ []) refl h.0; place = h.1 }
    go (Ok p) h = tag_or_end_reaches at (at + length l) (drop (p - at) l) p h.0 (rw length-drop (omega (arith, h)))
