-- The attributes of a tag: they lie in the document, one after another, so that the texts of all their values together are
-- no longer than what has been read; and the faults in them.
use Prim.Native.Nat.{ℕ, zero, suc, ◌+◌, ◌≤◌}
use mathlib.Core.Path.{◌≡◌, refl}
use mathlib.Core.List.{List, [], ◌∷◌}
use native.Mathlib.Omega.{arith}
use lib.Dec.{eqb}
use lib.ListN.{length}
use Rattle.slices.specs.Bytes.{other, span, past, empty}
use Rattle.scan.specs.Classes.{white, name_byte}
use Rattle.scan.specs.Ignorable.{quote}
use Rattle.answers.specs.Text.{Text, text, wrong}
use Rattle.references.specs.Unescape.{unescape}
use Rattle.references.proofs.Shapes.{unescape_short}
use Rattle.document.specs.Tags.{Attr, Found, absent, found, close_quote, open_quote, equals, named, spaced, attribute, Gathered, gathered, too_many, with, another, no_more, gather, Shown, Checked, good, also, member, check}
use Rattle.document.specs.Tags as tags
use Rattle.document.proofs.Tests.{either}
use Rattle.document.proofs.Branches.{span_past, Number}
use Rattle.document.proofs.Unescapes.{Told, unescape_told, faulty_number}

-- the number and place of a fault met while reading
pub record Met (top n p : ℕ) : Type 0 where
  pub number : Number n
  pub place : p ≤ top

-- how long the raw values are together, and the texts that they show
abbrev pub raw_total : List Attr → ℕ
raw_total [] = 0
raw_total (a ∷ xs) = length a.raw + raw_total xs

abbrev pub text_total : List Shown → ℕ
text_total [] = 0
text_total (s ∷ ss) = length s.value + text_total ss

-- an attribute lies in the document
pub record Lies (top : ℕ) (a : Attr) : Type 0 where
  pub name : a.at ≤ top
  pub value : a.valued + length a.raw ≤ top

abbrev pub AllLie : ℕ → List Attr → Type 0
AllLie top [] = Unit {0}
AllLie top (a ∷ xs) = Lies top a × AllLie top xs

-- ---- one attribute

-- an attribute that is looked for from a place on, what follows it, and the place there
pub record Standing (from top : ℕ) (a : Attr) (l : List ℕ) (p : ℕ) : Type 0 where
  pub rest : p + length l ≡ top
  pub moved : from + length a.raw ≤ p
  pub lies : Lies top a

abbrev Finds : ℕ → ℕ → Found → Type 0
Finds from top absent = Unit {0}
Finds from top (found a l p) = Standing from top a l p

module _ (from top : ℕ) where
  close_finds : (a : Attr) (l : List ℕ) (p : ℕ) → a.at ≤ p → a.valued + length a.raw ≤ p → from + length a.raw ≤ p → p + length l ≡ top → Finds from top (close_quote a l p)
  close_finds a [] p h i j e = tt
  close_finds a (b ∷ l) p h i j e = record { rest = omega arith; moved = omega arith; lies = record { name = omega arith; value = omega arith } }

  open_finds : (at : ℕ) (n l : List ℕ) (p : ℕ) → at ≤ p → from ≤ p → p + length l ≡ top → Finds from top (open_quote at n l p)
  open_finds at n [] p h i e = tt
  open_finds at n (q ∷ l) p h i e =
      let s = span_past (other q) l in
      either (Finds from top) (quote q)
      (λ t. close_finds (record { at = at; name = n; valued = suc p; raw = span (other q) l }) (past (other q) l) (suc p + length (span (other q) l)) (omega arith) (omega arith) (omega arith) (omega arith))
      (λ t. tt)

  equals_finds : (at : ℕ) (n l : List ℕ) (p : ℕ) → at ≤ p → from ≤ p → p + length l ≡ top → Finds from top (equals at n l p)
  equals_finds at n [] p h i e = tt
  equals_finds at n (b ∷ l) p h i e =
      let s = span_past white l in
      either (Finds from top) (eqb b 61)
      (λ t. open_finds at n (past white l) (suc p + length (span white l)) (omega arith) (omega arith) (omega arith))
      (λ t. tt)

  named_finds : (at : ℕ) (n l : List ℕ) (p : ℕ) → at ≤ p → from ≤ p → p + length l ≡ top → Finds from top (named at n l p)
  named_finds at n l p h i e =
      let s = span_past white l in
      either (Finds from top) (empty n)
      (λ t. tt)
      (λ t. equals_finds at n (past white l) (p + length (span white l)) (omega arith) (omega arith) (omega arith))

  spaced_finds : (w l : List ℕ) (at : ℕ) → from ≤ at → at + length l ≡ top → Finds from top (spaced w l at)
  spaced_finds w l at i e =
      let s = span_past name_byte l in
      either (Finds from top) (empty w)
      (λ t. tt)
      (λ t. named_finds at (span name_byte l) (past name_byte l) (at + length (span name_byte l)) (omega arith) (omega arith) (omega arith))

attribute_finds : (top : ℕ) (l : List ℕ) (at : ℕ) → at + length l ≡ top → Finds at top (attribute l at)
unfolding attribute
attribute_finds top l at e =
    let s = span_past white l in
    spaced_finds at top (span white l) (past white l) (at + length (span white l)) (omega arith) (omega arith)

-- ---- all of them

pub record Gathering (from top : ℕ) (xs : List Attr) (l : List ℕ) (p : ℕ) : Type 0 where
  pub rest : p + length l ≡ top
  pub moved : from + raw_total xs ≤ p
  pub lie : AllLie top xs

abbrev pub Gathers : ℕ → ℕ → Gathered → Type 0
Gathers from top (gathered xs l p) = Gathering from top xs l p
Gathers from top (too_many p) = p ≤ top

module _ (top : ℕ) where
  with_gathers : (from : ℕ) (a : Attr) (l : List ℕ) (p : ℕ) (g : Gathered) → Standing from top a l p → Gathers p top g → Gathers from top (with a g)
  with_gathers from a l p (gathered xs m q) s h = record { rest = h.rest; moved = omega arith; lie = (s.lies, h.lie) }
  with_gathers from a l p (too_many q) s h = h

  pub gather_within : (n : ℕ) (l : List ℕ) (at : ℕ) → at + length l ≡ top → Gathers at top (gather n l at)
  unfolding gather
  gather_within zero l at e = go (attribute l at) (attribute_finds top l at e)
    where
      go : (f : Found) → Finds at top f → Gathers at top (no_more f l at)
      go absent h = record { rest = e; moved = omega arith; lie = tt }
      go (found a m p) h = h.lies.name
  gather_within (suc n) l at e = go (attribute l at) (attribute_finds top l at e) (gather_within n)
    where
      go : (f : Found) → Finds at top f → ((m : List ℕ) (p : ℕ) → p + length m ≡ top → Gathers p top (gather n m p)) → Gathers at top (another f l at (λ m p. gather n m p))
      go absent h i = record { rest = e; moved = omega arith; lie = tt }
      go (found a m p) h i = with_gathers at a m p (gather n m p) h (i m p h.rest)

  -- ---- their names and values

  abbrev pub Checks : List Attr → Checked → Type 0
  Checks xs (good ss) = text_total ss ≤ raw_total xs
  Checks xs (tags.fault n p) = Met top n p

  also_checks : (a : Attr) (xs : List Attr) (t : Text) (c : Checked) → Lies top a → unescape a.raw ≡ t → Told a.raw t → Checks xs c → Checks (a ∷ xs) (also a t c)
  also_checks a xs (wrong n p) c l e h i = record { number = faulty_number h.1; place = omega (arith, h.0, l.value) }
  also_checks a xs (text t) (good ss) l e h i = omega (arith, unescape_short a.raw t e)
  also_checks a xs (text t) (tags.fault n p) l e h i = i

  pub check_within : (seen : List (List ℕ)) (xs : List Attr) → AllLie top xs → Checks xs (check seen xs)
  check_within seen [] h = omega arith
  check_within seen (a ∷ xs) h =
      either (Checks (a ∷ xs)) (member a.name seen)
      (λ t. record { number = refl; place = h.0.name })
      (λ t. also_checks a xs (unescape a.raw) (check (a.name ∷ seen) xs) h.0 refl (unescape_told a.raw) (check_within (a.name ∷ seen) xs h.1))
