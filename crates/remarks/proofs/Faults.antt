-- Where the next token stands that is looked for from a place on: a fault no earlier than there, and the name of a closing tag within
-- the tag.
use Prim.Native.Nat.{ℕ, zero, suc, ◌+◌, ◌-◌, ◌≤◌}
use mathlib.Core.List.{List, [], ◌∷◌}
use native.Mathlib.Omega.{arith}
use lib.Dec.{eqb}
use lib.ListN.{length, drop}
use Rattle.std.specs.Prelude.{Result, Ok, Err}
use Rattle.faults.specs.declared.Fault.{Fault}
use Rattle.slices.specs.Bytes.{bytes, other, span, past, empty, starts}
use Rattle.scan.specs.Classes.{white, name_byte}
use Rattle.scan.specs.Ignorable.{declared, Mode, bare, quoted, quote, changed, ends, declaration_in, markup, seek, further, ignorable_from, ignorable, ignored}
use Rattle.scan.specs.declared.Markup.{Markup}
use Rattle.scan.specs.declared.Markup.TheVariants.{Tag, Ignored}
use Rattle.answers.specs.Text.{Text, text, wrong}
use Rattle.references.specs.Unescape.{unescape}
use Rattle.document.specs.Tags.{Attr, Found, absent, found, close_quote, open_quote, equals, attribute, Gathered, gathered, too_many, with, another, no_more, gather, Shown, Checked, good, also, member, check}
use Rattle.document.specs.Tags as tags
use Rattle.document.specs.Tokens.{start, close, fault, end, Next, more, last, slash_end, tag_end, with_shown, with_attrs, opening, close_end, closing, tag, tag_or_end, past_ignorable, next}
use Rattle.document.proofs.Tests.{either}
use Rattle.document.proofs.Ignorables.{Scanned, ignorable_within}

abbrev pub Lies : ℕ → Next → Type 0
Lies from (more (start t) q) = Unit {0}
Lies from (more (close lt m p) q) = suc (suc lt) + length m ≤ q
Lies from (more (fault n p) q) = Unit {0}
Lies from (more (end p) q) = Unit {0}
Lies from (last (start t)) = Unit {0}
Lies from (last (close lt m p)) = Unit {0}
Lies from (last (fault n p)) = from ≤ p
Lies from (last (end p)) = Unit {0}

module _ (from : ℕ) where
  -- ---- what is ignorable

  abbrev Since : Result ℕ Fault → Type 0
  Since (Err f) = from ≤ f.place
  Since (Ok p) = Unit {0}

  seek_since : (n : ℕ) (key : List ℕ) (c : ℕ) (l : List ℕ) (p : ℕ) → from ≤ c → Since (seek n key c l p)
  seek_since n key c [] p h = h
  seek_since n key c (b ∷ l) p h = either Since (starts key (b ∷ l)) (λ t. tt) (λ t. seek_since n key c l (suc p) h)

  abbrev BegunSince : Mode → Type 0
  BegunSince (bare d) = Unit {0}
  BegunSince (quoted d q c) = from ≤ c

  changed_since : (m : Mode) (b p : ℕ) → from ≤ p → BegunSince m → BegunSince (changed m b p)
  changed_since (bare d) b p h i =
      either BegunSince (quote b) (λ t. omega arith) (λ t. either BegunSince (eqb b 91) (λ t. tt) (λ t. either BegunSince (eqb b 93) (λ t. tt) (λ t. tt)))
  changed_since (quoted d q c) b p h i = either BegunSince (eqb b q) (λ t. tt) (λ t. i)

  declaration_since : (m : Mode) (l : List ℕ) (p : ℕ) → from ≤ p → BegunSince m → Since (declaration_in m l p)
  declaration_since (bare d) [] p h i = h
  declaration_since (quoted d q c) [] p h i = i
  declaration_since m (b ∷ l) p h i =
      either Since (ends m b) (λ t. tt) (λ t. declaration_since (changed m b p) l (suc p) (omega arith) (changed_since m b p h i))

  abbrev MarkSince : Result Markup Fault → Type 0
  MarkSince (Ok Tag) = Unit {0}
  MarkSince (Ok (Ignored p)) = Since (Ok p)
  MarkSince (Err f) = Since (Err f)

  marked : (x : Result ℕ Fault) → Since x → MarkSince (ignored x)
  marked (Ok p) h = h
  marked (Err f) h = h

  markup_since : (l : List ℕ) (at : ℕ) → from ≤ at → MarkSince (markup l at)
  markup_since [] at h = tt
  markup_since (b ∷ l) at h =
      either MarkSince (eqb b 33)
      (λ t. marked (declared l at) (either Since (starts (bytes "--") l)
      (λ t. seek_since 22 (bytes "-->") (at + 4) (drop 2 l) (at + 4) (omega arith))
      (λ t. either Since (starts (bytes "[CDATA[") l)
      (λ t. seek_since 23 (bytes "]]>") (at + 9) (drop 7 l) (at + 9) (omega arith))
      (λ t. declaration_since (bare 0) l (at + 2) (omega arith) tt))))
      (λ t. either MarkSince (eqb b 63) (λ t. marked (seek 24 (bytes "?>") (at + 2) l (at + 2)) (seek_since 24 (bytes "?>") (at + 2) l (at + 2) (omega arith))) (λ t. tt))

  ignorable_since : (k : ℕ) (l : List ℕ) (at : ℕ) → from ≤ at → Since (ignorable_from k l at)
  ignorable_since k [] at h = tt
  ignorable_since (suc k) (b ∷ l) at h = ignorable_since k l (suc at) (omega arith)
  ignorable_since zero (b ∷ l) at h =
      either Since (eqb b 60)
      (λ t. go (markup l at) (markup_since l at h) (λ k. ignorable_since k l (suc at) (omega arith)))
      (λ t. ignorable_since 0 l (suc at) (omega arith))
    where
      go : (m : Result Markup Fault) → MarkSince m → ((k : ℕ) → Since (ignorable_from k l (suc at))) → Since (further m at (λ p. ignorable_from (p - suc at) l (suc at)))
      go (Ok Tag) w i = tt
      go (Err f) w i = w
      go (Ok (Ignored p)) w i = i (p - suc at)

  -- ---- attributes

  abbrev AttrSince : Attr → Type 0
  AttrSince a = (from ≤ a.at) × (from ≤ a.valued)

  abbrev Finds : Found → Type 0
  Finds absent = Unit {0}
  Finds (found a l p) = AttrSince a × (from ≤ p)

  close_finds : (a : Attr) (l : List ℕ) (p : ℕ) → AttrSince a → from ≤ p → Finds (close_quote a l p)
  close_finds a [] p h i = tt
  close_finds a (b ∷ l) p h i = (h, omega arith)

  open_finds : (at : ℕ) (n l : List ℕ) (p : ℕ) → from ≤ at → from ≤ p → Finds (open_quote at n l p)
  open_finds at n [] p h i = tt
  open_finds at n (q ∷ l) p h i =
      either Finds (quote q)
      (λ t. close_finds (record { at = at; name = n; valued = suc p; raw = span (other q) l }) (past (other q) l) (suc p + length (span (other q) l)) (h, omega arith) (omega arith))
      (λ t. tt)

  equals_finds : (at : ℕ) (n l : List ℕ) (p : ℕ) → from ≤ at → from ≤ p → Finds (equals at n l p)
  equals_finds at n [] p h i = tt
  equals_finds at n (b ∷ l) p h i =
      either Finds (eqb b 61) (λ t. open_finds at n (past white l) (suc p + length (span white l)) h (omega arith)) (λ t. tt)

  attribute_finds : (l : List ℕ) (at : ℕ) → from ≤ at → Finds (attribute l at)
  unfolding attribute
  attribute_finds l at h =
      let m = past white l in
      let p = at + length (span white l) in
      let k = past name_byte m in
      let q = p + length (span name_byte m) in
      either Finds (empty (span white l))
      (λ t. tt)
      (λ t. either Finds (empty (span name_byte m)) (λ t. tt) (λ t. equals_finds p (span name_byte m) (past white k) (q + length (span white k)) (omega arith) (omega arith)))

  abbrev AllSince : List Attr → Type 0
  AllSince [] = Unit {0}
  AllSince (a ∷ xs) = AttrSince a × AllSince xs

  abbrev Gathers : Gathered → Type 0
  Gathers (gathered xs l p) = AllSince xs × (from ≤ p)
  Gathers (too_many p) = from ≤ p

  with_gathers : (a : Attr) (g : Gathered) → AttrSince a → Gathers g → Gathers (with a g)
  with_gathers a (gathered xs m q) s h = ((s, h.0), h.1)
  with_gathers a (too_many q) s h = h

  gather_since : (n : ℕ) (l : List ℕ) (at : ℕ) → from ≤ at → Gathers (gather n l at)
  unfolding gather
  gather_since zero l at h = go (attribute l at) (attribute_finds l at h)
    where
      go : (f : Found) → Finds f → Gathers (no_more f l at)
      go absent i = (tt, h)
      go (found a m p) i = i.0.0
  gather_since (suc n) l at h = go (attribute l at) (attribute_finds l at h) (gather_since n)
    where
      go : (f : Found) → Finds f → ((m : List ℕ) (p : ℕ) → from ≤ p → Gathers (gather n m p)) → Gathers (another f l at (λ m p. gather n m p))
      go absent i j = (tt, h)
      go (found a m p) i j = with_gathers a (gather n m p) i.0 (j m p i.1)

  abbrev Checks : Checked → Type 0
  Checks (good ss) = Unit {0}
  Checks (tags.fault n p) = from ≤ p

  also_since : (a : Attr) (t : Text) (c : Checked) → AttrSince a → Checks c → Checks (also a t c)
  also_since a (wrong n p) c s h = omega (arith, s.1)
  also_since a (text t) (good ss) s h = tt
  also_since a (text t) (tags.fault n p) s h = h

  check_since : (seen : List (List ℕ)) (xs : List Attr) → AllSince xs → Checks (check seen xs)
  check_since seen [] h = tt
  check_since seen (a ∷ xs) h =
      either Checks (member a.name seen)
      (λ t. h.0.0)
      (λ t. also_since a (unescape a.raw) (check (a.name ∷ seen) xs) h.0 (check_since (a.name ∷ seen) xs h.1))

  -- ---- tags

  end_lies : (at : ℕ) (n : List ℕ) (xs : List Shown) (l : List ℕ) (p : ℕ) → from ≤ p → Lies from (tag_end at n xs l p)
  end_lies at n xs [] p h = h
  end_lies at n xs (b ∷ l) p h = either (Lies from) (eqb b 62) (λ t. tt) (λ t. either (Lies from) (eqb b 47) (λ t. slash l) (λ t. h))
    where
      slash : (l : List ℕ) → Lies from (slash_end at n xs l p)
      slash [] = h
      slash (b ∷ l) = either (Lies from) (eqb b 62) (λ t. tt) (λ t. h)

  attrs_lie : (at : ℕ) (n : List ℕ) (g : Gathered) → Gathers g → Lies from (with_attrs at n g)
  attrs_lie at n (gathered xs l p) h = go (check [] xs) (check_since [] xs h.0)
    where
      go : (c : Checked) → Checks c → Lies from (with_shown at n c l p)
      go (tags.fault k q) i = i
      go (good ss) i = end_lies at n ss (past white l) (p + length (span white l)) (omega (arith, h.1))
  attrs_lie at n (too_many p) h = h

  opening_lies : (l : List ℕ) (at : ℕ) → from ≤ at → Lies from (opening l at)
  unfolding opening
  opening_lies l at h =
      let n = span name_byte l in
      either (Lies from) (empty n)
      (λ t. omega arith)
      (λ t. attrs_lie at n (gather 256 (past name_byte l) (suc at + length n)) (gather_since 256 (past name_byte l) (suc at + length n) (omega arith)))

  close_lies : (at : ℕ) (n l : List ℕ) (p : ℕ) → from ≤ at → suc (suc at) + length n ≤ p → Lies from (close_end at n l p)
  close_lies at n [] p h i = omega arith
  close_lies at n (b ∷ l) p h i = either (Lies from) (eqb b 62) (λ t. omega arith) (λ t. omega arith)

  closing_lies : (l : List ℕ) (at : ℕ) → from ≤ at → Lies from (closing l at)
  unfolding closing
  closing_lies l at h =
      let n = span name_byte l in
      let m = past name_byte l in
      either (Lies from) (empty n)
      (λ t. omega arith)
      (λ t. close_lies at n (past white m) (suc (suc at) + length n + length (span white m)) h (omega arith))

  tag_lies : (l : List ℕ) (at : ℕ) → from ≤ at → Lies from (tag l at)
  tag_lies [] at h = omega arith
  tag_lies (b ∷ l) at h = either (Lies from) (eqb b 47) (λ t. closing_lies l at h) (λ t. opening_lies (b ∷ l) at h)

pub next_lies : (l : List ℕ) (at : ℕ) → Lies at (next l at)
unfolding next ignorable
next_lies l at = go (ignorable l at) (ignorable_since at 0 l at (omega arith)) (ignorable_within l at)
  where
    ends : (m : List ℕ) (p : ℕ) → at ≤ p → Lies at (tag_or_end m p)
    ends [] p h = tt
    ends (b ∷ m) p h = tag_lies at m p h

    go : (s : Result ℕ Fault) → Since at s → Scanned at (at + length l) s → Lies at (past_ignorable s l at)
    go (Err f) h w = h
    go (Ok p) h w = ends (drop (p - at) l) p w.0
