-- What the tokens of a document say of it: a start tag begins with `<` and its name; its raw values stand in the document, between
-- quotes, and show their texts; it ends with `>`. A closing tag begins with `</` and its name. A fault is of an attribute's name that
-- stands after white space, of a reference with its `;`, or of the markup.
use Prim.Native.Nat.{ℕ, zero, suc, ◌+◌, ◌-◌, ◌≤◌, ◌<◌}
use mathlib.Core.Path.{◌≡◌, refl, ap, sym, ◌∙◌}
use mathlib.Core.List.{List, [], ◌∷◌, ◌++◌}
use mathlib.Core.Bool.{Bool, true, false, ◌||◌}
use borrow.Author.Tests.{eqb-true, not-false}
use native.Mathlib.Omega.{arith}
use lib.Dec.{eqb}
use lib.ListN.{length, take, drop, get_or, length-append, length-drop, take-append-drop}
use lib.Seq.{drop-drop, drop-append-le, get_or-drop}
use Rattle.std.specs.Prelude.{Result, Ok, Err}
use Rattle.faults.specs.declared.Fault.{Fault}
use Rattle.slices.specs.Bytes.{other, span, past, empty}
use Rattle.slices.proofs.Runs.{Stops}
use Rattle.slices.proofs.Ends.{not_empty}
use Rattle.scan.specs.Classes.{white, name_byte}
use Rattle.scan.proofs.Class.{white_small}
use Rattle.scan.specs.Ignorable.{quote, markup, further, ignorable_from, ignorable}
use Rattle.scan.specs.declared.Markup.{Markup}
use Rattle.scan.specs.declared.Markup.TheVariants.{Tag as is_tag, Ignored}
use Rattle.answers.specs.Text.{Text, text, wrong}
use Rattle.references.specs.Unescape.{unescape}
use Rattle.document.specs.Tags.{Attr, Found, absent, found, close_quote, open_quote, equals, spaced, attribute, Gathered, gathered, too_many, with, another, no_more, gather, Shown, Checked, good, also, member, check}
use Rattle.document.specs.Tags as tags
use Rattle.document.specs.Tokens.{Tag, Token, start, close, fault, end, Next, more, last, slash_end, tag_end, with_shown, with_attrs, opening, close_end, closing, tag, tag_or_end, past_ignorable, next, joined, tokens_from, tokens}
use Rattle.document.specs.Elements.{among}
use Rattle.document.proofs.Tests.{either, among_all}
use Rattle.document.proofs.Branches.{span_past, run-byte, run_first}
use Rattle.document.proofs.Ignorables.{Scanned, ignorable_within}
use Rattle.document.proofs.Unescapes.{Bad, Referring, Faulty, unended, misreferred, Told, unescape_told}
use Rattle.document.proofs.Places.{past_begins, next-left, byte_left, past_left, span_left}

-- the byte before a place is below 128
pub record After (doc : List ℕ) (at : ℕ) : Type 0 where
  pub some : 0 < at
  pub inside : at ≤ length doc
  pub byte : get_or doc (at - 1) 0 < 128

-- the byte at a place is below 128
pub record Before (doc : List ℕ) (at : ℕ) : Type 0 where
  pub inside : at < length doc
  pub byte : get_or doc at 0 < 128

-- the name of an attribute stands after white space, and its raw value between quotes
pub record Stands (doc : List ℕ) (a : Attr) : Type 0 where
  pub name : After doc a.at
  pub raw : take (length a.raw) (drop a.valued doc) ≡ a.raw
  pub opened : After doc a.valued
  pub closed : Before doc (a.valued + length a.raw)

-- and it shows the text that is kept
pub record Held (doc : List ℕ) (s : Shown) : Type 0 where
  pub stands : Stands doc s.attr
  pub shows : unescape s.attr.raw ≡ text s.value

abbrev pub AllHeld : List ℕ → List Shown → Type 0
AllHeld doc [] = Unit {0}
AllHeld doc (s ∷ ss) = Held doc s × AllHeld doc ss

-- the `<` of a start tag stands at a place, and its name follows
pub record Opens (doc : List ℕ) (at : ℕ) (n : List ℕ) : Type 0 where
  pub inside : at < length doc
  pub byte : get_or doc at 0 ≡ 60
  pub named : span name_byte (drop (suc at) doc) ≡ n
  pub some : empty n ≡ false

pub record Starts (doc : List ℕ) (t : Tag) : Type 0 where
  pub opens : Opens doc t.at t.name
  pub attrs : AllHeld doc t.attrs
  pub after : After doc t.after

-- the `<` of a closing tag stands at a place, and its name follows `</`
pub record Shuts (doc : List ℕ) (lt : ℕ) (n : List ℕ) : Type 0 where
  pub begins : Before doc lt
  pub after : After doc (suc (suc lt))
  pub named : span name_byte (drop (suc (suc lt)) doc) ≡ n

-- a fault: of the markup; of a second attribute of a name; of a reference
pub data Faults (doc : List ℕ) (n p : ℕ) : Type 0 where
  of_markup : among n (4 ∷ 9 ∷ 17 ∷ 22 ∷ 23 ∷ 24 ∷ 25 ∷ []) ≡ true → Faults doc n p
  of_name : n ≡ 8 → After doc p → Faults doc n p
  of_reference : Bad n → Referring (drop p doc) → Faults doc n p

abbrev pub Comes : List ℕ → Token → Type 0
Comes doc (start t) = Starts doc t
Comes doc (close lt n q) = Shuts doc lt n
Comes doc (fault n p) = Faults doc n p
Comes doc (end p) = Unit {0}

abbrev pub AllCome : List ℕ → List Token → Type 0
AllCome doc [] = Unit {0}
AllCome doc (t ∷ ts) = Comes doc t × AllCome doc ts

quote_small : (q : ℕ) → quote q ≡ true → q < 128
quote_small q e = go (eqb q 34) refl e
  where
    go : (t : Bool) → eqb q 34 ≡ t → (t || eqb q 39) ≡ true → q < 128
    go true f e = omega (arith, eqb-true q 34 f)
    go false f e = omega (arith, eqb-true q 39 e)

referring_more : (l r : List ℕ) → Referring l → Referring (l ++ r)
referring_more [] r h = absurd (omega (arith, h.1))
referring_more (b ∷ l) r h =
    let n = length-append (b ∷ l) r in
    (h.0, rw (run_first (other 59) (b ∷ l) r h.1) (omega (arith, h.1)))

module _ (doc : List ℕ) where
  -- past a byte below 128
  after_byte : (p b : ℕ) (l : List ℕ) → drop p doc ≡ b ∷ l → b < 128 → After doc (suc p)
  after_byte p b l e h =
      let v = byte_left doc p b l e in
      let n : suc p - 1 ≡ p = omega arith in
      record { some = omega arith; inside = omega (arith, v.0); byte = rw n (omega (arith, v.1)) }

  -- past white space
  after_white : (l : List ℕ) (at : ℕ) → drop at doc ≡ l → empty (span white l) ≡ false → After doc (at + length (span white l))
  after_white l at e h =
      let n = not_empty (span white l) h in
      let s = span_past white l in
      let k = length (span white l) - 1 in
      let j : at + length (span white l) - 1 ≡ at + k = omega arith in
      let b : get_or doc (at + k) 0 ≡ get_or l k 0 = sym (get_or-drop at doc k 0) ∙ ap (λ (x : List ℕ). get_or x k 0) e in
      record {
        some = omega arith;
        inside = omega (arith, length-drop at doc, ap length e);
        byte = rw (j, b) (white_small (get_or l k 0) (run-byte white l k (omega arith)));
      }

  -- ---- one attribute

  abbrev Finds : Found → Type 0
  Finds absent = Unit {0}
  Finds (found a l p) = Stands doc a × (drop p doc ≡ l)

  open_finds : (at : ℕ) (n l : List ℕ) (p : ℕ) → After doc at → drop p doc ≡ l → Finds (open_quote at n l p)
  open_finds at n [] p a e = tt
  open_finds at n (q ∷ l) p a e =
      either Finds (quote q) (λ t. go t (past (other q) l) (past_left doc (other q) (suc p) l m) (past_begins (other q) l)) (λ t. tt)
    where
      m : drop (suc p) doc ≡ l
      m = next-left doc p q l e

      go : quote q ≡ true → (r : List ℕ) → drop (suc p + length (span (other q) l)) doc ≡ r → Stops (other q) r → Finds (close_quote (record { at = at; name = n; valued = suc p; raw = span (other q) l }) r (suc p + length (span (other q) l)))
      go t [] f s = tt
      go t (b ∷ r) f s =
          let w = byte_left doc (suc p + length (span (other q) l)) b r f in
          let c = quote_small q t in
          let d : b ≡ q = eqb-true b q (not-false (eqb b q) s) in (
            record {
              name = a;
              raw = span_left doc (other q) (suc p) l m;
              opened = after_byte p q l e c;
              closed = record { inside = w.0; byte = omega (arith, w.1) };
            },
            next-left doc (suc p + length (span (other q) l)) b r f,
          )

  equals_finds : (at : ℕ) (n l : List ℕ) (p : ℕ) → After doc at → drop p doc ≡ l → Finds (equals at n l p)
  equals_finds at n [] p a e = tt
  equals_finds at n (b ∷ l) p a e =
      either Finds (eqb b 61)
      (λ t. open_finds at n (past white l) (suc p + length (span white l)) a (past_left doc white (suc p) l (next-left doc p b l e)))
      (λ t. tt)

  spaced_finds : (w l : List ℕ) (at : ℕ) → (empty w ≡ false → After doc at) → drop at doc ≡ l → Finds (spaced w l at)
  spaced_finds w l at a e =
      let m = past name_byte l in
      let p = at + length (span name_byte l) in
      either Finds (empty w)
      (λ t. tt)
      (λ t. either Finds (empty (span name_byte l))
      (λ c. tt)
      (λ c. equals_finds at (span name_byte l) (past white m) (p + length (span white m)) (a t) (past_left doc white p m (past_left doc name_byte at l e))))

  attribute_finds : (l : List ℕ) (at : ℕ) → drop at doc ≡ l → Finds (attribute l at)
  unfolding attribute
  attribute_finds l at e = spaced_finds (span white l) (past white l) (at + length (span white l)) (after_white l at e) (past_left doc white at l e)

  -- ---- all of them

  abbrev AllStand : List Attr → Type 0
  AllStand [] = Unit {0}
  AllStand (a ∷ xs) = Stands doc a × AllStand xs

  abbrev Gathers : Gathered → Type 0
  Gathers (gathered xs l p) = AllStand xs × (drop p doc ≡ l)
  Gathers (too_many p) = Unit {0}

  with_gathers : (a : Attr) (g : Gathered) → Stands doc a → Gathers g → Gathers (with a g)
  with_gathers a (gathered xs m q) s h = ((s, h.0), h.1)
  with_gathers a (too_many q) s h = tt

  gather_stands : (n : ℕ) (l : List ℕ) (at : ℕ) → drop at doc ≡ l → Gathers (gather n l at)
  unfolding gather
  gather_stands zero l at e = go (attribute l at)
    where
      go : (f : Found) → Gathers (no_more f l at)
      go absent = (tt, e)
      go (found a m p) = tt
  gather_stands (suc n) l at e = go (attribute l at) (attribute_finds l at e) (gather_stands n)
    where
      go : (f : Found) → Finds f → ((m : List ℕ) (p : ℕ) → drop p doc ≡ m → Gathers (gather n m p)) → Gathers (another f l at (λ m p. gather n m p))
      go absent h i = (tt, e)
      go (found a m p) h i = with_gathers a (gather n m p) h.0 (i m p h.1)

  abbrev Checks : Checked → Type 0
  Checks (good ss) = AllHeld doc ss
  Checks (tags.fault n p) = Faults doc n p

  -- a fault of a raw value, in the document
  value_faults : (a : Attr) (n p : ℕ) → Stands doc a → p < length a.raw → Faulty (drop p a.raw) n → Faults doc n (a.valued + p)
  value_faults a n p s l (unended e) = of_markup (rw e)
  value_faults a n p s l (misreferred e r) =
      let k = length a.raw in
      let v = drop a.valued doc in
      let q : drop p a.raw ++ drop k v ≡ drop (a.valued + p) doc =
      sym (drop-append-le p a.raw (drop k v) (omega arith))
      ∙ ap (λ (x : List ℕ). drop p (x ++ drop k v)) (sym s.raw)
      ∙ ap (λ (x : List ℕ). drop p x) (take-append-drop k v)
      ∙ drop-drop p a.valued doc in
      of_reference e (rw q at (referring_more (drop p a.raw) (drop k v) r))

  also_checks : (a : Attr) (t : Text) (c : Checked) → Stands doc a → unescape a.raw ≡ t → Told a.raw t → Checks c → Checks (also a t c)
  also_checks a (wrong n p) c s e m h = value_faults a n p s m.0 m.1
  also_checks a (text t) (good ss) s e m h = (record { stands = s; shows = e }, h)
  also_checks a (text t) (tags.fault n p) s e m h = h

  check_held : (seen : List (List ℕ)) (xs : List Attr) → AllStand xs → Checks (check seen xs)
  check_held seen [] h = tt
  check_held seen (a ∷ xs) h =
      either Checks (member a.name seen)
      (λ t. of_name refl h.0.name)
      (λ t. also_checks a (unescape a.raw) (check (a.name ∷ seen) xs) h.0 refl (unescape_told a.raw) (check_held (a.name ∷ seen) xs h.1))

  -- ---- the next token

  abbrev NextComes : Next → Type 0
  NextComes (more t q) = Comes doc t
  NextComes (last t) = Comes doc t

  slash_comes : (at : ℕ) (n : List ℕ) (xs : List Shown) (l : List ℕ) (p : ℕ) → Opens doc at n → AllHeld doc xs → drop (suc p) doc ≡ l → NextComes (slash_end at n xs l p)
  slash_comes at n xs [] p o h e = of_markup refl
  slash_comes at n xs (b ∷ l) p o h e =
      either NextComes (eqb b 62)
      (λ t. record { opens = o; attrs = h; after = after_byte (suc p) b l e (omega (arith, eqb-true b 62 t)) })
      (λ t. of_markup refl)

  end_comes : (at : ℕ) (n : List ℕ) (xs : List Shown) (l : List ℕ) (p : ℕ) → Opens doc at n → AllHeld doc xs → drop p doc ≡ l → NextComes (tag_end at n xs l p)
  end_comes at n xs [] p o h e = of_markup refl
  end_comes at n xs (b ∷ l) p o h e =
      either NextComes (eqb b 62)
      (λ t. record { opens = o; attrs = h; after = after_byte p b l e (omega (arith, eqb-true b 62 t)) })
      (λ t. either NextComes (eqb b 47) (λ t. slash_comes at n xs l p o h (next-left doc p b l e)) (λ t. of_markup refl))

  shown_comes : (at : ℕ) (n : List ℕ) (c : Checked) (l : List ℕ) (p : ℕ) → Opens doc at n → Checks c → drop p doc ≡ l → NextComes (with_shown at n c l p)
  shown_comes at n (tags.fault k q) l p o h e = h
  shown_comes at n (good xs) l p o h e = end_comes at n xs (past white l) (p + length (span white l)) o h (past_left doc white p l e)

  attrs_come : (at : ℕ) (n : List ℕ) (g : Gathered) → Opens doc at n → Gathers g → NextComes (with_attrs at n g)
  attrs_come at n (gathered xs l p) o h = shown_comes at n (check [] xs) l p o (check_held [] xs h.0) h.1
  attrs_come at n (too_many p) o h = of_markup refl

  opening_comes : (l : List ℕ) (at : ℕ) → at < length doc → get_or doc at 0 ≡ 60 → drop (suc at) doc ≡ l → NextComes (opening l at)
  unfolding opening
  opening_comes l at i h e =
      let n = span name_byte l in
      let p = suc at + length n in
      either NextComes (empty n)
      (λ t. of_markup refl)
      (λ t. attrs_come at n (gather 256 (past name_byte l) p) (record { inside = i; byte = h; named = ap (span name_byte) e; some = t }) (gather_stands 256 (past name_byte l) p (past_left doc name_byte (suc at) l e)))

  close_comes : (at : ℕ) (n l : List ℕ) (p : ℕ) → Shuts doc at n → NextComes (close_end at n l p)
  close_comes at n [] p h = of_markup refl
  close_comes at n (b ∷ l) p h = either NextComes (eqb b 62) (λ t. h) (λ t. of_markup refl)

  closing_comes : (l : List ℕ) (at : ℕ) → Before doc at → After doc (suc (suc at)) → drop (suc (suc at)) doc ≡ l → NextComes (closing l at)
  unfolding closing
  closing_comes l at h a e =
      let n = span name_byte l in
      let m = past name_byte l in
      either NextComes (empty n)
      (λ t. of_markup refl)
      (λ t. close_comes at n (past white m) (suc (suc at) + length n + length (span white m)) (record { begins = h; after = a; named = ap (span name_byte) e }))

  tag_comes : (l : List ℕ) (at : ℕ) → at < length doc → get_or doc at 0 ≡ 60 → drop (suc at) doc ≡ l → NextComes (tag l at)
  tag_comes [] at i h e = of_markup refl
  tag_comes (b ∷ l) at i h e =
      either NextComes (eqb b 47)
      (λ t. closing_comes l at (record { inside = i; byte = omega arith }) (after_byte (suc at) b l e (omega (arith, eqb-true b 47 t))) (next-left doc (suc at) b l e))
      (λ t. opening_comes (b ∷ l) at i h e)

  -- what is ignorable ends at a `<`, or at the end
  abbrev Meets : Result ℕ Fault → Type 0
  Meets (Err f) = Unit {0}
  Meets (Ok p) = Stops (other 60) (drop p doc)

  ignorable_meets : (k : ℕ) (l : List ℕ) (at : ℕ) → drop at doc ≡ l → Meets (ignorable_from k l at)
  ignorable_meets k [] at e = rw e tt
  ignorable_meets zero (b ∷ l) at e =
      either Meets (eqb b 60)
      (λ t. go (markup l at) t (λ k. ignorable_meets k l (suc at) m))
      (λ t. ignorable_meets 0 l (suc at) m)
    where
      m : drop (suc at) doc ≡ l
      m = next-left doc at b l e

      go : (u : Result Markup Fault) → eqb b 60 ≡ true → ((k : ℕ) → Meets (ignorable_from k l (suc at))) → Meets (further u at (λ p. ignorable_from (p - suc at) l (suc at)))
      go (Ok is_tag) t i = rw (e, t) refl
      go (Err f) t i = tt
      go (Ok (Ignored p)) t i = i (p - suc at)
  ignorable_meets (suc k) (b ∷ l) at e = ignorable_meets k l (suc at) (next-left doc at b l e)

  next_comes : (l : List ℕ) (at : ℕ) → drop at doc ≡ l → NextComes (next l at)
  unfolding next ignorable
  next_comes l at e = go (ignorable l at) (ignorable_meets 0 l at e) (ignorable_within l at)
    where
      ends : (m : List ℕ) (p : ℕ) → drop p doc ≡ m → Stops (other 60) m → NextComes (tag_or_end m p)
      ends [] p f s = tt
      ends (b ∷ m) p f s =
          let v = byte_left doc p b m f in
          let w : b ≡ 60 = eqb-true b 60 (not-false (eqb b 60) s) in
          tag_comes m p v.0 (v.1 ∙ w) (next-left doc p b m f)

      go : (s : Result ℕ Fault) → Meets s → Scanned at (at + length l) s → NextComes (past_ignorable s l at)
      go (Err f) h w = of_markup (among_all (λ m. among m (4 ∷ 9 ∷ 17 ∷ 22 ∷ 23 ∷ 24 ∷ 25 ∷ [])) f.number (22 ∷ 23 ∷ 24 ∷ 25 ∷ []) refl w.0)
      go (Ok p) h w =
          let n : at + (p - at) ≡ p = omega (arith, w) in
          let f : drop p doc ≡ drop (p - at) l = rw (← e, drop-drop (p - at) at doc, n) in
          ends (drop (p - at) l) p f (rw f at h)

  -- ---- all of them

  tokens_come_from : (k : ℕ) (l : List ℕ) (at : ℕ) → drop at doc ≡ l → AllCome doc (tokens_from k l at)
  tokens_come_from k [] at e = (tt, tt)
  tokens_come_from zero (b ∷ l) at e =
      go (next (b ∷ l) at) (next_comes (b ∷ l) at e) (λ k. tokens_come_from k l (suc at) (next-left doc at b l e))
    where
      go : (n : Next) → NextComes n → ((k : ℕ) → AllCome doc (tokens_from k l (suc at))) → AllCome doc (joined n (λ p. tokens_from (p - suc at) l (suc at)))
      go (more t q) h i = (h, i (q - suc at))
      go (last t) h i = (h, tt)
  tokens_come_from (suc k) (b ∷ l) at e = tokens_come_from k l (suc at) (next-left doc at b l e)

  pub tokens_come : AllCome doc (tokens doc 0)
  unfolding tokens
  tokens_come = tokens_come_from 0 doc 0 refl
