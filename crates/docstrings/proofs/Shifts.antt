-- What is found at a place is found at another, further on by as much.
use Prim.Native.Nat.{ℕ, zero, suc, ◌+◌}
use mathlib.Core.Path.{◌≡◌, refl, ap, ◌∙◌}
use mathlib.Core.List.{List, [], ◌∷◌}
use mathlib.Core.Bool.{Bool, true, false}
use native.Mathlib.Omega.{arith}
use lib.Dec.{eqb}
use lib.ListN.{length, drop}
use Rattle.std.specs.Prelude.{Result, Ok, Err}
use Rattle.faults.specs.declared.Fault.{Fault}
use Rattle.slices.specs.Bytes.{if, bytes, other, span, past, empty, starts}
use Rattle.faults.specs.Fault.{fault as a_fault}
use Rattle.scan.specs.Classes.{white, name_byte}
use Rattle.scan.specs.Ignorable.{Mode, bare, quoted, quote, changed, ends, unended, declaration_in, declared, markup, seek, ignored}
use Rattle.scan.specs.declared.Markup.{Markup}
use Rattle.scan.specs.declared.Markup.TheVariants.{Tag, Ignored}
use Rattle.answers.specs.Text.{Text, text, wrong}
use Rattle.references.specs.Unescape.{unescape}
use Rattle.document.specs.Tags.{Attr, Found, absent, found, close_quote, open_quote, equals, named, spaced, attribute, Gathered, gathered, too_many, with, another, no_more, gather, Shown, Checked, good, also, member, check}
use Rattle.document.specs.Tags as tags
use Rattle.document.specs.Tokens as tokens
use Rattle.document.specs.Tokens.{Token, start, close, fault, end, Next, more, last, slash_end, tag_end, with_shown, with_attrs, opening, close_end, closing, tag}

-- ---- places further on by d

abbrev pub far : ℕ → ℕ → ℕ
far d zero = d
far d (suc p) = suc (far d p)

pub far_is : (d p : ℕ) → far d p ≡ p + d
far_is d zero = omega arith
far_is d (suc p) = omega (arith, far_is d p)

abbrev pub later_scan : ℕ → Result ℕ Fault → Result ℕ Fault
later_scan d (Err f) = Err (a_fault f.number (far d f.place))
later_scan d (Ok p) = Ok (far d p)

abbrev pub later_markup : ℕ → Result Markup Fault → Result Markup Fault
later_markup d (Ok Tag) = Ok Tag
later_markup d (Ok (Ignored p)) = Ok (Ignored (far d p))
later_markup d (Err f) = Err (a_fault f.number (far d f.place))

later_ignored : (d : ℕ) (x : Result ℕ Fault) → ignored (later_scan d x) ≡ later_markup d (ignored x)
later_ignored d (Ok p) = refl
later_ignored d (Err f) = refl

abbrev later_mode : ℕ → Mode → Mode
later_mode d (bare n) = bare n
later_mode d (quoted n q c) = quoted n q (far d c)

abbrev later_attr : ℕ → Attr → Attr
later_attr d a = record { at = far d a.at; name = a.name; valued = far d a.valued; raw = a.raw }

abbrev later_attrs : ℕ → List Attr → List Attr
later_attrs d [] = []
later_attrs d (a ∷ xs) = later_attr d a ∷ later_attrs d xs

abbrev later_found : ℕ → Found → Found
later_found d absent = absent
later_found d (found a l p) = found (later_attr d a) l (far d p)

abbrev later_gathered : ℕ → Gathered → Gathered
later_gathered d (gathered xs l p) = gathered (later_attrs d xs) l (far d p)
later_gathered d (too_many p) = too_many (far d p)

abbrev later_shown : ℕ → List Shown → List Shown
later_shown d [] = []
later_shown d (s ∷ ss) = record { attr = later_attr d s.attr; value = s.value } ∷ later_shown d ss

abbrev later_checked : ℕ → Checked → Checked
later_checked d (good ss) = good (later_shown d ss)
later_checked d (tags.fault n p) = tags.fault n (far d p)

abbrev pub later_tag : ℕ → tokens.Tag → tokens.Tag
later_tag d t = record { at = far d t.at; name = t.name; attrs = later_shown d t.attrs; self = t.self; after = far d t.after }

abbrev pub later_token : ℕ → Token → Token
later_token d (start t) = start (later_tag d t)
later_token d (close lt n q) = close (far d lt) n (far d q)
later_token d (fault n p) = fault n (far d p)
later_token d (end p) = end (far d p)

abbrev pub later_next : ℕ → Next → Next
later_next d (more t q) = more (later_token d t) (far d q)
later_next d (last t) = last (later_token d t)

-- both ways of a test
branch : {A : Type 0} (f : A → A) (t : Bool) {x y u v : A} → x ≡ f u → y ≡ f v → if t x y ≡ f (if t u v)
branch f true e g = e
branch f false e g = g

plus : (p d k : ℕ) → far d p + k ≡ far d (p + k)
plus p d k = omega (arith, far_is d p, far_is d (p + k))

module _ (d : ℕ) where
  -- ---- what is ignored

  seek_later : (n : ℕ) (key : List ℕ) (c : ℕ) (l : List ℕ) (p : ℕ) → seek n key (far d c) l (far d p) ≡ later_scan d (seek n key c l p)
  seek_later n key c [] p = refl
  seek_later n key c (b ∷ l) p = branch (later_scan d) (starts key (b ∷ l)) (ap Ok (plus p d (length key))) (seek_later n key c l (suc p))

  changed_later : (m : Mode) (b p : ℕ) → changed (later_mode d m) b (far d p) ≡ later_mode d (changed m b p)
  changed_later (bare n) b p = branch (later_mode d) (quote b) refl (branch (later_mode d) (eqb b 91) refl (branch (later_mode d) (eqb b 93) refl refl))
  changed_later (quoted n q c) b p = branch (later_mode d) (eqb b q) refl refl

  ends_later : (m : Mode) (b : ℕ) → ends (later_mode d m) b ≡ ends m b
  ends_later (bare n) b = refl
  ends_later (quoted n q c) b = refl

  unended_later : (m : Mode) (p : ℕ) → unended (later_mode d m) (far d p) ≡ later_scan d (unended m p)
  unended_later (bare n) p = refl
  unended_later (quoted n q c) p = refl

  declaration_later : (m : Mode) (l : List ℕ) (p : ℕ) → declaration_in (later_mode d m) l (far d p) ≡ later_scan d (declaration_in m l p)
  declaration_later m [] p = unended_later m p
  declaration_later m (b ∷ l) p =
      ap (λ t. if t (Ok (suc (far d p))) (declaration_in (changed (later_mode d m) b (far d p)) l (suc (far d p)))) (ends_later m b)
      ∙ branch (later_scan d) (ends m b) refl (ap (λ k. declaration_in k l (suc (far d p))) (changed_later m b p) ∙ declaration_later (changed m b p) l (suc p))

  declared_later : (l : List ℕ) (p : ℕ) → declared l (far d p) ≡ later_scan d (declared l p)
  declared_later l p =
      branch (later_scan d) (starts (bytes "--") l)
      (rw (plus p d 4) (seek_later 22 (bytes "-->") (p + 4) (drop 2 l) (p + 4)))
      (branch (later_scan d) (starts (bytes "[CDATA[") l)
      (rw (plus p d 9) (seek_later 23 (bytes "]]>") (p + 9) (drop 7 l) (p + 9)))
      (rw (plus p d 2) (declaration_later (bare 0) l (p + 2))))

  pub markup_later : (l : List ℕ) (p : ℕ) → markup l (far d p) ≡ later_markup d (markup l p)
  markup_later [] p = refl
  markup_later (b ∷ l) p =
      branch (later_markup d) (eqb b 33)
      (ap ignored (declared_later l p) ∙ later_ignored d (declared l p))
      (branch (later_markup d) (eqb b 63) (ap ignored (rw (plus p d 2) (seek_later 24 (bytes "?>") (p + 2) l (p + 2))) ∙ later_ignored d (seek 24 (bytes "?>") (p + 2) l (p + 2))) refl)

  -- ---- an attribute

  close_later : (a : Attr) (l : List ℕ) (p : ℕ) → close_quote (later_attr d a) l (far d p) ≡ later_found d (close_quote a l p)
  close_later a [] p = refl
  close_later a (b ∷ l) p = refl

  open_later : (at : ℕ) (n l : List ℕ) (p : ℕ) → open_quote (far d at) n l (far d p) ≡ later_found d (open_quote at n l p)
  open_later at n [] p = refl
  open_later at n (q ∷ l) p =
      branch (later_found d) (quote q)
      (rw (plus (suc p) d (length (span (other q) l))) (close_later (record { at = at; name = n; valued = suc p; raw = span (other q) l }) (past (other q) l) (suc p + length (span (other q) l))))
      refl

  equals_later : (at : ℕ) (n l : List ℕ) (p : ℕ) → equals (far d at) n l (far d p) ≡ later_found d (equals at n l p)
  equals_later at n [] p = refl
  equals_later at n (b ∷ l) p =
      branch (later_found d) (eqb b 61)
      (rw (plus (suc p) d (length (span white l))) (open_later at n (past white l) (suc p + length (span white l))))
      refl

  named_later : (at : ℕ) (n l : List ℕ) (p : ℕ) → named (far d at) n l (far d p) ≡ later_found d (named at n l p)
  named_later at n l p =
      branch (later_found d) (empty n) refl
      (rw (plus p d (length (span white l))) (equals_later at n (past white l) (p + length (span white l))))

  spaced_later : (w l : List ℕ) (p : ℕ) → spaced w l (far d p) ≡ later_found d (spaced w l p)
  spaced_later w l p =
      branch (later_found d) (empty w) refl
      (rw (plus p d (length (span name_byte l))) (named_later p (span name_byte l) (past name_byte l) (p + length (span name_byte l))))

  attribute_later : (l : List ℕ) (p : ℕ) → attribute l (far d p) ≡ later_found d (attribute l p)
  unfolding attribute
  attribute_later l p = rw (plus p d (length (span white l))) (spaced_later (span white l) (past white l) (p + length (span white l)))

  -- ---- the attributes of a tag

  with_later : (a : Attr) (g : Gathered) → with (later_attr d a) (later_gathered d g) ≡ later_gathered d (with a g)
  with_later a (gathered xs l p) = refl
  with_later a (too_many p) = refl

  gather_later : (n : ℕ) (l : List ℕ) (p : ℕ) → gather n l (far d p) ≡ later_gathered d (gather n l p)
  unfolding gather
  gather_later zero l p = rw (attribute_later l p) (go (attribute l p))
    where
      go : (f : Found) → no_more (later_found d f) l (far d p) ≡ later_gathered d (no_more f l p)
      go absent = refl
      go (found a m q) = refl
  gather_later (suc n) l p = rw (attribute_later l p) (go (attribute l p) (gather_later n))
    where
      go : (f : Found) → ((m : List ℕ) (q : ℕ) → gather n m (far d q) ≡ later_gathered d (gather n m q)) → another (later_found d f) l (far d p) (λ m q. gather n m q) ≡ later_gathered d (another f l p (λ m q. gather n m q))
      go absent i = refl
      go (found a m q) i = ap (with (later_attr d a)) (i m q) ∙ with_later a (gather n m q)

  also_later : (a : Attr) (t : Text) (c : Checked) → also (later_attr d a) t (later_checked d c) ≡ later_checked d (also a t c)
  also_later a (wrong n p) c = ap (tags.fault n) (plus a.valued d p)
  also_later a (text t) (good ss) = refl
  also_later a (text t) (tags.fault n p) = refl

  check_later : (seen : List (List ℕ)) (xs : List Attr) → check seen (later_attrs d xs) ≡ later_checked d (check seen xs)
  check_later seen [] = refl
  check_later seen (a ∷ xs) =
      branch (later_checked d) (member a.name seen) refl
      (ap (also (later_attr d a) (unescape a.raw)) (check_later (a.name ∷ seen) xs) ∙ also_later a (unescape a.raw) (check (a.name ∷ seen) xs))

  -- ---- tags

  slash_later : (at : ℕ) (n : List ℕ) (xs : List Shown) (l : List ℕ) (p : ℕ) → slash_end (far d at) n (later_shown d xs) l (far d p) ≡ later_next d (slash_end at n xs l p)
  slash_later at n xs [] p = refl
  slash_later at n xs (b ∷ l) p = branch (later_next d) (eqb b 62) refl refl

  end_later : (at : ℕ) (n : List ℕ) (xs : List Shown) (l : List ℕ) (p : ℕ) → tag_end (far d at) n (later_shown d xs) l (far d p) ≡ later_next d (tag_end at n xs l p)
  end_later at n xs [] p = refl
  end_later at n xs (b ∷ l) p = branch (later_next d) (eqb b 62) refl (branch (later_next d) (eqb b 47) (slash_later at n xs l p) refl)

  shown_later : (at : ℕ) (n : List ℕ) (c : Checked) (l : List ℕ) (p : ℕ) → with_shown (far d at) n (later_checked d c) l (far d p) ≡ later_next d (with_shown at n c l p)
  shown_later at n (tags.fault k q) l p = refl
  shown_later at n (good xs) l p = rw (plus p d (length (span white l))) (end_later at n xs (past white l) (p + length (span white l)))

  attrs_later : (at : ℕ) (n : List ℕ) (g : Gathered) → with_attrs (far d at) n (later_gathered d g) ≡ later_next d (with_attrs at n g)
  attrs_later at n (gathered xs l p) = rw (check_later [] xs) (shown_later at n (check [] xs) l p)
  attrs_later at n (too_many p) = refl

  opening_later : (l : List ℕ) (at : ℕ) → opening l (far d at) ≡ later_next d (opening l at)
  unfolding opening
  opening_later l at =
      branch (later_next d) (empty (span name_byte l)) refl
      (rw (plus (suc at) d (length (span name_byte l)), gather_later 256 (past name_byte l) (suc at + length (span name_byte l)))
      (attrs_later at (span name_byte l) (gather 256 (past name_byte l) (suc at + length (span name_byte l)))))

  shut_later : (at : ℕ) (n l : List ℕ) (p : ℕ) → close_end (far d at) n l (far d p) ≡ later_next d (close_end at n l p)
  shut_later at n [] p = refl
  shut_later at n (b ∷ l) p = branch (later_next d) (eqb b 62) refl refl

  closing_later : (l : List ℕ) (at : ℕ) → closing l (far d at) ≡ later_next d (closing l at)
  unfolding closing
  closing_later l at =
      let m = past name_byte l in
      let n = span name_byte l in
      let e : suc (suc (far d at)) + length n + length (span white m) ≡ far d (suc (suc at) + length n + length (span white m)) = omega (arith, far_is d at, far_is d (suc (suc at) + length n + length (span white m))) in
      branch (later_next d) (empty n) refl (rw e (shut_later at n (past white m) (suc (suc at) + length n + length (span white m))))

  pub tag_later : (l : List ℕ) (at : ℕ) → tag l (far d at) ≡ later_next d (tag l at)
  tag_later [] at = refl
  tag_later (b ∷ l) at = branch (later_next d) (eqb b 47) (closing_later l at) (opening_later (b ∷ l) at)
