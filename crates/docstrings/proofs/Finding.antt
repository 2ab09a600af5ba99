-- What is passed over up to the end of a token is pieces, the last of them the token.
use Prim.Native.Nat.{ℕ, zero, suc, ◌+◌, ◌-◌, ◌≤◌}
use mathlib.Core.Path.{◌≡◌, refl, sym, ap, ◌∙◌}
use mathlib.Core.List.{List, [], ◌∷◌, ◌++◌, append_assoc}
use mathlib.Core.Bool.{Bool, true, false}
use borrow.Author.Tests.{eqb-true}
use native.Mathlib.Omega.{arith}
use lib.Dec.{eqb}
use lib.ListN.{length, drop, length-append}
use lib.Seq.{drop-append_seam}
use Rattle.std.specs.Prelude.{Result, Ok, Err}
use Rattle.faults.specs.declared.Fault.{Fault}
use Rattle.slices.specs.Bytes.{if, bytes, span, past, empty}
use Rattle.scan.proofs.Marked.{ignored_no_tag}
use Rattle.scan.specs.Classes.{white, name_byte}
use Rattle.scan.specs.Ignorable.{declared, markup, seek, further, ignorable_from, ignorable, ignored}
use Rattle.scan.specs.declared.Markup.{Markup}
use Rattle.scan.specs.declared.Markup.TheVariants.{Tag, Ignored}
use Rattle.document.specs.Tags.{Gathered, gathered, too_many, gather, Shown, Checked, good, check}
use Rattle.document.specs.Tags as tags
use Rattle.document.specs.Tokens.{Token, start, close, fault, end, Next, more, last, slash_end, tag_end, with_shown, with_attrs, opening, close_end, closing, tag, tag_or_end, past_ignorable, next}
use Rattle.document.proofs.Tests.{either}
use Rattle.remarks.proofs.Local.{markup_local}
use Rattle.remarks.proofs.Tagged.{next_part}
use Rattle.docstrings.proofs.Shifts.{far, far_is, later_markup, later_token, later_next, markup_later, tag_later}
use Rattle.docstrings.proofs.Ends.{Ended, ignored_ended, tag_ended}
use Rattle.docstrings.proofs.Atoms.{Marks, Tags, Atom, text, mark, bytes_of, Leads, next_tag, ignorable_taken}

-- ---- markup that is ignored

module _ (l : List ℕ) (at q : ℕ) (e : markup l at ≡ Ok (Ignored q)) where
  ends : Ended l (suc at) q
  ends = ignored_ended l at q e

  ignored_here : markup (ends.front ++ 62 ∷ ends.rest) 0 ≡ Ok (Ignored (suc (suc (length ends.front))))
  ignored_here =
      let c = ends.front ++ 62 ∷ ends.rest in
      let i : later_markup at (markup c 0) ≡ Ok (Ignored q) = sym (markup_later at c 0) ∙ rw (← ends.is) e in
      go (markup c 0) i
    where
      go : (m : Result Markup Fault) → later_markup at m ≡ Ok (Ignored q) → m ≡ Ok (Ignored (suc (suc (length ends.front))))
      go (Ok Tag) i = let z : ◌≡◌ {A = ℕ} 0 1 = cc in absurd (omega arith)
      go (Err f) i = let z : ◌≡◌ {A = ℕ} 0 1 = cc in absurd (omega arith)
      go (Ok (Ignored p)) i =
          let z : far at p ≡ q = cc in
          let y : p ≡ suc (suc (length ends.front)) = omega (arith, far_is at p, ends.long) in
          ap (λ k. Ok (Ignored k)) y

  ignored_marks : Marks ends.front
  ignored_marks r =
      let f = ends.front in
      let n : suc (suc (length f)) ≤ 1 + length (f ++ 62 ∷ []) = rw (length-append f (62 ∷ [])) (omega arith) in
      let x : markup ((f ++ 62 ∷ []) ++ ends.rest) 0 ≡ Ok (Ignored (suc (suc (length f)))) = rw (append_assoc f (62 ∷ []) ends.rest) ignored_here in
      rw (append_assoc f (62 ∷ []) r) at (markup_local ends.rest r (f ++ 62 ∷ []) 0 (suc (suc (length f))) x n)

-- ---- a tag

tag_first : (b : ℕ) (l m : List ℕ) (at p : ℕ) → markup (b ∷ l) at ≡ Ok Tag → markup (b ∷ m) p ≡ Ok Tag
tag_first b l m at p e = go (eqb b 33) (eqb b 63) e
  where
    go : (t u : Bool) → if t (ignored (declared l at)) (if u (ignored (seek 24 (bytes "?>") (at + 2) l (at + 2))) (Ok Tag)) ≡ Ok Tag → if t (ignored (declared m p)) (if u (ignored (seek 24 (bytes "?>") (p + 2) m (p + 2))) (Ok Tag)) ≡ Ok Tag
    go true u e = ignored_no_tag (declared l at) e
    go false true e = ignored_no_tag (seek 24 (bytes "?>") (at + 2) l (at + 2)) e
    go false false e = refl

tag_any : (f r s : List ℕ) (at p : ℕ) → markup (f ++ 62 ∷ r) at ≡ Ok Tag → markup (f ++ 62 ∷ s) p ≡ Ok Tag
tag_any [] r s at p e = refl
tag_any (b ∷ f) r s at p e = tag_first b (f ++ 62 ∷ r) (f ++ 62 ∷ s) at p e

-- a token that stood at 0
record Here (n : Next) (d : ℕ) (t : Token) (q : ℕ) : Type 0 where
  kind : Token
  place : ℕ
  is : n ≡ more kind place
  later : later_token d kind ≡ t
  long : far d place ≡ q

here : (n : Next) (d : ℕ) (t : Token) (q : ℕ) → later_next d n ≡ more t q → Here n d t q
here (more k p) d t q e =
    let x : later_token d k ≡ t = cc in
    let y : far d p ≡ q = cc in
    record { kind = k; place = p; is = refl; later = x; long = y }
here (last k) d t q e = let z : ◌≡◌ {A = ℕ} 0 1 = cc in absurd (omega arith)

module _ (l : List ℕ) (at : ℕ) (t : Token) (q : ℕ) (h : markup l at ≡ Ok Tag) (e : tag l at ≡ more t q) where
  shut : Ended l (suc at) q
  shut = rw e at (tag_ended l at)

  stood : Here (tag (shut.front ++ 62 ∷ shut.rest) 0) at t q
  stood = here (tag (shut.front ++ 62 ∷ shut.rest) 0) at t q (sym (tag_later at (shut.front ++ 62 ∷ shut.rest) 0) ∙ rw (← shut.is) e)

  stood_tags : Tags shut.front stood.kind
  stood_tags =
      let f = shut.front in
      let r = shut.rest in
      let p : stood.place ≡ suc (suc (length f)) = omega (arith, stood.long, far_is at stood.place, shut.long) in
      let n : (s : List ℕ) → markup (f ++ 62 ∷ s) 0 ≡ Ok Tag = λ s. tag_any f r s at 0 (rw (← shut.is) h) in
      let x : next (60 ∷ ((f ++ 62 ∷ []) ++ r)) 0 ≡ more stood.kind (suc (suc (length f))) = rw (append_assoc f (62 ∷ []) r) (next_tag (f ++ 62 ∷ r) 0 (n r) ∙ stood.is ∙ ap (more stood.kind) p) in
      let m : suc (suc (length f)) ≤ 0 + suc (length (f ++ 62 ∷ [])) = rw (length-append f (62 ∷ [])) (omega arith) in
      record {
        none = n;
        is = λ s. sym (next_tag (f ++ 62 ∷ s) 0 (n s)) ∙ rw (append_assoc f (62 ∷ []) s) at (next_part r s 0 stood.kind (suc (suc (length f))) (60 ∷ (f ++ 62 ∷ [])) x m);
      }

-- ---- what is ignorable

abbrev Begins : List ℕ → ℕ → Type 0
Begins [] p = Unit {0}
Begins (b ∷ l) p = (b ≡ 60) × (markup l p ≡ Ok Tag)

record Passes (l : List ℕ) (at p : ℕ) : Type 0 where
  atoms : List Atom
  rest : List ℕ
  is : l ≡ bytes_of atoms ++ rest
  long : at + length (bytes_of atoms) ≡ p
  leads : (ns : List (List ℕ)) → Leads atoms ns ns
  begins : Begins rest p

ended : (at p : ℕ) → ◌≡◌ {A = Result ℕ Fault} (Ok at) (Ok p) → Passes [] at p
ended at p e = let z : at ≡ p = cc in record { atoms = []; rest = []; is = refl; long = omega arith; leads = λ ns. refl; begins = tt }

-- markup, and what follows it
past_mark : (b : ℕ) (l f r x y : List ℕ) → b ≡ 60 → l ≡ f ++ 62 ∷ r → r ≡ x ++ y → b ∷ l ≡ 60 ∷ (f ++ 62 ∷ x) ++ y
past_mark b l f r x y c e g = rw c (ap (◌∷◌ 60) (e ∙ ap (λ m. f ++ 62 ∷ m) g ∙ sym (append_assoc f (62 ∷ x) y)))

ignorable_passes : (n : ℕ) (l : List ℕ) (at p : ℕ) → length l ≤ n → ignorable_from 0 l at ≡ Ok p → Passes l at p
ignorable_passes zero [] at p h e = ended at p e
ignorable_passes zero (b ∷ l) at p h e = absurd (omega arith)
ignorable_passes (suc n) [] at p h e = ended at p e
ignorable_passes (suc n) (b ∷ l) at p h e = go (eqb b 60) refl e (λ m x g f. ignorable_passes n m x p g f)
  where
    marked : (m : Result Markup Fault) → markup l at ≡ m → b ≡ 60 → further m at (λ q. ignorable_from (q - suc at) l (suc at)) ≡ Ok p → ((m : List ℕ) (x : ℕ) → length m ≤ n → ignorable_from 0 m x ≡ Ok p → Passes m x p) → Passes (b ∷ l) at p
    marked (Ok Tag) f c e i = let z : at ≡ p = cc in record { atoms = []; rest = b ∷ l; is = refl; long = omega arith; leads = λ ns. refl; begins = (c, rw (← z) f) }
    marked (Err x) f c e i = let z : ◌≡◌ {A = ℕ} 0 1 = cc in absurd (omega arith)
    marked (Ok (Ignored q)) f c e i =
        let d = ends l at q f in
        let y : q - suc at ≡ suc (length d.front) = omega (arith, d.long) in
        let o : length d.rest ≤ n = omega (arith, ap length d.is, length-append d.front (62 ∷ d.rest)) in
        let w : ignorable_from 0 d.rest (suc at + suc (length d.front)) ≡ Ok p =
        sym (ignorable_taken d.front d.rest (suc at))
        ∙ ap (λ m. ignorable_from (suc (length d.front)) m (suc at)) (sym d.is)
        ∙ ap (λ k. ignorable_from k l (suc at)) (sym y)
        ∙ e in
        let r = i d.rest (suc at + suc (length d.front)) o w in
        record {
          atoms = mark d.front (ignored_marks l at q f) ∷ r.atoms;
          rest = r.rest;
          is = past_mark b l d.front d.rest (bytes_of r.atoms) r.rest c d.is r.is;
          long = omega (arith, r.long, length-append d.front (62 ∷ bytes_of r.atoms));
          leads = r.leads;
          begins = r.begins;
        }

    go : (t : Bool) → eqb b 60 ≡ t → if t (further (markup l at) at (λ q. ignorable_from (q - suc at) l (suc at))) (ignorable_from 0 l (suc at)) ≡ Ok p → ((m : List ℕ) (x : ℕ) → length m ≤ n → ignorable_from 0 m x ≡ Ok p → Passes m x p) → Passes (b ∷ l) at p
    go true f e i = marked (markup l at) refl (eqb-true b 60 f) e i
    go false f e i =
        let r = i l (suc at) (omega arith) e in
        record { atoms = text b f ∷ r.atoms; rest = r.rest; is = ap (◌∷◌ b) r.is; long = omega (arith, r.long); leads = r.leads; begins = r.begins }

-- ---- the next token

pub record Taken (l : List ℕ) (at : ℕ) (t : Token) (q : ℕ) : Type 0 where
  pub quiet : List Atom
  pub place : ℕ
  pub body : List ℕ
  pub kind : Token
  pub tags : Tags body kind
  pub rest : List ℕ
  pub is : l ≡ bytes_of quiet ++ 60 ∷ (body ++ 62 ∷ rest)
  pub before : at + length (bytes_of quiet) ≡ place
  pub after : place + suc (suc (length body)) ≡ q
  pub later : later_token place kind ≡ t
  pub leads : (ns : List (List ℕ)) → Leads quiet ns ns
  pub came : tag (body ++ 62 ∷ rest) place ≡ more t q

pub next_taken : (l : List ℕ) (at : ℕ) (t : Token) (q : ℕ) → next l at ≡ more t q → Taken l at t q
unfolding next ignorable
next_taken l at t q e = go (ignorable l at) refl e
  where
    at_tag : (p : ℕ) (w : Passes l at p) (r : List ℕ) → w.rest ≡ r → Begins r p → tag_or_end r p ≡ more t q → Taken l at t q
    at_tag p w [] f b e = let z : ◌≡◌ {A = ℕ} 0 1 = cc in absurd (omega arith)
    at_tag p w (c ∷ m) f b e =
        let d = shut m p t q b.1 e in
        record {
          quiet = w.atoms;
          place = p;
          body = d.front;
          kind = (stood m p t q b.1 e).kind;
          tags = stood_tags m p t q b.1 e;
          rest = d.rest;
          is = w.is ∙ ap (◌++◌ (bytes_of w.atoms)) (f ∙ rw b.0 (ap (◌∷◌ 60) d.is));
          before = w.long;
          after = omega (arith, d.long);
          later = (stood m p t q b.1 e).later;
          leads = w.leads;
          came = rw (← d.is) e;
        }

    go : (s : Result ℕ Fault) → ignorable l at ≡ s → past_ignorable s l at ≡ more t q → Taken l at t q
    go (Err x) f e = let z : ◌≡◌ {A = ℕ} 0 1 = cc in absurd (omega arith)
    go (Ok p) f e =
        let w = ignorable_passes (length l) l at p (omega arith) f in
        let n : p - at ≡ length (bytes_of w.atoms) = omega (arith, w.long) in
        let d : drop (p - at) l ≡ w.rest = rw n (ap (drop (length (bytes_of w.atoms))) w.is ∙ drop-append_seam (bytes_of w.atoms) w.rest) in
        at_tag p w w.rest refl w.begins (rw d at e)

-- ---- a closing tag begins where it is looked for

abbrev Closing : ℕ → Next → Type 0
Closing at (more (start t) q) = Unit {0}
Closing at (more (close lt n p) q) = lt ≡ at
Closing at (more (fault n p) q) = Unit {0}
Closing at (more (end p) q) = Unit {0}
Closing at (last t) = Unit {0}

module _ (at : ℕ) where
  slash_closing : (n : List ℕ) (xs : List Shown) (l : List ℕ) (p : ℕ) → Closing at (slash_end at n xs l p)
  slash_closing n xs [] p = tt
  slash_closing n xs (b ∷ l) p = either (Closing at) (eqb b 62) (λ t. tt) (λ t. tt)

  end_closing : (n : List ℕ) (xs : List Shown) (l : List ℕ) (p : ℕ) → Closing at (tag_end at n xs l p)
  end_closing n xs [] p = tt
  end_closing n xs (b ∷ l) p = either (Closing at) (eqb b 62) (λ t. tt) (λ t. either (Closing at) (eqb b 47) (λ t. slash_closing n xs l p) (λ t. tt))

  shown_closing : (n : List ℕ) (c : Checked) (l : List ℕ) (p : ℕ) → Closing at (with_shown at n c l p)
  shown_closing n (tags.fault k q) l p = tt
  shown_closing n (good xs) l p = end_closing n xs (past white l) (p + length (span white l))

  attrs_closing : (n : List ℕ) (g : Gathered) → Closing at (with_attrs at n g)
  attrs_closing n (gathered xs l p) = shown_closing n (check [] xs) l p
  attrs_closing n (too_many p) = tt

  opening_closing : (l : List ℕ) → Closing at (opening l at)
  unfolding opening
  opening_closing l = either (Closing at) (empty (span name_byte l)) (λ t. tt) (λ t. attrs_closing (span name_byte l) (gather 256 (past name_byte l) (suc at + length (span name_byte l))))

  shut_closing : (n l : List ℕ) (p : ℕ) → Closing at (close_end at n l p)
  shut_closing n [] p = tt
  shut_closing n (b ∷ l) p = either (Closing at) (eqb b 62) (λ t. refl) (λ t. tt)

  closing_closing : (l : List ℕ) → Closing at (closing l at)
  unfolding closing
  closing_closing l =
      let n = span name_byte l in
      let m = past name_byte l in
      either (Closing at) (empty n) (λ t. tt) (λ t. shut_closing n (past white m) (suc (suc at) + length n + length (span white m)))

  tag_closing : (l : List ℕ) → Closing at (tag l at)
  tag_closing [] = tt
  tag_closing (b ∷ l) = either (Closing at) (eqb b 47) (λ t. closing_closing l) (λ t. opening_closing (b ∷ l))

pub closing_place : (l : List ℕ) (at lt : ℕ) (n : List ℕ) (p q : ℕ) → tag l at ≡ more (close lt n p) q → lt ≡ at
closing_place l at lt n p q e = rw e at (tag_closing at l)
