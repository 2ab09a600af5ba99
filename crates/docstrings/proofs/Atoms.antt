-- Content that is passed over, piece by piece: a byte of text, markup that is ignored, a tag. Wherever the pieces stand, and whatever
-- follows them, they are the same tokens; if their tags open and close elements of their own alone, reading comes back to where it was.
use Prim.Native.Nat.{ℕ, suc, ◌+◌, ◌-◌, ◌≤◌, ◌<◌}
use mathlib.Core.Path.{◌≡◌, refl, sym, ap, ◌∙◌}
use mathlib.Core.List.{List, [], ◌∷◌, ◌++◌, append_assoc}
use mathlib.Core.Bool.{Bool, true, false}
use borrow.Author.Tests.{lt-leb}
use native.Mathlib.Nat.{add-zero, sub_self}
use native.Mathlib.Omega.{arith}
use lib.Dec.{eqb, leb}
use lib.ListN.{length, drop, length-append}
use lib.Seq.{drop-drop, drop-append-add}
use Rattle.std.specs.Prelude.{Result, Ok, Err}
use Rattle.faults.specs.declared.Fault.{Fault}
use Rattle.slices.specs.Bytes.{if, same}
use Rattle.scan.specs.Ignorable.{markup, further, ignorable_from, ignorable}
use Rattle.scan.specs.declared.Markup.TheVariants.{Tag, Ignored}
use Rattle.document.specs.Tokens.{Token, start, close, fault, end, Next, more, last, tag, tag_or_end, past_ignorable, next, tokens}
use Rattle.document.specs.Rows.{Tables}
use Rattle.document.specs.Elements.{Keeping}
use Rattle.document.specs.Refusals.{bare}
use Rattle.document.specs.Reading.{Name, Purpose, Frame, passing, State, reading, refused, step, fold}
use Rattle.document.proofs.Runs.{taken}
use Rattle.document.proofs.Ignorables.{Scanned, ignorable_within}
use Rattle.document.proofs.Nexts.{next_reaches, moves_on}
use Rattle.docstrings.proofs.Shifts.{far, far_is, later_token, later_next, later_markup, markup_later, tag_later}

-- what follows a `<`, up to a `>` (62): markup that is ignored
abbrev pub Marks : List ℕ → Type 0
Marks f = (r : List ℕ) → markup (f ++ 62 ∷ r) 0 ≡ Ok (Ignored (suc (suc (length f))))

-- a tag, which is a token if its `<` stands at 0
pub record Tags (f : List ℕ) (k : Token) : Type 0 where
  pub none : (r : List ℕ) → markup (f ++ 62 ∷ r) 0 ≡ Ok Tag
  pub is : (r : List ℕ) → tag (f ++ 62 ∷ r) 0 ≡ more k (suc (suc (length f)))

pub data Atom : Type 0 where
  text : (b : ℕ) → eqb b 60 ≡ false → Atom
  mark : (f : List ℕ) → Marks f → Atom
  token : (f : List ℕ) (k : Token) → Tags f k → Atom

abbrev pub bytes_of : List Atom → List ℕ
bytes_of [] = []
bytes_of (text b h ∷ cs) = b ∷ bytes_of cs
bytes_of (mark f h ∷ cs) = 60 ∷ (f ++ 62 ∷ bytes_of cs)
bytes_of (token f k h ∷ cs) = 60 ∷ (f ++ 62 ∷ bytes_of cs)

-- their tokens from a place on
abbrev pub toks_of : List Atom → ℕ → List Token
toks_of [] at = []
toks_of (text b h ∷ cs) at = toks_of cs (at + 1)
toks_of (mark f h ∷ cs) at = toks_of cs (at + suc (suc (length f)))
toks_of (token f k h ∷ cs) at = later_token at k ∷ toks_of cs (at + suc (suc (length f)))

-- the names of what is open before the pieces, innermost first, and after them
abbrev pub Leads : List Atom → List (List ℕ) → List (List ℕ) → Type 0
Leads [] ns ms = ns ≡ ms
Leads (text b h ∷ cs) ns ms = Leads cs ns ms
Leads (mark f h ∷ cs) ns ms = Leads cs ns ms
Leads (token f (start t) h ∷ cs) ns ms = if t.self (Leads cs ns ms) ((length ns < 1023) × Leads cs (t.name ∷ ns) ms)
Leads (token f (close lt n q) h ∷ cs) [] ms = ⊥
Leads (token f (close lt n q) h ∷ cs) (m ∷ ns) ms = (same n m ≡ true) × Leads cs ns ms
Leads (token f (fault n q) h ∷ cs) ns ms = ⊥
Leads (token f (end q) h ∷ cs) ns ms = ⊥

-- ---- tokens

pub next_bounds : (l : List ℕ) (at : ℕ) (t : Token) (q : ℕ) → next l at ≡ more t q → (at < q) × (q ≤ at + length l)
next_bounds l at t q e = moves_on at (at + length l) t q (rw e at (next_reaches l at))

tokens_more : (l : List ℕ) (at : ℕ) (t : Token) (q : ℕ) → next l at ≡ more t q → tokens l at ≡ t ∷ tokens (drop (q - at) l) q
unfolding tokens
tokens_more [] at t q e = let h = next_bounds [] at t q e in absurd (omega (arith, h))
tokens_more (b ∷ l) at t q e =
    let h = next_bounds (b ∷ l) at t q e in
    let n : q - at ≡ suc (q - suc at) = omega (arith, h) in
    let m : suc at + (q - suc at) ≡ q = omega (arith, h) in
    rw (e, n) (ap (◌∷◌ t) (taken (q - suc at) l (suc at) (omega (arith, h)) ∙ rw m))

tokens_last : (l : List ℕ) (at : ℕ) (t : Token) → next l at ≡ last t → tokens l at ≡ t ∷ []
unfolding tokens
tokens_last [] at t e =
    let z : next [] at ≡ last (end at) = unfold next ignorable in rw sub_self in
    let y : end at ≡ t = cc in
    rw y
tokens_last (b ∷ l) at t e = rw e

-- from a place to a further one, if the next token is the same from both
skip : (x l : List ℕ) (at n : ℕ) → drop n x ≡ l → next x at ≡ next l (at + n) → tokens x at ≡ tokens l (at + n)
skip x l at n d e = go (next l (at + n)) refl
  where
    go : (k : Next) → next l (at + n) ≡ k → tokens x at ≡ tokens l (at + n)
    go (more t q) f =
        let h = next_bounds l (at + n) t q f in
        let i : q - at ≡ n + (q - (at + n)) = omega (arith, h) in
        let j : drop (q - at) x ≡ drop (q - (at + n)) l = rw (i, ← d) (sym (drop-drop (q - (at + n)) n x)) in
        tokens_more x at t q (e ∙ f) ∙ rw j (sym (tokens_more l (at + n) t q f))
    go (last t) f = tokens_last x at t (e ∙ f) ∙ sym (tokens_last l (at + n) t f)

skip_ignorable : (x l : List ℕ) (at n : ℕ) → drop n x ≡ l → ignorable x at ≡ ignorable l (at + n) → tokens x at ≡ tokens l (at + n)
skip_ignorable x l at n d e = skip x l at n d (unfold next in ap (λ s. past_ignorable s x at) e ∙ go (ignorable l (at + n)) (ignorable_within l (at + n)))
  where
    go : (s : Result ℕ Fault) → Scanned (at + n) (at + n + length l) s → past_ignorable s x at ≡ past_ignorable s l (at + n)
    go (Err f) h = refl
    go (Ok p) h =
        let i : p - at ≡ n + (p - (at + n)) = omega (arith, h) in
        let j : drop (p - at) x ≡ drop (p - (at + n)) l = rw (i, ← d) (sym (drop-drop (p - (at + n)) n x)) in
        ap (λ m. tag_or_end m p) j

-- bytes that are taken already
pub ignorable_taken : (f l : List ℕ) (at : ℕ) → ignorable_from (suc (length f)) (f ++ 62 ∷ l) at ≡ ignorable_from 0 l (at + suc (length f))
ignorable_taken [] l at = let e : suc at ≡ at + 1 = omega arith in ap (λ a. ignorable_from 0 l a) e
ignorable_taken (b ∷ f) l at = let e : suc at + suc (length f) ≡ at + suc (suc (length f)) = omega arith in rw (← e) (ignorable_taken f l (suc at))

past_end : (f l : List ℕ) → drop (suc (suc (length f))) (60 ∷ (f ++ 62 ∷ l)) ≡ l
past_end f l = let e : suc (length f) ≡ length f + 1 = omega arith in rw e (drop-append-add f (62 ∷ l) 1)

text_ignorable : (b : ℕ) (l : List ℕ) (at : ℕ) → eqb b 60 ≡ false → ignorable (b ∷ l) at ≡ ignorable l (at + 1)
unfolding ignorable
text_ignorable b l at h =
    let e : suc at ≡ at + 1 = omega arith in
    rw h (ap (λ a. ignorable_from 0 l a) e)

text_skips : (b : ℕ) (l : List ℕ) (at : ℕ) → eqb b 60 ≡ false → tokens (b ∷ l) at ≡ tokens l (at + 1)
text_skips b l at h = skip_ignorable (b ∷ l) l at 1 refl (text_ignorable b l at h)

mark_ignorable : (f l : List ℕ) (at : ℕ) → Marks f → ignorable (60 ∷ (f ++ 62 ∷ l)) at ≡ ignorable l (at + suc (suc (length f)))
unfolding ignorable
mark_ignorable f l at h =
    let n = suc (suc (length f)) in
    let m : markup (f ++ 62 ∷ l) at ≡ Ok (Ignored (far at n)) = markup_later at (f ++ 62 ∷ l) 0 ∙ ap (later_markup at) (h l) in
    let i : far at n - suc at ≡ suc (length f) = omega (arith, far_is at n) in
    let j : suc at + suc (length f) ≡ at + n = omega arith in
    ap (λ k. further k at (λ p. ignorable_from (p - suc at) (f ++ 62 ∷ l) (suc at))) m
    ∙ ap (λ k. ignorable_from k (f ++ 62 ∷ l) (suc at)) i
    ∙ ignorable_taken f l (suc at)
    ∙ ap (λ k. ignorable_from 0 l k) j

mark_skips : (f l : List ℕ) (at : ℕ) → Marks f → tokens (60 ∷ (f ++ 62 ∷ l)) at ≡ tokens l (at + suc (suc (length f)))
mark_skips f l at h = skip_ignorable (60 ∷ (f ++ 62 ∷ l)) l at (suc (suc (length f))) (past_end f l) (mark_ignorable f l at h)

-- at a tag's `<`
pub next_tag : (l : List ℕ) (at : ℕ) → markup l at ≡ Ok Tag → next (60 ∷ l) at ≡ tag l at
unfolding next ignorable
next_tag l at h = rw (h, sub_self at)

token_comes : (f : List ℕ) (k : Token) (l : List ℕ) (at : ℕ) → Tags f k → tokens (60 ∷ (f ++ 62 ∷ l)) at ≡ later_token at k ∷ tokens l (at + suc (suc (length f)))
token_comes f k l at h =
    let n = suc (suc (length f)) in
    let m : markup (f ++ 62 ∷ l) at ≡ Ok Tag = markup_later at (f ++ 62 ∷ l) 0 ∙ ap (later_markup at) (h.none l) in
    let e : next (60 ∷ (f ++ 62 ∷ l)) at ≡ more (later_token at k) (far at n) = next_tag (f ++ 62 ∷ l) at m ∙ tag_later at (f ++ 62 ∷ l) 0 ∙ ap (later_next at) (h.is l) in
    let i : far at n - at ≡ n = omega (arith, far_is at n) in
    let j : far at n ≡ at + n = omega (arith, far_is at n) in
    tokens_more (60 ∷ (f ++ 62 ∷ l)) at (later_token at k) (far at n) e ∙ rw (i, j, past_end f l)

pub atoms_lexed : (cs : List Atom) (at : ℕ) (l : List ℕ) → tokens (bytes_of cs ++ l) at ≡ toks_of cs at ++ tokens l (at + length (bytes_of cs))
atoms_lexed [] at l = rw add-zero
atoms_lexed (text b h ∷ cs) at l =
    let e : at + 1 + length (bytes_of cs) ≡ at + suc (length (bytes_of cs)) = omega arith in
    text_skips b (bytes_of cs ++ l) at h ∙ atoms_lexed cs (at + 1) l ∙ rw e
atoms_lexed (mark f h ∷ cs) at l =
    let e : at + suc (suc (length f)) + length (bytes_of cs) ≡ at + suc (length (f ++ 62 ∷ bytes_of cs)) = omega (arith, length-append f (62 ∷ bytes_of cs)) in
    rw (append_assoc f (62 ∷ bytes_of cs) l) (mark_skips f (bytes_of cs ++ l) at h ∙ atoms_lexed cs (at + suc (suc (length f))) l ∙ rw e)
atoms_lexed (token f k h ∷ cs) at l =
    let e : at + suc (suc (length f)) + length (bytes_of cs) ≡ at + suc (length (f ++ 62 ∷ bytes_of cs)) = omega (arith, length-append f (62 ∷ bytes_of cs)) in
    rw (append_assoc f (62 ∷ bytes_of cs) l) (token_comes f k (bytes_of cs ++ l) at h ∙ ap (◌∷◌ (later_token at k)) (atoms_lexed cs (at + suc (suc (length f))) l ∙ rw e))

-- ---- reading

abbrev pub names : List Name → List (List ℕ)
names [] = []
names (x ∷ xs) = x.bytes ∷ names xs

names_long : (xs : List Name) → length (names xs) ≡ length xs
names_long [] = refl
names_long (x ∷ xs) = ap suc (names_long xs)

module _ {A : Type 0} (keep : Keeping A) (doc : List ℕ) (p : Purpose) (n : Name) (fs : List Frame) (u : Tables A) where
  -- so much is open in the element
  abbrev inner : List Name → State A
  inner xs = reading (passing p (xs ++ n ∷ []) ∷ fs) u

  closes : (x : Name) (xs : List Name) (lt : ℕ) (m : List ℕ) (q : ℕ) → same m x.bytes ≡ true → step keep doc (inner (x ∷ xs)) (close lt m q) ≡ inner xs
  unfolding step
  closes x [] lt m q e = rw e
  closes x (y ∷ xs) lt m q e = rw e

  pub atoms_fold : (cs : List Atom) (xs : List Name) (at : ℕ) → Leads cs (names xs) [] → fold keep doc (inner xs) (toks_of cs at) ≡ inner []
  unfolding step
  atoms_fold [] [] at h = refl
  atoms_fold [] (x ∷ xs) at h = let z : ◌≡◌ {A = ℕ} 0 1 = cc in absurd (omega arith)
  atoms_fold (text b e ∷ cs) xs at h = atoms_fold cs xs (at + 1) h
  atoms_fold (mark f e ∷ cs) xs at h = atoms_fold cs xs (at + suc (suc (length f))) h
  atoms_fold (token f (start t) e ∷ cs) xs at h =
      go t.self h (λ g. atoms_fold cs xs (at + suc (suc (length f))) g) (λ x g. atoms_fold cs (x ∷ xs) (at + suc (suc (length f))) g)
    where
      ts : List Token
      ts = toks_of cs (at + suc (suc (length f)))

      go :
          (s : Bool) →
          if s (Leads cs (names xs) []) ((length (names xs) < 1023) × Leads cs (t.name ∷ names xs) []) →
          (Leads cs (names xs) [] → fold keep doc (inner xs) ts ≡ inner []) →
          ((x : Name) → Leads cs (names (x ∷ xs)) [] → fold keep doc (inner (x ∷ xs)) ts ≡ inner []) →
          fold keep doc (if s (inner xs) (if (leb 1024 (length (xs ++ n ∷ []))) (refused (bare 7 (far at t.after))) (inner (record { at = suc (far at t.at); bytes = t.name } ∷ xs)))) ts ≡ inner []
      go true h i j = i h
      go false h i j =
          let z : leb 1024 (length (xs ++ n ∷ [])) ≡ false = lt-leb 1024 (length (xs ++ n ∷ [])) (omega (arith, h.0, names_long xs, length-append xs (n ∷ []))) in
          rw z (j (record { at = suc (far at t.at); bytes = t.name }) h.1)
  atoms_fold (token f (close lt m q) e ∷ cs) [] at h = absurd h
  atoms_fold (token f (close lt m q) e ∷ cs) (x ∷ xs) at h =
      ap (λ s. fold keep doc s (toks_of cs (at + suc (suc (length f))))) (closes x xs (far at lt) m (far at q) h.0) ∙ atoms_fold cs xs (at + suc (suc (length f))) h.1
  atoms_fold (token f (fault k q) e ∷ cs) xs at h = absurd h
  atoms_fold (token f (end q) e ∷ cs) xs at h = absurd h
