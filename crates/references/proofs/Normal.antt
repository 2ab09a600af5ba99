-- The definition is 2.11 over the whole value, then 3.3.3.
use Prim.Native.Nat.{ℕ, zero, suc, ◌+◌, ◌≤◌}
use mathlib.Core.Path.{◌≡◌, refl, sym, ap, ◌∙◌}
use mathlib.Core.List.{List, [], ◌∷◌, ◌++◌}
use mathlib.Core.Bool.{Bool, true, false, not, ◌||◌, and-false}
use borrow.Author.Tests.{ne_eqb, eqb-false, eqb-true}
use native.Mathlib.Numerals.{add-one}
use native.Mathlib.Omega.{arith}
use lib.Dec.{eqb}
use lib.ListN.{length, length-append}
use Rattle.slices.specs.Bytes.{if, bytes, other, span, past, all, empty, same, digit}
use Rattle.slices.proofs.Runs.{both, by_byte, span_stops, past_stops}
use Rattle.utf8.specs.Encoding.{utf8}
use Rattle.answers.specs.Text.{Text, text, wrong}
use Rattle.references.specs.Unescape.{Reference, character, fault, hex_digit, of_digits, of_number, char_reference, reference, shows, bad, referred, after_ampersand, piece, before, joined, shown_from, unescape}
use Rattle.references.specs.Normal.{line_ends, named, refers, normal, after, continued, normal_from, normalised, outcome, FollowsRecommendation}

-- a CR comes to a LF and something after it
cr_first : (l : List ℕ) → (x : List ℕ) × (line_ends (13 ∷ l) ≡ 10 ∷ x)
cr_first [] = ([], refl)
cr_first (c ∷ k) = by_byte (λ y. (x : List ℕ) × (line_ends (13 ∷ y ∷ k) ≡ 10 ∷ x)) c 10 (line_ends k, refl) (λ n. (line_ends (c ∷ k), rw n))

-- by whether the first byte is a CR
by_cr : (P : ℕ → List ℕ → List ℕ → Type 0) (b : ℕ) (l : List ℕ) → ((x : List ℕ) → P 13 l (10 ∷ x)) → (eqb b 13 ≡ false → P b l (b ∷ line_ends l)) → P b l (line_ends (b ∷ l))
by_cr P b l f g = by_byte (λ y. P y l (line_ends (y ∷ l))) b 13 (let c = cr_first l in rw c.1 (f c.0)) (λ n. rw n (g n))

-- ---- what a class without CR and LF says of both

module _ (p : ℕ → Bool) (e : p 10 ≡ false) (f : p 13 ≡ false) where
  all_ends : (l : List ℕ) → all p (line_ends l) ≡ all p l
  all_ends [] = refl
  all_ends (b ∷ l) = by_cr (λ y k x. all p x ≡ all p (y ∷ k)) b l (λ x. rw (e, f)) (λ n. rw (all_ends l))

  same_ends : (l : List ℕ) → all p l ≡ true → line_ends l ≡ l
  same_ends [] h = refl
  same_ends (b ∷ l) h =
      let t = both (p b) (all p l) h in
      by_byte (λ y. p y ≡ true → line_ends (y ∷ l) ≡ y ∷ l) b 13 (λ g. cc) (λ n g. rw (n, same_ends l t.1)) t.0

  digits_ends : (base : ℕ) (l : List ℕ) → of_digits base p (line_ends l) ≡ of_digits base p l
  digits_ends base l = go (all p l) refl
    where
      go : (t : Bool) → all p l ≡ t → of_digits base p (line_ends l) ≡ of_digits base p l
      go true h = rw (same_ends l h)
      go false h = rw (all_ends l, h, and-false (not (empty (line_ends l))), and-false (not (empty l)))

-- ---- a reference is the same after 2.11

number_ends : (l : List ℕ) → of_number (line_ends l) ≡ of_number l
number_ends [] = refl
number_ends (b ∷ l) =
    by_cr (λ y k x. (line_ends (y ∷ k) ≡ x → of_number x ≡ of_number (y ∷ k))) b l (λ x q. refl) (λ n q. rw (digits_ends hex_digit refl refl 16 l) (decimal n)) refl
  where
    decimal : eqb b 13 ≡ false → if (eqb b 120 || eqb b 88) (of_digits 16 hex_digit l) (of_digits 10 digit (b ∷ line_ends l)) ≡ if (eqb b 120 || eqb b 88) (of_digits 16 hex_digit l) (of_digits 10 digit (b ∷ l))
    decimal n =
        let d : of_digits 10 digit (b ∷ line_ends l) ≡ of_digits 10 digit (b ∷ l) = rw n at (digits_ends digit refl refl 10 (b ∷ l)) in
        ap (λ (r : Reference). if (eqb b 120 || eqb b 88) (of_digits 16 hex_digit l) r) d

char_ends : (l : List ℕ) → char_reference (line_ends l) ≡ char_reference l
char_ends [] = refl
char_ends (b ∷ l) = by_cr (λ y k x. char_reference x ≡ char_reference (y ∷ k)) b l (λ x. refl) (λ n. ap (λ (r : Reference). if (eqb b 35) r (fault 10)) (number_ends l))

-- a name without CR and LF
same_name : (k : List ℕ) → all (λ b. not (eqb b 10 || eqb b 13)) k ≡ true → (l : List ℕ) → same (line_ends l) k ≡ same l k
same_name k h [] = refl
same_name [] h (b ∷ l) = by_cr (λ y j x. same x [] ≡ same (y ∷ j) []) b l (λ x. refl) (λ n. refl)
same_name (c ∷ k) h (b ∷ l) =
    let t = both (not (eqb c 10 || eqb c 13)) (all (λ b. not (eqb b 10 || eqb b 13)) k) h in
    by_cr (λ y j x. same x (c ∷ k) ≡ same (y ∷ j) (c ∷ k)) b l (λ x. rw (lf c t.0, cr c t.0)) (λ n. rw (same_name k t.1 l))
  where
    lf : (c : ℕ) → not (eqb c 10 || eqb c 13) ≡ true → eqb 10 c ≡ false
    lf c g = by_byte (λ y. not (eqb y 10 || eqb y 13) ≡ true → eqb 10 y ≡ false) c 10 (λ q. cc) (λ n q. ne c n) g
      where
        ne : (c : ℕ) → eqb c 10 ≡ false → eqb 10 c ≡ false
        ne c n = ne_eqb 10 c (λ q. eqb-false c 10 n (sym q))

    cr : (c : ℕ) → not (eqb c 10 || eqb c 13) ≡ true → eqb 13 c ≡ false
    cr c g = by_byte (λ y. not (eqb y 10 || eqb y 13) ≡ true → eqb 13 y ≡ false) c 13 (λ q. cc) (λ n q. ne_eqb 13 c (λ i. eqb-false c 13 n (sym i))) g

reference_ends : (l : List ℕ) → reference (line_ends l) ≡ reference l
unfolding reference
reference_ends l =
    rw (same_name (bytes "amp") refl l, same_name (bytes "lt") refl l, same_name (bytes "gt") refl l, same_name (bytes "quot") refl l, same_name (bytes "apos") refl l, char_ends l)

-- ---- 2.11 before a `;`

ends_before : (s r : List ℕ) → line_ends (s ++ 59 ∷ r) ≡ line_ends s ++ 59 ∷ line_ends r
ends_before [] r = refl
ends_before (b ∷ []) r = by_byte (λ y. line_ends (y ∷ 59 ∷ r) ≡ line_ends (y ∷ []) ++ 59 ∷ line_ends r) b 13 refl (λ n. rw n)
ends_before (b ∷ c ∷ s) r =
    by_byte (λ y. line_ends (y ∷ c ∷ s ++ 59 ∷ r) ≡ line_ends (y ∷ c ∷ s) ++ 59 ∷ line_ends r) b 13 (go (eqb c 10) (ends_before (c ∷ s) r)) (λ n. rw (n, ends_before (c ∷ s) r))
  where
    go : (t : Bool) → line_ends (c ∷ s ++ 59 ∷ r) ≡ line_ends (c ∷ s) ++ 59 ∷ line_ends r → if t (line_ends (c ∷ s ++ 59 ∷ r)) (10 ∷ line_ends (c ∷ s ++ 59 ∷ r)) ≡ if t (line_ends (c ∷ s)) (10 ∷ line_ends (c ∷ s)) ++ 59 ∷ line_ends r
    go true i = i
    go false i = ap (◌∷◌ 10) i

-- ---- an ampersand

-- with a `;`, and without
pub closed : (s r : List ℕ) → all (other 59) s ≡ true → after_ampersand (s ++ 59 ∷ r) ≡ referred (reference s) (suc (length s))
closed s r h = rw (span_stops (other 59) s (59 ∷ r) h refl, past_stops (other 59) s (59 ∷ r) h refl)

pub unclosed : (s : List ℕ) → all (other 59) s ≡ true → after_ampersand s ≡ bad 9
unclosed s h = rw (past_all s h)
  where
    past_all : (s : List ℕ) → all (other 59) s ≡ true → past (other 59) s ≡ []
    past_all [] h = refl
    past_all (b ∷ s) h = let t = both (other 59 b) (all (other 59) s) h in rw t.0 (past_all s t.1)

-- what the two definitions take a reference to be
named_is : (e : List ℕ) → named e ≡ reference e
unfolding reference
named_is [] = refl
named_is (b ∷ l) = by_byte (λ y. named (y ∷ l) ≡ reference (y ∷ l)) b 35 refl (λ n. rw n)

refers_is : (l : List ℕ) → refers l ≡ after_ampersand l
refers_is l = rw (named_is (span (other 59) l))

-- a text up to its first `;`, and what follows it
pub data Cut : List ℕ → Type 0 where
  none : (l : List ℕ) → all (other 59) l ≡ true → Cut l
  some : (s r : List ℕ) → all (other 59) s ≡ true → Cut (s ++ 59 ∷ r)

pub cut : (l : List ℕ) → Cut l
cut [] = Cut.none [] refl
cut (b ∷ l) = by_byte (λ y. Cut (y ∷ l)) b 59 (Cut.some [] l refl) (λ n. more n (cut l))
  where
    more : {k : List ℕ} → eqb b 59 ≡ false → Cut k → Cut (b ∷ k)
    more n (Cut.none k h) = Cut.none (b ∷ k) (rw (n, h))
    more n (Cut.some s r h) = Cut.some (b ∷ s) r (rw (n, h))

-- ---- the value

outcome_before : (s : List ℕ) (t : Text) → outcome (before s t) ≡ after s (outcome t)
outcome_before s (text t) = refl
outcome_before s (wrong n p) = refl

skip : (s : List ℕ) (b : ℕ) (r : List ℕ) → normal_from (suc (length s)) (s ++ b ∷ r) ≡ normal_from 0 r
skip [] b r = refl
skip (c ∷ s) b r = skip s b r

pub skip_shown : (s : List ℕ) (b : ℕ) (r : List ℕ) (at : ℕ) → shown_from (suc (length s)) (s ++ b ∷ r) at ≡ shown_from 0 r (at + suc (length s))
skip_shown [] b r at = rw add-one
skip_shown (c ∷ s) b r at = let e : at + suc (suc (length s)) ≡ suc at + suc (length s) = omega arith in rw e (skip_shown s b r (suc at))

-- the definition and the two steps agree on values of n bytes at most
abbrev Agree : ℕ → Type 0
Agree n = (l : List ℕ) (at : ℕ) → length l ≤ n → outcome (shown_from 0 l at) ≡ normal_from 0 (line_ends l)

all_other : (s : List ℕ) → all (other 59) (line_ends s) ≡ all (other 59) s
all_other [] = refl
all_other (b ∷ s) = by_byte (λ y. all (other 59) (line_ends (y ∷ s)) ≡ all (other 59) (y ∷ s)) b 13 (first s (all_other s)) (λ n. rw (n, all_other s))
  where
    first : (s : List ℕ) → all (other 59) (line_ends s) ≡ all (other 59) s → all (other 59) (line_ends (13 ∷ s)) ≡ all (other 59) (13 ∷ s)
    first [] i = refl
    first (c ∷ s) i = go (eqb c 10) i
      where
        go : (t : Bool) → all (other 59) (line_ends (c ∷ s)) ≡ all (other 59) (c ∷ s) → all (other 59) (if t (line_ends (c ∷ s)) (10 ∷ line_ends (c ∷ s))) ≡ all (other 59) (c ∷ s)
        go true i = i
        go false i = i

module _ (n : ℕ) (i : Agree n) (at : ℕ) where
  -- a reference, or a `&` without one
  ampersand : (l : List ℕ) → Cut l → length l ≤ n → outcome (shown_from 0 (38 ∷ l) at) ≡ normal_from 0 (line_ends (38 ∷ l))
  unfolding piece normal
  ampersand l (Cut.none k h) m = rw (refers_is (line_ends k) ∙ unclosed (line_ends k) (all_other k ∙ h), unclosed k h)
  ampersand l (Cut.some s r h) m =
      rw (ends_before s r, refers_is (line_ends s ++ 59 ∷ line_ends r) ∙ closed (line_ends s) (line_ends r) (all_other s ∙ h), closed s r h, reference_ends s) (go (reference s))
    where
      go : (x : Reference) → outcome (joined (referred x (suc (length s))) at (λ w. shown_from w (s ++ 59 ∷ r) (suc at))) ≡ continued (referred x (suc (length (line_ends s)))) (λ w. normal_from w (line_ends s ++ 59 ∷ line_ends r))
      go (fault k) = refl
      go (character c) =
          outcome_before (utf8 c) (shown_from (suc (length s)) (s ++ 59 ∷ r) (suc at))
          ∙ rw (skip_shown s 59 r (suc at), skip (line_ends s) 59 (line_ends r), i r (suc at + suc (length s)) (omega (arith, length-append s (59 ∷ r))))

  line : (l : List ℕ) → length l ≤ n → outcome (shown_from 0 (13 ∷ l) at) ≡ normal_from 0 (line_ends (13 ∷ l))
  unfolding piece normal
  line [] m = refl
  line (c ∷ l) m = by_byte (λ y. outcome (shown_from 0 (13 ∷ y ∷ l) at) ≡ normal_from 0 (line_ends (13 ∷ y ∷ l))) c 10
      (outcome_before (32 ∷ []) (shown_from 0 l (suc (suc at))) ∙ rw (i l (suc (suc at)) (omega arith)))
      (λ k. rw k (outcome_before (32 ∷ []) (shown_from 0 (c ∷ l) (suc at)) ∙ rw (i (c ∷ l) (suc at) m)))

  plainly : (b : ℕ) (l : List ℕ) → eqb b 38 ≡ false → eqb b 13 ≡ false → length l ≤ n → outcome (shown_from 0 (b ∷ l) at) ≡ normal_from 0 (line_ends (b ∷ l))
  unfolding piece normal
  plainly b l h k m = rw (h, k) (rw (h, k) (go (eqb b 10) (eqb b 9) (eqb b 32) (eqb-true b 32)))
    where
      on : (s : List ℕ) → outcome (before s (shown_from 0 l (suc at))) ≡ after s (normal_from 0 (line_ends l))
      on s = outcome_before s (shown_from 0 l (suc at)) ∙ rw (i l (suc at) m)

      go : (x y z : Bool) → (z ≡ true → b ≡ 32) → outcome (joined (if (x || y) (shows (32 ∷ []) 0) (shows (b ∷ []) 0)) at (λ w. shown_from w l (suc at))) ≡ continued (if (z || false || x || y) (shows (32 ∷ []) 0) (shows (b ∷ []) 0)) (λ w. normal_from w (line_ends l))
      go true y true f = on (32 ∷ [])
      go true y false f = on (32 ∷ [])
      go false true true f = on (32 ∷ [])
      go false true false f = on (32 ∷ [])
      go false false true f = rw (f refl) (on (32 ∷ []))
      go false false false f = on (b ∷ [])

  one : (b : ℕ) (l : List ℕ) → length l ≤ n → outcome (shown_from 0 (b ∷ l) at) ≡ normal_from 0 (line_ends (b ∷ l))
  one b l m =
      by_byte (λ y. outcome (shown_from 0 (y ∷ l) at) ≡ normal_from 0 (line_ends (y ∷ l))) b 38 (ampersand l (cut l) m) λ h.
      by_byte (λ y. eqb y 38 ≡ false → outcome (shown_from 0 (y ∷ l) at) ≡ normal_from 0 (line_ends (y ∷ l))) b 13 (λ g. line l m) (λ k g. plainly b l g k m) h

some_bytes : (n : ℕ) → Agree n → Agree (suc n)
some_bytes n i [] at m = refl
some_bytes n i (b ∷ l) at m = one n i at b l (omega arith)

no_bytes : Agree zero
no_bytes [] at m = refl
no_bytes (b ∷ l) at m = absurd (omega arith)

agree : (n : ℕ) → Agree n
agree zero = no_bytes
agree (suc n) = some_bytes n (agree n)

pub unescape_normal : FollowsRecommendation
unfolding unescape normalised
unescape_normal v = agree (length v) v 0 (omega arith)
