-- Runs of a class of bytes, equal lists and beginnings.
use Rattle.std.proofs.Common.{◌≡◌, ℕ, zero, suc, ◌+◌, ◌-◌, ◌<◌, ◌≤◌, Bool, true, false, ◌&&◌, eqb, List, [], ◌∷◌, ◌++◌, length, get_or, drop, sym, refl, ap, ◌∙◌, subst, append_assoc, add-zero, add-one, arith, length-drop, drop_of_length-le, get_or-drop, drop-cons, drop-drop, rules, eq-eqb, ne_eqb, eqb-true}
use mathlib.Core.Bool.{false≢true, and-eq-true_iff}
use borrow.Author.Tests.{eqb-false}
use Rattle.std.specs.Prelude.{Option, None, Some, MatchOption}
use Rattle.std.specs.Option.{unwrap_or}
use Rattle.slices.specs.Bytes.{if, other, span, past, all, same, starts}
use Rattle.slices.specs.Run.{Run}

-- a test that passes, taken apart
pub both : (a b : Bool) → if a b false ≡ true → (a ≡ true) × (b ≡ true)
both true b e = (refl, e)
both false b e = (cc, cc)

pub and_both : (a b : Bool) → a && b ≡ true → (a ≡ true) × (b ≡ true)
and_both a b = (and-eq-true_iff a b).0

pub if_false : (t : Bool) → if t false false ≡ false
if_false true = refl
if_false false = refl

pub if_true : (t : Bool) → if t true true ≡ true
if_true true = refl
if_true false = refl

pub if_same : (t : Bool) → if t true false ≡ t
if_same true = refl
if_same false = refl

pub eqb_swap : (m n : ℕ) → eqb m n ≡ eqb n m
eqb_swap m n = go (eqb m n) refl
  where
    go : (t : Bool) → eqb m n ≡ t → eqb m n ≡ eqb n m
    go true e = e ∙ sym (eq-eqb n m (sym (eqb-true m n e)))
    go false e = e ∙ sym (ne_eqb n m (λ q. eqb-false m n e (sym q)))

pub append_regroup : (a b c d : List ℕ) → a ++ ((b ++ c) ++ d) ≡ (a ++ b) ++ (c ++ d)
append_regroup a b c d = simp append_assoc

-- a byte is one of a kind, or it is not
pub by_byte : (P : ℕ → Type 0) (b k : ℕ) → P k → (eqb b k ≡ false → P b) → P b
by_byte P b k yes-it no-it = go (eqb b k) refl
  where
    go : (t : Bool) → eqb b k ≡ t → P b
    go true e = subst P (sym (eqb-true b k e)) yes-it
    go false e = no-it e

-- what follows a run: nothing, or a byte of another class
abbrev pub Stops : (ℕ → Bool) → List ℕ → Type 0
Stops p [] = Unit {0}
Stops p (b ∷ l) = p b ≡ false

span_none : (p : ℕ → Bool) (r : List ℕ) → Stops p r → span p r ≡ []
span_none p [] e = refl
span_none p (b ∷ r) e = rw e

past_none : (p : ℕ → Bool) (r : List ℕ) → Stops p r → past p r ≡ r
past_none p [] e = refl
past_none p (b ∷ r) e = rw e

pub span_stops : (p : ℕ → Bool) (s r : List ℕ) → all p s ≡ true → Stops p r → span p (s ++ r) ≡ s
span_stops p [] r h e = span_none p r e
span_stops p (a ∷ s) r h e =
    let t = both (p a) (all p s) h in
    rw t.0 (ap (◌∷◌ a) (span_stops p s r t.1 e))

pub past_stops : (p : ℕ → Bool) (s r : List ℕ) → all p s ≡ true → Stops p r → past p (s ++ r) ≡ r
past_stops p [] r h e = past_none p r e
past_stops p (a ∷ s) r h e =
    let t = both (p a) (all p s) h in
    rw t.0 (past_stops p s r t.1 e)

-- what follows a run, by its place, as code uses it
pub past-drop : (p : ℕ → Bool) (l : List ℕ) → past p l ≡ drop (length (span p l)) l
past-drop p [] = refl
past-drop p (b ∷ l) = go (p b) (past-drop p l)
  where
    go : (t : Bool) → past p l ≡ drop (length (span p l)) l → if t (past p l) (b ∷ l) ≡ drop (length (if t (b ∷ span p l) [])) (b ∷ l)
    go true e = e
    go false e = refl

pub past_at : (p : ℕ → Bool) (doc : List ℕ) (at : ℕ) → past p (drop at doc) ≡ drop (at + length (span p (drop at doc))) doc
past_at p doc at = past-drop p (drop at doc) ∙ drop-drop (length (span p (drop at doc))) at doc

-- what is the same past a byte of a class, whichever bytes follow, is the same past a run of them
run_skips : {A : Type 0} (f : List ℕ → ℕ → A) (p : ℕ → Bool) → ((b : ℕ) (l : List ℕ) (at : ℕ) → p b ≡ true → f (b ∷ l) at ≡ f l (suc at)) → (l : List ℕ) (at : ℕ) → f l at ≡ f (past p l) (at + length (span p l))
run_skips f p one [] at = rw add-zero
run_skips f p one (b ∷ l) at = go (p b) refl (run_skips f p one l (suc at))
  where
    go : (t : Bool) → p b ≡ t → f l (suc at) ≡ f (past p l) (suc at + length (span p l)) → f (b ∷ l) at ≡ f (if t (past p l) (b ∷ l)) (at + length (if t (b ∷ span p l) []))
    go true e i =
        let n : suc at + length (span p l) ≡ at + suc (length (span p l)) = omega arith in
        rw (← n) (one b l at e ∙ i)
    go false e i = rw add-zero

pub run_past : {A : Type 0} (f : List ℕ → ℕ → A) (p : ℕ → Bool) → ((b : ℕ) (l : List ℕ) (at : ℕ) → p b ≡ true → f (b ∷ l) at ≡ f l (suc at)) → (s : List ℕ) (at : ℕ) {r : ℕ} → Run p s at r → f (drop at s) at ≡ f (drop r s) r
run_past f p one s at n = run_skips f p one (drop at s) at ∙ rw (past_at p s at, ← n.ends)

-- the byte at the end of a run is of another class
pub span_end : (p : ℕ → Bool) (l : List ℕ) → length (span p l) < length l → p (get_or l (length (span p l)) 0) ≡ false
span_end p [] h = absurd (omega arith)
span_end p (b ∷ l) h = go (p b) refl h (span_end p l)
  where
    go : (t : Bool) → p b ≡ t → length (if t (b ∷ span p l) []) < suc (length l) → (length (span p l) < length l → p (get_or l (length (span p l)) 0) ≡ false) → p (get_or (b ∷ l) (length (if t (b ∷ span p l) [])) 0) ≡ false
    go true e h i = i (omega arith)
    go false e h i = e

pub run_stop : {p : ℕ → Bool} {s : List ℕ} {from r : ℕ} → Run p s from r → r < length s → p (get_or s r 0) ≡ false
run_stop {p} {s} {from} {r} n h =
    let l : length (span p (drop from s)) < length (drop from s) = omega (arith, length-drop from s, n.ends) in
    rw (n.ends, ← get_or-drop from s (length (span p (drop from s))) 0) (span_end p (drop from s) l)

-- a loop over a run that began at from and stands at at: what is left of the run is what was asked
pub record Running (p : ℕ → Bool) (s : List ℕ) (from at : ℕ) : Type 0 where
  pub left : from + length (span p (drop from s)) ≡ at + length (span p (drop at s))
  pub since : from ≤ at
  pub inside : at ≤ length s

pub run_begins : {p : ℕ → Bool} {s : List ℕ} {from : ℕ} → from ≤ length s → Running p s from from
run_begins h = record { left = refl; since = omega arith; inside = h }

module _ {p : ℕ → Bool} {s : List ℕ} {from at : ℕ} (g : Running p s from at) where
  pub run_more : at < length s → p (get_or s at 0) ≡ true → Running p s from (at + 1)
  run_more h e = record {
    left = g.left ∙ rw (drop-cons s at 0 h, e, add-one) (omega arith);
    since = omega arith;
    inside = omega arith;
  }

  pub run_stops : at < length s → p (get_or s at 0) ≡ false → Run p s from at
  run_stops h e = record {
    ends = sym (g.left ∙ rw (drop-cons s at 0 h, e) (add-zero at));
    onward = g.since;
    within = g.inside;
  }

  pub run_ends : length s ≤ at → Run p s from at
  run_ends h = record {
    ends = sym (g.left ∙ rw (drop_of_length-le s h) (add-zero at));
    onward = g.since;
    within = g.inside;
  }

-- a run goes on over bytes of the class
pub run_grows : {p : ℕ → Bool} {s : List ℕ} (from k : ℕ) → from + k ≤ length s → ((i : ℕ) → from ≤ i → i < from + k → p (get_or s i 0) ≡ true) → Running p s from (from + k)
run_grows {p} {s} from zero h f =
    let z : from ≡ from + 0 = omega arith in
    subst (Running p s from) z (run_begins (omega (arith, h)))
run_grows {p} {s} from (suc k) h f =
    let z : from + k + 1 ≡ from + suc k = omega arith in
    subst (Running p s from) z
    (run_more (run_grows from k (omega (arith, h)) (λ i a l. f i a (omega (arith, l)))) (omega (arith, h)) (f (from + k) (omega arith) (omega arith)))

pub run_reaches : {p : ℕ → Bool} {s : List ℕ} {from r : ℕ} → from ≤ r → r ≤ length s → ((i : ℕ) → from ≤ i → i < r → p (get_or s i 0) ≡ true) → Running p s from r
run_reaches {p} {s} {from} {r} a h f =
    let z : from + (r - from) ≡ r = omega (arith, a) in
    subst (Running p s from) z (run_grows from (r - from) (omega (arith, a, h)) (λ i b l. f i b (omega (arith, l, a))))

-- the first byte of another class ends it, or the length does
pub run_first : {p : ℕ → Bool} {s : List ℕ} {from r : ℕ} (o : Option ℕ) → from ≤ length s
    → MatchOption o ((k : ℕ) → from ≤ k → k < length s → p (get_or s k 0) ≡ true) (λ i. (from ≤ i) × (i < length s) × (p (get_or s i 0) ≡ false) × ((k : ℕ) → from ≤ k → k < i → p (get_or s k 0) ≡ true))
    → r ≡ unwrap_or o (length s) → Run p s from r
run_first {p} {s} {from} None h f e = rw e (run_ends (run_reaches h (omega arith) f) (omega arith))
run_first {p} {s} {from} (Some i) h f e = rw e (run_stops (run_reaches f.0 (omega (arith, f.1)) f.3) f.1 f.2)

pub other_false : (a b : ℕ) → a ≡ b → other b a ≡ false
other_false a b e = rw (eq-eqb a b e)

pub other_true : (a b : ℕ) → (a ≡ b → ⊥) → other b a ≡ true
other_true a b e = rw (ne_eqb a b e)

-- a comparison of a key with what stands at a place, after i equal bytes
pub record Matching (s : List ℕ) (from : ℕ) (key : List ℕ) (i : ℕ) : Type 0 where
  pub left : starts key (drop from s) ≡ starts (drop i key) (drop (from + i) s)
  pub room : from + length key ≤ length s
  pub inside : i ≤ length key

-- a key that is longer than what is left does not stand there
starts_short : (key l : List ℕ) → length l < length key → starts key l ≡ false
starts_short [] l h = absurd (omega arith)
starts_short (a ∷ k) [] h = refl
starts_short (a ∷ k) (b ∷ l) h = rw (starts_short k l (omega arith)) (if_false (eqb a b))

-- one that stands there fits
pub starts_fits : (key l : List ℕ) → starts key l ≡ true → length key ≤ length l
starts_fits [] l h = omega arith
starts_fits (a ∷ k) [] h = let z : ◌≡◌ {A = ℕ} 0 1 = cc in absurd (omega arith)
starts_fits (a ∷ k) (b ∷ l) h = let i = starts_fits k l (both (eqb a b) (starts k l) h).1 in omega arith

pub match_short : (s : List ℕ) (from : ℕ) (key : List ℕ) → from ≤ length s → length s - from < length key → false ≡ starts key (drop from s)
match_short s from key h l = sym (starts_short key (drop from s) (rw length-drop (omega arith)))

pub match_begins : {s : List ℕ} {from : ℕ} {key : List ℕ} → from ≤ length s → length key ≤ length s - from → Matching s from key 0
match_begins {s} {from} {key} h l = record { left = rw add-zero; room = omega arith; inside = omega arith }

module _ {s : List ℕ} {from : ℕ} {key : List ℕ} {i : ℕ} (g : Matching s from key i) where
  pub match_more : i < length key → get_or s (from + i) 0 ≡ get_or key i 0 → Matching s from key (i + 1)
  match_more h e =
      let t : eqb (get_or key i 0) (get_or s (from + i) 0) ≡ true = eq-eqb _ _ (sym e) in
      let n : suc (from + i) ≡ from + suc i = omega arith in
      let j : from + i < length s = omega (arith, g.room) in
      record {
        left = g.left ∙ rw (add-one, drop-cons key i 0 h, drop-cons s (from + i) 0 j, t, n);
        room = g.room;
        inside = omega arith;
      }

  pub match_fails : i < length key → (get_or s (from + i) 0 ≡ get_or key i 0 → ⊥) → false ≡ starts key (drop from s)
  match_fails h e =
      let t : eqb (get_or key i 0) (get_or s (from + i) 0) ≡ false = ne_eqb _ _ (λ q. e (sym q)) in
      let j : from + i < length s = omega (arith, g.room) in
      sym (g.left ∙ rw (drop-cons key i 0 h, drop-cons s (from + i) 0 j, t))

  pub match_ends : length key ≤ i → true ≡ starts key (drop from s)
  match_ends h = sym (g.left ∙ rw (drop_of_length-le key h))

-- equal lists are beginnings of each other of the same length
same_starts : (a b : List ℕ) → length a ≡ length b → same a b ≡ starts b a
same_starts [] [] h = refl
same_starts [] (x ∷ b) h = absurd (omega arith)
same_starts (x ∷ a) [] h = absurd (omega arith)
same_starts (x ∷ a) (y ∷ b) h = rw (same_starts a b (omega arith)) (swap (eqb x y) (eqb y x) (eqb_swap x y))
  where
    swap : (s t : Bool) → s ≡ t → if s (starts b a) false ≡ if t (starts b a) false
    swap s t e = rw e

pub same_short : (a b : List ℕ) → (length a ≡ length b → ⊥) → false ≡ same a b
same_short [] [] h = absurd (h refl)
same_short [] (x ∷ b) h = refl
same_short (x ∷ a) [] h = refl
same_short (x ∷ a) (y ∷ b) h = rw (← same_short a b (λ e. h (ap suc e))) (sym (if_false (eqb x y)))

pub same_equal : (a b : List ℕ) → same a b ≡ true → a ≡ b
same_equal [] [] e = refl
same_equal [] (y ∷ b) e = absurd (false≢true e)
same_equal (x ∷ a) [] e = absurd (false≢true e)
same_equal (x ∷ a) (y ∷ b) e =
    let t = both (eqb x y) (same a b) e in
    rw (eqb-true x y t.0) (ap (◌∷◌ y) (same_equal a b t.1))

pub same_self : (s : List ℕ) → same s s ≡ true
same_self [] = refl
same_self (x ∷ s) = rw (eq-eqb x x refl) (same_self s)

-- a text is not some bytes, since its length is another or a byte is
pub record Differs (s t : List ℕ) : Type 0 where
  pub is : same s t ≡ false

differs : (s t : List ℕ) → (s ≡ t → ⊥) → Differs s t
differs s t n = go (same s t) refl (same_equal s t)
  where
    go : (r : Bool) → same s t ≡ r → (r ≡ true → s ≡ t) → Differs s t
    go true e f = absurd (n (f refl))
    go false e f = record { is = e }

module _ (s t : List ℕ) where
  pub differs_short : length s < length t → Differs s t
  differs_short h = differs s t (λ e. omega (arith, ap length e))

  pub differs_long : length t < length s → Differs s t
  differs_long h = differs s t (λ e. omega (arith, ap length e))

  pub differs_at : (i : ℕ) → (get_or s i 0 ≡ get_or t i 0 → ⊥) → Differs s t
  differs_at i h = differs s t (λ e. h (ap (λ (l : List ℕ). get_or l i 0) e))

pub ruleset differing = (differs_short, differs_long, differs_at)

-- what answers every need of a comparison
pub ruleset matches = (match_short, match_begins, match_more, match_fails, match_ends, rules)

pub same_long : (a b : List ℕ) (r : Bool) → length a ≡ length b → r ≡ starts b a → r ≡ same a b
same_long a b r h e = e ∙ sym (same_starts a b h)

pub ruleset equals = (same_long, same_short, rules)
