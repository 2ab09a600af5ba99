-- Two documents that differ inside a comment have the same tokens, and no token ends or closes inside it.
use Prim.Native.Nat.{ℕ, zero, suc, ◌+◌, ◌-◌, ◌≤◌}
use mathlib.Core.Path.{◌≡◌, refl, sym, ap, ◌∙◌}
use mathlib.Core.List.{List, [], ◌∷◌, ◌++◌}
use mathlib.Core.Bool.{Bool, true, false}
use mathlib.Core.Logic.{◌⊎◌, inl, inr}
use native.Mathlib.Omega.{arith}
use lib.ListN.{length, drop, length-drop, length-append}
use lib.Seq.{drop-drop, drop-append-add}
use Rattle.std.specs.Prelude.{Result, Ok, Err}
use Rattle.faults.specs.declared.Fault.{Fault}
use Rattle.slices.specs.Bytes.{if, bytes}
use Rattle.scan.specs.Ignorable.{seek, ignorable_from, ignorable}
use Rattle.document.specs.Elements.{among}
use Rattle.document.specs.Tokens.{Token, start, close, fault, end, Next, more, last, past_ignorable, next, joined, tokens_from}
use Rattle.document.proofs.Runs.{taken}
use Rattle.document.proofs.Ignorables.{Scanned, ignorable_within}
use Rattle.document.proofs.Nexts.{Onward, Ended, Reaches, next_reaches, moves_on}
use Rattle.document.proofs.Tests.{never, among_append}
use Rattle.met.specs.Passed.{passed_from}
use Rattle.remarks.proofs.Comments.{after, comments_from}
use Rattle.remarks.proofs.Faults.{Lies, next_lies}
use Rattle.remarks.proofs.Tagged.{next_part}
use Rattle.remarks.proofs.Meeting.{passed_since, meets}

pub comments_since : (c k : ℕ) (l : List ℕ) (at : ℕ) → among c (comments_from k l at) ≡ true → at + k ≤ c
comments_since c k [] at e = never e
comments_since c (suc k) (b ∷ l) at e = let z = comments_since c k l (suc at) e in omega arith
comments_since c zero (b ∷ l) at e =
    go (among c (passed_from 0 (b ∷ l) at)) refl (sym (among_append c (passed_from 0 (b ∷ l) at) (after (next (b ∷ l) at) (λ p. comments_from (p - suc at) l (suc at)))) ∙ e) (λ k f. comments_since c k l (suc at) f)
  where
    further : (n : Next) → among c (after n (λ p. comments_from (p - suc at) l (suc at))) ≡ true → ((k : ℕ) → among c (comments_from k l (suc at)) ≡ true → suc at + k ≤ c) → at + 0 ≤ c
    further (more t p) e i = let z = i (p - suc at) e in omega arith
    further (last t) e i = never e

    go : (t : Bool) → among c (passed_from 0 (b ∷ l) at) ≡ t → if t true (among c (after (next (b ∷ l) at) (λ p. comments_from (p - suc at) l (suc at)))) ≡ true → ((k : ℕ) → among c (comments_from k l (suc at)) ≡ true → suc at + k ≤ c) → at + 0 ≤ c
    go true f e i = passed_since c 0 (b ∷ l) at f
    go false f e i = further (next (b ∷ l) at) e i

-- ---- places outside of a comment

abbrev pub Out : ℕ → ℕ → ℕ → Type 0
Out c e x = (x ≤ c) ⊎ (e ≤ x)

-- a start tag ends there; a closing tag's name ends before it, or the tag begins after it; so does a fault
abbrev pub TokenOut : ℕ → ℕ → Token → Type 0
TokenOut c e (start t) = Out c e t.after
TokenOut c e (close lt m q) = (suc (suc lt) + length m ≤ c) ⊎ (e ≤ lt)
TokenOut c e (fault n p) = e ≤ p
TokenOut c e (end p) = Unit {0}

abbrev pub AllOut : ℕ → ℕ → List Token → Type 0
AllOut c e [] = Unit {0}
AllOut c e (t ∷ ts) = TokenOut c e t × AllOut c e ts

module _ (c e : ℕ) where
  after_out : (at top : ℕ) (t : Token) (q : ℕ) → e ≤ at → Onward at top t q → TokenOut c e t
  after_out at top (start t) q h g = inr (omega (arith, g.since, g.long, g.after))
  after_out at top (close lt n p) q h g = inr (omega (arith, g.since))
  after_out at top (fault n p) q h g = absurd g
  after_out at top (end p) q h g = absurd g

  before_out : (at top : ℕ) (t : Token) (q : ℕ) → q ≤ c → Onward at top t q → Lies at (more t q) → TokenOut c e t
  before_out at top (start t) q h g l = inl (omega (arith, g.after))
  before_out at top (close lt n p) q h g l = inl (omega arith)
  before_out at top (fault n p) q h g l = absurd g
  before_out at top (end p) q h g l = absurd g

  last_out : (at top : ℕ) (t : Token) → e ≤ at → Ended top t → Lies at (last t) → TokenOut c e t
  last_out at top (start t) h g l = absurd g
  last_out at top (close lt n p) h g l = absurd g
  last_out at top (fault n p) h g l = omega arith
  last_out at top (end p) h g l = tt

  rest_out : (k : ℕ) (l : List ℕ) (at : ℕ) → e ≤ at → AllOut c e (tokens_from k l at)
  rest_out k [] at h = (tt, tt)
  rest_out (suc k) (b ∷ l) at h = rest_out k l (suc at) (omega arith)
  rest_out zero (b ∷ l) at h = go (next (b ∷ l) at) (next_reaches (b ∷ l) at) (next_lies (b ∷ l) at) (λ k. rest_out k l (suc at) (omega arith))
    where
      go : (n : Next) → Reaches at (at + length (b ∷ l)) n → Lies at n → ((k : ℕ) → AllOut c e (tokens_from k l (suc at))) → AllOut c e (joined n (λ p. tokens_from (p - suc at) l (suc at)))
      go (more t q) g y i = (after_out at (at + length (b ∷ l)) t q h g, i (q - suc at))
      go (last t) g y i = (last_out at (at + length (b ∷ l)) t h g y, tt)

-- ---- the same tokens

-- past what is ignorable, from a place before e or from e itself
past_rest : (l rest : List ℕ) (at e top : ℕ) (x : Result ℕ Fault) → at ≤ e → drop (e - at) l ≡ rest → Scanned e top x → past_ignorable x l at ≡ past_ignorable x rest e
past_rest l rest at e top (Err f) h y w = refl
past_rest l rest at e top (Ok p) h y w =
    let n : e - at + (p - e) ≡ p - at = omega (arith, w.0) in
    let z : drop (p - at) l ≡ drop (p - e) rest = rw (← y, drop-drop (p - e) (e - at) l, n) in
    rw z

next_rest : (l rest : List ℕ) (at e : ℕ) → at ≤ e → drop (e - at) l ≡ rest → ignorable_from 0 l at ≡ ignorable_from 0 rest e → next l at ≡ next rest e
unfolding next ignorable
next_rest l rest at e h y i = rw i (past_rest l rest at e (e + length rest) (ignorable rest e) h y (ignorable_within rest e))

tokens_rest : (l rest : List ℕ) (at e q : ℕ) → at ≤ e → drop (e - at) l ≡ rest → e ≤ q → q ≤ at + length l → tokens_from (q - at) l at ≡ tokens_from 0 (drop (q - e) rest) q
tokens_rest l rest at e q h y i j =
    let n : e - at + (q - e) ≡ q - at = omega arith in
    let m : at + (q - at) ≡ q = omega arith in
    let z : drop (q - at) l ≡ drop (q - e) rest = rw (← y, drop-drop (q - e) (e - at) l, n) in
    taken (q - at) l at (omega arith) ∙ rw (z, m)

module _ (c e : ℕ) (r r' rest : List ℕ) (o : seek 22 (bytes "-->") (c + 4) r (c + 4) ≡ Ok e) (o' : seek 22 (bytes "-->") (c + 4) r' (c + 4) ≡ Ok e) (h : c + 7 ≤ e) (m : e ≤ c + 4 + length r) (m' : e ≤ c + 4 + length r') (y : drop (e - (c + 4)) r ≡ rest) (y' : drop (e - (c + 4)) r' ≡ rest) where
  left : (s x : List ℕ) (at : ℕ) → at + length s ≡ c + 4 → drop (e - (c + 4)) x ≡ rest → drop (e - at) (s ++ x) ≡ rest
  left s x at l z =
      let n : e - at ≡ length s + (e - (c + 4)) = omega arith in
      rw (n, drop-append-add s x (e - (c + 4))) z

  abbrev Same : List Token → List Token → Type 0
  Same ts ts' = (ts ≡ ts') × AllOut c e ts

  pub tokens_same : (k : ℕ) (s : List ℕ) (at : ℕ) → at + length s ≡ c + 4 → among c (comments_from k (s ++ r) at) ≡ true → Same (tokens_from k (s ++ r) at) (tokens_from k (s ++ r') at)
  tokens_same k [] at l a = absurd (let z = comments_since c k r at a in omega arith)
  tokens_same (suc k) (b ∷ s) at l a = tokens_same k s (suc at) (omega arith) a
  tokens_same zero (b ∷ s) at l a =
      go (among c (passed_from 0 (b ∷ s ++ r) at)) refl (sym (among_append c (passed_from 0 (b ∷ s ++ r) at) (after (next (b ∷ s ++ r) at) (λ p. comments_from (p - suc at) (s ++ r) (suc at)))) ∙ a) (λ k f. tokens_same k s (suc at) (omega arith) f)
    where
      Both : Next → Next → Type 0
      Both n n' = Same (joined n (λ p. tokens_from (p - suc at) (s ++ r) (suc at))) (joined n' (λ p. tokens_from (p - suc at) (s ++ r') (suc at)))

      -- the token comes after the comment
      past : (n : Next) → Reaches e (e + length rest) n → Lies e n → at ≤ c → Both n n
      past (last t) g x i = (refl, (last_out c e e (e + length rest) t (omega arith) g x, tt))
      past (more t q) g x i =
          let v = moves_on e (e + length rest) t q g in
          let w : length rest ≡ length r - (e - (c + 4)) = rw (← y) (length-drop (e - (c + 4)) r) in
          let w' : length rest ≡ length r' - (e - (c + 4)) = rw (← y') (length-drop (e - (c + 4)) r') in
          let z = tokens_rest (s ++ r) rest (suc at) e q (omega arith) (left s r (suc at) (omega arith) y) (omega (arith, v.0)) (rw length-append (omega (arith, v.1))) in
          let z' = tokens_rest (s ++ r') rest (suc at) e q (omega arith) (left s r' (suc at) (omega arith) y') (omega (arith, v.0)) (rw length-append (omega (arith, v.1))) in
          (ap (◌∷◌ t) (z ∙ sym z'), (after_out c e e (e + length rest) t q (omega arith) g, rw z (rest_out c e 0 (drop (q - e) rest) q (omega (arith, v.0)))))

      Further : Type 0
      Further = (k : ℕ) → among c (comments_from k (s ++ r) (suc at)) ≡ true → Same (tokens_from k (s ++ r) (suc at)) (tokens_from k (s ++ r') (suc at))

      -- the token comes before the comment
      further : (n : Next) → next (b ∷ s ++ r) at ≡ n → Reaches at (at + length (b ∷ s ++ r)) n → among c (after n (λ p. comments_from (p - suc at) (s ++ r) (suc at))) ≡ true → Further → Both n (next (b ∷ s ++ r') at)
      further (last t) f g a i = never a
      further (more t q) f g a i =
          let z = comments_since c (q - suc at) (s ++ r) (suc at) a in
          let j = i (q - suc at) a in
          let y = rw f at (next_lies (b ∷ s ++ r) at) in
          rw (next_part r r' at t q (b ∷ s) f (omega arith)) (ap (◌∷◌ t) j.0, (before_out c e at (at + length (b ∷ s ++ r)) t q (omega arith) g y, j.1))

      go : (t : Bool) → among c (passed_from 0 (b ∷ s ++ r) at) ≡ t → if t true (among c (after (next (b ∷ s ++ r) at) (λ p. comments_from (p - suc at) (s ++ r) (suc at)))) ≡ true → Further → Both (next (b ∷ s ++ r) at) (next (b ∷ s ++ r') at)
      go true f a i =
          let v = passed_since c 0 (b ∷ s ++ r) at f in
          let w = meets c e r r' rest o o' h m m' y y' 0 (b ∷ s) at l f in
          let n = next_rest (b ∷ s ++ r) rest at e (omega arith) (left (b ∷ s) r at l y) w.0 in
          let n' = next_rest (b ∷ s ++ r') rest at e (omega arith) (left (b ∷ s) r' at l y') w.1 in
          rw (n, n') (past (next rest e) (next_reaches rest e) (next_lies rest e) (omega arith))
      go false f a i = further (next (b ∷ s ++ r) at) refl (next_reaches (b ∷ s ++ r) at) a i
