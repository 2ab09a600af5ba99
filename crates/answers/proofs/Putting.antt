-- Bytes put at a count into a lent text that may be full.
use Prim.Native.Nat.{ℕ, ◌+◌, ◌/◌, ◌%◌, ◌≤◌, ◌<◌}
use mathlib.Core.Path.{◌≡◌, refl, sym, ◌∙◌, subst}
use mathlib.Core.List.{List, [], ◌∷◌, ◌++◌, append-nil, append_assoc}
use borrow.Author.Rules.{rules}
use borrow.Author.Tests.{lt-ltb, le-ltb}
use native.Mathlib.Nat.{add-zero}
use native.Mathlib.Numerals.{add-one}
use native.Mathlib.Omega.{arith}
use lib.ListN.{length, take, get_or, length-append}
use lib.Seq.{take-suc, take_all}
use Rattle.tables.specs.Table.{Put}
use Rattle.utf8.specs.Encoding.{utf8}
use Rattle.answers.specs.Puts.{Puts}

pub puts_none : {n : ℕ} {t : List ℕ} → Puts [] n t t n
puts_none {n} = record { counts = sym (add-zero n); stands = λ xs r. rw append-nil r }

pub puts_one : {b n r : ℕ} {t t' : List ℕ} → Put 1 (b ∷ []) n t t' r → Puts (b ∷ []) n t t' r
puts_one p = record { counts = p.counts; stands = p.stands }

pub puts_then : {xs ys t t' t'' : List ℕ} {n m r : ℕ} → Puts xs n t t' m → Puts ys m t' t'' r → Puts (xs ++ ys) n t t'' r
puts_then {xs} {ys} p q = record {
  counts = rw length-append (omega (arith, p.counts, q.counts));
  stands = λ zs r. rw append_assoc at (q.stands (zs ++ xs) (p.stands zs r));
}

-- the same bytes in other words
pub puts_as : {xs ys t t' : List ℕ} {n r : ℕ} → xs ≡ ys → Puts xs n t t' r → Puts ys n t t' r
puts_as {t = t} {t' = t'} {n = n} {r = r} e p = subst (λ l. Puts l n t t' r) e p

-- a loop that puts bytes, after i of them
pub record Putting (bytes : List ℕ) (n : ℕ) (t₀ t : List ℕ) (i m : ℕ) : Type 0 where
  pub puts : Puts (take i bytes) n t₀ t m
  pub inside : i ≤ length bytes
  pub counts : m ≡ n + i
  pub same : length t ≡ length t₀

pub put_begins : {bytes t : List ℕ} {n : ℕ} → Putting bytes n t t 0 n
put_begins {n = n} = record { puts = puts_none; inside = omega arith; counts = sym (add-zero n); same = refl }

module _ {bytes t₀ t : List ℕ} {n i m : ℕ} (g : Putting bytes n t₀ t i m) where
  pub put_more : {t' : List ℕ} {r : ℕ} → i < length bytes → length t' ≡ length t → Put 1 (get_or bytes i 0 ∷ []) m t t' r → Putting bytes n t₀ t' (i + 1) r
  put_more h k p = record {
    puts = rw (add-one, take-suc bytes i 0 h) (puts_then g.puts (puts_one p));
    inside = omega arith;
    counts = omega (arith, g.counts, p.counts);
    same = k ∙ g.same;
  }

  pub put_ends : length bytes ≤ i → Puts bytes n t₀ t m
  put_ends h = rw (take_all i bytes h) at g.puts

pub put_pair : {a b n m r : ℕ} {t t' t'' : List ℕ} → Put 1 (a ∷ []) n t t' m → Put 1 (b ∷ []) m t' t'' r → Puts (a ∷ b ∷ []) n t t'' r
put_pair p q = puts_then (puts_one p) (puts_one q)

-- a character, by the table's rows
module _ {c n r : ℕ} {t t' : List ℕ} where
  pub char_one : c < 0x80 → Put 1 (c ∷ []) n t t' r → Puts (utf8 c) n t t' r
  unfolding utf8
  char_one h p = rw (lt-ltb c 0x80 h) (puts_one p)

  pub char_two : 0x80 ≤ c → c < 0x800 → Puts ((0xc0 + c / 64) ∷ (0x80 + c % 64) ∷ []) n t t' r → Puts (utf8 c) n t t' r
  unfolding utf8
  char_two h l p = rw (le-ltb c 0x80 h, lt-ltb c 0x800 l) p

  module _ {t'' : List ℕ} {m : ℕ} (h : 0x800 ≤ c) (q : Puts ((0x80 + c / 64 % 64) ∷ (0x80 + c % 64) ∷ []) m t' t'' r) where
    pub char_three : c < 0x10000 → Put 1 ((0xe0 + c / 4096) ∷ []) n t t' m → Puts (utf8 c) n t t'' r
    unfolding utf8
    char_three l p = rw (le-ltb c 0x80 (omega arith), le-ltb c 0x800 h, lt-ltb c 0x10000 l) (puts_then (puts_one p) q)

    pub char_four : 0x10000 ≤ c → Puts ((0xf0 + c / 262144) ∷ (0x80 + c / 4096 % 64) ∷ []) n t t' m → Puts (utf8 c) n t t'' r
    unfolding utf8
    char_four l p = rw (le-ltb c 0x80 (omega arith), le-ltb c 0x800 h, le-ltb c 0x10000 l) (puts_then p q)

pub ruleset puts = (put_begins, put_more, put_ends, put_pair, char_one, char_two, char_three, char_four, rules)
