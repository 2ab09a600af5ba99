-- Escaping: byte by byte, its lengths, and the loop that puts it.
use Prim.Native.Nat.{ℕ, ◌+◌, ◌*◌, ◌≤◌, ◌<◌}
use mathlib.Core.Path.{◌≡◌, refl, sym, ◌∙◌}
use mathlib.Core.List.{List, [], ◌∷◌, append-nil, append_assoc}
use mathlib.Core.Bool.{Bool, true, false}
use borrow.Author.Rules.{rules}
use native.Mathlib.Numerals.{add-one}
use native.Mathlib.Omega.{arith}
use lib.ListN.{length, take, get_or, length-append}
use lib.Seq.{take-suc, take_all}
use Rattle.slices.specs.Bytes.{all}
use Rattle.slices.proofs.Runs.{both, by_byte}
use Rattle.scan.specs.Classes.{escapable}
use Rattle.tables.specs.Table.{Put}
use Rattle.answers.specs.Puts.{Puts}
use Rattle.answers.proofs.Putting.{puts_none, puts_one, puts_then}
use Rattle.references.specs.Escape.{escaped, escape}
use Rattle.references.specs.Joining.{EscapeJoins}

-- what holds of the eight bytes that are escaped, and of any other as it is, holds of each byte
pub by_escape :
    (P : ℕ → List ℕ → Type 0) (b : ℕ) →
    P 38 (escaped 38) → P 60 (escaped 60) → P 62 (escaped 62) → P 34 (escaped 34) → P 39 (escaped 39) → P 9 (escaped 9) → P 10 (escaped 10) → P 13 (escaped 13) →
    (escapable b ≡ false → P b (b ∷ [])) →
    P b (escaped b)
by_escape P b p1 p2 p3 p4 p5 p6 p7 p8 q =
    by_byte (λ x. P x (escaped x)) b 38 p1 λ h1.
    by_byte (λ x. P x (escaped x)) b 60 p2 λ h2.
    by_byte (λ x. P x (escaped x)) b 62 p3 λ h3.
    by_byte (λ x. P x (escaped x)) b 34 p4 λ h4.
    by_byte (λ x. P x (escaped x)) b 39 p5 λ h5.
    by_byte (λ x. P x (escaped x)) b 9 p6 λ h6.
    by_byte (λ x. P x (escaped x)) b 10 p7 λ h7.
    by_byte (λ x. P x (escaped x)) b 13 p8 λ h8.
    rw (h1, h2, h3, h4, h5, h6, h7, h8) (q (rw (h1, h2, h3, h4, h5, h6, h7, h8)))

escaped_same : (b : ℕ) → escapable b ≡ false → escaped b ≡ b ∷ []
escaped_same b = by_escape (λ x e. escapable x ≡ false → e ≡ x ∷ []) b (λ e. cc) (λ e. cc) (λ e. cc) (λ e. cc) (λ e. cc) (λ e. cc) (λ e. cc) (λ e. cc) (λ h e. refl)

escaped_most : (b : ℕ) → length (escaped b) ≤ 6
escaped_most b = by_escape (λ x e. length e ≤ 6) b (omega arith) (omega arith) (omega arith) (omega arith) (omega arith) (omega arith) (omega arith) (omega arith) (λ h. omega arith)

escaped_least : (b : ℕ) → 1 ≤ length (escaped b)
escaped_least b = by_escape (λ x e. 1 ≤ length e) b (omega arith) (omega arith) (omega arith) (omega arith) (omega arith) (omega arith) (omega arith) (omega arith) (λ h. omega arith)

-- ---- laws of the whole

pub escape-append : EscapeJoins
unfolding escape
escape-append [] b = refl
escape-append (x ∷ a) b = rw (escape-append a b) (sym (append_assoc (escaped x) (escape a) (escape b)))

pub escape_one : (b : ℕ) → escape (b ∷ []) ≡ escaped b
unfolding escape
escape_one b = append-nil (escaped b)

pub escape_most : (v : List ℕ) → length (escape v) ≤ 6 * length v
unfolding escape
escape_most [] = omega arith
escape_most (b ∷ v) = rw length-append (omega (arith, escaped_most b, escape_most v))

pub escape_least : (v : List ℕ) → length v ≤ length (escape v)
unfolding escape
escape_least [] = omega arith
escape_least (b ∷ v) = rw length-append (omega (arith, escaped_least b, escape_least v))

-- bytes of a class with none of the eight are as they were
pub escape_same : (p : ℕ → Bool) → ((b : ℕ) → p b ≡ true → escapable b ≡ false) → (s : List ℕ) → all p s ≡ true → escape s ≡ s
unfolding escape
escape_same p d [] h = refl
escape_same p d (b ∷ s) h =
    let t = both (p b) (all p s) h in
    rw (escaped_same b (d b t.0), escape_same p d s t.1)

-- ---- the loop that puts it

pub record Escaping (v : List ℕ) (n : ℕ) (t₀ t : List ℕ) (at m : ℕ) : Type 0 where
  pub puts : Puts (escape (take at v)) n t₀ t m
  pub most : m ≤ n + 6 * at
  pub inside : at ≤ length v
  pub same : length t ≡ length t₀

pub escape_begins : {v t : List ℕ} {n : ℕ} → Escaping v n t t 0 n
unfolding escape
escape_begins = record { puts = puts_none; most = omega arith; inside = omega arith; same = refl }

module _ {v t₀ t : List ℕ} {n at m : ℕ} (g : Escaping v n t₀ t at m) where
  pub escape_ends : length v ≤ at → Puts (escape v) n t₀ t m
  escape_ends h = rw (take_all at v h) at g.puts

  module _ (h : at < length v) {t' : List ℕ} {r : ℕ} (l : length t' ≡ length t) where
    pub escape_reference : Puts (escaped (get_or v at 0)) m t t' r → Escaping v n t₀ t' (at + 1) r
    escape_reference q = record {
      puts = rw (add-one, take-suc v at 0 h, escape-append, escape_one) (puts_then g.puts q);
      most = omega (arith, g.most, q.counts, escaped_most (get_or v at 0));
      inside = omega arith;
      same = l ∙ g.same;
    }

    pub escape_byte : {f : Bool} → f ≡ escapable (get_or v at 0) → f ≡ false → Put 1 (get_or v at 0 ∷ []) m t t' r → Escaping v n t₀ t' (at + 1) r
    escape_byte e k q = escape_reference (rw (escaped_same (get_or v at 0) (sym e ∙ k)) (puts_one q))

pub ruleset escapes = (escape_begins, escape_ends, escape_reference, escape_byte, rules)
