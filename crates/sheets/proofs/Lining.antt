-- The lines of a sheet, put into a buffer.
use Rattle.std.proofs.Common.{◌≡◌, ℕ, zero, suc, ◌+◌, ◌-◌, ◌*◌, ◌/◌, ◌%◌, ◌^◌, ◌<◌, ◌≤◌, Bool, true, false, List, [], ◌∷◌, ◌++◌, length, get_or, take, sym, refl, ap, ◌∙◌, append_assoc, append-nil, add-zero, pow-suc, mul-one, add-one, arith, length-take-le, get_or-take, ext_get_or, rules, le-ltb, lt-ltb, eq-eqb, ne_eqb}
use native.Mathlib.Nat.{one-le-pow, pow-le-pow_right}
use native.Mathlib.Decide.{dec_lt}
use Rattle.std.specs.Prelude.{slice_index}
use Rattle.io.specs.Digits.{hex_digit_ascii, last_digits, IsDigitCount}
use Rattle.tables.specs.Table.{Rep, Put}
use Rattle.tables.proofs.Tables.{whole_one, empty_stands}
use Rattle.answers.specs.Puts.{Puts}
use Rattle.answers.proofs.Putting.{puts_none, puts_one, puts_then}
use Rattle.sheets.specs.declared.Counts.{Counts}
use Rattle.sheets.specs.Sheet.{Sheet}
use Rattle.sheets.specs.Lines.{digits_of, decimal, spaced, count_line, count_lines, lines_by, files_line, lines_of, more_line, long_line}
use Rattle.sheets.specs.Counts.{Stands}
use Rattle.sheets.specs.Printed.{PutsFew, files_of, all_lines, Prints}

-- ---- decimal digits

-- a word has at most ten
pub word_digits : (x k : ℕ) → x < 2 ^ 32 → IsDigitCount 10 1 x k → k ≤ 10
word_digits x k h f = go (dec_lt 10 k)
  where
    go : Dec (10 < k) → k ≤ 10
    go (yes l) =
        let a : 10 ^ (k - 1) ≤ x = f.2 (omega arith) in
        let b : 10 ^ 10 ≤ 10 ^ (k - 1) = pow-le-pow_right {n = 10} (omega arith) {i = 10} {j = k - 1} (omega arith) in
        absurd (omega (arith, a, b))
    go (no l) = omega arith

small_digit : (d : ℕ) → d < 10 → hex_digit_ascii d ≡ 48 + d
small_digit d h = rw (lt-ltb d 10 h)

pub digits_are : (f k n : ℕ) → k ≤ f → IsDigitCount 10 1 n k → digits_of f n ≡ last_digits 10 k n
digits_are f zero n h w = absurd (omega (arith, w.0))
digits_are zero (suc k) n h w = absurd (omega arith)
digits_are (suc f) (suc zero) n h w =
    let l : n < 10 = omega (arith, w.1) in
    let m : n % 10 ≡ n = omega arith in
    rw (lt-ltb n 10 l, m) (ap (λ (d : ℕ). d ∷ []) (sym (small_digit n l)))
digits_are (suc f) (suc (suc k)) n h w =
    let p : 10 ^ suc (suc k) ≡ 10 ^ suc k * 10 = pow-suc 10 (suc k) in
    let q : 10 ^ suc k ≡ 10 ^ k * 10 = pow-suc 10 k in
    let a : 10 ^ (suc (suc k) - 1) ≤ n = w.2 (omega arith) in
    let e : suc (suc k) - 1 ≡ suc k = omega arith in
    let b : 10 ^ suc k ≤ n = rw e at a in
    let o : 1 ≤ 10 ^ k = one-le-pow k 10 (omega arith) in
    let g : suc k - 1 ≡ k = omega arith in
    let i : digits_of f (n / 10) ≡ last_digits 10 (suc k) (n / 10) =
    digits_are f (suc k) (n / 10) (omega arith) (omega arith, omega (arith, p, w.1), λ l. rw g (omega (arith, q, b)))
    in
    rw (le-ltb n 10 (omega (arith, q, b, o)), i)
    (ap (λ (d : ℕ). last_digits 10 (suc k) (n / 10) ++ (d ∷ [])) (sym (small_digit (n % 10) (omega arith))))

module _ (x k : ℕ) {n : ℕ} (d : List ℕ) (h : x < 2 ^ 32) (f : IsDigitCount 10 1 x k) where
  pub number_room : k ≡ length (take k d) → n < 2 ^ 40 → n + length (take k d) < 2 ^ 62
  number_room c l = omega (arith, word_digits x k h f, c)

  pub number_puts : {r : ℕ} {t t' : List ℕ} → k ≡ length (take k d) → take k d ≡ last_digits 10 k x → Puts (take k d) n t t' r → PutsFew 10 (decimal x) n t t' r
  unfolding decimal
  number_puts {r} {t} {t'} c e p = record {
    puts = rw (digits_are 10 k x (word_digits x k h f) f, ← e) p;
    few = omega (arith, p.counts, word_digits x k h f, c);
  }

-- ---- parts of a line

pub spaced_puts : (x : ℕ) {n m r : ℕ} {t t₁ t₂ : List ℕ} → Put 1 (32 ∷ []) n t t₁ m → PutsFew 10 (decimal x) m t₁ t₂ r → PutsFew 11 (spaced x) n t t₂ r
spaced_puts x p q = record { puts = puts_then (puts_one p) q.puts; few = omega (arith, p.counts, q.few) }

module _ (letter k v : ℕ) {n : ℕ} {t : List ℕ} where
  pub line_none : v ≡ 0 → PutsFew 24 (count_line letter k v) n t t n
  unfolding count_line
  line_none e = rw (eq-eqb v 0 e) record { puts = puts_none; few = omega arith }

  pub line_puts : {a b c r : ℕ} {t₁ t₂ t₃ t₄ : List ℕ} → (v ≡ 0 → ⊥) → Put 1 (letter ∷ []) n t t₁ a → PutsFew 11 (spaced k) a t₁ t₂ b → PutsFew 11 (spaced v) b t₂ t₃ c → Put 1 (10 ∷ []) c t₃ t₄ r → PutsFew 24 (count_line letter k v) n t t₄ r
  unfolding count_line
  line_puts h p q s u = rw (ne_eqb v 0 h) record {
    puts = puts_then (puts_one p) (puts_then q.puts (puts_then s.puts (puts_one u)));
    few = omega (arith, p.counts, q.few, s.few, u.counts);
  }

pub files_put : (c : Counts) {t t₁ t₂ t₃ t₄ : List ℕ} {a b d r : ℕ} → PutsFew 10 (decimal c.accepted) 0 t t₁ a → PutsFew 11 (spaced c.refused) a t₁ t₂ b → PutsFew 11 (spaced c.unreadable) b t₂ t₃ d → Put 1 (10 ∷ []) d t₃ t₄ r → PutsFew 33 (files_of c) 0 t t₄ r
files_put c p q s u = record {
  puts = puts_then p.puts (puts_then q.puts (puts_then s.puts (puts_one u)));
  few = omega (arith, p.few, q.few, s.few, u.counts);
}

module _ (b : Bool) {n : ℕ} {t : List ℕ} where
  pub more_puts : {r : ℕ} {t' : List ℕ} → b ≡ true → Puts (109 ∷ 111 ∷ 114 ∷ 101 ∷ 10 ∷ []) n t t' r → PutsFew 5 (more_line b) n t t' r
  more_puts e p = rw e record { puts = p; few = omega (arith, p.counts) }

  pub more_none : b ≡ false → PutsFew 5 (more_line b) n t t n
  more_none e = rw e record { puts = puts_none; few = omega arith }

pub ruleset parts = (number_room, number_puts, spaced_puts, line_none, line_puts, files_put, more_puts, more_none, rules)

-- ---- the lines of 32 numbers

lines_snoc : (letter : ℕ) (f : ℕ → ℕ) (k m : ℕ) → count_lines letter f k (suc m) ≡ count_lines letter f k m ++ count_line letter (k + m) (f (k + m))
lines_snoc letter f k zero = rw (append-nil, add-zero)
lines_snoc letter f k (suc m) =
    let e : suc k + m ≡ k + suc m = omega arith in
    rw (append_assoc, ← e) (ap (λ (l : List ℕ). count_line letter k (f k) ++ l) (lines_snoc letter f (suc k) m))

lines_same : (letter : ℕ) (f g : ℕ → ℕ) (k m : ℕ) → ((j : ℕ) → j < k + m → f j ≡ g j) → count_lines letter f k m ≡ count_lines letter g k m
lines_same letter f g k zero h = refl
lines_same letter f g k (suc m) h =
    ap (λ (v : ℕ). count_line letter k v ++ count_lines letter f (suc k) m) (h k (omega arith))
    ∙ ap (λ (l : List ℕ). count_line letter k (g k) ++ l) (lines_same letter f g (suc k) m (λ j b. h j (omega arith)))

pub record Lining (letter : ℕ) (c : List ℕ) (n : ℕ) (t₀ t : List ℕ) (k m : ℕ) : Type 0 where
  pub puts : Puts (count_lines letter (slice_index c) 0 k) n t₀ t m
  pub few : m ≤ n + k * 24
  pub inside : k ≤ 32
  pub same : length t ≡ length t₀

pub lining_begins : {letter n : ℕ} {c t : List ℕ} → Lining letter c n t t 0 n
lining_begins = record { puts = puts_none; few = omega arith; inside = omega arith; same = refl }

module _ {letter n k m : ℕ} {c t₀ t : List ℕ} (g : Lining letter c n t₀ t k m) where
  pub lining_more : {r : ℕ} {t' : List ℕ} → k < 32 → PutsFew 24 (count_line letter k (get_or c k 0)) m t t' r → length t' ≡ length t → Lining letter c n t₀ t' (k + 1) r
  lining_more h p l =
      let z : 0 + k ≡ k = omega arith in
      record {
        puts = rw (add-one, lines_snoc letter (slice_index c) 0 k, z) (puts_then g.puts p.puts);
        few = omega (arith, g.few, p.few);
        inside = omega arith;
        same = l ∙ g.same;
      }

  pub lining_ends : 32 ≤ k → PutsFew 768 (lines_by letter (slice_index c)) n t₀ t m
  unfolding lines_by
  lining_ends h =
      let e : k ≡ 32 = omega (arith, g.inside) in
      record { puts = rw e at g.puts; few = omega (arith, g.few, g.inside) }

pub ruleset lining = (lining_begins, lining_more, lining_ends, rules)

-- ---- the whole sheet

lines_by_same : (letter : ℕ) (f g : ℕ → ℕ) → ((j : ℕ) → j < 32 → f j ≡ g j) → lines_by letter f ≡ lines_by letter g
unfolding lines_by
lines_by_same letter f g h = lines_same letter f g 0 32 (λ j b. h j (omega arith))

rep_take : {n : ℕ} {t xs : List ℕ} → Rep 1 t n xs → n ≤ length t → take n t ≡ xs
rep_take {n} {t} {xs} p h =
    let e : length xs ≡ n = p.many ∙ mul-one n in
    let l : length (take n t) ≡ n = length-take-le n t h in
    ext_get_or 0 (take n t) xs (l ∙ sym e)
    (λ i b. get_or-take n t i 0 (omega arith) ∙ p.holds i (omega arith) (rw whole_one (omega arith)))

pub all_put : (c : Counts) {t t₁ t₂ t₃ : List ℕ} {n a b r : ℕ} → PutsFew 768 (lines_by 114 (slice_index c.numbers)) n t t₁ a → PutsFew 768 (lines_by 107 (slice_index c.kinds)) a t₁ t₂ b → PutsFew 768 (lines_by 119 (slice_index c.reasons)) b t₂ t₃ r → PutsFew 2304 (all_lines c) n t t₃ r
all_put c p q s = record { puts = puts_then p.puts (puts_then q.puts s.puts); few = omega (arith, p.few, q.few, s.few) }

pub ruleset puts_all = (all_put, rules)

lines_are : (c : Counts) {n : ℕ} {s : Sheet} → Stands n s c → files_of c ++ all_lines c ≡ lines_of s
lines_are c {n} {s} w =
    let f : files_of c ≡ files_line s = rw (w.accepted, w.refused, w.unreadable) in
    let x = lines_by_same 114 (slice_index c.numbers) s.numbers w.numbers in
    let y = lines_by_same 107 (slice_index c.kinds) s.kinds w.kinds in
    let z = lines_by_same 119 (slice_index c.reasons) s.reasons w.reasons in
    ap (λ (q : List ℕ). q ++ all_lines c) f
    ∙ ap (λ (q : List ℕ). files_line s ++ (q ++ (lines_by 107 (slice_index c.kinds) ++ lines_by 119 (slice_index c.reasons)))) x
    ∙ ap (λ (q : List ℕ). files_line s ++ (lines_by 114 s.numbers ++ (q ++ lines_by 119 (slice_index c.reasons)))) y
    ∙ ap (λ (q : List ℕ). files_line s ++ (lines_by 114 s.numbers ++ (lines_by 107 s.kinds ++ q))) z

pub sheet_put : (c : Counts) (more : Bool) {t t₁ t₂ t₃ : List ℕ} {i j r : ℕ} → 8192 ≤ length t → length t₁ ≡ length t → length t₂ ≡ length t₁ → length t₃ ≡ length t₂ → PutsFew 33 (files_of c) 0 t t₁ i → PutsFew 2304 (all_lines c) i t₁ t₂ j → PutsFew 5 (more_line more) j t₂ t₃ r → Prints c more t₃ r
sheet_put c more {t} h x y z p q m = record {
  are = λ n s w.
      let all = puts_then (puts_then p.puts q.puts) m.puts in
      rep_take (all.stands [] (empty_stands 1 t)) (omega (arith, p.few, q.few, m.few))
      ∙ ap (λ (l : List ℕ). l ++ more_line more) (lines_are c w);
}

pub ruleset sheet = (sheet_put, rules)

-- the only line
pub long_put : {t t' : List ℕ} {r : ℕ} → 8192 ≤ length t → length t' ≡ length t → Puts (114 ∷ 101 ∷ 102 ∷ 117 ∷ 115 ∷ 101 ∷ 100 ∷ 32 ∷ 50 ∷ 32 ∷ 50 ∷ 54 ∷ 50 ∷ 49 ∷ 52 ∷ 52 ∷ 10 ∷ []) 0 t t' r → take r t' ≡ long_line
unfolding long_line
long_put {t} h l p = rep_take (p.stands [] (empty_stands 1 t)) (omega (arith, p.counts))

pub ruleset over_long = (long_put, rules)
