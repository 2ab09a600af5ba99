-- Laws of 8 bytes taken as one number: the trailing zeros of a mask count the bytes before the first that is below a bound.
use Rattle.std.proofs.Common.{◌≡◌, ℕ, zero, suc, ◌+◌, ◌-◌, ◌*◌, ◌/◌, ◌%◌, ◌^◌, ◌<◌, ◌≤◌, Bool, true, ◌⊎◌, List, length, get_or, take, drop, sym, refl, ap, ◌∙◌, subst, inl, inr, add-zero, suc-add, zero-add, mul-one, arith, w64, Fits, rules}
use Rattle.std.proofs.lemmas.List.{take_rest}
use native.Mathlib.Nat.{mul-add-mod_self_right}
use native.Mathlib.Decide.{dec_lt}
use lib.Bits.{bit_and, bit_xor, xor_block, xor_add_and, xor_self, xor_lt, and_shr, and_mod, and_high, and_le_l, and_le_r, shifted_even, shifted_half}
use lib.Count.{count_trailing_zeros, trailing_le}
use Rattle.slices.specs.Run.{Blocks}
use Rattle.slices.specs.Word.{word_of, Byte, Word, Leads, Below, Equal, Agrees}
use Rattle.slices.specs.Bytes.{same, starts}
use Rattle.slices.proofs.Runs.{Matching, match_begins, match_more, same_long, same_short}

-- ---- a number of 8 bytes, as code sums it up

word_sum : (f : ℕ → ℕ) → f 0 + f 1 * 256 + f 2 * 65536 + f 3 * 16777216 + f 4 * 4294967296 + f 5 * 1099511627776 + f 6 * 281474976710656 + f 7 * 72057594037927936 ≡ word_of 8 f
unfolding word_of
word_sum f = omega arith

pub word_from_bytes : {s : List ℕ} {at a b c d e f g h : ℕ} → Byte s at a → Byte s (at + 1) b → Byte s (at + 2) c → Byte s (at + 3) d → Byte s (at + 4) e → Byte s (at + 5) f → Byte s (at + 6) g → Byte s (at + 7) h → Word s at (a + b * 256 + c * 65536 + d * 16777216 + e * 4294967296 + f * 1099511627776 + g * 281474976710656 + h * 72057594037927936)
word_from_bytes {s} {at} b₀ b₁ b₂ b₃ b₄ b₅ b₆ b₇ = record { value = omega (arith, ap (λ i. get_or s i 0) (add-zero at), word_sum (λ i. get_or s (at + i) 0)); bytes = b₀.bytes }

-- ---- trailing zeros, 8 at a time

shifted_zeros : (j m a : ℕ) → count_trailing_zeros (j + m) (a * 2 ^ j) ≡ j + count_trailing_zeros m a
unfolding count_trailing_zeros
shifted_zeros zero m a = simp (zero-add, mul-one)
shifted_zeros (suc j) m a = simp suc-add (rw (shifted_even a j, shifted_half a j) (ap suc (shifted_zeros j m a)))

odd_zeros : (m z : ℕ) → z % 2 ≡ 1 → count_trailing_zeros (suc m) z ≡ 0
unfolding count_trailing_zeros
odd_zeros m z e = rw e

byte_zeros : (m a : ℕ) → count_trailing_zeros (8 + m) (a * 256) / 8 ≡ suc (count_trailing_zeros m a / 8)
byte_zeros m a = let t = shifted_zeros 8 m a in omega arith

mark_zeros : (m a : ℕ) → count_trailing_zeros (8 + m) (a * 256 + 128) / 8 ≡ 0
mark_zeros m a =
    let e : a * 256 + 128 ≡ (a * 2 + 1) * 2 ^ 7 = omega arith in
    let c : 8 + m ≡ 7 + suc m = omega arith in
    let o = odd_zeros m (a * 2 + 1) (mul-add-mod_self_right a 2 1) in
    let t = shifted_zeros 7 (suc m) (a * 2 + 1) in
    rw (e, c, t, o)

-- ---- one byte of the mask

-- bit 7 of two bytes
high_bit : (u v : ℕ) → u < 256 → bit_and (bit_and u v) 128 ≡ bit_and u v / 128 * 128
high_bit u v h =
    let l = and_le_l u v in
    and_high (bit_and u v) 1 7 ∙ omega arith

low_byte_none : (u v : ℕ) → u < 256 → (u < 128) ⊎ (v < 128) → bit_and (bit_and u v) 128 ≡ 0
low_byte_none u v h (inl k) = high_bit u v h ∙ omega (arith, and_le_l u v)
low_byte_none u v h (inr k) = high_bit u v h ∙ omega (arith, and_le_r u v)

low_byte_mark : (u v : ℕ) → u < 256 → v < 256 → 128 ≤ u → 128 ≤ v → bit_and (bit_and u v) 128 ≡ 128
low_byte_mark u v h k a b =
    let e : u / 128 ≡ 1 = omega arith in
    let e' : v / 128 ≡ 1 = omega arith in
    let t : bit_and u v / 128 ≡ 1 = and_shr u v 7 ∙ rw (e, e') in
    high_bit u v h ∙ rw t

-- ---- the mask: d is x less n in each byte with the borrows, q the complement of x, e has bit 7 of each byte

-- k bytes' worth of m
unfoldable top : ℕ → ℕ → ℕ
top zero m = m
top (suc k) m = 256 * top k m

-- how many bits k bytes have
unfoldable bits : ℕ → ℕ
bits zero = 0
bits (suc k) = 8 + bits k

-- the lowest byte of the mask apart
mask_split : (d q e : ℕ) → e % 256 ≡ 128 → bit_and (bit_and d q) e ≡ bit_and (bit_and (d / 256) (q / 256)) (e / 256) * 256 + bit_and (bit_and (d % 256) (q % 256)) 128
mask_split d q e h =
    let z = bit_and (bit_and d q) e in
    let hi : z / 256 ≡ bit_and (bit_and (d / 256) (q / 256)) (e / 256) = and_shr (bit_and d q) e 8 ∙ rw (and_shr d q 8) in
    let lo : z % 256 ≡ bit_and (bit_and (d % 256) (q % 256)) 128 = and_mod (bit_and d q) e 8 ∙ rw (and_mod d q 8, h) in
    omega arith

leads_none : {f : ℕ → ℕ} {n k : ℕ} → f 0 < n → Leads f n (suc k) 0
leads_none h = record { within = omega arith; above = λ i l. absurd (omega (arith, l)); stops = λ l. h }

leads_more : {f : ℕ → ℕ} {n k r : ℕ} → n ≤ f 0 → Leads (λ i. f (suc i)) n k r → Leads f n (suc k) (suc r)
leads_more {f} {n} {k} {r} h g = record { within = omega (arith, g.within); above = go; stops = λ l. g.stops (omega (arith, l)) }
  where
    go : (i : ℕ) → i < suc r → n ≤ f i
    go zero l = h
    go (suc i) l = g.above i (omega (arith, l))

lead : (k : ℕ) (f : ℕ → ℕ) (n d q e m : ℕ) → ((i : ℕ) → f i < 256) → n ≤ 128 → d + word_of k (λ i. n) ≡ word_of k f + top k m → q + word_of k f ≡ word_of k (λ i. 255) → e ≡ word_of k (λ i. 128) → Leads f n k (count_trailing_zeros (bits k) (bit_and (bit_and d q) e) / 8)
unfolding word_of top bits count_trailing_zeros
lead zero f n d q e m b h p p' p'' = record { within = omega arith; above = λ i l. absurd (omega (arith, l)); stops = λ l. absurd (omega (arith, l)) }
lead (suc k) f n d q e m b h p p' p'' = go (λ p p' p''. lead k (λ i. f (suc i)) n (d / 256) (q / 256) (e / 256) m (λ i. b (suc i)) h p p' p'') (dec_lt (f 0) n)
  where
    q_high : q / 256 + word_of k (λ i. f (suc i)) ≡ word_of k (λ i. 255)
    q_high = omega (arith, b 0)

    q_low : q % 256 + f 0 ≡ 255
    q_low = omega (arith, b 0, q_high)

    e_high : e / 256 ≡ word_of k (λ i. 128)
    e_high = omega arith

    e_low : e % 256 ≡ 128
    e_low = omega (arith, e_high)

    split : bit_and (bit_and d q) e ≡ bit_and (bit_and (d / 256) (q / 256)) (e / 256) * 256 + bit_and (bit_and (d % 256) (q % 256)) 128
    split = mask_split d q e e_low

    half : d % 256 + n ≡ f 0 → Dec (f 0 < 128) → (d % 256 < 128) ⊎ (q % 256 < 128)
    half d_low (yes j) = inl (omega (arith, j, d_low))
    half d_low (no j) = inr (omega (arith, j, q_low))

    go : (d / 256 + word_of k (λ i. n) ≡ word_of k (λ i. f (suc i)) + top k m → q / 256 + word_of k (λ i. f (suc i)) ≡ word_of k (λ i. 255) → e / 256 ≡ word_of k (λ i. 128) → Leads (λ i. f (suc i)) n k (count_trailing_zeros (bits k) (bit_and (bit_and (d / 256) (q / 256)) (e / 256)) / 8)) → Dec (f 0 < n) → Leads f n (suc k) (count_trailing_zeros (8 + bits k) (bit_and (bit_and d q) e) / 8)
    go rest (yes l) =
        let d_high : d / 256 + word_of k (λ i. n) + 1 ≡ word_of k (λ i. f (suc i)) + top k m = omega (arith, b 0, l) in
        let mark = low_byte_mark (d % 256) (q % 256) (omega arith) (omega arith) (omega (arith, b 0, d_high, l)) (omega (arith, q_low, l)) in
        let z = mark_zeros (bits k) (bit_and (bit_and (d / 256) (q / 256)) (e / 256)) in
        rw (split, mark, z) (leads_none l)
    go rest (no l) =
        let d_high : d / 256 + word_of k (λ i. n) ≡ word_of k (λ i. f (suc i)) + top k m = omega (arith, b 0, l) in
        let d_low : d % 256 + n ≡ f 0 = omega (arith, b 0, d_high) in
        let none = low_byte_none (d % 256) (q % 256) (omega arith) (half d_low (dec_lt (f 0) 128)) in
        let z = byte_zeros (bits k) (bit_and (bit_and (d / 256) (q / 256)) (e / 256)) in
        rw (split, none, add-zero, z) (leads_more (omega (arith, l)) (rest d_high q_high e_high))

-- the mask of a number of 64 bits
pub lead_word : (x n : ℕ) → x < 2 ^ 64 → n ≤ 128 → (f : ℕ → ℕ) → ((i : ℕ) → f i < 256) → x ≡ word_of 8 f → Leads f n 8 (count_trailing_zeros 64 (bit_and (bit_and ((x + (2 ^ 64 - n * 72340172838076673)) % 2 ^ 64) ((2 ^ 64 - 1) - x)) 9259542123273814144) / 8)
unfolding word_of top bits
lead_word x n l h f b e =
    let d = (x + (2 ^ 64 - n * 72340172838076673)) % 2 ^ 64 in
    let w : (d + n * 72340172838076673) % 2 ^ 64 ≡ x = omega (arith, l) in
    let m = (d + n * 72340172838076673) / 2 ^ 64 in
    lead 8 f n d ((2 ^ 64 - 1) - x) 9259542123273814144 m b h (omega (arith, w)) (omega (arith, l)) refl

pub zeros_fit : (z : ℕ) → Fits w64 (count_trailing_zeros 64 z / 8)
zeros_fit z = record { fits = omega (arith, trailing_le 64 z) }

pub below_of : {s : List ℕ} {at n x r : ℕ} → Word s at x → ((f : ℕ → ℕ) → ((i : ℕ) → f i < 256) → x ≡ word_of 8 f → Leads f n 8 r) → Below s at n r
below_of {s} {at} w g =
    let l = g (λ i. get_or s (at + i) 0) (λ i. w.bytes (at + i)) w.value in
    record { within = l.within; above = l.above; stops = l.stops }

-- ---- bytes that are b: those whose exclusive or with b is 0

xor_word : (k : ℕ) (f : ℕ → ℕ) (b : ℕ) → ((i : ℕ) → f i < 256) → b < 256 → bit_xor (word_of k f) (word_of k (λ i. b)) ≡ word_of k (λ i. bit_xor (f i) b)
unfolding word_of
xor_word zero f b h k = refl
xor_word (suc n) f b h k =
    let x = word_of n (λ i. f (suc i)) in
    let y = word_of n (λ i. b) in
    let e : f 0 + 256 * x ≡ x * 256 + f 0 = omega arith in
    let e' : b + 256 * y ≡ y * 256 + b = omega arith in
    let i = xor_word n (λ i. f (suc i)) b (λ i. h (suc i)) k in
    rw (e, e', xor_block 8 x y (f 0) b (h 0) k, i) (omega arith)

xor_none : (u v : ℕ) → bit_xor u v < 1 → u ≡ v
xor_none u v h = omega (arith, xor_add_and u v, and_le_l u v, and_le_r u v)

xor_some : (u v : ℕ) → 1 ≤ bit_xor u v → u ≡ v → ⊥
xor_some u v h e =
    let z : bit_xor u v ≡ 0 = rw e (xor_self v) in
    omega arith

pub equal_of : {s : List ℕ} {at b x r : ℕ} → Word s at x → b < 256 → ((f : ℕ → ℕ) → ((i : ℕ) → f i < 256) → bit_xor x (b * 72340172838076673) ≡ word_of 8 f → Leads f 1 8 r) → Equal s at b r
unfolding word_of
equal_of {s} {at} {b} {x} {r} w h g =
    let f : ℕ → ℕ = λ i. get_or s (at + i) 0 in
    let e : b * 72340172838076673 ≡ word_of 8 (λ i. b) = omega arith in
    let z : bit_xor x (b * 72340172838076673) ≡ word_of 8 (λ i. bit_xor (f i) b) = rw (e, w.value) (xor_word 8 f b (λ i. w.bytes (at + i)) h) in
    let l = g (λ i. bit_xor (f i) b) (λ i. xor_lt 8 (f i) b (w.bytes (at + i)) h) z in
    record { within = l.within; others = λ i j. xor_some (f i) b (l.above i j); stops = λ j. xor_none (f r) b (l.stops j) }

-- ---- equal numbers have equal bytes

equal_bytes : (k : ℕ) (f g : ℕ → ℕ) → ((i : ℕ) → f i < 256) → ((i : ℕ) → g i < 256) → word_of k f ≡ word_of k g → (i : ℕ) → i < k → f i ≡ g i
unfolding word_of
equal_bytes zero f g h k e i l = absurd (omega arith)
equal_bytes (suc n) f g h k e zero l = omega (arith, h 0, k 0)
equal_bytes (suc n) f g h k e (suc i) l =
    let rest : word_of n (λ i. f (suc i)) ≡ word_of n (λ i. g (suc i)) = omega (arith, h 0, k 0) in
    equal_bytes n (λ i. f (suc i)) (λ i. g (suc i)) (λ i. h (suc i)) (λ i. k (suc i)) rest i (omega arith)

-- two words that are equal
pub record Twin (a b : List ℕ) (at : ℕ) : Type 0 where
  pub first : ℕ
  pub second : ℕ
  pub of_first : Word a at first
  pub of_second : Word b at second
  pub equal : first ≡ second

pub twin : {a b : List ℕ} {at x y : ℕ} → Word a at x → Word b at y → x ≡ y → Twin a b at
twin {a} {b} {at} {x} {y} v w e = record { first = x; second = y; of_first = v; of_second = w; equal = e }

pub agrees_blocks : {answers : ℕ → Bool → Type 0} {a b : List ℕ} {r : ℕ} → Blocks answers b 0 8 r → ((at : ℕ) → at + 8 ≤ length b → answers at true → Twin a b at) → Agrees a b r
agrees_blocks {answers} {a} {b} {r} g f = record { within = g.within; bytes = λ i l. go i (g.each i (omega arith) l) }
  where
    go : (i : ℕ) → (k : ℕ) × (k ≤ i) × (i < k + 8) × (k + 8 ≤ length b) × answers k true → get_or a i 0 ≡ get_or b i 0
    go i (k, m, l, h, p) =
        let t = f k h p in
        let z : k + (i - k) ≡ i = omega (arith, m) in
        let words : word_of 8 (λ i. get_or a (k + i) 0) ≡ word_of 8 (λ i. get_or b (k + i) 0) = sym t.of_first.value ∙ t.equal ∙ t.of_second.value in
        let e = equal_bytes 8 (λ i. get_or a (k + i) 0) (λ i. get_or b (k + i) 0) (λ i. t.of_first.bytes (k + i)) (λ i. t.of_second.bytes (k + i)) words (i - k) (omega (arith, l, m)) in
        subst (λ o. get_or a o 0 ≡ get_or b o 0) z e

-- past what agrees, the one is the other where it begins with it
agreeing : (a b : List ℕ) (r : ℕ) → r ≤ length b → length a ≡ length b → ((i : ℕ) → i < r → get_or a i 0 ≡ get_or b i 0) → Matching a 0 b r
agreeing a b zero h e f = match_begins (omega arith) (omega arith)
agreeing a b (suc r) h e f =
    let z : 0 + r ≡ r = omega arith in
    let n : r + 1 ≡ suc r = omega arith in
    subst (Matching a 0 b) n (match_more (agreeing a b r (omega arith) e (λ i l. f i (omega (arith, l)))) h (rw z (f r (omega arith))))

pub agrees_rest : {a b : List ℕ} {r : ℕ} {t : Bool} → length a ≡ length b → Agrees a b r → t ≡ starts (take (length b - r) (drop r b)) (take (length a - r) (drop r a)) → t ≡ same a b
agrees_rest {a} {b} {r} {t} e g h =
    let z : 0 + r ≡ r = omega arith in
    let m : starts b a ≡ starts (drop r b) (drop (0 + r) a) = (agreeing a b r g.within e g.bytes).left in
    same_long a b t e (h ∙ rw (take_rest a r, take_rest b r) (sym (rw z at m)))

pub ruleset worded = (word_from_bytes, zeros_fit, lead_word, below_of, equal_of, rules)

-- what answers every need of a comparison by words
pub ruleset agrees = (agrees_rest, same_short, rules)
