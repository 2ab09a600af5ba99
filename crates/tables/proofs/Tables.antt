-- Tables of rows of w words: rows added and given back, a docstring in a row, zeros from a place on.
use Prim.Native.Nat.{ℕ, zero, suc, ◌+◌, ◌-◌, ◌*◌, ◌/◌, ◌<◌, ◌≤◌}
use mathlib.Core.Path.{◌≡◌, refl, sym, ◌∙◌, ap}
use mathlib.Core.List.{List, [], ◌∷◌, ◌++◌}
use borrow.Author.Rules.{rules}
use native.Mathlib.Numerals.{add-one}
use native.Mathlib.Omega.{arith}
use native.Mathlib.Nat.{sub-zero, add-zero, mul-one, zero-mul, add-mul, one-mul, div-one, div-mul-le_self, le-div_iff_mul-le, div-lt_iff_lt-mul, mul-le-mul_right, mul-le-mul}
use native.Mathlib.Decide.{dec_lt}
use mir.Syntax.{w64}
use mir.Val.{Fits}
use lib.ListN.{length, get_or, set, drop, length-set, length-append, get_or-append, drop_of_length-le, replicate}
use lib.Seq.{get_or-set_same, get_or-set_other, get_or-append-add, drop-cons, sets, length-sets}
use Rattle.tables.specs.Table.{whole, Rep, Put, with_docstring, Documented, filled, Filled, cleared, Wiped}
use Rattle.tables.specs.Copied.{Copied}

-- ---- whole rows

pub whole_one : (n : ℕ) → whole 1 n ≡ n
whole_one n = mul-one (n / 1) ∙ div-one n

pub rows_fit : (w n room : ℕ) → 0 < w → n ≤ room / w → n * w ≤ room
rows_fit w n room p h = (le-div_iff_mul-le p).0 h

fit_rows : (w n room : ℕ) → 0 < w → n * w ≤ room → n ≤ room / w
fit_rows w n room p h = (le-div_iff_mul-le p).1 h

-- rows that fit are among the whole ones
fit_whole : (w n room : ℕ) → 0 < w → n * w ≤ room → n * w ≤ whole w room
fit_whole w n room p h = mul-le-mul_right w (fit_rows w n room p h)

pub row_more : (w n : ℕ) → (n + 1) * w ≡ n * w + w
row_more w n = add-mul n 1 w ∙ ap (λ (k : ℕ). n * w + k) (one-mul w)

-- where a row does not fit, the whole ones end before it
whole_before : (w n room : ℕ) → 0 < w → room < n * w + w → whole w room ≤ n * w
whole_before w n room p h =
    let e : room < (n + 1) * w = rw row_more h in
    let l : room / w < n + 1 = (div-lt_iff_lt-mul p).1 e in
    mul-le-mul_right w (omega arith)

-- ---- what a table stands for

pub empty_stands : (w : ℕ) (t : List ℕ) → Rep w t 0 []
empty_stands w t = record { many = sym (zero-mul w); holds = λ k h b. absurd (omega arith) }

-- the first rows of those that a table stands for
pub given_back_to : {w n m : ℕ} {t xs : List ℕ} (ys : List ℕ) → Rep w t m (xs ++ ys) → length xs ≡ n * w → Rep w t n xs
given_back_to {w} {n} {m} {t} {xs} ys r e = record {
  many = e;
  holds = λ k a b. r.holds k (omega (arith, length-append xs ys)) b ∙ get_or-append xs ys 0 k a;
}

-- ---- words stored from a place on

get_d_sets_below : (vs t : List ℕ) (b k : ℕ) → k < b → get_or (sets t b vs) k 0 ≡ get_or t k 0
get_d_sets_below [] t b k h = refl
get_d_sets_below (a ∷ vs) t b k h = get_d_sets_below vs (set t b a) (suc b) k (omega arith) ∙ get_or-set_other t b k a 0 (omega arith)

get_d_sets_in : (vs t : List ℕ) (b j k : ℕ) → b + j ≡ k → j < length vs → k < length t → get_or (sets t b vs) k 0 ≡ get_or vs j 0
get_d_sets_in [] t b j k e h l = absurd (omega arith)
get_d_sets_in (a ∷ vs) t b zero k e h l =
    let q : b ≡ k = omega arith in
    get_d_sets_below vs (set t b a) (suc b) k (omega arith) ∙ rw q (get_or-set_same t k a 0 l)
get_d_sets_in (a ∷ vs) t b (suc j) k e h l = get_d_sets_in vs (set t b a) (suc b) j k (omega arith) (omega arith) (rw length-set l)

-- two lists that agree at a place agree there after the same stores
set_agrees : (t xs : List ℕ) (b a k : ℕ) → k < length t → k < length xs → get_or t k 0 ≡ get_or xs k 0 → get_or (set t b a) k 0 ≡ get_or (set xs b a) k 0
set_agrees [] xs b a k l m e = absurd (omega arith)
set_agrees (x ∷ t) [] b a k l m e = absurd (omega arith)
set_agrees (x ∷ t) (y ∷ xs) zero a zero l m e = refl
set_agrees (x ∷ t) (y ∷ xs) zero a (suc k) l m e = e
set_agrees (x ∷ t) (y ∷ xs) (suc b) a zero l m e = e
set_agrees (x ∷ t) (y ∷ xs) (suc b) a (suc k) l m e = set_agrees t xs b a k (omega arith) (omega arith) e

sets_agree : (vs t xs : List ℕ) (b k : ℕ) → k < length t → k < length xs → get_or t k 0 ≡ get_or xs k 0 → get_or (sets t b vs) k 0 ≡ get_or (sets xs b vs) k 0
sets_agree [] t xs b k l m e = e
sets_agree (a ∷ vs) t xs b k l m e =
    sets_agree vs (set t b a) (set xs b a) (suc b) k (rw length-set l) (rw length-set m) (set_agrees t xs b a k l m e)

-- a loop that copies, after i words: the stores that are left make of the table what was asked
pub record Copying (base : ℕ) (words t₀ t : List ℕ) (i : ℕ) : Type 0 where
  pub left : sets t (base + i) (drop i words) ≡ sets t₀ base words
  pub same : length t ≡ length t₀
  pub inside : i ≤ length words

pub copy_begins : {base : ℕ} {words t : List ℕ} → Copying base words t t 0
copy_begins = record { left = rw add-zero; same = refl; inside = omega arith }

module _ {base i : ℕ} {words t₀ t : List ℕ} (g : Copying base words t₀ t i) where
  pub copy_more : i < length words → Copying base words t₀ (set t (base + i) (get_or words i 0)) (i + 1)
  copy_more h =
      let n : base + suc i ≡ suc (base + i) = omega arith in
      record {
        left = rw (add-one, n) (rw (drop-cons words i 0 h) at g.left);
        same = length-set t (base + i) (get_or words i 0) ∙ g.same;
        inside = omega arith;
      }

  pub copy_ends : length words ≤ i → Copied base words t₀ t
  copy_ends h = record { is = rw (drop_of_length-le words h) at g.left }

-- ---- a row more

-- what the words of a list with a row at its end are: below its length as before, then the row's
at_row : (P : ℕ → Type 0) (xs row : List ℕ) (k : ℕ) → k < length xs + length row → (k < length xs → P (get_or xs k 0)) → ((j : ℕ) → length xs + j ≡ k → j < length row → P (get_or row j 0)) → P (get_or (xs ++ row) k 0)
at_row P xs row k h below here = go (dec_lt k (length xs))
  where
    go : Dec (k < length xs) → P (get_or (xs ++ row) k 0)
    go (yes l) = rw (get_or-append xs row 0 k l) (below l)
    go (no l) =
        let e : length xs + (k - length xs) ≡ k = omega arith in
        rw (← e) (rw get_or-append-add (here (k - length xs) e (omega arith)))

row_counted : (w n : ℕ) (xs row : List ℕ) → length xs ≡ n * w → length row ≡ w → length (xs ++ row) ≡ (n + 1) * w
row_counted w n xs row q e = length-append xs row ∙ rw (q, e, row_more)

module _ {w n : ℕ} {row t : List ℕ} (p : 0 < w) (e : length row ≡ w) where
  pub put_room : {t' : List ℕ} → Copied (n * w) row t t' → n * w + w ≤ length t → Put w row n t t' (n + 1)
  put_room {t'} c room = rw c.is record {
    counts = refl;
    stands = λ xs r. record {
      many = row_counted w n xs row r.many e;
      holds = λ k h b.
          at_row (λ (v : ℕ). get_or (sets t (n * w) row) k 0 ≡ v) xs row k (rw length-append at h)
          (λ l. get_d_sets_below row t (n * w) k (rw r.many at l) ∙ r.holds k l (rw length-sets at b))
          (λ j q l. get_d_sets_in row t (n * w) j k (rw r.many at q) l (omega arith));
    };
  }

  pub put_full : length t < n * w + w → Put w row n t t (n + 1)
  put_full full = record {
    counts = refl;
    stands = λ xs r. record {
      many = row_counted w n xs row r.many e;
      holds = λ k h b.
          at_row (λ (v : ℕ). get_or t k 0 ≡ v) xs row k (rw length-append at h)
          (λ l. r.holds k l b)
          (λ j q l. absurd (omega (arith, whole_before w n (length t) p full, r.many)));
    };
  }

-- a row of one
pub one_room : {t : List ℕ} {n b : ℕ} → n < length t → Put 1 (b ∷ []) n t (set t n b) (n + 1)
one_room {t} {n} {b} h = put_room (omega arith) refl (record { is = rw mul-one }) (omega arith)

pub one_full : {t : List ℕ} {n b : ℕ} → length t ≤ n → Put 1 (b ∷ []) n t t (n + 1)
one_full h = put_full (omega arith) refl (omega arith)

-- ---- a docstring

length_docstring : (i start len : ℕ) (xs : List ℕ) → length (with_docstring i start len xs) ≡ length xs
length_docstring i start len xs = length-sets xs (i * 16 + 11) (1 ∷ start ∷ len ∷ [])

-- the words of the table before those three
docstring_before : (i start len : ℕ) (xs : List ℕ) (k : ℕ) → k < i * 16 + 11 → get_or (with_docstring i start len xs) k 0 ≡ get_or xs k 0
docstring_before i start len xs k h = get_d_sets_below (1 ∷ start ∷ len ∷ []) xs (i * 16 + 11) k h

module _ {i start len : ℕ} {t : List ℕ} where
  pub docstring_room : Documented i start len t (set (set (set t (i * 16 + 11) 1) (i * 16 + 12) start) (i * 16 + 13) len)
  docstring_room =
      let a : i * 16 + 12 ≡ suc (i * 16 + 11) = omega arith in
      let b : i * 16 + 13 ≡ suc (suc (i * 16 + 11)) = omega arith in
      rw (a, b) record {
        stands = λ n xs h r. record {
          many = length_docstring i start len xs ∙ r.many;
          holds = λ k l m.
              let o : k < whole 16 (length t) = simp length-set at m in
              let p : k < length xs = simp length-set at l in
              sets_agree (1 ∷ start ∷ len ∷ []) t xs (i * 16 + 11) k (omega (arith, div-mul-le_self (length t) 16)) p (r.holds k p o);
        };
      }

  pub docstring_full : length t < i * 16 + 16 → Documented i start len t t
  docstring_full full = record {
    stands = λ n xs h r. record {
      many = length_docstring i start len xs ∙ r.many;
      holds = λ k l m.
          let p : k < length xs = simp length-set at l in
          r.holds k p m ∙ sym (docstring_before i start len xs k (omega (arith, whole_before 16 i (length t) (omega arith) full)));
    };
  }

-- ---- zeros

-- a store takes one place from what is left to fill
fill_suc : {A : Type 0} (a : A) (t : List A) (i : ℕ) → filled a (suc i) (set t i a) ≡ filled a i t
fill_suc a [] i = refl
fill_suc a (x ∷ t) zero = refl
fill_suc a (x ∷ t) (suc i) = ap (◌∷◌ x) (fill_suc a t i)

fill_past : {A : Type 0} (a : A) (t : List A) (i : ℕ) → length t ≤ i → filled a i t ≡ t
fill_past a [] i h = refl
fill_past a (x ∷ t) zero h = absurd (omega arith)
fill_past a (x ∷ t) (suc i) h = ap (◌∷◌ x) (fill_past a t i (omega arith))

-- a loop that fills, before place i: to fill the rest gives what was asked
pub record Filling {A : Type 0} (a : A) (from : ℕ) (t₀ t : List A) (i : ℕ) : Type 0 where
  pub left : filled a i t ≡ filled a from t₀
  pub same : length t ≡ length t₀

pub fill_begins : {A : Type 0} {a : A} {from : ℕ} {t : List A} → Filling a from t t from
fill_begins = record { left = refl; same = refl }

module _ {A : Type 0} {a : A} {from i : ℕ} {t₀ t : List A} (g : Filling a from t₀ t i) where
  pub fill_more : Filling a from t₀ (set t i a) (i + 1)
  fill_more = record { left = rw add-one (fill_suc a t i ∙ g.left); same = length-set t i a ∙ g.same }

  pub fill_ends : length t ≤ i → Filled a from t₀ t
  fill_ends h = record { is = sym (fill_past a t i h) ∙ g.left }

filled_cleared : (n : ℕ) (t : List ℕ) → filled 0 n t ≡ cleared n t
filled_cleared n [] = refl
filled_cleared zero (x ∷ t) = ap (◌∷◌ 0) (filled_cleared zero t)
filled_cleared (suc n) (x ∷ t) = ap (◌∷◌ x) (filled_cleared n t)

pub wiped : {n : ℕ} {t₀ t : List ℕ} → Filled 0 n t₀ t → Wiped n t₀ t
wiped {n} {t₀} {t} g = record { is = g.is ∙ filled_cleared n t₀ }

pub clear_all : (t : List ℕ) → cleared 0 t ≡ replicate (length t) 0
clear_all [] = refl
clear_all (x ∷ t) = ap (◌∷◌ 0) (clear_all t)

clear_after : (xs t : List ℕ) → ((k : ℕ) → k < length xs → get_or t k 0 ≡ get_or xs k 0) → length xs ≤ length t → cleared (length xs) t ≡ xs ++ replicate (length t - length xs) 0
clear_after [] t h l = rw sub-zero (clear_all t)
clear_after (y ∷ xs) [] h l = absurd (omega arith)
clear_after (y ∷ xs) (x ∷ t) h l =
    let e : x ≡ y = h 0 (omega arith) in
    let d : suc (length t) - suc (length xs) ≡ length t - length xs = omega arith in
    rw (e, d) (ap (◌∷◌ y) (clear_after xs t (λ k a. h (suc k) (omega arith)) (omega arith)))

-- a table cleared past the rows that it stands for is their words, and zeros after them
pub clear_rest : {w n : ℕ} {t xs : List ℕ} → 0 < w → Rep w t n xs → n * w ≤ length t → cleared (n * w) t ≡ xs ++ replicate (length t - n * w) 0
clear_rest {w} {n} {t} {xs} p r h =
    rw (← r.many)
    (clear_after xs t (λ k a. r.holds k a (omega (arith, fit_whole w n (length t) p h, r.many))) (omega (arith, r.many)))

-- ---- a row's place is a number that fits

row_small : (n w : ℕ) → n < 1048576 → w ≤ 16 → n * w ≤ 1048576 * 16
row_small n w h l = mul-le-mul {n₂ = 1048576} (omega arith) l

pub place_fits : (n w : ℕ) → n < 1048576 → w ≤ 16 → Fits w64 (n * w)
place_fits n w h l = record { fits = omega (arith, row_small n w h l) }

pub row_fits : (n w : ℕ) → n < 1048576 → w ≤ 16 → Fits w64 (n * w + w)
row_fits n w h l = record { fits = omega (arith, row_small n w h l) }

-- a word of a row that has room is below the length
pub word_inside : (base j : ℕ) (t : List ℕ) → j < 16 → base + 16 ≤ length t → base + j < length t
word_inside base j t h l = omega arith

-- what answers every need of the functions that fill and clear a table
pub ruleset tables = (place_fits, row_fits, word_inside, put_room, put_full, one_room, one_full, docstring_room, docstring_full, copy_begins, copy_more, copy_ends, fill_begins, fill_more, fill_ends, length-set, rules)
