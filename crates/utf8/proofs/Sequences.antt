-- One sequence: which row of the table its first byte picks, what follows that byte, and what stands before other bytes.
use Prim.Native.Nat.{ℕ, zero, suc, ◌≤◌, ◌<◌}
use mathlib.Core.Path.{◌≡◌, refl, ap, sym, ◌∙◌}
use mathlib.Core.List.{List, [], ◌∷◌, ◌++◌, append-nil}
use mathlib.Core.Bool.{Bool, true, false, ◌&&◌}
use borrow.Author.Tests.{le-leb, leb-true}
use native.Mathlib.Decide.{dec_lt}
use native.Mathlib.Omega.{arith}
use lib.Dec.{leb}
use lib.ListN.{length, take}
use lib.Seq.{length-take-le, take-length}
use Rattle.slices.specs.Bytes.{if}
use Rattle.slices.proofs.Runs.{both}
use Rattle.utf8.specs.WellFormed.{Range, table, within, begins, first_row, sequence}
use Rattle.utf8.specs.Sequence.{taken}

pub within_true : (r : Range) (b : ℕ) → r.low ≤ b → b ≤ r.high → within r b ≡ true
within_true r b h k = rw (le-leb r.low b h, le-leb b r.high k)

pub within_false : (r : Range) (b : ℕ) → (r.low ≤ b → b ≤ r.high → ⊥) → within r b ≡ false
within_false r b h = go (leb r.low b) (leb b r.high) refl refl
  where
    go : (t u : Bool) → leb r.low b ≡ t → leb b r.high ≡ u → (t && u) ≡ false
    go false u p q = refl
    go true false p q = refl
    go true true p q = absurd (h (leb-true _ _ p) (leb-true _ _ q))

pub within_bounds : (r : Range) (b : ℕ) → within r b ≡ true → (r.low ≤ b) × (b ≤ r.high)
within_bounds r b e = go (leb r.low b) (leb b r.high) refl refl e
  where
    go : (t u : Bool) → leb r.low b ≡ t → leb b r.high ≡ u → (t && u) ≡ true → (r.low ≤ b) × (b ≤ r.high)
    go false u p q f = let z : ◌≡◌ {A = ℕ} 0 1 = cc in absurd (omega arith)
    go true false p q f = let z : ◌≡◌ {A = ℕ} 0 1 = cc in absurd (omega arith)
    go true true p q f = (leb-true _ _ p, leb-true _ _ q)

-- the ranges after the first of a row
abbrev pub rest : ℕ → List (List Range) → List Range
rest n [] = []
rest n ([] ∷ rows) = []
rest zero ((r ∷ rs) ∷ rows) = rs
rest (suc n) ((r ∷ rs) ∷ rows) = rest n rows

-- no row begins with a range that has the byte
abbrev pub Misses : List (List Range) → ℕ → Type 0
Misses [] a = Unit {0}
Misses ([] ∷ rows) a = ⊥
Misses ((r ∷ rs) ∷ rows) a = (r.low ≤ a → a ≤ r.high → ⊥) × Misses rows a

-- all ranges are of continuation bytes
abbrev pub Tails : List Range → Type 0
Tails [] = Unit {0}
Tails (r ∷ rs) = (0x80 ≤ r.low) × (r.high ≤ 0xbf) × Tails rs

-- only the row of that number begins with a range that has the byte
abbrev pub Only : ℕ → List (List Range) → ℕ → Type 0
Only n [] a = ⊥
Only n ([] ∷ rows) a = ⊥
Only zero ((r ∷ rs) ∷ rows) a = (r.low ≤ a) × (a ≤ r.high) × Tails rs × Misses rows a
Only (suc n) ((r ∷ rs) ∷ rows) a = (r.low ≤ a → a ≤ r.high → ⊥) × Only n rows a

-- how many bytes follow a first byte
abbrev pub Leads : ℕ → ℕ → Type 0
Leads a k =
    (0x80 ≤ a → a ≤ 0xbf → ⊥)
    × (a < 0x80 → k ≡ 0)
    × (0x80 ≤ a → a < 0xe0 → k ≡ 1)
    × (0xe0 ≤ a → a < 0xf0 → k ≡ 2)
    × (0xf0 ≤ a → k ≡ 3)

pub missed : (rows : List (List Range)) (a : ℕ) (l : List ℕ) → Misses rows a → first_row rows (a ∷ l) ≡ 0
missed [] a l h = refl
missed ([] ∷ rows) a l h = absurd h
missed ((r ∷ rs) ∷ rows) a l h = rw (within_false r a h.0) (missed rows a l h.1)

pub only : (n : ℕ) (rows : List (List Range)) (a : ℕ) (l : List ℕ) → Only n rows a → first_row rows (a ∷ l) ≡ taken (rest n rows) l
unfolding taken
only n [] a l h = absurd h
only n ([] ∷ rows) a l h = absurd h
only zero ((r ∷ rs) ∷ rows) a l h = rw (within_true r a h.0 h.1, missed rows a l h.3)
only (suc n) ((r ∷ rs) ∷ rows) a l h = rw (within_false r a h.0) (only n rows a l h.1)

tails : (n : ℕ) (rows : List (List Range)) (a : ℕ) → Only n rows a → Tails (rest n rows)
tails n [] a h = absurd h
tails n ([] ∷ rows) a h = absurd h
tails zero ((r ∷ rs) ∷ rows) a h = h.2
tails (suc n) ((r ∷ rs) ∷ rows) a h = tails n rows a h.1

-- what a first byte says
data First (a : ℕ) : Type 0 where
  row : (n : ℕ) → Only n table a → Leads a (length (rest n table)) → First a
  none : Misses table a → First a

-- a number is below another, or not
pub below : {P : Type 0} (a k : ℕ) → (a < k → P) → (k ≤ a → P) → P
below {P} a k yes-it no-it = go (dec_lt a k)
  where
    go : Dec (a < k) → P
    go (yes h) = yes-it h
    go (no h) = no-it (omega arith)

first : (a : ℕ) → First a
first a =
    below a 0x80 (λ h. row 0 (omega arith) (omega arith))
    (λ h1. below a 0xc2 (λ h. none (omega arith))
    (λ h2. below a 0xe0 (λ h. row 1 (omega arith) (omega arith))
    (λ h3. below a 0xe1 (λ h. row 2 (omega arith) (omega arith))
    (λ h4. below a 0xed (λ h. row 3 (omega arith) (omega arith))
    (λ h5. below a 0xee (λ h. row 4 (omega arith) (omega arith))
    (λ h6. below a 0xf0 (λ h. row 5 (omega arith) (omega arith))
    (λ h7. below a 0xf1 (λ h. row 6 (omega arith) (omega arith))
    (λ h8. below a 0xf4 (λ h. row 7 (omega arith) (omega arith))
    (λ h9. below a 0xf5 (λ h. row 8 (omega arith) (omega arith))
    (λ h. none (omega arith)))))))))))

pub ascii_first : (a : ℕ) (l : List ℕ) → a < 0x80 → sequence (a ∷ l) ≡ 1
unfolding sequence taken
ascii_first a l h = only 0 table a l (omega arith)

-- so many bytes follow, and they are continuation bytes
abbrev pub Followed : ℕ → List ℕ → Type 0
Followed zero l = Unit {0}
Followed (suc n) [] = ⊥
Followed (suc n) (b ∷ l) = (0x80 ≤ b) × (b ≤ 0xbf) × Followed n l

-- what a sequence of n bytes after the first says
pub record Shape (a n : ℕ) (l : List ℕ) : Type 0 where
  pub leads : Leads a n
  pub follow : Followed n l
  pub prefix : (x : List ℕ) → sequence (a ∷ (take n l ++ x)) ≡ suc n
  pub room : n ≤ length l

pub if_some : (t : Bool) (n k : ℕ) → if t (suc k) 0 ≡ suc n → (t ≡ true) × (k ≡ n)
if_some true n k e = (refl, omega arith)
if_some false n k e = absurd (omega arith)

begins_follow : (rs : List Range) (l : List ℕ) → Tails rs → begins rs l ≡ true → Followed (length rs) l
begins_follow [] l t e = tt
begins_follow (r ∷ rs) [] t e = let z : ◌≡◌ {A = ℕ} 0 1 = cc in absurd (omega arith)
begins_follow (r ∷ rs) (b ∷ l) t e =
    let p = both (within r b) (begins rs l) e in
    let q = within_bounds r b p.0 in
    (omega (arith, t.0, q.0), omega (arith, t.1, q.1), begins_follow rs l t.2 p.1)

begins_prefix : (rs : List Range) (l x : List ℕ) → begins rs l ≡ true → begins rs (take (length rs) l ++ x) ≡ true
begins_prefix [] l x e = refl
begins_prefix (r ∷ rs) [] x e = let z : ◌≡◌ {A = ℕ} 0 1 = cc in absurd (omega arith)
begins_prefix (r ∷ rs) (b ∷ l) x e =
    let p = both (within r b) (begins rs l) e in
    rw p.0 (begins_prefix rs l x p.1)

followed_room : (n : ℕ) (l : List ℕ) → Followed n l → n ≤ length l
followed_room zero l h = omega arith
followed_room (suc n) [] h = absurd h
followed_room (suc n) (b ∷ l) h = let i = followed_room n l h.2 in omega arith

pub shape : (a n : ℕ) (l : List ℕ) → sequence (a ∷ l) ≡ suc n → Shape a n l
unfolding sequence taken
shape a n l e = go (first a)
  where
    go : First a → Shape a n l
    go (none h) = let z = missed table a l h in absurd (omega arith)
    go (row k o g) = rw i.1 at make
      where
        i : (begins (rest k table) l ≡ true) × (length (rest k table) ≡ n)
        i = if_some _ _ _ (sym (only k table a l o) ∙ e)

        f : Followed (length (rest k table)) l
        f = begins_follow (rest k table) l (tails k table a o) i.0

        make : Shape a (length (rest k table)) l
        make = record {
          leads = g;
          follow = f;
          prefix = λ x. only k table a (take (length (rest k table)) l ++ x) o ∙ rw (begins_prefix (rest k table) l x i.0);
          room = followed_room _ l f;
        }

-- a character: bytes that are one sequence
pub record Char (c : List ℕ) : Type 0 where
  pub size : sequence c ≡ length c
  pub some : 0 < length c

pub shape_char : {a n : ℕ} {l : List ℕ} → Shape a n l → Char (a ∷ take n l)
shape_char {a} {n} {l} h = record {
  size = rw (append-nil (take n l)) at (h.prefix []) ∙ sym (ap suc (length-take-le n l h.room));
  some = omega arith;
}

-- a character is a first byte, and what follows it
pub char_shape : (a : ℕ) (c : List ℕ) → Char (a ∷ c) → Shape a (length c) c
char_shape a c h = shape a (length c) c h.size

-- a character stands before whatever comes
pub char_first : (c x : List ℕ) → Char c → sequence (c ++ x) ≡ length c
char_first [] x h = absurd (omega (arith, h.some))
char_first (a ∷ c) x h = rw (take-length c) at ((char_shape a c h).prefix x)
