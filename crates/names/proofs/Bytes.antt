-- What interface names consist of, so that a class that has these bytes has every byte of them.
use Prim.Native.Nat.{ℕ, zero, suc, ◌≤◌, ◌<◌}
use mathlib.Core.Path.{◌≡◌, refl, sym, subst}
use mathlib.Core.Bool.{Bool, true, false, not, ◌&&◌, ◌||◌}
use mathlib.Core.List.{List, [], ◌∷◌}
use borrow.Author.Tests.{ne_eqb, le-leb, lt-leb}
use native.Mathlib.Decide.{dec_lt}
use native.Mathlib.Omega.{arith}
use lib.Dec.{T, eqb, leb}
use lib.ListN.{length}
use Rattle.slices.specs.Bytes.{if, all}
use Rattle.slices.proofs.Runs.{both, and_both, by_byte}
use Rattle.names.specs.Names.{element_byte, element, elements, grown, every, interface_name}
use Rattle.names.proofs.Names.{element_class}

-- a byte of an element, or a dot
abbrev dotted_byte : ℕ → Bool
dotted_byte b = element_byte b || eqb b 46

-- every byte below n of the one class is of the other
abbrev covers : ℕ → (ℕ → Bool) → (ℕ → Bool) → Bool
covers zero q p = true
covers (suc n) q p = let r = covers n q p in if (not (q n) || p n) r false

-- a class that has every byte of another below n has each such byte
covers_one : (n : ℕ) (q p : ℕ → Bool) → covers n q p ≡ true → (b : ℕ) → b < n → q b ≡ true → p b ≡ true
covers_one zero q p h b l e = absurd (omega arith)
covers_one (suc n) q p h b l e =
    let t = both (not (q n) || p n) (covers n q p) h in
    go (covers_one n q p t.1 b) (dec_lt b n) t.0
  where
    here : (x y : Bool) → not x || y ≡ true → x ≡ true → y ≡ true
    here true y g f = g
    here false y g f = absurd (subst T (sym f) tt)

    go : (b < n → q b ≡ true → p b ≡ true) → Dec (b < n) → not (q n) || p n ≡ true → p b ≡ true
    go i (yes k) g = i k e
    go i (no k) g = let s : b ≡ n = omega arith in here (q b) (p b) (rw s g) e

all_covers : (q p : ℕ → Bool) → ((b : ℕ) → q b ≡ true → b < 128) → covers 128 q p ≡ true → (s : List ℕ) → all q s ≡ true → all p s ≡ true
all_covers q p small h [] e = refl
all_covers q p small h (b ∷ s) e =
    let t = both (q b) (all q s) e in
    rw (covers_one 128 q p h b (small b t.0) t.0) (all_covers q p small h s t.1)

-- the class is ASCII
not_large : (q : ℕ → Bool) → ((b : ℕ) → 128 ≤ b → q b ≡ false) → (b : ℕ) → q b ≡ true → b < 128
not_large q f b e = go (dec_lt b 128)
  where
    go : Dec (b < 128) → b < 128
    go (yes k) = k
    go (no k) = absurd (subst T (f b (omega arith)) (subst T (sym e) tt))

name_large : (b : ℕ) → 128 ≤ b → dotted_byte b ≡ false
name_large b h =
    rw (le-leb 65 b (omega arith), lt-leb b 90 (omega arith), le-leb 97 b (omega arith), lt-leb b 122 (omega arith), le-leb 48 b (omega arith), lt-leb b 57 (omega arith), ne_eqb b 95 (λ q. omega arith), ne_eqb b 46 (λ q. omega arith))

-- what names consist of
element_is_dotted : (b : ℕ) → element_byte b ≡ true → dotted_byte b ≡ true
element_is_dotted b e = rw e

every_class : (es : List (List ℕ)) → every element es ≡ true → every (all element_byte) es ≡ true
every_class [] h = refl
every_class (e ∷ es) h =
    let t = both (element e) (every element es) h in
    rw (element_class e t.0) (every_class es t.1)

elements_bytes : (s : List ℕ) → every (all element_byte) (elements s) ≡ true → all dotted_byte s ≡ true
elements_bytes [] h = refl
elements_bytes (b ∷ s) h = by_byte (λ (x : ℕ). every (all element_byte) (if (eqb x 46) ([] ∷ elements s) (grown x (elements s))) ≡ true → all dotted_byte (x ∷ s) ≡ true) b 46 (elements_bytes s) (λ n k. one (elements s) (elements_bytes s) (rw n at k)) h
  where
    one : (es : List (List ℕ)) → (every (all element_byte) es ≡ true → all dotted_byte s ≡ true) → every (all element_byte) (grown b es) ≡ true → all dotted_byte (b ∷ s) ≡ true
    one [] i k = let t = both (element_byte b) true (both (all element_byte (b ∷ [])) true k).0 in rw (element_is_dotted b t.0) (i refl)
    one (e ∷ es) i k =
        let u = both (all element_byte (b ∷ e)) (every (all element_byte) es) k in
        let t = both (element_byte b) (all element_byte e) u.0 in
        rw (element_is_dotted b t.0) (i (rw t.1 u.1))

pub interface_bytes : (s : List ℕ) → interface_name s ≡ true → all dotted_byte s ≡ true
unfolding interface_name
interface_bytes s e =
    let t = and_both (every element (elements s) && leb 2 (length (elements s))) (leb (length s) 255) e in
    elements_bytes s (every_class (elements s) (and_both (every element (elements s)) (leb 2 (length (elements s))) t.0).0)

-- a class that has every byte of names has every byte of a name
pub name_all : (p : ℕ → Bool) → covers 128 dotted_byte p ≡ true → (s : List ℕ) → all dotted_byte s ≡ true → all p s ≡ true
name_all p = all_covers dotted_byte p (not_large dotted_byte name_large)
