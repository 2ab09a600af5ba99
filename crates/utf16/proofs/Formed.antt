-- What is decoded: it is what the units say, well-formed, at most 3/2 of the document's bytes, within the limit and the room, and stands in the buffer.
use Prim.Native.Nat.{ℕ, zero, suc, ◌+◌, ◌-◌, ◌*◌, ◌/◌, ◌%◌, ◌≤◌, ◌<◌}
use mathlib.Core.Path.{◌≡◌, refl}
use mathlib.Core.List.{List, [], ◌∷◌, ◌++◌}
use mathlib.Core.Bool.{Bool, true, false, ◌&&◌, ◌||◌}
use borrow.Author.Tests.{ltb-true, ltb-false, lt-ltb, le-ltb, leb-true, le-leb, lt-leb}
use native.Mathlib.Omega.{arith}
use mir.Syntax.{w8}
use mir.Val.{Fits}
use lib.Dec.{eqb, leb, ltb}
use lib.ListN.{length, take, drop, get_or, replicate, length-append, length-drop}
use lib.Seq.{take-append_seam}
use Rattle.slices.specs.Bytes.{if, all, starts}
use Rattle.slices.proofs.Runs.{both}
use Rattle.utf8.specs.Encoding.{utf8}
use Rattle.utf8.proofs.Sequences.{below}
use Rattle.utf8.proofs.Texts.{Whole, none_whole, formed, whole_append, whole_char}
use Rattle.utf8.proofs.Encodings.{Scalar, utf8_char, utf8_short, unit_short}
use Rattle.answers.specs.Text.{Text, text, wrong, left_of}
use Rattle.answers.proofs.Answers.{no_text}
use Rattle.utf8.specs.WellFormed.{ill_formed}
use Rattle.utf16.specs.Units.{unit, units, high, low, pair, scalar_value, utf16, in_units}
use Rattle.utf16.specs.Decode.{Scalars, scalars, lone, before, Waiting, nothing, first, decode, rest, in_bytes, text_of}
use Rattle.utf16.specs.Entry.{big_mark, marked, fitting, ordered, decoding, answer_of, answer, left}
use Rattle.utf16.specs.Promises.{is_byte, Same, Complete, WellFormed, Short, Within, Stands}
use Rattle.std.proofs.Common.{Some, None, Ok}

-- ---- the classes of units

class_true : (a b u : ℕ) → (leb a u && leb u b) ≡ true → (a ≤ u) × (u ≤ b)
class_true a b u e = go (leb a u) (leb u b) refl refl e
  where
    go : (s t : Bool) → leb a u ≡ s → leb u b ≡ t → (s && t) ≡ true → (a ≤ u) × (u ≤ b)
    go false t p q f = let z : ◌≡◌ {A = ℕ} 0 1 = cc in absurd (omega arith)
    go true false p q f = let z : ◌≡◌ {A = ℕ} 0 1 = cc in absurd (omega arith)
    go true true p q f = (leb-true a u p, leb-true u b q)

class_false : (a b u : ℕ) → (leb a u && leb u b) ≡ false → a ≤ u → u ≤ b → ⊥
class_false a b u e h k =
    let t : (leb a u && leb u b) ≡ true = rw (le-leb a u h, le-leb u b k) in
    let z : ◌≡◌ {A = ℕ} 0 1 = cc in
    omega arith

-- a test, and what it leads to
by_test : {A P : Type 0} (t : Bool) {x y z : A} → (t ≡ true → x ≡ z → P) → (t ≡ false → y ≡ z → P) → if t x y ≡ z → P
by_test true f g e = f refl e
by_test false f g e = g refl e

-- ---- the units of bytes

abbrev small : ℕ → Bool
small u = ltb u 65536

unit_small : (big : Bool) (a b : ℕ) → is_byte a ≡ true → is_byte b ≡ true → small (unit big a b) ≡ true
unit_small big a b e f = go big
  where
    go : (t : Bool) → small (if t (a * 256 + b) (b * 256 + a)) ≡ true
    go true = lt-ltb (a * 256 + b) 65536 (omega (arith, ltb-true a 256 e, ltb-true b 256 f))
    go false = lt-ltb (b * 256 + a) 65536 (omega (arith, ltb-true a 256 e, ltb-true b 256 f))

units_small : (big : Bool) (l : List ℕ) → all is_byte l ≡ true → (all small (units big l) ≡ true) × (2 * length (units big l) ≤ length l)
units_small big [] e = (refl, omega arith)
units_small big (a ∷ []) e = (refl, omega arith)
units_small big (a ∷ b ∷ l) e =
    let p = both (is_byte a) (all is_byte (b ∷ l)) e in
    let q = both (is_byte b) (all is_byte l) p.1 in
    let i = units_small big l q.1 in
    (rw (unit_small big a b p.0 q.0) i.0, omega (arith, i.1))

-- the bytes of a slice, which are known by their places
all_bytes : (l : List ℕ) → ((i : ℕ) → get_or l i 0 < 256) → all is_byte l ≡ true
all_bytes [] h = refl
all_bytes (b ∷ l) h = rw (lt-ltb b 256 (h 0)) (all_bytes l (λ i. h (suc i)))

drop_bytes : (k : ℕ) (l : List ℕ) → all is_byte l ≡ true → all is_byte (drop k l) ≡ true
drop_bytes zero l e = e
drop_bytes (suc k) [] e = e
drop_bytes (suc k) (b ∷ l) e = drop_bytes k l (both (is_byte b) (all is_byte l) e).1

-- ---- what units say

unit_scalar : (u : ℕ) → u < 65536 → high u ≡ false → low u ≡ false → Scalar u
unit_scalar u e p q = record { small = omega (arith, e); apart = λ i j. neither i j }
  where
    neither : 0xd800 ≤ u → u < 0xe000 → ⊥
    neither i j =
        let n : u ≤ 0xdbff → ⊥ = class_false 0xd800 0xdbff u p i in
        class_false 0xdc00 0xdfff u q (omega arith) (omega arith)

pair_scalar : (h u : ℕ) → high h ≡ true → low u ≡ true → Scalar (pair h u)
pair_scalar h u p q =
    let i = class_true 0xd800 0xdbff h p in
    let j = class_true 0xdc00 0xdfff u q in
    record { small = omega (arith, i.0, i.1, j.0, j.1); apart = λ m n. omega (arith, m, n) }

scalar_is_value : {c : ℕ} → Scalar c → scalar_value c ≡ true
scalar_is_value {c} s = below c 0xd800 (λ h. rw (le-leb c 0xd7ff (omega arith))) (λ h. rw (lt-leb c 0xd7ff (omega arith), le-leb 0xe000 c (above h), le-leb c 0x10ffff (omega (arith, s.small))))
  where
    above : 0xd800 ≤ c → 0xe000 ≤ c
    above h = below c 0xe000 (λ k. absurd (s.apart h k)) (λ k. k)

-- a unit that is a scalar value, and a pair that is one
utf16_unit : (u : ℕ) → u < 65536 → utf16 u ≡ u ∷ []
unfolding utf16
utf16_unit u h = rw (lt-ltb u 0x10000 h)

two_units : {a b h u : ℕ} → a ≡ h → b ≡ u → a ∷ b ∷ [] ≡ h ∷ u ∷ []
two_units p q = rw (p, q)

utf16_pair : (h u : ℕ) → high h ≡ true → low u ≡ true → utf16 (pair h u) ≡ h ∷ u ∷ []
unfolding utf16
utf16_pair h u p q =
    let i = class_true 0xd800 0xdbff h p in
    let j = class_true 0xdc00 0xdfff u q in
    rw (le-ltb (pair h u) 0x10000 (omega arith)) (two_units (omega (arith, i.0, i.1, j.0, j.1)) (omega (arith, i.0, i.1, j.0, j.1)))

-- scalar values that are those of units: their UTF-8 is well-formed, and has at most three bytes for each unit
record Said (l cs : List ℕ) : Type 0 where
  values : all scalar_value cs ≡ true
  is : l ≡ in_units cs
  whole : Whole (in_bytes cs)
  short : length (in_bytes cs) ≤ 3 * length l

said_none : Said [] []
said_none = record { values = refl; is = refl; whole = none_whole; short = omega arith }

said_more : {l cs : List ℕ} (us : List ℕ) (c : ℕ) → Scalar c → utf16 c ≡ us → length (utf8 c) ≤ 3 * length us → Said l cs → Said (us ++ l) (c ∷ cs)
said_more {l} {cs} us c h e k s = record {
  values = rw (scalar_is_value h) s.values;
  is = rw (e, s.is);
  whole = whole_append (whole_char (utf8_char c h)) s.whole;
  short = rw (length-append (utf8 c) (in_bytes cs), length-append us l) (omega (arith, k, s.short));
}

-- what stands after scalar values
after_scalars : (bs cs : List ℕ) (x : Scalars) → before bs x ≡ scalars cs → (ds : List ℕ) × (x ≡ scalars ds) × (cs ≡ bs ++ ds)
after_scalars bs cs (scalars ds) e = (ds, refl, cc)
after_scalars bs cs (lone p) e = let z : ◌≡◌ {A = ℕ} 0 1 = cc in absurd (omega arith)

no_scalars : {P : Type 0} (p : ℕ) (cs : List ℕ) → lone p ≡ scalars cs → P
no_scalars p cs e = let z : ◌≡◌ {A = ℕ} 0 1 = cc in absurd (omega arith)

-- the unit that waits is the first of a pair; and the units with it
abbrev Waits : Waiting → Type 0
Waits nothing = Unit {0}
Waits (first h) = high h ≡ true

abbrev with_waiting : Waiting → List ℕ → List ℕ
with_waiting nothing l = l
with_waiting (first h) l = h ∷ l

decode_said : (w : Waiting) (l : List ℕ) (at : ℕ) (cs : List ℕ) → Waits w → all small l ≡ true → decode w l at ≡ scalars cs → Said (with_waiting w l) cs
decode_said nothing [] at cs v a e = let q : [] ≡ cs = cc in rw (← q) said_none
decode_said (first h) [] at cs v a e = no_scalars at cs e
decode_said nothing (u ∷ l) at cs v a e =
    let b = both (small u) (all small l) a in
    let k = ltb-true u 65536 b.0 in
    by_test (high u)
    (λ p. decode_said (first u) l at cs p b.1)
    (λ p. by_test (low u) (λ q. no_scalars at cs)
    (λ q f. let d = after_scalars (u ∷ []) cs (decode nothing l (at + 2)) f in rw d.2 (said_more (u ∷ []) u (unit_scalar u k p q) (utf16_unit u k) (unit_short u k) (decode_said nothing l (at + 2) d.0 tt b.1 d.1))))
    e
decode_said (first h) (u ∷ l) at cs v a e =
    let b = both (small u) (all small l) a in
    by_test (low u)
    (λ q f. let d = after_scalars (pair h u ∷ []) cs (decode nothing l (at + 4)) f in rw d.2 (said_more (h ∷ u ∷ []) (pair h u) (pair_scalar h u v q) (utf16_pair h u v q) (omega (arith, utf8_short (pair h u))) (decode_said nothing l (at + 4) d.0 tt b.1 d.1)))
    (λ q. no_scalars at cs)
    e

-- ---- the entry

fitting_text : (end room : ℕ) (o : Text) (t : List ℕ) → fitting end room o ≡ text t → o ≡ text t
fitting_text end room (text s) t = by_test (ltb 1048576 (length s)) (λ p. no_text 2 1048576 t) (λ p. by_test (ltb room (length s)) (λ q. no_text 18 end t) (λ q e. e))
fitting_text end room (wrong n p) t = no_text n p t

fitting_within : (end room : ℕ) (o : Text) (t : List ℕ) → fitting end room o ≡ text t → (length t ≤ 1048576) × (length t ≤ room)
fitting_within end room (text s) t =
    by_test (ltb 1048576 (length s)) (λ p. no_text 2 1048576 t)
    (λ p. by_test (ltb room (length s)) (λ q. no_text 18 end t)
    (λ q e. let f : s ≡ t = cc in rw (← f) (ltb-false 1048576 (length s) p, ltb-false room (length s) q)))
fitting_within end room (wrong n p) t = no_text n p t

decoding_fits : (raw t : List ℕ) (room : ℕ) → decoding raw room ≡ text t → fitting (length raw) room (text_of (rest (starts big_mark raw) raw 2)) ≡ text t
unfolding decoding ordered
decoding_fits raw t room =
    by_test (ltb 1048576 (length raw)) (λ p. no_text 2 1048576 t)
    (λ p. by_test (eqb (length raw % 2) 1) (λ q. no_text 26 (length raw) t) (λ q e. e))

text_scalars : (x : Scalars) (t : List ℕ) → text_of x ≡ text t → (cs : List ℕ) × (x ≡ scalars cs) × (t ≡ in_bytes cs)
text_scalars (scalars cs) t e = (cs, refl, cc)
text_scalars (lone p) t e = no_text 27 p t e

-- the scalar values of a document that is decoded
decoding_said : (raw t : List ℕ) (room : ℕ) → all is_byte raw ≡ true → decoding raw room ≡ text t → (cs : List ℕ) × Said (units (starts big_mark raw) (drop 2 raw)) cs × (t ≡ in_bytes cs)
unfolding rest
decoding_said raw t room a e =
    let big = starts big_mark raw in
    let u = units_small big (drop 2 raw) (drop_bytes 2 raw a) in
    let s = text_scalars (rest big raw 2) t (fitting_text (length raw) room (text_of (rest big raw 2)) t (decoding_fits raw t room e)) in
    (s.0, decode_said nothing (units big (drop 2 raw)) 2 s.0 tt u.0 s.1, s.2)

pub same : Same
same raw t room a e = let s = decoding_said raw t room a e in (s.0, s.1.values, s.1.is, s.2)

pub well_formed : WellFormed
well_formed raw t room a e = let s = decoding_said raw t room a e in rw s.2 (formed s.1.whole)

pub short : Short
short raw t room a e =
    let s = decoding_said raw t room a e in
    let u = units_small (starts big_mark raw) (drop 2 raw) (drop_bytes 2 raw a) in
    rw s.2 (omega (arith, s.1.short, u.1, length-drop 2 raw))

pub within : Within
within raw t room e = fitting_within (length raw) room (text_of (rest (starts big_mark raw) raw 2)) t (decoding_fits raw t room e)

pub stands : Stands
unfolding answer left
stands raw room n = go (marked raw) (decoding raw room) refl
  where
    go : (m : Bool) (o : Text) → decoding raw room ≡ o → if m (answer_of o) (Ok None) ≡ Ok (Some n) → (t : List ℕ) × (decoding raw room ≡ text t) × (n ≡ length t) × (take n (if m (left_of room o) (replicate room 0)) ≡ t)
    go true (text t) e f = let k : n ≡ length t = cc in (t, e, k, rw (k, take-append_seam t (replicate (room - length t) 0)))
    go true (wrong q p) e f = let z : ◌≡◌ {A = ℕ} 0 1 = cc in absurd (omega arith)
    go false o e f = let z : ◌≡◌ {A = ℕ} 0 1 = cc in absurd (omega arith)

-- ---- the UTF-16 of scalar values

value_scalar : (c : ℕ) → scalar_value c ≡ true → Scalar c
value_scalar c e = go (leb c 0xd7ff) refl e
  where
    go : (t : Bool) → leb c 0xd7ff ≡ t → (t || (leb 0xe000 c && leb c 0x10ffff)) ≡ true → Scalar c
    go true p f = let k = leb-true c 0xd7ff p in record { small = omega (arith, k); apart = λ i j. omega (arith, k, i) }
    go false p f = let k = class_true 0xe000 0x10ffff c f in record { small = omega (arith, k.1); apart = λ i j. omega (arith, k.0, j) }

class_not : (a b u : ℕ) → (a ≤ u → u ≤ b → ⊥) → (leb a u && leb u b) ≡ false
class_not a b u h = go (leb a u) (leb u b) refl refl
  where
    go : (s t : Bool) → leb a u ≡ s → leb u b ≡ t → (s && t) ≡ false
    go false t p q = refl
    go true false p q = refl
    go true true p q = absurd (h (leb-true a u p) (leb-true u b q))

class_is : (a b u : ℕ) → a ≤ u → u ≤ b → (leb a u && leb u b) ≡ true
class_is a b u h k = rw (le-leb a u h, le-leb u b k)

decode_units : (c : ℕ) (l : List ℕ) (at : ℕ) → Scalar c → (x : Scalars) → ((p : ℕ) → decode nothing l p ≡ x) → decode nothing (utf16 c ++ l) at ≡ before (c ∷ []) x
unfolding utf16
decode_units c l at s x i = below c 0x10000 one two
  where
    one : c < 0x10000 → decode nothing (if (ltb c 0x10000) (c ∷ []) ((0xd800 + (c - 0x10000) / 0x400) ∷ (0xdc00 + (c - 0x10000) % 0x400) ∷ []) ++ l) at ≡ before (c ∷ []) x
    one h =
        let p = class_not 0xd800 0xdbff c (λ j k. s.apart j (omega arith)) in
        let q = class_not 0xdc00 0xdfff c (λ j k. s.apart (omega arith) (omega arith)) in
        rw (lt-ltb c 0x10000 h, p, q, i (at + 2))

    two : 0x10000 ≤ c → decode nothing (if (ltb c 0x10000) (c ∷ []) ((0xd800 + (c - 0x10000) / 0x400) ∷ (0xdc00 + (c - 0x10000) % 0x400) ∷ []) ++ l) at ≡ before (c ∷ []) x
    two h =
        let a = 0xd800 + (c - 0x10000) / 0x400 in
        let b = 0xdc00 + (c - 0x10000) % 0x400 in
        let p = class_is 0xd800 0xdbff a (omega arith) (omega (arith, s.small)) in
        let q = class_is 0xdc00 0xdfff b (omega arith) (omega arith) in
        let e : pair a b ≡ c = omega arith in
        rw (le-ltb c 0x10000 h, p, q, e, i (at + 4))

decode_all : (cs : List ℕ) → all scalar_value cs ≡ true → (at : ℕ) → decode nothing (in_units cs) at ≡ scalars cs
decode_all [] e at = refl
decode_all (c ∷ cs) e at =
    let b = both (scalar_value c) (all scalar_value cs) e in
    decode_units c (in_units cs) at (value_scalar c b.0) (scalars cs) (λ p. decode_all cs b.1 p)

pub complete : Complete
unfolding rest
complete big raw cs a e = rw (e, decode_all cs a 2)

-- ---- a document that is lent

-- its bytes are known by their places
pub forms : (raw : List ℕ) (room : ℕ) → ((i : ℕ) → Fits w8 (get_or raw i 0)) → (t : List ℕ) → decoding raw room ≡ text t → ill_formed t ≡ length t
forms raw room h t = well_formed raw t room (all_bytes raw (λ i. omega (arith, h i)))
