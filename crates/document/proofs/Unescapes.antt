-- The faults of a value: their numbers, and their places, which lie in the value; a reference that is bad has its `;`.
use Prim.Native.Nat.{ℕ, zero, suc, ◌<◌}
use mathlib.Core.Path.{◌≡◌, refl}
use mathlib.Core.List.{List, [], ◌∷◌}
use mathlib.Core.Bool.{Bool, true, false, not, ◌&&◌, ◌||◌}
use borrow.Author.Tests.{eqb-true}
use native.Mathlib.Omega.{arith}
use lib.Dec.{eqb}
use lib.ListN.{length, drop, get_or}
use Rattle.slices.specs.Bytes.{bytes, other, span, past, all, empty, same, digit}
use Rattle.slices.proofs.Ends.{not_empty}
use Rattle.answers.specs.Text.{Text, text, wrong}
use Rattle.references.specs.Characters.{xml_char}
use Rattle.references.specs.Unescape.{Reference, character, fault, of_digits, number, hex_digit, of_number, char_reference, reference, Piece, shows, bad, referred, after_cr, piece, before, joined, shown_from, unescape}
use Rattle.document.specs.Elements.{among}
use Rattle.document.specs.Refusals.{faults}
use Rattle.document.proofs.Tests.{either, among_all}
use Rattle.document.proofs.Branches.{Number, span_past}
use Rattle.document.proofs.Places.{next-left, byte_left}

-- the number of a bad reference
abbrev pub Bad : ℕ → Type 0
Bad n = among n (10 ∷ 11 ∷ []) ≡ true

abbrev Refers : Reference → Type 0
Refers (character c) = Unit {0}
Refers (fault n) = Bad n

digits_refer : (base : ℕ) (p : ℕ → Bool) (ds : List ℕ) → Refers (of_digits base p ds)
digits_refer base p ds =
    either Refers (not (empty ds) && all p ds)
    (λ t. either Refers (xml_char (number base 0 ds)) (λ t. tt) (λ t. refl))
    (λ t. refl)

number_refers : (l : List ℕ) → Refers (of_number l)
number_refers [] = refl
number_refers (b ∷ l) = either Refers (eqb b 120 || eqb b 88) (λ t. digits_refer 16 hex_digit l) (λ t. digits_refer 10 digit (b ∷ l))

character_refers : (l : List ℕ) → Refers (char_reference l)
character_refers [] = refl
character_refers (b ∷ l) = either Refers (eqb b 35) (λ t. number_refers l) (λ t. refl)

reference_refers : (e : List ℕ) → Refers (reference e)
unfolding reference
reference_refers e =
    either Refers (same e (bytes "amp")) (λ t. tt)
    (λ t. either Refers (same e (bytes "lt")) (λ t. tt)
    (λ t. either Refers (same e (bytes "gt")) (λ t. tt)
    (λ t. either Refers (same e (bytes "quot")) (λ t. tt)
    (λ t. either Refers (same e (bytes "apos")) (λ t. tt) (λ t. character_refers e)))))

-- a reference: `&` (38), and a `;` (59) after it
abbrev pub Referring : List ℕ → Type 0
Referring l = (get_or l 0 0 ≡ 38) × (length (span (other 59) l) < length l)

-- the number of a fault at the first byte: a reference that does not end, or a bad one
pub data Faulty (l : List ℕ) (n : ℕ) : Type 0 where
  unended : n ≡ 9 → Faulty l n
  misreferred : Bad n → Referring l → Faulty l n

pub faulty_number : {l : List ℕ} {n : ℕ} → Faulty l n → Number n
faulty_number (unended e) = rw e
faulty_number {n = n} (misreferred e r) = among_all (λ m. among m faults) n (10 ∷ 11 ∷ []) refl e

abbrev Shows : List ℕ → Piece → Type 0
Shows m (shows s w) = Unit {0}
Shows m (bad n) = Faulty m n

referred_shows : (m : List ℕ) (r : Reference) (w : ℕ) → Referring m → Refers r → Shows m (referred r w)
referred_shows m (character c) w g h = tt
referred_shows m (fault n) w g h = misreferred h g

cr_shows : (m l : List ℕ) → Shows m (after_cr l)
cr_shows m [] = tt
cr_shows m (b ∷ l) = either (Shows m) (eqb b 10) (λ t. tt) (λ t. tt)

refers_on : (b : ℕ) (l : List ℕ) → b ≡ 38 → empty (past (other 59) l) ≡ false → Referring (b ∷ l)
refers_on b l e h = rw e (refl, omega (arith, span_past (other 59) l, not_empty (past (other 59) l) h))

piece_shows : (b : ℕ) (l : List ℕ) → Shows (b ∷ l) (piece b l)
unfolding piece
piece_shows b l =
    either (Shows (b ∷ l)) (eqb b 38)
    (λ t. either (Shows (b ∷ l)) (empty (past (other 59) l))
    (λ c. unended refl)
    (λ c. referred_shows (b ∷ l) (reference (span (other 59) l)) (suc (length (span (other 59) l))) (refers_on b l (eqb-true b 38 t) c) (reference_refers (span (other 59) l))))
    (λ t. either (Shows (b ∷ l)) (eqb b 13) (λ t. cr_shows (b ∷ l) l) (λ t. either (Shows (b ∷ l)) (eqb b 10 || eqb b 9) (λ t. tt) (λ t. tt)))

-- a text, or a fault at a place of the value
abbrev pub Told : List ℕ → Text → Type 0
Told v (text t) = Unit {0}
Told v (wrong n p) = (p < length v) × Faulty (drop p v) n

before_told : (v s : List ℕ) (t : Text) → Told v t → Told v (before s t)
before_told v s (text t) h = tt
before_told v s (wrong n p) h = h

shown_told : (v : List ℕ) (k : ℕ) (l : List ℕ) (at : ℕ) → drop at v ≡ l → Told v (shown_from k l at)
shown_told v k [] at e = tt
shown_told v zero (b ∷ l) at e = go (piece b l) (piece_shows b l) (λ w. shown_told v w l (suc at) (next-left v at b l e))
  where
    go : (p : Piece) → Shows (b ∷ l) p → ((w : ℕ) → Told v (shown_from w l (suc at))) → Told v (joined p at (λ w. shown_from w l (suc at)))
    go (shows s w) h f = before_told v s (shown_from w l (suc at)) (f w)
    go (bad n) h f = ((byte_left v at b l e).0, rw e h)
shown_told v (suc k) (b ∷ l) at e = shown_told v k l (suc at) (next-left v at b l e)

pub unescape_told : (v : List ℕ) → Told v (unescape v)
unfolding unescape
unescape_told v = shown_told v 0 v 0 refl
