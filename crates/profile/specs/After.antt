-- What may follow the root: [1] document ::= prolog element Misc*, [27] Misc ::= Comment | PI | S.
use Rattle.std.specs.Prelude.{ℕ, zero, suc, ◌+◌, ◌-◌, ◌≤◌, ◌<◌, ◌≡◌, List, [], ◌∷◌, Bool, false, ◌||◌, eqb, ltb, length, take, drop, Result, Ok, Err}
use Rattle.slices.specs.Bytes.{if, bytes, starts}
use Rattle.scan.specs.Ignorable.{seek}
use Rattle.faults.specs.Fault.{fault}
use Rattle.faults.specs.declared.Fault.{Fault}
use Rattle.profile.specs.Profile.{comment_fault}

-- [3] S ::= (#x20 | #x9 | #xD | #xA)+
abbrev pub space : ℕ → Bool
space b = eqb b 0x20 || eqb b 0x9 || eqb b 0xd || eqb b 0xa

abbrev pub space_first : List ℕ → Bool
space_first [] = false
space_first (b ∷ l) = space b

-- Each of these has what is left from a place on, and the place: where what stands first ends, or the fault.

-- the instruction ends at its `?>`; where there is none, the fault is at its `<`
abbrev pub ended : ℕ → Result ℕ Fault → Result ℕ Fault
ended at (Err f) = Err (fault 29 at)
ended at (Ok p) = Ok p

unfoldable pub instruction : List ℕ → ℕ → Result ℕ Fault
instruction l at = ended at (seek 29 (bytes "?>") (at + 2) (drop 2 l) (at + 2))

-- the inside of a comment that begins at a place, and where the comment ends
abbrev pub checked : List ℕ → ℕ → ℕ → Result ℕ Fault
checked i at end = let f = comment_fault i in if (ltb f (length i)) (Err (fault 29 (at + f))) (Ok end)

-- the comment ends at its `-->`; the first breach of its inside; where it has no end, the fault is at its `<`
abbrev pub commented : List ℕ → ℕ → Result ℕ Fault → Result ℕ Fault
commented l at (Err f) = Err (fault 29 at)
commented l at (Ok p) = checked (take (p - 3 - (at + 4)) (drop 4 l)) (at + 4) p

unfoldable pub comment : List ℕ → ℕ → Result ℕ Fault
comment l at = commented l at (seek 29 (bytes "-->") (at + 4) (drop 4 l) (at + 4))

unfoldable pub misc : List ℕ → ℕ → Result ℕ Fault
misc l at =
    let c = comment l at in
    let i = instruction l at in
    if (starts (bytes "<!--") l) c (if (starts (bytes "<?") l) i (if (space_first l) (Ok (suc at)) (Err (fault 29 at))))

abbrev pub further : Result ℕ Fault → (ℕ → ℕ) → ℕ
further (Err e) f = e.place
further (Ok p) f = f p

-- when so many bytes are taken already
abbrev pub after_from : ℕ → List ℕ → ℕ → ℕ
after_from k [] at = at
after_from zero (b ∷ l) at = further (misc (b ∷ l) at) (λ p. after_from (p - suc at) l (suc at))
after_from (suc k) (b ∷ l) at = after_from k l (suc at)

-- of what follows the root: the place of the first breach, or the length
unfoldable pub after_fault : List ℕ → ℕ → ℕ
after_fault l at = after_from 0 l at

-- a fault is at a place of the document; an answer that is no fault is a place further on, within the document
abbrev pub Past : List ℕ → ℕ → Result ℕ Fault → Type 0
Past s at (Err f) = f.place < length s
Past s at (Ok p) = (at < p) × (p ≤ length s)

-- where what stands at a place ends, by the first key from another place on, or the fault
pub record Closes (key s : List ℕ) (at from : ℕ) (r : Result ℕ Fault) : Type 0 where
  pub is : r ≡ ended at (seek 29 key from (drop from s) from)
  pub onward : Past s at r

pub record Tells (f : List ℕ → ℕ → Result ℕ Fault) (s : List ℕ) (at : ℕ) (r : Result ℕ Fault) : Type 0 where
  pub is : r ≡ f (drop at s) at
  pub onward : Past s at r
