-- Kinds that may stand in an element: they are 1 to 13, and the parts of definitions stand in definitions.
use Prim.Native.Nat.{ℕ}
use mathlib.Core.Path.{◌≡◌, refl}
use mathlib.Core.List.{List, [], ◌∷◌}
use mathlib.Core.Bool.{Bool, true}
use Rattle.slices.specs.Bytes.{if, all}
use Rattle.slices.proofs.Runs.{by_byte}
use Rattle.document.specs.Kinds as kinds
use Rattle.document.specs.Kinds.{definitions, parts}
use Rattle.document.specs.Elements.{among, held_by, may_hold}
use Rattle.document.proofs.Tests.{among_all}

-- the kinds of rows
abbrev pub every_kind : List ℕ
every_kind =
    kinds.node ∷ kinds.interface ∷ kinds.method ∷ kinds.property ∷ kinds.signal ∷ kinds.annotation ∷ kinds.arg ∷ kinds.simple_type ∷ kinds.enum
    ∷ kinds.enumvalue ∷ kinds.struct ∷ kinds.member ∷ kinds.mapping ∷ []

-- what holds of all that the elements may hold that hold any
module _ (q : ℕ → ℕ → Bool) where
  abbrev All : ℕ → Type 0
  All p = all (q p) (held_by p) ≡ true

  held_all : All kinds.node → All kinds.interface → All kinds.method → All kinds.property → All kinds.signal → All kinds.arg → All kinds.enum → All kinds.struct → All kinds.mapping → (p c : ℕ) → may_hold p c ≡ true → q p c ≡ true
  unfolding may_hold
  held_all h i j k l m n o x p c e = among_all (q p) c (held_by p) every e
    where
      every : All p
      every =
          by_byte All p kinds.node h
          (λ a. by_byte All p kinds.interface i
          (λ b. by_byte All p kinds.method j
          (λ c. by_byte All p kinds.property k
          (λ d. by_byte All p kinds.signal l
          (λ e. by_byte All p kinds.arg m
          (λ f. by_byte All p kinds.enum n
          (λ g. by_byte All p kinds.struct o (λ h. by_byte All p kinds.mapping x (λ i. rw (a, b, c, d, e, f, g, h, i))))))))))

pub held_kind : (p c : ℕ) → may_hold p c ≡ true → among c every_kind ≡ true
held_kind = held_all (λ p c. among c every_kind) refl refl refl refl refl refl refl refl refl

pub part_parent : (p c : ℕ) → may_hold p c ≡ true → among c parts ≡ true → among p definitions ≡ true
part_parent p c e f = rw f at (held_all (λ p c. if (among c parts) (among p definitions) true) refl refl refl refl refl refl refl refl refl p c e)
