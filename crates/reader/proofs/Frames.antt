-- The frames of the open nodes.
use Prim.Native.Nat.{ℕ, zero, suc, ◌+◌, ◌-◌, ◌<◌}
use mathlib.Core.Path.{◌≡◌, refl, ap}
use mathlib.Core.List.{List, ◌∷◌}
use borrow.Author.Tests.{ne_eqb}
use native.Mathlib.Numerals.{add-one, sub-one}
use native.Mathlib.Omega.{arith}
use lib.Dec.{eqb}
use lib.ListN.{length, get_or, set}
use lib.Seq.{get_or-set_same, get_or-set_other}
use Rattle.slices.specs.Bytes.{if}
use Rattle.document.specs.Kinds as kinds
use Rattle.document.specs.Tags.{Shown}
use Rattle.document.specs.Rows.{Tables}
use Rattle.document.specs.Reading.{Name, element, reading, closed, parent_of}
use Rattle.document.specs.Outcome.{name_at}
use Rattle.reader.specs.Nodes.{frames_of, no_level}
use Rattle.reader.specs.declared.Level.{Level}

pub frames_length : (doc : List ℕ) (root : Name) (opened : List Level) (d : ℕ) → length (frames_of doc root opened d) ≡ d
frames_length doc root opened zero = refl
frames_length doc root opened (suc zero) = refl
frames_length doc root opened (suc (suc d)) = ap suc (frames_length doc root opened (suc d))

pub frames_parent : (doc : List ℕ) (root : Name) (opened : List Level) (d : ℕ) → 0 < d → parent_of (frames_of doc root opened d) ≡ suc (get_or opened (d - 1) no_level).row
frames_parent doc root opened zero h = absurd (omega arith)
frames_parent doc root opened (suc zero) h = refl
frames_parent doc root opened (suc (suc d)) h = rw sub-one

-- the innermost node is open, so nothing is accepted yet
pub frames_closed : (doc : List ℕ) (root : Name) (opened : List Level) (d : ℕ) (u : Tables Shown) → 0 < d → closed (frames_of doc root opened d) u ≡ reading (frames_of doc root opened d) u
frames_closed doc root opened zero u h = absurd (omega arith)
frames_closed doc root opened (suc zero) u h = refl
frames_closed doc root opened (suc (suc d)) u h = refl

-- a level that is no open node's
frames_set : (doc : List ℕ) (root : Name) (opened : List Level) (i n : ℕ) (x : Level) → ((j : ℕ) → j < n → j ≡ i → ⊥) → frames_of doc root (set opened i x) n ≡ frames_of doc root opened n
frames_set doc root opened i zero x h = refl
frames_set doc root opened i (suc zero) x h = rw (get_or-set_other opened i 0 x no_level (h 0 (omega arith)))
frames_set doc root opened i (suc (suc n)) x h =
    rw (get_or-set_other opened i (suc n) x no_level (h (suc n) (omega arith)), frames_set doc root opened i (suc n) x (λ j l. h j (omega arith)))

-- one more node is open
pub frames_push : (doc : List ℕ) (root : Name) (opened : List Level) (d : ℕ) (x : Level) → 0 < d → d < length opened → frames_of doc root (set opened d x) (d + 1) ≡ element kinds.node (name_at doc x.name 4) x.row ∷ frames_of doc root opened d
frames_push doc root opened zero x h l = absurd (omega arith)
frames_push doc root opened (suc d) x h l =
    rw (add-one, get_or-set_same opened (suc d) x no_level l, frames_set doc root opened (suc d) (suc d) x (λ j b e. omega arith))

-- the innermost node and those around it
pub frames_top : (doc : List ℕ) (root : Name) (opened : List Level) (d : ℕ) → 0 < d → frames_of doc root opened d ≡ element kinds.node (if (eqb d 1) root (name_at doc (get_or opened (d - 1) no_level).name 4)) (get_or opened (d - 1) no_level).row ∷ frames_of doc root opened (d - 1)
frames_top doc root opened zero h = absurd (omega arith)
frames_top doc root opened (suc zero) h = refl
frames_top doc root opened (suc (suc d)) h = rw (ne_eqb (suc (suc d)) 1 (λ e. omega arith), sub-one)
