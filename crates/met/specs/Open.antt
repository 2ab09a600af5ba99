-- How many elements are open, in the states that reading a document which is accepted comes to.
use Rattle.std.specs.Prelude.{ℕ, ◌+◌, ◌≤◌, ◌≡◌, List, [], ◌∷◌, length}
use Rattle.document.specs.Tags.{Shown}
use Rattle.document.specs.Reading.{Frame, element, definition, passing, State, begun, reading, accepted, refused}

-- how many elements a frame has open; one at least
abbrev pub opens_in : Frame → ℕ
opens_in (element k n r) = 1
opens_in (definition d) = 1
opens_in (passing p ns) = length ns

-- n elements are open in these frames
abbrev pub Open : ℕ → List Frame → Type 0
Open n [] = n ≡ 0
Open n (f ∷ fs) = (m : ℕ) × (1 ≤ opens_in f) × (n ≡ opens_in f + m) × Open m fs

-- n elements are open after a token that was not refused
abbrev pub Counted : ℕ → State Shown → Type 0
Counted n begun = ⊥
Counted n (reading [] u) = ⊥
Counted n (reading (f ∷ fs) u) = Open n (f ∷ fs)
Counted n (accepted u) = n ≡ 0
Counted n (refused x) = Unit {0}

-- or before the first
abbrev pub Stands : ℕ → State Shown → Type 0
Stands n begun = n ≡ 0
Stands n (reading fs u) = Counted n (reading fs u)
Stands n (accepted u) = ⊥
Stands n (refused x) = ⊥
