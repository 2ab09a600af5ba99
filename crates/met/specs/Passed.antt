-- The comments that are passed over on the way to the next tag: by the same recursion as what is ignorable.
use Rattle.std.specs.Prelude.{ℕ, zero, suc, ◌-◌, List, [], ◌∷◌, eqb, Result, Ok, Err}
use Rattle.faults.specs.declared.Fault.{Fault}
use Rattle.slices.specs.Bytes.{if, bytes, starts}
use Rattle.scan.specs.Ignorable.{markup}
use Rattle.scan.specs.declared.Markup.{Markup}
use Rattle.scan.specs.declared.Markup.TheVariants.{Tag, Ignored}

-- the place of a `<` before the places further on, where what follows the `<` says that a comment begins
abbrev pub here : List ℕ → ℕ → List ℕ → List ℕ
here l at cs = if (starts (bytes "!--") l) (at ∷ cs) cs

-- of what begins at a `<`: a tag ends what is ignorable; what does not close ends reading
abbrev pub beyond : Result Markup Fault → List ℕ → ℕ → (ℕ → List ℕ) → List ℕ
beyond (Ok Tag) l at f = []
beyond (Err x) l at f = []
beyond (Ok (Ignored p)) l at f = here l at (f p)

-- when so many bytes are taken already
abbrev pub passed_from : ℕ → List ℕ → ℕ → List ℕ
passed_from k [] at = []
passed_from zero (b ∷ l) at =
    let m = beyond (markup l at) l at (λ p. passed_from (p - suc at) l (suc at)) in
    let t = passed_from 0 l (suc at) in
    if (eqb b 60) m t
passed_from (suc k) (b ∷ l) at = passed_from k l (suc at)

-- of what is left from a place on: the places of the comments before the next tag
unfoldable pub passed_over : List ℕ → ℕ → List ℕ
passed_over l at = passed_from 0 l at
