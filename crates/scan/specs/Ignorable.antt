-- What is ignorable between tags: text, comments, CDATA sections, processing instructions, declarations.
-- Each function has what is left of the document and the place where that begins.
use Rattle.std.specs.Prelude.{ℕ, zero, suc, pred, ◌+◌, ◌-◌, ◌≤◌, ◌<◌, ◌≡◌, List, [], ◌∷◌, Bool, false, ◌&&◌, ◌||◌, eqb, length, drop, Result, Ok, Err}
use Rattle.slices.specs.Bytes.{if, bytes, starts}
use Rattle.faults.specs.Fault.{fault}
use Rattle.faults.specs.declared.Fault.{Fault}
use Rattle.scan.specs.declared.Markup.{Markup}
use Rattle.scan.specs.declared.Markup.TheVariants.{Tag, Ignored}

-- past the first place of a key, or the fault n at c
abbrev pub seek : ℕ → List ℕ → ℕ → List ℕ → ℕ → Result ℕ Fault
seek n key c [] p = Err (fault n c)
seek n key c (b ∷ l) p = let r = seek n key c l (suc p) in if (starts key (b ∷ l)) (Ok (p + length key)) r

-- `"` and `'`
abbrev pub quote : ℕ → Bool
quote b = eqb b 34 || eqb b 39

-- in a declaration: so many brackets are open; the same in a quote q, whose inside begins at a place
pub data Mode : Type 0 where
  bare : ℕ → Mode
  quoted : ℕ → ℕ → ℕ → Mode

-- after a byte: a quote opens; `[` and `]` are counted, a `]` with none open does nothing; only the same quote closes
abbrev pub changed : Mode → ℕ → ℕ → Mode
changed (bare d) b p =
    if (quote b) (quoted d b (suc p)) (if (eqb b 91) (bare (suc d)) (if (eqb b 93) (bare (pred d)) (bare d)))
changed (quoted d q c) b p = if (eqb b q) (bare d) (quoted d q c)

-- `>` outside of quotes and brackets
abbrev pub ends : Mode → ℕ → Bool
ends (bare d) b = eqb d 0 && eqb b 62
ends (quoted d q c) b = false

-- past the unclosed quote, else the length
abbrev pub unended : Mode → ℕ → Result ℕ Fault
unended (bare d) p = Err (fault 25 p)
unended (quoted d q c) p = Err (fault 25 c)

abbrev pub declaration_in : Mode → List ℕ → ℕ → Result ℕ Fault
declaration_in m [] p = unended m p
declaration_in m (b ∷ l) p = let r = declaration_in (changed m b p) l (suc p) in if (ends m b) (Ok (suc p)) r

-- after `<!`, for the place of `<`: comment first, then CDATA section, then declaration
abbrev pub declared : List ℕ → ℕ → Result ℕ Fault
declared l at =
    let c = seek 22 (bytes "-->") (at + 4) (drop 2 l) (at + 4) in
    let d = seek 23 (bytes "]]>") (at + 9) (drop 7 l) (at + 9) in
    let o = declaration_in (bare 0) l (at + 2) in
    if (starts (bytes "--") l) c (if (starts (bytes "[CDATA[") l) d o)

-- where what is ignored ends, as what begins there
abbrev pub ignored : Result ℕ Fault → Result Markup Fault
ignored (Ok p) = Ok (Ignored p)
ignored (Err f) = Err f

-- what begins at a `<`, from what follows it and its place: a tag, or what is ignored
abbrev pub markup : List ℕ → ℕ → Result Markup Fault
markup [] at = Ok Tag
markup (b ∷ l) at =
    let d = ignored (declared l at) in
    let i = ignored (seek 24 (bytes "?>") (at + 2) l (at + 2)) in
    if (eqb b 33) d (if (eqb b 63) i (Ok Tag))

abbrev pub further : Result Markup Fault → ℕ → (ℕ → Result ℕ Fault) → Result ℕ Fault
further (Ok Tag) at f = Ok at
further (Ok (Ignored p)) at f = f p
further (Err x) at f = Err x

-- when so many bytes are taken already
abbrev pub ignorable_from : ℕ → List ℕ → ℕ → Result ℕ Fault
ignorable_from k [] at = Ok at
ignorable_from zero (b ∷ l) at =
    let m = further (markup l at) at (λ p. ignorable_from (p - suc at) l (suc at)) in
    let t = ignorable_from 0 l (suc at) in
    if (eqb b 60) m t
ignorable_from (suc k) (b ∷ l) at = ignorable_from k l (suc at)

-- the place of the next tag's `<`, or the length; or a fault
unfoldable pub ignorable : List ℕ → ℕ → Result ℕ Fault
ignorable l at = ignorable_from 0 l at

-- an answer that is no fault is a place further on, within the document
abbrev pub Onward : List ℕ → ℕ → Result ℕ Fault → Type 0
Onward doc from (Err f) = Unit {0}
Onward doc from (Ok p) = (from ≤ p) × (p ≤ length doc)

-- what a scan from a place says: it is what the definition has there
pub record Scans (f : List ℕ → ℕ → Result ℕ Fault) (doc : List ℕ) (from : ℕ) (r : Result ℕ Fault) : Type 0 where
  pub is : r ≡ f (drop from doc) from
  pub onward : Onward doc from r

abbrev pub OnwardPast : List ℕ → ℕ → Result Markup Fault → Type 0
OnwardPast doc from (Err f) = Unit {0}
OnwardPast doc from (Ok Tag) = Unit {0}
OnwardPast doc from (Ok (Ignored p)) = (from < p) × (p ≤ length doc)

-- what looking past a `<!` says, by a definition on what follows it
pub record Ignores (f : List ℕ → ℕ → Result ℕ Fault) (doc : List ℕ) (at : ℕ) (r : Result ℕ Fault) : Type 0 where
  pub is : r ≡ f (drop (at + 2) doc) at
  pub onward : OnwardPast doc at (ignored r)

-- what looking at a `<` says
pub record Marks (doc : List ℕ) (at : ℕ) (r : Result Markup Fault) : Type 0 where
  pub is : r ≡ markup (drop (suc at) doc) at
  pub onward : OnwardPast doc at r
