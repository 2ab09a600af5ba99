-- What writing several items answers and leaves (docs/FORMAT.md, Answers), for the room lent.
use Rattle.std.specs.Prelude.{ℕ, ◌+◌, ◌-◌, ◌≡◌, List, [], ◌∷◌, ◌++◌, map, Bool, true, false, ◌||◌, ltb, length, replicate, Result}
use Rattle.std.proofs.Math.Option.{Option, none, some}
use Rattle.faults.specs.declared.Fault.{Fault}
use Rattle.slices.specs.Bytes.{if}
use Rattle.answers.specs.Text.{Text, text, wrong, Says}
use Rattle.items.specs.Sound.{soundness}
use Rattle.items.specs.Written.{Item, written, concat}
use Rattle.items.specs.Content.{content_at}
use Rattle.items.specs.Writing.{checked}

-- f i is the content of row i; the rows of the list are asked for

abbrev pub there : Option Item → Bool
there none = false
there (some c) = true

-- the first of them that has no content
abbrev pub first_missing : (ℕ → Option Item) → List ℕ → Option ℕ
first_missing f [] = none
first_missing f (i ∷ is) = let r = first_missing f is in if (there (f i)) r (some i)

-- the bytes of each
abbrev pub bytes_of : Option Item → List ℕ
bytes_of none = []
bytes_of (some c) = written c

abbrev pub texts_of : (ℕ → Option Item) → List ℕ → List (List ℕ)
texts_of f is = map (λ i. bytes_of (f i)) is

-- where each of the texts ends, if the first begins at n
abbrev pub ends_from : ℕ → List (List ℕ) → List ℕ
ends_from n [] = []
ends_from n (t ∷ ts) = (n + length t) ∷ ends_from (n + length t) ts

-- a count of bytes: 4,294,967,296 stands for every count that a word does not hold
abbrev pub capped : ℕ → ℕ
capped n = if (ltb 4294967295 n) 4294967296 n

-- 21 at the bytes needed, where they have no room or a word does not hold their count
abbrev pub fitted : ℕ → List ℕ → Text
fitted room t = if (ltb room (length t) || ltb 4294967295 (length t)) (wrong 21 (capped (length t))) (text t)

abbrev pub missed : Option ℕ → Text → Text
missed none r = r
missed (some i) r = wrong 20 i

-- 20 at the first row that has no content; 18 at how many are asked for, where there are fewer words for their ends; 21
abbrev pub items_written : (ℕ → Option Item) → List ℕ → ℕ → ℕ → Text
items_written f is room slots = missed (first_missing f is) (if (ltb slots (length is)) (wrong 18 (length is)) (fitted room (concat (texts_of f is))))

-- n rows are claimed: 2, 19, 20, 18, 21
unfoldable pub several_writing : List ℕ → List ℕ → List ℕ → ℕ → List ℕ → ℕ → ℕ → Text
several_writing document x ws n is room slots =
    let r = checked (soundness document x ws n) (items_written (content_at document x ws n) is room slots) in
    if (ltb 1048576 (length document) || ltb 1048576 (length x)) (wrong 2 1048576) r

-- the words for the ends: each end and zeros, or zeros alone
abbrev pub ends_left : ℕ → List ℕ → Text → List ℕ
ends_left slots es (text t) = es ++ replicate (slots - length es) 0
ends_left slots es (wrong n p) = replicate slots 0

unfoldable pub several_ends : List ℕ → List ℕ → List ℕ → ℕ → List ℕ → ℕ → ℕ → List ℕ
several_ends document x ws n is room slots =
    ends_left slots (ends_from 0 (texts_of (content_at document x ws n) is)) (several_writing document x ws n is room slots)

-- what writing several rows answers, and what it leaves in the bytes and the words lent
pub record WritesSeveral (document x ws : List ℕ) (n : ℕ) (is : List ℕ) (room slots : ℕ) (out ends : List ℕ) (r : Result ℕ Fault) : Type 0 where
  pub says : Says (several_writing document x ws n is room slots) room out r
  pub of_ends : ends ≡ several_ends document x ws n is room slots
