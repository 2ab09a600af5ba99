-- An index of type definitions by a hash of their names: for each bucket a word for its first row, for each definition a word for the next
-- row of its bucket; and what the functions that make it and look names up in it say.
use Rattle.std.specs.Prelude.{ℕ, suc, ◌+◌, ◌*◌, ◌/◌, ◌%◌, ◌≤◌, ◌<◌, ◌≡◌, List, [], ◌∷◌, true, ◌&&◌, eqb, length, get_or, drop, Option as Maybe, None, Some}
use Rattle.std.proofs.Math.Option.{Option, none, some}
use Rattle.slices.specs.Bytes.{if}
use Rattle.slices.specs.Hash.{hash_of}
use Rattle.items.specs.Words.{rows_shown, shown_row}
use Rattle.items.specs.Content.{Row, present}
use Rattle.order.specs.Types.{defines}

-- the bucket of a name, by its hash, of m; and the first 13 bits of the hash
unfoldable pub bucket_of : ℕ → List ℕ → ℕ
bucket_of m s = hash_of s % m

unfoldable pub tag_of : List ℕ → ℕ
tag_of s = hash_of s / 524288

-- the first definition row of bucket h of m; of the rows from row i on
abbrev pub first_in : ℕ → ℕ → ℕ → List Row → Option ℕ
first_in m h i [] = none
first_in m h i (r ∷ rs) = let n = first_in m h (suc i) rs in if (defines r && eqb (bucket_of m (present r.name)) h) (some i) n

-- those of the name of row i
abbrev pub bucket_at : List ℕ → List ℕ → List ℕ → ℕ → ℕ → ℕ
bucket_at d x ws m i = bucket_of m (present (shown_row d x ws i).name)

abbrev pub tag_at : List ℕ → List ℕ → List ℕ → ℕ → ℕ
tag_at d x ws i = tag_of (present (shown_row d x ws i).name)

-- the word for a row: the row plus one, and above that the first bits of its name's hash; 0 for none
abbrev pub word_for : List ℕ → List ℕ → List ℕ → Option ℕ → ℕ
word_for d x ws none = 0
word_for d x ws (some i) = suc i + tag_at d x ws i * 524288

-- r is the hash of the name of row i
pub record HashAt (d x ws : List ℕ) (i r : ℕ) : Type 0 where
  pub is : r ≡ hash_of (present (shown_row d x ws i).name)

-- r is the bucket of hash f; the word for row k, whose name has hash f
pub record Spread (f m r : ℕ) : Type 0 where
  pub is : r ≡ f % m
  pub within : r < m

pub record WordIs (k f r : ℕ) : Type 0 where
  pub is : r ≡ suc k + f / 524288 * 524288

-- r is the row that word w stands for, or none; w has the first bits of the hash of row k's name
pub record RowOf (w : ℕ) (r : Maybe ℕ) : Type 0 where
  pub some : (k : ℕ) → r ≡ Some k → w % 524288 ≡ suc k
  pub none : r ≡ None → w % 524288 ≡ 0

pub record Tagged (d x ws : List ℕ) (k w : ℕ) : Type 0 where
  pub is : w / 524288 ≡ tag_at d x ws k

-- the words hs for the buckets and ls for the rows are an index of the rows from row k on
pub record IndexedFrom (d x ws : List ℕ) (n k : ℕ) (hs ls : List ℕ) : Type 0 where
  pub first : (h : ℕ) → h < length hs → get_or hs h 0 ≡ word_for d x ws (first_in (length hs) h k (drop k (rows_shown d x ws n)))
  pub next :
      (j : ℕ)
      → k ≤ j
      → j < n
      → defines (shown_row d x ws j) ≡ true
      → get_or ls j 0 ≡ word_for d x ws (first_in (length hs) (bucket_at d x ws (length hs) j) (suc j) (drop (suc j) (rows_shown d x ws n)))
  pub some : 0 < length hs
  pub held : n ≤ length ls
  pub few : n ≤ 262144

-- of all n rows
abbrev pub Indexed : List ℕ → List ℕ → List ℕ → ℕ → List ℕ → List ℕ → Type 0
Indexed d x ws n hs ls = IndexedFrom d x ws n 0 hs ls

-- they are made so, and no word past the rows is written
pub record Built (d x ws : List ℕ) (n k : ℕ) (hs ls hs' ls' : List ℕ) : Type 0 where
  pub indexed : IndexedFrom d x ws n k hs' ls'
  pub wide : length hs' ≡ length hs
  pub long : length ls' ≡ length ls
  pub rest : (j : ℕ) → n ≤ j → get_or ls' j 0 ≡ get_or ls j 0
