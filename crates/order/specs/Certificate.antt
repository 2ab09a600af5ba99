-- What the functions say that check a candidate for the order: numbers that fall along uses, a circle by edges, an order by places.
use Rattle.std.specs.Prelude.{ℕ, ◌+◌, ◌-◌, ◌/◌, ◌%◌, ◌≤◌, ◌<◌, ◌≡◌, List, Bool, true, eqb, length, get_or, Option, Some}
use Rattle.slices.specs.Bytes.{if}
use Rattle.tables.specs.Table.{Rep}
use Rattle.document.specs.Elements.{among}
use Rattle.items.specs.Words.{rows_shown, shown_row}
use Rattle.items.specs.Content.{Row}
use Rattle.order.specs.Relation.{order, Chain, FirstOnCircle}
use Rattle.order.specs.Types.{definitions, member_in, uses, is_undefined, undefined}
use Rattle.order.specs.Lookup.{referred_by}

-- ---- words

-- word k, or 0 past the end; the words before place k are kept
pub record Got (ws : List ℕ) (k r : ℕ) : Type 0 where
  pub is : r ≡ get_or ws k 0
  pub most : r ≤ 4294967295

pub record Kept (k : ℕ) (before after : List ℕ) : Type 0 where
  pub long : length after ≡ length before
  pub below : (j : ℕ) → j < k → get_or after j 0 ≡ get_or before j 0

-- r is the row that row m is in, one of n rows; or none
pub record IsParent (d x ws : List ℕ) (n m : ℕ) (r : Option ℕ) : Type 0 where
  pub is : (i : ℕ) → r ≡ Some i → (shown_row d x ws m).parent ≡ i + 1
  pub within : (i : ℕ) → r ≡ Some i → i < n

-- the member of an edge, and whether the edge is of what stands before `[]`
abbrev pub member_of : ℕ → ℕ
member_of e = (e - 1) / 2

pub record MemberOf (e r : ℕ) : Type 0 where
  pub is : r ≡ member_of e
  pub most : r ≤ e

pub record LessOf (e : ℕ) (r : Bool) : Type 0 where
  pub is : r ≡ eqb (e % 2) 0

-- ---- numbers

abbrev pub number : ℕ → List ℕ → ℕ → ℕ
number n work r = get_or work (n + r) 0

-- the number of row j is smaller than that of row i, or equal where i is p or greater
pub record Falls (n : ℕ) (work : List ℕ) (p i j : ℕ) : Type 0 where
  pub most : number n work j ≤ number n work i
  pub less : i < p → number n work j < number n work i

-- where the run of smaller rows before row r begins, as it is noted
unfoldable pub run_of : ℕ → List ℕ → ℕ → ℕ
run_of n work r = let e = get_or work (n + n + r) 0 in let k = get_or work (n + member_of e) 0 in if (eqb e 0) 0 k

pub record RunIs (n : ℕ) (work : List ℕ) (r s : ℕ) : Type 0 where
  pub is : s ≡ run_of n work r
  pub most : s ≤ 4294967295

-- edge e of row i leads to row j, or to none; if it is the one noted, and p is n, row j is given out just before row i's run or later
pub record EdgeFalls (n : ℕ) (work : List ℕ) (p i e : ℕ) (j : Option ℕ) (b : Bool) : Type 0 where
  pub falls : b ≡ true → (k : ℕ) → j ≡ Some k → Falls n work p i k
  pub noted : b ≡ true → n ≤ p → get_or work (n + n + i) 0 ≡ e → (k : ℕ) × (j ≡ Some k) × (run_of n work i ≤ number n work k + 1)

-- where all that row i uses has numbers below k, its run begins no later than there
abbrev pub Late : List Row → ℕ → List ℕ → ℕ → Type 0
Late t n work i = (k : ℕ) → ((j : ℕ) → uses t i j ≡ true → number n work j < k) → run_of n work i ≤ k

-- of both edges of row m, if it is a member; r is whether it is one whose tp type no row defines, or none if the edges are not so
pub record RowFalls (d x ws : List ℕ) (n : ℕ) (work : List ℕ) (p m : ℕ) (r : Option Bool) : Type 0 where
  pub falls :
      (b : Bool) →
      r ≡ Some b →
      (i j : ℕ) →
      member_in i (shown_row d x ws m) ≡ true →
      among j (referred_by (rows_shown d x ws n) (shown_row d x ws m).tp) ≡ true →
      Falls n work p i j
  pub noted :
      (b : Bool) →
      r ≡ Some b →
      n ≤ p →
      (i : ℕ) →
      member_in i (shown_row d x ws m) ≡ true →
      0 < get_or work (n + n + i) 0 →
      member_of (get_or work (n + n + i) 0) ≡ m →
      Late (rows_shown d x ws n) n work i
  pub unnamed : (b : Bool) → r ≡ Some b → b ≡ is_undefined (rows_shown d x ws n) (shown_row d x ws m)

-- of all members; r is the number of those whose tp type no row defines, or none if their edges are not so
pub record Members (d x ws : List ℕ) (n : ℕ) (work : List ℕ) (p : ℕ) (r : Option ℕ) : Type 0 where
  pub falls : (u : ℕ) → r ≡ Some u → (i j : ℕ) → uses (rows_shown d x ws n) i j ≡ true → Falls n work p i j
  pub noted :
      (u : ℕ) →
      r ≡ Some u →
      n ≤ p →
      (i : ℕ) →
      member_of (get_or work (n + n + i) 0) < n →
      member_in i (shown_row d x ws (member_of (get_or work (n + n + i) 0))) ≡ true →
      0 < get_or work (n + n + i) 0 →
      Late (rows_shown d x ws n) n work i
  pub count : (u : ℕ) → r ≡ Some u → u ≡ undefined (rows_shown d x ws n)

-- ---- a circle

-- row r uses row j, one of n rows; or there is none
pub record Follows (t : List Row) (n r : ℕ) (j : Option ℕ) : Type 0 where
  pub is : (k : ℕ) → j ≡ Some k → uses t r k ≡ true
  pub within : (k : ℕ) → j ≡ Some k → k < n

pub record IsCircle (t : List Row) (p : ℕ) (b : Bool) : Type 0 where
  pub is : b ≡ true → Chain (uses t) p p

-- row p is the first on a circle
pub record IsFirst (t : List Row) (p : ℕ) (b : Bool) : Type 0 where
  pub is : b ≡ true → FirstOnCircle (uses t) p

-- ---- an order

-- the rows of a run are smaller than the row at its end: for each place before k
pub record Runs (n : ℕ) (work out : List ℕ) (k : ℕ) : Type 0 where
  pub is : (i : ℕ) → i < k → (j : ℕ) → run_of n work (get_or out i 0) ≤ j → j < i → get_or out j 0 < get_or out i 0

-- from place s on to place k the rows are smaller than row r, if those of the runs before place k are
pub record RunBefore (n : ℕ) (work out : List ℕ) (k r s : ℕ) : Type 0 where
  pub is : Runs n work out k → (j : ℕ) → s ≤ j → j < k → get_or out j 0 < r

pub record Above (out : List ℕ) (k r from : ℕ) (b : Bool) : Type 0 where
  pub is : b ≡ true → (j : ℕ) → from ≤ j → j < k → get_or out j 0 < r

-- the edge that is noted for row r is one of its own, if its run does not begin at the first place
pub record IsNoted (d x ws : List ℕ) (n : ℕ) (work : List ℕ) (r from : ℕ) (b : Bool) : Type 0 where
  pub within : b ≡ true → 0 < from → member_of (get_or work (n + n + r) 0) < n
  pub member : b ≡ true → 0 < from → member_in r (shown_row d x ws (member_of (get_or work (n + n + r) 0))) ≡ true

-- the row at place k is a definition with that number; the run before it is of smaller rows; and its edge is noted
pub record Placed (d x ws : List ℕ) (n : ℕ) (work out : List ℕ) (k : ℕ) : Type 0 where
  pub definition : among (get_or out k 0) (definitions (rows_shown d x ws n)) ≡ true
  pub numbered : number n work (get_or out k 0) ≡ k
  pub run : (j : ℕ) → run_of n work (get_or out k 0) ≤ j → j < k → get_or out j 0 < get_or out k 0
  pub noted : IsNoted d x ws n work (get_or out k 0) (run_of n work (get_or out k 0)) true

pub record IsNext (d x ws : List ℕ) (n : ℕ) (work out : List ℕ) (k : ℕ) (b : Bool) : Type 0 where
  pub is : b ≡ true → Placed d x ws n work out k

pub record PlacedBefore (d x ws : List ℕ) (n : ℕ) (work out : List ℕ) (k : ℕ) : Type 0 where
  pub is : (i : ℕ) → i < k → Placed d x ws n work out i

pub record IsAscending (d x ws : List ℕ) (n : ℕ) (work out : List ℕ) (b : Bool) : Type 0 where
  pub is : b ≡ true → PlacedBefore d x ws n work out (length out)

-- row r stands at the place of its number
pub record Stands (n : ℕ) (work out : List ℕ) (r : ℕ) : Type 0 where
  pub below : number n work r < length out
  pub is : get_or out (number n work r) 0 ≡ r

pub record IsPlaced (t : List Row) (n : ℕ) (work out : List ℕ) (r : ℕ) (b : Bool) : Type 0 where
  pub is : b ≡ true → among r (definitions t) ≡ true → Stands n work out r

pub record ArePlaced (t : List Row) (n : ℕ) (work out : List ℕ) (b : Bool) : Type 0 where
  pub is : b ≡ true → (r : ℕ) → among r (definitions t) ≡ true → Stands n work out r

pub record IsOrder (d x ws : List ℕ) (n : ℕ) (work out : List ℕ) (b : Bool) : Type 0 where
  pub before : b ≡ true → PlacedBefore d x ws n work out (length out)
  pub stands : b ≡ true → (r : ℕ) → among r (definitions (rows_shown d x ws n)) ≡ true → Stands n work out r

-- no row is on a circle, with room for them the first words are the order, and u members have a tp type that no row defines
pub record Certain (t : List Row) (out : List ℕ) (count u : ℕ) : Type 0 where
  pub free : (i : ℕ) → Chain (uses t) i i → ⊥
  pub order : count ≤ length out → Rep 1 out count (order (uses t) (definitions t))
  pub undefined : u ≡ undefined t

-- u is that number, if this is certain
pub record IsCertain (t : List Row) (out : List ℕ) (count : ℕ) (r : Option ℕ) : Type 0 where
  pub is : (u : ℕ) → r ≡ Some u → Certain t out count u
