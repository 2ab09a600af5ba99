-- What the functions that look names up and give rows out say.
use Rattle.std.specs.Prelude.{ℕ, ◌+◌, ◌*◌, ◌-◌, ◌≤◌, ◌<◌, ◌≡◌, List, [], ◌∷◌, Bool, true, false, not, ◌&&◌, length, get_or, set, Result, Option as Maybe, Some, None}
use Rattle.std.proofs.Math.Option.{Option, none, some}
use Rattle.slices.specs.Bytes.{if, same}
use Rattle.tables.specs.Table.{Rep}
use Rattle.document.specs.Elements.{among}
use Rattle.items.specs.Words.{rows_shown, shown_row}
use Rattle.items.specs.Content.{Row, present}
use Rattle.order.specs.Relation.{order, ready, Chain, FirstOnCircle}
use Rattle.order.specs.Types.{defines, definitions, first_named, member_in, uses, typed, defined, is_undefined, undefined}
use Rattle.order.specs.Lookup.{of_array, element, referred_by, targets}
use Rattle.order.specs.Ordering.{types_ordered, ordering, ordered, wrong, Says}
use Rattle.faults.specs.declared.Fault.{Fault}
use Rattle.order.specs.declared.Ordered.{Ordered}
use Rattle.order.specs.declared.chains.Mark.{Mark}
use Rattle.order.specs.declared.chains.Mark.TheVariants.{Unreached, Reached, Followed}

-- n rows are held
pub record Held (ws : List ℕ) (n : ℕ) : Type 0 where
  pub few : n ≤ 262144
  pub held : n * 16 ≤ length ws

-- whether row i is a definition; whether it is one of a name; whether it is a member; whether it is one of the definition in row p
pub record Defines (d x ws : List ℕ) (i : ℕ) (r : Bool) : Type 0 where
  pub is : r ≡ defines (shown_row d x ws i)

pub record HasName (d x ws : List ℕ) (i : ℕ) (s : List ℕ) (r : Bool) : Type 0 where
  pub is : r ≡ defines (shown_row d x ws i) && same s (present (shown_row d x ws i).name)

pub record MemberIn (d x ws : List ℕ) (p i : ℕ) (r : Bool) : Type 0 where
  pub is : r ≡ member_in p (shown_row d x ws i)

-- a row, if there is one, is one of n rows
pub record Within (r : Maybe ℕ) (n : ℕ) : Type 0 where
  pub is : (i : ℕ) → r ≡ Some i → i < n

-- a row found, as code answers it
abbrev pub found : Option ℕ → Maybe ℕ
found none = None
found (some i) = Some i

-- r is the row found, which is one of n rows, or none
pub record Finds (o : Option ℕ) (n : ℕ) (r : Maybe ℕ) : Type 0 where
  pub is : r ≡ found o
  pub within : Within r n

-- the row that a tp type names as it is, or less the `[]` at its end
abbrev pub inner : List Row → List ℕ → Option ℕ
inner t s = if (of_array s) (first_named (element s) 0 t) none

abbrev pub named : List Row → Bool → List ℕ → Option ℕ
named t less s = if less (inner t s) (first_named s 0 t)

unfoldable pub target : List Row → Bool → Option (List ℕ) → Option ℕ
target t less none = none
target t less (some s) = named t less s

-- where the last two bytes begin
pub record LastTwo (s : List ℕ) (r : ℕ) : Type 0 where
  pub is : r ≡ length s - 2
  pub within : r ≤ length s

-- whether they are `[]`, and what stands before them
pub record IsArray (s : List ℕ) (r : Bool) : Type 0 where
  pub is : r ≡ of_array s

pub record ElementIs (s r : List ℕ) : Type 0 where
  pub is : r ≡ element s

-- s is what stands before the `[]` at the end of a type; it does not end so
pub record Before (tp s : List ℕ) : Type 0 where
  pub array : of_array tp ≡ true
  pub is : s ≡ element tp

pub record NoArray (tp : List ℕ) : Type 0 where
  pub is : of_array tp ≡ false

-- what the tp type of row m names, as it is or less the `[]` at its end, is the first row of name s; it names none: in any table
pub record IsSought (d x ws : List ℕ) (less : Bool) (m : ℕ) (s : List ℕ) : Type 0 where
  pub is : (t : List Row) → target t less (shown_row d x ws m).tp ≡ first_named s 0 t

pub record NoneSought (d x ws : List ℕ) (less : Bool) (m : ℕ) : Type 0 where
  pub is : (t : List Row) → target t less (shown_row d x ws m).tp ≡ none

-- what looking it up among n rows finds: a name; the tp type of row m
pub record FirstNamed (t : List Row) (s : List ℕ) (n : ℕ) (r : Maybe ℕ) : Type 0 where
  pub finds : Finds (first_named s 0 t) n r

pub record Target (d x ws : List ℕ) (n : ℕ) (less : Bool) (m : ℕ) (r : Maybe ℕ) : Type 0 where
  pub finds : Finds (target (rows_shown d x ws n) less (shown_row d x ws m).tp) n r

-- ---- the rows left

-- those not given out
abbrev pub keep : (ℕ → Bool) → List ℕ → List ℕ
keep p [] = []
keep p (i ∷ l) = let r = keep p l in if (p i) (i ∷ r) r

abbrev pub unmarked : List Bool → ℕ → Bool
unmarked marks k = not (get_or marks k false)

unfoldable pub left_in : List Row → List Bool → List ℕ
left_in t marks = keep (unmarked marks) (definitions t)

-- some of the rows js are left
abbrev pub any_among : List ℕ → List ℕ → Bool
any_among [] left = false
any_among (j ∷ js) left = let r = any_among js left in if (among j left) true r

-- whether row i, if there is one, is left; whether member m, row k as a member of row i, or row i waits for a row left
pub record IsLeft (marks : List Bool) (i : Maybe ℕ) (r : Bool) : Type 0 where
  pub some : (k : ℕ) → i ≡ Some k → r ≡ unmarked marks k
  pub none : i ≡ None → r ≡ false

pub record MemberWaits (d x ws : List ℕ) (n : ℕ) (marks : List Bool) (m : ℕ) (r : Bool) : Type 0 where
  pub is : r ≡ any_among (referred_by (rows_shown d x ws n) (shown_row d x ws m).tp) (left_in (rows_shown d x ws n) marks)

pub record WaitsIn (d x ws : List ℕ) (n : ℕ) (marks : List Bool) (i k : ℕ) (r : Bool) : Type 0 where
  pub is : r ≡ if (member_in i (shown_row d x ws k)) (any_among (referred_by (rows_shown d x ws n) (shown_row d x ws k).tp) (left_in (rows_shown d x ws n) marks)) false

pub record Waits (d x ws : List ℕ) (n : ℕ) (marks : List Bool) (i : ℕ) (r : Bool) : Type 0 where
  pub is : r ≡ any_among (targets (rows_shown d x ws n) i) (left_in (rows_shown d x ws n) marks)

-- whether row i is left and ready
pub record IsReady (d x ws : List ℕ) (n : ℕ) (marks : List Bool) (i : ℕ) (r : Bool) : Type 0 where
  pub is :
      r
      ≡ if (among i (left_in (rows_shown d x ws n) marks)) (ready (uses (rows_shown d x ws n)) (left_in (rows_shown d x ws n) marks) i) false

-- row i is of the list and of the sort p, and no row of the list before it is
pub record First (p : ℕ → Bool) (l : List ℕ) (i : ℕ) : Type 0 where
  pub listed : among i l ≡ true
  pub holds : p i ≡ true
  pub least : (k : ℕ) → among k l ≡ true → p k ≡ true → i ≤ k

-- r is the first of the rows left that is ready; or none is
pub record NextReady (t : List Row) (n : ℕ) (marks : List Bool) (r : Maybe ℕ) : Type 0 where
  pub some : (i : ℕ) → r ≡ Some i → First (ready (uses t) (left_in t marks)) (left_in t marks) i
  pub within : (i : ℕ) → r ≡ Some i → i < n
  pub none : r ≡ None → (k : ℕ) → among k (left_in t marks) ≡ true → ready (uses t) (left_in t marks) k ≡ false

-- no row is marked as given out
pub record Blank (marks : List Bool) : Type 0 where
  pub none : (k : ℕ) → get_or marks k false ≡ false

-- row i is marked as given out
pub record Marks (i : ℕ) (before after : List Bool) : Type 0 where
  pub is : after ≡ set before i true

-- all rows were given out that come to be ready: c of them, of which those that have room stand in the words lent; marks are theirs
pub record GivenOut (t : List Row) (marks : List Bool) (out : List ℕ) (c : ℕ) : Type 0 where
  pub stands : Rep 1 out c (order (uses t) (definitions t))
  pub marked : (k : ℕ) → get_or marks k false ≡ true → among k (order (uses t) (definitions t)) ≡ true

-- ---- counts

-- one more if b says so
pub record Adds (c : ℕ) (b : Bool) (r : ℕ) : Type 0 where
  pub is : r ≡ c + if b 1 0

-- whether row m has a tp type that no row defines; whether it also is a member
pub record BearsNone (d x ws : List ℕ) (n m : ℕ) (r : Bool) : Type 0 where
  pub is : r ≡ typed (λ tp. not (defined (rows_shown d x ws n) tp)) (shown_row d x ws m).tp

pub record IsUndefined (d x ws : List ℕ) (n m : ℕ) (r : Bool) : Type 0 where
  pub is : r ≡ is_undefined (rows_shown d x ws n) (shown_row d x ws m)

pub record CountsUndefined (t : List Row) (r : ℕ) : Type 0 where
  pub is : r ≡ undefined t

pub record CountsDefinitions (t : List Row) (r : ℕ) : Type 0 where
  pub is : r ≡ length (definitions t)

-- ---- circles

-- no row is reached
pub record Unmarked (marks : List Mark) : Type 0 where
  pub none : (k : ℕ) → get_or marks k Unreached ≡ Unreached

-- the mark of a row that is reached, if not before
abbrev pub reached : Mark → Mark
reached Unreached = Reached
reached Reached = Reached
reached Followed = Followed

-- how much is left to do: of a row; of all
abbrev pub steps_of : Mark → ℕ
steps_of Unreached = 2
steps_of Reached = 1
steps_of Followed = 0

abbrev pub todo : List Mark → ℕ
todo [] = 0
todo (m ∷ ms) = steps_of m + todo ms

-- the rows js are reached
pub record Marked (js : List ℕ) (before after : List Mark) : Type 0 where
  pub is : (k : ℕ) → get_or after k Unreached ≡ if (among k js) (reached (get_or before k Unreached)) (get_or before k Unreached)
  pub less : todo after ≤ todo before

-- row j, if there is one, is reached; the rows that member m refers to are; those that it refers to as a member of row i; those
-- that row i uses
pub record RowReached (j : Maybe ℕ) (before after : List Mark) : Type 0 where
  pub some : (k : ℕ) → j ≡ Some k → Marked (k ∷ []) before after
  pub none : j ≡ None → Marked [] before after

pub record MemberReached (d x ws : List ℕ) (n m : ℕ) (before after : List Mark) : Type 0 where
  pub is : Marked (referred_by (rows_shown d x ws n) (shown_row d x ws m).tp) before after

pub record ReachedIn (d x ws : List ℕ) (n i m : ℕ) (before after : List Mark) : Type 0 where
  pub is : Marked (if (member_in i (shown_row d x ws m)) (referred_by (rows_shown d x ws n) (shown_row d x ws m).tp) []) before after

pub record TargetsReached (t : List Row) (i : ℕ) (before after : List Mark) : Type 0 where
  pub is : Marked (targets t i) before after

-- whether row k is reached and not followed
pub record IsReached (marks : List Mark) (k : ℕ) (r : Bool) : Type 0 where
  pub is : r ≡ true → get_or marks k Unreached ≡ Reached
  pub exact : get_or marks k Unreached ≡ Reached → r ≡ true

-- r is the first of n rows that is reached and not followed, or none is
pub record NextReached (marks : List Mark) (n : ℕ) (r : Maybe ℕ) : Type 0 where
  pub some : (k : ℕ) → r ≡ Some k → get_or marks k Unreached ≡ Reached
  pub within : (k : ℕ) → r ≡ Some k → k < n
  pub none : r ≡ None → (j : ℕ) → j < n → get_or marks j Unreached ≡ Reached → ⊥

-- a search from row p: a chain leads from it to each row that is reached; the rows that p uses are, and those that rows use that are followed
pub record Searching (d x ws : List ℕ) (n p : ℕ) (t : List Mark) : Type 0 where
  pub sound : (j : ℕ) → (get_or t j Unreached ≡ Unreached → ⊥) → Chain (uses (rows_shown d x ws n)) p j
  pub from : (j : ℕ) → uses (rows_shown d x ws n) p j ≡ true → get_or t j Unreached ≡ Unreached → ⊥
  pub closed : (i : ℕ) → get_or t i Unreached ≡ Followed → (j : ℕ) → uses (rows_shown d x ws n) i j ≡ true → get_or t j Unreached ≡ Unreached → ⊥
  pub long : length t ≡ 262144

-- whether a chain leads from row p to itself
pub record OnCircle (t : List Row) (p : ℕ) (r : Bool) : Type 0 where
  pub is : r ≡ true → Chain (uses t) p p
  pub exact : Chain (uses t) p p → r ≡ true

-- no row that is marked as given out is on a circle
pub record Clear (t : List Row) (marks : List Bool) : Type 0 where
  pub none : (k : ℕ) → get_or marks k false ≡ true → Chain (uses t) k k → ⊥

-- r is the first row on a circle, or there is none
pub record CircleFound (t : List Row) (r : Maybe ℕ) : Type 0 where
  pub some : (p : ℕ) → r ≡ Some p → FirstOnCircle (uses t) p
  pub none : r ≡ None → (i : ℕ) → Chain (uses t) i i → ⊥

-- ---- the answer

-- what is answered and left for c rows given out and u members whose tp type no row defines: 18 where the rows have no room
pub record Leaves (out : List ℕ) (c u : ℕ) (out' : List ℕ) (r : Result Ordered Fault) : Type 0 where
  pub short : length out < c → Says (wrong 18 c) (length out) out' r
  pub fits : c ≤ length out → (rows : List ℕ) → Rep 1 out c rows → Says (ordered rows u) (length out) out' r

-- what is answered and left where the c rows of the order were given out, and no row is on a circle
pub record Finishes (t : List Row) (out : List ℕ) (c : ℕ) (out' : List ℕ) (r : Result Ordered Fault) : Type 0 where
  pub says : Rep 1 out c (order (uses t) (definitions t)) → ((i : ℕ) → Chain (uses t) i i → ⊥) → Says (types_ordered (length out) t) (length out) out' r

-- what is answered and left for a table whose rows are sound
pub record OrdersSound (t : List Row) (room : ℕ) (out : List ℕ) (r : Result Ordered Fault) : Type 0 where
  pub says : Says (types_ordered room t) room out r

-- for any table
pub record Answers (d x ws : List ℕ) (n room : ℕ) (out : List ℕ) (r : Result Ordered Fault) : Type 0 where
  pub says : Says (ordering d x ws n room) room out r
