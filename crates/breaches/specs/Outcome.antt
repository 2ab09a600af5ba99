-- What the functions that look for breaches say.
use Rattle.std.specs.Prelude.{ℕ, suc, ◌+◌, ◌-◌, ◌≤◌, ◌<◌, ◌≡◌, List, [], ◌++◌, length, take, drop, get_or, Ok, Option}
use Rattle.utf8.specs.WellFormed.{ill_formed}
use Rattle.scan.specs.Ignorable.{ignorable}
use Rattle.document.specs.Tags.{Attr, Shown, gathered, gather}
use Rattle.document.specs.Tokens.{Tag, Token, start, close, more, opening, closing, tokens}
use Rattle.document.specs.Rows.{Tables}
use Rattle.document.specs.Reading.{State, begun, accepted}
use Rattle.document.specs.Outcome.{Sound, runs}
use Rattle.attributes.specs.One.{part}
use Rattle.attributes.specs.declared.Attribute.{Attribute}
use Rattle.met.specs.Passed.{here, passed_over}
use Rattle.met.specs.Met.{reached, start_tags, comments_to, end_of, met_tokens, root_end}
use Rattle.met.specs.Open.{Counted, Stands}
use Rattle.breaches.specs.Least.{lesser, least}
use Rattle.breaches.specs.Breaches.{attrs_of, in_value, in_values, tag_values, in_comments, in_name, in_names, tag_names}
use Rattle.breaches.specs.declared.Way.{Way}
use Rattle.breaches.specs.declared.Opened.{Opened}
use Rattle.breaches.specs.declared.Walk.{Walk}

-- a document that is accepted
pub record Accepted (doc : List ℕ) : Type 0 where
  pub sound : Sound doc
  pub tables : Tables Shown
  pub reads : runs doc 0 begun ≡ accepted tables

-- a name stands from a place to another, and is UTF-8
pub record NameAt (doc : List ℕ) (from to : ℕ) : Type 0 where
  pub small : length doc ≤ 1048576
  pub onward : from ≤ to
  pub inside : to ≤ length doc
  pub formed : ill_formed (take (to - from) (drop from doc)) ≡ length (take (to - from) (drop from doc))

-- name and value of an attribute stand in a document within the limit, and the name is UTF-8
pub record AttributeAt (doc : List ℕ) (a : Attribute) : Type 0 where
  pub small : length doc ≤ 1048576
  pub name : a.name + a.name_len ≤ length doc
  pub value : a.value + a.value_len ≤ length doc
  pub formed : ill_formed (part doc a.name a.name_len) ≡ length (part doc a.name a.name_len)

-- the least breach in what is ignored from a `<` on
abbrev pub ignored_breach : List ℕ → ℕ → Option ℕ
ignored_breach doc at = least (in_comments doc (here (drop (suc at) doc) at []))

-- in an attribute, in some, in a start tag
abbrev pub attribute_breach : Attr → Option ℕ
attribute_breach a = lesser (least (in_value a)) (least (in_name a.name a.at))

unfoldable pub attributes_breach : List Attr → Option ℕ
attributes_breach xs = lesser (least (in_values xs)) (least (in_names xs))

unfoldable pub tag_breach : Tag → Option ℕ
tag_breach t = lesser (least (in_values (attrs_of t))) (least (in_name t.name (suc t.at) ++ in_names (attrs_of t)))

-- in some tokens, of which the first is looked for from a place on, and in the comments on the way to each
unfoldable pub breach_from : List ℕ → ℕ → List Token → Option ℕ
breach_from doc at ts =
    lesser (least (tag_values (start_tags ts))) (lesser (least (in_comments doc (comments_to doc at ts))) (least (tag_names (start_tags ts))))

-- the tokens that reading comes to from a state and a place on
abbrev pub tokens_from : List ℕ → State Shown → ℕ → List Token
tokens_from doc s at = reached doc s (tokens (drop at doc) at)

-- where what is ignorable from a place on ends, and the comments on the way
pub record Passes (doc : List ℕ) (from : ℕ) (r : Way) : Type 0 where
  pub since : from ≤ r.at
  pub inside : r.at ≤ length doc
  pub tag : r.at < length doc → get_or doc r.at 0 ≡ 60
  pub is : (p : ℕ) → ignorable (drop from doc) from ≡ Ok p → (r.at ≡ p) × (r.breach ≡ least (in_comments doc (passed_over (drop from doc) from)))

-- the attributes from a place on
pub record Collects (doc : List ℕ) (from : ℕ) (r : Way) : Type 0 where
  pub since : from ≤ r.at
  pub inside : r.at ≤ length doc
  pub is : (n : ℕ) (xs : List Attr) (l : List ℕ) (p : ℕ) → gather n (drop from doc) from ≡ gathered xs l p → (r.at ≡ p) × (l ≡ drop p doc) × (r.breach ≡ attributes_breach xs)

-- the start tag whose `<` stands at a place
pub record Starts (doc : List ℕ) (lt : ℕ) (r : Opened) : Type 0 where
  pub is : (t : Token) (q : ℕ) → opening (drop (lt + 1) doc) lt ≡ more t q → (g : Tag) × (t ≡ start g) × (r.closes ≡ g.self) × (r.at ≡ q) × (r.breach ≡ tag_breach g)

-- the closing tag whose `<` stands at a place
pub record Closes (doc : List ℕ) (lt : ℕ) (r : ℕ) : Type 0 where
  pub is : (t : Token) (q : ℕ) → closing (drop (lt + 2) doc) lt ≡ more t q → (m : ℕ) × (n : List ℕ) × (t ≡ close m n q) × (r ≡ q)

-- the walk stands before a token: reading goes on from here in a state, and is accepted; what is left to find is found from here on
pub record Walking (doc : List ℕ) (w : Walk) : Type 0 where
  pub sound : Sound doc
  pub inside : w.at ≤ length doc
  pub few : w.depth ≤ w.at
  pub state : State Shown
  pub tables : Tables Shown
  pub stands : Stands w.depth state
  pub reads : runs doc w.at state ≡ accepted tables
  pub breach : breach_from doc 0 (met_tokens doc) ≡ lesser w.breach (breach_from doc w.at (tokens_from doc state w.at))
  pub end : root_end doc ≡ end_of w.at (tokens_from doc state w.at)

-- the same after a token, where it may be the last; and it moved on from a place
pub record Walked (doc : List ℕ) (from : ℕ) (w : Walk) : Type 0 where
  pub sound : Sound doc
  pub onward : from < w.at
  pub inside : w.at ≤ length doc
  pub few : w.depth ≤ w.at
  pub state : State Shown
  pub tables : Tables Shown
  pub counted : Counted w.depth state
  pub reads : runs doc w.at state ≡ accepted tables
  pub breach : breach_from doc 0 (met_tokens doc) ≡ lesser w.breach (breach_from doc w.at (tokens_from doc state w.at))
  pub end : root_end doc ≡ end_of w.at (tokens_from doc state w.at)

-- the whole walk: the least breach in the tags and comments that reading meets, and the root's end
pub record Walks (doc : List ℕ) (w : Walk) : Type 0 where
  pub inside : w.at ≤ length doc
  pub breach : w.breach ≡ breach_from doc 0 (met_tokens doc)
  pub end : w.at ≡ root_end doc
