-- What the functions on tags say.
use Rattle.std.specs.Prelude.{ℕ, ◌+◌, ◌-◌, ◌≤◌, ◌<◌, ◌≡◌, List, length, drop, get_or, Result, Ok, Err}
use Rattle.slices.specs.Bytes.{span, past}
use Rattle.scan.specs.Classes.{white}
use Rattle.document.specs.Tags.{Shown}
use Rattle.document.specs.Tokens as tokens
use Rattle.document.specs.Tokens.{fault, last, tagged, tag_end}
use Rattle.document.specs.Outcome.{OnwardToken, Comes}
use Rattle.document.specs.declared.Token.{Token}
use Rattle.document.specs.declared.ClosingTag.{ClosingTag}
use Rattle.document.specs.declared.Refusal.{Refusal}
use Rattle.faults.specs.declared.Fault.{Fault}
use Rattle.tags.specs.declared.TagEnd.{TagEnd}

-- a `<` stands at a place of a document within the limit
pub record TagStart (doc : List ℕ) (lt : ℕ) : Type 0 where
  pub small : length doc ≤ 1048576
  pub inside : lt < length doc
  pub is : get_or doc lt 0 ≡ 60

-- what reading the tag at a place says, by what the definition has there
pub record TagAt (doc : List ℕ) (lt : ℕ) (x : tokens.Next) (r : Result Token Refusal) : Type 0 where
  pub onward : OnwardToken doc lt r
  pub is : Comes doc x r

-- what reading a closing tag gives, as a token
abbrev pub closing_token : Result ClosingTag Refusal → Result Token Refusal
closing_token (Err x) = Err x
closing_token (Ok c) = Ok (Token.Close c)

-- a start tag's end is further on, within the document, and its last byte is `>`
abbrev pub OnwardEnd : List ℕ → ℕ → Result TagEnd Fault → Type 0
OnwardEnd doc from (Err f) = Unit {0}
OnwardEnd doc from (Ok e) = (from < e.end) × (e.end ≤ length doc) × (get_or doc (e.end - 1) 0 ≡ 62)

-- the definition's answer there, whatever the tag's place, name and attributes
abbrev pub IsEnd : tokens.Next → ℕ → List ℕ → List Shown → Result TagEnd Fault → Type 0
IsEnd x lt n xs (Err f) = (x ≡ last (fault 4 f.place)) × (f.number ≡ 4)
IsEnd x lt n xs (Ok e) = x ≡ tagged lt n xs e.closes e.end

pub record Ends (doc : List ℕ) (from : ℕ) (r : Result TagEnd Fault) : Type 0 where
  pub onward : OnwardEnd doc from r
  pub is : (lt : ℕ) (n : List ℕ) (xs : List Shown) → IsEnd (tag_end lt n xs (past white (drop from doc)) (from + length (span white (drop from doc)))) lt n xs r
