-- What the steps of the entries say.
use Rattle.std.specs.Prelude.{ℕ, ◌+◌, ◌≤◌, ◌<◌, ◌≡◌, List, [], ◌∷◌, ◌++◌, length, Result}
use Rattle.faults.specs.declared.Fault.{Fault}
use Rattle.slices.specs.Bytes.{bytes}
use Rattle.answers.specs.Text.{Text, text, roomy, Says}
use Rattle.answers.specs.Puts.{Puts}
use Rattle.references.specs.Unescape.{unescape}
use Rattle.messages.specs.Texts.{words, refusals, warnings, pieces_of, key_name}
use Rattle.messages.specs.Message.{excerpt_of, framed, message_by}
use Rattle.messages.specs.declared.Wide.{Wide}
use Rattle.messages.specs.declared.Told.{Told}

-- the answer and the bytes left are those of a text in the room of the buffer lent
abbrev pub Fills : Text → List ℕ → List ℕ → Result ℕ Fault → Type 0
Fills t lent = Says (roomy (length lent) t) (length lent)

-- a number is none of a list
abbrev pub NoneOf : ℕ → List ℕ → Type 0
NoneOf n [] = Unit {0}
NoneOf n (k ∷ ks) = (n ≡ k → ⊥) × NoneOf n ks

-- bytes are put, with words before and after them
pub record Around (before bytes after : List ℕ) (n : ℕ) (buf buf' : List ℕ) (r : ℕ) : Type 0 where
  pub puts : Puts (before ++ (bytes ++ after)) n buf buf' r
  pub most : r ≤ n + length bytes + 2048

-- what a raw value shows is put, with words before and after it
pub record Unescaped (before value after buf buf' : List ℕ) (r : ℕ) : Type 0 where
  pub puts : (t : List ℕ) → unescape value ≡ text t → Puts (before ++ (t ++ after)) 0 buf buf' r

-- the text of a number that shows nothing, and that it has none
pub record PlainText (number : ℕ) (s : List ℕ) : Type 0 where
  pub is : NoneOf number (5 ∷ 6 ∷ 8 ∷ 10 ∷ 11 ∷ 12 ∷ 15 ∷ 16 ∷ []) → pieces_of refusals number ≡ words s ∷ []
  pub short : length s < 1024

pub record NoText (number : ℕ) : Type 0 where
  pub is : NoneOf number (5 ∷ 6 ∷ 8 ∷ 10 ∷ 11 ∷ 12 ∷ 15 ∷ 16 ∷ []) → pieces_of refusals number ≡ []

-- the message of a number that shows nothing, whatever is told with it
pub record Plainly (number room : ℕ) (out : List ℕ) (r : Result ℕ Fault) : Type 0 where
  pub says : NoneOf number (5 ∷ 6 ∷ 8 ∷ 10 ∷ 11 ∷ 12 ∷ 15 ∷ 16 ∷ []) → (doc : List ℕ) (x : Told) → Says (roomy room (message_by doc x (pieces_of refusals number))) room out r

-- the message of 6, where both names are there
pub record Mismatched (closing element : List ℕ) (room : ℕ) (out : List ℕ) (r : Result ℕ Fault) : Type 0 where
  pub says : Says (roomy room (text (bytes "unexpected `</" ++ (closing ++ (bytes ">` while parsing `<" ++ (element ++ bytes ">`")))))) room out r

-- the message of 6, whatever else is told
pub record Unexpected (doc : List ℕ) (closing element : Wide) (room : ℕ) (out : List ℕ) (r : Result ℕ Fault) : Type 0 where
  pub says : (x : Told) → x.first ≡ closing → x.second ≡ element → Says (roomy room (message_by doc x (pieces_of refusals 6))) room out r

-- what 12 says before the name of the element, and that it has no text
pub record Missing (key : ℕ) (s : List ℕ) : Type 0 where
  pub is : (doc : List ℕ) (x : Told) → x.key ≡ key → message_by doc x (pieces_of refusals 12) ≡ framed s (excerpt_of doc x.first) (bytes ">`")
  pub short : length s < 1024

pub record NoKey (key : ℕ) : Type 0 where
  pub is : key_name key ≡ []

-- the message of 12, whatever else is told
pub record Lacking (doc : List ℕ) (name : Wide) (key room : ℕ) (out : List ℕ) (r : Result ℕ Fault) : Type 0 where
  pub says : (x : Told) → x.first ≡ name → x.key ≡ key → Says (roomy room (message_by doc x (pieces_of refusals 12))) room out r

-- the message of a refusal
pub record Turned (doc : List ℕ) (x : Told) (room : ℕ) (out : List ℕ) (r : Result ℕ Fault) : Type 0 where
  pub says : Says (roomy room (message_by doc x (pieces_of refusals x.number))) room out r

-- what a reason from 2 on says after the name of the element, and that it has no text
pub record Malformed (reason : ℕ) (s : List ℕ) : Type 0 where
  pub is : (doc : List ℕ) (x : Told) → message_by doc x (pieces_of warnings reason) ≡ framed (bytes "malformed element `<") (excerpt_of doc x.first) s
  pub short : length s < 1024

pub record NoReason (reason : ℕ) : Type 0 where
  pub is : (reason ≡ 1 → ⊥) → pieces_of warnings reason ≡ []

-- the message of a reason, whatever else is told
pub record Warned (doc : List ℕ) (reason : ℕ) (name : Wide) (room : ℕ) (out : List ℕ) (r : Result ℕ Fault) : Type 0 where
  pub says : (x : Told) → x.first ≡ name → Says (roomy room (message_by doc x (pieces_of warnings reason))) room out r
