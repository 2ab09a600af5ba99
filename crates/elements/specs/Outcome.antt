-- The steps of what a start tag comes to, and the kinds that need a good name and nothing else.
use Rattle.std.specs.Prelude.{ℕ, suc, ◌≡◌, List, Bool, not, eqb, Result, Ok, Err}
use Rattle.std.proofs.Math.Option.{none}
use Rattle.slices.specs.Bytes.{bytes}
use Rattle.shown.specs.Outcome.{Tests}
use Rattle.document.specs.Tags.{Shown}
use Rattle.document.specs.Tokens.{Tag}
use Rattle.document.specs.Elements.{attr, access_of, directed, row, Opened, opens, refuses, required, valid, named_row, opens_as}
use Rattle.document.specs.Refusals.{bare, showing, raw_of}
use Rattle.document.specs.Outcome.{ValueIs, TagIs, Held, whole}
use Rattle.document.specs.declared.Refusal.{Refusal}
use Rattle.document.specs.declared.Value.{Value}
use Rattle.document.specs.declared.StartTag.{StartTag}

-- the value is the attribute of a key
abbrev pub AttributeIs : List ℕ → StartTag → Value → List ℕ → Type 0
AttributeIs doc c v k = (t : Tag) → TagIs doc c t → ValueIs doc v (attr k t)

-- a step of what a start tag comes to: it goes on with what belongs to the answer, or it refuses
abbrev pub Steps : {V A : Type 0} → List ℕ → StartTag → (V → A → Type 0) → (Tag → (A → Opened Shown) → Opened Shown) → Result V Refusal → Type 0
Steps {V} {A} doc c belongs step (Ok v) = (t : Tag) → TagIs doc c t → (a : A) × belongs v a × ((f : A → Opened Shown) → step t f ≡ f a)
Steps {V} {A} doc c belongs step (Err x) = (t : Tag) → TagIs doc c t → (f : A → Opened Shown) → step t f ≡ refuses x

-- the attribute of a key is there
abbrev pub demanded : ℕ → List ℕ → Tag → (Shown → Opened Shown) → Opened Shown
demanded n k t f = required whole n (attr k t) t f

-- and its text is good, or the tag is refused with a number
abbrev pub tested : ℕ → List ℕ → ℕ → (List ℕ → Bool) → Tag → (Shown → Opened Shown) → Opened Shown
tested n k e p t f = required whole n (attr k t) t λ s. valid whole (p s.value) (bare e (suc t.at)) (f s)

-- an access is there, and is one of the three
abbrev pub accessed : Tag → (ℕ → Opened Shown) → Opened Shown
accessed t f = required whole 3 (attr (bytes "access") t) t λ a. valid whole (not (eqb (access_of a.value) 0)) (showing 15 t.after (raw_of a)) (f (access_of a.value))

pub record Accesses (doc : List ℕ) (c : StartTag) (r : Result ℕ Refusal) : Type 0 where
  pub is : Steps doc c ◌≡◌ accessed r

pub record Directs (doc : List ℕ) (c : StartTag) (r : Result ℕ Refusal) : Type 0 where
  pub is : Steps doc c ◌≡◌ (λ t f. directed whole (attr (bytes "direction") t) t f) r

-- the value of a tag, which is the attribute of some key, is there; `key` is that key's word in refusal 12
abbrev pub Demands : StartTag → Value → ℕ → Result (Unit {0}) Refusal → Type 0
Demands c v key r = (doc k : List ℕ) → AttributeIs doc c v k → Steps doc c (λ u s. Held doc v s) (demanded key k) r

-- and its text passes the test whose answers are given, whatever class of texts that is; or the tag is refused with a number
abbrev pub DemandsGood : (Bool → Type 0) → List ℕ → StartTag → Value → ℕ → ℕ → Result (Unit {0}) Refusal → Type 0
DemandsGood answers doc c v key number r =
    (p : List ℕ → Bool) (k : List ℕ) → ((b : Bool) → answers b → Tests p doc v b) → AttributeIs doc c v k → Steps doc c (λ u s. Held doc v s) (tested key k number p) r

-- interface, method and signal: name there, name good
pub record NamedKind (good : List ℕ → Bool) (k : ℕ) : Type 0 where
  pub is : (p : ℕ) (t : Tag) → opens_as whole k p t ≡ named_row whole good k p t

-- simple-type and enum: name and type
pub record TypedKind (k : ℕ) : Type 0 where
  pub is : (p : ℕ) (t : Tag) → opens_as whole k p t ≡ opens (row whole t k p (attr (bytes "name") t) (attr (bytes "type") t) none 0)

-- node, struct and mapping: name
pub record UntypedKind (k : ℕ) : Type 0 where
  pub is : (p : ℕ) (t : Tag) → opens_as whole k p t ≡ opens (row whole t k p (attr (bytes "name") t) none none 0)
