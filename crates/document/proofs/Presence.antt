-- Values of a tag: absent or there, by their form.
use Prim.Native.Nat.{ℕ}
use mathlib.Core.Path.{◌≡◌, refl, sym, ap, ◌∙◌}
use mathlib.Core.List.{List}
use mathlib.Core.Option.{Option, none, some}
use mathlib.Core.Bool.{Bool, true, false}
use Rattle.slices.specs.Bytes.{if, all}
use Rattle.references.specs.Unescape.{plain}
use Rattle.document.specs.Tags.{Shown}
use Rattle.document.specs.Outcome.{Held, ValueIs, is_none, is_absent}
use Rattle.document.specs.declared.Form.TheVariants.{Plain, Changed}
use Rattle.document.specs.declared.Value.{Value}

form_there : (t : Bool) → is_none (if t Plain Changed) ≡ false
form_there true = refl
form_there false = refl

pub value_absent : (doc : List ℕ) (v : Value) (o : Option Shown) → ValueIs doc v o → is_absent v ≡ true → o ≡ none
value_absent doc v none h e = refl
value_absent doc v (some s) h e = let z : ◌≡◌ {A = Bool} false true = sym (form_there (all plain s.attr.raw)) ∙ ap is_none (sym h.form) ∙ e in cc

pub value_there : (doc : List ℕ) (v : Value) (o : Option Shown) → ValueIs doc v o → is_absent v ≡ false → (s : Shown) × (o ≡ some s) × Held doc v s
value_there doc v none h e = let z : ◌≡◌ {A = Bool} true false = ap is_none (sym h) ∙ e in absurd cc
value_there doc v (some s) h e = (s, refl, h)
