-- Values of attributes: the form and the raw bytes of one that is there, and the text that it shows.
use Prim.Native.Nat.{ℕ, ◌+◌, ◌-◌}
use mathlib.Core.Path.{◌≡◌, refl, ◌∙◌}
use mathlib.Core.List.{List}
use mathlib.Core.Bool.{Bool, true, false}
use borrow.Author.Rules.{rules}
use native.Mathlib.Omega.{arith}
use lib.ListN.{take, drop, length-drop}
use lib.Seq.{length-take-le}
use Rattle.slices.specs.Bytes.{if, all}
use Rattle.references.specs.Unescape.{plain}
use Rattle.answers.specs.Puts.{Puts}
use Rattle.references.specs.Outcome.{Shows}
use Rattle.document.specs.Tags.{Shown}
use Rattle.document.specs.Outcome.{Held, Lies, Raw}
use Rattle.document.specs.declared.Form.{Form}
use Rattle.document.specs.declared.Form.TheVariants.{Plain, Changed}
use Rattle.document.specs.declared.Value.{Value}

by_form : (b : Bool) (k : Form) → k ≡ if b Plain Changed → (k ≡ Plain → b ≡ true) × (k ≡ Changed → b ≡ false)
by_form true k e = ((λ h. refl), λ h. cc)
by_form false k e = ((λ h. cc), λ h. refl)

module _ {doc : List ℕ} {v : Value} {s : Shown} (h : Held doc v s) where
  pub held_plain : v.form ≡ Plain → all plain s.attr.raw ≡ true
  held_plain = (by_form (all plain s.attr.raw) v.form h.form).0

  pub held_raw : {r : List ℕ} → Raw doc v r → r ≡ s.attr.raw
  held_raw w = w.is ∙ h.raw

  -- the text of a changed value that is put
  pub held_puts : {r t t' : List ℕ} {n m : ℕ} → Raw doc v r → Shows r n t t' m → Puts s.value n t t' m
  held_puts w g = g.puts s.value (rw (held_raw w) h.shows)

-- a part of a document
pub part_raw : {doc : List ℕ} {v : Value} → Lies doc v → Raw doc v (take (v.at + v.len - v.at) (drop v.at doc))
part_raw {doc} {v} l =
    let e : v.at + v.len - v.at ≡ v.len = omega arith in
    rw e record { is = refl; many = length-take-le v.len (drop v.at doc) (rw length-drop (omega (arith, l.inside))) }

pub ruleset lying = (part_raw, rules)
