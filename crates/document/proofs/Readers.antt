-- What a reader keeps: over several steps, and what is known of its document.
use Prim.Native.Nat.{ℕ}
use mathlib.Core.Path.{refl, ap, ◌∙◌}
use mathlib.Core.List.{List}
use mathlib.Core.Bool.{Bool}
use denote.Ref.{at_last}
use Rattle.std.specs.Prelude.{Result}
use Rattle.document.specs.Outcome.{Lent, Keeps, Ready, Child}
use Rattle.document.specs.declared.Fill.{Fill}
use Rattle.document.specs.declared.Reader.{Reader}
use Rattle.document.specs.declared.Refusal.{Refusal}
use Rattle.document.specs.declared.StartTag.{StartTag}

pub keeps_same : {r : Reader} → Keeps r r
keeps_same = record { doc = refl; classes = refl; rows = refl; warnings = refl; text = refl; rows_long = refl; warnings_long = refl; text_long = refl }

module _ {r r' : Reader} (k : Keeps r r') where
  pub keeps_more : {r'' : Reader} → Keeps r' r'' → Keeps r r''
  keeps_more {r''} h = record {
    doc = h.doc ∙ k.doc;
    classes = h.classes ∙ k.classes;
    rows = h.rows ∙ ap (λ x. at_last x r''.rows.now) k.rows;
    warnings = h.warnings ∙ ap (λ x. at_last x r''.warnings.now) k.warnings;
    text = h.text ∙ ap (λ x. at_last x r''.text.now) k.text;
    rows_long = h.rows_long ∙ k.rows_long;
    warnings_long = h.warnings_long ∙ k.warnings_long;
    text_long = h.text_long ∙ k.text_long;
  }

  pub ready_kept : {c : StartTag} {f : Fill} → Ready r.doc.now c f → Ready r'.doc.now c f
  ready_kept h = rw k.doc h

  pub child_kept : {hs : List ℕ} {docs : Bool} {c : StartTag} {i : ℕ} {f : Fill} {b b' : Lent} {a : Result Fill Refusal} → Child r'.doc.now hs docs c i f b b' a → Child r.doc.now hs docs c i f b b' a
  child_kept h = rw k.doc at h

pub ruleset keeping = (keeps_same, keeps_more)
