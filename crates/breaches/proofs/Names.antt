-- The names of tags and attributes are UTF-8: they stand between bytes below 128.
use Prim.Native.Nat.{ℕ, suc, ◌+◌, ◌-◌, ◌≤◌, ◌<◌}
use mathlib.Core.Path.{◌≡◌, refl, ◌∙◌}
use mathlib.Core.List.{List, [], ◌∷◌}
use mathlib.Core.Bool.{true, false}
use native.Mathlib.Omega.{arith}
use lib.Dec.{eqb}
use lib.ListN.{length, take, drop, get_or, length-drop}
use lib.Seq.{get_or-drop}
use Rattle.std.specs.Prelude.{Option, Some}
use Rattle.slices.specs.Bytes.{other, span, past, empty}
use Rattle.slices.specs.Run.{Run}
use Rattle.slices.proofs.Runs.{run_stop, past_at}
use Rattle.slices.proofs.Ends.{run_span, not_empty}
use Rattle.utf8.specs.WellFormed.{ill_formed}
use Rattle.utf8.specs.Trim.{Boundary}
use Rattle.utf8.proofs.Sequences.{below}
use Rattle.utf8.proofs.Cuts.{cut_ascii, cut_after_ascii, cut-end, part_formed}
use Rattle.scan.specs.Classes.{white, name_byte}
use Rattle.scan.specs.Ignorable.{quote}
use Rattle.scan.proofs.Class.{name_small, white_small}
use Rattle.document.specs.Tags.{Attr, Found, absent, found, close_quote, open_quote, equals, named, attribute}
use Rattle.document.specs.Outcome.{Sound}
use Rattle.document.proofs.Tests.{either}
use Rattle.document.proofs.Branches.{span_past, run-byte}
use Rattle.attributes.specs.One.{part, attr_of, Finds}
use Rattle.tags.specs.Outcome.{TagStart}
use Rattle.breaches.specs.Outcome.{NameAt, AttributeAt}
use Rattle.attributes.specs.declared.Located.{Located}

module _ {doc : List ℕ} (h : ill_formed doc ≡ length doc) where
  -- from where the document may be cut
  run_formed : {from to : ℕ} → Boundary doc from → Run name_byte doc from to → ill_formed (take (to - from) (drop from doc)) ≡ length (take (to - from) (drop from doc))
  run_formed {from} {to} b n =
      let e : from + (to - from) ≡ to = omega (arith, n.onward) in
      part_formed doc from (to - from) b
      (rw e
      (below to (length doc)
      (λ l. cut_ascii doc h to l (name_small (get_or doc to 0) (run_stop n l)))
      (λ l. let k : to ≡ length doc = omega (arith, n.within) in rw k (cut-end doc h))))

-- after the `<` of a tag
pub tag_name : {doc : List ℕ} {lt to : ℕ} → Sound doc → TagStart doc lt → Run name_byte doc (lt + 1) to → NameAt doc (lt + 1) to
tag_name {doc} {lt} {to} s t n = record {
  small = s.small;
  onward = n.onward;
  inside = n.within;
  formed = run_formed s.utf8 (cut_after_ascii doc lt s.utf8 t.inside (omega (arith, t.is))) n;
}

-- an attribute's name begins at a place, and is these bytes
abbrev Named : ℕ → List ℕ → Found → Type 0
Named at n absent = Unit {0}
Named at n (found a l p) = (a.at ≡ at) × (a.name ≡ n)

module _ (at : ℕ) (n : List ℕ) where
  close_named : (a : Attr) (l : List ℕ) (p : ℕ) → a.at ≡ at → a.name ≡ n → Named at n (close_quote a l p)
  close_named a [] p e f = tt
  close_named a (b ∷ l) p e f = (e, f)

  open_named : (l : List ℕ) (p : ℕ) → Named at n (open_quote at n l p)
  open_named [] p = tt
  open_named (q ∷ l) p =
      either (Named at n) (quote q)
      (λ t. close_named (record { at = at; name = n; valued = suc p; raw = span (other q) l }) (past (other q) l) (suc p + length (span (other q) l)) refl refl)
      (λ t. tt)

  equals_named : (l : List ℕ) (p : ℕ) → Named at n (equals at n l p)
  equals_named [] p = tt
  equals_named (b ∷ l) p = either (Named at n) (eqb b 61) (λ t. open_named (past white l) (suc p + length (span white l))) (λ t. tt)

  named_named : (l : List ℕ) (p : ℕ) → Named at n (named at n l p)
  named_named l p = either (Named at n) (empty n) (λ t. tt) (λ t. equals_named (past white l) (p + length (span white l)))

-- after white space
abbrev Spaced : List ℕ → ℕ → Found → Type 0
Spaced l at absent = Unit {0}
Spaced l at (found a m p) = (0 < length (span white l)) × (a.at ≡ at + length (span white l)) × (a.name ≡ span name_byte (past white l))

attribute_spaced : (l : List ℕ) (at : ℕ) → Spaced l at (attribute l at)
unfolding attribute
attribute_spaced l at =
    let m = past white l in
    let p = at + length (span white l) in
    either (Spaced l at) (empty (span white l))
    (λ t. tt)
    (λ t. go t (named p (span name_byte m) (past name_byte m) (p + length (span name_byte m))) (named_named p (span name_byte m) (past name_byte m) (p + length (span name_byte m))))
  where
    go : empty (span white l) ≡ false → (f : Found) → Named (at + length (span white l)) (span name_byte (past white l)) f → Spaced l at f
    go t absent h = tt
    go t (found a m p) h = (not_empty (span white l) t, h.0, h.1)

module _ {doc : List ℕ} {from : ℕ} (s : Sound doc) (i : from ≤ length doc) {o : Option Located} (c : Finds attribute doc from o) {x : Located} (e : o ≡ Some x) where
  found_at : Finds attribute doc from (Some x)
  found_at = rw e at c

  spaced_at : Spaced (drop from doc) from (found (attr_of doc x.attribute) (drop x.end doc) x.end)
  spaced_at = rw found_at.is at (attribute_spaced (drop from doc) from)

  -- the byte before the name is white space
  before_name : Boundary doc x.attribute.name
  before_name =
      let k = length (span white (drop from doc)) in
      let w : white (get_or doc (from + (k - 1)) 0) ≡ true = rw (get_or-drop from doc (k - 1) 0) at (run-byte white (drop from doc) (k - 1) (omega (arith, spaced_at.0))) in
      let q : from + (k - 1) + 1 ≡ x.attribute.name = omega (arith, spaced_at.0, spaced_at.1) in
      let l : from + (k - 1) < length doc = omega (arith, spaced_at.0, span_past white (drop from doc), length-drop from doc) in
      rw q at (cut_after_ascii doc (from + (k - 1)) s.utf8 l (white_small (get_or doc (from + (k - 1)) 0) w))

  name_run : Run name_byte doc x.attribute.name (x.attribute.name + length (span name_byte (drop x.attribute.name doc)))
  name_run = record {
    ends = refl;
    onward = omega arith;
    within = omega (arith, before_name.inside, span_past name_byte (drop x.attribute.name doc), length-drop x.attribute.name doc);
  }

  is_span : part doc x.attribute.name x.attribute.name_len ≡ span name_byte (drop x.attribute.name doc)
  is_span = spaced_at.2 ∙ rw (past_at, ← spaced_at.1)

  pub attribute_stands : AttributeAt doc x.attribute
  attribute_stands = record {
    small = s.small;
    name = omega (arith, found_at.onward.1, found_at.onward.2.name);
    value = omega (arith, found_at.onward.1, found_at.onward.2.value);
    formed = rw (is_span, run_span name_run) (run_formed s.utf8 before_name name_run);
  }
