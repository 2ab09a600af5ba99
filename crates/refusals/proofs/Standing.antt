-- What the tokens of a document that is UTF-8 show stands in it: names, references and raw values.
use Prim.Native.Nat.{ℕ, suc, ◌+◌, ◌-◌, ◌<◌}
use mathlib.Core.Path.{◌≡◌, sym, ◌∙◌}
use mathlib.Core.List.{List}
use borrow.Author.Tests.{eqb-true, not-false}
use native.Mathlib.Nat.{add-zero}
use native.Mathlib.Omega.{arith}
use lib.Dec.{eqb}
use lib.ListN.{length, drop, get_or, length-drop}
use lib.Seq.{get_or-drop}
use Rattle.slices.specs.Bytes.{other, span}
use Rattle.slices.proofs.Runs.{span_end}
use Rattle.utf8.specs.WellFormed.{ill_formed}
use Rattle.utf8.specs.Trim.{Boundary}
use Rattle.utf8.proofs.Sequences.{below}
use Rattle.utf8.proofs.Texts.{formed, none_whole}
use Rattle.utf8.proofs.Cuts.{cut_ascii, cut_after_ascii, cut-end, part_formed}
use Rattle.scan.specs.Classes.{name_byte}
use Rattle.scan.proofs.Class.{name_small}
use Rattle.document.specs.Tags.{Shown}
use Rattle.document.specs.Refusals.{excerpt, nothing, raw_of}
use Rattle.document.proofs.Branches.{span_past}
use Rattle.document.proofs.Unescapes.{Referring}
use Rattle.accepted.proofs.Tokens.{After, Opens, Held}
use Rattle.accepted.proofs.Docstrings.{after_cut, raw_formed}
use Rattle.refusals.proofs.Telling.{Stands, Reads}

-- nothing stands anywhere
pub nothing_stands : (doc : List ℕ) → Stands doc nothing
nothing_stands doc = record { inside = omega arith; formed = formed none_whole }

-- after a `<`
pub after_open : {doc : List ℕ} {at : ℕ} {n : List ℕ} → Opens doc at n → After doc (suc at)
after_open {doc} {at} o =
    let e : suc at - 1 ≡ at = omega arith in
    record { some = omega arith; inside = omega (arith, o.inside); byte = rw e (omega (arith, o.byte)) }

module _ (doc : List ℕ) (h : ill_formed doc ≡ length doc) where
  -- where a name ends the document may be cut
  name_cut : (at : ℕ) → After doc at → Boundary doc (at + length (span name_byte (drop at doc)))
  name_cut at a =
      let k = length (span name_byte (drop at doc)) in
      let s = span_past name_byte (drop at doc) in
      below (at + k) (length doc)
      (λ l.
      let b = span_end name_byte (drop at doc) (omega (arith, length-drop at doc)) in
      cut_ascii doc h (at + k) l (name_small (get_or doc (at + k) 0) (rw (get_or-drop at doc k 0) at b)))
      (λ l. let e : at + k ≡ length doc = omega (arith, length-drop at doc, a.inside) in rw e (cut-end doc h))

  pub name_stands : (at : ℕ) (n : List ℕ) → After doc at → span name_byte (drop at doc) ≡ n → Stands doc (excerpt at n)
  name_stands at n a e =
      rw (← e)
      record {
        inside = omega (arith, span_past name_byte (drop at doc), length-drop at doc, a.inside);
        formed = part_formed doc at (length (span name_byte (drop at doc))) (after_cut doc h at a) (name_cut at a);
      }

  -- from `&` to `;`
  pub reference_stands : (p : ℕ) → Referring (drop p doc) → Stands doc (record { at = p; len = suc (length (span (other 59) (drop p doc))) })
  reference_stands p r =
      let k = length (span (other 59) (drop p doc)) in
      let l : p + k < length doc = omega (arith, length-drop p doc, r.1) in
      let first : get_or doc p 0 ≡ 38 = sym (rw add-zero at (get_or-drop p doc 0 0)) ∙ r.0 in
      let b = get_or doc (p + k) 0 in
      let last : b ≡ 59 = eqb-true b 59 (not-false (eqb b 59) (rw (get_or-drop p doc k 0) at (span_end (other 59) (drop p doc) r.1))) in
      let c : p + k + 1 ≡ p + suc k = omega arith in
      record {
        inside = omega arith;
        formed = part_formed doc p (suc k) (cut_ascii doc h p (omega arith) (omega arith)) (rw c at (cut_after_ascii doc (p + k) h l (omega arith)));
      }

  pub raw_reads : (s : Shown) → Held doc s → Reads doc (raw_of s)
  raw_reads s g =
      let e = g.stands.raw in
      record {
        stands = record { inside = omega (arith, g.stands.closed.inside); formed = rw e (raw_formed doc h s g) };
        shows = (s.value, rw e g.shows);
      }
