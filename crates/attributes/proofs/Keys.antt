-- Names that are a key, or that of a tp type.
use Prim.Native.Nat.{ℕ, suc, ◌+◌, ◌-◌, ◌≤◌, ◌<◌, ◌^◌}
use mathlib.Core.Path.{◌≡◌, sym, ◌∙◌}
use mathlib.Core.List.{List}
use mathlib.Core.Bool.{Bool, false}
use borrow.Author.Rules.{rules}
use borrow.Author.Tests.{le-leb, lt-leb, eq-eqb, ne_eqb}
use native.Mathlib.Decide.{dec_le}
use native.Mathlib.Numerals.{add-one}
use native.Mathlib.Omega.{arith}
use lib.ListN.{length, take, drop, length-drop}
use lib.Seq.{length-take-le}
use Rattle.std.specs.Prelude.{Option, Some, None}
use Rattle.slices.specs.Bytes.{bytes, span, same}
use Rattle.slices.proofs.Ends.{run_span}
use Rattle.slices.proofs.Runs.{same_short}
use Rattle.scan.specs.Classes.{name_byte}
use Rattle.scan.specs.Colons.{Scanned}
use Rattle.scan.specs.declared.Colons.{Colons}
use Rattle.scan.specs.declared.Name.{Name}
use Rattle.scan.proofs.Prefixes.{Within, colons_within, name_from}
use Rattle.document.specs.Tags.{is_tp_type}
use Rattle.document.specs.Prefixes.{tp_type_by}
use Rattle.document.proofs.Prefixes.{tp_type}
use Rattle.attributes.specs.Lookup.{part_is, keyed}

-- a part that runs past the document is of no kind
pub part_past : (p : List ℕ → Bool) (doc : List ℕ) (at n : ℕ) → length doc < at + n → false ≡ part_is p doc at n
unfolding part_is
part_past p doc at n h = rw (lt-leb (at + n) (length doc) h)

-- one that lies within it is of a kind where its bytes are
pub part_within : (p : List ℕ → Bool) (doc : List ℕ) (at n : ℕ) (r : Bool) → at + n ≤ length doc → r ≡ p (take ((at + n) - at) (drop at doc)) → r ≡ part_is p doc at n
unfolding part_is
part_within p doc at n r h e =
    let m : (at + n) - at ≡ n = omega arith in
    (rw m at e) ∙ rw (le-leb (at + n) (length doc) h)

-- a name of another length than the key is not the key
pub key_other : (doc key : List ℕ) (at n : ℕ) → (n ≡ length key → ⊥) → false ≡ part_is (keyed key) doc at n
key_other doc key at n e = go (dec_le (at + n) (length doc))
  where
    go : Dec (at + n ≤ length doc) → false ≡ part_is (keyed key) doc at n
    go (no h) = part_past (keyed key) doc at n (omega arith)
    go (yes h) =
        let a : length (take n (drop at doc)) ≡ n = length-take-le n (drop at doc) (rw length-drop (omega arith)) in
        let m : (at + n) - at ≡ n = omega arith in
        part_within (keyed key) doc at n false h (rw m (same_short (take n (drop at doc)) key (λ q. e (omega arith))))

pub ruleset keys = (part_past, part_within, key_other, rules)

-- ---- a tp type's name, by its colons

first_within : (p e : ℕ) (c : Option Colons) {q : Colons} → Within p e c → c ≡ Some q → (p ≤ q.first) × (q.first < e)
first_within p e c {q} w h = let v : Within p e (Some q) = rw h at w in (v.0, omega (arith, v.1, v.2))

module _ {doc : List ℕ} {at : ℕ} {name : Name} (g : Scanned doc at name) where
  by_colons : is_tp_type (take (name.end - at) (drop at doc)) ≡ tp_type_by (span name_byte (drop at doc)) at name.colons
  by_colons = rw (← run_span g.run, g.colons) (tp_type (span name_byte (drop at doc)) at)

  pub tp_none : name.colons ≡ None → false ≡ is_tp_type (take (name.end - at) (drop at doc))
  tp_none e = sym (by_colons ∙ rw e)

  module _ {q : Colons} (e : name.colons ≡ Some q) where
    inside : (at ≤ q.first) × (q.first < name.end)
    inside =
        let n : at + length (span name_byte (drop at doc)) ≡ name.end = sym g.run.ends in
        first_within at name.end name.colons (rw g.colons (rw n at (colons_within (span name_byte (drop at doc)) at))) e

    pub tp_small : length doc ≤ 1048576 → q.first + 1 < 2 ^ 64
    tp_small h = omega (arith, inside.1, g.run.within)

    pub tp_inside : q.first + 1 ≤ name.end
    tp_inside = omega (arith, inside.1)

    pub tp_first : q.first ≡ at → false ≡ is_tp_type (take (name.end - at) (drop at doc))
    tp_first f = sym (by_colons ∙ rw (e, eq-eqb q.first at f))

    pub tp_rest : (q.first ≡ at → ⊥) → {r : Bool} → r ≡ same (take (name.end - (q.first + 1)) (drop (q.first + 1) doc)) (bytes "type") → r ≡ is_tp_type (take (name.end - at) (drop at doc))
    tp_rest f {r} h =
        let d : take (name.end - (q.first + 1)) (drop (q.first + 1) doc) ≡ drop (suc q.first - at) (span name_byte (drop at doc)) = name_from g (omega (arith, inside.0)) (omega (arith, inside.1)) ∙ rw add-one in
        h ∙ rw d (sym (by_colons ∙ rw (e, ne_eqb q.first at f)))

-- what answers every need of `is_tp_type_at`
pub ruleset prefixes = (tp_none, tp_small, tp_inside, tp_first, tp_rest, rules)
