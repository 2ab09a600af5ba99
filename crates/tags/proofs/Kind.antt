-- The kind of a name: by its text, and by its local name, which follows its last colon.
use Prim.Native.Nat.{ℕ, ◌-◌, ◌≤◌, ◌<◌, ◌+◌, ◌^◌}
use mathlib.Core.Path.{◌≡◌, refl, sym, ◌∙◌, ap}
use mathlib.Core.List.{List, [], ◌∷◌}
use mathlib.Core.Bool.{Bool, true, false}
use borrow.Author.Rules.{rules}
use borrow.Author.Tests.{eqb-false}
use native.Mathlib.Omega.{arith}
use lib.Dec.{eqb}
use lib.ListN.{length, take, drop}
use Rattle.std.specs.Prelude.{Option, Some, None}
use Rattle.std.proofs.lemmas.Slice.Eq.{text_from_reads}
use Rattle.slices.specs.Bytes.{if, bytes, same, span}
use Rattle.slices.proofs.Runs.{Differs, differing}
use Rattle.slices.proofs.Ends.{run_span}
use Rattle.scan.specs.Classes.{name_byte}
use Rattle.scan.specs.Colons.{colons_from, Scanned}
use Rattle.scan.specs.declared.Colons.{Colons}
use Rattle.scan.specs.declared.Name.{Name}
use Rattle.scan.proofs.Prefixes.{Within, colons_within, name_from}
use Rattle.document.specs.Elements.{local_name, kind_of}
use Rattle.document.specs.Prefixes.{local_start}
use Rattle.document.proofs.Prefixes.{local_names}
use Rattle.tags.specs.Kinds.{numbered, exact_kinds, exact_kind, local_kind}

-- a listed name, and one that is not, by what a text is and is not
module _ {s : List ℕ} where
  pub exact_node : s ≡ bytes "node" → 1 ≡ exact_kind s
  unfolding exact_kind
  exact_node e = rw e

  pub exact_interface : s ≡ bytes "interface" → 2 ≡ exact_kind s
  unfolding exact_kind
  exact_interface e = rw e

  pub exact_method : s ≡ bytes "method" → 3 ≡ exact_kind s
  unfolding exact_kind
  exact_method e = rw e

  pub exact_property : s ≡ bytes "property" → 4 ≡ exact_kind s
  unfolding exact_kind
  exact_property e = rw e

  pub exact_signal : s ≡ bytes "signal" → 5 ≡ exact_kind s
  unfolding exact_kind
  exact_signal e = rw e

  pub exact_annotation : s ≡ bytes "annotation" → 6 ≡ exact_kind s
  unfolding exact_kind
  exact_annotation e = rw e

  pub exact_arg : s ≡ bytes "arg" → 7 ≡ exact_kind s
  unfolding exact_kind
  exact_arg e = rw e

  pub exact_none : Differs s (bytes "node") → Differs s (bytes "interface") → Differs s (bytes "method") → Differs s (bytes "property") → Differs s (bytes "signal") → Differs s (bytes "annotation") → Differs s (bytes "arg") → 0 ≡ exact_kind s
  unfolding exact_kind
  exact_none a b c d e f g = rw (a.is, b.is, c.is, d.is, e.is, f.is, g.is)

  pub local_simple_type : s ≡ bytes "simple-type" → 8 ≡ local_kind s
  unfolding local_kind
  local_simple_type e = rw e

  pub local_enum : s ≡ bytes "enum" → 9 ≡ local_kind s
  unfolding local_kind
  local_enum e = rw e

  pub local_enumvalue : s ≡ bytes "enumvalue" → 10 ≡ local_kind s
  unfolding local_kind
  local_enumvalue e = rw e

  pub local_struct : s ≡ bytes "struct" → 11 ≡ local_kind s
  unfolding local_kind
  local_struct e = rw e

  pub local_member : s ≡ bytes "member" → 12 ≡ local_kind s
  unfolding local_kind
  local_member e = rw e

  pub local_mapping : s ≡ bytes "mapping" → 13 ≡ local_kind s
  unfolding local_kind
  local_mapping e = rw e

  pub local_docstring : s ≡ bytes "docstring" → 14 ≡ local_kind s
  unfolding local_kind
  local_docstring e = rw e

  pub local_none : Differs s (bytes "simple-type") → Differs s (bytes "enum") → Differs s (bytes "enumvalue") → Differs s (bytes "struct") → Differs s (bytes "member") → Differs s (bytes "mapping") → Differs s (bytes "docstring") → 0 ≡ local_kind s
  unfolding local_kind
  local_none a b c d e f g = rw (a.is, b.is, c.is, d.is, e.is, f.is, g.is)

pub ruleset listed = (exact_node, exact_interface, exact_method, exact_property, exact_signal, exact_annotation, exact_arg, exact_none, local_simple_type, local_enum, local_enumvalue, local_struct, local_member, local_mapping, local_docstring, local_none, differing, text_from_reads, rules)

-- where all numbers are above 0, 0 says that the name is not in the list
abbrev above : List (List ℕ × ℕ) → Bool
above [] = true
above (k ∷ ks) = let r = above ks in if (eqb k.1 0) false r

in_list : (ks : List (List ℕ × ℕ)) (d : ℕ) (n : List ℕ) → above ks ≡ true → (numbered ks 0 n ≡ 0 → ⊥) → numbered ks 0 n ≡ numbered ks d n
in_list [] d n a h = absurd (h refl)
in_list (k ∷ ks) d n a h = go (eqb k.1 0) (same n k.0) a h (in_list ks d n)
  where
    go : (z t : Bool) → if z false (above ks) ≡ true → (if t k.1 (numbered ks 0 n) ≡ 0 → ⊥) → (above ks ≡ true → (numbered ks 0 n ≡ 0 → ⊥) → numbered ks 0 n ≡ numbered ks d n) → if t k.1 (numbered ks 0 n) ≡ if t k.1 (numbered ks d n)
    go z true a h i = refl
    go true false a h i = cc
    go false false a h i = i a h

not_in_list : (ks : List (List ℕ × ℕ)) (d : ℕ) (n : List ℕ) → above ks ≡ true → numbered ks 0 n ≡ 0 → numbered ks d n ≡ d
not_in_list [] d n a h = refl
not_in_list (k ∷ ks) d n a h = go (eqb k.1 0) refl (same n k.0) a h (not_in_list ks d n)
  where
    go : (z : Bool) → eqb k.1 0 ≡ z → (t : Bool) → if z false (above ks) ≡ true → if t k.1 (numbered ks 0 n) ≡ 0 → (above ks ≡ true → numbered ks 0 n ≡ 0 → numbered ks d n ≡ d) → if t k.1 (numbered ks d n) ≡ d
    go true f t a h i = cc
    go false f true a h i = absurd (eqb-false _ _ f h)
    go false f false a h i = i a h

module _ (n : List ℕ) {k : ℕ} (e : k ≡ exact_kind n) where
  pub kind_exact : (k ≡ 0 → ⊥) → k ≡ kind_of n
  unfolding kind_of exact_kind local_kind
  kind_exact h = e ∙ in_list exact_kinds (local_kind (local_name n)) n refl (λ q. h (e ∙ q))

  pub kind_local : k ≡ 0 → {l : List ℕ} {r : ℕ} → l ≡ local_name n → r ≡ local_kind l → r ≡ kind_of n
  unfolding kind_of exact_kind local_kind
  kind_local h e' q = q ∙ rw e' (sym (not_in_list exact_kinds (local_kind (local_name n)) n refl (sym e ∙ h)))

pub ruleset kinds = (kind_exact, kind_local, rules)

-- ---- the local name of the name that begins at a place

start_within : (p e : ℕ) (c : Option Colons) → p ≤ e → Within p e c → (p ≤ local_start p c) × (local_start p c ≤ e)
start_within p e None h w = (omega arith, h)
start_within p e (Some q) h w = (omega (arith, w.0, w.1), omega (arith, w.2))

module _ {doc : List ℕ} {at : ℕ} {name : Name} (g : Scanned doc at name) where
  long : at + length (span name_byte (drop at doc)) ≡ name.end
  long = sym g.run.ends

  inside : (at ≤ local_start at name.colons) × (local_start at name.colons ≤ name.end)
  inside = rw g.colons (start_within at name.end (colons_from (span name_byte (drop at doc)) at) g.run.onward (rw long at (colons_within (span name_byte (drop at doc)) at)))

  pub local_small : length doc ≤ 1048576 → local_start at name.colons < 2 ^ 64
  local_small h = omega (arith, inside.1, g.run.within)

  module _ {r : ℕ} (e : r ≡ local_start at name.colons) where
    pub local_inside : r ≤ name.end
    local_inside = rw e inside.1

    pub local_is : take (name.end - r) (drop r doc) ≡ local_name (take (name.end - at) (drop at doc))
    local_is =
        let d : local_start at (colons_from (span name_byte (drop at doc)) at) ≡ r = sym (e ∙ ap (local_start at) g.colons) in
        name_from g (rw e inside.0) (rw e inside.1) ∙ rw (← run_span g.run, local_names (span name_byte (drop at doc)) at, d)

-- what answers every need of `kind_at`
pub ruleset placed = (local_small, local_inside, local_is, rules)
