-- Parts of a buffer whose beginning is known to be UTF-8.
use Prim.Native.Nat.{ℕ, zero, suc, ◌+◌, ◌-◌, ◌≤◌, ◌<◌}
use mathlib.Core.Path.{◌≡◌, refl, sym, ◌∙◌}
use mathlib.Core.List.{List, [], ◌∷◌}
use mathlib.Core.Bool.{Bool, true, false}
use borrow.Author.Rules.{rules}
use borrow.Author.Tests.{eq-eqb, ne_eqb, lt-ltb, le-ltb}
use native.Mathlib.Omega.{arith}
use lib.Dec.{eqb, ltb}
use lib.ListN.{length, take, drop, get_or, length-drop}
use lib.Seq.{length-take-le, drop-cons}
use Rattle.slices.specs.Run.{Run}
use Rattle.utf8.specs.WellFormed.{sequence, ill_formed, well_formed}
use Rattle.utf8.specs.Sequence.{continuation}
use Rattle.utf8.specs.Ascii.{ascii}
use Rattle.utf8.specs.Trim.{Start}
use Rattle.utf8.proofs.Sequences.{below, within_true, within_false, shape}
use Rattle.utf8.proofs.Texts.{formed, whole_char, ascii_char, sequence_none}
use Rattle.utf8.proofs.Parts.{Edge, start_none, start_found, edges_formed, first_edge, last_edge}
use Rattle.soundness.specs.declared.ends.Look.{Look}
use Rattle.soundness.specs.declared.ends.Look.TheVariants.{Whole, Ascii, Nothing}
use Rattle.soundness.specs.Outcome.{Knows, edge}

-- ---- one end

module _ (s : List ℕ) (u at : ℕ) where
  edge_yes : edge s u at ≡ true → Edge s u at
  unfolding edge
  edge_yes e h a b =
      let z : ◌≡◌ {A = Bool} false true = rw (ne_eqb at u (λ q. omega arith), within_true continuation (get_or s at 0) a b) at e in
      let y : ◌≡◌ {A = ℕ} 0 1 = cc in
      omega arith

  edge_no : at ≤ u → Edge s u at → edge s u at ≡ true
  unfolding edge
  edge_no l e =
      below at u
      (λ h. rw (ne_eqb at u (λ q. omega arith), within_false continuation (get_or s at 0) (e h)))
      (λ h. rw (eq-eqb at u (omega arith)))

-- ---- a part by all its bytes

-- a byte from 128 on is no character by itself
lone : (b : ℕ) → 128 ≤ b → ill_formed (b ∷ []) ≡ 0
lone b h = go (sequence (b ∷ [])) refl
  where
    go : (k : ℕ) → sequence (b ∷ []) ≡ k → ill_formed (b ∷ []) ≡ 0
    go zero e = sequence_none (b ∷ []) e
    go (suc k) e =
        let g = shape b k [] e in
        below b 0xe0
        (λ i. absurd (omega (arith, g.leads.2 h i, g.room)))
        (λ i. below b 0xf0 (λ j. absurd (omega (arith, g.leads.3 i j, g.room))) (λ j. absurd (omega (arith, g.leads.4 j, g.room))))

one_byte : (b : ℕ) → ltb b 128 ≡ well_formed (b ∷ [])
one_byte b =
    below b 128
    (λ h. rw (lt-ltb b 128 h, formed (whole_char (ascii_char h))))
    (λ h. rw (le-ltb b 128 h, lone b h))

module _ (s : List ℕ) (a e : ℕ) (l : a < e) (m : e ≤ length s) where
  pub checked_one : e - a ≡ 1 → ltb (get_or s a 0) 128 ≡ well_formed (take (e - a) (drop a s))
  checked_one z = rw (z, drop-cons s a 0 (omega arith)) (one_byte (get_or s a 0))

  pub checked_all : {p : List ℕ} {i : ℕ} → i ≡ ill_formed p → p ≡ take (e - a) (drop a s) → eqb i (e - a) ≡ well_formed (take (e - a) (drop a s))
  checked_all h q =
      let z : length (take (e - a) (drop a s)) ≡ e - a = length-take-le (e - a) (drop a s) (omega (arith, length-drop a s)) in
      rw (h, q, z)

pub ruleset checked = (checked_one, checked_all, rules)

-- ---- a part

pub part_none : (s : List ℕ) (a n : ℕ) → n ≡ 0 → true ≡ well_formed (take n (drop a s))
unfolding ill_formed
part_none s a n e = rw e

module _ (s : List ℕ) (a n : ℕ) where
  pub part_checked : {r : Bool} → r ≡ well_formed (take (a + n - a) (drop a s)) → r ≡ well_formed (take n (drop a s))
  part_checked h = let z : a + n - a ≡ n = omega arith in rw z at h

  -- by its two ends
  module _ {u : ℕ} (i : u ≤ length s) (w : ill_formed (take u s) ≡ u) (m : n ≡ 0 → ⊥) (k : a + n ≤ u) {b : Bool} (f : b ≡ edge s u a) where
    start : Start s u
    start = record { inside = i; is = w }

    pub part_begins : b ≡ false → false ≡ well_formed (take n (drop a s))
    part_begins q =
        sym
        (ne_eqb (ill_formed (take n (drop a s))) (length (take n (drop a s)))
        (λ h. let z : ◌≡◌ {A = Bool} false true = sym q ∙ f ∙ edge_no s u a (omega arith) (first_edge s u start a n k (omega arith) h) in
        let y : ◌≡◌ {A = ℕ} 0 1 = cc in
        omega arith))

    pub part_ends : {r : Bool} → b ≡ true → r ≡ edge s u (a + n) → r ≡ well_formed (take n (drop a s))
    part_ends {r} q e = go r refl
      where
        go : (t : Bool) → r ≡ t → r ≡ well_formed (take n (drop a s))
        go true z =
            z
            ∙ sym
            (eq-eqb (ill_formed (take n (drop a s))) (length (take n (drop a s)))
            (edges_formed s u start a n k (edge_yes s u a (sym f ∙ q)) (edge_yes s u (a + n) (sym e ∙ z))))
        go false z =
            z
            ∙ sym
            (ne_eqb (ill_formed (take n (drop a s))) (length (take n (drop a s)))
            (λ h. let w : ◌≡◌ {A = Bool} false true = sym z ∙ e ∙ edge_no s u (a + n) k (last_edge s u start a n k (omega arith) h) in
            let y : ◌≡◌ {A = ℕ} 0 1 = cc in
            omega arith))

pub ruleset parts = (part_none, part_checked, part_begins, part_ends, rules)

-- ---- how much of a buffer is UTF-8

module _ {s : List ℕ} {look : Look} {r : ℕ} where
  pub looked_whole : look ≡ Whole → r ≡ ill_formed s → Knows look s r
  looked_whole l e = rw l record { is = e; start = rw e (start_found s) }

  pub looked_ascii : look ≡ Ascii → Run ascii s 0 r → Start s r → Knows look s r
  looked_ascii l g b = rw l record { is = g; start = b }

pub looked_nothing : (s : List ℕ) {look : Look} → look ≡ Nothing → Knows look s 0
looked_nothing s l = rw l record { is = refl; start = start_none s }

pub ruleset looks = (looked_ascii, rules)
