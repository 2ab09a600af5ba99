-- A part of a text whose beginning is well-formed, by the bytes at its two ends.
use Prim.Native.Nat.{ℕ, ◌+◌, ◌≤◌, ◌<◌}
use mathlib.Core.Path.{◌≡◌, sym, ap, ◌∙◌}
use mathlib.Core.List.{List}
use native.Mathlib.Nat.{add-zero}
use native.Mathlib.Omega.{arith}
use lib.ListN.{length, take, drop, get_or, length-drop, take-append-drop}
use lib.Seq.{length-take-le, take-append-le, drop-append-le, get_or-take, get_or-drop}
use Rattle.utf8.specs.WellFormed.{ill_formed}
use Rattle.utf8.specs.Trim.{Boundary, Start}
use Rattle.utf8.proofs.Sequences.{below}
use Rattle.utf8.proofs.Texts.{whole, formed, bounded, start_whole}
use Rattle.utf8.proofs.Cuts.{Lead, cut_lead, cut_start, cut-end, cut_past, cut_is_lead, part_formed}

pub start_none : (s : List ℕ) → Start s 0
unfolding ill_formed
start_none s = record { inside = omega arith; is = omega arith }

pub start_found : (s : List ℕ) → Start s (ill_formed s)
start_found s = record { inside = bounded s; is = formed (start_whole s) ∙ length-take-le (ill_formed s) s (bounded s) }

-- the place u, or one before it with a byte that continues no character
abbrev pub Edge : List ℕ → ℕ → ℕ → Type 0
Edge s u k = k < u → Lead (get_or s k 0)

module _ (s : List ℕ) (u : ℕ) (g : Start s u) where
  long : length (take u s) ≡ u
  long = length-take-le u s g.inside

  well : ill_formed (take u s) ≡ length (take u s)
  well = g.is ∙ sym long

  edge_cut : (k : ℕ) → k ≤ u → Edge s u k → Boundary (take u s) k
  edge_cut k l e =
      below k u
      (λ h. cut_lead (take u s) k well (omega (arith, long)) (rw (get_or-take u s k 0 h) (e h)))
      (λ h. let z : k ≡ length (take u s) = omega (arith, long) in rw z (cut-end (take u s) well))

  cut_edge : (k : ℕ) → Boundary (take u s) k → Edge s u k
  cut_edge k b h = rw (get_or-take u s k 0 h) at (cut_is_lead (take u s) k b (omega (arith, long)))

  module _ (a n : ℕ) (l : a + n ≤ u) where
    same : take n (drop a (take u s)) ≡ take n (drop a s)
    same =
        let i : a ≤ length (take u s) = omega (arith, long) in
        let j : n ≤ length (drop a (take u s)) = omega (arith, long, length-drop a (take u s)) in
        sym
        (rw (take-append-drop u s) at
        (ap (take n) (drop-append-le a (take u s) (drop u s) i) ∙ take-append-le n (drop a (take u s)) (drop u s) j))

    -- the part between two such places is well-formed
    pub edges_formed : Edge s u a → Edge s u (a + n) → ill_formed (take n (drop a s)) ≡ length (take n (drop a s))
    edges_formed e f =
        rw same at (part_formed (take u s) a n (edge_cut a (omega arith) e) (edge_cut (a + n) l f))

    -- a part that is well-formed, and not empty, lies between two such places
    module _ (m : 0 < n) (h : ill_formed (take n (drop a s)) ≡ length (take n (drop a s))) where
      pub first_edge : Edge s u a
      first_edge k =
          let r : n ≤ length (drop a s) = omega (arith, length-drop a s, g.inside) in
          let c = cut_is_lead (take n (drop a s)) 0 (cut_start (take n (drop a s)) h) (omega (arith, length-take-le n (drop a s) r)) in
          rw (get_or-take n (drop a s) 0 0 m, get_or-drop a s 0 0, add-zero a) at c

      pub last_edge : Edge s u (a + n)
      last_edge =
          cut_edge (a + n)
          (cut_past (take u s) a n (edge_cut a (omega arith) first_edge) (omega (arith, long)) (rw same (whole (take n (drop a s)) h)))
