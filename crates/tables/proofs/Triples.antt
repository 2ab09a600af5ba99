-- Triples: whether one is inside, and the part that it shows.
use Prim.Native.Nat.{ℕ, ◌+◌, ◌-◌, ◌≤◌}
use native.Mathlib.Nat.{add_comm, add-zero, add-sub_cancel_left}
use mathlib.Core.Path.{◌≡◌, sym, ◌∙◌}
use mathlib.Core.List.{List, []}
use mathlib.Core.Bool.{Bool, true, false, or-false}
use borrow.Author.Rules.{rules}
use borrow.Author.Tests.{ne_eqb, leb-true}
use lib.Dec.{eqb, leb}
use lib.ListN.{length, take, drop, length-take, length-drop}
use native.Mathlib.Omega.{arith}
use Rattle.slices.specs.Bytes.{if}
use Rattle.slices.proofs.Runs.{and_both}
use Rattle.tables.specs.Triple.{inside, beginning, resolved, shown, part}
use Rattle.tables.specs.Place.{Inside, place}
use Rattle.tables.specs.declared.Triple.{Triple}

module _ (document text : List ℕ) (t : Triple) where
  pub inside_document : t.source ≡ 1 → leb (t.start + t.len) (length document) ≡ inside document text t
  inside_document e = sym (rw e (or-false (leb (t.start + t.len) (length document))))

  pub inside_text : t.source ≡ 2 → leb (t.start + t.len) (length text) ≡ inside document text t
  inside_text e = rw e

  pub inside_neither : (t.source ≡ 1 → ⊥) → (t.source ≡ 2 → ⊥) → false ≡ inside document text t
  inside_neither p q = rw (ne_eqb t.source 1 p, ne_eqb t.source 2 q)

  -- b is what the test of the triple gave
  module _ (b : Bool) (q : b ≡ inside document text t) where
    pub inside_holds : b ≡ true → Inside document text t
    inside_holds e = record { holds = sym q ∙ e }

    pub resolved_inside : b ≡ true → t ≡ resolved document text t
    resolved_inside e = rw (sym q ∙ e)

    pub resolved_outside : b ≡ false → beginning ≡ resolved document text t
    resolved_outside e = rw (sym q ∙ e)

    pub shown_outside : b ≡ false → [] ≡ shown document text t
    unfolding shown
    shown_outside e = rw (sym q ∙ e)

    pub place_outside : (d x : ℕ × ℕ) → b ≡ false → d ≡ place d x (resolved document text t)
    place_outside d x e = rw (sym q ∙ e, add-zero)

module _ {document text : List ℕ} {t : Triple} (g : Inside document text t) where
  pub document_end : t.source ≡ 1 → t.start + t.len ≤ length document
  document_end s = leb-true _ _ (inside_document document text t s ∙ g.holds)

  pub text_end : (t.source ≡ 1 → ⊥) → t.start + t.len ≤ length text
  text_end s = leb-true _ _ (and_both (eqb t.source 2) (leb (t.start + t.len) (length text)) (rw (ne_eqb t.source 1 s) at g.holds)).1

  pub shown_document : t.source ≡ 1 → take (t.start + t.len - t.start) (drop t.start document) ≡ shown document text t
  unfolding shown
  shown_document s = rw (g.holds, s, add-sub_cancel_left)

  pub shown_text : (t.source ≡ 1 → ⊥) → take (t.start + t.len - t.start) (drop t.start text) ≡ shown document text t
  unfolding shown
  shown_text s = rw (g.holds, ne_eqb t.source 1 s, add-sub_cancel_left)

  module _ (d x : ℕ × ℕ) where
    pub place_document : t.source ≡ 1 → (d.0, t.start + d.1) ≡ place d x (resolved document text t)
    place_document s = rw (g.holds, s, add_comm t.start)

    pub place_text : (t.source ≡ 1 → ⊥) → (x.0, t.start + x.1) ≡ place d x (resolved document text t)
    place_text s = rw (g.holds, ne_eqb t.source 1 s, add_comm t.start)

-- what answers every need of the functions on triples
pub ruleset triples =
    (inside_document, inside_text, inside_neither, inside_holds, resolved_inside, resolved_outside, shown_outside, place_outside, document_end, text_end, shown_document, shown_text, place_document, place_text, rules)

-- no triple shows more than the longer buffer
short-part : (d x : List ℕ) (t : Triple) → length d ≤ 1048576 → length x ≤ 1048576 → length (part d x t) ≤ 1048576
short-part d x t h k = go (eqb t.source 1)
  where
    go : (b : Bool) → length (if b (take t.len (drop t.start d)) (take t.len (drop t.start x))) ≤ 1048576
    go true = omega (arith, h, length-take t.len (drop t.start d), length-drop t.start d)
    go false = omega (arith, k, length-take t.len (drop t.start x), length-drop t.start x)

pub short_shown : (d x : List ℕ) (t : Triple) → length d ≤ 1048576 → length x ≤ 1048576 → length (shown d x t) ≤ 1048576
unfolding shown
short_shown d x t h k = short-part d x (resolved d x t) h k
