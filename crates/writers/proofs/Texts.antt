-- Laws of putting what rows show.
use Prim.Native.Nat.{ℕ, suc, ◌+◌, ◌-◌, ◌*◌, ◌≤◌, ◌<◌, ◌^◌}
use native.Mathlib.Omega.{arith}
use mathlib.Core.Path.{◌≡◌, ap, sym, ◌∙◌}
use mathlib.Core.List.{List, [], ◌∷◌, ◌++◌, append_assoc, append-nil}
use mathlib.Core.Bool.{Bool, true, false}
use borrow.Author.Rules.{rules}
use lib.ListN.{length, drop, length-append}
use Rattle.slices.specs.Bytes.{bytes}
use Rattle.tables.specs.Triple.{shown}
use Rattle.tables.specs.declared.Triple.{Triple}
use Rattle.tables.proofs.Triples.{short_shown}
use Rattle.answers.specs.Puts.{Puts}
use Rattle.answers.proofs.Putting.{puts_none, puts_then, puts_as}
use Rattle.references.specs.Escape.{escape}
use Rattle.references.proofs.Escapes.{escape_most}
use Rattle.document.specs.Kinds as kinds
use Rattle.items.specs.Words.{triple_at, absent, word_at, Word, TripleIs}
use Rattle.items.specs.Written.{Pair, pairs, optional, tag, written_annotation}
use Rattle.items.proofs.Written.{pairs-append}
use Rattle.items.proofs.Words.{present_shown}
use Rattle.writers.specs.Rows.{Child, RowHeld}
use Rattle.writers.proofs.Rows.{give_annotations, write_one, write_none}
use Rattle.writers.proofs.Appending.{Appending, append_begins, append_ends, append_more}
use Rattle.writers.specs.Writes.{ShownAt, ShownPut, annotation_at, AnnotationPut, if_annotation, IfAnnotationPut, Scannable, annotations_in, AnnotationsPut, name_at, type_at, direction_at, PairsPut, DirectionPut, ArgTagPut}

module _ {d x ws : List ℕ} {i k : ℕ} where
  pub shown_is : {t : Triple} {s : List ℕ} → length d ≤ 1048576 → length x ≤ 1048576 → TripleIs ws i k t → s ≡ shown d x t → ShownAt d x ws i k s
  shown_is {t} a b p g = record { is = g ∙ ap (shown d x) p.is; short = rw g (short_shown d x t a b) }

  pub shown_put : {s before t t' : List ℕ} {n r : ℕ} → ShownAt d x ws i k s → Puts (before ++ escape s) n t t' r → ShownPut d x ws i k before n t t' r
  shown_put {s} {before} e p = record {
    puts = rw e.is at p;
    most = omega (arith, p.counts, length-append before (escape s), escape_most s, e.short);
  }

-- an attribute's end and the next one's beginning
regroup : (e f p q : List ℕ) → e ++ ((34 ∷ p ++ f) ++ (34 ∷ q)) ≡ ((e ++ 34 ∷ []) ++ ((p ++ (f ++ 34 ∷ [])) ++ [])) ++ q
regroup e f p q = simp (append_assoc, append-nil)

annotation_bytes : (n v : List ℕ) → (bytes "<annotation name=\"" ++ escape n) ++ ((bytes "\" value=\"" ++ escape v) ++ bytes "\"/>") ≡ written_annotation (record { name = n; value = v })
unfolding tag
annotation_bytes n v = ap (λ l. bytes "<annotation name=\"" ++ l) (regroup (escape n) (escape v) (bytes " value=\"") (bytes "/>"))

pub annotation_put : {d x ws t t₁ t₂ t₃ : List ℕ} {i n m l r : ℕ} → ShownPut d x ws i 2 (bytes "<annotation name=\"") n t t₁ m → ShownPut d x ws i 5 (bytes "\" value=\"") m t₁ t₂ l → Puts (bytes "\"/>") l t₂ t₃ r → AnnotationPut d x ws i n t t₃ r
unfolding annotation_at
annotation_put {d} {x} {ws} {i = i} p q s =
    let w = drop (i * 16) ws in
    let nm = shown d x (triple_at 2 w) in
    let vl = shown d x (triple_at 5 w) in
    record {
      puts =
          rw (present_shown d x (triple_at 2 w), present_shown d x (triple_at 5 w), sym (annotation_bytes nm vl))
          (puts_then p.puts (puts_then q.puts s));
      most = omega (arith, p.most, q.most, s.counts);
    }

module _ {d x ws t t' : List ℕ} {p i n r : ℕ} {b : Bool} (c : Child ws kinds.annotation p i b) where
  pub annotation_is : b ≡ true → AnnotationPut d x ws i n t t' r → IfAnnotationPut d x ws p i n t t' r
  unfolding if_annotation
  annotation_is f q = record { puts = rw (sym c.is ∙ f) q.puts; most = q.most }

pub annotation_not : {d x ws t : List ℕ} {p i n : ℕ} {b : Bool} → Child ws kinds.annotation p i b → b ≡ false → IfAnnotationPut d x ws p i n t t n
unfolding if_annotation
annotation_not c f = record { puts = rw (sym c.is ∙ f) puts_none; most = omega arith }

-- a loop over the rows from one on up to another, that puts annotations
module _ {ws : List ℕ} {from to n : ℕ} (w : Scannable ws from to n) where
  module _ {k : ℕ} (h : k < to) where
    pub note_held : RowHeld ws k
    note_held = record { few = omega (arith, h, w.few); held = omega (arith, h, w.held) }

    pub note_room : {rest : ℕ → List ℕ} {t₀ t : List ℕ} {m : ℕ} → Appending rest 16777216 from to n t₀ t k m → m + 16777216 < 2 ^ 62
    note_room g = omega (arith, h, g.most, g.onward, w.room)

module _ {d x ws t₀ t : List ℕ} {p from to n k m : ℕ} (g : Appending (λ j. annotations_in d x ws p j to) 16777216 from to n t₀ t k m) where
  pub note_ends : to ≤ k → AnnotationsPut d x ws p from to n t₀ t m
  unfolding annotations_in
  note_ends h = record {
    puts = append_ends g (write_none (give_annotations p) written_annotation d x ws k to h);
    most = omega (arith, h, g.most, g.within);
  }

  pub note_more : {t' : List ℕ} {r : ℕ} → k < to → length t' ≡ length t → IfAnnotationPut d x ws p k m t t' r → Appending (λ j. annotations_in d x ws p j to) 16777216 from to n t₀ t' (k + 1) r
  unfolding if_annotation annotation_at annotations_in
  note_more h s q = append_more g h (write_one (give_annotations p) written_annotation d x ws k to h) s q.puts q.most

-- the attributes of an arg
attribute_ends : (before s : List ℕ) → (before ++ s) ++ bytes "\"" ≡ before ++ ((s ++ 34 ∷ []) ++ [])
attribute_ends before s = simp (append_assoc, append-nil)

pub arg_unnamed : (d x : List ℕ) {ws t : List ℕ} {i n : ℕ} {y : Triple} {b : Bool} → TripleIs ws i 2 y → b ≡ absent y → b ≡ true → PairsPut (optional (name_at d x ws i)) n t t n
unfolding name_at
arg_unnamed d x e a f = record { puts = rw (ap absent (sym e.is) ∙ sym a ∙ f) puts_none; most = omega arith }

module _ {d x ws : List ℕ} {i n : ℕ} where
  pub arg_named : {t t₁ t₂ : List ℕ} {m r : ℕ} {y : Triple} {b : Bool} → TripleIs ws i 2 y → b ≡ absent y → b ≡ false → ShownPut d x ws i 2 (bytes " name=\"") n t t₁ m → Puts (bytes "\"") m t₁ t₂ r → PairsPut (optional (name_at d x ws i)) n t t₂ r
  unfolding name_at
  arg_named e a f p q = record {
    puts = rw (ap absent (sym e.is) ∙ sym a ∙ f) (puts_as (attribute_ends (bytes " name=\"") (escape (shown d x (triple_at 2 (drop (i * 16) ws))))) (puts_then p.puts q));
    most = omega (arith, p.most, q.counts);
  }

  pub arg_typed : {t t₁ t₂ : List ℕ} {m r : ℕ} → ShownPut d x ws i 5 (bytes " type=\"") n t t₁ m → Puts (bytes "\"") m t₁ t₂ r → PairsPut (type_at d x ws i) n t t₂ r
  unfolding type_at
  arg_typed p q = record {
    puts = puts_as (attribute_ends (bytes " type=\"") (escape (shown d x (triple_at 5 (drop (i * 16) ws))))) (puts_then p.puts q);
    most = omega (arith, p.most, q.counts);
  }

module _ {ws : List ℕ} {i n w : ℕ} (e : Word ws i 14 w) where
  pub direction_none : {t : List ℕ} → w ≡ 0 → DirectionPut ws i n t t n
  unfolding direction_at
  direction_none f = record { puts = rw (sym e.is ∙ f) puts_none; most = omega arith }

  module _ {t t' : List ℕ} {r : ℕ} where
    pub direction_inward : w ≡ 1 → Puts (bytes " direction=\"in\"") n t t' r → DirectionPut ws i n t t' r
    unfolding direction_at escape
    direction_inward f p = record { puts = rw (sym e.is ∙ f) p; most = omega (arith, p.counts) }

    pub direction_outward : (w ≡ 0 → ⊥) → (w ≡ 1 → ⊥) → Puts (bytes " direction=\"out\"") n t t' r → DirectionPut ws i n t t' r
    unfolding direction_at escape
    direction_outward f g p =
        let z : word_at ws i 14 ≡ suc (suc (w - 2)) = sym e.is ∙ omega (arith, f, g) in
        record { puts = rw z p; most = omega (arith, p.counts) }

pub arg_tag : {d x ws t t₁ t₂ t₃ t₄ : List ℕ} {i n m l k r : ℕ} → Puts (bytes "<arg") n t t₁ m → PairsPut (optional (name_at d x ws i)) m t₁ t₂ l → PairsPut (type_at d x ws i) l t₂ t₃ k → DirectionPut ws i k t₃ t₄ r → ArgTagPut d x ws i n t t₄ r
arg_tag {d} {x} {ws} {i = i} p q s w = record {
  puts = puts_as (tag_bytes (optional (name_at d x ws i)) (type_at d x ws i) (direction_at ws i)) (puts_then p (puts_then q.puts (puts_then s.puts w.puts)));
  most = omega (arith, p.counts, q.most, s.most, w.most);
}
  where
    tag_bytes : (ps qs rs : List Pair) → bytes "<arg" ++ (pairs ps ++ (pairs qs ++ pairs rs)) ≡ bytes "<arg" ++ pairs (ps ++ (qs ++ rs))
    tag_bytes ps qs rs = ap (λ l. bytes "<arg" ++ l) (ap (◌++◌ (pairs ps)) (sym (pairs-append qs rs)) ∙ sym (pairs-append ps (qs ++ rs)))

pub ruleset texts = (shown_is, shown_put, annotation_put, annotation_is, annotation_not, rules)

pub ruleset notes = (append_begins, note_ends, note_held, note_room, rules)

pub ruleset tags = (arg_unnamed, arg_named, arg_typed, direction_none, direction_inward, direction_outward, arg_tag, rules)
