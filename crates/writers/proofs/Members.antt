-- Laws of writing a method or a signal: its args and annotations are those among the rows after it.
use Prim.Native.Nat.{ℕ, suc, ◌+◌, ◌-◌, ◌*◌, ◌≤◌, ◌<◌}
use native.Mathlib.Omega.{arith}
use mathlib.Core.Path.{◌≡◌, refl, ap, sym, ◌∙◌}
use mathlib.Core.List.{List, [], ◌∷◌, ◌++◌, map, append_assoc, append-nil}
use mathlib.Core.Bool.{Bool, true, false, not, ◌||◌}
use borrow.Author.Rules.{rules}
use borrow.Author.Tests.{eq-eqb, ne_eqb}
use lib.ListN.{length, drop}
use Rattle.slices.specs.Bytes.{bytes, empty}
use Rattle.tables.specs.Triple.{shown}
use Rattle.answers.specs.Puts.{Puts}
use Rattle.answers.proofs.Putting.{puts_none, puts_then, puts_as}
use Rattle.references.specs.Escape.{escape}
use Rattle.document.specs.Kinds as kinds
use Rattle.items.specs.Words.{triple_at, rows_shown, shown_row}
use Rattle.items.specs.Written.{Arg, named, tag, closing_tag, concat, written_annotation, written_arg, written_member}
use Rattle.items.specs.Content.{annotations, args, member_of}
use Rattle.items.proofs.Words.{present_shown}
use Rattle.items.proofs.Written.{concat-append}
use Rattle.writer.specs.Counts.{CountFits}
use Rattle.writers.specs.Rows.{words_in, rows_in, any_child, Child, SomeChildren, Held, RowHeld, Last}
use Rattle.writers.specs.Writes.{annotations_in, ArgPut, if_arg, IfArgPut, ArgsScannable, Turn, args_in, tag_of, MemberTagPut, MemberEndPut, MemberScannable, ChildrenPut, MemberPut, KindPut}
use Rattle.writers.proofs.Scans.{last_all}
use Rattle.writers.proofs.Rows.{give_annotations, give_args, write_one, write_none, any_given, own_given}
use Rattle.writers.proofs.Appending.{Appending, append_begins, append_ends, append_more}
use Rattle.writers.proofs.Args.{element_bare, element_full, empty_map, notes_of}

-- one row, if it is an arg
module _ {ws : List ℕ} {m p i n : ℕ} {b : Bool} (c : Child ws kinds.arg p i b) where
  pub arg_not : {d x t : List ℕ} → b ≡ false → IfArgPut d x ws m p i n t t n
  unfolding if_arg
  arg_not f = record { puts = rw (sym c.is ∙ f) puts_none; most = omega arith }

  module _ {o : Bool} (h : Turn ws m p o i n) where
    module _ {to : ℕ} (l : Last ws m i to) where
      pub arg_there : {d x t t' : List ℕ} {r : ℕ} → b ≡ true → ArgPut d x ws i to n t t' r → IfArgPut d x ws m p i n t t' r
      unfolding if_arg
      arg_there f q = record { puts = rw (sym c.is ∙ f) (q.puts m h.held l); most = omega (arith, l.within, h.held.few, q.most) }

pub ruleset turns = (arg_not, arg_there, rules)

-- a loop over the rows from row p on, that puts args
module _ {ws : List ℕ} {m p : ℕ} {o : Bool} (w : ArgsScannable ws m p o) where
  pub argue_turn : {rest : ℕ → List ℕ} {t₀ t : List ℕ} {n k l : ℕ} → Appending rest 4398046511104 p m n t₀ t k l → k < m → CountFits n 2305843009213693952 → Turn ws m p o k l
  argue_turn g h s = record {
    held = w.held;
    after = g.onward;
    within = h;
    orders = w.orders;
    room = omega (arith, h, g.most, g.onward, w.held.few, s.fits);
  }

  pub argue_ends : (d x : List ℕ) {t₀ t : List ℕ} {n k l : ℕ} → Appending (args_in d x ws m p) 4398046511104 p m n t₀ t k l → m ≤ k → KindPut (args_in d x ws m p p) n t₀ t l
  unfolding args_in
  argue_ends d x {k = k} g h = record {
    puts = append_ends g (write_none (give_args (rows_shown d x ws m) p) written_arg d x ws k m h);
    most = omega (arith, g.most, g.within, w.held.few);
  }

pub argue_more : {d x ws t₀ t t' : List ℕ} {m p n k l r : ℕ} → Appending (args_in d x ws m p) 4398046511104 p m n t₀ t k l → k < m → length t' ≡ length t → IfArgPut d x ws m p k l t t' r → Appending (args_in d x ws m p) 4398046511104 p m n t₀ t' (k + 1) r
unfolding if_arg args_in
argue_more {d} {x} {ws} {m = m} {p = p} {k = k} g h s q = append_more g h (write_one (give_args (rows_shown d x ws m) p) written_arg d x ws k m h) s q.puts q.most

pub ruleset argues = (append_begins, argue_ends, argue_more, argue_turn, rules)

-- the closing tags
module _ {t t' : List ℕ} {kind n r : ℕ} where
  pub end_method : kind ≡ kinds.method → Puts (bytes "</method>") n t t' r → MemberEndPut kind n t t' r
  unfolding closing_tag
  end_method e p = record { puts = rw (eq-eqb kind kinds.method e) p }

  pub end_signal : (kind ≡ kinds.method → ⊥) → Puts (bytes "</signal>") n t t' r → MemberEndPut kind n t t' r
  unfolding closing_tag
  end_signal e p = record { puts = rw (ne_eqb kind kinds.method e) p }

pub ruleset tags = (end_method, end_signal, rules)

-- what is put of the children
module _ {ws : List ℕ} {m i p : ℕ} (h : MemberScannable ws m i) (e : p ≡ i + 1) where
  pub children_put : {d x t t₁ t₂ : List ℕ} {n l r : ℕ} → KindPut (args_in d x ws m p p) n t t₁ l → KindPut (annotations_in d x ws p p m) l t₁ t₂ r → ChildrenPut d x ws m i n t t₂ r
  children_put {d} {x} q w =
      let f : p ≡ suc i = omega (arith, e) in
      record {
        puts = puts_as (ap (λ k. args_in d x ws m k k ++ annotations_in d x ws k k m) f) (puts_then q.puts w.puts);
        most = omega (arith, q.most, w.most);
      }

pub member_within : {ws : List ℕ} {m i : ℕ} → MemberScannable ws m i → i < m
member_within h = h.within

pub ruleset inner = (children_put, member_within, rules)

some_of : (l r : List (List ℕ)) → not (empty (l ++ r)) ≡ not (empty l) || not (empty r)
some_of [] r = refl
some_of (c ∷ l) r = refl

-- a name's end and what follows it
bare_group : (g b e q : List ℕ) → (g ++ (b ++ e)) ++ (34 ∷ q) ≡ g ++ (((b ++ (e ++ 34 ∷ [])) ++ []) ++ q)
bare_group g b e q = simp (append_assoc, append-nil)

full_group : (g b e w : List ℕ) → (g ++ (b ++ e)) ++ (34 ∷ 62 ∷ w) ≡ (g ++ (((b ++ (e ++ 34 ∷ [])) ++ []) ++ 62 ∷ [])) ++ w
full_group g b e w = simp (append_assoc, append-nil)

-- the member of row i: its name, args and annotations
abbrev args_of : List ℕ → List ℕ → List ℕ → ℕ → ℕ → List Arg
args_of d x ws m i = args (rows_shown d x ws m) (suc i) (suc i) (rows_in d x ws (suc i) (m - suc i))

abbrev children_of : List ℕ → List ℕ → List ℕ → ℕ → ℕ → List (List ℕ)
children_of d x ws m i = map written_arg (args_of d x ws m i) ++ map written_annotation (notes_of d x ws i m)

abbrev name_of : List ℕ → List ℕ → List ℕ → ℕ → List ℕ
name_of d x ws i = shown d x (triple_at 2 (drop (i * 16) ws))

module _ (d x ws : List ℕ) (m i kind : ℕ) (h : Held ws m) (o : i < m) where
  member_is : member_of (rows_shown d x ws m) i (shown_row d x ws i) ≡ record { name = name_of d x ws i; args = args_of d x ws m i; annotations = notes_of d x ws i m }
  member_is =
      let a = own_given (give_args (rows_shown d x ws m) (suc i)) d x ws m m h (last_all o) in
      let n = own_given (give_annotations (suc i)) d x ws m m h (last_all o) in
      let s = present_shown d x (triple_at 2 (drop (i * 16) ws)) in
      λ j. record { name = s j; args = a j; annotations = n j }

  some_inside : {p : ℕ} {b : Bool} → p ≡ i + 1 → SomeChildren ws p m b → b ≡ not (empty (children_of d x ws m i))
  some_inside {p} e c =
      let f : p ≡ suc i = omega (arith, e) in
      let rs = words_in ws (suc i) (m - suc i) in
      let a = any_given (give_args (rows_shown d x ws m) (suc i)) d x (suc i) rs ∙ ap not (sym (empty_map written_arg (args_of d x ws m i))) in
      let n = any_given (give_annotations (suc i)) d x (suc i) rs ∙ ap not (sym (empty_map written_annotation (notes_of d x ws i m))) in
      c.is
      ∙ ap (λ q. any_child kinds.arg q (words_in ws q (m - q)) || any_child kinds.annotation q (words_in ws q (m - q))) f
      ∙ ap (λ u. u || any_child kinds.annotation (suc i) rs) a
      ∙ ap (λ u. not (empty (map written_arg (args_of d x ws m i))) || u) n
      ∙ sym (some_of (map written_arg (args_of d x ws m i)) (map written_annotation (notes_of d x ws i m)))

  member_bare_bytes : not (empty (children_of d x ws m i)) ≡ false → (60 ∷ tag_of kind ++ (bytes " name=\"" ++ escape (name_of d x ws i))) ++ bytes "\"/>" ≡ written_member (tag_of kind) (member_of (rows_shown d x ws m) i (shown_row d x ws i))
  unfolding tag
  member_bare_bytes f =
      ap (◌∷◌ 60) (bare_group (tag_of kind) (bytes " name=\"") (escape (name_of d x ws i)) (bytes "/>"))
      ∙ sym (element_bare (tag_of kind) (named (name_of d x ws i) ∷ []) (children_of d x ws m i) f)
      ∙ ap (written_member (tag_of kind)) (sym member_is)

  member_full_bytes : not (empty (children_of d x ws m i)) ≡ true → (60 ∷ tag_of kind ++ (bytes " name=\"" ++ escape (name_of d x ws i))) ++ (bytes "\">" ++ ((args_in d x ws m (suc i) (suc i) ++ annotations_in d x ws (suc i) (suc i) m) ++ closing_tag (tag_of kind))) ≡ written_member (tag_of kind) (member_of (rows_shown d x ws m) i (shown_row d x ws i))
  unfolding tag args_in annotations_in
  member_full_bytes f =
      ap (λ l. (60 ∷ tag_of kind ++ (bytes " name=\"" ++ escape (name_of d x ws i))) ++ (bytes "\">" ++ (l ++ closing_tag (tag_of kind)))) (sym (concat-append (map written_arg (args_of d x ws m i)) (map written_annotation (notes_of d x ws i m))))
      ∙ ap (◌∷◌ 60) (full_group (tag_of kind) (bytes " name=\"") (escape (name_of d x ws i)) (concat (children_of d x ws m i) ++ closing_tag (tag_of kind)))
      ∙ sym (element_full (tag_of kind) (named (name_of d x ws i) ∷ []) (children_of d x ws m i) f)
      ∙ ap (written_member (tag_of kind)) (sym member_is)

module _ {d x ws t t₁ : List ℕ} {m i kind n l : ℕ} (h : MemberScannable ws m i) (q : MemberTagPut d x ws i kind n t t₁ l) {b : Bool} (c : SomeChildren ws (i + 1) m b) where
  pub member_bare : {t₂ : List ℕ} {r : ℕ} → b ≡ false → Puts (bytes "\"/>") l t₁ t₂ r → MemberPut d x ws m i kind n t t₂ r
  member_bare f s = record {
    puts = puts_as (member_bare_bytes d x ws m i kind h.held h.within (sym (some_inside d x ws m i kind h.held h.within refl c) ∙ f)) (puts_then q.puts s);
  }

  pub member_full : {t₂ t₃ t₄ : List ℕ} {u v r : ℕ} → b ≡ true → Puts (bytes "\">") l t₁ t₂ u → ChildrenPut d x ws m i u t₂ t₃ v → MemberEndPut kind v t₃ t₄ r → MemberPut d x ws m i kind n t t₄ r
  member_full f s w z = record {
    puts = puts_as (member_full_bytes d x ws m i kind h.held h.within (sym (some_inside d x ws m i kind h.held h.within refl c) ∙ f)) (puts_then q.puts (puts_then s (puts_then w.puts z.puts)));
  }

-- what the calls need
module _ {ws : List ℕ} {m i : ℕ} (h : MemberScannable ws m i) where
  pub member_row : RowHeld ws i
  member_row = record { few = omega (arith, h.within, h.held.few); held = omega (arith, h.within, h.held.held) }

pub ruleset members = (member_bare, member_full, member_row, member_within, rules)
