-- Laws of the walk: what each turn leaves to do.
use Prim.Native.Nat.{ℕ, suc, ◌+◌, ◌-◌, ◌*◌, ◌≤◌, ◌<◌}
use native.Mathlib.Omega.{arith}
use mathlib.Core.Path.{◌≡◌, refl, ap, sym, subst, ◌∙◌}
use mathlib.Core.List.{List, [], ◌++◌, append_assoc, append-nil}
use mathlib.Core.Option.{Option, none, some}
use mathlib.Core.Bool.{Bool, true, false}
use borrow.Author.Rules.{rules}
use borrow.Author.Tests.{eq-eqb, eqb-true}
use lib.Dec.{eqb}
use lib.ListN.{length}
use Rattle.slices.specs.Bytes.{if}
use Rattle.utf8.proofs.Sequences.{below}
use Rattle.tables.specs.Table.{Rep}
use Rattle.tables.proofs.Tables.{empty_stands}
use Rattle.document.specs.Elements.{among}
use Rattle.items.specs.Words.{Word, word_at}
use Rattle.items.specs.Written.{closing_tag}
use Rattle.trees.specs.Trees.{tree, more, sizes}
use Rattle.trees.specs.Shape.{links_of, under, shape_at, types, args, annotations, nodes}
use Rattle.trees.specs.Written.{element_at, tree_at, tag_of, written_tree}
use Rattle.trees.specs.Writing.{first, too_deep, too_deeps}
use Rattle.trees.specs.Steps.{group_kinds, group_of, Held, Stands, NextAt, NoNext, Next, ClosePut}
use Rattle.trees.specs.declared.children.Standing.{Standing}
use Rattle.trees.specs.declared.walk.Walk.{Walk}
use Rattle.trees.specs.declared.walk.Start.{Start}
use Rattle.trees.specs.declared.walk.Start.TheVariants.{Closed, Opened}
use Rattle.std.specs.Prelude.{Result, Ok, Err}
use Rattle.std.specs.declared.ops.ControlFlow.{ControlFlow}
use Rattle.std.specs.declared.ops.ControlFlow.TheVariants.{Continue, Break}
use Rattle.slices.proofs.Runs.{and_both, append_regroup}
use Rattle.trees.specs.Walk.{rest, bytes_of, bytes_in, inside_of, AmongOpen, IsAround, Resumes, Begins, Above, at_top, up, Walking, Going, TopOpen, Walks, DeepRow, Goes, Enters, Leaves, Turns, LeavesIs}
use Rattle.trees.proofs.Standing.{held_row, held_few, group_is}
use Rattle.trees.proofs.Zipper.{rest_all_on, rest_next, rest_next_on, rest_later, rest_none, rest_pass}
use Rattle.trees.proofs.Counted.{under_most}
use Rattle.trees.proofs.Opening.{closed_shallow, open_deep, open_shallow}

-- ---- groups

group_few : (k : ℕ) → group_of k < 5
group_few k = go (among k types) (among k args) (among k annotations) (among k nodes)
  where
    go : (a b c d : Bool) → if a 0 (if b 1 (if c 3 (if d 4 2))) < 5
    go true b c d = omega arith
    go false true c d = omega arith
    go false false true d = omega arith
    go false false false true = omega arith
    go false false false false = omega arith

first_both : (a b c : Option ℕ) → first (first a b) c ≡ first a (first b c)
first_both none b c = refl
first_both (some p) b c = refl

-- how the bytes are put together
open_on : (a b u k r e : List ℕ) → a ++ (((b ++ (u ++ k)) ++ r) ++ e) ≡ (a ++ b) ++ (u ++ (k ++ (r ++ e)))
open_on a b u k r e =
    ap (◌++◌ a) (append_assoc (b ++ (u ++ k)) r e ∙ append_assoc b (u ++ k) (r ++ e) ∙ ap (◌++◌ b) (append_assoc u k (r ++ e)))
    ∙ sym (append_assoc a b (u ++ (k ++ (r ++ e))))

-- ---- what is above

module _ {d x ws : List ℕ} {n top : ℕ} {s : Standing} where
  above_top : {i o t : ℕ} {a : List ℕ} {p : Option ℕ} → Above d x ws n top s i o a p t → top ≤ i
  above_top (at_top e _ _ _) = omega (arith, e)
  above_top (up l _ _ _ _ _ _ _ _) = omega (arith, l)

  above_nodes : {i o t : ℕ} {a : List ℕ} {p : Option ℕ} → Above d x ws n top s i o a p t → word_at ws i 0 ≡ 1 → 0 < o
  above_nodes {i} {o} (at_top e f _ _) k =
      let q : word_at ws top 0 ≡ 1 = ap (λ j. word_at ws j 0) (sym e) ∙ k in
      let z : o ≡ 1 = f ∙ ap (λ b. if b 1 0) (eq-eqb (word_at ws top 0) 1 q) in
      omega (arith, z)
  above_nodes {i} {o} (up {a = a} _ _ _ f _ _ _ _ _) k =
      let z : o ≡ suc a = f ∙ ap (λ b. if b (suc a) a) (eq-eqb (word_at ws i 0) 1 k) in
      omega (arith, z)

  above_parent : {i o t : ℕ} {a : List ℕ} {p : Option ℕ} → Above d x ws n top s i o a p t → (i ≡ top → ⊥) → 0 < word_at ws i 1
  above_parent (at_top e _ _ _) z = absurd (z e)
  above_parent (up _ e _ _ _ _ _ _ _) z = omega (arith, e)

-- the start of an element that a match tells apart
begins_as : {d x ws : List ℕ} {n i o put : ℕ} {t t' : List ℕ} {a b : Start} → Begins d x ws n i o put t t' (Ok a) → a ≡ b → Begins d x ws n i o put t t' (Ok b)
begins_as {d} {x} {ws} {n} {i} {o} {put} {t} {t'} h e = subst (λ z. Begins d x ws n i o put t t' (Ok z)) e h

-- ---- a turn

module _ {d x ws : List ℕ} {n top : ℕ} {s : Standing} {w : Walk} {out : List ℕ} (h : Walking d x ws n top s w out) where
  pub walk_left : 0 < w.left
  walk_left = omega (arith, h.enough, h.group)

  pub walk_going : Going w
  walk_going = record { left = walk_left; few = h.few; room = omega (arith, h.room) }

  module _ {k : ℕ} (q : NextAt ws n w.row w.group w.from s k) where
    parent_is : word_at ws k 1 ≡ suc w.row
    parent_is = eqb-true (word_at ws k 1) (suc w.row) (and_both (among (word_at ws k 0) (group_kinds w.group)) (eqb (word_at ws k 1) (suc w.row)) q.is).1

    group_known : group_of (word_at ws k 0) ≡ w.group
    group_known = group_is w.group (word_at ws k 0) (and_both (among (word_at ws k 0) (group_kinds w.group)) (eqb (word_at ws k 1) (suc w.row)) q.is).0

    -- in document order all rows up to row k stand in the row
    passed_on : s.ordered ≡ true → (m : ℕ) → w.row < m → m < suc k → w.row < word_at ws m 1
    passed_on o m a b =
        below m w.from (λ l. h.passed o m a l)
        (λ l. below m k (λ v. q.passed o m l v) (λ v. last m (omega (arith, v, b))))
      where
        last : (m : ℕ) → m ≡ k → w.row < word_at ws m 1
        last m e =
            let p : word_at ws m 1 ≡ suc w.row = ap (λ j. word_at ws j 1) e ∙ parent_is in
            omega (arith, p)

    deep_there : {t : List ℕ} {j : ℕ} → Begins d x ws n k w.nodes w.put out t (Err j) → DeepRow d x ws n top j
    deep_there b = record {
      is = h.deep
          ∙ ap (λ f. first (too_deeps (element_at d x ws) w.nodes f) h.next) (rest_next ws n q)
          ∙ ap (λ p. first (first p (too_deeps (element_at d x ws) w.nodes (rest (links_of n ws) w.group w.row (suc k)))) h.next) (open_deep d x ws k (under k (links_of n ws)) w.nodes b.is.opens b.is.node b.is.deep)
          ∙ ap some (sym b.is.row);
    }

    closed_there : {t : List ℕ} {z : Start} {put : ℕ} → Begins d x ws n k w.nodes w.put out t (Ok z) → z ≡ Closed put → Goes d x ws n top s w t (record { row = w.row; group = w.group; from = k + 1; nodes = w.nodes; put = put; left = w.left - 1 })
    closed_there b₀ y = let b = begins_as b₀ y in record {
      fewer = omega (arith, walk_left);
      walks = record {
        within = h.within;
        after = omega (arith, h.after, q.onward);
        onward = omega (arith, q.within);
        group = h.group;
        few = h.few;
        tail = h.tail;
        next = h.next;
        turns = h.turns;
        above = h.above;
        passed = λ o m a l. passed_on o m a (omega (arith, l));
        done = h.done ++ bytes_of d x ws (tree k (under k (links_of n ws)));
        stands = b.is.puts.stands h.done h.stands;
        whole = h.whole
            ∙ ap (λ f. h.done ++ (bytes_in d x ws f ++ (closing_tag (tag_of (word_at ws w.row 0)) ++ h.tail))) (rest_next_on ws n q)
            ∙ append_regroup h.done (bytes_of d x ws (tree k (under k (links_of n ws)))) (bytes_in d x ws (rest (links_of n ws) w.group w.row (k + 1))) (closing_tag (tag_of (word_at ws w.row 0)) ++ h.tail);
        deep = h.deep
            ∙ ap (λ f. first (too_deeps (element_at d x ws) w.nodes f) h.next) (rest_next_on ws n q)
            ∙ ap (λ p. first (first p (too_deeps (element_at d x ws) w.nodes (rest (links_of n ws) w.group w.row (k + 1)))) h.next) (closed_shallow d x ws k (under k (links_of n ws)) w.nodes b.is.closed);
        enough = omega (arith, h.enough, ap sizes (rest_next_on ws n q));
        room = omega (arith, h.room, b.is.most, walk_left);
      };
    }

    inside_few : (word_at ws k 0 ≡ 1 → w.nodes < 1024) → inside_of (word_at ws k 0) w.nodes ≤ 1024
    inside_few l = go (eqb (word_at ws k 0) 1) refl
      where
        go : (b : Bool) → eqb (word_at ws k 0) 1 ≡ b → if b (suc w.nodes) w.nodes ≤ 1024
        go true e = omega (arith, l (eqb-true (word_at ws k 0) 1 e))
        go false e = h.few

    open_there : {t : List ℕ} {z : Start} {put kind o : ℕ} → Begins d x ws n k w.nodes w.put out t (Ok z) → z ≡ Opened put → Word ws k 0 kind → o ≡ inside_of kind w.nodes → Goes d x ws n top s w t (record { row = k; group = 0; from = k + 1; nodes = o; put = put; left = w.left - 1 })
    open_there {put = put} {kind} {o} b₀ y v e =
        let b = begins_as b₀ y in
        let g = group_of (word_at ws k 0) in
        let r = rest (links_of n ws) g w.row (suc k) in
        let u = under k (links_of n ws) in
        let big : top < k = omega (arith, above_top h.above, h.after, q.onward) in
        let least : 6 * sizes r + (5 - g) + h.turns ≤ 6 * sizes r + (5 - g) + h.turns = omega arith in
        let i : o ≡ inside_of (word_at ws k 0) w.nodes = e ∙ ap (λ z. inside_of z w.nodes) v.is in
        let next_is : rest (links_of n ws) w.group w.row w.from ≡ more (tree k u) r = rest_next ws n q ∙ ap (λ z. more (tree k u) (rest (links_of n ws) z w.row (suc k))) (sym group_known) in
        record {
          fewer = omega (arith, walk_left);
          walks = record {
            within = q.within;
            after = omega arith;
            onward = omega (arith, q.within);
            group = omega arith;
            few = subst (λ z. z ≤ 1024) (sym i) (inside_few b.is.shallow);
            tail = bytes_in d x ws r ++ (closing_tag (tag_of (word_at ws w.row 0)) ++ h.tail);
            next = first (too_deeps (element_at d x ws) w.nodes r) h.next;
            turns = 6 * sizes r + (5 - g) + h.turns;
            above = up big parent_is h.few i refl refl least passed_on h.above;
            passed = λ _ m a l. absurd (omega (arith, a, l));
            done = h.done ++ b.is.begun;
            stands = b.is.puts.stands h.done h.stands;
            whole = h.whole
                ∙ ap (λ f. h.done ++ (bytes_in d x ws f ++ (closing_tag (tag_of (word_at ws w.row 0)) ++ h.tail))) next_is
                ∙ ap (λ l. h.done ++ ((l ++ bytes_in d x ws r) ++ (closing_tag (tag_of (word_at ws w.row 0)) ++ h.tail))) b.is.is
                ∙ open_on h.done b.is.begun (bytes_in d x ws u) (closing_tag (tag_of (word_at ws k 0))) (bytes_in d x ws r) (closing_tag (tag_of (word_at ws w.row 0)) ++ h.tail)
                ∙ ap (λ f. (h.done ++ b.is.begun) ++ (bytes_in d x ws f ++ (closing_tag (tag_of (word_at ws k 0)) ++ (bytes_in d x ws r ++ (closing_tag (tag_of (word_at ws w.row 0)) ++ h.tail))))) (sym (rest_all_on ws n k));
            deep = h.deep
                ∙ ap (λ f. first (too_deeps (element_at d x ws) w.nodes f) h.next) next_is
                ∙ ap (λ p. first (first p (too_deeps (element_at d x ws) w.nodes r)) h.next) (open_shallow d x ws k u w.nodes b.is.opens b.is.shallow)
                ∙ first_both (too_deeps (element_at d x ws) (inside_of (word_at ws k 0) w.nodes) u) (too_deeps (element_at d x ws) w.nodes r) h.next
                ∙ ap (λ z. first (too_deeps (element_at d x ws) z u) (first (too_deeps (element_at d x ws) w.nodes r) h.next)) (sym i)
                ∙ ap (λ f. first (too_deeps (element_at d x ws) o f) (first (too_deeps (element_at d x ws) w.nodes r) h.next)) (sym (rest_all_on ws n k));
            enough = omega (arith, h.enough, ap sizes next_is, ap sizes (rest_all_on ws n k), group_known);
            room = omega (arith, h.room, b.is.most, walk_left);
          };
        }

  module _ {end : ℕ} (q : NoNext ws n w.row w.group w.from s end) where
    pub leave_group : {t : List ℕ} → t ≡ out → w.group < 4 → Leaves d x ws n top s w t (Continue record { row = w.row; group = w.group + 1; from = w.row + 1; nodes = w.nodes; put = w.put; left = w.left - 1 })
    leave_group {t} e l = record {
      is = record {
        fewer = omega (arith, walk_left);
        walks = record {
          within = h.within;
          after = omega arith;
          onward = omega (arith, h.within);
          group = omega (arith, l);
          few = h.few;
          tail = h.tail;
          next = h.next;
          turns = h.turns;
          above = h.above;
          passed = λ _ m a b. absurd (omega (arith, a, b));
          done = h.done;
          stands = subst (λ z. Rep 1 z w.put h.done) (sym e) h.stands;
          whole = h.whole ∙ ap (λ f. h.done ++ (bytes_in d x ws f ++ (closing_tag (tag_of (word_at ws w.row 0)) ++ h.tail))) (rest_later ws n l h.onward q);
          deep = h.deep ∙ ap (λ f. first (too_deeps (element_at d x ws) w.nodes f) h.next) (rest_later ws n l h.onward q);
          enough = omega (arith, h.enough, ap sizes (rest_later ws n l h.onward q), l);
          room = omega (arith, h.room, walk_left);
        };
      };
    }

    module _ (four : 4 ≤ w.group) where
      whole_left : written_tree (tree_at d x ws n top) ≡ h.done ++ (closing_tag (tag_of (word_at ws w.row 0)) ++ h.tail)
      whole_left = h.whole ∙ ap (λ f. h.done ++ (bytes_in d x ws f ++ (closing_tag (tag_of (word_at ws w.row 0)) ++ h.tail))) (rest_none ws n four h.onward q)

      deep_left : too_deep (element_at d x ws) 0 (shape_at ws n top) ≡ h.next
      deep_left = h.deep ∙ ap (λ f. first (too_deeps (element_at d x ws) w.nodes f) h.next) (rest_none ws n four h.onward q)

      module _ {kind : ℕ} (v : Word ws w.row 0 kind) {t : List ℕ} {put : ℕ} (c : ClosePut kind w.put out t put) where
        stands_closed : Rep 1 t put (h.done ++ closing_tag (tag_of (word_at ws w.row 0)))
        stands_closed = subst (λ z. Rep 1 t put (h.done ++ closing_tag (tag_of z))) v.is (c.puts.stands h.done h.stands)

        pub close_top : w.row ≡ top → Leaves d x ws n top s w t (Break put)
        close_top e = go h.above refl refl
          where
            go : {a : List ℕ} {p : Option ℕ} → Above d x ws n top s w.row w.nodes a p h.turns → a ≡ h.tail → p ≡ h.next → Leaves d x ws n top s w t (Break put)
            go (up l _ _ _ _ _ _ _ _) f g = absurd (omega (arith, l, e))
            go (at_top _ _ y z) f g = record {
              is = record {
                stands = subst (Rep 1 t put) (sym (whole_left ∙ ap (λ l. h.done ++ (closing_tag (tag_of (word_at ws w.row 0)) ++ l)) (sym f ∙ y) ∙ ap (◌++◌ h.done) (append-nil (closing_tag (tag_of (word_at ws w.row 0)))))) stands_closed;
                shallow = deep_left ∙ sym g ∙ z;
              };
            }

        pub around_needs : AmongOpen kind w.nodes
        around_needs = record { some = λ e. above_nodes h.above (sym v.is ∙ e) }

        pub parent_some : {parent : ℕ} → Word ws w.row 1 parent → (w.row ≡ top → ⊥) → 1 ≤ parent
        parent_some p z = omega (arith, above_parent h.above z, p.is)

        end_passed : s.ordered ≡ true → (m : ℕ) → w.row < m → m < end → w.row < word_at ws m 1
        end_passed o m a b = below m w.from (λ l. h.passed o m a l) (λ l. q.passed o m l b)

        -- no child of row p stands between the row and the row where the search goes on
        module _ {from p : ℕ} (r : Resumes s w.row end from) (less : p < w.row) where
          resumed : (b : Bool) → s.ordered ≡ b → (w.row < from) × (from ≤ n) × ((m : ℕ) → suc w.row ≤ m → m < from → word_at ws m 1 ≡ suc p → ⊥)
          resumed true e = (
            omega (arith, r.ordered e, q.onward, h.after),
            omega (arith, r.ordered e, q.within),
            λ m a b f. absurd (omega (arith, end_passed e m a (omega (arith, b, r.ordered e)), f, less)),
          )
          resumed false e = (omega (arith, r.other e), omega (arith, r.other e, h.within), λ m a b f. absurd (omega (arith, r.other e, a, b)))

          resumed_rest : (g : ℕ) → rest (links_of n ws) g p (suc w.row) ≡ rest (links_of n ws) g p from
          resumed_rest g =
              let z = resumed s.ordered refl in
              rest_pass ws n g p (suc w.row) from z.0 z.1 z.2

          resumed_passed : (s.ordered ≡ true → (m : ℕ) → p < m → m < suc w.row → p < word_at ws m 1) → s.ordered ≡ true → (m : ℕ) → p < m → m < from → p < word_at ws m 1
          resumed_passed k o m a b =
              below m (suc w.row) (λ l. k o m a l)
              (λ l. before (end_passed o m l (omega (arith, b, r.ordered o))))
            where
              before : w.row < word_at ws m 1 → p < word_at ws m 1
              before l = omega (arith, l, less)

        pub close_up : {parent group from o : ℕ} → Held d x ws n → (w.row ≡ top → ⊥) → Word ws w.row 1 parent → group ≡ group_of kind → Resumes s w.row end from → IsAround kind w.nodes o → Leaves d x ws n top s w t (Continue record { row = parent - 1; group = group; from = from; nodes = o; put = put; left = w.left - 1 })
        close_up {parent} {group} {from} {o} rows z y f r a = go h.above refl refl
          where
            go : {l : List ℕ} {p : Option ℕ} → Above d x ws n top s w.row w.nodes l p h.turns → l ≡ h.tail → p ≡ h.next → Leaves d x ws n top s w t (Continue record { row = parent - 1; group = group; from = from; nodes = o; put = put; left = w.left - 1 })
            go (at_top e _ _ _) _ _ = absurd (z e)
            go (up {p = p} {a = b} {left = left} {end = after} {next = next} big e few u j m enough passed above) f1 f2 =
                let g = group_of (word_at ws w.row 0) in
                let less : p < w.row = omega (arith, e, (rows.parents w.row h.within (omega (arith, big))).1) in
                let row_is : p ≡ parent - 1 = omega (arith, y.is, e) in
                let group_is : g ≡ group = sym (f ∙ ap group_of v.is) in
                let o_is : b ≡ o = sym (a.is b (u ∙ ap (λ z. inside_of z b) (sym v.is))) in
                let c₀ = closing_tag (tag_of (word_at ws w.row 0)) in
                let c₁ = closing_tag (tag_of (word_at ws p 0)) ++ after in
                let same = resumed_rest r less g in
                let facts = resumed r less s.ordered refl in
                let begin : Walk = record { row = p; group = g; from = from; nodes = b; put = put; left = w.left - 1 } in
                let come : Walk = record { row = parent - 1; group = group; from = from; nodes = o; put = put; left = w.left - 1 } in
                let moved : begin ≡ come = λ i. record { row = row_is i; group = group_is i; from = from; nodes = o_is i; put = put; left = w.left - 1 } in
                let walked : Walking d x ws n top s begin t =
                record {
                  within = omega (arith, less, h.within);
                  after = omega (arith, less, facts.0);
                  onward = facts.1;
                  group = group_few (word_at ws w.row 0);
                  few = few;
                  tail = after;
                  next = next;
                  turns = left;
                  above = above;
                  passed = resumed_passed r less passed;
                  done = h.done ++ c₀;
                  stands = stands_closed;
                  whole = whole_left
                      ∙ ap (λ l. h.done ++ (c₀ ++ l)) (sym f1 ∙ j)
                      ∙ sym (append_assoc h.done c₀ (bytes_in d x ws (rest (links_of n ws) g p (suc w.row)) ++ c₁))
                      ∙ ap (λ k. (h.done ++ c₀) ++ (bytes_in d x ws k ++ c₁)) same;
                  deep = deep_left ∙ sym f2 ∙ m ∙ ap (λ k. first (too_deeps (element_at d x ws) b k) next) same;
                  enough = omega (arith, enough, ap sizes same, h.enough, four, h.group);
                  room = omega (arith, h.room, c.most, walk_left);
                }
                in
                record { is = record { fewer = omega (arith, walk_left); walks = subst (λ z. Walking d x ws n top s z t) moved walked } }

-- ---- the beginning

module _ {d x ws : List ℕ} {n top : ℕ} where
  pub top_opens : {t t' : List ℕ} {z : Start} {put : ℕ} → top < n → Begins d x ws n top 0 0 t t' (Ok z) → z ≡ Opened put → TopOpen d x ws n top put t'
  top_opens {t} l b₀ y =
      let b = begins_as b₀ y in
      record {
        within = l;
        opens = b.is.opens;
        begun = b.is.begun;
        stands = b.is.puts.stands [] (empty_stands 1 t);
        is = b.is.is;
        most = omega (arith, b.is.most);
      }

  module _ {t t' : List ℕ} where
    pub top_deep : {k : ℕ} → Begins d x ws n top 0 0 t t' (Err k) → Walks d x ws n top t' (Err k)
    unfolding shape_at
    top_deep b = record { is = record { is = open_deep d x ws top (under top (links_of n ws)) 0 b.is.opens b.is.node b.is.deep ∙ ap some (sym b.is.row) } }

    pub top_closed : {z : Start} {put : ℕ} → Begins d x ws n top 0 0 t t' (Ok z) → z ≡ Closed put → Walks d x ws n top t' (Ok put)
    unfolding shape_at
    top_closed b₀ y = let b = begins_as b₀ y in record {
      is = record {
        stands = b.is.puts.stands [] (empty_stands 1 t);
        shallow = closed_shallow d x ws top (under top (links_of n ws)) 0 b.is.closed;
      };
    }

module _ {d x ws : List ℕ} {n top put : ℕ} {out : List ℕ} (h : TopOpen d x ws n top put out) where
  pub top_walks : {s : Standing} {kind o : ℕ} → Held d x ws n → Word ws top 0 kind → o ≡ inside_of kind 0 → Walking d x ws n top s (record { row = top; group = 0; from = top + 1; nodes = o; put = put; left = 6 * n }) out
  unfolding shape_at
  top_walks {s} {kind} {o} rows v e =
      let u = under top (links_of n ws) in
      let i : o ≡ inside_of (word_at ws top 0) 0 = e ∙ ap (λ z. inside_of z 0) v.is in
      record {
        within = h.within;
        after = omega arith;
        onward = omega (arith, h.within);
        group = omega arith;
        few = subst (λ z. z ≤ 1024) (sym i) (inside_one (eqb (word_at ws top 0) 1));
        tail = [];
        next = none;
        turns = 0;
        above = at_top refl i refl refl;
        passed = λ _ m a c. absurd (omega (arith, a, c));
        done = h.begun;
        stands = h.stands;
        whole = h.is
            ∙ ap (λ f. h.begun ++ (bytes_in d x ws f ++ closing_tag (tag_of (word_at ws top 0)))) (sym (rest_all_on ws n top))
            ∙ ap (λ z. h.begun ++ (bytes_in d x ws (rest (links_of n ws) 0 top (top + 1)) ++ z)) (sym (append-nil (closing_tag (tag_of (word_at ws top 0)))));
        deep = open_shallow d x ws top u 0 h.opens (λ _. omega arith)
            ∙ ap (λ z. too_deeps (element_at d x ws) z u) (sym i)
            ∙ ap (too_deeps (element_at d x ws) o) (sym (rest_all_on ws n top))
            ∙ first-none (too_deeps (element_at d x ws) o (rest (links_of n ws) 0 top (top + 1)));
        enough = omega (arith, under_most ws n top h.within, ap sizes (rest_all_on ws n top), h.within);
        room = omega (arith, h.most, rows.few);
      }
    where
      inside_one : (b : Bool) → if b 1 0 ≤ 1024
      inside_one true = omega arith
      inside_one false = omega arith

      first-none : (a : Option ℕ) → a ≡ first a none
      first-none none = refl
      first-none (some p) = refl

-- a child is entered, whatever the top of the walk is
module _ {d x ws : List ℕ} {n k : ℕ} {s : Standing} {w : Walk} {out : List ℕ} (q : NextAt ws n w.row w.group w.from s k) {t : List ℕ} where
  pub enter_deep : {j : ℕ} → Begins d x ws n k w.nodes w.put out t (Err j) → Enters d x ws n s w out t (Err j)
  enter_deep b = record { is = λ top h. deep_there h q b }

  module _ {z : Start} {put : ℕ} (b : Begins d x ws n k w.nodes w.put out t (Ok z)) where
    pub enter_closed : z ≡ Closed put → Enters d x ws n s w out t (Ok record { row = w.row; group = w.group; from = k + 1; nodes = w.nodes; put = put; left = w.left - 1 })
    enter_closed y = record { is = λ top h. closed_there h q b y }

    pub enter_open : {kind o : ℕ} → z ≡ Opened put → Word ws k 0 kind → o ≡ inside_of kind w.nodes → Enters d x ws n s w out t (Ok record { row = k; group = 0; from = k + 1; nodes = o; put = put; left = w.left - 1 })
    enter_open y v e = record { is = λ top h. open_there h q b y v e }

pub going_left : {w : Walk} → Going w → 0 < w.left
going_left g = g.left

-- ---- one turn, and all

pub turn_at : {ws : List ℕ} {n i g from k : ℕ} {s : Standing} → Next ws n i g from s (Ok k) → NextAt ws n i g from s k
turn_at q = q.is

pub turn_none : {ws : List ℕ} {n i g from k : ℕ} {s : Standing} → Next ws n i g from s (Err k) → NoNext ws n i g from s k
turn_none q = q.is

module _ {d x ws : List ℕ} {n top : ℕ} {s : Standing} {w : Walk} {out : List ℕ} where
  module _ {t : List ℕ} (h : Walking d x ws n top s w t) where
    pub turn_deep : {k : ℕ} → Enters d x ws n s w t out (Err k) → Turns d x ws n top s w out (Err k)
    turn_deep q = record { is = q.is top h }

    pub turn_enters : {w' : Walk} → Enters d x ws n s w t out (Ok w') → Turns d x ws n top s w out (Ok (Continue w'))
    turn_enters q = record { is = q.is top h }

  pub turn_leaves : {r : ControlFlow ℕ Walk} → Leaves d x ws n top s w out r → Turns d x ws n top s w out (Ok r)
  turn_leaves q = record { is = q.is }

-- the loop: the walk goes on in a buffer as long as the one lent
pub record Looping (d x ws : List ℕ) (n top : ℕ) (s : Standing) (out : List ℕ) (w : Walk) (t : List ℕ) : Type 0 where
  pub walks : Walking d x ws n top s w t
  pub same : length t ≡ length out

module _ {d x ws : List ℕ} {n top : ℕ} {s : Standing} {w : Walk} where
  pub loop_begins : {out : List ℕ} → Walking d x ws n top s w out → Looping d x ws n top s out w out
  loop_begins h = record { walks = h; same = refl }

  module _ {out t : List ℕ} (g : Looping d x ws n top s out w t) where
    pub loop_walks : Walking d x ws n top s w t
    loop_walks = g.walks

    pub loop_deep : {t' : List ℕ} {k : ℕ} → Turns d x ws n top s w t' (Err k) → Walks d x ws n top t' (Err k)
    loop_deep q = record { is = q.is }

    module _ {t' : List ℕ} {r : ControlFlow ℕ Walk} (q : Turns d x ws n top s w t' (Ok r)) where
      turned : {z : ControlFlow ℕ Walk} → r ≡ z → LeavesIs d x ws n top s w t' z
      turned e = subst (λ z. LeavesIs d x ws n top s w t' z) e q.is

      pub loop_again : {w' : Walk} → r ≡ Continue w' → length t' ≡ length t → Looping d x ws n top s out w' t'
      loop_again e f = record { walks = (turned e).walks; same = f ∙ g.same }

      pub loop_less : {w' : Walk} → r ≡ Continue w' → w'.left < w.left
      loop_less e = (turned e).fewer

      pub loop_ends : {put : ℕ} → r ≡ Break put → Walks d x ws n top t' (Ok put)
      loop_ends e = record { is = turned e }

    pub loop_never : {z : Result ℕ ℕ} → w.left ≤ 0 → Walks d x ws n top t z
    loop_never l = absurd (omega (arith, walk_left g.walks, l))

pub ruleset turning = (turn_at, turn_none, walk_going, turn_deep, turn_enters, turn_leaves, rules)

pub ruleset looping = (loop_begins, loop_walks, loop_deep, loop_again, loop_less, loop_ends, loop_never, rules)

pub ruleset topping = (top_opens, top_deep, top_closed, rules)

pub stands_known : {ws : List ℕ} {n : ℕ} {s : Standing} → Stands ws n s → ∥ Stands ws n s ∥₁
stands_known h = ∣ h ∣₁

pub ruleset treeing = (stands_known, rules)

pub ruleset tops = (held_row, held_few, top_walks, rules)

pub ruleset entering = (held_row, held_few, enter_deep, enter_closed, enter_open, going_left, rules)

pub ruleset leaving = (leave_group, walk_left, rules)

pub ruleset closing = (held_row, held_few, walk_left, close_top, around_needs, parent_some, close_up, rules)
