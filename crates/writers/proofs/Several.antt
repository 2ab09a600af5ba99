-- Laws of writing several items: the run of a row, the rows asked for, the texts and their ends, and what is answered.
use Prim.Native.Nat.{ℕ, zero, suc, ◌+◌, ◌-◌, ◌*◌, ◌≤◌, ◌<◌}
use native.Mathlib.Nat.{mul-one}
use native.Mathlib.Omega.{arith}
use mathlib.Core.Path.{◌≡◌, refl, ap, sym, subst, ◌∙◌}
use mathlib.Core.List.{List, [], ◌∷◌, ◌++◌, append_assoc, append-nil}
use mathlib.Core.Option.{Option, none, some}
use mathlib.Core.Bool.{Bool, true, false, not, ◌||◌, or-true, not-not}
use borrow.Author.Rules.{rules}
use borrow.Author.Tests.{lt-ltb, le-ltb, ltb-true, ltb-false, not-true, not-false}
use lib.Dec.{eqb, ltb}
use lib.ListN.{length, drop, get_or, set, replicate, length-append, length-set, drop_of_length-le}
use lib.Seq.{drop-cons, get_or-drop}
use Rattle.slices.specs.Bytes.{if}
use Rattle.utf8.proofs.Sequences.{below}
use Rattle.tables.specs.Table.{Rep, Wiped}
use Rattle.tables.proofs.Tables.{empty_stands, one_room, clear_all, clear_rest}
use Rattle.answers.specs.Text.{wrong, Says}
use Rattle.document.specs.Kinds as kinds
use Rattle.document.specs.Elements.{among}
use Rattle.items.specs.Words.{word_at, Word, rows_shown, is_child, shown_row}
use Rattle.items.specs.Order.{parent_at}
use Rattle.items.specs.Written.{Item, annotated, argument, method, signal, written, concat}
use Rattle.items.specs.Content.{Row, annotations, annotation_of, arg_of, args, member_of, item_of, content_at}
use Rattle.items.specs.Several.{there, first_missing, bytes_of, texts_of, ends_from, capped, fitted, items_written, several_writing, several_ends, WritesSeveral}
use Rattle.items.specs.Writing.{checked}
use Rattle.items.proofs.Order.{run_ends}
use Rattle.items.proofs.Written.{concat-append}
use Rattle.soundness.specs.Outcome as outcome
use Rattle.soundness.specs.Outcome.{Admits}
use Rattle.soundness.proofs.Rows.{refused_as, admitted_as}
use Rattle.writers.specs.Rows.{rows_in, Held, Last, RunEnd, Reach}
use Rattle.writers.specs.Writes.{MemberScannable, Writable, ItemPut}
use Rattle.writers.specs.Entry.{Admitted}
use Rattle.writers.specs.Several.{is_item, IsItem, At, Asks, RowPut, Missing, Fit, VetsItems, Vets, Stand, SeveralPut, Fits, FinishesItems, WritesFit, Clears}
use Rattle.std.specs.Prelude as prelude
use Rattle.std.specs.Prelude.{Option as Maybe, None, Some, Result, Ok, Err, MatchOption}
use Rattle.std.specs.Option.{unwrap_or}
use Rattle.std.specs.List.{AllWithin, HoldsAt}
use Rattle.std.proofs.lemmas.Bool.{or_parts}
use Rattle.slices.proofs.Runs.{and_both}
use Rattle.faults.specs.Fault.{fault}
use Rattle.faults.specs.declared.Fault.{Fault}
use Rattle.writers.proofs.Scans.{last_all}
use Rattle.writers.proofs.Rows.{shown_one, give_annotations, give_args, own_given}
use Rattle.writers.proofs.Entry.{content_is, content_past, there_item, admitted_document, admitted_text, admitted_rows, admits}

-- ---- the run of a row

pub run_end_is : {ws : List ℕ} {n i r : ℕ} (o : Maybe ℕ) → i < n
    → MatchOption o ((k : ℕ) → i + 1 ≤ k → k < n → i < word_at ws k 1) (λ k. (i + 1 ≤ k) × (k < n) × (word_at ws k 1 ≤ i) × ((j : ℕ) → i + 1 ≤ j → j < k → i < word_at ws j 1))
    → r ≡ unwrap_or o n → RunEnd ws n i r
run_end_is None l h e = rw e record { onward = l; within = omega arith; before = λ k a b. h k (omega (arith, a)) b; is = λ k. absurd (omega arith) }
run_end_is (Some k) l h e = rw e record { onward = omega (arith, h.0); within = omega (arith, h.1); before = λ j a b. h.3 j (omega (arith, a)) b; is = λ _. h.2 }

pub reach_run : {ws : List ℕ} {n i r : ℕ} {o : Bool} → outcome.Orders ws n o → o ≡ true → RunEnd ws n i r → Reach ws n i r
reach_run {ws} {n} {i} {r} a e g = record {
  onward = g.onward;
  within = g.within;
  none = λ j k b c d f z. run_ends (parent_at ws) n (a.is e).under j r c (omega (arith, g.is (omega (arith, d, f)), b)) k d f z;
}

pub reach_all : {ws : List ℕ} {n i : ℕ} → i < n → Reach ws n i n
reach_all h = record { onward = h; within = omega arith; none = λ j k a b c d. absurd (omega (arith, c, d)) }

pub ruleset runs = (reach_run, reach_all, rules)

-- ---- the content of row i among the rows that it reaches

module _ (d x ws : List ℕ) (n i e : ℕ) (h : Held ws n) (g : Reach ws n i e) where
  fewer : Held ws e
  fewer = record { few = omega (arith, h.few, g.within); held = omega (arith, h.held, g.within); parents = λ k l. h.parents k (omega (arith, l, g.within)) }

  reach_last : (j : ℕ) → i ≤ j → j < e → Last ws n j e
  reach_last j a b = record { onward = b; within = g.within; none = λ k c l z. g.none j k a b c l z }

  notes_same : (j : ℕ) → i ≤ j → j < e → annotations (suc j) (rows_shown d x ws n) ≡ annotations (suc j) (rows_shown d x ws e)
  notes_same j a b =
      let notes = give_annotations (suc j) in
      own_given notes d x ws n e h (reach_last j a b) ∙ sym (own_given notes d x ws e e fewer (last_all b))

  arg_same : (j : ℕ) (r : Row) → i ≤ j → j < e → arg_of (rows_shown d x ws n) j r ≡ arg_of (rows_shown d x ws e) j r
  arg_same j r a b = let s = notes_same j a b in λ q. record { name = (arg_of (rows_shown d x ws n) j r).name; type = (arg_of (rows_shown d x ws n) j r).type; direction = (arg_of (rows_shown d x ws n) j r).direction; annotations = s q }

  args_same : (p j a : ℕ) → i ≤ j → j + a ≤ e → args (rows_shown d x ws n) p j (rows_in d x ws j a) ≡ args (rows_shown d x ws e) p j (rows_in d x ws j a)
  args_same p j zero l m = refl
  args_same p j (suc a) l m =
      let z = arg_same j (shown_row d x ws j) l (omega (arith, m)) in
      let y = args_same p (suc j) a (omega (arith, l)) (omega (arith, m)) in
      ap (args (rows_shown d x ws n) p j) (shown_one d x ws j a)
      ∙ ap (λ u. if (is_child kinds.arg p (shown_row d x ws j).kind (shown_row d x ws j).parent) (u ∷ args (rows_shown d x ws n) p (suc j) (rows_in d x ws (suc j) a)) (args (rows_shown d x ws n) p (suc j) (rows_in d x ws (suc j) a))) z
      ∙ ap (λ u. if (is_child kinds.arg p (shown_row d x ws j).kind (shown_row d x ws j).parent) (arg_of (rows_shown d x ws e) j (shown_row d x ws j) ∷ u) u) y
      ∙ ap (args (rows_shown d x ws e) p j) (sym (shown_one d x ws j a))

  all_args : args (rows_shown d x ws n) (suc i) 0 (rows_shown d x ws n) ≡ args (rows_shown d x ws e) (suc i) 0 (rows_shown d x ws e)
  all_args =
      own_given (give_args (rows_shown d x ws n) (suc i)) d x ws n e h (reach_last i (omega arith) g.onward)
      ∙ args_same (suc i) (suc i) (e - suc i) (omega arith) (omega (arith, g.onward))
      ∙ sym (own_given (give_args (rows_shown d x ws e) (suc i)) d x ws e e fewer (last_all g.onward))

  item_same : (r : Row) → item_of (rows_shown d x ws n) i r ≡ item_of (rows_shown d x ws e) i r
  item_same r =
      let a = all_args in
      let b = notes_same i (omega arith) g.onward in
      let m : member_of (rows_shown d x ws n) i r ≡ member_of (rows_shown d x ws e) i r =
      λ q. record { name = (member_of (rows_shown d x ws n) i r).name; args = a q; annotations = b q } in
      let c = arg_same i r (omega arith) g.onward in
      ap (λ u. if (eqb r.kind kinds.method) (some (method u)) (if (eqb r.kind kinds.signal) (some (signal u)) (if (eqb r.kind kinds.annotation) (some (annotated (annotation_of r))) (if (eqb r.kind kinds.arg) (some (argument (arg_of (rows_shown d x ws n) i r))) none)))) m
      ∙ ap (λ u. if (eqb r.kind kinds.method) (some (method (member_of (rows_shown d x ws e) i r))) (if (eqb r.kind kinds.signal) (some (signal (member_of (rows_shown d x ws e) i r))) (if (eqb r.kind kinds.annotation) (some (annotated (annotation_of r))) (if (eqb r.kind kinds.arg) (some (argument u)) none)))) c

  pub content_within : content_at d x ws n i ≡ content_at d x ws e i
  content_within =
      content_is d x ws n i (omega (arith, g.onward, g.within))
      ∙ item_same (shown_row d x ws i)
      ∙ sym (content_is d x ws e i g.onward)

-- ---- items among the rows asked for

module _ {ws : List ℕ} {n i : ℕ} where
  pub item_past : n ≤ i → IsItem ws n i false
  unfolding is_item
  item_past h = record { is = rw (le-ltb i n h) }

  pub item_kind : {k : ℕ} {b : Bool} → i < n → Word ws i 0 k → Writable k b → IsItem ws n i b
  unfolding is_item
  item_kind h w y = record { is = rw (lt-ltb i n h) (y.is ∙ ap (λ z. among z kinds.written) w.is) }

  module _ (e : IsItem ws n i true) where
    pub item_below : i < n
    unfolding is_item
    item_below = ltb-true i n (and_both (ltb i n) (among (word_at ws i 0) kinds.written) (sym e.is)).0

    pub item_writable : {k : ℕ} → Word ws i 0 k → Writable k true
    unfolding is_item
    item_writable w = record { is = sym (ap (λ z. among z kinds.written) w.is ∙ (and_both (ltb i n) (among (word_at ws i 0) kinds.written) (sym e.is)).1) }

pub ruleset kinds_of = (item_past, item_kind, rules)

-- a row has content exactly if it is an item
module _ (d x ws : List ℕ) (n : ℕ) where
  pub there_is : (i : ℕ) → there (content_at d x ws n i) ≡ is_item ws n i
  unfolding is_item
  there_is i =
      below i n
      (λ h.
      rw (lt-ltb i n h)
      (ap there (content_is d x ws n i h)
      ∙ there_item (rows_shown d x ws n) i (shown_row d x ws i)
      ∙ ap (λ z. among z kinds.written) (get_or-drop (i * 16) ws 0 0)))
      (λ h. rw (le-ltb i n h) (ap there (content_past d x ws n i h)))

module _ (f : ℕ → Option Item) where
  missing_none : (is : List ℕ) → ((k : ℕ) → k < length is → there (f (get_or is k 0)) ≡ true) → first_missing f is ≡ none
  missing_none [] h = refl
  missing_none (i ∷ is) h =
      ap (λ b. if b (first_missing f is) (some i)) (h 0 (omega arith))
      ∙ missing_none is (λ k l. h (suc k) (omega (arith, l)))

  missing_some : (is : List ℕ) (r : ℕ) → r < length is → ((k : ℕ) → k < r → there (f (get_or is k 0)) ≡ true) → there (f (get_or is r 0)) ≡ false → first_missing f is ≡ some (get_or is r 0)
  missing_some [] r l h e = absurd (omega (arith, l))
  missing_some (i ∷ is) zero l h e = ap (λ b. if b (first_missing f is) (some i)) e
  missing_some (i ∷ is) (suc r) l h e =
      ap (λ b. if b (first_missing f is) (some i)) (h 0 (omega arith))
      ∙ missing_some is r (omega (arith, l)) (λ k m. h (suc k) (omega (arith, m))) e

module _ {ws : List ℕ} {n i : ℕ} {b : Bool} (c : IsItem ws n i b) where
  pub an_item : not b ≡ false → is_item ws n i ≡ true
  an_item e = sym c.is ∙ not-false b e

  pub no_item : not b ≡ true → is_item ws n i ≡ false
  no_item e = sym c.is ∙ not-true b e

pub first_is : {ws is : List ℕ} {n : ℕ} (r : prelude.Option ℕ)
    → MatchOption r (AllWithin (λ i. is_item ws n i ≡ true) is 0 (length is)) (λ i. (is_item ws n i ≡ false) × (k : ℕ) × (k < length is) × HoldsAt (λ j. j ≡ i) is k × AllWithin (λ i. is_item ws n i ≡ true) is 0 k)
    → Missing ws n is r
first_is None h = record { found = λ k l. h k 0 (omega arith) l }
first_is (Some i) h = record { found = (h.1, h.2, sym (h.3 0), (λ j l. h.4 j 0 (omega arith) l), h.0) }

-- ---- what is wrong with what is asked for

module _ {ws is : List ℕ} {n : ℕ} {r : prelude.Option ℕ} (g : Missing ws n is r) (e : r ≡ None) where
  all_items : (k : ℕ) → k < length is → is_item ws n (get_or is k 0) ≡ true
  all_items = let f : Missing ws n is None = rw e at g in f.found

  none_missing : (d x : List ℕ) → first_missing (content_at d x ws n) is ≡ none
  none_missing d x = missing_none (content_at d x ws n) is (λ j l. there_is d x ws n (get_or is j 0) ∙ all_items j l)

module _ {ws is : List ℕ} {n slots : ℕ} {r : prelude.Option ℕ} (g : Missing ws n is r) where
  pub vet_missing : {i : ℕ} → r ≡ Some i → VetsItems ws n is slots (Err (fault 20 i))
  vet_missing {i} e =
      let f : Missing ws n is (Some i) = rw e at g in
      let k = f.found.0 in
      let is_none : is_item ws n (get_or is k 0) ≡ false = rw (← f.found.2) f.found.4 in
      record {
        says = λ d x room.
            rw (f.found.2, missing_some (content_at d x ws n) is k f.found.1 (λ j l. there_is d x ws n (get_or is j 0) ∙ f.found.3 j l) (there_is d x ws n (get_or is k 0) ∙ is_none));
        fine = λ e. absurd (cc);
      }

  module _ (e : r ≡ None) where
    pub vet_few : slots < length is → VetsItems ws n is slots (Err (fault 18 (length is)))
    vet_few l = record {
      says = λ d x room. rw (none_missing g e d x, lt-ltb slots (length is) l);
      fine = λ e. absurd (cc);
    }

    pub vet_fine : length is ≤ slots → VetsItems ws n is slots (Ok tt)
    vet_fine l = record {
      says = λ d x room. rw (none_missing g e d x, le-ltb slots (length is) l);
      fine = λ f. record { items = all_items g e; room = l };
    }

pub ruleset vetting = (vet_missing, vet_few, vet_fine, rules)

module _ {d x ws is : List ℕ} {n slots : ℕ} {z : Result (Unit {0}) Fault} (g : Admits d x ws n z) where
  pub vet_refused : {f : Fault} → z ≡ Err f → Vets d x ws n is slots (Err f)
  unfolding several_writing
  vet_refused e = record {
    says = λ room. refused_as g wrong (λ v. checked v (items_written (content_at d x ws n) is room slots)) (λ p. refl) e;
    admitted = λ e. absurd (cc);
    fine = λ e. absurd (cc);
  }

  pub vet_sound : {u : Unit {0}} {r : Result (Unit {0}) Fault} → z ≡ Ok u → VetsItems ws n is slots r → Vets d x ws n is slots r
  unfolding several_writing
  vet_sound e v = record {
    says = λ room. admitted_as g wrong (λ v. checked v (items_written (content_at d x ws n) is room slots)) e ∙ v.says d x room;
    admitted = λ f. admits g e;
    fine = v.fine;
  }

-- ---- one of the rows asked for

pub row_item : {ws is : List ℕ} {n k i : ℕ} → At is k i → Asks ws n is k → IsItem ws n i true
row_item {ws} {n = n} a c = record { is = sym c.item ∙ ap (is_item ws n) (sym a.same) }

pub row_below : {ws is : List ℕ} {n k i : ℕ} → At is k i → Asks ws n is k → i < n
row_below a c = item_below (row_item a c)

module _ {ws : List ℕ} {n i to : ℕ} (h : Held ws n) (g : Reach ws n i to) where
  pub row_scans : MemberScannable ws to i
  row_scans = record { held = fewer [] [] ws n i to h g; within = g.onward }

  pub row_put : {d x is t t' : List ℕ} {k m r : ℕ} → At is k i → ItemPut d x ws to i m t t' r → RowPut d x ws n is k m t t' r
  row_put {d} {x} {t = t} {t' = t'} {m = m} {r = r} b q = record {
    put = subst (λ j. ItemPut d x ws n j m t t' r) b.same (record { item = q.item; is = content_within d x ws n i to h g ∙ q.is; puts = q.puts });
  }

pub row_held : {ws is : List ℕ} {n k i : ℕ} → Held ws n → At is k i → Asks ws n is k → i * 16 + 16 ≤ length ws
row_held h b c = omega (arith, row_below b c, h.held)

pub row_writable : {ws is : List ℕ} {n k i q : ℕ} → Word ws i 0 q → At is k i → Asks ws n is k → Writable q true
row_writable w a c = item_writable (row_item a c) w

pub row_asked : {ws is : List ℕ} {n k : ℕ} → Asks ws n is k → k < length is
row_asked c = c.within

pub ruleset row = (row_asked, row_below, row_writable, row_scans, row_put, row_held, rules)

-- ---- the loop: texts are put, and their ends

texts_append : (f : ℕ → Option Item) (k : ℕ) (is : List ℕ) → k < length is → texts_of f (drop k is) ≡ bytes_of (f (get_or is k 0)) ∷ texts_of f (drop (suc k) is)
texts_append f k is h = ap (texts_of f) (drop-cons is k 0 h)

ends_append : (n : ℕ) (ts : List (List ℕ)) (t : List ℕ) → ends_from n (ts ++ (t ∷ [])) ≡ ends_from n ts ++ ((n + length (concat ts) + length t) ∷ [])
ends_append n [] t = let e : n + length t ≡ n + 0 + length t = omega arith in ap (λ k. k ∷ []) e
ends_append n (s ∷ ts) t =
    let e : n + length s + length (concat ts) + length t ≡ n + length (s ++ concat ts) + length t = omega (arith, length-append s (concat ts)) in
    ap (◌∷◌ (n + length s)) (ends_append (n + length s) ts t ∙ ap (λ k. ends_from (n + length s) ts ++ (k ∷ [])) e)

pub record Adding (d x ws : List ℕ) (n : ℕ) (is out ends : List ℕ) (room slots k m : ℕ) : Type 0 where
  pub done : List (List ℕ)
  pub left : done ++ texts_of (content_at d x ws n) (drop k is) ≡ texts_of (content_at d x ws n) is
  pub bytes : Rep 1 out m (concat done)
  pub words : Rep 1 ends k (ends_from 0 done)
  pub small : m < 4294967296
  pub within : k ≤ length is
  pub same : length ends ≡ slots
  pub same_out : length out ≡ room

pub add_begins : {d x ws is out ends : List ℕ} {n : ℕ} → Adding d x ws n is out ends (length out) (length ends) 0 0
add_begins {out = out} {ends = ends} = record {
  done = [];
  left = refl;
  bytes = empty_stands 1 out;
  words = empty_stands 1 ends;
  small = omega arith;
  within = omega arith;
  same = refl;
  same_out = refl;
}

capped_as : (n : ℕ) → n < 4294967296 → n ≡ capped n
capped_as n h = rw (le-ltb 4294967295 n (omega (arith, h)))

module _ {d x ws is out ends : List ℕ} {n room slots k m : ℕ} (g : Adding d x ws n is out ends room slots k m) where
  long : length (concat g.done) ≡ m
  long = g.bytes.many ∙ mul-one m

  pub add_small : m < 4294967296
  add_small = g.small

  pub add_ends : length is ≤ k → SeveralPut d x ws n is out ends m
  add_ends h =
      let f = content_at d x ws n in
      let z : drop k is ≡ [] = drop_of_length-le is h in
      let e : g.done ≡ texts_of f is = sym (append-nil g.done) ∙ ap (λ l. g.done ++ texts_of f l) (sym z) ∙ g.left in
      let j : k ≡ length is = omega (arith, h, g.within) in
      record {
        stand = record {
          counts = capped_as m g.small ∙ ap capped (sym long ∙ ap (λ l. length (concat l)) e);
          bytes = λ l. rw e at g.bytes;
          words = λ l. rw (e, j) at g.words;
        };
      }

  module _ (h : k < length is) where
    pub add_item : {slots' : ℕ} → Fit ws n is slots' → Asks ws n is k
    add_item w = record { within = h; item = w.items k h }

    pub add_slot : Fit ws n is slots → k < length ends
    add_slot w = omega (arith, w.room, g.same, h)

    module _ {out' : List ℕ} {r : ℕ} (p : RowPut d x ws n is k m out out' r) where
      q : ItemPut d x ws n (get_or is k 0) m out out' r
      q = p.put

      text_is : bytes_of (content_at d x ws n (get_or is k 0)) ≡ written q.item
      text_is = ap bytes_of q.is

      more_left : (g.done ++ (written q.item ∷ [])) ++ texts_of (content_at d x ws n) (drop (suc k) is) ≡ texts_of (content_at d x ws n) is
      more_left =
          append_assoc g.done (written q.item ∷ []) (texts_of (content_at d x ws n) (drop (suc k) is))
          ∙ ap (λ t. g.done ++ (t ∷ texts_of (content_at d x ws n) (drop (suc k) is))) (sym text_is)
          ∙ ap (◌++◌ g.done) (sym (texts_append (content_at d x ws n) k is h))
          ∙ g.left

      more_bytes : concat g.done ++ written q.item ≡ concat (g.done ++ (written q.item ∷ []))
      more_bytes = ap (◌++◌ (concat g.done)) (sym (append-nil (written q.item))) ∙ sym (concat-append g.done (written q.item ∷ []))

      counted : r ≡ length (concat g.done) + length (written q.item)
      counted = q.puts.counts ∙ ap (λ j. j + length (written q.item)) (sym long)

      pub add_over : 4294967295 < r → SeveralPut d x ws n is out' ends 4294967296
      add_over l =
          let ts = texts_of (content_at d x ws n) is in
          let rest = concat (texts_of (content_at d x ws n) (drop (suc k) is)) in
          let e : length (concat ts) ≡ r + length rest =
          ap (λ u. length (concat u)) (sym more_left)
          ∙ ap length (concat-append (g.done ++ (written q.item ∷ [])) (texts_of (content_at d x ws n) (drop (suc k) is)))
          ∙ length-append (concat (g.done ++ (written q.item ∷ []))) rest
          ∙ ap (λ u. length u + length rest) (sym more_bytes)
          ∙ ap (λ u. u + length rest) (length-append (concat g.done) (written q.item) ∙ sym counted) in
          record {
            stand = record {
              counts = rw (lt-ltb 4294967295 (length (concat ts)) (omega (arith, e, l)));
              bytes = λ z. absurd (omega (arith, z));
              words = λ z. absurd (omega (arith, z));
            };
          }

      pub add_more : Fit ws n is slots → length out' ≡ length out → r ≤ 4294967295 → Adding d x ws n is out' (set ends k r) room slots (k + 1) r
      add_more w o l =
          let e : suc k ≡ k + 1 = omega arith in
          let z : 0 + length (concat g.done) + length (written q.item) ≡ r = omega (arith, counted) in
          record {
            done = g.done ++ (written q.item ∷ []);
            left = ap (λ j. (g.done ++ (written q.item ∷ [])) ++ texts_of (content_at d x ws n) (drop j is)) (sym e) ∙ more_left;
            bytes = rw more_bytes at (q.puts.stands (concat g.done) g.bytes);
            words = rw (ends_append 0 g.done (written q.item), z) ((one_room {b = r} (add_slot w)).stands (ends_from 0 g.done) g.words);
            small = omega (arith, l);
            within = omega (arith, h);
            same = length-set ends k r ∙ g.same;
            same_out = o ∙ g.same_out;
          }

pub ruleset adding = (add_begins, add_small, add_ends, add_item, add_slot, add_over, add_more, rules)

-- ---- what is left

pub refuses : {a p room : ℕ} {ends out' ends' : List ℕ} {r : Result ℕ Fault} → Wiped 0 ends ends' → Says (wrong a p) room out' r → Clears a p room (length ends) out' ends' r
refuses {ends = ends} z s = record { says = s; of_ends = z.is ∙ clear_all ends }

pub ruleset refusing = (refuses, rules)

over_capped : (room l : ℕ) → ltb room (capped l) || ltb 4294967295 (capped l) ≡ ltb room l || ltb 4294967295 l
over_capped room l =
    below 4294967295 l
    (λ h. rw (lt-ltb 4294967295 l h) (or-true (ltb room 4294967296) ∙ sym (or-true (ltb room l))))
    (λ h. ap (λ j. ltb room j || ltb 4294967295 j) (sym (capped_as l (omega (arith, h)))))

rest_cleared : {n : ℕ} {t t' xs : List ℕ} → Rep 1 t n xs → n ≤ length t → Wiped n t t' → t' ≡ xs ++ replicate (length t - length xs) 0
rest_cleared {n} {t} {t'} {xs} s h z =
    let k : n ≡ length xs = sym (mul-one n) ∙ sym s.many in
    z.is ∙ rw mul-one at (clear_rest {w = 1} (omega arith) s (rw mul-one h)) ∙ ap (λ j. xs ++ replicate (length t - j) 0) k

over_is : {n room count : ℕ} {out ends : List ℕ} {b c : Bool} → Fits n room b → not b ≡ c → (ts : List (List ℕ)) → Stand ts count n out ends → ltb room (length (concat ts)) || ltb 4294967295 (length (concat ts)) ≡ c
over_is {n} {room} f e ts s =
    sym (over_capped room (length (concat ts)))
    ∙ ap (λ j. ltb room j || ltb 4294967295 j) (sym s.counts)
    ∙ sym (not-not (ltb room n || ltb 4294967295 n))
    ∙ ap not (sym f.is)
    ∙ e

module _ {n count : ℕ} {out ends out' ends' : List ℕ} {b : Bool} (f : Fits n (length out) b) where
  pub finish_over : {r : Result ℕ Fault} → not b ≡ true → Clears 21 n (length out) (length ends) out' ends' r → FinishesItems count n out ends out' ends' r
  finish_over e c = record {
    left = λ ts s l. record {
      says = rw (over_is f e ts s, ← s.counts) c.says;
      of_ends = rw (over_is f e ts s) c.of_ends;
    };
  }

  pub finish_within : not b ≡ false → Wiped count ends ends' → Wiped n out out' → FinishesItems count n out ends out' ends' (Ok n)
  finish_within e w z = record {
    left = λ ts s l.
        let o = or_parts (ltb (length out) (length (concat ts))) (ltb 4294967295 (length (concat ts))) (over_is f e ts s) in
        let m : n ≡ length (concat ts) = s.counts ∙ rw o.1 in
        let small : n < 4294967296 = omega (arith, m, ltb-false 4294967295 (length (concat ts)) o.1) in
        let room : n ≤ length out = omega (arith, m, ltb-false (length out) (length (concat ts)) o.0) in
        record {
          says = rw (over_is f e ts s) (record { answer = ap Ok m; left = rest_cleared (s.bytes small) room z });
          of_ends = rw (over_is f e ts s) (rest_cleared (s.words small) l w);
        };
  }

pub ruleset finishing = (finish_over, finish_within, rules)

pub fit_written : {d x ws is out₁ ends₁ out' ends' : List ℕ} {n m room slots : ℕ} {r : Result ℕ Fault} → Fit ws n is slots → SeveralPut d x ws n is out₁ ends₁ m → length out₁ ≡ room → length ends₁ ≡ slots → FinishesItems (length is) m out₁ ends₁ out' ends' r → WritesFit d x ws n is room slots out' ends' r
fit_written {d} {x} {ws} {is} {n = n} w s a b f = record { left = rw (a, b) at (f.left (texts_of (content_at d x ws n) is) s.stand (omega (arith, w.room, b))) }

pub fit_held : {d x ws : List ℕ} {n : ℕ} → Admitted d x ws n → n * 16 ≤ length ws
fit_held a = (admitted_rows a).held

pub ruleset written_fit = (fit_written, fit_held, admitted_document, admitted_text, admitted_rows, rules)

-- ---- the entry

module _ {d x ws is : List ℕ} {n room slots : ℕ} {out ends : List ℕ} {v : Result (Unit {0}) Fault} {r : Result ℕ Fault} (g : Vets d x ws n is slots v) where
  pub several_refused : {y : Fault} → v ≡ Err y → Clears y.number y.place room slots out ends r → WritesSeveral d x ws n is room slots out ends r
  unfolding several_ends
  several_refused {y} e c =
      let z : several_writing d x ws n is room slots ≡ wrong y.number y.place = g.says room ∙ rw e in
      record { says = rw z c.says; of_ends = rw z c.of_ends }

  pub several_written : v ≡ Ok tt → WritesFit d x ws n is room slots out ends r → WritesSeveral d x ws n is room slots out ends r
  unfolding several_ends
  several_written e w =
      let z : several_writing d x ws n is room slots ≡ fitted room (concat (texts_of (content_at d x ws n) is)) = g.says room ∙ rw e in
      record { says = rw z w.left.says; of_ends = rw z w.left.of_ends }

module _ {d x ws is : List ℕ} {n slots : ℕ} {v : Result (Unit {0}) Fault} (g : Vets d x ws n is slots v) (e : v ≡ Ok tt) where
  pub several_admitted : Admitted d x ws n
  several_admitted = g.admitted e

  pub several_fit : Fit ws n is slots
  several_fit = g.fine e

pub ruleset several = (several_refused, several_written, several_admitted, several_fit, rules)
