-- Laws of the entry: which row is written, and what is answered.
use Prim.Native.Nat.{ℕ, ◌+◌, ◌*◌, ◌≤◌, ◌<◌, ◌^◌}
use native.Mathlib.Omega.{arith}
use mathlib.Core.Path.{◌≡◌, refl, ap, sym, subst, ◌∙◌}
use mathlib.Core.List.{List, [], map}
use mathlib.Core.Option.{Option, none, some}
use mathlib.Core.Bool.{Bool, true, false}
use borrow.Author.Rules.{rules}
use borrow.Author.Tests.{eq-eqb, ne_eqb, eqb-true}
use lib.Dec.{T, eqb}
use lib.ListN.{length, drop_of_length-le}
use lib.Seq.{get_or-drop}
use Rattle.std.specs.Prelude.{Result, Ok, Err}
use Rattle.std.proofs.lemmas.List.{drop-map}
use Rattle.faults.specs.declared.Fault.{Fault}
use Rattle.slices.specs.Bytes.{if, bytes}
use Rattle.slices.proofs.Runs.{if_same}
use Rattle.tables.proofs.Tables.{empty_stands}
use Rattle.answers.specs.Text.{wrong, Says, Finishes}
use Rattle.answers.proofs.Answers.{told, finished}
use Rattle.answers.proofs.Putting.{puts_as}
use Rattle.document.specs.Elements.{among}
use Rattle.soundness.specs.Outcome.{Admits}
use Rattle.soundness.proofs.Rows.{admitted, refused_as, admitted_as}
use Rattle.document.specs.Kinds as kinds
use Rattle.items.specs.Words.{Word, rows_of, viewed, rows_shown, shown_row}
use Rattle.items.specs.Written.{Item, annotated, argument, method, signal, written, written_member}
use Rattle.items.specs.Content.{Row, annotation_of, arg_of, member_of, item_of, first_item, content, content_at}
use Rattle.items.specs.Several.{there}
use Rattle.items.specs.Writing.{checked, item_written, writing, Writes}
use Rattle.items.proofs.Rows.{row-at, length_rows_of, sound_claimed, sound_held, sound_parent}
use Rattle.writers.specs.Rows.{Held}
use Rattle.writers.specs.Writes.{annotation_at, AnnotationPut, Scannable, ArgPut, MemberScannable, MemberPut, Writable, ItemPut}
use Rattle.writers.specs.Entry.{Admitted, WritesSound}
use Rattle.writers.proofs.Scans.{last_all}
use Rattle.writers.proofs.Members.{member_row, member_within}

-- the content of row i
pub content_is : (d x ws : List ℕ) (m i : ℕ) → i < m → content_at d x ws m i ≡ item_of (rows_shown d x ws m) i (shown_row d x ws i)
unfolding content
content_is d x ws m i h = ap (first_item (rows_shown d x ws m) i) (drop-map (viewed d x) i (rows_of m ws) ∙ ap (map (viewed d x)) (row-at m i ws h))

pub content_past : (d x ws : List ℕ) (m i : ℕ) → m ≤ i → content_at d x ws m i ≡ none
unfolding content
content_past d x ws m i h =
    let l : length (rows_of m ws) ≤ i = omega (arith, h, length_rows_of m ws) in
    ap (first_item (rows_shown d x ws m) i)
    (drop-map (viewed d x) i (rows_of m ws) ∙ ap (map (viewed d x)) (drop_of_length-le (rows_of m ws) l))

module _ (t : List Row) (i : ℕ) (r : Row) where
  of_method : r.kind ≡ kinds.method → item_of t i r ≡ some (method (member_of t i r))
  of_method e = rw (eq-eqb r.kind kinds.method e)

  of_signal : r.kind ≡ kinds.signal → item_of t i r ≡ some (signal (member_of t i r))
  of_signal e = rw (ne_eqb r.kind kinds.method (λ f. omega (arith, e, f)), eq-eqb r.kind kinds.signal e)

  of_annotation : r.kind ≡ kinds.annotation → item_of t i r ≡ some (annotated (annotation_of r))
  of_annotation e = rw (ne_eqb r.kind kinds.method (λ f. omega (arith, e, f)), ne_eqb r.kind kinds.signal (λ f. omega (arith, e, f)), eq-eqb r.kind kinds.annotation e)

  of_arg : r.kind ≡ kinds.arg → item_of t i r ≡ some (argument (arg_of t i r))
  of_arg e = rw (ne_eqb r.kind kinds.method (λ f. omega (arith, e, f)), ne_eqb r.kind kinds.signal (λ f. omega (arith, e, f)), ne_eqb r.kind kinds.annotation (λ f. omega (arith, e, f)), eq-eqb r.kind kinds.arg e)

  pub there_item : there (item_of t i r) ≡ among r.kind kinds.written
  there_item = go (eqb r.kind kinds.method) (eqb r.kind kinds.signal) (eqb r.kind kinds.annotation) (eqb r.kind kinds.arg)
    where
      go : (a b c d : Bool) → there (if a (some (method (member_of t i r))) (if b (some (signal (member_of t i r))) (if c (some (annotated (annotation_of r))) (if d (some (argument (arg_of t i r))) none)))) ≡ if a true (if b true (if c true (if d true false)))
      go true b c d = refl
      go false true c d = refl
      go false false true d = refl
      go false false false true = refl
      go false false false false = refl

  item_none : among r.kind kinds.written ≡ false → item_of t i r ≡ none
  item_none h = nothing (item_of t i r) (there_item ∙ h)
    where
      nothing : (o : Option Item) → there o ≡ false → o ≡ none
      nothing none e = refl
      nothing (some c) e = absurd (subst T e tt)

module _ {ws : List ℕ} {m i k : ℕ} (h : MemberScannable ws m i) (w : Word ws i 0 k) where
  kind_is : (d x : List ℕ) {n : ℕ} → k ≡ n → (shown_row d x ws i).kind ≡ n
  kind_is d x e = get_or-drop (i * 16) ws 0 0 ∙ sym w.is ∙ e

  module _ {d x t t' : List ℕ} {n r : ℕ} where
    pub item_annotation : k ≡ kinds.annotation → AnnotationPut d x ws i n t t' r → ItemPut d x ws m i n t t' r
    unfolding annotation_at
    item_annotation e q = record {
      item = annotated (annotation_of (shown_row d x ws i));
      is = content_is d x ws m i h.within ∙ of_annotation (rows_shown d x ws m) i (shown_row d x ws i) (kind_is d x e);
      puts = q.puts;
    }

    pub item_arg : k ≡ kinds.arg → ArgPut d x ws i m n t t' r → ItemPut d x ws m i n t t' r
    item_arg e q = record {
      item = argument (arg_of (rows_shown d x ws m) i (shown_row d x ws i));
      is = content_is d x ws m i h.within ∙ of_arg (rows_shown d x ws m) i (shown_row d x ws i) (kind_is d x e);
      puts = q.puts m h.held (last_all h.within);
    }

    pub item_member : Writable k true → (k ≡ kinds.annotation → ⊥) → (k ≡ kinds.arg → ⊥) → MemberPut d x ws m i k n t t' r → ItemPut d x ws m i n t t' r
    item_member y a b q = go (eqb k kinds.method) refl
      where
        a_signal : eqb k kinds.method ≡ false → k ≡ kinds.signal
        a_signal c =
            let w : true ≡ if (eqb k kinds.signal) true false = y.is ∙ rw (c, ne_eqb k kinds.annotation a, ne_eqb k kinds.arg b) in
            eqb-true k kinds.signal (sym (w ∙ if_same (eqb k kinds.signal)))

        go : (z : Bool) → eqb k kinds.method ≡ z → ItemPut d x ws m i n t t' r
        go true e = record {
          item = method (member_of (rows_shown d x ws m) i (shown_row d x ws i));
          is = content_is d x ws m i h.within ∙ of_method (rows_shown d x ws m) i (shown_row d x ws i) (kind_is d x (eqb-true k kinds.method e));
          puts = puts_as (ap (λ n. written_member n (member_of (rows_shown d x ws m) i (shown_row d x ws i))) (ap (λ z. if z (bytes "method") (bytes "signal")) e)) q.puts;
        }
        go false e = record {
          item = signal (member_of (rows_shown d x ws m) i (shown_row d x ws i));
          is = content_is d x ws m i h.within ∙ of_signal (rows_shown d x ws m) i (shown_row d x ws i) (kind_is d x (a_signal e));
          puts = puts_as (ap (λ n. written_member n (member_of (rows_shown d x ws m) i (shown_row d x ws i))) (ap (λ z. if z (bytes "method") (bytes "signal")) e)) q.puts;
        }

pub item_scans : {ws : List ℕ} {m i n : ℕ} → n < 4294967296 → MemberScannable ws m i → Scannable ws i m n
item_scans s h = record {
  onward = omega (arith, h.within);
  few = h.held.few;
  held = h.held.held;
  room = omega (arith, s, h.held.few);
}

pub item_room : (n : ℕ) → n < 4294967296 → n + 16777216 < 2 ^ 62
item_room n s = omega (arith, s)

pub zero_room : 0 < 4294967296
zero_room = omega arith

pub ruleset items = (item_annotation, item_arg, item_member, item_scans, item_room, member_row, member_within, rules)

pub writable_true : {k : ℕ} {b : Bool} → Writable k b → b ≡ true → Writable k true
writable_true y e = record { is = sym e ∙ y.is }

-- sound rows are held
module _ {d x ws : List ℕ} {n : ℕ} (h : Admitted d x ws n) where
  pub admitted_document : length d ≤ 1048576
  admitted_document = h.document

  pub admitted_text : length x ≤ 1048576
  admitted_text = h.text

  pub admitted_rows : Held ws n
  admitted_rows = record { few = sound_claimed d x ws n h.rows; held = sound_held d x ws n h.rows; parents = λ k l. sound_parent d x ws n h.rows k l }

  module _ {i : ℕ} (l : i < n) where
    pub admitted_scans : MemberScannable ws n i
    admitted_scans = record { held = admitted_rows; within = l }

    pub admitted_few : i < 262144
    admitted_few = omega (arith, l, admitted_rows.few)

    pub admitted_held : i * 16 + 16 ≤ length ws
    admitted_held = omega (arith, l, admitted_rows.held)

module _ {d x ws t t' : List ℕ} {n i : ℕ} {r : Result ℕ Fault} where
  pub no_row : n ≤ i → Says (wrong 20 i) (length t) t' r → WritesSound d x ws n i t t' r
  no_row h s = record { says = subst (λ o. Says (item_written i (length t) o) (length t) t' r) (sym (content_past d x ws n i h)) s }

  pub no_kind : {k : ℕ} {b : Bool} → i < n → Word ws i 0 k → Writable k b → b ≡ false → Says (wrong 20 i) (length t) t' r → WritesSound d x ws n i t t' r
  no_kind {k} h w y e s =
      let f : (shown_row d x ws i).kind ≡ k = get_or-drop (i * 16) ws 0 0 ∙ sym w.is in
      let g : among (shown_row d x ws i).kind kinds.written ≡ false = ap (λ z. among z kinds.written) f ∙ sym y.is ∙ e in
      record {
        says = subst (λ o. Says (item_written i (length t) o) (length t) t' r) (sym (content_is d x ws n i h ∙ item_none (rows_shown d x ws n) i (shown_row d x ws i) g)) s;
      }

  pub row_written : {t₁ : List ℕ} {m : ℕ} → ItemPut d x ws n i 0 t t₁ m → length t₁ ≡ length t → Finishes m 21 m t₁ t' r → WritesSound d x ws n i t t' r
  row_written {t₁} {m} q l f =
      let c = q.item in
      let s = f.says (written c) (q.puts.stands [] (empty_stands 1 t)) in
      let k : m ≡ length (written c) = q.puts.counts ∙ omega arith in
      record { says = subst (λ o. Says (item_written i (length t) o) (length t) t' r) (sym q.is) (rw (l, k) at s) }

pub ruleset rows = (told, finished, zero_room, writable_true, admitted_document, admitted_text, admitted_scans, admitted_few, admitted_held, no_row, no_kind, row_written, rules)

-- the answers
module _ {d x ws t' : List ℕ} {n i room : ℕ} {r : Result ℕ Fault} {z : Result (Unit {0}) Fault} (g : Admits d x ws n z) where
  pub refused : {f : Fault} → z ≡ Err f → Says (wrong f.number f.place) room t' r → Writes d x ws n i room t' r
  unfolding writing
  refused e s =
      let a = refused_as g wrong (λ v. checked v (item_written i room (content_at d x ws n i))) (λ p. refl) e in
      record { says = subst (λ o. Says o room t' r) (sym a) s }

  pub is_sound : {u : Unit {0}} {t : List ℕ} → z ≡ Ok u → length t ≡ room → WritesSound d x ws n i t t' r → Writes d x ws n i room t' r
  unfolding writing
  is_sound e l s =
      let a = admitted_as g wrong (λ v. checked v (item_written i room (content_at d x ws n i))) e in
      record { says = subst (λ o. Says o room t' r) (sym a) (rw l at s.says) }

pub admits : {u : Unit {0}} {d x ws : List ℕ} {n : ℕ} {z : Result (Unit {0}) Fault} → Admits d x ws n z → z ≡ Ok u → Admitted d x ws n
admits g e = let a = admitted g e in record { document = a.0; text = a.1; rows = a.2 }

pub ruleset entry = (refused, is_sound, admits, rules)
