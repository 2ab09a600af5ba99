-- Rows: their places, their texts, and the first bad one.
use Prim.Native.Nat.{ℕ, zero, suc, ◌+◌, ◌*◌, ◌-◌, ◌/◌, ◌≤◌, ◌<◌}
use mathlib.Core.Path.{◌≡◌, refl, ap, sym, ◌∙◌}
use mathlib.Core.List.{List, []}
use mathlib.Core.Bool.{Bool, true, false, ◌&&◌, ◌||◌, and-false}
use borrow.Author.Rules.{rules}
use borrow.Author.Tests.{ne_eqb, lt-ltb, le-ltb, ltb-false, le-leb, lt-leb}
use native.Mathlib.Nat.{add-zero, div-mul-le_self}
use native.Mathlib.Numerals.{add-one}
use native.Mathlib.Omega.{arith}
use lib.Dec.{eqb, leb, ltb}
use lib.ListN.{length, take, drop, get_or}
use Rattle.std.specs.Prelude.{Option, None, Some, Result, Ok, Err, MatchResult, IsErrAnd}
use Rattle.std.proofs.lemmas.Result.{err_from_is_err_and}
use Rattle.std.specs.Borrow.{Bor}
use Rattle.faults.specs.Fault.{fault}
use Rattle.faults.specs.declared.Fault.{Fault}
use Rattle.slices.specs.Bytes.{if}
use Rattle.tables.specs.declared.Triple.{Triple}
use Rattle.document.specs.Kinds as kinds
use Rattle.document.specs.Elements.{may_hold}
use Rattle.utf8.specs.WellFormed.{ill_formed}
use Rattle.utf8.specs.Trim.{Start}
use Rattle.utf8.proofs.Parts.{start_none}
use Rattle.items.specs.Words.{RowWords, word_at, Word, triple_at, TripleIs, row_of, rows_of}
use Rattle.items.specs.Sound.{kind_at, placed, good_triple, name_use, value_use, tp_use, doc_use, valid_name, valid_value, any_text, in_document, valid_word, sound_row, first_bad, Soundness, sound, unsound, soundness, good_row}
use Rattle.items.specs.Order.{DocumentOrder}
use Rattle.items.proofs.Rows.{row-at, rows_past, kind_word}
use Rattle.items.proofs.Words.{word_in}
use Rattle.soundness.specs.Outcome.{good_doc, good_texts, Placed, Texts, RowGood, Orders, Counted, Tallied, ByTally, Prepared, RowSound, FirstBad, Judges, refusal_of, admission, Admits}
use Rattle.soundness.specs.declared.tally.Tally.{Tally}
use Rattle.soundness.specs.declared.tally.Tally.TheVariants.{Empty}
use Rattle.soundness.proofs.Tallies.{tally_begins, tally_counts}

-- ---- the place of a row

module _ {ws : List ℕ} {i k p : ℕ} (a : Word ws i 0 k) (g : Word ws i 1 p) where
  root : (r : Bool) → i ≡ 0 → r ≡ eqb k kinds.node && eqb p 0 → Placed ws i r
  root r e h =
      let q : r ≡ eqb (word_at ws i 0) kinds.node && eqb (word_at ws i 1) 0 = rw (← a.is, ← g.is) h in
      record { is = λ n l. rw e (rw e at q) }

  pub root_kind : i ≡ 0 → (k ≡ kinds.node → ⊥) → Placed ws i false
  root_kind e h = root false e (rw (ne_eqb k kinds.node h))

  pub root_parent : i ≡ 0 → k ≡ kinds.node → Placed ws i (eqb p 0)
  root_parent e h = root (eqb p 0) e (rw h)

  -- any other row
  inner : (i ≡ 0 → ⊥) → (n : ℕ) → placed (rows_of n ws) i (row_of (drop (i * 16) ws)) ≡ ltb 0 p && leb p i && may_hold (kind_at (rows_of n ws) (p - 1)) k
  inner h n = go i h
    where
      go : (j : ℕ) → (j ≡ 0 → ⊥) → placed (rows_of n ws) j (row_of (drop (i * 16) ws)) ≡ ltb 0 p && leb p j && may_hold (kind_at (rows_of n ws) (p - 1)) k
      go zero h = absurd (h refl)
      go (suc j) h = rw (word_in a, word_in g)

  module _ (h : i ≡ 0 → ⊥) where
    pub no_parent : p ≡ 0 → Placed ws i false
    no_parent e = record { is = λ n l. sym (inner h n ∙ rw e) }

    module _ (o : p ≡ 0 → ⊥) where
      pub late_parent : i ≤ p - 1 → Placed ws i false
      late_parent e = record { is = λ n l. sym (inner h n ∙ rw (lt-ltb 0 p (omega arith), lt-leb p i (omega arith))) }

      pub parent_holds : {r : Bool} {m : ℕ} → p - 1 < i → Word ws (p - 1) 0 m → r ≡ may_hold m k → Placed ws i r
      parent_holds {m = m} e w q =
          let f : m ≡ get_or ws ((p - 1) * 16) 0 = w.is ∙ rw add-zero in
          record {
            is = λ n l. q ∙ sym (inner h n ∙ rw (lt-ltb 0 p (omega arith), le-leb p i (omega arith), kind_word n (p - 1) ws (omega arith), ← f));
          }

pub ruleset places = (root_kind, root_parent, no_parent, late_parent, parent_holds, rules)

-- ---- its texts

module _ (d x : List ℕ) {ws : List ℕ} {i k : ℕ} (a : Word ws i 0 k) where
  module _ {t : Triple} {n : Bool} (e : TripleIs ws i 2 t) (h : n ≡ good_triple d x (name_use k) (valid_name k) t) where
    named : good_triple d x (name_use (get_or (drop (i * 16) ws) 0 0)) (valid_name (get_or (drop (i * 16) ws) 0 0)) (triple_at 2 (drop (i * 16) ws)) ≡ n
    named = sym (rw (← word_in a, ← e.is) h)

    pub no_name : n ≡ false → Texts d x ws i false
    unfolding good_texts
    no_name q = record { is = rw (named ∙ q) }

  module _ {t : Triple} {v : Bool} (e : TripleIs ws i 5 t) (h : v ≡ good_triple d x (value_use k) (valid_value k) t) where
    valued : good_triple d x (value_use (get_or (drop (i * 16) ws) 0 0)) (valid_value (get_or (drop (i * 16) ws) 0 0)) (triple_at 5 (drop (i * 16) ws)) ≡ v
    valued = sym (rw (← word_in a, ← e.is) h)

    pub no_value : v ≡ false → Texts d x ws i false
    unfolding good_texts
    no_value q = record { is = rw (valued ∙ q, and-false) }

  module _ {t : Triple} {p : Bool} (e : TripleIs ws i 8 t) (h : p ≡ good_triple d x (tp_use k) any_text t) where
    typed : good_triple d x (tp_use (get_or (drop (i * 16) ws) 0 0)) any_text (triple_at 8 (drop (i * 16) ws)) ≡ p
    typed = sym (rw (← word_in a, ← e.is) h)

    pub no_tp : p ≡ false → Texts d x ws i false
    unfolding good_texts
    no_tp q = record { is = rw (typed ∙ q, and-false) }

  pub last_text : {t₁ t₂ t₃ t₄ : Triple} {n v p r : Bool} → TripleIs ws i 2 t₁ → n ≡ good_triple d x (name_use k) (valid_name k) t₁ → n ≡ true → TripleIs ws i 5 t₂ → v ≡ good_triple d x (value_use k) (valid_value k) t₂ → v ≡ true → TripleIs ws i 8 t₃ → p ≡ good_triple d x (tp_use k) any_text t₃ → p ≡ true → TripleIs ws i 11 t₄ → r ≡ good_doc d x k t₄ → Texts d x ws i r
  unfolding good_texts
  last_text e₁ h₁ q₁ e₂ h₂ q₂ e₃ h₃ q₃ e₄ h₄ = record {
    is = rw (named e₁ h₁ ∙ q₁, valued e₂ h₂ ∙ q₂, typed e₃ h₃ ∙ q₃, ← word_in a, ← e₄.is) h₄;
  }

pub ruleset texts = (no_name, no_value, no_tp, last_text, rules)

-- ---- the row but for its members

-- a row's clauses, as the code takes them
module _ (d x : List ℕ) (rows : List RowWords) (i : ℕ) (r : RowWords) where
  grouped : good_row d x rows i r ≡ placed rows i r && good_texts d x r && valid_word r.kind r.word && ltb r.at (length d)
  unfolding good_row good_texts good_doc
  grouped =
      go
      (placed rows i r)
      (good_triple d x (name_use r.kind) (valid_name r.kind) r.name)
      (good_triple d x (value_use r.kind) (valid_value r.kind) r.value)
      (good_triple d x (tp_use r.kind) any_text r.tp)
      (good_triple d x (doc_use r.kind) any_text r.doc)
      (in_document r.doc)
      (valid_word r.kind r.word)
      (ltb r.at (length d))
    where
      go : (p n v t o s w l : Bool) → p && n && v && t && o && s && w && l ≡ p && (n && v && t && (o && s)) && w && l
      go false n v t o s w l = refl
      go true false v t o s w l = refl
      go true true false t o s w l = refl
      go true true true false o s w l = refl
      go true true true true o s w l = refl

module _ (d x ws : List ℕ) (i : ℕ) where
  pub not_placed : {b : Bool} → Placed ws i b → b ≡ false → RowGood d x ws i false
  not_placed {b} p q = record { is = λ n l. sym (grouped d x (rows_of n ws) i (row_of (drop (i * 16) ws)) ∙ rw (sym (p.is n l) ∙ q)) }

  pub bad_texts : {b : Bool} → Texts d x ws i b → b ≡ false → RowGood d x ws i false
  bad_texts {b} p q = record { is = λ n l. sym (grouped d x (rows_of n ws) i (row_of (drop (i * 16) ws)) ∙ rw (sym p.is ∙ q, and-false)) }

  module _ {k v : ℕ} {w : Bool} (a : Word ws i 0 k) (c : Word ws i 14 v) (e : w ≡ valid_word k v) where
    word : valid_word (get_or (drop (i * 16) ws) 0 0) (get_or (drop (i * 16) ws) 14 0) ≡ w
    word = sym (rw (← word_in a, ← word_in c) e)

    pub bad_word : w ≡ false → RowGood d x ws i false
    bad_word q = record { is = λ n l. sym (grouped d x (rows_of n ws) i (row_of (drop (i * 16) ws)) ∙ rw (word ∙ q, and-false)) }

    pub last_word : {m f : Bool} {z : ℕ} → Placed ws i m → m ≡ true → Texts d x ws i f → f ≡ true → w ≡ true → Word ws i 15 z → RowGood d x ws i (ltb z (length d))
    last_word {m} {f} p o g h u y = record {
      is = λ n l.
          sym
          (grouped d x (rows_of n ws) i (row_of (drop (i * 16) ws))
          ∙ rw (sym (p.is n l) ∙ o, sym g.is ∙ h, word ∙ u, ← word_in y));
    }

pub ruleset whole = (not_placed, bad_texts, bad_word, last_word, rules)

-- ---- the whole row

module _ {d x ws : List ℕ} {n i : ℕ} {b : Bool} (l : i < n) (g : RowGood d x ws i b) where
  pub row_bad : b ≡ false → RowSound d x ws n i false
  unfolding sound_row
  row_bad q = record { is = rw (sym (g.is n l) ∙ q) }

  pub row_counted : {r : Bool} → b ≡ true → Counted d x ws n i r → RowSound d x ws n i r
  unfolding sound_row
  row_counted q c = record { is = c.is ∙ rw (sym (g.is n l) ∙ q) }

  pub row_tallied : {r : Bool} {o : Option (Bor (List Tally))} {ts : Bor (List Tally)} → b ≡ true → Prepared d x ws n o → o ≡ Some ts → ByTally ws i (get_or ts.now i Empty) r → RowSound d x ws n i r
  row_tallied {ts = ts} q p e t = row_counted q (tally_counts d x (p.tally ts e) l refl t)

module _ {d x ws : List ℕ} {n : ℕ} {o : Option (Bor (List Tally))} (p : Prepared d x ws n o) where
  pub in_order : o ≡ None → DocumentOrder ws n
  in_order e = p.order e

  pub tally_room : {i : ℕ} {ts : Bor (List Tally)} → i < n → o ≡ Some ts → i < length ts.now
  tally_room {ts = ts} l e = omega (arith, (p.tally ts e).room)

pub ruleset sound_rows = (row_bad, row_counted, row_tallied, in_order, tally_room, rules)

-- ---- the first bad row

-- a loop over n rows that stands at row i: what is left of them decides
pub record Checking (d x ws : List ℕ) (n i : ℕ) : Type 0 where
  pub left : first_bad d x (rows_of n ws) 0 (rows_of n ws) ≡ first_bad d x (rows_of n ws) i (drop i (rows_of n ws))
  pub inside : i ≤ n

pub check_begins : (d x ws : List ℕ) (n : ℕ) → Checking d x ws n 0
check_begins d x ws n = record { left = refl; inside = omega arith }

module _ {d x ws : List ℕ} {n i : ℕ} (g : Checking d x ws n i) where
  pub check_ends : n ≤ i → FirstBad d x ws n (Ok tt)
  check_ends h =
      let e : i ≡ n = omega (arith, g.inside) in
      let z : first_bad d x (rows_of n ws) 0 (rows_of n ws) ≡ n = g.left ∙ rw (e, rows_past n ws) in
      record { is = rw (z, le-ltb n n (omega arith)) }

  module _ {b : Bool} (h : i < n) (r : RowSound d x ws n i b) where
    pub check_stops : b ≡ false → FirstBad d x ws n (Err i)
    check_stops q =
        let z : first_bad d x (rows_of n ws) 0 (rows_of n ws) ≡ i = g.left ∙ rw (row-at n i ws h, sym r.is ∙ q) in
        record { is = rw (z, lt-ltb i n h) }

    pub check_more : b ≡ true → Checking d x ws n (i + 1)
    check_more q = record {
      left = g.left ∙ rw (add-one, row-at n i ws h, sym r.is ∙ q);
      inside = omega arith;
    }

pub known_inside : {s : List ℕ} {u : ℕ} → Start s u → u ≤ length s
known_inside g = g.inside

pub known_formed : {s : List ℕ} {u : ℕ} → Start s u → ill_formed (take u s) ≡ u
known_formed g = g.is

pub ruleset checks = (check_begins, check_ends, check_stops, check_more, known_inside, known_formed, rules)

-- ---- the ways to it

pub ready_order : (d x : List ℕ) {ws : List ℕ} {n : ℕ} {o : Bool} → Orders ws n o → o ≡ true → Prepared d x ws n None
ready_order d x g e = record { order = λ q. g.is e; tally = λ ts q. let z : ◌≡◌ {A = ℕ} 0 1 = cc in absurd (omega arith) }

pub ready_tally : {d x ws : List ℕ} {n : ℕ} {ts : Bor (List Tally)} → Tallied d x ws n n ts.now → Prepared d x ws n (Some ts)
ready_tally {ts = ts} g = record { order = λ q. let z : ◌≡◌ {A = ℕ} 0 1 = cc in absurd (omega arith); tally = λ us q. let z : ts ≡ us = cc in rw (← z) g }

pub ruleset ways = (ready_order, ready_tally, tally_begins, rules)

-- ---- what is said of the whole

pub held_words : (n : ℕ) (ws : List ℕ) → n ≤ length ws / 16 → n * 16 ≤ length ws
held_words n ws h = omega (arith, div-mul-le_self (length ws) 16)

-- of a buffer nothing is known yet
pub none_formed : ill_formed [] ≡ 0
none_formed = (start_none []).is

module _ (d x ws : List ℕ) (n : ℕ) where
  pub too_many : 262144 < n → Judges d x ws n (Err 262144)
  unfolding soundness
  too_many h = record { is = rw (lt-ltb 262144 n h) }

  module _ (c : n ≤ 262144) where
    pub too_few : length ws / 16 < n → Judges d x ws n (Err (length ws / 16))
    unfolding soundness
    too_few h = record { is = rw (le-ltb 262144 n c, lt-ltb (length ws / 16) n h) }

    pub by_first : {r : Result Unit ℕ} → n ≤ length ws / 16 → FirstBad d x ws n r → Judges d x ws n r
    unfolding soundness
    by_first h e = record { is = e.is ∙ rw (le-ltb 262144 n c, le-ltb (length ws / 16) n h) }

pub ruleset judges = (held_words, none_formed, too_many, too_few, by_first, rules)

-- ---- for whoever matches on what the check says

module _ {d x ws : List ℕ} {n : ℕ} {r : Result Unit ℕ} (g : Judges d x ws n r) where
  pub judged_sound : {u : Unit} → r ≡ Ok u → soundness d x ws n ≡ sound
  judged_sound e = sym (rw e at g).is

  pub judged_unsound : {p : ℕ} → r ≡ Err p → soundness d x ws n ≡ unsound p
  judged_unsound e = sym (rw e at g).is

-- ---- what is admitted

module _ {d x ws : List ℕ} {n : ℕ} where
  pub admit_document : 1048576 < length d → Admits d x ws n (Err (fault 2 1048576))
  unfolding admission
  admit_document h = record { is = rw (lt-ltb 1048576 (length d) h) }

  module _ (h : length d ≤ 1048576) where
    pub admit_text : 1048576 < length x → Admits d x ws n (Err (fault 2 1048576))
    unfolding admission
    admit_text k = record { is = rw (le-ltb 1048576 (length d) h, lt-ltb 1048576 (length x) k) }

    -- F of a place and a fault says that the fault is 19 at the place
    pub admit_checked : length x ≤ 1048576 → {z : Result Unit ℕ} {r : Result Unit Fault} {F : ℕ → Fault → Type 0} → Judges d x ws n z
        → MatchResult z (λ u. r ≡ Ok u) (λ p. IsErrAnd r (F p)) → ((p : ℕ) (f : Fault) → F p f → f ≡ fault 19 p) → Admits d x ws n r
    unfolding admission
    admit_checked k {z} {r} {F} g m t = record { is = rw (le-ltb 1048576 (length d) h, le-ltb 1048576 (length x) k) (go z refl r m) }
      where
        go : (y : Result Unit ℕ) → z ≡ y → (q : Result Unit Fault) → MatchResult y (λ u. q ≡ Ok u) (λ p. IsErrAnd q (F p)) → q ≡ refusal_of (soundness d x ws n)
        go (Ok u) e q a = a ∙ rw (judged_sound g e)
        go (Err p) e q a =
            let b = err_from_is_err_and q a in
            b.1 ∙ ap Err (t p b.0 b.2) ∙ rw (judged_unsound g e)

-- for whoever matches on that: what is admitted, and an answer by cases that is a refusal or not
module _ {d x ws : List ℕ} {n : ℕ} {r : Result Unit Fault} (g : Admits d x ws n r) where
  pub admitted : {u : Unit} → r ≡ Ok u → (length d ≤ 1048576) × (length x ≤ 1048576) × (soundness d x ws n ≡ sound)
  unfolding admission
  admitted e = go (ltb 1048576 (length d)) refl (ltb 1048576 (length x)) refl (soundness d x ws n) refl (sym e ∙ g.is)
    where
      go : {u : Unit} (b : Bool) → ltb 1048576 (length d) ≡ b → (c : Bool) → ltb 1048576 (length x) ≡ c → (s : Soundness) → soundness d x ws n ≡ s → ◌≡◌ {A = Result Unit Fault} (Ok u) (if (b || c) (Err (fault 2 1048576)) (refusal_of s))
          → (length d ≤ 1048576) × (length x ≤ 1048576) × (soundness d x ws n ≡ sound)
      go true h c k s v q = absurd (cc)
      go false h true k s v q = absurd (cc)
      go false h false k (unsound p) v q = absurd (cc)
      go false h false k sound v q = (ltb-false 1048576 (length d) h, ltb-false 1048576 (length x) k, v)

  module _ {A : Type 0} (w : ℕ → ℕ → A) (c : Soundness → A) where
    pub refused_as : ((p : ℕ) → c (unsound p) ≡ w 19 p) → {f : Fault} → r ≡ Err f
        → if (ltb 1048576 (length d) || ltb 1048576 (length x)) (w 2 1048576) (c (soundness d x ws n)) ≡ w f.number f.place
    unfolding admission
    refused_as h e = go (ltb 1048576 (length d) || ltb 1048576 (length x)) (soundness d x ws n) (sym e ∙ g.is)
      where
        go : {f : Fault} (b : Bool) (s : Soundness) → ◌≡◌ {A = Result Unit Fault} (Err f) (if b (Err (fault 2 1048576)) (refusal_of s)) → if b (w 2 1048576) (c s) ≡ w f.number f.place
        go {f} true s q = let z : f ≡ fault 2 1048576 = cc in rw z
        go {f} false (unsound p) q = let z : f ≡ fault 19 p = cc in rw z (h p)
        go false sound q = absurd (cc)

    pub admitted_as : {u : Unit} → r ≡ Ok u
        → if (ltb 1048576 (length d) || ltb 1048576 (length x)) (w 2 1048576) (c (soundness d x ws n)) ≡ c sound
    admitted_as e = let a = admitted e in rw (le-ltb 1048576 (length d) a.0, le-ltb 1048576 (length x) a.1, a.2)
