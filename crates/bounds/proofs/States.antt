-- What holds of a state at a place: how many rows and warnings and how much text there are at most; and each step keeps it.
-- A row or a warning comes with a start tag of 3 bytes at least, or of 4 where it is `/>`; any other is closed by a tag of its
-- own. So 4 times their number is at most the place plus the number of open elements.
use Prim.Native.Nat.{ℕ, ◌+◌, ◌-◌, ◌*◌, ◌≤◌, ◌<◌}
use mathlib.Core.Path.{◌≡◌, refl, ap, sym, ◌∙◌}
use mathlib.Core.List.{List, [], ◌∷◌, ◌++◌}
use mathlib.Core.Bool.{◌||◌}
use native.Mathlib.Omega.{arith}
use lib.Dec.{eqb}
use lib.ListN.{length, take, drop, length-append, take-append-drop}
use lib.Seq.{length-take-le}
use Rattle.document.specs.Kinds.{definitions}
use Rattle.document.specs.Tags.{Shown}
use Rattle.document.specs.Tokens.{Tag, Token, start, close, fault, end}
use Rattle.document.specs.Rows.{Row, Tables, row_text, texts}
use Rattle.document.specs.Elements.{among}
use Rattle.document.specs.Reading.{Definition, Frame, element, definition, passing, parent_of, reason_of, noted, frame_of, with_row, with_warning, dropped}
use Rattle.document.specs.Refusals.{fault_in}
use Rattle.document.specs.Outcome.{whole}
use Rattle.document.specs.declared.Refusal.{Refusal}
use Rattle.rows.proofs.Words.{length_documented, texts_documented, texts_append, texts_more}
use Rattle.bounds.specs.Bounds.{Fits}
use Rattle.document.proofs.Tests.{either}
use Rattle.document.proofs.Steps as steps
use Rattle.document.proofs.Steps.{noted_keeps, Known, Closes, Shuts, Ways, Steps, captures_at}
use Rattle.document.proofs.Attributes.{Met}
use Rattle.document.proofs.Nexts as nexts
use Rattle.document.proofs.Nexts.{Starts, Onward, Ended}
use Rattle.bounds.proofs.Texts.{start_opens}

-- a definition that is open has a row, after the rows of the definitions around it
abbrev pub Owned : ℕ → List Frame → Type 0
Owned n [] = Unit {0}
Owned n (element k m r ∷ fs) = Owned n fs
Owned n (definition d ∷ fs) = (d.row < n) × Owned d.row fs
Owned n (passing p ns ∷ fs) = Owned n fs

-- tables while elements are open, at a place
pub record Holds (at : ℕ) (fs : List Frame) (u : Tables Shown) : Type 0 where
  pub few : 4 * (length u.rows + length u.warnings) ≤ at + length fs
  pub text : length (texts u.rows) ≤ at
  pub owned : Owned (length u.rows) fs

-- what is known at a place, and what at the end of the document
abbrev pub held : ℕ → ℕ → Known Shown
held top at = record { first = Unit {0}; inside = Holds at; done = Fits top; fault = λ x. Met top x.number x.place }

abbrev pub final : ℕ → Known Shown
final top = record { first = ⊥; inside = λ fs u. ⊥; done = Fits top; fault = λ x. Met top x.number x.place }

-- the refusal of a fault has its number and place
abbrev Numbered : ℕ → ℕ → Refusal → Type 0
Numbered n p x = (x.number ≡ n) × (x.place ≡ p)

fault_is : (doc : List ℕ) (n p : ℕ) → Numbered n p (fault_in doc n p)
unfolding fault_in
fault_is doc n p =
    either (Numbered n p) (eqb n 8) (λ t. (refl, refl)) (λ t. either (Numbered n p) (eqb n 10 || eqb n 11) (λ t. (refl, refl)) (λ t. (refl, refl)))

-- ---- frames

owned_more : (n m : ℕ) (fs : List Frame) → n ≤ m → Owned n fs → Owned m fs
owned_more n m [] h o = tt
owned_more n m (element k x r ∷ fs) h o = owned_more n m fs h o
owned_more n m (definition d ∷ fs) h o = (omega (arith, o.0), o.1)
owned_more n m (passing p ns ∷ fs) h o = owned_more n m fs h o

-- a part that is noted in its definition changes neither
abbrev Alike : List Frame → List Frame → Type 0
Alike fs gs = (length gs ≡ length fs) × ((n : ℕ) → Owned n fs → Owned n gs)

noted_alike : (k : ℕ) (t : Tag) (fs : List Frame) → Alike fs (noted k t fs)
noted_alike k t fs = noted_keeps (Alike fs) k t (λ d gs h. h) fs (refl, λ n o. o)

-- ---- tables

holds_on : {at : ℕ} (q : ℕ) {fs : List Frame} {u : Tables Shown} → at ≤ q → Holds at fs u → Holds q fs u
holds_on q l h = record { few = omega (arith, h.few); text = omega (arith, h.text); owned = h.owned }

texts_taken : (n : ℕ) (rs : List (Row Shown)) → length (texts (take n rs)) ≤ length (texts rs)
texts_taken n rs =
    let e : texts rs ≡ texts (take n rs) ++ texts (drop n rs) = ap texts (sym (take-append-drop n rs)) ∙ texts_append (take n rs) (drop n rs) in
    omega (arith, ap length e, length-append (texts (take n rs)) (texts (drop n rs)))

-- a row more, with its frame; a warning more
row_holds : {at : ℕ} (q k : ℕ) (t : Tag) (r : Row Shown) {fs : List Frame} {u : Tables Shown} → at + 3 ≤ q → at + length (row_text r) ≤ q → Holds at fs u → Holds q (frame_of k t (length u.rows) ∷ noted k t fs) (with_row r u)
row_holds q k t r {fs} {u} l m h =
    let a = noted_alike k t fs in
    let n = length-append u.rows (r ∷ []) in
    record {
      few = omega (arith, h.few, a.0, n);
      text = rw (texts_more, length-append) (omega (arith, h.text));
      owned = either (λ (f : Frame). Owned (length (u.rows ++ (r ∷ []))) (f ∷ noted k t fs)) (among k definitions)
          (λ c. (omega arith, a.1 (length u.rows) h.owned))
          (λ c. a.1 (length (u.rows ++ (r ∷ []))) (owned_more (length u.rows) (length (u.rows ++ (r ∷ []))) fs (omega arith) h.owned));
    }

warning_holds : {at : ℕ} (q why p : ℕ) (n : List ℕ) (fs gs : List Frame) {u : Tables Shown} → at + 4 + length fs ≤ q + length gs → at ≤ q → ((i : ℕ) → Owned i fs → Owned i gs) → Holds at fs u → Holds q gs (with_warning why p n u)
warning_holds q why p n fs gs {u} l i o h =
    record {
      few = rw length-append (omega (arith, h.few));
      text = omega (arith, h.text);
      owned = o (length u.rows) h.owned;
    }

module _ (doc : List ℕ) (top : ℕ) where
  fits : {at : ℕ} {u : Tables Shown} → at ≤ top → Holds at [] u → Fits top u
  fits l h = record { few = omega (arith, h.few); text = omega (arith, h.text) }

  -- an element is closed: one open element less, and a byte or more is read
  popped : {at q : ℕ} → at < q → {f : Frame} {fs : List Frame} {u : Tables Shown} → Owned (length u.rows) fs → Holds at (f ∷ fs) u → Holds q fs u
  popped m o h = record { few = omega (arith, h.few); text = omega (arith, h.text); owned = o }

  dropped_holds : {at q : ℕ} (d : Definition) (fs : List Frame) (u : Tables Shown) → at < q → Holds at (definition d ∷ fs) u → Holds q fs (dropped (reason_of d) d u)
  dropped_holds d fs u l h =
      let n : length (take d.row u.rows) ≡ d.row = length-take-le d.row u.rows (omega (arith, h.owned.0)) in
      record {
        few = rw (n, length-append) (omega (arith, h.few, h.owned.0));
        text = omega (arith, h.text, texts_taken d.row u.rows);
        owned = rw n h.owned.1;
      }

  module _ {at q : ℕ} (m : at < q) (l : q ≤ top) where
    closes : Closes whole doc (held top at) (held top q)
    closes = record {
      element = λ k n r fs u h. popped m h.owned h;
      whole = λ d fs u e h. popped m (owned_more d.row (length u.rows) fs (omega (arith, h.owned.0)) h.owned.1) h;
      broken = λ d fs u e h. dropped_holds d fs u m h;
      root = λ u h. fits l h;
    }

  -- a docstring changes no count
  docstring_holds : {q : ℕ} (lt s i : ℕ) (fs : List Frame) (u : Tables Shown) → Holds q fs u → Holds q fs (captures_at whole doc lt s i u)
  docstring_holds lt s i fs u h = record {
    few = rw (length_documented _ i u.rows) h.few;
    text = rw (texts_documented _ i u.rows) h.text;
    owned = rw (length_documented _ i u.rows) h.owned;
  }

  module _ (at q : ℕ) where
    starts : (t : Tag) → Starts at top t q → steps.Starts whole doc (held top at) (held top (q - 1)) (held top q) t
    starts t g =
        let l : at ≤ q = omega (arith, g.long, g.since) in
        record {
          closes = closes (omega (arith, g.long)) g.within;
          moves = λ f fs u c h. holds_on q l h;
          row = λ k r fs u c b n e d h.
              let o : t.at + length (row_text r) < q = rw e at (start_opens t g k (parent_of fs)) in
              row_holds q k t r (omega (arith, g.long, g.since)) (omega (arith, g.since)) h;
          own_row = λ k r fs u c b n e h.
              let o : t.at + length (row_text r) < q = rw e at (start_opens t g k (parent_of fs)) in
              row_holds (q - 1) k t r (omega (arith, g.self c, g.since)) (omega (arith, g.since)) h;
          refusal = λ k p x e. rw e at (start_opens t g k p);
          deep = record { number = refl; place = omega (arith, g.after, g.within) };
          warning = λ f fs u c h. warning_holds q 1 t.at t.name (f ∷ fs) (f ∷ fs) (omega (arith, g.self c, g.since)) l (λ i o. o) h;
          skips = λ f fs u c r h. warning_holds q 1 t.at t.name (f ∷ fs) _ (omega (arith, g.long, g.since)) l (λ i o. o) h;
          docstring = λ f fs u c d h. record { few = omega (arith, h.few); text = omega (arith, h.text); owned = h.owned };
          within = λ p ns fs u c d h. record { few = omega (arith, h.few); text = omega (arith, h.text); owned = h.owned };
        }

    shuts : (lt : ℕ) (n : List ℕ) (p : ℕ) → nexts.Closes at top lt p q → Shuts whole doc (held top at) (held top q) lt n p
    shuts lt n p g =
        let m : at < q = omega (arith, g.since, g.long) in
        record {
          closes = closes m g.within;
          passed = λ p ns fs u l h. popped m h.owned h;
          docstring = λ s r ns fs u l e h. docstring_holds lt s r fs u (popped m h.owned h);
          within = λ p n ns fs u l e h. record { few = omega (arith, h.few); text = omega (arith, h.text); owned = h.owned };
          another = λ f fs u h. record { number = refl; place = omega (arith, g.after, g.within) };
          none = record { number = refl; place = omega (arith, g.long, g.within) };
        }

    ways : (t : Token) → Onward at top t q → Ways whole doc (held top at) (held top (q - 1)) (held top q) t
    ways (start t) g = starts t g
    ways (close lt n p) g = shuts lt n p g
    ways (fault n p) g = absurd g
    ways (end p) g = absurd g

    pub one_step : (t : Token) → at ≤ top → Onward at top t q → Steps whole doc (held top at) (held top (q - 1)) (held top q) t
    one_step t l g = record {
      ways = ways t g;
      empty = λ h. record { few = omega arith; text = omega arith; owned = tt };
      done = λ u h. h;
      fault = λ x h. h;
    }

  -- ---- the last token

  last_ways : (at : ℕ) (t : Token) → Ended top t → Ways whole doc (held top at) (final top) (final top) t
  last_ways at (start t) g = absurd g
  last_ways at (close lt n p) g = absurd g
  last_ways at (fault n p) g = let i = fault_is doc n p in record { number = rw i.0 g.number; place = rw i.1 g.place }
  last_ways at (end p) g = (record { number = refl; place = omega arith }, λ f fs u h. record { number = refl; place = omega arith })

  pub last_step : (at : ℕ) (t : Token) → at ≤ top → Ended top t → Steps whole doc (held top at) (final top) (final top) t
  last_step at t l g = record {
    ways = last_ways at t g;
    empty = λ h. record { few = omega arith; text = omega arith; owned = tt };
    done = λ u h. h;
    fault = λ x h. h;
  }
