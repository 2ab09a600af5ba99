-- The rows of a state are in document order, and the last row stands in the open elements, one in another: every step keeps that. A
-- row more stands in the innermost.
use Prim.Native.Nat.{ℕ, suc, ◌≤◌, ◌<◌}
use mathlib.Core.Path.{◌≡◌, refl, ap, sym, ◌∙◌, subst}
use mathlib.Core.List.{List, [], ◌∷◌, ◌++◌}
use native.Mathlib.Omega.{arith}
use lib.ListN.{length, take, length-append}
use lib.Seq.{length-take-le}
use Rattle.utf8.proofs.Sequences.{below}
use Rattle.document.specs.Kinds.{definitions}
use Rattle.document.specs.Tags.{Shown}
use Rattle.document.specs.Tokens.{Tag, Token, start, close, fault, end}
use Rattle.document.specs.Rows.{Row, Tables, words_from}
use Rattle.document.specs.Elements.{among, Opened, opens, refuses, opens_as}
use Rattle.document.specs.Reading.{Definition, Frame, element, definition, passing, parent_of, noted, frame_of}
use Rattle.document.specs.Outcome.{whole}
use Rattle.document.proofs.Tests.{either}
use Rattle.document.proofs.Opens.{any_way}
use Rattle.document.proofs.Steps.{noted_keeps, Begins, Known, Closes, Ways}
use Rattle.rows.proofs.Words.{length_documented}
use Rattle.items.specs.Order.{parent_at, Under, DocumentOrder}
use Rattle.items.proofs.Order.{Falls, Follow, under_up, under_through, follow_falls}
use Rattle.accepted.proofs.Tokens.{Comes}
use Rattle.accepted.proofs.Folding.{run_kept, Accepts}
use Rattle.accepted.proofs.Entries.{Brief}
use Rattle.accepted.proofs.States.{row_at, at_more, at_last, at_first, at_documented}

-- ---- n rows, by their parents' rows plus one

abbrev Alike : ℕ → (ℕ → ℕ) → (ℕ → ℕ) → Type 0
Alike n f g = (i : ℕ) → i < n → f i ≡ g i

-- rows below b of open elements, innermost first: the first is above u, a row plus one, and each next above it
abbrev Chain : (ℕ → ℕ) → ℕ → ℕ → List ℕ → Type 0
Chain f b u [] = Unit {0}
Chain f b u (r ∷ rs) = (r < b) × Under f (suc r) u × Chain f r (suc r) rs

under_alike : (n : ℕ) (f g : ℕ → ℕ) → Alike n f g → Falls f n → {w v : ℕ} → Under f w v → v ≤ n → Under g w v
under_alike n f g a d Under.itself l = Under.itself
under_alike n f g a d {w} (Under.above {u = x} h) l =
    let b = d x (omega arith) in
    Under.above (subst (λ j. Under g w j) (a x (omega arith)) (under_alike n f g a d h (omega arith)))

follow_alike : (n : ℕ) (f g : ℕ → ℕ) → Alike n f g → Follow f n → Follow g n
follow_alike n f g a o k l = rw (← a k l) (under_alike n f g a (follow_falls f n o) (o k l) (omega arith))

chain_alike : (n : ℕ) (f g : ℕ → ℕ) → Alike n f g → Falls f n → (b u : ℕ) (rs : List ℕ) → b ≤ n → u ≤ n → Chain f b u rs → Chain g b u rs
chain_alike n f g a d b u [] l m h = tt
chain_alike n f g a d b u (r ∷ rs) l m h =
    (h.0, under_alike n f g a d h.1 m, chain_alike n f g a d r (suc r) rs (omega (arith, h.0)) (omega (arith, h.0)) h.2)

-- what is above a row is above what stands in it
chain_through : (f : ℕ → ℕ) (b c u v : ℕ) (rs : List ℕ) → b ≤ c → Under f v u → Chain f b v rs → Chain f c u rs
chain_through f b c u v [] l o h = tt
chain_through f b c u v (r ∷ rs) l o h = (omega (arith, h.0), under_through o h.1, h.2)

-- ---- row n, whose parent's row plus one is p

follow_more : (n : ℕ) (f g : ℕ → ℕ) → Alike n f g → Follow f n → {p : ℕ} → g n ≡ p → Under f p n → Follow g (suc n)
follow_more n f g a o e h k l =
    below k n
    (λ m. follow_alike n f g a o k m)
    (λ m.
    let z : n ≡ k = omega arith in
    subst (λ j. Under g (g j) j) z (rw e (under_alike n f g a (follow_falls f n o) h (omega arith))))

-- the rows of open elements
abbrev open_rows : List Frame → List ℕ
open_rows [] = []
open_rows (element k m r ∷ fs) = r ∷ open_rows fs
open_rows (definition d ∷ fs) = d.row ∷ open_rows fs
open_rows (passing p ns ∷ fs) = open_rows fs

module _ (n : ℕ) (f g : ℕ → ℕ) (a : Alike n f g) (o : Follow f n) where
  -- in an open element
  in_row : (r : ℕ) (rs : List ℕ) → g n ≡ suc r → Chain f n n (r ∷ rs) → Follow g (suc n) × Chain g (suc n) (suc n) (n ∷ r ∷ rs)
  in_row r rs e c = (
    follow_more n f g a o e c.1,
    (
      omega arith,
      Under.itself,
      (
        omega (arith, c.0),
        Under.above (subst (λ j. Under g (suc r) j) (sym e) Under.itself),
        chain_alike n f g a (follow_falls f n o) r (suc r) rs (omega (arith, c.0)) (omega (arith, c.0)) c.2,
      ),
    ),
  )

  row_follows : (k : ℕ) (fs : List Frame) → Begins n k fs → g n ≡ parent_of fs → Chain f n n (open_rows fs) → Follow g (suc n) × Chain g (suc n) (suc n) (n ∷ open_rows fs)
  row_follows k [] b e c = (follow_more n f g a o e (subst (λ j. Under f 0 j) (sym b.0) Under.itself), (omega arith, Under.itself, tt))
  row_follows k (element y m r ∷ fs) b e c = in_row r (open_rows fs) e c
  row_follows k (definition d ∷ fs) b e c = in_row d.row (open_rows fs) e c
  row_follows k (passing p ns ∷ fs) b e c = absurd b.0

-- ---- frames

noted_rows : (k : ℕ) (t : Tag) (fs : List Frame) → open_rows (noted k t fs) ≡ open_rows fs
noted_rows k t fs = noted_keeps (λ gs. open_rows gs ≡ open_rows fs) k t (λ d gs h. h) fs refl

entered_rows : (k : ℕ) (t : Tag) (n : ℕ) (fs : List Frame) → open_rows (frame_of k t n ∷ fs) ≡ n ∷ open_rows fs
entered_rows k t n fs = either (λ (f : Frame). open_rows (f ∷ fs) ≡ n ∷ open_rows fs) (among k definitions) (λ c. refl) (λ c. refl)

-- ---- states

abbrev pub parent_in : List (Row Shown) → ℕ → ℕ
parent_in rs i = (row_at rs i).parent

record Holds (fs : List Frame) (rs : List (Row Shown)) : Type 0 where
  pub follow : Follow (parent_in rs) (length rs)
  pub inside : Chain (parent_in rs) (length rs) (length rs) (open_rows fs)

-- other rows with the same parents
same_holds : (fs : List Frame) (rs ss : List (Row Shown)) → length ss ≡ length rs → Alike (length rs) (parent_in rs) (parent_in ss) → Holds fs rs → Holds fs ss
same_holds fs rs ss e a h = record {
  follow = rw e (follow_alike (length rs) (parent_in rs) (parent_in ss) a h.follow);
  inside = rw e (chain_alike (length rs) (parent_in rs) (parent_in ss) a (follow_falls (parent_in rs) (length rs) h.follow) (length rs) (length rs) (open_rows fs) (omega arith) (omega arith) h.inside);
}

row_holds : (k : ℕ) (t : Tag) (r : Row Shown) (fs : List Frame) (rs : List (Row Shown)) → Begins (length rs) k fs → r.parent ≡ parent_of fs → Holds fs rs → Holds (frame_of k t (length rs) ∷ noted k t fs) (rs ++ r ∷ [])
row_holds k t r fs rs b e h = record {
  follow = rw long x.0;
  inside = rw (long, entered_rows k t (length rs) (noted k t fs), noted_rows k t fs) x.1;
}
  where
    long : length (rs ++ r ∷ []) ≡ suc (length rs)
    long = length-append rs (r ∷ []) ∙ omega arith

    last : parent_in (rs ++ r ∷ []) (length rs) ≡ parent_of fs
    last = ap (λ (b : Brief). b.parent) (at_last rs r) ∙ e

    x : Follow (parent_in (rs ++ r ∷ [])) (suc (length rs)) × Chain (parent_in (rs ++ r ∷ [])) (suc (length rs)) (suc (length rs)) (length rs ∷ open_rows fs)
    x = row_follows (length rs) (parent_in rs) (parent_in (rs ++ r ∷ [])) (λ i l. ap (λ (b : Brief). b.parent) (at_more rs r i l)) h.follow k fs b last h.inside

popped : (r : ℕ) (gs : List ℕ) (rs : List (Row Shown)) → Chain (parent_in rs) (length rs) (length rs) (r ∷ gs) → Chain (parent_in rs) (length rs) (length rs) gs
popped r gs rs h = chain_through (parent_in rs) r (length rs) (length rs) (suc r) gs (omega (arith, h.0)) h.1 h.2

-- the rows before a definition: its parent is the last of them, or above that
dropped_chain : (f : ℕ → ℕ) (n r : ℕ) (gs : List ℕ) → Follow f n → r < n → Chain f r (suc r) gs → Chain f r r gs
dropped_chain f n r [] o l h = tt
dropped_chain f n r (q ∷ gs) o l h = (h.0, under_through (o r l) (under_up h.1 r refl (λ z. absurd (omega (arith, h.0)))), h.2)

dropped_holds : (d : Definition) (fs : List Frame) (rs : List (Row Shown)) → Holds (definition d ∷ fs) rs → Holds fs (take d.row rs)
dropped_holds d fs rs h =
    let n = length rs in
    let r = d.row in
    let f = parent_in rs in
    let g = parent_in (take r rs) in
    let a : Alike r f g = λ i l. ap (λ (b : Brief). b.parent) (at_first r rs i l) in
    let l : r < n = h.inside.0 in
    let m : length (take r rs) ≡ r = length-take-le r rs (omega arith) in
    let o : Follow f r = λ k c. h.follow k (omega arith) in
    record {
      follow = rw m (follow_alike r f g a o);
      inside = rw m (chain_alike r f g a (follow_falls f r o) r r (open_rows fs) (omega arith) (omega arith) (dropped_chain f n r (open_rows fs) h.follow l h.inside.2));
    }

-- the row of a tag has the parent that it is given
abbrev Parented : ℕ → Opened Shown → Type 0
Parented p (opens r) = r.parent ≡ p
Parented p (refuses x) = Unit {0}

parented : (k p : ℕ) (t : Tag) → Parented p (opens_as whole k p t)
parented k p t = any_way whole whole p t (λ o o'. Parented p o) (λ x r. tt) (λ k w n v tp c. refl) k

held : Known Shown
held = record { first = Unit {0}; inside = λ fs u. Holds fs u.rows; done = λ u. Holds [] u.rows; fault = λ x. Unit {0} }

module _ (doc : List ℕ) where
  closes : Closes whole doc held held
  unfolding held
  closes = record {
    element = λ k n r fs u h. record { follow = h.follow; inside = popped r (open_rows fs) u.rows h.inside };
    whole = λ d fs u e h. record { follow = h.follow; inside = popped d.row (open_rows fs) u.rows h.inside };
    broken = λ d fs u e h. dropped_holds d fs u.rows h;
    root = λ u h. h;
  }

  ways : (t : Token) → Comes doc t → Ways whole doc held held held t
  unfolding held
  ways (start t) c = record {
    closes = closes;
    moves = λ f fs u c h. h;
    row = λ k r fs u c b n e d h. row_holds k t r fs u.rows b (rw e at (parented k (parent_of fs) t)) h;
    own_row = λ k r fs u c b n e h. row_holds k t r fs u.rows b (rw e at (parented k (parent_of fs) t)) h;
    refusal = λ k p x e. tt;
    deep = tt;
    warning = λ f fs u c h. h;
    skips = λ f fs u c r h. record { follow = h.follow; inside = h.inside };
    docstring = λ f fs u c d h. record { follow = h.follow; inside = h.inside };
    within = λ p ns fs u c d h. record { follow = h.follow; inside = h.inside };
  }
  ways (close lt n q) c = record {
    closes = closes;
    passed = λ p ns fs u l h. record { follow = h.follow; inside = h.inside };
    docstring = λ s r ns fs u l e h.
        same_holds fs u.rows _ (length_documented _ r u.rows) (λ i l. ap (λ (b : Brief). b.parent) (at_documented r _ u.rows i))
        (record { follow = h.follow; inside = h.inside });
    within = λ p n ns fs u l e h. record { follow = h.follow; inside = h.inside };
    another = λ f fs u h. tt;
    none = tt;
  }
  ways (fault n p) c = tt
  ways (end p) c = (tt, λ f fs u h. tt)

  pub accepts_follow : {u : Tables Shown} → Accepts doc u → Follow (parent_in u.rows) (length u.rows)
  unfolding held
  accepts_follow {u} a =
      let h : Holds [] u.rows = rw a.reads at (run_kept doc held ways (λ h. record { follow = λ k l. absurd (omega arith); inside = tt }) tt) in
      h.follow

-- ---- the words of rows

-- the words of rows in document order are
pub words_ordered : (rs : List (Row Shown)) (z : List ℕ) → ((i : ℕ) → i < length rs → parent_at (words_from 0 rs ++ z) i ≡ parent_in rs i) → Follow (parent_in rs) (length rs) → DocumentOrder (words_from 0 rs ++ z) (length rs)
words_ordered rs z p o = record {
  under = follow_alike (length rs) (parent_in rs) (parent_at (words_from 0 rs ++ z)) (λ i l. sym (p i l)) o;
}
