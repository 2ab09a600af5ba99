-- The rows of a state are sound, but for those of an open definition: every step keeps that.
use Prim.Native.Nat.{ℕ, zero, suc, ◌<◌}
use mathlib.Core.Path.{◌≡◌, refl, ap, sym, ◌∙◌}
use mathlib.Core.List.{List, [], ◌∷◌, ◌++◌}
use mathlib.Core.Option.{none}
use mathlib.Core.Bool.{false}
use borrow.Author.Tests.{not-true}
use native.Mathlib.Omega.{arith}
use lib.Dec.{eqb}
use lib.ListN.{length, take, drop, get_or, length-append, get_or-append}
use lib.Seq.{length-take-le, get_or-take, get_or-append_seam}
use Rattle.slices.specs.Bytes.{span, empty}
use Rattle.scan.specs.Classes.{name_byte}
use Rattle.utf8.specs.WellFormed.{ill_formed}
use Rattle.utf8.proofs.Sequences.{below}
use Rattle.document.specs.Kinds as kinds
use Rattle.document.specs.Tags.{Shown}
use Rattle.document.specs.Tokens.{Tag, Token, start, close, fault, end}
use Rattle.document.specs.Rows.{Doc, Row, Tables, documented}
use Rattle.document.specs.Elements.{kind_of, opens, opens_as}
use Rattle.document.specs.Reading.{Definition, Purpose, captures, Frame, element, definition, passing, row_of, parent_of, noted, frame_of, Name}
use Rattle.document.specs.Outcome.{whole}
use Rattle.rows.proofs.Words.{length_documented}
use Rattle.document.proofs.Steps as steps
use Rattle.document.proofs.Steps.{TakesDocs, Begins, Named, Known, Closes, Shuts, Ways}
use Rattle.accepted.proofs.Tokens.{After, Before, Opens, Starts, Comes}
use Rattle.accepted.proofs.Folding.{run_kept, Accepts}
use Rattle.accepted.proofs.Entries.{Brief, brief, Entry, start_opens}
use Rattle.accepted.proofs.Docstrings.{DocsIn, docs_more, docs_first, docs_documented, content_good}
use Rattle.accepted.proofs.Frames.{Fine, Agree, fine_agree, fine_new, Aims, Frames, frames_agree, frames_judged}
use Rattle.accepted.proofs.Entering.{begins_kind, placed_new, frames_entered}

-- ---- row i of some rows

abbrev pub blank : Row Shown
blank = record { kind = 0; parent = 0; name = none; value = none; tp = none; doc = none; word = 0; at = 0 }

unfoldable pub row_at : List (Row Shown) → ℕ → Brief
row_at rs i = brief (get_or rs i blank)

pub at_more : (rs : List (Row Shown)) (r : Row Shown) → Agree (length rs) (row_at rs) (row_at (rs ++ r ∷ []))
unfolding row_at
at_more rs r i l = ap brief (sym (get_or-append rs (r ∷ []) blank i l))

pub at_last : (rs : List (Row Shown)) (r : Row Shown) → row_at (rs ++ r ∷ []) (length rs) ≡ brief r
unfolding row_at
at_last rs r = ap brief (get_or-append_seam rs r [] blank)

pub at_first : (n : ℕ) (rs : List (Row Shown)) → Agree n (row_at rs) (row_at (take n rs))
unfolding row_at
at_first n rs i l = ap brief (sym (get_or-take n rs i blank l))

pub at_documented : (i : ℕ) (d : Doc) (rs : List (Row Shown)) (j : ℕ) → row_at rs j ≡ row_at (documented i d rs) j
unfolding row_at
at_documented i d [] j = refl
at_documented zero d (r ∷ rs) zero = refl
at_documented zero d (r ∷ rs) (suc j) = refl
at_documented (suc i) d (r ∷ rs) zero = refl
at_documented (suc i) d (r ∷ rs) (suc j) = at_documented i d rs j

-- the `<` of a row's element stands at the row's place, and the element's name follows it; it is a name of the row's kind, unless
-- that is the root's
pub record AtTag (doc : List ℕ) (b : Brief) : Type 0 where
  pub inside : b.at < length doc
  pub byte : get_or doc b.at 0 ≡ 60
  pub some : empty (span name_byte (drop (suc b.at) doc)) ≡ false
  pub kind : 0 < b.parent → kind_of (span name_byte (drop (suc b.at) doc)) ≡ b.kind

named_kind : (t : Tag) (k : ℕ) (fs : List Frame) → Named t k fs → 0 < parent_of fs → kind_of t.name ≡ k
named_kind t k [] n l = absurd (omega arith)
named_kind t k (f ∷ fs) n l = n

at_tag : (doc : List ℕ) (t : Tag) (k : ℕ) (fs : List Frame) (r : Row Shown) → Opens doc t.at t.name → Named t k fs → Entry k (parent_of fs) t r → AtTag doc (brief r)
at_tag doc t k fs r o n e =
    rw (e.at, e.kind, e.parent) record { inside = o.inside; byte = o.byte; some = rw o.named o.some; kind = λ l. rw o.named (named_kind t k fs n l) }

module _ (doc : List ℕ) (formed : ill_formed doc ≡ length doc) where
  -- rows while elements are open
  pub record Holds (fs : List Frame) (rs : List (Row Shown)) : Type 0 where
    pub fine : (i : ℕ) → i < length rs → Fine (row_at rs) i
    pub docs : DocsIn doc rs
    pub tags : (i : ℕ) → i < length rs → AtTag doc (row_at rs i)
    pub frames : Frames doc (length rs) (row_at rs) fs

  abbrev held : Known Shown
  held = record { first = Unit {0}; inside = λ fs u. Holds fs u.rows; done = λ u. Holds [] u.rows; fault = λ x. Unit {0} }

  -- ---- a row more

  row_holds : (k : ℕ) (t : Tag) (r : Row Shown) (fs : List Frame) (rs : List (Row Shown)) → Begins (length rs) k fs → Entry k (parent_of fs) t r → AtTag doc (brief r) → Holds fs rs → Holds (frame_of k t (length rs) ∷ noted k t fs) (rs ++ r ∷ [])
  row_holds k t r fs rs b e o h = record {
    fine = λ i l. below i n (λ m. fine_agree n f g a i m (h.fine i m)) (λ m. let x : n ≡ i = omega (arith, long) in rw (← x) last_fine);
    docs = docs_more doc rs r e.doc h.docs;
    tags = λ i l. below i n (λ m. rw (← a i m) (h.tags i m)) (λ m. let x : n ≡ i = omega (arith, long) in rw (← x, z) o);
    frames = rw long (frames_entered doc n f g a k t kind fs b (λ d. rw z (e.full d)) h.frames);
  }
    where
      n : ℕ
      n = length rs

      f : ℕ → Brief
      f = row_at rs

      g : ℕ → Brief
      g = row_at (rs ++ r ∷ [])

      long : length (rs ++ r ∷ []) ≡ suc n
      long = length-append rs (r ∷ []) ∙ omega arith

      a : Agree n f g
      a = at_more rs r

      z : g n ≡ brief r
      z = at_last rs r

      kind : (g n).kind ≡ k
      kind = ap (λ (b : Brief). b.kind) z ∙ e.kind

      last_fine : Fine g n
      last_fine =
          fine_new g n k (parent_of fs) kind (ap (λ (b : Brief). b.parent) z ∙ e.parent) (placed_new doc n f g a k t fs b h.frames) (rw z e.tp) (rw z e.word)

  -- ---- an element is closed

  dropped_holds : (d : Definition) (fs : List Frame) (rs : List (Row Shown)) → Holds (definition d ∷ fs) rs → Holds fs (take d.row rs)
  dropped_holds d fs rs h =
      let m : length (take d.row rs) ≡ d.row = length-take-le d.row rs (omega (arith, h.frames.0)) in
      record {
        fine = λ i l. fine_agree d.row (row_at rs) (row_at (take d.row rs)) (at_first d.row rs) i (omega (arith, m)) (h.fine i (omega (arith, m, h.frames.0)));
        docs = docs_first doc d.row rs h.docs;
        tags = λ i l. rw (← at_first d.row rs i (omega (arith, m))) (h.tags i (omega (arith, m, h.frames.0)));
        frames = rw m (frames_agree doc d.row (row_at rs) (row_at (take d.row rs)) fs (at_first d.row rs) h.frames.4);
      }

  closes : Closes whole doc held held
  closes = record {
    element = λ k n r fs u h. record { fine = h.fine; docs = h.docs; tags = h.tags; frames = h.frames.3 };
    whole = λ d fs u e h. record { fine = h.fine; docs = h.docs; tags = h.tags; frames = frames_judged doc (length u.rows) (row_at u.rows) d fs e h.frames };
    broken = λ d fs u e h. dropped_holds d fs u.rows h;
    root = λ u h. h;
  }

  documented_holds : (i : ℕ) (d : Doc) (fs : List Frame) (rs : List (Row Shown)) → DocsIn doc (documented i d rs) → Holds fs rs → Holds fs (documented i d rs)
  documented_holds i d fs rs k h = record {
    fine = λ j l. fine_agree (length rs) (row_at rs) (row_at (documented i d rs)) a j (omega (arith, m)) (h.fine j (omega (arith, m)));
    docs = k;
    tags = λ j l. rw (← at_documented i d rs j) (h.tags j (omega (arith, m)));
    frames = rw m (frames_agree doc (length rs) (row_at rs) (row_at (documented i d rs)) fs a h.frames);
  }
    where
      m : length (documented i d rs) ≡ length rs
      m = length_documented d i rs

      a : Agree (length rs) (row_at rs) (row_at (documented i d rs))
      a j l = at_documented i d rs j

  -- the frames under the innermost
  popped : {p : Purpose} {ns : List Name} {fs : List Frame} {rs : List (Row Shown)} → Holds (passing p ns ∷ fs) rs → Holds fs rs
  popped h = record { fine = h.fine; docs = h.docs; tags = h.tags; frames = h.frames.1 }

  shuts : (lt : ℕ) (n : List ℕ) (q : ℕ) → Before doc lt → Shuts whole doc held held lt n q
  unfolding row_at
  shuts lt n q b = record {
    closes = closes;
    passed = λ p ns fs u l h. popped h;
    docstring = λ s r ns fs u l e h.
        documented_holds r _ fs u.rows
        (docs_documented doc blank r _ u.rows h.frames.0.1 (content_good doc formed s lt h.frames.0.2 b) h.docs)
        (popped h);
    within = λ p n ns fs u l e h. record { fine = h.fine; docs = h.docs; tags = h.tags; frames = h.frames };
    another = λ f fs u h. tt;
    none = tt;
  }

  -- ---- start tags

  -- the row of an element that takes docstrings
  aims : (s : ℕ) → After doc s → (n : ℕ) (g : ℕ → Brief) (f : Frame) (fs : List Frame) → TakesDocs f → Frames doc n g (f ∷ fs) → Aims doc n g (captures s (row_of f))
  aims s a n g (element k m r) fs d h = (h.0, rw h.1 (not-true (eqb k kinds.annotation) d.1), a)
  aims s a n g (definition e) fs d h = (h.0, rw h.1 (not-true (eqb e.kind kinds.annotation) d.1), a)
  aims s a n g (passing p ns) fs d h = absurd d.0

  starts : (t : Tag) → Starts doc t → steps.Starts whole doc held held held t
  starts t g = record {
    closes = closes;
    moves = λ f fs u c h. h;
    row = λ k r fs u c b n e d h. row_holds k t r fs u.rows b (entry k r fs u b e) (at_tag doc t k fs r g.opens n (entry k r fs u b e)) h;
    own_row = λ k r fs u c b n e h. row_holds k t r fs u.rows b (entry k r fs u b e) (at_tag doc t k fs r g.opens n (entry k r fs u b e)) h;
    refusal = λ k p x e. tt;
    deep = tt;
    warning = λ f fs u c h. h;
    skips = λ f fs u c r h. record { fine = h.fine; docs = h.docs; tags = h.tags; frames = (tt, h.frames) };
    docstring = λ f fs u c d h. record {
      fine = h.fine;
      docs = h.docs;
      tags = h.tags;
      frames = (aims t.after g.after (length u.rows) (row_at u.rows) f fs d h.frames, h.frames);
    };
    within = λ p ns fs u c d h. record { fine = h.fine; docs = h.docs; tags = h.tags; frames = h.frames };
  }
    where
      entry : (k : ℕ) (r : Row Shown) (fs : List Frame) (u : Tables Shown) → Begins (length u.rows) k fs → opens_as whole k (parent_of fs) t ≡ opens r → Entry k (parent_of fs) t r
      entry k r fs u b e = rw e at (start_opens (parent_of fs) t k (begins_kind (length u.rows) k fs b))

  -- ---- tokens

  ways : (t : Token) → Comes doc t → Ways whole doc held held held t
  ways (start t) c = starts t c
  ways (close lt n q) c = shuts lt n q c.begins
  ways (fault n p) c = tt
  ways (end p) c = (tt, λ f fs u h. tt)

  pub accepts_holds : {u : Tables Shown} → Accepts doc u → Holds [] u.rows
  accepts_holds a =
      rw a.reads at
      (run_kept doc held ways (λ h. record { fine = λ i l. absurd (omega arith); docs = tt; tags = λ i l. absurd (omega arith); frames = λ i l. absurd (omega arith) }) tt)
