-- What a state shows of a document is the same in another: every step keeps that.
use Prim.Native.Nat.{ℕ, zero, suc, ◌+◌, ◌-◌}
use mathlib.Core.Path.{◌≡◌, refl}
use mathlib.Core.List.{List, [], ◌∷◌, ◌++◌}
use mathlib.Core.Option.{Option, none, some}
use mathlib.Core.Bool.{◌||◌}
use lib.Dec.{eqb}
use lib.ListN.{length, take, drop}
use Rattle.slices.specs.Bytes.{same}
use Rattle.utf8.specs.WhiteSpace.{trim_start, trim_end}
use Rattle.document.specs.Kinds as kinds
use Rattle.document.specs.Tags.{Shown, lookup}
use Rattle.document.specs.Tokens.{Tag, Token, start, close, fault, end}
use Rattle.document.specs.Rows.{Doc, Row, Warning, Tables, documented}
use Rattle.document.specs.Refusals.{fault_in}
use Rattle.document.specs.declared.Refusal.{Refusal}
use Rattle.document.specs.Elements.{among, Opened, opens, refuses, opens_as}
use Rattle.document.specs.Reading.{Name, Purpose, ignored, captures, Frame, element, definition, passing, State, name_of, noted, frame_of, with_row, step, fold}
use Rattle.document.specs.Outcome.{whole}
use Rattle.document.proofs.Tests.{either}
use Rattle.document.proofs.Opens.{Refuses, lacks, at_name, at-end, any_way}
use Rattle.document.proofs.Steps as steps
use Rattle.document.proofs.Steps.{noted_keeps, Known, Kept, Closes, Ways, step_kept}
use Rattle.remarks.specs.Alike.{Same, SameIn}

-- the docstrings of rows
module _ (Good : Doc → Type 0) where
  abbrev pub DocOk : Option Doc → Type 0
  DocOk none = Unit {0}
  DocOk (some x) = Good x

  abbrev pub DocsOk : List (Row Shown) → Type 0
  DocsOk [] = Unit {0}
  DocsOk (r ∷ rs) = DocOk r.doc × DocsOk rs

  -- a row more, the first rows, a docstring
  docs_more : (rs : List (Row Shown)) (r : Row Shown) → DocOk r.doc → DocsOk rs → DocsOk (rs ++ r ∷ [])
  docs_more [] r e h = (e, tt)
  docs_more (q ∷ rs) r e h = (h.0, docs_more rs r e h.1)

  docs_first : (n : ℕ) (rs : List (Row Shown)) → DocsOk rs → DocsOk (take n rs)
  docs_first zero rs h = tt
  docs_first (suc n) [] h = tt
  docs_first (suc n) (r ∷ rs) h = (h.0, docs_first n rs h.1)

  docs_documented : (i : ℕ) (x : Doc) (rs : List (Row Shown)) → Good x → DocsOk rs → DocsOk (documented i x rs)
  docs_documented i x [] g h = tt
  docs_documented zero x (r ∷ rs) g h = (g, h.1)
  docs_documented (suc i) x (r ∷ rs) g h = (h.0, docs_documented i x rs g h.1)

module _ (d d' : List ℕ) where
  -- ---- what tags, frames, rows and refusals show

  abbrev NameSame : Name → Type 0
  NameSame n = Same d d' n.at (length n.bytes)

  abbrev pub RawsSame : List Shown → Type 0
  RawsSame [] = Unit {0}
  RawsSame (s ∷ ss) = Same d d' s.attr.valued (length s.attr.raw) × RawsSame ss

  abbrev NamesSame : List Name → Type 0
  NamesSame [] = Unit {0}
  NamesSame (n ∷ ns) = NameSame n × NamesSame ns

  abbrev pub FaultSame : Refusal → Type 0
  FaultSame x = SameIn d d' x.first × SameIn d d' x.second

  abbrev pub WarningsSame : List Warning → Type 0
  WarningsSame [] = Unit {0}
  WarningsSame (w ∷ ws) = Same d d' (suc w.at) (length w.name) × WarningsSame ws

  -- Open holds of the places where docstrings begin, Shut of those where they end, and Good of docstrings between such places
  module _ (Open Shut : ℕ → Type 0) (Good : Doc → Type 0) where
    abbrev PurposeOk : Purpose → Type 0
    PurposeOk ignored = Unit {0}
    PurposeOk (captures s i) = Open s

    abbrev FrameOk : Frame → Type 0
    FrameOk (element k n r) = NameSame n
    FrameOk (definition f) = NameSame f.name × Same d d' (suc f.at) (length f.name.bytes)
    FrameOk (passing p ns) = PurposeOk p × NamesSame ns

    abbrev FramesOk : List Frame → Type 0
    FramesOk [] = Unit {0}
    FramesOk (f ∷ fs) = FrameOk f × FramesOk fs

    pub record Holds (fs : List Frame) (u : Tables Shown) : Type 0 where
      pub frames : FramesOk fs
      pub docs : DocsOk Good u.rows
      pub warnings : WarningsSame u.warnings

    abbrev pub held : Known Shown
    held = record { first = Unit {0}; inside = Holds; done = Holds []; fault = FaultSame }

    pub record TagOk (t : Tag) : Type 0 where
      pub name : Same d d' (suc t.at) (length t.name)
      pub raws : RawsSame t.attrs
      pub after : Open t.after

    abbrev pub TokenOk : Token → Type 0
    TokenOk (start t) = TagOk t
    TokenOk (close lt m q) = Shut lt × Same d d' (suc (suc lt)) (length m)
    TokenOk (fault n p) = drop p d ≡ drop p d'
    TokenOk (end p) = Unit {0}

    abbrev pub AllOk : List Token → Type 0
    AllOk [] = Unit {0}
    AllOk (t ∷ ts) = TokenOk t × AllOk ts

    -- ---- a warning more

    warnings_more : (ws : List Warning) (w : Warning) → Same d d' (suc w.at) (length w.name) → WarningsSame ws → WarningsSame (ws ++ w ∷ [])
    warnings_more [] w e h = (e, tt)
    warnings_more (v ∷ ws) w e h = (h.0, warnings_more ws w e h.1)

    -- ---- frames

    frame_name_same : (f : Frame) → FrameOk f → NameSame (name_of f)
    frame_name_same (element k n r) h = h
    frame_name_same (definition f) h = h.0
    frame_name_same (passing p []) h = refl
    frame_name_same (passing p (n ∷ ns)) h = h.1.0

    noted_ok : (k : ℕ) (t : Tag) (fs : List Frame) → FramesOk fs → FramesOk (noted k t fs)
    noted_ok k t = noted_keeps FramesOk k t (λ f gs h. h)

    frame_ok : (k : ℕ) (t : Tag) (i : ℕ) → TagOk t → FrameOk (frame_of k t i)
    frame_ok k t i g = either FrameOk (among k kinds.definitions) (λ c. (g.name, g.name)) (λ c. g.name)

    -- ---- what a start tag comes to

    abbrev OpenedOk : Opened Shown → Type 0
    OpenedOk (opens r) = DocOk Good r.doc
    OpenedOk (refuses x) = FaultSame x

    abbrev RawSame : Option Shown → Type 0
    RawSame none = Unit {0}
    RawSame (some s) = Same d d' s.attr.valued (length s.attr.raw)

    lookup_same : (key : List ℕ) (xs : List Shown) → RawsSame xs → RawSame (lookup key xs)
    lookup_same key [] h = tt
    lookup_same key (s ∷ xs) h = either RawSame (same s.attr.name key) (λ c. h.0) (λ c. lookup_same key xs h.1)

    refusal_same : (t : Tag) → TagOk t → (x : Refusal) → Refuses t x → FaultSame x
    refusal_same t g _ (lacks k e) = (g.name, refl)
    refusal_same t g _ (at_name n e) = (refl, refl)
    refusal_same t g _ (at-end n key s e f) = (rw f at (lookup_same key t.attrs g.raws), refl)

    opened_ok : (t : Tag) → TagOk t → (k p : ℕ) → OpenedOk (opens_as whole k p t)
    opened_ok t g k p = any_way whole whole p t (λ o o'. OpenedOk o) (refusal_same t g) (λ k w n v tp c. tt) k

    -- ---- tokens

    closes : Closes whole d held held
    closes = record {
      element = λ k n r fs u h. record { frames = h.frames.1; docs = h.docs; warnings = h.warnings };
      whole = λ f fs u e h. record { frames = h.frames.1; docs = h.docs; warnings = h.warnings };
      broken = λ f fs u e h. record { frames = h.frames.1; docs = docs_first Good f.row u.rows h.docs; warnings = warnings_more u.warnings _ h.frames.0.1 h.warnings };
      root = λ u h. h;
    }

    row_holds : (t : Tag) → TagOk t → (k p : ℕ) (r : Row Shown) (fs : List Frame) (u : Tables Shown) → opens_as whole k p t ≡ opens r → Holds fs u → Holds (frame_of k t (length u.rows) ∷ noted k t fs) (with_row r u)
    row_holds t g k p r fs u e h = record {
      frames = (frame_ok k t (length u.rows) g, noted_ok k t fs h.frames);
      docs = docs_more Good u.rows r (rw e at (opened_ok t g k p)) h.docs;
      warnings = h.warnings;
    }

    starts : (t : Tag) → TagOk t → steps.Starts whole d held held held t
    starts t g = record {
      closes = closes;
      moves = λ f fs u c h. h;
      row = λ k r fs u c b n e d h. row_holds t g k _ r fs u e h;
      own_row = λ k r fs u c b n e h. row_holds t g k _ r fs u e h;
      refusal = λ k p x e. rw e at (opened_ok t g k p);
      deep = (refl, refl);
      warning = λ f fs u c h. record { frames = h.frames; docs = h.docs; warnings = warnings_more u.warnings _ g.name h.warnings };
      skips = λ f fs u c r h. record { frames = ((tt, (g.name, tt)), h.frames); docs = h.docs; warnings = warnings_more u.warnings _ g.name h.warnings };
      docstring = λ f fs u c x h. record { frames = ((g.after, (g.name, tt)), h.frames); docs = h.docs; warnings = h.warnings };
      within = λ p ns fs u c d h. record { frames = ((h.frames.0.0, (g.name, h.frames.0.1)), h.frames.1); docs = h.docs; warnings = h.warnings };
    }

    fault_ok : (n p : ℕ) → drop p d ≡ drop p d' → FaultSame (fault_in d n p)
    unfolding fault_in
    fault_ok n p e =
        either FaultSame (eqb n 8) (λ t. (rw e, refl)) (λ t. either FaultSame (eqb n 10 || eqb n 11) (λ t. (rw e, refl)) (λ t. (refl, refl)))

    module _ (good : (s lt : ℕ) → Open s → Shut lt → Good (record { start = s + trim_start (take (lt - s) (drop s d)); len = trim_end (take (lt - s) (drop s d)) - trim_start (take (lt - s) (drop s d)) })) where
      ways : (t : Token) → TokenOk t → Ways whole d held held held t
      ways (start t) g = starts t g
      ways (close lt n q) g = record {
        closes = closes;
        passed = λ p ns fs u l h. record { frames = h.frames.1; docs = h.docs; warnings = h.warnings };
        docstring = λ s r ns fs u l e h. record {
          frames = h.frames.1;
          docs = docs_documented Good r _ u.rows (good s lt h.frames.0.0 g.0) h.docs;
          warnings = h.warnings;
        };
        within = λ p n ns fs u l e h. record { frames = ((h.frames.0.0, h.frames.0.1.1), h.frames.1); docs = h.docs; warnings = h.warnings };
        another = λ f fs u h. (g.1, frame_name_same f h.frames.0);
        none = (refl, refl);
      }
      ways (fault n p) g = fault_ok n p g
      ways (end p) g = ((refl, refl), λ f fs u h. (frame_name_same f h.frames.0, refl))

      pub fold_holds : (s : State Shown) (ts : List Token) → AllOk ts → Kept held s → Kept held (fold whole d s ts)
      fold_holds s [] o h = h
      fold_holds s (t ∷ ts) o h =
          fold_holds (step whole d s t) ts o.1
          (step_kept whole d held held held s t (record { ways = ways t o.0; empty = λ h. record { frames = tt; docs = tt; warnings = tt }; done = λ u h. h; fault = λ x h. h }) h)
