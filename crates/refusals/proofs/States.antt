-- Every step keeps: the names of open elements stand in the document, the warnings so far have known reasons and names that stand
-- there, and a refusal shows what stands there.
use Prim.Native.Nat.{ℕ, suc}
use mathlib.Core.Path.{◌≡◌, refl}
use mathlib.Core.List.{List, [], ◌∷◌, ◌++◌}
use mathlib.Core.Option.{Option, none, some}
use mathlib.Core.Bool.{true, false}
use lib.Dec.{eqb}
use lib.ListN.{length}
use Rattle.slices.specs.Bytes.{bytes}
use Rattle.utf8.specs.WellFormed.{ill_formed}
use Rattle.document.specs.Kinds as kinds
use Rattle.document.specs.Kinds.{definitions, typed}
use Rattle.document.specs.Tags.{Shown}
use Rattle.document.specs.Tokens.{Tag, Token, start, close, fault, end}
use Rattle.document.specs.Rows.{Warning, Tables}
use Rattle.document.specs.Elements.{among, attr, some_signature, Opened, opens, refuses, opens_as}
use Rattle.document.specs.Reading.{Name, Parts, Definition, Frame, element, definition, passing, name_of, name_shown, tag_name, type_reason, tag_reason, parts_reason, reason_of, noted, frame_of, begun, run}
use Rattle.document.specs.Refusals.{excerpt, fault_in}
use Rattle.document.specs.Outcome.{whole}
use Rattle.document.specs.declared.Excerpt.{Excerpt}
use Rattle.document.specs.declared.Refusal.{Refusal}
use Rattle.document.proofs.Tests.{either, among_each, among_all}
use Rattle.document.proofs.Opens.{any_way, Refuses, lacks, at_name, at-end}
use Rattle.document.proofs.Steps.{noted_keeps, Known, Kept, Closes, Ways}
use Rattle.accepted.proofs.Tokens.{Starts, Faults, of_markup, of_name, of_reference, Comes}
use Rattle.accepted.proofs.Values.{HeldIn, lookup_held}
use Rattle.accepted.proofs.Folding.{run_kept}
use Rattle.refusals.proofs.Telling.{Stands, silent, reasons, Showable, nothing_shown, one_shown, two_shown, key_shown, value_shown}
use Rattle.refusals.proofs.Standing.{nothing_stands, after_open, name_stands, reference_stands, raw_reads}

-- ---- reasons

abbrev or_none : List ℕ
or_none = 0 ∷ reasons

-- why a tag alone drops its definition
abbrev of_tag : List ℕ
of_tag = 0 ∷ 2 ∷ 3 ∷ 4 ∷ []

abbrev In : List ℕ → ℕ → Type 0
In xs n = among n xs ≡ true

reason_of_type : (o : Option Shown) → In of_tag (type_reason o)
reason_of_type none = refl
reason_of_type (some s) = either (In of_tag) (some_signature s.value) (λ t. refl) (λ t. refl)

reason_of_tag : (k : ℕ) (n ty : Option Shown) → In of_tag (tag_reason k n ty)
reason_of_tag k none ty = refl
reason_of_tag k (some n) ty = either (In of_tag) (among k typed) (λ t. reason_of_type ty) (λ t. refl)

reason_of_parts : (k : ℕ) (p : Parts) → In or_none (parts_reason k p)
reason_of_parts k p =
    either (In or_none) p.broken
    (λ t. either (In or_none) (eqb k kinds.enum) (λ t. refl) (λ t. refl))
    (λ t. either (In or_none) (eqb k kinds.struct)
    (λ t. either (In or_none) (eqb p.count 0) (λ t. refl) (λ t. refl))
    (λ t. either (In or_none) (eqb k kinds.mapping)
    (λ t. either (In or_none) (eqb p.count 2) (λ t. either (In or_none) p.basic (λ t. refl) (λ t. refl)) (λ t. refl))
    (λ t. refl)))

dropped_reason : (d : Definition) → In of_tag d.reason → eqb (reason_of d) 0 ≡ false → In reasons (reason_of d)
dropped_reason d h e =
    let i : In or_none (reason_of d) = either (In or_none) (eqb d.reason 0) (λ t. reason_of_parts d.kind d.parts) (λ t. among_all (λ m. among m or_none) d.reason of_tag refl h) in
    rw e at i

-- ---- states

-- the name of a warning, after its `<`
abbrev pub name_in : Warning → Excerpt
name_in w = excerpt (suc w.at) w.name

module _ (doc : List ℕ) where
  -- a warning with a known reason and a name that stands in the document
  pub record Warns (w : Warning) : Type 0 where
    pub reason : In reasons w.reason
    pub name : Stands doc (name_in w)

  abbrev pub AllWarn : List Warning → Type 0
  AllWarn [] = Unit {0}
  AllWarn (w ∷ ws) = Warns w × AllWarn ws

  warnings_more : (ws : List Warning) (w : Warning) → AllWarn ws → Warns w → AllWarn (ws ++ w ∷ [])
  warnings_more [] w h i = (i, tt)
  warnings_more (v ∷ ws) w h i = (h.0, warnings_more ws w h.1 i)

  -- the names of what is open; a definition's name stands after its `<`
  abbrev pub AllStand : List Name → Type 0
  AllStand [] = Unit {0}
  AllStand (n ∷ ns) = Stands doc (name_shown n) × AllStand ns

  abbrev pub FrameStands : Frame → Type 0
  FrameStands (element k n r) = Stands doc (name_shown n)
  FrameStands (definition d) = (d.name.at ≡ suc d.at) × Stands doc (name_shown d.name) × In of_tag d.reason
  FrameStands (passing p ns) = AllStand ns

  abbrev pub Framed : List Frame → Type 0
  Framed [] = Unit {0}
  Framed (f ∷ fs) = FrameStands f × Framed fs

  innermost_stands : (f : Frame) → FrameStands f → Stands doc (name_shown (name_of f))
  innermost_stands (element k n r) h = h
  innermost_stands (definition d) h = h.1
  innermost_stands (passing p []) h = nothing_stands doc
  innermost_stands (passing p (n ∷ ns)) h = h.0

  abbrev pub Stand : List Frame → Tables Shown → Type 0
  Stand fs u = Framed fs × AllWarn u.warnings

  abbrev pub held : Known Shown
  held = record { first = Unit {0}; inside = Stand; done = λ u. AllWarn u.warnings; fault = Showable doc }

  closes : Closes whole doc held held
  closes = record {
    element = λ k n r fs u h. (h.0.1, h.1);
    whole = λ d fs u e h. (h.0.1, h.1);
    broken = λ d fs u e h.
        let g = h.0.0 in
        (h.0.1, warnings_more u.warnings _ h.1 (record { reason = dropped_reason d g.2 e; name = rw g.0 at g.1 }));
    root = λ u h. h.1;
  }

  frame_stands : (k : ℕ) (t : Tag) (i : ℕ) → Stands doc (name_shown (tag_name t)) → FrameStands (frame_of k t i)
  frame_stands k t i s =
      either FrameStands (among k definitions) (λ c. (refl, s, reason_of_tag k (attr (bytes "name") t) (attr (bytes "type") t))) (λ c. s)

  entered_stand : (k : ℕ) (t : Tag) (i : ℕ) (fs : List Frame) → Stands doc (name_shown (tag_name t)) → Framed fs → Framed (frame_of k t i ∷ noted k t fs)
  entered_stand k t i fs s h = (frame_stands k t i s, noted_keeps Framed k t (λ d gs f. f) fs h)

  module _ (utf8 : ill_formed doc ≡ length doc) where
    -- ---- refusals

    fault_shows : (n p : ℕ) → Faults doc n p → Showable doc (fault_in doc n p)
    unfolding fault_in
    fault_shows n p (of_markup e) =
        among_each (λ m. Showable doc (fault_in doc m p)) n (4 ∷ 9 ∷ 17 ∷ 22 ∷ 23 ∷ 24 ∷ 25 ∷ []) e
        (nothing_shown refl, (nothing_shown refl, (nothing_shown refl, (nothing_shown refl, (nothing_shown refl, (nothing_shown refl, (nothing_shown refl, tt)))))))
    fault_shows n p (of_name e a) = rw e (one_shown refl (name_stands doc utf8 p _ a refl))
    fault_shows n p (of_reference e r) =
        let s = reference_stands doc utf8 p r in
        among_each (λ m. Showable doc (fault_in doc m p)) n (10 ∷ 11 ∷ []) e (one_shown refl s, (one_shown refl s, tt))

    module _ (t : Tag) (g : Starts doc t) where
      tag_stands : Stands doc (name_shown (tag_name t))
      tag_stands = name_stands doc utf8 (suc t.at) t.name (after_open g.opens) g.opens.named

      refuses_shows : {x : Refusal} → Refuses t x → Showable doc x
      refuses_shows (lacks k e) = key_shown refl e tag_stands
      refuses_shows (at_name n e) = nothing_shown (among_all (λ m. among m silent) n (13 ∷ 14 ∷ []) refl e)
      refuses_shows (at-end n key s e f) =
          let i : HeldIn doc (some s) = rw f at (lookup_held doc key t.attrs g.attrs) in
          value_shown e (raw_reads doc utf8 s i)

      abbrev Shows : Opened Shown → Type 0
      Shows (opens r) = Unit {0}
      Shows (refuses x) = Showable doc x

      start_shows : (k p : ℕ) → Shows (opens_as whole k p t)
      start_shows k p = any_way whole whole p t (λ o o'. Shows o) (λ x r. refuses_shows r) (λ k w n v tp c. tt) k

    -- ---- tokens

    ways : (t : Token) → Comes doc t → Ways whole doc held held held t
    ways (start t) g =
        let s = tag_stands t g in
        let warned : (u : Tables Shown) → AllWarn u.warnings → AllWarn (u.warnings ++ record { reason = 1; at = t.at; name = t.name } ∷ []) =
        λ u h. warnings_more u.warnings _ h (record { reason = refl; name = s }) in
        record {
          closes = closes;
          moves = λ f fs u c h. h;
          row = λ k r fs u c b n e d h. (entered_stand k t (length u.rows) fs s h.0, h.1);
          own_row = λ k r fs u c b n e h. (entered_stand k t (length u.rows) fs s h.0, h.1);
          refusal = λ k p x e. rw e at (start_shows t g k p);
          deep = nothing_shown refl;
          warning = λ f fs u c h. (h.0, warned u h.1);
          skips = λ f fs u c r h. (((s, tt), h.0), warned u h.1);
          docstring = λ f fs u c d h. (((s, tt), h.0), h.1);
          within = λ p ns fs u c d h. (((s, h.0.0), h.0.1), h.1);
        }
    ways (close lt n q) g = record {
      closes = closes;
      passed = λ p ns fs u l h. (h.0.1, h.1);
      docstring = λ s r ns fs u l e h. (h.0.1, h.1);
      within = λ p n ns fs u l e h. ((h.0.0.1, h.0.1), h.1);
      another = λ f fs u h. two_shown refl (name_stands doc utf8 (suc (suc lt)) n g.after g.named) (innermost_stands f h.0.0);
      none = nothing_shown refl;
    }
    ways (fault n p) g = fault_shows n p g
    ways (end p) g = (nothing_shown refl, λ f fs u h. one_shown refl (innermost_stands f h.0.0))

    pub run_shows : Kept held (run whole doc 0 begun)
    run_shows = run_kept doc held ways (λ h. (tt, tt)) tt
