-- One step of reading, way by way: what a state is known to have, the next one has, if each way of a step keeps it. What is known may
-- differ before a token, between the row of a tag `/>` and the end of its element, and after the token, so that it can speak of places. A way is told what
-- the step tests there, where a theorem asks for it.
use Prim.Native.Nat.{ℕ, suc, ◌+◌, ◌-◌, ◌≤◌}
use mathlib.Core.Path.{◌≡◌, refl}
use mathlib.Core.List.{List, [], ◌∷◌}
use mathlib.Core.Bool.{Bool, true, false, not, ◌&&◌}
use borrow.Author.Tests.{eqb-true}
use native.Mathlib.Omega.{arith}
use lib.Dec.{eqb, leb, ltb}
use lib.ListN.{length, take, drop}
use Rattle.slices.specs.Bytes.{same}
use Rattle.utf8.specs.WhiteSpace.{trim_start, trim_end}
use Rattle.document.specs.Kinds as kinds
use Rattle.document.specs.Tokens.{Tag, Token, start, close, fault, end}
use Rattle.document.specs.Rows.{Row, Tables, documented}
use Rattle.document.specs.Elements.{kind_of, may_hold, among, Opened, opens, refuses, Keeping, opens_as}
use Rattle.document.specs.Reading.{Definition, Purpose, ignored, captures, Frame, element, definition, passing, State, begun, reading, accepted, refused, name_of, row_of, parent_of, reason_of, part_of, noted_in, noted, frame_of, with_row, with_warning, closed, dropped, judged, passed, shut, too_deep, opened, begins, unsupported, docstring_in, child, started, turn, step, Name, tag_name, name_shown}
use Rattle.document.specs.Refusals.{excerpt, bare, showing, showing_both, fault_in}
use Rattle.document.specs.declared.Refusal.{Refusal}
use Rattle.document.proofs.Tests.{either}

-- what holds of open frames holds once a part is noted in its definition, if it does not look at the parts of a definition
pub noted_keeps : (P : List Frame → Type 0) (k : ℕ) (t : Tag) → ((d : Definition) (fs : List Frame) → P (definition d ∷ fs) → P (definition (part_of k t d) ∷ fs)) → (fs : List Frame) → P fs → P (noted k t fs)
noted_keeps P k t part fs h = either P (among k kinds.parts) (λ c. go fs h) (λ c. h)
  where
    go : (fs : List Frame) → P fs → P (noted_in k t fs)
    go [] h = h
    go (element c n r ∷ fs) h = h
    go (definition d ∷ fs) h = part d fs h
    go (passing p ns ∷ fs) h = h

-- an open element whose content is read, not passed over; its kind, 0 of another
abbrev pub Read : Frame → Type 0
Read (element k n r) = Unit {0}
Read (definition d) = Unit {0}
Read (passing p ns) = ⊥

abbrev pub kind_in : Frame → ℕ
kind_in (element k n r) = k
kind_in (definition d) = d.kind
kind_in (passing p ns) = 0

-- it takes docstrings
abbrev pub TakesDocs : Frame → Type 0
TakesDocs f = Read f × (not (eqb (kind_in f) kinds.annotation) ≡ true)

-- an element of kind k may begin, when there are n rows: the root, or what the innermost element may hold
abbrev pub Begins : ℕ → ℕ → List Frame → Type 0
Begins n k [] = (n ≡ 0) × (k ≡ kinds.node)
Begins n k (f ∷ fs) = Read f × (may_hold (kind_in f) k ≡ true)

-- its kind is that of its name, unless it is the root
abbrev pub Named : Tag → ℕ → List Frame → Type 0
Named t k [] = Unit {0}
Named t k (f ∷ fs) = kind_of t.name ≡ k

-- what is known: before the root, of the open elements, after the root, after a refusal. None are open only within a step: before the
-- row of the root, and after its end
pub record Known (A : Type 0) : Type 1 where
  pub first : Type 0
  pub inside : List Frame → Tables A → Type 0
  pub done : Tables A → Type 0
  pub fault : Refusal → Type 0

abbrev pub Kept : {A : Type 0} → Known A → State A → Type 0
Kept i begun = i.first
Kept i (reading [] u) = ⊥
Kept i (reading (f ∷ fs) u) = i.inside (f ∷ fs) u
Kept i (accepted u) = i.done u
Kept i (refused x) = i.fault x

-- the content from s to the `<` of its closing tag
abbrev pub content_at : List ℕ → ℕ → ℕ → List ℕ
content_at doc s lt = take (lt - s) (drop s doc)

module _ {A : Type 0} (keep : Keeping A) (doc : List ℕ) where
  -- the innermost element is closed: an element, a definition that is kept, one that is dropped; and if it was the root
  pub record Closes (i j : Known A) : Type 0 where
    pub element : (k : ℕ) (n : Name) (r : ℕ) (fs : List Frame) (u : Tables A) → i.inside (element k n r ∷ fs) u → j.inside fs u
    pub whole : (d : Definition) (fs : List Frame) (u : Tables A) → reason_of d ≡ 0 → i.inside (definition d ∷ fs) u → j.inside fs u
    pub broken : (d : Definition) (fs : List Frame) (u : Tables A) → eqb (reason_of d) 0 ≡ false → i.inside (definition d ∷ fs) u → j.inside fs (dropped (reason_of d) d u)
    pub root : (u : Tables A) → j.inside [] u → j.done u

  -- a closing tag whose `<` stands at lt: also content that is passed over, a docstring, an element in such content; or another tag
  abbrev pub captures_at : ℕ → ℕ → ℕ → Tables A → Tables A
  captures_at lt s r u =
      let content = content_at doc s lt in
      record { rows = documented r (record { start = s + trim_start content; len = trim_end content - trim_start content }) u.rows; warnings = u.warnings }

  pub record Shuts (i j : Known A) (lt : ℕ) (name : List ℕ) (q : ℕ) : Type 0 where
    pub closes : Closes i j
    pub passed : (p : Purpose) (ns : List Name) (fs : List Frame) (u : Tables A) → length ns ≤ 1 → i.inside (passing p ns ∷ fs) u → j.inside fs u
    pub docstring : (s r : ℕ) (ns : List Name) (fs : List Frame) (u : Tables A) → length ns ≤ 1 → ltb (trim_start (content_at doc s lt)) (trim_end (content_at doc s lt)) ≡ true → i.inside (passing (captures s r) ns ∷ fs) u → j.inside fs (captures_at lt s r u)
    pub within : (p : Purpose) (n : Name) (ns : List Name) (fs : List Frame) (u : Tables A) → 1 ≤ length ns → same name n.bytes ≡ true → i.inside (passing p (n ∷ ns) ∷ fs) u → j.inside (passing p ns ∷ fs) u
    pub another : (f : Frame) (fs : List Frame) (u : Tables A) → i.inside (f ∷ fs) u → j.fault (showing_both 6 q (excerpt (suc (suc lt)) name) (name_shown (name_of f)))
    pub none : j.fault (bare 4 (suc lt))

  -- a start tag; the second is what is known between the row of a tag `/>` and the end of its element
  pub record Starts (i m j : Known A) (t : Tag) : Type 0 where
    pub closes : Closes m j
    pub moves : (f : Frame) (fs : List Frame) (u : Tables A) → t.self ≡ true → i.inside (f ∷ fs) u → j.inside (f ∷ fs) u
    pub row :
        (k : ℕ) (r : Row A) (fs : List Frame) (u : Tables A) →
        t.self ≡ false →
        Begins (length u.rows) k fs →
        Named t k fs →
        opens_as keep k (parent_of fs) t ≡ opens r →
        too_deep keep doc k fs ≡ false →
        i.inside fs u →
        j.inside (frame_of k t (length u.rows) ∷ noted k t fs) (with_row r u)
    pub own_row :
        (k : ℕ) (r : Row A) (fs : List Frame) (u : Tables A) →
        t.self ≡ true →
        Begins (length u.rows) k fs →
        Named t k fs →
        opens_as keep k (parent_of fs) t ≡ opens r →
        i.inside fs u →
        m.inside (frame_of k t (length u.rows) ∷ noted k t fs) (with_row r u)
    pub refusal : (k p : ℕ) (x : Refusal) → opens_as keep k p t ≡ refuses x → j.fault x
    pub deep : j.fault (bare 7 t.after)
    pub warning : (f : Frame) (fs : List Frame) (u : Tables A) → t.self ≡ true → i.inside (f ∷ fs) u → j.inside (f ∷ fs) (with_warning 1 t.at t.name u)
    pub skips : (f : Frame) (fs : List Frame) (u : Tables A) → t.self ≡ false → Read f → i.inside (f ∷ fs) u → j.inside (passing ignored (tag_name t ∷ []) ∷ f ∷ fs) (with_warning 1 t.at t.name u)
    pub docstring : (f : Frame) (fs : List Frame) (u : Tables A) → t.self ≡ false → TakesDocs f → i.inside (f ∷ fs) u → j.inside (passing (captures t.after (row_of f)) (tag_name t ∷ []) ∷ f ∷ fs) u
    pub within : (p : Purpose) (ns : List Name) (fs : List Frame) (u : Tables A) → t.self ≡ false → leb 1024 (length ns) ≡ false → i.inside (passing p ns ∷ fs) u → j.inside (passing p (tag_name t ∷ ns) ∷ fs) u

  abbrev pub Ways : Known A → Known A → Known A → Token → Type 0
  Ways i m j (start t) = Starts i m j t
  Ways i m j (close lt n q) = Shuts i j lt n q
  Ways i m j (fault n p) = j.fault (fault_in doc n p)
  Ways i m j (end p) = j.fault (bare 3 p) × ((f : Frame) (fs : List Frame) (u : Tables A) → i.inside (f ∷ fs) u → j.fault (showing 5 p (name_shown (name_of f))))

  pub record Steps (i m j : Known A) (t : Token) : Type 0 where
    pub ways : Ways i m j t
    pub empty : i.first → i.inside [] (record { rows = []; warnings = [] })
    pub done : (u : Tables A) → i.done u → j.done u
    pub fault : (x : Refusal) → i.fault x → j.fault x

  -- ---- closing

  module _ {i j : Known A} (c : Closes i j) where
    closed_kept : (fs : List Frame) (u : Tables A) → j.inside fs u → Kept j (closed fs u)
    closed_kept [] u h = c.root u h
    closed_kept (f ∷ fs) u h = h

    judged_kept : (d : Definition) (fs : List Frame) (u : Tables A) → i.inside (definition d ∷ fs) u → Kept j (closed fs (judged d u))
    judged_kept d fs u h =
        closed_kept fs (judged d u)
        (either (j.inside fs) (eqb (reason_of d) 0) (λ e. c.whole d fs u (eqb-true (reason_of d) 0 e) h) (λ e. c.broken d fs u e h))

    own_kept : (k : ℕ) (t : Tag) (n : ℕ) (fs : List Frame) (u : Tables A) → i.inside (frame_of k t n ∷ fs) u → Kept j (shut doc (frame_of k t n) fs u 0)
    own_kept k t n fs u =
        either (λ (f : Frame). i.inside (f ∷ fs) u → Kept j (shut doc f fs u 0)) (among k kinds.definitions)
        (λ e h. judged_kept _ fs u h)
        (λ e h. closed_kept fs u (c.element k (tag_name t) n fs u h))

  module _ {i j : Known A} {lt : ℕ} {name : List ℕ} {q : ℕ} (c : Shuts i j lt name q) where
    passed_kept : (p : Purpose) (ns : List Name) (fs : List Frame) (u : Tables A) → length ns ≤ 1 → i.inside (passing p ns ∷ fs) u → Kept j (closed fs (passed doc p lt u))
    passed_kept ignored ns fs u l h = closed_kept c.closes fs u (c.passed ignored ns fs u l h)
    passed_kept (captures s r) ns fs u l h =
        closed_kept c.closes fs (passed doc (captures s r) lt u)
        (either (j.inside fs) (ltb (trim_start (content_at doc s lt)) (trim_end (content_at doc s lt)))
        (λ e. c.docstring s r ns fs u l e h)
        (λ e. c.passed (captures s r) ns fs u l h))

    shut_kept : (f : Frame) (fs : List Frame) (u : Tables A) → same name (name_of f).bytes ≡ true → i.inside (f ∷ fs) u → Kept j (shut doc f fs u lt)
    shut_kept (element k n r) fs u e h = closed_kept c.closes fs u (c.closes.element k n r fs u h)
    shut_kept (definition d) fs u e h = judged_kept c.closes d fs u h
    shut_kept (passing p []) fs u e h = passed_kept p [] fs u (omega arith) h
    shut_kept (passing p (n ∷ [])) fs u e h = passed_kept p (n ∷ []) fs u (omega arith) h
    shut_kept (passing p (n ∷ m ∷ ns)) fs u e h = c.within p n (m ∷ ns) fs u (omega arith) e h

  -- ---- start tags

  module _ {i m j : Known A} {t : Tag} (s : Starts i m j t) where
    begins_kept : (k : ℕ) (fs : List Frame) (u : Tables A) → Begins (length u.rows) k fs → Named t k fs → i.inside fs u → Kept j (begins keep doc k t fs u)
    unfolding begins
    begins_kept k fs u b n h = go (opens_as keep k (parent_of fs) t) refl
      where
        go : (o : Opened A) → opens_as keep k (parent_of fs) t ≡ o → Kept j (opened keep doc k t o fs u)
        go (opens r) e =
            either (Kept j) t.self
            (λ c. own_kept s.closes k t (length u.rows) (noted k t fs) (with_row r u) (s.own_row k r fs u c b n e h))
            (λ c. either (Kept j) (too_deep keep doc k fs) (λ d. s.deep) (λ d. s.row k r fs u c b n e d h))
        go (refuses x) e = s.refusal k (parent_of fs) x e

    unsupported_kept : (f : Frame) (fs : List Frame) (u : Tables A) → Read f → i.inside (f ∷ fs) u → Kept j (unsupported keep doc t (f ∷ fs) u)
    unfolding unsupported
    unsupported_kept f fs u r h = either (Kept j) t.self (λ c. s.warning f fs u c h) (λ c. s.skips f fs u c r h)

    docstring_kept : (f : Frame) (fs : List Frame) (u : Tables A) → TakesDocs f → i.inside (f ∷ fs) u → Kept j (docstring_in keep doc t (f ∷ fs) (row_of f) u)
    unfolding docstring_in
    docstring_kept f fs u d h = either (Kept j) t.self (λ c. s.moves f fs u c h) (λ c. s.docstring f fs u c d h)

    child_kept : (f : Frame) (fs : List Frame) (u : Tables A) → Read f → i.inside (f ∷ fs) u → Kept j (child keep doc (kind_in f) (row_of f) t (f ∷ fs) u)
    child_kept f fs u r h =
        let c = kind_of t.name in
        either (Kept j) (eqb c kinds.docstring && not (eqb (kind_in f) kinds.annotation))
        (λ e. docstring_kept f fs u (r, second (eqb c kinds.docstring) (not (eqb (kind_in f) kinds.annotation)) e) h)
        (λ e. either (Kept j) (may_hold (kind_in f) c) (λ b. begins_kept c (f ∷ fs) u (r, b) refl h) (λ b. unsupported_kept f fs u r h))
      where
        second : (x y : Bool) → (x && y) ≡ true → y ≡ true
        second true y e = e
        second false true e = refl
        second false false e = e

    started_kept : (f : Frame) (fs : List Frame) (u : Tables A) → i.inside (f ∷ fs) u → Kept j (started keep doc f fs u t)
    started_kept (element k n r) fs u h = child_kept (element k n r) fs u tt h
    started_kept (definition d) fs u h = child_kept (definition d) fs u tt h
    started_kept (passing p ns) fs u h =
        either (Kept j) t.self
        (λ c. s.moves (passing p ns) fs u c h)
        (λ c. either (Kept j) (leb 1024 (length ns)) (λ d. s.deep) (λ d. s.within p ns fs u c d h))

  -- ---- tokens

  module _ (i m j : Known A) where
    turn_kept : (t : Token) → Ways i m j t → (f : Frame) (fs : List Frame) (u : Tables A) → i.inside (f ∷ fs) u → Kept j (turn keep doc f fs u t)
    turn_kept (start t) w f fs u h = started_kept w f fs u h
    turn_kept (close lt n q) w f fs u h = either (Kept j) (same n (name_of f).bytes) (λ c. shut_kept w f fs u c h) (λ c. w.another f fs u h)
    turn_kept (fault n p) w f fs u h = w
    turn_kept (end p) w f fs u h = w.1 f fs u h

    pub step_kept : (s : State A) (t : Token) → Steps i m j t → Kept i s → Kept j (step keep doc s t)
    unfolding step
    step_kept begun (start t) k h = begins_kept k.ways kinds.node [] (record { rows = []; warnings = [] }) (refl, refl) tt (k.empty h)
    step_kept begun (close lt n q) k h = k.ways.none
    step_kept begun (fault n p) k h = k.ways
    step_kept begun (end p) k h = k.ways.0
    step_kept (reading [] u) t k h = absurd h
    step_kept (reading (f ∷ fs) u) t k h = turn_kept t k.ways f fs u h
    step_kept (accepted u) t k h = k.done u h
    step_kept (refused x) t k h = k.fault x h
