-- Structs and mappings have the members that they need: every step keeps that. While a definition is open, what was seen of its parts is
-- what its member rows say; the rows before it have no member after it.
use Prim.Native.Nat.{ℕ, zero, suc, ◌≤◌, ◌<◌}
use mathlib.Core.Path.{◌≡◌, refl, ap, sym, ◌∙◌}
use mathlib.Core.List.{List, [], ◌∷◌, ◌++◌}
use mathlib.Core.Option.{Option, none, some}
use mathlib.Core.Bool.{Bool, true, false}
use borrow.Author.Tests.{eqb-true, eqb-false, ne_eqb, eq-eqb}
use native.Mathlib.Omega.{arith}
use lib.Dec.{eqb}
use lib.ListN.{length, take, length-append}
use lib.Seq.{length-take-le, take-append_seam}
use Rattle.slices.specs.Bytes.{if, bytes}
use Rattle.slices.proofs.Runs.{if_same, by_byte}
use Rattle.utf8.proofs.Sequences.{below}
use Rattle.names.specs.Signature.{basic_signature}
use Rattle.document.specs.Kinds as kinds
use Rattle.document.specs.Kinds.{definitions, parts}
use Rattle.document.specs.Tags.{Shown}
use Rattle.document.specs.Tokens.{Tag, Token, start, close, fault, end}
use Rattle.document.specs.Rows.{Doc, Row, Tables, documented}
use Rattle.document.specs.Elements.{among, may_hold, attr, kept, Opened, opens, refuses, opens_as}
use Rattle.document.specs.Reading.{Definition, Frame, element, definition, passing, parent_of, is_some, parts_reason, reason_of, part_of, noted_in, noted, frame_of}
use Rattle.document.specs.Outcome.{whole}
use Rattle.document.proofs.Tests.{never, either, among_each}
use Rattle.document.proofs.Steps.{noted_keeps, Begins, Known, Closes, Ways}
use Rattle.rows.proofs.Words.{length_documented}
use Rattle.items.specs.Words.{is_child}
use Rattle.accepted.proofs.Holding.{part_parent}
use Rattle.accepted.proofs.Tokens.{Comes}
use Rattle.accepted.proofs.Folding.{run_kept, Accepts}
use Rattle.accepted.proofs.Entries.{Brief, Entry, start_opens}
use Rattle.accepted.proofs.Entering.{begins_kind}
use Rattle.accepted.proofs.States.{row_at, at_more, at_last, at_first, at_documented}

-- ---- the signatures of members, in row order; p is the definition's row plus one

abbrev pub signatures : ℕ → List (Row Shown) → List (Option Shown)
signatures p [] = []
signatures p (r ∷ rs) = let vs = signatures p rs in if (is_child kinds.member p r.kind r.parent) (r.value ∷ vs) vs

abbrev pub some_member : List (Option Shown) → Bool
some_member [] = false
some_member (v ∷ vs) = true

abbrev pub first_basic : List (Option Shown) → Bool
first_basic [] = false
first_basic (v ∷ vs) = is_some basic_signature v

abbrev pub two_keyed : List (Option Shown) → Bool
two_keyed [] = false
two_keyed (k ∷ []) = false
two_keyed (k ∷ v ∷ []) = is_some basic_signature k
two_keyed (k ∷ v ∷ m ∷ ms) = false

-- those that a definition of kind k needs
abbrev pub enough : ℕ → List (Option Shown) → Bool
enough k vs = if (eqb k kinds.struct) (some_member vs) (if (eqb k kinds.mapping) (two_keyed vs) true)

signatures_more : (p : ℕ) (rs : List (Row Shown)) (r : Row Shown) → is_child kinds.member p r.kind r.parent ≡ true → signatures p (rs ++ r ∷ []) ≡ signatures p rs ++ r.value ∷ []
signatures_more p [] r e = rw e
signatures_more p (q ∷ rs) r e = go (is_child kinds.member p q.kind q.parent) (signatures_more p rs r e)
  where
    go : (b : Bool) → signatures p (rs ++ r ∷ []) ≡ signatures p rs ++ r.value ∷ [] → if b (q.value ∷ signatures p (rs ++ r ∷ [])) (signatures p (rs ++ r ∷ [])) ≡ if b (q.value ∷ signatures p rs) (signatures p rs) ++ r.value ∷ []
    go true i = ap (◌∷◌ q.value) i
    go false i = i

signatures_same : (p : ℕ) (rs : List (Row Shown)) (r : Row Shown) → is_child kinds.member p r.kind r.parent ≡ false → signatures p (rs ++ r ∷ []) ≡ signatures p rs
signatures_same p [] r e = rw e
signatures_same p (q ∷ rs) r e = rw (signatures_same p rs r e)

signatures_documented : (p i : ℕ) (d : Doc) (rs : List (Row Shown)) → signatures p (documented i d rs) ≡ signatures p rs
signatures_documented p i d [] = refl
signatures_documented p zero d (r ∷ rs) = refl
signatures_documented p (suc i) d (r ∷ rs) = rw (signatures_documented p i d rs)

take_documented : (p i j : ℕ) (d : Doc) (rs : List (Row Shown)) → signatures p (take j (documented i d rs)) ≡ signatures p (take j rs)
take_documented p i zero d rs = refl
take_documented p i (suc j) d [] = refl
take_documented p zero (suc j) d (r ∷ rs) = refl
take_documented p (suc i) (suc j) d (r ∷ rs) = rw (take_documented p i j d rs)

take_more : (j : ℕ) (rs : List (Row Shown)) (r : Row Shown) → j ≤ length rs → take j (rs ++ r ∷ []) ≡ take j rs
take_more zero rs r l = refl
take_more (suc j) [] r l = absurd (omega arith)
take_more (suc j) (q ∷ rs) r l = rw (take_more j rs r (omega arith))

take_fewer : (j m : ℕ) (rs : List (Row Shown)) → j ≤ m → take j (take m rs) ≡ take j rs
take_fewer zero m rs l = refl
take_fewer (suc j) zero rs l = absurd (omega arith)
take_fewer (suc j) (suc m) [] l = refl
take_fewer (suc j) (suc m) (r ∷ rs) l = rw (take_fewer j m rs (omega arith))

-- ---- open definitions

-- what was seen of the parts of a struct or mapping
abbrev Tally : Definition → List (Option Shown) → Type 0
Tally d vs = among d.kind (kinds.struct ∷ kinds.mapping ∷ []) ≡ true → (d.parts.count ≡ length vs) × (d.parts.basic ≡ first_basic vs)

-- the rows before row n have no members from it on, and the others none before it
record Own (n : ℕ) (rs : List (Row Shown)) : Type 0 where
  pub earlier : (i : ℕ) → i < n → signatures (suc i) (take n rs) ≡ signatures (suc i) rs
  pub later : (i : ℕ) → n ≤ i → signatures (suc i) (take n rs) ≡ []

-- of rows below b
abbrev Tallies : ℕ → List (Row Shown) → List Frame → Type 0
Tallies b rs [] = Unit {0}
Tallies b rs (element k m r ∷ fs) = (among k definitions ≡ false) × Tallies b rs fs
Tallies b rs (definition d ∷ fs) =
    (d.row < b) × ((row_at rs d.row).kind ≡ d.kind)
    × Tally d (signatures (suc d.row) rs)
    × Own d.row rs
    × Tallies d.row rs fs
Tallies b rs (passing p ns ∷ fs) = Tallies b rs fs

-- row i is no open definition's
abbrev Closed : ℕ → List Frame → Type 0
Closed i [] = Unit {0}
Closed i (element k m r ∷ fs) = Closed i fs
Closed i (definition d ∷ fs) = (d.row ≡ i → ⊥) × Closed i fs
Closed i (passing p ns ∷ fs) = Closed i fs

record Holds (fs : List Frame) (rs : List (Row Shown)) : Type 0 where
  pub closed : (i : ℕ) → i < length rs → Closed i fs → enough (row_at rs i).kind (signatures (suc i) rs) ≡ true
  pub tallies : Tallies (length rs) rs fs
  pub fresh : (i : ℕ) → length rs ≤ i → signatures (suc i) rs ≡ []

-- other rows, where those below b have the same kinds and members
record Alike (b : ℕ) (rs ss : List (Row Shown)) : Type 0 where
  pub kinds : (i : ℕ) → i < b → (row_at rs i).kind ≡ (row_at ss i).kind
  pub members : (i : ℕ) → i < b → signatures (suc i) ss ≡ signatures (suc i) rs
  pub firsts : (j i : ℕ) → j ≤ b → signatures (suc i) (take j ss) ≡ signatures (suc i) (take j rs)

own_alike : (b n : ℕ) (rs ss : List (Row Shown)) → n ≤ b → Alike b rs ss → Own n rs → Own n ss
own_alike b n rs ss l a o = record {
  earlier = λ i m. a.firsts n i l ∙ o.earlier i m ∙ sym (a.members i (omega arith));
  later = λ i m. a.firsts n i l ∙ o.later i m;
}

alike_fewer : (b c : ℕ) (rs ss : List (Row Shown)) → c ≤ b → Alike b rs ss → Alike c rs ss
alike_fewer b c rs ss l a = record {
  kinds = λ i m. a.kinds i (omega arith);
  members = λ i m. a.members i (omega arith);
  firsts = λ j i m. a.firsts j i (omega arith);
}

tallies_alike : (b : ℕ) (rs ss : List (Row Shown)) (fs : List Frame) → Alike b rs ss → Tallies b rs fs → Tallies b ss fs
tallies_alike b rs ss [] a h = tt
tallies_alike b rs ss (element k m r ∷ fs) a h = (h.0, tallies_alike b rs ss fs a h.1)
tallies_alike b rs ss (definition d ∷ fs) a h = (
  h.0,
  sym (a.kinds d.row h.0) ∙ h.1,
  (λ e. rw (a.members d.row h.0) (h.2 e)),
  own_alike b d.row rs ss (omega (arith, h.0)) a h.3,
  tallies_alike d.row rs ss fs (alike_fewer b d.row rs ss (omega (arith, h.0)) a) h.4,
)
tallies_alike b rs ss (passing p ns ∷ fs) a h = tallies_alike b rs ss fs a h

tallies_wider : (b c : ℕ) (rs : List (Row Shown)) (fs : List Frame) → b ≤ c → Tallies b rs fs → Tallies c rs fs
tallies_wider b c rs [] l h = tt
tallies_wider b c rs (element k m r ∷ fs) l h = (h.0, tallies_wider b c rs fs l h.1)
tallies_wider b c rs (definition d ∷ fs) l h = (omega (arith, h.0), h.1, h.2, h.3, h.4)
tallies_wider b c rs (passing p ns ∷ fs) l h = tallies_wider b c rs fs l h

-- ---- a definition is closed

-- a kind that is no definition needs none
needs_none : (k : ℕ) (vs : List (Option Shown)) → among k definitions ≡ false → enough k vs ≡ true
needs_none k vs =
    by_byte Q k kinds.struct
    (λ e. never (sym e))
    (λ a. by_byte (λ j. eqb j kinds.struct ≡ false → Q j) k kinds.mapping (λ a e. never (sym e)) (λ b a e. rw (a, b)) a)
  where
    Q : ℕ → Type 0
    Q j = among j definitions ≡ false → enough j vs ≡ true

two_first : (vs : List (Option Shown)) → length vs ≡ 2 → first_basic vs ≡ true → two_keyed vs ≡ true
two_first [] e f = absurd (omega arith)
two_first (k ∷ []) e f = absurd (omega arith)
two_first (k ∷ v ∷ []) e f = f
two_first (k ∷ v ∷ m ∷ ms) e f = absurd (omega arith)

some_first : (vs : List (Option Shown)) → (length vs ≡ 0 → ⊥) → some_member vs ≡ true
some_first [] e = absurd (e refl)
some_first (v ∷ vs) e = refl

judged_enough : (d : Definition) (vs : List (Option Shown)) → reason_of d ≡ 0 → Tally d vs → enough d.kind vs ≡ true
judged_enough d vs e t = by_kind (eqb d.kind kinds.struct) (eqb d.kind kinds.mapping) refl refl
  where
    c : ℕ
    c = d.parts.count

    whole_parts : parts_reason d.kind d.parts ≡ 0
    whole_parts = go (eqb d.reason 0) refl e
      where
        go : (b : Bool) → eqb d.reason 0 ≡ b → if b (parts_reason d.kind d.parts) d.reason ≡ 0 → parts_reason d.kind d.parts ≡ 0
        go true f g = g
        go false f g = absurd (eqb-false d.reason 0 f g)

    unbroken : if {A = ℕ} (eqb d.kind kinds.struct) (if (eqb c 0) 7 0) (if (eqb d.kind kinds.mapping) (if (eqb c 2) (if d.parts.basic 0 9) 8) 0) ≡ 0
    unbroken = go d.parts.broken (eqb d.kind kinds.enum) whole_parts
      where
        go : {x : ℕ} (b w : Bool) → if {A = ℕ} b (if w 5 6) x ≡ 0 → x ≡ 0
        go true true g = absurd (omega arith)
        go true false g = absurd (omega arith)
        go false w g = g

    by_kind : (x y : Bool) → eqb d.kind kinds.struct ≡ x → eqb d.kind kinds.mapping ≡ y → if x (some_member vs) (if y (two_keyed vs) true) ≡ true
    by_kind true y f g =
        some_first vs (λ z. zero_count (sym (eq-eqb c 0 ((t (rw f)).0 ∙ z))) (rw f at unbroken))
      where
        zero_count : {X : Type 0} → true ≡ eqb c 0 → if {A = ℕ} (eqb c 0) 7 0 ≡ 0 → X
        zero_count q h = let z : ◌≡◌ {A = ℕ} 7 0 = rw (← q) at h in absurd (omega arith)
    by_kind false true f g = go (eqb c 2) d.parts.basic refl refl (rw (f, g) at unbroken)
      where
        go : (x y : Bool) → eqb c 2 ≡ x → d.parts.basic ≡ y → if {A = ℕ} x (if y 0 9) 8 ≡ 0 → two_keyed vs ≡ true
        go true true p q h = let s = t (rw (f, g)) in two_first vs (sym s.0 ∙ eqb-true c 2 p) (sym s.1 ∙ q)
        go true false p q h = absurd (omega arith)
        go false y p q h = absurd (omega arith)
    by_kind false false f g = refl

whole_holds : (d : Definition) (fs : List Frame) (rs : List (Row Shown)) → reason_of d ≡ 0 → Holds (definition d ∷ fs) rs → Holds fs rs
whole_holds d fs rs e h = record {
  closed = λ i l c. go i l c (eqb d.row i) refl;
  tallies = tallies_wider d.row (length rs) rs fs (omega (arith, h.tallies.0)) h.tallies.4;
  fresh = h.fresh;
}
  where
    own : enough (row_at rs d.row).kind (signatures (suc d.row) rs) ≡ true
    own = rw h.tallies.1 (judged_enough d (signatures (suc d.row) rs) e h.tallies.2)

    go : (i : ℕ) → i < length rs → Closed i fs → (b : Bool) → eqb d.row i ≡ b → enough (row_at rs i).kind (signatures (suc i) rs) ≡ true
    go i l c true f = rw (← eqb-true d.row i f) own
    go i l c false f = h.closed i l (eqb-false d.row i f, c)

dropped_holds : (d : Definition) (fs : List Frame) (rs : List (Row Shown)) → Holds (definition d ∷ fs) rs → Holds fs (take d.row rs)
dropped_holds d fs rs h =
    let o = h.tallies.3 in
    let m : length (take d.row rs) ≡ d.row = length-take-le d.row rs (omega (arith, h.tallies.0)) in
    let k : (i : ℕ) → i < d.row → (row_at rs i).kind ≡ (row_at (take d.row rs) i).kind = λ i l. ap (λ (b : Brief). b.kind) (at_first d.row rs i l) in
    record {
      closed = λ i l c.
          let s : i < d.row = omega (arith, m) in
          rw (← k i s, o.earlier i s) (h.closed i (omega (arith, h.tallies.0)) ((λ z. absurd (omega arith)), c));
      tallies = rw m
          (tallies_alike d.row rs (take d.row rs) fs (record {
            kinds = k;
            members = λ i l. o.earlier i l;
            firsts = λ j i l. ap (λ (ss : List (Row Shown)). signatures (suc i) ss) (take_fewer j d.row rs (omega arith));
          }) h.tallies.4);
      fresh = λ i l. o.later i (omega (arith, m));
    }

documented_holds : (i : ℕ) (d : Doc) (fs : List Frame) (rs : List (Row Shown)) → Holds fs rs → Holds fs (documented i d rs)
documented_holds i d fs rs h = record {
  closed = λ j l c. rw (← at_documented i d rs j, signatures_documented (suc j) i d rs) (h.closed j (omega (arith, m)) c);
  tallies = rw m
      (tallies_alike (length rs) rs (documented i d rs) fs (record {
        kinds = λ j l. ap (λ (b : Brief). b.kind) (at_documented i d rs j);
        members = λ j l. signatures_documented (suc j) i d rs;
        firsts = λ j k l. take_documented (suc k) i j d rs;
      }) h.tallies);
  fresh = λ j l. signatures_documented (suc j) i d rs ∙ h.fresh j (omega (arith, m));
}
  where
    m : length (documented i d rs) ≡ length rs
    m = length_documented d i rs

-- ---- a row more

-- a row that is no member of the rows below b
alike_more : (b : ℕ) (rs : List (Row Shown)) (r : Row Shown) → b ≤ length rs → ((i : ℕ) → i < b → is_child kinds.member (suc i) r.kind r.parent ≡ false) → Alike b rs (rs ++ r ∷ [])
alike_more b rs r l f = record {
  kinds = λ i m. ap (λ (b : Brief). b.kind) (at_more rs r i (omega arith));
  members = λ i m. signatures_same (suc i) rs r (f i m);
  firsts = λ j i m. ap (λ (ss : List (Row Shown)). signatures (suc i) ss) (take_more j rs r (omega arith));
}

-- a struct and a mapping hold members alone
pub only_members : (j k : ℕ) → among j (kinds.struct ∷ kinds.mapping ∷ []) ≡ true → may_hold j k ≡ true → k ≡ kinds.member
unfolding may_hold
only_members j k e =
    among_each (λ j. may_hold j k ≡ true → k ≡ kinds.member) j (kinds.struct ∷ kinds.mapping ∷ []) e (is, (is, tt))
  where
    is : if (eqb k kinds.member) true false ≡ true → k ≡ kinds.member
    is m = eqb-true k kinds.member (sym (if_same (eqb k kinds.member)) ∙ m)

module _ (k : ℕ) (t : Tag) (r : Row Shown) (fs : List Frame) (rs : List (Row Shown)) (b : Begins (length rs) k fs) (kind : r.kind ≡ k) (h : Holds fs rs) where
  abbrev n : ℕ
  n = length rs

  long : length (rs ++ r ∷ []) ≡ suc n
  long = length-append rs (r ∷ []) ∙ omega arith

  last : (row_at (rs ++ r ∷ []) n).kind ≡ k
  last = ap (λ (b : Brief). b.kind) (at_last rs r) ∙ kind

  -- its own frame closed, or no definition
  last_closed : (i : ℕ) → n ≡ i → (gs : List Frame) → Closed i (frame_of k t n ∷ gs) → enough (row_at (rs ++ r ∷ []) i).kind (signatures (suc i) (rs ++ r ∷ [])) ≡ true
  last_closed i z gs =
      either (λ f. Closed i (f ∷ gs) → enough (row_at (rs ++ r ∷ []) i).kind (signatures (suc i) (rs ++ r ∷ [])) ≡ true) (among k definitions)
      (λ e c. absurd (c.0 z))
      (λ e c. rw (← z, last) (needs_none k (signatures (suc n) (rs ++ r ∷ [])) e))

  -- a row that is no member
  module _ (other : eqb k kinds.member ≡ false) where
    no_child : (p : ℕ) → is_child kinds.member p r.kind r.parent ≡ false
    no_child p = rw (kind, other)

    same : (p : ℕ) → signatures p (rs ++ r ∷ []) ≡ signatures p rs
    same p = signatures_same p rs r (no_child p)

    alike : Alike n rs (rs ++ r ∷ [])
    alike = alike_more n rs r (omega arith) (λ i l. no_child (suc i))

    -- an enumvalue stands in an enum
    part_tallies : (gs : List Frame) → Begins n k gs → among k parts ≡ true → Tallies n rs gs → Tallies n rs (noted_in k t gs)
    part_tallies [] b e g = tt
    part_tallies (element c m q ∷ gs) b e g = g
    part_tallies (definition d ∷ gs) b e g = (g.0, g.1, (λ f. absurd (eqb-false k kinds.member other (only_members d.kind k f b.1))), g.3, g.4)
    part_tallies (passing p ns ∷ gs) b e g = g

    noted_tallies : Tallies n rs (noted k t fs)
    noted_tallies = either (Tallies n rs) (among k parts) (λ e. part_tallies fs b e h.tallies) (λ e. h.tallies)

    under_closed : (i : ℕ) → Closed i (noted k t fs) → Closed i fs
    under_closed i = noted_keeps (λ gs. Closed i gs → Closed i fs) k t (λ d gs h. h) fs (λ c. c)

    past_frame : (i : ℕ) (gs : List Frame) → Closed i (frame_of k t n ∷ gs) → Closed i gs
    past_frame i gs = either (λ f. Closed i (f ∷ gs) → Closed i gs) (among k definitions) (λ e c. c.1) (λ e c. c)

    new_tallies : Tallies (suc n) (rs ++ r ∷ []) (frame_of k t n ∷ noted k t fs)
    new_tallies =
        let g = tallies_alike n rs (rs ++ r ∷ []) (noted k t fs) alike noted_tallies in
        either (λ f. Tallies (suc n) (rs ++ r ∷ []) (f ∷ noted k t fs)) (among k definitions)
        (λ e. (
          omega arith,
          last,
          (λ c. rw (same (suc n), h.fresh n (omega arith)) (refl, refl)),
          record {
            earlier = λ i l. rw (take-append_seam rs (r ∷ [])) (sym (same (suc i)));
            later = λ i l. rw (take-append_seam rs (r ∷ [])) (h.fresh i l);
          },
          g,
        ))
        (λ e. (e, tallies_wider n (suc n) (rs ++ r ∷ []) (noted k t fs) (omega arith) g))

    other_holds : Holds (frame_of k t n ∷ noted k t fs) (rs ++ r ∷ [])
    other_holds = record {
      closed = λ i l c.
          below i n
          (λ m. rw (← at_more rs r i m, same (suc i)) (h.closed i m (under_closed i (past_frame i (noted k t fs) c))))
          (λ m. last_closed i (omega (arith, long)) (noted k t fs) c);
      tallies = rw long new_tallies;
      fresh = λ i l. same (suc i) ∙ h.fresh i (omega (arith, long));
    }

-- a member, which stands in an open definition
basic_kept : (o : Option Shown) → is_some basic_signature o ≡ is_some basic_signature (kept whole o)
basic_kept none = refl
basic_kept (some s) = refl

first_more : (vs : List (Option Shown)) (c : ℕ) (p v : Bool) (w : Option Shown) → c ≡ length vs → p ≡ first_basic vs → v ≡ is_some basic_signature w → if (eqb c 0) v p ≡ first_basic (vs ++ w ∷ [])
first_more [] c p v w e f g = rw (e) g
first_more (u ∷ vs) c p v w e f g = rw (ne_eqb c 0 (λ z. absurd (omega arith))) f

module _ (t : Tag) (r : Row Shown) (d : Definition) (fs : List Frame) (rs : List (Row Shown)) (kind : r.kind ≡ kinds.member) (parent : r.parent ≡ suc d.row) (value : r.value ≡ kept whole (attr (bytes "type") t)) (h : Holds (definition d ∷ fs) rs) where
  other_row : (i : ℕ) → (d.row ≡ i → ⊥) → is_child kinds.member (suc i) r.kind r.parent ≡ false
  other_row i e = rw (kind, parent, ne_eqb (suc d.row) (suc i) (λ z. e (omega arith)))

  its_row : signatures (suc d.row) (rs ++ r ∷ []) ≡ signatures (suc d.row) rs ++ r.value ∷ []
  its_row = signatures_more (suc d.row) rs r (rw (kind, parent, eq-eqb (suc d.row) (suc d.row) refl))

  before_it : Alike d.row rs (rs ++ r ∷ [])
  before_it = alike_more d.row rs r (omega (arith, h.tallies.0)) (λ i l. other_row i (λ z. absurd (omega arith)))

  member_tally : Tally (part_of kinds.member t d) (signatures (suc d.row) (rs ++ r ∷ []))
  member_tally e =
      let g = h.tallies.2 e in
      let vs = signatures (suc d.row) rs in
      rw its_row (
        omega (arith, g.0, length-append vs (r.value ∷ [])),
        first_more vs d.parts.count d.parts.basic (is_some basic_signature (attr (bytes "type") t)) r.value g.0 g.1 (rw value (basic_kept (attr (bytes "type") t))),
      )

  member_holds : Holds (frame_of kinds.member t (length rs) ∷ noted kinds.member t (definition d ∷ fs)) (rs ++ r ∷ [])
  member_holds = record {
    closed = λ i l c.
        below i (length rs)
        (λ m. rw (← at_more rs r i m, signatures_same (suc i) rs r (other_row i c.0)) (h.closed i m c))
        (λ m. let z : length rs ≡ i = omega (arith, long) in rw (← z, ap (λ (b : Brief). b.kind) (at_last rs r) ∙ kind) refl);
    tallies = rw long (
      refl,
      (
        omega (arith, h.tallies.0),
        ap (λ (b : Brief). b.kind) (sym (at_more rs r d.row h.tallies.0)) ∙ h.tallies.1,
        member_tally,
        own_alike d.row d.row rs (rs ++ r ∷ []) (omega arith) before_it h.tallies.3,
        tallies_alike d.row rs (rs ++ r ∷ []) fs before_it h.tallies.4,
      ),
    );
    fresh = λ i l. signatures_same (suc i) rs r (other_row i (λ z. absurd (omega (arith, long, h.tallies.0)))) ∙ h.fresh i (omega (arith, long));
  }
    where
      long : length (rs ++ r ∷ []) ≡ suc (length rs)
      long = length-append rs (r ∷ []) ∙ omega arith

member_row : (p : ℕ) (t : Tag) (r : Row Shown) → opens_as whole kinds.member p t ≡ opens r → r.value ≡ kept whole (attr (bytes "type") t)
unfolding opens_as
member_row p t r e = ap value_of (sym e)
  where
    value_of : Opened Shown → Option Shown
    value_of (opens r) = r.value
    value_of (refuses x) = none

row_holds : (k : ℕ) (t : Tag) (r : Row Shown) (fs : List Frame) (rs : List (Row Shown)) → Begins (length rs) k fs → opens_as whole k (parent_of fs) t ≡ opens r → Entry k (parent_of fs) t r → Holds fs rs → Holds (frame_of k t (length rs) ∷ noted k t fs) (rs ++ r ∷ [])
row_holds k t r fs rs b e n h =
    by_byte (λ k. Begins (length rs) k fs → opens_as whole k (parent_of fs) t ≡ opens r → r.kind ≡ k → Holds (frame_of k t (length rs) ∷ noted k t fs) (rs ++ r ∷ [])) k kinds.member
    (λ b e q. in_definition fs b e q n.parent h)
    (λ o b e q. other_holds k t r fs rs b q h o) b e n.kind
  where
    in_definition : (fs : List Frame) → Begins (length rs) kinds.member fs → opens_as whole kinds.member (parent_of fs) t ≡ opens r → r.kind ≡ kinds.member → r.parent ≡ parent_of fs → Holds fs rs → Holds (frame_of kinds.member t (length rs) ∷ noted kinds.member t fs) (rs ++ r ∷ [])
    in_definition [] b e q p h = absurd (omega (arith, b.1))
    in_definition (element c m i ∷ fs) b e q p h = never (sym h.tallies.0 ∙ part_parent c kinds.member b.1 refl)
    in_definition (definition d ∷ fs) b e q p h = member_holds t r d fs rs q p (member_row (suc d.row) t r e) h
    in_definition (passing p ns ∷ fs) b e q w h = absurd b.0

-- ---- every step

held : Known Shown
held = record { first = Unit {0}; inside = λ fs u. Holds fs u.rows; done = λ u. Holds [] u.rows; fault = λ x. Unit {0} }

module _ (doc : List ℕ) where
  closes : Closes whole doc held held
  unfolding held
  closes = record {
    element = λ k n r fs u h. record { closed = h.closed; tallies = h.tallies.1; fresh = h.fresh };
    whole = λ d fs u e h. whole_holds d fs u.rows e h;
    broken = λ d fs u e h. dropped_holds d fs u.rows h;
    root = λ u h. h;
  }

  ways : (t : Token) → Comes doc t → Ways whole doc held held held t
  unfolding held
  ways (start t) c = record {
    closes = closes;
    moves = λ f fs u c h. h;
    row = λ k r fs u c b n e d h. row_holds k t r fs u.rows b e (entry t k r fs u b e) h;
    own_row = λ k r fs u c b n e h. row_holds k t r fs u.rows b e (entry t k r fs u b e) h;
    refusal = λ k p x e. tt;
    deep = tt;
    warning = λ f fs u c h. h;
    skips = λ f fs u c r h. record { closed = h.closed; tallies = h.tallies; fresh = h.fresh };
    docstring = λ f fs u c d h. record { closed = h.closed; tallies = h.tallies; fresh = h.fresh };
    within = λ p ns fs u c d h. record { closed = h.closed; tallies = h.tallies; fresh = h.fresh };
  }
    where
      entry : (t : Tag) (k : ℕ) (r : Row Shown) (fs : List Frame) (u : Tables Shown) → Begins (length u.rows) k fs → opens_as whole k (parent_of fs) t ≡ opens r → Entry k (parent_of fs) t r
      entry t k r fs u b e = rw e at (start_opens (parent_of fs) t k (begins_kind (length u.rows) k fs b))
  ways (close lt n q) c = record {
    closes = closes;
    passed = λ p ns fs u l h. record { closed = h.closed; tallies = h.tallies; fresh = h.fresh };
    docstring = λ s r ns fs u l e h. documented_holds r _ fs u.rows (record { closed = h.closed; tallies = h.tallies; fresh = h.fresh });
    within = λ p n ns fs u l e h. record { closed = h.closed; tallies = h.tallies; fresh = h.fresh };
    another = λ f fs u h. tt;
    none = tt;
  }
  ways (fault n p) c = tt
  ways (end p) c = (tt, λ f fs u h. tt)

  -- the rows of a document that is accepted
  pub accepts_enough : {u : Tables Shown} → Accepts doc u → (i : ℕ) → i < length u.rows → enough (row_at u.rows i).kind (signatures (suc i) u.rows) ≡ true
  unfolding held
  accepts_enough {u} a i l =
      let h : Holds [] u.rows = rw a.reads at
      (run_kept doc held ways (λ h. record { closed = λ i l c. absurd (omega arith); tallies = tt; fresh = λ i l. refl }) tt) in
      h.closed i l tt
