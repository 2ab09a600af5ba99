-- A docstring: its trimmed content in the rows, and the ways of its element.
use Prim.Native.Nat.{ℕ, ◌+◌, ◌-◌, ◌≤◌, ◌<◌}
use mathlib.Core.Path.{◌≡◌, refl, sym, ◌∙◌, ap}
use mathlib.Core.List.{List, [], ◌∷◌}
use mathlib.Core.Bool.{Bool, true, false}
use borrow.Author.Rules.{rules}
use borrow.Author.Tests.{lt-ltb, le-ltb}
use native.Mathlib.Omega.{arith}
use mir.Syntax.{w32, w64}
use mir.Val.{Fits}
use lib.Dec.{ltb}
use lib.ListN.{length, take, drop, get_or, length-drop}
use lib.Seq.{length-take-le}
use Rattle.std.specs.Prelude.{Result, Ok, Err}
use Rattle.utf8.specs.WellFormed.{ill_formed}
use Rattle.utf8.specs.WhiteSpace.{Trims, trim_start, trim_end}
use Rattle.utf8.specs.declared.Trimmed.{Trimmed}
use Rattle.utf8.proofs.Between.{trim_order}
use Rattle.utf8.proofs.Cuts.{cut_ascii, cut_after_ascii, part_formed}
use Rattle.tables.specs.Table.{Documented}
use Rattle.document.specs.Tags.{Shown}
use Rattle.document.specs.Tokens.{Tag}
use Rattle.slices.specs.Bytes.{if}
use Rattle.document.specs.Rows.{Tables, documented}
use Rattle.document.specs.Reading.{Name, Frame, reading, closed, passing, captures, captured, docstring_in}
use Rattle.document.specs.Outcome.{name_at, Bounded, Ready, TagIs, Passes, Captures, runs, whole, moved}
use Rattle.document.specs.declared.Refusal.{Refusal}
use Rattle.document.specs.declared.StartTag.{StartTag}
use Rattle.document.specs.declared.Fill.{Fill}
use Rattle.document.specs.declared.Closing.{Closing}
use Rattle.document.proofs.Loops.{moved_stands, name_inside}
use Rattle.document.proofs.Openings.{tag_named}
use Rattle.rows.proofs.Tables.{docstring_put}
use Rattle.rows.proofs.Words.{take_documented}
use Rattle.skip.specs.Outcome.{Puts}
use Rattle.skip.proofs.Skipped.{skip_within, skip_small}

-- the content between two places, and the trimmed part of it
module _ (doc : List ℕ) (from lt : ℕ) (h : from ≤ lt) (l : lt ≤ length doc) (m : length doc ≤ 1048576) where
  part_long : length (take (lt - from) (drop from doc)) ≡ lt - from
  part_long = length-take-le (lt - from) (drop from doc) (rw length-drop (omega arith))

  module _ (i : ill_formed (take (lt - from) (drop from doc)) ≡ length (take (lt - from) (drop from doc))) {s : Trimmed} (t : Trims (take (lt - from) (drop from doc)) s) where
    start_below : from + s.start ≤ 1048576
    start_below = let o = trim_order (take (lt - from) (drop from doc)) i in omega (arith, o.0, o.1, t.begins, t.ends, part_long)

    end_below : s.end ≤ 1048576
    end_below = let o = trim_order (take (lt - from) (drop from doc)) i in omega (arith, o.0, o.1, t.ends, part_long)

    pub start_wide : Fits w64 (from + s.start)
    start_wide = omega (arith, start_below)

    pub start_fits : Fits w32 (from + s.start)
    start_fits = omega (arith, start_below)

    pub length_fits : Fits w32 (s.end - s.start)
    length_fits = omega (arith, end_below)

module _ {doc : List ℕ} {from lt i : ℕ} {s : Trimmed} (t : Trims (take (lt - from) (drop from doc)) s) where
  pub capture_some : {rows rows' : List ℕ} → s.start < s.end → Documented i (from + s.start) (s.end - s.start) rows rows' → Puts doc from lt i rows rows'
  capture_some h d = record {
    stands = λ u f w bytes o z.
        let e : ltb (trim_start (take (lt - from) (drop from doc))) (trim_end (take (lt - from) (drop from doc))) ≡ true = lt-ltb (trim_start (take (lt - from) (drop from doc))) (trim_end (take (lt - from) (drop from doc))) (rw (← t.begins, ← t.ends) h) in
        rw (e, ← t.begins, ← t.ends) (docstring_put d o z);
  }

  pub capture_none : {rows : List ℕ} → s.end ≤ s.start → Puts doc from lt i rows rows
  capture_none h = record {
    stands = λ u f w bytes o z.
        let e : ltb (trim_start (take (lt - from) (drop from doc))) (trim_end (take (lt - from) (drop from doc))) ≡ false = le-ltb (trim_start (take (lt - from) (drop from doc))) (trim_end (take (lt - from) (drop from doc))) (rw (← t.begins, ← t.ends) h) in
        rw e z;
  }

pub ruleset capturing = (start_wide, start_fits, length_fits, capture_some, capture_none, rules)

-- rows before i are left alone
take_captured : (content : List ℕ) (s i : ℕ) (u : Tables Shown) → take i (captured content s i u).rows ≡ take i u.rows
take_captured content s i u = go (ltb (trim_start content) (trim_end content))
  where
    go : (b : Bool) → take i (if b (record { rows = documented i (record { start = s + trim_start content; len = trim_end content - trim_start content }) u.rows; warnings = u.warnings }) u).rows ≡ take i u.rows
    go true = take_documented (record { start = s + trim_start content; len = trim_end content - trim_start content }) i i u.rows (omega arith)
    go false = refl

module _ {doc : List ℕ} {c : StartTag} {f : Fill} (r : Ready doc c f) where
  bounded : (at : ℕ) → c.end ≤ at → at ≤ length doc → Bounded doc (moved f at)
  bounded at h l = record { sound = r.sound; inside = l; few = omega (arith, r.few, r.fits.inside); text = omega (arith, r.text, r.fits.inside) }

  self : (i : ℕ) (t : Tag) (fs : List Frame) (u : Tables Shown) → TagIs doc c t → c.closes ≡ true → runs doc c.end (docstring_in whole doc t fs i u) ≡ runs doc f.at (closed fs u)
  unfolding docstring_in
  self i t fs u z x = rw (r.at, sym z.closes ∙ x)

  pub captured_self : {i : ℕ} {rows : List ℕ} → c.closes ≡ true → Captures doc c i f rows rows (Ok f)
  captured_self {i} x = record {
    onward = (omega arith, omega arith, bounded f.at (omega (arith, r.at)) (omega (arith, r.at, r.fits.within)));
    ends = λ t fs u w bytes z s. (u, s, self i t fs u z x, refl);
  }

  -- the content is UTF-8: `>` stands before it and `<` after it
  pub content_formed : {lt : ℕ} → c.end ≤ lt → lt < length doc → get_or doc lt 0 ≡ 60 → ill_formed (take (lt - c.end) (drop c.end doc)) ≡ length (take (lt - c.end) (drop c.end doc))
  content_formed {lt} h l b =
      let e : c.end - 1 + 1 ≡ c.end = omega (arith, r.fits.inside) in
      let n : c.end + (lt - c.end) ≡ lt = omega arith in
      part_formed doc c.end (lt - c.end)
      (rw e at (cut_after_ascii doc (c.end - 1) r.sound.utf8 (omega (arith, r.fits.inside, r.fits.within)) (omega (arith, r.fits.ends))))
      (rw n (cut_ascii doc r.sound.utf8 lt l (omega (arith, b))))

  module _ {d : Result Closing Refusal} (x : c.closes ≡ false) (l : Passes doc c.end c.at c.len 1 d) where
    opens : (i : ℕ) (t : Tag) (fs : List Frame) (u : Tables Shown) → TagIs doc c t → runs doc c.end (docstring_in whole doc t fs i u) ≡ runs doc c.end (reading (passing (captures c.end i) (name_at doc c.at c.len ∷ []) ∷ fs) u)
    unfolding docstring_in
    opens i t fs u z = rw (sym z.closes ∙ x) (ap (λ (n : Name). runs doc c.end (reading (passing (captures t.after i) (n ∷ []) ∷ fs) u)) (tag_named z) ∙ ap (λ e. runs doc c.end (reading (passing (captures e i) (name_at doc c.at c.len ∷ []) ∷ fs) u)) (sym z.end))

    pub captured_fault : {i : ℕ} {y : Refusal} {rows : List ℕ} → d ≡ Err y → Captures doc c i f rows rows (Err y)
    captured_fault {i} e = record {
      onward = tt;
      ends = λ t fs u w bytes z s. opens i t fs u z ∙ (rw e at l).leads (captures c.end i) [] fs u refl;
    }

    module _ {q : Closing} (e : d ≡ Ok q) where
      closes : Passes doc c.end c.at c.len 1 (Ok q)
      closes = rw e at l

      pub captured_from : c.end ≤ q.lt
      captured_from = closes.onward.0

      pub captured_inside : q.lt ≤ length doc
      captured_inside = omega (arith, closes.onward)

      pub captured_formed : ill_formed (take (q.lt - c.end) (drop c.end doc)) ≡ length (take (q.lt - c.end) (drop c.end doc))
      captured_formed = content_formed closes.onward.0 (omega (arith, closes.onward)) closes.onward.3

      pub captured_closed : {i : ℕ} {m : Fill} {rows rows' : List ℕ} → i < f.rows → Puts doc c.end q.lt i rows rows' → m ≡ moved f q.end → Captures doc c i f rows rows' (Ok m)
      captured_closed {i} o p y = rw y record {
        onward = (omega (arith, r.at, closes.onward), omega arith, bounded q.end (omega (arith, closes.onward)) closes.onward.2);
        ends = λ t fs u w bytes z s. (
          captured (take (q.lt - c.end) (drop c.end doc)) c.end i u,
          moved_stands q.end (p.stands u f w bytes (omega (arith, s.many)) s),
          opens i t fs u z ∙ closes.leads (captures c.end i) [] fs u refl,
          take_captured (take (q.lt - c.end) (drop c.end doc)) c.end i u,
        );
      }

pub owner_small : {doc : List ℕ} {c : StartTag} {f : Fill} → Ready doc c f → (i : ℕ) → i < f.rows → i < 1048576
owner_small r i h = omega (arith, r.few, r.sound.small, r.fits.inside, r.fits.within)

pub ruleset documents = (skip_within, name_inside, skip_small, captured_self, captured_fault, captured_from, captured_inside, captured_formed, captured_closed, owner_small, rules)
