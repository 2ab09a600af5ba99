-- What a triple shows.
use Prim.Native.Nat.{ℕ, ◌+◌, ◌-◌, ◌≤◌, ◌<◌, ◌^◌}
use mathlib.Core.Path.{◌≡◌, sym, ◌∙◌}
use mathlib.Core.List.{List}
use mathlib.Core.Bool.{Bool, true, false, ◌&&◌, and-false}
use borrow.Author.Rules.{rules}
use borrow.Author.Tests.{ne_eqb, le-leb, lt-leb, leb-true}
use native.Mathlib.Omega.{arith}
use lib.Dec.{eqb, leb}
use lib.ListN.{length, take, drop, length-drop}
use lib.Seq.{length-take-le}
use Rattle.slices.proofs.Runs.{and_both}
use Rattle.utf8.specs.WellFormed.{ill_formed, well_formed}
use Rattle.answers.specs.Text.{text, wrong}
use Rattle.messages.specs.Message.{is_shown, excerpt, excerpt_of}
use Rattle.messages.specs.declared.Wide.{Wide}

module _ (doc : List ℕ) (t : Wide) where
  pub shown_other : (t.source ≡ 1 → ⊥) → false ≡ is_shown doc t
  unfolding is_shown
  shown_other h = rw (ne_eqb t.source 1 h)

  past_end : length doc < t.start + t.len → false ≡ is_shown doc t
  unfolding is_shown
  past_end h = sym (rw (lt-leb (t.start + t.len) (length doc) h, and-false (eqb t.source 1)))

  pub shown_start : length doc < t.start → false ≡ is_shown doc t
  shown_start h = past_end (omega arith)

  pub shown_len : t.start ≤ length doc → length doc - t.start < t.len → false ≡ is_shown doc t
  shown_len h l = past_end (omega arith)

  excerpt_long : t.start + t.len ≤ length doc → length (excerpt doc t) ≡ t.len
  excerpt_long h = length-take-le t.len (drop t.start doc) (rw length-drop (omega arith))

  pub shown_formed : t.start ≤ length doc → t.len ≤ length doc - t.start → (t.source ≡ 1) → {k : ℕ} → k ≡ ill_formed (take (t.start + t.len - t.start) (drop t.start doc)) → eqb k (t.start + t.len - t.start) ≡ is_shown doc t
  unfolding is_shown
  shown_formed h l e q =
      let n : t.start + t.len - t.start ≡ t.len = omega arith in
      rw (e, le-leb (t.start + t.len) (length doc) (omega arith), q, n, excerpt_long (omega arith))

  -- what is shown is inside
  pub excerpt_end : is_shown doc t ≡ true → t.start + t.len ≤ length doc
  unfolding is_shown
  excerpt_end e = leb-true _ _ (and_both (eqb t.source 1) (leb (t.start + t.len) (length doc)) (and_both (eqb t.source 1 && leb (t.start + t.len) (length doc)) (well_formed (excerpt doc t)) e).0).1

  pub excerpt_fits : is_shown doc t ≡ true → length doc < 2 ^ 64 → t.start + t.len < 2 ^ 64
  excerpt_fits e h = omega (arith, excerpt_end e)

  -- what a callee said of it
  pub callee_shows : {b : Bool} → b ≡ is_shown doc t → b ≡ true → is_shown doc t ≡ true
  callee_shows q e = sym q ∙ e

  -- a part of a document is as small as that
  pub excerpt_small : {b : Bool} → b ≡ is_shown doc t → b ≡ true → length doc ≤ 1048576 → length (take (t.start + t.len - t.start) (drop t.start doc)) ≤ 1048576
  excerpt_small q e l =
      let h : t.start + t.len ≤ length doc = excerpt_end (sym q ∙ e) in
      let n : t.start + t.len - t.start ≡ t.len = omega arith in
      rw (n, excerpt_long h) (omega arith)

  pub excerpt_some : {b : Bool} → b ≡ is_shown doc t → b ≡ true → excerpt_of doc t ≡ text (take (t.start + t.len - t.start) (drop t.start doc))
  unfolding excerpt_of
  excerpt_some q e =
      let h : is_shown doc t ≡ true = sym q ∙ e in
      let n : t.start + t.len - t.start ≡ t.len = omega arith in
      rw (h, n)

  pub excerpt_none : {b : Bool} → b ≡ is_shown doc t → b ≡ false → excerpt_of doc t ≡ wrong 19 0
  unfolding excerpt_of
  excerpt_none q e = rw (sym q ∙ e)

-- what answers every need of `is_shown` and `excerpt`
pub ruleset excerpts = (shown_other, shown_start, shown_len, shown_formed, excerpt_end, excerpt_fits, callee_shows, excerpt_small, excerpt_some, excerpt_none, rules)
