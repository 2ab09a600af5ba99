-- An element that its parent does not hold: its warning, and the ways on from there.
use Prim.Native.Nat.{ℕ, ◌≤◌}
use mathlib.Core.Path.{◌≡◌, refl, sym, ◌∙◌, ap}
use mathlib.Core.List.{List, [], ◌∷◌}
use mathlib.Core.Bool.{true, false}
use borrow.Author.Rules.{rules}
use native.Mathlib.Omega.{arith}
use lib.ListN.{length, take}
use lib.Seq.{take_all}
use Rattle.std.specs.Prelude.{Result, Ok, Err}
use Rattle.document.specs.Tags.{Shown}
use Rattle.document.specs.Tokens.{Tag}
use Rattle.document.specs.Rows.{Tables}
use Rattle.document.specs.Reading.{Name, Frame, reading, closed, passing, ignored, with_warning, unsupported}
use Rattle.document.specs.Outcome.{lent, name_at, Stands, Bounded, Ready, TagIs, Passes, Ignores, runs, whole, moved}
use Rattle.document.specs.declared.Refusal.{Refusal}
use Rattle.document.specs.declared.StartTag.{StartTag}
use Rattle.document.specs.declared.Fill.{Fill}
use Rattle.document.specs.declared.Closing.{Closing}
use Rattle.document.proofs.Loops.{moved_stands, name_inside}
use Rattle.document.proofs.Openings.{tag_named}
use Rattle.rows.specs.Outcome.{WarningPut, WarningFits}

-- the counts after a start tag are small enough for its warning
pub warning_fits : {doc : List ℕ} {c : StartTag} {f : Fill} → Ready doc c f → WarningFits c.at c.len f
warning_fits r = record {
  after = omega (arith, r.few);
  place = omega (arith, r.sound.small, r.fits.inside, r.fits.within);
  short = omega (arith, r.sound.small, r.fits.inside, r.fits.within);
  few = omega (arith, r.few, r.sound.small, r.fits.inside, r.fits.within);
}

pub skip_within : {doc : List ℕ} {c : StartTag} {f : Fill} → Ready doc c f → c.end ≤ length doc
skip_within r = r.fits.within

pub skip_small : {doc : List ℕ} {c : StartTag} {f : Fill} → Ready doc c f → length doc ≤ 1048576
skip_small r = r.sound.small

module _ {doc : List ℕ} {c : StartTag} {f g : Fill} {w w' : List ℕ} (r : Ready doc c f) (p : WarningPut 1 c.at c.len f w w' g) where
  bounded : (h : Fill) → h.rows ≡ g.rows → h.warnings ≡ g.warnings → h.text ≡ g.text → c.end ≤ h.at → h.at ≤ length doc → Bounded doc h
  bounded h a b d l m = record {
    sound = r.sound;
    inside = m;
    few = omega (arith, r.few, r.fits.named, r.fits.inside, p.counts, p.rows);
    text = omega (arith, r.text, r.fits.inside, p.text);
  }

  -- the warning stands in the tables
  module _ (t : Tag) (u : Tables Shown) (rows bytes : List ℕ) (z : TagIs doc c t) (s : Stands u (lent rows w bytes) f) where
    warns : Stands (with_warning 1 t.at t.name u) (lent rows w' bytes) g
    warns = p.stands u rows bytes t.name t.at z.at z.named.len s

    kept : take f.rows u.rows ≡ u.rows
    kept = take_all f.rows u.rows (omega (arith, s.many))

  at-end : g.at ≡ c.end
  at-end = p.at ∙ r.at

  self : (t : Tag) (fs : List Frame) (u : Tables Shown) → TagIs doc c t → c.closes ≡ true → runs doc c.end (unsupported whole doc t fs u) ≡ runs doc g.at (closed fs (with_warning 1 t.at t.name u))
  unfolding unsupported
  self t fs u z x = rw (at-end, sym z.closes ∙ x)

  pub skipped_self : c.closes ≡ true → Ignores doc c f w w' (Ok g)
  skipped_self x = record {
    onward = (omega (arith, p.at), omega (arith, p.rows), bounded g refl refl refl (omega (arith, at-end)) (omega (arith, at-end, r.fits.within)));
    ends = λ t fs u rows bytes z s. (with_warning 1 t.at t.name u, warns t u rows bytes z s, self t fs u z x, kept t u rows bytes z s);
  }

  module _ (x : c.closes ≡ false) {d : Result Closing Refusal} (l : Passes doc c.end c.at c.len 1 d) where
    opens : (t : Tag) (fs : List Frame) (u : Tables Shown) → TagIs doc c t → runs doc c.end (unsupported whole doc t fs u) ≡ runs doc c.end (reading (passing ignored (name_at doc c.at c.len ∷ []) ∷ fs) (with_warning 1 t.at t.name u))
    unfolding unsupported
    opens t fs u z = rw (sym z.closes ∙ x) (ap (λ (n : Name). runs doc c.end (reading (passing ignored (n ∷ []) ∷ fs) (with_warning 1 t.at t.name u))) (tag_named z))

    pub skipped_fault : {y : Refusal} → d ≡ Err y → Ignores doc c f w w' (Err y)
    skipped_fault e = record {
      onward = tt;
      ends = λ t fs u rows bytes z s. opens t fs u z ∙ (rw e at l).leads ignored [] fs (with_warning 1 t.at t.name u) refl;
    }

    pub skipped_closed : {q : Closing} {m : Fill} → d ≡ Ok q → m ≡ moved g q.end → Ignores doc c f w w' (Ok m)
    skipped_closed {q} e h =
        let y : Passes doc c.end c.at c.len 1 (Ok q) = rw e at l in
        rw h
        record {
          onward = (
            omega (arith, r.at, y.onward),
            omega (arith, p.rows),
            bounded (moved g q.end) refl refl refl (omega (arith, y.onward)) y.onward.2,
          );
          ends = λ t fs u rows bytes z s. (
            with_warning 1 t.at t.name u,
            moved_stands q.end (warns t u rows bytes z s),
            opens t fs u z ∙ y.leads ignored [] fs (with_warning 1 t.at t.name u) refl,
            kept t u rows bytes z s,
          );
        }

pub ruleset skips = (warning_fits, skip_within, name_inside, skip_small, skipped_self, skipped_fault, skipped_closed, rules)
