-- Passing over the rest of an element: what each way of a turn makes of it.
use Prim.Native.Nat.{ℕ, suc, ◌+◌, ◌-◌, ◌≤◌, ◌<◌}
use mathlib.Core.Path.{◌≡◌, refl, sym, ◌∙◌, ap}
use mathlib.Core.List.{List, ◌∷◌}
use mathlib.Core.Bool.{true, false}
use borrow.Author.Rules.{rules}
use borrow.Author.Tests.{le-leb, lt-leb}
use native.Mathlib.Numerals.{add-one}
use native.Mathlib.Omega.{arith}
use lib.Dec.{leb}
use lib.ListN.{length}
use Rattle.std.specs.Prelude.{Result, Ok, Err}
use Rattle.document.specs.Tags.{Shown}
use Rattle.document.specs.Tokens.{Tag}
use Rattle.document.specs.Rows.{Tables}
use Rattle.document.specs.Refusals.{bare}
use Rattle.document.specs.Reading.{Name, Purpose, Frame, reading, refused, passing, started}
use Rattle.document.specs.Outcome.{name_at, Steps, Passes, TagFits, TagIs, runs, whole}
use Rattle.document.specs.declared.Refusal.{Refusal}
use Rattle.document.specs.declared.StartTag.{StartTag}
use Rattle.document.specs.declared.Next.{Next}
use Rattle.document.specs.declared.Closing.{Closing}
use Rattle.document.proofs.Runs.{run_refused}
use Rattle.document.proofs.Openings.{tag_named}

-- the run from a place in an element that is passed over has come to another place in it
pub record Sofar (doc : List ℕ) (from at len depth here : ℕ) : Type 0 where
  pub since : from ≤ here
  pub inside : here ≤ length doc
  pub leads : (p : Purpose) (ns : List Name) (fs : List Frame) (u : Tables Shown) → suc (length ns) ≡ depth → runs doc from (reading (passing p (name_at doc at len ∷ ns) ∷ fs) u) ≡ runs doc here (reading (passing p (name_at doc at len ∷ ns) ∷ fs) u)

pub pass_begins : {doc : List ℕ} {from at len depth : ℕ} → from ≤ length doc → Sofar doc from at len depth from
pass_begins h = record { since = omega arith; inside = h; leads = λ p ns fs u e. refl }

module _ {doc : List ℕ} {from at len depth here : ℕ} (g : Sofar doc from at len depth here) {r : Result Next Refusal} (s : Steps doc here at len r) where
  pub pass_fault : {x : Refusal} → r ≡ Err x → Passes doc from at len depth (Err x)
  pass_fault q = record {
    onward = tt;
    leads = λ p ns fs u e. g.leads p ns fs u e ∙ (rw q at s).leads (passing p (name_at doc at len ∷ ns)) fs u refl;
  }

  pub pass_close : {y : Closing} → r ≡ Ok (Next.Close y) → Passes doc from at len depth (Ok y)
  pass_close {y} q =
      let d : Steps doc here at len (Ok (Next.Close y)) = rw q at s in
      record {
        onward = (omega (arith, d.onward, g.since), d.onward.1, d.onward.2, d.onward.3);
        leads = λ p ns fs u e. g.leads p ns fs u e ∙ d.leads (passing p (name_at doc at len ∷ ns)) fs u refl;
      }

  module _ {c : StartTag} (q : r ≡ Ok (Next.Start c)) where
    -- what the start tag comes to
    child : (p : Purpose) (ns : List Name) (fs : List Frame) (u : Tables Shown) → suc (length ns) ≡ depth → (t : Tag) × TagIs doc c t × (runs doc from (reading (passing p (name_at doc at len ∷ ns) ∷ fs) u) ≡ runs doc c.end (started whole doc (passing p (name_at doc at len ∷ ns)) fs u t))
    child p ns fs u e =
        let d : Steps doc here at len (Ok (Next.Start c)) = rw q at s in
        let i = d.leads (passing p (name_at doc at len ∷ ns)) fs u refl in
        (i.0, i.1, g.leads p ns fs u e ∙ i.2)

    pass_fits : (here < c.at) × TagFits doc c
    pass_fits = let d : Steps doc here at len (Ok (Next.Start c)) = rw q at s in d.onward

    pub pass_self : c.closes ≡ true → Sofar doc from at len depth c.end
    pass_self k = record {
      since = omega (arith, g.since, pass_fits.0, pass_fits.1.inside);
      inside = pass_fits.1.within;
      leads = λ p ns fs u e. let i = child p ns fs u e in i.2 ∙ rw (sym i.1.closes ∙ k);
    }

    pub pass_deep : {x : Refusal} → c.closes ≡ false → depth ≡ 1024 → x ≡ bare 7 c.end → Passes doc from at len depth (Err x)
    pass_deep k h b = rw b record {
      onward = tt;
      leads = λ p ns fs u e.
          let i = child p ns fs u e in
          let l : leb 1024 (suc (length ns)) ≡ true = le-leb 1024 (suc (length ns)) (omega arith) in
          i.2 ∙ rw (sym i.1.closes ∙ k, l) (run_refused whole doc c.end (bare 7 i.0.after)) ∙ ap (λ q. refused (bare 7 q)) (sym i.1.end);
    }

    -- what is open in it is passed over too
    module _ (k : c.closes ≡ false) (h : depth ≡ 1024 → ⊥) (b : depth ≤ 1024) {r' : Result Closing Refusal} (d : Passes doc c.end c.at c.len (depth + 1) r') where
      inner : (p : Purpose) (ns : List Name) (fs : List Frame) (u : Tables Shown) → suc (length ns) ≡ depth → runs doc from (reading (passing p (name_at doc at len ∷ ns) ∷ fs) u) ≡ runs doc c.end (reading (passing p (name_at doc c.at c.len ∷ name_at doc at len ∷ ns) ∷ fs) u)
      inner p ns fs u e =
          let i = child p ns fs u e in
          let l : leb 1024 (suc (length ns)) ≡ false = lt-leb 1024 (suc (length ns)) (omega arith) in
          i.2 ∙ rw (sym i.1.closes ∙ k, l, tag_named i.1)

      pub pass_inner_fault : {x : Refusal} → r' ≡ Err x → Passes doc from at len depth (Err x)
      pass_inner_fault w = record {
        onward = tt;
        leads = λ p ns fs u e. inner p ns fs u e ∙ (rw w at d).leads p (name_at doc at len ∷ ns) fs u (rw add-one (ap suc e));
      }

      pub pass_inner : {y : Closing} → r' ≡ Ok y → Sofar doc from at len depth y.end
      pass_inner {y} w =
          let z : Passes doc c.end c.at c.len (depth + 1) (Ok y) = rw w at d in
          record {
            since = omega (arith, g.since, pass_fits.0, pass_fits.1.inside, z.onward);
            inside = z.onward.2;
            leads = λ p ns fs u e. inner p ns fs u e ∙ z.leads p (name_at doc at len ∷ ns) fs u (rw add-one (ap suc e));
          }

      pub pass_less : {y : Closing} → r' ≡ Ok y → length doc - y.end < length doc - here
      pass_less {y} w =
          let z : Passes doc c.end c.at c.len (depth + 1) (Ok y) = rw w at d in
          omega (arith, pass_fits.0, pass_fits.1.inside, z.onward)

    pub pass_self_less : length doc - c.end < length doc - here
    pass_self_less = omega (arith, pass_fits.0, pass_fits.1.inside, pass_fits.1.within)

    pub pass_within : c.end ≤ length doc
    pass_within = pass_fits.1.within

    pub pass_named : c.at + c.len ≤ length doc
    pass_named = omega (arith, pass_fits.1.inside, pass_fits.1.within)

    -- the bytes left fall at the call
    pub pass_falls : {n : ℕ} → length doc - from ≡ n → length doc - c.end < n
    pass_falls e = omega (arith, g.since, pass_fits.0, pass_fits.1.inside, pass_fits.1.within)

pub pass_depth : (depth : ℕ) → depth ≤ 1024 → (depth ≡ 1024 → ⊥) → depth + 1 ≤ 1024
pass_depth depth h n = omega arith

pub ruleset passes = (pass_depth, pass_within, pass_named, pass_falls, pass_begins, pass_fault, pass_close, pass_self, pass_self_less, pass_inner_fault, pass_inner, pass_less, rules)

pub ruleset deep = (pass_deep, passes)
