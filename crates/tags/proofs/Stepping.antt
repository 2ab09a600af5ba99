-- A step in an open element: how a run goes on after each token.
use Prim.Native.Nat.{ℕ, suc, ◌+◌, ◌-◌, ◌≤◌, ◌<◌, ◌^◌}
use mathlib.Core.Path.{◌≡◌, sym, ◌∙◌}
use mathlib.Core.List.{List, ◌∷◌}
use mathlib.Core.Bool.{Bool, true, false}
use borrow.Author.Rules.{rules}
use mir.Syntax.{w64}
use mir.Val.{Fits}
use native.Mathlib.Omega.{arith}
use lib.ListN.{length, take, drop, length-take, length-drop}
use Rattle.std.specs.Prelude.{Result, Ok, Err}
use Rattle.slices.specs.Bytes.{same}
use Rattle.document.specs.Tokens.{start, close, fault, end}
use Rattle.document.specs.Refusals.{showing, showing_both}
use Rattle.document.specs.Reading as reading
use Rattle.document.specs.Outcome.{whole, Tokenises, Steps}
use Rattle.document.specs.declared.Excerpt.{Excerpt}
use Rattle.document.specs.declared.Refusal.{Refusal}
use Rattle.document.specs.declared.ClosingTag.{ClosingTag}
use Rattle.document.specs.declared.StartTag.{StartTag}
use Rattle.document.specs.declared.Token.{Token}
use Rattle.document.specs.declared.Next.{Next}
use Rattle.document.proofs.Runs.{run_more, run_last, run_refused}

-- ---- a step

-- a part that lies in the document is as long as it is said to be
part_long : (doc : List ℕ) (at len : ℕ) → at + len ≤ length doc → length (take len (drop at doc)) ≡ len
part_long doc at len h = rw (length-take, length-drop) (omega arith)

module _ {doc : List ℕ} {from : ℕ} (at len : ℕ) {r : Result Token Refusal} (t : Tokenises doc from r) where
  pub step_fault : {x : Refusal} → r ≡ Err x → Steps doc from at len (Err x)
  unfolding reading.step
  step_fault {x} e =
      let d : Tokenises doc from (Err x) = rw e at t in
      let y = d.is in
      rw y.3 (record { onward = tt; leads = λ f fs u h. run_last whole doc from (reading.reading (f ∷ fs) u) (fault y.0 y.1) y.2 })

  pub step_end : {p : ℕ} {y : Excerpt} {x : Refusal} → at + len ≤ length doc → r ≡ Ok (Token.End p) → y ≡ record { at = at; len = len } → x ≡ showing 5 p y → Steps doc from at len (Err x)
  unfolding reading.step
  step_end {p} {y} {x} i e k q =
      let d : Tokenises doc from (Ok (Token.End p)) = rw e at t in
      rw (q, k) (record {
        onward = tt;
        leads = λ f fs u h. run_last whole doc from (reading.reading (f ∷ fs) u) (end p) d.is ∙ rw (h, part_long doc at len i);
      })

  pub step_start : {c : StartTag} → r ≡ Ok (Token.Start c) → Steps doc from at len (Ok (Next.Start c))
  unfolding reading.step
  step_start {c} e =
      let d : Tokenises doc from (Ok (Token.Start c)) = rw e at t in
      let g = d.onward.1 in
      record {
        onward = d.onward;
        leads = λ f fs u h. (
          d.is.0,
          d.is.1,
          run_more whole doc from (reading.reading (f ∷ fs) u) (start d.is.0) c.end d.is.2 (omega (arith, d.onward.0, g.inside)) g.within,
        );
      }

  -- a closing tag: where its name ends, and the name compared with that of the element
  module _ {c : ClosingTag} (e : r ≡ Ok (Token.Close c)) where
    pub name_inside : c.at + c.len ≤ length doc
    name_inside = let d : Tokenises doc from (Ok (Token.Close c)) = rw e at t in omega (arith, d.onward.2, d.onward.3)

    pub name_fits : length doc ≤ 1048576 → Fits w64 (c.at + c.len)
    name_fits h = omega (arith, name_inside)

    pub name_small : length doc ≤ 1048576 → c.at + c.len < 2 ^ 32
    name_small h = omega (arith, name_inside)

    module _ {b : Bool} (q : b ≡ same (take (c.at + c.len - c.at) (drop c.at doc)) (take (at + len - at) (drop at doc))) where
      compared : same (take c.len (drop c.at doc)) (take len (drop at doc)) ≡ b
      compared =
          let x : c.at + c.len - c.at ≡ c.len = omega arith in
          let y : at + len - at ≡ len = omega arith in
          sym (rw (x, y) at q)

      pub step_close : b ≡ true → Steps doc from at len (Ok (Next.Close (record { lt = c.lt; end = c.end })))
      unfolding reading.step
      step_close p =
          let d : Tokenises doc from (Ok (Token.Close c)) = rw e at t in
          let o = d.onward in
          record {
            onward = (o.0, omega (arith, o.1, o.2), o.3, o.4);
            leads = λ f fs u h.
                run_more whole doc from (reading.reading (f ∷ fs) u) (close c.lt (take c.len (drop c.at doc)) c.end) c.end d.is (omega (arith, o.0, o.1, o.2)) o.3
                ∙ rw (h, compared, p);
          }

      pub step_other : {y z : Excerpt} → at + len ≤ length doc → b ≡ false → y ≡ record { at = c.at; len = c.len } → z ≡ record { at = at; len = len } → Steps doc from at len (Err (showing_both 6 c.end y z))
      unfolding reading.step
      step_other {y} {z} i p k l =
          let d : Tokenises doc from (Ok (Token.Close c)) = rw e at t in
          let o = d.onward in
          let m : c.at ≡ suc (suc c.lt) = omega (arith, o.1) in
          rw (k, l) (record {
            onward = tt;
            leads = λ f fs u h.
                run_more whole doc from (reading.reading (f ∷ fs) u) (close c.lt (take c.len (drop c.at doc)) c.end) c.end d.is (omega (arith, o.0, o.1, o.2)) o.3
                ∙ rw (h, compared, p, part_long doc at len i, part_long doc c.at c.len name_inside, ← m) (run_refused whole doc c.end (showing_both 6 c.end (record { at = c.at; len = c.len }) (record { at = at; len = len })));
          })

pub ruleset stepping = (step_fault, step_end, step_start, name_inside, name_fits, name_small, step_close, step_other, rules)
