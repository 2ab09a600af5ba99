-- A declaration: quotes are passed over whole, brackets are counted.
use Prim.Native.Nat.{ℕ, suc, pred, ◌+◌, ◌-◌, ◌≤◌, ◌<◌}
use mathlib.Core.Path.{◌≡◌, refl, sym, ◌∙◌}
use mathlib.Core.List.{List}
use mathlib.Core.Bool.{Bool, true, false, and-true, and-false}
use borrow.Author.Rules.{rules}
use borrow.Author.Tests.{eq-eqb, ne_eqb, not-true, not-false}
use native.Mathlib.Numerals.{add-one, sub-one}
use native.Mathlib.Omega.{arith}
use lib.Dec.{eqb}
use lib.ListN.{length, drop, get_or, drop_of_length-le}
use lib.Seq.{drop-cons}
use Rattle.std.proofs.Common.{Ok, Err}
use Rattle.faults.specs.Fault.{fault}
use Rattle.faults.specs.declared.Fault.{Fault}
use Rattle.slices.specs.Bytes.{if, other}
use Rattle.slices.specs.Run.{Run}
use Rattle.slices.proofs.Runs.{by_byte, run_past, run_stop}
use Rattle.scan.specs.Ignorable.{Scans, bare, quoted, quote, ends, declaration_in}

-- the tests of the two functions on bytes
pub nest_open : (b d : ℕ) → b ≡ 91 → d + 1 ≡ if (eqb b 91) (suc d) (if (eqb b 93) (pred d) d)
nest_open b d e = rw (eq-eqb b 91 e, add-one)

pub nest_close : (b d : ℕ) → (b ≡ 91 → ⊥) → b ≡ 93 → d - 1 ≡ if (eqb b 91) (suc d) (if (eqb b 93) (pred d) d)
nest_close b d f e = rw (ne_eqb b 91 f, eq-eqb b 93 e) (sub-one d)

pub nest_none : (b d : ℕ) → (b ≡ 91 → ⊥) → b ≡ 93 → d ≤ 0 → 0 ≡ if (eqb b 91) (suc d) (if (eqb b 93) (pred d) d)
nest_none b d f e h = let z : d ≡ 0 = omega arith in rw (ne_eqb b 91 f, eq-eqb b 93 e, z)

pub nest_same : (b d : ℕ) → (b ≡ 91 → ⊥) → (b ≡ 93 → ⊥) → d ≡ if (eqb b 91) (suc d) (if (eqb b 93) (pred d) d)
nest_same b d f g = rw (ne_eqb b 91 f, ne_eqb b 93 g)

pub quote_double : (b : ℕ) → b ≡ 34 → true ≡ quote b
quote_double b e = rw e

pub quote_single : (b : ℕ) → (b ≡ 34 → ⊥) → eqb b 39 ≡ quote b
quote_single b f = rw (ne_eqb b 34 f)

-- a quote is no `>`, and what is no `>`, or stands in brackets, does not end a declaration
quote_62 : (b : ℕ) → quote b ≡ true → eqb b 62 ≡ false
quote_62 b h = by_byte (λ x. quote x ≡ true → eqb x 62 ≡ false) b 62 (λ e. cc) (λ e g. e) h

no_end : (d b : ℕ) → eqb b 62 ≡ false → ends (bare d) b ≡ false
no_end d b e = rw e (and-false (eqb d 0))

pub end_here : (d b : ℕ) → b ≡ 62 → eqb d 0 ≡ ends (bare d) b
end_here d b e = rw e (sym (and-true (eqb d 0)))

pub end_other : (d b : ℕ) → (b ≡ 62 → ⊥) → false ≡ ends (bare d) b
end_other d b f = sym (no_end d b (ne_eqb b 62 f))

-- a declaration that began at from and stands at at with so many brackets open: what is left of it is what was asked
pub record Declaring (s : List ℕ) (from at depth : ℕ) : Type 0 where
  pub left : declaration_in (bare 0) (drop from s) from ≡ declaration_in (bare depth) (drop at s) at
  pub since : from ≤ at
  pub inside : at ≤ length s
  pub nested : depth ≤ at

pub declare_begins : {s : List ℕ} {from : ℕ} → from ≤ length s → Declaring s from from 0
declare_begins h = record { left = refl; since = omega arith; inside = h; nested = omega arith }

module _ {s : List ℕ} {from at depth : ℕ} (g : Declaring s from at depth) where
  pub declare_ended : {f : Fault} → length s ≤ at → f ≡ fault 25 at → Scans (declaration_in (bare 0)) s from (Err f)
  declare_ended h e = record { is = rw e (sym (g.left ∙ rw (drop_of_length-le s h))); onward = tt }

  module _ (h : at < length s) where
    -- a quote: up to the same one
    module _ {t : Bool} (e : t ≡ quote (get_or s at 0)) (f : t ≡ true) {close : ℕ} (n : Run (other (get_or s at 0)) s (at + 1) close) where
      to_close : declaration_in (bare 0) (drop from s) from ≡ declaration_in (quoted depth (get_or s at 0) (at + 1)) (drop close s) close
      to_close =
          let q : quote (get_or s at 0) ≡ true = sym e ∙ f in
          g.left
          ∙ rw (drop-cons s at 0 h, no_end depth (get_or s at 0) (quote_62 (get_or s at 0) q), q, add-one)
          (rw add-one at
          (run_past (declaration_in (quoted depth (get_or s at 0) (at + 1))) (other (get_or s at 0))
          (λ b l p o. rw (not-true (eqb b (get_or s at 0)) o)) s (at + 1) n))

      pub declare_unclosed : {x : Fault} → length s ≤ close → x ≡ fault 25 (at + 1) → Scans (declaration_in (bare 0)) s from (Err x)
      declare_unclosed c i = record { is = rw i (sym (to_close ∙ rw (drop_of_length-le s c))); onward = tt }

      pub declare_quote : close < length s → Declaring s from (close + 1) depth
      declare_quote c =
          let o : eqb (get_or s close 0) (get_or s at 0) ≡ true = not-false (eqb (get_or s close 0) (get_or s at 0)) (run_stop n c) in
          record {
            left = to_close ∙ rw (drop-cons s close 0 c, o, add-one);
            since = omega (arith, n.onward);
            inside = omega arith;
            nested = omega (arith, n.onward);
          }

    module _ {t : Bool} (e : t ≡ quote (get_or s at 0)) (f : t ≡ false) where
      pub declare_ends : {u : Bool} → u ≡ ends (bare depth) (get_or s at 0) → u ≡ true → Scans (declaration_in (bare 0)) s from (Ok (at + 1))
      declare_ends v o = record { is = sym (g.left ∙ rw (drop-cons s at 0 h, sym v ∙ o, add-one)); onward = (omega arith, omega arith) }

      pub declare_more : {u : Bool} {r : ℕ} → u ≡ ends (bare depth) (get_or s at 0) → u ≡ false → r ≡ if (eqb (get_or s at 0) 91) (suc depth) (if (eqb (get_or s at 0) 93) (pred depth) depth) → Declaring s from (at + 1) r
      declare_more {r = r} v o n = record {
        left = g.left ∙ rw (drop-cons s at 0 h, sym v ∙ o, sym e ∙ f, add-one) (bare_if (eqb (get_or s at 0) 91) (eqb (get_or s at 0) 93) n);
        since = omega arith;
        inside = omega arith;
        nested = below (eqb (get_or s at 0) 91) (eqb (get_or s at 0) 93) n;
      }
        where
          below : (x y : Bool) → r ≡ if x (suc depth) (if y (pred depth) depth) → r ≤ at + 1
          below true y k = omega (arith, g.nested)
          below false true k = let p : pred depth ≤ depth = rw (← sub-one depth) (omega arith) in omega (arith, g.nested)
          below false false k = omega (arith, g.nested)

          bare_if : (x y : Bool) → r ≡ if x (suc depth) (if y (pred depth) depth) → declaration_in (if x (bare (suc depth)) (if y (bare (pred depth)) (bare depth))) (drop (suc at) s) (suc at) ≡ declaration_in (bare r) (drop (suc at) s) (suc at)
          bare_if true y k = rw k
          bare_if false true k = rw k
          bare_if false false k = rw k

pub ruleset declares = (declare_begins, declare_ended, declare_unclosed, declare_quote, declare_ends, declare_more, end_here, end_other, nest_open, nest_close, nest_none, nest_same, quote_double, quote_single, rules)
