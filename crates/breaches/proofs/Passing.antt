-- Past what is ignorable: the way to the next tag, and the comments on it.
use Prim.Native.Nat.{ℕ, suc, ◌-◌, ◌≤◌, ◌<◌}
use mathlib.Core.Path.{◌≡◌, ap, sym, ◌∙◌}
use mathlib.Core.List.{List, [], ◌∷◌, append-nil}
use mathlib.Core.Bool.{Bool, true, false}
use borrow.Author.Rules.{rules}
use native.Mathlib.Omega.{arith}
use lib.ListN.{length, drop}
use Rattle.std.specs.Prelude.{Result, Ok, Err, Option, None}
use Rattle.faults.specs.declared.Fault.{Fault}
use Rattle.slices.specs.Bytes.{if, bytes, starts, other}
use Rattle.slices.specs.Run.{Run}
use Rattle.scan.specs.Ignorable.{Marks, ignorable}
use Rattle.scan.specs.declared.Markup.{Markup}
use Rattle.scan.specs.declared.Markup.TheVariants.{Tag, Ignored}
use Rattle.scan.proofs.Ignoring.{Ignoring, ignore_begins, ignore_ended, ignore_tag, ignore_fault, ignore_more, ignore_onward, ignore_less}
use Rattle.met.specs.Passed.{here, passed_over}
use Rattle.met.proofs.Passing.{passed_text, passed_end, passed_tag, passed_more}
use Rattle.breaches.specs.Least.{lesser, least}
use Rattle.breaches.specs.Breaches.{in_comment, in_comments}
use Rattle.breaches.specs.Outcome.{ignored_breach, Passes}
use Rattle.breaches.proofs.Order.{lesser_none, none_lesser, lesser_assoc, least_append}

-- what the comments from a place on come to
abbrev left : List ℕ → ℕ → Option ℕ
left doc at = least (in_comments doc (passed_over (drop at doc) at))

-- passing that began at from and stands at at, at a `<` or the end, with what was found
pub record Passing (doc : List ℕ) (from at : ℕ) (b : Option ℕ) : Type 0 where
  pub ignoring : Ignoring doc from at
  pub found : left doc from ≡ lesser b (left doc at)

pub pass_begins : {doc : List ℕ} {from r : ℕ} → Run (other 60) doc from r → Passing doc from r None
unfolding lesser
pass_begins {doc} {from} n = record { ignoring = ignore_begins n; found = ap (λ (x : List ℕ). least (in_comments doc x)) (passed_text doc from n) }

-- a comment comes before what follows it
here_breach : (doc l : List ℕ) (at : ℕ) (cs : List ℕ) → least (in_comments doc (here l at cs)) ≡ lesser (least (in_comments doc (here l at []))) (least (in_comments doc cs))
unfolding least
here_breach doc l at cs = go (starts (bytes "!--") l)
  where
    go : (t : Bool) → least (in_comments doc (if t (at ∷ cs) cs)) ≡ lesser (least (in_comments doc (if t (at ∷ []) []))) (least (in_comments doc cs))
    go true = least_append (in_comment doc at) (in_comments doc cs) ∙ rw (append-nil (in_comment doc at))
    go false = sym (none_lesser (least (in_comments doc cs)))

module _ {doc : List ℕ} {from at : ℕ} {b : Option ℕ} (g : Passing doc from at b) where
  -- at the end, or at a tag
  ends : length doc ≤ at → ignorable (drop from doc) from ≡ Ok at
  ends h = sym (ignore_ended g.ignoring h).is

  none_left : passed_over (drop at doc) at ≡ [] → b ≡ left doc from
  unfolding least
  none_left e = sym (g.found ∙ rw e (lesser_none b))

  same_place : {p q : ℕ} → ignorable (drop from doc) from ≡ Ok q → ignorable (drop from doc) from ≡ Ok p → q ≡ p
  same_place e f = cc

  pub pass_ended : length doc ≤ at → Passes doc from (record { at = at; breach = b })
  pass_ended h = record {
    since = g.ignoring.since;
    inside = g.ignoring.inside;
    tag = g.ignoring.tag;
    is = λ p e. (same_place (ends h) e, none_left (passed_end doc at h));
  }

  module _ (h : at < length doc) {m : Result Markup Fault} (c : Marks doc at m) where
    pub pass_tag : m ≡ Ok Tag → Passes doc from (record { at = at; breach = b })
    pass_tag e = record {
      since = g.ignoring.since;
      inside = g.ignoring.inside;
      tag = g.ignoring.tag;
      is = λ p f. (same_place (sym (ignore_tag g.ignoring h c e).is) f, none_left (passed_tag doc at h (g.ignoring.tag h) c e));
    }

    pub pass_fault : {f : Fault} → m ≡ Err f → Passes doc from (record { at = length doc; breach = b })
    pass_fault {f} e = record {
      since = omega (arith, g.ignoring.since);
      inside = omega arith;
      tag = λ l. absurd (omega arith);
      is = λ q k.
          let z : Err f ≡ Ok q = (ignore_fault g.ignoring h c e).is ∙ k in
          let y : ◌≡◌ {A = ℕ} 0 1 = cc in
          absurd (omega arith);
    }

    module _ {p : ℕ} (e : m ≡ Ok (Ignored p)) where
      pub pass_marks : Marks doc at (Ok (Ignored p))
      pass_marks = rw e at c

      pub pass_more : {i b' : Option ℕ} {r : ℕ} → i ≡ ignored_breach doc at → b' ≡ lesser b i → Run (other 60) doc p r → Passing doc from r b'
      pass_more {i} {b'} {r} k l n = record {
        ignoring = ignore_more g.ignoring h c e n;
        found =
            g.found
            ∙ ap (λ (x : List ℕ). lesser b (least (in_comments doc x))) (passed_more doc at h (g.ignoring.tag h) c e ∙ ap (here (drop (suc at) doc) at) (passed_text doc p n))
            ∙ ap (lesser b) (here_breach doc (drop (suc at) doc) at (passed_over (drop r doc) r))
            ∙ further (left doc r);
      }
        where
          further : (z : Option ℕ) → lesser b (lesser (ignored_breach doc at) z) ≡ lesser b' z
          further z = rw (← k, l) (sym (lesser_assoc b i z))

      pub pass_onward : p ≤ length doc
      pass_onward = ignore_onward g.ignoring h c e

      pub pass_less : {r : ℕ} → Run (other 60) doc p r → length doc - r < length doc - at
      pass_less n = ignore_less g.ignoring h c e n

pub ruleset passing = (pass_begins, pass_ended, pass_tag, pass_fault, pass_marks, pass_more, pass_onward, pass_less, rules)
