-- The root's name, and all rules together.
use Prim.Native.Nat.{ℕ, suc, ◌+◌, ◌-◌, ◌≤◌, ◌<◌, ◌^◌}
use mathlib.Core.Path.{◌≡◌, refl, ap, sym, ◌∙◌}
use mathlib.Core.List.{List, [], ◌∷◌, ◌++◌}
use mathlib.Core.Bool.{Bool, true, false}
use borrow.Author.Rules.{rules}
use native.Mathlib.Omega.{arith}
use lib.ListN.{length, take, drop}
use Rattle.std.specs.Prelude.{Result, Ok, Err, Option, Some, None}
use Rattle.slices.specs.Bytes.{if, bytes, same}
use Rattle.document.specs.Tokens.{Token, start, close, fault, end}
use Rattle.document.specs.Refusals.{bare}
use Rattle.document.specs.Reading.{begun, step}
use Rattle.document.specs.Outcome.{whole, Tokenises}
use Rattle.document.specs.declared.ClosingTag.{ClosingTag}
use Rattle.document.specs.declared.Refusal.{Refusal}
use Rattle.document.specs.declared.StartTag.{StartTag}
use Rattle.document.specs.declared.Token as token
use Rattle.document.proofs.Runs.{run_more, run_last, run_refused}
use Rattle.profile.specs.Places.{found}
use Rattle.profile.specs.Profile.{char_fault}
use Rattle.profile.specs.After.{after_fault}
use Rattle.met.specs.Met.{start_tags, comments_to, met_tokens, met_tags, root_end}
use Rattle.met.proofs.Reaching.{reached-more}
use Rattle.breaches.specs.Least.{lesser, least}
use Rattle.breaches.specs.Breaches.{tag_values, in_comments, tag_names, in_text, root_name, after_root, breaches}
use Rattle.breaches.specs.Outcome.{Accepted, breach_from, Walks}
use Rattle.breaches.specs.declared.Walk.{Walk}
use Rattle.breaches.proofs.Order.{lesser_assoc, least_append}
use Rattle.breaches.proofs.Faults.{found_least}
use Rattle.breaches.proofs.Walking.{turned}

-- ---- the root's name

module _ {doc : List ℕ} (a : Accepted doc) {r : Result token.Token Refusal} (k : Tokenises doc 0 r) where
  pub root_fault : {x : Refusal} → r ≡ Err x → None ≡ least (root_name (met_tags doc))
  unfolding step
  root_fault {x} e =
      let d : Tokenises doc 0 (Err x) = rw e at k in
      let f = d.is in
      absurd (turned (sym (run_last whole doc 0 begun (fault f.0 f.1) f.2) ∙ a.reads))

  pub root_ended : {p : ℕ} → r ≡ Ok (token.Token.End p) → None ≡ least (root_name (met_tags doc))
  unfolding step
  root_ended {p} e =
      let d : Tokenises doc 0 (Ok (token.Token.End p)) = rw e at k in
      absurd (turned (sym (run_last whole doc 0 begun (end p) d.is) ∙ a.reads))

  pub root_close : {c : ClosingTag} → r ≡ Ok (token.Token.Close c) → None ≡ least (root_name (met_tags doc))
  unfolding step
  root_close {c} e =
      let d : Tokenises doc 0 (Ok (token.Token.Close c)) = rw e at k in
      let o = d.onward in
      absurd (turned (sym (run_refused whole doc c.end (bare 4 (suc c.lt))) ∙ sym (run_more whole doc 0 begun (close c.lt (take c.len (drop c.at doc)) c.end) c.end d.is (omega (arith, o)) o.3) ∙ a.reads))

  module _ {c : StartTag} (e : r ≡ Ok (token.Token.Start c)) where
    is_start : Tokenises doc 0 (Ok (token.Token.Start c))
    is_start = rw e at k

    pub root_named : c.at + c.len ≤ length doc
    root_named = let f = is_start.onward.1 in omega (arith, f.inside, f.within)

    pub root_fits : c.at + c.len < 2 ^ 64
    root_fits = omega (arith, root_named, a.sound.small)

    rooted : root_name (met_tags doc) ≡ if (same (take c.len (drop c.at doc)) (bytes "node")) [] (c.at ∷ [])
    unfolding met_tokens
    rooted =
        let d = is_start.is in
        let f = is_start.onward in
        let t = d.0 in
        let m = reached-more doc 0 (start t) c.end d.2 (omega (arith, f.0, f.1.inside)) f.1.within begun refl in
        ap (λ (ts : List Token). root_name (start_tags ts)) m ∙ rw (d.1.named.is, ← d.1.at)

    module _ {b : Bool} (h : b ≡ same (take (c.at + c.len - c.at) (drop c.at doc)) (bytes "node")) where
      is_node : same (take c.len (drop c.at doc)) (bytes "node") ≡ b
      is_node = let n : c.at + c.len - c.at ≡ c.len = omega arith in sym (rw n at h)

      pub root_node : b ≡ true → None ≡ least (root_name (met_tags doc))
      unfolding least
      root_node f = sym (ap least rooted ∙ rw (is_node ∙ f))

      pub root_other : b ≡ false → Some c.at ≡ least (root_name (met_tags doc))
      unfolding least lesser
      root_other f = sym (ap least rooted ∙ rw (is_node ∙ f))

pub ruleset roots = (root_fault, root_ended, root_close, root_named, root_fits, root_node, root_other, rules)

-- ---- all rules

parts : (a b c d e f : List ℕ) → lesser (lesser (lesser (least a) (lesser (least b) (least c))) (least d)) (lesser (least e) (least f)) ≡ least (a ++ b ++ c ++ d ++ e ++ f)
parts a b c d e f = simp (least_append, lesser_assoc)

pub all_rules : {doc : List ℕ} {w : Walk} {t u v x y z : Option ℕ} → Walks doc w → t ≡ found (length doc) (char_fault doc) → u ≡ found (length doc) (after_fault (drop w.at doc) w.at) → v ≡ least (root_name (met_tags doc)) → x ≡ lesser w.breach t → y ≡ lesser v u → z ≡ lesser x y → z ≡ least (breaches doc)
unfolding breaches breach_from
all_rules {doc} {w} k a b c d e f =
    let ts = met_tokens doc in
    f ∙ rw (d, e, c, a, found_least (length doc) (char_fault doc), b, found_least (length doc) (after_fault (drop w.at doc) w.at), k.breach, k.end) (parts (tag_values (start_tags ts)) (in_comments doc (comments_to doc 0 ts)) (tag_names (start_tags ts)) (in_text doc) (root_name (start_tags ts)) (after_root doc (root_end doc)))

pub walk_inside : {doc : List ℕ} {w : Walk} → Walks doc w → w.at ≤ length doc
walk_inside k = k.inside

pub ruleset wholes = (all_rules, walk_inside, rules)
