-- A file's outcome added to the counts of a sheet.
use Rattle.std.specs.Prelude.{Ok, Err}
use Rattle.std.proofs.Common.{◌≡◌, ℕ, ◌+◌, ◌*◌, ◌%◌, ◌^◌, ◌<◌, ◌≤◌, List, [], ◌∷◌, length, get_or, replicate, refl, arith, rules}
use lib.ListN.{get_or-replicate}
use Rattle.document.specs.declared.Refusal.{Refusal}
use Rattle.document.specs.Verdict.{Verdict}
use Rattle.document.specs.declared.Counts as read
use Rattle.sheets.specs.declared.Counts.{Counts}
use Rattle.sheets.specs.Sheet.{Outcome, unreadable, refused, accepted, occurs, Sheet, blank, added}
use Rattle.sheets.specs.Answer.{firsts, outcome_of}
use Rattle.sheets.specs.Counts.{Counted, Bounded, Stands, Adds}
use Rattle.sheets.proofs.Counting.{occurs_few, length_firsts}

-- a file has few enough rows and warnings
abbrev Small : Outcome → Type 0
Small unreadable = Unit {0}
Small (refused n) = Unit {0}
Small (accepted ks ws) = (length ks ≤ 16384) × (length ws ≤ 16384)

-- one more file leaves the bounds
module _ {n : ℕ} {s : Sheet} (b : Bounded n s) where
  bounded_added : (o : Outcome) → Small o → Bounded (n + 1) (added o s)
  bounded_added unreadable q = record {
    accepted = omega (arith, b.accepted);
    refused = omega (arith, b.refused);
    unreadable = omega (arith, b.unreadable);
    numbers = λ k. omega (arith, b.numbers k);
    kinds = λ k. omega (arith, b.kinds k);
    reasons = λ k. omega (arith, b.reasons k);
  }
  bounded_added (refused m) q = record {
    accepted = omega (arith, b.accepted);
    refused = omega (arith, b.refused);
    unreadable = omega (arith, b.unreadable);
    numbers = λ k. omega (arith, b.numbers k, occurs_few k (m ∷ []));
    kinds = λ k. omega (arith, b.kinds k);
    reasons = λ k. omega (arith, b.reasons k);
  }
  bounded_added (accepted ks ws) q = record {
    accepted = omega (arith, b.accepted);
    refused = omega (arith, b.refused);
    unreadable = omega (arith, b.unreadable);
    numbers = λ k. omega (arith, b.numbers k);
    kinds = λ k. omega (arith, b.kinds k, occurs_few k ks, q.0);
    reasons = λ k. omega (arith, b.reasons k, occurs_few k ws, q.1);
  }

-- one file counted
module _ {n x y z : ℕ} (h : n < 512) (m : x ≤ n) (e : y ≡ x) where
  one_more : z ≡ (y + 1) % 2 ^ 32 → z ≡ x + 1
  one_more f = omega arith

-- so many counted in a table, whose counts are at most so many
table_more : {xs before after : List ℕ} {k x most : ℕ} → Counted xs before after → most + length xs < 2 ^ 32 → x ≤ most → k < 32 → get_or before k 0 ≡ x → get_or after k 0 ≡ x + occurs k xs
table_more {xs} {k = k} a m b l e = omega (arith, e, a.here k l (omega (arith, e, b, m, occurs_few k xs)))

-- no file
pub blank_stands : Stands 0 blank (record {
  accepted = 0;
  refused = 0;
  unreadable = 0;
  numbers = replicate 32 0;
  kinds = replicate 32 0;
  reasons = replicate 32 0;
})
blank_stands = record {
  bounded = record {
    accepted = omega arith;
    refused = omega arith;
    unreadable = omega arith;
    numbers = λ k. omega arith;
    kinds = λ k. omega arith;
    reasons = λ k. omega arith;
  };
  accepted = refl;
  refused = refl;
  unreadable = refl;
  numbers = λ k h. get_or-replicate 32 k 0 0 (omega arith);
  kinds = λ k h. get_or-replicate 32 k 0 0 (omega arith);
  reasons = λ k h. get_or-replicate 32 k 0 0 (omega arith);
}

module _ {c : Counts} {x : ℕ} where
  pub adds_unreadable : x ≡ (c.unreadable + 1) % 2 ^ 32 → Adds unreadable c (record c { unreadable = x })
  adds_unreadable e = record {
    stands = λ n s h t. record {
      bounded = bounded_added t.bounded unreadable tt;
      accepted = t.accepted;
      refused = t.refused;
      unreadable = one_more h t.bounded.unreadable t.unreadable e;
      numbers = t.numbers;
      kinds = t.kinds;
      reasons = t.reasons;
    };
  }

  pub adds_refused : {m : ℕ} {numbers : List ℕ} → x ≡ (c.refused + 1) % 2 ^ 32 → Counted (m ∷ []) c.numbers numbers → Adds (refused m) c (record c { refused = x; numbers = numbers })
  adds_refused {m} e a = record {
    stands = λ n s h t. record {
      bounded = bounded_added t.bounded (refused m) tt;
      accepted = t.accepted;
      refused = one_more h t.bounded.refused t.refused e;
      unreadable = t.unreadable;
      numbers = λ k l. table_more {most = n} a (omega arith) (t.bounded.numbers k) l (t.numbers k l);
      kinds = t.kinds;
      reasons = t.reasons;
    };
  }

  adds_some : {ks ws kinds reasons : List ℕ} → Small (accepted ks ws) → x ≡ (c.accepted + 1) % 2 ^ 32 → Counted ks c.kinds kinds → Counted ws c.reasons reasons → Adds (accepted ks ws) c (record c { accepted = x; kinds = kinds; reasons = reasons })
  adds_some {ks} {ws} q e a b = record {
    stands = λ n s h t. record {
      bounded = bounded_added t.bounded (accepted ks ws) q;
      accepted = one_more h t.bounded.accepted t.accepted e;
      refused = t.refused;
      unreadable = t.unreadable;
      numbers = t.numbers;
      kinds = λ k l. table_more {most = n * 16384} a (omega (arith, q.0)) (t.bounded.kinds k) l (t.kinds k l);
      reasons = λ k l. table_more {most = n * 16384} b (omega (arith, q.1)) (t.bounded.reasons k) l (t.reasons k l);
    };
  }

  pub adds_accepted : (rows warnings : List ℕ) (r w : ℕ) {kinds reasons : List ℕ} → length rows ≤ 16384 → length warnings ≤ 16384 → x ≡ (c.accepted + 1) % 2 ^ 32 → Counted (firsts 16 r rows) c.kinds kinds → Counted (firsts 4 w warnings) c.reasons reasons → Adds (accepted (firsts 16 r rows) (firsts 4 w warnings)) c (record c { accepted = x; kinds = kinds; reasons = reasons })
  adds_accepted rows warnings r w h k =
      adds_some (omega (arith, length_firsts 16 r rows), omega (arith, length_firsts 4 w warnings))

-- the outcome of the reader's answer
module _ {v : Verdict} (rows warnings : List ℕ) {c c' : Counts} where
  pub adds_refusal : {x : Refusal} → v ≡ Err x → Adds (refused x.number) c c' → Adds (outcome_of v rows warnings) c c'
  adds_refusal e a = rw e a

  pub adds_tables : {n : read.Counts} → v ≡ Ok n → Adds (accepted (firsts 16 n.rows rows) (firsts 4 n.warnings warnings)) c c' → Adds (outcome_of v rows warnings) c c'
  adds_tables e a = rw e a

pub ruleset adds = (adds_unreadable, adds_refused, adds_accepted, adds_refusal, adds_tables, rules)
