-- What the entries answer, and the words that they leave, on each of their ways.
use Rattle.std.proofs.Common.{◌≡◌, ℕ, ◌*◌, ◌<◌, ◌≤◌, List, length, Result, Ok, Err, refl, ◌∙◌, arith, rules, le-ltb, lt-ltb}
use Rattle.tables.specs.Table.{Rep, Wiped}
use Rattle.tables.proofs.Tables.{clear_all, clear_rest}
use Rattle.faults.specs.Fault.{fault}
use Rattle.faults.specs.declared.Fault.{Fault}
use Rattle.columns.specs.Put.{Roomy}
use Rattle.columns.specs.Words.{columns_of, rows_of}
use Rattle.columns.specs.Entries.{made, refused, checked, to_columns, to_rows, Says, Makes, Finishes, Checks}

-- ---- 30, then 18

module _ {R held room : ℕ} where
  pub check-many : 262144 < R → Checks R held room (Err (fault 30 262144))
  check-many h = record { is = λ ws. rw (lt-ltb 262144 R h) }

  module _ {n : ℕ} (e : n ≡ R) (h : R ≤ 262144) where
    pub check_held : held < R * 16 → Checks R held room (Err (fault 18 n))
    check_held l = record { is = λ ws. rw (le-ltb 262144 R h, lt-ltb held (R * 16) l, e) }

    module _ (k : R * 16 ≤ held) where
      pub check-room : room < R * 16 → Checks R held room (Err (fault 18 n))
      check-room l = record { is = λ ws. rw (le-ltb 262144 R h, le-ltb held (R * 16) k, lt-ltb room (R * 16) l, e) }

      pub check-good : R * 16 ≤ room → Checks R held room (Ok n)
      check-good l = record { is = (e, h, k, l, λ ws. rw (le-ltb 262144 R h, le-ltb held (R * 16) k, le-ltb room (R * 16) l)) }

-- ---- the words left

pub refuses : {t t' : List ℕ} {x : Fault} → Wiped 0 t t' → Says (refused x.number x.place) (length t) t' (Err x)
refuses {t} z = record { answer = refl; left = z.is ∙ clear_all t }

pub finishes : {n : ℕ} {t t' : List ℕ} → Wiped (n * 16) t t' → Finishes n t t' (Ok tt)
finishes z = record {
  says = λ ws q l. record { answer = refl; left = z.is ∙ clear_rest {w = 16} (omega arith) q l ∙ rw q.many };
}

pub ruleset steps = (check-many, check_held, check-room, check-good, refuses, finishes, rules)

-- ---- the entries

module _ (xs : List ℕ) {R room : ℕ} {a : Result ℕ Fault} (c : Checks R (length xs) room a) where
  module _ {n : ℕ} (e : a ≡ Ok n) where
    fine : Checks R (length xs) room (Ok n)
    fine = rw e at c

    pub entry-few : n ≤ 262144
    entry-few = rw fine.is.0 fine.is.1

    pub entry-roomy : {t : List ℕ} → length t ≡ room → Roomy n xs t
    entry-roomy l = record { few = entry-few; held = rw fine.is.0 fine.is.2; room = rw (l, fine.is.0) fine.is.3 }

    pub entry-made : (f : ℕ → List ℕ) {t t' : List ℕ} {r : Result (Unit {0}) Fault} → Rep 16 t n (f n) → length t ≡ room → Finishes n t t' r → Says (checked R (length xs) room (f R)) room t' r
    entry-made f {t} {t'} {r} q l z =
        let s : Says (made (f n)) (length t) t' r = z.says (f n) q (rw (l, fine.is.0) fine.is.3) in
        rw (fine.is.4 (f R)) (rw (l, fine.is.0) at s)

  pub entry-refused : (ws : List ℕ) {t' : List ℕ} {x : Fault} {r : Result (Unit {0}) Fault} → a ≡ Err x → Says (refused x.number x.place) room t' r → Says (checked R (length xs) room ws) room t' r
  entry-refused ws {t'} {x} e s = let d : Checks R (length xs) room (Err x) = rw e at c in rw (d.is ws) s

pub ruleset entries = (entry-few, entry-roomy, entry-refused, entry-made, rules)

-- ---- the two entries

module _ (R : ℕ) (xs : List ℕ) {lent out : List ℕ} {r : Result (Unit {0}) Fault} where
  pub columned : Says (checked R (length xs) (length lent) (columns_of R xs)) (length lent) out r → Makes (to_columns R xs) lent out r
  unfolding to_columns
  columned s = record { answer = s.answer; left = s.left }

  pub rowed : Says (checked R (length xs) (length lent) (rows_of R xs)) (length lent) out r → Makes (to_rows R xs) lent out r
  unfolding to_rows
  rowed s = record { answer = s.answer; left = s.left }
