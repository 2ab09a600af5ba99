-- Files and names added, a list of them, and what is printed.
use Rattle.std.proofs.Common.{◌≡◌, ℕ, suc, ◌+◌, ◌<◌, ◌≤◌, Bool, true, false, ltb, List, [], ◌∷◌, ◌++◌, length, take, sym, refl, ap, ◌∙◌, subst, append_assoc, append-nil, arith, length-append, length-take-le, take_all, take_at, rules, le-ltb, lt-ltb}
use Rattle.document.specs.Whole.{Room, verdict_of, rows_left, room_of}
use Rattle.document.specs.Verdict.{Verdict}
use Rattle.files.specs.Files.{read_file, Reads}
use Rattle.files.specs.declared.Reading.{Reading}
use Rattle.sheets.specs.declared.Counts.{Counts}
use Rattle.sheets.specs.Sheet.{Outcome, unreadable, refused, Sheet, blank, added, summed, sheet_of}
use Rattle.sheets.specs.Answer.{outcome_of}
use Rattle.sheets.specs.Names.{names_of, looked, more, openable}
use Rattle.sheets.specs.Lines.{lines_of, more_line}
use Rattle.sheets.specs.Counts.{Stands, Adds}
use Rattle.sheets.specs.Printed.{Prints}
use Rattle.sheets.specs.Files.{program_room, program_decoded, document_outcome, file_outcome, name_outcome, Came, AddsFile, AddsName, Sums, PrintsList}

-- ---- a document

outcome_is : {raw rows warnings text decoded : List ℕ} {r : Reading} → Reads raw program_room program_decoded rows warnings text decoded r → outcome_of r.verdict rows warnings ≡ document_outcome raw
unfolding document_outcome
outcome_is {raw} {rows} {warnings} s =
    ap (λ (x : Verdict). outcome_of x rows warnings) s.verdict
    ∙ ap (λ (l : List ℕ). outcome_of (verdict_of (read_file raw program_room program_decoded)) l warnings) s.of_rows
    ∙ ap (λ (l : List ℕ). outcome_of (verdict_of (read_file raw program_room program_decoded)) (rows_left program_room (read_file raw program_room program_decoded)) l) s.of_warnings

abbrev roomed : ℕ → ℕ → ℕ → Room
roomed a b c = record { rows = a; warnings = b; text = c }

pub room_is : (rows warnings text : List ℕ) → 16384 ≡ length rows → 16384 ≡ length warnings → 65536 ≡ length text → room_of rows warnings text ≡ program_room
room_is rows warnings text a b c =
    ap (λ (n : ℕ). roomed n (length warnings) (length text)) (sym a)
    ∙ ap (λ (n : ℕ). roomed 16384 n (length text)) (sym b)
    ∙ ap (λ (n : ℕ). roomed 16384 16384 n) (sym c)

pub document_adds : {raw rows warnings text decoded : List ℕ} {c c' : Counts} {room : Room} {k : ℕ} {r : Reading} → Reads raw room k rows warnings text decoded r → room ≡ program_room → 65536 ≡ k → Adds (outcome_of r.verdict rows warnings) c c' → Adds (document_outcome raw) c c'
document_adds {raw} {rows} {warnings} {text} {decoded} {c} {c'} {room} {k} {r} s e f t =
    let q : Reads raw program_room k rows warnings text decoded r = subst (λ (x : Room). Reads raw x k rows warnings text decoded r) e s in
    let p : Reads raw program_room program_decoded rows warnings text decoded r = subst (λ (n : ℕ). Reads raw program_room n rows warnings text decoded r) (sym f) q in
    subst (λ (o : Outcome). Adds o c c') (outcome_is p) t

-- ---- a file

module _ {failed : Bool} (bs : List ℕ) {c c' : Counts} where
  pub file_failed : failed ≡ true → Adds unreadable c c' → Adds (file_outcome failed bs) c c'
  unfolding file_outcome
  file_failed e a = rw e a

module _ {failed : Bool} (end : ℕ) (d : List ℕ) {c c' : Counts} (e : failed ≡ false) (h : end ≤ length d) where
  pub file_long : 65536 < end → Adds (refused 2) c c' → Adds (file_outcome failed (take end d)) c c'
  unfolding file_outcome
  file_long l a = rw (e, length-take-le end d h, lt-ltb 65536 end l) a

  pub file_read : end ≤ 65536 → Adds (document_outcome (take end d)) c c' → Adds (file_outcome failed (take end d)) c c'
  unfolding file_outcome
  file_read l a = rw (e, length-take-le end d h, le-ltb 65536 end l) a

pub file_none : {c c' : Counts} → Adds unreadable c c' → AddsFile c c'
unfolding file_outcome
file_none a = record { failed = true; bytes = []; adds = a }

pub file_some : (failed : Bool) (bs : List ℕ) {c c' : Counts} → Adds (file_outcome failed bs) c c' → AddsFile c c'
file_some failed bs a = record { failed = failed; bytes = bs; adds = a }

-- ---- a name

pub name_shut : (n : List ℕ) {r : Bool} {c c' : Counts} → r ≡ openable n → r ≡ false → Adds unreadable c c' → AddsName n c c'
unfolding name_outcome
name_shut n p e a = record { failed = true; bytes = []; adds = rw (← p, e) a }

pub name_opened : (n : List ℕ) {r : Bool} {c c' : Counts} → r ≡ openable n → r ≡ true → AddsFile c c' → AddsName n c c'
unfolding name_outcome
name_opened n p e a = record { failed = a.failed; bytes = a.bytes; adds = rw (← p, e) a.adds }

pub ruleset filing = (room_is, document_adds, file_failed, file_long, file_read, file_none, file_some, name_shut, name_opened, rules)

-- ---- a list

summed_more : (s : Sheet) (os : List Outcome) (o : Outcome) → summed s (os ++ (o ∷ [])) ≡ added o (summed s os)
summed_more s [] o = refl
summed_more s (p ∷ os) o = summed_more (added p s) os o

came_more : (ns : List (List ℕ)) (os : List Outcome) (n : List ℕ) (o : Outcome) → Came ns os → ((failed : Bool) × (bs : List ℕ) × (o ≡ name_outcome n failed bs)) → Came (ns ++ (n ∷ [])) (os ++ (o ∷ []))
came_more [] [] n o k e = (e, tt)
came_more [] (p ∷ os) n o k e = absurd k
came_more (m ∷ ns) [] n o k e = absurd k
came_more (m ∷ ns) (p ∷ os) n o k e = (k.0, came_more ns os n o k.1 e)

came_many : (ns : List (List ℕ)) (os : List Outcome) → Came ns os → length os ≡ length ns
came_many [] [] k = refl
came_many [] (o ∷ os) k = absurd k
came_many (n ∷ ns) [] k = absurd k
came_many (n ∷ ns) (o ∷ os) k = ap suc (came_many ns os k.1)

-- so many names were added, and those of the rest are left
pub record Going (s : List ℕ) (before c : Counts) (after : List ℕ) (names : ℕ) : Type 0 where
  pub few : names ≤ 512
  pub front : List (List ℕ)
  pub many : length front ≡ names
  pub rest : names_of s ≡ front ++ names_of after
  pub stands : Stands 0 blank before → (os : List Outcome) × Came front os × Stands names (sheet_of os) c

module _ {s left : List ℕ} {before c : Counts} {names : ℕ} (g : Going s before c left names) where
  -- the names that were added, the next and the rest
  going_rest : {m : List ℕ} (after : List ℕ) → names_of left ≡ m ∷ names_of after → names_of s ≡ g.front ++ (m ∷ names_of after)
  going_rest after e = g.rest ∙ ap (λ (l : List (List ℕ)). g.front ++ l) e

  pub going_more : {m : List ℕ} (after : List ℕ) {c' : Counts} → names_of left ≡ m ∷ names_of after → (names ≡ 512 → ⊥) → AddsName m c c' → Going s before c' after (names + 1)
  going_more {m} after {c'} e h w =
      let o : Outcome = name_outcome m w.failed w.bytes in
      record {
        few = omega (arith, g.few);
        front = g.front ++ (m ∷ []);
        many = length-append g.front (m ∷ []) ∙ omega (arith, g.many);
        rest = going_rest after e ∙ sym (append_assoc g.front (m ∷ []) (names_of after));
        stands = λ t.
            let u = g.stands t in
            let v = w.adds.stands names (sheet_of u.0) (omega (arith, g.few)) u.2 in (
              u.0 ++ (o ∷ []),
              came_more g.front u.0 m o u.1 (w.failed, w.bytes, refl),
              subst (λ (x : Sheet). Stands (names + 1) x c') (sym (summed_more blank u.0 o)) v,
            );
      }

  -- what is said where the names that were added are those looked at
  ended : {t : Bool} → looked s ≡ g.front → t ≡ more s → Sums s before c t
  ended q e = record {
    told = e;
    stands = λ t.
        let u = g.stands t in
        let k = came_many g.front u.0 u.1 ∙ g.many in (
          u.0,
          subst (λ (x : List (List ℕ)). Came x u.0) (sym q) u.1,
          subst (λ (x : ℕ). Stands x (sheet_of u.0) c) (sym k) u.2,
        );
  }

  pub going_ends : names_of left ≡ [] → Sums s before c false
  going_ends e =
      let p : names_of s ≡ g.front = g.rest ∙ ap (λ (l : List (List ℕ)). g.front ++ l) e ∙ append-nil g.front in
      ended (ap (take 512) p ∙ take_all 512 g.front (omega (arith, g.many, g.few)))
      (sym (ap (λ (l : List (List ℕ)). ltb 512 (length l)) p ∙ le-ltb 512 (length g.front) (omega (arith, g.many, g.few))))

  pub going_full : {m : List ℕ} (after : List ℕ) → names_of left ≡ m ∷ names_of after → names ≡ 512 → Sums s before c true
  going_full {m} after e h =
      let p = going_rest after e in
      let q : List (List ℕ) = m ∷ names_of after in
      let l : 512 < length (g.front ++ q) = omega (arith, length-append g.front q, g.many, h) in
      ended (ap (take 512) p ∙ take_at g.front q 512 (omega (arith, g.many, h)))
      (sym (ap (λ (x : List (List ℕ)). ltb 512 (length x)) p ∙ lt-ltb 512 (length (g.front ++ q)) l))

-- ---- what is printed

pub list_printed : {s out : List ℕ} {before c : Counts} {t : Bool} {r : ℕ} → length s ≤ 262144 → Sums s before c t → Stands 0 blank before → Prints c t out r → PrintsList s out r
list_printed {s} h a b p =
    let u = a.stands b in
    record {
      outcomes = u.0;
      came = λ k. u.1;
      are = rw (le-ltb 262144 (length s) h) (p.are (length u.0) (sheet_of u.0) u.2 ∙ ap (λ (b : Bool). lines_of (sheet_of u.0) ++ more_line b) a.told);
    }
