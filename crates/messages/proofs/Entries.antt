-- What the entries answer, and the bytes that they leave, on each of their ways.
use Prim.Native.Nat.{ℕ, ◌≤◌, ◌<◌}
use mathlib.Core.Path.{◌≡◌, sym}
use mathlib.Core.List.{List}
use mathlib.Core.Bool.{and-false}
use borrow.Author.Rules.{rules}
use borrow.Author.Tests.{lt-ltb, le-ltb, ne_eqb}
use native.Mathlib.Omega.{arith}
use lib.Dec.{ltb}
use lib.ListN.{length}
use Rattle.std.specs.Prelude.{Result}
use Rattle.faults.specs.declared.Fault.{Fault}
use Rattle.answers.specs.Text.{wrong, Says}
use Rattle.answers.proofs.Answers.{makes, told}
use Rattle.messages.specs.Message.{message_of, warned, warning_message_of}
use Rattle.messages.specs.Steps.{Plainly, Turned, Warned}
use Rattle.messages.specs.declared.Wide.{Wide}
use Rattle.messages.specs.declared.Told.{Told}

other_than : {m n : ℕ} → (m < n) → m ≡ n → ⊥
other_than h e = omega arith

module _ {u : List ℕ} {r : Result ℕ Fault} where
  module _ (doc : List ℕ) (x : Told) (room : ℕ) where
    pub message_two : x.number ≡ 2 → Plainly x.number room u r → Says (message_of doc x room) room u r
    unfolding message_of
    message_two e s =
        let p : Plainly 2 room u r = rw e at s in
        let n : (k : ℕ) → 2 < k → 2 ≡ k → ⊥ = λ k h. other_than h in
        rw (e, and-false (ltb 1048576 (length doc))) (p.says (n 5 (omega arith), (n 6 (omega arith), (n 8 (omega arith), (n 10 (omega arith), (n 11 (omega arith), (n 12 (omega arith), (n 15 (omega arith), (n 16 (omega arith), tt)))))))) doc x)

    pub message_long : (x.number ≡ 2 → ⊥) → 1048576 < length doc → Says (wrong 2 1048576) room u r → Says (message_of doc x room) room u r
    unfolding message_of
    message_long h l s = rw (lt-ltb 1048576 (length doc) l, ne_eqb x.number 2 h) s

    pub message_told : length doc ≤ 1048576 → Turned doc x room u r → Says (message_of doc x room) room u r
    unfolding message_of
    message_told l s = rw (le-ltb 1048576 (length doc) l) s.says

  module _ (doc : List ℕ) (reason start len room : ℕ) where
    pub warning_long : 1048576 < length doc → Says (wrong 2 1048576) room u r → Says (warning_message_of doc reason start len room) room u r
    unfolding warning_message_of
    warning_long l s = rw (lt-ltb 1048576 (length doc) l) s

    pub warning_told : {w : Wide} → w ≡ record { source = 1; start = start; len = len } → length doc ≤ 1048576 → Warned doc reason w room u r → Says (warning_message_of doc reason start len room) room u r
    unfolding warning_message_of
    warning_told e l s = rw (le-ltb 1048576 (length doc) l) (s.says (warned reason start len) (sym e))

-- what answers every need of the entries
pub ruleset entries = (makes, told, message_two, message_long, message_told, warning_long, warning_told, rules)
