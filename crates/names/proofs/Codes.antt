-- Classes of bytes: the bytes of an element, and the codes of the basic types.
use Prim.Native.Nat.{ℕ}
use mathlib.Core.Path.{◌≡◌, refl, ap, sym, ◌∙◌}
use mathlib.Core.Bool.{Bool, true, false, not, and-true, and-false, false≢true}
use mathlib.Core.List.{List, [], ◌∷◌}
use borrow.Author.Tests.{not-true, not-false}
use Rattle.slices.proofs.Runs.{by_byte}
use Rattle.names.specs.Types.{Basic, code}
use Rattle.names.specs.Signature.{basic_code, basic_signature}
use Rattle.names.specs.Grammar.{BasicGrammar}

-- the answer of a callee, negated in a test
pub flag_on : {r t : Bool} → r ≡ t → not r ≡ false → t ≡ true
flag_on {r} e q = sym e ∙ not-false r q

pub flag_off : {r t : Bool} → r ≡ t → not r ≡ true → t ≡ false
flag_off {r} e q = sym e ∙ not-true r q

pub code_basic : (k : Basic) → basic_code (code k) ≡ true
code_basic Basic.byte = refl
code_basic Basic.boolean = refl
code_basic Basic.int16 = refl
code_basic Basic.uint16 = refl
code_basic Basic.int32 = refl
code_basic Basic.uint32 = refl
code_basic Basic.int64 = refl
code_basic Basic.uint64 = refl
code_basic Basic.double = refl
code_basic Basic.unix-fd = refl
code_basic Basic.string = refl
code_basic Basic.object-path = refl
code_basic Basic.signature = refl

-- the type of a code
abbrev Coded : ℕ → Type 0
Coded b = basic_code b ≡ true → (k : Basic) × (b ≡ code k)

pub basic_coded : (b : ℕ) → Coded b
basic_coded b =
    by_byte Coded b 121 (λ e. (Basic.byte, refl)) (λ n₁.
    by_byte Coded b 98 (λ e. (Basic.boolean, refl)) (λ n₂.
    by_byte Coded b 110 (λ e. (Basic.int16, refl)) (λ n₃.
    by_byte Coded b 113 (λ e. (Basic.uint16, refl)) (λ n₄.
    by_byte Coded b 105 (λ e. (Basic.int32, refl)) (λ n₅.
    by_byte Coded b 117 (λ e. (Basic.uint32, refl)) (λ n₆.
    by_byte Coded b 120 (λ e. (Basic.int64, refl)) (λ n₇.
    by_byte Coded b 116 (λ e. (Basic.uint64, refl)) (λ n₈.
    by_byte Coded b 100 (λ e. (Basic.double, refl)) (λ n₉.
    by_byte Coded b 104 (λ e. (Basic.unix-fd, refl)) (λ n₁₀.
    by_byte Coded b 115 (λ e. (Basic.string, refl)) (λ n₁₁.
    by_byte Coded b 111 (λ e. (Basic.object-path, refl)) (λ n₁₂.
    by_byte Coded b 103 (λ e. (Basic.signature, refl)) (λ n₁₃ e.
    let z : false ≡ true = rw (n₁, n₂, n₃, n₄, n₅, n₆, n₇, n₈, n₉, n₁₀, n₁₁, n₁₂, n₁₃) at e in
    absurd (false≢true z))))))))))))))

-- a signature of one basic type is its code, and back
basic_written : (s : List ℕ) → basic_signature s ≡ true → (k : Basic) × (s ≡ code k ∷ [])
basic_written [] e = absurd (false≢true e)
basic_written (b ∷ []) e = let k = basic_coded b (sym (and-true (basic_code b)) ∙ e) in (k.0, ap (λ (x : ℕ). x ∷ []) k.1)
basic_written (b ∷ c ∷ l) e = absurd (false≢true (sym (and-false (basic_code b)) ∙ e))

written_basic : (s : List ℕ) (k : Basic) → s ≡ code k ∷ [] → basic_signature s ≡ true
written_basic s k e = rw (e, code_basic k)

pub basic_grammar : BasicGrammar
basic_grammar s = (basic_written s, written_basic s)
