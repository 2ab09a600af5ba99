-- Theorems on signatures: the tests that compute accept what the grammar of types writes, and nothing else.
use Rattle.std.specs.Prelude.{◌≡◌, true, List, [], ◌∷◌, ℕ}
use Rattle.names.specs.Types.{Basic, code, IsSignature}
use Rattle.names.specs.Signature.{signature, basic_signature}

-- the signatures are what types within the limits are written as
abbrev pub SignatureGrammar : Type 0
SignatureGrammar = (s : List ℕ) → (signature s ≡ true → IsSignature s) × (IsSignature s → signature s ≡ true)

-- the basic ones are the codes of the basic types
abbrev pub BasicGrammar : Type 0
BasicGrammar = (s : List ℕ) → (basic_signature s ≡ true → (k : Basic) × (s ≡ code k ∷ [])) × ((k : Basic) → s ≡ code k ∷ [] → basic_signature s ≡ true)
