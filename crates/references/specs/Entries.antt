-- What the entries `escape` and `unescape` come to, for the room lent.
use Rattle.std.specs.Prelude.{ℕ, List, ltb, length}
use Rattle.slices.specs.Bytes.{if}
use Rattle.utf8.specs.WellFormed.{ill_formed}
use Rattle.answers.specs.Text.{Text, text, wrong, roomy}
use Rattle.references.specs.Escape.{escape}
use Rattle.references.specs.Unescape.{unescape}

-- 2, then 1, for a value
abbrev pub checked : List ℕ → Text → Text
checked v r =
    let u = if (ltb (ill_formed v) (length v)) (wrong 1 (ill_formed v)) r in
    if (ltb 1048576 (length v)) (wrong 2 1048576) u

-- escaping: 2, 1, 21 at the bytes needed
unfoldable pub escaping : List ℕ → ℕ → Text
escaping v room = checked v (roomy room (text (escape v)))

-- unescaping: 2, 1, 9 to 11, 18 at the value's length
abbrev pub fitting : ℕ → ℕ → Text → Text
fitting end room (text t) = if (ltb room (length t)) (wrong 18 end) (text t)
fitting end room (wrong n p) = wrong n p

unfoldable pub unescaping : List ℕ → ℕ → Text
unescaping v room = checked v (fitting (length v) room (unescape v))
