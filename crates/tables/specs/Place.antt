-- A triple that is inside its buffer, and where the bytes that a triple shows lie.
use Rattle.std.specs.Prelude.{ℕ, ◌+◌, ◌≡◌, List, true, eqb}
use Rattle.slices.specs.Bytes.{if}
use Rattle.tables.specs.Triple.{inside}
use Rattle.tables.specs.declared.Triple.{Triple}

pub record Inside (document text : List ℕ) (t : Triple) : Type 0 where
  pub holds : inside document text t ≡ true

-- a place is a block and an offset: given those of the document and of the text
abbrev pub place : ℕ × ℕ → ℕ × ℕ → Triple → ℕ × ℕ
place document text t = let b = if (eqb t.source 1) document text in (b.0, b.1 + t.start)
