-- Triples: source, start, length. Source 1 is the document, 2 the text buffer.
use Rattle.std.specs.Prelude.{ℕ, ◌+◌, List, Bool, ◌&&◌, ◌||◌, eqb, leb, length, take, drop}
use Rattle.slices.specs.Bytes.{if}
use Rattle.tables.specs.declared.Triple.{Triple}

-- the triple's source is 1 or 2 and it does not run past its buffer
abbrev pub inside : List ℕ → List ℕ → Triple → Bool
inside document text t =
    (eqb t.source 1 && leb (t.start + t.len) (length document)) || (eqb t.source 2 && leb (t.start + t.len) (length text))

-- the document's empty beginning
abbrev pub beginning : Triple
beginning = record { source = 1; start = 0; len = 0 }

-- the part that a triple leads to
abbrev pub resolved : List ℕ → List ℕ → Triple → Triple
resolved document text t = if (inside document text t) t beginning

abbrev pub part : List ℕ → List ℕ → Triple → List ℕ
part document text t = let d = take t.len (drop t.start document) in if (eqb t.source 1) d (take t.len (drop t.start text))

-- the bytes that a triple shows
unfoldable pub shown : List ℕ → List ℕ → Triple → List ℕ
shown document text t = part document text (resolved document text t)
