-- A docstring that is kept lies in the document, trimmed, and is UTF-8; no annotation has one.
use Prim.Native.Nat.{ℕ, zero, suc, ◌+◌, ◌-◌, ◌≤◌}
use mathlib.Core.Path.{◌≡◌, ap, sym, ◌∙◌}
use mathlib.Core.List.{List, [], ◌∷◌, ◌++◌}
use mathlib.Core.Option.{Option, none, some}
use mathlib.Core.Bool.{false}
use native.Mathlib.Omega.{arith}
use lib.Dec.{eqb}
use lib.ListN.{length, take, drop, get_or, length-append, length-drop, take-append-drop}
use lib.Seq.{drop-drop, drop-append-le, take-append-le}
use Rattle.utf8.specs.WellFormed.{ill_formed}
use Rattle.utf8.specs.WhiteSpace.{trim_start, trim_end}
use Rattle.utf8.specs.Trim.{Boundary}
use Rattle.utf8.proofs.Sequences.{below}
use Rattle.utf8.proofs.Cuts.{cut_ascii, cut_after_ascii, part_formed}
use Rattle.utf8.proofs.Between.{trim_order, trim_formed}
use Rattle.document.specs.Kinds as kinds
use Rattle.document.specs.Tags.{Shown}
use Rattle.document.specs.Rows.{Doc, Row, documented}
use Rattle.accepted.proofs.Tokens.{After, Before, Held}

pub record GoodDoc (doc : List ℕ) (d : Doc) : Type 0 where
  pub inside : d.start + d.len ≤ length doc
  pub formed : ill_formed (take d.len (drop d.start doc)) ≡ length (take d.len (drop d.start doc))

-- of a row of kind k
abbrev pub DocIn : List ℕ → ℕ → Option Doc → Type 0
DocIn doc k none = Unit {0}
DocIn doc k (some d) = (eqb k kinds.annotation ≡ false) × GoodDoc doc d

abbrev pub DocsIn : List ℕ → List (Row Shown) → Type 0
DocsIn doc [] = Unit {0}
DocsIn doc (r ∷ rs) = DocIn doc r.kind r.doc × DocsIn doc rs

-- ---- a row more, the first rows, a docstring

module _ (doc : List ℕ) where
  pub docs_more : (rs : List (Row Shown)) (r : Row Shown) → r.doc ≡ none → DocsIn doc rs → DocsIn doc (rs ++ r ∷ [])
  docs_more [] r e h = (rw e tt, tt)
  docs_more (q ∷ rs) r e h = (h.0, docs_more rs r e h.1)

  pub docs_first : (n : ℕ) (rs : List (Row Shown)) → DocsIn doc rs → DocsIn doc (take n rs)
  docs_first zero [] h = tt
  docs_first zero (r ∷ rs) h = tt
  docs_first (suc n) [] h = tt
  docs_first (suc n) (r ∷ rs) h = (h.0, docs_first n rs h.1)

  pub docs_documented : (z : Row Shown) (i : ℕ) (d : Doc) (rs : List (Row Shown)) → eqb (get_or rs i z).kind kinds.annotation ≡ false → GoodDoc doc d → DocsIn doc rs → DocsIn doc (documented i d rs)
  docs_documented z i d [] e g h = tt
  docs_documented z zero d (r ∷ rs) e g h = ((e, g), h.1)
  docs_documented z (suc i) d (r ∷ rs) e g h = (h.0, docs_documented z i d rs e g h.1)

-- a part of a beginning is a part of the whole
part_first : (x : List ℕ) (m a k : ℕ) → a + k ≤ length (take m x) → take k (drop a (take m x)) ≡ take k (drop a x)
part_first x m a k h =
    sym
    (ap (λ (l : List ℕ). take k (drop a l)) (sym (take-append-drop m x))
    ∙ ap (λ (l : List ℕ). take k l) (drop-append-le a (take m x) (drop m x) (omega arith))
    ∙ take-append-le k (drop a (take m x)) (drop m x) (rw length-drop (omega arith)))

-- ---- what stands between two places of a document where it may be cut

module _ (doc : List ℕ) (h : ill_formed doc ≡ length doc) where
  pub after_cut : (at : ℕ) → After doc at → Boundary doc at
  after_cut at a =
      let n : at - 1 + 1 ≡ at = omega (arith, a.some) in
      rw n at (cut_after_ascii doc (at - 1) h (omega (arith, a.some, a.inside)) a.byte)

  pub before_cut : (at : ℕ) → Before doc at → Boundary doc at
  before_cut at b = cut_ascii doc h at b.inside b.byte

  -- the raw value of an attribute, too
  pub raw_formed : (s : Shown) → Held doc s → ill_formed s.attr.raw ≡ length s.attr.raw
  raw_formed s g =
      rw g.stands.raw at (part_formed doc s.attr.valued (length s.attr.raw) (after_cut s.attr.valued g.stands.opened) (before_cut (s.attr.valued + length s.attr.raw) g.stands.closed))

  module _ (s lt : ℕ) (a : After doc s) (b : Before doc lt) where
    abbrev content : List ℕ
    content = take (lt - s) (drop s doc)

    content_formed : ill_formed content ≡ length content
    content_formed =
        part_formed doc s (lt - s) (after_cut s a)
        (below s lt
        (λ i. let n : s + (lt - s) ≡ lt = omega arith in rw n (before_cut lt b))
        (λ i. let n : s + (lt - s) ≡ s = omega arith in rw n (after_cut s a)))

    pub content_good : GoodDoc doc (record { start = s + trim_start content; len = trim_end content - trim_start content })
    content_good =
        let o = trim_order content content_formed in
        let k : length content ≤ length doc - s = omega (arith, ap length (take-append-drop (lt - s) (drop s doc)), length-append content (drop (lt - s) (drop s doc)), length-drop s doc) in
        let e : take (trim_end content - trim_start content) (drop (trim_start content) content) ≡ take (trim_end content - trim_start content) (drop (s + trim_start content) doc) =
        part_first (drop s doc) (lt - s) (trim_start content) (trim_end content - trim_start content) (omega (arith, o)) ∙ rw (drop-drop (trim_start content) s doc) in
        record { inside = omega (arith, o, a.inside); formed = rw e at (trim_formed content content_formed) }
