-- The values that rows keep stand in the document: every step keeps that.
use Prim.Native.Nat.{ℕ, zero, suc}
use mathlib.Core.Path.{◌≡◌}
use mathlib.Core.List.{List, [], ◌∷◌, ◌++◌}
use mathlib.Core.Option.{Option, none, some}
use lib.ListN.{take}
use Rattle.slices.specs.Bytes.{same}
use Rattle.document.specs.Tags.{Shown, lookup, is_tp_type, tp_type}
use Rattle.document.specs.Tokens.{Tag, Token, start, close, fault, end}
use Rattle.document.specs.Rows.{Doc, Row, Tables, documented}
use Rattle.document.specs.Elements.{Opened, opens, refuses, kept, opens_as}
use Rattle.document.specs.Reading.{parent_of}
use Rattle.document.specs.Outcome.{whole}
use Rattle.document.proofs.Tests.{either}
use Rattle.document.proofs.Opens.{From, any_way}
use Rattle.document.proofs.Steps.{Known, Closes, Ways}
use Rattle.accepted.proofs.Tokens.{Held, AllHeld, Starts, Comes}
use Rattle.accepted.proofs.Folding.{run_kept, Accepts}

abbrev pub HeldIn : List ℕ → Option Shown → Type 0
HeldIn doc none = Unit {0}
HeldIn doc (some s) = Held doc s

abbrev pub RowHeld : List ℕ → Row Shown → Type 0
RowHeld doc r = HeldIn doc r.name × HeldIn doc r.value × HeldIn doc r.tp

abbrev pub RowsHeld : List ℕ → List (Row Shown) → Type 0
RowsHeld doc [] = Unit {0}
RowsHeld doc (r ∷ rs) = RowHeld doc r × RowsHeld doc rs

module _ (doc : List ℕ) where
  -- ---- a row more, the first rows, a docstring

  rows_more : (rs : List (Row Shown)) (r : Row Shown) → RowsHeld doc rs → RowHeld doc r → RowsHeld doc (rs ++ r ∷ [])
  rows_more [] r h i = (i, tt)
  rows_more (q ∷ rs) r h i = (h.0, rows_more rs r h.1 i)

  rows_first : (n : ℕ) (rs : List (Row Shown)) → RowsHeld doc rs → RowsHeld doc (take n rs)
  rows_first zero [] h = tt
  rows_first zero (r ∷ rs) h = tt
  rows_first (suc n) [] h = tt
  rows_first (suc n) (r ∷ rs) h = (h.0, rows_first n rs h.1)

  rows_documented : (i : ℕ) (d : Doc) (rs : List (Row Shown)) → RowsHeld doc rs → RowsHeld doc (documented i d rs)
  rows_documented i d [] h = tt
  rows_documented zero d (r ∷ rs) h = h
  rows_documented (suc i) d (r ∷ rs) h = (h.0, rows_documented i d rs h.1)

  -- ---- the attributes of a tag

  pub lookup_held : (key : List ℕ) (xs : List Shown) → AllHeld doc xs → HeldIn doc (lookup key xs)
  lookup_held key [] h = tt
  lookup_held key (s ∷ xs) h = either (HeldIn doc) (same s.attr.name key) (λ c. h.0) (λ c. lookup_held key xs h.1)

  tp_held : (xs : List Shown) → AllHeld doc xs → HeldIn doc (tp_type xs)
  tp_held [] h = tt
  tp_held (s ∷ xs) h = either (HeldIn doc) (is_tp_type s.attr.name) (λ c. h.0) (λ c. tp_held xs h.1)

  kept_held : (o : Option Shown) → HeldIn doc o → HeldIn doc (kept whole o)
  kept_held none h = tt
  kept_held (some s) h = h

  abbrev Opens : Opened Shown → Type 0
  Opens (opens r) = RowHeld doc r
  Opens (refuses x) = Unit {0}

  from_held : (a o : Option Shown) → From a o → HeldIn doc a → HeldIn doc (kept whole o)
  from_held a o f h = kept_held o (rw f.1 (either (HeldIn doc) f.0 (λ c. h) (λ c. tt)))

  start_opens : (t : Tag) → Starts doc t → (k p : ℕ) → Opens (opens_as whole k p t)
  start_opens t g k p =
      any_way whole whole p t (λ o o'. Opens o) (λ x r. tt)
      (λ k w n v tp c. (
        from_held _ n c.name (lookup_held c.first t.attrs g.attrs),
        from_held _ v c.value (lookup_held c.second t.attrs g.attrs),
        from_held _ tp c.tp (tp_held t.attrs g.attrs),
      ))
      k

  -- ---- states

  abbrev held : Known Shown
  held = record { first = Unit {0}; inside = λ fs u. RowsHeld doc u.rows; done = λ u. RowsHeld doc u.rows; fault = λ x. Unit {0} }

  closes : Closes whole doc held held
  closes = record { element = λ k n r fs u h. h; whole = λ d fs u e h. h; broken = λ d fs u e h. rows_first d.row u.rows h; root = λ u h. h }

  row_held : (t : Tag) → Starts doc t → (k p : ℕ) (r : Row Shown) (rs : List (Row Shown)) → opens_as whole k p t ≡ opens r → RowsHeld doc rs → RowsHeld doc (rs ++ r ∷ [])
  row_held t g k p r rs e h = rows_more rs r h (rw e at (start_opens t g k p))

  ways : (t : Token) → Comes doc t → Ways whole doc held held held t
  ways (start t) g = record {
    closes = closes;
    moves = λ f fs u c h. h;
    row = λ k r fs u c b n e d h. row_held t g k (parent_of fs) r u.rows e h;
    own_row = λ k r fs u c b n e h. row_held t g k (parent_of fs) r u.rows e h;
    refusal = λ k p x e. tt;
    deep = tt;
    warning = λ f fs u c h. h;
    skips = λ f fs u c r h. h;
    docstring = λ f fs u c d h. h;
    within = λ p ns fs u c d h. h;
  }
  ways (close lt n q) g = record {
    closes = closes;
    passed = λ p ns fs u l h. h;
    docstring = λ s r ns fs u l e h. rows_documented r _ u.rows h;
    within = λ p n ns fs u l e h. h;
    another = λ f fs u h. tt;
    none = tt;
  }
  ways (fault n p) g = tt
  ways (end p) g = (tt, λ f fs u h. tt)

  pub accepts_held : {u : Tables Shown} → Accepts doc u → RowsHeld doc u.rows
  accepts_held a = rw a.reads at (run_kept doc held ways (λ h. tt) tt)
