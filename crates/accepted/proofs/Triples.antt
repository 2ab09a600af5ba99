-- The triples of a row's words, and what they show.
use Prim.Native.Nat.{ℕ, ◌+◌, ◌≤◌}
use mathlib.Core.Path.{◌≡◌, refl, sym, ap, ◌∙◌}
use mathlib.Core.List.{List, [], ◌∷◌, ◌++◌, append_assoc}
use mathlib.Core.Option.{Option, none, some}
use mathlib.Core.Bool.{Bool, true, false}
use borrow.Author.Tests.{le-leb}
use native.Mathlib.Omega.{arith}
use lib.ListN.{length, take, drop, length-append}
use lib.Seq.{take_at, drop_at}
use Rattle.slices.specs.Bytes.{if, all}
use Rattle.slices.proofs.Runs.{append_regroup}
use Rattle.tables.specs.Triple.{inside, part, shown}
use Rattle.tables.specs.declared.Triple.{Triple}
use Rattle.answers.specs.Text.{text}
use Rattle.references.specs.Unescape.{plain}
use Rattle.document.specs.Tags.{Shown}
use Rattle.document.specs.Rows.{Doc, Row, text_of, triple, doc_triple, row_text, row_words}
use Rattle.references.proofs.Shapes.{unescape_plain}
use Rattle.items.specs.Words.{RowWords, row_of, absent, shown_by, docstring_by, viewed}
use Rattle.items.specs.View.{over, view_row, text_shown}
use Rattle.accepted.proofs.Tokens.{Held}
use Rattle.accepted.proofs.Values.{HeldIn, RowHeld}

-- ---- words

abbrev pub nowhere : Triple
nowhere = record { source = 0; start = 0; len = 0 }

-- n bytes of text stand before it
abbrev pub triple_of : ℕ → Option Shown → Triple
triple_of n none = nowhere
triple_of n (some s) =
    let d : Triple = record { source = 1; start = s.attr.valued; len = length s.attr.raw } in
    let x : Triple = record { source = 2; start = n; len = length s.value } in
    if (all plain s.attr.raw) d x

abbrev pub doc_of : Option Doc → Triple
doc_of none = nowhere
doc_of (some d) = record { source = 1; start = d.start; len = d.len }

abbrev words : Triple → List ℕ
words t = t.source ∷ t.start ∷ t.len ∷ []

triple_words : (n : ℕ) (o : Option Shown) → triple n o ≡ words (triple_of n o)
triple_words n none = refl
triple_words n (some s) = go (all plain s.attr.raw)
  where
    go : (b : Bool) → if b (1 ∷ s.attr.valued ∷ length s.attr.raw ∷ []) (2 ∷ n ∷ length s.value ∷ []) ≡ words (if b (record { source = 1; start = s.attr.valued; len = length s.attr.raw }) (record { source = 2; start = n; len = length s.value }))
    go true = refl
    go false = refl

doc_words : (o : Option Doc) → doc_triple o ≡ words (doc_of o)
doc_words none = refl
doc_words (some d) = refl

-- the words of a row, read back
abbrev pub words_of : ℕ → Row Shown → RowWords
words_of n r = record {
  kind = r.kind;
  parent = r.parent;
  name = triple_of n r.name;
  value = triple_of (n + length (text_of r.name)) r.value;
  tp = triple_of (n + length (text_of r.name) + length (text_of r.value)) r.tp;
  doc = doc_of r.doc;
  word = r.word;
  at = r.at;
}

pub row_of_words : (n : ℕ) (r : Row Shown) (rest : List ℕ) → row_of (row_words n r ++ rest) ≡ words_of n r
unfolding row_words
row_of_words n r rest =
    rw (triple_words n r.name, triple_words (n + length (text_of r.name)) r.value, triple_words (n + length (text_of r.name) + length (text_of r.value)) r.tp, doc_words r.doc)

-- ---- where a text stands

-- in x, after n bytes
pub record Within (x : List ℕ) (n : ℕ) (s : List ℕ) : Type 0 where
  pub before : List ℕ
  pub rest : List ℕ
  pub long : length before ≡ n
  pub is : x ≡ before ++ (s ++ rest)

-- of two texts, the first and the second
pub within_first : {x : List ℕ} {n : ℕ} (a b : List ℕ) → Within x n (a ++ b) → Within x n a
within_first a b w = record { before = w.before; rest = b ++ w.rest; long = w.long; is = w.is ∙ ap (λ (k : List ℕ). w.before ++ k) (append_assoc a b w.rest) }

pub within_more : {x : List ℕ} {n : ℕ} (a b : List ℕ) → Within x n (a ++ b) → Within x (n + length a) b
within_more a b w = record {
  before = w.before ++ a;
  rest = w.rest;
  long = length-append w.before a ∙ ap (λ (m : ℕ). m + length a) w.long;
  is = w.is ∙ append_regroup w.before a b w.rest;
}

-- the texts of a row
module _ {x : List ℕ} {n : ℕ} (r : Row Shown) (w : Within x n (row_text r)) where
  front : Within x n (text_of r.name ++ text_of r.value)
  front = within_first (text_of r.name ++ text_of r.value) (text_of r.tp) w

  pub name_within : Within x n (text_of r.name)
  name_within = within_first (text_of r.name) (text_of r.value) front

  pub value_within : Within x (n + length (text_of r.name)) (text_of r.value)
  value_within = within_more (text_of r.name) (text_of r.value) front

  pub tp_within : Within x (n + length (text_of r.name) + length (text_of r.value)) (text_of r.tp)
  tp_within =
      let e : n + length (text_of r.name ++ text_of r.value) ≡ n + length (text_of r.name) + length (text_of r.value) = omega (arith, length-append (text_of r.name) (text_of r.value)) in
      rw e at (within_more (text_of r.name ++ text_of r.value) (text_of r.tp) w)

-- ---- what a triple leads to

pub record Leads (document x : List ℕ) (t : Triple) (s : List ℕ) : Type 0 where
  pub there : absent t ≡ false
  pub within : inside document x t ≡ true
  pub shows : shown document x t ≡ s

shown_within : (document x : List ℕ) (t : Triple) → inside document x t ≡ true → shown document x t ≡ part document x t
unfolding shown
shown_within document x t e = rw e

module _ (document x : List ℕ) where
  pub leads_document : (at n : ℕ) (s : List ℕ) → at + n ≤ length document → take n (drop at document) ≡ s → Leads document x (record { source = 1; start = at; len = n }) s
  leads_document at n s h e =
      let t : Triple = record { source = 1; start = at; len = n } in
      let w : inside document x t ≡ true = rw (le-leb (at + n) (length document) h) in
      record { there = refl; within = w; shows = shown_within document x t w ∙ e }

  leads_text : (n : ℕ) (s : List ℕ) → Within x n s → Leads document x (record { source = 2; start = n; len = length s }) s
  leads_text n s v =
      let t : Triple = record { source = 2; start = n; len = length s } in
      let l : length x ≡ length v.before + (length s + length v.rest) = ap length v.is ∙ rw (length-append v.before (s ++ v.rest), length-append s v.rest) in
      let w : inside document x t ≡ true = rw (le-leb (n + length s) (length x) (omega (arith, v.long))) in
      let q : drop n x ≡ s ++ v.rest = ap (λ (k : List ℕ). drop n k) v.is ∙ drop_at v.before (s ++ v.rest) n v.long in
      record { there = refl; within = w; shows = shown_within document x t w ∙ rw q (take_at s v.rest (length s) refl) }

  pub leads_value : (n : ℕ) (s : Shown) → Held document s → Within x n (text_of (some s)) → Leads document x (triple_of n (some s)) s.value
  leads_value n s h w = go (all plain s.attr.raw) refl w
    where
      shows_itself : all plain s.attr.raw ≡ true → s.attr.raw ≡ s.value
      shows_itself p =
          let q : text s.attr.raw ≡ text s.value = sym (unescape_plain s.attr.raw p) ∙ h.shows in
          cc

      go : (c : Bool) → all plain s.attr.raw ≡ c → Within x n (if c [] s.value) → Leads document x (if c (record { source = 1; start = s.attr.valued; len = length s.attr.raw }) (record { source = 2; start = n; len = length s.value })) s.value
      go true p w = leads_document s.attr.valued (length s.attr.raw) s.value (omega (arith, h.stands.closed.inside)) (h.stands.raw ∙ shows_itself p)
      go false p w = leads_text n s.value w

  -- ---- what is shown

  shown_value : (n : ℕ) (o : Option Shown) → HeldIn document o → Within x n (text_of o) → shown_by document x (triple_of n o) ≡ over text_shown o
  shown_value n none h w = refl
  shown_value n (some s) h w = let l = leads_value n s h w in rw (l.there, l.shows)

  shown_doc : (o : Option Doc) → docstring_by (doc_of o) ≡ o
  shown_doc none = refl
  shown_doc (some d) = refl

  pub row_shown : {n : ℕ} (r : Row Shown) → RowHeld document r → Within x n (row_text r) → viewed document x (words_of n r) ≡ view_row text_shown r
  row_shown {n} r h w =
      rw (
        shown_value n r.name h.0 (name_within r w),
        shown_value (n + length (text_of r.name)) r.value h.1 (value_within r w),
        shown_value (n + length (text_of r.name) + length (text_of r.value)) r.tp h.2 (tp_within r w),
        shown_doc r.doc,
      )
