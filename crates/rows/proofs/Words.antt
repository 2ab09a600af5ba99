-- The words and text of rows: how many they are, of a row more, of the first rows, and of a row with a docstring.
use Prim.Native.Nat.{ℕ, zero, suc, ◌+◌, ◌*◌, ◌≤◌}
use mathlib.Core.Path.{◌≡◌, refl, sym, ap, ◌∙◌}
use mathlib.Core.List.{List, [], ◌∷◌, ◌++◌, append-nil, append_assoc}
use mathlib.Core.Option.{Option, none, some}
use mathlib.Core.Bool.{Bool, true, false}
use native.Mathlib.Nat.{add-zero}
use native.Mathlib.Omega.{arith}
use lib.ListN.{length, take, set, length-append}
use lib.Seq.{sets}
use Rattle.slices.specs.Bytes.{if, all}
use Rattle.references.specs.Unescape.{plain}
use Rattle.tables.specs.Table.{with_docstring}
use Rattle.document.specs.Tags.{Shown}
use Rattle.document.specs.Rows.{Doc, Row, Warning, with_doc, documented, text_of, triple, doc_triple, row_text, row_words, words_from, texts, warned}

-- ---- how many

length_triple : (n : ℕ) (o : Option Shown) → length (triple n o) ≡ 3
length_triple n none = refl
length_triple n (some s) = either (all plain s.attr.raw)
  where
    either : (b : Bool) → length (if b (1 ∷ s.attr.valued ∷ length s.attr.raw ∷ []) (2 ∷ n ∷ length s.value ∷ [])) ≡ 3
    either true = refl
    either false = refl

length_doc_triple : (o : Option Doc) → length (doc_triple o) ≡ 3
length_doc_triple none = refl
length_doc_triple (some d) = refl

pub length_row_words : (n : ℕ) (r : Row Shown) → length (row_words n r) ≡ 16
unfolding row_words
length_row_words n r = simp (length-append, length_triple, length_doc_triple)

pub length_words_from : (n : ℕ) (rs : List (Row Shown)) → length (words_from n rs) ≡ length rs * 16
length_words_from n [] = refl
length_words_from n (r ∷ rs) =
    length-append (row_words n r) (words_from (n + length (row_text r)) rs)
    ∙ rw (length_row_words n r, length_words_from (n + length (row_text r)) rs) (omega arith)

pub length_warned : (ws : List Warning) → length (warned ws) ≡ length ws * 4
length_warned [] = refl
length_warned (w ∷ ws) = rw (length_warned ws) (omega arith)

-- ---- rows after rows

pub texts_append : (rs ss : List (Row Shown)) → texts (rs ++ ss) ≡ texts rs ++ texts ss
texts_append [] ss = refl
texts_append (r ∷ rs) ss = rw (texts_append rs ss) (sym (append_assoc (row_text r) (texts rs) (texts ss)))

pub words_from_append : (n : ℕ) (rs ss : List (Row Shown)) → words_from n (rs ++ ss) ≡ words_from n rs ++ words_from (n + length (texts rs)) ss
words_from_append n [] ss = rw add-zero
words_from_append n (r ∷ rs) ss =
    let e : n + length (row_text r ++ texts rs) ≡ n + length (row_text r) + length (texts rs) = omega (arith, length-append (row_text r) (texts rs)) in
    rw (e, words_from_append (n + length (row_text r)) rs ss) (sym (append_assoc (row_words n r) _ _))

pub warned_append : (ws vs : List Warning) → warned (ws ++ vs) ≡ warned ws ++ warned vs
warned_append [] vs = refl
warned_append (w ∷ ws) vs = rw (warned_append ws vs)

-- a row more
pub texts_more : (rs : List (Row Shown)) (r : Row Shown) → texts (rs ++ r ∷ []) ≡ texts rs ++ row_text r
texts_more rs r = rw (texts_append, append-nil)

pub words_from_more : (n : ℕ) (rs : List (Row Shown)) (r : Row Shown) → words_from n (rs ++ r ∷ []) ≡ words_from n rs ++ row_words (n + length (texts rs)) r
words_from_more n rs r = rw (words_from_append, append-nil)

-- ---- a docstring in row i

set_after : (xs ys : List ℕ) (j k a : ℕ) → length xs + j ≡ k → set (xs ++ ys) k a ≡ xs ++ set ys j a
set_after [] ys j k a e = let q : j ≡ k = omega arith in rw q
set_after (x ∷ xs) ys j zero a e = absurd (omega arith)
set_after (x ∷ xs) ys j (suc k) a e = ap (◌∷◌ x) (set_after xs ys j k a (omega arith))

sets_after : (vs xs ys : List ℕ) (j k : ℕ) → length xs + j ≡ k → sets (xs ++ ys) k vs ≡ xs ++ sets ys j vs
sets_after [] xs ys j k e = refl
sets_after (a ∷ vs) xs ys j k e = rw (set_after xs ys j k a e) (sets_after vs xs (set ys j a) (suc j) (suc k) (omega arith))

-- the words of a row up to its docstring
front : ℕ → Row Shown → List ℕ
front n r =
    r.kind ∷ r.parent
    ∷ triple n r.name
    ++ triple (n + length (text_of r.name)) r.value
    ++ triple (n + length (text_of r.name) + length (text_of r.value)) r.tp

length_front : (n : ℕ) (r : Row Shown) → length (front n r) ≡ 11
unfolding front
length_front n r = simp (length-append, length_triple)

at_docstring : (n : ℕ) (r : Row Shown) (rest : List ℕ) → row_words n r ++ rest ≡ front n r ++ (doc_triple r.doc ++ (r.word ∷ r.at ∷ rest))
unfolding front row_words
at_docstring n r rest = simp append_assoc

put_doc_triple : (o : Option Doc) (start len : ℕ) (rest : List ℕ) → sets (doc_triple o ++ rest) 0 (1 ∷ start ∷ len ∷ []) ≡ 1 ∷ start ∷ len ∷ rest
put_doc_triple none start len rest = refl
put_doc_triple (some d) start len rest = refl

module _ {A : Type 0} (d : Doc) where
  pub length_documented : (i : ℕ) (rs : List (Row A)) → length (documented i d rs) ≡ length rs
  length_documented i [] = refl
  length_documented zero (r ∷ rs) = refl
  length_documented (suc i) (r ∷ rs) = ap suc (length_documented i rs)

  -- the rows before it are as they were
  pub take_documented : (k i : ℕ) (rs : List (Row A)) → k ≤ i → take k (documented i d rs) ≡ take k rs
  take_documented k i [] h = refl
  take_documented zero zero (r ∷ rs) h = refl
  take_documented (suc k) zero (r ∷ rs) h = absurd (omega arith)
  take_documented zero (suc i) (r ∷ rs) h = refl
  take_documented (suc k) (suc i) (r ∷ rs) h = ap (◌∷◌ r) (take_documented k i rs (omega arith))

module _ (d : Doc) where
  pub texts_documented : (i : ℕ) (rs : List (Row Shown)) → texts (documented i d rs) ≡ texts rs
  texts_documented i [] = refl
  texts_documented zero (r ∷ rs) = refl
  texts_documented (suc i) (r ∷ rs) = rw (texts_documented i rs)

  pub words_from_documented : (i n : ℕ) (rs : List (Row Shown)) → words_from n (documented i d rs) ≡ with_docstring i d.start d.len (words_from n rs)
  unfolding front
  words_from_documented i n [] = refl
  words_from_documented zero n (r ∷ rs) =
      let rest = words_from (n + length (row_text r)) rs in
      at_docstring n (with_doc d r) rest
      ∙ sym
      (ap (λ (l : List ℕ). with_docstring 0 d.start d.len l) (at_docstring n r rest)
      ∙ sets_after (1 ∷ d.start ∷ d.len ∷ []) (front n r) (doc_triple r.doc ++ (r.word ∷ r.at ∷ rest)) 0 11 (omega (arith, length_front n r))
      ∙ ap (λ (l : List ℕ). front n r ++ l) (put_doc_triple r.doc d.start d.len (r.word ∷ r.at ∷ rest)))
  words_from_documented (suc i) n (r ∷ rs) =
      rw (words_from_documented i (n + length (row_text r)) rs)
      (sym (sets_after (1 ∷ d.start ∷ d.len ∷ []) (row_words n r) (words_from (n + length (row_text r)) rs) (i * 16 + 11) (suc i * 16 + 11) (omega (arith, length_row_words n r))))
