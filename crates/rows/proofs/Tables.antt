-- Lent buffers that stand for tables: with a row more, a warning more, a docstring; and with the last rows given back.
use Prim.Native.Nat.{ℕ, suc, ◌+◌, ◌-◌, ◌≤◌, ◌<◌}
use mathlib.Core.Path.{◌≡◌, refl, sym, ap, ◌∙◌}
use mathlib.Core.List.{List, [], ◌∷◌, ◌++◌}
use mathlib.Core.Option.{none}
use native.Mathlib.Nat.{mul-one}
use native.Mathlib.Omega.{arith}
use lib.ListN.{length, take, drop, length-append, take-append-drop, length-take}
use lib.Seq.{length-take-le}
use Rattle.tables.specs.Table.{Put, Documented}
use Rattle.tables.proofs.Tables.{given_back_to}
use Rattle.answers.specs.Puts.{Puts}
use Rattle.answers.proofs.Putting.{puts_then}
use Rattle.document.specs.Tags.{Shown}
use Rattle.document.specs.Rows.{Row, Tables, documented, text_of, row_text, row_words, words_from, texts, warned}
use Rattle.document.specs.Outcome.{ValueIs, Lent, lent, Stands}
use Rattle.document.specs.declared.Value.{Value}
use Rattle.document.specs.declared.Fill.{Fill}
use Rattle.rows.specs.Outcome.{Places, placed, RowPut, WarningPut}
use Rattle.rows.specs.declared.Head.{Head}
use Rattle.rows.specs.declared.Placed.{Placed}
use Rattle.rows.proofs.Words.{length_words_from, texts_append, words_from_append, warned_append, texts_more, words_from_more, length_documented, texts_documented, words_from_documented}

-- the text's count
pub text_counted : {u : Tables Shown} {b : Lent} {f : Fill} → Stands u b f → length (texts u.rows) ≡ f.text
text_counted {f = f} s = s.text.many ∙ mul-one f.text

-- ---- a row more

module _ {doc : List ℕ} {name second tp : Value} {m : ℕ} {t t₁ t₂ t₃ : List ℕ} {a b c : Placed} (p : Places doc name m t t₁ a) (q : Places doc second a.text t₁ t₂ b) (s : Places doc tp b.text t₂ t₃ c) (row : Row Shown) (n : ValueIs doc name row.name) (v : ValueIs doc second row.value) (y : ValueIs doc tp row.tp) where
  words_placed : (h : Head) → row.kind ≡ h.kind → row.parent ≡ h.parent → row.word ≡ h.word → h.at ≡ suc row.at → row.doc ≡ none → row_words m row ≡ placed h a b c
  unfolding row_words
  words_placed h k e w o d =
      let l : row.at ≡ h.at - 1 = omega arith in
      let i : m + length (text_of row.name) ≡ a.text = sym (p.puts row.name n).counts in
      let j : a.text + length (text_of row.value) ≡ b.text = sym (q.puts row.value v).counts in
      rw (k, e, w, l, d, i, j, p.words row.name n, q.words row.value v, s.words row.tp y)

  text_placed : Puts (row_text row) m t t₃ c.text
  text_placed = puts_then (puts_then (p.puts row.name n) (q.puts row.value v)) (s.puts row.tp y)

pub row_put : {doc : List ℕ} {h : Head} {name second tp : Value} {f : Fill} {t t₁ t₂ t₃ rows rows' : List ℕ} {a b c : Placed} {n : ℕ} → Places doc name f.text t t₁ a → Places doc second a.text t₁ t₂ b → Places doc tp b.text t₂ t₃ c → Put 16 (placed h a b c) f.rows rows rows' n → RowPut doc h name second tp f rows rows' t t₃ (record { at = f.at; rows = n; warnings = f.warnings; text = c.text })
row_put {h = h} {f = f} p q s g = record {
  at = refl;
  counts = g.counts;
  warnings = refl;
  least = omega (arith, p.least, q.least, s.least);
  most = omega (arith, p.most, q.most, s.most);
  stands = λ row u w k e o l d x v y z.
      let m : 0 + length (texts u.rows) ≡ f.text = omega (arith, text_counted z) in
      record {
        rows = rw (words_from_more 0 u.rows row, m, words_placed p q s row x v y h k e o l d) (g.stands (words_from 0 u.rows) z.rows);
        many = length-append u.rows (row ∷ []) ∙ omega (arith, z.many, g.counts);
        warnings = z.warnings;
        text = rw (texts_more u.rows row) ((text_placed p q s row x v y).stands (texts u.rows) z.text);
      };
}

-- ---- a warning more

pub warning_put : {reason place len : ℕ} {f : Fill} {w w' : List ℕ} {n : ℕ} → Put 4 (reason ∷ (place - 1) ∷ place ∷ len ∷ []) f.warnings w w' n → WarningPut reason place len f w w' (record { at = f.at; rows = f.rows; warnings = n; text = f.text })
warning_put {reason} {place} {len} g = record {
  at = refl;
  rows = refl;
  counts = g.counts;
  text = refl;
  stands = λ u rows text name lt e l z.
      let q : place - 1 ≡ lt = omega arith in
      record {
        rows = z.rows;
        many = z.many;
        warnings = rw (warned_append u.warnings (record { reason = reason; at = lt; name = name } ∷ [])) (rw (q, e, ← l) at (g.stands (warned u.warnings) z.warnings));
        text = z.text;
      };
}

-- ---- a docstring

pub docstring_put : {u : Tables Shown} {i start len : ℕ} {rows rows' w t : List ℕ} {f : Fill} → Documented i start len rows rows' → i < length u.rows → Stands u (lent rows w t) f → Stands (record { rows = documented i (record { start = start; len = len }) u.rows; warnings = u.warnings }) (lent rows' w t) f
docstring_put {u} {i} {start} {len} {f = f} d h z =
    record {
      rows = rw (words_from_documented (record { start = start; len = len }) i 0 u.rows) (d.stands f.rows (words_from 0 u.rows) (omega (arith, z.many)) z.rows);
      many = length_documented (record { start = start; len = len }) i u.rows ∙ z.many;
      warnings = z.warnings;
      text = rw (texts_documented (record { start = start; len = len }) i u.rows) z.text;
    }

-- ---- rows given back

-- the last rows and their text
pub cut : {u : Tables Shown} {b : Lent} {f : Fill} → Stands u b f → (i at : ℕ) → i ≤ length u.rows → Stands (record { rows = take i u.rows; warnings = u.warnings }) b (record { at = at; rows = i; warnings = f.warnings; text = length (texts (take i u.rows)) })
cut {u} {f = f} z i at h =
    let rs = take i u.rows in
    let ss = drop i u.rows in
    let n = length-take-le i u.rows h in
    let e : rs ++ ss ≡ u.rows = take-append-drop i u.rows in
    record {
      rows = given_back_to {m = f.rows} (words_from (0 + length (texts rs)) ss) (rw (← words_from_append 0 rs ss, e) z.rows) (rw n at (length_words_from 0 rs));
      many = n;
      warnings = z.warnings;
      text = given_back_to {m = f.text} (texts ss) (rw (← texts_append rs ss, e) z.text) (sym (mul-one (length (texts rs))));
    }

-- the rows that were read since
pub cut_to : {u v : Tables Shown} {b b' : Lent} {f g : Fill} → Stands u b f → Stands v b' g → take f.rows v.rows ≡ u.rows → Stands (record { rows = take f.rows v.rows; warnings = v.warnings }) b' (record { at = g.at; rows = f.rows; warnings = g.warnings; text = f.text })
cut_to {u} {v} {f = f} {g = g} y z e =
    let h : f.rows ≤ length v.rows = omega (arith, y.many, ap length e, length-take f.rows v.rows) in
    let t : length (texts (take f.rows v.rows)) ≡ f.text = ap (λ (rs : List (Row Shown)). length (texts rs)) e ∙ text_counted y in
    rw t at (cut z f.rows g.at h)
