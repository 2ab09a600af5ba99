-- The public entry: its verdict and the buffers that it leaves, on each of its ways.
use Prim.Native.Nat.{ℕ, ◌*◌, ◌/◌, ◌≤◌, ◌<◌}
use mathlib.Core.Path.{◌≡◌, refl, sym, ◌∙◌}
use mathlib.Core.List.{List}
use mathlib.Core.Bool.{Bool, true, false, not, ◌||◌}
use borrow.Author.Rules.{rules}
use borrow.Author.Tests.{lt-ltb, le-ltb, ltb-false, leb-true, leb-false, not-true, not-false}
use native.Mathlib.Omega.{arith}
use lib.Dec.{ltb, leb}
use lib.ListN.{length}
use Rattle.document.proofs.Readers.{keeping}
use Rattle.std.specs.Prelude.{Result, Ok, Err}
use Rattle.utf8.specs.WellFormed.{ill_formed}
use Rattle.utf8.proofs.Texts.{bounded}
use Rattle.tables.specs.Table.{Rep, Wiped, cleared}
use Rattle.tables.proofs.Tables.{clear_all, clear_rest, rows_fit}
use Rattle.document.specs.Tags.{Shown}
use Rattle.document.specs.Rows.{Tables, words_from, texts, warned}
use Rattle.document.specs.Refusals.{bare}
use Rattle.document.specs.Reading.{begun, accepted, refused}
use Rattle.document.specs.Whole.{meaning, read, filled, room_of, Says}
use Rattle.document.specs.Outcome.{Lent, lent, Stands, Sound, runs}
use Rattle.document.specs.declared.Refusal.{Refusal}
use Rattle.document.specs.declared.Fill.{Fill}
use Rattle.document.specs.Verdict.{Verdict, counts}
use Rattle.rows.proofs.Words.{length_warned}
use Rattle.rows.proofs.Tables.{text_counted}
use Rattle.reader.specs.Nodes.{ReadsWhole}
use Rattle.reader.specs.Entry.{Ended, Refuses, HasRoom, Accepts}

-- clearing every buffer, and clearing the tails
pub refuses : {x : Refusal} {r r' w w' t t' : List ℕ} → Wiped 0 r r' → Wiped 0 w w' → Wiped 0 t t' → Refuses x r r' w w' t t' (Err x)
refuses {r = r} {w = w} {t = t} a b c = record {
  verdict = refl;
  of_rows = a.is ∙ clear_all r;
  of_warnings = b.is ∙ clear_all w;
  of_text = c.is ∙ clear_all t;
}

pub accepts : {f : Fill} {r r' w w' t t' : List ℕ} → Wiped (f.rows * 16) r r' → Wiped (f.warnings * 4) w w' → Wiped f.text t t' → Accepts f r r' w w' t t' (Ok (counts f.rows f.text f.warnings))
accepts a b c = record { verdict = refl; of_rows = a.is; of_warnings = b.is; of_text = c.is }

pub ruleset clearing = (refuses, accepts, rules)

-- the room
pub no_rows : {r w t : ℕ} {f : Fill} → r / 16 < f.rows → HasRoom r w t f false
no_rows {r} {w} {t} {f} h = record { is = rw (lt-ltb (r / 16) f.rows h) }

pub no_warnings : {r w t : ℕ} {f : Fill} → f.rows ≤ r / 16 → w / 4 < f.warnings → HasRoom r w t f false
no_warnings {r} {w} {t} {f} g h = record { is = rw (le-ltb (r / 16) f.rows g, lt-ltb (w / 4) f.warnings h) }

pub text_room : {r w t : ℕ} {f : Fill} → f.rows ≤ r / 16 → f.warnings ≤ w / 4 → HasRoom r w t f (leb f.text t)
text_room {r} {w} {t} {f} g h = record { is = rw (le-ltb (r / 16) f.rows g, le-ltb (w / 4) f.warnings h) (turned f.text t) }
  where
    turned : (a b : ℕ) → leb a b ≡ not (ltb b a)
    turned a b = go (leb a b) refl
      where
        go : (x : Bool) → leb a b ≡ x → leb a b ≡ not (ltb b a)
        go true e = e ∙ rw (le-ltb b a (leb-true a b e))
        go false e = e ∙ rw (lt-ltb b a (leb-false a b e))

pub ruleset rooms = (no_rows, no_warnings, text_room, rules)

-- the meaning of a document, by its limit and its UTF-8
long : (doc : List ℕ) → 1048576 < length doc → meaning doc ≡ refused (bare 2 1048576)
unfolding meaning
long doc h = simp (lt-ltb 1048576 (length doc) h)

ill : (doc : List ℕ) → length doc ≤ 1048576 → ill_formed doc < length doc → meaning doc ≡ refused (bare 1 (ill_formed doc))
unfolding meaning
ill doc h l = simp (le-ltb 1048576 (length doc) h, lt-ltb (ill_formed doc) (length doc) l)

sound : (doc : List ℕ) → Sound doc → meaning doc ≡ runs doc 0 begun
unfolding meaning
sound doc s = simp (le-ltb 1048576 (length doc) s.small, le-ltb (ill_formed doc) (length doc) (omega (arith, s.utf8)))

-- a table is short
abbrev crowds : ℕ → ℕ → ℕ → Fill → Bool
crowds r w t f = ltb (r / 16) f.rows || ltb (w / 4) f.warnings || ltb t f.text

neither : (a b c : Bool) → (a || b || c) ≡ false → (a ≡ false) × (b ≡ false) × (c ≡ false)
neither true b c e = (cc, cc, cc)
neither false true c e = (cc, cc, cc)
neither false false c e = (refl, refl, e)

many_warnings : {u : Tables Shown} {b : Lent} {f : Fill} → Stands u b f → length u.warnings ≡ f.warnings
many_warnings {u} s = omega (arith, s.warnings.many, length_warned u.warnings)

-- what is left of a buffer once its tail is cleared
tail : (w n : ℕ) (t xs : List ℕ) → 0 < w → Rep w t n xs → n * w ≤ length t → cleared (n * w) t ≡ filled (length t) xs
tail w n t xs h r l = clear_rest h r l ∙ rw r.many

one_tail : (n : ℕ) (t xs : List ℕ) → Rep 1 t n xs → n ≤ length t → cleared n t ≡ filled (length t) xs
one_tail n t xs r l = let e : n * 1 ≡ n = omega arith in rw e at (tail 1 n t xs (omega arith) r (omega arith))

done : {doc r w t : List ℕ} {a : Result Fill Refusal} {f : Fill} → Ended doc r w t a → a ≡ Ok f → (u : Tables Shown) × Stands u (lent r w t) f × (meaning doc ≡ accepted u)
done {doc} {r} {w} {t} {a} {f} x e =
    let y : Ended doc r w t (Ok f) = rw e at x in
    (y.ends.0, y.ends.1, sound doc x.sound ∙ y.ends.2)

-- a refusal
turned : {doc : List ℕ} {x : Refusal} {r r' w w' t t' : List ℕ} {v : Verdict} → read doc (room_of r w t) ≡ refused x → Refuses x r r' w w' t t' v → Says doc (room_of r w t) r' w' t' v
turned e z = record { verdict = rw e z.verdict; of_rows = rw e z.of_rows; of_warnings = rw e z.of_warnings; of_text = rw e z.of_text }

module _ {doc : List ℕ} {r r' w w' t t' : List ℕ} {v : Verdict} where
  pub too_long : {y : Refusal} → 1048576 < length doc → y ≡ bare 2 1048576 → Refuses y r r' w w' t t' v → Says doc (room_of r w t) r' w' t' v
  unfolding read
  too_long h q = turned (rw (long doc h, q))

  pub not_utf8 : {p : ℕ} {y : Refusal} → length doc ≤ 1048576 → p ≡ ill_formed doc → p < length doc → y ≡ bare 1 p → Refuses y r r' w w' t t' v → Says doc (room_of r w t) r' w' t' v
  unfolding read
  not_utf8 h e l q = turned (rw (ill doc h (rw e at l), q, e))

  module _ {a : Result Fill Refusal} (x : Ended doc r w t a) where
    pub faulty : {y : Refusal} → a ≡ Err y → Refuses y r r' w w' t t' v → Says doc (room_of r w t) r' w' t' v
    unfolding read
    faulty e = turned (rw (sound doc x.sound ∙ (rw e at x).ends))

    module _ {f : Fill} (e : a ≡ Ok f) where
      pub crowded : {b : Bool} {y : Refusal} → HasRoom (length r) (length w) (length t) f b → b ≡ false → y ≡ bare 18 (length doc) → Refuses y r r' w w' t t' v → Says doc (room_of r w t) r' w' t' v
      unfolding read
      crowded {b} h g q =
          let d = done x e in
          turned (rw (d.2, d.1.many, many_warnings d.1, text_counted d.1, not-false (crowds (length r) (length w) (length t) f) (sym h.is ∙ g), q))

      pub fitting : {b : Bool} → HasRoom (length r) (length w) (length t) f b → b ≡ true → Accepts f r r' w w' t t' v → Says doc (room_of r w t) r' w' t' v
      unfolding read
      fitting {b} h g z =
          let d = done x e in
          let c : crowds (length r) (length w) (length t) f ≡ false = not-true (crowds (length r) (length w) (length t) f) (sym h.is ∙ g) in
          let n = neither (ltb (length r / 16) f.rows) (ltb (length w / 4) f.warnings) (ltb (length t) f.text) c in
          let q : read doc (room_of r w t) ≡ accepted d.0 = rw (d.2, d.1.many, many_warnings d.1, text_counted d.1, c) in
          record {
            verdict = rw q (z.verdict ∙ rw (d.1.many, many_warnings d.1, text_counted d.1));
            of_rows = rw q (z.of_rows ∙ tail 16 f.rows r (words_from 0 d.0.rows) (omega arith) d.1.rows (rows_fit 16 f.rows (length r) (omega arith) (ltb-false (length r / 16) f.rows n.0)));
            of_warnings = rw q (z.of_warnings ∙ tail 4 f.warnings w (warned d.0.warnings) (omega arith) d.1.warnings (rows_fit 4 f.warnings (length w) (omega arith) (ltb-false (length w / 4) f.warnings n.1)));
            of_text = rw q (z.of_text ∙ one_tail f.text t (texts d.0.rows) d.1.text (ltb-false (length t) f.text n.2));
          }

-- the used part lies in the buffers
module _ {f : Fill} {r w t : ℕ} {b : Bool} (h : HasRoom r w t f b) (g : b ≡ true) where
  room_is : (ltb (r / 16) f.rows ≡ false) × (ltb (w / 4) f.warnings ≡ false) × (ltb t f.text ≡ false)
  room_is = neither (ltb (r / 16) f.rows) (ltb (w / 4) f.warnings) (ltb t f.text) (not-true (crowds r w t f) (sym h.is ∙ g))

  pub rows_inside : f.rows * 16 ≤ r
  rows_inside = rows_fit 16 f.rows r (omega arith) (ltb-false (r / 16) f.rows room_is.0)

  pub warnings_inside : f.warnings * 4 ≤ w
  warnings_inside = rows_fit 4 f.warnings w (omega arith) (ltb-false (w / 4) f.warnings room_is.1)

pub ruleset finishing = (faulty, crowded, fitting, rows_inside, warnings_inside, rules)

pub is_sound : {doc : List ℕ} {p : ℕ} → length doc ≤ 1048576 → p ≡ ill_formed doc → length doc ≤ p → Sound doc
is_sound {doc} {p} h e l = record { small = h; utf8 = omega (arith, bounded doc) }

pub ended : {doc r w t : List ℕ} {a : Result Fill Refusal} → Sound doc → ReadsWhole doc (lent r w t) a → Ended doc r w t a
ended s h = record { sound = s; ends = h.ends }

pub ruleset entry = (too_long, not_utf8, is_sound, ended, keeping, rules)
