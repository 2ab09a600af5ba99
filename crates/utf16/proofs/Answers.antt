-- What the entry answers, and the text that it leaves, on each of its ways.
use Prim.Native.Nat.{ℕ, ◌%◌, ◌≤◌, ◌<◌}
use mathlib.Core.Path.{◌≡◌, sym, ◌∙◌}
use mathlib.Core.List.{List, []}
use mathlib.Core.Bool.{Bool, true, false}
use borrow.Author.Rules.{rules}
use borrow.Author.Tests.{lt-ltb, le-ltb, eq-eqb, ne_eqb}
use native.Mathlib.Omega.{arith}
use mir.Syntax.{w8}
use mir.Val.{Fits}
use lib.ListN.{length, get_or}
use Rattle.slices.specs.Bytes.{starts}
use Rattle.slices.proofs.Runs.{starts_fits}
use Rattle.tables.specs.Table.{Wiped}
use Rattle.tables.proofs.Tables.{empty_stands, clear_all}
use Rattle.answers.specs.Text.{Text, text, wrong, Says, Makes, Finishes}
use Rattle.answers.specs.Text as answers
use Rattle.answers.proofs.Answers as laws
use Rattle.std.proofs.Common.{Option, Some, None, Result, Ok, Err}
use Rattle.faults.specs.declared.Fault.{Fault}
use Rattle.utf16.specs.Decode.{in_bytes}
use Rattle.utf16.specs.Entry.{big_mark, little_mark, ordered, decoding, answer_of, answer, left, told}
use Rattle.utf16.specs.Outcome.{PutsAll}
use Rattle.utf16.specs.Promises.{DecodesWhole}
use Rattle.utf16.proofs.Formed.{forms}

-- ---- in a byte order

module _ (big : Bool) (raw : List ℕ) {out' : List ℕ} {room : ℕ} {r : Result ℕ Fault} where
  pub ordered-long : 1048576 < length raw → Says (wrong 2 1048576) room out' r → Says (ordered big raw room) room out' r
  unfolding ordered
  ordered-long h s = rw (lt-ltb 1048576 (length raw) h) s

  module _ (h : length raw ≤ 1048576) where
    pub ordered-odd : length raw % 2 ≡ 1 → Says (wrong 26 (length raw)) room out' r → Says (ordered big raw room) room out' r
    unfolding ordered
    ordered-odd e s = rw (le-ltb 1048576 (length raw) h, eq-eqb (length raw % 2) 1 e) s

    module _ (e : length raw % 2 ≡ 1 → ⊥) {out₀ out : List ℕ} {p : Result ℕ ℕ} (c : PutsAll big raw out₀ out p) (l : length out ≡ room) where
      pub ordered-lone : {at : ℕ} → p ≡ Err at → Says (wrong 27 at) (length out) out' r → Says (ordered big raw room) room out' r
      unfolding ordered
      ordered-lone {at} f s =
          let d : PutsAll big raw out₀ out (Err at) = rw f at c in
          rw (le-ltb 1048576 (length raw) h, ne_eqb (length raw % 2) 1 e, d.is) (rw l at s)

      module _ {n : ℕ} (f : p ≡ Ok n) where
        pub ordered-above : 1048576 < n → Says (wrong 2 1048576) (length out) out' r → Says (ordered big raw room) room out' r
        unfolding ordered
        ordered-above k s =
            let d : PutsAll big raw out₀ out (Ok n) = rw f at c in
            rw (le-ltb 1048576 (length raw) h, ne_eqb (length raw % 2) 1 e, d.is.1, lt-ltb 1048576 (length (in_bytes d.is.0)) (omega (arith, d.is.2.counts))) (rw l at s)

        pub ordered-done : n ≤ 1048576 → Finishes n 18 (length raw) out out' r → Says (ordered big raw room) room out' r
        unfolding ordered
        ordered-done k s =
            let d : PutsAll big raw out₀ out (Ok n) = rw f at c in
            let a = s.says (in_bytes d.is.0) (d.is.2.stands [] (empty_stands 1 out₀)) in
            rw (le-ltb 1048576 (length raw) h, ne_eqb (length raw % 2) 1 e, d.is.1, le-ltb 1048576 (length (in_bytes d.is.0)) (omega (arith, d.is.2.counts))) (rw l at a)

pub ruleset orders = (laws.makes, laws.told, laws.finished, ordered-long, ordered-odd, ordered-lone, ordered-above, ordered-done, rules)

-- ---- by the mark

module _ {a : Result ℕ Fault} where
  pub tell-refused : {f : Fault} → a ≡ Err f → Err f ≡ told a
  tell-refused e = rw e

  pub tell-done : {n : ℕ} → a ≡ Ok n → Ok (Some n) ≡ told a
  tell-done e = rw e

module _ (raw : List ℕ) {t : Bool} where
  pub big-fits : t ≡ starts big_mark raw → t ≡ true → 2 ≤ length raw
  big-fits e f = starts_fits big_mark raw (sym e ∙ f)

  pub little-fits : t ≡ starts little_mark raw → t ≡ true → 2 ≤ length raw
  little-fits e f = starts_fits little_mark raw (sym e ∙ f)

tells : (o : Text) (a : Result ℕ Fault) → a ≡ answers.answer_of o → told a ≡ answer_of o
tells (text t) a e = rw e
tells (wrong n p) a e = rw e

module _ {raw lent out' : List ℕ} (w : (i : ℕ) → Fits w8 (get_or raw i 0)) where
  decodes : {r : Result (Option ℕ) Fault} → r ≡ answer raw (length lent) → out' ≡ left raw (length lent) → DecodesWhole raw lent out' r
  decodes e l = record {
    answers = e;
    leaves = l;
    formed = forms raw (length lent) w;
  }

  module _ {t : Bool} (e : t ≡ starts big_mark raw) where
    module _ {a : Result ℕ Fault} {r : Result (Option ℕ) Fault} where
      pub says-big : t ≡ true → Makes (ordered true raw) lent out' a → r ≡ told a → DecodesWhole raw lent out' r
      unfolding decoding answer left
      says-big f s g =
          let b : starts big_mark raw ≡ true = sym e ∙ f in
          decodes (rw b (g ∙ tells (ordered true raw (length lent)) a s.answer)) (rw b s.left)

      pub says-little : {u : Bool} → t ≡ false → u ≡ starts little_mark raw → u ≡ true → Makes (ordered false raw) lent out' a → r ≡ told a → DecodesWhole raw lent out' r
      unfolding decoding answer left
      says-little {u} f d h s g =
          let b : starts big_mark raw ≡ false = sym e ∙ f in
          let m : starts little_mark raw ≡ true = sym d ∙ h in
          decodes (rw (b, m) (g ∙ tells (ordered false raw (length lent)) a s.answer)) (rw (b, m) s.left)

    pub says_none : {u : Bool} → t ≡ false → u ≡ starts little_mark raw → u ≡ false → Wiped 0 lent out' → DecodesWhole raw lent out' (Ok None)
    unfolding answer left
    says_none {u} f d h z =
        let b : starts big_mark raw ≡ false = sym e ∙ f in
        let m : starts little_mark raw ≡ false = sym d ∙ h in
        decodes (rw (b, m)) (rw (b, m) (z.is ∙ clear_all lent))

pub ruleset marks = (big-fits, little-fits, tell-refused, tell-done, says-big, says-little, says_none, rules)
