-- Words around what is shown.
use Prim.Native.Nat.{ℕ, ◌<◌}
use mathlib.Core.Path.{◌≡◌, ap, ◌∙◌}
use mathlib.Core.List.{List, [], ◌++◌, append_assoc}
use borrow.Author.Rules.{rules}
use native.Mathlib.Omega.{arith}
use lib.ListN.{length}
use Rattle.std.specs.Prelude.{Result, Ok, Err}
use Rattle.faults.specs.declared.Fault.{Fault}
use Rattle.slices.specs.Bytes.{bytes}
use Rattle.tables.proofs.Tables.{empty_stands}
use Rattle.answers.specs.Text.{text, wrong, roomy, Says, Finishes}
use Rattle.answers.specs.Puts.{Puts}
use Rattle.answers.proofs.Answers.{told, finished}
use Rattle.answers.proofs.Putting.{puts_then}
use Rattle.references.specs.Unescape.{unescape}
use Rattle.references.specs.Outcome.{Checks, Shows}
use Rattle.references.specs.declared.ValueFault.{ValueFault}
use Rattle.messages.specs.Message.{excerpt_of, or_unsound, unescaped_of, framed}
use Rattle.messages.specs.Steps.{Around, Unescaped, Mismatched, Unexpected}
use Rattle.messages.specs.declared.Wide.{Wide}

-- words around bytes: the premises from the last call to the first
pub around : {x y z t b b' b'' : List ℕ} {n m k r : ℕ} → Puts z k b' b'' r → Puts y m b b' k → Puts x n t b m → length x < 1024 → length z < 1024 → Around x y z n t b'' r
around p₃ p₂ p₁ h l = record {
  puts = puts_then p₁ (puts_then p₂ p₃);
  most = omega (arith, p₁.counts, p₂.counts, p₃.counts);
}

pub unescapes : {x v z t b b' b'' : List ℕ} {m k r : ℕ} → Puts z k b' b'' r → Shows v m b b' k → Puts x 0 t b m → Unescaped x v z t b'' r
unescapes p₃ p₂ p₁ = record { puts = λ s e. puts_then p₁ (puts_then (p₂.puts s e) p₃) }

module _ {room : ℕ} {u : List ℕ} {r : Result ℕ Fault} where
  -- bytes that were put: the premises from the last call to the first, so that each names what the one before it left
  pub plain_made : {w t b : List ℕ} {n : ℕ} → Finishes n 21 n b u r → Puts w 0 t b n → length b ≡ room → Says (roomy room (text w)) room u r
  plain_made {w} {t} {b} {n} f p l =
      let k : n ≡ length w = p.counts ∙ omega arith in
      rw (k, l) at (f.says w (p.stands [] (empty_stands 1 t)))

  pub framed_made : (x y z : List ℕ) {t b : List ℕ} {n : ℕ} → Finishes n 21 n b u r → Around x y z 0 t b n → length b ≡ room → Says (roomy room (framed x (text y) z)) room u r
  unfolding framed
  framed_made x y z f p l = plain_made f p.puts l

  pub mismatched_made : {x y t b b' b'' : List ℕ} {n m k : ℕ} → Finishes k 21 k b'' u r → Puts (bytes ">`") m b' b'' k → Puts y n b b' m → Around (bytes "unexpected `</") x (bytes ">` while parsing `<") 0 t b n → length b'' ≡ room → Mismatched x y room u r
  mismatched_made {x} {y} {t} {b'' = b''} {k = k} f p₃ p₂ p₁ l =
      let w : List ℕ = bytes "unexpected `</" in
      let v : List ℕ = bytes ">` while parsing `<" in
      let z : List ℕ = bytes ">`" in
      let e : (w ++ (x ++ v)) ++ (y ++ z) ≡ w ++ (x ++ (v ++ (y ++ z))) = append_assoc w (x ++ v) (y ++ z) ∙ ap (◌++◌ w) (append_assoc x v (y ++ z)) in
      let p : Puts (w ++ (x ++ (v ++ (y ++ z)))) 0 t b'' k = rw e at (puts_then p₁.puts (puts_then p₂ p₃)) in
      record { says = plain_made f p l }

  -- a raw value
  module _ {v : List ℕ} {a : Result (Unit {0}) ValueFault} (c : Checks v a) (x z : List ℕ) where
    pub unescaped_made : {t b : List ℕ} {n : ℕ} → a ≡ Ok tt → Finishes n 21 n b u r → Unescaped x v z t b n → length b ≡ room → Says (roomy room (framed x (or_unsound (unescape v)) z)) room u r
    unfolding framed
    unescaped_made e f p l =
        let d : Checks v (Ok tt) = rw e at c in
        rw d.is.1 (plain_made f (p.puts d.is.0 d.is.1) l)

    pub unescaped_bad : {f : ValueFault} → a ≡ Err f → Says (wrong 19 0) room u r → Says (roomy room (framed x (or_unsound (unescape v)) z)) room u r
    unfolding framed
    unescaped_bad {f} e s = let d : Checks v (Err f) = rw e at c in rw d.is s

  -- what stands at a triple
  module _ (doc : List ℕ) (t : Wide) (x z : List ℕ) where
    pub named_made : {s : List ℕ} → excerpt_of doc t ≡ text s → Says (roomy room (framed x (text s) z)) room u r → Says (roomy room (framed x (excerpt_of doc t) z)) room u r
    named_made k s = rw k s

    pub named_bad : excerpt_of doc t ≡ wrong 19 0 → Says (wrong 19 0) room u r → Says (roomy room (framed x (excerpt_of doc t) z)) room u r
    unfolding framed
    named_bad e s = rw e s

    pub valued_made : {s : List ℕ} → excerpt_of doc t ≡ text s → Says (roomy room (framed x (or_unsound (unescape s)) z)) room u r → Says (roomy room (framed x (unescaped_of (excerpt_of doc t)) z)) room u r
    valued_made k s = rw k s

    pub valued_bad : excerpt_of doc t ≡ wrong 19 0 → Says (wrong 19 0) room u r → Says (roomy room (framed x (unescaped_of (excerpt_of doc t)) z)) room u r
    unfolding framed
    valued_bad e s = rw e s

  -- and at two
  module _ {doc : List ℕ} {t t' : Wide} where
    pub unexpected_made : {s s' : List ℕ} → excerpt_of doc t ≡ text s → excerpt_of doc t' ≡ text s' → Mismatched s s' room u r → Unexpected doc t t' room u r
    unexpected_made h k m = record { says = λ x f g. rw (f, g, h, k) m.says }

    pub first_bad : excerpt_of doc t ≡ wrong 19 0 → Says (wrong 19 0) room u r → Unexpected doc t t' room u r
    first_bad e s = record { says = λ x f g. rw (f, e) s }

    pub second_bad : {s : List ℕ} → excerpt_of doc t ≡ text s → excerpt_of doc t' ≡ wrong 19 0 → Says (wrong 19 0) room u r → Unexpected doc t t' room u r
    second_bad h e s = record { says = λ x f g. rw (f, g, h, e) s }

pub ruleset framing = (told, finished, around, unescapes, plain_made, framed_made, mismatched_made, unescaped_made, unescaped_bad, named_made, named_bad, valued_made, valued_bad, unexpected_made, first_bad, second_bad, rules)
