-- Which text a number, a key and a reason have.
use Prim.Native.Nat.{ℕ, ◌<◌}
use mathlib.Core.Path.{◌≡◌, refl, sym, ap, subst, ◌∙◌}
use mathlib.Core.List.{List, [], ◌∷◌, ◌++◌, append-nil, append_assoc}
use borrow.Author.Rules.{rules}
use lib.ListN.{length}
use Rattle.std.specs.Prelude.{Result}
use Rattle.faults.specs.declared.Fault.{Fault}
use Rattle.slices.specs.Bytes.{bytes}
use Rattle.answers.specs.Text.{Text, text, wrong, roomy, Says}
use Rattle.answers.proofs.Answers.{told}
use Rattle.messages.specs.Texts.{words, pieces_of, refusals, warnings, key_name}
use Rattle.messages.specs.Message.{excerpt_of, present, joined, framed, message_by}
use Rattle.messages.specs.Steps.{PlainText, NoText, Plainly, Missing, NoKey, Lacking, Turned, Malformed, NoReason, Warned}
use Rattle.messages.specs.declared.Wide.{Wide}
use Rattle.messages.specs.declared.Told.{Told}

-- words after words
words_joined : (a b c : List ℕ) (t : Text) → joined (text a) (joined (text b) (joined (text c) t)) ≡ joined (text (a ++ (b ++ c))) t
words_joined a b c (text t) = sym (ap text (append_assoc a (b ++ c) t ∙ ap (◌++◌ a) (append_assoc b c t)))
words_joined a b c (wrong n p) = refl

-- the text of a number that shows nothing
pub text_by : {k number : ℕ} {s : List ℕ} → number ≡ k → pieces_of refusals k ≡ words s ∷ [] → length s < 1024 → PlainText number s
text_by e q l = record { is = λ h. rw e q; short = l }

-- keys
pub missing_by : (k : ℕ) {key : ℕ} {s : List ℕ} → key ≡ k → present (key_name k) ≡ text (key_name k) → s ≡ bytes "missing attribute `" ++ (key_name k ++ bytes "` on `<") → length s < 1024 → Missing key s
unfolding framed
missing_by k e p q l = record {
  is = λ doc x g. rw (g, e, p, q) (words_joined (bytes "missing attribute `") (key_name k) (bytes "` on `<") (joined (excerpt_of doc x.first) (text (bytes ">`"))));
  short = l;
}

-- reasons from 2 on
pub malformed_by : {k reason : ℕ} {s : List ℕ} → reason ≡ k → ((doc : List ℕ) (x : Told) → message_by doc x (pieces_of warnings k) ≡ framed (bytes "malformed element `<") (excerpt_of doc x.first) s) → length s < 1024 → Malformed reason s
malformed_by e q l = record { is = rw e q; short = l }

module _ {room : ℕ} {u : List ℕ} {r : Result ℕ Fault} where
  -- numbers that show nothing
  pub text_told : {number : ℕ} {s : List ℕ} → PlainText number s → Says (roomy room (text s)) room u r → Plainly number room u r
  text_told {s = s} a k = record { says = λ h doc x. rw (a.is h, append-nil s) k }

  pub text_none : {number : ℕ} → NoText number → Says (wrong 19 0) room u r → Plainly number room u r
  text_none a k = record { says = λ h doc x. rw (a.is h) k }

  -- keys
  pub lacking_told : {doc b a : List ℕ} {name : Wide} {key : ℕ} {w : List ℕ} → Missing key w → b ≡ w → a ≡ bytes ">`" → Says (roomy room (framed b (excerpt_of doc name) a)) room u r → Lacking doc name key room u r
  lacking_told {doc} m e f s = record { says = λ x g h. rw (m.is doc x h, g, ← e, ← f) s }

  pub lacking_unknown : {doc : List ℕ} {name : Wide} {key : ℕ} → NoKey key → Says (wrong 19 0) room u r → Lacking doc name key room u r
  lacking_unknown n s = record { says = λ x f g. rw (g, n.is) s }

  -- all numbers
  pub turned_by : (k : ℕ) {doc : List ℕ} {x : Told} → x.number ≡ k → Says (roomy room (message_by doc x (pieces_of refusals k))) room u r → Turned doc x room u r
  turned_by k {doc} {x} e s = record { says = subst (λ n. Says (roomy room (message_by doc x (pieces_of refusals n))) room u r) (sym e) s }

  -- with words around what is shown
  pub turned_framed : (k : ℕ) {doc : List ℕ} {x : Told} (o : Text) {w z b a : List ℕ} → x.number ≡ k → b ≡ w → a ≡ z → message_by doc x (pieces_of refusals k) ≡ framed w o z → Says (roomy room (framed b o a)) room u r → Turned doc x room u r
  turned_framed k o e f g q s = turned_by k e (rw (q, ← f, ← g) s)

  -- reasons
  pub warned_first : {doc b a : List ℕ} {name : Wide} {reason : ℕ} → reason ≡ 1 → b ≡ bytes "unsupported element `<" → a ≡ bytes ">` ignored" → Says (roomy room (framed b (excerpt_of doc name) a)) room u r → Warned doc reason name room u r
  unfolding framed
  warned_first e f g s = record { says = λ x h. rw (e, h, ← f, ← g) s }

  pub warned_told : {doc b a : List ℕ} {name : Wide} {reason : ℕ} {w : List ℕ} → Malformed reason w → b ≡ bytes "malformed element `<" → a ≡ w → Says (roomy room (framed b (excerpt_of doc name) a)) room u r → Warned doc reason name room u r
  warned_told {doc} m e f s = record { says = λ x h. rw (m.is doc x, h, ← e, ← f) s }

  pub warned_unknown : {doc : List ℕ} {name : Wide} {reason : ℕ} → (reason ≡ 1 → ⊥) → NoReason reason → Says (wrong 19 0) room u r → Warned doc reason name room u r
  warned_unknown h n s = record { says = λ x f. rw (n.is h) s }

pub ruleset cutting = (told, text_told, text_none, lacking_told, lacking_unknown, warned_first, warned_told, warned_unknown, rules)

pub ruleset texts = (text_by, malformed_by, rules)
