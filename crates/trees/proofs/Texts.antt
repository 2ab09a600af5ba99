-- Laws of putting the bytes of one element.
use Prim.Native.Nat.{ℕ, ◌+◌, ◌*◌, ◌≤◌, ◌<◌, ◌^◌}
use native.Mathlib.Omega.{arith}
use mathlib.Core.Path.{◌≡◌, refl, ap, sym, ◌∙◌}
use mathlib.Core.List.{List, [], ◌∷◌, ◌++◌, append_assoc, append-nil}
use mathlib.Core.Option.{Option, none, some}
use mathlib.Core.Bool.{Bool, true, false, ◌&&◌, and-false, or-false}
use borrow.Author.Rules.{rules}
use borrow.Author.Tests.{ne_eqb, eqb-true, leb-true}
use lib.Dec.{eqb, leb}
use lib.ListN.{length, take, drop, get_or, length-append, length-drop}
use lib.Seq.{length-take-le}
use Rattle.slices.specs.Bytes.{if, bytes}
use Rattle.utf8.specs.WellFormed.{well_formed}
use Rattle.tables.specs.Triple.{inside, shown}
use Rattle.tables.specs.declared.Triple.{Triple}
use Rattle.tables.proofs.Triples.{short_shown}
use Rattle.answers.specs.Puts.{Puts}
use Rattle.answers.proofs.Putting.{puts_none, puts_then, puts_as}
use Rattle.references.specs.Escape.{escape}
use Rattle.references.proofs.Escapes.{escape_most}
use Rattle.document.proofs.Tests.{never}
use Rattle.items.specs.Words.{triple_at, docstring_by, absent, word_at, Word, TripleIs}
use Rattle.items.specs.View.{over}
use Rattle.items.specs.Sound.{Use, good_triple, doc_use, any_text, in_document, valid_word}
use Rattle.items.specs.Written.{Pair, pairs, tag, closing_tag, concat}
use Rattle.items.proofs.Rows.{row_word}
use Rattle.items.proofs.Words.{word_in}
use Rattle.items.proofs.Written.{pairs-append}
use Rattle.trees.proofs.Standing.{held_row, held_few}
use Rattle.trees.specs.Written.{docstring, tag_of, given, name_key, value_key, tp_key, word_pairs, docstrings}
use Rattle.trees.specs.Steps.{Held, StartPut, DocstringPut, ClosePut, keyed, NamePut, GivenHeld, GivenPut, shown_at, AttributePut, AttributesPut, TaggedPut, WordHeld, WordPut}

-- ---- names of tags

pub name_put : {k n m r : ℕ} {before s t t₁ t₂ : List ℕ} → Puts before n t t₁ m → s ≡ tag_of k → length s ≤ 20 → Puts s m t₁ t₂ r → NamePut k before n t t₂ r
name_put q e l w = record { puts = puts_then q (puts_as e w); most = omega (arith, q.counts, w.counts) }

pub close_put : {k n m r : ℕ} {t t₁ t₂ : List ℕ} → NamePut k (bytes "</") n t t₁ m → Puts (bytes ">") m t₁ t₂ r → ClosePut k n t t₂ r
unfolding closing_tag
close_put p q = record { puts = puts_then p.puts q; most = omega (arith, p.most, q.counts) }

pub ruleset names = (name_put, close_put, rules)

-- ---- attributes

pub attribute_absent : (d x before : List ℕ) {ws t : List ℕ} {i k n : ℕ} {y : Triple} {b : Bool} → TripleIs ws i k y → b ≡ absent y → b ≡ true → AttributePut d x ws i k before n t t n
attribute_absent d x before e a f = record { puts = λ key q. rw (ap absent (sym e.is) ∙ sym a ∙ f) puts_none; most = omega arith }

attribute_bytes : (key e : List ℕ) → (keyed key ++ e) ++ (34 ∷ []) ≡ (32 ∷ (key ++ (61 ∷ (34 ∷ (e ++ (34 ∷ [])))))) ++ []
attribute_bytes key e = simp (append_assoc, append-nil)

module _ {s b : List ℕ} {n : ℕ} (h : GivenHeld s b n) where
  module _ {t t₁ : List ℕ} {a : ℕ} (v : Puts (b ++ escape s) n t t₁ a) where
    most_put : a ≤ n + 6291476
    most_put = omega (arith, v.counts, length-append b (escape s), escape_most s, h.short, h.lead)

    pub given_end : a + length (bytes "\"") < 2 ^ 62
    given_end = omega (arith, h.room, most_put)

    pub given_put : {r : ℕ} {t₂ : List ℕ} → Puts (bytes "\"") a t₁ t₂ r → GivenPut s b n t t₂ r
    given_put q = record {
      puts = λ key o. puts_as (attribute_bytes key (escape s)) (puts_then (puts_as (ap (λ l. l ++ escape s) o) v) q);
      most = omega (arith, q.counts, most_put);
    }

pub ruleset givens = (given_end, given_put, rules)

pub attribute_held : {d x ws b s : List ℕ} {m n : ℕ} (y : Triple) → Held d x ws m → n + 6291520 < 2 ^ 62 → length b ≤ 20 → s ≡ shown d x y → GivenHeld s b n
attribute_held {d} {x} y h r q z = record { short = rw z (short_shown d x y h.document h.text); lead = q; room = r }

pub attribute_put : {d x ws b s t t₁ : List ℕ} {i k n r : ℕ} {y : Triple} {a : Bool} → TripleIs ws i k y → a ≡ absent y → a ≡ false → s ≡ shown d x y → GivenPut s b n t t₁ r → AttributePut d x ws i k b n t t₁ r
attribute_put {d} {x} {ws} {s = s} {i = i} {k = k} e c f z g =
    let u : s ≡ shown d x (triple_at k (drop (i * 16) ws)) = z ∙ ap (shown d x) e.is in
    record { puts = λ key o. rw (ap absent (sym e.is) ∙ sym c ∙ f) (puts_as (ap (λ v. pairs (given key (some v))) u) (g.puts key o)); most = g.most }

pub attributes_put : {d x ws a b t t₁ t₂ t₃ : List ℕ} {i k n m l r : ℕ} → a ≡ keyed (name_key k) → b ≡ keyed (value_key k) → AttributePut d x ws i 2 a n t t₁ m → AttributePut d x ws i 5 b m t₁ t₂ l → AttributePut d x ws i 8 (bytes " tp:type=\"") l t₂ t₃ r → AttributesPut d x ws i k n t t₃ r
attributes_put {d} {x} {ws} {i = i} {k = k} e f u v c = record {
  puts =
      puts_as
      (append_assoc (pairs (given (name_key k) (shown_at d x ws i 2))) (pairs (given (value_key k) (shown_at d x ws i 5))) (pairs (given tp_key (shown_at d x ws i 8))))
      (puts_then (puts_then (u.puts (name_key k) e) (v.puts (value_key k) f)) (c.puts tp_key refl));
  most = omega (arith, u.most, v.most, c.most);
}

pub ruleset attribute = (held_row, held_few, attribute_absent, attribute_held, attribute_put, rules)

pub ruleset attributes_of = (attributes_put, rules)

-- ---- word 14

pub word_valid : {ws : List ℕ} {i k n w : ℕ} → WordHeld ws i k n → Word ws i 14 w → valid_word k w ≡ true
word_valid h w = rw w.is h.valid

pub word_put : {ws s t t₁ : List ℕ} {i k n w r : ℕ} → Word ws i 14 w → s ≡ pairs (word_pairs k w) → length s ≤ 20 → Puts s n t t₁ r → WordPut ws i k n t t₁ r
word_put {k = k} e q l v = record { puts = puts_as (q ∙ ap (λ j. pairs (word_pairs k j)) e.is) v; most = omega (arith, v.counts) }

pub ruleset told = (word_valid, word_put, rules)

-- ---- the start tag

pub tagged_put : {d x ws t t₁ t₂ : List ℕ} {i k n m r : ℕ} → NamePut k (bytes "<") n t t₁ m → AttributesPut d x ws i k m t₁ t₂ r → TaggedPut d x ws i k n t t₂ r
tagged_put p q = record { puts = puts_then p.puts q.puts; most = omega (arith, p.most, q.most) }

pub ruleset tagging = (tagged_put, rules)

module _ (put : ℕ) (r : put + 33554432 < 2 ^ 62) where
  pub start_word : {d x ws t t₁ : List ℕ} {n i k l : ℕ} → Held d x ws n → i < n → Word ws i 0 k → TaggedPut d x ws i k put t t₁ l → WordHeld ws i k l
  start_word {i = i} h a w p = record {
    held = omega (arith, h.held, a);
    valid = rw w.is (h.words i a);
    room = omega (arith, r, p.most);
  }

-- the attributes by kind and word 14
abbrev told_pairs : Option (List ℕ) → Option (List ℕ) → Option (List ℕ) → ℕ → ℕ → List Pair
told_pairs a b c k w = given (name_key k) a ++ (given (value_key k) b ++ (given tp_key c ++ word_pairs k w))

four_pairs : (ps qs rs ss : List Pair) → (pairs ps ++ (pairs qs ++ pairs rs)) ++ pairs ss ≡ pairs (ps ++ (qs ++ (rs ++ ss)))
four_pairs ps qs rs ss =
    append_assoc (pairs ps) (pairs qs ++ pairs rs) (pairs ss)
    ∙ ap (◌++◌ (pairs ps)) (append_assoc (pairs qs) (pairs rs) (pairs ss) ∙ ap (◌++◌ (pairs qs)) (sym (pairs-append rs ss)) ∙ sym (pairs-append qs (rs ++ ss)))
    ∙ sym (pairs-append ps (qs ++ (rs ++ ss)))

pub start_put : {d x ws t t₁ t₂ : List ℕ} {i k put l r : ℕ} → Word ws i 0 k → TaggedPut d x ws i k put t t₁ l → WordPut ws i k l t₁ t₂ r → StartPut d x ws i put t t₂ r
start_put {d} {x} {ws} {i = i} {k = k} w p v =
    let a = shown_at d x ws i 2 in
    let b = shown_at d x ws i 5 in
    let c = shown_at d x ws i 8 in
    let o = word_at ws i 14 in
    let e = pairs (given (name_key k) a) ++ (pairs (given (value_key k) b) ++ pairs (given tp_key c)) in
    let f : word_at ws i 0 ≡ get_or (drop (i * 16) ws) 0 0 = sym w.is ∙ word_in w in
    record {
      puts =
          puts_as
          (append_assoc (60 ∷ tag_of k) e (pairs (word_pairs k o))
          ∙ ap (λ l. (60 ∷ tag_of k) ++ l) (four_pairs (given (name_key k) a) (given (value_key k) b) (given tp_key c) (word_pairs k o))
          ∙ ap (λ j. (60 ∷ tag_of j) ++ pairs (told_pairs a b c j o)) w.is
          ∙ ap (λ j. (60 ∷ tag_of (word_at ws i 0)) ++ pairs (told_pairs a b c j o)) f
          ∙ ap (λ j. (60 ∷ tag_of (word_at ws i 0)) ++ pairs (told_pairs a b c (get_or (drop (i * 16) ws) 0 0) j)) (sym (row_word i 14 ws)))
          (puts_then p.puts v.puts);
      most = omega (arith, p.most, v.most);
    }

pub ruleset starts = (held_row, held_few, start_word, start_put, rules)

-- ---- docstrings

doc_empty : (d : List ℕ) (t : Triple) → t.len ≡ 0 → concat (docstrings (over (docstring d) (docstring_by t))) ≡ []
doc_empty d t e = go (absent t)
  where
    go : (b : Bool) → concat (docstrings (over (docstring d) (if b none (some (record { start = t.start; len = t.len }))))) ≡ []
    go true = refl
    go false = rw e

long_there : (t : Triple) → (t.len ≡ 0 → ⊥) → absent t ≡ false
long_there t h = rw (ne_eqb t.len 0 h) (and-false (eqb t.source 0 && eqb t.start 0))

second_true : (a b c e : Bool) → a && b && c && e ≡ true → b ≡ true
second_true true true c e h = refl
second_true true false c e h = never h
second_true false b c e h = never h

good_inside : (d x : List ℕ) (u : Use) (t : Triple) → (t.len ≡ 0 → ⊥) → good_triple d x u any_text t ≡ true → inside d x t ≡ true
unfolding good_triple
good_inside d x u t h e = second_true u.may (inside d x t) (well_formed (shown d x t)) true (rw (long_there t h) at e)

from_document : (d x : List ℕ) (t : Triple) → inside d x t ≡ true → in_document t ≡ true → t.source ≡ 1
from_document d x t e f = go (eqb t.source 1) refl
  where
    zero_source : eqb t.source 1 ≡ false → t.source ≡ 0
    zero_source h = eqb-true t.source 0 (sym (or-false (eqb t.source 0)) ∙ rw h at f)

    nowhere : t.source ≡ 0 → inside d x t ≡ false
    nowhere h = rw h

    go : (b : Bool) → eqb t.source 1 ≡ b → t.source ≡ 1
    go true h = eqb-true t.source 1 h
    go false h = never (sym (nowhere (zero_source h)) ∙ e)

inside_document : (d x : List ℕ) (t : Triple) → inside d x t ≡ true → t.source ≡ 1 → t.start + t.len ≤ length d
inside_document d x t e f = leb-true (t.start + t.len) (length d) (sym (or-false (leb (t.start + t.len) (length d))) ∙ rw f at e)

shown_document : (d x : List ℕ) (t : Triple) → inside d x t ≡ true → t.source ≡ 1 → shown d x t ≡ take t.len (drop t.start d)
unfolding shown
shown_document d x t e f = rw (e, f)

doc_bytes : (s : List ℕ) → 0 < length s → bytes "<tp:docstring>" ++ (s ++ bytes "</tp:docstring>") ≡ concat (docstrings (some s))
unfolding tag closing_tag
doc_bytes [] h = absurd (omega (arith, h))
doc_bytes (b ∷ s) h = sym (append-nil (bytes "<tp:docstring>" ++ ((b ∷ s) ++ bytes "</tp:docstring>")))

-- a docstring that is there and not empty
doc_there : (d x : List ℕ) (u : Use) (t : Triple) → (t.len ≡ 0 → ⊥) → good_triple d x u any_text t ≡ true → in_document t ≡ true → bytes "<tp:docstring>" ++ (shown d x t ++ bytes "</tp:docstring>") ≡ concat (docstrings (over (docstring d) (docstring_by t)))
doc_there d x u t h e f =
    let a = good_inside d x u t h e in
    let b = from_document d x t a f in
    let c = inside_document d x t a b in
    let s = take t.len (drop t.start d) in
    let l : length s ≡ t.len = length-take-le t.len (drop t.start d) (omega (arith, c, length-drop t.start d)) in
    let z : 0 < length s = below_one (length s) (λ q. h (sym l ∙ q)) in
    rw (long_there t h, shown_document d x t a b) (doc_bytes s z)
  where
    below_one : (n : ℕ) → (n ≡ 0 → ⊥) → 0 < n
    below_one n q = omega (arith, q)

pub doc_none : {ws t : List ℕ} {i put : ℕ} {y : Triple} (d x : List ℕ) → TripleIs ws i 11 y → y.len ≡ 0 → DocstringPut d x ws i put t t put
doc_none {ws} {t} {i} {put} d x e f = record {
  puts = puts_as (sym (doc_empty d (triple_at 11 (drop (i * 16) ws)) (ap (λ z. z.len) (sym e.is) ∙ f))) puts_none;
  most = omega arith;
}

module _ {d x ws t t₁ s : List ℕ} {n put m : ℕ} (y : Triple) (h : Held d x ws n) (r : put + 33554432 < 2 ^ 62) (p : Puts (bytes "<tp:docstring>") put t t₁ m) (z : s ≡ shown d x y) where
  doc_short : length s ≤ 1048576
  doc_short = rw z (short_shown d x y h.document h.text)

  pub doc_room : m + length s < 2 ^ 62
  doc_room = omega (arith, r, p.counts, doc_short)

  module _ {t₂ : List ℕ} {l : ℕ} (q : Puts s m t₁ t₂ l) where
    pub doc_end : l + length (bytes "</tp:docstring>") < 2 ^ 62
    doc_end = omega (arith, r, p.counts, q.counts, doc_short)

    pub doc_put : {t₃ : List ℕ} {i r : ℕ} → i < n → TripleIs ws i 11 y → (y.len ≡ 0 → ⊥) → Puts (bytes "</tp:docstring>") l t₂ t₃ r → DocstringPut d x ws i put t t₃ r
    doc_put {i = i} a e f v =
        let w = triple_at 11 (drop (i * 16) ws) in
        let u : s ≡ shown d x w = z ∙ ap (shown d x) e.is in
        record {
          puts =
              puts_as
              (doc_there d x (doc_use (word_at ws i 0)) w (λ g. f (ap (λ o. o.len) e.is ∙ g)) (h.docs i a) (h.docs_in i a))
              (puts_then p (puts_then (puts_as u q) v));
          most = omega (arith, p.counts, q.counts, v.counts, doc_short);
        }

pub ruleset docs = (held_row, held_few, doc_none, doc_room, doc_end, doc_put, rules)
