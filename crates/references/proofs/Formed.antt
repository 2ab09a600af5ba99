-- Escaping and unescaping leave a well-formed text well-formed.
use Prim.Native.Nat.{ℕ, zero, suc, ◌+◌, ◌≤◌, ◌<◌}
use mathlib.Core.Path.{◌≡◌, refl, sym, ◌∙◌}
use mathlib.Core.List.{List, [], ◌∷◌, ◌++◌}
use mathlib.Core.Bool.{true, false}
use borrow.Author.Tests.{ne_eqb, leb-true, le-leb}
use native.Mathlib.Numerals.{add-one}
use native.Mathlib.Omega.{arith}
use lib.Dec.{leb}
use lib.ListN.{length, drop, get_or, length-append, length-drop}
use Rattle.slices.specs.Bytes.{all}
use Rattle.slices.proofs.Runs.{both}
use Rattle.scan.specs.Classes.{escapable}
use Rattle.utf8.proofs.Sequences as sequences
use Rattle.utf8.proofs.Sequences.{Char, Followed, below, char_shape}
use Rattle.utf8.proofs.Texts.{All, joined, Whole, none_whole, whole, formed, whole_append, whole_char, ascii_char, ascii}
use Rattle.utf8.proofs.Encodings.{Scalar, utf8_char}
use Rattle.utf8.proofs.Cuts.{cut_after_ascii}
use Rattle.answers.specs.Text.{text}
use Rattle.references.specs.Characters.{xml_char}
use Rattle.references.specs.Escape.{escaped, escape}
use Rattle.references.specs.Unescape.{shown_from, unescape, plain}
use Rattle.references.specs.RoundTrip.{EscapeFormed, UnescapeFormed}
use Rattle.references.proofs.Numbers.{never, char_small, char_surrogate}
use Rattle.references.proofs.Values.{plain_above}
use Rattle.references.proofs.Escapes.{by_escape, escape-append, escape_one, escape_same}
use Rattle.references.proofs.Shapes.{Shape, itself, space, line, referred_to, plain_shows, after_text, piece_next}

-- a character of XML is a scalar value
scalar : (c : ℕ) → xml_char c ≡ true → Scalar c
scalar c h = record {
  small = char_small c h;
  apart = λ k l. never (xml_char c) (sym (char_surrogate c (omega arith) (omega arith) l)) h;
}

-- ---- escaping

high_same : (b : ℕ) → leb 128 b ≡ true → escapable b ≡ false
high_same b h =
    let k : 128 ≤ b = leb-true 128 b h in
    rw (ne_eqb b 38 (omega arith), ne_eqb b 60 (omega arith), ne_eqb b 62 (omega arith), ne_eqb b 34 (omega arith), ne_eqb b 39 (omega arith), ne_eqb b 9 (omega arith), ne_eqb b 10 (omega arith), ne_eqb b 13 (omega arith))

followed_high : (l : List ℕ) → Followed (length l) l → all (leb 128) l ≡ true
followed_high [] h = refl
followed_high (b ∷ l) h = rw (le-leb 128 b h.0) (followed_high l h.2)

-- a character is one byte below 128, or none of its bytes is
by_char : (P : List ℕ → Type 0) (c : List ℕ) → Char c → ((b : ℕ) → b < 128 → P (b ∷ [])) → (all (leb 128) c ≡ true → P c) → P c
by_char P [] h f g = absurd (omega (arith, h.some))
by_char P (a ∷ l) h f g = below a 128 (λ k. one l k (s.leads.1 k)) (λ k. g (rw (le-leb 128 a k) (followed_high l s.follow)))
  where
    s : sequences.Shape a (length l) l
    s = char_shape a l h

    one : (l : List ℕ) → a < 128 → length l ≡ 0 → P (a ∷ l)
    one [] k e = f a k
    one (b ∷ l) k e = absurd (omega arith)

escaped_whole : (b : ℕ) → b < 128 → Whole (escaped b)
escaped_whole b h =
    by_escape (λ x e. Whole e) b (ascii _ refl) (ascii _ refl) (ascii _ refl) (ascii _ refl) (ascii _ refl) (ascii _ refl) (ascii _ refl) (ascii _ refl) (λ e. whole_char (ascii_char h))

escape_char : (c : List ℕ) → Char c → Whole (escape c)
escape_char c h =
    by_char (λ x. Whole (escape x)) c h (λ b k. rw escape_one (escaped_whole b k)) (λ k. rw (escape_same (leb 128) high_same c k) (whole_char h))

escape_chars : (cs : List (List ℕ)) → All cs → Whole (escape (joined cs))
escape_chars [] h = unfold escape in none_whole
escape_chars (c ∷ cs) h = rw escape-append (whole_append (escape_char c h.0) (escape_chars cs h.1))

pub escape_formed : EscapeFormed
escape_formed v h = let w = whole v h in formed (rw w.is at (escape_chars w.parts w.all))

-- ---- unescaping

-- what is left after a byte below 128 at n
after_ascii : (l : List ℕ) (n : ℕ) → Whole l → n < length l → get_or l n 0 < 128 → Whole (drop (suc n) l)
after_ascii l n w h k = rw add-one at (whole (drop (n + 1) l) (cut_after_ascii l n (formed w) h k).after)

shape_whole : {b : ℕ} {l s : List ℕ} {w : ℕ} → b < 128 → Whole l → Shape b l s w → Whole s × Whole (drop w l)
shape_whole h v (itself p q u) = rw (q, u) (whole_char (ascii_char h), v)
shape_whole h v (space q u) = rw (q, u) (ascii _ refl, v)
shape_whole {l = l} h v (line k e q u) = rw (q, u) (ascii _ refl, after_ascii l 0 v (rw e (omega arith)) (rw e (omega arith)))
shape_whole {l = l} h v (referred_to c n x g i e q u) = rw (q, u) (whole_char (utf8_char c (scalar c x)), after_ascii l n v i (omega arith))

all_plain : (c : List ℕ) → all (leb 128) c ≡ true → all plain c ≡ true
all_plain [] h = refl
all_plain (b ∷ c) h =
    let t = both (leb 128 b) (all (leb 128) c) h in
    let k : 128 ≤ b = leb-true 128 b t.0 in
    rw (sym (plain_above b (omega arith))) (all_plain c t.1)

-- what is shown of n bytes at most is well-formed
abbrev Shown : ℕ → Type 0
Shown n = (l : List ℕ) (at : ℕ) (t : List ℕ) → length l ≤ n → Whole l → shown_from 0 l at ≡ text t → Whole t

whole_step : (n : ℕ) → Shown n → (cs : List (List ℕ)) (at : ℕ) (t : List ℕ) → All cs → length (joined cs) ≤ suc n → shown_from 0 (joined cs) at ≡ text t → Whole t
whole_step n i [] at t a h e = let q : [] ≡ t = cc in rw q at none_whole
whole_step n i (c ∷ cs) at t a h e =
    by_char (λ x. length (x ++ joined cs) ≤ suc n → shown_from 0 (x ++ joined cs) at ≡ text t → Whole t) c a.0 one many h e
  where
    left : Whole (joined cs)
    left = record { parts = cs; all = a.1; is = refl }

    one : (b : ℕ) → b < 128 → suc (length (joined cs)) ≤ suc n → shown_from 0 (b ∷ joined cs) at ≡ text t → Whole t
    one b k g e =
        let p = piece_next b (joined cs) at t e in
        let s = shape_whole k left p.3 in
        rw p.6 (whole_append s.0 (i (drop p.1 (joined cs)) (suc at + p.1) p.2 (rw length-drop (omega arith)) s.1 p.5))

    many : all (leb 128) c ≡ true → length (c ++ joined cs) ≤ suc n → shown_from 0 (c ++ joined cs) at ≡ text t → Whole t
    many k g e =
        let p = after_text c t (shown_from 0 (joined cs) (at + length c)) (sym (plain_shows c (joined cs) at (all_plain c k)) ∙ e) in
        rw p.2 (whole_append (whole_char a.0) (i (joined cs) (at + length c) p.0 (omega (arith, length-append c (joined cs), a.0.some)) left p.1))

shown_whole : (n : ℕ) → Shown n
shown_whole zero l at t h w e = let q : l ≡ [] = none l h in let r : [] ≡ t = cc in rw r at none_whole
  where
    none : (l : List ℕ) → length l ≤ 0 → l ≡ []
    none [] h = refl
    none (b ∷ l) h = absurd (omega arith)
shown_whole (suc n) l at t h w e =
    whole_step n (shown_whole n) w.parts at t w.all (rw w.is h) (rw w.is e)

-- what a well-formed value shows is well-formed
pub unescape_formed : UnescapeFormed
unfolding unescape
unescape_formed v t h e = formed (shown_whole (length v) v 0 t (omega arith) (whole v h) e)
