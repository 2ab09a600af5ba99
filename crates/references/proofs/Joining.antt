-- Joined pieces: what unescaping makes of them, and what the entries do.
use Prim.Native.Nat.{ℕ, zero, suc, ◌+◌, ◌≤◌, ◌<◌}
use mathlib.Core.Path.{◌≡◌, refl, sym, ap, ◌∙◌}
use mathlib.Core.List.{List, [], ◌∷◌, ◌++◌, append_assoc}
use mathlib.Core.Bool.{Bool, true, false, ◌||◌}
use borrow.Author.Tests.{lt-ltb, le-ltb}
use native.Mathlib.Nat.{add-zero}
use native.Mathlib.Numerals.{add-one}
use native.Mathlib.Omega.{arith}
use lib.Dec.{eqb, ltb}
use lib.ListN.{length, take, length-append}
use Rattle.slices.specs.Bytes.{if}
use Rattle.slices.proofs.Runs.{by_byte}
use Rattle.utf8.specs.WellFormed.{ill_formed}
use Rattle.utf8.proofs.Sequences.{below}
use Rattle.utf8.proofs.Texts.{bounded, whole, append_formed, after_whole}
use Rattle.utf8.specs.Encoding.{utf8}
use Rattle.answers.specs.Text.{Text, text, wrong, Says}
use Rattle.std.proofs.Common.{Result}
use Rattle.faults.specs.declared.Fault.{Fault}
use Rattle.answers.proofs.Answers.{no_text, done-text, refused-wrong}
use Rattle.references.specs.Escape.{escape}
use Rattle.references.specs.Unescape.{Reference, character, fault, reference, Piece, shows, bad, referred, piece, before, joined, shown_from, unescape}
use Rattle.references.specs.Normal.{leads}
use Rattle.references.specs.Entries.{fitting, escaping, unescaping}
use Rattle.references.specs.Joining.{split_line, moved_on, UnescapeJoins, EscapingJoins, UnescapingJoins, Joined, RefusedAt, EscapeEntriesJoin, UnescapeEntriesJoin}
use Rattle.references.proofs.Values.{before_nil, before_before}
use Rattle.references.proofs.Escapes.{escape-append}
use Rattle.references.proofs.Shapes.{after_text}
use Rattle.references.proofs.RoundTrip.{formed_checked, escaping_done, escaping_text}
use Rattle.references.proofs.Normal.{closed, unclosed, Cut, cut, skip_shown}

-- ---- a place counted from further on

moved_before : (m : ℕ) (s : List ℕ) (t : Text) → moved_on m (before s t) ≡ before s (moved_on m t)
moved_before m s (text t) = refl
moved_before m s (wrong n p) = refl

shifted : (k : ℕ) (l : List ℕ) (at m : ℕ) → shown_from k l (m + at) ≡ moved_on m (shown_from k l at)
shifted k [] at m = refl
shifted zero (b ∷ l) at m = go (piece b l) (λ w. shifted w l (suc at) m)
  where
    go : (p : Piece) → ((w : ℕ) → shown_from w l (m + suc at) ≡ moved_on m (shown_from w l (suc at))) → joined p (m + at) (λ w. shown_from w l (suc (m + at))) ≡ moved_on m (joined p at (λ w. shown_from w l (suc at)))
    go (shows s w) i = let e : suc (m + at) ≡ m + suc at = omega arith in rw (e, i w) (sym (moved_before m s (shown_from w l (suc at))))
    go (bad n) i = refl
shifted (suc k) (b ∷ l) at m = let e : suc (m + at) ≡ m + suc at = omega arith in rw e (shifted k l (suc at) m)

-- ---- no line end is split further on either

split_next : (b : ℕ) (l m : List ℕ) → split_line (b ∷ l) m ≡ false → split_line l m ≡ false
split_next b [] m h = refl
split_next b (c ∷ l) m h = h

split_later : (s l m : List ℕ) → split_line (s ++ l) m ≡ false → split_line l m ≡ false
split_later [] l m h = h
split_later (b ∷ s) l m h = split_later s l m (split_next b (s ++ l) m h)

-- ---- the pieces

abbrev Joins : ℕ → Type 0
Joins n = (a b : List ℕ) (at : ℕ) (s : List ℕ) → length a ≤ n → split_line a b ≡ false → shown_from 0 a at ≡ text s → shown_from 0 (a ++ b) at ≡ before s (shown_from 0 b (at + length a))

module _ (n : ℕ) (i : Joins n) (b : List ℕ) (at : ℕ) (t : List ℕ) where
  -- a piece that shows s, and what is left after it
  on : (s r : List ℕ) (p q : ℕ) → p + length r ≡ q → length r ≤ n → split_line r b ≡ false → before s (shown_from 0 r p) ≡ text t → before s (shown_from 0 (r ++ b) p) ≡ before t (shown_from 0 b q)
  on s r p q e m h f = let a = after_text s t (shown_from 0 r p) f in go a.0 a.1 a.2
    where
      go : (u : List ℕ) → shown_from 0 r p ≡ text u → t ≡ s ++ u → before s (shown_from 0 (r ++ b) p) ≡ before t (shown_from 0 b q)
      go u x y = rw (i r b p u m h x, y, e) (before_before s u (shown_from 0 b q))

  ampersand : (l : List ℕ) → Cut l → length l ≤ n → split_line (38 ∷ l) b ≡ false → shown_from 0 (38 ∷ l) at ≡ text t → shown_from 0 (38 ∷ l ++ b) at ≡ before t (shown_from 0 b (at + suc (length l)))
  unfolding piece
  ampersand l (Cut.none k h) m g f = no_text 9 at t (rw (unclosed k h) at f)
  ampersand l (Cut.some s r h) m g f =
      rw (append_assoc s (59 ∷ r) b, closed s (r ++ b) h) (go (reference s) (rw (closed s r h) at f))
    where
      go : (x : Reference) → joined (referred x (suc (length s))) at (λ w. shown_from w (s ++ 59 ∷ r) (suc at)) ≡ text t → joined (referred x (suc (length s))) at (λ w. shown_from w (s ++ 59 ∷ (r ++ b)) (suc at)) ≡ before t (shown_from 0 b (at + suc (length (s ++ 59 ∷ r))))
      go (fault k) e = no_text k at t e
      go (character c) e =
          rw (skip_shown s 59 (r ++ b) (suc at))
          (on (utf8 c) r (suc at + suc (length s)) (at + suc (length (s ++ 59 ∷ r))) (omega (arith, length-append s (59 ∷ r))) (omega (arith, length-append s (59 ∷ r)))
          (split_next 59 r b (split_later s (59 ∷ r) b (split_next 38 (s ++ 59 ∷ r) b g))) (rw (skip_shown s 59 r (suc at)) at e))

  line : (l : List ℕ) → length l ≤ n → split_line (13 ∷ l) b ≡ false → shown_from 0 (13 ∷ l) at ≡ text t → shown_from 0 (13 ∷ l ++ b) at ≡ before t (shown_from 0 b (at + suc (length l)))
  unfolding piece
  line [] m g f = last b g
    where
      is : t ≡ 32 ∷ []
      is = cc

      last : (b : List ℕ) → leads 10 b ≡ false → shown_from 0 (13 ∷ b) at ≡ before t (shown_from 0 b (at + 1))
      last [] g = rw is
      last (c ∷ b) g = rw (is, add-one) (alone (eqb c 10) g)
        where
          alone : (x : Bool) → x ≡ false → joined (if x (shows (32 ∷ []) 1) (shows (32 ∷ []) 0)) at (λ w. shown_from w (c ∷ b) (suc at)) ≡ before (32 ∷ []) (shown_from 0 (c ∷ b) (suc at))
          alone true q = cc
          alone false q = refl
  line (c ∷ l) m g f =
      by_byte (λ y. split_line (13 ∷ y ∷ l) b ≡ false → shown_from 0 (13 ∷ y ∷ l) at ≡ text t → shown_from 0 (13 ∷ y ∷ l ++ b) at ≡ before t (shown_from 0 b (at + suc (suc (length l))))) c 10
      (λ h e. on (32 ∷ []) l (suc (suc at)) (at + suc (suc (length l))) (omega arith) (omega arith) (split_next 10 l b h) e)
      (λ k h e. rw k (on (32 ∷ []) (c ∷ l) (suc at) (at + suc (suc (length l))) (omega arith) m h (rw k at e)))
      g f

  plainly : (c : ℕ) (l : List ℕ) → eqb c 38 ≡ false → eqb c 13 ≡ false → length l ≤ n → split_line (c ∷ l) b ≡ false → shown_from 0 (c ∷ l) at ≡ text t → shown_from 0 (c ∷ l ++ b) at ≡ before t (shown_from 0 b (at + suc (length l)))
  unfolding piece
  plainly c l h k m g f = rw (h, k) (go (eqb c 10 || eqb c 9) (rw (h, k) at f))
    where
      go : (x : Bool) → joined (if x (shows (32 ∷ []) 0) (shows (c ∷ []) 0)) at (λ w. shown_from w l (suc at)) ≡ text t → joined (if x (shows (32 ∷ []) 0) (shows (c ∷ []) 0)) at (λ w. shown_from w (l ++ b) (suc at)) ≡ before t (shown_from 0 b (at + suc (length l)))
      go true e = on (32 ∷ []) l (suc at) (at + suc (length l)) (omega arith) m (split_next c l b g) e
      go false e = on (c ∷ []) l (suc at) (at + suc (length l)) (omega arith) m (split_next c l b g) e

  first : (c : ℕ) (l : List ℕ) → length l ≤ n → split_line (c ∷ l) b ≡ false → shown_from 0 (c ∷ l) at ≡ text t → shown_from 0 (c ∷ l ++ b) at ≡ before t (shown_from 0 b (at + suc (length l)))
  first c l m =
      by_byte (λ y. split_line (y ∷ l) b ≡ false → shown_from 0 (y ∷ l) at ≡ text t → shown_from 0 (y ∷ l ++ b) at ≡ before t (shown_from 0 b (at + suc (length l)))) c 38 (ampersand l (cut l) m) λ h.
      by_byte (λ y. eqb y 38 ≡ false → split_line (y ∷ l) b ≡ false → shown_from 0 (y ∷ l) at ≡ text t → shown_from 0 (y ∷ l ++ b) at ≡ before t (shown_from 0 b (at + suc (length l)))) c 13 (λ q. line l m) (λ k q. plainly c l q k m) h

none_joins : (b : List ℕ) (at : ℕ) (s : List ℕ) → text [] ≡ text s → shown_from 0 b at ≡ before s (shown_from 0 b (at + 0))
none_joins b at s e = let q : s ≡ [] = cc in rw (q, add-zero) (sym (before_nil (shown_from 0 b at)))

some_joins : (n : ℕ) → Joins n → Joins (suc n)
some_joins n i [] b at s m h e = none_joins b at s e
some_joins n i (c ∷ l) b at s m h e = first n i b at s c l (omega arith) h e

no_joins : Joins zero
no_joins [] b at s m h e = none_joins b at s e
no_joins (c ∷ l) b at s m h e = absurd (omega arith)

joins : (n : ℕ) → Joins n
joins zero = no_joins
joins (suc n) = some_joins n (joins n)

pub unescape_join : UnescapeJoins
unfolding unescape
unescape_join a b s e h = joins (length a) a b 0 s (omega arith) h e ∙ ap (before s) moved
  where
    moved : shown_from 0 b (0 + length a) ≡ moved_on (length a) (shown_from 0 b 0)
    moved = let q : 0 + length a ≡ length a + 0 = omega arith in rw q (shifted 0 b 0 (length a))

-- ---- at the entries

pub escaping_joins : EscapingJoins
escaping_joins a b m n room f g h i j k = record {
  first = escaping_done a f m (omega (arith, length-append a b)) i;
  second = escaping_done b g n (omega (arith, length-append a b)) j;
  both = rw (escape-append a b) at (escaping_done (a ++ b) (append_formed a b f g) room h (rw (escape-append a b) k));
}

module _ (v : List ℕ) (room : ℕ) (h : length v ≤ 1048576) where
  ill : ill_formed v < length v → unescaping v room ≡ wrong 1 (ill_formed v)
  unfolding unescaping
  ill k = rw (le-ltb 1048576 (length v) h, lt-ltb (ill_formed v) (length v) k)

  well : ill_formed v ≡ length v → unescaping v room ≡ fitting (length v) room (unescape v)
  unfolding unescaping
  well f = formed_checked v _ f h

  -- UTF-8, or not
  by_form : {P : Type 0} → (ill_formed v < length v → P) → (ill_formed v ≡ length v → P) → P
  by_form f g = below (ill_formed v) (length v) f (λ k. g (omega (arith, bounded v)))

  fits : (t : List ℕ) (u : Text) → fitting (length v) room u ≡ text t → u ≡ text t
  fits t (text x) e = go (ltb room (length x)) e
    where
      go : (c : Bool) → if c (wrong 18 (length v)) (text x) ≡ text t → text x ≡ text t
      go true e = no_text 18 (length v) t e
      go false e = e
  fits t (wrong n p) e = no_text n p t e

  faults : (n p : ℕ) → (n ≡ 18 → ⊥) → (u : Text) → fitting (length v) room u ≡ wrong n p → u ≡ wrong n p
  faults n p d (text x) e = go (ltb room (length x)) e
    where
      go : (c : Bool) → if c (wrong 18 (length v)) (text x) ≡ wrong n p → text x ≡ wrong n p
      go true e = let q : n ≡ 18 = cc in absurd (d q)
      go false e = e
  faults n p d (wrong k q) e = e

  shown : (t : List ℕ) → unescaping v room ≡ text t → (ill_formed v ≡ length v) × (unescape v ≡ text t)
  shown t e = by_form (λ k. no_text 1 (ill_formed v) t (sym (ill k) ∙ e)) (λ f. (f, fits t (unescape v) (sym (well f) ∙ e)))

module _ (a b s : List ℕ) (n room : ℕ) (f : ill_formed a ≡ length a) (e : unescape a ≡ text s) (g : split_line a b ≡ false) (h : length (a ++ b) ≤ 1048576) where
  small : length b ≤ 1048576
  small = omega (arith, length-append a b)

  both_well : (o : Text) → ill_formed b ≡ length b → unescape b ≡ o → unescaping (a ++ b) room ≡ fitting (length (a ++ b)) room (before s (moved_on (length a) o))
  both_well o k q = well (a ++ b) room h (append_formed a b f k) ∙ rw (unescape_join a b s e g, q)

  joined_shown : (t : List ℕ) → unescaping b n ≡ text t → length (s ++ t) ≤ room → unescaping (a ++ b) room ≡ text (s ++ t)
  joined_shown t q r = let k = shown b n small t q in both_well (text t) k.0 k.1 ∙ rw (le-ltb room (length (s ++ t)) r)

  joined_wrong : (k p : ℕ) → (k ≡ 18 → ⊥) → unescaping b n ≡ wrong k p → unescaping (a ++ b) room ≡ wrong k (length a + p)
  joined_wrong k p d q = by_form b n small
      (λ i. let w : wrong 1 (ill_formed b) ≡ wrong k p = sym (ill b n small i) ∙ q in
      let x : ill_formed (a ++ b) ≡ length a + ill_formed b = after_whole b (whole a f) in
      let y : k ≡ 1 = cc in
      let z : p ≡ ill_formed b = cc in
      ill (a ++ b) room h (omega (arith, length-append a b)) ∙ rw (x, y, z))
      (λ i. both_well (wrong k p) i (faults b n small k p d (unescape b) (sym (well b n small i) ∙ q)))

pub unescaping_joins : UnescapingJoins
unescaping_joins a b s m n room e g h =
    let k = shown a m (omega (arith, length-append a b)) s e in
    record { accepted = joined_shown a b s n room k.0 k.1 g h; refused = joined_wrong a b s n room k.0 k.1 g h }

-- ---- answers and bytes

joined_says : {o : Text} {x y z t u : List ℕ} {m n : ℕ} {r : Result ℕ Fault} → Says o (length z) z r → o ≡ text (t ++ u) → length t ≡ m → length u ≡ n → take m x ≡ t → take n y ≡ u → Joined x y z m n r
joined_says s e i j k l = record {
  answer = s.answer ∙ rw (e, length-append, i, j);
  left = s.left ∙ rw (e, k, l, length-append, i, j);
}

refused_says : {o : Text} {z : List ℕ} {k p : ℕ} {r : Result ℕ Fault} → Says o (length z) z r → o ≡ wrong k p → RefusedAt k p z r
refused_says s e = record { answer = s.answer ∙ rw e; left = s.left ∙ rw e }

pub escape_entries : EscapeEntriesJoin
escape_entries a b x y z p q r m n sa sb sz e f h k =
    let c = done-text sa e in
    let d = done-text sb f in
    let i = escaping_text a (length x) c.0 c.1 in
    let j = escaping_text b (length y) d.0 d.1 in
    let l : length (escape a ++ escape b) ≤ length z = rw length-append (omega (arith, c.2, d.2, ap length i.1, ap length j.1)) in
    let o : escaping (a ++ b) (length z) ≡ text (escape a ++ escape b) = rw (escape-append a b) at (escaping_done (a ++ b) (append_formed a b i.0 j.0) (length z) h (rw (escape-append a b) l)) in
    joined_says sz (o ∙ rw (i.1, j.1)) c.2 d.2 c.3 d.3

pub unescape_entries : UnescapeEntriesJoin
unescape_entries a b x y z p q r m sa sb sz e g h =
    let c = done-text sa e in
    let w = unescaping_joins a b c.0 (length x) (length y) (length z) c.1 g h in
    record {
      accepted = λ n f k.
          let d = done-text sb f in
          joined_says sz (w.accepted d.0 d.1 (rw length-append (omega (arith, c.2, d.2)))) c.2 d.2 c.3 d.3;
      refused = λ k i v f. refused_says sz (w.refused k i v (refused-wrong sb f));
    }
