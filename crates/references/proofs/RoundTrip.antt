-- Escaping is undone by unescaping, and leaves neither `"` nor `<`; and so at the entries.
use Prim.Native.Nat.{ℕ, ◌≤◌}
use mathlib.Core.Path.{◌≡◌, refl, ap, ◌∙◌}
use mathlib.Core.List.{List, [], ◌∷◌, ◌++◌}
use mathlib.Core.Bool.{Bool, true, false, not, ◌||◌}
use borrow.Author.Tests.{lt-ltb, le-ltb, ne_eqb}
use native.Mathlib.Omega.{arith}
use lib.Dec.{eqb, ltb}
use lib.ListN.{length, take}
use Rattle.slices.specs.Bytes.{if, other, all}
use Rattle.slices.proofs.Runs.{both}
use Rattle.scan.specs.Classes.{escapable}
use Rattle.utf8.specs.WellFormed.{ill_formed}
use Rattle.utf8.specs.Encoding.{utf8}
use Rattle.utf8.proofs.Sequences.{below}
use Rattle.utf8.proofs.Texts.{bounded}
use Rattle.answers.specs.Text.{Text, text, wrong, roomy}
use Rattle.answers.proofs.Answers.{no_text, done-text}
use Rattle.references.specs.Characters.{xml_char}
use Rattle.references.specs.Escape.{escaped, escape}
use Rattle.references.specs.Unescape.{reference, piece, shown_from, unescape, plain}
use Rattle.references.specs.Entries.{checked, escaping, unescaping}
use Rattle.references.specs.RoundTrip.{UnescapeEscape, EscapeQuotable, EscapingDone, UnescapingDone, EntriesRestore}
use Rattle.references.proofs.Numbers.{never}
use Rattle.references.proofs.Escapes.{by_escape}
use Rattle.references.proofs.Shapes.{plain_shows}
use Rattle.references.proofs.Formed.{escape_formed}

-- what is not escaped shows itself
pub same_plain : (b : ℕ) → escapable b ≡ false → plain b ≡ true
same_plain b = go (eqb b 38) (eqb b 60) (eqb b 62) (eqb b 34) (eqb b 39) (eqb b 9) (eqb b 10) (eqb b 13)
  where
    go : (p q r s t u v w : Bool) → p || q || r || s || t || u || v || w ≡ false → not (p || u || v || w) ≡ true
    go true q r s t u v w e = cc
    go false true r s t u v w e = cc
    go false false true s t u v w e = cc
    go false false false true t u v w e = cc
    go false false false false true u v w e = cc
    go false false false false false true v w e = cc
    go false false false false false false true w e = cc
    go false false false false false false false true e = cc
    go false false false false false false false false e = refl

shown_escape : (s : List ℕ) (at : ℕ) → shown_from 0 (escape s) at ≡ text s
unfolding escape piece reference xml_char utf8
shown_escape [] at = refl
shown_escape (b ∷ s) at =
    by_escape (λ x e. (at : ℕ) → shown_from 0 (e ++ escape s) at ≡ text (x ∷ s)) b
    (λ at. rw (shown_escape s))
    (λ at. rw (shown_escape s))
    (λ at. rw (shown_escape s))
    (λ at. rw (shown_escape s))
    (λ at. rw (shown_escape s))
    (λ at. rw (shown_escape s))
    (λ at. rw (shown_escape s))
    (λ at. rw (shown_escape s))
    (λ h at. plain_shows (b ∷ []) (escape s) at (rw (same_plain b h)) ∙ rw (shown_escape s))
    at

pub unescape_escape : UnescapeEscape
unfolding unescape
unescape_escape s = shown_escape s 0

all_append : (p : ℕ → Bool) (a b : List ℕ) → all p a ≡ true → all p b ≡ true → all p (a ++ b) ≡ true
all_append p [] b h k = k
all_append p (x ∷ a) b h k = let t = both (p x) (all p a) h in rw t.0 (all_append p a b t.1 k)

all_split : (p : ℕ → Bool) (a b : List ℕ) → all p (a ++ b) ≡ true → (all p a ≡ true) × (all p b ≡ true)
all_split p [] b h = (refl, h)
all_split p (x ∷ a) b h =
    let t = both (p x) (all p (a ++ b)) h in
    let u = all_split p a b t.1 in
    (rw t.0 u.0, u.1)

-- the bytes that are escaped
abbrev eight : List ℕ
eight = 38 ∷ 60 ∷ 62 ∷ 34 ∷ 39 ∷ 9 ∷ 10 ∷ 13 ∷ []

-- a class that has all bytes of their references, and all bytes that are not escaped, has all that escaping writes
escape_all : (p : ℕ → Bool) → all p (escape eight) ≡ true → ((b : ℕ) → escapable b ≡ false → p b ≡ true) → (s : List ℕ) → all p (escape s) ≡ true
unfolding escape
escape_all p h g [] = refl
escape_all p h g (b ∷ s) =
    let a1 = all_split p (escaped 38) (escape (60 ∷ 62 ∷ 34 ∷ 39 ∷ 9 ∷ 10 ∷ 13 ∷ [])) h in
    let a2 = all_split p (escaped 60) (escape (62 ∷ 34 ∷ 39 ∷ 9 ∷ 10 ∷ 13 ∷ [])) a1.1 in
    let a3 = all_split p (escaped 62) (escape (34 ∷ 39 ∷ 9 ∷ 10 ∷ 13 ∷ [])) a2.1 in
    let a4 = all_split p (escaped 34) (escape (39 ∷ 9 ∷ 10 ∷ 13 ∷ [])) a3.1 in
    let a5 = all_split p (escaped 39) (escape (9 ∷ 10 ∷ 13 ∷ [])) a4.1 in
    let a6 = all_split p (escaped 9) (escape (10 ∷ 13 ∷ [])) a5.1 in
    let a7 = all_split p (escaped 10) (escape (13 ∷ [])) a6.1 in
    let a8 = all_split p (escaped 13) [] a7.1 in
    all_append p (escaped b) (escape s)
    (by_escape (λ x e. all p e ≡ true) b a1.0 a2.0 a3.0 a4.0 a5.0 a6.0 a7.0 a8.0 (λ k. rw (g b k)))
    (escape_all p h g s)

-- a byte that is escaped, and in no reference, is in nothing that escaping writes
escape_without : (q : ℕ) → escapable q ≡ true → all (other q) (escape eight) ≡ true → (s : List ℕ) → all (other q) (escape s) ≡ true
escape_without q e h = escape_all (other q) h (λ b k. rw (ne_eqb b q (λ i. never (escapable q) (rw i at k) e)))

pub escape_quoteless : (s : List ℕ) → all (other 34) (escape s) ≡ true
unfolding escape
escape_quoteless = escape_without 34 refl refl

escape_tagless : (s : List ℕ) → all (other 60) (escape s) ≡ true
unfolding escape
escape_tagless = escape_without 60 refl refl

pub escape_quotable : EscapeQuotable
escape_quotable s = (escape_quoteless s, escape_tagless s)

-- ---- at the entries

pub formed_checked : (v : List ℕ) (o : Text) → ill_formed v ≡ length v → length v ≤ 1048576 → checked v o ≡ o
formed_checked v o f h = rw (le-ltb 1048576 (length v) h, f, le-ltb (length v) (length v) (omega arith))

pub escaping_done : EscapingDone
unfolding escaping
escaping_done v f room h k = formed_checked v _ f h ∙ rw (le-ltb room (length (escape v)) k)

pub unescaping_done : UnescapingDone
unfolding unescaping
unescaping_done v f room h k = formed_checked (escape v) _ (escape_formed v f) h ∙ rw (unescape_escape v, le-ltb room (length v) k)

-- ---- what a text says of the value

pub checked_text : (v : List ℕ) (o : Text) (t : List ℕ) → checked v o ≡ text t → (length v ≤ 1048576) × (ill_formed v ≡ length v) × (o ≡ text t)
checked_text v o t e =
    below 1048576 (length v) (λ h. no_text 2 1048576 t (rw (lt-ltb 1048576 (length v) h) at e))
    (λ h. below (ill_formed v) (length v)
    (λ i. no_text 1 (ill_formed v) t (rw (le-ltb 1048576 (length v) h, lt-ltb (ill_formed v) (length v) i) at e))
    (λ i. (h, omega (arith, bounded v), rw (le-ltb 1048576 (length v) h, le-ltb (ill_formed v) (length v) i) at e)))

pub escaping_text : (v : List ℕ) (room : ℕ) (t : List ℕ) → escaping v room ≡ text t → (ill_formed v ≡ length v) × (t ≡ escape v)
unfolding escaping
escaping_text v room t e = let c = checked_text v (roomy room (text (escape v))) t e in (c.1, go (ltb room (length (escape v))) c.2)
  where
    go : (x : Bool) → if x (wrong 21 (length (escape v))) (text (escape v)) ≡ text t → t ≡ escape v
    go true q = no_text 21 (length (escape v)) t q
    go false q = cc

-- ---- answers and bytes

pub entries_restore : EntriesRestore
entries_restore v x y p r m a b e h k =
    let d = done-text a e in
    let g = escaping_text v (length x) d.0 d.1 in
    let q : take m x ≡ escape v = d.3 ∙ g.1 in
    let l : length (escape v) ≤ 1048576 = omega (arith, d.2, ap length g.1) in
    let o : unescaping (take m x) (length y) ≡ text v = rw q (unescaping_done v g.0 (length y) l k) in
    record { answer = b.answer ∙ rw o; left = b.left ∙ rw o }
