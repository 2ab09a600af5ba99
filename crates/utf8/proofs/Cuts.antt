-- Where a well-formed text may be cut: at both ends, before a byte that continues no character, after a byte below 128.
use Prim.Native.Nat.{ℕ, zero, suc, ◌+◌, ◌-◌, ◌≤◌, ◌<◌}
use mathlib.Core.Path.{◌≡◌, refl, ap, sym, ◌∙◌}
use mathlib.Core.List.{List, [], ◌∷◌, ◌++◌}
use native.Mathlib.Omega.{arith}
use lib.ListN.{length, take, drop, get_or, length-append, length-drop, take-append-drop, get_or-append}
use lib.Seq.{take-append-add, drop-append-add, get_or-append-add, get_or-drop, take-length, drop-length, take_all, take-add, drop-drop, drop-cons}
use Rattle.utf8.specs.WellFormed.{ill_formed}
use Rattle.utf8.specs.Trim.{Boundary}
use Rattle.utf8.proofs.Sequences.{Followed, Char, char_shape, below}
use Rattle.utf8.proofs.Texts.{All, joined, Whole, none_whole, whole, formed, whole_append, whole_char, after_whole, append_formed, ascii_char}

-- a byte that continues no character
abbrev pub Lead : ℕ → Type 0
Lead b = 0x80 ≤ b → b ≤ 0xbf → ⊥

-- one that does
abbrev pub Next : ℕ → Type 0
Next b = (0x80 ≤ b) × (b ≤ 0xbf)

pub followed_byte : (n : ℕ) (l : List ℕ) (i : ℕ) → Followed n l → i < n → Next (get_or l i 0)
followed_byte zero l i f h = absurd (omega arith)
followed_byte (suc n) [] i f h = absurd f
followed_byte (suc n) (b ∷ l) zero f h = (f.0, f.1)
followed_byte (suc n) (b ∷ l) (suc i) f h = followed_byte n l i f.2 (omega arith)

-- the first byte of a character continues none, and the others do
char_lead : (c : List ℕ) → Char c → Lead (get_or c 0 0)
char_lead [] h = absurd (omega (arith, h.some))
char_lead (a ∷ c) h = (char_shape a c h).leads.0

pub char_next : (c : List ℕ) (k : ℕ) → Char c → k < length c → (k ≡ 0 → ⊥) → Next (get_or c k 0)
char_next [] k h l n = absurd (omega arith)
char_next (a ∷ c) zero h l n = absurd (n refl)
char_next (a ∷ c) (suc k) h l n = followed_byte (length c) c k (char_shape a c h).follow (omega arith)

split : (cs : List (List ℕ)) (k : ℕ) → All cs → k < length (joined cs) → Lead (get_or (joined cs) k 0) → Whole (take k (joined cs)) × Whole (drop k (joined cs))
split [] k h l g = absurd (omega arith)
split (c ∷ cs) zero h l g = (none_whole, record { parts = c ∷ cs; all = h; is = refl })
split (c ∷ cs) (suc k) h l g =
    below (suc k) (length c)
    (λ i. let n = char_next c (suc k) h.0 i (omega arith) in
    absurd ((rw (get_or-append c (joined cs) 0 (suc k) i) at g) n.0 n.1))
    (λ i. let e : suc k ≡ length c + (suc k - length c) = omega arith in
    let r = split cs (suc k - length c) h.1 (omega (arith, length-append c (joined cs))) (rw (e, get_or-append-add c (joined cs) (suc k - length c) 0) at g) in
    rw (e, take-append-add c (joined cs) (suc k - length c), drop-append-add c (joined cs) (suc k - length c)) (whole_append (whole_char h.0) r.0, r.1))

-- a well-formed text may be cut before a byte that continues no character
pub cut_lead : (s : List ℕ) (k : ℕ) → ill_formed s ≡ length s → k < length s → Lead (get_or s k 0) → Boundary s k
cut_lead s k h l g =
    let w = whole s h in
    let r = split w.parts k w.all (rw w.is l) (rw w.is g) in
    record { inside = omega arith; before = formed (rw w.is at r.0); after = formed (rw w.is at r.1) }

module _ (s : List ℕ) (h : ill_formed s ≡ length s) where
  pub cut_start : Boundary s 0
  cut_start = record { inside = omega arith; before = formed none_whole; after = h }

  pub cut-end : Boundary s (length s)
  cut-end = record {
    inside = omega arith;
    before = rw (take-length s) h;
    after = rw (drop-length s) (formed none_whole);
  }

  pub cut_ascii : (k : ℕ) → k < length s → get_or s k 0 < 128 → Boundary s k
  cut_ascii k l g = cut_lead s k h l (omega arith)

-- what follows characters in a well-formed text is well-formed
rest_formed : (p x : List ℕ) → ill_formed p ≡ length p → ill_formed (p ++ x) ≡ length (p ++ x) → ill_formed x ≡ length x
rest_formed p x h k = omega (arith, after_whole x (whole p h), k, length-append p x)

-- from one place where a text may be cut to a further one
cut_add : (s : List ℕ) (a n : ℕ) → Boundary s a → Boundary (drop a s) n → Boundary s (a + n)
cut_add s a n b c = record {
  inside = omega (arith, b.inside, rw (length-drop a s) at c.inside);
  before = rw (take-add a n s) (append_formed (take a s) (take n (drop a s)) b.before c.before);
  after = rw (← drop-drop n a s) c.after;
}

-- past characters that stand at such a place
pub cut_past : (s : List ℕ) (a n : ℕ) → Boundary s a → n ≤ length s - a → Whole (take n (drop a s)) → Boundary s (a + n)
cut_past s a n b h w = cut_add s a n b record {
  inside = rw (length-drop a s) h;
  before = formed w;
  after =
      rest_formed (take n (drop a s)) (drop n (drop a s)) (formed w) (rw (take-append-drop n (drop a s)) b.after);
}

-- after a byte below 128
pub cut_after_ascii : (s : List ℕ) (k : ℕ) → ill_formed s ≡ length s → k < length s → get_or s k 0 < 128 → Boundary s (k + 1)
cut_after_ascii s k h l g =
    cut_past s k 1 (cut_ascii s h k l g) (omega arith) (rw (drop-cons s k 0 l) (whole_char (ascii_char g)))

-- what stands at such a place continues no character
pub cut_is_lead : (s : List ℕ) (k : ℕ) → Boundary s k → k < length s → Lead (get_or s k 0)
cut_is_lead s k b l = let w = whole (drop k s) b.after in go w.parts w.all w.is
  where
    go : (cs : List (List ℕ)) → All cs → joined cs ≡ drop k s → Lead (get_or s k 0)
    go [] h e = let z = ap length e in absurd (omega (arith, length-drop k s))
    go (c ∷ cs) h e =
        let q : get_or c 0 0 ≡ get_or s k 0 = sym (get_or-append c (joined cs) 0 0 h.0.some) ∙ ap (λ (x : List ℕ). get_or x 0 0) (e ∙ drop-cons s k 0 l) in
        rw q at (char_lead c h.0)

-- the part between two such places is well-formed
pub part_formed : (s : List ℕ) (a n : ℕ) → Boundary s a → Boundary s (a + n) → ill_formed (take n (drop a s)) ≡ length (take n (drop a s))
part_formed s a n b c =
    below n (length (drop a s))
    (λ h. (cut_lead (drop a s) n b.after h (rw (get_or-drop a s n 0) (cut_is_lead s (a + n) c (omega (arith, length-drop a s))))).before)
    (λ h. rw (take_all n (drop a s) h) b.after)
