-- The character at a place where a text may be cut: its bytes, its code point, and whether it is White_Space.
use Prim.Native.Nat.{ℕ, zero, suc, ◌+◌, ◌≤◌, ◌<◌}
use mathlib.Core.Path.{◌≡◌, refl, ap, sym, ◌∙◌}
use mathlib.Core.List.{List, [], ◌∷◌}
use mathlib.Core.Bool.{Bool, true, false}
use borrow.Author.Rules.{rules}
use native.Mathlib.Nat.{add-zero}
use native.Mathlib.Numerals.{add-one, add-two, add-three}
use native.Mathlib.Omega.{arith}
use lib.ListN.{length, take, drop, get_or, length-drop}
use lib.Seq.{drop-cons, get_or-drop}
use Rattle.slices.specs.Bytes.{if}
use Rattle.utf8.specs.WellFormed.{to, table, within, sequence}
use Rattle.utf8.specs.WhiteSpace.{code_point, white_space}
use Rattle.utf8.specs.Trim.{Boundary, white}
use Rattle.utf8.specs.Sequence.{taken}
use Rattle.utf8.proofs.Sequences.{Leads, shape, only, within_bounds, below}
use Rattle.utf8.proofs.Texts.{sequence_none}
use Rattle.utf8.proofs.Cuts.{followed_byte}
use Rattle.utf8.proofs.WhiteSpaces.{white_no}

-- what stands at a place: k bytes after the first
record Here (s : List ℕ) (at : ℕ) : Type 0 where
  k : ℕ
  size : sequence (drop at s) ≡ suc k
  leads : Leads (get_or s at 0) k
  room : at + suc k ≤ length s
  bytes : (i : ℕ) → i < k → (0x80 ≤ get_or s (at + 1 + i) 0) × (get_or s (at + 1 + i) 0 ≤ 0xbf)

here : (s : List ℕ) (at : ℕ) → Boundary s at → at < length s → Here s at
here s at b h = go (sequence (drop at s)) refl
  where
    go : (n : ℕ) → sequence (drop at s) ≡ n → Here s at
    go zero e = absurd (omega (arith, sequence_none (drop at s) e, b.after, length-drop at s))
    go (suc k) e =
        let g = shape (get_or s at 0) k (drop (suc at) s) (rw (drop-cons s at 0 h) at e) in
        record {
          k = k;
          size = e;
          leads = g.leads;
          room = omega (arith, g.room, length-drop (suc at) s);
          bytes = λ i l. rw (add-one at, ← get_or-drop (suc at) s i 0) (followed_byte k (drop (suc at) s) i g.follow l);
        }

two_bytes : (s : List ℕ) (at : ℕ) → at + 1 < length s → take 2 (drop at s) ≡ get_or s at 0 ∷ get_or s (at + 1) 0 ∷ []
two_bytes s at h = rw (add-one at, drop-cons s at 0 (omega arith), drop-cons s (suc at) 0 (omega arith))

three_bytes : (s : List ℕ) (at : ℕ) → at + 2 < length s → take 3 (drop at s) ≡ get_or s at 0 ∷ get_or s (at + 1) 0 ∷ get_or s (at + 2) 0 ∷ []
three_bytes s at h =
    rw (add-one at, add-two at, drop-cons s at 0 (omega arith), drop-cons s (suc at) 0 (omega arith), drop-cons s (suc (suc at)) 0 (omega arith))

four_bytes : (s : List ℕ) (at : ℕ) → at + 3 < length s → take 4 (drop at s) ≡ get_or s at 0 ∷ get_or s (at + 1) 0 ∷ get_or s (at + 2) 0 ∷ get_or s (at + 3) 0 ∷ []
four_bytes s at h =
    rw (add-one at, add-two at, add-three at, drop-cons s at 0 (omega arith), drop-cons s (suc at) 0 (omega arith), drop-cons s (suc (suc at)) 0 (omega arith), drop-cons s (suc (suc (suc at))) 0 (omega arith))

-- the second byte after 0xf0
second : (a k : ℕ) (l : List ℕ) → a ≡ 0xf0 → sequence (a ∷ l) ≡ suc k → 0x90 ≤ get_or l 0 0
unfolding sequence taken
second a k [] q e = let z = only 6 table a [] (omega arith) in absurd (omega arith)
second a k (b ∷ l) q e = go (within (to 0x90 0xbf) b) refl
  where
    go : (t : Bool) → within (to 0x90 0xbf) b ≡ t → 0x90 ≤ b
    go true f = (within_bounds (to 0x90 0xbf) b f).0
    go false f = let z = sym (only 6 table a (b ∷ l) (omega arith)) ∙ e in absurd (omega (arith, rw f at z))

second_f0 : (s : List ℕ) (at : ℕ) → at < length s → (k : ℕ) → sequence (drop at s) ≡ suc k → get_or s at 0 ≡ 0xf0 → 0x90 ≤ get_or s (at + 1) 0
second_f0 s at h k e q =
    rw (add-one at, ← add-zero (suc at), ← get_or-drop (suc at) s 0 0) (second (get_or s at 0) k (drop (suc at) s) q (rw (drop-cons s at 0 h) at e))

-- a character of n bytes whose code point is told
sized : (l : List ℕ) (n : ℕ) (c : List ℕ) (t : Bool) → sequence l ≡ n → take n l ≡ c → t ≡ white_space (code_point c) → white l ≡ if t n 0
unfolding white
sized l n c t e f g = rw (e, f, g)

module _ (s : List ℕ) (at : ℕ) (b : Boundary s at) (h : at < length s) where
  module _ (t : Bool) (l : get_or s at 0 < 0x80) (g : t ≡ white_space (get_or s at 0)) where
    is_one : white (drop at s) ≡ if t 1 0
    is_one =
        let w = here s at b h in
        let k = w.leads.1 l in
        sized (drop at s) 1 (get_or s at 0 ∷ []) t (w.size ∙ ap suc k) (rw (drop-cons s at 0 h)) g

    pub one_white : t ≡ true → 1 ≡ white (drop at s)
    one_white e = rw (is_one, e)

    pub one_other : t ≡ false → 0 ≡ white (drop at s)
    one_other e = rw (is_one, e)

  module _ (m : 0x80 ≤ get_or s at 0) where
    more : 0 < (here s at b h).k
    more =
        let w = here s at b h in
        below (get_or s at 0) 0xe0 (λ g. omega (arith, w.leads.2 m g))
        (λ g. below (get_or s at 0) 0xf0 (λ i. omega (arith, w.leads.3 g i)) (λ i. omega (arith, w.leads.4 i)))

    pub room_two : at + 1 < length s
    room_two = omega (arith, (here s at b h).room, more)

    pub lead_two : 0xc0 ≤ get_or s at 0
    lead_two = let f = (here s at b h).leads.0 m in below (get_or s at 0) 0xc0 (λ g. absurd (f (omega arith))) (λ g. g)

    pub next_two : 0x80 ≤ get_or s (at + 1) 0
    next_two = rw add-zero at ((here s at b h).bytes 0 more).0

    module _ (p : ℕ) (q : p ≡ code_point (get_or s at 0 ∷ get_or s (at + 1) 0 ∷ [])) (t : Bool) (l : get_or s at 0 < 0xe0) (g : t ≡ white_space p) where
      is_two : white (drop at s) ≡ if t 2 0
      is_two =
          let w = here s at b h in
          let k = w.leads.2 m l in
          sized (drop at s) 2 (get_or s at 0 ∷ get_or s (at + 1) 0 ∷ []) t (w.size ∙ ap suc k) (two_bytes s at room_two) (g ∙ ap white_space q)

      pub two_white : t ≡ true → 2 ≡ white (drop at s)
      two_white e = rw (is_two, e)

      pub two_other : t ≡ false → 0 ≡ white (drop at s)
      two_other e = rw (is_two, e)

  module _ (m : 0xe0 ≤ get_or s at 0) where
    much : 1 < (here s at b h).k
    much =
        let w = here s at b h in
        below (get_or s at 0) 0xf0 (λ i. omega (arith, w.leads.3 m i)) (λ i. omega (arith, w.leads.4 i))

    pub room_three : at + 2 < length s
    room_three = omega (arith, (here s at b h).room, much)

    pub next_three : 0x80 ≤ get_or s (at + 2) 0
    next_three = let e : at + 1 + 1 ≡ at + 2 = omega arith in rw e at ((here s at b h).bytes 1 much).0

    module _ (p : ℕ) (q : p ≡ code_point (get_or s at 0 ∷ get_or s (at + 1) 0 ∷ get_or s (at + 2) 0 ∷ [])) (t : Bool) (l : get_or s at 0 < 0xf0) (g : t ≡ white_space p) where
      is_three : white (drop at s) ≡ if t 3 0
      is_three =
          let w = here s at b h in
          let k = w.leads.3 m l in
          sized (drop at s) 3 (get_or s at 0 ∷ get_or s (at + 1) 0 ∷ get_or s (at + 2) 0 ∷ []) t (w.size ∙ ap suc k) (three_bytes s at room_three) (g ∙ ap white_space q)

      pub three_white : t ≡ true → 3 ≡ white (drop at s)
      three_white e = rw (is_three, e)

      pub three_other : t ≡ false → 0 ≡ white (drop at s)
      three_other e = rw (is_three, e)

  module _ (m : 0xf0 ≤ get_or s at 0) where
    most : (here s at b h).k ≡ 3
    most = (here s at b h).leads.4 m

    wide : 0x3000 < code_point (take 4 (drop at s))
    wide =
        let w = here s at b h in
        let r : at + 3 < length s = omega (arith, w.room, most) in
        let f = second_f0 s at h w.k w.size in
        rw (four_bytes s at r) (below (get_or s at 0) 0xf1 (λ i. omega (arith, f (omega arith))) (λ i. omega arith))

    pub four_other : 0 ≡ white (drop at s)
    four_other =
        let w = here s at b h in
        let x = wide in
        sym (sized (drop at s) 4 (take 4 (drop at s)) false (w.size ∙ ap suc most) refl (white_no (code_point (take 4 (drop at s))) (omega arith)))

pub ruleset points = (one_white, one_other, room_two, lead_two, next_two, two_white, two_other, room_three, next_three, three_white, three_other, four_other, rules)
