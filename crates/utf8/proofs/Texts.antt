-- Well-formed texts: they are characters, one after the other; where they may be cut, and how they are put together.
use Prim.Native.Nat.{ℕ, zero, suc, ◌+◌, ◌≤◌, ◌<◌}
use mathlib.Core.Path.{◌≡◌, refl, ap, sym, ◌∙◌}
use mathlib.Core.List.{List, [], ◌∷◌, ◌++◌, append-nil, append_assoc, reverse, reverse-cons}
use mathlib.Core.Bool.{true}
use borrow.Author.Tests.{ltb-true}
use native.Mathlib.Nat.{add-zero}
use native.Mathlib.Omega.{arith}
use lib.Dec.{ltb}
use lib.ListN.{length, take, drop, get_or, length-append, length-drop, take-append-drop}
use lib.Seq.{take-append_seam}
use Rattle.slices.specs.Bytes.{all}
use Rattle.slices.proofs.Runs.{both}
use Rattle.utf8.specs.WellFormed.{sequence, onward, ill_formed_from, ill_formed}
use Rattle.utf8.specs.WhiteSpace.{characters_from, characters}
use Rattle.utf8.proofs.Sequences.{Char, ascii_first, shape, shape_char, char_first}

abbrev pub All : List (List ℕ) → Type 0
All [] = Unit {0}
All (c ∷ cs) = Char c × All cs

abbrev pub joined : List (List ℕ) → List ℕ
joined [] = []
joined (c ∷ cs) = c ++ joined cs

-- a text that is characters
pub record Whole (s : List ℕ) : Type 0 where
  pub parts : List (List ℕ)
  pub all : All parts
  pub is : joined parts ≡ s

pub none_whole : Whole []
none_whole = record { parts = []; all = tt; is = refl }

-- a text that is characters, and then what is none
record Parsed (s : List ℕ) : Type 0 where
  parts : List (List ℕ)
  all : All parts
  end : List ℕ
  is : joined parts ++ end ≡ s
  stops : sequence end ≡ 0

-- the bytes of a sequence are passed over
skip : (c x : List ℕ) (at : ℕ) → ill_formed_from (length c) (c ++ x) at ≡ ill_formed_from 0 x (at + length c)
skip [] x at = rw (add-zero at)
skip (a ∷ c) x at = let e : suc at + length c ≡ at + suc (length c) = omega arith in skip c x (suc at) ∙ rw e

past_char : (c x : List ℕ) (at : ℕ) → Char c → ill_formed_from 0 (c ++ x) at ≡ ill_formed_from 0 x (at + length c)
past_char [] x at h = absurd (omega (arith, h.some))
past_char (a ∷ c) x at h =
    let e : suc at + length c ≡ at + suc (length c) = omega arith in
    rw (char_first (a ∷ c) x h) (skip c x (suc at) ∙ rw e)

past_chars : (cs : List (List ℕ)) (x : List ℕ) (at : ℕ) → All cs → ill_formed_from 0 (joined cs ++ x) at ≡ ill_formed_from 0 x (at + length (joined cs))
past_chars [] x at h = rw (add-zero at)
past_chars (c ∷ cs) x at h =
    let e : at + length c + length (joined cs) ≡ at + length (c ++ joined cs) = rw (length-append c (joined cs)) (omega arith) in
    rw (append_assoc c (joined cs) x) (past_char c (joined cs ++ x) at h.0 ∙ past_chars cs x (at + length c) h.1 ∙ rw e)

stopped : (x : List ℕ) (at : ℕ) → sequence x ≡ 0 → ill_formed_from 0 x at ≡ at
stopped [] at e = refl
stopped (b ∷ l) at e = rw e

-- the place counted from further on
shifted : (x : List ℕ) (k at : ℕ) → ill_formed_from k x at ≡ at + ill_formed_from k x 0
shifted [] k at = sym (add-zero at)
shifted (b ∷ l) zero at = go (sequence (b ∷ l)) (λ k n. shifted l k n)
  where
    go : (n : ℕ) → ((k m : ℕ) → ill_formed_from k l m ≡ m + ill_formed_from k l 0) → onward n at (λ k. ill_formed_from k l (suc at)) ≡ at + onward n 0 (λ k. ill_formed_from k l 1)
    go zero r = sym (add-zero at)
    go (suc k) r = r k (suc at) ∙ let e = r k 1 in omega arith
shifted (b ∷ l) (suc k) at = shifted l k (suc at) ∙ let e = shifted l k 1 in omega arith

parse_first : (n : ℕ) (s : List ℕ) → length s ≤ suc n → ((t : List ℕ) → length t ≤ n → Parsed t) → Parsed s
parse_first n [] h r = record { parts = []; all = tt; end = []; is = refl; stops = unfold sequence in refl }
parse_first n (a ∷ l) h r = go (sequence (a ∷ l)) refl
  where
    go : (k : ℕ) → sequence (a ∷ l) ≡ k → Parsed (a ∷ l)
    go zero e = record { parts = []; all = tt; end = a ∷ l; is = refl; stops = e }
    go (suc k) e =
        let p = r (drop k l) (rw (length-drop k l) (omega arith)) in
        record {
          parts = (a ∷ take k l) ∷ p.parts;
          all = (shape_char (shape a k l e), p.all);
          end = p.end;
          is = rw (append_assoc (take k l) (joined p.parts) p.end, p.is, take-append-drop k l);
          stops = p.stops;
        }

parse : (n : ℕ) (s : List ℕ) → length s ≤ n → Parsed s
parse zero s h = parse_first zero s (omega arith) (λ t g. record { parts = []; all = tt; end = []; is = nil t g; stops = unfold sequence in refl })
  where
    nil : (t : List ℕ) → length t ≤ 0 → [] ≡ t
    nil [] g = refl
    nil (a ∷ t) g = absurd (omega arith)
parse (suc n) s h = parse_first n s h (λ t g. parse n t g)

parts_formed : (cs : List (List ℕ)) (x : List ℕ) → All cs → ill_formed (joined cs ++ x) ≡ length (joined cs) + ill_formed x
unfolding ill_formed
parts_formed cs x h = past_chars cs x 0 h ∙ shifted x 0 (0 + length (joined cs)) ∙ omega arith

pub formed : {s : List ℕ} → Whole s → ill_formed s ≡ length s
unfolding ill_formed
formed {s} w =
    rw (← w.is) (rw append-nil at (past_chars w.parts [] 0 w.all) ∙ omega arith)

pub bounded : (s : List ℕ) → ill_formed s ≤ length s
unfolding ill_formed
bounded s =
    let p = parse (length s) s (omega arith) in
    let e = past_chars p.parts p.end 0 p.all ∙ stopped p.end (0 + length (joined p.parts)) p.stops in
    rw (← p.is) (rw (e, length-append (joined p.parts) p.end) (omega arith))

pub whole : (s : List ℕ) → ill_formed s ≡ length s → Whole s
unfolding ill_formed
whole s e =
    let p = parse (length s) s (omega arith) in
    let i = past_chars p.parts p.end 0 p.all ∙ stopped p.end (0 + length (joined p.parts)) p.stops in
    let z : length p.end ≡ 0 = omega (arith, length-append (joined p.parts) p.end, rw p.is at i, ap length p.is) in
    record { parts = p.parts; all = p.all; is = ends (joined p.parts) p.end z ∙ p.is }
  where
    ends : (l x : List ℕ) → length x ≡ 0 → l ≡ l ++ x
    ends l [] z = sym (append-nil l)
    ends l (a ∷ x) z = absurd (omega arith)

-- what stands before the first ill-formed sequence
pub start_whole : (s : List ℕ) → Whole (take (ill_formed s) s)
unfolding ill_formed
start_whole s = let p = parse (length s) s (omega arith) in rw p.is at (go p.parts p.end p.all p.stops)
  where
    go : (cs : List (List ℕ)) (x : List ℕ) → All cs → sequence x ≡ 0 → Whole (take (ill_formed (joined cs ++ x)) (joined cs ++ x))
    go cs x h k =
        let i : ill_formed (joined cs ++ x) ≡ length (joined cs) = past_chars cs x 0 h ∙ stopped x (0 + length (joined cs)) k ∙ omega arith in
        record { parts = cs; all = h; is = rw (i, take-append_seam (joined cs) x) }

-- the characters that the definition finds are those that the text is made of
over : (c x : List ℕ) → characters_from (length c) (c ++ x) ≡ characters_from 0 x
over [] x = refl
over (a ∷ c) x = over c x

pub characters_first : (c x : List ℕ) → Char c → characters (c ++ x) ≡ c ∷ characters x
unfolding characters
characters_first [] x h = absurd (omega (arith, h.some))
characters_first (a ∷ c) x h = rw (char_first (a ∷ c) x h, take-append_seam c x, over c x)

pub characters_joined : (cs : List (List ℕ)) → All cs → characters (joined cs) ≡ cs
characters_joined [] h = unfold characters in refl
characters_joined (c ∷ cs) h = characters_first c (joined cs) h.0 ∙ ap (◌∷◌ c) (characters_joined cs h.1)

pub characters_whole : {s : List ℕ} → Whole s → All (characters s) × (joined (characters s) ≡ s)
characters_whole {s} w =
    let e : characters s ≡ w.parts = rw w.is at (characters_joined w.parts w.all) in
    rw e (w.all, w.is)

pub all_append : (cs ds : List (List ℕ)) → All cs → All ds → All (cs ++ ds)
all_append [] ds h k = k
all_append (c ∷ cs) ds h k = (h.0, all_append cs ds h.1 k)

pub joined_append : (cs ds : List (List ℕ)) → joined (cs ++ ds) ≡ joined cs ++ joined ds
joined_append [] ds = refl
joined_append (c ∷ cs) ds = rw (joined_append cs ds) (sym (append_assoc c (joined cs) (joined ds)))

pub reversed_long : (cs : List (List ℕ)) → length (joined (reverse cs)) ≡ length (joined cs)
reversed_long [] = refl
reversed_long (c ∷ cs) =
    let e : length (joined (c ∷ [])) ≡ length c = length-append c [] ∙ omega arith in
    rw (reverse-cons c cs, joined_append (reverse cs) (c ∷ []), length-append (joined (reverse cs)) (joined (c ∷ [])), length-append c (joined cs), e, reversed_long cs) (omega arith)

pub whole_append : {a b : List ℕ} → Whole a → Whole b → Whole (a ++ b)
whole_append v w = record {
  parts = v.parts ++ w.parts;
  all = all_append v.parts w.parts v.all w.all;
  is = rw (joined_append v.parts w.parts, v.is, w.is);
}

pub whole_char : {c : List ℕ} → Char c → Whole c
whole_char {c} h = record { parts = c ∷ []; all = (h, tt); is = append-nil c }

-- two well-formed texts, one after the other
pub append_formed : (a b : List ℕ) → ill_formed a ≡ length a → ill_formed b ≡ length b → ill_formed (a ++ b) ≡ length (a ++ b)
append_formed a b h k = formed (whole_append (whole a h) (whole b k))

-- what follows characters, by what is left of it
pub after_whole : {p : List ℕ} (x : List ℕ) → Whole p → ill_formed (p ++ x) ≡ length p + ill_formed x
after_whole {p} x w = rw (← w.is) (parts_formed w.parts x w.all)

-- what stands first, by how many bytes it takes
pub sequence_char : (l : List ℕ) (n : ℕ) → n ≡ sequence l → (n ≡ 0 → ⊥) → Char (take n l) × (n ≤ length l)
sequence_char [] n e h = absurd (h (e ∙ (unfold sequence in refl)))
sequence_char (a ∷ l) zero e h = absurd (h refl)
sequence_char (a ∷ l) (suc n) e h = let g = shape a n l (sym e) in (shape_char g, omega (arith, g.room))

pub sequence_none : (l : List ℕ) → sequence l ≡ 0 → ill_formed l ≡ 0
unfolding ill_formed
sequence_none l e = stopped l 0 e

-- a byte below 128 is a character
pub ascii_char : {b : ℕ} → b < 128 → Char (b ∷ [])
ascii_char {b} h = record { size = ascii_first b [] h; some = omega arith }

pub ascii_whole : (l : List ℕ) → ((i : ℕ) → i < length l → get_or l i 0 < 128) → Whole l
ascii_whole [] h = none_whole
ascii_whole (b ∷ l) h =
    whole_append (whole_char (ascii_char (h 0 (omega arith)))) (ascii_whole l (λ i g. h (suc i) (omega arith)))

-- the same by a test
pub ascii : (l : List ℕ) → all (λ b. ltb b 128) l ≡ true → Whole l
ascii [] h = none_whole
ascii (b ∷ l) h =
    let t = both (ltb b 128) (all (λ b. ltb b 128) l) h in
    whole_append (whole_char (ascii_char (ltb-true b 128 t.0))) (ascii l t.1)
