-- Trimming from the end: back to the start of the last character, one character after the other.
use Prim.Native.Nat.{ℕ, ◌+◌, ◌-◌, ◌≤◌, ◌<◌, ◌^◌}
use mathlib.Core.Path.{◌≡◌, refl, ap, sym, ◌∙◌}
use mathlib.Core.List.{List, [], ◌∷◌, ◌++◌, append_assoc, append-nil, reverse-append}
use borrow.Author.Rules.{rules}
use native.Mathlib.Omega.{arith}
use mir.Syntax.{w64}
use mir.Val.{Fits}
use lib.ListN.{length, take, drop, get_or, length-append, length-drop, take-append-drop}
use lib.Seq.{take-length, take-add, take-append_seam, drop-append_seam, length-take-le, get_or-take, get_or-drop}
use Rattle.std.proofs.lemmas.List.{take_rest}
use Rattle.std.specs.Prelude.{Option, None, Some}
use Rattle.std.specs.Option.{unwrap_or}
use Rattle.slices.specs.Bytes.{if}
use Rattle.utf8.specs.WellFormed.{sequence, ill_formed}
use Rattle.utf8.specs.WhiteSpace.{characters, code_point, white_space, trim_end, Trims}
use Rattle.utf8.specs.Trim.{Boundary, Last, Starts, Ends, white, trailing}
use Rattle.utf8.proofs.Sequences.{Char, char_first, below}
use Rattle.utf8.proofs.Texts.{All, joined, joined_append, all_append, Whole, none_whole, whole, formed, whole_append, whole_char, sequence_char, characters_joined}
use Rattle.utf8.proofs.Cuts.{Lead, Next, cut-end, cut_is_lead, char_next}
use Rattle.utf8.proofs.Downward.{LastOf}
use Rattle.utf8.proofs.Trims.{first_char, first_long, white_is, white_is_not}

-- characters that are some: those before the last, and the last
record Snoc (x : List ℕ) : Type 0 where
  front : List ℕ
  last : List ℕ
  whole_front : Whole front
  char : Char last
  is : front ++ last ≡ x

snoc : (cs : List (List ℕ)) → All cs → 0 < length (joined cs) → Snoc (joined cs)
snoc [] h l = absurd (omega arith)
snoc (c ∷ []) h l = record { front = []; last = c; whole_front = none_whole; char = h.0; is = sym (append-nil c) }
snoc (c ∷ d ∷ cs) h l =
    let r = snoc (d ∷ cs) h.1 (omega (arith, length-append d (joined cs), h.1.0.some)) in
    record {
      front = c ++ r.front;
      last = r.last;
      whole_front = whole_append (whole_char h.0) r.whole_front;
      char = r.char;
      is = append_assoc c r.front r.last ∙ ap (λ (y : List ℕ). c ++ y) r.is;
    }

-- the text up to a place ends with a character
module _ (s : List ℕ) (end : ℕ) (f c : List ℕ) (b : Boundary s end) (w : Whole f) (h : Char c) (q : f ++ c ≡ take end s) where
  long : length f + length c ≡ end
  long = sym (length-append f c) ∙ ap length q ∙ length-take-le end s b.inside

  put_together : s ≡ f ++ (c ++ drop end s)
  put_together = sym (take-append-drop end s) ∙ ap (λ (y : List ℕ). y ++ drop end s) (sym q) ∙ append_assoc f c (drop end s)

  dropped : drop (length f) s ≡ c ++ drop end s
  dropped = ap (drop (length f)) put_together ∙ drop-append_seam f (c ++ drop end s)

  taken_front : take (length f) s ≡ f
  taken_front = ap (take (length f)) put_together ∙ take-append_seam f (c ++ drop end s)

  last_is : Last s end (length f)
  last_is = record {
    cut = record {
      inside = omega (arith, b.inside, long);
      before = rw taken_front (formed w);
      after = rw dropped (formed (whole_append (whole_char h) (whole (drop end s) b.after)));
    };
    below = omega (arith, long, h.some);
    ends = rw (dropped, char_first c (drop end s) h) long;
  }

-- there is a last character
some_last : {s : List ℕ} {end : ℕ} → Boundary s end → 0 < end → (r : ℕ) × Last s end r
some_last {s} {end} b h =
    let w = whole (take end s) b.before in
    let p = snoc w.parts w.all (rw (w.is, length-take-le end s b.inside) h) in
    (length p.front, last_is s end p.front p.last b p.whole_front p.char (p.is ∙ w.is))

-- the bytes of the last character after its first
last_next : (s : List ℕ) (end r at : ℕ) → Last s end r → r < at → at < end → Next (get_or s at 0)
last_next s end r at l h k =
    let n = sequence (drop r s) in
    let c = sequence_char (drop r s) n refl (λ z. omega (arith, l.ends, l.below)) in
    let e : r + (at - r) ≡ at = omega arith in
    let i : at - r < n = omega (arith, l.ends) in
    let q = char_next (take n (drop r s)) (at - r) c.0 (rw (length-take-le n (drop r s) c.1) i) (omega arith) in
    rw (get_or-take n (drop r s) (at - r) 0 i, get_or-drop r s (at - r) 0, e) at q

-- it begins at the last byte before its end that continues no character, or with the text
pub last_found : {s : List ℕ} {end r : ℕ} (o : Option ℕ) → Boundary s end → 0 < end
    → LastOf (record { start = 1; end = end }) o (λ i. Lead (get_or s i 0)) (λ i. Next (get_or s i 0)) → r ≡ unwrap_or o 0 → Last s end r
last_found {s} {end} {r} None b h f e =
    let l = some_last b h in
    let z : l.0 ≡ r = below 0 l.0 (λ k. let q = f l.0 (omega (arith, k)) l.1.below in absurd (cut_is_lead s l.0 l.1.cut (omega (arith, l.1.below, b.inside)) q.0 q.1)) (λ k. omega (arith, k, e)) in
    rw z at l.1
last_found {s} {end} {r} (Some i) b h f e =
    let l = some_last b h in
    let z : l.0 ≡ r =
    below l.0 i (λ k. let q = last_next s end l.0 i l.1 k f.1 in absurd (f.2 q.0 q.1))
    (λ k. below i l.0 (λ j. let q = f.3 l.0 j l.1.below in absurd (cut_is_lead s l.0 l.1.cut (omega (arith, l.1.below, b.inside)) q.0 q.1)) (λ j. omega (arith, j, k, e))) in
    rw z at l.1

-- trimming from the end looks at the last character
characters_snoc : {x : List ℕ} (c : List ℕ) → Whole x → Char c → characters (x ++ c) ≡ characters x ++ (c ∷ [])
characters_snoc {x} c w h =
    let a = all_append w.parts (c ∷ []) w.all (h, tt) in
    let e : joined (w.parts ++ c ∷ []) ≡ x ++ c = rw (joined_append w.parts (c ∷ []), append-nil c, w.is) in
    let p = rw e at (characters_joined (w.parts ++ c ∷ []) a) in
    let q = rw w.is at (characters_joined w.parts w.all) in
    p ∙ ap (λ (cs : List (List ℕ)). cs ++ (c ∷ [])) (sym q)

trailing_snoc : {x : List ℕ} (c : List ℕ) → Whole x → Char c → trailing (x ++ c) ≡ if (white_space (code_point c)) (length c + trailing x) 0
unfolding trailing
trailing_snoc {x} c w h = rw (characters_snoc c w h, reverse-append (characters x) (c ∷ []))

-- trimming from the end has come to a place: what is asked is what is left up to there
pub record Ending (s : List ℕ) (end : ℕ) : Type 0 where
  pub left : end + trailing s ≡ length s + trailing (take end s)
  pub cut : Boundary s end

pub end_begins : {s : List ℕ} → ill_formed s ≡ length s → Ending s (length s)
end_begins {s} h = record { left = rw (take-length s); cut = cut-end s h }

module _ {s : List ℕ} {end : ℕ} (t : Ending s end) where
  pub end_none : end ≤ 0 → Ends s end
  end_none h =
      let e : end ≡ 0 = omega arith in
      let z : trailing (take end s) ≡ 0 = rw e (unfold trailing characters in refl) in
      record { is = omega (arith, t.left, z) }

  module _ {at : ℕ} (l : Last s end at) (n : ℕ) (e : n ≡ white (drop at s)) where
    some_here : 0 < length (drop at s)
    some_here = rw (length-drop at s) (omega (arith, l.below, t.cut.inside))

    last_trailing : trailing (take end s) ≡ if (white_space (code_point (take (sequence (drop at s)) (drop at s)))) (sequence (drop at s) + trailing (take at s)) 0
    last_trailing =
        let c = first_char (drop at s) l.cut.after some_here n e in
        let k = first_long (drop at s) l.cut.after some_here n e in
        let q = trailing_snoc (take (sequence (drop at s)) (drop at s)) (whole (take at s) l.cut.before) c.0 in
        rw (← take-add at (sequence (drop at s)) s, l.ends, k) at q

    pub end_stops : n ≡ 0 → Ends s end
    end_stops z =
        let q = rw (white_is_not (drop at s) l.cut.after some_here n e z) at last_trailing in
        record { is = omega (arith, t.left, q) }

    pub end_more : (n ≡ 0 → ⊥) → Ending s at
    end_more z =
        let w = white_is (drop at s) l.cut.after some_here n e z in
        let q = rw w.1 at last_trailing in
        record { left = omega (arith, t.left, q, l.ends); cut = l.cut }

pub ruleset ends = (end_begins, end_none, end_stops, end_more, rules)

-- the rest of a text, as the code lends it
module _ {s : List ℕ} {a : ℕ} (t : Starts s a) where
  pub lent_formed : ill_formed (take (length s - a) (drop a s)) ≡ length (take (length s - a) (drop a s))
  lent_formed = rw (take_rest s a) t.cut.after

  module _ {n : ℕ} (e : Ends (take (length s - a) (drop a s)) n) where
    both : n + trailing (drop a s) ≡ length s - a
    both = rw (take_rest s a, length-drop a s) at e.is

    pub both_ends : Trims s record { start = a; end = a + n }
    unfolding trim_end trailing
    both_ends = record { begins = t.is; ends = rw (← t.is) (omega (arith, both, t.cut.inside)) }

    pub both_fit : length s < 2 ^ 64 → Fits w64 (a + n)
    both_fit h = omega (arith, both, t.cut.inside)

pub ruleset boths = (lent_formed, both_ends, both_fit, rules)
