-- A value read from a place on: what is left to show, its faults alone, its bytes that show themselves, and the shown bytes put.
use Prim.Native.Nat.{ℕ, zero, suc, ◌+◌, ◌-◌, ◌^◌, ◌≤◌, ◌<◌}
use mathlib.Core.Path.{◌≡◌, refl, sym, ap, subst, ◌∙◌}
use mathlib.Core.List.{List, [], ◌∷◌, ◌++◌, append-nil, append_assoc}
use mathlib.Core.Bool.{Bool, true, false, not, ◌||◌}
use borrow.Author.Rules.{rules}
use borrow.Author.Tests.{ne_eqb, eqb-true, not-true, not-false}
use native.Mathlib.Nat.{add-zero}
use native.Mathlib.Omega.{arith}
use lib.Dec.{eqb}
use lib.ListN.{length, drop, get_or, length-drop, drop_of_length-le}
use lib.Seq.{drop-cons, drop-drop}
use Rattle.std.proofs.Common.{Result, Ok, Err}
use Rattle.slices.specs.Bytes.{if, other}
use Rattle.slices.specs.Run.{Run}
use Rattle.slices.proofs.Runs.{run_past, run_stop}
use Rattle.tables.specs.Table.{Put}
use Rattle.utf8.specs.Encoding.{utf8}
use Rattle.utf8.proofs.Encodings.{utf8_short}
use Rattle.answers.specs.Text.{Text, text, wrong}
use Rattle.answers.specs.Puts.{Puts}
use Rattle.answers.proofs.Putting.{puts_none, puts_one, puts_then}
use Rattle.references.specs.Unescape.{shows, bad, after_ampersand, after_cr, piece, before, joined, shown_from, unescape, plain}
use Rattle.references.specs.Outcome.{Pieces, IsShown, Checks, Shows}
use Rattle.references.specs.declared.ValuePlace.{ValuePlace}
use Rattle.references.specs.declared.Piece.{Piece}
use Rattle.references.specs.declared.Shown.{Shown}
use Rattle.references.specs.declared.Shown.TheVariants.{Byte, Char}

-- bytes that are taken already are dropped
pub taken : (k : ℕ) (l : List ℕ) (at : ℕ) → k ≤ length l → shown_from k l at ≡ shown_from 0 (drop k l) (at + k)
taken zero l at h = rw add-zero
taken (suc k) [] at h = absurd (omega arith)
taken (suc k) (b ∷ l) at h =
    let e : suc at + k ≡ at + suc k = omega arith in
    rw (← e) (taken k l (suc at) (omega arith))

-- what is left of a value from a place on
unfoldable pub rest : List ℕ → ℕ → Text
rest v at = shown_from 0 (drop at v) at

module _ (v : List ℕ) (at : ℕ) (h : at < length v) where
  rest_shows : {s : List ℕ} {next : ℕ} → piece (get_or v at 0) (drop (suc at) v) ≡ shows s (next - suc at) → at < next → next ≤ length v → rest v at ≡ before s (rest v next)
  unfolding rest
  rest_shows {s} {next} e a b =
      let n : suc at + (next - suc at) ≡ next = omega arith in
      rw (drop-cons v at 0 h, e, taken (next - suc at) (drop (suc at) v) (suc at) (rw length-drop (omega arith)), drop-drop (next - suc at) (suc at) v, n)

  rest_bad : {n : ℕ} → piece (get_or v at 0) (drop (suc at) v) ≡ bad n → rest v at ≡ wrong n at
  unfolding rest
  rest_bad e = rw (drop-cons v at 0 h, e)

rest_ends : (v : List ℕ) (at : ℕ) → length v ≤ at → rest v at ≡ text []
unfolding rest
rest_ends v at h = rw (drop_of_length-le v h)

rest_all : (v : List ℕ) → unescape v ≡ rest v 0
unfolding rest unescape
rest_all v = refl

pub before_before : (a b : List ℕ) (t : Text) → before a (before b t) ≡ before (a ++ b) t
before_before a b (text t) = ap text (sym (append_assoc a b t))
before_before a b (wrong n p) = refl

pub before_nil : (t : Text) → before [] t ≡ t
before_nil (text t) = refl
before_nil (wrong n p) = refl

-- a piece by its kind
is_piece : {v : List ℕ} {at : ℕ} {r : Result Piece ℕ} {p : Piece} → Pieces v at r → r ≡ Ok p → IsShown v at p.shown p.next
is_piece {v} {at} {p = p} c e = let d : Pieces v at (Ok p) = rw e at c in d.is

is_kind : {v : List ℕ} {at : ℕ} {r : Result Piece ℕ} {p : Piece} {x : Shown} → Pieces v at r → r ≡ Ok p → p.shown ≡ x → IsShown v at x p.next
is_kind {v} {at} {p = p} {x} c e f = subst (λ (y : Shown). IsShown v at y p.next) f (is_piece c e)

is_wrong : {v : List ℕ} {at n : ℕ} {r : Result Piece ℕ} → Pieces v at r → r ≡ Err n → piece (get_or v at 0) (drop (suc at) v) ≡ bad n
is_wrong {v} {at} {n} c e = let d : Pieces v at (Err n) = rw e at c in d.is

-- ---- the faults alone

abbrev fault_of : Text → Text
fault_of (text t) = text []
fault_of (wrong n p) = wrong n p

fault_before : (s : List ℕ) (t : Text) → fault_of (before s t) ≡ fault_of t
fault_before s (text t) = refl
fault_before s (wrong n p) = refl

fault_none : (x : Text) → fault_of x ≡ text [] → (t : List ℕ) × (x ≡ text t)
fault_none (text t) e = (t, refl)
fault_none (wrong n p) e = let z : ◌≡◌ {A = ℕ} 0 1 = cc in absurd (omega arith)

fault_some : (x : Text) (n p : ℕ) → fault_of x ≡ wrong n p → x ≡ wrong n p
fault_some (text t) n p e = cc
fault_some (wrong m q) n p e = e

-- a byte other than `&` has none, be it a CR before a LF
no_fault : (b : ℕ) (l : List ℕ) (at : ℕ) → other 38 b ≡ true → fault_of (shown_from 0 (b ∷ l) at) ≡ fault_of (shown_from 0 l (suc at))
unfolding piece
no_fault b l at h = rw (not-true (eqb b 38) h) (go (eqb b 13) (eqb b 10 || eqb b 9))
  where
    pair : (c : ℕ) (k : List ℕ) → eqb c 10 ≡ true → fault_of (before (32 ∷ []) (shown_from 0 k (suc (suc at)))) ≡ fault_of (shown_from 0 (c ∷ k) (suc at))
    pair c k e = rw (eqb-true c 10 e)

    cr : (l : List ℕ) → fault_of (joined (after_cr l) at (λ w. shown_from w l (suc at))) ≡ fault_of (shown_from 0 l (suc at))
    cr [] = refl
    cr (c ∷ k) = by (eqb c 10) refl
      where
        by : (t : Bool) → eqb c 10 ≡ t → fault_of (joined (if t (shows (32 ∷ []) 1) (shows (32 ∷ []) 0)) at (λ w. shown_from w (c ∷ k) (suc at))) ≡ fault_of (shown_from 0 (c ∷ k) (suc at))
        by true e = pair c k e
        by false e = fault_before (32 ∷ []) (shown_from 0 (c ∷ k) (suc at))

    go : (s t : Bool) → fault_of (joined (if s (after_cr l) (if t (shows (32 ∷ []) 0) (shows (b ∷ []) 0))) at (λ w. shown_from w l (suc at))) ≡ fault_of (shown_from 0 l (suc at))
    go true t = cr l
    go false true = fault_before (32 ∷ []) (shown_from 0 l (suc at))
    go false false = fault_before (b ∷ []) (shown_from 0 l (suc at))

-- a check that stands at a place: the faults that are left are the value's
pub record Checking (v : List ℕ) (at : ℕ) : Type 0 where
  pub left : fault_of (unescape v) ≡ fault_of (rest v at)
  pub inside : at ≤ length v
  pub stops : at < length v → get_or v at 0 ≡ 38

to_ampersand : {v : List ℕ} {at r : ℕ} → fault_of (unescape v) ≡ fault_of (rest v at) → Run (other 38) v at r → Checking v r
unfolding rest
to_ampersand {v} {at} {r} e n = record {
  left = e ∙ run_past (λ l p. fault_of (shown_from 0 l p)) (other 38) no_fault v at n;
  inside = n.within;
  stops = λ h. eqb-true (get_or v r 0) 38 (not-false (eqb (get_or v r 0) 38) (run_stop n h));
}

pub check_begins : {v : List ℕ} {r : ℕ} → Run (other 38) v 0 r → Checking v r
check_begins {v} n = to_ampersand (rw rest_all) n

module _ {v : List ℕ} {at : ℕ} (g : Checking v at) where
  -- a reference is looked for at a `&`
  pub check_ampersand : at < length v → get_or v at 0 ≡ 38
  check_ampersand h = g.stops h

  pub check_ends : length v ≤ at → Checks v (Ok tt)
  check_ends h = record { is = fault_none (unescape v) (g.left ∙ rw (rest_ends v at h)) }

  module _ (h : at < length v) {p : Result Piece ℕ} (c : Pieces v at p) where
    pub check_fault : {n : ℕ} {q : ValuePlace} → p ≡ Err n → q.0 ≡ at → Checks v (Err (record { number = n; place = q }))
    check_fault {n} e f = record { is = rw f (fault_some (unescape v) n at (g.left ∙ rw (rest_bad v at h (is_wrong c e)))) }

    check_on : {s : List ℕ} {next r : ℕ} → piece (get_or v at 0) (drop (suc at) v) ≡ shows s (next - suc at) → at < next → next ≤ length v → Run (other 38) v next r → Checking v r
    check_on {s} {next} e a b = to_ampersand (g.left ∙ rw (rest_shows v at h e a b) (fault_before s (rest v next)))

    module _ {q : Piece} (e : p ≡ Ok q) where
      pub piece_inside : (at < q.next) × (q.next ≤ length v)
      piece_inside = go q.shown (is_piece c e)
        where
          go : (x : Shown) → IsShown v at x q.next → (at < q.next) × (q.next ≤ length v)
          go (Byte b) d = (d.1, d.2)
          go (Char k) d = (omega (arith, d.1), d.2)

      pub piece_within : q.next ≤ length v
      piece_within = piece_inside.1

      pub check_more : {r : ℕ} → Run (other 38) v q.next r → Checking v r
      check_more {r} n = go q.shown (is_piece c e)
        where
          go : (x : Shown) → IsShown v at x q.next → Checking v r
          go (Byte b) d = check_on d.0 d.1 d.2 n
          go (Char k) d = check_on d.0 (omega (arith, d.1)) d.2 n

      pub check_less : {r : ℕ} → Run (other 38) v q.next r → length v - r < length v - at
      check_less n = omega (arith, n.onward, piece_inside)

pub ruleset checks = (check_begins, check_ampersand, check_ends, check_fault, piece_within, check_more, check_less, rules)

-- ---- bytes that show themselves

pub plain_piece : (b : ℕ) (l : List ℕ) → plain b ≡ true → piece b l ≡ shows (b ∷ []) 0
unfolding piece
plain_piece b l h = go (eqb b 38) (eqb b 9) (eqb b 10) (eqb b 13) h
  where
    go : (p q r s : Bool) → not (p || q || r || s) ≡ true → if p (after_ampersand l) (if s (after_cr l) (if (r || q) (shows (32 ∷ []) 0) (shows (b ∷ []) 0))) ≡ shows (b ∷ []) 0
    go true q r s e = cc
    go false true r s e = cc
    go false false true s e = cc
    go false false false true e = cc
    go false false false false e = refl

pub plain_above : (b : ℕ) → 38 < b → true ≡ plain b
plain_above b h = rw (ne_eqb b 38 (omega arith), ne_eqb b 9 (omega arith), ne_eqb b 10 (omega arith), ne_eqb b 13 (omega arith))

-- ---- the shown bytes put

-- a loop that puts what is shown before a place
pub record Showing (v : List ℕ) (n : ℕ) (t₀ t : List ℕ) (at m : ℕ) : Type 0 where
  pub shown : List ℕ
  pub left : unescape v ≡ before shown (rest v at)
  pub puts : Puts shown n t₀ t m
  pub least : n ≤ m
  pub most : m ≤ n + at
  pub inside : at ≤ length v
  pub same : length t ≡ length t₀

pub show_begins : {v t : List ℕ} {n : ℕ} → Showing v n t t 0 n
show_begins {v} = record {
  shown = [];
  left = rest_all v ∙ sym (before_nil (rest v 0));
  puts = puts_none;
  least = omega arith;
  most = omega arith;
  inside = omega arith;
  same = refl;
}

module _ {v t₀ t : List ℕ} {n at m : ℕ} (g : Showing v n t₀ t at m) where
  pub show_ends : length v ≤ at → Shows v n t₀ t m
  show_ends h = record {
    least = g.least;
    most = omega (arith, g.most, g.inside);
    puts = λ s e. rw (whole s e) at g.puts;
  }
    where
      whole : (s : List ℕ) → unescape v ≡ text s → g.shown ≡ s
      whole s e =
          let q : text (g.shown ++ []) ≡ text s = sym (g.left ∙ rw (rest_ends v at h)) ∙ e in
          sym (append-nil g.shown) ∙ cc

  show_on : {s t' : List ℕ} {next r : ℕ} → at < length v → piece (get_or v at 0) (drop (suc at) v) ≡ shows s (next - suc at) → next ≤ length v → at < next → at + length s ≤ next → length t' ≡ length t → Puts s m t t' r → Showing v n t₀ t' next r
  show_on {s} {t'} {next} h e b a k l q = record {
    shown = g.shown ++ s;
    left = g.left ∙ rw (rest_shows v at h e a b) (before_before g.shown s (rest v next));
    puts = puts_then g.puts q;
    least = omega (arith, g.least, q.counts);
    most = omega (arith, g.most, q.counts);
    inside = b;
    same = l ∙ g.same;
  }

  -- a byte that shows itself
  pub show_plain : {b : ℕ} {x : Bool} {t' : List ℕ} {r : ℕ} → at < length v → b ≡ get_or v at 0 → x ≡ plain b → x ≡ true → length t' ≡ length t → Put 1 (b ∷ []) m t t' r → Showing v n t₀ t' (at + 1) r
  show_plain {b} h e f i l q =
      let w : at + 1 - suc at ≡ 0 = omega arith in
      show_on h (rw (← e, w) (plain_piece b (drop (suc at) v) (sym f ∙ i))) (omega arith) (omega arith) (omega arith) l (puts_one q)

  module _ (h : at < length v) {p : Result Piece ℕ} (c : Pieces v at p) where
    pub show_stops : {k : ℕ} → p ≡ Err k → Shows v n t₀ t m
    show_stops {k} e = record {
      least = g.least;
      most = omega (arith, g.most);
      puts = λ s f. absurd (none s f);
    }
      where
        none : (s : List ℕ) → unescape v ≡ text s → ⊥
        none s f =
            let q : text s ≡ wrong k at = sym f ∙ g.left ∙ rw (rest_bad v at h (is_wrong c e)) in
            let z : ◌≡◌ {A = ℕ} 0 1 = cc in
            omega arith

    module _ {x : Piece} (e : p ≡ Ok x) where
      module _ {b : ℕ} (f : x.shown ≡ Byte b) where
        pub show_byte : {t' : List ℕ} {r : ℕ} → length t' ≡ length t → Put 1 (b ∷ []) m t t' r → Showing v n t₀ t' x.next r
        show_byte l q = let d = is_kind c e f in show_on h d.0 d.2 d.1 (omega (arith, d.1)) l (puts_one q)

        pub show_byte_less : length v - x.next < length v - at
        show_byte_less = let d = is_kind c e f in omega (arith, d.1, d.2)

      module _ {k : ℕ} (f : x.shown ≡ Char k) where
        pub show_char : {t' : List ℕ} {r : ℕ} → length t' ≡ length t → Puts (utf8 k) m t t' r → Showing v n t₀ t' x.next r
        show_char l q = let d = is_kind c e f in show_on h d.0 d.2 (omega (arith, d.1)) (omega (arith, d.1, utf8_short k)) l q

        pub show_char_less : length v - x.next < length v - at
        show_char_less = let d = is_kind c e f in omega (arith, d.1, d.2)

        pub show_char_small : k < 1114112
        show_char_small = (is_kind c e f).3

        pub show_char_room : n + length v < 2 ^ 62 → m + 4 < 2 ^ 62
        show_char_room b = let d = is_kind c e f in omega (arith, d.1, d.2, g.most)

pub ruleset shown = (show_begins, show_ends, show_plain, show_stops, show_byte, show_byte_less, show_char, show_char_less, show_char_small, show_char_room, rules)
