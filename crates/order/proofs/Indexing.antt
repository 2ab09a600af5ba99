-- Laws of the index of names: hashes and buckets, the words of the index, and the walk along the rows of a bucket.
use Prim.Native.Nat.{ℕ, zero, suc, ◌+◌, ◌*◌, ◌-◌, ◌/◌, ◌%◌, ◌≤◌, ◌<◌}
use mathlib.Core.Path.{◌≡◌, refl, sym, ap, subst, ◌∙◌}
use mathlib.Core.List.{List, [], ◌∷◌}
use mathlib.Core.Option.{Option, none, some}
use mathlib.Core.Bool.{Bool, true, false, ◌&&◌}
use borrow.Author.Rules.{rules}
use borrow.Author.Tests.{eq-eqb, ne_eqb, eqb-true, eqb-false}
use native.Mathlib.Numerals.{add-one}
use native.Mathlib.Omega.{arith}
use lib.Dec.{eqb}
use lib.ListN.{length, get_or, set, drop, replicate, length-set, length-replicate}
use lib.Seq.{get_or-set_same, get_or-set_other}
use Rattle.std.specs.Prelude.{Option as Maybe, None, Some, SomeIff}
use Rattle.utf8.proofs.Sequences.{below}
use Rattle.slices.specs.Bytes.{if, same}
use Rattle.slices.specs.Hash.{hash_of, HashIs}
use Rattle.slices.proofs.Runs.{same_equal, and_both}
use Rattle.tables.specs.Triple.{shown}
use Rattle.tables.specs.Table.{Wiped}
use Rattle.tables.specs.declared.Triple.{Triple}
use Rattle.tables.proofs.Tables.{clear_all}
use Rattle.items.specs.Words.{TripleIs, row_of, rows_shown, shown_row}
use Rattle.items.specs.Content.{Row, present}
use Rattle.items.proofs.Words.{present_shown}
use Rattle.order.specs.Types.{defines, first_named}
use Rattle.order.specs.Steps.{Held, Defines, HasName, FirstNamed}
use Rattle.order.specs.Index.{bucket_of, tag_of, bucket_at, tag_at, first_in, word_for, HashAt, Spread, WordIs, RowOf, Tagged, IndexedFrom, Indexed, Built}
use Rattle.order.proofs.Lists.{clash, case, refuted, joined}
use Rattle.order.proofs.Finding.{shown_rows_from, shown_past, found_here, found_none}
use Rattle.order.proofs.Waiting.{row_held}

-- ---- hashes and buckets

pub hash_row : {d x ws l : List ℕ} {i r : ℕ} {t : Triple} → HashIs l r → l ≡ shown d x t → TripleIs ws i 2 t → HashAt d x ws i r
hash_row {d} {x} {ws} {l} {i} b q p = record {
  is = b.is ∙ ap hash_of (q ∙ ap (shown d x) p.is ∙ sym (present_shown d x (row_of (drop (i * 16) ws)).name));
}

pub ruleset hashes = (hash_row, rules)

spread_bucket : (s : List ℕ) {f m h : ℕ} → f ≡ hash_of s → Spread f m h → h ≡ bucket_of m s
unfolding bucket_of
spread_bucket s {m = m} e p = p.is ∙ ap (λ (z : ℕ). z % m) e

hash_tag : (s : List ℕ) {f : ℕ} → f ≡ hash_of s → f / 524288 ≡ tag_of s
unfolding tag_of
hash_tag s e = ap (λ (z : ℕ). z / 524288) e

-- the two parts of a word
low_bits : (a t : ℕ) → a < 524288 → (a + t * 524288) % 524288 ≡ a
low_bits a t l = omega arith

high_bits : (a t : ℕ) → a < 524288 → (a + t * 524288) / 524288 ≡ t
high_bits a t l = omega arith

-- ---- names

some-none : {A : Type 0} {i : ℕ} → ◌≡◌ {A = Option ℕ} (some i) none → A
some-none e = let z : ◌≡◌ {A = ℕ} 0 1 = cc in absurd (omega arith)

-- the name of a row of a name
name_is : (s : List ℕ) (row : Row) → defines row && same s (present row.name) ≡ true → present row.name ≡ s
name_is s row t = sym (same_equal s (present row.name) (and_both (defines row) (same s (present row.name)) t).1)

-- a row whose word has other bits has another name
module _ {d x ws s : List ℕ} {k w f : ℕ} (a : Tagged d x ws k w) (b : HashIs s f) where
  pub other_name : (w / 524288 ≡ f / 524288 → ⊥) → HasName d x ws k s false
  other_name h = record {
    is = sym (refuted (defines (shown_row d x ws k) && same s (present (shown_row d x ws k).name))
        (λ t. h (a.is ∙ ap tag_of (name_is s (shown_row d x ws k) t) ∙ sym (hash_tag s b.is))));
  }

pub ruleset tags = (other_name, rules)

-- ---- the first row of a name is in the name's bucket

module _ (m : ℕ) (s : List ℕ) where
  skip : (i : ℕ) (row : Row) (rest : List Row) → defines row && same s (present row.name) ≡ false → first_named s i (row ∷ rest) ≡ first_named s (suc i) rest
  skip i row rest e = ap (λ (b : Bool). if b (some i) (first_named s (suc i) rest)) e

  -- a row of another bucket has another name
  miss : (row : Row) → defines row && eqb (bucket_of m (present row.name)) (bucket_of m s) ≡ false → defines row && same s (present row.name) ≡ false
  miss row f =
      refuted (defines row && same s (present row.name))
      (λ t. clash
      (joined (defines row) (eqb (bucket_of m (present row.name)) (bucket_of m s))
      (and_both (defines row) (same s (present row.name)) t).0
      (eq-eqb (bucket_of m (present row.name)) (bucket_of m s) (ap (bucket_of m) (name_is s row t))))
      f)

  pass_none : (i : ℕ) (rs : List Row) → first_in m (bucket_of m s) i rs ≡ none → first_named s i rs ≡ none
  pass_none i [] e = refl
  pass_none i (r ∷ rs) e = go (defines r && eqb (bucket_of m (present r.name)) (bucket_of m s)) refl e (pass_none (suc i) rs)
    where
      go : (c : Bool) → defines r && eqb (bucket_of m (present r.name)) (bucket_of m s) ≡ c → if c (some i) (first_in m (bucket_of m s) (suc i) rs) ≡ none → (first_in m (bucket_of m s) (suc i) rs ≡ none → first_named s (suc i) rs ≡ none) → first_named s i (r ∷ rs) ≡ none
      go true c e h = some-none e
      go false c e h = skip i r rs (miss r c) ∙ h e

-- row k is the first of the bucket of s from row i on: so the name is not before it
record Passed (d x ws : List ℕ) (n m : ℕ) (s : List ℕ) (i k : ℕ) : Type 0 where
  pub past : i ≤ k
  pub within : k < n
  pub same : first_named s i (drop i (rows_shown d x ws n)) ≡ first_named s k (drop k (rows_shown d x ws n))
  pub is : defines (shown_row d x ws k) ≡ true
  pub falls : bucket_at d x ws m k ≡ bucket_of m s

-- the rows from row i on begin with row i
first_at : (d x ws : List ℕ) (n m h i : ℕ) → i < n → first_in m h i (drop i (rows_shown d x ws n)) ≡ if (defines (shown_row d x ws i) && eqb (bucket_at d x ws m i) h) (some i) (first_in m h (suc i) (drop (suc i) (rows_shown d x ws n)))
first_at d x ws n m h i l = ap (first_in m h i) (shown_rows_from d x ws n i l)

module _ (d x ws : List ℕ) (n m : ℕ) (s : List ℕ) where
  pass : (f i : ℕ) → f + i ≡ n → (k : ℕ) → first_in m (bucket_of m s) i (drop i (rows_shown d x ws n)) ≡ some k → Passed d x ws n m s i k
  pass zero i e k q = some-none (sym q ∙ ap (first_in m (bucket_of m s) i) (shown_past d x ws n i (omega arith)))
  pass (suc f) i e k q =
      go (defines (shown_row d x ws i) && eqb (bucket_at d x ws m i) (bucket_of m s)) refl
      (sym (first_at d x ws n m (bucket_of m s) i (omega arith)) ∙ q)
      (pass f (suc i) (omega arith) k)
    where
      go : (c : Bool) → defines (shown_row d x ws i) && eqb (bucket_at d x ws m i) (bucket_of m s) ≡ c → if c (some i) (first_in m (bucket_of m s) (suc i) (drop (suc i) (rows_shown d x ws n))) ≡ some k → (first_in m (bucket_of m s) (suc i) (drop (suc i) (rows_shown d x ws n)) ≡ some k → Passed d x ws n m s (suc i) k) → Passed d x ws n m s i k
      go true c q h =
          let p = and_both (defines (shown_row d x ws i)) (eqb (bucket_at d x ws m i) (bucket_of m s)) c in
          let j : i ≡ k = cc in
          subst (λ (z : ℕ). Passed d x ws n m s i z) j
          record { past = omega arith; within = omega arith; same = refl; is = p.0; falls = eqb-true (bucket_at d x ws m i) (bucket_of m s) p.1 }
      go false c q h =
          let g = h q in
          record {
            past = omega (arith, g.past);
            within = g.within;
            same = ap (first_named s i) (shown_rows_from d x ws n i (omega arith))
                ∙ skip m s i (shown_row d x ws i) (drop (suc i) (rows_shown d x ws n)) (miss m s (shown_row d x ws i) c)
                ∙ g.same;
            is = g.is;
            falls = g.falls;
          }

-- ---- the walk along a bucket

-- word w is that of the bucket's first row from some row on, and the name is not before that
pub record Following (d x ws : List ℕ) (n m : ℕ) (s : List ℕ) (w : ℕ) : Type 0 where
  pub from : ℕ
  pub few : n ≤ 262144
  pub within : from ≤ n
  pub same : first_named s 0 (rows_shown d x ws n) ≡ first_named s from (drop from (rows_shown d x ws n))
  pub word : w ≡ word_for d x ws (first_in m (bucket_of m s) from (drop from (rows_shown d x ws n)))

-- how many of n rows are left from the row on whose number plus one is this; 0 for none
abbrev pub ahead : ℕ → ℕ → ℕ
ahead n zero = 0
ahead n (suc k) = n - k

pub indexed_some : {d x ws hs ls : List ℕ} {n k : ℕ} → IndexedFrom d x ws n k hs ls → 0 < length hs
indexed_some ix = ix.some

-- the row that the word stands for, or none
module _ {d x ws : List ℕ} {n m : ℕ} {s : List ℕ} {w : ℕ} (g : Following d x ws n m s w) where
  word_none : first_in m (bucket_of m s) g.from (drop g.from (rows_shown d x ws n)) ≡ none → w % 524288 ≡ 0
  word_none e = ap (λ (z : ℕ). z % 524288) (g.word ∙ ap (word_for d x ws) e)

  module _ {j : ℕ} (e : first_in m (bucket_of m s) g.from (drop g.from (rows_shown d x ws n)) ≡ some j) where
    word_passed : Passed d x ws n m s g.from j
    word_passed = pass d x ws n m s (n - g.from) g.from (omega (arith, g.within)) j e

    word_some : w % 524288 ≡ suc j
    word_some =
        ap (λ (z : ℕ). z % 524288) (g.word ∙ ap (word_for d x ws) e)
        ∙ low_bits (suc j) (tag_at d x ws j) (omega (arith, g.few, word_passed.within))

    word_tag : w / 524288 ≡ tag_at d x ws j
    word_tag =
        ap (λ (z : ℕ). z / 524288) (g.word ∙ ap (word_for d x ws) e)
        ∙ high_bits (suc j) (tag_at d x ws j) (omega (arith, g.few, word_passed.within))

  word_ahead : ahead n (w % 524288) ≤ n - g.from
  word_ahead = go (first_in m (bucket_of m s) g.from (drop g.from (rows_shown d x ws n))) refl
    where
      go : (o : Option ℕ) → first_in m (bucket_of m s) g.from (drop g.from (rows_shown d x ws n)) ≡ o → ahead n (w % 524288) ≤ n - g.from
      go none e = rw (word_none e) (omega arith)
      go (some j) e = rw (word_some e) (let z = word_passed e in omega (arith, z.past))

  module _ {r : Maybe ℕ} (p : RowOf w r) where
    word_ends : r ≡ None → first_named s 0 (rows_shown d x ws n) ≡ none
    word_ends e = go (first_in m (bucket_of m s) g.from (drop g.from (rows_shown d x ws n))) refl
      where
        go : (o : Option ℕ) → first_in m (bucket_of m s) g.from (drop g.from (rows_shown d x ws n)) ≡ o → first_named s 0 (rows_shown d x ws n) ≡ none
        go none f = g.same ∙ pass_none m s g.from (drop g.from (rows_shown d x ws n)) f
        go (some j) f = absurd (omega (arith, p.none e, word_some f))

    word_row : {k : ℕ} → r ≡ Some k → first_in m (bucket_of m s) g.from (drop g.from (rows_shown d x ws n)) ≡ some k
    word_row {k} e = go (first_in m (bucket_of m s) g.from (drop g.from (rows_shown d x ws n))) refl
      where
        go : (o : Option ℕ) → first_in m (bucket_of m s) g.from (drop g.from (rows_shown d x ws n)) ≡ o → o ≡ some k
        go none f = absurd (omega (arith, p.some k e, word_none f))
        go (some j) f = let z : j ≡ k = omega (arith, p.some k e, word_some f) in ap some z

pub follow_begins : {d x ws s hs ls : List ℕ} {n f h : ℕ} → Indexed d x ws n hs ls → HashIs s f → Spread f (length hs) h → Following d x ws n (length hs) s (get_or hs h 0)
follow_begins {d} {x} {ws} {s} {hs} {n = n} {h = h} ix a b = record {
  from = 0;
  few = ix.few;
  within = omega arith;
  same = refl;
  word = ix.first h b.within
      ∙ ap (λ (z : ℕ). word_for d x ws (first_in (length hs) z 0 (rows_shown d x ws n))) (spread_bucket s a.is b);
}

module _ {d x ws s : List ℕ} {n m w : ℕ} (g : Following d x ws n m s w) {r : Maybe ℕ} (p : RowOf w r) where
  pub follow_ends : r ≡ None → FirstNamed (rows_shown d x ws n) s n None
  follow_ends e = record { finds = found_none (word_ends g p e) }

  module _ {k : ℕ} (e : r ≡ Some k) where
    here : Passed d x ws n m s g.from k
    here = word_passed g (word_row g p e)

    pub follow_row : k < n
    follow_row = here.within

    pub follow_tagged : Tagged d x ws k w
    follow_tagged = record { is = word_tag g (word_row g p e) }

    pub follow_place : {hs ls : List ℕ} → Indexed d x ws n hs ls → k < length ls
    follow_place ix = omega (arith, here.within, ix.held)

    module _ {b : Bool} (a : HasName d x ws k s b) where
      pub follow_found : b ≡ true → FirstNamed (rows_shown d x ws n) s n (Some k)
      follow_found f = record {
        finds = found_here
            (g.same
            ∙ here.same
            ∙ ap (first_named s k) (shown_rows_from d x ws n k here.within)
            ∙ ap (λ (z : Bool). if z (some k) (first_named s (suc k) (drop (suc k) (rows_shown d x ws n)))) (sym a.is ∙ f))
            here.within;
      }

module _ {d x ws s hs ls : List ℕ} {n w k : ℕ} {r : Maybe ℕ} {b : Bool} (ix : Indexed d x ws n hs ls) (g : Following d x ws n (length hs) s w) (p : RowOf w r) (e : r ≡ Some k) (a : HasName d x ws k s b) (f : b ≡ false) where
  more_from : (z : Following d x ws n (length hs) s (get_or ls k 0)) × (z.from ≡ suc k)
  more_from =
      let h = here g p e in (
        record {
          from = suc k;
          few = ix.few;
          within = omega (arith, h.within);
          same = g.same
              ∙ h.same
              ∙ ap (first_named s k) (shown_rows_from d x ws n k h.within)
              ∙ skip (length hs) s k (shown_row d x ws k) (drop (suc k) (rows_shown d x ws n)) (sym a.is ∙ f);
          word = ix.next k (omega arith) h.within h.is
              ∙ ap (λ (z : ℕ). word_for d x ws (first_in (length hs) z (suc k) (drop (suc k) (rows_shown d x ws n)))) h.falls;
        },
        refl,
      )

  pub follow_more : Following d x ws n (length hs) s (get_or ls k 0)
  follow_more = more_from.0

  pub follow_less : ahead n (get_or ls k 0 % 524288) < ahead n (w % 524288)
  follow_less =
      let z = more_from in
      let h = here g p e in
      rw (p.some k e) (omega (arith, word_ahead z.0, z.1, h.within))

-- the row that a word stands for
pub row_is : {w q : ℕ} {r : Maybe ℕ} → SomeIff r (1 ≤ q) (q - 1) → q ≡ w % 524288 → RowOf w r
row_is {w} {q} {r} s e = go r s
  where
    go : (o : Maybe ℕ) → SomeIff o (1 ≤ q) (q - 1) → RowOf w o
    go None s = record { some = λ k h. absurd (cc); none = λ h. below q 1 (λ l. omega (arith, e)) (λ l. absurd (s l)) }
    go (Some j) s = record { some = λ k h. let y : j ≡ k = cc in omega (arith, e, s.0, s.1); none = λ h. absurd (cc) }

pub ruleset standing = (row_is, rules)

pub ruleset follows = (follow_begins, follow_more, follow_less, follow_ends, follow_found, follow_row, follow_place, follow_tagged, indexed_some, row_held, rules)

-- ---- making the index

-- whether row k is before the rows of bucket h
at_row : (d x ws : List ℕ) (n m h k : ℕ) → k < n → (c : Bool) → defines (shown_row d x ws k) && eqb (bucket_at d x ws m k) h ≡ c → first_in m h k (drop k (rows_shown d x ws n)) ≡ if c (some k) (first_in m h (suc k) (drop (suc k) (rows_shown d x ws n)))
at_row d x ws n m h k l c e =
    first_at d x ws n m h k l
    ∙ ap (λ (z : Bool). if z (some k) (first_in m h (suc k) (drop (suc k) (rows_shown d x ws n)))) e

not_both : (a b : Bool) → b ≡ false → a && b ≡ false
not_both true b e = e
not_both false b e = refl

module _ {d x ws hs ls : List ℕ} {n k : ℕ} (ix : IndexedFrom d x ws n (k + 1) hs ls) (l : k < n) {b : Bool} (a : Defines d x ws k b) where
  later : IndexedFrom d x ws n (suc k) hs ls
  later = rw add-one at ix

  pub enter_other : b ≡ false → Built d x ws n k hs ls hs ls
  enter_other e =
      let f : defines (shown_row d x ws k) ≡ false = sym a.is ∙ e in
      record {
        indexed = record {
          first = λ h q. later.first h q
              ∙ sym (ap (word_for d x ws) (at_row d x ws n (length hs) h k l false (ap (λ (z : Bool). z && eqb (bucket_at d x ws (length hs) k) h) f)));
          next = λ j p q t. case (eqb j k)
              (λ z. clash (rw (eqb-true j k z) at t) f)
              (λ z. later.next j (let o = eqb-false j k z in omega (arith, o)) q t);
          some = later.some;
          held = later.held;
          few = later.few;
        };
        wide = refl;
        long = refl;
        rest = λ j q. refl;
      }

  module _ (e : b ≡ true) {f h w : ℕ} (v : HashAt d x ws k f) (u : Spread f (length hs) h) (o : WordIs k f w) where
    bucket_here : h ≡ bucket_at d x ws (length hs) k
    bucket_here = spread_bucket (present (shown_row d x ws k).name) v.is u

    word_here : w ≡ word_for d x ws (some k)
    word_here = o.is ∙ ap (λ (z : ℕ). suc k + z * 524288) (hash_tag (present (shown_row d x ws k).name) v.is)

    is_defined : defines (shown_row d x ws k) ≡ true
    is_defined = sym a.is ∙ e

    first_then : (g : ℕ) → g < length hs → get_or (set hs h w) g 0 ≡ word_for d x ws (first_in (length hs) g k (drop k (rows_shown d x ws n)))
    first_then g q =
        case (eqb g h)
        (λ t. let p : g ≡ h = eqb-true g h t in
        let y : defines (shown_row d x ws k) && eqb (bucket_at d x ws (length hs) k) g ≡ true = joined (defines (shown_row d x ws k)) (eqb (bucket_at d x ws (length hs) k) g) is_defined (eq-eqb (bucket_at d x ws (length hs) k) g (sym bucket_here ∙ sym p)) in
        ap (λ (z : ℕ). get_or (set hs h w) z 0) p
        ∙ get_or-set_same hs h w 0 u.within
        ∙ word_here
        ∙ sym (ap (word_for d x ws) (at_row d x ws n (length hs) g k l true y)))
        (λ t. let y : defines (shown_row d x ws k) && eqb (bucket_at d x ws (length hs) k) g ≡ false = not_both (defines (shown_row d x ws k)) (eqb (bucket_at d x ws (length hs) k) g) (ne_eqb (bucket_at d x ws (length hs) k) g (λ z. eqb-false g h t (sym z ∙ sym bucket_here))) in
        get_or-set_other hs h g w 0 (eqb-false g h t)
        ∙ later.first g q
        ∙ sym (ap (word_for d x ws) (at_row d x ws n (length hs) g k l false y)))

    next_then : (j : ℕ) → k ≤ j → j < n → defines (shown_row d x ws j) ≡ true → get_or (set ls k (get_or hs h 0)) j 0 ≡ word_for d x ws (first_in (length hs) (bucket_at d x ws (length hs) j) (suc j) (drop (suc j) (rows_shown d x ws n)))
    next_then j p q t =
        case (eqb j k)
        (λ z. let y : k ≡ j = sym (eqb-true j k z) in
        subst (λ (i : ℕ). get_or (set ls k (get_or hs h 0)) i 0 ≡ word_for d x ws (first_in (length hs) (bucket_at d x ws (length hs) i) (suc i) (drop (suc i) (rows_shown d x ws n)))) y
        (get_or-set_same ls k (get_or hs h 0) 0 (omega (arith, later.held))
        ∙ later.first h u.within
        ∙ ap (λ (i : ℕ). word_for d x ws (first_in (length hs) i (suc k) (drop (suc k) (rows_shown d x ws n)))) bucket_here))
        (λ z. get_or-set_other ls k j (get_or hs h 0) 0 (eqb-false j k z)
        ∙ later.next j (let o = eqb-false j k z in omega (arith, o)) q t)

    pub enter_here : Built d x ws n k hs ls (set hs h w) (set ls k (get_or hs h 0))
    enter_here = record {
      indexed = record {
        first = λ g q. rw (length-set hs h w) (first_then g (rw (length-set hs h w) at q));
        next = λ j p q t. rw (length-set hs h w) (next_then j p q t);
        some = rw (length-set hs h w) later.some;
        held = rw (length-set ls k (get_or hs h 0)) later.held;
        few = later.few;
      };
      wide = length-set hs h w;
      long = length-set ls k (get_or hs h 0);
      rest = λ j q. get_or-set_other ls k j (get_or hs h 0) 0 (λ z. omega arith);
    }

pub held_row : {ws : List ℕ} {n k : ℕ} → Held ws n → k < n → k < 262144
held_row h l = omega (arith, h.few)

pub ruleset entering = (enter_other, enter_here, row_held, held_row, indexed_some, rules)

-- the rows from row k on are in the index
pub record Building (d x ws : List ℕ) (n k : ℕ) (hs ls hs' ls' : List ℕ) : Type 0 where
  pub built : Built d x ws n k hs ls hs' ls'
  pub within : k ≤ n

pub building_begins : {d x ws hs hs' ls : List ℕ} {n : ℕ} → Wiped 0 hs hs' → Held ws n → 0 < length hs → n ≤ length ls → Building d x ws n n hs' ls hs' ls
building_begins {d} {x} {ws} {hs} {hs'} {ls} {n} z o p q =
    let e : hs' ≡ replicate (length hs) 0 = z.is ∙ clear_all hs in
    record {
      built = record {
        indexed = record {
          first = λ h l. ap (λ (t : List ℕ). get_or t h 0) e
              ∙ zero_at (length hs) h
              ∙ sym (ap (λ (t : List Row). word_for d x ws (first_in (length hs') h n t)) (shown_past d x ws n n (omega arith)));
          next = λ j k l t. absurd (omega arith);
          some = omega (arith, ap length e, length-replicate {A = ℕ} (length hs) 0);
          held = q;
          few = o.few;
        };
        wide = refl;
        long = refl;
        rest = λ j h. refl;
      };
      within = omega arith;
    }
  where
    zero_at : (n k : ℕ) → ◌≡◌ {A = ℕ} (get_or (replicate n 0) k 0) 0
    zero_at zero k = refl
    zero_at (suc n) zero = refl
    zero_at (suc n) (suc k) = zero_at n k

module _ {d x ws hs₀ ls₀ hs ls : List ℕ} {n k : ℕ} (g : Building d x ws n k hs₀ ls₀ hs ls) where
  pub building_row : 0 < k → k - 1 < n
  building_row p = omega (arith, g.within)

  pub building_more : {hs' ls' : List ℕ} → Built d x ws n (k - 1) hs ls hs' ls' → Building d x ws n (k - 1) hs₀ ls₀ hs' ls'
  building_more b = record {
    built = record {
      indexed = b.indexed;
      wide = b.wide ∙ g.built.wide;
      long = b.long ∙ g.built.long;
      rest = λ j q. b.rest j q ∙ g.built.rest j q;
    };
    within = omega (arith, g.within);
  }

  pub building_ends : {hs₁ : List ℕ} → k ≤ 0 → Wiped 0 hs₁ hs₀ → Built d x ws n 0 hs₁ ls₀ hs ls
  building_ends {hs₁} p z =
      let e : k ≡ 0 = omega arith in
      let w : length hs₀ ≡ length hs₁ = ap length (z.is ∙ clear_all hs₁) ∙ length-replicate {A = ℕ} (length hs₁) 0 in
      record { indexed = rw e at g.built.indexed; wide = g.built.wide ∙ w; long = g.built.long; rest = g.built.rest }

pub ruleset building = (building_begins, building_row, building_more, building_ends, rules)

-- words past the rows do not matter
pub indexed_kept : {d x ws hs ls ls' : List ℕ} {n : ℕ} → Indexed d x ws n hs ls → length ls' ≡ length ls → ((j : ℕ) → j < n → get_or ls' j 0 ≡ get_or ls j 0) → Indexed d x ws n hs ls'
indexed_kept ix e f = record {
  first = ix.first;
  next = λ j p q t. f j q ∙ ix.next j p q t;
  some = ix.some;
  held = omega (arith, ix.held);
  few = ix.few;
}
