-- The start of an attribute: the usual form, by its bytes, and any form.
use Prim.Native.Nat.{ℕ, zero, suc, ◌+◌, ◌-◌, ◌*◌, ◌≤◌, ◌<◌, ◌^◌}
use mathlib.Core.Path.{◌≡◌, refl, sym, ap, subst, ◌∙◌}
use mathlib.Core.List.{List, ◌∷◌, ◌++◌}
use mathlib.Core.Bool.{Bool, true, false}
use borrow.Author.Rules.{rules}
use borrow.Author.Tests.{ne_eqb}
use native.Mathlib.Numerals.{add-one}
use native.Mathlib.Omega.{arith}
use lib.ListN.{length, drop, get_or, length-drop, drop_of_length-le, take-append-drop}
use lib.Seq.{drop-cons, drop-drop, length-take-le}
use Rattle.slices.specs.Bytes.{bytes, span, all}
use Rattle.slices.specs.Run.{Run}
use Rattle.slices.proofs.Runs.{both, span_stops, run_begins, run_more, run_stops}
use Rattle.scan.specs.Classes.{white, name_byte}
use Rattle.scan.specs.Ignorable.{quote}
use Rattle.scan.proofs.Class.{name_not_white}
use Rattle.references.specs.Unescape.{special}
use Rattle.document.specs.declared.Form.{Form}
use Rattle.document.specs.Tags.{absent, attribute, open_quote}
use Rattle.attributes.specs.One.{part}
use Rattle.attributes.specs.Slots.{class_of, Opened, Four, Key, High, Plain}
use Rattle.attributes.specs.declared.Known.{Known}
use Rattle.attributes.proofs.Found.{Quoting, quote_begins, quote_high, quote_closes, quote_plain, quote_low, equals_opens, none_spaced, none_named, attribute_equals}

-- ---- any form

module _ {doc : List ℕ} {from name : ℕ} (w : Run white doc from name) where
  pub start_unspaced : name ≤ from → attribute (drop from doc) from ≡ absent
  start_unspaced h = (none_spaced w h).is

  module _ (h : from < name) {end : ℕ} (n : Run name_byte doc name end) where
    pub start_unnamed : end ≤ name → attribute (drop from doc) from ≡ absent
    start_unnamed l = (none_named w h n l).is

    module _ (l : name < end) {equal : ℕ} (v : Run white doc end equal) where
      pub start_ended : length doc ≤ equal → attribute (drop from doc) from ≡ absent
      start_ended b = attribute_equals w h n l v ∙ rw (drop_of_length-le doc b)

      pub start_unequal : equal < length doc → (get_or doc equal 0 ≡ 61 → ⊥) → attribute (drop from doc) from ≡ absent
      start_unequal b e = attribute_equals w h n l v ∙ rw (drop-cons doc equal 0 b, ne_eqb _ _ e)

      module _ (b : equal < length doc) (e : get_or doc equal 0 ≡ 61) {at : ℕ} (u : Run white doc (equal + 1) at) where
        to_quote : attribute (drop from doc) from ≡ open_quote name (part doc name (end - name)) (drop at doc) at
        to_quote = attribute_equals w h n l v ∙ equals_opens name (part doc name (end - name)) b e u

        pub start_cut : length doc ≤ at → attribute (drop from doc) from ≡ absent
        start_cut k = to_quote ∙ rw (drop_of_length-le doc k)

        module _ (k : at < length doc) {t : Bool} (q : t ≡ quote (get_or doc at 0)) where
          pub start_unquoted : t ≡ false → attribute (drop from doc) from ≡ absent
          start_unquoted f = to_quote ∙ rw (drop-cons doc at 0 k, sym q ∙ f)

          pub start_opens : t ≡ true → {c : ℕ} → c ≡ class_of (part doc name (end - name)) → Opened doc from (record { class = c; value = at + 1; quote = get_or doc at 0 })
          start_opens f {c} g = record {
            name = name;
            len = end - name;
            class = g;
            before = omega (arith, v.onward, u.onward);
            onward = omega (arith, v.onward, u.onward);
            within = omega arith;
            low = quote_low q f;
            is = to_quote ∙ rw (add-one, drop-cons doc at 0 k, sym q ∙ f);
          }

pub ruleset opens = (start_unspaced, start_unnamed, start_ended, start_unequal, start_cut, start_unquoted, start_opens, rules)

-- ---- the usual form

-- bytes of a class before one that is not
run_all : (p : ℕ → Bool) (doc : List ℕ) (from n : ℕ) → all p (part doc from n) ≡ true → from + n < length doc → p (get_or doc (from + n) 0) ≡ false → Run p doc from (from + n)
run_all p doc from n h l s =
    let e : drop from doc ≡ part doc from n ++ get_or doc (from + n) 0 ∷ drop (suc (from + n)) doc = sym (take-append-drop n (drop from doc)) ∙ rw (drop-drop, drop-cons doc (from + n) 0 l) in
    let k : length (part doc from n) ≡ n = length-take-le n (drop from doc) (rw length-drop (omega arith)) in
    let r : span p (drop from doc) ≡ part doc from n = ap (span p) e ∙ span_stops p (part doc from n) (get_or doc (from + n) 0 ∷ drop (suc (from + n)) doc) h s in
    record { ends = rw (r, k); onward = omega arith; within = omega arith }

-- one byte of a part
pub part_cons : (doc : List ℕ) (p n : ℕ) → p < length doc → part doc p (suc n) ≡ get_or doc p 0 ∷ part doc (p + 1) n
part_cons doc p n h = rw (drop-cons doc p 0 h, add-one)

key_dark : {doc : List ℕ} {at : ℕ} {k : Known} → at < length doc → Key doc at k → white (get_or doc at 0) ≡ false
key_dark {doc} {at} {k} l h =
    let m : k.len ≡ suc (k.len - 1) = omega (arith, h.some) in
    let a : all name_byte (part doc at (suc (k.len - 1))) ≡ true = rw m at h.bytes in
    name_not_white (get_or doc at 0) (both (name_byte (get_or doc at 0)) (all name_byte (part doc (at + 1) (k.len - 1))) (rw (part_cons doc at (k.len - 1) l) at a)).0

module _ {doc : List ℕ} (at : ℕ) (r : at + 16 ≤ length doc) (s : get_or doc at 0 ≡ 32) {k : Known} (h : Key doc (at + 1) k) where
  pub quick_small : length doc ≤ 1048576 → at + 1 + k.len < 2 ^ 64
  quick_small l = omega (arith, h.short)

  pub quick_open : length doc ≤ 1048576 → at + 1 + k.len + 1 < 2 ^ 64
  quick_open l = omega (arith, h.short)

  pub quick_value : length doc ≤ 1048576 → at + 1 + k.len + 1 + 1 < 2 ^ 64
  quick_value l = omega (arith, h.short)

  pub quick_end : at + 1 + k.len < length doc
  quick_end = omega (arith, h.short)

  pub quick_room : at + 1 + k.len + 1 < length doc
  quick_room = omega (arith, h.short)

  module _ (e : get_or doc (at + 1 + k.len) 0 ≡ 61) (q : get_or doc (at + 1 + k.len + 1) 0 ≡ 34) where
    found : Opened doc at (record { class = k.class; value = at + 1 + k.len + 1 + 1; quote = get_or doc (at + 1 + k.len + 1) 0 })
    found =
        let m : (at + 1 + k.len) - (at + 1) ≡ k.len = omega arith in
        let t : true ≡ quote (get_or doc (at + 1 + k.len + 1) 0) = rw q in
        start_opens
        (run_stops (run_more (run_begins {p = white} (omega arith)) (omega arith) (rw s)) (omega arith) (key_dark (omega arith) h))
        (omega arith)
        (run_all name_byte doc (at + 1) k.len h.bytes (omega (arith, quick_room)) (rw e))
        (omega (arith, h.some))
        (run_stops (run_begins {p = white} (omega (arith, quick_room))) (omega (arith, quick_room)) (rw e))
        (omega (arith, quick_room))
        e
        (run_stops (run_begins {p = white} (omega (arith, quick_room))) (omega (arith, quick_room)) (rw q))
        quick_room
        t
        refl
        (rw m h.class)

    pub quick_opens : Opened doc at (record { class = k.class; value = at + 1 + k.len + 1 + 1; quote = 34 })
    quick_opens = rw q at found

pub ruleset quickly = (quick_small, quick_open, quick_value, quick_end, quick_room, quick_opens, rules)

-- ---- four bytes, by their number

digit : (b x c y : ℕ) → b < 256 → c < 256 → b + 256 * x ≡ c + 256 * y → (b ≡ c) × (x ≡ y)
digit b x c y h l e = (omega arith, omega arith)

pub four_part : {doc : List ℕ} {at w : ℕ} (a b c d n : ℕ) → Four doc at w → at + 4 ≤ length doc → a < 256 → b < 256 → c < 256 → d < 256 → w ≡ a + 256 * (b + 256 * (c + 256 * d)) → part doc at (suc (suc (suc (suc n)))) ≡ a ∷ b ∷ c ∷ d ∷ part doc (at + 4) n
four_part {doc} {at} {w} a b c d n f l i j k m e =
    let x = digit (get_or doc at 0) (get_or doc (at + 1) 0 + 256 * (get_or doc (at + 2) 0 + 256 * get_or doc (at + 3) 0)) a (b + 256 * (c + 256 * d)) f.first i (omega (arith, f.is)) in
    let y = digit (get_or doc (at + 1) 0) (get_or doc (at + 2) 0 + 256 * get_or doc (at + 3) 0) b (c + 256 * d) f.second j x.1 in
    let z = digit (get_or doc (at + 2) 0) (get_or doc (at + 3) 0) c d f.third k y.1 in
    part_cons doc at (suc (suc (suc n))) (omega arith)
    ∙ rw (part_cons doc (at + 1) (suc (suc n)) (omega arith), two, part_cons doc (at + 2) (suc n) (omega arith), three, part_cons doc (at + 3) n (omega arith), four, x.0, y.0, z.0, z.1)
  where
    two : at + 1 + 1 ≡ at + 2
    two = omega arith

    three : at + 2 + 1 ≡ at + 3
    three = omega arith

    four : at + 3 + 1 ≡ at + 4
    four = omega arith

key_of : {doc : List ℕ} {at c n : ℕ} (key : List ℕ) → part doc at n ≡ key → 0 < n → n ≤ 9 → all name_byte key ≡ true → c ≡ class_of key → Key doc at (record { class = c; len = n })
key_of key e s l b c = record { some = s; short = l; bytes = rw e b; class = rw e c }

module _ {doc : List ℕ} {at w : ℕ} (l : at + 9 ≤ length doc) (f : Four doc at w) where
  pub known_name : w ≡ 1701667182 → Key doc at (record { class = 0; len = 4 })
  unfolding class_of
  known_name e = key_of (bytes "name") (four_part 110 97 109 101 0 f (omega arith) (omega arith) (omega arith) (omega arith) (omega arith) (omega arith)) (omega arith) (omega arith) refl refl

  pub known_type : w ≡ 1701869940 → Key doc at (record { class = 1; len = 4 })
  unfolding class_of
  known_type e = key_of (bytes "type") (four_part 116 121 112 101 0 f (omega arith) (omega arith) (omega arith) (omega arith) (omega arith) (omega arith)) (omega arith) (omega arith) refl refl

  pub known_value : w ≡ 1970037110 → get_or doc (at + 4) 0 ≡ 101 → Key doc at (record { class = 2; len = 5 })
  unfolding class_of
  known_value e g =
      key_of (bytes "value") (four_part 118 97 108 117 1 f (omega arith) (omega arith) (omega arith) (omega arith) (omega arith) (omega arith) ∙ rw (part_cons doc (at + 4) 0 (omega arith), g)) (omega arith) (omega arith) refl refl

  pub known_access : w ≡ 1701012321 → get_or doc (at + 4) 0 ≡ 115 → get_or doc (at + 5) 0 ≡ 115 → Key doc at (record { class = 3; len = 6 })
  unfolding class_of
  known_access e g h =
      let five : at + 4 + 1 ≡ at + 5 = omega arith in
      key_of (bytes "access") (four_part 97 99 99 101 2 f (omega arith) (omega arith) (omega arith) (omega arith) (omega arith) (omega arith) ∙ rw (part_cons doc (at + 4) 1 (omega arith), g, five, part_cons doc (at + 5) 0 (omega arith), h)) (omega arith) (omega arith) refl refl

  pub known_direction : {v : ℕ} → w ≡ 1701996900 → Four doc (at + 4) v → v ≡ 1869182051 → get_or doc (at + 8) 0 ≡ 110 → Key doc at (record { class = 4; len = 9 })
  unfolding class_of
  known_direction e g h i =
      let eight : at + 4 + 4 ≡ at + 8 = omega arith in
      key_of (bytes "direction") (four_part 100 105 114 101 5 f (omega arith) (omega arith) (omega arith) (omega arith) (omega arith) (omega arith) ∙ rw (four_part 99 116 105 111 1 g (omega arith) (omega arith) (omega arith) (omega arith) (omega arith) (omega arith), eight, part_cons doc (at + 8) 0 (omega arith), i)) (omega arith) (omega arith) refl refl

pub ruleset knows = (known_name, known_type, known_value, known_access, known_direction, rules)

-- ---- the end of a value that is shown as it stands

-- past bytes that are above quotes and special bytes
quote_steps : {q : ℕ} {doc : List ℕ} {from at : ℕ} → Quoting q doc from at Form.Plain → q ≤ 39 → (k : ℕ) → at + k ≤ length doc → ((i : ℕ) → i < k → 40 ≤ get_or doc (at + i) 0) → Quoting q doc from (at + k) Form.Plain
quote_steps {q} {doc} {from} {at} g l zero h f = let e : at ≡ at + 0 = omega arith in subst (λ (p : ℕ). Quoting q doc from p Form.Plain) e g
quote_steps {q} {doc} {from} {at} g l (suc k) h f =
    let e : at + k + 1 ≡ at + suc k = omega arith in
    subst (λ (p : ℕ). Quoting q doc from p Form.Plain) e (quote_high (quote_steps g l k (omega arith) (λ i b. f i (omega arith))) (omega arith) (omega (arith, f k (omega arith))) l)

module _ {q : ℕ} {doc : List ℕ} {from at k : ℕ} (g : Quoting q doc from at Form.Plain) (l : q ≤ 39) (h : High doc at k) where
  pub plain_skips : Quoting q doc from (at + k) Form.Plain
  plain_skips = quote_steps g l k h.within h.above

  pub plain_closes : at + k < length doc → get_or doc (at + k) 0 ≡ q → Plain q doc from (at + k)
  plain_closes b e = record { value = quote_closes plain_skips b e }

  pub plain_more : at + k < length doc → (get_or doc (at + k) 0 ≡ q → ⊥) → {t : Bool} → t ≡ special (get_or doc (at + k) 0) → t ≡ false → Quoting q doc from (at + k + 1) Form.Plain
  plain_more b o e f = quote_plain plain_skips b o e f

pub plain_room : {doc : List ℕ} {at k : ℕ} → High doc at k → k < 8 → at + k < length doc
plain_room h b = h.room b

pub ruleset plains = (quote_begins, plain_room, plain_skips, plain_closes, plain_more, rules)
