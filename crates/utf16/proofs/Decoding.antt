-- What is decoded from a place on, and put.
use Prim.Native.Nat.{ℕ, ◌+◌, ◌-◌, ◌*◌, ◌^◌, ◌≤◌, ◌<◌}
use mathlib.Core.Path.{◌≡◌, refl, sym, ap, ◌∙◌}
use mathlib.Core.List.{List, [], ◌∷◌, ◌++◌, append-nil, append_assoc}
use mathlib.Core.Bool.{Bool, true, false}
use borrow.Author.Rules.{rules}
use native.Mathlib.Omega.{arith}
use lib.ListN.{length, get_or}
use Rattle.tables.specs.Table as tables
use Rattle.utf8.specs.Encoding.{utf8}
use Rattle.utf8.proofs.Encodings.{utf8_short}
use Rattle.answers.specs.Puts.{Puts}
use Rattle.answers.proofs.Putting.{puts_none, puts_then, char_one}
use Rattle.utf16.specs.Decode.{Scalars, scalars, lone, before, rest, in_bytes}
use Rattle.utf16.specs.Outcome.{IsUnit, IsCharacter, Characters, Decodes, low_byte, Block, IsAscii, IsStep, Steps, PutsAll}
use Rattle.utf16.specs.declared.Scalar.{Scalar}
use Rattle.utf16.specs.declared.Step.{Step}
use Rattle.std.proofs.Common.{Option, Some, None, Result, Ok, Err}
use Rattle.utf16.proofs.Units.{rest_none, rest_ascii}

before_before : (a b : List ℕ) (x : Scalars) → before a (before b x) ≡ before (a ++ b) x
before_before a b (scalars cs) = ap scalars (sym (append_assoc a b cs))
before_before a b (lone p) = refl

before_nil : (x : Scalars) → before [] x ≡ x
before_nil (scalars cs) = refl
before_nil (lone p) = refl

bytes_append : (cs ds : List ℕ) → in_bytes (cs ++ ds) ≡ in_bytes cs ++ in_bytes ds
bytes_append [] ds = refl
bytes_append (c ∷ cs) ds = rw (bytes_append cs ds) (sym (append_assoc (utf8 c) (in_bytes cs) (in_bytes ds)))

-- ---- from a place up to another

pub decode_none : {big : Bool} {raw out : List ℕ} {at n : ℕ} → at ≤ length raw → Decodes big raw at n out out at n
decode_none {big} {raw} {at = at} h = record {
  done = [];
  left = sym (before_nil (rest big raw at));
  puts = puts_none;
  most = omega arith;
  onward = omega arith;
  inside = h;
  same = refl;
}

pub decode_starts : {big : Bool} {raw out : List ℕ} {at n : ℕ} → at + 1 < length raw → Decodes big raw at n out out at n
decode_starts h = decode_none (omega arith)

module _ {big : Bool} {raw : List ℕ} where
  decode_one : (c : ℕ) {out out' : List ℕ} {at next n r : ℕ} → rest big raw at ≡ before (c ∷ []) (rest big raw next) → at + 2 ≤ next → next ≤ length raw → length out' ≡ length out → Puts (utf8 c) n out out' r → Decodes big raw at n out out' next r
  decode_one c e a b l q = record {
    done = c ∷ [];
    left = e;
    puts = rw append-nil q;
    most = omega (arith, q.counts, utf8_short c);
    onward = omega arith;
    inside = b;
    same = l;
  }

  decode_then : {out₀ out out' : List ℕ} {from m at n next r : ℕ} → Decodes big raw from m out₀ out at n → Decodes big raw at n out out' next r → Decodes big raw from m out₀ out' next r
  decode_then {next = next} g h = record {
    done = g.done ++ h.done;
    left = g.left ∙ rw h.left (before_before g.done h.done (rest big raw next));
    puts = rw (bytes_append g.done h.done) (puts_then g.puts h.puts);
    most = omega (arith, g.most, h.most);
    onward = omega (arith, g.onward, h.onward);
    inside = h.inside;
    same = h.same ∙ g.same;
  }

-- a character by its kind
is_at : {big : Bool} {raw : List ℕ} {at : ℕ} {p : Option Scalar} {s : Scalar} → Characters big raw at p → p ≡ Some s → IsCharacter big raw at (Some s)
is_at {big} {raw} {at} {s = s} c e = let d : Characters big raw at (Some s) = rw e at c in d.is

is_lone : {big : Bool} {raw : List ℕ} {at : ℕ} {p : Option Scalar} → Characters big raw at p → p ≡ None → IsCharacter big raw at None
is_lone {big} {raw} {at} c e = let d : Characters big raw at None = rw e at c in d.is

-- ---- unit by unit

module _ {big : Bool} {raw out₀ out : List ℕ} {from m at n : ℕ} (g : Decodes big raw from m out₀ out at n) where
  pub decode_same : length out ≡ length out₀
  decode_same = g.same

  pub decode_far : from + 64 ≤ at → Steps big raw from m out₀ out (Ok (record { next = at; count = n }))
  decode_far h = record { is = (g, omega arith) }

  pub decode_ends : length raw ≤ at + 1 → from + 1 < length raw → Steps big raw from m out₀ out (Ok (record { next = at; count = n }))
  decode_ends h k = record { is = (g, omega arith) }

  module _ (h : at + 1 < length raw) where
    pub decode_room : length raw ≤ 1048576 → m < 4194304 → n + 4 < 2 ^ 62
    decode_room k l = omega (arith, g.most)

    pub decode_ascii : {u r : ℕ} {out' : List ℕ} → IsUnit big raw at u → u < 128 → length out' ≡ length out → tables.Put 1 (u ∷ []) n out out' r → Decodes big raw from m out₀ out' (at + 2) r
    decode_ascii {u} c k l q = decode_then g (decode_one u (rest_ascii h c k) (omega arith) (omega arith) l (char_one k q))

    module _ {p : Option Scalar} (c : Characters big raw at p) where
      pub decode_lone : p ≡ None → Steps big raw from m out₀ out (Err at)
      decode_lone e = record { is = g.left ∙ rw (is_lone c e) }

      module _ {s : Scalar} (e : p ≡ Some s) where
        pub decode_char : {r : ℕ} {out' : List ℕ} → length out' ≡ length out → Puts (utf8 s.code) n out out' r → Decodes big raw from m out₀ out' s.next r
        decode_char l q = let d = is_at c e in decode_then g (decode_one s.code d.0 d.1 d.2 l q)

        pub decode_less : length raw - s.next < length raw - at
        decode_less = let d = is_at c e in omega (arith, d.1, d.2)

        pub decode_small : s.code < 1114112
        decode_small = (is_at c e).3

pub ruleset puts = (decode_starts, decode_same, decode_far, decode_ends, decode_room, decode_ascii, decode_lone, decode_char, decode_less, decode_small, rules)

-- ---- 32 units below 128

-- a loop that puts them, after i of them
pub record Blocks (big : Bool) (raw : List ℕ) (at n : ℕ) (out₀ out : List ℕ) (i m : ℕ) : Type 0 where
  pub decodes : Decodes big raw at n out₀ out (at + i * 2) m
  pub few : i ≤ 32

module _ {big : Bool} {raw : List ℕ} {at : ℕ} (b : Block big raw at) where
  pub block_begins : {out : List ℕ} {n : ℕ} → Blocks big raw at n out out 0 n
  block_begins {out} {n} =
      let e : at ≡ at + 0 * 2 = omega arith in
      let d : Decodes big raw at n out out at n = decode_none (omega (arith, b.inside)) in
      record { decodes = rw (← e) d; few = omega arith }

  module _ {out₀ out : List ℕ} {n i m : ℕ} (g : Blocks big raw at n out₀ out i m) where
    pub block_more : {low r : ℕ} {out' : List ℕ} → i < 32 → low ≡ low_byte big at → length out' ≡ length out → tables.Put 1 (get_or raw (low + i * 2) 0 ∷ []) m out out' r → Blocks big raw at n out₀ out' (i + 1) r
    block_more {low} {r} {out'} h e l q =
        let p : tables.Put 1 (get_or raw (low_byte big at + i * 2) 0 ∷ []) m out out' r = rw e at q in
        let f : at + i * 2 + 2 ≡ at + (i + 1) * 2 = omega arith in
        record { decodes = rw f at (decode_ascii g.decodes (omega (arith, b.inside)) (b.units i h) (b.ascii i h) l p); few = omega arith }

    pub block_ends : 32 ≤ i → Decodes big raw at n out₀ out (at + 64) m
    block_ends h =
        let e : at + i * 2 ≡ at + 64 = omega (arith, g.few) in
        rw e at g.decodes

    pub block_same : length out ≡ length out₀
    block_same = g.decodes.same

    pub block_room : n < 4194304 → i < 32 → at < 1048576 → m < 2 ^ 62
    block_room h k j = omega (arith, g.decodes.most)

    pub block_inside : {low : ℕ} → i < 32 → low ≡ low_byte big at → low + i * 2 < length raw
    block_inside {low} h e = go big e
      where
        go : (t : Bool) → low ≡ low_byte t at → low + i * 2 < length raw
        go true q = omega (arith, b.inside, q)
        go false q = omega (arith, b.inside, q)

module _ (at : ℕ) (big : Bool) where
  pub low_big : big ≡ true → at + 1 ≡ low_byte big at
  low_big e = rw e

  pub low_little : big ≡ false → at ≡ low_byte big at
  low_little e = rw e

pub ruleset blocks = (low_big, low_little, block_begins, block_more, block_ends, block_same, block_room, block_inside, rules)

-- ---- steps

pub step_block : {big : Bool} {raw : List ℕ} {at n r : ℕ} {out out' : List ℕ} → Decodes big raw at n out out' (at + 64) r → Steps big raw at n out out' (Ok (record { next = at + 64; count = r }))
step_block d = record { is = (d, omega arith) }

pub is_block : {big : Bool} {raw : List ℕ} {at : ℕ} {t : Bool} → IsAscii big raw at t → t ≡ true → Block big raw at
is_block a e = a.is e

module _ {big : Bool} {raw : List ℕ} {at : ℕ} {n : ℕ} {out out' : List ℕ} {p : Result Step ℕ} (s : Steps big raw at n out out' p) where
  is_on : {x : Step} → p ≡ Ok x → IsStep big raw at n out out' (Ok x)
  is_on {x} e = let d : Steps big raw at n out out' (Ok x) = rw e at s in d.is

  is_stuck : {q : ℕ} → p ≡ Err q → rest big raw at ≡ lone q
  is_stuck {q} e = let d : Steps big raw at n out out' (Err q) = rw e at s in d.is

  module _ {out₀ : List ℕ} (g : Decodes big raw 2 0 out₀ out at n) where
    pub step_on : {x : Step} → p ≡ Ok x → Decodes big raw 2 0 out₀ out' x.next x.count
    step_on e = decode_then g (is_on e).0

    pub step_stuck : {q : ℕ} → p ≡ Err q → PutsAll big raw out₀ out' (Err q)
    step_stuck e = record { is = g.left ∙ rw (is_stuck e) }

  pub step_less : {x : Step} → p ≡ Ok x → length raw - x.next < length raw - at
  step_less e = let d = is_on e in omega (arith, d.1, d.0.inside)

module _ {big : Bool} {raw out₀ out : List ℕ} {at n : ℕ} (g : Decodes big raw 2 0 out₀ out at n) where
  pub all_ends : length raw ≤ at + 1 → PutsAll big raw out₀ out (Ok n)
  all_ends h = record { is = (g.done, g.left ∙ rw (rest_none big raw at h, append-nil), g.puts) }

  pub all_same : length out ≡ length out₀
  all_same = g.same

  pub all_room : at + 1 < length raw → length raw ≤ 1048576 → n < 4194304
  all_room h k = omega (arith, g.most)

pub ruleset steps = (decode_none, is_block, step_block, step_on, step_stuck, step_less, all_ends, all_same, all_room, rules)
