-- What is left of a well-formed text once it is trimmed: its ends are in order, and it is well-formed.
use Prim.Native.Nat.{ℕ, ◌+◌, ◌-◌, ◌≤◌}
use mathlib.Core.Path.{◌≡◌, refl}
use mathlib.Core.List.{List, [], ◌∷◌, ◌++◌, append-nil, reverse, reverse-cons, reverse-reverse}
use mathlib.Core.Bool.{Bool, true, false}
use native.Mathlib.Omega.{arith}
use lib.ListN.{length, take, drop, length-append, length-drop}
use lib.Seq.{take-append-add, drop-append-add, take-append-le, take_all}
use Rattle.slices.specs.Bytes.{if}
use Rattle.utf8.specs.WellFormed.{ill_formed}
use Rattle.utf8.specs.WhiteSpace.{characters, code_point, white_space, leading, trim_start, trim_end}
use Rattle.utf8.specs.Trim.{trailing, TrimmedInside, TrimmedFormed}
use Rattle.utf8.proofs.Texts.{All, joined, joined_append, all_append, Whole, whole, formed, none_whole, whole_append, whole_char, characters_whole}

-- the first characters that are White_Space, and those after them
record Leading (s : List ℕ) (n : ℕ) : Type 0 where
  room : n ≤ length s
  before : Whole (take n s)
  after : Whole (drop n s)

lead_cut : (cs : List (List ℕ)) → All cs → Leading (joined cs) (leading cs)
lead_cut [] h = record { room = omega arith; before = none_whole; after = none_whole }
lead_cut (c ∷ cs) h = go (white_space (code_point c)) (lead_cut cs h.1)
  where
    go : (t : Bool) → Leading (joined cs) (leading cs) → Leading (c ++ joined cs) (if t (length c + leading cs) 0)
    go true r = record {
      room = omega (arith, r.room, length-append c (joined cs));
      before = rw (take-append-add c (joined cs) (leading cs)) (whole_append (whole_char h.0) r.before);
      after = rw (drop-append-add c (joined cs) (leading cs)) r.after;
    }
    go false r = record { room = omega arith; before = none_whole; after = record { parts = c ∷ cs; all = h; is = refl } }

-- the last characters that are White_Space, given from the last on
record Trailing (s : List ℕ) (n : ℕ) : Type 0 where
  all : Whole s
  room : n ≤ length s
  before : Whole (take (length s - n) s)

trail_cut : (rs : List (List ℕ)) → All rs → Trailing (joined (reverse rs)) (leading rs)
trail_cut [] h = record { all = none_whole; room = omega arith; before = none_whole }
trail_cut (c ∷ rs) h =
    let e : joined (reverse (c ∷ rs)) ≡ joined (reverse rs) ++ c = rw (reverse-cons c rs, joined_append (reverse rs) (c ∷ []), append-nil c) in
    rw e (go (joined (reverse rs)) (white_space (code_point c)) (trail_cut rs h.1))
  where
    go : (x : List ℕ) (t : Bool) → Trailing x (leading rs) → Trailing (x ++ c) (if t (length c + leading rs) 0)
    go x true r =
        let e : length (x ++ c) - (length c + leading rs) ≡ length x - leading rs = omega (arith, length-append x c) in
        record {
          all = whole_append r.all (whole_char h.0);
          room = omega (arith, length-append x c, r.room);
          before = rw (e, take-append-le (length x - leading rs) x c (omega arith)) r.before;
        }
    go x false r =
        let w = whole_append r.all (whole_char h.0) in
        record { all = w; room = omega arith; before = rw (take_all (length (x ++ c) - 0) (x ++ c) (omega arith)) w }

all_reverse : (cs : List (List ℕ)) → All cs → All (reverse cs)
all_reverse [] h = tt
all_reverse (c ∷ cs) h = rw (reverse-cons c cs) (all_append (reverse cs) (c ∷ []) (all_reverse cs h.1) (h.0, tt))

leads : (s : List ℕ) → Whole s → Leading s (trim_start s)
unfolding trim_start
leads s w = let k = characters_whole w in rw k.1 at (lead_cut (characters s) k.0)

trails : (s : List ℕ) → Whole s → Trailing s (trailing s)
unfolding trailing
trails s w =
    let k = characters_whole w in
    rw (reverse-reverse (characters s), k.1) at (trail_cut (reverse (characters s)) (all_reverse (characters s) k.0))

module _ (s : List ℕ) (h : ill_formed s ≡ length s) where
  rest : Trailing (drop (trim_start s) s) (trailing (drop (trim_start s) s))
  rest = trails (drop (trim_start s) s) (leads s (whole s h)).after

  inside : (trim_start s ≤ trim_end s) × (trim_end s ≤ length s)
  unfolding trim_end trailing
  inside =
      let i = (leads s (whole s h)).room in
      let j = rest.room in
      let k = length-drop (trim_start s) s in
      (omega arith, omega arith)

  left_formed : ill_formed (take (trim_end s - trim_start s) (drop (trim_start s) s)) ≡ length (take (trim_end s - trim_start s) (drop (trim_start s) s))
  unfolding trim_end trailing
  left_formed =
      let e : trim_end s - trim_start s ≡ length (drop (trim_start s) s) - trailing (drop (trim_start s) s) = omega (arith, length-drop (trim_start s) s) in
      rw e (formed rest.before)

pub trim_order : TrimmedInside
trim_order = inside

pub trim_formed : TrimmedFormed
trim_formed = left_formed
