-- Content that is pieces, put together and cut: White_Space at its ends is text, so without it the content is pieces still.
use Prim.Native.Nat.{ℕ, ◌+◌, ◌-◌, ◌<◌}
use mathlib.Core.Path.{◌≡◌, refl, sym, ap, ◌∙◌}
use mathlib.Core.List.{List, [], ◌∷◌, ◌++◌, append_assoc, reverse, reverse-cons, reverse-append, reverse-reverse}
use mathlib.Core.Bool.{Bool, true, false}
use borrow.Author.Tests.{ne_eqb, ltb-true}
use native.Mathlib.Omega.{arith}
use lib.Dec.{eqb, ltb}
use lib.ListN.{length, take, drop, length-append}
use lib.Seq.{take-append_seam, drop-append_seam}
use Rattle.slices.specs.Bytes.{if, empty}
use Rattle.slices.proofs.Ends.{empty_some}
use Rattle.utf8.specs.WellFormed.{ill_formed}
use Rattle.utf8.specs.WhiteSpace.{characters, code_point, white_space, leading, trim_start, trim_end}
use Rattle.utf8.proofs.Sequences.{Char, Followed, char_shape, ascii_first}
use Rattle.utf8.proofs.Texts.{All, joined, joined_append, whole, characters_joined, reversed_long}
use Rattle.document.specs.Tokens.{Token, start, close, fault, end}
use Rattle.document.specs.Elements.{Keeping}
use Rattle.document.proofs.Tests.{never}
use Rattle.docstrings.specs.Passable.{Passable}
use Rattle.docstrings.proofs.Atoms.{Tags, Atom, text, mark, token, bytes_of, toks_of, Leads, atoms_lexed, atoms_fold}

-- ---- together

-- a tag, then what leads on alike
lead_on : (f : List ℕ) (k : Token) (h : Tags f k) (xs ys : List Atom) (ms ks : List (List ℕ)) → ((ns : List (List ℕ)) → Leads xs ns ms → Leads ys ns ks) → (ns : List (List ℕ)) → Leads (token f k h ∷ xs) ns ms → Leads (token f k h ∷ ys) ns ks
lead_on f (start t) h xs ys ms ks i ns g = go t.self g
  where
    go : (s : Bool) → if s (Leads xs ns ms) ((length ns < 1023) × Leads xs (t.name ∷ ns) ms) → if s (Leads ys ns ks) ((length ns < 1023) × Leads ys (t.name ∷ ns) ks)
    go true g = i ns g
    go false g = (g.0, i (t.name ∷ ns) g.1)
lead_on f (close lt n q) h xs ys ms ks i [] g = absurd g
lead_on f (close lt n q) h xs ys ms ks i (m ∷ ns) g = (g.0, i ns g.1)
lead_on f (fault n q) h xs ys ms ks i ns g = absurd g
lead_on f (end q) h xs ys ms ks i ns g = absurd g

pub leads_append : (xs ys : List Atom) (ns ms ks : List (List ℕ)) → Leads xs ns ms → Leads ys ms ks → Leads (xs ++ ys) ns ks
leads_append [] ys ns ms ks g h = rw g h
leads_append (text b e ∷ xs) ys ns ms ks g h = leads_append xs ys ns ms ks g h
leads_append (mark f e ∷ xs) ys ns ms ks g h = leads_append xs ys ns ms ks g h
leads_append (token f k e ∷ xs) ys ns ms ks g h = lead_on f k e xs (xs ++ ys) ms ks (λ ns' g'. leads_append xs ys ns' ms ks g' h) ns g

pub bytes_append : (xs ys : List Atom) → bytes_of (xs ++ ys) ≡ bytes_of xs ++ bytes_of ys
bytes_append [] ys = refl
bytes_append (text b e ∷ xs) ys = ap (◌∷◌ b) (bytes_append xs ys)
bytes_append (mark f e ∷ xs) ys = rw (bytes_append xs ys) (ap (◌∷◌ 60) (sym (append_assoc f (62 ∷ bytes_of xs) (bytes_of ys))))
bytes_append (token f k e ∷ xs) ys = rw (bytes_append xs ys) (ap (◌∷◌ 60) (sym (append_assoc f (62 ∷ bytes_of xs) (bytes_of ys))))

-- ---- cut

-- no byte is x
abbrev Without : ℕ → List ℕ → Type 0
Without x [] = Unit {0}
Without x (b ∷ l) = (eqb b x ≡ false) × Without x l

without_append : (x : ℕ) (k l : List ℕ) → Without x k → Without x l → Without x (k ++ l)
without_append x [] l h g = g
without_append x (b ∷ k) l h g = (h.0, without_append x k l h.1 g)

without_at : (f l : List ℕ) → Without 62 (f ++ 62 ∷ l) → ⊥
without_at [] l h = never (sym h.0)
without_at (b ∷ f) l h = without_at f l h.1

-- pieces that are some bytes and lead as others do
record Cut (l : List ℕ) (xs : List Atom) : Type 0 where
  atoms : List Atom
  is : bytes_of atoms ≡ l
  leads : (ns ms : List (List ℕ)) → Leads xs ns ms → Leads atoms ns ms

cut_front : (w : List ℕ) (xs : List Atom) (y : List ℕ) → Without 60 w → bytes_of xs ≡ w ++ y → Cut y xs
cut_front [] xs y h e = record { atoms = xs; is = e; leads = λ ns ms g. g }
cut_front (b ∷ w) [] y h e = let z : ◌≡◌ {A = ℕ} 0 1 = cc in absurd (omega arith)
cut_front (b ∷ w) (text c k ∷ xs) y h e =
    let z : bytes_of xs ≡ w ++ y = cc in
    let r = cut_front w xs y h.1 z in
    record { atoms = r.atoms; is = r.is; leads = r.leads }
cut_front (b ∷ w) (mark f k ∷ xs) y h e = let z : 60 ≡ b = cc in let v = rw (← z) at h.0 in never (sym v)
cut_front (b ∷ w) (token f t k ∷ xs) y h e = let z : 60 ≡ b = cc in let v = rw (← z) at h.0 in never (sym v)

-- where no `>` stands there is no tag
no_tag : (xs : List Atom) → Without 62 (bytes_of xs) → (ns ms : List (List ℕ)) → Leads xs ns ms → ns ≡ ms
no_tag [] h ns ms g = g
no_tag (text b k ∷ xs) h ns ms g = no_tag xs h.1 ns ms g
no_tag (mark f k ∷ xs) h ns ms g = absurd (without_at f (bytes_of xs) h.1)
no_tag (token f t k ∷ xs) h ns ms g = absurd (without_at f (bytes_of xs) h.1)

-- a `>` stands before bytes that are none
record Split (f y x w : List ℕ) : Type 0 where
  rest : List ℕ
  is : f ++ 62 ∷ rest ≡ x
  left : y ≡ rest ++ w

split : (f y x w : List ℕ) → Without 62 w → f ++ 62 ∷ y ≡ x ++ w → Split f y x w
split f y [] w h e = absurd (without_at f y (rw e h))
split [] y (b ∷ x) w h e =
    let z : 62 ≡ b = cc in
    let v : y ≡ x ++ w = cc in
    record { rest = x; is = rw z; left = v }
split (a ∷ f) y (b ∷ x) w h e =
    let z : a ≡ b = cc in
    let v : f ++ 62 ∷ y ≡ x ++ w = cc in
    let r = split f y x w h v in
    record { rest = r.rest; is = rw (z, r.is); left = r.left }

-- nothing is left
none : (xs : List Atom) (w : List ℕ) → Without 62 w → bytes_of xs ≡ w → Cut [] xs
none xs w h e = record { atoms = []; is = refl; leads = no_tag xs (rw e h) }

cut_back : (xs : List Atom) (x w : List ℕ) → Without 62 w → bytes_of xs ≡ x ++ w → Cut x xs
cut_back [] [] w h e = record { atoms = []; is = refl; leads = λ ns ms g. g }
cut_back [] (b ∷ x) w h e = let z : ◌≡◌ {A = ℕ} 0 1 = cc in absurd (omega arith)
cut_back (text c k ∷ xs) [] w h e = none (text c k ∷ xs) w h e
cut_back (text c k ∷ xs) (b ∷ x) w h e =
    let z : c ≡ b = cc in
    let v : bytes_of xs ≡ x ++ w = cc in
    let r = cut_back xs x w h v in
    record { atoms = text c k ∷ r.atoms; is = rw (z, r.is); leads = r.leads }
cut_back (mark f k ∷ xs) [] w h e = none (mark f k ∷ xs) w h e
cut_back (mark f k ∷ xs) (b ∷ x) w h e =
    let z : 60 ≡ b = cc in
    let v : f ++ 62 ∷ bytes_of xs ≡ x ++ w = cc in
    let s = split f (bytes_of xs) x w h v in
    let r = cut_back xs s.rest w h s.left in
    record { atoms = mark f k ∷ r.atoms; is = rw (r.is, s.is, z); leads = r.leads }
cut_back (token f t k ∷ xs) [] w h e = none (token f t k ∷ xs) w h e
cut_back (token f t k ∷ xs) (b ∷ x) w h e =
    let z : 60 ≡ b = cc in
    let v : f ++ 62 ∷ bytes_of xs ≡ x ++ w = cc in
    let s = split f (bytes_of xs) x w h v in
    let r = cut_back xs s.rest w h s.left in
    record { atoms = token f t k ∷ r.atoms; is = rw (r.is, s.is, z); leads = λ ns ms g. lead_on f t k xs r.atoms ms ms (λ ns' g'. r.leads ns' ms g') ns g }

-- ---- White_Space

abbrev White : List (List ℕ) → Type 0
White [] = Unit {0}
White (c ∷ cs) = (white_space (code_point c) ≡ true) × White cs

abbrev Stop : List (List ℕ) → Type 0
Stop [] = Unit {0}
Stop (c ∷ cs) = white_space (code_point c) ≡ false

module _ (x : ℕ) (small : x < 128) (none : white_space x ≡ false) where
  followed_without : (l : List ℕ) → Followed (length l) l → Without x l
  followed_without [] h = tt
  followed_without (b ∷ l) h = (ne_eqb b x (λ e. omega (arith, h.0)), followed_without l h.2)

  char_without : (c : List ℕ) → Char c → white_space (code_point c) ≡ true → Without x c
  char_without [] h w = tt
  char_without (a ∷ c) h w = (ne_eqb a x (λ e. first c h w e), followed_without c (char_shape a c h).follow)
    where
      first : (c : List ℕ) → Char (a ∷ c) → white_space (code_point (a ∷ c)) ≡ true → a ≡ x → ⊥
      first [] h w e = let v = rw e at w in never (sym none ∙ v)
      first (b ∷ c) h w e = omega (arith, h.size, ascii_first a (b ∷ c) (omega arith))

  joined_without : (cs : List (List ℕ)) → All cs → White cs → Without x (joined cs)
  joined_without [] h w = tt
  joined_without (c ∷ cs) h w = without_append x c (joined cs) (char_without c h.0 w.0) (joined_without cs h.1 w.1)

-- the first characters that are White_Space, and what follows them
record Led (cs : List (List ℕ)) : Type 0 where
  first : List (List ℕ)
  rest : List (List ℕ)
  is : cs ≡ first ++ rest
  white : White first
  long : leading cs ≡ length (joined first)
  stops : Stop rest

led : (cs : List (List ℕ)) → Led cs
led [] = record { first = []; rest = []; is = refl; white = tt; long = refl; stops = tt }
led (c ∷ cs) = go (white_space (code_point c)) refl (led cs)
  where
    go : (t : Bool) → white_space (code_point c) ≡ t → Led cs → Led (c ∷ cs)
    go true e r = record {
      first = c ∷ r.first;
      rest = r.rest;
      is = ap (◌∷◌ c) r.is;
      white = (e, r.white);
      long = rw (e, length-append c (joined r.first), r.long);
      stops = r.stops;
    }
    go false e r = record { first = []; rest = c ∷ cs; is = refl; white = tt; long = rw e; stops = e }

stop_leading : (cs : List (List ℕ)) → Stop cs → leading cs ≡ 0
stop_leading [] h = refl
stop_leading (c ∷ cs) h = rw h

stop_first : (cs ds : List (List ℕ)) → Stop (cs ++ ds) → Stop cs
stop_first [] ds h = tt
stop_first (c ∷ cs) ds h = h

all_first : (cs ds : List (List ℕ)) → All (cs ++ ds) → All cs
all_first [] ds h = tt
all_first (c ∷ cs) ds h = (h.0, all_first cs ds h.1)

all_rest : (cs ds : List (List ℕ)) → All (cs ++ ds) → All ds
all_rest [] ds h = h
all_rest (c ∷ cs) ds h = all_rest cs ds h.1

white_append : (cs ds : List (List ℕ)) → White cs → White ds → White (cs ++ ds)
white_append [] ds h k = k
white_append (c ∷ cs) ds h k = (h.0, white_append cs ds h.1 k)

white_reverse : (cs : List (List ℕ)) → White cs → White (reverse cs)
white_reverse [] h = tt
white_reverse (c ∷ cs) h = rw (reverse-cons c cs) (white_append (reverse cs) (c ∷ []) (white_reverse cs h.1) (h.0, tt))

-- a text, trimmed
record Trimmed (s : List ℕ) : Type 0 where
  before : List ℕ
  middle : List ℕ
  after : List ℕ
  is : s ≡ before ++ (middle ++ after)
  no_tags : Without 60 before
  no_ends : Without 62 after
  begins : trim_start s ≡ length before
  ends : trim_end s ≡ length before + length middle
  start : trim_start middle ≡ 0
  end : trim_end middle ≡ length middle

-- of characters: White_Space, others, White_Space
module _ (ws ms vs : List (List ℕ)) (all : All (ws ++ (ms ++ vs))) (first : White ws) (last : White vs) (stops : Stop ms) (ends : Stop (reverse ms)) (long : leading (ws ++ (ms ++ vs)) ≡ length (joined ws)) (short : leading (reverse (ms ++ vs)) ≡ length (joined vs)) where
  abbrev chars : List (List ℕ)
  chars = ws ++ (ms ++ vs)

  chars_joined : joined chars ≡ joined ws ++ (joined ms ++ joined vs)
  chars_joined = joined_append ws (ms ++ vs) ∙ ap (◌++◌ (joined ws)) (joined_append ms vs)

  chars_begin : trim_start (joined chars) ≡ length (joined ws)
  unfolding trim_start
  chars_begin = ap leading (characters_joined chars all) ∙ long

  chars_rest : drop (trim_start (joined chars)) (joined chars) ≡ joined (ms ++ vs)
  chars_rest = rw (chars_begin, joined_append ws (ms ++ vs)) (drop-append_seam (joined ws) (joined (ms ++ vs)))

  chars_end : trim_end (joined chars) ≡ length (joined ws) + length (joined ms)
  unfolding trim_end
  chars_end =
      let e : leading (reverse (characters (drop (trim_start (joined chars)) (joined chars)))) ≡ length (joined vs) = rw (chars_rest, characters_joined (ms ++ vs) (all_rest ws (ms ++ vs) all)) short in
      let n : length (joined chars) ≡ length (joined ws) + (length (joined ms) + length (joined vs)) = rw (chars_joined, length-append (joined ws) (joined ms ++ joined vs), length-append (joined ms) (joined vs)) in
      rw (e, n) (omega arith)

  middle_all : All ms
  middle_all = all_first ms vs (all_rest ws (ms ++ vs) all)

  middle_start : trim_start (joined ms) ≡ 0
  unfolding trim_start
  middle_start = ap leading (characters_joined ms middle_all) ∙ stop_leading ms stops

  middle_end : trim_end (joined ms) ≡ length (joined ms)
  unfolding trim_end
  middle_end =
      let e : leading (reverse (characters (drop (trim_start (joined ms)) (joined ms)))) ≡ 0 = rw (middle_start, characters_joined ms middle_all) (stop_leading (reverse ms) ends) in
      rw e (omega arith)

  chars_trimmed : Trimmed (joined chars)
  chars_trimmed = record {
    before = joined ws;
    middle = joined ms;
    after = joined vs;
    is = chars_joined;
    no_tags = joined_without 60 (omega arith) refl ws (all_first ws (ms ++ vs) all) first;
    no_ends = joined_without 62 (omega arith) refl vs (all_rest ms vs (all_rest ws (ms ++ vs) all)) last;
    begins = chars_begin;
    ends = chars_end;
    start = middle_start;
    end = middle_end;
  }

trimmed : (s : List ℕ) → ill_formed s ≡ length s → Trimmed s
trimmed s h =
    let w = whole s h in
    let a = led w.parts in
    let b = led (reverse a.rest) in
    let e : a.rest ≡ reverse b.rest ++ reverse b.first = sym (reverse-reverse a.rest) ∙ ap reverse b.is ∙ reverse-append b.first b.rest in
    let f : w.parts ≡ a.first ++ (reverse b.rest ++ reverse b.first) = a.is ∙ ap (◌++◌ a.first) e in
    rw (← w.is, f)
    (chars_trimmed a.first (reverse b.rest) (reverse b.first) (rw (← f) w.all) a.white (white_reverse b.first b.white)
    (stop_first (reverse b.rest) (reverse b.first) (rw (← e) a.stops))
    (rw (reverse-reverse b.rest) b.stops)
    (rw (← f) a.long)
    (rw (← e, reversed_long b.first) b.long))

-- ---- trimmed content

module _ {A : Type 0} (keep : Keeping A) (xs : List Atom) (leads : Leads xs [] []) where
  pieces_passable : (s : List ℕ) → bytes_of xs ≡ s → trim_start s ≡ 0 → trim_end s ≡ length s → empty s ≡ false → Passable keep s
  pieces_passable s e b n f = record {
    toks = toks_of xs;
    lexed = λ at r. rw (← e) (atoms_lexed xs at (60 ∷ 47 ∷ r));
    folds = λ doc at n p fs u. atoms_fold keep doc p n fs u xs [] at leads;
    start = b;
    end = n;
    some = f;
  }

pub content_passable : {A : Type 0} (keep : Keeping A) (xs : List Atom) (s : List ℕ) → bytes_of xs ≡ s → Leads xs [] [] → ill_formed s ≡ length s → ltb (trim_start s) (trim_end s) ≡ true → Passable keep (take (trim_end s - trim_start s) (drop (trim_start s) s))
content_passable keep xs s e g h l =
    let t = trimmed s h in
    let c = cut_front t.before xs (t.middle ++ t.after) t.no_tags (e ∙ t.is) in
    let d = cut_back c.atoms t.middle t.after t.no_ends c.is in
    let n : trim_end s - trim_start s ≡ length t.middle = omega (arith, t.begins, t.ends) in
    let m : drop (trim_start s) s ≡ t.middle ++ t.after = rw t.begins (ap (drop (length t.before)) t.is ∙ drop-append_seam t.before (t.middle ++ t.after)) in
    let k : take (trim_end s - trim_start s) (drop (trim_start s) s) ≡ t.middle = rw (n, m) (take-append_seam t.middle t.after) in
    let o : 0 < length t.middle = omega (arith, ltb-true (trim_start s) (trim_end s) l, t.begins, t.ends) in
    rw k (pieces_passable keep d.atoms (d.leads [] [] (c.leads [] [] g)) t.middle d.is t.start t.end (empty_some t.middle o))
