-- Written bytes that are read as tokens of their own, whatever follows; one after the other, and one around others.
use Prim.Native.Nat.{ℕ, zero, suc, ◌+◌, ◌-◌, ◌≤◌}
use native.Mathlib.Omega.{arith}
use native.Mathlib.Nat.{add-zero}
use mathlib.Core.Path.{◌≡◌, refl, ap, ◌∙◌}
use mathlib.Core.List.{List, [], ◌∷◌, ◌++◌, append_assoc}
use mathlib.Core.Bool.{Bool, true, false}
use lib.ListN.{length, length-append}
use lib.Seq.{drop-append_seam}
use Rattle.slices.specs.Bytes.{if}
use Rattle.slices.proofs.Runs.{same_self}
use Rattle.document.specs.Rows.{Warning}
use Rattle.document.specs.Tokens.{Tag, Token, start, close, fault, end, more, next, tokens}
use Rattle.document.specs.Reading as reading
use Rattle.document.specs.Reading.{Frame, closed, step, fold}
use Rattle.document.proofs.Runs.{taken}
use Rattle.items.specs.Written.{Pair, pairs, ending, tag, closing_tag, concat, element}
use Rattle.roundtrip.proofs.Tags.{Name, TagName, Keys, tag_at, tag_next, close_next}
use Rattle.roundtrip.proofs.Held.{keeps, Row, State, table, inside}

-- ---- one token

-- bytes that are one token
one_token : (b : ℕ) (s r : List ℕ) (at : ℕ) (t : Token) → next (b ∷ s ++ r) at ≡ more t (at + length (b ∷ s)) → tokens ((b ∷ s) ++ r) at ≡ t ∷ tokens r (at + length (b ∷ s))
unfolding tokens
one_token b s r at t h =
    let e : at + suc (length s) - suc at ≡ length s = omega arith in
    let f : suc at + length s ≡ at + suc (length s) = omega arith in
    rw (h, e, taken (length s) (s ++ r) (suc at) (omega (arith, length-append s r)), drop-append_seam, f)

tag_tokens : (at : ℕ) (n : List ℕ) (ps : List Pair) (self : Bool) (r : List ℕ) → TagName n → Keys [] ps → length ps ≤ 256 → tokens (tag n ps self ++ r) at ≡ start (tag_at at n ps self) ∷ tokens r (at + length (tag n ps self))
unfolding tag
tag_tokens at n ps self r h k l =
    one_token 60 (n ++ (pairs ps ++ ending self)) r at (start (tag_at at n ps self)) (simp append_assoc (tag_next at n ps self r h k l))

close_tokens : (at : ℕ) (n r : List ℕ) → Name n → tokens (closing_tag n ++ r) at ≡ close at n (at + length (closing_tag n)) ∷ tokens r (at + length (closing_tag n))
unfolding closing_tag
close_tokens at n r h =
    one_token 60 (47 ∷ n ++ (62 ∷ [])) r at (close at n (at + length (closing_tag n))) (simp append_assoc (close_next at n r h))

-- ---- several

-- the tokens up to where the last of d open elements is closed
abbrev pub deeper : ℕ → Token → ℕ
deeper d (start t) = if t.self d (suc d)
deeper zero (close p n q) = zero
deeper (suc d) (close p n q) = d
deeper d (fault n p) = d
deeper d (end p) = d

abbrev pub still : ℕ → List Token → List Token
still zero ts = []
still (suc d) ts = ts

abbrev pub upto : ℕ → List Token → List Token
upto d [] = []
upto d (t ∷ ts) = let r = upto (deeper d t) ts in t ∷ still (deeper d t) r

-- bytes that lead from a state to another, whatever follows them and whatever stood before
pub record Reads (b : List ℕ) (s s' : State) : Type 0 where
  pub toks : ℕ → List Token
  pub lexed : (at : ℕ) (r : List ℕ) → tokens (b ++ r) at ≡ toks at ++ tokens r (at + length b)
  pub folds : (doc : List ℕ) (at : ℕ) → fold keeps doc s (toks at) ≡ s'

-- and that close just what they open
pub record Passes (b : List ℕ) (s s' : State) : Type 0 where
  pub does : Reads b s s'
  pub inner : (at d : ℕ) (ts : List Token) → upto (suc d) (does.toks at ++ ts) ≡ does.toks at ++ upto (suc d) ts

-- and that are one element
pub record Element (b : List ℕ) (s s' : State) : Type 0 where
  pub passes : Passes b s s'
  pub whole : (at : ℕ) (ts : List Token) → upto 0 (passes.does.toks at ++ ts) ≡ passes.does.toks at

pub fold-append : (doc : List ℕ) (s : State) (ts us : List Token) → fold keeps doc s (ts ++ us) ≡ fold keeps doc (fold keeps doc s ts) us
fold-append doc s [] us = refl
fold-append doc s (t ∷ ts) us = fold-append doc (step keeps doc s t) ts us

abbrev nothing : {s : State} → Reads [] s s
nothing {s} = record { toks = λ at. []; lexed = λ at r. rw add-zero; folds = λ doc at. refl }

abbrev then : {b c : List ℕ} {s s' s'' : State} → Reads b s s' → Reads c s' s'' → Reads (b ++ c) s s''
then {b} {c} {s} x y = record {
  toks = λ at. x.toks at ++ y.toks (at + length b);
  lexed = λ at r.
      let e : at + length b + length c ≡ at + length (b ++ c) = omega (arith, length-append b c) in
      rw (append_assoc b c r, x.lexed at (c ++ r), y.lexed (at + length b) r, e, append_assoc (x.toks at));
  folds = λ doc at. fold-append doc s (x.toks at) (y.toks (at + length b)) ∙ rw x.folds (y.folds doc (at + length b));
}

-- several children, each in the state where the one before it ends; the frames stay, and rows are added
pub data Children (fs : List Frame) (ws : List Warning) : List (List ℕ) → List Row → List Row → Type 0 where
  childless : {rs : List Row} → Children fs ws [] rs rs
  child : {c : List ℕ} {cs : List (List ℕ)} {rs rs' rs'' : List Row} → Passes c (inside fs rs ws) (inside fs rs' ws) → Children fs ws cs rs' rs'' → Children fs ws (c ∷ cs) rs rs''

pass_nothing : {s : State} → Passes [] s s
pass_nothing = record { does = nothing; inner = λ at d ts. refl }

pass_then : {b c : List ℕ} {s s' s'' : State} → Passes b s s' → Passes c s' s'' → Passes (b ++ c) s s''
pass_then {b} x y = record {
  does = then x.does y.does;
  inner = λ at d ts. rw (append_assoc (x.does.toks at) (y.does.toks (at + length b)) ts, x.inner, y.inner, append_assoc (x.does.toks at));
}

all_pass : {fs : List Frame} {ws : List Warning} {cs : List (List ℕ)} {rs rs' : List Row} → Children fs ws cs rs rs' → Passes (concat cs) (inside fs rs ws) (inside fs rs' ws)
all_pass childless = pass_nothing
all_pass (child x xs) = pass_then x (all_pass xs)

-- ---- elements

-- the name of an element whose `<` stands at a place
abbrev pub name_from : ℕ → List ℕ → reading.Name
name_from at n = record { at = suc at; bytes = n }

-- an element of kind k begins at a place, with its row, and ends at once if it is `/>`
abbrev pub entered : ℕ → List ℕ → ℕ → Bool → Row → List Frame → List Row → List Warning → State
entered k n at true r fs rs ws = closed fs (table (rs ++ r ∷ []) ws)
entered k n at false r fs rs ws = inside (reading.element k (name_from at n) (length rs) ∷ fs) (rs ++ r ∷ []) ws

-- a tag of a name with such attributes begins, in a state, an element of a kind, whose row is r
pub record Opens (k : ℕ) (n : List ℕ) (ps : List Pair) (s : State) (r : Row) (fs : List Frame) (rs : List Row) (ws : List Warning) : Type 0 where
  pub name : TagName n
  pub keys : Keys [] ps
  pub few : length ps ≤ 256
  pub enters : (doc : List ℕ) (at : ℕ) (self : Bool) → step keeps doc s (start (tag_at at n ps self)) ≡ entered k n at self r fs rs ws

pub tag_name : (n : List ℕ) → TagName n → Name n
tag_name [] h = h
tag_name (c ∷ n) h = h.0

closes : (doc : List ℕ) (k : ℕ) (n : reading.Name) (i : ℕ) (fs : List Frame) (rs : List Row) (ws : List Warning) (p q : ℕ) → step keeps doc (inside (reading.element k n i ∷ fs) rs ws) (close p n.bytes q) ≡ closed fs (table rs ws)
unfolding step
closes doc k n i fs rs ws p q = rw (same_self n.bytes)

-- tokens that close what they open, between a start and a close
module _ (t : Tag) (m : List Token) (p : ℕ) (n : List ℕ) (q : ℕ) (open-tag : t.self ≡ false) (h : (d : ℕ) (ts : List Token) → upto (suc d) (m ++ ts) ≡ m ++ upto (suc d) ts) where
  wrap_inner : (d : ℕ) (ts : List Token) → upto (suc d) (start t ∷ (m ++ (close p n q ∷ [])) ++ ts) ≡ start t ∷ (m ++ (close p n q ∷ [])) ++ upto (suc d) ts
  wrap_inner d ts = simp (open-tag, append_assoc, h)

  wrap_whole : (ts : List Token) → upto 0 (start t ∷ (m ++ (close p n q ∷ [])) ++ ts) ≡ start t ∷ (m ++ (close p n q ∷ []))
  wrap_whole ts = simp (open-tag, append_assoc, h 0)

-- a written element is read: its row is added, then its children's
module _ {k : ℕ} {n : List ℕ} {ps : List Pair} {s : State} {r : Row} {fs : List Frame} {rs : List Row} {ws : List Warning} (o : Opens k n ps s r fs rs ws) where
  empty_element : Element (tag n ps true) s (closed fs (table (rs ++ r ∷ []) ws))
  empty_element = record {
    passes = record {
      does = record {
        toks = λ at. start (tag_at at n ps true) ∷ [];
        lexed = λ at q. tag_tokens at n ps true q o.name o.keys o.few;
        folds = λ doc at. o.enters doc at true;
      };
      inner = λ at d ts. refl;
    };
    whole = λ at ts. refl;
  }

  -- where the element is open, its name's place is known only where it stands
  abbrev opened : ℕ → List Frame
  opened at = reading.element k (name_from at n) (length rs) ∷ fs

  full_element : (b : List ℕ) (rs' : List Row) → ((at : ℕ) → Passes b (inside (opened at) (rs ++ r ∷ []) ws) (inside (opened at) rs' ws)) → Element (tag n ps false ++ (b ++ closing_tag n)) s (closed fs (table rs' ws))
  full_element b rs' x = record {
    passes = record {
      does = record { toks = toks; lexed = lexed; folds = folds };
      inner = λ at. wrap_inner (tag_at at n ps false) (within at) (end_at at) n (end_at at + length (closing_tag n)) refl ((x at).inner (body at));
    };
    whole = λ at. wrap_whole (tag_at at n ps false) (within at) (end_at at) n (end_at at + length (closing_tag n)) refl ((x at).inner (body at));
  }
    where
      body : ℕ → ℕ
      body at = at + length (tag n ps false)

      end_at : ℕ → ℕ
      end_at at = body at + length b

      within : ℕ → List Token
      within at = (x at).does.toks (body at)

      toks : ℕ → List Token
      toks at = start (tag_at at n ps false) ∷ (within at ++ (close (end_at at) n (end_at at + length (closing_tag n)) ∷ []))

      lexed : (at : ℕ) (q : List ℕ) → tokens ((tag n ps false ++ (b ++ closing_tag n)) ++ q) at ≡ toks at ++ tokens q (at + length (tag n ps false ++ (b ++ closing_tag n)))
      lexed at q =
          let e : end_at at + length (closing_tag n) ≡ at + length (tag n ps false ++ (b ++ closing_tag n)) = omega (arith, length-append (tag n ps false) (b ++ closing_tag n), length-append b (closing_tag n)) in
          rw (append_assoc (tag n ps false) (b ++ closing_tag n) q, append_assoc b (closing_tag n) q, tag_tokens at n ps false (b ++ (closing_tag n ++ q)) o.name o.keys o.few, (x at).does.lexed (body at) (closing_tag n ++ q), close_tokens (end_at at) n q (tag_name n o.name), e, append_assoc (within at))

      folds : (doc : List ℕ) (at : ℕ) → fold keeps doc s (toks at) ≡ closed fs (table rs' ws)
      folds doc at =
          ap (λ (y : State). fold keeps doc y (within at ++ (close (end_at at) n (end_at at + length (closing_tag n)) ∷ []))) (o.enters doc at false)
          ∙ fold-append doc (inside (opened at) (rs ++ r ∷ []) ws) (within at) (close (end_at at) n (end_at at + length (closing_tag n)) ∷ [])
          ∙ ap (λ (y : State). step keeps doc y (close (end_at at) n (end_at at + length (closing_tag n)))) ((x at).does.folds doc (body at))
          ∙ closes doc k (name_from at n) (length rs) fs rs' ws (end_at at) (end_at at + length (closing_tag n))

  none_added : {gs : List Frame} {qs qs' : List Row} → Children gs ws [] qs qs' → qs ≡ qs'
  none_added childless = refl

  pub an_element : (cs : List (List ℕ)) {rs' : List Row} → ((at : ℕ) → Children (opened at) ws cs (rs ++ r ∷ []) rs') → Element (element n ps cs) s (closed fs (table rs' ws))
  an_element [] h = rw (none_added (h 0)) at empty_element
  an_element (c ∷ cs) h = full_element (c ++ concat cs) _ (λ at. all_pass (h at))
