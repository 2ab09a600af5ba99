-- The walk over the tokens: the token that comes next in a document that is accepted, and what is left to find after it.
use Prim.Native.Nat.{ℕ, zero, suc, ◌+◌, ◌-◌, ◌≤◌, ◌<◌}
use mathlib.Core.Path.{◌≡◌, refl, ap, sym, ◌∙◌}
use mathlib.Core.List.{List, [], ◌∷◌, ◌++◌, append_assoc}
use mathlib.Core.Bool.{true, false}
use borrow.Author.Rules.{rules}
use borrow.Author.Tests.{ne_eqb}
use native.Mathlib.Numerals.{add-one}
use native.Mathlib.Decide.{dec_lt}
use native.Mathlib.Omega.{arith}
use lib.ListN.{length, drop, get_or, length-drop, drop_of_length-le}
use lib.Seq.{drop-cons, drop-drop}
use Rattle.std.specs.Prelude.{Result, Ok, Err, Option, None}
use Rattle.faults.specs.declared.Fault.{Fault}
use Rattle.scan.specs.Ignorable.{ignorable}
use Rattle.document.specs.Tags.{Shown}
use Rattle.document.specs.Tokens.{Tag, Token, start, close, fault, end, Next, more, last, opening, closing, tag, tag_or_end, past_ignorable, next, tokens}
use Rattle.document.specs.Rows.{Tables}
use Rattle.document.specs.Refusals.{bare}
use Rattle.document.specs.Reading.{State, begun, reading, accepted, refused, step}
use Rattle.document.specs.Outcome.{runs, whole}
use Rattle.document.proofs.Runs.{run_more, run_last, run_refused}
use Rattle.document.proofs.Nexts.{Onward, Ended, Reaches, next_reaches, moves_on}
use Rattle.document.specs.declared.Refusal.{Refusal}
use Rattle.tags.specs.Outcome.{TagStart}
use Rattle.met.specs.Passed.{passed_over}
use Rattle.met.specs.Met.{goes_on, start_tags, place_after, comments_to, end_of, met_tokens}
use Rattle.met.specs.Open.{Counted, Stands}
use Rattle.met.proofs.Reaching.{reached-more, reached_none}
use Rattle.met.proofs.Counting.{start_counted, close_counted, stands_on}
use Rattle.breaches.specs.Least.{lesser, least}
use Rattle.breaches.specs.Breaches.{attrs_of, in_values, tag_values, in_comment, in_comments, in_name, in_names, tag_names}
use Rattle.breaches.specs.Outcome.{Accepted, tag_breach, breach_from, tokens_from, Passes, Starts, Closes, Walking, Walked, Walks}
use Rattle.breaches.specs.declared.Way.{Way}
use Rattle.breaches.specs.declared.Opened.{Opened}
use Rattle.breaches.specs.declared.Walk.{Walk}
use Rattle.breaches.proofs.Order.{lesser_none, none_lesser, lesser_assoc, lesser_four, lesser_swap, least_append}

-- ---- what a token adds

comments_more : (doc xs ys : List ℕ) → in_comments doc (xs ++ ys) ≡ in_comments doc xs ++ in_comments doc ys
comments_more doc [] ys = refl
comments_more doc (x ∷ xs) ys = ap (λ (l : List ℕ). in_comment doc x ++ l) (comments_more doc xs ys) ∙ sym (append_assoc (in_comment doc x) (in_comments doc xs) (in_comments doc ys))

module _ (doc : List ℕ) (at : ℕ) where
  -- in the comments on the way to it
  abbrev on_way : Option ℕ
  on_way = least (in_comments doc (passed_over (drop at doc) at))

  comments_first : (q : ℕ) (ts : List Token) → least (in_comments doc (passed_over (drop at doc) at ++ comments_to doc q ts)) ≡ lesser on_way (least (in_comments doc (comments_to doc q ts)))
  comments_first q ts = ap least (comments_more doc (passed_over (drop at doc) at) (comments_to doc q ts)) ∙ least_append (in_comments doc (passed_over (drop at doc) at)) (in_comments doc (comments_to doc q ts))

  close_adds : (m : ℕ) (n : List ℕ) (q : ℕ) (ts : List Token) → breach_from doc at (close m n q ∷ ts) ≡ lesser on_way (breach_from doc q ts)
  unfolding breach_from
  close_adds m n q ts =
      let v = least (tag_values (start_tags ts)) in
      let c = least (in_comments doc (comments_to doc q ts)) in
      let l = least (tag_names (start_tags ts)) in
      rw (comments_first q ts) (ap (lesser v) (lesser_assoc on_way c l) ∙ lesser_swap v on_way (lesser c l))

  none_from : breach_from doc at [] ≡ None
  unfolding breach_from least lesser
  none_from = refl

  start_adds : (g : Tag) (ts : List Token) → breach_from doc at (start g ∷ ts) ≡ lesser (lesser on_way (tag_breach g)) (breach_from doc g.after ts)
  unfolding breach_from tag_breach
  start_adds g ts =
      let x = least (in_values (attrs_of g)) in
      let y = least (in_name g.name (suc g.at) ++ in_names (attrs_of g)) in
      let v = least (tag_values (start_tags ts)) in
      let c = least (in_comments doc (comments_to doc g.after ts)) in
      let l = least (tag_names (start_tags ts)) in
      rw (comments_first g.after ts, least_append (in_values (attrs_of g)) (tag_values (start_tags ts)), least_append (in_name g.name (suc g.at) ++ in_names (attrs_of g)) (tag_names (start_tags ts)))
      (ap (lesser (lesser x v)) (lesser_four on_way c y l)
      ∙ lesser_four x v (lesser on_way y) (lesser c l)
      ∙ ap (λ (z : Option ℕ). lesser z (lesser v (lesser c l))) (lesser_swap x on_way y))

-- ---- a state from which reading is accepted

pub turned : {u : Tables Shown} {x : Refusal} → refused x ≡ accepted u → ⊥
turned e = let z : ◌≡◌ {A = ℕ} 0 1 = cc in omega arith

-- neither a fault nor the end comes next
last_refused : (doc : List ℕ) (n : ℕ) (s : State Shown) (t : Token) (u : Tables Shown) (top : ℕ) → Stands n s → Ended top t → step whole doc s t ≡ accepted u → ⊥
unfolding step
last_refused doc n s (start t) u top h i e = absurd i
last_refused doc n s (close lt m q) u top h i e = absurd i
last_refused doc n begun (fault k p) u top h i e = turned e
last_refused doc n begun (end p) u top h i e = turned e
last_refused doc n (reading [] v) (fault k p) u top h i e = absurd h
last_refused doc n (reading [] v) (end p) u top h i e = absurd h
last_refused doc n (reading (f ∷ fs) v) (fault k p) u top h i e = turned e
last_refused doc n (reading (f ∷ fs) v) (end p) u top h i e = turned e
last_refused doc n (accepted v) (fault k p) u top h i e = absurd h
last_refused doc n (accepted v) (end p) u top h i e = absurd h
last_refused doc n (refused x) (fault k p) u top h i e = absurd h
last_refused doc n (refused x) (end p) u top h i e = absurd h

-- nor a closing tag where none is open
none_closed : (doc : List ℕ) (s : State Shown) (m : ℕ) (n : List ℕ) (q : ℕ) (u : Tables Shown) → Stands 0 s → runs doc q (step whole doc s (close m n q)) ≡ accepted u → ⊥
unfolding step
none_closed doc begun m n q u h e = turned (sym (run_refused whole doc q (bare 4 (suc m))) ∙ e)
none_closed doc (reading [] v) m n q u h e = absurd h
none_closed doc (reading (f ∷ fs) v) m n q u h e = absurd (omega (arith, h.1, h.2))
none_closed doc (accepted v) m n q u h e = absurd h
none_closed doc (refused x) m n q u h e = absurd h

-- the token that comes next, and the place after it
record Comes (doc : List ℕ) (at : ℕ) : Type 0 where
  token : Token
  after : ℕ
  next_is : next (drop at doc) at ≡ more token after
  onward : Onward at (at + length (drop at doc)) token after

module _ {doc : List ℕ} {w : Walk} (g : Walking doc w) where
  comes : Comes doc w.at
  comes = go (next (drop w.at doc) w.at) refl (next_reaches (drop w.at doc) w.at)
    where
      go : (x : Next) → next (drop w.at doc) w.at ≡ x → Reaches w.at (w.at + length (drop w.at doc)) x → Comes doc w.at
      go (more t q) e h = record { token = t; after = q; next_is = e; onward = h }
      go (last t) e h = absurd (last_refused doc w.depth g.state t g.tables (w.at + length (drop w.at doc)) g.stands h (sym (run_last whole doc w.at g.state t e) ∙ g.reads))

  moved : (w.at < comes.after) × (comes.after ≤ length doc)
  moved = let m = moves_on w.at (w.at + length (drop w.at doc)) comes.token comes.after comes.onward in (m.0, omega (arith, m.1, length-drop w.at doc, g.inside))

  reads_on : runs doc comes.after (step whole doc g.state comes.token) ≡ accepted g.tables
  reads_on = sym (run_more whole doc w.at g.state comes.token comes.after comes.next_is moved.0 moved.1) ∙ g.reads

  tokens_on : tokens_from doc g.state w.at ≡ comes.token ∷ tokens_from doc (step whole doc g.state comes.token) comes.after
  tokens_on = reached-more doc w.at comes.token comes.after comes.next_is moved.0 moved.1 g.state (stands_on w.depth g.state g.stands)

  -- after it
  walked : (t : Token) (q d : ℕ) {b : Option ℕ} (i : Option ℕ) → comes.token ≡ t → q ≡ comes.after → place_after t ≡ q → Counted d (step whole doc g.state t) → ((ts : List Token) → breach_from doc w.at (t ∷ ts) ≡ lesser i (breach_from doc q ts)) → b ≡ lesser w.breach i → d ≤ q → Walked doc w.at (record { at = q; depth = d; breach = b })
  walked t q d {b} i e f l c h k m =
      let s = step whole doc g.state t in
      let n : tokens_from doc g.state w.at ≡ t ∷ tokens_from doc s q = rw (f, ← e) tokens_on in
      record {
        sound = g.sound;
        onward = omega (arith, moved.0);
        inside = omega (arith, moved.1);
        few = m;
        state = s;
        tables = g.tables;
        counted = c;
        reads = rw (f, ← e) reads_on;
        breach =
            g.breach
            ∙ ap (λ (ts : List Token). lesser w.breach (breach_from doc w.at ts)) n
            ∙ ap (lesser w.breach) (h (tokens_from doc s q))
            ∙ rw k (sym (lesser_assoc w.breach i (breach_from doc q (tokens_from doc s q))));
        end = g.end ∙ ap (end_of w.at) n ∙ ap (λ (z : ℕ). end_of z (tokens_from doc s q)) l;
      }

  module _ {r : Way} (p : Passes doc w.at r) where
    -- it stands at the place that passing came to
    there : (ignorable (drop w.at doc) w.at ≡ Ok r.at) × (tag_or_end (drop r.at doc) r.at ≡ more comes.token comes.after)
    unfolding next
    there = go (ignorable (drop w.at doc) w.at) refl comes.next_is
      where
        go : (x : Result ℕ Fault) → ignorable (drop w.at doc) w.at ≡ x → past_ignorable x (drop w.at doc) w.at ≡ more comes.token comes.after → (ignorable (drop w.at doc) w.at ≡ Ok r.at) × (tag_or_end (drop r.at doc) r.at ≡ more comes.token comes.after)
        go (Err f) e h = let z : ◌≡◌ {A = ℕ} 0 1 = cc in absurd (omega arith)
        go (Ok q) e h =
            let d : r.at ≡ q = (p.is q e).0 in
            let k : w.at + (q - w.at) ≡ q = omega (arith, p.since) in
            (e ∙ ap Ok (sym d), rw d (rw (drop-drop (q - w.at) w.at doc, k) at h))

    found : r.breach ≡ least (in_comments doc (passed_over (drop w.at doc) w.at))
    found = (p.is r.at there.0).1

    tag_inside : r.at < length doc
    tag_inside = go (dec_lt r.at (length doc))
      where
        go : Dec (r.at < length doc) → r.at < length doc
        go (yes h) = h
        go (no h) =
            let k : length doc ≤ r.at = omega arith in
            let y : last (end r.at) ≡ more comes.token comes.after = rw (drop_of_length-le doc k) at there.1 in
            let z : ◌≡◌ {A = ℕ} 0 1 = cc in
            absurd (omega arith)

    tag_here : tag (drop (suc r.at) doc) r.at ≡ more comes.token comes.after
    tag_here = rw (drop-cons doc r.at 0 tag_inside) at there.1

    pub tag_byte : r.at + 1 < length doc
    tag_byte = go (dec_lt (r.at + 1) (length doc))
      where
        go : Dec (r.at + 1 < length doc) → r.at + 1 < length doc
        go (yes h) = h
        go (no h) =
            let k : length doc ≤ suc r.at = omega arith in
            let y : last (fault 4 (suc r.at)) ≡ more comes.token comes.after = rw (drop_of_length-le doc k) at tag_here in
            let z : ◌≡◌ {A = ℕ} 0 1 = cc in
            absurd (omega arith)

    pub tag_starts : TagStart doc r.at
    tag_starts = record { small = g.sound.small; inside = tag_inside; is = p.tag tag_inside }

    pub tag_two : r.at + 2 ≤ length doc
    tag_two = omega (arith, tag_byte)

    -- by the byte after the `<`
    byte_here : tag (get_or doc (r.at + 1) 0 ∷ drop (r.at + 2) doc) r.at ≡ more comes.token comes.after
    byte_here =
        let k : suc (r.at + 1) ≡ r.at + 2 = omega arith in
        rw (← add-one r.at, drop-cons doc (r.at + 1) 0 tag_byte, k) at tag_here

    closing_here : get_or doc (r.at + 1) 0 ≡ 47 → closing (drop (r.at + 2) doc) r.at ≡ more comes.token comes.after
    closing_here e = rw e at byte_here

    opening_here : (get_or doc (r.at + 1) 0 ≡ 47 → ⊥) → opening (drop (r.at + 1) doc) r.at ≡ more comes.token comes.after
    opening_here e =
        let k : suc (r.at + 1) ≡ r.at + 2 = omega arith in
        rw (drop-cons doc (r.at + 1) 0 tag_byte, k) (rw (ne_eqb _ _ e) at byte_here)

    -- the closing tag that comes next, and the start tag
    module _ {o : ℕ} (c : Closes doc r.at o) (e : get_or doc (r.at + 1) 0 ≡ 47) where
      closed : (m : ℕ) × (n : List ℕ) × (comes.token ≡ close m n comes.after) × (o ≡ comes.after)
      closed = c.is comes.token comes.after (closing_here e)

      -- one is open
      pub open_there : 1 ≤ w.depth
      open_there = go w.depth g.stands
        where
          go : (n : ℕ) → Stands n g.state → 1 ≤ n
          go zero h = absurd (none_closed doc g.state closed.0 closed.1 comes.after g.tables h (rw closed.2 at reads_on))
          go (suc n) h = omega arith

      pub walked_close : {b : Option ℕ} → b ≡ lesser w.breach r.breach → Walked doc w.at (record { at = o; depth = w.depth - 1; breach = b })
      walked_close f =
          let k : w.depth ≡ suc (w.depth - 1) = omega (arith, open_there) in
          walked (close closed.0 closed.1 comes.after) o (w.depth - 1) r.breach closed.2 closed.3 (sym closed.3)
          (close_counted doc (w.depth - 1) g.state closed.0 closed.1 comes.after (rw k at g.stands))
          (λ ts. close_adds doc w.at closed.0 closed.1 comes.after ts ∙ rw (← found, ← closed.3))
          f
          (omega (arith, g.few, moved.0, closed.3))

    module _ {o : Opened} (c : Starts doc r.at o) (e : get_or doc (r.at + 1) 0 ≡ 47 → ⊥) where
      begun_by : (t : Tag) × (comes.token ≡ start t) × (o.closes ≡ t.self) × (o.at ≡ comes.after) × (o.breach ≡ tag_breach t)
      begun_by = c.is comes.token comes.after (opening_here e)

      after_start : begun_by.0.after ≡ o.at
      after_start =
          let i : Onward w.at (w.at + length (drop w.at doc)) (start begun_by.0) comes.after = rw begun_by.1 at comes.onward in
          i.after ∙ sym begun_by.3

      walked_start : (d : ℕ) {a b : Option ℕ} → Counted d (step whole doc g.state (start begun_by.0)) → a ≡ lesser w.breach r.breach → b ≡ lesser a o.breach → d ≤ suc w.depth → Walked doc w.at (record { at = o.at; depth = d; breach = b })
      walked_start d {a} {b} k f h i =
          walked (start begun_by.0) o.at d (lesser r.breach o.breach) begun_by.1 begun_by.3 after_start k
          (λ ts. start_adds doc w.at begun_by.0 ts ∙ rw (← found, ← begun_by.4, after_start))
          (h ∙ rw f (lesser_assoc w.breach r.breach o.breach))
          (omega (arith, g.few, moved.0, begun_by.3))

      pub walked_self : {a b : Option ℕ} → a ≡ lesser w.breach r.breach → b ≡ lesser a o.breach → o.closes ≡ true → Walked doc w.at (record { at = o.at; depth = w.depth; breach = b })
      walked_self f h i =
          walked_start w.depth
          (rw (sym begun_by.2 ∙ i) at (start_counted doc w.depth g.state begun_by.0 g.stands))
          f h (omega arith)

      pub walked_open : {a b : Option ℕ} → a ≡ lesser w.breach r.breach → b ≡ lesser a o.breach → o.closes ≡ false → Walked doc w.at (record { at = o.at; depth = w.depth + 1; breach = b })
      walked_open f h i =
          walked_start (w.depth + 1)
          (rw (add-one w.depth) (rw (sym begun_by.2 ∙ i) at (start_counted doc w.depth g.state begun_by.0 g.stands)))
          f h (omega arith)

  pub few_open : w.depth ≤ 1048576
  few_open = omega (arith, g.few, g.inside, g.sound.small)

  pub place_inside : w.at ≤ length doc
  place_inside = g.inside

pub ruleset steps = (tag_byte, tag_starts, tag_two, open_there, walked_close, walked_self, walked_open, few_open, place_inside, rules)

-- ---- the loop

module _ {doc : List ℕ} where
  pub walk_begins : Accepted doc → Walking doc (record { at = 0; depth = 0; breach = None })
  unfolding met_tokens
  walk_begins a = record {
    sound = a.sound;
    inside = omega arith;
    few = omega arith;
    state = begun;
    tables = a.tables;
    stands = refl;
    reads = a.reads;
    breach = sym (none_lesser (breach_from doc 0 (tokens_from doc begun 0)));
    end = refl;
  }

  module _ {from : ℕ} {w : Walk} (g : Walked doc from w) where
    pub walk_less : length doc - w.at < length doc - from
    walk_less = omega (arith, g.onward, g.inside)

    -- while an element is open
    pub walk_on : (w.depth ≡ 0 → ⊥) → Walking doc w
    walk_on h = record {
      sound = g.sound;
      inside = g.inside;
      few = g.few;
      state = g.state;
      tables = g.tables;
      stands = go g.state g.counted g.reads;
      reads = g.reads;
      breach = g.breach;
      end = g.end;
    }
      where
        go : (s : State Shown) → Counted w.depth s → runs doc w.at s ≡ accepted g.tables → Stands w.depth s
        go begun c r = absurd c
        go (reading fs u) c r = c
        go (accepted u) c r = absurd (h c)
        go (refused x) c r = absurd (turned (sym (run_refused whole doc w.at x) ∙ r))

    -- where none is open the root is closed
    pub walk_ended : w.depth ≡ 0 → Walks doc w
    walk_ended h =
        let e : tokens_from doc g.state w.at ≡ [] = reached_none doc g.state (tokens (drop w.at doc) w.at) (go g.state g.counted g.reads) in
        record {
          inside = g.inside;
          breach = sym (g.breach ∙ ap (λ (ts : List Token). lesser w.breach (breach_from doc w.at ts)) e ∙ rw (none_from doc w.at, lesser_none));
          end = sym (g.end ∙ ap (end_of w.at) e);
        }
      where
        go : (s : State Shown) → Counted w.depth s → runs doc w.at s ≡ accepted g.tables → goes_on s ≡ false
        go begun c r = absurd c
        go (reading [] u) c r = absurd c
        go (reading (f ∷ fs) u) c r = absurd (omega (arith, c.1, c.2))
        go (accepted u) c r = refl
        go (refused x) c r = refl

pub ruleset loops = (walk_begins, walk_less, walk_on, walk_ended, rules)
