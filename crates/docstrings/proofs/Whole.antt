-- The docstrings of a document that is accepted are passable: while one is read, what was passed over of it is pieces.
use Prim.Native.Nat.{ℕ, zero, suc, ◌+◌, ◌-◌, ◌≤◌, ◌<◌}
use mathlib.Core.Path.{◌≡◌, refl, sym, ap, ◌∙◌}
use mathlib.Core.List.{List, [], ◌∷◌, ◌++◌, append_assoc}
use mathlib.Core.Option.{none, some}
use mathlib.Core.Bool.{true, false}
use borrow.Author.Tests.{leb-false}
use native.Mathlib.Omega.{arith}
use lib.Dec.{leb, ltb}
use lib.ListN.{length, take, drop, length-append, length-drop}
use lib.Seq.{drop-drop, drop-append_seam, drop-append-le, take-append-le, take-append_seam}
use Rattle.slices.specs.Bytes.{same}
use Rattle.utf8.specs.WellFormed.{ill_formed}
use Rattle.utf8.specs.WhiteSpace.{trim_start, trim_end}
use Rattle.utf8.specs.Trim.{Boundary}
use Rattle.utf8.proofs.Cuts.{cut_ascii, cut_after_ascii, part_formed}
use Rattle.utf8.proofs.Between.{trim_order}
use Rattle.document.specs.Kinds as kinds
use Rattle.document.specs.Tags.{Shown}
use Rattle.document.specs.Tokens as tokens
use Rattle.document.specs.Tokens.{Token, start, close, fault, end, Next, more, last, next}
use Rattle.document.specs.Rows.{Doc, Row, Tables, documented}
use Rattle.document.specs.Elements.{among, opens, opens_as, Keeping}
use Rattle.document.specs.Reading.{Name, tag_name, Purpose, ignored, captures, Frame, element, definition, passing, State, begun, accepted, parent_of, noted, frame_of, step, run}
use Rattle.document.specs.Outcome.{whole}
use Rattle.document.proofs.Tests.{either}
use Rattle.document.proofs.Places.{byte_left}
use Rattle.document.proofs.Nexts.{Onward, Ended, next_reaches}
use Rattle.document.proofs.Runs.{run_more, run_last}
use Rattle.document.proofs.Steps.{noted_keeps, Read, Begins, Known, Kept, Closes, content_at, captures_at, Shuts, Starts, Ways, step_kept}
use Rattle.accepted.proofs.Folding.{meaning_accepts}
use Rattle.accepted.proofs.Entries.{Entry, start_opens}
use Rattle.accepted.proofs.Entering.{begins_kind}
use Rattle.accepted.proofs.Accepted.{read_accepts}
use Rattle.docstrings.specs.Passable.{PassableDoc, AllPassable, DocstringsPassable}
use Rattle.docstrings.proofs.Shifts.{later_token, later_tag}
use Rattle.docstrings.proofs.Atoms.{Tags, Atom, token, bytes_of, Leads, next_bounds}
use Rattle.docstrings.proofs.Pieces.{leads_append, bytes_append, content_passable}
use Rattle.docstrings.proofs.Finding.{Taken, next_taken, closing_place}

-- ---- one tag

-- the names of what is open in an element whose content is passed over
abbrev inner_of : List Name → List (List ℕ)
inner_of [] = []
inner_of (n ∷ []) = []
inner_of (n ∷ m ∷ ns) = n.bytes ∷ inner_of (m ∷ ns)

inner_long : (n : Name) (ns : List Name) → length (inner_of (n ∷ ns)) ≡ length ns
inner_long n [] = refl
inner_long n (m ∷ ns) = ap suc (inner_long m ns)

module _ (f : List ℕ) (p : ℕ) where
  alone : (k : Token) (h : Tags f k) (t : tokens.Tag) → later_token p k ≡ start t → t.self ≡ true → (ns : List (List ℕ)) → Leads (token f k h ∷ []) ns ns
  alone (start s) h t e c ns =
      let z : later_tag p s ≡ t = cc in
      let y : s.self ≡ true = ap (λ (x : tokens.Tag). x.self) z ∙ c in
      rw y refl
  alone (close lt n q) h t e c ns = let z : ◌≡◌ {A = ℕ} 0 1 = cc in absurd (omega arith)
  alone (fault n q) h t e c ns = let z : ◌≡◌ {A = ℕ} 0 1 = cc in absurd (omega arith)
  alone (end q) h t e c ns = let z : ◌≡◌ {A = ℕ} 0 1 = cc in absurd (omega arith)

  begins : (k : Token) (h : Tags f k) (t : tokens.Tag) → later_token p k ≡ start t → t.self ≡ false → (ns : List (List ℕ)) → length ns < 1023 → Leads (token f k h ∷ []) ns (t.name ∷ ns)
  begins (start s) h t e c ns l =
      let z : later_tag p s ≡ t = cc in
      let y : s.self ≡ false = ap (λ (x : tokens.Tag). x.self) z ∙ c in
      let x : s.name ≡ t.name = ap (λ (x : tokens.Tag). x.name) z in
      rw y (l, ap (λ m. m ∷ ns) x)
  begins (close lt n q) h t e c ns l = let z : ◌≡◌ {A = ℕ} 0 1 = cc in absurd (omega arith)
  begins (fault n q) h t e c ns l = let z : ◌≡◌ {A = ℕ} 0 1 = cc in absurd (omega arith)
  begins (end q) h t e c ns l = let z : ◌≡◌ {A = ℕ} 0 1 = cc in absurd (omega arith)

  closes : (k : Token) (h : Tags f k) (lt : ℕ) (m : List ℕ) (q : ℕ) → later_token p k ≡ close lt m q → (n : List ℕ) (ns : List (List ℕ)) → same m n ≡ true → Leads (token f k h ∷ []) (n ∷ ns) ns
  closes (close x y w) h lt m q e n ns g = let z : y ≡ m = cc in (rw z g, refl)
  closes (start s) h lt m q e n ns g = let z : ◌≡◌ {A = ℕ} 0 1 = cc in absurd (omega arith)
  closes (fault x y) h lt m q e n ns g = let z : ◌≡◌ {A = ℕ} 0 1 = cc in absurd (omega arith)
  closes (end x) h lt m q e n ns g = let z : ◌≡◌ {A = ℕ} 0 1 = cc in absurd (omega arith)

module _ {A : Type 0} (keep : Keeping A) (doc : List ℕ) (formed : ill_formed doc ≡ length doc) where
  -- ---- rows

  abbrev Docs : List (Row Shown) → Type 0
  Docs rs = AllPassable keep doc rs

  docs_more : (rs : List (Row Shown)) (r : Row Shown) → r.doc ≡ none → Docs rs → Docs (rs ++ r ∷ [])
  docs_more [] r e h = (rw e tt, tt)
  docs_more (q ∷ rs) r e h = (h.0, docs_more rs r e h.1)

  docs_first : (n : ℕ) (rs : List (Row Shown)) → Docs rs → Docs (take n rs)
  docs_first zero [] h = tt
  docs_first zero (r ∷ rs) h = tt
  docs_first (suc n) [] h = tt
  docs_first (suc n) (r ∷ rs) h = (h.0, docs_first n rs h.1)

  docs_documented : (i : ℕ) (d : Doc) (rs : List (Row Shown)) → PassableDoc keep doc (some d) → Docs rs → Docs (documented i d rs)
  docs_documented i d [] g h = tt
  docs_documented zero d (r ∷ rs) g h = (g, h.1)
  docs_documented (suc i) d (r ∷ rs) g h = (h.0, docs_documented i d rs g h.1)

  -- ---- content from s up to a place

  drop_over : (at : ℕ) (w r : List ℕ) → drop at doc ≡ w ++ r → drop (at + length w) doc ≡ r
  drop_over at w r e = sym (drop-drop (length w) at doc) ∙ ap (drop (length w)) e ∙ drop-append_seam w r

  record Content (s at : ℕ) (ns : List (List ℕ)) : Type 0 where
    atoms : List Atom
    is : drop s doc ≡ bytes_of atoms ++ drop at doc
    long : s + length (bytes_of atoms) ≡ at
    leads : Leads atoms [] ns
    cut : Boundary doc s

  -- more of it
  grow : (s at : ℕ) (ns : List (List ℕ)) (ys : List Atom) (r : List ℕ) (q : ℕ) (ms : List (List ℕ)) → drop at doc ≡ bytes_of ys ++ r → at + length (bytes_of ys) ≡ q → Leads ys ns ms → Content s at ns → Content s q ms
  grow s at ns ys r q ms e n g c =
      let d : drop q doc ≡ r = rw (← n) (drop_over at (bytes_of ys) r e) in
      record {
        atoms = c.atoms ++ ys;
        is = c.is ∙ ap (◌++◌ (bytes_of c.atoms)) (e ∙ ap (◌++◌ (bytes_of ys)) (sym d)) ∙ sym (append_assoc (bytes_of c.atoms) (bytes_of ys) (drop q doc)) ∙ ap (λ x. x ++ drop q doc) (sym (bytes_append c.atoms ys));
        long = rw (bytes_append c.atoms ys, length-append (bytes_of c.atoms) (bytes_of ys)) (omega (arith, c.long));
        leads = leads_append c.atoms ys [] ns ms c.leads g;
        cut = c.cut;
      }

  -- the docstring
  content_doc : (s lt : ℕ) (l : List ℕ) → drop lt doc ≡ 60 ∷ l → Content s lt [] → ltb (trim_start (content_at doc s lt)) (trim_end (content_at doc s lt)) ≡ true → PassableDoc keep doc (some (record { start = s + trim_start (content_at doc s lt); len = trim_end (content_at doc s lt) - trim_start (content_at doc s lt) }))
  content_doc s lt l e c g =
      let x = content_at doc s lt in
      let n : lt - s ≡ length (bytes_of c.atoms) = omega (arith, c.long) in
      let i : bytes_of c.atoms ≡ x = sym (rw n (ap (take (length (bytes_of c.atoms))) c.is ∙ take-append_seam (bytes_of c.atoms) (drop lt doc))) in
      let b = byte_left doc lt 60 l e in
      let m : s + (lt - s) ≡ lt = omega (arith, c.long) in
      let w : ill_formed x ≡ length x = part_formed doc s (lt - s) c.cut (rw m (cut_ascii doc formed lt b.0 (omega (arith, b.1)))) in
      let o = trim_order x w in
      let p = content_passable keep c.atoms x i c.leads w g in
      let y : drop (s + trim_start x) doc ≡ drop (trim_start x) x ++ drop lt doc =
      sym (drop-drop (trim_start x) s doc)
      ∙ ap (drop (trim_start x)) (c.is ∙ ap (λ z. z ++ drop lt doc) i)
      ∙ drop-append-le (trim_start x) x (drop lt doc) (omega (arith, o)) in
      let z : take (trim_end x - trim_start x) (drop (s + trim_start x) doc) ≡ take (trim_end x - trim_start x) (drop (trim_start x) x) =
      ap (take (trim_end x - trim_start x)) y ∙ take-append-le (trim_end x - trim_start x) (drop (trim_start x) x) (drop lt doc) (rw (length-drop (trim_start x) x) (omega (arith, o))) in
      rw z p

  -- ---- what is known of a state

  -- no content is passed over
  abbrev Plain : List Frame → Type 0
  Plain [] = Unit {0}
  Plain (f ∷ fs) = Read f × Plain fs

  -- of the innermost element: a docstring is read up to the place
  abbrev Over : ℕ → Frame → Type 0
  Over at (element k n r) = Unit {0}
  Over at (definition d) = Unit {0}
  Over at (passing p []) = ⊥
  Over at (passing ignored (n ∷ ns)) = Unit {0}
  Over at (passing (captures s i) (n ∷ ns)) = Content s at (inner_of (n ∷ ns))

  -- content is passed over in the innermost element alone
  abbrev Top : ℕ → List Frame → Type 0
  Top at [] = Unit {0}
  Top at (f ∷ fs) = Over at f × Plain fs

  abbrev known : ℕ → Known Shown
  known at = record { first = Unit {0}; inside = λ fs u. Top at fs × Docs u.rows; done = λ u. Docs u.rows; fault = λ x. Unit {0} }

  plain_top : (at : ℕ) (fs : List Frame) → Plain fs → Top at fs
  plain_top at [] h = tt
  plain_top at (element k n r ∷ fs) h = h
  plain_top at (definition d ∷ fs) h = h
  plain_top at (passing p ns ∷ fs) h = absurd h.0

  -- where an element begins
  plain_begins : (at n k : ℕ) (fs : List Frame) → Begins n k fs → Top at fs → Plain fs
  plain_begins at n k [] b h = tt
  plain_begins at n k (f ∷ fs) b h = (b.0, h.1)

  top_frame : (at k : ℕ) (t : tokens.Tag) (i : ℕ) (fs : List Frame) → Plain fs → Top at (frame_of k t i ∷ noted k t fs)
  top_frame at k t i fs h = (
    either (Over at) (among k kinds.definitions) (λ c. tt) (λ c. tt),
    noted_keeps Plain k t (λ d gs p. p) fs h,
  )

  module _ (at q : ℕ) where
    closing : Closes whole doc (known at) (known q)
    closing = record {
      element = λ k n r fs u h. (plain_top q fs h.0.1, h.1);
      whole = λ d fs u e h. (plain_top q fs h.0.1, h.1);
      broken = λ d fs u e h. (plain_top q fs h.0.1, docs_first d.row u.rows h.1);
      root = λ u h. h.1;
    }

    module _ (t : Token) (e : next (drop at doc) at ≡ more t q) where
      w : Taken (drop at doc) at t q
      w = next_taken (drop at doc) at t q e

      -- the place of the token's `<`
      begun_at : drop w.place doc ≡ 60 ∷ (w.body ++ 62 ∷ w.rest)
      begun_at = rw (← w.before) (drop_over at (bytes_of w.quiet) (60 ∷ (w.body ++ 62 ∷ w.rest)) w.is)

      ended_at : Boundary doc q
      ended_at =
          let d = drop_over w.place (60 ∷ w.body) (62 ∷ w.rest) begun_at in
          let b = byte_left doc (w.place + suc (length w.body)) 62 w.rest d in
          let n : w.place + suc (length w.body) + 1 ≡ q = omega (arith, w.after) in
          rw n at (cut_after_ascii doc (w.place + suc (length w.body)) formed b.0 (omega (arith, b.1)))

      -- up to the token, and past it
      up_to : (s : ℕ) (ns : List (List ℕ)) → Content s at ns → Content s w.place ns
      up_to s ns c = grow s at ns w.quiet (60 ∷ (w.body ++ 62 ∷ w.rest)) w.place ns w.is w.before (w.leads ns) c

      beyond : (s : ℕ) (ns ms : List (List ℕ)) → Leads (token w.body w.kind w.tags ∷ []) ns ms → Content s at ns → Content s q ms
      beyond s ns ms g c =
          grow s w.place ns (token w.body w.kind w.tags ∷ []) w.rest q ms
          (begun_at ∙ ap (◌∷◌ 60) (sym (append_assoc w.body (62 ∷ []) w.rest)))
          (rw (length-append w.body (62 ∷ [])) (omega (arith, w.after)))
          g (up_to s ns c)

      -- the same of any content that is passed over
      past : (p : Purpose) (n m : Name) (ns ms : List Name) → Leads (token w.body w.kind w.tags ∷ []) (inner_of (n ∷ ns)) (inner_of (m ∷ ms)) → Over at (passing p (n ∷ ns)) → Over q (passing p (m ∷ ms))
      past ignored n m ns ms g h = h
      past (captures s i) n m ns ms g h = beyond s (inner_of (n ∷ ns)) (inner_of (m ∷ ms)) g h

      -- ---- a start tag

      -- it ends with `/>`; it opens one element more in content that is passed over
      moved : (x : tokens.Tag) → t ≡ start x → x.self ≡ true → (f : Frame) → Over at f → Over q f
      moved x f c (element k n r) h = h
      moved x f c (definition d) h = h
      moved x f c (passing p []) h = absurd h
      moved x f c (passing p (n ∷ ns)) h = past p n n ns ns (alone w.body w.place w.kind w.tags x (w.later ∙ f) c (inner_of (n ∷ ns))) h

      deeper : (x : tokens.Tag) → t ≡ start x → x.self ≡ false → (p : Purpose) (ns : List Name) → leb 1024 (length ns) ≡ false → Over at (passing p ns) → Over q (passing p (tag_name x ∷ ns))
      deeper x f c p [] d h = absurd h
      deeper x f c p (n ∷ ns) d h =
          past p n (tag_name x) ns (n ∷ ns)
          (begins w.body w.place w.kind w.tags x (w.later ∙ f) c (inner_of (n ∷ ns)) (omega (arith, inner_long n ns, leb-false 1024 (suc (length ns)) d))) h

      starts : (x : tokens.Tag) → t ≡ start x → x.after ≡ q → Starts whole doc (known at) (known at) (known q) x
      starts x f g = record {
        closes = closing;
        moves = λ y fs u c h. ((moved x f c y h.0.0, h.0.1), h.1);
        row = λ k r fs u c b n o d h. (top_frame q k x (length u.rows) fs (plain_begins at (length u.rows) k fs b h.0), docs_more u.rows r (bare k r fs u b o) h.1);
        own_row = λ k r fs u c b n o h. (top_frame at k x (length u.rows) fs (plain_begins at (length u.rows) k fs b h.0), docs_more u.rows r (bare k r fs u b o) h.1);
        refusal = λ k p x o. tt;
        deep = tt;
        warning = λ y fs u c h. ((moved x f c y h.0.0, h.0.1), h.1);
        skips = λ y fs u c d h. ((tt, (d, h.0.1)), h.1);
        docstring = λ y fs u c d h. ((rw g (record { atoms = []; is = refl; long = omega arith; leads = refl; cut = ended_at }), (d.0, h.0.1)), h.1);
        within = λ p ns fs u c d h. ((deeper x f c p ns d h.0.0, h.0.1), h.1);
      }
        where
          bare : (k : ℕ) (r : Row Shown) (fs : List Frame) (u : Tables Shown) → Begins (length u.rows) k fs → opens_as whole k (parent_of fs) x ≡ opens r → r.doc ≡ none
          bare k r fs u b o = let y : Entry k (parent_of fs) x r = rw o at (start_opens (parent_of fs) x k (begins_kind (length u.rows) k fs b)) in y.doc

      -- ---- a closing tag

      shuts : (lt : ℕ) (m : List ℕ) (y : ℕ) → t ≡ close lt m y → Shuts whole doc (known at) (known q) lt m y
      shuts lt m y f = record {
        closes = closing;
        passed = λ p ns fs u l h. (plain_top q fs h.0.1, h.1);
        docstring = λ s i ns fs u l d h. (plain_top q fs h.0.1, filled s i ns u l d h.0.0 h.1);
        within = λ p n ns fs u l c h. ((less p n ns l c h.0.0, h.0.1), h.1);
        another = λ f fs u h. tt;
        none = tt;
      }
        where
          -- it closes the docstring; an element in content that is passed over
          filled : (s i : ℕ) (ns : List Name) (u : Tables Shown) → length ns ≤ 1 → ltb (trim_start (content_at doc s lt)) (trim_end (content_at doc s lt)) ≡ true → Over at (passing (captures s i) ns) → Docs u.rows → Docs (captures_at whole doc lt s i u).rows
          filled s i [] u l d h g = absurd h
          filled s i (n ∷ []) u l d h g =
              let z : lt ≡ w.place = closing_place (w.body ++ 62 ∷ w.rest) w.place lt m y q (w.came ∙ ap (λ k. more k q) f) in
              let x : drop lt doc ≡ 60 ∷ (w.body ++ 62 ∷ w.rest) = rw z begun_at in
              let o : Content s lt [] = rw z (up_to s [] h) in
              docs_documented i _ u.rows (content_doc s lt (w.body ++ 62 ∷ w.rest) x o d) g
          filled s i (n ∷ o ∷ ns) u l d h g = absurd (omega (arith, l))

          less : (p : Purpose) (n : Name) (ns : List Name) → 1 ≤ length ns → same m n.bytes ≡ true → Over at (passing p (n ∷ ns)) → Over q (passing p ns)
          less p n [] l c h = absurd (omega (arith, l))
          less p n (o ∷ ns) l c h = past p n o (o ∷ ns) ns (closes w.body w.place w.kind w.tags lt m y (w.later ∙ f) n.bytes (inner_of (o ∷ ns)) c) h

      ways : (k : Token) → t ≡ k → Onward at (at + length (drop at doc)) k q → Ways whole doc (known at) (known at) (known q) k
      ways (start x) f o = starts x f o.after
      ways (close lt n p) f o = shuts lt n p f
      ways (fault n p) f o = tt
      ways (end p) f o = (tt, λ f fs u h. tt)

      step_known : (s : State Shown) → Kept (known at) s → Kept (known q) (step whole doc s t)
      step_known s h =
          step_kept whole doc (known at) (known at) (known q) s t
          (record { ways = ways t refl (rw e at (next_reaches (drop at doc) at)); empty = λ h. (tt, tt); done = λ u h. h; fault = λ x h. h })
          h

  -- ---- a token after which nothing is read

  ended : (at top : ℕ) (t : Token) → Ended top t → Ways whole doc (known at) (known at) (known at) t
  ended at top (start x) e = absurd e
  ended at top (close lt n q) e = absurd e
  ended at top (fault n p) e = tt
  ended at top (end p) e = (tt, λ f fs u h. tt)

  step_last : (at top : ℕ) (t : Token) (s : State Shown) → Ended top t → Kept (known at) s → Kept (known at) (step whole doc s t)
  step_last at top t s e h = step_kept whole doc (known at) (known at) (known at) s t (record { ways = ended at top t e; empty = λ h. (tt, tt); done = λ u h. h; fault = λ x h. h }) h

  -- ---- all tokens

  -- from a place, if it is known from every further one
  move : (at : ℕ) (s : State Shown) (u : Tables Shown) → at ≤ length doc → Kept (known at) s → run whole doc at s ≡ accepted u → ((q : ℕ) (r : State Shown) → at < q → q ≤ length doc → Kept (known q) r → run whole doc q r ≡ accepted u → Docs u.rows) → Docs u.rows
  move at s u b h e i = go (next (drop at doc) at) refl
    where
      go : (x : Next) → next (drop at doc) at ≡ x → Docs u.rows
      go (more t q) g =
          let n = next_bounds (drop at doc) at t q g in
          let m : q ≤ length doc = omega (arith, n, length-drop at doc) in
          i q (step whole doc s t) n.0 m (step_known at q t g s h) (sym (run_more whole doc at s t q g n.0 m) ∙ e)
      go (last t) g =
          let k = step_last at (at + length (drop at doc)) t s (rw g at (next_reaches (drop at doc) at)) h in
          let z : step whole doc s t ≡ accepted u = sym (run_last whole doc at s t g) ∙ e in
          rw z at k

  walk : (n at : ℕ) (s : State Shown) (u : Tables Shown) → at ≤ length doc → length doc ≤ at + n → Kept (known at) s → run whole doc at s ≡ accepted u → Docs u.rows
  walk zero at s u b f h e = move at s u b h e (λ q r l m k g. absurd (omega arith))
  walk (suc n) at s u b f h e = move at s u b h e (λ q r l m k g. walk n q r u m (omega arith) k g)

pub docstrings_passable : {A : Type 0} (keep : Keeping A) → DocstringsPassable keep
docstrings_passable keep doc room t e =
    let a = meaning_accepts doc t (read_accepts doc room t e) in
    walk keep doc a.sound.utf8 (length doc) 0 begun t (omega arith) (omega arith) tt a.reads
