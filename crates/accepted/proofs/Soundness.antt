-- The words of rows that are sound are sound rows.
use Prim.Native.Nat.{ℕ, zero, suc, ◌+◌, ◌-◌, ◌/◌, ◌*◌, ◌≤◌, ◌<◌}
use mathlib.Core.Path.{◌≡◌, refl, ◌∙◌, ap, sym}
use mathlib.Core.List.{List, [], ◌∷◌, ◌++◌}
use mathlib.Core.Option.{Option, none, some}
use mathlib.Core.Bool.{Bool, true, not, ◌&&◌}
use borrow.Author.Tests.{lt-ltb, le-ltb, le-leb, eq-eqb}
use native.Mathlib.Nat.{zero-add, add-zero}
use native.Mathlib.Omega.{arith}
use lib.Dec.{eqb}
use lib.ListN.{length, take, drop, length-append}
use Rattle.utf8.specs.WellFormed.{ill_formed}
use Rattle.names.specs.Signature.{basic_signature}
use Rattle.tables.specs.Triple.{shown}
use Rattle.tables.specs.declared.Triple.{Triple}
use Rattle.references.proofs.Formed.{unescape_formed}
use Rattle.document.specs.Kinds as kinds
use Rattle.document.specs.Tags.{Shown}
use Rattle.document.specs.Rows.{Doc, Row, text_of, row_text, words_from, texts}
use Rattle.rows.proofs.Words.{length_words_from}
use Rattle.document.specs.Reading.{is_some}
use Rattle.items.specs.Words.{RowWords, is_child}
use Rattle.items.specs.Sound.{kind_at, placed, Use, name_use, value_use, tp_use, doc_use, valid_name, valid_value, any_text, valid_word, good_triple, in_document, sound_row, first_bad, sound, soundness, good_row, members_of, any_member, keyed, counted}
use Rattle.document.proofs.Tests.{either, pairwise}
use Rattle.accepted.proofs.Values.{HeldIn, RowHeld, RowsHeld}
use Rattle.accepted.proofs.Triples.{triple_of, doc_of, words_of, Within, within_first, within_more, name_within, value_within, tp_within, Leads, leads_document, leads_value}
use Rattle.accepted.proofs.Rows.{rows_from, rows_words}
use Rattle.accepted.proofs.Entries.{GoodIn, Brief, brief, Complete}
use Rattle.accepted.proofs.Docstrings.{DocIn, DocsIn, raw_formed}
use Rattle.accepted.proofs.Frames.{Placed, Fine}
use Rattle.accepted.proofs.States.{row_at, AtTag, Holds}
use Rattle.accepted.proofs.Members.{signatures, some_member, two_keyed, enough}

-- ---- places

kind_in_rows : (n : ℕ) (rs : List (Row Shown)) (j : ℕ) → kind_at (rows_from n rs) j ≡ (row_at rs j).kind
unfolding row_at
kind_in_rows n [] j = refl
kind_in_rows n (r ∷ rs) zero = refl
kind_in_rows n (r ∷ rs) (suc j) = kind_in_rows (n + length (row_text r)) rs j

placed_true : (rows : List RowWords) (ks : ℕ → ℕ) → ((j : ℕ) → kind_at rows j ≡ ks j) → (i : ℕ) (w : RowWords) → Placed ks i w.kind w.parent → placed rows i w ≡ true
placed_true rows ks e zero w h = rw (eq-eqb w.kind kinds.node h.0, eq-eqb w.parent 0 h.1)
placed_true rows ks e (suc i) w h = rw (lt-ltb 0 w.parent h.0, le-leb w.parent (suc i) h.1, e (w.parent - 1), h.2)

-- ---- triples

module _ (doc x : List ℕ) (formed : ill_formed doc ≡ length doc) where
  good_there : (u : Use) (valid : List ℕ → Bool) (t : Triple) (s : List ℕ) → Leads doc x t s → ill_formed s ≡ length s → u.may ≡ true → valid s ≡ true → good_triple doc x u valid t ≡ true
  unfolding good_triple
  good_there u valid t s l f m v = rw (l.there, m, l.within, l.shows, eq-eqb (ill_formed s) (length s) f, v)

  good_value : (u : Use) (valid : List ℕ → Bool) (n : ℕ) (o : Option Shown) → HeldIn doc o → GoodIn u valid o → Within x n (text_of o) → good_triple doc x u valid (triple_of n o) ≡ true
  unfolding good_triple
  good_value u valid n none h g w = g
  good_value u valid n (some s) h g w =
      good_there u valid (triple_of n (some s)) s.value (leads_value doc x n s h w) (unescape_formed s.attr.raw s.value (raw_formed doc formed s h) h.shows) g.0 g.1

  good_doc : (k : ℕ) (o : Option Doc) → DocIn doc k o → good_triple doc x (doc_use k) any_text (doc_of o) ≡ true
  unfolding good_triple
  good_doc k none h = either (λ (u : Use). not u.must ≡ true) (eqb k kinds.annotation) (λ c. refl) (λ c. refl)
  good_doc k (some d) h =
      good_there (doc_use k) any_text (doc_of (some d)) (take d.len (drop d.start doc)) (leads_document doc x d.start d.len _ h.1.inside refl) h.1.formed (rw h.0) refl

  doc_source : (o : Option Doc) → in_document (doc_of o) ≡ true
  doc_source none = refl
  doc_source (some d) = refl

  -- ---- a row

  eight : (a b c d e f g h : Bool) → a ≡ true → b ≡ true → c ≡ true → d ≡ true → e ≡ true → f ≡ true → g ≡ true → h ≡ true → (a && b && c && d && e && f && g && h) ≡ true
  eight a b c d e f g h i j k l m n o p = rw (i, j, k, l, m, n, o, p)

  module _ (rows : List RowWords) (f : ℕ → Brief) (kinds : (j : ℕ) → kind_at rows j ≡ (f j).kind) where
    row_good : (n i : ℕ) (r : Row Shown) → f i ≡ brief r → Fine f i → AtTag doc (f i) → Complete (f i) → RowHeld doc r → DocIn doc r.kind r.doc → Within x n (row_text r) → good_row doc x rows i (words_of n r) ≡ true
    unfolding good_row
    row_good n i r e a o c h d w =
        let k = r.kind in
        let b : Placed (λ j. (f j).kind) i k r.parent × GoodIn (tp_use k) any_text r.tp × (valid_word k r.word ≡ true) = rw e at a in
        let v : GoodIn (name_use k) (valid_name k) r.name × GoodIn (value_use k) (valid_value k) r.value = rw e at c in
        eight _ _ _ _ _ _ _ _
        (placed_true rows (λ j. (f j).kind) kinds i (words_of n r) b.0)
        (good_value (name_use k) (valid_name k) n r.name h.0 v.0 (name_within r w))
        (good_value (value_use k) (valid_value k) _ r.value h.1 v.1 (value_within r w))
        (good_value (tp_use k) any_text _ r.tp h.2 b.1 (tp_within r w))
        (good_doc k r.doc d)
        (doc_source r.doc)
        b.2
        (lt-ltb r.at (length doc) (rw e at o).inside)

  -- ---- members

  -- members that show these signatures
  abbrev Show : List RowWords → List (Option Shown) → Type 0
  Show [] [] = Unit {0}
  Show [] (v ∷ vs) = ⊥
  Show (m ∷ ms) [] = ⊥
  Show (m ∷ ms) (v ∷ vs) = (basic_signature (shown doc x m.value) ≡ is_some basic_signature v) × Show ms vs

  basic_shown : (n : ℕ) (o : Option Shown) → HeldIn doc o → Within x n (text_of o) → basic_signature (shown doc x (triple_of n o)) ≡ is_some basic_signature o
  unfolding shown
  basic_shown n none h w = refl
  basic_shown n (some s) h w = ap basic_signature (leads_value doc x n s h w).shows

  members_show : (p n : ℕ) (rs : List (Row Shown)) → RowsHeld doc rs → Within x n (texts rs) → Show (members_of p (rows_from n rs)) (signatures p rs)
  members_show p n [] h w = tt
  members_show p n (r ∷ rs) h w =
      let i = members_show p (n + length (row_text r)) rs h.1 (within_more (row_text r) (texts rs) w) in
      pairwise Show (is_child kinds.member p r.kind r.parent)
      (λ c. (basic_shown (n + length (text_of r.name)) r.value h.0.1 (value_within r (within_first (row_text r) (texts rs) w)), i))
      (λ c. i)

  any_shown : (ms : List RowWords) (vs : List (Option Shown)) → Show ms vs → any_member ms ≡ some_member vs
  any_shown [] [] h = refl
  any_shown [] (v ∷ vs) h = absurd h
  any_shown (m ∷ ms) [] h = absurd h
  any_shown (m ∷ ms) (v ∷ vs) h = refl

  keyed-shown : (ms : List RowWords) (vs : List (Option Shown)) → Show ms vs → keyed doc x ms ≡ two_keyed vs
  keyed-shown [] [] h = refl
  keyed-shown [] (v ∷ vs) h = absurd h
  keyed-shown (k ∷ ms) [] h = absurd h
  keyed-shown (k ∷ []) (v ∷ []) h = refl
  keyed-shown (k ∷ []) (v ∷ w ∷ vs) h = absurd h.1
  keyed-shown (k ∷ m ∷ ms) (v ∷ []) h = absurd h.1
  keyed-shown (k ∷ m ∷ []) (v ∷ w ∷ []) h = h.0
  keyed-shown (k ∷ m ∷ []) (v ∷ w ∷ y ∷ vs) h = absurd h.1.1
  keyed-shown (k ∷ m ∷ l ∷ ms) (v ∷ w ∷ []) h = absurd h.1.1
  keyed-shown (k ∷ m ∷ l ∷ ms) (v ∷ w ∷ y ∷ vs) h = refl

  counted_shown : (k : ℕ) (ms : List RowWords) (vs : List (Option Shown)) → Show ms vs → counted doc x k ms ≡ enough k vs
  unfolding counted
  counted_shown k ms vs h = rw (any_shown ms vs h, keyed-shown ms vs h)

  -- ---- all rows

  module _ (rs : List (Row Shown)) (h : Holds doc formed [] rs) (full : (i : ℕ) → i < length rs → enough (row_at rs i).kind (signatures (suc i) rs) ≡ true) (held : RowsHeld doc rs) (here : Within x 0 (texts rs)) where
    row_sound : (i : ℕ) (w : RowWords) → i < length rs → w.kind ≡ (row_at rs i).kind → good_row doc x (rows_from 0 rs) i w ≡ true → sound_row doc x (rows_from 0 rs) i w ≡ true
    unfolding sound_row
    row_sound i w l k g =
        rw (g, k, counted_shown (row_at rs i).kind (members_of (suc i) (rows_from 0 rs)) (signatures (suc i) rs) (members_show (suc i) 0 rs held here)) (full i l)

    -- the rows from row i on
    none_bad : (n i : ℕ) (ss : List (Row Shown)) → i + length ss ≡ length rs → ((j : ℕ) → row_at rs (i + j) ≡ row_at ss j) → RowsHeld doc ss → DocsIn doc ss → Within x n (texts ss) → first_bad doc x (rows_from 0 rs) i (rows_from n ss) ≡ length rs
    unfolding row_at
    none_bad n i [] e a v d w = omega arith
    none_bad n i (r ∷ ss) e a v d w =
        let b : row_at rs i ≡ brief r = rw add-zero at (a 0) in
        let s : sound_row doc x (rows_from 0 rs) i (words_of n r) ≡ true =
        row_sound i (words_of n r) (omega arith) (ap (λ (b : Brief). b.kind) (sym b))
        (row_good (rows_from 0 rs) (row_at rs) (kind_in_rows 0 rs) n i r b (h.fine i (omega arith)) (h.tags i (omega arith)) (h.frames i (omega arith)) v.0 d.0 (within_first (row_text r) (texts ss) w)) in
        rw s
        (none_bad (n + length (row_text r)) (suc i) ss (omega arith) (λ j. let q : suc i + j ≡ i + suc j = omega arith in rw q (a (suc j))) v.1 d.1 (within_more (row_text r) (texts ss) w))

    pub words_sound : (z : List ℕ) → length rs ≤ 262144 → soundness doc x (words_from 0 rs ++ z) (length rs) ≡ sound
    unfolding soundness
    words_sound z m =
        let l : length (words_from 0 rs ++ z) ≡ length rs * 16 + length z = length-append (words_from 0 rs) z ∙ rw (length_words_from 0 rs) in
        rw (
          le-ltb 262144 (length rs) m,
          le-ltb (length (words_from 0 rs ++ z) / 16) (length rs) (omega arith),
          rows_words 0 rs z,
          none_bad 0 0 rs (zero-add (length rs)) (λ j. rw zero-add) held h.docs here,
          le-ltb (length rs) (length rs) (omega arith),
        )
