-- A written item in a document of its own is read as its rows, if the document is short enough and the room is there.
use Prim.Native.Nat.{ℕ, ◌+◌}
use native.Mathlib.Omega.{arith}
use mathlib.Core.Path.{◌≡◌, refl, ap, ◌∙◌, sym}
use mathlib.Core.List.{List, [], ◌∷◌, ◌++◌, map, append_assoc, append-nil}
use mathlib.Core.Option.{Option, none, some}
use mathlib.Core.Bool.{Bool, true, false, not}
use lib.Dec.{ltb}
use lib.ListN.{length, length-map}
use Rattle.slices.specs.Bytes.{bytes}
use Rattle.utf8.specs.WellFormed.{ill_formed}
use Rattle.utf8.proofs.Texts.{ascii, Whole, formed, whole_append}
use Rattle.names.specs.Names.{interface_name}
use Rattle.names.proofs.Bytes.{interface_bytes, name_all}
use Rattle.scan.specs.Classes.{escapable}
use Rattle.references.specs.Escape.{escape}
use Rattle.references.proofs.Escapes.{escape_same}
use Rattle.document.specs.Kinds as kinds
use Rattle.document.specs.Tags.{Shown}
use Rattle.document.specs.Rows as tables
use Rattle.document.specs.Rows.{Tables, texts}
use Rattle.document.specs.Tokens.{tokens, start}
use Rattle.document.specs.Elements.{kind_of, may_hold, whole, opens_as}
use Rattle.document.specs.Reading as states
use Rattle.document.specs.Reading.{begun, accepted, begins, step, run}
use Rattle.document.specs.Whole.{Room, meaning, read}
use Rattle.items.specs.View.{over, view_row, view_tables, view, text_shown}
use Rattle.items.specs.Written.{Item, named, tag, closing_tag, element, written}
use Rattle.accepted.proofs.Accepted.{means_run, means_read}
use Rattle.roundtrip.specs.Items.{rows, node_row, interface_row, values, referenced}
use Rattle.roundtrip.specs.Statement.{around, Fits}
use Rattle.roundtrip.proofs.Tags.{tag_at}
use Rattle.roundtrip.proofs.Held.{Held, held, keeps, State, marked, table, inside}
use Rattle.roundtrip.proofs.Elements.{Reads, Element, name_from, entered, Opens, an_element, child, childless, fold-append}
use Rattle.roundtrip.proofs.Items.{Good, kind, item_element}
use Rattle.roundtrip.proofs.Equal.{value_of, item_placeless, unmarked}
use Rattle.roundtrip.proofs.SoundRows.{AllFormed}
use Rattle.roundtrip.proofs.Texts.{whole_written}
use Rattle.roundtrip.proofs.Keeping.{view_run}
use Rattle.roundtrip.proofs.Room.{sizes, texts_size, table_size}

-- ---- an item in a document of its own

abbrev holding : List ℕ → Item → List ℕ
holding n c = element (bytes "node") [] (element (bytes "interface") (named n ∷ []) (written c ∷ []) ∷ [])

node_enters : (doc : List ℕ) (at : ℕ) (self : Bool) → step keeps doc begun (start (tag_at at (bytes "node") [] self)) ≡ entered kinds.node (bytes "node") at self (marked node_row) [] [] []
unfolding step begins opens_as
node_enters doc at true = refl
node_enters doc at false = refl

node_opens : Opens kinds.node (bytes "node") [] begun (marked node_row) [] [] []
node_opens = record { name = (refl, refl, refl, refl); keys = tt; few = omega arith; enters = node_enters }

abbrev in_node : ℕ → List states.Frame
in_node at = states.element kinds.node (name_from at (bytes "node")) 0 ∷ []

module _ (n : List ℕ) (h : interface_name n ≡ true) where
  interface_enters : (root : ℕ) (doc : List ℕ) (at : ℕ) (self : Bool) → step keeps doc (inside (in_node root) (marked node_row ∷ []) []) (start (tag_at at (bytes "interface") (named n ∷ []) self)) ≡ entered kinds.interface (bytes "interface") at self (marked (interface_row n)) (in_node root) (marked node_row ∷ []) []
  unfolding step begins opens_as kind_of may_hold
  interface_enters root doc at true = rw h
  interface_enters root doc at false = rw h

  interface_opens : (root : ℕ) → Opens kinds.interface (bytes "interface") (named n ∷ []) (inside (in_node root) (marked node_row ∷ []) []) (marked (interface_row n)) (in_node root) (marked node_row ∷ []) []
  interface_opens root = record { name = (refl, refl, refl, refl); keys = (refl, refl, tt); few = omega arith; enters = interface_enters root }

  holding_element : (c : Item) → may_hold kinds.interface (kind c) ≡ true → Good c → Element (holding n c) begun (accepted (table (map marked (node_row ∷ interface_row n ∷ rows 2 2 c)) []))
  holding_element c i g =
      an_element node_opens _
      (λ root. child (an_element (interface_opens root) _ (λ at. child (item_element kinds.interface c i g (name_from at (bytes "interface")) 1 (in_node root) (marked node_row ∷ marked (interface_row n) ∷ []) []).passes childless)).passes childless)

  -- the name holds nothing that is escaped
  same_escaped : escape n ≡ n
  same_escaped = escape_same (λ b. not (escapable b)) (λ b e. not_so (escapable b) e) n (name_all (λ b. not (escapable b)) refl n (interface_bytes n h))
    where
      not_so : (b : Bool) → not b ≡ true → b ≡ false
      not_so true e = cc
      not_so false e = refl

  whole_name : Whole n
  whole_name = ascii n (name_all (λ b. ltb b 128) refl n (interface_bytes n h))

  whole_around : (b : List ℕ) → Whole b → Whole (around n b)
  whole_around b w =
      whole_append (ascii (bytes "<node><interface name=\"") refl)
      (whole_append whole_name (whole_append (ascii (bytes "\">") refl) (whole_append w (ascii (bytes "</interface></node>") refl))))

regroup : (m w c d : List ℕ) → m ++ (34 ∷ 62 ∷ w ++ (c ++ d)) ≡ (((m ++ 34 ∷ []) ++ []) ++ 62 ∷ []) ++ ((w ++ []) ++ c) ++ [] ++ d
regroup m w c d = simp (append_assoc, append-nil)

spelled : (n : List ℕ) (c : Item) → escape n ≡ n → around n (written c) ≡ holding n c
unfolding tag closing_tag
spelled n c e =
    ap (λ m. around m (written c)) (sym e)
    ∙ ap (λ l. bytes "<node><interface name=\"" ++ l) (regroup (escape n) (written c) (closing_tag (bytes "interface")) (closing_tag (bytes "node")))

-- bytes that lead from a state to another do so in a run, whatever follows
read_on : {b : List ℕ} {s s' : State} → Reads b s s' → (doc r : List ℕ) → doc ≡ b ++ r → run keeps doc 0 s ≡ states.fold keeps doc s' (tokens r (0 + length b))
unfolding run
read_on {b} {s} x doc r e =
    ap (λ l. states.fold keeps doc s (tokens l 0)) e
    ∙ rw (x.lexed 0 r, fold-append doc s (x.toks 0) (tokens r (0 + length b)), x.folds doc 0)

module _ (n : List ℕ) (h : interface_name n ≡ true) (c : Item) (i : may_hold kinds.interface (kind c) ≡ true) (g : Good c) where
  run_held : run keeps (around n (written c)) 0 begun ≡ accepted (table (map marked (node_row ∷ interface_row n ∷ rows 2 2 c)) [])
  unfolding tokens step
  run_held =
      read_on (holding_element n h c i g).passes.does (around n (written c)) [] (spelled n c (same_escaped n h) ∙ sym (append-nil (holding n c)))

-- ---- the reader that keeps all of an attribute

pub accepted_view : (s : states.State Shown) (u : Tables Held) → view held s ≡ accepted u → (t : Tables Shown) × (s ≡ accepted t) × (view_tables held t ≡ u)
accepted_view begun u e = let z : ◌≡◌ {A = ℕ} 0 1 = cc in absurd (omega arith)
accepted_view (states.reading fs t) u e = let z : ◌≡◌ {A = ℕ} 0 1 = cc in absurd (omega arith)
accepted_view (accepted t) u e = (t, refl, tables_of e)
  where
    in_state : states.State Held → Tables Held
    in_state begun = u
    in_state (states.reading fs v) = v
    in_state (accepted v) = v
    in_state (states.refused x) = u

    tables_of : accepted (view_tables held t) ≡ accepted u → view_tables held t ≡ u
    tables_of e = ap in_state e
accepted_view (states.refused x) u e = let z : ◌≡◌ {A = ℕ} 0 1 = cc in absurd (omega arith)

text_held : (o : Option Shown) → over text_shown o ≡ over value_of (over held o)
text_held none = refl
text_held (some s) = refl

pub shown_held : (rs : List (tables.Row Shown)) → map (view_row text_shown) rs ≡ map (view_row value_of) (map (view_row held) rs)
shown_held [] = refl
shown_held (r ∷ rs) =
    let a = text_held r.name in
    let v = text_held r.value in
    let t = text_held r.tp in
    let e = shown_held rs in
    λ j. record { kind = r.kind; parent = r.parent; name = a j; value = v j; tp = t j; doc = r.doc; word = r.word; at = 0 } ∷ e j

-- what the reader answers: its rows show the node, the interface and the item's rows
pub record Answers (doc : List ℕ) (room : Room) (name : List ℕ) (c : Item) : Type 0 where
  pub tables : Tables Shown
  pub means : meaning doc ≡ accepted tables
  pub reads : read doc room ≡ accepted tables
  pub silent : (tables).warnings ≡ []
  pub shows : map (view_row text_shown) (tables).rows ≡ node_row ∷ interface_row name ∷ rows 2 2 c
  pub many : length (tables).rows ≡ 2 + length (rows 2 2 c)
  pub text : length (texts (tables).rows) ≡ referenced (values c)

module _ (n : List ℕ) (h : interface_name n ≡ true) (c : Item) (i : may_hold kinds.interface (kind c) ≡ true) (g : Good c) (w : AllFormed (values c)) (room : Room) (f : Fits n c room) where
  abbrev doc : List ℕ
  doc = around n (written c)

  well_formed : ill_formed doc ≡ length doc
  well_formed = formed (whole_around n h (written c) (whole_written c w))

  found : (t : Tables Shown) × (run whole doc 0 begun ≡ accepted t) × (view_tables held t ≡ table (map marked (node_row ∷ interface_row n ∷ rows 2 2 c)) [])
  found = accepted_view (run whole doc 0 begun) _ (view_run held whole doc 0 begun ∙ run_held n h c i g)

  meant : meaning doc ≡ accepted found.0
  meant = means_run doc f.short well_formed ∙ found.1

  held_rows : map (view_row held) found.0.rows ≡ map marked (node_row ∷ interface_row n ∷ rows 2 2 c)
  held_rows = ap (λ u. u.rows) found.2

  no_warnings : found.0.warnings ≡ []
  no_warnings = ap (λ u. u.warnings) found.2

  row_count : length found.0.rows ≡ 2 + length (rows 2 2 c)
  row_count = sym (length-map found.0.rows (view_row held)) ∙ ap length held_rows ∙ length-map (node_row ∷ interface_row n ∷ rows 2 2 c) marked ∙ omega arith

  text_size : length (texts found.0.rows) ≡ referenced (values c)
  text_size = texts_size found.0.rows ∙ ap sizes held_rows ∙ table_size n c (same_escaped n h)

  fits : read doc room ≡ accepted found.0
  fits =
      let none : length found.0.warnings ≡ 0 = ap length no_warnings in
      means_read doc room found.0 meant (omega (arith, f.rows, row_count)) (omega (arith, none)) (omega (arith, f.text, text_size))

  pub answers : Answers doc room n c
  answers = record {
    tables = found.0;
    means = meant;
    reads = fits;
    silent = no_warnings;
    shows = shown_held found.0.rows ∙ ap (map (view_row value_of)) held_rows ∙ unmarked (node_row ∷ interface_row n ∷ rows 2 2 c) (refl, (refl, item_placeless 2 2 c));
    many = row_count;
    text = text_size;
  }
