-- The document of a written tree is accepted if it is short enough and the room is there: its rows show those of the tree.
use Prim.Native.Nat.{ℕ, suc, ◌+◌}
use native.Mathlib.Omega.{arith}
use mathlib.Core.Path.{◌≡◌, refl, ap, sym, ◌∙◌}
use mathlib.Core.List.{List, [], ◌∷◌, ◌++◌, map, map-append, append-nil}
use mathlib.Core.Option.{Option, none, some}
use lib.ListN.{length, length-map}
use Rattle.slices.specs.Bytes.{if, all}
use Rattle.utf8.specs.WellFormed.{ill_formed}
use Rattle.utf8.proofs.Texts.{formed}
use Rattle.references.specs.Escape.{escape}
use Rattle.references.specs.Unescape.{plain}
use Rattle.document.specs.Kinds as kinds
use Rattle.document.specs.Tags.{Shown}
use Rattle.document.specs.Rows.{Tables, words_from, texts}
use Rattle.document.specs.Elements.{whole}
use Rattle.document.specs.Reading.{begun, accepted, run}
use Rattle.document.specs.Whole.{Room, meaning, read}
use Rattle.items.specs.Content as content
use Rattle.items.specs.Words.{rows_shown}
use Rattle.items.specs.View.{view_row, view_tables, text_shown}
use Rattle.items.specs.Written.{annotated, concat}
use Rattle.accepted.proofs.Accepted.{means_run, means_read, words_shown}
use Rattle.roundtrip.specs.Items.{name_values, referenced}
use Rattle.roundtrip.proofs.Held.{held, Row, marked, table}
use Rattle.roundtrip.proofs.Equal.{value_of, Placeless, both_placeless, unmarked}
use Rattle.roundtrip.proofs.Keeping.{view_run}
use Rattle.roundtrip.proofs.Whole.{accepted_view, shown_held}
use Rattle.roundtrip.proofs.Room.{sizes, referenced_append, texts_size, table_size}
use Rattle.trees.specs.Trees.{Tree, tree, Forest, bare, more, size}
use Rattle.trees.specs.Written.{Element, docstrings, written_tree}
use Rattle.trees_read.specs.Statement.{values_of, values, values_in, Fits}
use Rattle.trees_read.proofs.Good.{kind_in, Good}
use Rattle.trees_read.proofs.Flat.{content_at, row_for, flat, flats, length_flat}
use Rattle.trees_read.proofs.Trees.{tree_run}
use Rattle.trees_read.proofs.Texts.{whole_tree}

-- ---- the size of the text

-- by the document of an item with one value
value-size : (v : List ℕ) → if (all plain (escape v)) 0 (length v) ≡ referenced (v ∷ [])
unfolding escape
value-size v = omega (arith, table_size [] (annotated (record { name = []; value = v })) refl)

row_size : (r : content.Row) → sizes (marked r ∷ []) ≡ referenced (name_values r.name) + referenced (name_values r.value) + referenced (name_values r.tp)
row_size r = go r.name r.value r.tp
  where
    with : Option (List ℕ) → Option (List ℕ) → Option (List ℕ) → content.Row
    with n v t = record { kind = r.kind; parent = r.parent; name = n; value = v; tp = t; doc = r.doc; word = r.word; at = r.at }

    go : (n v t : Option (List ℕ)) → sizes (marked (with n v t) ∷ []) ≡ referenced (name_values n) + referenced (name_values v) + referenced (name_values t)
    go none none none = refl
    go none none (some t) = omega (arith, value-size t)
    go none (some v) none = omega (arith, value-size v)
    go none (some v) (some t) = omega (arith, value-size v, value-size t)
    go (some n) none none = omega (arith, value-size n)
    go (some n) none (some t) = omega (arith, value-size n, value-size t)
    go (some n) (some v) none = omega (arith, value-size n, value-size v)
    go (some n) (some v) (some t) = omega (arith, value-size n, value-size v, value-size t)

sizes-append : (xs ys : List Row) → sizes (xs ++ ys) ≡ sizes xs + sizes ys
sizes-append [] ys = omega arith
sizes-append (x ∷ xs) ys = omega (arith, sizes-append xs ys)

element-size : (p at : ℕ) (e : Element) → sizes (marked (row_for p at e) ∷ []) ≡ referenced (values_of e)
element-size p at e =
    omega
    (arith, row_size (row_for p at e), referenced_append (name_values e.name) (name_values e.value ++ name_values e.tp), referenced_append (name_values e.value) (name_values e.tp))

mutual
  tree_size : (p i at : ℕ) (t : Tree Element) → sizes (map marked (flat p i at t)) ≡ referenced (values t)
  tree_size p i at (tree e f) =
      let b = content_at at e + length (concat (docstrings e.doc)) in
      omega
      (arith, sizes-append (marked (row_for p at e) ∷ []) (map marked (flats (suc i) (suc i) b f)), referenced_append (values_of e) (values_in f), element-size p at e, forest-size (suc i) (suc i) b f)

  forest-size : (p i at : ℕ) (f : Forest Element) → sizes (map marked (flats p i at f)) ≡ referenced (values_in f)
  forest-size p i at bare = refl
  forest-size p i at (more t f) =
      let k = i + size t in
      let b = at + length (written_tree t) in
      ap sizes (map-append marked (flat p i at t) (flats p k b f))
      ∙ omega
      (arith, sizes-append (map marked (flat p i at t)) (map marked (flats p k b f)), referenced_append (values t) (values_in f), tree_size p i at t, forest-size p k b f)

-- ---- rows without places

mutual
  pub flat-placeless : (p i at : ℕ) (t : Tree Element) → Placeless (flat p i at t)
  flat-placeless p i at (tree e f) = (refl, flats-placeless (suc i) (suc i) (content_at at e + length (concat (docstrings e.doc))) f)

  pub flats-placeless : (p i at : ℕ) (f : Forest Element) → Placeless (flats p i at f)
  flats-placeless p i at bare = tt
  flats-placeless p i at (more t f) =
      both_placeless (flat p i at t) (flats p (i + size t) (at + length (written_tree t)) f) (flat-placeless p i at t) (flats-placeless p (i + size t) (at + length (written_tree t)) f)

-- ---- the reader that keeps all of an attribute

-- what the reader answers
pub record Answers (t : Tree Element) (room : Room) : Type 0 where
  pub tables : Tables Shown
  pub means : meaning (written_tree t) ≡ accepted tables
  pub accepts : read (written_tree t) room ≡ accepted tables
  pub silent : tables.warnings ≡ []
  pub rows : length tables.rows ≡ size t
  pub bytes : length (texts tables.rows) ≡ referenced (values t)
  pub shows : rows_shown (written_tree t) (texts tables.rows) (words_from 0 tables.rows) (length tables.rows) ≡ flat 0 0 0 t

module _ (t : Tree Element) (room : Room) (is : kind_in t ≡ kinds.node) (g : Good 0 t) (f : Fits t room) where
  abbrev doc : List ℕ
  doc = written_tree t

  well_formed : ill_formed doc ≡ length doc
  well_formed = formed (whole_tree t 0 g)

  found : (u : Tables Shown) × (run whole doc 0 begun ≡ accepted u) × (view_tables held u ≡ table (map marked (flat 0 0 0 t)) [])
  found = accepted_view (run whole doc 0 begun) _ (view_run held whole doc 0 begun ∙ tree_run t is g)

  meant : meaning doc ≡ accepted found.0
  meant = means_run doc f.short well_formed ∙ found.1

  held_rows : map (view_row held) found.0.rows ≡ map marked (flat 0 0 0 t)
  held_rows = ap (λ u. u.rows) found.2

  no_warnings : found.0.warnings ≡ []
  no_warnings = ap (λ u. u.warnings) found.2

  row_count : length found.0.rows ≡ size t
  row_count = sym (length-map found.0.rows (view_row held)) ∙ ap length held_rows ∙ length-map (flat 0 0 0 t) marked ∙ length_flat 0 0 0 t

  text_size : length (texts found.0.rows) ≡ referenced (values t)
  text_size = texts_size found.0.rows ∙ ap sizes held_rows ∙ tree_size 0 0 0 t

  fits : read doc room ≡ accepted found.0
  fits =
      let none : length found.0.warnings ≡ 0 = ap length no_warnings in
      means_read doc room found.0 meant (omega (arith, f.rows, row_count)) (omega (arith, none)) (omega (arith, f.text, text_size))

  shown-rows : map (view_row text_shown) found.0.rows ≡ flat 0 0 0 t
  shown-rows = shown_held found.0.rows ∙ ap (map (view_row value_of)) held_rows ∙ unmarked (flat 0 0 0 t) (flat-placeless 0 0 0 t)

  words-show : rows_shown doc (texts found.0.rows) (words_from 0 found.0.rows) (length found.0.rows) ≡ flat 0 0 0 t
  words-show =
      let x = texts found.0.rows in
      let w = words_from 0 found.0.rows in
      ap (λ y. rows_shown doc y w (length found.0.rows)) (sym (append-nil x))
      ∙ ap (λ y. rows_shown doc (x ++ []) y (length found.0.rows)) (sym (append-nil w))
      ∙ words_shown doc found.0 meant [] []
      ∙ shown-rows

  pub reads : Answers t room
  reads = record { tables = found.0; means = meant; accepts = fits; silent = no_warnings; rows = row_count; bytes = text_size; shows = words-show }
