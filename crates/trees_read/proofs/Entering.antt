-- A written start tag opens an element that has what its kind needs: its row, its frame, and its part in a definition.
use Prim.Native.Nat.{ℕ, suc, ◌≤◌}
use native.Mathlib.Omega.{arith}
use mathlib.Core.Path.{◌≡◌, refl}
use mathlib.Core.List.{List, []}
use mathlib.Core.Option.{Option, none, some}
use mathlib.Core.Bool.{Bool, true, false, ◌&&◌, ◌||◌}
use lib.Dec.{eqb}
use lib.ListN.{length}
use Rattle.slices.specs.Bytes.{if}
use Rattle.names.specs.Signature.{basic_signature}
use Rattle.document.specs.Kinds as kinds
use Rattle.document.specs.Tokens.{Tag}
use Rattle.document.specs.Elements.{among, kind_of, opens, opens_as}
use Rattle.document.specs.Reading as reading
use Rattle.document.specs.Reading.{Parts, Frame, definition, one_more, frame_of}
use Rattle.items.specs.Content.{Row, present}
use Rattle.roundtrip.proofs.Tags.{TagName, Keys, tag_at}
use Rattle.roundtrip.proofs.Held.{keeps, marked}
use Rattle.roundtrip.proofs.Elements.{name_from}
use Rattle.trees.specs.Written.{Element, tag_of, attributes}
use Rattle.trees_read.proofs.Good.{Fit}
use Rattle.trees_read.proofs.Shapes as shapes
use Rattle.trees_read.proofs.Shapes.{Known, Shaped, read, write, readwrite, none_said, inward, outward, shaped}

-- the row of an element before its docstring; p is the parent's row plus one
abbrev pub bare_for : ℕ → Element → Row
bare_for p e = record {
  kind = e.kind;
  parent = p;
  name = e.name;
  value = e.value;
  tp = e.tp;
  doc = none;
  word = e.word;
  at = 0;
}

-- the frame of an element of kind k with row i; its parts, if it is a definition
abbrev pub framed_by : Bool → ℕ → reading.Name → ℕ → ℕ → Parts → Frame
framed_by true k n at i p = definition (record { kind = k; at = at; name = n; row = i; reason = 0; parts = p })
framed_by false k n at i p = reading.element k n i

abbrev pub framed : ℕ → reading.Name → ℕ → ℕ → Parts → Frame
framed k = framed_by (among k kinds.definitions) k

abbrev pub no_parts : Parts
no_parts = record { count = 0; broken = false; basic = false }

-- one part more
abbrev pub plus : Element → Parts → Parts
plus e p = record {
  count = suc p.count;
  broken = p.broken || false;
  basic = if (eqb p.count 0) (eqb e.kind kinds.member && basic_signature (present e.value)) p.basic;
}

-- the start tag of an element
abbrev pub start_at : ℕ → Element → Bool → Tag
start_at at e self = tag_at at (tag_of e.kind) (attributes e) self

pub record Enters (e : Element) : Type 0 where
  pub keys : Keys [] (attributes e)
  pub few : length (attributes e) ≤ 256
  pub opened : (p at : ℕ) (self : Bool) → opens_as keeps e.kind p (start_at at e self) ≡ opens (marked (bare_for p e))
  pub frame : (at : ℕ) (self : Bool) (i : ℕ) → frame_of e.kind (start_at at e self) i ≡ framed e.kind (name_from at (tag_of e.kind)) at i no_parts
  pub part : (at : ℕ) (self : Bool) (p : Parts) → among e.kind kinds.parts ≡ true → one_more e.kind (start_at at e self) p ≡ plus e p

pub tag_names : {k : ℕ} → Known k → TagName (tag_of k)
unfolding tag_of
tag_names shapes.node = (refl, refl, refl, refl)
tag_names shapes.interface = (refl, refl, refl, refl)
tag_names shapes.method = (refl, refl, refl, refl)
tag_names shapes.property = (refl, refl, refl, refl)
tag_names shapes.signal = (refl, refl, refl, refl)
tag_names shapes.annotation = (refl, refl, refl, refl)
tag_names shapes.arg = (refl, refl, refl, refl)
tag_names shapes.simple_type = (refl, refl, refl, refl)
tag_names shapes.enum = (refl, refl, refl, refl)
tag_names shapes.enumvalue = (refl, refl, refl, refl)
tag_names shapes.struct = (refl, refl, refl, refl)
tag_names shapes.member = (refl, refl, refl, refl)
tag_names shapes.mapping = (refl, refl, refl, refl)

pub tag_kind : {k : ℕ} → Known k → kind_of (tag_of k) ≡ k
unfolding tag_of kind_of
tag_kind shapes.node = refl
tag_kind shapes.interface = refl
tag_kind shapes.method = refl
tag_kind shapes.property = refl
tag_kind shapes.signal = refl
tag_kind shapes.annotation = refl
tag_kind shapes.arg = refl
tag_kind shapes.simple_type = refl
tag_kind shapes.enum = refl
tag_kind shapes.enumvalue = refl
tag_kind shapes.struct = refl
tag_kind shapes.member = refl
tag_kind shapes.mapping = refl

pub no_docstring : {k : ℕ} → Known k → eqb k kinds.docstring ≡ false
no_docstring shapes.node = refl
no_docstring shapes.interface = refl
no_docstring shapes.method = refl
no_docstring shapes.property = refl
no_docstring shapes.signal = refl
no_docstring shapes.annotation = refl
no_docstring shapes.arg = refl
no_docstring shapes.simple_type = refl
no_docstring shapes.enum = refl
no_docstring shapes.enumvalue = refl
no_docstring shapes.struct = refl
no_docstring shapes.member = refl
no_docstring shapes.mapping = refl

abbrev made : ℕ → Option (List ℕ) → Option (List ℕ) → Option (List ℕ) → Option (List ℕ) → ℕ → Element
made k n v tp o w = record { kind = k; name = n; value = v; tp = tp; doc = o; word = w }

shape_enters : {k : ℕ} {n v tp : Option (List ℕ)} {w : ℕ} → Shaped k n v tp w → (o : Option (List ℕ)) → Enters (made k n v tp o w)
unfolding opens_as tag_of
shape_enters (shapes.node none) o = record { keys = tt; few = omega arith; opened = λ p at self. refl; frame = λ at self j. refl; part = λ at self p e. let z : ◌≡◌ {A = ℕ} 0 1 = cc in absurd (omega arith) }
shape_enters (shapes.node (some n)) o = record { keys = (refl, refl, tt); few = omega arith; opened = λ p at self. refl; frame = λ at self j. refl; part = λ at self p e. let z : ◌≡◌ {A = ℕ} 0 1 = cc in absurd (omega arith) }
shape_enters (shapes.interface n h) o = record { keys = (refl, refl, tt); few = omega arith; opened = λ p at self. rw h; frame = λ at self j. refl; part = λ at self p e. let z : ◌≡◌ {A = ℕ} 0 1 = cc in absurd (omega arith) }
shape_enters (shapes.method n h) o = record { keys = (refl, refl, tt); few = omega arith; opened = λ p at self. rw h; frame = λ at self j. refl; part = λ at self p e. let z : ◌≡◌ {A = ℕ} 0 1 = cc in absurd (omega arith) }
shape_enters (shapes.property n v none w h i read) o = record { keys = (refl, refl, (refl, refl, (refl, refl, tt))); few = omega arith; opened = λ p at self. rw (h, i); frame = λ at self j. refl; part = λ at self p e. let z : ◌≡◌ {A = ℕ} 0 1 = cc in absurd (omega arith) }
shape_enters (shapes.property n v none w h i write) o = record { keys = (refl, refl, (refl, refl, (refl, refl, tt))); few = omega arith; opened = λ p at self. rw (h, i); frame = λ at self j. refl; part = λ at self p e. let z : ◌≡◌ {A = ℕ} 0 1 = cc in absurd (omega arith) }
shape_enters (shapes.property n v none w h i readwrite) o = record { keys = (refl, refl, (refl, refl, (refl, refl, tt))); few = omega arith; opened = λ p at self. rw (h, i); frame = λ at self j. refl; part = λ at self p e. let z : ◌≡◌ {A = ℕ} 0 1 = cc in absurd (omega arith) }
shape_enters (shapes.property n v (some tp) w h i read) o = record { keys = (refl, refl, (refl, refl, (refl, refl, (refl, refl, tt)))); few = omega arith; opened = λ p at self. rw (h, i); frame = λ at self j. refl; part = λ at self p e. let z : ◌≡◌ {A = ℕ} 0 1 = cc in absurd (omega arith) }
shape_enters (shapes.property n v (some tp) w h i write) o = record { keys = (refl, refl, (refl, refl, (refl, refl, (refl, refl, tt)))); few = omega arith; opened = λ p at self. rw (h, i); frame = λ at self j. refl; part = λ at self p e. let z : ◌≡◌ {A = ℕ} 0 1 = cc in absurd (omega arith) }
shape_enters (shapes.property n v (some tp) w h i readwrite) o = record { keys = (refl, refl, (refl, refl, (refl, refl, (refl, refl, tt)))); few = omega arith; opened = λ p at self. rw (h, i); frame = λ at self j. refl; part = λ at self p e. let z : ◌≡◌ {A = ℕ} 0 1 = cc in absurd (omega arith) }
shape_enters (shapes.signal n h) o = record { keys = (refl, refl, tt); few = omega arith; opened = λ p at self. rw h; frame = λ at self j. refl; part = λ at self p e. let z : ◌≡◌ {A = ℕ} 0 1 = cc in absurd (omega arith) }
shape_enters (shapes.annotation n v) o = record { keys = (refl, refl, (refl, refl, tt)); few = omega arith; opened = λ p at self. refl; frame = λ at self j. refl; part = λ at self p e. let z : ◌≡◌ {A = ℕ} 0 1 = cc in absurd (omega arith) }
shape_enters (shapes.arg none v none w i none_said) o = record { keys = (refl, refl, tt); few = omega arith; opened = λ p at self. rw i; frame = λ at self j. refl; part = λ at self p e. let z : ◌≡◌ {A = ℕ} 0 1 = cc in absurd (omega arith) }
shape_enters (shapes.arg none v none w i inward) o = record { keys = (refl, refl, (refl, refl, tt)); few = omega arith; opened = λ p at self. rw i; frame = λ at self j. refl; part = λ at self p e. let z : ◌≡◌ {A = ℕ} 0 1 = cc in absurd (omega arith) }
shape_enters (shapes.arg none v none w i outward) o = record { keys = (refl, refl, (refl, refl, tt)); few = omega arith; opened = λ p at self. rw i; frame = λ at self j. refl; part = λ at self p e. let z : ◌≡◌ {A = ℕ} 0 1 = cc in absurd (omega arith) }
shape_enters (shapes.arg none v (some tp) w i none_said) o = record { keys = (refl, refl, (refl, refl, tt)); few = omega arith; opened = λ p at self. rw i; frame = λ at self j. refl; part = λ at self p e. let z : ◌≡◌ {A = ℕ} 0 1 = cc in absurd (omega arith) }
shape_enters (shapes.arg none v (some tp) w i inward) o = record { keys = (refl, refl, (refl, refl, (refl, refl, tt))); few = omega arith; opened = λ p at self. rw i; frame = λ at self j. refl; part = λ at self p e. let z : ◌≡◌ {A = ℕ} 0 1 = cc in absurd (omega arith) }
shape_enters (shapes.arg none v (some tp) w i outward) o = record { keys = (refl, refl, (refl, refl, (refl, refl, tt))); few = omega arith; opened = λ p at self. rw i; frame = λ at self j. refl; part = λ at self p e. let z : ◌≡◌ {A = ℕ} 0 1 = cc in absurd (omega arith) }
shape_enters (shapes.arg (some n) v none w i none_said) o = record { keys = (refl, refl, (refl, refl, tt)); few = omega arith; opened = λ p at self. rw i; frame = λ at self j. refl; part = λ at self p e. let z : ◌≡◌ {A = ℕ} 0 1 = cc in absurd (omega arith) }
shape_enters (shapes.arg (some n) v none w i inward) o = record { keys = (refl, refl, (refl, refl, (refl, refl, tt))); few = omega arith; opened = λ p at self. rw i; frame = λ at self j. refl; part = λ at self p e. let z : ◌≡◌ {A = ℕ} 0 1 = cc in absurd (omega arith) }
shape_enters (shapes.arg (some n) v none w i outward) o = record { keys = (refl, refl, (refl, refl, (refl, refl, tt))); few = omega arith; opened = λ p at self. rw i; frame = λ at self j. refl; part = λ at self p e. let z : ◌≡◌ {A = ℕ} 0 1 = cc in absurd (omega arith) }
shape_enters (shapes.arg (some n) v (some tp) w i none_said) o = record { keys = (refl, refl, (refl, refl, (refl, refl, tt))); few = omega arith; opened = λ p at self. rw i; frame = λ at self j. refl; part = λ at self p e. let z : ◌≡◌ {A = ℕ} 0 1 = cc in absurd (omega arith) }
shape_enters (shapes.arg (some n) v (some tp) w i inward) o = record { keys = (refl, refl, (refl, refl, (refl, refl, (refl, refl, tt)))); few = omega arith; opened = λ p at self. rw i; frame = λ at self j. refl; part = λ at self p e. let z : ◌≡◌ {A = ℕ} 0 1 = cc in absurd (omega arith) }
shape_enters (shapes.arg (some n) v (some tp) w i outward) o = record { keys = (refl, refl, (refl, refl, (refl, refl, (refl, refl, tt)))); few = omega arith; opened = λ p at self. rw i; frame = λ at self j. refl; part = λ at self p e. let z : ◌≡◌ {A = ℕ} 0 1 = cc in absurd (omega arith) }
shape_enters (shapes.simple_type n v i) o = record { keys = (refl, refl, (refl, refl, tt)); few = omega arith; opened = λ p at self. refl; frame = λ at self j. rw i; part = λ at self p e. let z : ◌≡◌ {A = ℕ} 0 1 = cc in absurd (omega arith) }
shape_enters (shapes.enum n v i) o = record { keys = (refl, refl, (refl, refl, tt)); few = omega arith; opened = λ p at self. refl; frame = λ at self j. rw i; part = λ at self p e. let z : ◌≡◌ {A = ℕ} 0 1 = cc in absurd (omega arith) }
shape_enters (shapes.enumvalue n v) o = record { keys = (refl, refl, (refl, refl, tt)); few = omega arith; opened = λ p at self. refl; frame = λ at self j. refl; part = λ at self p e. refl }
shape_enters (shapes.struct n) o = record { keys = (refl, refl, tt); few = omega arith; opened = λ p at self. refl; frame = λ at self j. refl; part = λ at self p e. let z : ◌≡◌ {A = ℕ} 0 1 = cc in absurd (omega arith) }
shape_enters (shapes.member n v none i) o = record { keys = (refl, refl, (refl, refl, tt)); few = omega arith; opened = λ p at self. refl; frame = λ at self j. refl; part = λ at self p e. rw i }
shape_enters (shapes.member n v (some tp) i) o = record { keys = (refl, refl, (refl, refl, (refl, refl, tt))); few = omega arith; opened = λ p at self. refl; frame = λ at self j. refl; part = λ at self p e. rw i }
shape_enters (shapes.mapping n) o = record { keys = (refl, refl, tt); few = omega arith; opened = λ p at self. refl; frame = λ at self j. refl; part = λ at self p e. let z : ◌≡◌ {A = ℕ} 0 1 = cc in absurd (omega arith) }

pub enters : (e : Element) → Known e.kind → Fit e → Enters e
enters e h f = shape_enters (shaped h e.name e.value e.tp e.doc e.word f) e.doc
