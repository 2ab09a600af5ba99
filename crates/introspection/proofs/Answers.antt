-- The words of an answer, on each way of the code.
use Prim.Native.Nat.{ℕ}
use mathlib.Core.Path.{◌≡◌, refl, ap, ◌∙◌}
use mathlib.Core.List.{List}
use mathlib.Core.Bool.{Bool}
use borrow.Author.Rules.{rules}
use lib.ListN.{length, get_or}
use Rattle.std.specs.Prelude.{Result}
use Rattle.tables.specs.declared.Triple.{Triple}
use Rattle.tables.specs.Triple.{inside, resolved}
use Rattle.columns.specs.Entries.{Outcome}
use Rattle.columns.specs.Entries as entries-of
use Rattle.answers.specs.Text.{Text, Makes}
use Rattle.answers.proofs.Answers.{makes}
use Rattle.messages.specs.Message.{message_of, warning_message_of}
use Rattle.document.specs.Whole.{Room}
use Rattle.faults.specs.declared.Fault.{Fault}
use Rattle.order.specs.declared.Ordered.{Ordered}
use Rattle.files.specs.Files as files
use Rattle.files.specs.declared.Reading.{Reading}
use Rattle.strict.specs.Strict as strict
use Rattle.items.specs.Several.{several_writing, several_ends, WritesSeveral}
use Rattle.items.specs.Writing.{writing, Writes}
use Rattle.trees.specs.Writing.{tree_writing, WritesTree}
use Rattle.introspection.specs.Words.{verdict_words, answer_words, columns_words, Reads, ReadsStrictly, MakesText, MakesWords, MakesOrder, MakesItems, part_words, lookup_words, told_by, message_by, warning_message_by, order_words}
use Rattle.order.specs.Ordering as ordering
use Rattle.order.specs.Ordering.{OrdersTypes}

module _ {raw rows warnings text decoded ws : List ℕ} {room : Room} {k : ℕ} {r : Reading} where
  pub reads : files.Reads raw room k rows warnings text decoded r → ws ≡ verdict_words r.verdict r.decoded → Reads raw room k rows warnings text decoded ws
  reads s h = record {
    words = h ∙ rw (s.verdict, s.length) refl;
    of_rows = s.of_rows;
    of_warnings = s.of_warnings;
    of_text = s.of_text;
    of_decoded = s.of_decoded;
  }

  pub reads-strictly : strict.ReadsStrictly raw room k rows warnings text decoded r → ws ≡ verdict_words r.verdict r.decoded → ReadsStrictly raw room k rows warnings text decoded ws
  reads-strictly s h = record {
    words = h ∙ rw (s.verdict, s.length) refl;
    of_rows = s.of_rows;
    of_warnings = s.of_warnings;
    of_text = s.of_text;
    of_decoded = s.of_decoded;
  }

-- of a text that was made
module _ {lent out rs : List ℕ} {a : Result ℕ Fault} (h : rs ≡ answer_words a) where
  pub text_made : (t : ℕ → Text) → Makes t lent out a → MakesText t lent out rs
  text_made t s = record { words = h ∙ ap answer_words s.answer; of_output = s.left }

  -- of a row that was written, and of a tree
  pub item_made : {document x ws : List ℕ} {n i : ℕ} → Writes document x ws n i (length lent) out a → MakesText (writing document x ws n i) lent out rs
  item_made {document} {x} {ws} {n} {i} w = text_made (writing document x ws n i) (makes _ w.says)

  pub tree_made : {document x ws : List ℕ} {n i : ℕ} → WritesTree document x ws n i (length lent) out a → MakesText (tree_writing document x ws n i) lent out rs
  tree_made {document} {x} {ws} {n} {i} w = text_made (tree_writing document x ws n i) (makes _ w.says)

  -- of a message
  pub message_made : (document ws : List ℕ) → Makes (message_of document (told_by ws)) lent out a → MakesText (message_by document ws) lent out rs
  unfolding message_by
  message_made document ws s = text_made (message_by document ws) (record { answer = s.answer; left = s.left })

  pub warning_made :
      (document ws : List ℕ) →
      Makes (warning_message_of document (get_or ws 0 0) (get_or ws 2 0) (get_or ws 3 0)) lent out a →
      MakesText (warning_message_by document ws) lent out rs
  unfolding warning_message_by
  warning_made document ws s = text_made (warning_message_by document ws) (record { answer = s.answer; left = s.left })

  -- of several rows
  pub items_made :
      {document x ws is lent_ends ends : List ℕ} {n : ℕ} →
      WritesSeveral document x ws n is (length lent) (length lent_ends) out ends a →
      MakesItems (several_writing document x ws n is) (several_ends document x ws n is) lent lent_ends out ends rs
  items_made w = record { words = h ∙ ap answer_words w.says.answer; of_output = w.says.left; of_ends = w.of_ends }

-- of words that were made
module _ {lent out rs : List ℕ} {a : Result (Unit {0}) Fault} where
  pub words_made : (o : ℕ → Outcome) → rs ≡ columns_words a → entries-of.Makes o lent out a → MakesWords o lent out rs
  words_made o h s = record { words = h ∙ ap columns_words s.answer; of_output = s.left }

-- of definitions that were ordered
pub order_made :
    {document x ws lent work out work' rs : List ℕ} {n : ℕ} {a : Result Ordered Fault} →
    OrdersTypes document x ws n (length lent) work out work' a →
    rs ≡ order_words a →
    MakesOrder (ordering.ordering document x ws n) lent work out work' rs
order_made w h = record { words = h ∙ ap order_words w.says.answer; of_output = w.says.left; of_work = w.idle }

pub lookup-words : (document text : List ℕ) (t : Triple) {p : Triple} {b : Bool} {ws : List ℕ} → ws ≡ part_words b p → b ≡ inside document text t → p ≡ resolved document text t → ws ≡ lookup_words document text t
lookup-words document text t h e f = h ∙ rw (e, f) refl

pub ruleset entries = (reads, reads-strictly, text_made, item_made, tree_made, message_made, warning_made, items_made, words_made, order_made, lookup-words, rules)
