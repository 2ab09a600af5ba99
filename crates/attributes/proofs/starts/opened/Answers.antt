-- `attributes::starts::opened` meets its contract.
use borrow.Author.Rules.{rules}
use native.Mathlib.Omega.{arith}
use Rattle.attributes.proofs.Starting.{start_unnamed, start_ended, start_unequal, start_cut, start_unquoted, start_opens}
use Rattle.attributes.proofs.starts.opened.Goals as goal
use Rattle.attributes.proofs.starts.opened.Goals.{then-doc-equals-via-then-doc-equals, then-doc-equals-via-else-doc-equals+then-doc-equals-ne61}

pub returns-then-end-name-clause-none : goal.returns-then-end-name-clause-none
returns-then-end-name-clause-none c = search (start_unnamed c.space_end-name.ensures (omega arith) c.name_at-scanned.ensures.run, rules)

pub returns-then-doc-equals-clause-none : goal.returns-then-doc-equals-clause-none
returns-then-doc-equals-clause-none c = elim c.then-doc-equals.branch [
  | then-doc-equals-via-then-doc-equals w ↦ start_ended c.space_end-name.ensures (omega arith) c.name_at-scanned.ensures.run (omega arith) c.space_end-equals.ensures w.if-doc-equals.true
  | then-doc-equals-via-else-doc-equals+then-doc-equals-ne61 w ↦ start_unequal c.space_end-name.ensures (omega arith) c.name_at-scanned.ensures.run (omega arith) c.space_end-equals.ensures (omega (arith, w.if-doc-equals.false)) w.if-doc-equals-ne61.true
]

pub returns-then-doc-at-clause-none : goal.returns-then-doc-at-clause-none
returns-then-doc-at-clause-none c = start_cut c.space_end-name.ensures (omega arith) c.name_at-scanned.ensures.run (omega arith) c.space_end-equals.ensures (omega arith) (search rules) c.space_end-at.ensures c.if-doc-at.true

pub returns-then-is_quote-clause-some : goal.returns-then-is_quote-clause-some
returns-then-is_quote-clause-some c = start_opens c.space_end-name.ensures (omega arith) c.name_at-scanned.ensures.run (omega arith) c.space_end-equals.ensures (omega arith) (search rules) c.space_end-at.ensures (omega arith) c.is_quote.ensures c.if-is_quote.true c.class_at.ensures

pub returns-clause-none : goal.returns-clause-none
returns-clause-none c = start_unquoted c.space_end-name.ensures (omega arith) c.name_at-scanned.ensures.run (omega arith) c.space_end-equals.ensures (omega arith) (search rules) c.space_end-at.ensures (omega arith) c.is_quote.ensures c.if-is_quote.false
