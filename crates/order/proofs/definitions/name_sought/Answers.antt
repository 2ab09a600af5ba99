-- `order::definitions::name_sought` meets its contract.
use Rattle.order.proofs.Finding.{tps, tp_some, tp_some_none}
use Rattle.order.proofs.definitions.name_sought.Goals as goal

pub returns-then-is_absent-clause-none : goal.returns-then-is_absent-clause-none
returns-then-is_absent-clause-none c = search tps

pub returns-then-less-clause-some : goal.returns-then-less-clause-some
returns-then-less-clause-some c =
    tp_some c.args.table.now.document.now c.args.table.now.text.now c.triple-tp.ensures c.is_absent.ensures c.if-is_absent.false c.lookup-name.ensures.bytes c.before_brackets.result c.if-less.true c.before_brackets.ensures.some

pub returns-then-less-clause-none : goal.returns-then-less-clause-none
returns-then-less-clause-none c =
    tp_some_none c.args.table.now.document.now c.args.table.now.text.now c.triple-tp.ensures c.is_absent.ensures c.if-is_absent.false c.lookup-name.ensures.bytes c.before_brackets.result c.if-less.true c.before_brackets.ensures.none

pub returns-else-less-clause-some : goal.returns-else-less-clause-some
returns-else-less-clause-some c = search tps
