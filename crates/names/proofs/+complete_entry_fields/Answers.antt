-- What the cycle of calls of `complete`, `entry` and `fields` leaves to show: the laws of each function's ways.
use Rattle.std.proofs.Common.{arith, rules}
use Rattle.names.proofs.Checks.{types, entries, value_none, brace_end, brace_none, brace_close, field_more}
use Rattle.names.proofs.+complete_entry_fields.Goals as goal

pub complete-returns-then-parens-ge32 : goal.complete-returns-then-parens-ge32
complete-returns-then-parens-ge32 t c = search types

pub complete-returns-then-b-eq40 : goal.complete-returns-then-b-eq40
complete-returns-then-b-eq40 t c = search types

pub complete-returns-then-b-ne97 : goal.complete-returns-then-b-ne97
complete-returns-then-b-ne97 t c = search types

pub complete-returns : goal.complete-returns
complete-returns t c = search types

pub entry-returns-then-not-basic : goal.entry-returns-then-not-basic
entry-returns-then-not-basic t c = search entries

pub entry-returns-in_err-e : goal.entry-returns-in_err-e
entry-returns-in_err-e t c = value_none (omega arith) (search entries) c.complete.ensures c.in_err-e.was (grind (arith, rules))

pub entry-returns-then-s-e : goal.entry-returns-then-s-e
entry-returns-then-s-e t c = brace_end (omega arith) (search entries) c.complete.ensures c.in_ok-e.was (omega arith)

pub entry-returns-then-s-e-ne125 : goal.entry-returns-then-s-e-ne125
entry-returns-then-s-e-ne125 t c = brace_none (omega arith) (search entries) c.complete.ensures c.in_ok-e.was (omega arith) (search rules)

pub entry-returns : goal.entry-returns
entry-returns t c = brace_close (omega arith) (search entries) c.complete.ensures c.in_ok-e.was (omega arith) (search rules)

pub fields-returns : goal.fields-returns
fields-returns t c = field_more c.complete.ensures c.in_ok-e.was (omega arith) (search rules) c.fields.ensures
