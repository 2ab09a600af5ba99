-- What `tags::token` leaves to show.
use borrow.Author.Rules.{rules}
use native.Mathlib.Omega.{arith}
use Rattle.std.proofs.lemmas.Result.{err_from_is_err_and}
use Rattle.tags.proofs.Nexts.{token_fault, token_tag, tag_unended, tag_closes, tag_starts, closing_refused, closing_there}
use Rattle.tags.proofs.token.Goals as goal

pub returns-in_err-at : goal.returns-in_err-at
returns-in_err-at c =
    let p = err_from_is_err_and c.from_residual.result c.from_residual.ensures.1 in
    rw p.1 (token_fault c.ignorable.ensures c.in_err-at.was p.2)

pub returns-then-doc-next : goal.returns-then-doc-next
returns-then-doc-next c = token_tag c.ignorable.ensures c.in_ok-at.was (omega arith) (search (tag_unended, rules))

pub returns-in_err-closing_tag : goal.returns-in_err-closing_tag
returns-in_err-closing_tag c =
    let p = err_from_is_err_and c.from_residual-in_err-closing_tag.result c.from_residual-in_err-closing_tag.ensures.1 in
    rw (p.1, p.2) (token_tag c.ignorable.ensures c.in_ok-at.was (omega arith) (tag_closes c.args.doc.now _ (omega arith) c.if-doc-next-eq47.true (closing_refused c.closing_tag.ensures (c.in_err-closing_tag.was {u = tt}))))

pub returns-then-doc-next-eq47 : goal.returns-then-doc-next-eq47
returns-then-doc-next-eq47 c = token_tag c.ignorable.ensures c.in_ok-at.was (omega arith) (tag_closes c.args.doc.now _ (omega arith) c.if-doc-next-eq47.true (closing_there c.closing_tag.ensures (c.in_ok-closing_tag.was {u = tt})))

pub returns : goal.returns
returns c = token_tag c.ignorable.ensures c.in_ok-at.was (omega arith) (search (tag_starts c.args.doc.now _ (omega arith) c.if-doc-next-eq47.false c.start_tag.ensures, rules))
