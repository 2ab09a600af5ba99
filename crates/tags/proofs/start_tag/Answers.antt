-- What `tags::start_tag` leaves to show.
use Rattle.std.proofs.lemmas.Result.{err_from_is_err_and}
use Rattle.tags.proofs.Startings.{good_before, start_unended, starts}
use Rattle.tags.proofs.start_tag.Goals as goal

pub returns-in_err-end : goal.returns-in_err-end
returns-in_err-end c =
    let p = err_from_is_err_and c.from_residual-in_err-end.result c.from_residual-in_err-end.ensures.1 in
    rw p.1 (start_unended c.args.lt c.name_at-name.ensures.run c.if-named-at.false c.attributes.ensures (good_before _ c.map_err.ensures.cases c.map_err.ensures.variant c.in_ok-gathered.was) c.tag_end.ensures (c.in_err-end.was {u = tt}) p.2)

pub returns : goal.returns
returns c = starts c.args.lt c.name_at-name.ensures.run c.if-named-at.false c.attributes.ensures (good_before _ c.map_err.ensures.cases c.map_err.ensures.variant c.in_ok-gathered.was) c.tag_end.ensures (c.in_ok-end.was {u = tt}) c.kind_at-kind.ensures
