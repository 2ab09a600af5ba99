-- What `attributes::gathered::judge` leaves to show.
use Rattle.std.proofs.Common.{◌≡◌, false, take, get_or, subst}
use Rattle.std.proofs.lemmas.List.{get_or_default}
use Rattle.document.specs.declared.Form.{Form}
use Rattle.attributes.specs.declared.Attribute.{Attribute}
use Rattle.attributes.specs.One.{attr_of}
use Rattle.attributes.specs.Lookup.{blank, name_is, keyed, Picks}
use Rattle.attributes.specs.Outcome.{among, Weighs}
use Rattle.attributes.proofs.Checking.{judge_is}
use Rattle.attributes.proofs.gathered.judge.Goals as goal

-- what a read past the end would give
abbrev none_read : Attribute
none_read = record { name = 0; name_len = 0; value = 0; value_len = 0; form = Form.Absent; tp = false; twin = false }

pub returns : goal.returns
returns c =
    let e : get_or c.args.attrs.now c.args.i none_read ≡ get_or c.args.attrs.now c.args.i blank = get_or_default c.args.attrs.now c.args.i none_read blank c.requires.held in
    judge_is c.requires.held c.requires.checkable
    (subst (λ (a : Attribute). c.until-m.result ≡ among a.twin c.args.i) e c.until-m.ensures)
    (subst (λ (a : Attribute). Picks (name_is (keyed (attr_of c.args.doc.now a).name) c.args.doc.now) (take c.until-m.result c.args.attrs.now) c.first_named-before.result) e (rw c.name_of.ensures at c.first_named-before.ensures))
    (subst (λ (a : Attribute). Weighs c.args.doc.now a c.first_named-before.result c.weigh.result) e c.weigh.ensures)
