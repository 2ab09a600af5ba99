-- `messages::texts::told` meets its contract.
use Rattle.std.proofs.Common.{rules, refl}
use Rattle.messages.specs.Message.{excerpt_of, unescaped_of, framed}
use Rattle.messages.proofs.Numbers.{turned_framed}
use Rattle.messages.proofs.texts.told.Goals as goal

pub returns-in-5 : goal.returns-in-5
unfolding framed
returns-in-5 c = turned_framed 5 (excerpt_of c.args.document.bytes.now c.args.told.first) (search rules) c.new.ensures.before c.new.ensures.after refl (search rules)

pub returns-in-8 : goal.returns-in-8
unfolding framed
returns-in-8 c = turned_framed 8 (excerpt_of c.args.document.bytes.now c.args.told.first) (search rules) c.new-in-8.ensures.before c.new-in-8.ensures.after refl (search rules)

pub returns-in-10 : goal.returns-in-10
unfolding framed
returns-in-10 c = turned_framed 10 (excerpt_of c.args.document.bytes.now c.args.told.first) (search rules) c.new-in-10.ensures.before c.new-in-10.ensures.after refl (search rules)

pub returns-in-11 : goal.returns-in-11
unfolding framed
returns-in-11 c = turned_framed 11 (excerpt_of c.args.document.bytes.now c.args.told.first) (search rules) c.new-in-11.ensures.before c.new-in-11.ensures.after refl (search rules)

pub returns-in-15 : goal.returns-in-15
unfolding framed
returns-in-15 c = turned_framed 15 (unescaped_of (excerpt_of c.args.document.bytes.now c.args.told.first)) (search rules) c.new-in-15.ensures.before c.new-in-15.ensures.after refl (search rules)

pub returns-in-16 : goal.returns-in-16
unfolding framed
returns-in-16 c = turned_framed 16 (unescaped_of (excerpt_of c.args.document.bytes.now c.args.told.first)) (search rules) c.new-in-16.ensures.before c.new-in-16.ensures.after refl (search rules)
