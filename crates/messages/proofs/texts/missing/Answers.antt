-- `messages::texts::missing` meets its contract. Each text is computed.
use Rattle.std.proofs.Common.{rules, refl}
use Rattle.messages.proofs.Numbers.{missing_by}
use Rattle.messages.proofs.texts.missing.Goals as goal

pub returns-in-1-clause-some : goal.returns-in-1-clause-some
returns-in-1-clause-some c = missing_by 1 (search rules) refl refl (search rules)

pub returns-in-2-clause-some : goal.returns-in-2-clause-some
returns-in-2-clause-some c = missing_by 2 (search rules) refl refl (search rules)

pub returns-in-3-clause-some : goal.returns-in-3-clause-some
returns-in-3-clause-some c = missing_by 3 (search rules) refl refl (search rules)

pub returns-in-4-clause-some : goal.returns-in-4-clause-some
returns-in-4-clause-some c = missing_by 4 (search rules) refl refl (search rules)
