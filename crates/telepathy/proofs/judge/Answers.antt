-- `telepathy::judge` meets its contract.
use Rattle.telepathy.proofs.Judgement.{judgements}
use Rattle.telepathy.proofs.judge.Goals as goal

pub returns-then-why-eq0 : goal.returns-then-why-eq0
returns-then-why-eq0 c = search judgements

pub returns : goal.returns
returns c = search judgements
