-- `profile::character_at` meets its contract.
use Rattle.profile.proofs.Points.{points}
use Rattle.profile.proofs.character_at.Goals as goal

pub returns-then-a-lt128 : goal.returns-then-a-lt128
returns-then-a-lt128 c = search points

pub returns-then-a-lt224 : goal.returns-then-a-lt224
returns-then-a-lt224 c = search points

pub returns-then-a-lt240 : goal.returns-then-a-lt240
returns-then-a-lt240 c = search points

pub returns : goal.returns
returns c = search points
