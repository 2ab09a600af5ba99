-- `slices::find_near` meets its contract: from where the words end the run goes on as `find` says.
use Rattle.slices.proofs.Skips.{run_join, without_running}
use Rattle.slices.proofs.find_near.Goals as goal

pub returns : goal.returns
returns c = run_join (without_running c.by_words-at.ensures.without) c.find-2.ensures
