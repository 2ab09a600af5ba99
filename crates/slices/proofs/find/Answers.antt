-- `slices::find` meets its contract: the run from where the words end is what is left of the run asked for.
use Rattle.std.proofs.Common.{rules}
use Rattle.slices.specs.Bytes.{other}
use Rattle.slices.proofs.Skips.{run_join, sought_running}
use Rattle.slices.proofs.find.Goals as goal

pub returns : goal.returns
returns c = run_join (sought_running c.past_blocks-start.ensures c.by_words-near.ensures) (c.run_end.ensures (other c.args.b) (λ x r h e. search rules))
