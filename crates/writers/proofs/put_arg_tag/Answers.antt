-- `writers::put_arg_tag` meets its contract.
use Rattle.writers.proofs.Texts.{tags}
use Rattle.writers.proofs.put_arg_tag.Goals as goal

pub returns : goal.returns
returns c = search tags
