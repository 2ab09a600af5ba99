-- `slices::byte` meets its contract.
use Rattle.std.proofs.Common.{refl, arith}
use Rattle.slices.proofs.byte.Goals as goal

pub overflow_cast-result : goal.overflow_cast-result
overflow_cast-result c = omega (arith, c.shared_slice_known-1.given c.args.at)

pub returns : goal.returns
returns c = record { value = refl; small = (c.shared_slice_known-1.given c.args.at).fits; bytes = λ i. (c.shared_slice_known-1.given i).fits }
