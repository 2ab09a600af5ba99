-- What `attributes::quoted_value` leaves to show.
use native.Mathlib.Omega.{arith}
use Rattle.attributes.proofs.Found.{value_found}
use Rattle.attributes.proofs.quoted_value.Goals as goal

pub returns-then-is_quote : goal.returns-then-is_quote
returns-then-is_quote c = value_found c.requires (omega arith) c.is_quote.ensures c.if-is_quote.true (c.in_ok-v.ensures {u = tt}).some
