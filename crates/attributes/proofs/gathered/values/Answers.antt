-- What `attributes::gathered::values` leaves to show.
use Rattle.attributes.proofs.First.{all_values}
use Rattle.attributes.proofs.gathered.values.Goals as goal

pub returns : goal.returns
returns c =
    all_values
    c.first_named.ensures
    c.first_named-2.ensures
    c.first_named-3.ensures
    c.first_named-4.ensures
    c.first_named-5.ensures
    c.first_named-6.ensures
    c.first_named-7.ensures
