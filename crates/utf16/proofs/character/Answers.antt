-- `utf16::character` meets its contract.
use Rattle.utf16.proofs.Units.{characters}
use Rattle.utf16.proofs.character.Goals.{then-u-gt56319-via-then-u-gt56319, then-u-gt56319-via-else-u-gt56319+then-raw-next, then-v-lt56320-via-then-v-lt56320, then-v-lt56320-via-else-v-lt56320+then-v-gt57343}
use Rattle.utf16.proofs.character.Goals as goal

pub returns-then-u-gt56319 : goal.returns-then-u-gt56319
returns-then-u-gt56319 c = elim c.then-u-gt56319.branch [
  | then-u-gt56319-via-then-u-gt56319 w ↦ search characters
  | then-u-gt56319-via-else-u-gt56319+then-raw-next w ↦ search characters
]

pub returns-then-v-lt56320 : goal.returns-then-v-lt56320
returns-then-v-lt56320 c = elim c.then-v-lt56320.branch [
  | then-v-lt56320-via-then-v-lt56320 w ↦ search characters
  | then-v-lt56320-via-else-v-lt56320+then-v-gt57343 w ↦ search characters
]
