use Rattle.entries_sizes.specs.Sizes.{larger}
use Rattle.entries_sizes.proofs.+verdict_from.Given as goal

abbrev pub decreases-verdict_from : goal.decreases-verdict_from
decreases-verdict_from l = larger l.size
