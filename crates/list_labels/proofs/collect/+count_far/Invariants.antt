use Rattle.std.proofs.Common.{◌-◌}
use Rattle.list_labels.proofs.collect.+count_far.Given as goal

abbrev pub decreases-count_far : goal.decreases-count_far
decreases-count_far l = l.high - l.low
