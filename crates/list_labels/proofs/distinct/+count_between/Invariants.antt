use Rattle.std.proofs.Common.{◌-◌}
use Rattle.list_labels.proofs.distinct.+count_between.Given as goal

abbrev pub decreases-count_between : goal.decreases-count_between
decreases-count_between l = l.high - l.low
