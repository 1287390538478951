use Rattle.lists.proofs.Writes.{◌then◌}
use Rattle.lists.specs.Text.{text}
use Rattle.spec_listing.specs.Module.{banner}
use Rattle.list_module.specs.Titles.{name_text}
use Rattle.list_module.proofs.banner.put_banner.Goals as goal

pub returns : goal.returns
unfolding banner name_text text
returns c = c.put_bytes-a.ensures then c.put_decimal-b.ensures then c.put_name-c.ensures then c.put_bytes.ensures
