use Rattle.dpe_base.proofs.SizeLaws.{size_counts}
use Rattle.dpe_base.proofs.laws.sizes_count_members.Goals as goal

pub returns : goal.returns
returns c = size_counts
