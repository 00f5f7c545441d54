use Rattle.std.proofs.Common.{append_assoc, ◌∙◌}
use Rattle.dpe_top.specs.Modes.Sample.{summary_line}
use Rattle.dpe_top.proofs.modes.sample.line_of.Goals as goal

pub returns : goal.returns
unfolding summary_line
returns c = c.in_ok-writeln.ensures.bytes ∙ rw (c.new-line.ensures.bytes) (simp append_assoc)
