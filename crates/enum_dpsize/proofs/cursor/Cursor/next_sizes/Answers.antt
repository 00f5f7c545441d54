use Rattle.std.proofs.Common.{arith}
use Rattle.enum_dpsize.proofs.DpsizeSteps.{end_here, step_sizes}
use Rattle.enum_dpsize.proofs.ProbeSteps.{probes_end_here, probes_next}
use Rattle.enum_dpsize.proofs.cursor.Cursor.next_sizes.Goals as goal

pub returns-in-None-clause-end : goal.returns-in-None-clause-end
returns-in-None-clause-end c =
    λ _. (
      end_here c.args.graph.now c.args.self.now c.requires.over c.in-None.ensures.0 (omega (arith, c.in-None.ensures.1, c.n-n.ensures.value)),
      probes_end_here c.args.graph.now c.args.self.now c.requires.over c.in-None.ensures.0 (omega (arith, c.in-None.ensures.1, c.n-n.ensures.value)),
    )

pub returns-in-Some-clause-left : goal.returns-in-Some-clause-left
returns-in-Some-clause-left c =
    step_sizes c.args.graph.now c.args.self.now c.requires.over c.n-n.result c.in-Some.size c.in-Some.small c.start_at-self.result
    c.n-n.ensures.value c.requires.fits.small c.requires.fits.half c.in-Some.ensures c.start_at-self.ensures

pub returns-in-Some-clause-probes : goal.returns-in-Some-clause-probes
returns-in-Some-clause-probes c =
    probes_next c.args.graph.now c.args.self.now c.requires.over c.n-n.result c.in-Some.size c.in-Some.small c.start_at-self.result
    c.n-n.ensures.value c.requires.fits.small c.requires.fits.half c.in-Some.ensures c.start_at-self.ensures
