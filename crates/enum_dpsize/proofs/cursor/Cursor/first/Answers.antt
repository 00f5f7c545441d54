use Rattle.std.proofs.Common.{◌≡◌, arith, sym, refl, ◌∙◌}
use Rattle.enum_dpsize.proofs.PartLists.{first_part_length}
use Rattle.enum_dpsize.proofs.DpsizeSteps.{left_start, left_start_one}
use Rattle.enum_dpsize.proofs.ProbeSteps.{probes_start, probes_start_one}
use Rattle.enum_dpsize.proofs.cursor.Cursor.first.Goals as goal

pub returns-then-n-eq1-clause-fits : goal.returns-then-n-eq1-clause-fits
returns-then-n-eq1-clause-fits c =
    let ok = c.n-n.ensures.valid in
    record { graph = ok; small = omega arith; half = omega arith; known = omega (arith, ok.some); fits = omega (arith, ok.some); row_known = omega (arith, first_part_length c.args.graph.now ok, ok.some) }

pub returns-then-n-eq1-clause-left : goal.returns-then-n-eq1-clause-left
returns-then-n-eq1-clause-left c =
    let one : c.args.graph.now.n ≡ 1 = sym c.n-n.ensures.value ∙ c.if-n-eq1.true in
    left_start_one c.args.graph.now 1 1 one (omega (arith, one, first_part_length c.args.graph.now c.n-n.ensures.valid))

pub returns-then-n-eq1-clause-probes : goal.returns-then-n-eq1-clause-probes
returns-then-n-eq1-clause-probes c =
    let one : c.args.graph.now.n ≡ 1 = sym c.n-n.ensures.value ∙ c.if-n-eq1.true in
    probes_start_one c.args.graph.now 1 1 one (omega (arith, one, first_part_length c.args.graph.now c.n-n.ensures.valid))

pub returns-clause-left : goal.returns-clause-left
returns-clause-left c = left_start c.args.graph.now 1 (omega (arith, c.n-n.ensures.valid.some, c.n-n.ensures.value, c.if-n-eq1.false)) refl

pub returns-clause-probes : goal.returns-clause-probes
returns-clause-probes c = probes_start c.args.graph.now 1 (omega (arith, c.n-n.ensures.valid.some, c.n-n.ensures.value, c.if-n-eq1.false)) refl
