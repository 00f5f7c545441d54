use Rattle.std.proofs.Common.{◌≡◌, ◌<◌, min, arith, ◌∙◌, ap}
use Rattle.cost_model.proofs.SplitLaws.{cout_split}
use Rattle.cost_model.proofs.split.best_split.Goals as goal

pub returns-else-KIND-eq-OPS : goal.returns-else-KIND-eq-OPS
returns-else-KIND-eq-OPS g c =
    let other : 0 < g.M.CostModel.KIND = omega (arith, c.KIND.ensures, c.if-KIND-eq-OPS.false) in
    let least : c.min.result ≡ min c.args.pair.a c.args.pair.b =
    c.min.ensures ∙ ap (λ x. min x c.bits-b.result) c.bits-a.ensures ∙ ap (min c.args.pair.a) c.bits-b.ensures in
    rw c.word_of.ensures
    (rw least (cout_split g.M.CostModel.KIND c.args.pair.a c.args.pair.b c.args.wa c.args.wb c.args.la c.args.lb c.args.o other c.requires.sets.0 c.requires.sets.1))
