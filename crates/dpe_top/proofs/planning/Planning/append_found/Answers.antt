use Rattle.dpe_top.specs.Classes.{class_of}
use Rattle.dpe_top.proofs.Plans.{plan_below}
use Rattle.dpe_top.proofs.planning.Planning.append_found.Goals as goal

pub planned-requires-clause-word : goal.planned-requires-clause-word
planned-requires-clause-word g c κs within =
    plan_below (class_of c.args.self.now.mode) g.M.CostModel.KIND c.args.named.now.query _ _ c.requires.sound.valid c.requires.found.1.plan
