use Rattle.std.proofs.Common.{ℕ, ◌∙◌, ap, subst}
use Rattle.std.specs.Prelude.{IfOk}
use Rattle.dpe_base.specs.Queries.{relations}
use Rattle.dpe_base.specs.Sets.{full}
use Rattle.join_tree.specs.Trees.{Plan}
use Rattle.join_tree.specs.TreeOf.{tree_of}
use Rattle.reopt.specs.Keeping.{KeptWords}
use Rattle.reopt.proofs.FromScratch.{kept_best}
use Rattle.reopt.proofs.kept.Kept.plan.Goals as goal

pub build-requires-clause-sized : goal.build-requires-clause-sized
build-requires-clause-sized g c = λ κs within.
    (kept_best g.M.CostModel.KIND c.self.inside.query c.self.inside.words.row _ _ c.full-all.result c.self.invariant c.row.ensures c.n.ensures.value c.full-all.ensures).0

pub build-requires-clause-connected : goal.build-requires-clause-connected
build-requires-clause-connected g c = λ κs within.
    (kept_best g.M.CostModel.KIND c.self.inside.query c.self.inside.words.row _ _ c.full-all.result c.self.invariant c.row.ensures c.n.ensures.value c.full-all.ensures).1

pub build-requires-clause-best : goal.build-requires-clause-best
build-requires-clause-best g c = λ κs within.
    (kept_best g.M.CostModel.KIND c.self.inside.query c.self.inside.words.row _ _ c.full-all.result c.self.invariant c.row.ensures c.n.ensures.value c.full-all.ensures).2

pub returns : goal.returns
returns g c =
    let F : KeptWords → Type 0 = λ k. IfOk c.build.result (λ t. Plan g.M.CostModel.KIND k.query (full (relations k.query)) (tree_of t)) in
    let G : ℕ → Type 0 = λ s. IfOk c.build.result (λ t. Plan g.M.CostModel.KIND c.self.inside.query s (tree_of t)) in
    subst F c.self.view_is (subst G (c.full-all.ensures ∙ ap full c.n.ensures.value) c.build.ensures)
