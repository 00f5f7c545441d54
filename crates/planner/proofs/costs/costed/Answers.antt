use Rattle.std.proofs.Common.{ℕ, subst, sym, ap, ◌∙◌}
use Rattle.dpe_base.specs.Sets.{full}
use Rattle.join_tree.specs.Trees.{Plan}
use Rattle.join_tree.specs.TreeOf.{tree_of}
use Rattle.join_tree.specs.Words.{HasBestWords}
use Rattle.planner.proofs.BestWords.{least_words_best}
use Rattle.planner.proofs.CostLaws.{costs_are_best}
use Rattle.planner.proofs.costs.costed.Goals as goal

pub build-requires-clause-best : goal.build-requires-clause-best
build-requires-clause-best g c κs within =
    let q = c.args.job.now.query.now in
    let words = c.requires.words in
    subst (λ (s : ℕ). HasBestWords g.M.CostModel.KIND q c.args.words.now s) (sym (c.full-all.ensures ∙ ap full c.n.ensures.value))
    (least_words_best g.M.CostModel.KIND q words.0 c.args.words.now c.n.ensures.valid words.1 words.2)

pub returns : goal.returns
returns g c =
    let q = c.args.job.now.query.now in
    let words = c.requires.words in record {
      plan =
          subst (λ (s : ℕ). Plan g.M.CostModel.KIND q s (tree_of c.in_ok-tree.tree)) (c.full-all.ensures ∙ ap full c.n.ensures.value)
          c.in_ok-tree.ensures;
      costs =
          costs_are_best g.M.CostModel.KIND q words.0 c.args.words.now c.in_ok-costs.costs.items c.n.ensures.valid words.1 words.2
          c.requires.sized
          c.in_ok-costs.ensures;
    }
