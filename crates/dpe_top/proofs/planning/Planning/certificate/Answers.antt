use Rattle.std.proofs.Common.{ℕ, List, sym, subst}
use Rattle.join_tree.specs.TreeOf.{tree_of}
use Rattle.dpe_top.specs.Modes.Certify.{Certifies}
use Rattle.dpe_top.proofs.Certifying.{costs_certify}
use Rattle.dpe_top.proofs.planning.Planning.certificate.Goals as goal

pub returns : goal.returns
returns g c =
    subst (λ (bs : List ℕ). Certifies g.M.CostModel.KIND c.args.query.now (record { tree = tree_of c.in_ok-found.found.tree; bounds = bs }))
    (sym c.from_vec-bounds.ensures)
    (costs_certify g.M.CostModel.KIND c.args.query.now c.in_ok-found.found c.recall.ensures c.in_ok-found.ensures)
