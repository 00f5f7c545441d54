use Rattle.join_tree.specs.TreeOf.{tree_of}
use Rattle.cert_check.proofs.CertificateLaws.{certificates_convince, plans_are_certified}
use Rattle.cert_check.proofs.check.check_cert.Goals as goal

pub returns-clause-optimal : goal.returns-clause-optimal
returns-clause-optimal g c =
    λ yes. certificates_convince g.M.CostModel.KIND c.args.query.now (tree_of c.args.tree.now) c.args.bounds.now c.n-n.ensures.valid (c.certifies.ensures.0 yes)

pub returns-clause-plan : goal.returns-clause-plan
returns-clause-plan g c =
    λ least plan. c.certifies.ensures.1 (plans_are_certified g.M.CostModel.KIND c.args.query.now (tree_of c.args.tree.now) c.args.bounds.now c.n-n.ensures.valid least plan)
