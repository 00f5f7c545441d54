use Rattle.std.proofs.Common.{◌≡◌, ℕ, ◌<◌, subst}
use Rattle.dpe_base.specs.Sets.{single}
use Rattle.join_tree.specs.TreeOf.{tree_of}
use Rattle.cert_check.specs.Certificates.{bound_of}
use Rattle.cert_check.proofs.CertificateParts.{by_pairs}
use Rattle.cert_check.proofs.check.certifies.Goals as goal

pub returns-then-relations_free : goal.returns-then-relations_free
returns-then-relations_free g c =
    by_pairs g.M.CostModel.KIND c.args.query.now (tree_of c.args.tree.now) c.args.bounds.now c.pairs_bounded.result c.requires.sized
    (c.tree_bounded.ensures.0 c.if-not-tree_bounded.false)
    (subst (λ (n : ℕ). (r : ℕ) → r < n → bound_of c.args.bounds.now (single r) ≡ 0) c.n-n.ensures.value (c.relations_free.ensures.0 c.if-relations_free.true))
    c.pairs_bounded.ensures
