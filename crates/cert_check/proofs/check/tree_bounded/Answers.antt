use Rattle.std.proofs.Common.{◌∙◌, ap, sym, arith}
use Rattle.std.proofs.lemmas.Bool.{iff_false, false≢true}
use Rattle.dpe_base.specs.Queries.{relations}
use Rattle.dpe_base.specs.Sets.{full}
use Rattle.join_graph.specs.Graphs.{graph_of}
use Rattle.dpe_base.proofs.SizeLaws.{full_below}
use Rattle.join_tree.specs.TreeOf.{tree_of}
use Rattle.join_tree.proofs.TreeLaws.{legal_leaves}
use Rattle.cert_check.proofs.CertificateParts.{bounded_by_test}
use Rattle.cert_check.proofs.check.tree_bounded.Goals as goal

pub returns-then-not-legal : goal.returns-then-not-legal
returns-then-not-legal g c =
    (λ t. absurd (false≢true t), λ h. absurd (iff_false (rw c.of-graph.ensures at c.legal.ensures) c.if-not-legal.true h.0))

pub set-requires : goal.set-requires
set-requires g c =
    legal_leaves g.M.CostModel.KIND 32 (graph_of c.args.query.now) (tree_of c.args.tree.now) (omega (arith, c.n-n.ensures.valid.few))
    ((rw c.of-graph.ensures at c.legal.ensures).0 c.if-not-legal.false)

pub returns-then-bits : goal.returns-then-bits
returns-then-bits g c = (
  λ t. absurd (false≢true t),
  λ h. absurd (c.if-bits.true (c.bits.ensures ∙ (c.set.ensures ∙ (h.1 ∙ sym (c.bits-2.ensures ∙ (c.full-all.ensures ∙ ap full c.n-n.ensures.value)))))),
)

pub bounds-bounds-bits : goal.bounds-bounds-bits
bounds-bounds-bits g c =
    omega (arith, c.bits-3.ensures ∙ (c.full-all.ensures ∙ ap full c.n-n.ensures.value), full_below (full (relations c.args.query.now)) (relations c.args.query.now) (λ r h. h))

pub returns : goal.returns
returns g c =
    bounded_by_test g.M.CostModel.KIND c.args.query.now (tree_of c.args.tree.now) c.args.bounds.now c.cost.result c.bits-3.result
    ((rw c.of-graph.ensures at c.legal.ensures).0 c.if-not-legal.false)
    (sym c.set.ensures ∙ (sym c.bits.ensures ∙ (c.if-bits.false ∙ (c.bits-2.ensures ∙ (c.full-all.ensures ∙ ap full c.n-n.ensures.value)))))
    c.cost.ensures (c.bits-3.ensures ∙ (c.full-all.ensures ∙ ap full c.n-n.ensures.value))
