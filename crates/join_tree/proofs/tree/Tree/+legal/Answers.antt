use Rattle.std.proofs.Common.{◌≡◌, ◌<◌, ◌↔◌, IsTrue, ◌∙◌, sym, ap, subst, arith}
use Rattle.join_tree.specs.TreeOf.{tree_of}
use Rattle.std.proofs.lemmas.Bool.{iff_false}
use Rattle.dpe_base.specs.Sets.{Within, Disjoint, full}
use Rattle.cost_model.specs.Costs.{operators}
use Rattle.join_tree.specs.Trees.{LeavesBelow, Legal, set_of}
use Rattle.join_tree.proofs.TreeLaws.{legal_connected, legal_leaves}
use Rattle.join_tree.proofs.tree.Tree.+legal.Goals as goal

pub set-l-requires : goal.set-l-requires
set-l-requires g t c =
    subst (λ x. LeavesBelow 32 (tree_of x)) (c.deref.ensures ∙ sym c.deref-in-Join.ensures)
    (legal_leaves g.M.CostModel.KIND 32 c.args.graph.now (tree_of c.deref.result.now) (omega (arith, c.n-n.ensures.valid.few)) (c.legal.ensures.0 c.if-not-legal.false))

pub set-r-requires : goal.set-r-requires
set-r-requires g t c =
    subst (λ x. LeavesBelow 32 (tree_of x)) (c.deref-else-not-legal.ensures ∙ sym c.deref-in-Join-2.ensures)
    (legal_leaves g.M.CostModel.KIND 32 c.args.graph.now (tree_of c.deref-else-not-legal.result.now) (omega (arith, c.n-n.ensures.valid.few)) (c.legal-else-not-legal.ensures.0 c.if-not-legal-2.false))

pub joined-requires-clause-a_in : goal.joined-requires-clause-a_in
joined-requires-clause-a_in g t c =
    subst (λ s. Within s (full c.args.graph.now.n)) (ap (λ x. set_of (tree_of x)) (c.deref.ensures ∙ sym c.deref-in-Join.ensures) ∙ sym c.set-l.ensures)
    (legal_connected g.M.CostModel.KIND c.args.graph.now (tree_of c.deref.result.now) (c.legal.ensures.0 c.if-not-legal.false)).within

pub joined-requires-clause-b_in : goal.joined-requires-clause-b_in
joined-requires-clause-b_in g t c =
    subst (λ s. Within s (full c.args.graph.now.n)) (ap (λ x. set_of (tree_of x)) (c.deref-else-not-legal.ensures ∙ sym c.deref-in-Join-2.ensures) ∙ sym c.set-r.ensures)
    (legal_connected g.M.CostModel.KIND c.args.graph.now (tree_of c.deref-else-not-legal.result.now) (c.legal-else-not-legal.ensures.0 c.if-not-legal-2.false)).within

pub returns-then-not-meets : goal.returns-then-not-meets
returns-then-not-meets g t c =
    let left : c.in-Join.left.value ≡ c.deref-in-Join.result.now = sym c.deref-in-Join.ensures in
    let right : c.in-Join.right.value ≡ c.deref-in-Join-2.result.now = sym c.deref-in-Join-2.ensures in
    let left_set : set_of (tree_of c.in-Join.left.value) ≡ c.set-l.result = ap (λ x. set_of (tree_of x)) left ∙ sym c.set-l.ensures in
    let right_set : set_of (tree_of c.in-Join.right.value) ≡ c.set-r.result = ap (λ x. set_of (tree_of x)) right ∙ sym c.set-r.ensures in
    let laws = g.met.M.CostModel g.world.𝓛 g.world.𝓜 g.world.𝓡 ((λ s x. x), (λ x. x), (λ x. x), λ x. x) in
    let op_known : c.in-Join.op < operators g.M.CostModel.KIND = omega (arith, laws.kind.1) in
    let left_legal : Legal g.M.CostModel.KIND c.args.graph.now (tree_of c.in-Join.left.value) =
    subst (λ x. Legal g.M.CostModel.KIND c.args.graph.now (tree_of x)) c.deref.ensures (c.legal.ensures.0 c.if-not-legal.false) in
    let right_legal : Legal g.M.CostModel.KIND c.args.graph.now (tree_of c.in-Join.right.value) =
    subst (λ x. Legal g.M.CostModel.KIND c.args.graph.now (tree_of x)) c.deref-else-not-legal.ensures (c.legal-else-not-legal.ensures.0 c.if-not-legal-2.false) in
    let apart : Disjoint c.set-l.result c.set-r.result = λ r x y. iff_false c.meets.ensures c.if-not-meets.true (r, x, y) in
    subst (λ x. IsTrue c.joined.result ↔ Legal g.M.CostModel.KIND c.args.graph.now x) (sym (ap tree_of c.in-Join.is)) (
      λ j. (op_known, left_legal, right_legal, rw (left_set, right_set) apart, rw (left_set, right_set) (c.joined.ensures.0 j)),
      λ l. c.joined.ensures.1 (rw (← left_set, ← right_set) l.4),
    )
