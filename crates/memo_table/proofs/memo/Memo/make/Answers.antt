use Rattle.std.proofs.Common.{rules, ◌≡◌, subst, sym}
use Rattle.dpe_base.specs.Queries.{relations}
use Rattle.memo_table.specs.declared.view.TreeSpace.{TreeSpace}
use Rattle.memo_table.specs.Making.{space_of, HasLeaves}
use Rattle.memo_table.specs.Rule.{IsTreeSpace}
use Rattle.memo_table.proofs.Leaves.{leaves_settled}
use Rattle.memo_table.proofs.memo.Memo.make.Goals as goal

pub opened-requires-clause-space : goal.opened-requires-clause-space
opened-requires-clause-space g c κs within =
    let F : TreeSpace → Type 0 = IsTreeSpace in
    subst F (sym c.in_ok-key.ensures) record { query = c.recall.ensures; pairs = c.requires }

pub returns-clause-bounds : goal.returns-clause-bounds
returns-clause-bounds g c = rw (← c.n.ensures.value) c.offer_leaves.ensures.leaves

pub returns-clause-leaves : goal.returns-clause-leaves
returns-clause-leaves g c =
    let o = c.offer_leaves.ensures in
    let query : c.offer_leaves.new.seat.view.query ≡ c.args.query.now = search rules in
    let pairs : c.offer_leaves.new.seat.view.pairs ≡ g.P.PairStream.left c.args.stream.now = search rules in
    let leaves : HasLeaves (relations c.args.query.now) c.offer_leaves.new.seat.view = rw (← c.n.ensures.value) o.leaves in
    leaves_settled _ (space_of c.args.query.now (g.P.PairStream.left c.args.stream.now)) c.offer_leaves.new.seat.view record { query = c.recall.ensures; pairs = c.requires } query pairs leaves
