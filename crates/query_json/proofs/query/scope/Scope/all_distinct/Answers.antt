use Rattle.std.proofs.Common.{◌≡◌, Ok, arith}
use Rattle.query_json.specs.Queries.{each_of, ends_of}
use Rattle.query_json.proofs.Passes.{each_or, length-all_of}
use Rattle.query_json.proofs.query.scope.Scope.all_distinct.Goals as goal

pub bounds-ends-at : goal.bounds-ends-at
bounds-ends-at c =
    let same : c.as_slice-joins.result.now ≡ c.args.self.now.item.joins = rw (← c.self.view_is) c.as_slice-joins.ensures in
    let e : each_of (ends_of c.args.self.now.item.relations) c.as_slice-joins.result.now ≡ Ok c.args.ends.now = rw same c.requires in
    omega (arith, length-all_of (λ at. ends_of c.args.self.now.item.relations) 0 c.as_slice-joins.result.now c.args.ends.now e, c.loop-at-test.true)

pub most_distinct-requires : goal.most_distinct-requires
most_distinct-requires c =
    let same : c.as_slice-joins.result.now ≡ c.args.self.now.item.joins = rw (← c.self.view_is) c.as_slice-joins.ensures in
    let e : each_of (ends_of c.args.self.now.item.relations) c.as_slice-joins.result.now ≡ Ok c.args.ends.now = rw same c.requires in
    each_or (ends_of c.args.self.now.item.relations) c.as_slice-joins.result.now c.args.ends.now c.loop-at.at c.index-joins-at.result _ e c.loop-at-test.true c.index-joins-at.is
