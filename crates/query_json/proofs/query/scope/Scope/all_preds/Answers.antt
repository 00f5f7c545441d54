use Rattle.std.proofs.Common.{◌≡◌, ◌≤◌, Ok, length, arith, refl, rules}
use Rattle.dpe_base.specs.declared.TheConstants.{N_MAX}
use Rattle.query_json.specs.Answer.{Stops}
use Rattle.query_json.specs.Queries.{all_of, each_of, ends_of, most_distinct, pred_of}
use Rattle.query_json.proofs.Passes.{each_or, found_more, length-all_of, stops_at}
use Rattle.query_json.proofs.ScopeLaws.{alias_known, are_ends, pred_known}
use Rattle.query_json.proofs.query.scope.Scope.all_preds.Goals as goal

pub bounds-ends-at : goal.bounds-ends-at
bounds-ends-at c =
    let same : c.as_slice-joins.result.now ≡ c.args.self.now.item.joins = rw (← c.self.view_is) c.as_slice-joins.ensures in
    let e : each_of (ends_of c.args.self.now.item.relations) c.as_slice-joins.result.now ≡ Ok c.args.ends.now = rw same c.requires.ends in
    omega (arith, length-all_of (λ at. ends_of c.args.self.now.item.relations) 0 c.as_slice-joins.result.now c.args.ends.now e, c.loop-at-test.true)

pub bounds-distinct-at : goal.bounds-distinct-at
bounds-distinct-at c =
    let same : c.as_slice-joins.result.now ≡ c.args.self.now.item.joins = rw (← c.self.view_is) c.as_slice-joins.ensures in
    let m : each_of (most_distinct c.args.self.now.tables c.args.self.now.item.relations) c.as_slice-joins.result.now ≡ Ok c.args.distinct.now = rw same c.requires.distinct in
    omega (arith, length-all_of (λ at. most_distinct c.args.self.now.tables c.args.self.now.item.relations) 0 c.as_slice-joins.result.now c.args.distinct.now m, c.loop-at-test.true)

pub pred_over-requires-clause-left : goal.pred_over-requires-clause-left
pred_over-requires-clause-left c =
    let rs = c.args.self.now.item.relations in
    let j = c.index-joins-at.result in
    let same : c.as_slice-joins.result.now ≡ c.args.self.now.item.joins = rw (← c.self.view_is) c.as_slice-joins.ensures in
    let e : each_of (ends_of rs) c.as_slice-joins.result.now ≡ Ok c.args.ends.now = rw same c.requires.ends in
    let few : length rs ≤ N_MAX = rw (← c.self.view_is) c.self.invariant.1 in
    let are = are_ends rs j _ (each_or (ends_of rs) c.as_slice-joins.result.now c.args.ends.now c.loop-at.at j (record { left = 0; right = 0 }) e c.loop-at-test.true c.index-joins-at.is) in
    omega (arith, alias_known rs j.left _ are.left, few)

pub pred_over-requires-clause-right : goal.pred_over-requires-clause-right
pred_over-requires-clause-right c =
    let rs = c.args.self.now.item.relations in
    let j = c.index-joins-at.result in
    let same : c.as_slice-joins.result.now ≡ c.args.self.now.item.joins = rw (← c.self.view_is) c.as_slice-joins.ensures in
    let e : each_of (ends_of rs) c.as_slice-joins.result.now ≡ Ok c.args.ends.now = rw same c.requires.ends in
    let few : length rs ≤ N_MAX = rw (← c.self.view_is) c.self.invariant.1 in
    let are = are_ends rs j _ (each_or (ends_of rs) c.as_slice-joins.result.now c.args.ends.now c.loop-at.at j (record { left = 0; right = 0 }) e c.loop-at-test.true c.index-joins-at.is) in
    omega (arith, alias_known rs j.right _ are.right, few)

pub returns-in_err-pred : goal.returns-in_err-pred
returns-in_err-pred c =
    let ts = c.args.self.now.tables in
    let rs = c.args.self.now.item.relations in
    let js = c.as_slice-joins.result.now in
    let i = c.loop-at.at in
    let j = c.index-joins-at.result in
    let same : js ≡ c.args.self.now.item.joins = rw (← c.self.view_is) c.as_slice-joins.ensures in
    let e = each_or (ends_of rs) js c.args.ends.now i j (record { left = 0; right = 0 }) (rw same c.requires.ends) c.loop-at-test.true c.index-joins-at.is in
    let m = each_or (most_distinct ts rs) js c.args.distinct.now i j 0 (rw same c.requires.distinct) c.loop-at-test.true c.index-joins-at.is in
    let stops : Stops c.in_err-pred.field-0.0 (all_of (pred_of ts rs) 0 js) =
    stops_at (pred_of ts rs) js i j c.in_err-pred.field-0.0 c.loop-at.preds.items _ c.loop-at-test.true c.index-joins-at.is (rw (pred_known ts rs i j _ _ _ e m refl) c.in_err-pred.ensures) c.loop-at.invariant in
    rw (← same) (search rules)

pub loop-at-preserved : goal.loop-at-preserved
loop-at-preserved c =
    let ts = c.args.self.now.tables in
    let rs = c.args.self.now.item.relations in
    let js = c.as_slice-joins.result.now in
    let i = c.loop-at.at in
    let j = c.index-joins-at.result in
    let same : js ≡ c.args.self.now.item.joins = rw (← c.self.view_is) c.as_slice-joins.ensures in
    let e = each_or (ends_of rs) js c.args.ends.now i j (record { left = 0; right = 0 }) (rw same c.requires.ends) c.loop-at-test.true c.index-joins-at.is in
    let m = each_or (most_distinct ts rs) js c.args.distinct.now i j 0 (rw same c.requires.distinct) c.loop-at-test.true c.index-joins-at.is in
    found_more (pred_of ts rs) js i j c.in_ok-pred.pred c.loop-at.preds.items c.push.new.self.items _ c.loop-at-test.true c.index-joins-at.is
    (pred_known ts rs i j _ _ (Ok c.in_ok-pred.pred) e m c.in_ok-pred.ensures) c.in_ok-push.ensures.items c.loop-at.invariant
