use Rattle.std.proofs.Common.{◌≡◌, Ok, map, arith, refl, rules}
use Rattle.query_json.specs.Answer.{Stops}
use Rattle.query_json.specs.Queries.{all_of, each_of, rel_of, rel_over, table_of}
use Rattle.query_json.proofs.Passes.{each_at, found_more, stops_at}
use Rattle.query_json.proofs.ScopeLaws.{known_length, now_at, rel_known}
use Rattle.query_json.proofs.query.scope.Scope.all_rels.Goals as goal

pub bounds-known-at : goal.bounds-known-at
bounds-known-at c =
    let known : each_of (table_of c.args.self.now.tables) c.as_slice-relations.result.now ≡ Ok (map (λ t. t.now) c.as_slice-known.result.now) =
    rw (← c.self.view_is, c.as_slice-known.ensures.value, c.as_slice-relations.ensures) c.self.invariant.0 in
    omega (arith, c.loop-at-test.true, known_length c.args.self.now.tables c.as_slice-relations.result.now c.as_slice-known.result.now known)

pub returns-in_err-rel : goal.returns-in_err-rel
returns-in_err-rel c =
    let ts = c.args.self.now.tables in
    let rs = c.as_slice-relations.result.now in
    let i = c.loop-at.at in
    let r = c.index-relations-at.result in
    let t = c.index-known-at.result in
    let same : rs ≡ c.args.self.now.item.relations = rw (← c.self.view_is) c.as_slice-relations.ensures in
    let known : each_of (table_of ts) rs ≡ Ok (map (λ t. t.now) c.as_slice-known.result.now) =
    rw (← c.self.view_is, c.as_slice-known.ensures.value, c.as_slice-relations.ensures) c.self.invariant.0 in
    let table : table_of ts r ≡ Ok t.now =
    each_at (table_of ts) rs (map (λ x. x.now) c.as_slice-known.result.now) i r t.now known c.loop-at-test.true c.index-relations-at.is (now_at c.as_slice-known.result.now i t c.index-known-at.is) in
    let over : rel_of ts i r ≡ rel_over t.now i r = rel_known ts i r t.now _ table refl in
    let stops : Stops c.in_err-rel.field-0.0 (all_of (rel_of ts) 0 rs) =
    stops_at (rel_of ts) rs i r c.in_err-rel.field-0.0 c.loop-at.rels.items _ c.loop-at-test.true c.index-relations-at.is (rw over c.in_err-rel.ensures) c.loop-at.invariant in
    rw (← same) (search rules)

pub loop-at-preserved : goal.loop-at-preserved
loop-at-preserved c =
    let ts = c.args.self.now.tables in
    let rs = c.as_slice-relations.result.now in
    let i = c.loop-at.at in
    let r = c.index-relations-at.result in
    let t = c.index-known-at.result in
    let known : each_of (table_of ts) rs ≡ Ok (map (λ t. t.now) c.as_slice-known.result.now) =
    rw (← c.self.view_is, c.as_slice-known.ensures.value, c.as_slice-relations.ensures) c.self.invariant.0 in
    let table : table_of ts r ≡ Ok t.now =
    each_at (table_of ts) rs (map (λ x. x.now) c.as_slice-known.result.now) i r t.now known c.loop-at-test.true c.index-relations-at.is (now_at c.as_slice-known.result.now i t c.index-known-at.is) in
    found_more (rel_of ts) rs i r c.in_ok-rel.rel c.loop-at.rels.items c.push.new.self.items _ c.loop-at-test.true c.index-relations-at.is
    (rel_known ts i r t.now (Ok c.in_ok-rel.rel) table c.in_ok-rel.ensures) c.in_ok-push.ensures.items c.loop-at.invariant
