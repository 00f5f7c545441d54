use Rattle.std.proofs.Common.{◌≡◌, ◌∙◌, ◌≤◌, Ok, map, length, sym, ap, arith}
use Rattle.query_json.specs.declared.refusal.QueryRefusal.TheVariants.{UnknownColumn}
use Rattle.dpe_base.specs.declared.TheConstants.{N_MAX}
use Rattle.query_json.specs.Columns.{distinct_in}
use Rattle.query_json.specs.Queries.{count_named, each_of, found, table_of}
use Rattle.query_json.proofs.ScopeLaws.{alias_known, count_at, known_length, now_at}
use Rattle.query_json.proofs.query.scope.Scope.count.Goals as goal

pub offset_bounds-known-number : goal.offset_bounds-known-number
offset_bounds-known-number c =
    let here = alias_known c.args.self.now.item.relations c.args.alias.now c.args.number c.requires in
    let few : length c.args.self.now.item.relations ≤ N_MAX = rw (← c.self.view_is) c.self.invariant.1 in
    omega (arith, here, few)

pub bounds-known-number : goal.bounds-known-number
bounds-known-number c =
    let here = alias_known c.args.self.now.item.relations c.args.alias.now c.args.number c.requires in
    let known : each_of (table_of c.args.self.now.tables) c.args.self.now.item.relations ≡ Ok (map (λ t. t.now) c.as_slice-known.result.now) =
    rw (← c.self.view_is, c.as_slice-known.ensures.value) c.self.invariant.0 in
    omega (arith, here, known_length c.args.self.now.tables c.args.self.now.item.relations c.as_slice-known.result.now known)

pub returns-in-Some-distinct : goal.returns-in-Some-distinct
returns-in-Some-distinct c =
    let known : each_of (table_of c.args.self.now.tables) c.args.self.now.item.relations ≡ Ok (map (λ t. t.now) c.as_slice-known.result.now) =
    rw (← c.self.view_is, c.as_slice-known.ensures.value) c.self.invariant.0 in
    let t = c.index-known-number.result in
    let named : count_named c.args.self.now.tables c.args.self.now.item.relations c.args.alias.now c.in-Some.column.now ≡ distinct_in c.in-Some.column.now t.now.columns =
    count_at c.args.self.now.tables c.args.self.now.item.relations (map (λ x. x.now) c.as_slice-known.result.now) c.args.alias.now c.in-Some.column.now c.args.number t.now known c.requires
    (now_at c.as_slice-known.result.now c.args.number t c.index-known-number.is) in
    rw c.in-Some.is (ap (found (UnknownColumn c.args.alias.now c.in-Some.column.now)) (named ∙ sym (rw c.text.ensures at c.distinct.ensures) ∙ c.in-Some-distinct.is))

pub returns-in_ok-column-in-None : goal.returns-in_ok-column-in-None
returns-in_ok-column-in-None c =
    let known : each_of (table_of c.args.self.now.tables) c.args.self.now.item.relations ≡ Ok (map (λ t. t.now) c.as_slice-known.result.now) =
    rw (← c.self.view_is, c.as_slice-known.ensures.value) c.self.invariant.0 in
    let t = c.index-known-number.result in
    let named : count_named c.args.self.now.tables c.args.self.now.item.relations c.args.alias.now c.in-Some.column.now ≡ distinct_in c.in-Some.column.now t.now.columns =
    count_at c.args.self.now.tables c.args.self.now.item.relations (map (λ x. x.now) c.as_slice-known.result.now) c.args.alias.now c.in-Some.column.now c.args.number t.now known c.requires
    (now_at c.as_slice-known.result.now c.args.number t c.index-known-number.is) in
    rw (c.in-Some.is, c.in_ok-alias-in-None.ensures, c.in_ok-column-in-None.ensures)
    (ap (found (UnknownColumn c.args.alias.now c.in-Some.column.now)) (named ∙ sym (rw c.text.ensures at c.distinct.ensures) ∙ c.in-None.is))
