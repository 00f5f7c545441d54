use Rattle.std.proofs.Common.{◌≡◌, ◌∙◌, ◌+◌, ◌-◌, [], drop, length, arith, refl, sym}
use Rattle.skip_vector.specs.Skips.{IsFirstFree, NoneFree, probes}
use Rattle.enum_dpsize.specs.Dpsize.{pairs_with}
use Rattle.enum_dpsize.proofs.RowLaws.{row_over}
use Rattle.enum_dpsize.proofs.ScanLaws.{found_taken, found_passed, none_found, entries_small, found_counted, none_counted}
use Rattle.enum_dpsize.proofs.dpsva.next_in_row.Goals as goal

pub returns-in-None-clause-pair : goal.returns-in-None-clause-pair
returns-in-None-clause-pair g c =
    let none : NoneFree c.args.ys.now c.args.at.set c.row.next (length c.args.ys.now) = rw c.in-None.is at c.next_free-free.ensures.found in
    let over : pairs_with c.args.graph.now (drop c.len-in-None.result c.args.ys.now) c.args.at.set ≡ [] = row_over c.args.graph.now c.args.ys.now c.args.at.set c.len-in-None.result (omega (arith, c.len-in-None.ensures.value)) in (
      c.row.invariant.pairs ∙ none_found c.args.graph.now c.args.ys.now c.args.at.set c.row.next c.len-in-None.result c.len-in-None.ensures.value (omega (arith, c.len.ensures.value)) none ∙ over,
      over,
    )

pub returns-in-None-clause-probes : goal.returns-in-None-clause-probes
returns-in-None-clause-probes g c =
    let n : c.next_free-free.result.probes ≡ probes c.args.ys.now c.row.next c.args.at.set (length c.args.ys.now - c.row.next) = rw c.in-None.is at c.next_free-free.ensures.probes in
    omega (arith, c.row.invariant.probes, none_counted c.args.ys.now c.args.at.set c.row.next c.len-in-None.result c.next_free-free.result.probes c.len-in-None.ensures.value n)

pub overflow_add-probes : goal.overflow_add-probes
overflow_add-probes g c =
    let n : c.next_free-free.result.probes ≡ probes c.args.ys.now c.row.next c.args.at.set (length c.args.ys.now - c.row.next) = rw c.in-None.is at c.next_free-free.ensures.probes in
    omega (arith, c.row.invariant.probes, c.requires.room, none_counted c.args.ys.now c.args.at.set c.row.next (length c.args.ys.now) c.next_free-free.result.probes refl n)

pub overflow_add-probes-in-Some : goal.overflow_add-probes-in-Some
overflow_add-probes-in-Some g c =
    let f : IsFirstFree c.args.ys.now c.args.at.set c.row.next c.in-Some.place c.in-Some.y = rw c.in-Some.is at c.next_free-free.ensures.found in
    let n : c.next_free-free.result.probes ≡ probes c.args.ys.now c.row.next c.args.at.set (c.in-Some.place + 1 - c.row.next) = rw c.in-Some.is at c.next_free-free.ensures.probes in
    omega (arith, c.row.invariant.probes, c.requires.room, found_counted c.args.ys.now c.args.at.set c.row.next c.in-Some.place c.in-Some.y c.next_free-free.result.probes c.len.ensures.part (entries_small c.args.graph.now c.args.ys.now c.recall.ensures c.requires.ys) f n)

pub returns-then-is_joinable-clause-pair : goal.returns-then-is_joinable-clause-pair
returns-then-is_joinable-clause-pair g c =
    let f : IsFirstFree c.args.ys.now c.args.at.set c.row.next c.in-Some.place c.in-Some.y = rw c.in-Some.is at c.next_free-free.ensures.found in
    c.row.invariant.pairs ∙ found_taken c.args.graph.now c.args.ys.now c.args.at.set c.row.next c.in-Some.place c.in-Some.y c.pair_by_least.result f (sym c.if-is_joinable.true ∙ c.is_joinable.ensures) c.pair_by_least.ensures

pub returns-then-is_joinable-clause-probes : goal.returns-then-is_joinable-clause-probes
returns-then-is_joinable-clause-probes g c =
    let f : IsFirstFree c.args.ys.now c.args.at.set c.row.next c.in-Some.place c.in-Some.y = rw c.in-Some.is at c.next_free-free.ensures.found in
    let n : c.next_free-free.result.probes ≡ probes c.args.ys.now c.row.next c.args.at.set (c.in-Some.place + 1 - c.row.next) = rw c.in-Some.is at c.next_free-free.ensures.probes in
    omega (arith, c.row.invariant.probes, found_counted c.args.ys.now c.args.at.set c.row.next c.in-Some.place c.in-Some.y c.next_free-free.result.probes c.len.ensures.part (entries_small c.args.graph.now c.args.ys.now c.recall.ensures c.requires.ys) f n)

pub row-preserved : goal.row-preserved
row-preserved g c =
    let f : IsFirstFree c.args.ys.now c.args.at.set c.row.next c.in-Some.place c.in-Some.y = rw c.in-Some.is at c.next_free-free.ensures.found in
    let n : c.next_free-free.result.probes ≡ probes c.args.ys.now c.row.next c.args.at.set (c.in-Some.place + 1 - c.row.next) = rw c.in-Some.is at c.next_free-free.ensures.probes in
    record {
      pairs = c.row.invariant.pairs ∙ found_passed c.args.graph.now c.args.ys.now c.args.at.set c.row.next c.in-Some.place c.in-Some.y f (sym c.if-is_joinable.false ∙ c.is_joinable.ensures);
      probes = omega (arith, c.row.invariant.probes, found_counted c.args.ys.now c.args.at.set c.row.next c.in-Some.place c.in-Some.y c.next_free-free.result.probes c.len.ensures.part (entries_small c.args.graph.now c.args.ys.now c.recall.ensures c.requires.ys) f n);
      steps = omega (arith, c.next_free-free.ensures.steps, c.row.invariant.steps);
      forward = omega (arith, c.next_free-free.ensures.steps, c.row.invariant.forward);
    }

pub returns-clause-pair : goal.returns-clause-pair
returns-clause-pair g c =
    let over : pairs_with c.args.graph.now (drop c.row.next c.args.ys.now) c.args.at.set ≡ [] = row_over c.args.graph.now c.args.ys.now c.args.at.set c.row.next (omega (arith, c.len.ensures.value)) in
    (c.row.invariant.pairs ∙ over, over)
