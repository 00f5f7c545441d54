use Rattle.std.proofs.Common.{◌≡◌, drop, map}
use Rattle.serde_json.specs.View.{view}
use Rattle.workload_gen.specs.Values.{values}
use Rattle.workload_gen.proofs.Arrays.{items_before}
use Rattle.workload_gen.proofs.values.values.Given as goal

abbrev pub invariant-loop-at : goal.invariant-loop-at
invariant-loop-at g l = items_before (map view l.list.items) (values g.T.Part.value_of l.at (drop l.at l.parts)) ≡ values g.T.Part.value_of 0 l.parts
