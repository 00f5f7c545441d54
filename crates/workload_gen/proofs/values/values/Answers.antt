use Rattle.std.proofs.Common.{◌∙◌, ap}
use Rattle.serde_json.proofs.Views.{view-Array}
use Rattle.serde_json.specs.Data.{array}
use Rattle.workload_gen.proofs.Arrays.{all_written, one_written}
use Rattle.workload_gen.proofs.values.values.Goals as goal

pub loop-at-preserved : goal.loop-at-preserved
loop-at-preserved g c =
    one_written g.T.Part.value_of _ _ c.in_ok-value.field-0 c.args.parts.now c.loop-at.at c.index-parts-at.result _
    c.in_ok-push.ensures.items c.in_ok-value.ensures c.index-parts-at.is c.loop-at-test.true c.loop-at.invariant

pub returns : goal.returns
returns g c = view-Array c.loop-at.list ∙ ap array (all_written g.T.Part.value_of c.loop-at.list.items c.args.parts.now c.loop-at.at _ c.loop-at-test.false c.loop-at.invariant)
