use Rattle.std.proofs.Common.{◌∙◌, sym, ap, length}
use Rattle.connected_sets.specs.Growth.{CallFits, CallsFit}
use Rattle.connected_sets.proofs.GrowthLaws.{call, enter_left, enter_last, enter_fits, enter_last_fits}
use Rattle.connected_sets.proofs.growth.Growth.enter.Goals as goal
use Rattle.connected_sets.proofs.growth.Growth.enter.Goals.{then-bits, else-bits}

pub returns-clause-left : goal.returns-clause-left
returns-clause-left c =
    elim c.if-bits.branch [
      | then-bits w ↦
          enter_left c.args.graph.now c.args.self.now.calling.items c.if-bits.self.calling.items c.args.call.now c.args.child.now c.union.result c.union-2.result c.empty.result
          c.recall.ensures c.requires.child (ap (λ s. s.calling.items) w.self-is ∙ w.push.ensures.items) c.union.ensures c.union-2.ensures c.empty.ensures
      | else-bits w ↦
          enter_last c.args.graph.now c.args.self.now.calling.items c.if-bits.self.calling.items c.args.call.now c.args.child.now c.union.result c.union-2.result c.empty.result
          c.recall.ensures c.requires.child (ap (λ s. s.calling.items) w.self-is) (sym c.bits.ensures ∙ w.if-bits.false ∙ c.bits-2.ensures) c.union.ensures c.union-2.ensures c.empty.ensures
    ]

pub returns-clause-fits : goal.returns-clause-fits
returns-clause-fits c =
    let fits : CallsFit c.args.graph.now 0 c.if-bits.self.calling.items × CallFits c.args.graph.now (length c.if-bits.self.calling.items) (call c.union.result c.args.child.now.neighbours c.union-2.result c.empty.result) =
    elim c.if-bits.branch [
      | then-bits w ↦
          enter_fits c.args.graph.now c.args.self.now.calling.items c.if-bits.self.calling.items c.args.call.now c.args.child.now c.union.result c.union-2.result c.empty.result
          c.recall.ensures c.requires.calling c.requires.call c.requires.child (ap (λ s. s.calling.items) w.self-is ∙ w.push.ensures.items) c.union.ensures c.union-2.ensures c.empty.ensures
      | else-bits w ↦
          enter_last_fits c.args.graph.now c.args.self.now.calling.items c.if-bits.self.calling.items c.args.call.now c.args.child.now c.union.result c.union-2.result c.empty.result
          c.recall.ensures c.requires.calling c.requires.call c.requires.child (ap (λ s. s.calling.items) w.self-is) c.union.ensures c.union-2.ensures c.empty.ensures
    ] in
    record { calling = fits.0; giving = fits.1 }
