use Rattle.std.proofs.Common.{◌++◌, List, [], ◌∷◌, append_assoc, sym, ap, ◌∙◌}
use Rattle.dpe_base.specs.declared.pair.Pair.{Pair}
use Rattle.pair_stream.proofs.collect.collect_counting.Goals as goal

pub returns-in_err-push-clause-given : goal.returns-in_err-push-clause-given
returns-in_err-push-clause-given g c = (
  c.pairs.pairs.items ++ c.in-Some.p ∷ [],
  c.pairs.invariant.given
      ∙ (ap (λ (l : List Pair). c.pairs.pairs.items ++ l) c.in-Some.ensures.pair ∙ sym (append_assoc c.pairs.pairs.items (c.in-Some.p ∷ []) (g.S.PairStream.left c.next.new.self))),
)
