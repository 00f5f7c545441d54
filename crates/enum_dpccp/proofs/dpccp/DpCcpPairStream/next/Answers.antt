use Rattle.std.proofs.Common.{◌∙◌}
use Rattle.pair_stream.specs.Streams.{over_from_empty}
use Rattle.enum_dpccp.specs.Left.{dpccp_left}
use Rattle.enum_dpccp.proofs.DpccpSteps.{pair_taken, first_taken, none_left}
use Rattle.enum_dpccp.proofs.dpccp.DpCcpPairStream.next.Goals as goal

pub returns-in-Some-clause-pair : goal.returns-in-Some-clause-pair
returns-in-Some-clause-pair g c =
    let s = c.firsts.self-inside in
    c.firsts.invariant.left ∙ pair_taken s.graph s.firsts s.first c.in-Some.b s.seconds c.next.new.self c.in-Some.ensures.set

pub returns-in-None-clause-pair : goal.returns-in-None-clause-pair
returns-in-None-clause-pair g c =
    let s = c.firsts.self-inside in (
      c.firsts.invariant.left ∙ none_left s.graph s.firsts s.first s.seconds c.in_default.ensures.set.0 c.in-None.ensures.set.0,
      none_left s.graph c.next-in-firsts.new.self s.first c.next.new.self c.in_default.ensures.set.1 c.in-None.ensures.set.1,
    )

pub returns-in-None-clause-end : goal.returns-in-None-clause-end
returns-in-None-clause-end g c =
    let s = c.firsts.self-inside in
    λ _. over_from_empty (dpccp_left s.graph c.next-in-firsts.new.self s.first c.next.new.self)
    (none_left s.graph c.next-in-firsts.new.self s.first c.next.new.self c.in_default.ensures.set.1 c.in-None.ensures.set.1)

pub firsts-preserved : goal.firsts-preserved
firsts-preserved g c =
    let s = c.firsts.self-inside in
    record {
      fits = record { graph = c.firsts.invariant.fits.graph; firsts_fit = c.in-Some-next.ensures.fits; seconds_fit = c.begin.ensures.fits };
      left = c.firsts.invariant.left
          ∙ first_taken s.graph s.firsts c.next-in-firsts.new.self s.first c.in-Some-next.a s.seconds c.begin.new.self
          c.in_default.ensures.set.0 c.in-Some-next.ensures.set c.begin.ensures.left;
    }
