use Rattle.std.proofs.Common.{◌∙◌}
use Rattle.pair_stream.specs.Streams.{over_from_empty}
use Rattle.enum_dpccp.specs.Left.{touching_left}
use Rattle.enum_dpccp.proofs.TouchingSteps.{touching_end, touching_first, touching_pair}
use Rattle.enum_dpccp.proofs.touching.DpCcpTouchingPairStream.next.Goals as goal

pub returns-in-Some-clause-pair : goal.returns-in-Some-clause-pair
returns-in-Some-clause-pair g c =
    let s = c.firsts.self-inside in
    c.firsts.invariant.left ∙ touching_pair s.graph s.relation s.firsts s.first c.in-Some.b s.seconds c.next_touching.new.self c.in-Some.ensures.set

pub returns-in-None-clause-pair : goal.returns-in-None-clause-pair
returns-in-None-clause-pair g c =
    let s = c.firsts.self-inside in (
      c.firsts.invariant.left ∙ touching_end s.graph s.relation s.firsts s.first s.seconds c.in_default.ensures.set.0 c.in-None.ensures.set.0,
      touching_end s.graph s.relation c.next.new.self s.first c.next_touching.new.self c.in_default.ensures.set.1 c.in-None.ensures.set.1,
    )

pub returns-in-None-clause-end : goal.returns-in-None-clause-end
returns-in-None-clause-end g c =
    let s = c.firsts.self-inside in
    λ _. over_from_empty (touching_left s.graph s.relation c.next.new.self s.first c.next_touching.new.self)
    (touching_end s.graph s.relation c.next.new.self s.first c.next_touching.new.self c.in_default.ensures.set.1 c.in-None.ensures.set.1)

pub firsts-preserved : goal.firsts-preserved
firsts-preserved g c =
    let s = c.firsts.self-inside in
    record {
      fits = record {
        stream = record { graph = c.firsts.invariant.fits.stream.graph; firsts_fit = c.in-Some-next.ensures.fits; seconds_fit = c.begin_touching.ensures.fits };
        relation = c.firsts.invariant.fits.relation;
      };
      left = c.firsts.invariant.left
          ∙ touching_first s.graph s.relation s.firsts c.next.new.self s.first c.in-Some-next.a s.seconds c.begin_touching.new.self
          c.in_default.ensures.set.0 c.in-Some-next.ensures.set c.begin_touching.ensures.left;
    }
