use Rattle.std.proofs.Common.{ℕ, ap, subst, sym, ◌∙◌, ◌≡◌, inl, inr}
use Rattle.dpe_base.specs.Sets.{Within, single}
use Rattle.pair_stream.specs.Connectivity.{neighbours}
use Rattle.pair_stream.proofs.ConnectivityLaws.{neighbours_one}
use Rattle.connected_sets.proofs.SetSteps.{start_known}
use Rattle.enum_dpccp.proofs.TouchingSteps.{not_both}
use Rattle.enum_dpccp.proofs.sides.stands_alone.Goals as goal

pub neighbours-requires : goal.neighbours-requires
neighbours-requires c = start_known c.args.graph.now c.args.r c.single.result c.single.ensures c.requires

pub returns-else-has : goal.returns-else-has
returns-else-has c =
    let same : c.neighbours.result ≡ neighbours c.args.graph.now (single c.args.r) =
    neighbours_one c.args.graph.now c.single.result c.neighbours.result c.recall.ensures c.neighbours.ensures ∙ ap (neighbours c.args.graph.now) c.single.ensures in (
      λ t. inr (subst (λ (s : ℕ). Within s c.args.x) same (c.within.ensures.0 t)),
      λ s.
          c.within.ensures.1
          (subst (λ (s : ℕ). Within s c.args.x) (sym same)
          (elim s [
            | inl h ↦ absurd (not_both c.has.result (c.has.ensures.1 h) c.if-has.false)
            | inr w ↦ w
          ])),
    )
