use Rattle.std.proofs.Common.{◌≡◌, ◌≤◌, ◌<◌, ◌+◌, ◌∙◌, sym, ap, arith, ℕ}
use Rattle.std.proofs.lemmas.Bool.{iff_false}
use Rattle.dpe_base.specs.Sets.{full}
use Rattle.pair_stream.specs.DpsubLeft.{dpsub_left}
use Rattle.pair_stream.specs.Streams.{over_from_empty}
use Rattle.pair_stream.proofs.SubsetLaws.{within_full, within_most}
use Rattle.pair_stream.proofs.DpsubSteps.{fewer_subsets, split_taken, none_left, left_same, entered, passed, within_none, within_all}
use Rattle.pair_stream.proofs.dpsub.DpSubPairStream.next.Goals as goal
use Rattle.pair_stream.proofs.dpsub.DpSubPairStream.next.Goals.{then-connected, else-connected}

all_done : (s f : ℕ) → s ≡ f → f ≤ s
all_done s f e = omega arith

still_more : (s b f d : ℕ) → s ≤ f → b ≡ s → d ≡ f → (b ≡ d → ⊥) → s < f
still_more s b f d l eb ed ne = omega arith

pub is_split-requires-clause-within : goal.is_split-requires-clause-within
is_split-requires-clause-within g c = within_full c.scan.self-inside.set c.scan.self-inside.graph.n c.scan.invariant.below

pub next_with_least-requires-clause-known : goal.next_with_least-requires-clause-known
next_with_least-requires-clause-known g c = within_most c.scan.self-inside.set c.scan.self-inside.graph.n (within_full c.scan.self-inside.set c.scan.self-inside.graph.n c.scan.invariant.below) c.scan.invariant.valid.few

pub returns-then-is_split-clause-pair : goal.returns-then-is_split-clause-pair
returns-then-is_split-clause-pair g c =
    split_taken c.scan.self-inside.graph c.args.self.now c.scan.self-inside.set c.scan.self-inside.first c.in-Some.a c.minus-b.result
    c.scan.invariant.left c.in-Some.ensures.some (sym c.if-is_split.true ∙ c.is_split.ensures) c.minus-b.ensures

pub scan-smaller-else-is_split : goal.scan-smaller-else-is_split
scan-smaller-else-is_split g c =
    fewer_subsets (full c.scan.self-inside.graph.n) c.scan.self-inside.set c.scan.self-inside.first c.in-Some.a c.in-Some.ensures.some

pub scan-preserved-else-is_split : goal.scan-preserved-else-is_split
scan-preserved-else-is_split g c =
    record {
      valid = c.scan.invariant.valid;
      part = c.in-Some.ensures.some.within;
      below = c.scan.invariant.below;
      left = c.scan.invariant.left ∙ left_same c.scan.self-inside.graph c.scan.self-inside.set c.scan.self-inside.first c.in-Some.a c.in-Some.ensures.some (sym c.is_split.ensures ∙ c.if-is_split.false);
    }

pub returns-then-bits-clause-pair : goal.returns-then-bits-clause-pair
returns-then-bits-clause-pair g c =
    none_left c.scan.self-inside.graph c.args.self.now c.scan.self-inside.set c.scan.self-inside.first c.scan.invariant.left c.in-None.ensures.none
    (all_done c.scan.self-inside.set (full c.scan.self-inside.graph.n) (sym c.bits.ensures ∙ c.if-bits.true ∙ c.bits-in-None.ensures ∙ c.full.ensures ∙ ap full c.n.ensures.value))

pub returns-then-bits-clause-end : goal.returns-then-bits-clause-end
returns-then-bits-clause-end g c =
    λ _. over_from_empty (dpsub_left c.scan.self-inside.graph c.scan.self-inside.set c.scan.self-inside.first)
    (none_left c.scan.self-inside.graph c.args.self.now c.scan.self-inside.set c.scan.self-inside.first c.scan.invariant.left c.in-None.ensures.none
    (all_done c.scan.self-inside.set (full c.scan.self-inside.graph.n) (sym c.bits.ensures ∙ c.if-bits.true ∙ c.bits-in-None.ensures ∙ c.full.ensures ∙ ap full c.n.ensures.value))).1

pub connected-requires : goal.connected-requires
connected-requires g c =
    let at_full : c.bits-in-None.result ≡ full c.scan.self-inside.graph.n = c.bits-in-None.ensures ∙ c.full.ensures ∙ ap full c.n.ensures.value in
    let less : c.scan.self-inside.set < full c.scan.self-inside.graph.n =
    still_more c.scan.self-inside.set c.bits.result (full c.scan.self-inside.graph.n) c.bits-in-None.result c.scan.invariant.below c.bits.ensures at_full c.if-bits.false in
    within_full c.of_bits-self-inside.result c.scan.self-inside.graph.n (omega arith)

pub scan-preserved : goal.scan-preserved
scan-preserved g c =
    let at_full : c.bits-in-None.result ≡ full c.scan.self-inside.graph.n = c.bits-in-None.ensures ∙ c.full.ensures ∙ ap full c.n.ensures.value in
    let less : c.scan.self-inside.set < full c.scan.self-inside.graph.n =
    still_more c.scan.self-inside.set c.bits.result (full c.scan.self-inside.graph.n) c.bits-in-None.result c.scan.invariant.below c.bits.ensures at_full c.if-bits.false in
    let next : c.of_bits-self-inside.result ≡ c.scan.self-inside.set + 1 = c.of_bits-self-inside.ensures ∙ ap (λ (k : ℕ). k + 1) c.bits-in-None-2.ensures in
    elim c.if-connected.branch [
      | then-connected w ↦
          record {
            valid = c.scan.invariant.valid;
            part = within_none c.if-connected.self c.of_bits-self-inside.result (w.self-is ∙ w.empty-self-inside.ensures);
            below = omega arith;
            left = entered c.scan.self-inside.graph c.args.self.now c.scan.self-inside.set c.scan.self-inside.first c.of_bits-self-inside.result c.if-connected.self
                c.scan.invariant.valid c.scan.invariant.left c.in-None.ensures.none less next (w.self-is ∙ w.empty-self-inside.ensures) (c.connected.ensures.0 w.if-connected.true);
          }
      | else-connected w ↦
          record {
            valid = c.scan.invariant.valid;
            part = within_all c.if-connected.self c.of_bits-self-inside.result w.self-is;
            below = omega arith;
            left = passed c.scan.self-inside.graph c.args.self.now c.scan.self-inside.set c.scan.self-inside.first c.of_bits-self-inside.result c.if-connected.self
                c.scan.invariant.valid c.scan.invariant.left c.in-None.ensures.none less next w.self-is (iff_false c.connected.ensures w.if-connected.false);
          }
    ]
