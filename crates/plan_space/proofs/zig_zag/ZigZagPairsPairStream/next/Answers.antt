use Rattle.std.proofs.Common.{◌≡◌, ◌≤◌, ◌<◌, ◌+◌, ◌∙◌, refl, sym, ap, arith, ℕ}
use Rattle.std.proofs.lemmas.Bool.{iff_false}
use Rattle.dpe_base.specs.Sets.{full}
use Rattle.pair_stream.specs.Streams.{over_from_empty}
use Rattle.pair_stream.proofs.SubsetLaws.{within_full, within_most}
use Rattle.plan_space.specs.ZigZagLeft.{zig_zag_left}
use Rattle.plan_space.proofs.ZigZagSteps.{taken_has, pair_taken, pair_skipped, none_left, entered, passed}
use Rattle.plan_space.proofs.zig_zag.ZigZagPairsPairStream.next.Goals as goal
use Rattle.plan_space.proofs.zig_zag.ZigZagPairsPairStream.next.Goals.{then-connected, else-connected}

all_tried : (r n k : ℕ) → k ≡ n → k ≤ r → n ≤ r
all_tried r n k e l = omega arith

all_done : (s b f d : ℕ) → b ≡ s → d ≡ f → b ≡ d → f ≤ s
all_done s b f d eb ed e = omega arith

still_more : (s b f d : ℕ) → s ≤ f → b ≡ s → d ≡ f → (b ≡ d → ⊥) → s < f
still_more s b f d l eb ed ne = omega arith

pub can_be_taken-requires-clause-known : goal.can_be_taken-requires-clause-known
can_be_taken-requires-clause-known g c = within_full c.scan.self-inside.set c.scan.self-inside.graph.n c.scan.invariant.below

pub taken_from-requires-clause-known : goal.taken_from-requires-clause-known
taken_from-requires-clause-known g c = within_most c.scan.self-inside.set c.scan.self-inside.graph.n (within_full c.scan.self-inside.set c.scan.self-inside.graph.n c.scan.invariant.below) c.scan.invariant.valid.few

pub taken_from-requires-clause-has : goal.taken_from-requires-clause-has
taken_from-requires-clause-has g c = taken_has c.scan.self-inside.graph c.scan.self-inside.set c.scan.self-inside.next c.scan.invariant.valid (sym c.if-can_be_taken.true ∙ c.can_be_taken.ensures)

pub returns-then-can_be_taken-clause-pair : goal.returns-then-can_be_taken-clause-pair
returns-then-can_be_taken-clause-pair g c =
    pair_taken c.scan.self-inside.graph c.args.self.now c.scan.self-inside.set c.scan.self-inside.next (c.scan.self-inside.next + 1) c.taken_from.result c.scan.invariant.left (omega (arith, c.if-r-n.true, c.n.ensures.value)) refl (sym c.if-can_be_taken.true ∙ c.can_be_taken.ensures) c.taken_from.ensures

pub scan-preserved-else-can_be_taken : goal.scan-preserved-else-can_be_taken
scan-preserved-else-can_be_taken g c =
    let inside : c.scan.self-inside.next < c.scan.self-inside.graph.n = omega (arith, c.if-r-n.true, c.n.ensures.value) in
    record {
      valid = c.scan.invariant.valid;
      below = c.scan.invariant.below;
      few = omega (arith, inside);
      left = pair_skipped c.scan.self-inside.graph c.args.self.now c.scan.self-inside.set c.scan.self-inside.next (c.scan.self-inside.next + 1) c.scan.invariant.left inside refl (sym c.if-can_be_taken.false ∙ c.can_be_taken.ensures);
    }

pub returns-then-bits-clause-pair : goal.returns-then-bits-clause-pair
returns-then-bits-clause-pair g c =
    none_left c.scan.self-inside.graph c.args.self.now c.scan.self-inside.set c.scan.self-inside.next c.scan.invariant.left (all_tried c.scan.self-inside.next c.scan.self-inside.graph.n c.n.result c.n.ensures.value c.if-r-n.false)
    (all_done c.scan.self-inside.set c.bits.result (full c.scan.self-inside.graph.n) c.bits-else-r-n.result c.bits.ensures (c.bits-else-r-n.ensures ∙ c.full.ensures ∙ ap full c.n-else-r-n.ensures.value) c.if-bits.true)

pub returns-then-bits-clause-end : goal.returns-then-bits-clause-end
returns-then-bits-clause-end g c =
    λ _. over_from_empty (zig_zag_left c.scan.self-inside.graph c.scan.self-inside.set c.scan.self-inside.next)
    (none_left c.scan.self-inside.graph c.args.self.now c.scan.self-inside.set c.scan.self-inside.next c.scan.invariant.left (all_tried c.scan.self-inside.next c.scan.self-inside.graph.n c.n.result c.n.ensures.value c.if-r-n.false)
    (all_done c.scan.self-inside.set c.bits.result (full c.scan.self-inside.graph.n) c.bits-else-r-n.result c.bits.ensures (c.bits-else-r-n.ensures ∙ c.full.ensures ∙ ap full c.n-else-r-n.ensures.value) c.if-bits.true)).1

pub connected-requires : goal.connected-requires
connected-requires g c =
    let less : c.scan.self-inside.set < full c.scan.self-inside.graph.n =
    still_more c.scan.self-inside.set c.bits.result (full c.scan.self-inside.graph.n) c.bits-else-r-n.result c.scan.invariant.below c.bits.ensures (c.bits-else-r-n.ensures ∙ c.full.ensures ∙ ap full c.n-else-r-n.ensures.value) c.if-bits.false in
    within_full c.of_bits-self-inside.result c.scan.self-inside.graph.n (omega (arith, less, c.of_bits-self-inside.ensures, c.bits-else-r-n-2.ensures))

pub scan-preserved : goal.scan-preserved
scan-preserved g c =
    let less : c.scan.self-inside.set < full c.scan.self-inside.graph.n =
    still_more c.scan.self-inside.set c.bits.result (full c.scan.self-inside.graph.n) c.bits-else-r-n.result c.scan.invariant.below c.bits.ensures (c.bits-else-r-n.ensures ∙ c.full.ensures ∙ ap full c.n-else-r-n.ensures.value) c.if-bits.false in
    let next : c.of_bits-self-inside.result ≡ c.scan.self-inside.set + 1 = c.of_bits-self-inside.ensures ∙ ap (λ (k : ℕ). k + 1) c.bits-else-r-n-2.ensures in
    let tried : c.scan.self-inside.graph.n ≤ c.scan.self-inside.next = all_tried c.scan.self-inside.next c.scan.self-inside.graph.n c.n.result c.n.ensures.value c.if-r-n.false in
    elim c.if-connected.branch [
      | then-connected w ↦
          record {
            valid = c.scan.invariant.valid;
            below = omega (arith, less, next);
            few = omega (arith, w.self-is);
            left = entered c.scan.self-inside.graph c.args.self.now c.scan.self-inside.set c.scan.self-inside.next c.of_bits-self-inside.result c.if-connected.self
                c.scan.invariant.valid c.scan.invariant.left tried less next w.self-is (c.connected.ensures.0 w.if-connected.true);
          }
      | else-connected w ↦
          record {
            valid = c.scan.invariant.valid;
            below = omega (arith, less, next);
            few = omega (arith, w.self-is, w.n-self-inside.ensures.value);
            left = passed c.scan.self-inside.graph c.args.self.now c.scan.self-inside.set c.scan.self-inside.next c.of_bits-self-inside.result c.if-connected.self
                c.scan.invariant.valid c.scan.invariant.left tried less next (w.self-is ∙ w.n-self-inside.ensures.value) (iff_false c.connected.ensures w.if-connected.false);
          }
    ]
