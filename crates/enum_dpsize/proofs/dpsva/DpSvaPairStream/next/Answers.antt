use Rattle.std.proofs.Common.{◌≡◌, ◌+◌, ◌-◌, ◌∙◌, arith, ap, refl, length}
use Rattle.pair_stream.specs.Parts.{part}
use Rattle.enum_dpsize.specs.DpsizeLeft.{is_same}
use Rattle.enum_dpsize.specs.DpsvaLeft.{probes_at}
use Rattle.enum_dpsize.specs.Dpsize.{start_at}
use Rattle.enum_dpsize.proofs.Neighbourhoods.{its_own, stands_at}
use Rattle.enum_dpsize.proofs.PartLists.{part_connected, set_connected}
use Rattle.enum_dpsize.proofs.DpsizeSteps.{first_known, second_known, first_list, second_list, taken_here, passed_here, rank_by_sizes, row_fits, row_falls, row_left}
use Rattle.enum_dpsize.proofs.ScanLaws.{none_over}
use Rattle.enum_dpsize.proofs.ProbeSteps.{probes_from_place, row_probes_left}
use Rattle.enum_dpsize.proofs.dpsva.DpSvaPairStream.next.Goals as goal

pub list-xs-requires : goal.list-xs-requires
list-xs-requires g c = let s = c.rows.self-inside in first_known s.graph s.parts.now s.cursor c.rows.invariant.kept.state

pub skips-ys-requires : goal.skips-ys-requires
skips-ys-requires g c = let s = c.rows.self-inside in second_known s.graph s.parts.now s.cursor c.rows.invariant.kept.state

pub next_in_row-requires-clause-x : goal.next_in_row-requires-clause-x
next_in_row-requires-clause-x g c =
    let s = c.rows.self-inside in
    let f = c.rows.invariant.kept.state in
    set_connected s.graph s.cursor.small c.list-xs.result.now s.cursor.row c.turned_to-self-inside.result.set f.cursor.graph (first_list s.graph s.parts.now s.cursor f c.list-xs.result.now c.list-xs.ensures) c.if-self-xs.true (stands_at c.list-xs.result.now s.cursor.row c.index-xs-self.result c.turned_to-self-inside.result.set c.turned_to-self-inside.ensures.set c.index-xs-self.is)

pub next_in_row-requires-clause-ys : goal.next_in_row-requires-clause-ys
next_in_row-requires-clause-ys g c =
    let s = c.rows.self-inside in
    let f = c.rows.invariant.kept.state in
    part_connected s.graph (s.cursor.size - s.cursor.small) c.skips-ys.result.now f.cursor.graph (second_list s.graph s.parts.now s.cursor f c.skips-ys.result.now c.skips-ys.ensures)

pub next_in_row-requires-clause-room : goal.next_in_row-requires-clause-room
next_in_row-requires-clause-room g c =
    let s = c.rows.self-inside in
    let f = c.rows.invariant.kept.state in
    let ex : c.list-xs.result.now ≡ part s.graph s.cursor.small = first_list s.graph s.parts.now s.cursor f c.list-xs.result.now c.list-xs.ensures in
    let ey : c.skips-ys.result.now ≡ part s.graph (s.cursor.size - s.cursor.small) = second_list s.graph s.parts.now s.cursor f c.skips-ys.result.now c.skips-ys.ensures in
    omega (arith, c.rows.invariant.kept.few, probes_from_place s.graph s.cursor c.list-xs.result.now c.skips-ys.result.now c.turned_to-self-inside.result.set ex ey c.if-self-xs.true (stands_at c.list-xs.result.now s.cursor.row c.index-xs-self.result c.turned_to-self-inside.result.set c.turned_to-self-inside.ensures.set c.index-xs-self.is) s.cursor.next)

pub returns-in-Some-clause-pair : goal.returns-in-Some-clause-pair
returns-in-Some-clause-pair g c =
    let s = c.rows.self-inside in
    let f = c.rows.invariant.kept.state in
    let ex : c.list-xs.result.now ≡ part s.graph s.cursor.small = first_list s.graph s.parts.now s.cursor f c.list-xs.result.now c.list-xs.ensures in
    let ey : c.skips-ys.result.now ≡ part s.graph (s.cursor.size - s.cursor.small) = second_list s.graph s.parts.now s.cursor f c.skips-ys.result.now c.skips-ys.ensures in
    c.rows.invariant.left
    ∙ taken_here s.graph s.cursor c.list-xs.result.now c.skips-ys.result.now c.turned_to-self-inside.result.set c.next_in_row.new.next ex ey c.if-self-xs.true (stands_at c.list-xs.result.now s.cursor.row c.index-xs-self.result c.turned_to-self-inside.result.set c.turned_to-self-inside.ensures.set c.index-xs-self.is) c.in-Some.p c.in-Some.ensures.pair

pub returns-in-Some-clause-whole : goal.returns-in-Some-clause-whole
returns-in-Some-clause-whole g c =
    let s = c.rows.self-inside in
    let f = c.rows.invariant.kept.state in
    let ex : c.list-xs.result.now ≡ part s.graph s.cursor.small = first_list s.graph s.parts.now s.cursor f c.list-xs.result.now c.list-xs.ensures in
    let ey : c.skips-ys.result.now ≡ part s.graph (s.cursor.size - s.cursor.small) = second_list s.graph s.parts.now s.cursor f c.skips-ys.result.now c.skips-ys.ensures in
    let at = probes_from_place s.graph s.cursor c.list-xs.result.now c.skips-ys.result.now c.turned_to-self-inside.result.set ex ey c.if-self-xs.true (stands_at c.list-xs.result.now s.cursor.row c.index-xs-self.result c.turned_to-self-inside.result.set c.turned_to-self-inside.ensures.set c.index-xs-self.is) in
    omega (arith, c.rows.invariant.total, c.in-Some.ensures.probes, at s.cursor.next, at c.next_in_row.new.next)

pub invariant_of-self : goal.invariant_of-self
invariant_of-self g c = (
  record {
    state = record { cursor = record { graph = c.rows.invariant.kept.state.cursor.graph; small = c.rows.invariant.kept.state.cursor.small; half = c.rows.invariant.kept.state.cursor.half; known = c.rows.invariant.kept.state.cursor.known; fits = c.rows.invariant.kept.state.cursor.fits; row_known = c.rows.invariant.kept.state.cursor.row_known }; made = c.rows.invariant.kept.state.made };
    few = omega (arith, c.rows.invariant.kept.few, c.rows.invariant.total, returns-in-Some-clause-whole g c);
  },
  its_own c.rows.self-inside.graph c.index-xs-self.result c.turned_to-self-inside.result c.turned_to-self-inside.ensures,
)

pub rows-smaller-then-self-xs : goal.rows-smaller-then-self-xs
rows-smaller-then-self-xs g c =
    let s = c.rows.self-inside in
    let e = c.next_row.ensures in
    let ex : c.list-xs.result.now ≡ part s.graph s.cursor.small = first_list s.graph s.parts.now s.cursor c.rows.invariant.kept.state c.list-xs.result.now c.list-xs.ensures in
    row_falls s.graph s.cursor c.next_row.new.self e.sizes.0 e.sizes.1 e.row (omega (arith, ap length ex, c.if-self-xs.true))

pub rows-preserved-then-self-xs : goal.rows-preserved-then-self-xs
rows-preserved-then-self-xs g c =
    let s = c.rows.self-inside in
    let f = c.rows.invariant.kept.state in
    let e = c.next_row.ensures in
    let o = c.in_default.ensures in
    let ex : c.list-xs.result.now ≡ part s.graph s.cursor.small = first_list s.graph s.parts.now s.cursor f c.list-xs.result.now c.list-xs.ensures in
    let ey : c.skips-ys.result.now ≡ part s.graph (s.cursor.size - s.cursor.small) = second_list s.graph s.parts.now s.cursor f c.skips-ys.result.now c.skips-ys.ensures in
    let counted : c.next_in_row.new.probes + probes_at s.graph c.next_row.new.self ≡ s.probes + probes_at s.graph s.cursor =
    omega (
      arith,
      o.probes,
      none_over c.skips-ys.result.now c.turned_to-self-inside.result.set c.next_in_row.new.next (o.end refl),
      probes_from_place s.graph s.cursor c.list-xs.result.now c.skips-ys.result.now c.turned_to-self-inside.result.set ex ey c.if-self-xs.true (stands_at c.list-xs.result.now s.cursor.row c.index-xs-self.result c.turned_to-self-inside.result.set c.turned_to-self-inside.ensures.set c.index-xs-self.is) s.cursor.next,
      row_probes_left s.graph s.cursor c.next_row.new.self (start_at (is_same s.cursor) (s.cursor.row + 1)) e.sizes.0 e.sizes.1 e.row e.next,
    ) in
    record {
      at = its_own s.graph c.index-xs-self.result c.turned_to-self-inside.result c.turned_to-self-inside.ensures;
      kept = record {
        state = record { cursor = row_fits s.graph s.cursor c.next_row.new.self e.sizes.0 e.sizes.1 e.row f.cursor (omega (arith, ap length ex, c.if-self-xs.true)); made = f.made };
        few = omega (arith, c.rows.invariant.kept.few, counted);
      };
      left =
          c.rows.invariant.left
          ∙ passed_here s.graph s.cursor c.list-xs.result.now c.skips-ys.result.now c.turned_to-self-inside.result.set c.next_row.new.self.next ex ey c.if-self-xs.true (stands_at c.list-xs.result.now s.cursor.row c.index-xs-self.result c.turned_to-self-inside.result.set c.turned_to-self-inside.ensures.set c.index-xs-self.is) o.pair.0 e.next
          ∙ row_left s.graph s.cursor c.next_row.new.self e.sizes.0 e.sizes.1 e.row;
      total = omega (arith, c.rows.invariant.total, counted);
      steps = omega (arith, c.rows.invariant.steps, o.steps);
      forward = omega (arith, c.rows.invariant.forward, o.forward);
    }

pub next_sizes-requires-clause-over : goal.next_sizes-requires-clause-over
next_sizes-requires-clause-over g c =
    let s = c.rows.self-inside in
    omega (arith, ap length (first_list s.graph s.parts.now s.cursor c.rows.invariant.kept.state c.list-xs.result.now c.list-xs.ensures), c.if-self-xs.false)

pub rows-smaller : goal.rows-smaller
rows-smaller g c =
    let s = c.rows.self-inside in
    rank_by_sizes s.graph s.cursor c.next_sizes.new.self c.rows.invariant.kept.state.cursor.graph (c.next_sizes.ensures.on c.if-not-next_sizes.false)

pub turned_to-self-inside-requires-clause-connected : goal.turned_to-self-inside-requires-clause-connected
turned_to-self-inside-requires-clause-connected g c =
    let s = c.rows.self-inside in
    let f = c.rows.invariant.kept.state in
    set_connected s.graph s.cursor.small c.list-xs.result.now s.cursor.row c.index-xs-self.result f.cursor.graph (first_list s.graph s.parts.now s.cursor f c.list-xs.result.now c.list-xs.ensures) c.if-self-xs.true c.index-xs-self.is
