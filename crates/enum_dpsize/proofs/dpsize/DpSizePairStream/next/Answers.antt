use Rattle.std.proofs.Common.{◌≡◌, ◌-◌, ◌∙◌, arith, ap, length}
use Rattle.pair_stream.specs.Parts.{part}
use Rattle.enum_dpsize.proofs.Neighbourhoods.{its_own, stands_at}
use Rattle.enum_dpsize.proofs.PartLists.{part_connected, set_connected}
use Rattle.enum_dpsize.proofs.DpsizeSteps.{first_known, second_known, first_list, second_list, taken_here, passed_here, rank_by_sizes, row_fits, row_falls, row_left}
use Rattle.enum_dpsize.proofs.dpsize.DpSizePairStream.next.Goals as goal

pub part-xs-requires : goal.part-xs-requires
part-xs-requires g c = let s = c.rows.self-inside in first_known s.graph s.parts.now s.cursor c.rows.invariant.fits

pub part-ys-requires : goal.part-ys-requires
part-ys-requires g c = let s = c.rows.self-inside in second_known s.graph s.parts.now s.cursor c.rows.invariant.fits

pub next_in_row-requires-clause-x : goal.next_in_row-requires-clause-x
next_in_row-requires-clause-x g c =
    let s = c.rows.self-inside in
    let f = c.rows.invariant.fits in
    set_connected s.graph s.cursor.small c.part-xs.result.now s.cursor.row c.turned_to-self-inside.result.set f.cursor.graph (first_list s.graph s.parts.now s.cursor f c.part-xs.result.now c.part-xs.ensures) c.if-self-xs.true (stands_at c.part-xs.result.now s.cursor.row c.index-xs-self.result c.turned_to-self-inside.result.set c.turned_to-self-inside.ensures.set c.index-xs-self.is)

pub next_in_row-requires-clause-ys : goal.next_in_row-requires-clause-ys
next_in_row-requires-clause-ys g c =
    let s = c.rows.self-inside in
    let f = c.rows.invariant.fits in
    part_connected s.graph (s.cursor.size - s.cursor.small) c.part-ys.result.now f.cursor.graph (second_list s.graph s.parts.now s.cursor f c.part-ys.result.now c.part-ys.ensures)

pub returns-in-Some-clause-pair : goal.returns-in-Some-clause-pair
returns-in-Some-clause-pair g c =
    let s = c.rows.self-inside in
    let f = c.rows.invariant.fits in
    let ex : c.part-xs.result.now ≡ part s.graph s.cursor.small = first_list s.graph s.parts.now s.cursor f c.part-xs.result.now c.part-xs.ensures in
    let ey : c.part-ys.result.now ≡ part s.graph (s.cursor.size - s.cursor.small) = second_list s.graph s.parts.now s.cursor f c.part-ys.result.now c.part-ys.ensures in
    c.rows.invariant.left
    ∙ taken_here s.graph s.cursor c.part-xs.result.now c.part-ys.result.now c.turned_to-self-inside.result.set c.next_in_row.new.next ex ey c.if-self-xs.true (stands_at c.part-xs.result.now s.cursor.row c.index-xs-self.result c.turned_to-self-inside.result.set c.turned_to-self-inside.ensures.set c.index-xs-self.is) c.in-Some.p c.in-Some.ensures

pub rows-smaller-then-self-xs : goal.rows-smaller-then-self-xs
rows-smaller-then-self-xs g c =
    let s = c.rows.self-inside in
    let e = c.next_row.ensures in
    let ex : c.part-xs.result.now ≡ part s.graph s.cursor.small = first_list s.graph s.parts.now s.cursor c.rows.invariant.fits c.part-xs.result.now c.part-xs.ensures in
    row_falls s.graph s.cursor c.next_row.new.self e.sizes.0 e.sizes.1 e.row (omega (arith, ap length ex, c.if-self-xs.true))

pub rows-preserved-then-self-xs : goal.rows-preserved-then-self-xs
rows-preserved-then-self-xs g c =
    let s = c.rows.self-inside in
    let f = c.rows.invariant.fits in
    let e = c.next_row.ensures in
    let ex : c.part-xs.result.now ≡ part s.graph s.cursor.small = first_list s.graph s.parts.now s.cursor f c.part-xs.result.now c.part-xs.ensures in
    let ey : c.part-ys.result.now ≡ part s.graph (s.cursor.size - s.cursor.small) = second_list s.graph s.parts.now s.cursor f c.part-ys.result.now c.part-ys.ensures in
    record {
      at = its_own s.graph c.index-xs-self.result c.turned_to-self-inside.result c.turned_to-self-inside.ensures;
      fits = record { cursor = row_fits s.graph s.cursor c.next_row.new.self e.sizes.0 e.sizes.1 e.row f.cursor (omega (arith, ap length ex, c.if-self-xs.true)); made = f.made };
      left =
          c.rows.invariant.left
          ∙ passed_here s.graph s.cursor c.part-xs.result.now c.part-ys.result.now c.turned_to-self-inside.result.set c.next_row.new.self.next ex ey c.if-self-xs.true (stands_at c.part-xs.result.now s.cursor.row c.index-xs-self.result c.turned_to-self-inside.result.set c.turned_to-self-inside.ensures.set c.index-xs-self.is) c.in_default.ensures.0 e.next
          ∙ row_left s.graph s.cursor c.next_row.new.self e.sizes.0 e.sizes.1 e.row;
    }

pub next_sizes-requires-clause-over : goal.next_sizes-requires-clause-over
next_sizes-requires-clause-over g c =
    let s = c.rows.self-inside in
    omega (arith, ap length (first_list s.graph s.parts.now s.cursor c.rows.invariant.fits c.part-xs.result.now c.part-xs.ensures), c.if-self-xs.false)

pub rows-smaller : goal.rows-smaller
rows-smaller g c =
    let s = c.rows.self-inside in
    rank_by_sizes s.graph s.cursor c.next_sizes.new.self c.rows.invariant.fits.cursor.graph (c.next_sizes.ensures.on c.if-not-next_sizes.false)

pub turned_to-self-inside-requires-clause-connected : goal.turned_to-self-inside-requires-clause-connected
turned_to-self-inside-requires-clause-connected g c =
    let s = c.rows.self-inside in
    let f = c.rows.invariant.fits in
    set_connected s.graph s.cursor.small c.part-xs.result.now s.cursor.row c.index-xs-self.result f.cursor.graph (first_list s.graph s.parts.now s.cursor f c.part-xs.result.now c.part-xs.ensures) c.if-self-xs.true c.index-xs-self.is
