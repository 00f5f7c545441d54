use Rattle.std.proofs.Common.{rules, arith, ◌≡◌, ◌<◌, ◌∙◌, refl, length}
use Rattle.std.specs.Mem.Slots.{slots_items}
use Rattle.memo_table.proofs.Ending.{all_to_come, place_known}
use Rattle.memo_table.proofs.finish.copy_connected.Goals as goal

pub sets-init : goal.sets-init
sets-init c =
    record {
      size = refl;
      fits = c.over-sets.ensures.fits;
      others =
          all_to_come c.args.graph.now (slots_items c.args.closed.now.words) c.args.row.now _ c.recall.ensures c.over-sets.ensures.left c.requires.others;
    }

pub word-word-requires : goal.word-word-requires
word-word-requires c =
    let known : c.in-Some.s < length c.sets.row =
    place_known c.args.graph.now _ _ c.in-Some.ensures.connected (c.sets.invariant.size ∙ c.requires.graph) in
    (omega (arith, known, c.place_of.ensures, c.requires.sized, c.sets.invariant.size), search rules)

pub bounds-row-bits : goal.bounds-row-bits
bounds-row-bits c =
    let known : c.in-Some.s < length c.sets.row =
    place_known c.args.graph.now _ _ c.in-Some.ensures.connected (c.sets.invariant.size ∙ c.requires.graph) in
    omega (arith, known, c.bits.ensures)
