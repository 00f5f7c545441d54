use Rattle.std.proofs.lemmas.Bool.{iff_false}
use Rattle.enum_dpsize.proofs.RowLaws.{not_joinable, joinable_by}
use Rattle.enum_dpsize.proofs.pairs.is_joinable.Goals as goal

pub returns-then-meets : goal.returns-then-meets
returns-then-meets c = not_joinable c.args.graph.now c.args.x c.args.y (c.meets.ensures.0 c.if-meets.true)

pub returns : goal.returns
returns c =
    joinable_by c.args.graph.now c.args.x c.args.around c.args.y c.meets-2.result c.recall.ensures c.requires (iff_false c.meets.ensures c.if-meets.false) c.meets-2.ensures
