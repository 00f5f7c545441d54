use Rattle.std.proofs.Common.{◌∙◌, sym}
use Rattle.std.proofs.lemmas.Bool.{iff_false}
use Rattle.card_scaled.proofs.SparseSteps.{link_in, link_out}
use Rattle.card_scaled.proofs.factors.times_link.Goals as goal

pub returns-then-has : goal.returns-then-has
returns-then-has c = c.mul.ensures ∙ sym (link_in c.args.s c.args.c c.args.link (c.has.ensures.0 c.if-has.true))

pub returns-else-has : goal.returns-else-has
returns-else-has c = sym (link_out c.args.s c.args.c c.args.link (iff_false c.has.ensures c.if-has.false))
