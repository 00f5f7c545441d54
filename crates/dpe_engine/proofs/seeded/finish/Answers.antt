use Rattle.std.proofs.Common.{rules, arith, refl}
use Rattle.dpe_engine.proofs.Ends.{words_are}
use Rattle.dpe_engine.proofs.seeded.finish.Goals as goal

pub returns : goal.returns
returns g c =
    let r = c.requires in
    let e = c.finish-words.ensures in
    record {
      size = search rules;
      words = λ s h. words_are _ _ _ _ _ r.plan r.between s _ (e.words s h);
      pairs = refl;
      drawn = let a = r.between.tickets.count in let b = e.drawn.count in omega arith;
      buffers = refl;
      all_rounds = refl;
    }
