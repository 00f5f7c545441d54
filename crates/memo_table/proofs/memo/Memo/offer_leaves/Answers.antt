use Rattle.std.proofs.Common.{arith, inr, ◌<◌, refl}
use Rattle.dpe_base.specs.declared.TheConstants.{N_MAX}
use Rattle.dpe_base.specs.Queries.{relations}
use Rattle.dpe_base.specs.Sets.{full}
use Rattle.dpe_base.proofs.SetLaws.{full_has, single_some, single_within}
use Rattle.memo_table.specs.Making.{space_of}
use Rattle.memo_table.proofs.Leaves.{no_leaves, opens_more}
use Rattle.memo_table.proofs.TreeWords.{leaf_made}
use Rattle.memo_table.proofs.memo.Memo.offer_leaves.Goals as goal

pub offer-requires-clause-some : goal.offer-requires-clause-some
offer-requires-clause-some g c κs within = rw c.single.ensures (single_some c.loop-r.r)

pub offer-requires-clause-within : goal.offer-requires-clause-within
offer-requires-clause-within g c κs within =
    let inside : c.loop-r.r < relations c.args.self.now.query = let n = c.requires.n in let t = c.loop-r-test.true in omega arith in
    rw c.single.ensures (single_within (full (relations c.args.self.now.query)) c.loop-r.r (full_has (relations c.args.self.now.query) c.loop-r.r inside))

pub offer-requires-clause-word : goal.offer-requires-clause-word
offer-requires-clause-word g c κs within =
    let inside : c.loop-r.r < relations c.args.self.now.query = let n = c.requires.n in let t = c.loop-r-test.true in omega arith in
    inr (rw (c.single.ensures, c.leaf_word.ensures) (leaf_made _ (space_of c.args.self.now.query c.args.self.now.pairs) c.loop-r.r inside))

pub loop-r-init : goal.loop-r-init
loop-r-init g c = record {
  seat = c.requires.seat;
  weight = refl;
  floor = refl;
  tickets = refl;
  allowance = refl;
  leaves = no_leaves c.args.seat.now.view c.requires.none;
}

pub loop-r-preserved : goal.loop-r-preserved
loop-r-preserved g c =
    let low : c.loop-r.r < N_MAX = let n = c.requires.n in let t = c.loop-r-test.true in omega arith in
    opens_more _ _ _ _ c.loop-r.r c.loop-r.invariant c.offer.ensures.table (rw (c.single.ensures, c.leaf_word.ensures) at c.offer.ensures.view) low
