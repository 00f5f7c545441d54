use Rattle.std.proofs.Common.{◌≡◌, ℕ, ◌<◌, ◌^◌, length, slice_index}
use Rattle.dpe_base.specs.Queries.{relations}
use Rattle.plan_space.specs.declared.class.Class.TheVariants.{LeftDeep}
use Rattle.plan_space.specs.LeastWords.{LeastOrEmpty}
use Rattle.plan_space.proofs.left_deep.left_words.Given as goal

abbrev pub invariant-loop-k : goal.invariant-loop-k
invariant-loop-k g l = record {
  sized : length l.words.items ≡ 2 ^ relations l.query;
  places : (s : ℕ) → s < l.k → LeastOrEmpty LeftDeep g.M.CostModel.KIND l.query s (slice_index l.words.items s);
}
