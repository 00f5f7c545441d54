use Rattle.std.proofs.Common.{arith, ◌≡◌, ◌+◌, ℕ, List, Contains, min, length, refl, ap, ◌∙◌, subst}
use Rattle.dpe_base.specs.declared.pair.Pair.{Pair}
use Rattle.reorder_buffer.specs.declared.TheConstants.{SIZES}
use Rattle.reorder_buffer.specs.Groups.{groups_below}
use Rattle.dpe_engine.specs.Running.Between.{below, IsBetween, IsToCome}
use Rattle.dpe_engine.proofs.Advances.{buffer_done, begins_buffer, none_counted, counted_on}
use Rattle.dpe_engine.proofs.run.consumer.Consumer.work.Goals as goal

pub sizes-init : goal.sizes-init
sizes-init g c =
    let r = c.requires in
    let self = c.args.self in
    record {
      may = record {
        plan = r.plan;
        free = r.free;
        later = r.later;
        at = record { left = r.at.left; between = begins_buffer _ _ self.pairs _ self.full.pairs r.later _ r.plan r.at.between };
      };
      reached = λ later at. record { left = at.left; between = begins_buffer _ _ self.pairs _ self.full.pairs later _ r.plan at.between };
      counted = none_counted self.rounds self.full.pairs;
      same = record { contents = refl; room = refl; pairs = refl; buffers = refl };
    }

pub sizes-preserved : goal.sizes-preserved
sizes-preserved g c =
    let i = c.sizes.invariant in
    let e = c.work_group.ensures in
    let self = c.args.self in
    let contents = ap (λ (l : List Pair). length (groups_below c.sizes.size l)) i.same.contents in
    let contents' = ap (λ (l : List Pair). length (groups_below (c.sizes.size + 1) l)) i.same.contents in
    record {
      may = record { plan = i.may.plan; free = e.free; later = i.may.later; at = e.at i.may.later i.may.at };
      reached = λ later at. e.at later (i.reached later at);
      counted = counted_on c.sizes.size self.rounds _ _ self.full.pairs i.counted (let a = e.counted in omega arith);
      same = record {
        contents = e.same.contents ∙ i.same.contents;
        room = e.same.room ∙ i.same.room;
        pairs = e.same.pairs ∙ i.same.pairs;
        buffers = e.same.buffers ∙ i.same.buffers;
      };
    }

pub returns : goal.returns
returns g c =
    let i = c.sizes.invariant in
    let model = g.M.CostModel.KIND in
    let shared = c.args.shared.now in
    let self = c.args.self in
    let now = c.sizes.consumer in
    let end : c.sizes.size ≡ SIZES = let a = c.sizes-test.false in let b = c.sizes.auto.size-end in omega arith in
    let G : ℕ → Type 0 = λ n. now.rounds ≡ self.rounds + length (groups_below n self.full.pairs) in
    let contents = ap (λ (l : List Pair). length l) i.same.contents in
    let count : c.len-count.result ≡ length self.full.pairs = c.len-count.ensures.is ∙ contents in
    let pairs : now.pairs + length now.full.pairs ≡ now.pairs + c.len-count.result = let a = c.len-count.ensures.is in omega arith in
    record {
      between = λ later at.
          let F : ℕ → Type 0 = λ n. IsBetween model shared (IsToCome n now.full.pairs later) (now.pairs + length (below n now.full.pairs)) now.rounds now.seat in
          let K : ℕ → Type 0 = λ k. IsBetween model shared (Contains later) k now.rounds now.seat in
          subst K pairs (buffer_done _ _ now.pairs _ now.full.pairs later _ i.may.plan c.len-count.ensures.small (subst F end (i.reached later at).between));
      counted = subst G end i.counted;
      pairs = let a = i.same.pairs in omega arith;
      buffers = let a = i.same.buffers in let m : c.min.result ≡ min (length self.full.pairs) 1 = c.min.ensures ∙ ap (λ (k : ℕ). min k 1) count in omega arith;
      room = i.same.room;
      free = record { empty = i.may.free.empty; room = i.may.free.room };
    }
