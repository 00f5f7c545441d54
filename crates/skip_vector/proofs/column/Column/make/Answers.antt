use Rattle.std.proofs.Common.{◌-◌, ap, arith, length, refl, slice_set, ℕ, Vec}
use Rattle.std.specs.declared.alloc.Global.{Global}
use Rattle.skip_vector.proofs.ColumnLaws.{built_block, built_more}
use Rattle.skip_vector.proofs.column.Column.make.Goals as goal
use Rattle.skip_vector.proofs.column.Column.make.Goals.{then-i-eq0, else-i-eq0}

pub loop-back-preserved : goal.loop-back-preserved
loop-back-preserved c =
    let l = c.loop-back in
    let i : ℕ = length c.args.entries.now - 1 - l.back in
    elim c.if-i-eq0.branch [
      | then-i-eq0 w ↦
          built_block c.args.entries.now c.args.len l.back i c.place_after-end.result l.near.items l.far.items _ c.if-i-eq0.far.items l.end l.invariant (omega (arith, c.loop-back-test.true)) refl c.place_after-end.ensures
          (ap (λ (n : ℕ). slice_set l.near.items i n) c.min.ensures) w.if-i-eq0.true (ap (λ (v : Vec ℕ Global). v.items) w.far-is)
      | else-i-eq0 w ↦
          built_more c.args.entries.now c.args.len l.back i c.place_after-end.result l.near.items l.far.items _ c.if-i-eq0.far.items l.end l.invariant (omega (arith, c.loop-back-test.true)) refl c.place_after-end.ensures
          (ap (λ (n : ℕ). slice_set l.near.items i n) c.min.ensures) w.if-i-eq0.false (ap (λ (v : Vec ℕ Global). v.items) w.far-is)
    ]
