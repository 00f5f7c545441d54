use Rattle.skip_vector.proofs.ColumnLaws.{Built}
use Rattle.skip_vector.proofs.column.Column.make.Given as goal

abbrev pub invariant-loop-back : goal.invariant-loop-back
invariant-loop-back l = Built l.entries l.len l.back l.near.items l.far.items l.end
