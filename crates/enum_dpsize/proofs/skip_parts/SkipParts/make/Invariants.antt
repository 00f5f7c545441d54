use Rattle.std.proofs.Common.{◌≡◌, take}
use Rattle.enum_dpsize.proofs.skip_parts.SkipParts.make.Given as goal

abbrev pub invariant-loop-k : goal.invariant-loop-k
invariant-loop-k l = l.all.items ≡ take l.k l.parts
