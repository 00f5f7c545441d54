use Rattle.std.proofs.Common.{◌≡◌, length}
use Rattle.enum_dpccp.specs.Sides.{second_left, SecondFits}
use Rattle.enum_dpccp.specs.Touching.{touching_sides}
use Rattle.enum_dpccp.proofs.sides.SecondSides.next_touching.Given as goal

abbrev pub invariant-sides : goal.invariant-sides
invariant-sides l = record {
  fits : SecondFits l.graph l.self;
  left : touching_sides l.r l.a (second_left l.graph l.initial.self) ≡ touching_sides l.r l.a (second_left l.graph l.self);
}

abbrev pub decreases-sides : goal.decreases-sides
decreases-sides l = length (second_left l.graph l.self)
