-- The numbers of the statuses.
use Rattle.std.specs.Prelude.{ℕ}
use Rattle.dpe_top.specs.declared.status.Status.{Status}
use Rattle.dpe_top.specs.declared.status.Status.TheVariants.{Done, SomeRefused, Usage, Input, ReadFault, WriteFault, NoMemory}

-- the number with which the program ends
abbrev pub number_of : Status → ℕ
number_of Done = 0
number_of SomeRefused = 1
number_of Usage = 2
number_of Input = 3
number_of ReadFault = 4
number_of WriteFault = 5
number_of NoMemory = 6
