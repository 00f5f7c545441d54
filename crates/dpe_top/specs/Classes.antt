-- The class of trees among which a mode plans.
use Rattle.std.specs.Prelude.{Option, Some, None}
use Rattle.plan_space.specs.declared.class.Class.{Class}
use Rattle.plan_space.specs.declared.class.Class.TheVariants as class
use Rattle.dpe_words.specs.declared.choices.Mode.{Mode}
use Rattle.dpe_words.specs.declared.choices.Mode.TheVariants.{Plan, Sample, Migrate, Certify, Check, Narrow, Zigzag, Leftdeep, Reopt}

-- none where it plans among all trees
abbrev pub class_of : Mode → Option Class
class_of Plan = None
class_of Sample = None
class_of Migrate = None
class_of Certify = None
class_of Check = None
class_of Narrow = Some class.Narrow
class_of Zigzag = Some class.ZigZag
class_of Leftdeep = Some class.LeftDeep
class_of Reopt = None
