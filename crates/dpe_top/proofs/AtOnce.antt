-- What holds of an answer at once.
use Rattle.dpe_top.specs.Answers.{Answer, Task, at_once, reads}
use Rattle.dpe_top.specs.Reply.{AtOnce}

pub at_once_so : (P Q : Answer → Type 0) (t : Task) → ((a : Answer) → P a → Q a) → AtOnce t P → AtOnce t Q
at_once_so P Q (at_once answer) so p = so answer p
at_once_so P Q (reads reading) so p = tt
