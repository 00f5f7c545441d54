-- A reply in memory is an answer.
use Rattle.dpe_top.specs.declared.reply.Reply.{Reply}
use Rattle.dpe_top.specs.Answers.{Answer}

abbrev pub Replies : Answer → Reply → Type 0
Replies answer reply = answer reply.outcome reply.text.items
