use Rattle.std.proofs.Common.{rules}
use Rattle.dpe_words.specs.Line.{texts_of}
use Rattle.dpe_top.specs.Reply.{task}
use Rattle.dpe_top.proofs.AtOnce.{at_once_so}
use Rattle.dpe_top.proofs.call.dpe.Goals as goal

pub returns-clause-write_fault : goal.returns-clause-write_fault
returns-clause-write_fault g c = λ _.
    let reply = c.in-Ok.reply in
    let at_once = at_once_so _ _ (task (texts_of c.args.words.now)) (λ a p. p.1) c.in-Ok.ensures.unread in
    (search rules, (reply.outcome, reply.text.items, at_once, c.in-Ok.ensures.said, search rules, search rules))
