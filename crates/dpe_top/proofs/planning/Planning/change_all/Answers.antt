use Rattle.std.proofs.Common.{rules}
use Rattle.dpe_top.proofs.Replanning.{all_made, made_at, none_made, relation_at}
use Rattle.dpe_top.proofs.planning.Planning.change_all.Goals as goal

pub uses-init : goal.uses-init
uses-init g c = none_made c.args.kept.now.query c.args.rows c.args.uses.now

pub uses-preserved : goal.uses-preserved
uses-preserved g c =
    made_at c.args.kept.now.query c.uses.kept.query c.change.new.kept.query c.args.rows c.args.uses.now c.uses.r-index c.uses.again _
    c.in_ok-again.field-0 c.uses.invariant c.uses-test.true c.in_ok-again.ensures.query c.in_ok-again.ensures.again (search rules)

pub returns-clause-query : goal.returns-clause-query
returns-clause-query g c =
    (all_made c.args.kept.now.query c.uses.kept.query c.args.rows c.args.uses.now c.uses.r-index c.uses.again c.uses.invariant c.uses-test.false).0

pub returns-clause-again : goal.returns-clause-again
returns-clause-again g c =
    (all_made c.args.kept.now.query c.uses.kept.query c.args.rows c.args.uses.now c.uses.r-index c.uses.again c.uses.invariant c.uses-test.false).1

pub change-requires-clause-relation : goal.change-requires-clause-relation
change-requires-clause-relation g c κs within =
    relation_at c.args.kept.now.query c.uses.kept.query c.args.rows c.args.uses.now c.uses.r-index c.uses.again _ c.uses.invariant c.requires.relations c.uses-test.true
