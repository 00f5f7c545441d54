use Rattle.reopt.proofs.Changes.{relations_stay}
use Rattle.reopt.proofs.tests.is_planning_anew.Goals as goal

pub returns-in_err-count : goal.returns-in_err-count
returns-in_err-count g c = relations_stay c.args.kept.now.query c.change.new.self.query c.args.case.now.r c.args.case.now.rows c.in_ok-again.ensures.changed.query

pub returns-in_err-anew : goal.returns-in_err-anew
returns-in_err-anew g c = relations_stay c.args.kept.now.query c.change.new.self.query c.args.case.now.r c.args.case.now.rows c.in_ok-again.ensures.changed.query

pub returns : goal.returns
returns g c = relations_stay c.args.kept.now.query c.change.new.self.query c.args.case.now.r c.args.case.now.rows c.in_ok-again.ensures.changed.query
