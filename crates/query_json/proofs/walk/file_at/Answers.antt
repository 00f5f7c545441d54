use Rattle.query_json.proofs.WalkLaws.{given_within}
use Rattle.query_json.proofs.walk.file_at.Goals as goal

pub returns-clause-within : goal.returns-clause-within
returns-clause-within g c = given_within (g.N.Node.as_data c.args.root.now) c.parts_of.result c.parts_of.ensures
