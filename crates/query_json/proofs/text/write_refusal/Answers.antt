use Rattle.query_json.specs.Texts.{refusal_text}
use Rattle.query_json.proofs.text.write_refusal.Goals as goal

pub returns-in-UnknownColumn : goal.returns-in-UnknownColumn
unfolding refusal_text
returns-in-UnknownColumn c = rw c.in-UnknownColumn.is c.write_names.ensures

pub returns-in-SelfJoin : goal.returns-in-SelfJoin
unfolding refusal_text
returns-in-SelfJoin c = rw c.in-SelfJoin.is c.write_around-in-SelfJoin.ensures

pub returns-in-BadFraction : goal.returns-in-BadFraction
unfolding refusal_text
returns-in-BadFraction c = rw c.in-BadFraction.is c.write_frac_place.ensures
