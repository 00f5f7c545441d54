use Rattle.std.proofs.Common.{sym}
use Rattle.query_forms.proofs.Powers.{places_are}
use Rattle.query_forms.proofs.fraction.write_ratio.Goals as goal

pub decimal_text-requires-clause-power : goal.decimal_text-requires-clause-power
decimal_text-requires-clause-power c = (places_are c.args.ratio c.in-Some.places (sym c.in-Some.ensures)).0

pub decimal_text-requires-clause-most : goal.decimal_text-requires-clause-most
decimal_text-requires-clause-most c = (places_are c.args.ratio c.in-Some.places (sym c.in-Some.ensures)).2
