use Rattle.dpe_base.proofs.SetLaws.{in_full, in_inter, in_minus, in_single, in_union, same_members}
use Rattle.dpe_base.proofs.laws.sets_are_their_members.Goals as goal

pub returns-clause-same : goal.returns-clause-same
returns-clause-same c = same_members

pub returns-clause-single : goal.returns-clause-single
returns-clause-single c = in_single

pub returns-clause-full : goal.returns-clause-full
returns-clause-full c = in_full

pub returns-clause-union : goal.returns-clause-union
returns-clause-union c = in_union

pub returns-clause-inter : goal.returns-clause-inter
returns-clause-inter c = in_inter

pub returns-clause-minus : goal.returns-clause-minus
returns-clause-minus c = in_minus
