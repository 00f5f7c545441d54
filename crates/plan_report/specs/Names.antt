-- The printed names of operators, enumerators and cost models.
use Rattle.std.specs.Prelude.{ℕ, zero, suc, List, codes}
use Rattle.cost_model.specs.declared.model.ModelKind.{ModelKind}
use Rattle.cost_model.specs.declared.model.ModelKind.TheVariants.{Ops, Cout}
use Rattle.dpe_base.specs.declared.kind.Kind.{Kind}
use Rattle.dpe_base.specs.declared.kind.Kind.TheVariants.{DpCcp, DpSub, DpSize, DpSva}

-- by the model's number and the operator's
abbrev pub operator_name : ℕ → ℕ → List ℕ
operator_name zero zero = codes "hash"
operator_name zero (suc zero) = codes "merge"
operator_name zero (suc (suc op)) = codes "loop"
operator_name (suc model) op = codes "join"

abbrev pub enumerator_name : Kind → List ℕ
enumerator_name DpCcp = codes "dpccp"
enumerator_name DpSub = codes "dpsub"
enumerator_name DpSize = codes "dpsize"
enumerator_name DpSva = codes "dpsva"

abbrev pub model_name : ModelKind → List ℕ
model_name Ops = codes "ops"
model_name Cout = codes "cout"
