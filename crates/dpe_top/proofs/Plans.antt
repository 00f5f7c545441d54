-- What the report asks of a plan.
use Rattle.std.proofs.Common.{◌<◌, ℕ, Option, Some, None}
use Rattle.dpe_base.specs.declared.TheConstants.{COST_LIMIT}
use Rattle.dpe_base.specs.Queries.{JoinQuery, IsQuery}
use Rattle.join_tree.specs.Trees.{JoinTree, leaf, join, set_of, cost, root_word, Best, EverySubtree, Plan}
use Rattle.join_tree.proofs.BestLaws.{least_split_below}
use Rattle.plan_space.specs.declared.class.Class.{Class}
use Rattle.plan_space.specs.Classes.{LeastIn}
use Rattle.plan_space.proofs.ClassLaws.{least_below}
use Rattle.planner.specs.Classes.{IsPlanAmong}

every_root : (P : JoinTree → Type 0) (t : JoinTree) → EverySubtree P t → P t
every_root P (leaf r) every = every
every_root P (join op left right) every = every.0

-- a plan has a word
pub plan_below : (class : Option Class) (model : ℕ) (q : JoinQuery) (s : ℕ) (t : JoinTree) → IsQuery q
    → IsPlanAmong class model q s t → cost model q t < COST_LIMIT
plan_below None model q s t ok plan = least_split_below model q t ok plan.legal
    (every_root (λ u. Best model q (set_of u) (root_word model q u)) t plan.best)
plan_below (Some c) model q s t ok plan = least_below c model q ok t plan.in_class.legal
    (every_root (λ u. LeastIn c model q (set_of u) (root_word model q u)) t plan.best)
