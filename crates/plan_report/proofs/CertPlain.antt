-- A certificate file has no number with a point, where its workload has none.
use Rattle.std.proofs.Common.{◌≡◌, ℕ, Bool, false, List, [], ◌∷◌, map, Option, Some, None, refl}
use Rattle.serde_json.specs.Data.{Data}
use Rattle.serde_json.specs.View.{items_of}
use Rattle.serde_json.specs.Written.{has_float, items_have_float}
use Rattle.cost_model.specs.declared.model.ModelKind.{ModelKind}
use Rattle.join_tree.specs.Trees.{JoinTree, leaf, join}
use Rattle.plan_report.specs.Json.{whole}
use Rattle.plan_report.specs.Certs.{file_written}
use Rattle.plan_report.specs.Certs.Members.{Certificate, member_written}
use Rattle.plan_report.specs.Certs.Plans.{plan_written}

plan_plain : (t : JoinTree) → has_float (plan_written t) ≡ false
plan_plain (leaf r) = refl
plan_plain (join op left right) = rw (plan_plain left, plan_plain right) refl

bounds_plain : (bounds : List ℕ) → items_have_float (items_of (map whole bounds)) ≡ false
bounds_plain [] = refl
bounds_plain (b ∷ bs) = bounds_plain bs

member_plain : (c : Option Certificate) → has_float (member_written c) ≡ false
member_plain None = refl
member_plain (Some c) = rw (bounds_plain c.bounds, plan_plain c.tree) refl

members_plain : (cs : List (Option Certificate)) → items_have_float (items_of (map member_written cs)) ≡ false
members_plain [] = refl
members_plain (c ∷ cs) = rw (member_plain c, members_plain cs) refl

pub file_plain : (model : ModelKind) (workload : Data) (cs : List (Option Certificate)) → has_float workload ≡ false
    → has_float (file_written model workload cs) ≡ false
file_plain model workload cs plain = rw (members_plain cs, plain) refl
