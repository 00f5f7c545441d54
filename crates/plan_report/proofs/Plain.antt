-- The values of a report have no number with a point.
use Rattle.std.proofs.Common.{◌≡◌, ℕ, Bool, true, false, not, cond, ◌&&◌, List, [], ◌∷◌, ◌++◌, Option, Some, None, refl}
use Rattle.std.proofs.lemmas.List.Folds.{list_all-append}
use Rattle.serde_json.specs.Data.{Data}
use Rattle.serde_json.specs.View.{view, items_of}
use Rattle.serde_json.specs.Written.{has_float, members_have_float, items_have_float}
use Rattle.serde_json.specs.declared.value.Value.{Value}
use Rattle.query_json.specs.declared.refusal.QueryRefusal.{QueryRefusal}
use Rattle.plan_report.specs.declared.entry.Stats.{Stats}
use Rattle.plan_report.specs.Measures.{MeasuredTree, scan_node, join_node}
use Rattle.plan_report.specs.Json.{tree_data, stats_member, accepted_data, refused_data, report_data, values_of, is_plain, are_plain}

tree_plain : (kind : ℕ) (aliases : List (List ℕ)) (m : MeasuredTree) → has_float (tree_data kind aliases m) ≡ false
tree_plain kind aliases (scan_node r numbers) = refl
tree_plain kind aliases (join_node op numbers left right) = rw (tree_plain kind aliases left, tree_plain kind aliases right) refl

stats_plain : (s : Option Stats) → members_have_float (stats_member s) ≡ false
stats_plain (Some s) = refl
stats_plain None = refl

pub planned_plain : (v plan : Value) (name : List ℕ) (cost rows pairs kind : ℕ) (aliases : List (List ℕ)) (m : MeasuredTree) (stats : Option Stats) → view v ≡ accepted_data name cost rows pairs (view plan) (stats_member stats) → view plan ≡ tree_data kind aliases m → is_plain v ≡ true
planned_plain v plan name cost rows pairs kind aliases m stats is has = rw (is, has, tree_plain kind aliases m, stats_plain stats) refl

pub refused_plain : (v : Value) (name : List ℕ) (why : QueryRefusal) → view v ≡ refused_data name why → is_plain v ≡ true
refused_plain v name why is = rw is refl

pub plain_either : (ok : Bool) (vs : List Value) (v : Value) → are_plain vs ≡ true → is_plain v ≡ true → are_plain (cond ok (vs ++ v ∷ []) vs) ≡ true
plain_either true vs v all one = rw (list_all-append is_plain vs (v ∷ []), all, one) refl
plain_either false vs v all one = all

split : (a b : Bool) → (not a && b) ≡ true → (a ≡ false) × (b ≡ true)
split true b h = absurd cc
split false b h = (refl, h)

items_plain : (vs : List Value) → are_plain vs ≡ true → items_have_float (items_of (values_of vs)) ≡ false
items_plain [] h = refl
items_plain (v ∷ vs) h = let t = split (has_float (view v)) (are_plain vs) h in rw (t.0, items_plain vs t.1) refl

pub report_plain : (vs : List Value) (d : Data) → d ≡ report_data (values_of vs) → are_plain vs ≡ true → has_float d ≡ false
report_plain vs d e h = rw (e, items_plain vs h) refl
