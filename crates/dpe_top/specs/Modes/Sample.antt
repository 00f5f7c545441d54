-- Mode sample: the summary of a sample workload, sums over its planned queries.
use Rattle.std.specs.Prelude.{◌≡◌, ℕ, List, [], ◌∷◌, ◌++◌, length, Option, Some, None, Ok, codes, decimal}
use Rattle.std.specs.List.{filter_map, sum_by}
use Rattle.dpe_base.specs.Queries.{JoinQuery, relations}
use Rattle.dpe_base.specs.Sets.{full}
use Rattle.join_tree.specs.Trees.{JoinTree, Plan, cost}
use Rattle.query_json.specs.declared.entry.Entry.{Entry}
use Rattle.query_json.specs.declared.entry.Part.{Part}
use Rattle.query_json.specs.declared.entry.Part.TheVariants.{Accepted, Refused}
use Rattle.query_json.specs.Entries.{entries_of}
use Rattle.plan_report.specs.Texts.{newline}
use Rattle.workload_gen.specs.Values.{workload_of}
use Rattle.dpe_words.specs.declared.choices.Settings.{Settings}
use Rattle.dpe_top.specs.declared.status.Outcome.TheVariants.{Done}
use Rattle.dpe_top.specs.declared.modes.sample.Share.{Share}
use Rattle.dpe_top.specs.declared.modes.sample.Totals.{Totals}
use Rattle.dpe_top.specs.Answers.{Answer}
use Rattle.dpe_top.specs.Modes.Report.{model_number}
use Rattle.planner.specs.Plans.{IsPairCount}

abbrev pub query_in : Part → Option JoinQuery
query_in (Accepted named) = Some named.query
query_in (Refused why) = None

-- the queries that are planned: those that are not refused
abbrev pub planned_queries : List Entry → List JoinQuery
planned_queries entries = filter_map (λ e. query_in e.part) entries

-- how many csg-cmp-pairs the query has, and what its plan costs
pub record IsShare (model : ℕ) (q : JoinQuery) (share : Share) : Type 0 where
  pub pairs : IsPairCount q share.pairs
  pub plan : (tree : JoinTree) × Plan model q (full (relations q)) tree × (share.cost ≡ cost model q tree)

-- the same of each query, one by one
abbrev pub AreShares : ℕ → List JoinQuery → List Share → Type 0
AreShares model [] [] = Unit {0}
AreShares model [] (share ∷ more) = ⊥
AreShares model (q ∷ rest) [] = ⊥
AreShares model (q ∷ rest) (share ∷ more) = IsShare model q share × AreShares model rest more

-- the sums over the queries and their shares
abbrev pub totals_of : List JoinQuery → List Share → Totals
totals_of queries shares = record {
  queries = length queries;
  relations = sum_by relations queries;
  joins = sum_by (λ q. length q.preds) queries;
  pairs = sum_by (λ s. s.pairs) shares;
  cost = sum_by (λ s. s.cost) shares;
}

unfoldable pub summary_line : ℕ → Totals → List ℕ
summary_line number t =
    codes "sample " ++ (decimal number ++ (codes " queries " ++ (decimal t.queries ++ (codes " relations " ++ (decimal t.relations
    ++ (codes " joins " ++ (decimal t.joins ++ (codes " pairs " ++ (decimal t.pairs ++ (codes " cost " ++ (decimal t.cost ++ newline)))))))))))

-- the totals of the entries' queries
abbrev pub AreTotals : ℕ → List Entry → Totals → Type 0
AreTotals model entries t =
    (shares : List Share) × AreShares model (planned_queries entries) shares × (t ≡ totals_of (planned_queries entries) shares)

-- the text is the summary of the entries, under the number that they come from
abbrev pub IsSummary : ℕ → ℕ → List Entry → List ℕ → Type 0
IsSummary model number entries text = (t : Totals) × AreTotals model entries t × (text ≡ summary_line number t)

-- the text is the summary of the workload that the number gives
abbrev pub IsSample : ℕ → ℕ → List ℕ → Type 0
IsSample model number text =
    (entries : List Entry) × (entries_of (workload_of number) ≡ Ok entries) × IsSummary model number entries text

-- the summary of the settings' number, by their model
abbrev pub sample : Settings → Answer
sample settings outcome text = (outcome ≡ Done) × IsSample (model_number settings.model) settings.number text
