-- The text of an entry: a line for the query, one for the numbers, and one for each node of the tree.
use Rattle.std.specs.Prelude.{ℕ, zero, suc, ◌+◌, max, List, [], ◌∷◌, ◌++◌, Option, Some, None, codes, decimal, slice_index_or}
use Rattle.dpe_base.specs.Queries.{JoinQuery, relations}
use Rattle.dpe_base.specs.Sets.{full}
use Rattle.query_json.specs.declared.refusal.QueryRefusal.{QueryRefusal}
use Rattle.query_json.specs.Texts.{refusal_code, refusal_text}
use Rattle.card_scaled.specs.Cards.{rows}
use Rattle.join_tree.specs.Trees.{JoinTree, leaf, join, cost}
use Rattle.plan_report.specs.declared.entry.Stats.{Stats}
use Rattle.plan_report.specs.Measures.{MeasuredTree, scan_node, join_node, measured}
use Rattle.plan_report.specs.Names.{operator_name, enumerator_name}
use Rattle.plan_report.specs.Entries.{PlannedQuery, ReportEntry, planned, refused}

abbrev pub newline : List ℕ
newline = 10 ∷ []

-- two spaces a level
abbrev pub indent : ℕ → List ℕ
indent zero = []
indent (suc n) = indent n ++ codes "  "

abbrev pub query_line : List ℕ → List ℕ
query_line name = codes "query " ++ (name ++ newline)

abbrev pub numbers_line : ℕ → ℕ → ℕ → List ℕ
numbers_line cost rows pairs = codes "cost " ++ (decimal cost ++ (codes " rows " ++ (decimal rows ++ (codes " pairs " ++ (decimal pairs ++ newline)))))

abbrev pub scan_line : List ℕ → ℕ → List ℕ
scan_line alias rows = codes "scan " ++ (alias ++ (codes " rows " ++ (decimal rows ++ newline)))

abbrev pub join_line : List ℕ → ℕ → ℕ → List ℕ
join_line operator rows cost = operator ++ (codes " rows " ++ (decimal rows ++ (codes " cost " ++ (decimal cost ++ newline))))

abbrev pub stats_line : Stats → List ℕ
stats_line s =
    codes "stats "
    ++ (enumerator_name s.enumerator ++ (codes " buffer " ++ (decimal s.buffer ++ (codes " buffers " ++ (decimal s.buffers
    ++ (codes " rounds " ++ (decimal s.rounds ++ (codes " probes " ++ (decimal s.probes ++ newline)))))))))

-- each node on a line of its own, before its sides, the left one first
abbrev pub tree_text : ℕ → List (List ℕ) → ℕ → MeasuredTree → List ℕ
tree_text kind aliases depth (scan_node r numbers) = indent depth ++ scan_line (slice_index_or aliases r []) numbers.rows
tree_text kind aliases depth (join_node op numbers left right) =
    indent depth
    ++ (join_line (operator_name kind op) numbers.rows numbers.cost ++ (tree_text kind aliases (suc depth) left ++ tree_text kind aliases (suc depth) right))

abbrev pub plan_text : ℕ → JoinQuery → List (List ℕ) → ℕ → JoinTree → List ℕ
plan_text kind q aliases depth t = tree_text kind aliases depth (measured kind q t)

abbrev pub stats_text : Option Stats → List ℕ
stats_text (Some s) = stats_line s
stats_text None = []

abbrev pub planned_text : PlannedQuery → List ℕ
planned_text e =
    query_line e.name
    ++ (numbers_line (cost e.kind e.query e.tree) (rows e.query (full (relations e.query))) e.pairs
    ++ (plan_text e.kind e.query e.aliases 0 e.tree ++ stats_text e.stats))

abbrev pub refused_line : QueryRefusal → List ℕ
refused_line why = codes "refused " ++ (decimal (refusal_code why) ++ (codes ": " ++ (refusal_text why ++ newline)))

abbrev pub refused_text : List ℕ → QueryRefusal → List ℕ
refused_text name why = query_line name ++ refused_line why

abbrev pub entry_text : ReportEntry → List ℕ
entry_text (planned e) = planned_text e
entry_text (refused name why) = refused_text name why

-- how many joins stand above the deepest leaf
abbrev pub height : JoinTree → ℕ
height (leaf r) = 0
height (join op left right) = 1 + max (height left) (height right)
