-- The JSON of an entry. The members of an object stand in the order of their names' bytes.
use Rattle.std.specs.Prelude.{ℕ, List, [], ◌++◌, map, not, Bool, Option, Some, None, codes, slice_index_or}
use Rattle.serde_json.specs.Data.{Data, Members, number, unsigned, string, array, object, member, no_members}
use Rattle.std.specs.List.{list_all}
use Rattle.serde_json.specs.View.{view, items_of}
use Rattle.serde_json.specs.Written.{compact_text, has_float}
use Rattle.serde_json.specs.declared.value.Value.{Value}
use Rattle.dpe_base.specs.Queries.{JoinQuery, relations}
use Rattle.dpe_base.specs.Sets.{full}
use Rattle.query_json.specs.declared.refusal.QueryRefusal.{QueryRefusal}
use Rattle.query_json.specs.Texts.{refusal_code, refusal_text}
use Rattle.card_scaled.specs.Cards.{rows}
use Rattle.join_tree.specs.Trees.{JoinTree, cost}
use Rattle.plan_report.specs.declared.entry.Stats.{Stats}
use Rattle.plan_report.specs.Texts.{newline}
use Rattle.plan_report.specs.Measures.{MeasuredTree, scan_node, join_node, measured}
use Rattle.plan_report.specs.Names.{operator_name, enumerator_name}
use Rattle.plan_report.specs.Entries.{PlannedQuery, ReportEntry, planned, refused}

abbrev pub whole : ℕ → Data
whole n = number (unsigned n)

abbrev pub scan_data : List ℕ → ℕ → Data
scan_data alias rows =
    object (member (codes "alias") (string alias) (member (codes "op") (string (codes "scan")) (member (codes "rows") (whole rows) no_members)))

abbrev pub join_data : List ℕ → ℕ → ℕ → Data → Data → Data
join_data operator rows cost left right =
    object (member (codes "cost") (whole cost) (member (codes "left") left (member (codes "op") (string operator)
    (member (codes "right") right (member (codes "rows") (whole rows) no_members)))))

-- nested as the tree is
abbrev pub tree_data : ℕ → List (List ℕ) → MeasuredTree → Data
tree_data kind aliases (scan_node r numbers) = scan_data (slice_index_or aliases r []) numbers.rows
tree_data kind aliases (join_node op numbers left right) =
    join_data (operator_name kind op) numbers.rows numbers.cost (tree_data kind aliases left) (tree_data kind aliases right)

abbrev pub plan_data : ℕ → JoinQuery → List (List ℕ) → JoinTree → Data
plan_data kind q aliases t = tree_data kind aliases (measured kind q t)

abbrev pub stats_data : Stats → Data
stats_data s =
    object (member (codes "buffer") (whole s.buffer) (member (codes "buffers") (whole s.buffers) (member (codes "enumerator") (string (enumerator_name s.enumerator))
    (member (codes "probes") (whole s.probes) (member (codes "rounds") (whole s.rounds) no_members)))))

abbrev pub stats_member : Option Stats → Members
stats_member (Some s) = member (codes "stats") (stats_data s) no_members
stats_member None = no_members

-- the members of every accepted entry, and then the others
abbrev pub accepted_data : List ℕ → ℕ → ℕ → ℕ → Data → Members → Data
accepted_data name cost rows pairs plan others =
    object (member (codes "cost") (whole cost) (member (codes "name") (string name) (member (codes "pairs") (whole pairs)
    (member (codes "plan") plan (member (codes "rows") (whole rows) others)))))

abbrev pub planned_data : PlannedQuery → Data
planned_data e =
    accepted_data e.name (cost e.kind e.query e.tree) (rows e.query (full (relations e.query))) e.pairs (plan_data e.kind e.query e.aliases e.tree) (stats_member e.stats)

abbrev pub refused_data : List ℕ → QueryRefusal → Data
refused_data name why =
    object (member (codes "code") (whole (refusal_code why)) (member (codes "name") (string name) (member (codes "refusal") (string (refusal_text why)) no_members)))

abbrev pub entry_data : ReportEntry → Data
entry_data (planned e) = planned_data e
entry_data (refused name why) = refused_data name why

abbrev pub report_data : List Data → Data
report_data entries = object (member (codes "queries") (array (items_of entries)) no_members)

-- the whole report as one line
unfoldable pub report_line : List Data → List ℕ
report_line entries = compact_text (report_data entries) ++ newline

abbrev pub values_of : List Value → List Data
values_of = map view

-- no value has a number with a point
abbrev pub is_plain : Value → Bool
is_plain v = not (has_float (view v))

abbrev pub are_plain : List Value → Bool
are_plain = list_all is_plain
