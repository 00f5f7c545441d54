-- Mode reopt: the plan of each query, and after each change of the rows of a table its plan with the rows so far.
use Rattle.std.specs.Prelude.{◌≡◌, ◌≤◌, ◌<◌, ℕ, ◌+◌, List, [], ◌∷◌, ◌++◌, length, slice_index_or, codes, decimal, false}
use Rattle.std.specs.List.{All, sum_by}
use Rattle.dpe_base.specs.declared.pair.Pair.{Pair}
use Rattle.dpe_base.specs.declared.TheConstants.{INPUT_CAP}
use Rattle.dpe_base.specs.Queries.{JoinQuery, relations, with_rows}
use Rattle.join_graph.specs.Graphs.{graph_of}
use Rattle.pair_stream.specs.Orders.{Complete}
use Rattle.enum_dpccp.specs.Dpccp.{seq_dpccp}
use Rattle.query_json.specs.declared.entry.Entry.{Entry}
use Rattle.query_json.specs.declared.entry.Named.{Named}
use Rattle.query_json.specs.declared.entry.Part.{Part}
use Rattle.query_json.specs.declared.entry.Part.TheVariants.{Accepted, Refused}
use Rattle.query_forms.specs.declared.changes.Change.{Change}
use Rattle.query_forms.specs.declared.changes.Changed.{Changed}
use Rattle.query_forms.specs.Changes.{changed_of}
use Rattle.enum_dpccp.specs.Touching.{touching}
use Rattle.plan_report.specs.declared.report.Format.TheVariants.{Text}
use Rattle.plan_report.specs.Entries.{PlannedQuery}
use Rattle.plan_report.specs.Texts.{newline, planned_text, refused_text}
use Rattle.dpe_words.specs.declared.choices.Mode.TheVariants.{Plan}
use Rattle.dpe_words.specs.declared.choices.Settings.{Settings}
use Rattle.dpe_top.specs.Answers.{Answer, Reading, reading_by}
use Rattle.dpe_top.specs.Lines.{change_fault_line}
use Rattle.dpe_top.specs.Modes.Report.{IsPlanned, outcome_of}

-- ---- a change of one query

-- the relations on the changed table, of the query at place i of the file
abbrev pub uses_at : ℕ → Change → List ℕ
uses_at i c = slice_index_or c.uses i []

-- the query with so many rows of each of these relations
abbrev pub with_rows_of_all : JoinQuery → ℕ → List ℕ → JoinQuery
with_rows_of_all q rows [] = q
with_rows_of_all q rows (r ∷ rs) = with_rows_of_all (with_rows q r rows) rows rs

-- the change gives relations of the query at place i no more rows than a table may have
pub record CanBeMade (q : JoinQuery) (i : ℕ) (c : Change) : Type 0 where
  pub rows : c.rows ≤ INPUT_CAP
  pub uses : All (λ r. r < relations q) (uses_at i c)

-- the query at place i of the file after a change
abbrev pub changed : ℕ → Change → Named → Named
changed i c named = record { query = with_rows_of_all named.query c.rows (uses_at i c); aliases = named.aliases }

-- n pairs are processed again: for each of the relations in turn, the csg-cmp-pairs whose union has it
abbrev pub AreAgain : JoinQuery → List ℕ → ℕ → Type 0
AreAgain q rs n = (all : List Pair) × Complete (graph_of q) all × (n ≡ sum_by (λ r. length (touching r all)) rs)

-- ---- the text

-- what mode plan says of an entry, in text and without statistics
abbrev pub IsPlannedInText : Settings → List ℕ → Named → PlannedQuery → Type 0
IsPlannedInText s name named said = IsPlanned (record s { mode = Plan; format = Text; stats = false }) name named said

-- the line of change j, for which so many pairs were processed again
unfoldable pub change_line : ℕ → ℕ → List ℕ
change_line j again = codes "change " ++ (decimal j ++ (codes " again " ++ (decimal again ++ newline)))

-- the text of change j and of those after it, where the query has the rows of the changes before
abbrev pub IsChangesText : Settings → List ℕ → ℕ → Named → ℕ → List Change → List ℕ → Type 0
IsChangesText s name i named j [] text = text ≡ []
IsChangesText s name i named j (c ∷ cs) text =
    (again : ℕ) × AreAgain named.query (uses_at i c) again
    × ((said : PlannedQuery) × IsPlannedInText s name (changed i c named) said
    × ((rest : List ℕ) × IsChangesText s name i (changed i c named) (j + 1) cs rest
    × (text ≡ change_line j again ++ (planned_text said ++ rest))))

-- the text of an entry, and after that of an accepted one the text of all changes
abbrev pub IsEntryText : Settings → List Change → ℕ → List ℕ → Part → List ℕ → Type 0
IsEntryText s changes i name (Refused why) text = text ≡ refused_text name why
IsEntryText s changes i name (Accepted named) text =
    (said : PlannedQuery) × IsPlannedInText s name named said
    × ((rest : List ℕ) × IsChangesText s name i named 0 changes rest × (text ≡ planned_text said ++ rest))

-- the texts of the entries from place i on, one after the other
abbrev pub IsTextFrom : Settings → List Change → ℕ → List Entry → List ℕ → Type 0
IsTextFrom s changes i [] text = text ≡ []
IsTextFrom s changes i (e ∷ es) text =
    (first : List ℕ) × IsEntryText s changes i e.name e.part first
    × ((rest : List ℕ) × IsTextFrom s changes (i + 1) es rest × (text ≡ first ++ rest))

-- the plans before and after each change, with the outcome of the entries
abbrev pub replanned : Settings → Changed → Answer
replanned s file outcome text = (outcome ≡ outcome_of file.workload) × IsTextFrom s file.changes 0 file.workload text

-- the plans of the file of changes that the bytes are
abbrev pub replanned_of_bytes : Settings → Reading
replanned_of_bytes s = reading_by changed_of (replanned s) change_fault_line

-- ---- what the code finds

-- DPccp lists each csg-cmp-pair of the query once, n in all
pub record AreListed (q : JoinQuery) (n : ℕ) : Type 0 where
  pub listed : Complete (graph_of q) (seq_dpccp (graph_of q))
  pub count : n ≡ length (seq_dpccp (graph_of q))

-- the query with these aliases
abbrev pub named_as : JoinQuery → List (List ℕ) → Named
named_as q aliases = record { query = q; aliases = aliases }
