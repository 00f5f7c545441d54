-- What holds of each accepted entry.
use Rattle.std.specs.Prelude.{◌≡◌, length}
use Rattle.dpe_base.specs.Queries.{IsQuery, relations}
use Rattle.dpe_base.specs.Sets.{full}
use Rattle.join_graph.specs.Graphs.{Connected, graph_of}
use Rattle.query_json.specs.declared.entry.Named.{Named}
use Rattle.query_json.specs.declared.entry.Part.{Part}
use Rattle.query_json.specs.declared.entry.Part.TheVariants.{Accepted, Refused}
use Rattle.query_json.specs.declared.entry.Entry.{Entry}

-- a query within the limits, which is connected, and one alias for each of its relations
pub record IsSound (n : Named) : Type 0 where
  pub valid : IsQuery n.query
  pub connected : Connected (graph_of n.query) (full (relations n.query))
  pub aliases : length n.aliases ≡ relations n.query

abbrev pub IsPartSound : Part → Type 0
IsPartSound (Accepted n) = IsSound n
IsPartSound (Refused r) = Unit {0}

abbrev pub IsEntrySound : Entry → Type 0
IsEntrySound e = IsPartSound e.part
