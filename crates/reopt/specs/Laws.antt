-- The laws of the crate.
use Rattle.std.specs.Prelude.{◌≡◌, ◌↔◌, ℕ, ◌^◌, List, length}
use Rattle.dpe_base.specs.declared.pair.Pair.{Pair}
use Rattle.dpe_base.specs.Queries.{JoinQuery, IsQuery, relations, with_rows}
use Rattle.dpe_base.specs.Sets.{Has, full}
use Rattle.join_graph.specs.Graphs.{Connected, graph_of}
use Rattle.card_scaled.specs.Cards.{rows}
use Rattle.join_tree.specs.Trees.{JoinTree, set_of, cost, Legal, Best}
use Rattle.pair_stream.specs.Orders.{Complete}
use Rattle.dpe_engine.specs.Engines.{AreLeastWords}
use Rattle.reopt.specs.Keeping.{AreBestWords}

-- what stays of the set s, where relation r has n rows instead of those in q
pub record Stays (kind : ℕ) (q : JoinQuery) (r n s : ℕ) : Type 0 where
  pub rows : rows (with_rows q r n) s ≡ rows q s
  pub legal : (t : JoinTree) → Legal kind (graph_of (with_rows q r n)) t ↔ Legal kind (graph_of q) t
  pub cost : (t : JoinTree) → set_of t ≡ s → cost kind (with_rows q r n) t ≡ cost kind q t
  pub best : (w : ℕ) → Best kind (with_rows q r n) s w ↔ Best kind q s w

-- A set without r keeps its rows, its legal trees with their costs, and its best word.
abbrev pub OtherSetsStay : Type 0
OtherSetsStay = (kind : ℕ) (q : JoinQuery) (r n s : ℕ) → (Has s r → ⊥) → Stays kind q r n s

-- Of a connected query the least words over a list of all pairs are what is kept.
abbrev pub LeastWordsCanBeKept : Type 0
LeastWordsCanBeKept =
    (kind : ℕ) (q : JoinQuery) (pairs : List Pair) (row : List ℕ) → IsQuery q → Connected (graph_of q) (full (relations q)) → Complete (graph_of q) pairs
    → length row ≡ 2 ^ relations q → AreLeastWords kind q pairs row → AreBestWords kind q row
