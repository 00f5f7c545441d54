-- What is kept of a query that was planned, and what a change leaves.
use Rattle.std.specs.Prelude.{◌≡◌, ℕ, ◌+◌, ◌*◌, ◌^◌, ◌<◌, List, length, slice_index_or}
use Rattle.dpe_base.specs.declared.TheConstants.{EMPTY}
use Rattle.dpe_base.specs.declared.pair.Pair.{Pair}
use Rattle.dpe_base.specs.Queries.{JoinQuery, relations, with_rows}
use Rattle.dpe_base.specs.Sets.{Has, full}
use Rattle.join_graph.specs.Graphs.{Connected, graph_of}
use Rattle.join_tree.specs.Trees.{Best}
use Rattle.memo_table.specs.Finishing.{FinalWords}
use Rattle.pair_stream.specs.Orders.{Complete}
use Rattle.enum_dpccp.specs.Dpccp.{seq_dpccp}
use Rattle.reorder_buffer.specs.Groups.{rounds}
use Rattle.dpe_engine.specs.declared.engine.Solved.{Solved}
use Rattle.enum_dpccp.specs.Touching.{touching}

-- the query, and its words
pub record KeptWords : Type 0 where
  pub query : JoinQuery
  pub words : FinalWords

-- w is the best word of s, or EMPTY where s isn't connected
pub record IsBestWord (kind : ℕ) (q : JoinQuery) (s w : ℕ) : Type 0 where
  pub best : Connected (graph_of q) s → Best kind q s w
  pub none : (Connected (graph_of q) s → ⊥) → w ≡ EMPTY

-- the words of a connected query, one for each set of relations
pub record AreBestWords (kind : ℕ) (q : JoinQuery) (row : List ℕ) : Type 0 where
  pub connected : Connected (graph_of q) (full (relations q))
  pub size : length row ≡ 2 ^ relations q
  pub each : (s : ℕ) → s < 2 ^ relations q → IsBestWord kind q s (slice_index_or row s 0)

-- the query was planned over all its pairs, by buffers of so many and by so many workers
pub record IsPlanned (q : JoinQuery) (b w : ℕ) (kept : KeptWords) : Type 0 where
  pub query : kept.query ≡ q
  -- the pairs of the query, each once
  pub listed : Complete (graph_of q) (seq_dpccp (graph_of q))
  pub drawn : kept.words.drawn ≡ length (seq_dpccp (graph_of q)) + w * rounds b (seq_dpccp (graph_of q))

-- the row has the best words of the query, but of the sets with relation r
pub record KeepsOthers (kind : ℕ) (q : JoinQuery) (r : ℕ) (row : List ℕ) : Type 0 where
  pub size : length row ≡ 2 ^ relations q
  pub each : (s : ℕ) → s < 2 ^ relations q → (Has s r → ⊥) → IsBestWord kind q s (slice_index_or row s 0)

-- the pairs of the query that a change of relation r touches
abbrev pub touched_pairs : JoinQuery → ℕ → List Pair
touched_pairs q r = touching r (seq_dpccp (graph_of q))

-- what processing the pairs again that a change of relation r touches leaves
pub record IsReplanned (kind : ℕ) (q : JoinQuery) (r b w : ℕ) (result : Solved) : Type 0 where
  pub size : length result.words.row ≡ 2 ^ relations q
  pub each : (s : ℕ) → s < 2 ^ relations q → IsBestWord kind q s (slice_index_or result.words.row s 0)
  -- the pairs of the query, each once
  pub listed : Complete (graph_of q) (seq_dpccp (graph_of q))
  pub count : result.pairs ≡ length (touched_pairs q r)
  pub drawn : result.words.drawn ≡ result.pairs + w * rounds b (touched_pairs q r)

-- so many rows of one relation, and how the pairs are taken that this touches
pub record Change : Type 0 where
  pub r : ℕ
  pub rows : ℕ
  pub buffer : ℕ
  pub workers : ℕ

-- the words of the changed query, for which as many pairs were processed: those that the change touches, by rounds
pub record HasChanged (kind : ℕ) (c : Change) (before after : KeptWords) (pairs : ℕ) : Type 0 where
  pub query : after.query ≡ with_rows before.query c.r c.rows
  pub words : AreBestWords kind after.query after.words.row
  -- the pairs of the query, each once
  pub listed : Complete (graph_of after.query) (seq_dpccp (graph_of after.query))
  pub count : pairs ≡ length (touched_pairs after.query c.r)
  pub drawn : after.words.drawn ≡ pairs + c.workers * rounds c.buffer (touched_pairs after.query c.r)
