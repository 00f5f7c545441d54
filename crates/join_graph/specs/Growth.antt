-- How a connected part of a set grows, until no edge leads on.
use Rattle.std.specs.Prelude.{◌↔◌, ℕ}
use Rattle.dpe_base.specs.Sets.{Has, Within}
use Rattle.join_graph.specs.Graphs.{JoinGraph, Edge, Connected, Reached}

-- t has the relations of s outside the part that an edge joins to one in the part
abbrev pub IsFrontier : JoinGraph → ℕ → ℕ → ℕ → Type 0
IsFrontier g part s t =
    (r : ℕ) → Has t r ↔ (Has s r × (Has part r → ⊥) × ((k : ℕ) × Has part k × Edge g k r))

-- the part is connected, has the first relation, is reached from it, and no edge leads on inside s
pub record IsGrown (g : JoinGraph) (first s part : ℕ) : Type 0 where
  pub connected : Connected g part
  pub within : Within part s
  pub has : Has part first
  pub reached : (r : ℕ) → Has part r → Reached g first r
  pub closed : IsFrontier g part s 0
