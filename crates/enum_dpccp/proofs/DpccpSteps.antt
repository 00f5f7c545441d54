-- One step of the stream.
use Rattle.std.proofs.Common.{◌≡◌, ℕ, sym, ◌∙◌, ap, List, [], ◌∷◌, ◌++◌, map}
use Rattle.std.specs.List.{flat_map}
use Rattle.dpe_base.specs.declared.pair.Pair.{Pair}
use Rattle.join_graph.specs.Graphs.{JoinGraph, pair_of}
use Rattle.connected_sets.specs.declared.sets.ConnectedSets.{ConnectedSets}
use Rattle.enum_dpccp.specs.declared.sides.SecondSides.{SecondSides}
use Rattle.enum_dpccp.specs.Dpccp.{first_sides, second_sides, seq_dpccp}
use Rattle.connected_sets.specs.Left.{sets_left}
use Rattle.enum_dpccp.specs.Sides.{second_left}
use Rattle.enum_dpccp.specs.Left.{dpccp_left}

-- the pairs of these first sides
abbrev pairs_of_firsts : JoinGraph → List ℕ → List Pair
pairs_of_firsts g firsts = flat_map (λ a. map (pair_of a) (second_sides g a)) firsts

pub started : (g : JoinGraph) (f : ConnectedSets) (a : ℕ) (s : SecondSides) → sets_left g f ≡ first_sides g → second_left g s ≡ [] → dpccp_left g f a s ≡ seq_dpccp g
unfolding dpccp_left seq_dpccp
started g f a s ef es = ap (λ bs. map (pair_of a) bs ++ pairs_of_firsts g (sets_left g f)) es ∙ ap (pairs_of_firsts g) ef

-- a second side is taken
pub pair_taken : (g : JoinGraph) (f : ConnectedSets) (a b : ℕ) (old now : SecondSides) → second_left g old ≡ b ∷ second_left g now → dpccp_left g f a old ≡ pair_of a b ∷ dpccp_left g f a now
unfolding dpccp_left
pair_taken g f a b old now e = ap (λ bs. map (pair_of a) bs ++ pairs_of_firsts g (sets_left g f)) e

-- a first side is taken, and its second sides begin
pub first_taken : (g : JoinGraph) (f f' : ConnectedSets) (before a : ℕ) (s s' : SecondSides) → second_left g s ≡ [] → sets_left g f ≡ a ∷ sets_left g f' → second_left g s' ≡ second_sides g a → dpccp_left g f before s ≡ dpccp_left g f' a s'
unfolding dpccp_left
first_taken g f f' before a s s' es ef en =
    ap (λ bs. map (pair_of before) bs ++ pairs_of_firsts g (sets_left g f)) es
    ∙ ap (pairs_of_firsts g) ef
    ∙ ap (λ bs. map (pair_of a) bs ++ pairs_of_firsts g (sets_left g f')) (sym en)

pub none_left : (g : JoinGraph) (f : ConnectedSets) (a : ℕ) (s : SecondSides) → second_left g s ≡ [] → sets_left g f ≡ [] → dpccp_left g f a s ≡ []
unfolding dpccp_left
none_left g f a s es ef = ap (λ bs. map (pair_of a) bs ++ pairs_of_firsts g (sets_left g f)) es ∙ ap (pairs_of_firsts g) ef
