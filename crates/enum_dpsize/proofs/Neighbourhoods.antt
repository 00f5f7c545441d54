-- A neighbourhood that was turned to a row's set.
use Rattle.std.proofs.Common.{◌≡◌, ℕ, List, refl, sym, subst, get_or}
use Rattle.join_graph.specs.Graphs.{JoinGraph, IsNeighbours}
use Rattle.enum_dpsize.specs.declared.pairs.Neighbourhood.{Neighbourhood}
use Rattle.enum_dpsize.specs.DpsizeLeft.{IsOf}

pub its_own : (g : JoinGraph) (x : ℕ) (h : Neighbourhood) → IsOf g x h → IsOf g h.set h
its_own g x h is = record { set = refl; around = subst (λ (k : ℕ). IsNeighbours g k h.around) (sym is.set) is.around }

pub stands_at : (xs : List ℕ) (i x y : ℕ) → y ≡ x → x ≡ get_or xs i x → y ≡ get_or xs i y
stands_at xs i x y same is = subst (λ (k : ℕ). k ≡ get_or xs i k) (sym same) is
