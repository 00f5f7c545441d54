-- The plan of a set is the tree that its best words name.
use Rattle.std.proofs.Common.{◌≡◌, ℕ, ◌<◌, arith, refl, ap, subst, sym, List}
use Rattle.dpe_base.specs.Queries.{JoinQuery, relations, IsQuery}
use Rattle.dpe_base.specs.Sets.{single, size}
use Rattle.dpe_base.proofs.SizeLaws.{size-single}
use Rattle.join_graph.specs.Graphs.{Connected, graph_of}
use Rattle.join_tree.specs.Trees.{JoinTree, leaf, join, leaf_word, set_of, Legal, HasWord, Best, Plan}
use Rattle.join_tree.specs.Words.{HasBestWords, IsNamed}
use Rattle.join_tree.proofs.TreeLaws.{join_size}
use Rattle.join_tree.proofs.BestLaws.{HasBest, best_same, least_split_below}
use Rattle.join_tree.proofs.PlanLaws.{every_root, plan_exists}
use Rattle.join_tree.proofs.NamedTrees.{tree_named}

-- the best word of a relation is its leaf's
pub best_leaf : (kind : ℕ) (q : JoinQuery) (r : ℕ) → r < relations q → Best kind q (single r) (leaf_word r)
best_leaf kind q r known =
    record {
      some = (leaf r, known, refl, record { below = omega arith; is = refl });
      least = λ t v m over has. rw (← only t v m over has) (omega arith);
    }
  where
    only : (t : JoinTree) (v : ℕ) → Legal kind (graph_of q) t → set_of t ≡ single r → HasWord kind q t v → leaf_word r ≡ v
    only (leaf k) v m over has = omega (arith, has.is, over)
    only (join op x y) v m over has = absurd (omega (arith, join_size kind (graph_of q) op x y m, ap size over, size-single r))

pub plan_named : (model : ℕ) (q : JoinQuery) (words : List ℕ) (s : ℕ) (t : JoinTree) → IsQuery q → HasBestWords model q words s → Plan model q s t → IsNamed words s t
plan_named model q words s t ok best p =
    record {
      over = p.over;
      named = tree_named (Best model q) (best_same model q) model q words t ok p.legal
          (least_split_below model q t ok p.legal (every_root (HasBest model q) t p.best))
          (subst (HasBestWords model q words) (sym p.over) best)
          p.best;
    }

pub plan_of_words : (model : ℕ) (q : JoinQuery) (words : List ℕ) (s : ℕ) → IsQuery q → HasBestWords model q words s → Connected (graph_of q) s → (t : JoinTree) × Plan model q s t
plan_of_words model q words s ok best c = plan_exists model q s ok (λ x cx w. (_, best x cx w)) c
