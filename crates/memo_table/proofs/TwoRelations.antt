-- A query of two joined relations, and the words of its two hash joins.
use Rattle.std.proofs.Common.{◌≡◌, ℕ, List, [], ◌∷◌, ◌+◌, ◌*◌, slice_index, Contains, refl, sym, subst, arith, inl, inr}
use Rattle.std.specs.Int.Count.{count_leading_zeros}
use Rattle.dpe_base.specs.declared.pair.Pair.{Pair}
use Rattle.dpe_base.specs.Digits.{digits}
use Rattle.dpe_base.specs.declared.TheConstants.{SPAN}
use Rattle.dpe_base.specs.Queries.{JoinQuery, relations}
use Rattle.dpe_base.specs.Sets.{Has, IsLeast, Disjoint, Within, member, members_below, alone, single, union, full}
use Rattle.dpe_base.proofs.SetLaws.{sets}
use Rattle.join_graph.specs.Graphs.{JoinGraph, Connected, Pairs, pair_of, graph_of, adjacency, adjacent_to, other_end}
use Rattle.join_graph.proofs.GraphLaws.{connected_single}
use Rattle.card_scaled.specs.Scaled.{norm, mul, frac, one, rounded, least_above}
use Rattle.card_scaled.specs.Cards.{card, rows, base_of, times_pred, with_relation}
use Rattle.cost_model.specs.Costs.{join_cost}
use Rattle.cost_model.specs.Words.{word}
use Rattle.join_tree.specs.Trees.{leaf, join, Made}
use Rattle.pair_stream.specs.Orders.{Complete}

-- 100 and 1,000 rows, joined with the fraction 1/1000
abbrev pub two_relations : JoinQuery
two_relations =
    record {
      rels = record { rows = 100; num = 1; den = 1 } ∷ record { rows = 1000; num = 1; den = 1 } ∷ [];
      preds = record { low = 0; high = 1; num = 1; den = 1000 } ∷ [];
    }

single-0 : single 0 ≡ 1
unfolding single
single-0 = refl

single-1 : single 1 ≡ 2
unfolding single
single-1 = refl

both : union 1 2 ≡ 3
unfolding union
both = refl

edge : Has (slice_index (adjacency two_relations.preds) 0) 1
unfolding adjacency adjacent_to other_end single union member
edge = refl

first_has : Has 1 0
unfolding member
first_has = refl

second_has : Has 2 1
unfolding member
second_has = refl

disjoint : Disjoint (single 0) (single 1)
disjoint r = grind (arith, sets)

least_first : (r : ℕ) → IsLeast (union (single 0) (single 1)) r → Has (single 0) r
least_first r l = let first = l.1 0 in grind (arith, sets, l.1 0)

-- the two relations are the one pair
pub one_pair : Pairs (graph_of two_relations) (pair_of 1 2)
one_pair = record {
  first = subst (λ (s : ℕ). Connected (graph_of two_relations) s) single-0 (connected_single (graph_of two_relations) 0 (omega arith));
  second = subst (λ (s : ℕ). Connected (graph_of two_relations) s) single-1 (connected_single (graph_of two_relations) 1 (omega arith));
  apart = subst (λ (s : ℕ). Disjoint s 2) single-0 (subst (λ (s : ℕ). Disjoint (single 0) s) single-1 disjoint);
  crossed = (0, 1, edge, inl (first_has, second_has));
  least = subst (λ (s : ℕ). (r : ℕ) → IsLeast (union s 2) r → Has s r) single-0 (subst (λ (s : ℕ). (r : ℕ) → IsLeast (union (single 0) s) r → Has (single 0) r) single-1 least_first);
}

-- the hash joins with either relation on the left
module _ (pairs : List Pair) (listed : Contains pairs (pair_of 1 2)) where
  pub first_left : Made 0 two_relations pairs 3 (1300 * (4 * SPAN) + 1)
  unfolding single union rows card with_relation times_pred base_of rounded least_above mul frac one norm digits count_leading_zeros members_below alone member join_cost word
  first_left = record { tree = join 0 (leaf 0) (leaf 1); made = (omega arith, omega arith, omega arith, inl listed); over = refl; word = record { below = omega arith; is = refl } }

  pub second_left : Made 0 two_relations pairs 3 (2200 * (4 * SPAN) + 2)
  unfolding single union rows card with_relation times_pred base_of rounded least_above mul frac one norm digits count_leading_zeros members_below alone member join_cost word
  second_left = record { tree = join 0 (leaf 1) (leaf 0); made = (omega arith, omega arith, omega arith, inr listed); over = refl; word = record { below = omega arith; is = refl } }

-- ---- the same of a memo

all-2 : full 2 ≡ 3
unfolding full
all-2 = refl

-- a query with these lists
pub is_two : (q : JoinQuery) → q.rels ≡ two_relations.rels → q.preds ≡ two_relations.preds → q ≡ two_relations
is_two q rels preds = λ i. record { rels = rels i; preds = preds i }

pub both_within : (q : JoinQuery) (s : ℕ) → q ≡ two_relations → s ≡ 3 → Within s (full (relations q))
both_within q s is e =
    let F : JoinQuery → Type 0 = λ p. Within s (full (relations p)) in
    let G : ℕ → Type 0 = λ t. Within t (full 2) in
    subst F (sym is) (subst G (sym e) (subst G all-2 (λ r has. has)))

-- a list of all pairs has the one
pub pair_listed : (g : JoinGraph) (pairs : List Pair) → g ≡ graph_of two_relations → Complete g pairs → Contains pairs (pair_of 1 2)
pair_listed g pairs is all = (all.members (pair_of 1 2)).1 (let F : JoinGraph → Type 0 = λ h. Pairs h (pair_of 1 2) in subst F (sym is) one_pair)

pub made_at : (q : JoinQuery) (pairs list : List Pair) (s w : ℕ) → q ≡ two_relations → pairs ≡ list → s ≡ 3 → Made 0 two_relations list 3 w → Made 0 q pairs s w
made_at q pairs list s w is same e m =
    let F : JoinQuery → Type 0 = λ p. Made 0 p pairs s w in
    let G : List Pair → Type 0 = λ l. Made 0 two_relations l s w in
    let H : ℕ → Type 0 = λ t. Made 0 two_relations list t w in
    subst F (sym is) (subst G (sym same) (subst H (sym e) m))
