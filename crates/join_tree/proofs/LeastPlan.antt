-- Each tree in a plan has the least cost, and then the least root.
use Rattle.join_tree.specs.Trees.{Plan}
use Rattle.std.proofs.Common.{◌≡◌, ℕ, ◌+◌, ◌*◌, ◌≤◌, ◌<◌, ◌⊎◌, arith, inl, inr, refl}
use Rattle.std.proofs.lemmas.Bool.{cases_lt}
use Rattle.dpe_base.specs.declared.TheConstants.{COST_LIMIT, SPAN}
use Rattle.dpe_base.specs.Queries.{JoinQuery, IsQuery}
use Rattle.dpe_base.specs.Sets.{single}
use Rattle.join_graph.specs.Graphs.{JoinGraph, graph_of}
use Rattle.cost_model.specs.Laws.{ComesBefore}
use Rattle.cost_model.specs.Words.{word}
use Rattle.cost_model.proofs.CostLaws.{operators_few}
use Rattle.cost_model.proofs.LawProofs.{words_are_ordered}
use Rattle.cost_model.proofs.WordLaws.{word-below}
use Rattle.join_tree.specs.Laws.{root_operator, root_left, IsNoWorse}
use Rattle.join_tree.specs.Trees.{JoinTree, leaf, join, set_of, cost, root_word, Legal, EverySubtree}
use Rattle.join_tree.proofs.BestLaws.{HasBest, legal_small, least_split_below}

-- the word of a tree is that of its cost and its root
root_is : (model : ℕ) (q : JoinQuery) (t : JoinTree) → root_word model q t ≡ word (cost model q t) (root_operator t) (root_left t)
root_is model q (leaf r) = omega (arith, word-below 0 3 (single r) (omega arith))
root_is model q (join op l r) = refl

operator_few : (model : ℕ) (g : JoinGraph) (t : JoinTree) → Legal model g t → root_operator t ≤ 3
operator_few model g (leaf r) l = omega arith
operator_few model g (join op x y) l = omega (arith, operators_few model op l.0)

left_small : (model : ℕ) (q : JoinQuery) (t : JoinTree) → IsQuery q → Legal model (graph_of q) t → root_left t < SPAN
left_small model q (leaf r) ok l = legal_small model q (leaf r) ok l
left_small model q (join op x y) ok l = legal_small model q x ok l.1

-- of numbers of three digits
no_worse : (c o s c' o' s' : ℕ) → c < COST_LIMIT → o ≤ 3 → s < SPAN → c' < COST_LIMIT → o' ≤ 3 → s' < SPAN → word c o s ≤ word c' o' s' → ComesBefore c o s c' o' s' ⊎ ((c ≡ c') × (o ≡ o') × (s ≡ s'))
no_worse c o s c' o' s' lc lo ls lc' lo' ls' le =
    elim (cases_lt (word c o s) (word c' o' s')) [
      | inl less ↦ inl ((words_are_ordered c o s c' o' s' lc lo ls lc' lo' ls').0 less)
      | inr more ↦
          let e : c * (4 * SPAN) + o * SPAN + s ≡ c' * (4 * SPAN) + o' * SPAN + s' = omega (arith, le, more, word-below c o s lc, word-below c' o' s' lc') in
          inr (omega arith, omega arith, omega arith)
    ]

best_no_worse : (model : ℕ) (q : JoinQuery) (t u : JoinTree) → IsQuery q → Legal model (graph_of q) t → HasBest model q t → Legal model (graph_of q) u → set_of u ≡ set_of t → IsNoWorse model q t u
best_no_worse model q t u ok l b m e =
    let below : cost model q t < COST_LIMIT = least_split_below model q t ok l b in
    elim (cases_lt (cost model q u) COST_LIMIT) [
      | inl c ↦
          let le : root_word model q t ≤ root_word model q u = b.least u (root_word model q u) m e (record { below = c; is = refl }) in
          no_worse (cost model q t) (root_operator t) (root_left t) (cost model q u) (root_operator u) (root_left u) below
          (operator_few model (graph_of q) t l) (left_small model q t ok l) c (operator_few model (graph_of q) u m) (left_small model q u ok m)
          (omega (arith, le, root_is model q t, root_is model q u))
      | inr c ↦ inl (inl (omega (arith, c, below)))
    ]

each_no_worse : (model : ℕ) (q : JoinQuery) (t : JoinTree) → IsQuery q → Legal model (graph_of q) t → EverySubtree (HasBest model q) t
    → EverySubtree (λ u. (v : JoinTree) → Legal model (graph_of q) v → set_of v ≡ set_of u → IsNoWorse model q u v) t
each_no_worse model q (leaf r) ok l b = λ v m e. best_no_worse model q (leaf r) v ok l b m e
each_no_worse model q (join op x y) ok l b = (
  λ v m e. best_no_worse model q (join op x y) v ok l b.0 m e,
  each_no_worse model q x ok l.1 b.1,
  each_no_worse model q y ok l.2 b.2,
)

pub plans_are_least : (model : ℕ) (q : JoinQuery) (s : ℕ) (t : JoinTree) → IsQuery q → Plan model q s t → EverySubtree (λ u. (v : JoinTree) → Legal model (graph_of q) v → set_of v ≡ set_of u → IsNoWorse model q u v) t
plans_are_least model q s t ok p = each_no_worse model q t ok p.legal p.best
