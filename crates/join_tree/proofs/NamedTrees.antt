-- The tree that words name: there is at most one over a set, and the plan is it.
use Rattle.std.proofs.Common.{◌≡◌, ◌≢◌, ℕ, ◌+◌, ◌*◌, ◌≤◌, ◌<◌, arith, sym, ◌∙◌, ap, List, slice_index}
use Rattle.dpe_base.specs.declared.TheConstants.{COST_LIMIT, SPAN}
use Rattle.dpe_base.specs.Queries.{JoinQuery, IsQuery}
use Rattle.dpe_base.specs.Sets.{Within, Disjoint, IsLeast, union, minus, single, size}
use Rattle.dpe_base.proofs.SetLaws.{sets, same_set, member-same}
use Rattle.dpe_base.proofs.SizeLaws.{union_add, size-single, size-empty, size-union, size_one}
use Rattle.join_graph.specs.Graphs.{Connected, graph_of}
use Rattle.cost_model.specs.Words.{word_op, word_left}
use Rattle.cost_model.proofs.CostLaws.{operators_few}
use Rattle.join_tree.specs.Trees.{JoinTree, leaf, join, set_of, cost, root_word, Legal, EverySubtree}
use Rattle.join_tree.specs.Words.{NamedBy, IsNamed}
use Rattle.join_tree.proofs.TreeLaws.{legal_connected}
use Rattle.join_tree.proofs.BestLaws.{legal_small, join_word}
use Rattle.join_tree.proofs.OnePlan.{single_same}

-- ---- sets of one relation

-- the least relation of a set of one is the set
pub least_alone : (s r : ℕ) → size s ≡ 1 → IsLeast s r → s ≡ single r
least_alone s r one least =
    let k : (k : ℕ) × (s ≡ single k) = size_one s one in
    let e : k.0 ≡ r = grind (arith, sets, member-same k.1 r, least.0) in
    k.1 ∙ ap single e

pub none_alone : (s : ℕ) → s ≡ 0 → size s ≡ 1 → ⊥
none_alone s e one = omega (arith, ap size e, size-empty)

-- ---- trees

named_some : (words : List ℕ) (t : JoinTree) → NamedBy words t → 1 ≤ size (set_of t)
named_some words (leaf r) n = omega (arith, size-single r)
named_some words (join op l r) n = omega (arith, size-union (set_of l) (set_of r) n.2, named_some words l n.3, named_some words r n.4)

many_in_join : (words : List ℕ) (op : ℕ) (l r : JoinTree) → NamedBy words (join op l r) → 2 ≤ size (union (set_of l) (set_of r))
many_in_join words op l r n =
    omega (arith, size-union (set_of l) (set_of r) n.2, named_some words l n.3, named_some words r n.4)

set_some : (words : List ℕ) (t : JoinTree) → NamedBy words t → set_of t ≢ 0
set_some words t n e = omega (arith, named_some words t n, ap size e, size-empty)

-- the only tree over a relation is its leaf
pub leaf_named : (words : List ℕ) (s r : ℕ) (t : JoinTree) → s ≡ single r → IsNamed words s t → t ≡ leaf r
leaf_named words s r (leaf k) e n = ap leaf (single_same k r (n.over ∙ e))
leaf_named words s r (join op x y) e n =
    absurd (omega (arith, many_in_join words op x y n.named, ap size (n.over ∙ e), size-single r))

-- a tree over s is the join of two that are named over smaller sets
pub record IsJoined (words : List ℕ) (s op left right : ℕ) (t : JoinTree) : Type 0 where
  pub first : JoinTree
  pub second : JoinTree
  pub is : t ≡ join op first second
  pub first_named : IsNamed words left first
  pub second_named : IsNamed words right second
  pub first_smaller : left < s
  pub second_smaller : right < s

rest : (a b s : ℕ) → Disjoint a b → union a b ≡ s → b ≡ minus s a
rest a b s d e = same_set _ _ (λ r. grind (arith, sets, member-same e r))

-- of a set of two relations or more the word names both sides
pub join_named : (words : List ℕ) (s op left right : ℕ) (t : JoinTree) → size s ≢ 1 → op ≡ word_op (slice_index words s) → left ≡ word_left (slice_index words s) → right ≡ minus s left → IsNamed words s t → IsJoined words s op left right t
join_named words s op left right (leaf r) many is_op is_left is_right n = absurd (many (ap size (sym n.over) ∙ size-single r))
join_named words s op left right (join o l r) many is_op is_left is_right n =
    let sum : union (set_of l) (set_of r) ≡ set_of l + set_of r = union_add (set_of l) (set_of r) n.named.2 in
    let same_op : o ≡ op = n.named.0 ∙ ap (λ s. word_op (slice_index words s)) n.over ∙ sym is_op in
    let same_left : set_of l ≡ left = n.named.1 ∙ ap (λ s. word_left (slice_index words s)) n.over ∙ sym is_left in
    let same_right : set_of r ≡ right = rest (set_of l) (set_of r) s n.named.2 n.over ∙ ap (minus s) same_left ∙ sym is_right in
    record {
      first = l;
      second = r;
      is = ap (λ o. join o l r) same_op;
      first_named = record { over = same_left; named = n.named.3 };
      second_named = record { over = same_right; named = n.named.4 };
      first_smaller = omega (arith, sum, n.over, same_left, set_some words r n.named.4);
      second_smaller = omega (arith, sum, n.over, same_right, set_some words l n.named.3);
    }

-- so the join of the only trees over both sides is the only one over s
pub only_join : (words : List ℕ) (s op left right : ℕ) (first second t : JoinTree) → size s ≢ 1 → op ≡ word_op (slice_index words s) → left ≡ word_left (slice_index words s) → right ≡ minus s left → ((u : JoinTree) → IsNamed words left u → u ≡ first) → ((u : JoinTree) → IsNamed words right u → u ≡ second) → t ≡ join op first second → (u : JoinTree) → IsNamed words s u → u ≡ t
only_join words s op left right first second t many is_op is_left is_right only_first only_second is u n =
    let j : IsJoined words s op left right u = join_named words s op left right u many is_op is_left is_right n in
    j.is ∙ ap (λ x. join op x j.second) (only_first j.first j.first_named) ∙ ap (join op first) (only_second j.second j.second_named) ∙ sym is

-- ---- plans

digits_of : (c op left w : ℕ) → op < 3 → left < SPAN → c * (4 * SPAN) + op * SPAN + left ≡ w → (op ≡ word_op w) × (left ≡ word_left w)
digits_of c op left w few small e = (omega arith, omega arith)

-- a legal tree is named by words that are those of its trees: each is the one word with a property P of its set
pub tree_named : (P : ℕ → ℕ → Type 0) → ((s v w : ℕ) → P s v → P s w → v ≡ w) → (model : ℕ) (q : JoinQuery) (words : List ℕ) (t : JoinTree) → IsQuery q → Legal model (graph_of q) t → cost model q t < COST_LIMIT → ((x : ℕ) → Connected (graph_of q) x → Within x (set_of t) → P x (slice_index words x)) → EverySubtree (λ u. P (set_of u) (root_word model q u)) t → NamedBy words t
tree_named P same model q words (leaf r) ok m below has every = tt
tree_named P same model q words (join op l r) ok m below has every =
    let s : ℕ = union (set_of l) (set_of r) in
    let word : slice_index words s ≡ root_word model q (join op l r) =
    same s (slice_index words s) (root_word model q (join op l r)) (has s (legal_connected model (graph_of q) (join op l r) m) (λ k h. h)) every.0 in
    let digits : (op ≡ word_op (slice_index words s)) × (set_of l ≡ word_left (slice_index words s)) =
    digits_of (cost model q (join op l r)) op (set_of l) (slice_index words s) (operators_few model op m.0) (legal_small model q l ok m.1) (sym (join_word model q op l r below) ∙ sym word) in (
      digits.0,
      digits.1,
      m.3,
      tree_named P same model q words l ok m.1 (omega (arith, below)) (λ x c w. has x c (λ k h. grind (arith, sets, w k h))) every.1,
      tree_named P same model q words r ok m.2 (omega (arith, below)) (λ x c w. has x c (λ k h. grind (arith, sets, w k h))) every.2,
    )
