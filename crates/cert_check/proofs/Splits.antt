-- The pairs with one union: the second side is any part of what is left without the least relation, and the first is the rest.
use Rattle.std.proofs.Common.{◌≡◌, ℕ, ◌≤◌, inl, inr, arith, sym, subst, ◌∙◌, List}
use Rattle.std.proofs.lemmas.Bool.{cases_lt}
use Rattle.dpe_base.specs.declared.pair.Pair.{Pair}
use Rattle.dpe_base.specs.Queries.{JoinQuery}
use Rattle.dpe_base.specs.Sets.{Has, member, Within, Disjoint, IsLeast, IsNextSubset, union, minus, single}
use Rattle.dpe_base.proofs.SetLaws.{sets, same_set, member-same, least_same, union_right, single_has, single_one, minus_has, minus_left, minus_right, rest_whole, union_comm}
use Rattle.dpe_base.proofs.NextSubset.{within_le}
use Rattle.join_graph.specs.Graphs.{JoinGraph, Connected, Pairs, pair_of, graph_of}
use Rattle.join_graph.proofs.GraphLaws.{connected_union}
use Rattle.cert_check.specs.Certificates.{PairBounded}

second_has : (g : JoinGraph) (s r : ℕ) (p : Pair) → IsLeast s r → Pairs g p → union p.a p.b ≡ s → Within p.b (minus s (single r))
second_has g s r p least pair over k h =
    minus_has s (single r) k (subst (λ x. Has x k) over (union_right p.a p.b k h)) (λ e. pair.apart r (pair.least r (rw over least)) (at k r (single_one r k e) h))
  where
    at : (k r : ℕ) → r ≡ k → Has p.b k → Has p.b r
    at k r e = subst (Has p.b) (sym e)

first_is : (g : JoinGraph) (s : ℕ) (p : Pair) → Pairs g p → union p.a p.b ≡ s → p.a ≡ minus s p.b
first_is g s p pair over = same_set _ _ (λ r. at r (pair.apart r))
  where
    at : (r : ℕ) → (Has p.a r → Has p.b r → ⊥) → member p.a r ≡ member (minus s p.b) r
    at r d = grind (arith, sets, member-same over r)

pub split_whole : (s r b : ℕ) → Within b (minus s (single r)) → union (minus s b) b ≡ s
split_whole s r b part = union_comm (minus s b) b ∙ rest_whole s b (λ k h. minus_left s (single r) k (part k h))

-- two connected parts of a connected set, as they are tried
pub split_pair : (g : JoinGraph) (s r b : ℕ) → Connected g s → IsLeast s r → Within b (minus s (single r)) → Connected g (minus s b) → Connected g b → Pairs g (pair_of (minus s b) b)
split_pair g s r b c least part ca cb =
    let whole : union (minus s b) b ≡ s = split_whole s r b part in
    let apart : Disjoint (minus s b) b = λ k h. minus_right s b k h in
    record {
      first = ca;
      second = cb;
      apart = apart;
      crossed = c.split (minus s b) b ca.some cb.some apart whole;
      least = λ k l. at k (least_same s r k least (rw whole at l));
    }
  where
    at : (k : ℕ) → r ≡ k → Has (minus s b) k
    at k e = subst (Has (minus s b)) e (minus_has s b r least.0 (λ h. minus_right s (single r) r (part r h) (single_has r)))

-- the pairs with the union s and a second side up to this one are bounded
pub record IsTried (model : ℕ) (q : JoinQuery) (bounds : List ℕ) (s r second : ℕ) : Type 0 where
  pub part : Within second (minus s (single r))
  pub tried : (p : Pair) → Pairs (graph_of q) p → union p.a p.b ≡ s → p.b ≤ second → PairBounded model q bounds p

-- 0 is the first second side
pub none_tried : (model : ℕ) (q : JoinQuery) (bounds : List ℕ) (s r second : ℕ) → second ≡ 0 → IsTried model q bounds s r second
none_tried model q bounds s r second e =
    record {
      part = λ k h. grind (arith, sets, member-same e k);
      tried = λ p pair over le. absurd (pair.second.some (omega (arith, le, e)));
    }

-- a pair is told by its union and its second side
same_split : (model : ℕ) (q : JoinQuery) (bounds : List ℕ) (s next a b : ℕ) → next ≡ b → a ≡ minus s b → (Connected (graph_of q) (minus s next) → Connected (graph_of q) next → PairBounded model q bounds (pair_of (minus s next) next)) → Connected (graph_of q) a → Connected (graph_of q) b → PairBounded model q bounds (pair_of a b)
same_split model q bounds s next a b e f h =
    subst (λ x. Connected (graph_of q) x → Connected (graph_of q) b → PairBounded model q bounds (pair_of x b)) (sym f)
    (subst (λ x. Connected (graph_of q) (minus s x) → Connected (graph_of q) x → PairBounded model q bounds (pair_of (minus s x) x)) e h)

-- one more second side
pub one_more_tried : (model : ℕ) (q : JoinQuery) (bounds : List ℕ) (s r second next : ℕ) → IsLeast s r → IsTried model q bounds s r second → IsNextSubset second (minus s (single r)) next → (Connected (graph_of q) (minus s next) → Connected (graph_of q) next → PairBounded model q bounds (pair_of (minus s next) next)) → IsTried model q bounds s r next
one_more_tried model q bounds s r second next least before step h =
    record {
      part = step.within;
      tried = λ p pair over le.
          elim (cases_lt second p.b) [
            | inl above ↦
                same_split model q bounds s next p.a p.b (omega (arith, le, step.next p.b (second_has (graph_of q) s r p least pair over) above)) (first_is (graph_of q) s p pair over) h pair.first pair.second
            | inr below ↦ before.tried p pair over below
          ];
    }

-- after the greatest second side
pub all_tried : (model : ℕ) (q : JoinQuery) (bounds : List ℕ) (s r second : ℕ) → IsLeast s r → IsTried model q bounds s r second → second ≡ minus s (single r) → (p : Pair) → Pairs (graph_of q) p → union p.a p.b ≡ s → PairBounded model q bounds p
all_tried model q bounds s r second least before e p pair over =
    before.tried p pair over (omega (arith, e, within_le p.b (minus s (single r)) (second_has (graph_of q) s r p least pair over)))

-- a second side that fails is that of a pair
pub one_fails : (model : ℕ) (q : JoinQuery) (bounds : List ℕ) (s r second next : ℕ) → Connected (graph_of q) s → IsLeast s r → IsNextSubset second (minus s (single r)) next → ((Connected (graph_of q) (minus s next) → Connected (graph_of q) next → PairBounded model q bounds (pair_of (minus s next) next)) → ⊥) → ((p : Pair) → Pairs (graph_of q) p → union p.a p.b ≡ s → PairBounded model q bounds p) → ⊥
one_fails model q bounds s r second next c least step fails all =
    fails (λ ca cb. all (pair_of (minus s next) next) (split_pair (graph_of q) s r next c least step.within ca cb) (split_whole s r next step.within))

-- no pair makes up a set that is not connected
pub no_union : (model : ℕ) (q : JoinQuery) (bounds : List ℕ) (s : ℕ) → (Connected (graph_of q) s → ⊥) → (p : Pair) → Pairs (graph_of q) p → union p.a p.b ≡ s → PairBounded model q bounds p
no_union model q bounds s none p pair over =
    absurd (none (subst (Connected (graph_of q)) over (connected_union (graph_of q) p.a p.b pair.first pair.second pair.crossed)))
