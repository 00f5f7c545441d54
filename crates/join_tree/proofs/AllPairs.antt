-- Each query has a list whose members are its pairs: connectivity and crossings are decided by finite searches.
use Rattle.std.proofs.Common.{◌≡◌, ◌≢◌, ℕ, zero, suc, ◌^◌, ◌≤◌, ◌<◌, ◌⊎◌, ◌↔◌, inl, inr, arith, sym, subst, slice_index, List, [], ◌∷◌, ◌++◌, Contains}
use Rattle.std.proofs.lemmas.Bool.{cases_eq, cases_lt}
use Rattle.std.proofs.lemmas.List.Elements.{Contains-append_left, Contains-append_right, Contains-append_cases}
use Rattle.std.proofs.Math.Pow.{pow_mono}
use Rattle.dpe_base.specs.declared.TheConstants.{N_MAX}
use Rattle.dpe_base.specs.declared.pair.Pair.{Pair}
use Rattle.dpe_base.specs.Queries.{JoinQuery, relations, IsQuery}
use Rattle.dpe_base.specs.Sets.{Has, Within, Disjoint, IsLeast, member, union, full}
use Rattle.dpe_base.proofs.SetLaws.{sets, member-same, member-above, disjoint_by_inter, some_least, least_same}
use Rattle.dpe_base.proofs.NextSubset.{within_le}
use Rattle.dpe_base.proofs.SizeLaws.{full_below}
use Rattle.join_graph.specs.Graphs.{JoinGraph, IsGraph, Edge, Crossed, Connected, Pairs, pair_of, graph_of}
use Rattle.join_graph.proofs.Edges.{graph_is}
use Rattle.join_graph.proofs.GraphLaws.{connected_union}
use Rattle.join_graph.specs.PairLists.{HasAllPairs}
use Rattle.dpe_base.proofs.Members.{contains_head, contains_none, contains_cases}

-- ---- facts that are decided

abbrev Decided : Type 0 → Type 0
Decided P = P ⊎ (P → ⊥)

both : (P Q : Type 0) → Decided P → Decided Q → Decided (P × Q)
both P Q p q =
    elim p [
      | inl x ↦ elim q [ inl y ↦ inl (x, y) | inr n ↦ inr (λ z. n z.1) ]
      | inr n ↦ inr (λ z. n z.0)
    ]

either : (P Q : Type 0) → Decided P → Decided Q → Decided (P ⊎ Q)
either P Q p q =
    elim p [
      | inl x ↦ inl (inl x)
      | inr n ↦ elim q [ inl y ↦ inl (inr y) | inr m ↦ inr (λ z. elim z [ inl x ↦ n x | inr y ↦ m y ]) ]
    ]

under : (P Q : Type 0) → Decided P → (P → Decided Q) → Decided (P → Q)
under P Q p q =
    elim p [
      | inl x ↦ elim (q x) [ inl y ↦ inl (λ z. y) | inr n ↦ inr (λ f. n (f x)) ]
      | inr n ↦ inl (λ x. absurd (n x))
    ]

by_iff : (P Q : Type 0) → (P ↔ Q) → Decided P → Decided Q
by_iff P Q e p = elim p [ inl x ↦ inl (e.0 x) | inr n ↦ inr (λ y. n (e.1 y)) ]

same_or_not : (a b : ℕ) → Decided (a ≡ b)
same_or_not a b = cases_eq a b

below_or_not : (a b : ℕ) → Decided (a < b)
below_or_not a b = elim (cases_lt a b) [ inl l ↦ inl l | inr g ↦ inr (λ l. omega arith) ]

has_or_not : (s r : ℕ) → Decided (Has s r)
has_or_not s r = cases_eq (member s r) 1

some_below : (n : ℕ) (P : ℕ → Type 0) → ((k : ℕ) → Decided (P k)) → Decided ((k : ℕ) × (k < n) × P k)
some_below zero P each = inr (λ x. omega (arith, x.1))
some_below (suc n) P each =
    elim (each n) [
      | inl x ↦ inl (n, omega arith, x)
      | inr never ↦
          elim (some_below n P each) [
            | inl x ↦ inl (x.0, omega (arith, x.1), x.2)
            | inr none ↦ inr (λ x. elim (cases_eq x.0 n) [ inl e ↦ never (subst P e x.2) | inr ne ↦ none (x.0, omega (arith, x.1), x.2) ])
          ]
    ]

all_below : (n : ℕ) (P : ℕ → Type 0) → ((k : ℕ) → Decided (P k)) → Decided ((k : ℕ) → k < n → P k)
all_below zero P each = inl (λ k l. absurd (omega arith))
all_below (suc n) P each =
    elim (each n) [
      | inr never ↦ inr (λ f. never (f n (omega arith)))
      | inl x ↦
          elim (all_below n P each) [
            | inl f ↦ inl (λ k l. elim (cases_eq k n) [ inl e ↦ subst P (sym e) x | inr ne ↦ f k (omega arith) ])
            | inr never ↦ inr (λ f. never (λ k l. f k (omega arith)))
          ]
    ]

-- ---- pairs are decided

module _ (g : JoinGraph) (ok : IsGraph g) where
  abbrev Ends : ℕ → ℕ → ℕ → ℕ → Type 0
  Ends a b r s = (Has a r × Has b s) ⊎ (Has a s × Has b r)

  ends_or_not : (a b r s : ℕ) → Decided (Ends a b r s)
  ends_or_not a b r s =
      either (Has a r × Has b s) (Has a s × Has b r)
      (both (Has a r) (Has b s) (has_or_not a r) (has_or_not b s))
      (both (Has a s) (Has b r) (has_or_not a s) (has_or_not b r))

  abbrev CrossedBelow : ℕ → ℕ → ℕ → Type 0
  CrossedBelow a b r = (s : ℕ) × (s < g.n) × (Edge g r s × Ends a b r s)

  crossed_decided : (a b : ℕ) → Decided (Crossed g a b)
  crossed_decided a b =
      by_iff
      ((r : ℕ) × (r < g.n) × CrossedBelow a b r)
      (Crossed g a b)
      (λ x. (x.0, x.2.0, x.2.2.0, x.2.2.1), λ x. (x.0, (ok.known x.0 x.1 x.2).0, (x.1, (ok.known x.0 x.1 x.2).1, (x.2, x.3))))
      (some_below g.n (CrossedBelow a b) (λ r. some_below g.n (λ s. Edge g r s × Ends a b r s) (λ s. both (Edge g r s) (Ends a b r s) (has_or_not (slice_index g.adjacent r) s) (ends_or_not a b r s))))

  abbrev IsCut : ℕ → ℕ → ℕ → Type 0
  IsCut s a b = a ≢ 0 → b ≢ 0 → Disjoint a b → union a b ≡ s → Crossed g a b

  not_none : (a : ℕ) → Decided (a ≢ 0)
  not_none a = elim (cases_eq a 0) [ inl e ↦ inr (λ n. n e) | inr ne ↦ inl ne ]

  cut_decided : (s a b : ℕ) → Decided (IsCut s a b)
  cut_decided s a b =
      under _ _ (not_none a) (λ x. under _ _ (not_none b) (λ y. under _ _ (by_iff _ _ (disjoint_by_inter a b) (same_or_not _ 0)) (λ z. under _ _ (same_or_not _ s) (λ u. crossed_decided a b))))

  within_from : (s n : ℕ) → s < 2 ^ n → Within s (full n)
  within_from s n l r h = elim (cases_lt r n) [ inl lt ↦ grind (arith, sets) | inr ge ↦ absurd (omega (arith, h, member-above s n r l (omega arith))) ]

  parts_below : (a b s : ℕ) → union a b ≡ s → (a ≤ s) × (b ≤ s)
  parts_below a b s e = (within_le a s (λ r h. grind (arith, sets, member-same e r)), within_le b s (λ r h. grind (arith, sets, member-same e r)))

  connected_decided : (s : ℕ) → Decided (Connected g s)
  connected_decided s =
      by_iff
      ((s ≢ 0) × ((s < 2 ^ g.n) × ((a : ℕ) → a < suc s → (b : ℕ) → b < suc s → IsCut s a b)))
      (Connected g s) (
        λ x. record {
          some = x.0;
          within = within_from s g.n x.1.0;
          split = λ a b na nb d e. x.1.1 a (omega (arith, (parts_below a b s e).0)) b (omega (arith, (parts_below a b s e).1)) na nb d e;
        },
        λ c. (c.some, (full_below s g.n c.within, λ a la b lb. c.split a b)),
      )
      (both _ _ (not_none s) (both _ _ (below_or_not s (2 ^ g.n)) (all_below (suc s) _ (λ a. all_below (suc s) _ (λ b. cut_decided s a b)))))

  abbrev LeastIn : ℕ → ℕ → Type 0
  LeastIn s a = (r : ℕ) → IsLeast s r → Has a r

  least_decided : (s a : ℕ) → s < 2 ^ 32 → s ≢ 0 → Decided (LeastIn s a)
  least_decided s a small some =
      let least : (r : ℕ) × (r < 32) × IsLeast s r = some_least s small some in
      by_iff (Has a least.0) (LeastIn s a) (λ h r l. subst (Has a) (least_same s least.0 r least.2 l) h, λ f. f least.0 least.2) (has_or_not a least.0)

  pairs_decided : (a b : ℕ) → Decided (Pairs g (pair_of a b))
  pairs_decided a b =
      elim (both _ _ (connected_decided a) (both _ _ (connected_decided b) (both _ _ (by_iff _ _ (disjoint_by_inter a b) (same_or_not _ 0)) (crossed_decided a b)))) [
        | inr never ↦ inr (λ p. never (p.first, (p.second, (p.apart, p.crossed))))
        | inl j ↦
            let union_in : Connected g (union a b) = connected_union g a b j.0 j.1.0 j.1.1.1 in
            by_iff (LeastIn (union a b) a) (Pairs g (pair_of a b))
            (λ l. record { first = j.0; second = j.1.0; apart = j.1.1.0; crossed = j.1.1.1; least = l }, λ p. p.least)
            (least_decided (union a b) a (omega (arith, full_below (union a b) g.n union_in.within, pow_mono {i = g.n} {j = N_MAX} ok.few)) union_in.some)
      ]

-- ---- the list

flat : {A : Type 0} → (ℕ → List A) → ℕ → List A
flat f zero = []
flat f (suc n) = flat f n ++ f n

of_flat : {A : Type 0} (f : ℕ → List A) (n : ℕ) (x : A) → Contains (flat f n) x → (k : ℕ) × (k < n) × Contains (f k) x
unfolding flat
of_flat f zero x c = absurd (contains_none x c)
of_flat f (suc n) x c =
    elim (Contains-append_cases (flat f n) (f n) x c) [
      | inl l ↦ let s : (k : ℕ) × (k < n) × Contains (f k) x = of_flat f n x l in (s.0, omega (arith, s.1), s.2)
      | inr r ↦ (n, omega arith, r)
    ]

in_flat : {A : Type 0} (f : ℕ → List A) (n : ℕ) (x : A) (k : ℕ) → k < n → Contains (f k) x → Contains (flat f n) x
unfolding flat
in_flat f zero x k l c = absurd (omega arith)
in_flat f (suc n) x k l c =
    elim (cases_eq k n) [
      | inl e ↦ Contains-append_right (flat f n) (f n) x (subst (λ j. Contains (f j) x) e c)
      | inr ne ↦ Contains-append_left (flat f n) (f n) x (in_flat f n x k (omega arith) c)
    ]

-- the pair, where it is one of the graph
if_pair : (g : JoinGraph) (p : Pair) → Decided (Pairs g p) → List Pair
if_pair g p (inl x) = p ∷ []
if_pair g p (inr n) = []

of_if_pair : (g : JoinGraph) (p x : Pair) (d : Decided (Pairs g p)) → Contains (if_pair g p d) x → (p ≡ x) × Pairs g p
unfolding if_pair
of_if_pair g p x (inl d) c = (elim (contains_cases p [] x c) [ inl e ↦ e | inr none ↦ absurd (contains_none x none) ], d)
of_if_pair g p x (inr n) c = absurd (contains_none x c)

in_if_pair : (g : JoinGraph) (p : Pair) (d : Decided (Pairs g p)) → Pairs g p → Contains (if_pair g p d) p
unfolding if_pair
in_if_pair g p (inl d) x = contains_head p []
in_if_pair g p (inr n) x = absurd (n x)

pairs_from : (g : JoinGraph) → IsGraph g → ℕ → ℕ → List Pair
pairs_from g ok n a = flat (λ b. if_pair g (pair_of a b) (pairs_decided g ok a b)) n

-- a list of all pairs of the query
pub all_pairs : (q : JoinQuery) → IsQuery q → (pairs : List Pair) × HasAllPairs (graph_of q) pairs
unfolding pairs_from
all_pairs q ok = (flat (pairs_from (graph_of q) (graph_is q ok) (2 ^ relations q)) (2 ^ relations q), λ p. (of_list p, in_list p))
  where
    of_list : (p : Pair) → Contains (flat (pairs_from (graph_of q) (graph_is q ok) (2 ^ relations q)) (2 ^ relations q)) p → Pairs (graph_of q) p
    of_list p c =
        let x = of_flat (pairs_from (graph_of q) (graph_is q ok) (2 ^ relations q)) (2 ^ relations q) p c in
        let y = of_flat (λ b. if_pair (graph_of q) (pair_of x.0 b) (pairs_decided (graph_of q) (graph_is q ok) x.0 b)) (2 ^ relations q) p x.2 in
        let z = of_if_pair (graph_of q) (pair_of x.0 y.0) p (pairs_decided (graph_of q) (graph_is q ok) x.0 y.0) y.2 in
        subst (Pairs (graph_of q)) z.0 z.1

    in_list : (p : Pair) → Pairs (graph_of q) p → Contains (flat (pairs_from (graph_of q) (graph_is q ok) (2 ^ relations q)) (2 ^ relations q)) p
    in_list p x =
        in_flat (pairs_from (graph_of q) (graph_is q ok) (2 ^ relations q)) (2 ^ relations q) p p.a (full_below p.a (relations q) x.first.within)
        (in_flat (λ b. if_pair (graph_of q) (pair_of p.a b) (pairs_decided (graph_of q) (graph_is q ok) p.a b)) (2 ^ relations q) p p.b (full_below p.b (relations q) x.second.within)
        (in_if_pair (graph_of q) (pair_of p.a p.b) (pairs_decided (graph_of q) (graph_is q ok) p.a p.b) x))
