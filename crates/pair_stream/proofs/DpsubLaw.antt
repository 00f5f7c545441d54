-- The list by unions is complete and ordered.
use Rattle.std.proofs.Common.{◌≡◌, ◌↔◌, ℕ, ◌<◌, inl, inr, arith, sym, ◌∙◌, ap, subst, true, false, ◌&&◌, List, [], map, nat_eq}
use Rattle.std.specs.List.{AllPairs, Contains, filter, range_with_len}
use Rattle.std.proofs.lemmas.Bool.{cases_Bool, cond-true, cond-false, eqb-true, eq-eqb, and_parts, and_from}
use Rattle.std.proofs.lemmas.List.Kept.{AllPairs-filter}
use Rattle.dpe_base.specs.declared.pair.Pair.{Pair}
use Rattle.dpe_base.specs.Sets.{Has, Within, Disjoint, IsLeast, member, union, minus, full, least}
use Rattle.dpe_base.proofs.SetLaws.{sets, same_set, rest_apart, rest_whole, union_left, union_right, least_same}
use Rattle.dpe_base.proofs.NextSubset.{within_le}
use Rattle.join_graph.specs.Graphs.{JoinGraph, IsGraph, Connected, Pairs, pair_of}
use Rattle.join_graph.proofs.GraphLaws.{connected_union}
use Rattle.pair_stream.specs.Subsets.{subsets}
use Rattle.pair_stream.specs.Connectivity.{is_connected}
use Rattle.pair_stream.specs.Orders.{BuildsSide, Ordered, Complete}
use Rattle.pair_stream.specs.Dpsub.{is_split, splits_of, seq_dpsub}
use Rattle.dpe_base.proofs.Members.{contains_none}
use Rattle.pair_stream.proofs.Lists.{contains_map, contains_from_map, contains_filter, contains_from_filter, passes_from_filter, contains_flat_map, contains_from_flat_map, contains_range, pairs_nil, pairs_map, pairs_flat_map, pairs_range}
use Rattle.pair_stream.proofs.SubsetLaws.{subsets_has, subsets_ascend, positive}
use Rattle.pair_stream.proofs.ConnectivityLaws.{is_connected_true, connected_least}
use Rattle.pair_stream.proofs.OrderLaws.{MayPrecede, builds_itself, complete_from, ordered_from}

rest_of_union : (a b : ℕ) → Disjoint a b → minus (union a b) a ≡ b
rest_of_union a b d = same_set _ _ (λ r. at r (d r))
  where
    at : (r : ℕ) → (Has a r → Has b r → ⊥) → member (minus (union a b) a) r ≡ member b r
    at r f = grind (arith, sets)

module _ (g : JoinGraph) (ok : IsGraph g) where
  -- s is connected, and a with the least relation of s and the rest are connected
  record IsSplit (s a : ℕ) : Type 0 where
    pub whole : Connected g s
    pub within : Within a s
    pub least : Has a (least s)
    pub first : Connected g a
    pub second : Connected g (minus s a)

  pub is_split_true : (s a : ℕ) → (is_split g s a ≡ true) ↔ (Has a (least s) × Connected g a × Connected g (minus s a))
  unfolding is_split
  is_split_true s a = (
    λ t.
        let x = and_parts (nat_eq (member a (least s)) 1) (is_connected g a && is_connected g (minus s a)) t in
        let y = and_parts (is_connected g a) (is_connected g (minus s a)) x.1 in
        (eqb-true _ _ x.0, (is_connected_true g a ok).0 y.0, (is_connected_true g (minus s a) ok).0 y.1),
    λ h.
        and_from (nat_eq (member a (least s)) 1) (is_connected g a && is_connected g (minus s a)) (eq-eqb _ _ h.0)
        (and_from (is_connected g a) (is_connected g (minus s a)) ((is_connected_true g a ok).1 h.1) ((is_connected_true g (minus s a) ok).1 h.2)),
  )

  abbrev split_list : ℕ → List Pair
  split_list s = map (λ a. pair_of a (minus s a)) (filter (is_split g s) (subsets s))

  splits_of_is : (s : ℕ) → Connected g s → splits_of g s ≡ split_list s
  unfolding splits_of
  splits_of_is s c = cond-true (is_connected g s) (split_list s) [] ((is_connected_true g s ok).1 c)

  splits_of_none : (s : ℕ) (p : Pair) → is_connected g s ≡ false → Contains (splits_of g s) p → ⊥
  unfolding splits_of
  splits_of_none s p e h = contains_none p (subst (λ l. Contains l p) (cond-false (is_connected g s) (split_list s) [] e) h)

  split_from : (s : ℕ) (p : Pair) → Contains (splits_of g s) p → (a : ℕ) × IsSplit s a × (pair_of a (minus s a) ≡ p)
  split_from s p h =
      elim (cases_Bool (is_connected g s)) [
        | inl t ↦
            let c : Connected g s = (is_connected_true g s ok).0 t in
            let a : (a : ℕ) × Contains (filter (is_split g s) (subsets s)) a × (pair_of a (minus s a) ≡ p) =
            contains_from_map (λ a. pair_of a (minus s a)) (filter (is_split g s) (subsets s)) p (subst (λ l. Contains l p) (splits_of_is s c) h) in
            let x : Has a.0 (least s) × Connected g a.0 × Connected g (minus s a.0) = (is_split_true s a.0).0 (passes_from_filter (is_split g s) (subsets s) a.0 a.1) in
            let w : (0 < a.0) × Within a.0 s = (subsets_has 0 s a.0).0 (contains_from_filter (is_split g s) (subsets s) a.0 a.1) in
            (a.0, record { whole = c; within = w.1; least = x.0; first = x.1; second = x.2 }, a.2)
        | inr f ↦ absurd (splits_of_none s p f h)
      ]

  pair_from : (s a : ℕ) → IsSplit s a → Pairs g (pair_of a (minus s a))
  pair_from s a x =
      record {
        first = x.first;
        second = x.second;
        apart = rest_apart s a;
        crossed = x.whole.split a (minus s a) x.first.some x.second.some (rest_apart s a) (rest_whole s a x.within);
        least = λ r l.
            let same : least s ≡ r = least_same s (least s) r (connected_least g s ok x.whole) (subst (λ k. IsLeast k r) (rest_whole s a x.within) l) in
            subst (Has a) same x.least;
      }

  pair_of_splits : (s : ℕ) (p : Pair) → Contains (splits_of g s) p → Pairs g p × (union p.a p.b ≡ s)
  pair_of_splits s p h =
      let x : (a : ℕ) × IsSplit s a × (pair_of a (minus s a) ≡ p) = split_from s p h in (
        subst (Pairs g) x.2 (pair_from s x.0 x.1),
        subst (λ p. union p.a p.b ≡ s) x.2 (rest_whole s x.0 x.1.within),
      )

  pub sub_sound : (p : Pair) → Contains (seq_dpsub g) p → Pairs g p
  unfolding seq_dpsub
  sub_sound p h =
      let s : (s : ℕ) × Contains (range_with_len 1 (full g.n)) s × Contains (splits_of g s) p = contains_from_flat_map (splits_of g) (range_with_len 1 (full g.n)) p h in
      (pair_of_splits s.0 p s.2).0

  pub sub_complete : (p : Pair) → Pairs g p → Contains (seq_dpsub g) p
  unfolding seq_dpsub
  sub_complete p h =
      contains_flat_map (splits_of g) (range_with_len 1 (full g.n)) s p
      (contains_range 1 (full g.n) s (positive s c.some) (omega (arith, within_le s (full g.n) c.within)))
      (subst (λ l. Contains l p) (sym (splits_of_is s c))
      (subst (Contains (split_list s)) same
      (contains_map (λ a. pair_of a (minus s a)) (filter (is_split g s) (subsets s)) p.a
      (contains_filter (is_split g s) (subsets s) p.a
      ((subsets_has 0 s p.a).1 (positive p.a h.first.some, λ r m. union_left p.a p.b r m))
      ((is_split_true s p.a).1 (h.least (least s) (connected_least g s ok c), h.first, subst (Connected g) (sym rest) h.second))))))
    where
      s : ℕ
      s = union p.a p.b

      c : Connected g (union p.a p.b)
      c = connected_union g p.a p.b h.first h.second h.crossed

      rest : minus (union p.a p.b) p.a ≡ p.b
      rest = rest_of_union p.a p.b h.apart

      same : pair_of p.a (minus (union p.a p.b) p.a) ≡ p
      same = ap (pair_of p.a) rest

  -- pairs with one union
  one_union : (s : ℕ) (p q : Pair) → Pairs g p → union p.a p.b ≡ s → union q.a q.b ≡ s → BuildsSide q p → ⊥
  one_union s p q h ep eq b =
      builds_itself g p h (elim b [ inl e ↦ inl (ep ∙ sym eq ∙ e) | inr e ↦ inr (ep ∙ sym eq ∙ e) ])

  -- pairs with two unions
  two_unions : (s t : ℕ) (p q : Pair) → s < t → union p.a p.b ≡ s → union q.a q.b ≡ t → MayPrecede p q
  two_unions s t p q l ep eq = (
    λ e. omega (arith, ap (λ p. union p.a p.b) e, ep, eq),
    λ b. elim b [
      | inl e ↦ omega (arith, e, ep, eq, within_le p.a (union p.a p.b) (λ r h. union_left p.a p.b r h))
      | inr e ↦ omega (arith, e, ep, eq, within_le p.b (union p.a p.b) (λ r h. union_right p.a p.b r h))
    ],
  )

  splits_order : (s : ℕ) → AllPairs MayPrecede (splits_of g s)
  unfolding splits_of
  splits_order s =
      elim (cases_Bool (is_connected g s)) [
        | inl t ↦ whole ((is_connected_true g s ok).0 t)
        | inr f ↦ none f
      ]
    where
      none : is_connected g s ≡ false → AllPairs MayPrecede (splits_of g s)
      none f = subst (AllPairs MayPrecede) (sym (cond-false (is_connected g s) (split_list s) [] f)) (pairs_nil MayPrecede)

      made : (c : Connected g s) (a : ℕ) → Contains (filter (is_split g s) (subsets s)) a → Pairs g (pair_of a (minus s a)) × (union a (minus s a) ≡ s)
      made c a m = pair_of_splits s (pair_of a (minus s a)) (subst (λ l. Contains l (pair_of a (minus s a))) (sym (splits_of_is s c)) (contains_map (λ a. pair_of a (minus s a)) (filter (is_split g s) (subsets s)) a m))

      whole : Connected g s → AllPairs MayPrecede (splits_of g s)
      whole c =
          subst (AllPairs MayPrecede) (sym (splits_of_is s c))
          (pairs_map MayPrecede (λ a b. a < b) (λ a. pair_of a (minus s a)) (filter (is_split g s) (subsets s))
          (AllPairs-filter (λ a b. a < b) (is_split g s) (subsets s) (subsets_ascend 0 s))
          (λ a b ma mb l. (
            λ e. omega (arith, ap (λ p. p.a) e),
            one_union s (pair_of a (minus s a)) (pair_of b (minus s b)) (made c a ma).0 (made c a ma).1 (made c b mb).1,
          )))

  pub sub_order : AllPairs MayPrecede (seq_dpsub g)
  unfolding seq_dpsub
  sub_order =
      pairs_flat_map MayPrecede (λ s t. s < t) (splits_of g) (range_with_len 1 (full g.n)) (pairs_range 1 (full g.n))
      (λ s m. splits_order s)
      (λ s t p q ms mt l mp mq. two_unions s t p q l (pair_of_splits s p mp).1 (pair_of_splits t q mq).1)

  pub dpsub_complete : Complete g (seq_dpsub g)
  dpsub_complete = complete_from g (seq_dpsub g) sub_sound sub_complete sub_order

  pub dpsub_ordered : Ordered (seq_dpsub g)
  dpsub_ordered = ordered_from g (seq_dpsub g) ok sub_sound sub_complete sub_order
