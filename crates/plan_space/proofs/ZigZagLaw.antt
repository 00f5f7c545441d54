-- The list of zig-zag pairs has the pairs with a side of one relation, each once, and is ordered.
use Rattle.std.proofs.Common.{◌≡◌, ◌≢◌, ◌↔◌, ℕ, ◌+◌, ◌<◌, ◌≤◌, ◌⊎◌, inl, inr, arith, refl, sym, ◌∙◌, ap, subst, true, false, ◌&&◌, ◌||◌, List, [], map, nat_eq, nat_le, Contains}
use Rattle.std.specs.List.{AllPairs, filter, range_with_len}
use Rattle.std.proofs.lemmas.Bool.{cases_eq, cases_lt, cases_Bool, cond-true, cond-false, eqb-true, eq-eqb, ne_eqb, and_parts, and_from, or_cases, or_left, or_right, leb-true, le-leb}
use Rattle.std.proofs.lemmas.List.Kept.{AllPairs-filter}
use Rattle.dpe_base.specs.declared.pair.Pair.{Pair}
use Rattle.dpe_base.specs.Sets.{Has, Disjoint, IsLeast, member, union, minus, single, full, least, size}
use Rattle.dpe_base.proofs.SetLaws.{sets, same_set, member-same, single_has, single_one, single_some, single_within, minus_has, rest_apart, rest_whole, union_left, union_right, union_comm, least_same}
use Rattle.dpe_base.proofs.SizeLaws.{size-single, size-union, size_none, size_one}
use Rattle.dpe_base.proofs.NextSubset.{within_le}
use Rattle.dpe_base.proofs.Members.{contains_none}
use Rattle.join_graph.specs.Graphs.{JoinGraph, IsGraph, Connected, Pairs, pair_of}
use Rattle.join_graph.proofs.GraphLaws.{connected_single, connected_union, known_relation}
use Rattle.pair_stream.specs.Connectivity.{is_connected}
use Rattle.pair_stream.specs.Orders.{BuildsSide, Ordered}
use Rattle.pair_stream.proofs.Lists.{contains_map, contains_from_map, contains_filter, passes_from_filter, contains_flat_map, contains_from_flat_map, contains_range, pairs_nil, pairs_map, pairs_flat_map, pairs_range, pairs_weaker}
use Rattle.pair_stream.proofs.SubsetLaws.{positive}
use Rattle.pair_stream.proofs.ConnectivityLaws.{is_connected_true, connected_least}
use Rattle.pair_stream.proofs.OrderLaws.{MayPrecede, builds_itself}
use Rattle.plan_space.specs.Thin.{HasThinPairs, IsThinList}
use Rattle.plan_space.specs.ZigZag.{can_be_taken, taken_from, zig_zag_splits, seq_zig_zag}
use Rattle.plan_space.proofs.ThinLaws.{SmallSide, ordered_from}

-- ---- the pair of a relation and the rest of a set

pub taken_least : (s r : ℕ) → r ≡ least s → taken_from s r ≡ pair_of (single r) (minus s (single r))
unfolding taken_from
taken_least s r e = cond-true (nat_eq r (least s)) (pair_of (single r) (minus s (single r))) (pair_of (minus s (single r)) (single r)) (eq-eqb r (least s) e)

pub taken_other : (s r : ℕ) → r ≢ least s → taken_from s r ≡ pair_of (minus s (single r)) (single r)
unfolding taken_from
taken_other s r ne = cond-false (nat_eq r (least s)) (pair_of (single r) (minus s (single r))) (pair_of (minus s (single r)) (single r)) (ne_eqb r (least s) ne)

rest_size : (s r : ℕ) → Has s r → size s ≡ 1 + size (minus s (single r))
rest_size s r has =
    ap size (sym (rest_whole s (single r) (single_within s r has)))
    ∙ size-union (single r) (minus s (single r)) (rest_apart s (single r))
    ∙ ap (λ (k : ℕ). k + size (minus s (single r))) (size-single r)

rest_of : (a b s : ℕ) → Disjoint a b → union a b ≡ s → minus s b ≡ a
rest_of a b s d u = same_set _ _ (λ k. at k (d k) (member-same u k))
  where
    at : (k : ℕ) → (Has a k → Has b k → ⊥) → member (union a b) k ≡ member s k → member (minus s b) k ≡ member a k
    at k f e = grind (arith, sets)

module _ (g : JoinGraph) (ok : IsGraph g) where
  -- s is connected, and so is the rest of it without r
  pub record IsTaken (s r : ℕ) : Type 0 where
    pub whole : Connected g s
    pub has : Has s r
    pub counts : (r ≡ least s) ⊎ (3 ≤ size s)
    pub rest : Connected g (minus s (single r))

  pub can_be_taken_true : (s r : ℕ) → (can_be_taken g s r ≡ true) ↔ (Has s r × ((r ≡ least s) ⊎ (3 ≤ size s)) × Connected g (minus s (single r)))
  unfolding can_be_taken
  can_be_taken_true s r = (
    λ t.
        let x = and_parts (nat_eq (member s r) 1) ((nat_eq r (least s) || nat_le 3 (size s)) && is_connected g (minus s (single r))) t in
        let y = and_parts (nat_eq r (least s) || nat_le 3 (size s)) (is_connected g (minus s (single r))) x.1 in (
          eqb-true _ _ x.0,
          elim (or_cases (nat_eq r (least s)) (nat_le 3 (size s)) y.0) [ inl e ↦ inl (eqb-true _ _ e) | inr l ↦ inr (leb-true 3 (size s) l) ],
          (is_connected_true g (minus s (single r)) ok).0 y.1,
        ),
    λ h.
        and_from (nat_eq (member s r) 1) ((nat_eq r (least s) || nat_le 3 (size s)) && is_connected g (minus s (single r))) (eq-eqb _ _ h.0)
        (and_from (nat_eq r (least s) || nat_le 3 (size s)) (is_connected g (minus s (single r)))
        (elim h.1 [
          | inl e ↦ or_left (nat_eq r (least s)) (nat_le 3 (size s)) (eq-eqb r (least s) e)
          | inr l ↦ or_right (nat_eq r (least s)) (nat_le 3 (size s)) (le-leb 3 (size s) l)
        ])
        ((is_connected_true g (minus s (single r)) ok).1 h.2)),
  )

  -- ---- members

  abbrev taken_list : ℕ → List Pair
  taken_list s = map (taken_from s) (filter (can_be_taken g s) (range_with_len 0 g.n))

  splits_is : (s : ℕ) → Connected g s → zig_zag_splits g s ≡ taken_list s
  unfolding zig_zag_splits
  splits_is s c = cond-true (is_connected g s) (taken_list s) [] ((is_connected_true g s ok).1 c)

  splits_none : (s : ℕ) → is_connected g s ≡ false → zig_zag_splits g s ≡ []
  unfolding zig_zag_splits
  splits_none s f = cond-false (is_connected g s) (taken_list s) [] f

  taken_passes : (s r : ℕ) → Connected g s → Contains (filter (can_be_taken g s) (range_with_len 0 g.n)) r → IsTaken s r
  taken_passes s r c m =
      let x : Has s r × ((r ≡ least s) ⊎ (3 ≤ size s)) × Connected g (minus s (single r)) = (can_be_taken_true s r).0 (passes_from_filter (can_be_taken g s) (range_with_len 0 g.n) r m) in
      record { whole = c; has = x.0; counts = x.1; rest = x.2 }

  split_from : (s : ℕ) (p : Pair) → Contains (zig_zag_splits g s) p → (r : ℕ) × IsTaken s r × (taken_from s r ≡ p)
  split_from s p h =
      elim (cases_Bool (is_connected g s)) [
        | inl t ↦
            let c : Connected g s = (is_connected_true g s ok).0 t in
            let r : (r : ℕ) × Contains (filter (can_be_taken g s) (range_with_len 0 g.n)) r × (taken_from s r ≡ p) =
            contains_from_map (taken_from s) (filter (can_be_taken g s) (range_with_len 0 g.n)) p (subst (λ l. Contains l p) (splits_is s c) h) in
            (r.0, taken_passes s r.0 c r.1, r.2)
        | inr f ↦ absurd (contains_none p (subst (λ l. Contains l p) (splits_none s f) h))
      ]

  to_splits : (s r : ℕ) → IsTaken s r → Contains (zig_zag_splits g s) (taken_from s r)
  to_splits s r x =
      subst (λ l. Contains l (taken_from s r)) (sym (splits_is s x.whole))
      (contains_map (taken_from s) (filter (can_be_taken g s) (range_with_len 0 g.n)) r
      (contains_filter (can_be_taken g s) (range_with_len 0 g.n) r (contains_range 0 g.n r (omega arith) (omega (arith, known_relation g s r x.whole x.has)))
      ((can_be_taken_true s r).1 (x.has, x.counts, x.rest))))

  -- what holds of each pair with the union s
  record IsSplitOf (s : ℕ) (p : Pair) : Type 0 where
    pub pair : Pairs g p
    pub over : union p.a p.b ≡ s
    pub small : SmallSide 1 p.a p.b

  least_split : (s r : ℕ) → IsTaken s r → r ≡ least s → IsSplitOf s (pair_of (single r) (minus s (single r)))
  least_split s r x e =
      let u : union (single r) (minus s (single r)) ≡ s = rest_whole s (single r) (single_within s r x.has) in
      record {
        pair = record {
          first = connected_single g r (known_relation g s r x.whole x.has);
          second = x.rest;
          apart = rest_apart s (single r);
          crossed = x.whole.split (single r) (minus s (single r)) (single_some r) x.rest.some (rest_apart s (single r)) u;
          least = λ k l. subst (Has (single r)) (e ∙ least_same s (least s) k (connected_least g s ok x.whole) (subst (λ t. IsLeast t k) u l)) (single_has r);
        };
        over = u;
        small = inl (omega (arith, size-single r));
      }

  other_split : (s r : ℕ) → IsTaken s r → r ≢ least s → IsSplitOf s (pair_of (minus s (single r)) (single r))
  other_split s r x ne =
      let u : union (minus s (single r)) (single r) ≡ s = union_comm (minus s (single r)) (single r) ∙ rest_whole s (single r) (single_within s r x.has) in
      let d : Disjoint (minus s (single r)) (single r) = λ k m n. rest_apart s (single r) k n m in
      record {
        pair = record {
          first = x.rest;
          second = connected_single g r (known_relation g s r x.whole x.has);
          apart = d;
          crossed = x.whole.split (minus s (single r)) (single r) x.rest.some (single_some r) d u;
          least = λ k l. subst (Has (minus s (single r))) (least_same s (least s) k (connected_least g s ok x.whole) (subst (λ t. IsLeast t k) u l))
              (minus_has s (single r) (least s) (connected_least g s ok x.whole).0 (λ h. ne (single_one r (least s) h)));
        };
        over = u;
        small = inr (omega (arith, size-single r));
      }

  taken_split : (s r : ℕ) → IsTaken s r → IsSplitOf s (taken_from s r)
  taken_split s r x =
      elim (cases_eq r (least s)) [
        | inl e ↦ subst (IsSplitOf s) (sym (taken_least s r e)) (least_split s r x e)
        | inr ne ↦ subst (IsSplitOf s) (sym (taken_other s r ne)) (other_split s r x ne)
      ]

  split_is : (s : ℕ) (p : Pair) → Contains (zig_zag_splits g s) p → IsSplitOf s p
  split_is s p h =
      let x : (r : ℕ) × IsTaken s r × (taken_from s r ≡ p) = split_from s p h in subst (IsSplitOf s) x.2 (taken_split s x.0 x.1)

  sound : (p : Pair) → Contains (seq_zig_zag g) p → Pairs g p × SmallSide 1 p.a p.b
  unfolding seq_zig_zag
  sound p h =
      let s : (s : ℕ) × Contains (range_with_len 1 (full g.n)) s × Contains (zig_zag_splits g s) p = contains_from_flat_map (zig_zag_splits g) (range_with_len 1 (full g.n)) p h in
      let x : IsSplitOf s.0 p = split_is s.0 p s.2 in
      (x.pair, x.small)

  to_list : (s r : ℕ) (p : Pair) → IsTaken s r → taken_from s r ≡ p → Contains (seq_zig_zag g) p
  unfolding seq_zig_zag
  to_list s r p x e =
      contains_flat_map (zig_zag_splits g) (range_with_len 1 (full g.n)) s p
      (contains_range 1 (full g.n) s (positive s x.whole.some) (omega (arith, within_le s (full g.n) x.whole.within)))
      (subst (Contains (zig_zag_splits g s)) e (to_splits s r x))

  size_alone : (a : ℕ) → a ≢ 0 → size a ≤ 1 → (r : ℕ) × (a ≡ single r)
  size_alone a some few = size_one a (elim (cases_eq (size a) 0) [ inl none ↦ absurd (some (size_none a none)) | inr other ↦ omega (arith, few, other) ])

  module _ (p : Pair) (h : Pairs g p) where
    whole : Connected g (union p.a p.b)
    whole = connected_union g p.a p.b h.first h.second h.crossed

    least_first : Has p.a (least (union p.a p.b))
    least_first = h.least (least (union p.a p.b)) (connected_least g (union p.a p.b) ok whole)

    first_alone : (r : ℕ) → p.a ≡ single r → Contains (seq_zig_zag g) p
    first_alone r e =
        let is : r ≡ least (union p.a p.b) = single_one r (least (union p.a p.b)) (subst (λ a. Has a (least (union p.a p.b))) e least_first) in
        let rest : minus (union p.a p.b) (single r) ≡ p.b =
        ap (minus (union p.a p.b)) (sym e) ∙ rest_of p.b p.a (union p.a p.b) (λ k x y. h.apart k y x) (union_comm p.b p.a) in
        to_list (union p.a p.b) r p
        (record {
          whole = whole;
          has = union_left p.a p.b r (subst (λ a. Has a r) (sym e) (single_has r));
          counts = inl is;
          rest = subst (Connected g) (sym rest) h.second;
        })
        (taken_least (union p.a p.b) r is ∙ ap (pair_of (single r)) rest ∙ ap (λ a. pair_of a p.b) (sym e))

    second_alone : (r : ℕ) → 2 ≤ size p.a → p.b ≡ single r → Contains (seq_zig_zag g) p
    second_alone r many e =
        let rest : minus (union p.a p.b) (single r) ≡ p.a =
        ap (minus (union p.a p.b)) (sym e) ∙ rest_of p.a p.b (union p.a p.b) h.apart refl in
        let in_b : Has p.b r = subst (λ b. Has b r) (sym e) (single_has r) in
        to_list (union p.a p.b) r p
        (record {
          whole = whole;
          has = union_right p.a p.b r in_b;
          counts = inr (omega (arith, many, size-union p.a p.b h.apart, ap size e, size-single r));
          rest = subst (Connected g) (sym rest) h.first;
        })
        (taken_other (union p.a p.b) r (λ is. h.apart (least (union p.a p.b)) least_first (subst (Has p.b) is in_b))
        ∙ ap (λ a. pair_of a (single r)) rest ∙ ap (pair_of p.a) (sym e))

    complete : SmallSide 1 p.a p.b → Contains (seq_zig_zag g) p
    complete small =
        elim (cases_lt (size p.a) 2) [
          | inl few ↦ let r : (r : ℕ) × (p.a ≡ single r) = size_alone p.a h.first.some (omega (arith, few)) in first_alone r.0 r.1
          | inr many ↦ elim small [
            | inl one ↦ absurd (omega (arith, one, many))
            | inr few ↦ let r : (r : ℕ) × (p.b ≡ single r) = size_alone p.b h.second.some few in second_alone r.0 many r.1
          ]
        ]

  pub zig_zag_members : HasThinPairs g 1 (seq_zig_zag g)
  zig_zag_members p = (sound p, λ h. complete p h.0 h.1)

  -- ---- order

  two_unions : (s t : ℕ) (p q : Pair) → s < t → union p.a p.b ≡ s → union q.a q.b ≡ t → MayPrecede p q
  two_unions s t p q l ep eq = (
    λ e. omega (arith, ap (λ p. union p.a p.b) e, ep, eq),
    λ b. elim b [
      | inl e ↦ omega (arith, e, ep, eq, within_le p.a (union p.a p.b) (λ r h. union_left p.a p.b r h))
      | inr e ↦ omega (arith, e, ep, eq, within_le p.b (union p.a p.b) (λ r h. union_right p.a p.b r h))
    ],
  )

  one_union : (s : ℕ) (p q : Pair) → IsSplitOf s p → IsSplitOf s q → BuildsSide q p → ⊥
  one_union s p q x y b =
      builds_itself g p x.pair (elim b [ inl e ↦ inl (x.over ∙ sym y.over ∙ e) | inr e ↦ inr (x.over ∙ sym y.over ∙ e) ])

  -- two relations give two pairs
  differ : (s r t : ℕ) → IsTaken s r → IsTaken s t → r < t → taken_from s r ≢ taken_from s t
  differ s r t x y l e =
      elim (cases_eq r (least s)) [
        | inl is ↦
            let pairs : pair_of (single r) (minus s (single r)) ≡ pair_of (minus s (single t)) (single t) = sym (taken_least s r is) ∙ e ∙ taken_other s t other in
            elim y.counts [
              | inl z ↦ other z
              | inr many ↦ omega (arith, many, rest_size s t y.has, ap (λ p. size p.a) pairs, size-single r)
            ]
        | inr ne ↦
            let pairs : pair_of (minus s (single r)) (single r) ≡ pair_of (minus s (single t)) (single t) = sym (taken_other s r ne) ∙ e ∙ taken_other s t other in
            omega (arith, l, single_one r t (subst (λ k. Has k t) (sym (ap (λ p. p.b) pairs)) (single_has t)))
      ]
    where
      other : t ≢ least s
      other z = omega (arith, l, z, (connected_least g s ok x.whole).1 r x.has)

  splits_order : (s : ℕ) → AllPairs MayPrecede (zig_zag_splits g s)
  splits_order s =
      elim (cases_Bool (is_connected g s)) [
        | inl t ↦ whole_order ((is_connected_true g s ok).0 t)
        | inr f ↦ subst (AllPairs MayPrecede) (sym (splits_none s f)) (pairs_nil MayPrecede)
      ]
    where
      whole_order : Connected g s → AllPairs MayPrecede (zig_zag_splits g s)
      whole_order c =
          subst (AllPairs MayPrecede) (sym (splits_is s c))
          (pairs_map MayPrecede (λ a b. a < b) (taken_from s) (filter (can_be_taken g s) (range_with_len 0 g.n))
          (AllPairs-filter (λ a b. a < b) (can_be_taken g s) (range_with_len 0 g.n) (pairs_range 0 g.n))
          (λ a b ma mb l. (
            differ s a b (taken_passes s a c ma) (taken_passes s b c mb) l,
            one_union s (taken_from s a) (taken_from s b) (taken_split s a (taken_passes s a c ma)) (taken_split s b (taken_passes s b c mb)),
          )))

  zig_zag_order : AllPairs MayPrecede (seq_zig_zag g)
  unfolding seq_zig_zag
  zig_zag_order =
      pairs_flat_map MayPrecede (λ s t. s < t) (zig_zag_splits g) (range_with_len 1 (full g.n)) (pairs_range 1 (full g.n))
      (λ s m. splits_order s)
      (λ s t p q ms mt l mp mq. two_unions s t p q l (split_is s p mp).over (split_is t q mq).over)

  pub zig_zag_thin : IsThinList g 1 (seq_zig_zag g)
  zig_zag_thin = record {
    members = zig_zag_members;
    once = pairs_weaker (λ p q. p ≢ q) MayPrecede (seq_zig_zag g) zig_zag_order (λ p q cp cq m. m.0);
  }

  pub zig_zag_ordered : Ordered (seq_zig_zag g)
  zig_zag_ordered = ordered_from g 1 (seq_zig_zag g) ok (omega arith) zig_zag_members zig_zag_order
