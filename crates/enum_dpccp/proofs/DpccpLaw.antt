-- The list by first sides is complete and ordered.
use Rattle.std.proofs.Common.{◌≡◌, ◌≢◌, ◌↔◌, ℕ, suc, ◌≤◌, inl, inr, arith, sym, ap, subst, map}
use Rattle.std.specs.List.{AllPairs, Contains}
use Rattle.dpe_base.specs.declared.pair.Pair.{Pair}
use Rattle.dpe_base.specs.Sets.{Has, Disjoint, IsLeast, union, full, least}
use Rattle.dpe_base.proofs.SetLaws.{full_has, full_limit, union_left, union_right, union_cases, union_within}
use Rattle.dpe_base.proofs.SizeLaws.{union_some}
use Rattle.join_graph.specs.Graphs.{JoinGraph, IsGraph, Connected, Pairs, pair_of}
use Rattle.pair_stream.specs.Orders.{Ordered, Complete}
use Rattle.pair_stream.proofs.Lists.{contains_map, contains_from_map, contains_flat_map, contains_from_flat_map, pairs_map, pairs_flat_map}
use Rattle.pair_stream.proofs.SubsetLaws.{least_is}
use Rattle.pair_stream.proofs.ConnectivityLaws.{connected_least}
use Rattle.pair_stream.proofs.OrderLaws.{MayPrecede, union_not_left, complete_from, ordered_from}
use Rattle.enum_dpccp.specs.Dpccp.{first_sides, second_sides, excluded, seq_dpccp}
use Rattle.connected_sets.proofs.GrownLaws.{ByLeast, sets_has, sets_order}
use Rattle.enum_dpccp.proofs.SideLaws.{IsSecondSide, second_has, second_once}

excluded_least : (a r : ℕ) → r ≤ least a → Has (excluded a) r
excluded_least a r l = union_left (full (suc (least a))) a r (full_has (suc (least a)) r (omega arith))

excluded_own : (a r : ℕ) → Has a r → Has (excluded a) r
excluded_own a r h = union_right (full (suc (least a))) a r h

module _ (g : JoinGraph) (ok : IsGraph g) where
  pair_from : (a b : ℕ) → Connected g a → IsSecondSide g ok a b → Pairs g (pair_of a b)
  pair_from a b c s =
      record {
        first = c;
        second = s.connected;
        apart = λ r h k. s.apart r (excluded_own a r h) k;
        crossed = s.crossed;
        least = λ r l. elim (union_cases a b r l.0) [
          | inl h ↦ h
          | inr h ↦ absurd (s.apart r (excluded_least a r (l.1 (least a) (union_left a b (least a) (connected_least g a ok c).0))) h)
        ];
      }

  pair_second : (p : Pair) → Pairs g p → IsSecondSide g ok p.a p.b
  pair_second p h =
      record {
        connected = h.second;
        apart = apart;
        crossed = h.crossed;
      }
    where
      first : ℕ
      first = least (union p.a p.b)

      is_first : IsLeast (union p.a p.b) (least (union p.a p.b))
      is_first = least_is (union p.a p.b) g.n (union_within p.a p.b (full g.n) h.first.within h.second.within) ok.few (union_some p.a p.b h.first.some)

      own : IsLeast p.a (least p.a)
      own = connected_least g p.a ok h.first

      apart : Disjoint (excluded p.a) p.b
      apart r x y =
          elim (union_cases (full (suc (least p.a))) p.a r x) [
            | inl f ↦
                let same : least p.a ≡ r =
                omega (
                  arith,
                  full_limit (suc (least p.a)) r f,
                  is_first.1 r (union_right p.a p.b r y),
                  own.1 (least (union p.a p.b)) (h.least (least (union p.a p.b)) is_first),
                ) in
                h.apart r (subst (Has p.a) same own.0) y
            | inr m ↦ h.apart r m y
          ]

  -- the second sides of a are those that make a pair with it
  pub second_pairs : (a b : ℕ) → Connected g a → Contains (second_sides g a) b ↔ Pairs g (pair_of a b)
  second_pairs a b c = (λ h. pair_from a b c ((second_has g ok a b).0 h), λ p. (second_has g ok a b).1 (pair_second (pair_of a b) p))

  pub ccp_sound : (p : Pair) → Contains (seq_dpccp g) p → Pairs g p
  unfolding seq_dpccp
  ccp_sound p h =
      let a : (a : ℕ) × Contains (first_sides g) a × Contains (map (pair_of a) (second_sides g a)) p =
      contains_from_flat_map (λ a. map (pair_of a) (second_sides g a)) (first_sides g) p h in
      let b : (b : ℕ) × Contains (second_sides g a.0) b × (pair_of a.0 b ≡ p) = contains_from_map (pair_of a.0) (second_sides g a.0) p a.2 in
      subst (Pairs g) b.2 (pair_from a.0 b.0 ((sets_has g ok a.0).0 a.1) ((second_has g ok a.0 b.0).0 b.1))

  pub ccp_complete : (p : Pair) → Pairs g p → Contains (seq_dpccp g) p
  unfolding seq_dpccp
  ccp_complete p h =
      contains_flat_map (λ a. map (pair_of a) (second_sides g a)) (first_sides g) p.a p ((sets_has g ok p.a).1 h.first)
      (contains_map (pair_of p.a) (second_sides g p.a) p.b ((second_has g ok p.a p.b).1 (pair_second p h)))

  -- two pairs with one first side
  one_first : (a b c : ℕ) → Connected g a → IsSecondSide g ok a b → IsSecondSide g ok a c → b ≢ c → MayPrecede (pair_of a b) (pair_of a c)
  one_first a b c ca sb sc ne = (
    λ e. ne (ap (λ p. p.b) e),
    λ builds. elim builds [
      | inl e ↦ union_not_left a c (λ r h k. sc.apart r (excluded_own a r h) k) sc.connected.some e
      | inr e ↦ sb.apart (least a) (excluded_own a (least a) (connected_least g a ok ca).0)
          (subst (λ s. Has s (least a)) e (union_left a c (least a) (connected_least g a ok ca).0))
    ],
  )

  -- two pairs with two first sides
  two_first : (a c b d : ℕ) → Connected g a → Connected g c → IsSecondSide g ok a b → ByLeast g ok a c → MayPrecede (pair_of a b) (pair_of c d)
  two_first a c b d ca cc sb o = (
    λ e. o.0 (λ r h. subst (λ s. Has s r) (sym (ap (λ p. p.a) e)) h),
    λ builds. elim builds [
      | inl e ↦ o.0 (λ r h. subst (λ s. Has s r) e (union_left c d r h))
      | inr e ↦ sb.apart (least c) (excluded_least a (least c) o.1)
          (subst (λ s. Has s (least c)) e (union_left c d (least c) (connected_least g c ok cc).0))
    ],
  )

  pub ccp_order : AllPairs MayPrecede (seq_dpccp g)
  unfolding seq_dpccp
  ccp_order =
      pairs_flat_map MayPrecede (ByLeast g ok) (λ a. map (pair_of a) (second_sides g a)) (first_sides g) (sets_order g ok)
      (λ a m.
      pairs_map MayPrecede (λ b c. b ≢ c) (pair_of a) (second_sides g a) (second_once g ok a)
      (λ b c mb mc ne. one_first a b c ((sets_has g ok a).0 m) ((second_has g ok a b).0 mb) ((second_has g ok a c).0 mc) ne))
      (λ a c p q ma mc o mp mq.
      let b : (b : ℕ) × Contains (second_sides g a) b × (pair_of a b ≡ p) = contains_from_map (pair_of a) (second_sides g a) p mp in
      let d : (d : ℕ) × Contains (second_sides g c) d × (pair_of c d ≡ q) = contains_from_map (pair_of c) (second_sides g c) q mq in
      subst (λ x. MayPrecede x q) b.2
      (subst (MayPrecede (pair_of a b.0)) d.2
      (two_first a c b.0 d.0 ((sets_has g ok a).0 ma) ((sets_has g ok c).0 mc) ((second_has g ok a b.0).0 b.1) o)))

  pub dpccp_complete : Complete g (seq_dpccp g)
  dpccp_complete = complete_from g (seq_dpccp g) ccp_sound ccp_complete ccp_order

  pub dpccp_ordered : Ordered (seq_dpccp g)
  dpccp_ordered = ordered_from g (seq_dpccp g) ok ccp_sound ccp_complete ccp_order
