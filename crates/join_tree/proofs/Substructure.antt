-- Optimal substructure: the least word of a set is the least over its pairs on the least words of the sides.
use Rattle.std.proofs.Common.{◌≡◌, ◌≢◌, ℕ, zero, suc, ◌+◌, ◌*◌, ◌≤◌, ◌<◌, ◌⊎◌, ◌↔◌, inl, inr, arith, refl, sym, ◌∙◌, ap, subst, List, Contains}
use Rattle.std.proofs.lemmas.Bool.{cases_eq, cases_lt}
use Rattle.dpe_base.specs.declared.TheConstants.{COST_LIMIT, EMPTY, ROW_CAP, N_MAX}
use Rattle.dpe_base.specs.declared.pair.Pair.{Pair}
use Rattle.dpe_base.specs.Queries.{JoinQuery, relations, IsQuery}
use Rattle.dpe_base.specs.Sets.{Within, union, full, single, size}
use Rattle.dpe_base.proofs.SetLaws.{sets, union_comm}
use Rattle.dpe_base.proofs.SizeLaws.{size-union, size-single, size_one, size_full, union_add}
use Rattle.join_graph.specs.Graphs.{Connected, Pairs, pair_of, graph_of}
use Rattle.card_scaled.specs.Cards.{rows}
use Rattle.cost_model.specs.Costs.{operators, join_cost}
use Rattle.cost_model.specs.Words.{word, word_cost, split_word, least_split_word}
use Rattle.cost_model.proofs.CostLaws.{operators_some, operators_few, first_cost_capped}
use Rattle.cost_model.proofs.WordLaws.{word-below, word_mono, word_cost-word, word_not_empty, least_split_below_le, least_split_below_is}
use Rattle.join_graph.specs.PairLists.{SideBuilt}
use Rattle.join_tree.specs.Trees.{JoinTree, leaf, join, set_of, cost, leaf_word, root_word, HasWord, Trees, Made, Least, LeastOfPair, LeastOverPairs, Builds}
use Rattle.card_scaled.proofs.CardLaws.{rows_bounds}
use Rattle.join_tree.proofs.TreeLaws.{connected_small, connected_size_some, connected_single_known, legal_connected, made_legal}
use Rattle.join_tree.proofs.BestLaws.{least_single}
use Rattle.join_tree.proofs.LeastOf.{least_of}

-- ---- pairs of the list

module _ (q : JoinQuery) (pairs : List Pair) (ok : IsQuery q) (builds : Builds (graph_of q) pairs) where
  -- the sides of a pair are smaller numbers than its union, and have its members between them
  pub sides_smaller : (p : Pair) → Contains pairs p → (p.a < union p.a p.b) × (p.b < union p.a p.b) × (size (union p.a p.b) ≡ size p.a + size p.b)
  sides_smaller p c =
      let in_q : Pairs (graph_of q) p = builds.within p c in
      let sum : union p.a p.b ≡ p.a + p.b = union_add p.a p.b in_q.apart in
      (omega (arith, sum, in_q.second.some), omega (arith, sum, in_q.first.some), size-union p.a p.b in_q.apart)

-- a set has one least word
pub least_word_same : (model : ℕ) (q : JoinQuery) (pairs : List Pair) (s v w : ℕ) → Least model q pairs s v → Least model q pairs s w → v ≡ w
least_word_same model q pairs s v w a b = omega (arith, a.least w b.made, b.least v a.made)

-- ---- trees and their words

module _ (model : ℕ) (q : JoinQuery) (pairs : List Pair) (ok : IsQuery q) (builds : Builds (graph_of q) pairs) where
  pub made_connected : (t : JoinTree) → Trees model q pairs t → Connected (graph_of q) (set_of t)
  made_connected t m = legal_connected model (graph_of q) t (made_legal model q pairs builds.within t m)

  -- the cost is read back from the word
  pub cost_read : (t : JoinTree) (w : ℕ) → Trees model q pairs t → HasWord model q t w → word_cost w ≡ cost model q t
  cost_read (leaf r) w m h =
      omega (arith, connected_small q ok (single r) (made_connected (leaf r) m), h.is)
  cost_read (join op l r) w m h =
      ap word_cost (sym h.is)
      ∙ word_cost-word (cost model q (join op l r)) op (set_of l) (omega (arith, operators_few model op m.0)) (connected_small q ok (set_of l) (made_connected l m.1)) h.below

  -- a tree that costs less than COST_LIMIT gives its set a word
  pub tree_made : (t : JoinTree) → Trees model q pairs t → cost model q t < COST_LIMIT → Made model q pairs (set_of t) (root_word model q t)
  tree_made t m l = record { tree = t; made = m; over = refl; word = record { below = l; is = refl } }

  -- each side has a cheap tree, by the first operator alone
  abbrev Cheap : ℕ → Type 0
  Cheap s = (t : JoinTree) × Trees model q pairs t × (set_of t ≡ s) × (cost model q t + 4 * ROW_CAP ≤ size s * (4 * ROW_CAP))

  abbrev pub IsSide : ℕ → Type 0
  IsSide s = Connected (graph_of q) s × SideBuilt pairs s

  pub pair_sides : (p : Pair) → Contains pairs p → IsSide p.a × IsSide p.b
  pair_sides p c = (((builds.within p c).first, (builds.sides p c).0), ((builds.within p c).second, (builds.sides p c).1))

  cheap_join : (p : Pair) → Contains pairs p → Cheap p.a → Cheap p.b → Cheap (union p.a p.b)
  cheap_join p c a b =
      let la : ℕ = rows q (set_of a.0) in
      let lb : ℕ = rows q (set_of b.0) in
      let o : ℕ = rows q (union (set_of a.0) (set_of b.0)) in
      let first : join_cost model 0 la lb o ≤ 4 * ROW_CAP = first_cost_capped model la lb o (rows_bounds q _).1 (rows_bounds q _).1 (rows_bounds q _).1 in
      let here : Contains pairs (pair_of (set_of a.0) (set_of b.0)) = rw (a.2, b.2) c in (
        join 0 a.0 b.0,
        (operators_some model, a.1, b.1, inl here),
        ap (λ s. union s (set_of b.0)) a.2 ∙ ap (union p.a) b.2,
        omega (arith, first, a.3, b.3, (sides_smaller q pairs ok builds p c).2),
      )

  cheap : (n s : ℕ) → s < n → IsSide s → Cheap s
  cheap zero s l side = absurd (omega arith)
  cheap (suc n) s l side =
      elim (cases_lt (size s) 2) [
        | inl one ↦
            let e : (r : ℕ) × (s ≡ single r) = size_one s (omega (arith, connected_size_some (graph_of q) s side.0)) in
            (leaf e.0, connected_single_known (graph_of q) s e.0 side.0 e.1, sym e.1, omega (arith, connected_size_some (graph_of q) s side.0))
        | inr many ↦
            let p : (p : Pair) × Contains pairs p × (union p.a p.b ≡ s) = side.1 many in
            subst Cheap p.2 (cheap_join p.0 p.1
            (cheap n p.0.a (omega (arith, (sides_smaller q pairs ok builds p.0 p.1).0, p.2)) (pair_sides p.0 p.1).0)
            (cheap n p.0.b (omega (arith, (sides_smaller q pairs ok builds p.0 p.1).1, p.2)) (pair_sides p.0 p.1).1))
      ]

  -- a side of a pair has a tree with a word
  side_made : (s : ℕ) → IsSide s → (t : JoinTree) × Trees model q pairs t × (set_of t ≡ s) × (cost model q t + 4 * ROW_CAP ≤ size s * (4 * ROW_CAP)) × (cost model q t < COST_LIMIT)
  side_made s side =
      let c : Cheap s = cheap (suc s) s (omega arith) side in
      (c.0, c.1, c.2, c.3, omega (arith, c.3, size_full s (relations q) side.0.within, ok.few))

  -- ---- the word of a join

  -- the word that a join of a and b gives, on these words of theirs
  abbrev pub joined_word : ℕ → ℕ → ℕ → ℕ → ℕ → ℕ
  joined_word op a b wa wb = split_word model op a wa wb (rows q a) (rows q b) (rows q (union a b))

  abbrev pub InEither : ℕ → ℕ → Type 0
  InEither a b = Contains pairs (pair_of a b) ⊎ Contains pairs (pair_of b a)

  abbrev pub JoinMade : ℕ → ℕ → ℕ → ℕ → ℕ → Type 0
  JoinMade op a b wa wb =
      InEither a b → joined_word op a b wa wb ≢ EMPTY → Made model q pairs (union a b) (joined_word op a b wa wb)

  join_cost_read : (op wa wb : ℕ) (ta tb : JoinTree) → Trees model q pairs ta → Trees model q pairs tb → HasWord model q ta wa → HasWord model q tb wb → word_cost wa + word_cost wb + join_cost model op (rows q (set_of ta)) (rows q (set_of tb)) (rows q (union (set_of ta) (set_of tb))) ≡ cost model q (join op ta tb)
  join_cost_read op wa wb ta tb ma mb ha hb = omega (arith, cost_read ta wa ma ha, cost_read tb wb mb hb)

  join_of_trees_made : (op wa wb : ℕ) (ta tb : JoinTree) → op < operators model → Trees model q pairs ta → Trees model q pairs tb → HasWord model q ta wa → HasWord model q tb wb → JoinMade op (set_of ta) (set_of tb) wa wb
  join_of_trees_made op wa wb ta tb l ma mb ha hb c ne =
      record {
        tree = join op ta tb;
        made = (l, ma, mb, c);
        over = refl;
        word = record {
          below = word_not_empty (cost model q (join op ta tb)) op (set_of ta) (operators_few model op l) (connected_small q ok (set_of ta) (made_connected ta ma)) (λ z. ne (ap (λ k. word k op (set_of ta)) (join_cost_read op wa wb ta tb ma mb ha hb) ∙ z));
          is = ap (λ k. word k op (set_of ta)) (sym (join_cost_read op wa wb ta tb ma mb ha hb));
        };
      }

  -- the same on any made words of two sets
  pub join_made : (op a b wa wb : ℕ) → op < operators model → Made model q pairs a wa → Made model q pairs b wb → JoinMade op a b wa wb
  join_made op a b wa wb l ma mb =
      subst (λ x. JoinMade op x b wa wb) ma.over
      (subst (λ y. JoinMade op (set_of ma.tree) y wa wb) mb.over (join_of_trees_made op wa wb ma.tree mb.tree l ma.made mb.made ma.word mb.word))

  -- ---- the least word of a pair

  least_of_pair_same : (p : Pair) (v w : ℕ) → LeastOfPair model q pairs p v → LeastOfPair model q pairs p w → v ≡ w
  least_of_pair_same p v w a b =
      a.is
      ∙ ap (λ x. least_split_word model p.a p.b x a.second (rows q p.a) (rows q p.b) (rows q (union p.a p.b))) (least_word_same model q pairs p.a a.first b.first a.least_first b.least_first)
      ∙ ap (λ y. least_split_word model p.a p.b b.first y (rows q p.a) (rows q p.b) (rows q (union p.a p.b))) (least_word_same model q pairs p.b a.second b.second a.least_second b.least_second)
      ∙ sym b.is

  -- a least word of a side costs no more than a cheap tree
  least_cheap : (s w : ℕ) → IsSide s → Least model q pairs s w → word_cost w + 4 * ROW_CAP ≤ size s * (4 * ROW_CAP)
  least_cheap s w side least =
      let t : (t : JoinTree) × Trees model q pairs t × (set_of t ≡ s) × (cost model q t + 4 * ROW_CAP ≤ size s * (4 * ROW_CAP)) × (cost model q t < COST_LIMIT) = side_made s side in
      let m : Made model q pairs s (root_word model q t.0) = subst (λ x. Made model q pairs x (root_word model q t.0)) t.2 (tree_made t.0 t.1 t.4) in
      omega (arith, least.least (root_word model q t.0) m, cost_read t.0 (root_word model q t.0) t.1 (record { below = t.4; is = refl }), t.3)

  pub pair_size_few : (p : Pair) → Contains pairs p → size p.a + size p.b ≤ N_MAX
  pair_size_few p c =
      omega (arith, (sides_smaller q pairs ok builds p c).2, size_full (union p.a p.b) (relations q) (λ r. both_within p c r), ok.few)
    where
      both_within : (p : Pair) → Contains pairs p → Within (union p.a p.b) (full (relations q))
      both_within p c r h = grind (arith, sets, (builds.within p c).first.within r, (builds.within p c).second.within r)

  first_cost_below : (p : Pair) (wa wb : ℕ) → Contains pairs p → Least model q pairs p.a wa → Least model q pairs p.b wb → word_cost wa + word_cost wb + join_cost model 0 (rows q p.a) (rows q p.b) (rows q (union p.a p.b)) < COST_LIMIT
  first_cost_below p wa wb c la lb =
      omega (
        arith,
        least_cheap p.a wa (pair_sides p c).0 la,
        least_cheap p.b wb (pair_sides p c).1 lb,
        first_cost_capped model (rows q p.a) (rows q p.b) (rows q (union p.a p.b)) (rows_bounds q _).1 (rows_bounds q _).1 (rows_bounds q _).1,
        pair_size_few p c,
      )

  -- a pair's least word is not EMPTY
  least_of_pair_not_empty : (p : Pair) (v : ℕ) → Contains pairs p → LeastOfPair model q pairs p v → v ≢ EMPTY
  least_of_pair_not_empty p v c split e =
      omega (
        arith,
        split.is,
        (least_split_below_le (operators model) model 0 p.a p.b split.first split.second (rows q p.a) (rows q p.b) (rows q (union p.a p.b)) (operators_some model)).0,
        first_cost_below p split.first split.second c split.least_first split.least_second,
        word-below (word_cost split.first + word_cost split.second + join_cost model 0 (rows q p.a) (rows q p.b) (rows q (union p.a p.b))) 0 p.a (first_cost_below p split.first split.second c split.least_first split.least_second),
        connected_small q ok p.a (builds.within p c).first,
      )

  -- ---- from the pairs to the trees

  -- the least word of a pair is the word of a tree
  least_of_pair_made : (p : Pair) (v : ℕ) → Contains pairs p → LeastOfPair model q pairs p v → Made model q pairs (union p.a p.b) v
  least_of_pair_made p v c split =
      elim (least_split_below_is (operators model) model p.a p.b split.first split.second (rows q p.a) (rows q p.b) (rows q (union p.a p.b))) [
        | inl none ↦ absurd (least_of_pair_not_empty p v c split (split.is ∙ none))
        | inr one ↦
            elim one.2 [
              | inl e ↦
                  let is : v ≡ joined_word one.0 p.a p.b split.first split.second = split.is ∙ e in
                  subst (Made model q pairs (union p.a p.b)) (sym is)
                  (join_made one.0 p.a p.b split.first split.second one.1 split.least_first.made split.least_second.made (inl c) (λ z. least_of_pair_not_empty p v c split (is ∙ z)))
              | inr e ↦
                  let is : v ≡ split_word model one.0 p.b split.second split.first (rows q p.b) (rows q p.a) (rows q (union p.a p.b)) = split.is ∙ e in
                  let turn : split_word model one.0 p.b split.second split.first (rows q p.b) (rows q p.a) (rows q (union p.b p.a)) ≡ split_word model one.0 p.b split.second split.first (rows q p.b) (rows q p.a) (rows q (union p.a p.b)) =
                  ap (λ u. split_word model one.0 p.b split.second split.first (rows q p.b) (rows q p.a) (rows q u)) (union_comm p.b p.a) in
                  let made : Made model q pairs (union p.b p.a) (joined_word one.0 p.b p.a split.second split.first) =
                  join_made one.0 p.b p.a split.second split.first one.1 split.least_second.made split.least_first.made (inr c) (λ z. least_of_pair_not_empty p v c split (is ∙ sym turn ∙ z)) in
                  subst (λ x. Made model q pairs x v) (union_comm p.b p.a) (subst (Made model q pairs (union p.b p.a)) (turn ∙ sym is) made)
            ]
      ]

  -- a join of trees has no smaller word than a join of the least words of its sides
  join_least : (op wl wr v : ℕ) (l r : JoinTree) → Trees model q pairs (join op l r) → HasWord model q (join op l r) v → Least model q pairs (set_of l) wl → Least model q pairs (set_of r) wr → joined_word op (set_of l) (set_of r) wl wr ≤ v
  join_least op wl wr v l r m h ll lr =
      let cl : cost model q l < COST_LIMIT = omega (arith, h.below) in
      let cr : cost model q r < COST_LIMIT = omega (arith, h.below) in
      let lel : word_cost wl ≤ cost model q l =
      omega (arith, ll.least (root_word model q l) (tree_made l m.1 cl), cost_read l (root_word model q l) m.1 (record { below = cl; is = refl })) in
      let ler : word_cost wr ≤ cost model q r =
      omega (arith, lr.least (root_word model q r) (tree_made r m.2 cr), cost_read r (root_word model q r) m.2 (record { below = cr; is = refl })) in
      subst (λ x. joined_word op (set_of l) (set_of r) wl wr ≤ x) h.is
      (word_mono (word_cost wl + word_cost wr + join_cost model op (rows q (set_of l)) (rows q (set_of r)) (rows q (union (set_of l) (set_of r)))) (cost model q (join op l r)) op (set_of l) (omega (arith, operators_few model op m.0)) (connected_small q ok (set_of l) (made_connected l m.1)) (omega (arith, lel, ler)))

  abbrev pub EachHasLeast : ℕ → Type 0
  EachHasLeast s = (p : Pair) → Contains pairs p → union p.a p.b ≡ s → (v : ℕ) × LeastOfPair model q pairs p v

  -- no tree has a smaller word than the least of the pairs
  none_below_least : (s w : ℕ) → 2 ≤ size s → LeastOverPairs model q pairs s w → EachHasLeast s → (t : JoinTree) (v : ℕ) → Trees model q pairs t → set_of t ≡ s → HasWord model q t v → w ≤ v
  none_below_least s w many split each (leaf r) v m e h = absurd (omega (arith, ap size e, size-single r))
  none_below_least s w many split each (join op l r) v m e h =
      elim m.3 [
        | inl c ↦
            let x : (v : ℕ) × LeastOfPair model q pairs (pair_of (set_of l) (set_of r)) v = each (pair_of (set_of l) (set_of r)) c e in
            omega (
              arith,
              split.least (pair_of (set_of l) (set_of r)) x.0 c e x.1,
              x.1.is,
              (least_split_below_le (operators model) model op (set_of l) (set_of r) x.1.first x.1.second (rows q (set_of l)) (rows q (set_of r)) (rows q (union (set_of l) (set_of r))) m.0).0,
              join_least op x.1.first x.1.second v l r m h x.1.least_first x.1.least_second,
            )
        | inr c ↦
            let e' : union (set_of r) (set_of l) ≡ s = union_comm (set_of r) (set_of l) ∙ e in
            let x : (v : ℕ) × LeastOfPair model q pairs (pair_of (set_of r) (set_of l)) v = each (pair_of (set_of r) (set_of l)) c e' in
            omega (
              arith,
              split.least (pair_of (set_of r) (set_of l)) x.0 c e' x.1,
              x.1.is,
              (least_split_below_le (operators model) model op (set_of r) (set_of l) x.1.first x.1.second (rows q (set_of r)) (rows q (set_of l)) (rows q (union (set_of r) (set_of l))) m.0).1,
              ap (λ u. split_word model op (set_of l) x.1.second x.1.first (rows q (set_of l)) (rows q (set_of r)) (rows q u)) (union_comm (set_of r) (set_of l)),
              join_least op x.1.second x.1.first v l r m h x.1.least_second x.1.least_first,
            )
      ]

  pub least_from_pairs : (s w : ℕ) → 2 ≤ size s → EachHasLeast s → LeastOverPairs model q pairs s w → Least model q pairs s w
  least_from_pairs s w many each split =
      record {
        made = subst (λ x. Made model q pairs x w) split.some.2 (least_of_pair_made split.some.0 w split.some.1 split.some.3);
        least = λ v m. none_below_least s w many split each m.tree v m.made m.over m.word;
      }

  -- ---- each side has a least word

  LeastAt : ℕ → Pair → ℕ → Type 0
  LeastAt s p v = (union p.a p.b ≡ s) × LeastOfPair model q pairs p v

  pair_decided : (s : ℕ) → EachHasLeast s → (p : Pair) → Contains pairs p → ((v : ℕ) → LeastAt s p v → ⊥) ⊎ ((v : ℕ) × LeastAt s p v × ((u : ℕ) → LeastAt s p u → v ≤ u))
  unfolding LeastAt
  pair_decided s each p c =
      elim (cases_eq (union p.a p.b) s) [
        | inl e ↦
            let x : (v : ℕ) × LeastOfPair model q pairs p v = each p c e in
            inr (x.0, (e, x.1), λ u h. omega (arith, least_of_pair_same p x.0 u x.1 h.1))
        | inr ne ↦ inl (λ v h. ne h.0)
      ]

  pub least_over_pairs_exists : (s : ℕ) → EachHasLeast s → (p : Pair) → Contains pairs p → union p.a p.b ≡ s → (w : ℕ) × LeastOverPairs model q pairs s w
  unfolding LeastAt
  least_over_pairs_exists s each p c e =
      elim (least_of (LeastAt s) pairs (pair_decided s each)) [
        | inl none ↦ absurd (none p (each p c e).0 c (e, (each p c e).1))
        | inr x ↦ (x.0, record { some = (x.1, x.2, x.3.0, x.3.1); least = λ y v d f h. x.4 y v d (f, h) })
      ]

  pub least_exists : (n s : ℕ) → s < n → IsSide s → (w : ℕ) × Least model q pairs s w
  least_exists zero s l side = absurd (omega arith)
  least_exists (suc n) s l side =
      elim (cases_lt (size s) 2) [
        | inl one ↦
            let e : (r : ℕ) × (s ≡ single r) = size_one s (omega (arith, connected_size_some (graph_of q) s side.0)) in
            subst (λ x. (w : ℕ) × Least model q pairs x w) (sym e.1) (leaf_word e.0, least_single model q pairs builds.within e.0 (connected_single_known (graph_of q) s e.0 side.0 e.1))
        | inr many ↦
            let p : (p : Pair) × Contains pairs p × (union p.a p.b ≡ s) = side.1 many in
            let each : EachHasLeast s = λ x c e. split_of x c (least_exists n x.a (omega (arith, (sides_smaller q pairs ok builds x c).0, e)) (pair_sides x c).0) (least_exists n x.b (omega (arith, (sides_smaller q pairs ok builds x c).1, e)) (pair_sides x c).1) in
            let w : (w : ℕ) × LeastOverPairs model q pairs s w = least_over_pairs_exists s each p.0 p.1 p.2 in
            (w.0, least_from_pairs s w.0 many each w.1)
      ]
    where
      split_of : (x : Pair) → Contains pairs x → (w : ℕ) × Least model q pairs x.a w → (w : ℕ) × Least model q pairs x.b w → (v : ℕ) × LeastOfPair model q pairs x v
      split_of x c a b = (least_split_word model x.a x.b a.0 b.0 (rows q x.a) (rows q x.b) (rows q (union x.a x.b)), record { first = a.0; second = b.0; least_first = a.1; least_second = b.1; is = refl })

  pub each_has_least : (s : ℕ) → EachHasLeast s
  each_has_least s p c e =
      let a : (w : ℕ) × Least model q pairs p.a w = least_exists (suc p.a) p.a (omega arith) (pair_sides p c).0 in
      let b : (w : ℕ) × Least model q pairs p.b w = least_exists (suc p.b) p.b (omega arith) (pair_sides p c).1 in
      (least_split_word model p.a p.b a.0 b.0 (rows q p.a) (rows q p.b) (rows q (union p.a p.b)), record { first = a.0; second = b.0; least_first = a.1; least_second = b.1; is = refl })

  -- a tree over two relations or more is a join of a pair of the list
  pub root_pair : (t : JoinTree) → Trees model q pairs t → 2 ≤ size (set_of t) → (p : Pair) × Contains pairs p × (union p.a p.b ≡ set_of t)
  root_pair (leaf r) m many = absurd (omega (arith, size-single r, many))
  root_pair (join op a b) m many =
      elim m.3 [
        | inl c ↦ (pair_of (set_of a) (set_of b), c, refl)
        | inr c ↦ (pair_of (set_of b) (set_of a), c, union_comm (set_of b) (set_of a))
      ]

  -- the least word of a set of two relations or more is the least over its pairs
  least_over_pairs : (s w : ℕ) → 2 ≤ size s → Least model q pairs s w ↔ LeastOverPairs model q pairs s w
  least_over_pairs s w many = (forth, least_from_pairs s w many (each_has_least s))
    where
      forth : Least model q pairs s w → LeastOverPairs model q pairs s w
      forth least =
          let p : (p : Pair) × Contains pairs p × (union p.a p.b ≡ set_of least.made.tree) = root_pair least.made.tree least.made.made (omega (arith, ap size least.made.over, many)) in
          let x : (v : ℕ) × LeastOverPairs model q pairs s v = least_over_pairs_exists s (each_has_least s) p.0 p.1 (p.2 ∙ least.made.over) in
          subst (LeastOverPairs model q pairs s) (least_word_same model q pairs s x.0 w (least_from_pairs s x.0 many (each_has_least s) x.1) least) x.1

pub optimal_substructure : (model : ℕ) (q : JoinQuery) (pairs : List Pair) → IsQuery q → Builds (graph_of q) pairs → (s w : ℕ) → 2 ≤ size s → Least model q pairs s w ↔ LeastOverPairs model q pairs s w
optimal_substructure model q pairs ok builds s w many = least_over_pairs model q pairs ok builds s w many

pub sides_have_least_words : (model : ℕ) (q : JoinQuery) (pairs : List Pair) → IsQuery q → Builds (graph_of q) pairs → (p : Pair) → Contains pairs p → ((w : ℕ) × Least model q pairs p.a w) × ((w : ℕ) × Least model q pairs p.b w)
sides_have_least_words model q pairs ok builds p c = (
  least_exists model q pairs ok builds (suc p.a) p.a (omega arith) (pair_sides model q pairs ok builds p c).0,
  least_exists model q pairs ok builds (suc p.b) p.b (omega arith) (pair_sides model q pairs ok builds p c).1,
)
