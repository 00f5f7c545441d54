-- A list whose pairs are pairs of the query, and whose sides are made of pairs, can be worked through.
use Rattle.std.proofs.Common.{◌≡◌, ℕ, ◌≤◌, ◌⊎◌, inl, inr, arith, refl, sym, ◌∙◌, ap, subst, List, Contains}
use Rattle.std.proofs.lemmas.Bool.{cases_eq, cases_lt}
use Rattle.dpe_base.specs.declared.TheConstants.{EMPTY}
use Rattle.dpe_base.specs.declared.pair.Pair.{Pair}
use Rattle.dpe_base.specs.Queries.{JoinQuery, relations, IsQuery}
use Rattle.dpe_base.specs.Sets.{union, single, size}
use Rattle.dpe_base.proofs.SetLaws.{union_comm}
use Rattle.dpe_base.proofs.SizeLaws.{size_one, full_below}
use Rattle.join_graph.specs.Graphs.{Connected, Pairs, pair_of, graph_of}
use Rattle.join_graph.specs.PairLists.{SideBuilt}
use Rattle.join_graph.proofs.GraphLaws.{connected_union}
use Rattle.card_scaled.specs.Cards.{rows}
use Rattle.cost_model.specs.Costs.{operators}
use Rattle.cost_model.specs.Words.{split_word}
use Rattle.cost_model.proofs.WordLaws.{least_split_below_is}
use Rattle.join_tree.specs.Trees.{JoinTree, leaf, join, set_of, Trees, Made, LeastOverPairs, Builds, pair_word}
use Rattle.join_tree.specs.BuiltLists.{IsBuilt, HasBestPair, IsWorkable}
use Rattle.join_tree.proofs.TreeLaws.{connected_size_some, connected_single_known}
use Rattle.join_tree.proofs.BestLaws.{least_single}
use Rattle.join_tree.proofs.Substructure.{sides_smaller, pair_size_few, join_made, each_has_least, least_over_pairs_exists, least_from_pairs}

module _ (model : ℕ) (q : JoinQuery) (pairs : List Pair) (ok : IsQuery q) (builds : Builds (graph_of q) pairs) where
  built_side : (s : ℕ) → Connected (graph_of q) s → SideBuilt pairs s → IsBuilt q pairs s
  built_side s c made =
      elim (cases_lt (size s) 2) [
        | inl one ↦
            let e : (r : ℕ) × (s ≡ single r) = size_one s (omega (arith, connected_size_some (graph_of q) s c)) in
            inl (e.0, connected_single_known (graph_of q) s e.0 c e.1, e.1)
        | inr many ↦ inr (made many)
      ]

  built_tree : (t : JoinTree) → Trees model q pairs t → IsBuilt q pairs (set_of t)
  built_tree (leaf r) m = inl (r, m, refl)
  built_tree (join op a b) m =
      elim m.3 [
        | inl c ↦ inr (pair_of (set_of a) (set_of b), c, refl)
        | inr c ↦ inr (pair_of (set_of b) (set_of a), c, union_comm (set_of b) (set_of a))
      ]

  -- what a pair gives on made words of its sides is made, or EMPTY
  pair_word_made : (p : Pair) (first second : ℕ) → Contains pairs p → Made model q pairs p.a first → Made model q pairs p.b second → (pair_word model q p first second ≡ EMPTY) ⊎ Made model q pairs (union p.a p.b) (pair_word model q p first second)
  pair_word_made p wa wb c ma mb =
      elim (cases_eq (pair_word model q p wa wb) EMPTY) [
        | inl e ↦ inl e
        | inr ne ↦
            elim (least_split_below_is (operators model) model p.a p.b wa wb (rows q p.a) (rows q p.b) (rows q (union p.a p.b))) [
              | inl none ↦ inl none
              | inr one ↦
                  elim one.2 [
                    | inl e ↦
                        inr (subst (Made model q pairs (union p.a p.b)) (sym e) (join_made model q pairs ok builds one.0 p.a p.b wa wb one.1 ma mb (inl c) (λ z. ne (e ∙ z))))
                    | inr e ↦
                        let turn : split_word model one.0 p.b wb wa (rows q p.b) (rows q p.a) (rows q (union p.b p.a)) ≡ split_word model one.0 p.b wb wa (rows q p.b) (rows q p.a) (rows q (union p.a p.b)) =
                        ap (λ u. split_word model one.0 p.b wb wa (rows q p.b) (rows q p.a) (rows q u)) (union_comm p.b p.a) in
                        let made : Made model q pairs (union p.b p.a) (split_word model one.0 p.b wb wa (rows q p.b) (rows q p.a) (rows q (union p.b p.a))) =
                        join_made model q pairs ok builds one.0 p.b p.a wb wa one.1 mb ma (inr c) (λ z. ne (e ∙ (sym turn ∙ z))) in
                        inr (subst (λ x. Made model q pairs x (pair_word model q p wa wb)) (union_comm p.b p.a) (subst (Made model q pairs (union p.b p.a)) (turn ∙ sym e) made))
                  ]
            ]
      ]

  best_pair : (p : Pair) → Contains pairs p → HasBestPair model q pairs (union p.a p.b)
  best_pair p c =
      let s : ℕ = union p.a p.b in
      let in_q : Pairs (graph_of q) p = builds.within p c in
      let many : 2 ≤ size s =
      omega (arith, (sides_smaller q pairs ok builds p c).2, connected_size_some (graph_of q) p.a in_q.first, connected_size_some (graph_of q) p.b in_q.second) in
      let split : (w : ℕ) × LeastOverPairs model q pairs s w = least_over_pairs_exists model q pairs ok builds s (each_has_least model q pairs ok builds s) p c refl in
      record {
        word = split.0;
        least = least_from_pairs model q pairs ok builds s split.0 many (each_has_least model q pairs ok builds s) split.1;
        pair = split.1.some.0;
        listed = split.1.some.1;
        over = split.1.some.2;
        of_pair = split.1.some.3;
      }

  workable : IsWorkable model q pairs
  workable =
      record {
        inside = λ p c. let u : Connected (graph_of q) (union p.a p.b) = connected_union (graph_of q) p.a p.b (builds.within p c).first (builds.within p c).second (builds.within p c).crossed in (omega (arith, u.some), full_below (union p.a p.b) (relations q) u.within);
        sized = λ p c. omega (arith, (sides_smaller q pairs ok builds p c).2, pair_size_few model q pairs ok builds p c);
        smaller = λ p c. (omega (arith, (sides_smaller q pairs ok builds p c).2, connected_size_some (graph_of q) p.b (builds.within p c).second), omega (arith, (sides_smaller q pairs ok builds p c).2, connected_size_some (graph_of q) p.a (builds.within p c).first));
        sound = pair_word_made;
        sides = λ p c. (built_side p.a (builds.within p c).first (builds.sides p c).0, built_side p.b (builds.within p c).second (builds.sides p c).1);
        built = λ s w m. subst (IsBuilt q pairs) m.over (built_tree m.tree m.made);
        leaves = λ r known. least_single model q pairs builds.within r known;
        best_pair = best_pair;
      }

pub built_lists_are_workable : (model : ℕ) (q : JoinQuery) (pairs : List Pair) → IsQuery q → Builds (graph_of q) pairs → IsWorkable model q pairs
built_lists_are_workable model q pairs ok builds = workable model q pairs ok builds
