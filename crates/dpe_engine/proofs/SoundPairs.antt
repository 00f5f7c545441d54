-- What a pair of the query gives on made words of its sides, for every list of such pairs.
use Rattle.std.proofs.Common.{◌≡◌, ◌≢◌, ℕ, ◌+◌, ◌<◌, ◌⊎◌, inl, inr, arith, refl, sym, ◌∙◌, ap, subst, List, Contains}
use Rattle.std.proofs.lemmas.Bool.{cases_eq}
use Rattle.dpe_base.specs.declared.TheConstants.{EMPTY}
use Rattle.dpe_base.specs.declared.pair.Pair.{Pair}
use Rattle.dpe_base.specs.Queries.{JoinQuery, IsQuery}
use Rattle.dpe_base.specs.Sets.{union, single}
use Rattle.dpe_base.proofs.SetLaws.{union_comm}
use Rattle.join_graph.specs.Graphs.{Connected, Pairs, pair_of, graph_of}
use Rattle.card_scaled.specs.Cards.{rows}
use Rattle.cost_model.specs.Costs.{operators, join_cost}
use Rattle.cost_model.specs.Words.{word, word_cost, split_word}
use Rattle.cost_model.proofs.CostLaws.{operators_few}
use Rattle.cost_model.proofs.WordLaws.{word_cost-word, word_not_empty, least_split_below_is}
use Rattle.join_tree.specs.Trees.{JoinTree, leaf, join, set_of, cost, HasWord, Trees, Made, IsEmptyOrMade, pair_word}
use Rattle.join_tree.proofs.TreeLaws.{connected_small, legal_connected, made_legal}

module _ (model : ℕ) (q : JoinQuery) (pairs : List Pair) (ok : IsQuery q) (within : (p : Pair) → Contains pairs p → Pairs (graph_of q) p) where
  made_connected : (t : JoinTree) → Trees model q pairs t → Connected (graph_of q) (set_of t)
  made_connected t m = legal_connected model (graph_of q) t (made_legal model q pairs within t m)

  -- the cost is read back from the word
  cost_read : (t : JoinTree) (w : ℕ) → Trees model q pairs t → HasWord model q t w → word_cost w ≡ cost model q t
  cost_read (leaf r) w m h =
      omega (arith, connected_small q ok (single r) (made_connected (leaf r) m), h.is)
  cost_read (join op l r) w m h =
      ap word_cost (sym h.is)
      ∙ word_cost-word (cost model q (join op l r)) op (set_of l) (omega (arith, operators_few model op m.0)) (connected_small q ok (set_of l) (made_connected l m.1)) h.below

  -- the word that a join of a and b gives, on these words of theirs
  abbrev joined_word : ℕ → ℕ → ℕ → ℕ → ℕ → ℕ
  joined_word op a b wa wb = split_word model op a wa wb (rows q a) (rows q b) (rows q (union a b))

  abbrev JoinMade : ℕ → ℕ → ℕ → ℕ → ℕ → Type 0
  JoinMade op a b wa wb =
      Contains pairs (pair_of a b) ⊎ Contains pairs (pair_of b a) → joined_word op a b wa wb ≢ EMPTY → Made model q pairs (union a b) (joined_word op a b wa wb)

  join_of_trees_made : (op wa wb : ℕ) (ta tb : JoinTree) → op < operators model → Trees model q pairs ta → Trees model q pairs tb → HasWord model q ta wa → HasWord model q tb wb → JoinMade op (set_of ta) (set_of tb) wa wb
  join_of_trees_made op wa wb ta tb l ma mb ha hb c ne =
      let read : word_cost wa + word_cost wb + join_cost model op (rows q (set_of ta)) (rows q (set_of tb)) (rows q (union (set_of ta) (set_of tb))) ≡ cost model q (join op ta tb) =
      omega (arith, cost_read ta wa ma ha, cost_read tb wb mb hb) in
      record {
        tree = join op ta tb;
        made = (l, ma, mb, c);
        over = refl;
        word = record {
          below = word_not_empty (cost model q (join op ta tb)) op (set_of ta) (operators_few model op l) (connected_small q ok (set_of ta) (made_connected ta ma)) (λ z. ne (ap (λ k. word k op (set_of ta)) read ∙ z));
          is = ap (λ k. word k op (set_of ta)) (sym read);
        };
      }

  join_made : (op a b wa wb : ℕ) → op < operators model → Made model q pairs a wa → Made model q pairs b wb → JoinMade op a b wa wb
  join_made op a b wa wb l ma mb =
      subst (λ x. JoinMade op x b wa wb) ma.over
      (subst (λ y. JoinMade op (set_of ma.tree) y wa wb) mb.over (join_of_trees_made op wa wb ma.tree mb.tree l ma.made mb.made ma.word mb.word))

  -- it is a word of the union, or EMPTY
  pub sound_pair : (p : Pair) (first second : ℕ) → Contains pairs p → Made model q pairs p.a first → Made model q pairs p.b second → IsEmptyOrMade model q pairs (union p.a p.b) (pair_word model q p first second)
  sound_pair p wa wb c ma mb =
      elim (cases_eq (pair_word model q p wa wb) EMPTY) [
        | inl e ↦ inl e
        | inr ne ↦
            elim (least_split_below_is (operators model) model p.a p.b wa wb (rows q p.a) (rows q p.b) (rows q (union p.a p.b))) [
              | inl none ↦ inl none
              | inr one ↦
                  elim one.2 [
                    | inl e ↦
                        inr (subst (Made model q pairs (union p.a p.b)) (sym e) (join_made one.0 p.a p.b wa wb one.1 ma mb (inl c) (λ z. ne (e ∙ z))))
                    | inr e ↦
                        let turn : split_word model one.0 p.b wb wa (rows q p.b) (rows q p.a) (rows q (union p.b p.a)) ≡ split_word model one.0 p.b wb wa (rows q p.b) (rows q p.a) (rows q (union p.a p.b)) =
                        ap (λ u. split_word model one.0 p.b wb wa (rows q p.b) (rows q p.a) (rows q u)) (union_comm p.b p.a) in
                        let made : Made model q pairs (union p.b p.a) (split_word model one.0 p.b wb wa (rows q p.b) (rows q p.a) (rows q (union p.b p.a))) =
                        join_made one.0 p.b p.a wb wa one.1 mb ma (inr c) (λ z. ne (e ∙ (sym turn ∙ z))) in
                        inr (subst (λ x. Made model q pairs x (pair_word model q p wa wb)) (union_comm p.b p.a) (subst (Made model q pairs (union p.b p.a)) (turn ∙ sym e) made))
                  ]
            ]
      ]
