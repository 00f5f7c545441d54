-- The costs in the words that a run over all pairs leaves.
use Rattle.std.proofs.Common.{◌≡◌, ◌∙◌, ◌<◌, ◌^◌, ℕ, List, length, map, arith, refl}
use Rattle.std.specs.Prelude.{slice_index}
use Rattle.std.proofs.lemmas.List.{get_or-map, length-map}
use Rattle.dpe_base.specs.declared.TheConstants.{EMPTY}
use Rattle.dpe_base.specs.declared.pair.Pair.{Pair}
use Rattle.dpe_base.specs.Queries.{JoinQuery, relations, IsQuery}
use Rattle.dpe_base.specs.Sets.{full}
use Rattle.dpe_base.proofs.SizeLaws.{full_below}
use Rattle.join_graph.specs.Graphs.{Connected, graph_of}
use Rattle.cost_model.specs.Words.{word_cost}
use Rattle.join_tree.specs.Trees.{Best}
use Rattle.join_tree.proofs.BestLaws.{best_connected, legal_word, least_best}
use Rattle.pair_stream.specs.Orders.{Complete}
use Rattle.dpe_engine.specs.Engines.{AreLeastWords}
use Rattle.planner.specs.Costs.{AreBestCosts, cost_in}
use Rattle.planner.proofs.BestWords.{least_words_best}

-- the cost at a place is that of the word there
cost_at : (words : List ℕ) (s : ℕ) → s < length words → slice_index (map cost_in words) s ≡ cost_in (slice_index words s)
cost_at words s l = get_or-map cost_in words s 0 0 l

-- a best word is a word
best_some : (model : ℕ) (q : JoinQuery) (s w : ℕ) → IsQuery q → Best model q s w → cost_in w ≡ word_cost w
best_some model q s w ok best = grind (arith, legal_word model q best.some.0 w ok best.some.1 best.some.3)

none_at : (w : ℕ) → w ≡ EMPTY → cost_in w ≡ 0
none_at w e = rw e refl

pub costs_are_best : (model : ℕ) (q : JoinQuery) (pairs : List Pair) (words costs : List ℕ) → IsQuery q → Complete (graph_of q) pairs
    → AreLeastWords model q pairs words → length words ≡ 2 ^ relations q → costs ≡ map cost_in words → AreBestCosts model q costs
costs_are_best model q pairs words costs ok complete least sized is = rw is (record {
  sized = length-map words cost_in ∙ sized;
  least = λ s connected.
      let within = full_below s (relations q) connected.within in
      let best : Best model q s (slice_index words s) = least_words_best model q pairs words ok complete least s connected connected.within in
      (slice_index words s, best, cost_at words s (omega (arith, within, sized)) ∙ best_some model q s (slice_index words s) ok best);
  others = λ s within apart.
      cost_at words s (omega (arith, within, sized))
      ∙ none_at (slice_index words s)
      ((least s within).none (λ v made. apart (best_connected model q s (slice_index words s)
      ((least_best model q pairs ok complete.members s (slice_index words s)).0 ((least s within).least v made)))));
})
