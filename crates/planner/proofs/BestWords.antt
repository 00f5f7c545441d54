-- What a run over a whole list gives: least words, and the plan with its counts.
use Rattle.std.proofs.Common.{◌≡◌, ◌≢◌, ◌∙◌, ℕ, ◌+◌, ◌*◌, ◌↔◌, List, length, ap, subst, sym, refl}
use Rattle.std.specs.Prelude.{slice_index, Option, Some, None}
use Rattle.dpe_base.specs.declared.pair.Pair.{Pair}
use Rattle.dpe_base.specs.declared.kind.Kind.{Kind}
use Rattle.dpe_base.specs.Queries.{JoinQuery, relations, IsQuery}
use Rattle.dpe_base.specs.Sets.{full}
use Rattle.dpe_base.proofs.SizeLaws.{full_below}
use Rattle.join_graph.specs.Graphs.{JoinGraph, graph_of}
use Rattle.join_tree.specs.declared.tree.Tree.{Tree}
use Rattle.join_tree.specs.TreeOf.{tree_of}
use Rattle.join_tree.specs.Trees.{Least}
use Rattle.join_tree.specs.Words.{HasBestWords}
use Rattle.join_tree.proofs.BestLaws.{least_best}
use Rattle.join_tree.proofs.Existence.{connected_best}
use Rattle.pair_stream.specs.Orders.{Complete}
use Rattle.reorder_buffer.specs.Groups.{runs, rounds}
use Rattle.dpe_engine.specs.Engines.{AreLeastWords, EnginePlan, IsSolved}
use Rattle.dpe_engine.specs.declared.engine.Solved.{Solved}
use Rattle.plan_space.specs.declared.class.Class.{Class}
use Rattle.plan_space.specs.declared.class.Class.TheVariants.{Narrow, ZigZag, LeftDeep}
use Rattle.plan_space.specs.Classes.{LeastIn}
use Rattle.plan_space.specs.LeastWords.{HasLeastWords}
use Rattle.plan_space.proofs.ClassPlans.{connected_sets_have_least_words_in}
use Rattle.plan_space.proofs.ThinLaws.{thin_pairs_give_least_words}
use Rattle.planner.specs.declared.options.Options.{Options}
use Rattle.planner.specs.Classes.{IsPlanAmong, HasWordsAmong, ListsPairs}
use Rattle.planner.specs.Enumerations.{IsListing, listed_of, worked_of}
use Rattle.planner.specs.Plans.{IsPlanOf, engine_of, listed_pairs}

-- ---- the words

pub least_words_best : (model : ℕ) (q : JoinQuery) (pairs : List Pair) (row : List ℕ) → IsQuery q → Complete (graph_of q) pairs
    → AreLeastWords model q pairs row → HasBestWords model q row (full (relations q))
least_words_best model q pairs row ok complete words s connected within =
    let best = connected_best model q s ok connected in
    let least : Least model q pairs s best.0 = (least_best model q pairs ok complete.members s best.0).1 best.1 in
    (least_best model q pairs ok complete.members s (slice_index row s)).0
    ((words s (full_below s (relations q) within)).least best.0 least.made)

least_words_in : (c : Class) (model : ℕ) (q : JoinQuery) (pairs : List Pair) (row : List ℕ) → IsQuery q
    → ((s w : ℕ) → Least model q pairs s w ↔ LeastIn c model q s w)
    → AreLeastWords model q pairs row → HasLeastWords c model q row (full (relations q))
least_words_in c model q pairs row ok same words s connected within =
    let best : (w : ℕ) × LeastIn c model q s w = (connected_sets_have_least_words_in c model q s ok).0.0 connected in
    let least : Least model q pairs s best.0 = (same s best.0).1 best.1 in
    (same s (slice_index row s)).0 ((words s (full_below s (relations q) within)).least best.0 least.made)

words_among : (class : Option Class) (model : ℕ) (q : JoinQuery) (pairs : List Pair) (row : List ℕ) → IsQuery q
    → ListsPairs class (graph_of q) pairs → class ≢ Some LeftDeep → AreLeastWords model q pairs row
    → HasWordsAmong class model q row (full (relations q))
words_among None model q pairs row ok whole workers words = least_words_best model q pairs row ok whole words
words_among (Some Narrow) model q pairs row ok whole workers words =
    least_words_in Narrow model q pairs row ok (λ s w. (thin_pairs_give_least_words model q pairs s w ok).0 whole.members) words
words_among (Some ZigZag) model q pairs row ok whole workers words =
    least_words_in ZigZag model q pairs row ok (λ s w. (thin_pairs_give_least_words model q pairs s w ok).1 whole.members) words
words_among (Some LeftDeep) model q pairs row ok whole workers words = absurd (workers refl)

-- the row that a run gives
pub run_words : (model : ℕ) (o : Options) (q : JoinQuery) (probes : ℕ) (solved : Solved) (row : List ℕ)
    → IsListing o.class o.enumerator (graph_of q) (listed_pairs o q) probes → IsSolved model (engine_of o q (listed_pairs o q)) solved
    → IsQuery q → row ≡ solved.words.row → HasWordsAmong o.class model q row (full (relations q))
run_words model o q probes solved row listing run ok same =
    words_among o.class model q (listed_pairs o q) row ok listing.whole listing.workers
    (subst (λ (ws : List ℕ). AreLeastWords model q (listed_pairs o q) ws) (sym same) run.words)

-- ---- the plan and its counts

worked_is_listed : (class : Option Class) (enumerator : Kind) (g : JoinGraph) → class ≢ Some LeftDeep
    → listed_of class enumerator g ≡ worked_of class enumerator g
worked_is_listed None enumerator g workers = refl
worked_is_listed (Some Narrow) enumerator g workers = refl
worked_is_listed (Some ZigZag) enumerator g workers = refl
worked_is_listed (Some LeftDeep) enumerator g workers = absurd (workers refl)

-- the plan and the counts of a run
pub run_plans : (model : ℕ) (o : Options) (q : JoinQuery) (total : ℕ) (solved : Solved) (looked drawn : ℕ) (tree : Tree)
    → IsListing o.class o.enumerator (graph_of q) (listed_pairs o q) total → IsSolved model (engine_of o q (listed_pairs o q)) solved
    → looked ≡ total → drawn ≡ solved.words.drawn → IsPlanAmong o.class model q (full (relations q)) (tree_of tree)
    → IsPlanOf model o q (record { tree = tree; pairs = solved.pairs; buffers = solved.buffers; rounds = solved.rounds; probes = looked; drawn = drawn })
run_plans model o q total solved looked drawn tree listing run looks draws plan =
    let worked : listed_pairs o q ≡ worked_of o.class o.enumerator (graph_of q) =
    worked_is_listed o.class o.enumerator (graph_of q) listing.workers in
    record {
      plan = plan;
      listed = listing.whole;
      pairs = run.pairs;
      buffers = run.buffers ∙ ap (λ (ps : List Pair). length (runs o.buffer ps)) worked;
      rounds = run.all_rounds ∙ ap (λ (ps : List Pair). rounds o.buffer ps) worked;
      probes = looks ∙ listing.looked;
      drawn =
          draws ∙ run.drawn ∙ ap (λ (n : ℕ). n + o.workers * solved.rounds) (run.pairs ∙ ap (λ (ps : List Pair). length ps) worked);
    }

-- the run of the engine that was prepared
pub run_is : (model : ℕ) (o : Options) (q : JoinQuery) (pairs : List Pair) (engine : EnginePlan) (solved : Solved)
    → engine ≡ engine_of o q pairs → pairs ≡ listed_pairs o q → IsSolved model engine solved
    → IsSolved model (engine_of o q (listed_pairs o q)) solved
run_is model o q pairs engine solved is list run =
    subst (λ (x : EnginePlan). IsSolved model x solved) (is ∙ ap (λ (ps : List Pair). engine_of o q ps) list) run
