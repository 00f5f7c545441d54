-- The words of planning again are those of planning from scratch.
use Rattle.std.proofs.Common.{◌≡◌, ℕ, ◌*◌, ◌^◌, ◌<◌, List, length, slice_index_or, refl, sym, ap, ◌∙◌, subst, arith}
use Rattle.dpe_base.specs.declared.pair.Pair.{Pair}
use Rattle.dpe_base.specs.Queries.{JoinQuery, relations, IsQuery}
use Rattle.dpe_base.specs.Sets.{full}
use Rattle.dpe_base.proofs.SizeLaws.{full_below}
use Rattle.join_graph.specs.Graphs.{Connected, graph_of}
use Rattle.join_tree.specs.Words.{HasBestWords}
use Rattle.join_graph.specs.PairLists.{HasAllPairs}
use Rattle.join_tree.proofs.BestLaws.{least_best, best_connected}
use Rattle.join_tree.proofs.Existence.{connected_best}
use Rattle.pair_stream.specs.Orders.{Complete}
use Rattle.reorder_buffer.specs.Groups.{rounds}
use Rattle.enum_dpccp.specs.Dpccp.{seq_dpccp}
use Rattle.dpe_engine.specs.declared.engine.Solved.{Solved}
use Rattle.dpe_engine.specs.Engines.{EnginePlan, IsLeastWord, HasProcessed, IsSolved}
use Rattle.enum_dpccp.specs.Touching.{touching}
use Rattle.reopt.specs.Keeping.{IsBestWord, AreBestWords, IsPlanned, IsReplanned, touched_pairs}
use Rattle.reopt.specs.Laws.{LeastWordsCanBeKept}

-- of a list of all pairs the least word is the best one
is_best : (kind : ℕ) (q : JoinQuery) (pairs : List Pair) (s w : ℕ) → IsQuery q → HasAllPairs (graph_of q) pairs → IsLeastWord kind q pairs s w → IsBestWord kind q s w
is_best kind q pairs s w ok all is =
    let law = least_best kind q pairs ok all s in
    record {
      best = λ c. let b = connected_best kind q s ok c in (law w).0 (is.least b.0 ((law b.0).1 b.1).made);
      none = λ apart. is.none (λ v m. apart (best_connected kind q s w ((law w).0 (is.least v m))));
    }

pub least_words_can_be_kept : LeastWordsCanBeKept
least_words_can_be_kept kind q pairs row ok connected all size least =
    record { connected = connected; size = size; each = λ s low. is_best kind q pairs s (slice_index_or row s 0) ok all.members (least s low) }

pub again : (kind : ℕ) (q : JoinQuery) (pairs : List Pair) (r w b : ℕ) (plan : EnginePlan) (list : List Pair) (solved : Solved) → IsQuery q → plan ≡ (record { query = q; pairs = pairs; buffer = b; workers = w }) → pairs ≡ seq_dpccp (graph_of q) → Complete (graph_of q) pairs
    → list ≡ touching r pairs → HasProcessed kind plan list solved → IsReplanned kind q r b w solved
again kind q pairs r w b plan list solved ok asked is complete touched s =
    let F : EnginePlan → Type 0 = λ x. HasProcessed kind x list solved in
    let f : F (record { query = q; pairs = pairs; buffer = b; workers = w }) = subst F asked s in
    let list_is : list ≡ touched_pairs q r = touched ∙ ap (λ (l : List Pair). touching r l) is in
    record {
      size = f.size;
      each = λ t low. is_best kind q pairs t (slice_index_or solved.words.row t 0) ok complete.members (f.words t low);
      listed = subst (Complete (graph_of q)) is complete;
      count = f.pairs ∙ ap (λ (l : List Pair). length l) list_is;
      drawn =
          let a = f.drawn in let c = f.all_rounds in
          let d : w * solved.rounds ≡ w * rounds b (touched_pairs q r) = ap (λ (k : ℕ). w * k) f.all_rounds ∙ ap (λ (l : List Pair). w * rounds b l) list_is in
          omega arith;
    }

-- ---- planning from scratch

pub asked_solved : (kind : ℕ) (q : JoinQuery) (plan : EnginePlan) (pairs : List Pair) (b w : ℕ) (solved : Solved) → plan ≡ (record { query = q; pairs = pairs; buffer = b; workers = w }) → pairs ≡ seq_dpccp (graph_of q) → IsSolved kind plan solved
    → IsSolved kind (record { query = q; pairs = seq_dpccp (graph_of q); buffer = b; workers = w }) solved
asked_solved kind q plan pairs b w solved asked is s =
    let F : EnginePlan → Type 0 = λ x. IsSolved kind x solved in
    let G : List Pair → Type 0 = λ l. IsSolved kind (record { query = q; pairs = l; buffer = b; workers = w }) solved in
    subst G is (subst F asked s)

pub planned_best : (kind : ℕ) (q : JoinQuery) (b w : ℕ) (solved : Solved) → IsQuery q → Connected (graph_of q) (full (relations q)) → Complete (graph_of q) (seq_dpccp (graph_of q))
    → IsSolved kind (record { query = q; pairs = seq_dpccp (graph_of q); buffer = b; workers = w }) solved → AreBestWords kind q solved.words.row
planned_best kind q b w solved ok connected all s = least_words_can_be_kept kind q (seq_dpccp (graph_of q)) solved.words.row ok connected all s.size s.words

pub is_planned : (kind : ℕ) (q : JoinQuery) (b w : ℕ) (solved : Solved) → Complete (graph_of q) (seq_dpccp (graph_of q))
    → IsSolved kind (record { query = q; pairs = seq_dpccp (graph_of q); buffer = b; workers = w }) solved → IsPlanned q b w (record { query = q; words = solved.words })
is_planned kind q b w solved all s =
    record {
      query = refl;
      listed = all;
      drawn = let a = s.drawn in let c = s.pairs in let d = ap (λ (k : ℕ). w * k) s.all_rounds in omega arith;
    }

-- the words that a plan is read from
pub kept_best : (kind : ℕ) (q : JoinQuery) (row seen : List ℕ) (n all : ℕ) → AreBestWords kind q row → seen ≡ row → n ≡ relations q → all ≡ full n
    → (length seen ≡ 2 ^ relations q) × Connected (graph_of q) all × HasBestWords kind q seen all
kept_best kind q row seen n all kept same size whole =
    let is : all ≡ full (relations q) = whole ∙ ap full size in
    let F : ℕ → Type 0 = λ s. Connected (graph_of q) s × HasBestWords kind q row s in
    let G : List ℕ → Type 0 = λ l. HasBestWords kind q l all in
    let best : F all = subst F (sym is) (kept.connected, λ x c within. (kept.each x (full_below x (relations q) within)).best c) in
    (ap (λ (l : List ℕ). length l) same ∙ kept.size, best.0, subst G (sym same) best.1)
