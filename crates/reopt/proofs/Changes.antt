-- The query with other rows, and back.
use Rattle.std.proofs.Common.{◌≡◌, ℕ, zero, suc, ◌^◌, ◌<◌, List, [], ◌∷◌, length, get_or, slice_index_or, refl, sym, ap, ◌∙◌, subst, arith}
use Rattle.dpe_base.specs.declared.query.Rel.{Rel}
use Rattle.dpe_base.specs.Queries.{JoinQuery, relations, rels_with_rows, with_rows}
use Rattle.dpe_base.specs.Sets.{full}
use Rattle.join_graph.specs.Graphs.{JoinGraph, Connected, graph_of}
use Rattle.dpe_engine.specs.declared.engine.Solved.{Solved}
use Rattle.reopt.specs.Keeping.{IsBestWord, AreBestWords, KeepsOthers, IsReplanned}
use Rattle.reopt.proofs.OtherSets.{same_relations, same_graph, best_stays}

rels_back : (xs : List Rel) (r n : ℕ) (d : Rel) → r < length xs → rels_with_rows (rels_with_rows xs r n) r (get_or xs r d).rows ≡ xs
unfolding rels_with_rows
rels_back [] r n d l = absurd (omega (arith, l))
rels_back (x ∷ xs) zero n d l = refl
rels_back (x ∷ xs) (suc r) n d l = ap (λ (ys : List Rel). x ∷ ys) (rels_back xs r n d (omega (arith, l)))

rows_back : (q : JoinQuery) (r n : ℕ) (d : Rel) → r < relations q → with_rows (with_rows q r n) r (get_or q.rels r d).rows ≡ q
unfolding with_rows
rows_back q r n d known = ap (λ (xs : List Rel). record { rels = xs; preds = q.preds }) (rels_back q.rels r n d known)

module _ (q p : JoinQuery) (r n : ℕ) (is : p ≡ with_rows q r n) where
  pub relations_stay : relations p ≡ relations q
  relations_stay = ap relations is ∙ same_relations q r n

  pub graph_stays : graph_of p ≡ graph_of q
  graph_stays = ap (λ (x : JoinQuery). graph_of x) is ∙ same_graph q r n

  -- the old rows again
  pub is_back : (last : JoinQuery) (rels : List Rel) (d : Rel) → r < relations q → rels ≡ q.rels → last ≡ with_rows p r (get_or rels r d).rows → last ≡ q
  is_back last rels d known same back =
      back ∙ (ap (λ (x : JoinQuery). with_rows x r (get_or rels r d).rows) is ∙ (ap (λ (xs : List Rel). with_rows (with_rows q r n) r (get_or xs r d).rows) same ∙ rows_back q r n d known))

  module _ (kind : ℕ) (row : List ℕ) (kept : AreBestWords kind q row) where
    -- the words that are kept of the sets without the relation
    pub others_kept : KeepsOthers kind p r row
    others_kept =
        record {
          size = kept.size ∙ ap (λ (k : ℕ). 2 ^ k) (sym relations_stay);
          each = λ s low none.
              let old : IsBestWord kind q s (slice_index_or row s 0) = kept.each s (subst (λ (k : ℕ). s < 2 ^ k) relations_stay low) in
              let F : JoinQuery → Type 0 = λ x. IsBestWord kind x s (slice_index_or row s 0) in
              let new : F (with_rows q r n) =
              record {
                best = λ c. (best_stays kind q r n s (slice_index_or row s 0) none).1 (old.best (subst (λ (g : JoinGraph). Connected g s) (same_graph q r n) c));
                none = λ apart. old.none (λ c. apart (subst (λ (g : JoinGraph). Connected g s) (sym (same_graph q r n)) c));
              } in
              subst F (sym is) new;
        }

    pub words_again : (b w : ℕ) (again : Solved) → IsReplanned kind p r b w again → AreBestWords kind p again.words.row
    words_again b w again a =
        let F : JoinGraph → Type 0 = λ g. Connected g (full (relations q)) in
        let G : ℕ → Type 0 = λ k. Connected (graph_of p) (full k) in
        record {
          connected = subst G (sym relations_stay) (subst F (sym graph_stays) kept.connected);
          size = a.size;
          each = a.each;
        }
