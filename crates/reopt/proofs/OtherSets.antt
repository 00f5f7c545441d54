-- A set without the changed relation keeps its rows, its legal trees with their costs, and its best word.
use Rattle.std.proofs.Common.{◌≡◌, ◌≢◌, ◌↔◌, ℕ, zero, suc, ◌+◌, ◌<◌, arith, List, [], ◌∷◌, length, Contains, refl, sym, ap, ◌∙◌, subst, slice_get}
use Rattle.std.specs.List.{fold}
use Rattle.std.proofs.lemmas.List.Elements.{All-contains}
use Rattle.dpe_base.specs.declared.query.Rel.{Rel}
use Rattle.dpe_base.specs.Queries.{JoinQuery, relations, rels_with_rows, with_rows}
use Rattle.dpe_base.specs.Sets.{Has, union, members}
use Rattle.dpe_base.proofs.Members.{contains_tail}
use Rattle.dpe_base.proofs.ListOrder.{members_has}
use Rattle.dpe_base.proofs.SetLaws.{union_left, union_right}
use Rattle.join_graph.specs.Graphs.{graph_of}
use Rattle.card_scaled.specs.Scaled.{rounded}
use Rattle.card_scaled.specs.Cards.{card, rows, times_base, times_pred, with_relation}
use Rattle.cost_model.specs.Costs.{join_cost}
use Rattle.cost_model.specs.Words.{word}
use Rattle.dpe_base.specs.declared.TheConstants.{COST_LIMIT}
use Rattle.join_tree.specs.Trees.{JoinTree, leaf, join, set_of, cost, root_word, Legal, HasWord, Best}
use Rattle.reopt.specs.Laws.{OtherSetsStay}

other_rel : (xs : List Rel) (r n k : ℕ) → k ≢ r → slice_get (rels_with_rows xs r n) k ≡ slice_get xs k
unfolding rels_with_rows
other_rel [] r n k ne = refl
other_rel (x ∷ xs) zero n zero ne = absurd (ne refl)
other_rel (x ∷ xs) zero n (suc k) ne = refl
other_rel (x ∷ xs) (suc r) n zero ne = refl
other_rel (x ∷ xs) (suc r) n (suc k) ne = other_rel xs r n k (λ e. ne (ap suc e))

same_length : (xs : List Rel) (r n : ℕ) → length (rels_with_rows xs r n) ≡ length xs
unfolding rels_with_rows
same_length [] r n = refl
same_length (x ∷ xs) zero n = refl
same_length (x ∷ xs) (suc r) n = ap suc (same_length xs r n)

pub same_relations : (q : JoinQuery) (r n : ℕ) → relations (with_rows q r n) ≡ relations q
unfolding with_rows
same_relations q r n = same_length q.rels r n

pub same_graph : (q : JoinQuery) (r n : ℕ) → graph_of (with_rows q r n) ≡ graph_of q
unfolding with_rows
same_graph q r n = ap (λ k. record { n = k; adjacent = (graph_of q).adjacent }) (same_length q.rels r n)

fold_same : {A B : Type 0} (f g : B → A → B) (a : B) (xs : List A) → ((x : A) → Contains xs x → (b : B) → f b x ≡ g b x) → fold f a xs ≡ fold g a xs
fold_same f g a [] same = refl
fold_same f g a (x ∷ xs) same = ap (λ b. fold f b xs) (same x (0, omega arith, refl) a) ∙ fold_same f g (g a x) xs (λ y c b. same y (contains_tail x xs y c) b)

member_of : (s k : ℕ) → Contains (members s) k → Has s k
member_of s k c = All-contains (λ k. Has s k) (members s) k (members_has 32 s) c

pub rows_stay : (q : JoinQuery) (r n s : ℕ) → (Has s r → ⊥) → rows (with_rows q r n) s ≡ rows q s
unfolding rows card with_relation with_rows
rows_stay q r n s none = ap rounded (fold_same (with_relation (with_rows q r n) s) (with_relation q s) _ (members s) each)
  where
    each : (k : ℕ) → Contains (members s) k → (c : _) → with_relation (with_rows q r n) s c k ≡ with_relation q s c k
    each k h c = ap (λ o. fold (times_pred s k) (times_base c o) q.preds) (other_rel q.rels r n k (λ e. none (subst (Has s) e (member_of s k h))))

-- ---- trees

same_sum : (kind op x y a b c x' y' a' b' c' : ℕ) → x ≡ x' → y ≡ y' → a ≡ a' → b ≡ b' → c ≡ c' → x + y + join_cost kind op a b c ≡ x' + y' + join_cost kind op a' b' c'
same_sum kind op x y a b c x' y' a' b' c' e f g h i = rw (e, f, g, h, i) refl

pub cost_stays : (kind : ℕ) (q : JoinQuery) (r n : ℕ) (t : JoinTree) → (Has (set_of t) r → ⊥) → cost kind (with_rows q r n) t ≡ cost kind q t
cost_stays kind q r n (leaf k) none = refl
cost_stays kind q r n (join op l u) none =
    let a : Has (set_of l) r → ⊥ = λ h. none (union_left (set_of l) (set_of u) r h) in
    let b : Has (set_of u) r → ⊥ = λ h. none (union_right (set_of l) (set_of u) r h) in
    same_sum kind op _ _ _ _ _ _ _ _ _ _ (cost_stays kind q r n l a) (cost_stays kind q r n u b) (rows_stay q r n (set_of l) a) (rows_stay q r n (set_of u) b)
    (rows_stay q r n (union (set_of l) (set_of u)) none)

module _ (kind : ℕ) (p q : JoinQuery) where
  same_root : (t : JoinTree) → cost kind p t ≡ cost kind q t → root_word kind p t ≡ root_word kind q t
  same_root (leaf k) e = refl
  same_root (join op l u) e = ap (λ c. word c op (set_of l)) e

  word_stays : (t : JoinTree) (w : ℕ) → cost kind p t ≡ cost kind q t → HasWord kind p t w → HasWord kind q t w
  word_stays t w e h = record { below = subst (λ c. c < COST_LIMIT) e h.below; is = sym (same_root t e) ∙ h.is }

  legal_stays : (t : JoinTree) → graph_of p ≡ graph_of q → Legal kind (graph_of p) t → Legal kind (graph_of q) t
  legal_stays t e l = subst (λ g. Legal kind g t) e l

module _ (kind : ℕ) (p q : JoinQuery) (s w : ℕ) (graph : graph_of p ≡ graph_of q) (costs : (t : JoinTree) → set_of t ≡ s → cost kind p t ≡ cost kind q t) where
  best_goes : Best kind p s w → Best kind q s w
  best_goes b =
      let t = b.some in
      record {
        some = (t.0, legal_stays kind p q t.0 graph t.1, t.2, word_stays kind p q t.0 w (costs t.0 t.2) t.3);
        least = λ u v l over h. b.least u v (legal_stays kind q p u (sym graph) l) over (word_stays kind q p u v (sym (costs u over)) h);
      }

pub best_stays : (kind : ℕ) (q : JoinQuery) (r n s w : ℕ) → (Has s r → ⊥) → Best kind (with_rows q r n) s w ↔ Best kind q s w
best_stays kind q r n s w none = (
  best_goes kind (with_rows q r n) q s w (same_graph q r n) (λ t over. cost_stays kind q r n t (apart t over)),
  best_goes kind q (with_rows q r n) s w (sym (same_graph q r n)) (λ t over. sym (cost_stays kind q r n t (apart t over))),
)
  where
    apart : (t : JoinTree) → set_of t ≡ s → Has (set_of t) r → ⊥
    apart t over h = none (subst (λ u. Has u r) over h)

pub other_sets_stay : OtherSetsStay
other_sets_stay kind q r n s none =
    record {
      rows = rows_stay q r n s none;
      legal = λ t. (legal_stays kind (with_rows q r n) q t (same_graph q r n), legal_stays kind q (with_rows q r n) t (sym (same_graph q r n)));
      cost = λ t over. cost_stays kind q r n t (λ h. none (subst (λ u. Has u r) over h));
      best = λ w. best_stays kind q r n s w none;
    }
