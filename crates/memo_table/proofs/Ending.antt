-- What the seat of the whole weight knows of the words at the end.
use Rattle.std.proofs.Common.{◌≡◌, ℕ, zero, suc, ◌+◌, ◌^◌, ◌<◌, ◌≤◌, ◌≢◌, inl, inr, List, [], ◌∷◌, Contains, length, get_or, refl, sym, ap, ◌∙◌, subst, arith, ⊎_elim}
use Rattle.std.proofs.lemmas.List.{get_or_default}
use mathlib.Core.Option.{some, some-injective, some-ne-none}
use mathlib.Core.Logic.{dite}
use native.Mathlib.Decide.{ℕ_discrete}
use lib.ListN.{get_elem?}
use Rattle.dpe_base.specs.declared.TheConstants.{EMPTY, WEIGHT}
use Rattle.memo_table.specs.declared.view.View.{View}
use Rattle.memo_table.specs.declared.view.TreeSpace.{TreeSpace}
use Rattle.memo_table.specs.Views.{EachOnceBelow}
use Rattle.memo_table.specs.Rule.{IsTreeSpace, TableState, memo_word, counter, Kept}
use Rattle.dpe_base.proofs.SizeLaws.{full_below}
use Rattle.join_graph.specs.Graphs.{JoinGraph, IsGraph, Connected, graph_of}
use Rattle.connected_sets.specs.Lists.{sets_by_least}
use Rattle.connected_sets.proofs.GrownLaws.{sets_has}
use Rattle.join_tree.specs.Trees.{Made}
use Rattle.join_tree.proofs.TreeLaws.{legal_connected, made_legal}
use Rattle.memo_table.specs.Finishing.{IsLeastBound, AreCopiedBut, AreEmpty}
use Rattle.memo_table.proofs.Copying.{IsCopied}
use Rattle.dpe_base.proofs.Members.{contains_none}
use Rattle.memo_table.proofs.Counting.{knowing}
use Rattle.memo_table.proofs.Holding.{live_of, others_spent}
use Rattle.memo_table.proofs.TreeWords.{made_below}

module _ (model : ℕ) (space : TreeSpace) where
  pub ends : (s : TableState) (id : ℕ) (v : View) → Kept model space s → get_elem? s.views id ≡ some v → v.weight ≡ WEIGHT → (t : ℕ) → IsLeastBound v.bounds t (memo_word s.words t)
  ends s id v k at all t =
      let x : ℕ = memo_word s.words t in
      let own : x ≢ EMPTY → Contains v.bounds (t, x) = λ ne. let h = k.held t ne in dite (ℕ_discrete h.seat id)
      (λ (e : h.seat ≡ id).
      let same : h.view ≡ v = some-injective h.view v (sym h.at ∙ (ap (λ (i : ℕ). get_elem? s.views i) e ∙ at)) in
      let F : View → Type 0 = λ u. Contains u.bounds (t, x) in subst F same h.bound)
      (λ (ne' : h.seat ≢ id). let F : View → Type 0 = λ u. Contains u.bounds (t, x) in absurd (contains_none (t, x) (subst F (others_spent model space s id v k at all h.seat h.view ne' h.at) h.bound))) in
      let live = live_of model space s.words v (k.views id v at) (omega arith) in
      let below : (b : ℕ) → Contains v.bounds (t, b) → (x ≤ b) × (x ≢ EMPTY) = λ b has.
      let g = live.bounds (t, b) has in
      let low : b < EMPTY = made_below model space k.listed t b g.is.made in
      let r : x ≤ b = g.reached in (r, omega arith) in record {
        none = (
          (λ e b has. (below b has).1 e),
          (λ no. dite (ℕ_discrete x EMPTY) (λ e. e) (λ ne. absurd (no x (own ne)))),
        );
        some = λ b has. (own (below b has).1, (below b has).0);
      }

  pub ends_drawn : (s : TableState) (id : ℕ) (v : View) → Kept model space s → get_elem? s.views id ≡ some v → v.weight ≡ WEIGHT → EachOnceBelow (counter s.words) v.tickets
  ends_drawn s id v k at all = knowing (counter s.words) s.views id v k.counts at (others_spent model space s id v k at all)

-- the words as they were copied
pub copied : (ws row : List ℕ) (t : ℕ) → t < length row → IsCopied ws row t → memo_word ws t ≡ get_or row t 0
copied ws row t h e = read ws (t + 1) (get_or row t EMPTY) e ∙ get_or_default row t EMPTY 0 h
  where
    read : (ws : List ℕ) (i x : ℕ) → get_elem? ws i ≡ some x → get_or ws i EMPTY ≡ x
    read [] i x e = absurd (some-ne-none x (sym e))
    read (y ∷ ys) zero x e = some-injective y x e
    read (y ∷ ys) (suc i) x e = read ys i x e

pub copied_counter : (ws : List ℕ) (n : ℕ) → get_elem? ws 0 ≡ some n → counter ws ≡ n
copied_counter [] n e = absurd (some-ne-none n (sym e))
copied_counter (x ∷ xs) n e = some-injective x n e

-- ---- the words that need not be copied

-- a set with a word is connected
made_connected : (model : ℕ) (space : TreeSpace) (s w : ℕ) → IsTreeSpace space → Made model space.query space.pairs s w → Connected (graph_of space.query) s
made_connected model space s w listed m =
    subst (Connected (graph_of space.query)) m.over
    (legal_connected model (graph_of space.query) m.tree (made_legal model space.query space.pairs listed.pairs m.tree m.made))

-- the word of a set that is not connected is empty, as the row's is
pub copied_or_connected : (model : ℕ) (space : TreeSpace) (t : TableState) (words row : List ℕ) (n : ℕ) (g : JoinGraph) → Kept model space t → t.words ≡ words → AreEmpty n row → length words ≡ length row + 1 → g ≡ graph_of space.query → AreCopiedBut (Connected g) words row
copied_or_connected model space t words row n g k e empty size same s l = ⊎_elim
    (λ (is : memo_word t.words s ≡ EMPTY). inl
    (at words (s + 1) EMPTY (omega (arith, size))
    ∙ ap (λ (w : ℕ). some w) (sym (ap (λ ws. memo_word ws s) e) ∙ is ∙ sym (empty.each s l))))
    (λ made. inr (subst (λ h. Connected h s) (sym same) (made_connected model space s (memo_word t.words s) k.listed made)))
    (k.words.made s)
  where
    at : (xs : List ℕ) (i d : ℕ) → i < length xs → get_elem? xs i ≡ some (get_or xs i d)
    at [] i d l = absurd (omega arith)
    at (x ∷ xs) zero d l = refl
    at (x ∷ xs) (suc i) d l = at xs i d (omega arith)

-- where a connected set stands
pub place_known : (g : JoinGraph) (s size : ℕ) → Connected g s → size ≡ 2 ^ g.n → s < size
place_known g s size c e = omega (arith, e, full_below s g.n c.within)

-- all connected sets are still to come
pub all_to_come : (g : JoinGraph) (words row left : List ℕ) → IsGraph g → left ≡ sets_by_least g → AreCopiedBut (Connected g) words row → AreCopiedBut (Contains left) words row
all_to_come g words row left ok e others s l = ⊎_elim
    (λ (is : IsCopied words row s). inl is)
    (λ (c : Connected g s). inr (subst (λ (xs : List ℕ). Contains xs s) (sym e) ((sets_has g ok s).1 c)))
    (others s l)
