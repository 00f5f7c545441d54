-- The words of the relations alone are offered, one after the other.
use Rattle.std.proofs.Common.{◌≡◌, ℕ, ◌+◌, ◌<◌, ◌≢◌, Bool, cond, List, [], Contains, sym, refl, ap, ◌∙◌, subst, arith, ⊎_elim, ne_eqb}
use mathlib.Core.Logic.{dite}
use native.Mathlib.Decide.{ℕ_discrete}
use Rattle.std.proofs.lemmas.Nat.{pow_below}
use Rattle.dpe_base.specs.declared.TheConstants.{EMPTY, N_MAX}
use Rattle.dpe_base.specs.Queries.{relations}
use Rattle.dpe_base.specs.Sets.{single}
use Rattle.memo_table.specs.declared.view.View.{View}
use Rattle.memo_table.specs.declared.view.TreeSpace.{TreeSpace}
use Rattle.memo_table.specs.Views.{with_bound, with_offer}
use Rattle.join_tree.specs.Trees.{leaf_word}
use Rattle.memo_table.specs.Making.{HasLeaves, IsOpen}
use Rattle.memo_table.specs.Rule.{IsTreeSpace}
use Rattle.memo_table.specs.Seats.{MemoTable, SeatView, Settled}
use Rattle.dpe_base.proofs.Members.{contains_head, contains_tail, contains_none, contains_cases}
use Rattle.memo_table.proofs.TreeWords.{leaf_least}

abbrev leaf_bound : ℕ → ℕ × ℕ
leaf_bound r = (single r, leaf_word r)

-- a word of a tree is a bound more
pub offer_bounds : (v : View) (t w : ℕ) → w ≢ EMPTY → with_offer v t w ≡ with_bound v t w
offer_bounds v t w ne = let F : Bool → Type 0 = λ b. cond b v (with_bound v t w) ≡ with_bound v t w in subst F (sym (ne_eqb w EMPTY ne)) refl

leaf_word_low : (r : ℕ) → r < N_MAX → leaf_word r < EMPTY
unfolding single
leaf_word_low r l = let p = pow_below r N_MAX l in omega arith

-- each leaf has its word among the bounds
pub leaves_settled : (model : ℕ) (space : TreeSpace) (v : View) → IsTreeSpace space → v.query ≡ space.query → v.pairs ≡ space.pairs → HasLeaves (relations space.query) v
    → (r : ℕ) → r < relations space.query → Settled model v (single r)
leaves_settled model space v is query pairs has r l = record {
  word = leaf_word r;
  bound = (has (leaf_bound r)).1 (r, l, refl);
  least = rw (query, pairs) (leaf_least model space is r l);
}

pub no_leaves : (v : View) → v.bounds ≡ [] → HasLeaves 0 v
no_leaves v e b = (
  (λ has. let F : List (ℕ × ℕ) → Type 0 = λ l. Contains l b in absurd (contains_none b (subst F e has))),
  (λ x. let l : x.0 < 0 = x.1 in absurd (omega arith)),
)

leaves_more : (r : ℕ) (v : View) → HasLeaves r v → HasLeaves (r + 1) (with_bound v (single r) (leaf_word r))
leaves_more r v has b = (
  (λ c. ⊎_elim
      (λ (e : leaf_bound r ≡ b). (r, omega arith, sym e))
      (λ old. let x = (has b).0 old in (x.0, (let l = x.1 in omega arith), x.2))
      (contains_cases (leaf_bound r) v.bounds b c)),
  (λ x. dite (ℕ_discrete x.0 r)
      (λ (e : x.0 ≡ r). let F : ℕ × ℕ → Type 0 = Contains (with_bound v (single r) (leaf_word r)).bounds in
      subst F (sym (x.2 ∙ ap leaf_bound e)) (contains_head (leaf_bound r) v.bounds))
      (λ (ne : x.0 ≢ r). contains_tail (leaf_bound r) v.bounds b ((has b).1 (x.0, (let l = x.1 in omega arith), x.2)))),
)

pub opens_more : (memo : MemoTable) (before now after : SeatView) (r : ℕ) → IsOpen memo before now r → after.table ≡ now.table → after.view ≡ with_offer now.view (single r) (leaf_word r) → r < N_MAX
    → IsOpen memo before after (r + 1)
opens_more memo before now after r o table view low =
    let is : after.view ≡ with_bound now.view (single r) (leaf_word r) = view ∙ offer_bounds now.view (single r) (leaf_word r) (λ e. let l = leaf_word_low r low in omega arith) in record {
      seat = record { table = table ∙ o.seat.table; query = ap (λ (v : View). v.query) is ∙ o.seat.query; pairs = ap (λ (v : View). v.pairs) is ∙ o.seat.pairs };
      weight = ap (λ (v : View). v.weight) is ∙ o.weight;
      floor = ap (λ (v : View). v.floor) is ∙ o.floor;
      tickets = ap (λ (v : View). v.tickets) is ∙ o.tickets;
      allowance = ap (λ (v : View). v.allowance) is ∙ o.allowance;
      leaves = let F : View → Type 0 = HasLeaves (r + 1) in subst F (sym is) (leaves_more r now.view o.leaves);
    }
