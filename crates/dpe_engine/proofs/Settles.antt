-- Where all pairs of a set are done, the bounds hold its least word.
use Rattle.std.proofs.Common.{◌≡◌, ℕ, ◌≤◌, Contains, subst, arith, ⊎_elim}
use Rattle.dpe_base.specs.declared.TheConstants.{EMPTY}
use Rattle.dpe_base.specs.declared.pair.Pair.{Pair}
use Rattle.dpe_base.specs.Queries.{IsQuery}
use Rattle.dpe_base.specs.Sets.{union}
use Rattle.join_tree.specs.Trees.{Made}
use Rattle.join_tree.specs.BuiltLists.{HasBestPair}
use Rattle.join_tree.proofs.BestLaws.{empty_never_made}
use Rattle.memo_table.specs.declared.view.View.{View}
use Rattle.memo_table.specs.Seats.{BoundsAreMade, Settled}
use Rattle.dpe_engine.specs.Working.{IsBounded, IsDone}

-- each pair of the list with this union is done
abbrev pub AllDone : ℕ → View → ℕ → Type 0
AllDone model v s = (p : Pair) → Contains v.pairs p → union p.a p.b ≡ s → IsDone model v.query v.pairs v.bounds p

module _ (model : ℕ) (v : View) (ok : IsQuery v.query) (made : BoundsAreMade model v) where
  pub settles : (s : ℕ) → HasBestPair model v.query v.pairs s → AllDone model v s → Settled model v s
  settles s best done = ⊎_elim
      (λ (none : best.word ≡ EMPTY). let F : ℕ → Type 0 = Made model v.query v.pairs s in absurd (empty_never_made model v.query v.pairs s ok (subst F none best.least.made)))
      (λ (found : IsBounded v.bounds (union best.pair.a best.pair.b) best.word).
      let F : ℕ → Type 0 = λ t. Contains v.bounds (t, found.word) in
      let has : Contains v.bounds (s, found.word) = subst F best.over found.bound in
      let up : best.word ≤ found.word = best.least.least found.word (made (s, found.word) has).made in
      let down = found.most in
      let same : found.word ≡ best.word = omega arith in
      let G : ℕ → Type 0 = λ w. Contains v.bounds (s, w) in
      record { word = best.word; bound = subst G same has; least = best.least })
      (done best.pair best.listed best.over best.word best.of_pair)
