-- A settled word is final.
use Rattle.memo_table.specs.Rule.{Kept, TableState}
use mathlib.Core.Option.{some}
use Rattle.memo_table.specs.declared.view.TreeSpace.{TreeSpace}
use lib.ListN.{get_elem?}
use Rattle.std.proofs.Common.{◌≡◌, ◌<◌, ◌≤◌, ℕ, Contains, arith, ⊎_elim, subst}
use Rattle.dpe_base.specs.declared.TheConstants.{EMPTY}
use Rattle.dpe_base.proofs.Members.{contains_none}
use Rattle.join_tree.specs.Trees.{Made, Least}
use Rattle.memo_table.specs.declared.view.View.{View}
use Rattle.memo_table.specs.Rule.{memo_word}
use Rattle.memo_table.specs.Seats.{Settled}
use Rattle.memo_table.proofs.TreeWords.{made_below}

-- the word that is loaded of a settled set is its least word
pub loaded_least : (model : ℕ) (v : View) (s x : ℕ) → Settled model v s → Made model v.query v.pairs s x → ((w : ℕ) → Contains v.bounds (s, w) → x ≤ w) → Least model v.query v.pairs s x
loaded_least model v s x settled made low =
    record { made = made; least = λ u m. let a = low settled.word settled.bound in let b = settled.least.least u m in omega arith }

pub settled_is_final : (model : ℕ) (space : TreeSpace) (t : TableState) (seat s : ℕ) (v : View) → Kept model space t → get_elem? t.views seat ≡ some v → (x : Settled model v s) → memo_word t.words s ≡ x.word
settled_is_final model space t seat s v k at x = ⊎_elim
    (λ e. let F : View → Type 0 = λ u. Contains u.bounds (s, x.word) in absurd (contains_none (s, x.word) (subst F e x.bound)))
    (λ live.
    let g = live.bounds (s, x.word) x.bound in
    let low : x.word < EMPTY = made_below model space k.listed s x.word g.is.made in
    let up : memo_word t.words s ≤ x.word = g.reached in
    ⊎_elim
    (λ (e : memo_word t.words s ≡ EMPTY). absurd (omega arith))
    (λ made. let down : x.word ≤ memo_word t.words s = x.least.least (memo_word t.words s) (rw (live.query, live.pairs) made) in omega arith)
    (k.words.made s))
    (k.views seat v at)
