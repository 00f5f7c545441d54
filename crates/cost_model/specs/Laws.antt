-- What holds of costs and words, as the laws of the crate say it.
use Rattle.std.specs.Prelude.{◌≡◌, ℕ, ◌<◌, ◌≤◌, ◌⊎◌, ◌↔◌}
use Rattle.dpe_base.specs.declared.TheConstants.{COST_LIMIT, EMPTY}
use Rattle.cost_model.specs.Costs.{operators}
use Rattle.cost_model.specs.Words.{split_cost, split_word}

-- the one costs less, or as much by a smaller operator, or as much by the same operator with a smaller left set
abbrev pub ComesBefore : ℕ → ℕ → ℕ → ℕ → ℕ → ℕ → Type 0
ComesBefore cost op left cost' op' left' =
    (cost < cost') ⊎ ((cost ≡ cost') × ((op < op') ⊎ ((op ≡ op') × (left < left'))))

-- w is the word of a join of the sides in one of their orders
abbrev pub IsSplitWord : ℕ → ℕ → ℕ → ℕ → ℕ → ℕ → ℕ → ℕ → ℕ → Type 0
IsSplitWord model a b wa wb la lb o w =
    (op : ℕ) × (op < operators model) × ((w ≡ split_word model op a wa wb la lb o) ⊎ (w ≡ split_word model op b wb wa lb la o))

-- w is the least word over both orders of the sides and all operators, and EMPTY exactly where none has a word
pub record IsLeastSplit (model a b wa wb la lb o w : ℕ) : Type 0 where
  pub one : (w ≡ EMPTY) ⊎ IsSplitWord model a b wa wb la lb o w
  pub least : (v : ℕ) → IsSplitWord model a b wa wb la lb o v → w ≤ v
  pub none : (w ≡ EMPTY) ↔ ((op : ℕ) → op < operators model → (COST_LIMIT ≤ split_cost model op wa wb la lb o) × (COST_LIMIT ≤ split_cost model op wb wa lb la o))
