-- The laws of the crate.
use Rattle.cost_model.specs.Words.{word_cost, word_left, word_op, word}
use Rattle.cost_model.specs.declared.model.TheConstants.{HASH, LEAF}
use Rattle.cost_model.specs.Costs.{join_cost}
use Rattle.dpe_base.specs.declared.TheConstants.{ROW_CAP}
use Rattle.std.proofs.Common.{◌≡◌, ℕ, ◌+◌, ◌*◌, ◌<◌, ◌≤◌, ◌↔◌, inl, inr, arith, ◌∙◌, ◌^◌, ◌≢◌}
use Rattle.std.proofs.lemmas.Bool.{cases_lt}
use Rattle.dpe_base.specs.declared.TheConstants.{COST_LIMIT, SPAN, EMPTY}
use Rattle.cost_model.specs.Costs.{operators}
use Rattle.cost_model.specs.Words.{split_cost, least_split_word}
use Rattle.cost_model.specs.Laws.{ComesBefore, IsSplitWord, IsLeastSplit}
use Rattle.cost_model.proofs.CostLaws.{operators_few, join_cost_below, first_cost_capped}
use Rattle.cost_model.proofs.WordLaws.{word-below, word-above, word_at_empty, least_split_below_le, least_split_below_is}

pub costs_are_bounded : (model op l r o : ℕ) → l ≤ ROW_CAP → r ≤ ROW_CAP → o ≤ ROW_CAP → (join_cost model op l r o < 2 ^ 90) × (join_cost model HASH l r o ≤ 4 * ROW_CAP)
costs_are_bounded model op l r o a b c = (join_cost_below model op l r o a b c, first_cost_capped model l r o a b c)

pub words_hold_their_parts : (cost op left : ℕ) → cost < COST_LIMIT → op ≤ LEAF → left < SPAN → (word_cost (word cost op left) ≡ cost) × (word_op (word cost op left) ≡ op) × (word_left (word cost op left) ≡ left)
words_hold_their_parts cost op left c p l =
    (omega (arith, word-below cost op left c), omega (arith, word-below cost op left c), omega (arith, word-below cost op left c))

digits_before : (cost op left cost' op' left' : ℕ) → op ≤ 3 → left < SPAN → op' ≤ 3 → left' < SPAN → (cost * (4 * SPAN) + op * SPAN + left < cost' * (4 * SPAN) + op' * SPAN + left') ↔ ComesBefore cost op left cost' op' left'
digits_before cost op left cost' op' left' p l p' l' = (forth, back)
  where
    forth : cost * (4 * SPAN) + op * SPAN + left < cost' * (4 * SPAN) + op' * SPAN + left' → ComesBefore cost op left cost' op' left'
    forth h =
        elim (cases_lt cost cost') [
          | inl c ↦ inl c
          | inr c ↦ elim (cases_lt op op') [ inl d ↦ inr (omega arith, inl d) | inr d ↦ inr (omega arith, inr (omega arith, omega arith)) ]
        ]

    back : ComesBefore cost op left cost' op' left' → cost * (4 * SPAN) + op * SPAN + left < cost' * (4 * SPAN) + op' * SPAN + left'
    back h = omega (arith, h)

pub words_are_ordered : (cost op left cost' op' left' : ℕ) → cost < COST_LIMIT → op ≤ LEAF → left < SPAN → cost' < COST_LIMIT → op' ≤ LEAF → left' < SPAN → (word cost op left < word cost' op' left') ↔ ComesBefore cost op left cost' op' left'
words_are_ordered cost op left cost' op' left' c p l c' p' l' =
    rw (word-below cost op left c, word-below cost' op' left' c') (digits_before cost op left cost' op' left' p l p' l')

pub empty_is_no_word : ((cost op left : ℕ) → op < LEAF → left < SPAN → (word cost op left ≡ EMPTY) ↔ (COST_LIMIT ≤ cost)) × ((set : ℕ) → set < SPAN → word 0 LEAF set ≢ EMPTY)
empty_is_no_word = (
  λ cost op left p l. (λ e. word_at_empty cost op left p l (omega (arith, e)), word-above cost op left),
  λ set l e. absurd (omega (arith, l, e, word-below 0 3 set (omega arith))),
)

pub split_words_are_least : (model a b wa wb la lb o : ℕ) → a < SPAN → b < SPAN → IsLeastSplit model a b wa wb la lb o (least_split_word model a b wa wb la lb o)
split_words_are_least model a b wa wb la lb o ia ib =
    record {
      one = least_split_below_is (operators model) model a b wa wb la lb o;
      least = least;
      none = (λ e op l. above op l (omega (arith, e)), below);
    }
  where
    least : (v : ℕ) → IsSplitWord model a b wa wb la lb o v → least_split_word model a b wa wb la lb o ≤ v
    least v is = elim is.2 [
      | inl e ↦ omega (arith, e, (least_split_below_le (operators model) model is.0 a b wa wb la lb o is.1).0)
      | inr e ↦ omega (arith, e, (least_split_below_le (operators model) model is.0 a b wa wb la lb o is.1).1)
    ]

    above : (op : ℕ) → op < operators model → EMPTY ≤ least_split_word model a b wa wb la lb o → (COST_LIMIT ≤ split_cost model op wa wb la lb o) × (COST_LIMIT ≤ split_cost model op wb wa lb la o)
    above op l e = (
      word_at_empty (split_cost model op wa wb la lb o) op a (operators_few model op l) ia (omega (arith, e, (least_split_below_le (operators model) model op a b wa wb la lb o l).0)),
      word_at_empty (split_cost model op wb wa lb la o) op b (operators_few model op l) ib (omega (arith, e, (least_split_below_le (operators model) model op a b wa wb la lb o l).1)),
    )

    below : ((op : ℕ) → op < operators model → (COST_LIMIT ≤ split_cost model op wa wb la lb o) × (COST_LIMIT ≤ split_cost model op wb wa lb la o)) → least_split_word model a b wa wb la lb o ≡ EMPTY
    below h = elim (least_split_below_is (operators model) model a b wa wb la lb o) [
      | inl e ↦ e
      | inr one ↦ elim one.2 [
        | inl e ↦ e ∙ word-above (split_cost model one.0 wa wb la lb o) one.0 a (h one.0 one.1).0
        | inr e ↦ e ∙ word-above (split_cost model one.0 wb wa lb la o) one.0 b (h one.0 one.1).1
      ]
    ]
