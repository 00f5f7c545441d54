use Rattle.std.proofs.Common.{◌≡◌, ◌∙◌, refl, ap, arith, slice_index}
use Rattle.cost_model.specs.Words.{word_op, word_left}
use Rattle.dpe_base.specs.Sets.{minus}
use Rattle.join_tree.proofs.NamedTrees.{leaf_named, join_named, only_join}
use Rattle.join_tree.proofs.plan.+tree_of_words.Goals as goal

pub returns-in-Some : goal.returns-in-Some
returns-in-Some t c = λ u n. leaf_named c.args.words.now c.args.s c.in-Some.r u c.in-Some.ensures n

pub tree_of_words-requires : goal.tree_of_words-requires
tree_of_words-requires t c =
    let word : c.of_bits-word.result ≡ slice_index c.args.words.now c.args.s = c.of_bits-word.ensures ∙ ap (slice_index c.args.words.now) c.bits.ensures in
    let named = join_named c.args.words.now c.args.s (word_op (slice_index c.args.words.now c.args.s)) c.left-left.result (minus c.args.s c.left-left.result) c.requires.some.0 c.in_default.ensures refl (c.left-left.ensures ∙ ap word_left word) refl c.requires.some.1 in
    (omega (arith, named.first_smaller, c.decreases), (omega (arith, named.first_smaller, c.requires.known), (named.first, named.first_named)))

pub tree_of_words-requires-2 : goal.tree_of_words-requires-2
tree_of_words-requires-2 t c =
    let word : c.of_bits-word.result ≡ slice_index c.args.words.now c.args.s = c.of_bits-word.ensures ∙ ap (slice_index c.args.words.now) c.bits.ensures in
    let named = join_named c.args.words.now c.args.s (word_op (slice_index c.args.words.now c.args.s)) c.left-left.result c.minus-right.result c.requires.some.0 c.in_default.ensures refl (c.left-left.ensures ∙ ap word_left word) c.minus-right.ensures c.requires.some.1 in
    (omega (arith, named.second_smaller, c.decreases), (omega (arith, named.second_smaller, c.requires.known), (named.second, named.second_named)))

pub returns : goal.returns
returns t c =
    let word : c.of_bits-word.result ≡ slice_index c.args.words.now c.args.s = c.of_bits-word.ensures ∙ ap (slice_index c.args.words.now) c.bits.ensures in
    only_join c.args.words.now c.args.s c.op.result c.left-left.result c.minus-right.result _ _ _ c.in_default.ensures (c.op.ensures ∙ ap word_op word) (c.left-left.ensures ∙ ap word_left word) c.minus-right.ensures c.in_ok-first.ensures c.in_ok-second.ensures c.in_ok-tree.ensures
