use Rattle.std.proofs.Common.{◌≡◌, true, false, arith}
use Rattle.json.specs.Value.{value_view}
use Rattle.query_json.specs.Walk.Tree.{numbers_fit}
use Rattle.query_json.proofs.TreeLaws.{tree_kept, tree_lost}
use Rattle.query_json.proofs.walk.tree.tree_in.Goals as goal

pub returns-then-not-numbers_fit : goal.returns-then-not-numbers_fit
returns-then-not-numbers_fit c =
    let lost : numbers_fit (value_view c.in-Some.value) ≡ false = grind arith in
    tree_lost c.args.text.now c.in_ok-value.field-0 c.in-Some.value c.in-Some.is c.in_ok-value.ensures lost

pub returns : goal.returns
returns c =
    let kept : numbers_fit (value_view c.in-Some.value) ≡ true = grind arith in
    tree_kept c.args.text.now c.in_ok-value.field-0 c.in-Some.value c.in-Some.is c.in_ok-value.ensures kept
