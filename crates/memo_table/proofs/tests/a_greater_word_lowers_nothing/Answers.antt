use Rattle.std.proofs.Common.{◌≡◌, ◌+◌, ◌*◌, Contains, inr, sym, subst, ap, ◌∙◌}
use Rattle.dpe_base.specs.declared.TheConstants.{SPAN}
use Rattle.join_graph.specs.Graphs.{JoinGraph, Pairs, graph_of}
use Rattle.memo_table.specs.declared.view.View.{View}
use Rattle.dpe_base.proofs.Members.{contains_head}
use Rattle.memo_table.proofs.TwoRelations.{two_relations, is_two, both_within, pair_listed, made_at, first_left, second_left}
use Rattle.memo_table.proofs.tests.a_greater_word_lowers_nothing.Goals as goal

pub make-requires-after_bounds : goal.make-requires-after_bounds
make-requires-after_bounds g c κs p has =
    let F : JoinGraph → Type 0 = λ h. Pairs h p in subst F c.of-graph.ensures ((c.over-stream.ensures.complete.members p).0 has)

pub offer-requires-clause-within : goal.offer-requires-clause-within
offer-requires-clause-within g c κs =
    let q : c.in_ok-memo.memo.query ≡ two_relations = c.in_ok-memo.ensures.named.0 ∙ is_two c.in_ok-query.query c.in_ok-query.ensures.rels c.in_ok-query.ensures.preds in
    both_within c.in_ok-memo.memo.query c.of_bits-both.result q c.of_bits-both.ensures

pub offer-requires-clause-word : goal.offer-requires-clause-word
offer-requires-clause-word g c κs =
    let two : c.in_ok-query.query ≡ two_relations = is_two c.in_ok-query.query c.in_ok-query.ensures.rels c.in_ok-query.ensures.preds in
    let listed = pair_listed c.of-graph.result c.over-stream.result (c.of-graph.ensures ∙ ap graph_of two) c.over-stream.ensures.complete in
    inr (made_at _ _ _ _ _ (c.in_ok-memo.ensures.named.0 ∙ two) c.in_ok-memo.ensures.named.1 c.of_bits-both.ensures (first_left c.over-stream.result listed))

pub load-first-requires-clause-held : goal.load-first-requires-clause-held
load-first-requires-clause-held g c κs =
    let F : View → Type 0 = λ v. Contains v.bounds (c.of_bits-both.result, 1300 * (4 * SPAN) + 1) in
    (1300 * (4 * SPAN) + 1, subst F (sym c.offer.ensures.view) (contains_head (c.of_bits-both.result, 1300 * (4 * SPAN) + 1) c.in_ok-memo.seat.view.bounds))

pub offer-requires-2-clause-within : goal.offer-requires-2-clause-within
offer-requires-2-clause-within g c κs =
    let q : c.in_ok-memo.memo.query ≡ two_relations = c.in_ok-memo.ensures.named.0 ∙ is_two c.in_ok-query.query c.in_ok-query.ensures.rels c.in_ok-query.ensures.preds in
    both_within c.in_ok-memo.memo.query c.of_bits-both.result q c.of_bits-both.ensures

pub offer-requires-2-clause-word : goal.offer-requires-2-clause-word
offer-requires-2-clause-word g c κs =
    let two : c.in_ok-query.query ≡ two_relations = is_two c.in_ok-query.query c.in_ok-query.ensures.rels c.in_ok-query.ensures.preds in
    let listed = pair_listed c.of-graph.result c.over-stream.result (c.of-graph.ensures ∙ ap graph_of two) c.over-stream.ensures.complete in
    inr (made_at _ _ _ _ _ (c.in_ok-memo.ensures.named.0 ∙ two) c.in_ok-memo.ensures.named.1 c.of_bits-both.ensures (second_left c.over-stream.result listed))
