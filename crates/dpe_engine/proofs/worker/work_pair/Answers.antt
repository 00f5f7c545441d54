use Rattle.std.proofs.Common.{◌≡◌, ◌⊎◌, Contains, ℕ, refl, sym, subst, ap, ◌∙◌}
use Rattle.dpe_base.specs.declared.TheConstants.{EMPTY}
use Rattle.dpe_base.specs.Sets.{union}
use Rattle.dpe_base.proofs.Members.{contains_tail}
use Rattle.card_scaled.specs.Cards.{rows}
use Rattle.join_tree.specs.Trees.{Made, Least, pair_word}
use Rattle.card_scaled.proofs.CardLaws.{rows_bounds}
use Rattle.memo_table.specs.declared.view.View.{View}
use Rattle.memo_table.specs.Seats.{Settled}
use Rattle.memo_table.specs.Views.{with_bound, with_offer}
use Rattle.dpe_engine.proofs.SoundPairs.{sound_pair}
use Rattle.dpe_engine.proofs.PairSteps.{pair_of_query, stays_settled, worked_pair, word_is}
use Rattle.dpe_engine.proofs.worker.work_pair.Goals as goal

pub load-second-requires-clause-held : goal.load-second-requires-clause-held
load-second-requires-clause-held g c = λ κs h.
    let F : View → Type 0 = λ v. Contains v.bounds (c.args.pair.b, c.requires.second.word) in
    (c.requires.second.word, subst F (sym c.load-first.ensures.view) (contains_tail _ _ _ c.requires.second.bound))

pub rows-rows_a-requires-clause-some : goal.rows-rows_a-requires-clause-some
rows-rows_a-requires-clause-some g c = (pair_of_query _ _ c.requires.planned.query (c.requires.planned.within _ c.requires.listed)).some_first

pub rows-rows_a-requires-clause-within : goal.rows-rows_a-requires-clause-within
rows-rows_a-requires-clause-within g c = rw c.requires.planned.rows.sized ((pair_of_query _ _ c.requires.planned.query (c.requires.planned.within _ c.requires.listed)).first)

pub rows-rows_b-requires-clause-some : goal.rows-rows_b-requires-clause-some
rows-rows_b-requires-clause-some g c = (pair_of_query _ _ c.requires.planned.query (c.requires.planned.within _ c.requires.listed)).some_second

pub rows-rows_b-requires-clause-within : goal.rows-rows_b-requires-clause-within
rows-rows_b-requires-clause-within g c = rw c.requires.planned.rows.sized ((pair_of_query _ _ c.requires.planned.query (c.requires.planned.within _ c.requires.listed)).second)

pub rows-rows-requires-clause-some : goal.rows-rows-requires-clause-some
rows-rows-requires-clause-some g c = rw c.union-union.ensures ((pair_of_query _ _ c.requires.planned.query (c.requires.planned.within _ c.requires.listed)).some_union)

pub rows-rows-requires-clause-within : goal.rows-rows-requires-clause-within
rows-rows-requires-clause-within g c = rw (c.union-union.ensures, c.requires.planned.rows.sized) ((pair_of_query _ _ c.requires.planned.query (c.requires.planned.within _ c.requires.listed)).both)

pub best_split-word-requires-clause-sets : goal.best_split-word-requires-clause-sets
best_split-word-requires-clause-sets g c = λ κs h.
    let p = pair_of_query _ _ c.requires.planned.query (c.requires.planned.within _ c.requires.listed) in (p.small_first, p.small_second)

pub best_split-word-requires-clause-left : goal.best_split-word-requires-clause-left
best_split-word-requires-clause-left g c = λ κs h.
    rw (c.rows-rows_a.ensures.cardinality _ c.requires.planned.rows) (rows_bounds c.args.memo.now.query c.args.pair.a)

pub best_split-word-requires-clause-right : goal.best_split-word-requires-clause-right
best_split-word-requires-clause-right g c = λ κs h.
    rw (c.rows-rows_b.ensures.cardinality _ c.requires.planned.rows) (rows_bounds c.args.memo.now.query c.args.pair.b)

pub best_split-word-requires-clause-out : goal.best_split-word-requires-clause-out
best_split-word-requires-clause-out g c = λ κs h.
    rw (c.rows-rows.ensures.cardinality _ c.requires.planned.rows) (rows_bounds c.args.memo.now.query c.union-union.result)

pub offer-requires-clause-some : goal.offer-requires-clause-some
offer-requires-clause-some g c = λ κs h. rw c.union-union.ensures ((pair_of_query _ _ c.requires.planned.query (c.requires.planned.within _ c.requires.listed)).some_union)

pub offer-requires-clause-within : goal.offer-requires-clause-within
offer-requires-clause-within g c = λ κs h. rw c.union-union.ensures ((pair_of_query _ _ c.requires.planned.query (c.requires.planned.within _ c.requires.listed)).both)

pub offer-requires-clause-word : goal.offer-requires-clause-word
offer-requires-clause-word g c = λ κs h.
    let model = g.M.CostModel.KIND in
    let q = c.args.memo.now.query in
    let is = word_is model q c.args.pair c.load-first.result c.load-second.result _ _ _ _ c.best_split-word.ensures
    (c.rows-rows_a.ensures.cardinality q c.requires.planned.rows) (c.rows-rows_b.ensures.cardinality q c.requires.planned.rows)
    (c.rows-rows.ensures.cardinality q c.requires.planned.rows ∙ ap (rows q) c.union-union.ensures) in
    let sound = sound_pair model q c.args.memo.now.pairs c.requires.planned.query c.requires.planned.within
    c.args.pair c.load-first.result c.load-second.result c.requires.listed c.load-first.ensures.made c.load-second.ensures.made in
    let F : ℕ → Type 0 = λ w. (w ≡ EMPTY) ⊎ Made model q c.args.memo.now.pairs (union c.args.pair.a c.args.pair.b) w in
    let G : ℕ → Type 0 = λ s. (c.best_split-word.result ≡ EMPTY) ⊎ Made model q c.args.memo.now.pairs s c.best_split-word.result in
    subst G (sym c.union-union.ensures) (subst F (sym is) sound)

pub returns : goal.returns
returns g c =
    let model = g.M.CostModel.KIND in
    let q = c.args.memo.now.query in
    let v : View = c.args.seat.now.view in
    let la : Least model v.query v.pairs c.args.pair.a c.load-first.result = rw (c.requires.seat.query, c.requires.seat.pairs) (c.load-first.ensures.settled c.requires.first) in
    let S : View → Type 0 = λ u. Settled model u c.args.pair.b in
    let still : Settled model c.load-first.new.seat.view c.args.pair.b =
    subst S (sym c.load-first.ensures.view) (stays_settled model v (with_bound v c.args.pair.a c.load-first.result) c.args.pair.b refl refl (contains_tail _ _) c.requires.second) in
    let lb : Least model v.query v.pairs c.args.pair.b c.load-second.result = rw (c.requires.seat.query, c.requires.seat.pairs) (c.load-second.ensures.settled still) in
    let is = word_is model q c.args.pair c.load-first.result c.load-second.result _ _ _ _ c.best_split-word.ensures
    (c.rows-rows_a.ensures.cardinality q c.requires.planned.rows) (c.rows-rows_b.ensures.cardinality q c.requires.planned.rows)
    (c.rows-rows.ensures.cardinality q c.requires.planned.rows ∙ ap (rows q) c.union-union.ensures) in
    let same : c.best_split-word.result ≡ pair_word model v.query c.args.pair c.load-first.result c.load-second.result = rw c.requires.seat.query is in
    let view : c.offer.new.seat.view ≡ with_offer c.load-second.new.seat.view (union c.args.pair.a c.args.pair.b) c.best_split-word.result =
    c.offer.ensures.view ∙ ap (λ (s : ℕ). with_offer c.load-second.new.seat.view s c.best_split-word.result) c.union-union.ensures in
    worked_pair model c.args.pair c.args.seat.now c.load-first.new.seat c.load-second.new.seat c.offer.new.seat c.load-first.result c.load-second.result c.best_split-word.result
    c.load-first.ensures.table c.load-second.ensures.table c.offer.ensures.table c.load-first.ensures.view c.load-second.ensures.view view la lb same
