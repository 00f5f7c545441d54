use Rattle.std.proofs.Common.{◌≡◌, ◌∙◌, ◌+◌, ◌∷◌, ◌++◌, [], take, refl, sym, ap}
use Rattle.std.proofs.lemmas.List.{map_push, take_more}
use Rattle.std.proofs.lemmas.List.Elements.{All-push}
use Rattle.query_json.specs.Sound.{IsEntrySound}
use Rattle.query_json.proofs.query.entries.entries_of.Goals as goal

pub loop-query-preserved : goal.loop-query-preserved
loop-query-preserved c =
    let i = c.loop-query.query-index in
    let qs = c.args.queries.now in
    let x = c.query-item.result in
    let more : take (i + 1) qs ≡ take i qs ++ x ∷ [] = take_more qs i x c.loop-query-test.true ∙ ap (λ y. take i qs ++ y ∷ []) (sym c.query-item.is) in record {
      made = rw (c.in_ok-push.ensures.ok, more, map_push, c.loop-query.invariant.made, c.in_ok-one.ensures.value) refl;
      sound = rw c.in_ok-push.ensures.ok (All-push IsEntrySound c.loop-query.entries c.in_ok-one.one c.loop-query.invariant.sound c.in_ok-one.ensures.sound);
    }
