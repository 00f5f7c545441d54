use Rattle.std.proofs.Common.{◌≡◌, ◌∙◌, ◌+◌, ◌-◌, ◌<◌, cond, drop, length, sym, ap, Some, arith}
use Rattle.std.specs.Str.{bytes_eq}
use Rattle.std.proofs.lemmas.Map.Text.{hash_map_updates_str}
use Rattle.query_json.specs.Columns.{distinct_in}
use Rattle.query_json.proofs.Firsts.{column_in_front}
use Rattle.query_json.proofs.tables.known_table.column_counts.Goals as goal

pub left-preserved : goal.left-preserved
left-preserved c =
    let x = c.index-columns-left.result in
    let i = c.left.left - 1 in
    let cs = c.args.columns.now in
    let text = c.text-name.result.now in
    let named : text ≡ x.name = c.text-name.ensures in
    let more : i + 1 ≡ c.left.left = omega arith in
    let here : i < length cs = omega (arith, c.left.invariant.within) in record {
      within = omega (arith, c.left.invariant.within);
      found = λ q.
          hash_map_updates_str text c.left.counts c.insert.new.self _ c.in_ok-insert.ensures.updates q
          ∙ ap (λ o. cond (bytes_eq text q) (Some x.distinct) o) (c.left.invariant.found q ∙ sym (ap (λ k. distinct_in q (drop k cs)) more))
          ∙ rw named (column_in_front q cs i x here c.index-columns-left.is);
    }
