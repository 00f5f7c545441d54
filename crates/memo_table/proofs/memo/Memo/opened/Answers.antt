use Rattle.std.proofs.Common.{rules, arith, ℕ, ◌≡◌, ◌≤◌, ◌+◌, ◌^◌, [], List, Contains, length, subst, ap, ◌∙◌}
use Rattle.std.proofs.Math.Pow.{pow_mono}
use Rattle.std.proofs.lemmas.Nat.{pow_pos}
use Rattle.dpe_base.specs.declared.TheConstants.{N_MAX}
use Rattle.dpe_base.specs.Queries.{relations}
use Rattle.memo_table.specs.Seats.{TableId}
use Rattle.dpe_base.proofs.Members.{contains_none}
use Rattle.join_graph.specs.Graphs.{JoinGraph}
use Rattle.memo_table.proofs.MemoWords.{opening_width}
use Rattle.memo_table.proofs.memo.Memo.opened.Goals as goal

pub invariant_of-seat : goal.invariant_of-seat
invariant_of-seat g c =
    let view : c.in_ok-table.seat.me.0.bounds ≡ [] = search rules in
    let table = c.in_ok-table.ensures in
    let n : c.n.result ≡ relations c.args.key.now.me.0.query = c.n.ensures.value ∙ ap (λ (h : JoinGraph). h.n) c.requires.graph in
    let same : relations c.in_ok-table.seat.me.0.query ≡ c.n.result = search rules in
    let words : c.in_ok-table.table.shared.table_id.words ≡ 2 ^ c.n.result + 1 = table.0 ∙ (ap (λ (l : List ℕ). length l) (c.as_slice.ensures.value ∙ c.in_ok-row.ensures) ∙ opening_width c.n.result) in
    let width : c.in_ok-table.seat.table_id.words ≡ 2 ^ relations c.in_ok-table.seat.me.0.query + 1 = rw same (ap (λ (t : TableId). t.words) table.2 ∙ words) in
    let few : relations c.in_ok-table.seat.me.0.query ≤ N_MAX = search rules in
    let small : 2 ^ relations c.in_ok-table.seat.me.0.query ≤ 2 ^ N_MAX = pow_mono few in record {
      no_slot = search rules;
      weight = search rules;
      width = width;
      small = omega arith;
      bounds = λ b has. let F : List _ → Type 0 = λ l. Contains l b in absurd (contains_none b (subst F view has));
    }

pub without_counter-requires-clause-some : goal.without_counter-requires-clause-some
without_counter-requires-clause-some g c =
    omega (arith, ap (λ (l : List ℕ). length l) c.in_ok-row.ensures, opening_width c.n.result, pow_pos c.n.result)
