use Rattle.std.proofs.Common.{rules, arith, ◌≡◌, ◌<◌, ◌^◌, ℕ, ◌+◌, List, length, subst, sym, ap, ◌∙◌, get_or}
use Rattle.std.proofs.lemmas.List.{take_at}
use Rattle.std.specs.Mem.Slots.{slots_items, slots_counts}
use Rattle.dpe_base.specs.Queries.{relations}
use Rattle.dpe_base.specs.declared.TheConstants.{WEIGHT}
use Rattle.memo_table.specs.Finishing.{IsLeastBound, AreEmpty}
use Rattle.memo_table.specs.Views.{EachOnceBelow}
use Rattle.memo_table.specs.Rule.{memo_word, counter}
use Rattle.memo_table.proofs.Ending.{ends, ends_drawn, copied, copied_counter, copied_or_connected}
use Rattle.memo_table.proofs.memo.Memo.finish.Goals as goal

pub copy_words-requires-clause-others : goal.copy_words-requires-clause-others
copy_words-requires-clause-others g c =
    let f = c.close_with-closed.ensures.values.2 in
    let n : ℕ = relations c.self.inside.table.shared.key.me.0.query in
    let empty : AreEmpty n c.deref_mut.result.now = subst (AreEmpty n) (sym c.deref_mut.ensures.value) c.self.invariant.2 in
    let words : List ℕ = slots_items c.close_with-closed.result.words in
    let size : length words ≡ length c.deref_mut.result.now + 1 =
    omega (arith, (slots_counts c.close_with-closed.result.words).0, c.close_with-closed.ensures.counts.0, c.self.invariant.0, empty.sized) in
    copied_or_connected _ _ f.0 words c.deref_mut.result.now n c.self.inside.graph f.1.0 f.2 empty size c.self.invariant.3

pub returns-clause-words : goal.returns-clause-words
returns-clause-words g c = λ s h.
    let f = c.close_with-closed.ensures.values.2 in
    let all : c.seat.inside.seat.me.0.weight ≡ WEIGHT = search rules in
    let row : List ℕ = c.copy_words.new.row in
    let long : s < length row =
    let inside : s < 2 ^ relations c.self.inside.table.shared.key.me.0.query = search rules in
    omega (arith, inside, c.copy_words.ensures.size, ap length c.deref_mut.ensures.value, c.self.invariant.2.sized) in
    let e = ends _ _ f.0 _ _ f.1.0 f.1.1 all s in
    let is : memo_word f.0.words s ≡ get_or row s 0 =
    ap (λ ws. memo_word ws s) f.2 ∙ copied (slots_items c.close_with-closed.result.words) row s long (c.copy_words.ensures.copied s long) in
    let kept = take_at row _ c.self.inside.row.len (c.copy_words.ensures.size ∙ c.deref_mut.ensures.len) in
    let F : ℕ → Type 0 = IsLeastBound c.seat.inside.seat.me.0.bounds s in
    rw (← c.seat.view_is) (subst F (is ∙ sym (ap (λ (r : List ℕ). get_or r s 0) kept)) e)

pub returns-clause-drawn : goal.returns-clause-drawn
returns-clause-drawn g c =
    let f = c.close_with-closed.ensures.values.2 in
    let all : c.seat.inside.seat.me.0.weight ≡ WEIGHT = search rules in
    let e = ends_drawn _ _ f.0 _ _ f.1.0 f.1.1 all in
    let is : counter f.0.words ≡ c.word-drawn.result = ap counter f.2 ∙ copied_counter (slots_items c.close_with-closed.result.words) _ c.word-drawn.ensures in
    let F : ℕ → Type 0 = λ n. EachOnceBelow n c.seat.inside.seat.me.0.tickets in
    rw (← c.seat.view_is) (subst F is e)

pub returns-clause-made : goal.returns-clause-made
returns-clause-made g c = rw (← c.seat.view_is) c.seat.invariant.bounds
