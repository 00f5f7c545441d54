use Rattle.std.proofs.Common.{◌≡◌, ◌<◌, ap, sym, ◌∙◌, subst}
use Rattle.dpe_base.specs.Queries.{JoinQuery, relations}
use Rattle.reopt.specs.Keeping.{KeptWords, AreBestWords, HasChanged}
use Rattle.reopt.proofs.Changes.{relations_stay, is_back, others_kept, words_again}
use Rattle.reopt.proofs.kept.Kept.change.Goals as goal

pub replan-requires-clause-relation : goal.replan-requires-clause-relation
replan-requires-clause-relation g c κs within =
    let known : c.args.r < relations c.self.inside.query = subst (λ (k : KeptWords). c.args.r < relations k.query) (sym c.self.view_is) c.requires.relation in
    rw (relations_stay c.self.inside.query c.set_rows.new.self c.args.r c.args.rows c.set_rows.ensures.value) known

pub replan-requires-clause-kept : goal.replan-requires-clause-kept
replan-requires-clause-kept g c κs within =
    others_kept c.self.inside.query c.set_rows.new.self c.args.r c.args.rows c.set_rows.ensures.value g.M.CostModel.KIND c.self.inside.words.row c.self.invariant

pub invariant_of-self : goal.invariant_of-self
invariant_of-self g c =
    words_again c.self.inside.query c.set_rows.new.self c.args.r c.args.rows c.set_rows.ensures.value g.M.CostModel.KIND c.self.inside.words.row c.self.invariant c.args.buffer c.args.workers c.in-Ok.field-0 c.in-Ok.ensures

pub returns-in-Ok-clause-changed : goal.returns-in-Ok-clause-changed
returns-in-Ok-clause-changed g c =
    let a = c.in-Ok.ensures in
    let F : KeptWords → Type 0 = λ k.
    HasChanged g.M.CostModel.KIND record { r = c.args.r; rows = c.args.rows; buffer = c.args.buffer; workers = c.args.workers } k record { query = c.set_rows.new.self; words = c.in-Ok.field-0.words } c.in-Ok.field-0.pairs in
    subst F c.self.view_is
    record {
      query = c.set_rows.ensures.value;
      words = words_again c.self.inside.query c.set_rows.new.self c.args.r c.args.rows c.set_rows.ensures.value g.M.CostModel.KIND c.self.inside.words.row c.self.invariant c.args.buffer c.args.workers c.in-Ok.field-0 a;
      listed = a.listed;
      count = a.count;
      drawn = a.drawn;
    }

pub set_rows-requires-in-Err-clause-known : goal.set_rows-requires-in-Err-clause-known
set_rows-requires-in-Err-clause-known g c =
    let known : c.args.r < relations c.self.inside.query = subst (λ (k : KeptWords). c.args.r < relations k.query) (sym c.self.view_is) c.requires.relation in
    rw (relations_stay c.self.inside.query c.set_rows.new.self c.args.r c.args.rows c.set_rows.ensures.value) known

pub invariant_of-self-in-Err : goal.invariant_of-self-in-Err
invariant_of-self-in-Err g c =
    let known : c.args.r < relations c.self.inside.query = subst (λ (k : KeptWords). c.args.r < relations k.query) (sym c.self.view_is) c.requires.relation in
    let back : c.set_rows-in-Err.new.self ≡ c.self.inside.query = is_back c.self.inside.query c.set_rows.new.self c.args.r c.args.rows c.set_rows.ensures.value c.set_rows-in-Err.new.self c.rels.result.now _ known c.rels.ensures.value c.set_rows-in-Err.ensures.value in
    subst (λ (q : JoinQuery). AreBestWords g.M.CostModel.KIND q c.self.inside.words.row) (sym back) c.self.invariant

pub returns-in-Err-clause-unchanged : goal.returns-in-Err-clause-unchanged
returns-in-Err-clause-unchanged g c =
    let known : c.args.r < relations c.self.inside.query = subst (λ (k : KeptWords). c.args.r < relations k.query) (sym c.self.view_is) c.requires.relation in
    let back : c.set_rows-in-Err.new.self ≡ c.self.inside.query = is_back c.self.inside.query c.set_rows.new.self c.args.r c.args.rows c.set_rows.ensures.value c.set_rows-in-Err.new.self c.rels.result.now _ known c.rels.ensures.value c.set_rows-in-Err.ensures.value in
    ap (λ (q : JoinQuery). record { query = q; words = c.self.inside.words }) back ∙ c.self.view_is
