use Rattle.std.proofs.Common.{refl, ◌++◌, ◌∙◌, ap, sym}
use Rattle.std.specs.Prelude.{codes}
use Rattle.serde_json.specs.Data.{Data, object}
use Rattle.serde_json.specs.Find.{get}
use Rattle.query_forms.specs.Forms.{count_in, rewritten_column, text_in}
use Rattle.query_forms.specs.Tokens.{tokens_of}
use Rattle.query_forms.proofs.WrittenTokens.{two_members, swapped}
use Rattle.query_forms.proofs.objects.ColumnObject.write.Goals as goal

pub returns : goal.returns
unfolding rewritten_column
returns g c =
    let d : Data = g.N.Node.as_data c.args.node.now in
    two_members c.args.out.now c.begin_object.new.self (codes "distinct") (codes "name") (count_in (get (codes "distinct") d)) (text_in (get (codes "name") d)) c.write_count.new.out c.write_text.new.out c.in_ok-begin_object.ensures c.in_ok-write_count.ensures c.in_ok-write_text.ensures refl c.end_object.new.self c.in_ok-end_object.ensures
    ∙ ap (λ ms. c.args.out.now ++ tokens_of (object ms)) (sym (swapped (codes "distinct") (codes "name") (count_in (get (codes "distinct") d)) (text_in (get (codes "name") d)) refl refl))
