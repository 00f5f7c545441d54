use Rattle.std.proofs.Common.{refl}
use Rattle.std.specs.Prelude.{codes}
use Rattle.serde_json.specs.Data.{Data}
use Rattle.serde_json.specs.Find.{get}
use Rattle.query_forms.specs.Forms.{count_in, list_in, rewritten_column, rewritten_table, text_in}
use Rattle.query_forms.proofs.WrittenTokens.{three_members}
use Rattle.query_forms.proofs.objects.TableObject.write.Goals as goal

pub returns : goal.returns
unfolding rewritten_table
returns g c =
    let d : Data = g.N.Node.as_data c.args.node.now in
    three_members c.args.out.now c.begin_object.new.self (codes "columns") (codes "name") (list_in rewritten_column (get (codes "columns") d)) (text_in (get (codes "name") d)) c.write_list.new.out c.write_text.new.out c.in_ok-begin_object.ensures c.in_ok-write_list.ensures c.in_ok-write_text.ensures refl (codes "rows") (count_in (get (codes "rows") d)) c.write_count.new.out c.in_ok-write_count.ensures refl refl c.end_object.new.self c.in_ok-end_object.ensures
