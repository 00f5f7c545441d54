use Rattle.std.proofs.Common.{refl}
use Rattle.std.specs.Prelude.{codes}
use Rattle.serde_json.specs.Data.{Data}
use Rattle.serde_json.specs.Find.{get}
use Rattle.query_forms.specs.Forms.{list_in, rewritten_join, rewritten_query, rewritten_relation, text_in}
use Rattle.query_forms.proofs.WrittenTokens.{three_members}
use Rattle.query_forms.proofs.objects.QueryObject.write.Goals as goal

pub returns : goal.returns
unfolding rewritten_query
returns g c =
    let d : Data = g.N.Node.as_data c.args.node.now in
    three_members c.args.out.now c.begin_object.new.self (codes "joins") (codes "name") (list_in rewritten_join (get (codes "joins") d)) (text_in (get (codes "name") d)) c.write_list.new.out c.write_text.new.out c.in_ok-begin_object.ensures c.in_ok-write_list.ensures c.in_ok-write_text.ensures refl (codes "relations") (list_in rewritten_relation (get (codes "relations") d)) c.write_list-2.new.out c.in_ok-write_list-2.ensures refl refl c.end_object.new.self c.in_ok-end_object.ensures
