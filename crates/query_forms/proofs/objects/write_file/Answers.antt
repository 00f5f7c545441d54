use Rattle.std.proofs.Common.{refl}
use Rattle.std.specs.Prelude.{codes, Some}
use Rattle.serde_json.specs.Data.{Data, number, unsigned}
use Rattle.serde_json.specs.Find.{get}
use Rattle.query_forms.specs.Forms.{list_in, rewritten_file, rewritten_query, rewritten_table}
use Rattle.query_forms.proofs.WrittenTokens.{three_members}
use Rattle.query_forms.proofs.objects.write_file.Goals as goal

pub returns : goal.returns
unfolding rewritten_file
returns g c =
    let d : Data = g.N.Node.as_data c.args.node.now in
    three_members c.args.out.now c.begin_object.new.self (codes "queries") (codes "tables") (list_in rewritten_query (get (codes "queries") d)) (list_in rewritten_table (get (codes "tables") d)) c.write_list.new.out c.write_list-2.new.out c.in_ok-begin_object.ensures c.in_ok-write_list.ensures c.in_ok-write_list-2.ensures refl (codes "version") (Some (number (unsigned 2))) c.write_version.new.out c.in_ok-write_version.ensures refl refl c.end_object.new.self c.in_ok-end_object.ensures
