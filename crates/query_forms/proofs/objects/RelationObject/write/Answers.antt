use Rattle.std.proofs.Common.{refl}
use Rattle.std.specs.Prelude.{codes}
use Rattle.serde_json.specs.Data.{Data}
use Rattle.serde_json.specs.Find.{get}
use Rattle.query_forms.specs.Forms.{fraction_in, rewritten_relation, text_in}
use Rattle.query_forms.proofs.WrittenTokens.{three_members}
use Rattle.query_forms.proofs.objects.RelationObject.write.Goals as goal

pub returns : goal.returns
unfolding rewritten_relation
returns g c =
    let d : Data = g.N.Node.as_data c.args.node.now in
    three_members c.args.out.now c.begin_object.new.self (codes "alias") (codes "filter") (text_in (get (codes "alias") d)) (fraction_in (get (codes "filter") d)) c.write_text.new.out c.write_fraction.new.out c.in_ok-begin_object.ensures c.in_ok-write_text.ensures c.in_ok-write_fraction.ensures refl (codes "table") (text_in (get (codes "table") d)) c.write_text-2.new.out c.in_ok-write_text-2.ensures refl refl c.end_object.new.self c.in_ok-end_object.ensures
