use Rattle.std.proofs.Common.{refl}
use Rattle.std.specs.Prelude.{codes}
use Rattle.serde_json.specs.Data.{Data}
use Rattle.serde_json.specs.Find.{get}
use Rattle.query_forms.specs.Forms.{fraction_in, rewritten_join, text_in}
use Rattle.query_forms.proofs.WrittenTokens.{five_members}
use Rattle.query_forms.proofs.objects.JoinObject.write.Goals as goal

pub returns : goal.returns
unfolding rewritten_join
returns g c =
    let d : Data = g.N.Node.as_data c.args.node.now in
    five_members c.args.out.now c.begin_object.new.self (codes "left") (codes "left_column") (text_in (get (codes "left") d)) (text_in (get (codes "left_column") d)) c.write_text.new.out c.write_text-2.new.out c.in_ok-begin_object.ensures c.in_ok-write_text.ensures c.in_ok-write_text-2.ensures refl (codes "right") (text_in (get (codes "right") d)) c.write_text-3.new.out c.in_ok-write_text-3.ensures refl refl (codes "right_column") (text_in (get (codes "right_column") d)) c.write_text-4.new.out c.in_ok-write_text-4.ensures refl refl refl (codes "selectivity") (fraction_in (get (codes "selectivity") d)) c.write_fraction.new.out c.in_ok-write_fraction.ensures refl refl refl refl c.end_object.new.self c.in_ok-end_object.ensures
