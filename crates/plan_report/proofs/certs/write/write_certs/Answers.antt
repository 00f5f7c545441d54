use Rattle.std.proofs.Common.{◌≡◌, ◌∙◌, ◌≤◌, Some, false, ap, subst, sym}
use Rattle.serde_json.specs.Data.{Data, depth}
use Rattle.serde_json.specs.Read.{max_depth, read}
use Rattle.serde_json.specs.View.{view}
use Rattle.serde_json.specs.Written.{compact_text, has_float}
use Rattle.plan_report.specs.Certs.Members.{certificates_of}
use Rattle.plan_report.proofs.CertBack.{text_back}
use Rattle.plan_report.proofs.CertPlain.{file_plain}
use Rattle.plan_report.proofs.certs.write.write_certs.Goals as goal

pub returns-clause-text : goal.returns-clause-text
returns-clause-text c =
    let is = c.in_ok-file.ensures in
    let plain : has_float (view c.in_ok-file.file) ≡ false =
    subst (λ (d : Data). has_float d ≡ false) (sym is)
    (file_plain c.args.model (view c.args.workload) (certificates_of c.args.certs.now) c.requires) in
    c.in_ok-to_vec.ensures.text plain ∙ ap compact_text is

pub returns-clause-read : goal.returns-clause-read
returns-clause-read c =
    let is = c.in_ok-file.ensures in
    text_back c.args.model (view c.args.workload) (certificates_of c.args.certs.now) c.in_ok-to_vec.field-0.items c.in_ok-to_vec.ensures.utf8
    (subst (λ (d : Data). depth d ≤ max_depth → read c.in_ok-to_vec.field-0.items ≡ Some d) is c.in_ok-to_vec.ensures.reads_back)
