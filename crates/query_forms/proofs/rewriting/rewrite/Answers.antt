use Rattle.std.proofs.Common.{◌≡◌, ◌∙◌, ◌++◌, Ok, ap, sym}
use Rattle.json.specs.Print.{print}
use Rattle.serde_json.specs.Written.{compact_text}
use Rattle.serde_json.proofs.Texts.{print-outline}
use Rattle.query_json.specs.Walk.Tree.{seen}
use Rattle.query_forms.specs.Forms.{rewritten_file}
use Rattle.query_forms.specs.Rewriting.{rewritten_text}
use Rattle.query_forms.specs.Tokens.{tokens_of}
use Rattle.query_forms.proofs.TextLaws.{fault_of_text, handed_on, holds_the_same, rewrites, texts_stay}
use Rattle.query_forms.proofs.rewriting.rewrite.Goals as goal

pub returns-clause-text : goal.returns-clause-text
returns-clause-text c =
    let d = seen c.in_ok-root.root in
    let written : c.into_bytes.result.items ≡ compact_text (rewritten_file d) =
    c.into_bytes.ensures
    ∙ ap print (c.in_ok-write_file.ensures ∙ ap (λ ts. ts ++ tokens_of (rewritten_file d)) c.in_ok-out.ensures)
    ∙ print-outline (rewritten_file d) in
    (rewrites c.args.bytes.now _ d c.in_ok-root.ensures c.in_ok-read_node.ensures).1 ∙ ap Ok (sym written)

pub returns-clause-same : goal.returns-clause-same
returns-clause-same c =
    holds_the_same c.args.bytes.now c.into_bytes.result.items _ (seen c.in_ok-root.root) c.in_ok-root.ensures c.in_ok-read_node.ensures (returns-clause-text c)

pub returns-clause-again : goal.returns-clause-again
returns-clause-again c = texts_stay c.args.bytes.now c.into_bytes.result.items (returns-clause-text c)

pub returns-in_err-read_node-clause-text : goal.returns-in_err-read_node-clause-text
returns-in_err-read_node-clause-text c =
    handed_on (λ text. text.items) c.from_residual-in_err-read_node.result c.in_err-read_node.field-0.0 (rewritten_text c.args.bytes.now) c.from_residual-in_err-read_node.ensures.1
    (fault_of_text c.args.bytes.now (seen c.in_ok-root.root) c.in_err-read_node.field-0.0 c.in_ok-root.ensures c.in_err-read_node.ensures)
