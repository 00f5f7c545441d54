-- A certificate file is read as it was written.
use Rattle.std.proofs.Common.{◌≡◌, ◌∙◌, ◌≤◌, ℕ, List, [], ◌∷◌, Bool, true, false, cond, map, All, Option, Some, None, Result, Ok, Err, refl, ap}
use Rattle.std.specs.Prelude.{if◌then◌else◌, option_map}
use Rattle.std.specs.Str.{IsUtf8}
use Rattle.std.proofs.lemmas.Bool.{le-leb}
use Rattle.std.proofs.lemmas.List.Elements.{All-head, All-tail}
use Rattle.serde_json.specs.Data.{Data, depth}
use Rattle.serde_json.specs.Read.{max_depth, read}
use Rattle.serde_json.specs.View.{items_of}
use Rattle.cost_model.specs.declared.model.ModelKind.{ModelKind}
use Rattle.cost_model.specs.declared.model.ModelKind.TheVariants.{Cout, Ops}
use Rattle.join_tree.specs.Trees.{JoinTree, leaf, join}
use Rattle.query_json.specs.Answer.{◌>>=◌}
use Rattle.query_json.specs.Entries.{entries_of_value}
use Rattle.query_json.specs.Walk.{as_whole, json_of}
use Rattle.plan_report.specs.declared.certs.fault.CertFault.{CertFault}
use Rattle.plan_report.specs.declared.certs.fault.CertFault.TheVariants.{BadCertificates, NotJson}
use Rattle.plan_report.specs.Certs.{IsReadable, ReadsBack, all_suit, certs_read, file_written, model_named}
use Rattle.plan_report.specs.Certs.Faults.{of_workload, or_bad, or_fault}
use Rattle.plan_report.specs.Certs.Members.{Certificate, bound_read, certificate_read, each_item, member_read, member_written}
use Rattle.plan_report.specs.Certs.Plans.{HasSmallNumbers, most_operator, most_relation, plan_read, plan_written}
use Rattle.plan_report.specs.Json.{whole}
use Rattle.plan_report.specs.Names.{model_name}
use Rattle.plan_report.proofs.CertTexts.{json_text}

whole_back : (limit n : ℕ) → n ≤ limit → as_whole limit (whole n) ≡ Some n
whole_back limit n h = ap (λ b. cond b (Some n) None) (le-leb n limit h)

plan_back : (t : JoinTree) → HasSmallNumbers t → plan_read (plan_written t) ≡ Ok t
plan_back (leaf r) h = ap (λ o. or_bad (option_map leaf o)) (whole_back most_relation r h)
plan_back (join op left right) h =
    ap (λ o. or_bad o >>= λ n. plan_read (plan_written left) >>= λ l. plan_read (plan_written right) >>= λ r. Ok (join n l r))
    (whole_back most_operator op h.0)
    ∙ ap (λ o. o >>= λ l. plan_read (plan_written right) >>= λ r. Ok (join op l r)) (plan_back left h.1)
    ∙ ap (λ o. o >>= λ r. Ok (join op left r)) (plan_back right h.2)

bounds_back : (bounds : List ℕ) → each_item bound_read (items_of (map whole bounds)) ≡ Ok bounds
bounds_back [] = refl
bounds_back (b ∷ bs) = ap (λ o. o >>= λ xs. Ok (b ∷ xs)) (bounds_back bs)

certificate_back : (c : Certificate) → HasSmallNumbers c.tree → certificate_read (member_written (Some c)) ≡ Ok c
unfolding certificate_read
certificate_back c h =
    ap (λ o. o >>= λ bounds. plan_read (plan_written c.tree) >>= λ tree. Ok (record { tree = tree; bounds = bounds })) (bounds_back c.bounds)
    ∙ ap (λ o. o >>= λ tree. Ok (record { tree = tree; bounds = c.bounds })) (plan_back c.tree h)

member_back : (m : Option Certificate) → IsReadable m → member_read (member_written m) ≡ Ok m
member_back None h = refl
member_back (Some c) h = ap (λ o. o >>= λ c. Ok (Some c)) (certificate_back c h)

members_back : (ms : List (Option Certificate)) → All IsReadable ms → each_item member_read (items_of (map member_written ms)) ≡ Ok ms
members_back [] h = refl
members_back (m ∷ ms) h =
    ap (λ o. o >>= λ x. each_item member_read (items_of (map member_written ms)) >>= λ xs. Ok (x ∷ xs))
    (member_back m (All-head IsReadable m ms h))
    ∙ ap (λ o. o >>= λ xs. Ok (m ∷ xs)) (members_back ms (All-tail IsReadable m ms h))

model_back : (model : ModelKind) → model_named (model_name model) ≡ Some model
model_back Ops = refl
model_back Cout = refl

suited : {X F : Type 0} (b : Bool) (x : X) (fault : F) → b ≡ true → (if b then Ok x else Err fault) ≡ Ok x
suited true x fault h = refl
suited false x fault h = absurd cc

after : {X Y : Type 0} (r : Result X CertFault) (x : X) (rest : X → Result Y CertFault) (y : Result Y CertFault) → r ≡ Ok x → rest x ≡ y
    → (r >>= rest) ≡ y
after r x rest y here later = ap (λ o. o >>= rest) here ∙ later

-- the text that reads as the file
pub text_back : (model : ModelKind) (workload : Data) (certs : List (Option Certificate)) (text : List ℕ) → IsUtf8 text
    → (depth (file_written model workload certs) ≤ max_depth → read text ≡ Some (file_written model workload certs))
    → ReadsBack model workload certs text
unfolding certs_read
text_back model workload certs text utf8 back entries holds suit small shallow =
    after (or_fault NotJson (json_of text)) (file_written model workload certs) _ _
    (ap (or_fault NotJson) (json_text text utf8 ∙ back shallow))
    (after (or_bad (model_named (model_name model))) model _ _ (ap or_bad (model_back model))
    (after (of_workload (entries_of_value workload)) entries _ _ (ap of_workload holds)
    (after (each_item member_read (items_of (map member_written certs))) certs _ _ (members_back certs small)
    (suited (all_suit entries certs) (record { model = model; workload = entries; certs = certs }) BadCertificates suit))))
