-- A number and a model have one summary.
use Rattle.std.proofs.Common.{◌≡◌, ◌≤◌, ℕ, true, false, ◌&&◌, Bool, refl, sym, ◌∙◌, ap, subst, arith, List, [], ◌∷◌, length, Option, Some, None, Result, Ok}
use Rattle.std.specs.Prelude.{◌↔◌, All, Contains, nat_eq}
use Rattle.std.specs.Bool.{Decides}
use Rattle.std.proofs.lemmas.Bool.Decides.{nat_tests}
use Rattle.std.specs.Cmp.{decided}
use Rattle.std.proofs.lemmas.List.Elements.{All-head, All-tail, All-cons, All-nil}
use Rattle.std.proofs.lemmas.Map.Made.{is_member-Decides, length-le_from_is_member, IsDistinct-from_AllPairs}
use Rattle.dpe_base.specs.declared.pair.Pair.{Pair}
use Rattle.dpe_base.specs.Queries.{JoinQuery, relations, IsQuery}
use Rattle.dpe_base.specs.Sets.{full}
use Rattle.join_graph.specs.Graphs.{JoinGraph, Pairs, graph_of}
use Rattle.join_tree.specs.Trees.{cost}
use Rattle.join_tree.proofs.OnePlan.{plan_same}
use Rattle.pair_stream.specs.Orders.{Complete, Once}
use Rattle.plan_space.specs.declared.class.Class.{Class}
use Rattle.query_json.specs.declared.entry.Entry.{Entry}
use Rattle.query_json.specs.declared.entry.Part.{Part}
use Rattle.query_json.specs.declared.entry.Part.TheVariants.{Accepted, Refused}
use Rattle.query_json.specs.declared.fault.FileFault.{FileFault}
use Rattle.query_json.specs.Entries.{entries_of}
use Rattle.workload_gen.specs.Values.{workload_of}
use Rattle.query_json.specs.Sound.{IsEntrySound, IsPartSound}
use Rattle.dpe_top.specs.declared.modes.sample.Share.{Share}
use Rattle.planner.specs.Plans.{IsPairCount, IsPairCountIn}
use Rattle.dpe_top.proofs.SoundFiles.{sound_entries}
use Rattle.dpe_top.specs.Modes.Sample.{IsSample, IsShare, AreShares, IsSummary, planned_queries, totals_of, summary_line}

pair_eq : Pair → Pair → Bool
pair_eq p q = nat_eq p.a q.a && nat_eq p.b q.b

same_pair : (p q : Pair) → p.a ≡ q.a → p.b ≡ q.b → p ≡ q
same_pair p q e f = ap (λ (x : ℕ). record { a = x; b = p.b }) e ∙ ap (λ (y : ℕ). record { a = q.a; b = y }) f

pair_decides : (p q : Pair) → Decides (pair_eq p q) (p ≡ q)
unfolding pair_eq
pair_decides p q = (λ e. same_pair p q (first (nat_eq p.a q.a) refl e) (second (nat_eq p.a q.a) (nat_eq p.b q.b) refl e), λ e. subst (λ (x : Pair). pair_eq p x ≡ true) e (itself p))
  where
    first : (x : Bool) → nat_eq p.a q.a ≡ x → (x && nat_eq p.b q.b) ≡ true → p.a ≡ q.a
    first true e t = grind (arith, nat_tests)
    first false e t = absurd cc

    second : (x y : Bool) → nat_eq p.b q.b ≡ y → (x && y) ≡ true → p.b ≡ q.b
    second true true e t = grind (arith, nat_tests)
    second true false e t = absurd cc
    second false y e t = absurd cc

    itself : (p : Pair) → (nat_eq p.a p.a && nat_eq p.b p.b) ≡ true
    itself p = grind (arith, nat_tests)

no_longer : (IsMember : Pair → Type 0) (first second : List Pair) → Once first → ((p : Pair) → Contains first p → IsMember p)
    → ((p : Pair) → IsMember p → Contains second p) → length first ≤ length second
no_longer IsMember first second once within has =
    length-le_from_is_member (decided pair_eq pair_decides) first second (IsDistinct-from_AllPairs pair_decides first once)
    (λ p m. (is_member-Decides pair_decides second p).1 (has p (within p ((is_member-Decides pair_decides first p).0 m))))

-- two lists that have the same members, each at one place, are as long
same_length : (IsMember : Pair → Type 0) (first second : List Pair) → Once first → Once second
    → ((p : Pair) → Contains first p ↔ IsMember p) → ((p : Pair) → Contains second p ↔ IsMember p) → length first ≡ length second
same_length IsMember first second once also a b =
    omega (
      arith,
      no_longer IsMember first second once (λ p. (a p).0) (λ p. (b p).1),
      no_longer IsMember second first also (λ p. (b p).0) (λ p. (a p).1),
    )

pub one_count : (g : JoinGraph) (first second : List Pair) → Complete g first → Complete g second → length first ≡ length second
one_count g first second a b = same_length (Pairs g) first second a.once b.once a.members b.members

same_share : (x y : Share) → x.pairs ≡ y.pairs → x.cost ≡ y.cost → x ≡ y
same_share x y e f = ap (λ (k : ℕ). record { pairs = k; cost = x.cost }) e ∙ ap (λ (k : ℕ). record { pairs = y.pairs; cost = k }) f

-- how many pairs a query has, said twice
pub one_number : (q : JoinQuery) (m n : ℕ) → IsPairCount q m → IsPairCount q n → m ≡ n
one_number q m n a b = a.2 ∙ one_count (graph_of q) a.0 b.0 a.1 b.1 ∙ sym b.2

-- and how many of a class
pub one_number_in : (class : Option Class) (q : JoinQuery) (m n : ℕ) → IsPairCountIn class q m → IsPairCountIn class q n → m ≡ n
one_number_in None q m n a b = one_number q m n a b
one_number_in (Some c) q m n a b = a.2 ∙ same_length _ a.0 b.0 a.1.once b.1.once a.1.members b.1.members ∙ sym b.2

one_share : (model : ℕ) (q : JoinQuery) (x y : Share) → IsQuery q → IsShare model q x → IsShare model q y → x ≡ y
one_share model q x y ok a b =
    same_share x y
    (one_number q x.pairs y.pairs a.pairs b.pairs)
    (a.plan.2 ∙ ap (cost model q) (plan_same model q (full (relations q)) a.plan.0 b.plan.0 ok a.plan.1 b.plan.1) ∙ sym b.plan.2)

pub ap_cons : {A : Type 0} (x y : A) (xs ys : List A) → x ≡ y → xs ≡ ys → x ∷ xs ≡ y ∷ ys
ap_cons x y xs ys e f = cc

same_shares : (model : ℕ) (queries : List JoinQuery) (first second : List Share) → All IsQuery queries → AreShares model queries first → AreShares model queries second → first ≡ second
same_shares model [] [] [] ok a b = refl
same_shares model [] [] (y ∷ ys) ok a b = absurd b
same_shares model [] (x ∷ xs) second ok a b = absurd a
same_shares model (q ∷ qs) [] second ok a b = absurd a
same_shares model (q ∷ qs) (x ∷ xs) [] ok a b = absurd b
same_shares model (q ∷ qs) (x ∷ xs) (y ∷ ys) ok a b =
    ap_cons x y xs ys (one_share model q x y (All-head IsQuery q qs ok) a.0 b.0) (same_shares model qs xs ys (All-tail IsQuery q qs ok) a.1 b.1)

queries_with : (entry : Entry) (rest : List Entry) (part : Part) → entry.part ≡ part → IsPartSound part → All IsQuery (planned_queries rest) → All IsQuery (planned_queries (entry ∷ rest))
queries_with entry rest (Accepted named) e sound more = rw e (All-cons IsQuery named.query (planned_queries rest) sound.valid more)
queries_with entry rest (Refused why) e sound more = rw e more

sound_queries : (entries : List Entry) → All IsEntrySound entries → All IsQuery (planned_queries entries)
sound_queries [] ok = All-nil IsQuery
sound_queries (entry ∷ rest) ok =
    queries_with entry rest entry.part refl (All-head IsEntrySound entry rest ok) (sound_queries rest (All-tail IsEntrySound entry rest ok))

one_summary : (model number : ℕ) (entries : List Entry) (first second : List ℕ) → All IsEntrySound entries
    → IsSummary model number entries first → IsSummary model number entries second → first ≡ second
one_summary model number entries first second sound a b =
    let ok = sound_queries entries sound in
    let shares = same_shares model (planned_queries entries) a.1.0 b.1.0 ok a.1.1 b.1.1 in
    let totals : a.0 ≡ b.0 = a.1.2 ∙ ap (totals_of (planned_queries entries)) shares ∙ sym b.1.2 in
    a.2 ∙ ap (summary_line number) totals ∙ sym b.2

-- the entries are those of one file
same_entries : (read : Result (List Entry) FileFault) (xs ys : List Entry) → read ≡ Ok xs → read ≡ Ok ys → ys ≡ xs
same_entries read xs ys a b = cc

pub one_sample : (model number : ℕ) (first second : List ℕ) → IsSample model number first → IsSample model number second → first ≡ second
one_sample model number first second a b =
    one_summary model number a.0 first second (sound_entries (workload_of number) a.0 a.1)
    a.2 (subst (λ (es : List Entry). IsSummary model number es second) (same_entries (entries_of (workload_of number)) a.0 b.0 a.1 b.1) b.2)
