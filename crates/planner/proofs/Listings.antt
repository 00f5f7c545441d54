-- The lists that are worked for a class, and the left-deep plan, for which none is.
use Rattle.std.proofs.Common.{◌≡◌, ◌≢◌, ◌∙◌, ℕ, ◌^◌, ◌<◌, ◌≤◌, List, [], length, ap, subst, sym, refl, arith}
use Rattle.std.specs.Prelude.{Contains, Option, Some, None, Bool, true, false, sum_by}
use Rattle.std.proofs.lemmas.List.Kept.{AllPairs-filter}
use Rattle.dpe_base.specs.declared.pair.Pair.{Pair}
use Rattle.dpe_base.specs.declared.kind.Kind.{Kind}
use Rattle.dpe_base.specs.Queries.{JoinQuery, relations, IsQuery}
use Rattle.dpe_base.specs.Sets.{full}
use Rattle.join_graph.specs.Graphs.{JoinGraph, IsGraph, Pairs, graph_of}
use Rattle.join_graph.proofs.Edges.{graph_is}
use Rattle.join_tree.specs.declared.tree.Tree.{Tree}
use Rattle.join_tree.specs.TreeOf.{tree_of}
use Rattle.pair_stream.specs.Orders.{Ordered, Once}
use Rattle.reorder_buffer.specs.Groups.{runs, groups}
use Rattle.reorder_buffer.proofs.RunLaws.{runs-none}
use Rattle.dpe_engine.proofs.Places.{few_in_all}
use Rattle.plan_space.specs.declared.class.Class.{Class}
use Rattle.plan_space.specs.declared.class.Class.TheVariants.{Narrow, ZigZag, LeftDeep}
use Rattle.plan_space.specs.Thin.{is_thin, thin, IsThinList}
use Rattle.plan_space.specs.ZigZag.{seq_zig_zag}
use Rattle.plan_space.proofs.ThinLaws.{in_thin_pairs, thin_lists_are_ordered, thin_pairs_build_their_sides}
use Rattle.planner.specs.declared.options.Options.{Options}
use Rattle.planner.specs.Classes.{IsPlanAmong, ListsPairs}
use Rattle.planner.specs.Enumerations.{IsAllOrNarrow, IsEnumeration, IsListing, listed_of, worked_of, probes_of}
use Rattle.planner.specs.Plans.{IsPlanOf, worked_pairs}

thin_once : (width : ℕ) (pairs : List Pair) → Once pairs → Once (thin width pairs)
unfolding thin
thin_once width pairs once = AllPairs-filter (λ p q. p ≢ q) (is_thin width) pairs once

-- each is a csg-cmp-pair
pub listed_within : (class : Option Class) (g : JoinGraph) (pairs : List Pair) → ListsPairs class g pairs → (p : Pair) → Contains pairs p
    → Pairs g p
listed_within None g pairs whole p c = (whole.members p).0 c
listed_within (Some Narrow) g pairs whole p c = ((whole.members p).0 c).0
listed_within (Some ZigZag) g pairs whole p c = ((whole.members p).0 c).0
listed_within (Some LeftDeep) g pairs whole p c = ((whole.members p).0 c).0

-- the stream that was worked is that of the list
pub listed_again : (class : Option Class) (enumerator : Kind) (g : JoinGraph) (pairs : List Pair) (before after : ℕ)
    → IsListing class enumerator g pairs before → after ≡ before → IsListing class enumerator g (listed_of class enumerator g) after
listed_again class enumerator g pairs before after listing same =
    record {
      list = refl;
      whole = subst (λ (ps : List Pair). ListsPairs class g ps) listing.list listing.whole;
      ordered = subst (λ (ps : List Pair). Ordered ps) listing.list listing.ordered;
      looked = same ∙ listing.looked;
      workers = listing.workers;
    }

all_named : (class : Option Class) (narrow : Bool) → narrow ≡ false → IsAllOrNarrow class narrow → class ≡ None
all_named class false e h = h
all_named class true e h = cc

narrow_named : (class : Option Class) (narrow : Bool) → narrow ≡ true → IsAllOrNarrow class narrow → class ≡ Some Narrow
narrow_named class false e h = cc
narrow_named class true e h = h

-- all pairs
pub all_listed : (class : Option Class) (enumerator : Kind) (g : JoinGraph) (narrow : Bool) (pairs : List Pair) (probes : ℕ)
    → narrow ≡ false → IsAllOrNarrow class narrow → IsEnumeration enumerator g pairs probes → IsListing class enumerator g pairs probes
all_listed class enumerator g narrow pairs probes e asked all =
    subst (λ (c : Option Class). IsListing c enumerator g pairs probes) (sym (all_named class narrow e asked))
    (record { list = all.list; whole = all.complete; ordered = all.ordered; looked = all.looked; workers = other })
  where
    other : None ≢ Some LeftDeep
    other e = cc

-- the narrow ones
pub narrow_listed : (class : Option Class) (enumerator : Kind) (g : JoinGraph) (narrow : Bool) (pairs thins : List Pair) (probes total : ℕ)
    → narrow ≡ true → IsAllOrNarrow class narrow → IsGraph g → IsEnumeration enumerator g pairs probes
    → thins ≡ thin 2 pairs → total ≡ probes → IsListing class enumerator g thins total
narrow_listed class enumerator g narrow pairs thins probes total e asked ok all is same =
    subst (λ (c : Option Class). IsListing c enumerator g thins total) (sym (narrow_named class narrow e asked))
    (subst (λ (ps : List Pair). IsListing (Some Narrow) enumerator g ps total) (sym is)
    (record {
      list = ap (λ (ps : List Pair). thin 2 ps) all.list;
      whole = record { members = in_thin_pairs g 2 pairs all.complete.members; once = thin_once 2 pairs all.complete.once };
      ordered = (thin_lists_are_ordered g 2 pairs ok (omega arith) all.complete all.ordered).0;
      looked = same ∙ all.looked;
      workers = other;
    }))
  where
    other : Some Narrow ≢ Some LeftDeep
    other e = cc

pub zig_zag_listed : (class : Option Class) (enumerator : Kind) (g : JoinGraph) (pairs : List Pair) (probes : ℕ) → class ≡ Some ZigZag
    → pairs ≡ seq_zig_zag g → IsThinList g 1 pairs → Ordered pairs → probes ≡ 0 → IsListing class enumerator g pairs probes
zig_zag_listed class enumerator g pairs probes is list whole ordered none =
    subst (λ (c : Option Class). IsListing c enumerator g pairs probes) (sym is)
    (record { list = list; whole = whole; ordered = ordered; looked = none; workers = other })
  where
    other : Some ZigZag ≢ Some LeftDeep
    other e = cc

-- few enough to be counted
pub few_zig_zag : (q : JoinQuery) (g : JoinGraph) (pairs : List Pair) → IsQuery q → g ≡ graph_of q → IsThinList g 1 pairs → length pairs < 2 ^ 64
few_zig_zag q g pairs ok is whole =
    let thins : IsThinList (graph_of q) 1 pairs = subst (λ (h : JoinGraph). IsThinList h 1 pairs) is whole in
    let few = few_in_all q pairs ok (thin_pairs_build_their_sides (graph_of q) 1 pairs (graph_is q ok) (omega arith) thins.members).within thins.once in
    omega arith

-- the left-deep plan, for which no worker does anything
pub left_plans : (model : ℕ) (o : Options) (q : JoinQuery) (g : JoinGraph) (pairs : List Pair) (count : ℕ) (tree : Tree)
    → o.class ≡ Some LeftDeep → 1 ≤ o.buffer → g ≡ graph_of q → pairs ≡ seq_zig_zag g → IsThinList g 1 pairs → count ≡ length pairs
    → IsPlanAmong o.class model q (full (relations q)) (tree_of tree)
    → IsPlanOf model o q (record { tree = tree; pairs = count; buffers = 0; rounds = 0; probes = 0; drawn = 0 })
left_plans model o q g pairs count tree is some same list whole counted plan =
    record {
      plan = plan;
      listed = subst (λ (c : Option Class). ListsPairs c (graph_of q) (listed_of c o.enumerator (graph_of q))) (sym is) thins;
      pairs = counted ∙ ap (λ (ps : List Pair). length ps) (all ∙ sym (ap (λ (c : Option Class). listed_of c o.enumerator (graph_of q)) is));
      buffers = sym (ap (λ (rs : List (List Pair)). length rs) no_runs);
      rounds = sym (ap (λ (rs : List (List Pair)). sum_by (λ run. length (groups run)) rs) no_runs);
      probes = sym (ap (λ (c : Option Class). probes_of c o.enumerator (graph_of q)) is);
      drawn = let none : length (worked_pairs o q) ≡ 0 = ap (λ (ps : List Pair). length ps) no_pairs in omega arith;
    }
  where
    all : pairs ≡ seq_zig_zag (graph_of q)
    all = list ∙ ap (λ (h : JoinGraph). seq_zig_zag h) same

    thins : IsThinList (graph_of q) 1 (seq_zig_zag (graph_of q))
    thins = subst (λ (ps : List Pair). IsThinList (graph_of q) 1 ps) all (subst (λ (h : JoinGraph). IsThinList h 1 pairs) same whole)

    no_pairs : worked_pairs o q ≡ []
    no_pairs = ap (λ (c : Option Class). worked_of c o.enumerator (graph_of q)) is

    no_runs : runs o.buffer (worked_pairs o q) ≡ []
    no_runs = ap (λ (ps : List Pair). runs o.buffer ps) no_pairs ∙ runs-none o.buffer (omega arith)
