use Rattle.std.proofs.Common.{◌≡◌, ◌<◌, ◌≤◌, ◌∙◌, ap, sym, subst, arith, ℕ, get_or}
use Rattle.std.proofs.lemmas.Grind.{get_or_default_zero}
use Rattle.dpe_base.specs.declared.TheConstants.{N_MAX}
use Rattle.dpe_base.specs.Sets.{Has, Within, union, minus, single, full}
use Rattle.dpe_base.proofs.SetLaws.{full_limit, minus_left}
use Rattle.join_graph.proofs.Neighbours.{IsGathered, gathered_none, gathered_more, gathered_all, one_fewer}
use Rattle.join_graph.proofs.graph.Graph.gathered.Goals as goal

-- a member of what is left is a relation of the graph
below : (n rest s r : ℕ) → Within rest s → Within s (full n) → Has rest r → n ≤ N_MAX → r < N_MAX
below n rest s r v w h few = omega (arith, full_limit n r (w r (v r h)), few)

pub rest-init : goal.rest-init
rest-init c = record { part = λ r h. h; gathered = gathered_none c.self.inside.adjacent c.args.s c.empty-all.result c.empty-all.ensures }

pub bounds-self-inside-r : goal.bounds-self-inside-r
bounds-self-inside-r c =
    below c.args.self.now.n c.rest.rest c.args.s c.in-Some.r c.rest.invariant.part c.requires (c.in-Some.ensures).0 (omega (arith, c.self.invariant.few, ap (λ g. g.n) c.self.view_is))

pub listed : goal.listed
listed c =
    let l : c.in-Some.r < N_MAX = below c.args.self.now.n c.rest.rest c.args.s c.in-Some.r c.rest.invariant.part c.requires (c.in-Some.ensures).0 (omega (arith, c.self.invariant.few, ap (λ g. g.n) c.self.view_is)) in
    omega (arith, l, c.self.invariant.sized)

pub single-requires : goal.single-requires
single-requires c =
    let l : c.in-Some.r < N_MAX = below c.args.self.now.n c.rest.rest c.args.s c.in-Some.r c.rest.invariant.part c.requires (c.in-Some.ensures).0 (omega (arith, c.self.invariant.few, ap (λ g. g.n) c.self.view_is)) in
    omega arith

pub rest-smaller : goal.rest-smaller
rest-smaller c =
    subst (λ (k : ℕ). k < c.rest.rest) (sym (c.minus-rest.ensures ∙ ap (minus c.rest.rest) c.single.ensures)) (one_fewer c.rest.rest c.in-Some.r c.in-Some.ensures.0)

pub rest-preserved : goal.rest-preserved
rest-preserved c =
    let l : c.in-Some.r < N_MAX = below c.args.self.now.n c.rest.rest c.args.s c.in-Some.r c.rest.invariant.part c.requires (c.in-Some.ensures).0 (omega (arith, c.self.invariant.few, ap (λ g. g.n) c.self.view_is)) in
    let rest : c.minus-rest.result ≡ minus c.rest.rest (single c.in-Some.r) = c.minus-rest.ensures ∙ ap (minus c.rest.rest) c.single.ensures in
    let all : c.union-all.result ≡ union c.rest.all (get_or c.self.inside.adjacent c.in-Some.r 0) =
    c.union-all.ensures ∙ ap (union c.rest.all) (get_or_default_zero c.self.inside.adjacent c.in-Some.r c.index-self-r.result (omega (arith, l, c.self.invariant.sized))) in
    record {
      part = λ r h. c.rest.invariant.part r (minus_left c.rest.rest (single c.in-Some.r) r (subst (λ (k : ℕ). Has k r) rest h));
      gathered = subst (λ (k : ℕ). IsGathered c.self.inside.adjacent c.args.s k c.union-all.result) (sym rest)
          (subst (λ (k : ℕ). IsGathered c.self.inside.adjacent c.args.s (minus c.rest.rest (single c.in-Some.r)) k) (sym all)
          (gathered_more c.self.inside.adjacent c.args.s c.rest.rest c.rest.all c.in-Some.r c.rest.invariant.gathered (c.rest.invariant.part c.in-Some.r c.in-Some.ensures.0)));
    }

pub returns : goal.returns
returns c = rw (← c.self.view_is) (gathered_all c.self.inside.adjacent c.args.s c.rest.rest c.rest.all c.rest.invariant.gathered c.in_default.ensures)
