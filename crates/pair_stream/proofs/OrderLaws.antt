-- A complete list is ordered where no later pair builds a side of an earlier one.
use Rattle.std.proofs.Common.{◌≡◌, ◌≢◌, ℕ, ◌<◌, inl, inr, arith, sym, ◌∙◌, ap, subst, List, get_or}
use Rattle.std.specs.List.{AllPairs, Contains}
use Rattle.std.proofs.lemmas.Bool.{cases_order}
use Rattle.std.proofs.lemmas.List.{get_or_default}
use Rattle.dpe_base.specs.declared.pair.Pair.{Pair}
use Rattle.dpe_base.specs.Sets.{Has, Disjoint, union}
use Rattle.dpe_base.proofs.SetLaws.{sets, member-same}
use Rattle.dpe_base.proofs.SizeLaws.{some_member}
use Rattle.join_graph.specs.Graphs.{JoinGraph, IsGraph, Connected, Pairs}
use Rattle.join_graph.proofs.GraphLaws.{grown_pair}
use Rattle.join_graph.specs.PairLists.{SideBuilt}
use Rattle.pair_stream.specs.Orders.{StandsAt, BuildsSide, Ordered, Complete}
use Rattle.pair_stream.proofs.Lists.{pairs_weaker}

-- p may stand before q: they are two pairs, and q builds no side of p
abbrev pub MayPrecede : Pair → Pair → Type 0
MayPrecede p q = (p ≢ q) × (BuildsSide q p → ⊥)

-- the union of two disjoint sets is neither of them, where the other is not empty
pub union_not_left : (a b : ℕ) → Disjoint a b → b ≢ 0 → union a b ≡ a → ⊥
union_not_left a b d ne e = no (some_member b ne)
  where
    no : (r : ℕ) × Has b r → ⊥
    no r = grind (arith, sets, member-same e r.0, r.1, d r.0)

pub union_not_right : (a b : ℕ) → Disjoint a b → a ≢ 0 → union a b ≡ b → ⊥
union_not_right a b d ne e = no (some_member a ne)
  where
    no : (r : ℕ) × Has a r → ⊥
    no r = grind (arith, sets, member-same e r.0, r.1, d r.0)

pub builds_itself : (g : JoinGraph) (p : Pair) → Pairs g p → BuildsSide p p → ⊥
builds_itself g p h b =
    elim b [
      | inl e ↦ union_not_left p.a p.b h.apart h.second.some e
      | inr e ↦ union_not_right p.a p.b h.apart h.first.some e
    ]

before_from : (g : JoinGraph) (pairs : List Pair) → ((p : Pair) → Contains pairs p → Pairs g p) → AllPairs MayPrecede pairs → (j k : ℕ) (p q : Pair) → StandsAt pairs j p → StandsAt pairs k q → BuildsSide p q → j < k
before_from g pairs within order j k p q at_j at_k b =
    elim (cases_order j k) [
      | inl e ↦ absurd (builds_itself g p (within p (j, at_j.0, at_j.1)) (subst (BuildsSide p) (sym (same e)) b))
      | inr o ↦ elim o [
        | inl l ↦ l
        | inr l ↦ absurd (later l b)
      ]
    ]
  where
    same : j ≡ k → p ≡ q
    same e = sym at_j.1 ∙ get_or_default pairs j p q at_j.0 ∙ ap (λ i. get_or pairs i q) e ∙ at_k.1

    later : k < j → BuildsSide p q → ⊥
    later l =
        let h : MayPrecede (get_or pairs k q) (get_or pairs j q) = order k j q l at_j.0 in
        let m : MayPrecede q (get_or pairs j q) = subst (λ x. MayPrecede x (get_or pairs j q)) at_k.1 h in
        (subst (MayPrecede q) (get_or_default pairs j q p at_j.0 ∙ at_j.1) m).1

sides_from : (g : JoinGraph) (pairs : List Pair) → IsGraph g → ((p : Pair) → Pairs g p → Contains pairs p) → (s : ℕ) → Connected g s → SideBuilt pairs s
sides_from g pairs ok all s c many =
    let p : (p : Pair) × Pairs g p × (union p.a p.b ≡ s) = grown_pair g s ok.few c many in (p.0, all p.0 p.1, p.2)

pub complete_from : (g : JoinGraph) (pairs : List Pair) → ((p : Pair) → Contains pairs p → Pairs g p) → ((p : Pair) → Pairs g p → Contains pairs p) → AllPairs MayPrecede pairs → Complete g pairs
complete_from g pairs within all order =
    record {
      members = λ p. (within p, all p);
      once = pairs_weaker (λ p q. p ≢ q) MayPrecede pairs order (λ p q cp cq m. m.0);
    }

pub ordered_from : (g : JoinGraph) (pairs : List Pair) → IsGraph g → ((p : Pair) → Contains pairs p → Pairs g p) → ((p : Pair) → Pairs g p → Contains pairs p) → AllPairs MayPrecede pairs → Ordered pairs
ordered_from g pairs ok within all order =
    record {
      once = pairs_weaker (λ p q. p ≢ q) MayPrecede pairs order (λ p q cp cq m. m.0);
      before = before_from g pairs within order;
      sides = λ p c. (
        sides_from g pairs ok all p.a (within p c).first,
        sides_from g pairs ok all p.b (within p c).second,
      );
    }
