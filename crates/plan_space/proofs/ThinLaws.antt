-- Thin lists are ordered, and make the trees of a class.
use Rattle.std.proofs.Common.{◌≡◌, ℕ, true, nat_le, ◌<◌, ◌≤◌, ◌⊎◌, ◌↔◌, inl, inr, arith, refl, sym, ◌∙◌, ap, subst, List, Contains, get_or, length}
use Rattle.std.specs.List.{AllPairs}
use Rattle.std.proofs.lemmas.Bool.{cases_order, or_cases, or_right, leb-true, le-leb}
use Rattle.std.proofs.lemmas.List.{get_or_default}
use Rattle.std.proofs.lemmas.List.Kept.{AllPairs-filter}
use Rattle.dpe_base.specs.declared.pair.Pair.{Pair}
use Rattle.dpe_base.specs.Queries.{JoinQuery, IsQuery}
use Rattle.dpe_base.specs.Sets.{single, size}
use Rattle.dpe_base.proofs.SetLaws.{union_comm}
use Rattle.dpe_base.proofs.SizeLaws.{size-single}
use Rattle.join_graph.specs.Graphs.{JoinGraph, IsGraph, Connected, Pairs, pair_of, graph_of}
use Rattle.join_graph.specs.PairLists.{HasAllPairs, SideBuilt}
use Rattle.join_graph.proofs.GraphLaws.{Extended, connected_extended, connected_single, pair_either}
use Rattle.join_tree.specs.Trees.{JoinTree, leaf, join, set_of, Legal, Trees, Least, Builds}
use Rattle.join_tree.proofs.TreeLaws.{legal_connected, made_legal}
use Rattle.pair_stream.specs.Orders.{StandsAt, BuildsSide, Ordered, Complete}
use Rattle.pair_stream.proofs.Lists.{contains_filter, contains_from_filter, passes_from_filter}
use Rattle.pair_stream.proofs.OrderLaws.{MayPrecede, builds_itself}
use Rattle.plan_space.specs.declared.class.Class.{Class}
use Rattle.plan_space.specs.declared.class.Class.TheVariants.{Narrow, ZigZag}
use Rattle.plan_space.specs.Classes.{SidesIn, JoinsIn, InClass, LeastIn}
use Rattle.plan_space.specs.Thin.{is_thin, thin, HasThinPairs}
use Rattle.plan_space.proofs.ClassLaws.{leaf_one, one_leaf}

-- ---- members

abbrev pub SmallSide : ℕ → ℕ → ℕ → Type 0
SmallSide width a b = (size a ≤ width) ⊎ (size b ≤ width)

thin_small : (width : ℕ) (p : Pair) → is_thin width p ≡ true → SmallSide width p.a p.b
thin_small width p t =
    elim (or_cases (nat_le (size p.a) width) (nat_le (size p.b) width) t) [
      | inl x ↦ inl (leb-true (size p.a) width x)
      | inr x ↦ inr (leb-true (size p.b) width x)
    ]

small_thin : (width : ℕ) (p : Pair) → SmallSide width p.a p.b → is_thin width p ≡ true
small_thin width p h =
    elim h [
      | inl x ↦ rw (le-leb (size p.a) width x) refl
      | inr x ↦ or_right (nat_le (size p.a) width) (nat_le (size p.b) width) (le-leb (size p.b) width x)
    ]

in_thin : (width : ℕ) (pairs : List Pair) (p : Pair) → Contains pairs p → SmallSide width p.a p.b → Contains (thin width pairs) p
unfolding thin
in_thin width pairs p c h = contains_filter (is_thin width) pairs p c (small_thin width p h)

of_thin : (width : ℕ) (pairs : List Pair) (p : Pair) → Contains (thin width pairs) p → Contains pairs p × SmallSide width p.a p.b
unfolding thin
of_thin width pairs p c = (contains_from_filter (is_thin width) pairs p c, thin_small width p (passes_from_filter (is_thin width) pairs p c))

-- ---- order

may_precede : (pairs : List Pair) → Ordered pairs → AllPairs MayPrecede pairs
may_precede pairs o j k d l in_list = (o.once j k d l in_list, no)
  where
    no : BuildsSide (get_or pairs k d) (get_or pairs j d) → ⊥
    no b =
        let first : j < length pairs = omega (arith, l, in_list) in
        let turned : k < j =
        o.before k j (get_or pairs k d) (get_or pairs j d) (in_list, get_or_default pairs k (get_or pairs k d) d in_list) (first, get_or_default pairs j (get_or pairs j d) d first) b in
        omega (arith, l, turned)

thin_may_precede : (width : ℕ) (pairs : List Pair) → Ordered pairs → AllPairs MayPrecede (thin width pairs)
unfolding thin
thin_may_precede width pairs o = AllPairs-filter MayPrecede (is_thin width) pairs (may_precede pairs o)

-- the place of a pair in a list tells which stands first
before_from : (g : JoinGraph) (pairs : List Pair) → ((p : Pair) → Contains pairs p → Pairs g p) → AllPairs MayPrecede pairs → (j k : ℕ) (p q : Pair) → StandsAt pairs j p → StandsAt pairs k q → BuildsSide p q → j < k
before_from g pairs within order j k p q at_j at_k b =
    elim (cases_order j k) [
      | inl e ↦ absurd (builds_itself g p (within p (j, at_j.0, at_j.1)) (subst (BuildsSide p) (sym (same e)) b))
      | inr o ↦ elim o [
        | inl l ↦ l
        | inr l ↦ absurd (later l b)
      ]
    ]
  where
    same : j ≡ k → p ≡ q
    same e = sym at_j.1 ∙ get_or_default pairs j p q at_j.0 ∙ ap (λ i. get_or pairs i q) e ∙ at_k.1

    later : k < j → BuildsSide p q → ⊥
    later l =
        let h : MayPrecede (get_or pairs k q) (get_or pairs j q) = order k j q l at_j.0 in
        let m : MayPrecede q (get_or pairs j q) = subst (λ x. MayPrecede x (get_or pairs j q)) at_k.1 h in
        (subst (MayPrecede q) (get_or_default pairs j q p at_j.0 ∙ at_j.1) m).1

-- ---- lists of the thin pairs, whatever made them

pub in_thin_pairs : (g : JoinGraph) (width : ℕ) (pairs : List Pair) → HasAllPairs g pairs → HasThinPairs g width (thin width pairs)
in_thin_pairs g width pairs all p = (
  λ c. ((all p).0 (of_thin width pairs p c).0, (of_thin width pairs p c).1),
  λ h. in_thin width pairs p ((all p).1 h.0) h.1,
)

-- a connected set of two relations or more is made of one without a relation, and of this
pub thin_built : (g : JoinGraph) (width : ℕ) (pairs : List Pair) → IsGraph g → 1 ≤ width → HasThinPairs g width pairs → (s : ℕ) → Connected g s → SideBuilt pairs s
thin_built g width pairs ok some all s c many =
    let e : Extended g s = connected_extended g s c many in
    let one : size (single e.last) ≤ width = omega (arith, size-single e.last, some) in
    elim (pair_either g e.part (single e.last) ok.few e.connected (connected_single g e.last e.known) e.apart e.crossed) [
      | inl p ↦ (pair_of e.part (single e.last), (all _).1 (p, inr one), e.whole)
      | inr p ↦ (pair_of (single e.last) e.part, (all _).1 (p, inl one), union_comm (single e.last) e.part ∙ e.whole)
    ]

pub thin_pairs_build_their_sides : (g : JoinGraph) (width : ℕ) (pairs : List Pair) → IsGraph g → 1 ≤ width → HasThinPairs g width pairs → Builds g pairs
thin_pairs_build_their_sides g width pairs ok some all =
    record {
      within = λ p c. ((all p).0 c).0;
      sides = λ p c. (
        thin_built g width pairs ok some all p.a ((all p).0 c).0.first,
        thin_built g width pairs ok some all p.b ((all p).0 c).0.second,
      );
    }

pub ordered_from : (g : JoinGraph) (width : ℕ) (pairs : List Pair) → IsGraph g → 1 ≤ width → HasThinPairs g width pairs → AllPairs MayPrecede pairs → Ordered pairs
ordered_from g width pairs ok some all order =
    record {
      once = λ j k d l in_list. (order j k d l in_list).0;
      before = before_from g pairs (λ p c. ((all p).0 c).0) order;
      sides = (thin_pairs_build_their_sides g width pairs ok some all).sides;
    }

pub thin_lists_are_ordered : (g : JoinGraph) (width : ℕ) (pairs : List Pair) → IsGraph g → 1 ≤ width → Complete g pairs → Ordered pairs
    → Ordered (thin width pairs) × Builds g (thin width pairs)
thin_lists_are_ordered g width pairs ok some all order = (
  ordered_from g width (thin width pairs) ok some (in_thin_pairs g width pairs all.members) (thin_may_precede width pairs order),
  thin_pairs_build_their_sides g width (thin width pairs) ok some (in_thin_pairs g width pairs all.members),
)

-- ---- trees

-- the class asks of each join for a side of so many relations at most
abbrev pub IsOfWidth : Class → ℕ → Type 0
IsOfWidth c width =
    (model : ℕ) (g : JoinGraph) (l r : JoinTree) → Legal model g l → Legal model g r → SidesIn c l r ↔ SmallSide width (set_of l) (set_of r)

pub narrow_of_two : IsOfWidth Narrow 2
narrow_of_two model g l r m n = (λ h. h, λ h. h)

pub zig_zag_of_one : IsOfWidth ZigZag 1
zig_zag_of_one model g l r m n = (
  λ h. elim h [ inl x ↦ inl (leaf_one l x) | inr x ↦ inr (leaf_one r x) ],
  λ h. elim h [ inl x ↦ inl (one_leaf model g l m x) | inr x ↦ inr (one_leaf model g r n x) ],
)

module _ (c : Class) (width model : ℕ) (q : JoinQuery) (pairs : List Pair) (of_width : IsOfWidth c width) (ok : IsQuery q) (all : HasThinPairs (graph_of q) width pairs) where
  thin_within : (p : Pair) → Contains pairs p → Pairs (graph_of q) p
  thin_within p h = ((all p).0 h).0

  small_of : (a b : ℕ) → Contains pairs (pair_of a b) ⊎ Contains pairs (pair_of b a) → SmallSide width a b
  small_of a b h =
      elim h [
        | inl x ↦ ((all (pair_of a b)).0 x).1
        | inr x ↦ elim ((all (pair_of b a)).0 x).1 [ inl y ↦ inr y | inr y ↦ inl y ]
      ]

  made_joins : (t : JoinTree) → Trees model q pairs t → JoinsIn c t
  made_joins (leaf r) m = tt
  made_joins (join op l r) m = (
    (of_width model (graph_of q) l r (made_legal model q pairs thin_within l m.1) (made_legal model q pairs thin_within r m.2)).1 (small_of (set_of l) (set_of r) m.3),
    made_joins l m.1,
    made_joins r m.2,
  )

  class_made : (t : JoinTree) → Legal model (graph_of q) t → JoinsIn c t → Trees model q pairs t
  class_made (leaf r) m j = m
  class_made (join op l r) m j = (
    m.0,
    class_made l m.1 j.1,
    class_made r m.2 j.2,
    elim (pair_either (graph_of q) (set_of l) (set_of r) ok.few (legal_connected model (graph_of q) l m.1) (legal_connected model (graph_of q) r m.2) m.3 m.4) [
      | inl p ↦ inl ((all _).1 (p, (of_width model (graph_of q) l r m.1 m.2).0 j.0))
      | inr p ↦ inr ((all _).1 (p, elim ((of_width model (graph_of q) l r m.1 m.2).0 j.0) [ inl x ↦ inr x | inr x ↦ inl x ]))
    ],
  )

  thin_makes : (t : JoinTree) → Trees model q pairs t ↔ InClass c model (graph_of q) t
  thin_makes t = (
    λ m. record { legal = made_legal model q pairs thin_within t m; joins = made_joins t m },
    λ i. class_made t i.legal i.joins,
  )

  pub thin_least : (s w : ℕ) → Least model q pairs s w ↔ LeastIn c model q s w
  thin_least s w = (
    λ x. record {
      some = (x.made.tree, (thin_makes x.made.tree).0 x.made.made, x.made.over, x.made.word);
      least = λ t v i e h. x.least v (record { tree = t; made = (thin_makes t).1 i; over = e; word = h });
    },
    λ x. record {
      made = record { tree = x.some.0; made = (thin_makes x.some.0).1 x.some.1; over = x.some.2; word = x.some.3 };
      least = λ v m. x.least m.tree v ((thin_makes m.tree).0 m.made) m.over m.word;
    },
  )

pub thin_pairs_make_the_classes : (model : ℕ) (q : JoinQuery) (pairs : List Pair) (t : JoinTree) → IsQuery q
    → (HasThinPairs (graph_of q) 2 pairs → Trees model q pairs t ↔ InClass Narrow model (graph_of q) t)
    × (HasThinPairs (graph_of q) 1 pairs → Trees model q pairs t ↔ InClass ZigZag model (graph_of q) t)
thin_pairs_make_the_classes model q pairs t ok = (
  λ all. thin_makes Narrow 2 model q pairs narrow_of_two ok all t,
  λ all. thin_makes ZigZag 1 model q pairs zig_zag_of_one ok all t,
)

pub thin_pairs_give_least_words : (model : ℕ) (q : JoinQuery) (pairs : List Pair) (s w : ℕ) → IsQuery q
    → (HasThinPairs (graph_of q) 2 pairs → Least model q pairs s w ↔ LeastIn Narrow model q s w)
    × (HasThinPairs (graph_of q) 1 pairs → Least model q pairs s w ↔ LeastIn ZigZag model q s w)
thin_pairs_give_least_words model q pairs s w ok = (
  λ all. thin_least Narrow 2 model q pairs narrow_of_two ok all s w,
  λ all. thin_least ZigZag 1 model q pairs zig_zag_of_one ok all s w,
)

pub thin_lists_make_the_classes : (model : ℕ) (q : JoinQuery) (pairs : List Pair) (t : JoinTree) → IsQuery q → Complete (graph_of q) pairs
    → (Trees model q (thin 2 pairs) t ↔ InClass Narrow model (graph_of q) t)
    × (Trees model q (thin 1 pairs) t ↔ InClass ZigZag model (graph_of q) t)
thin_lists_make_the_classes model q pairs t ok all = (
  (thin_pairs_make_the_classes model q (thin 2 pairs) t ok).0 (in_thin_pairs (graph_of q) 2 pairs all.members),
  (thin_pairs_make_the_classes model q (thin 1 pairs) t ok).1 (in_thin_pairs (graph_of q) 1 pairs all.members),
)

pub thin_lists_give_least_words : (model : ℕ) (q : JoinQuery) (pairs : List Pair) (s w : ℕ) → IsQuery q → Complete (graph_of q) pairs
    → (Least model q (thin 2 pairs) s w ↔ LeastIn Narrow model q s w)
    × (Least model q (thin 1 pairs) s w ↔ LeastIn ZigZag model q s w)
thin_lists_give_least_words model q pairs s w ok all = (
  (thin_pairs_give_least_words model q (thin 2 pairs) s w ok).0 (in_thin_pairs (graph_of q) 2 pairs all.members),
  (thin_pairs_give_least_words model q (thin 1 pairs) s w ok).1 (in_thin_pairs (graph_of q) 1 pairs all.members),
)

pub thin_lists_have_the_thin_pairs : (g : JoinGraph) (width : ℕ) (pairs : List Pair) (p : Pair) → HasAllPairs g pairs
    → Contains (thin width pairs) p ↔ (Pairs g p × ((size p.a ≤ width) ⊎ (size p.b ≤ width)))
thin_lists_have_the_thin_pairs g width pairs p all = in_thin_pairs g width pairs all p
