-- What is known of a set.
use Rattle.std.proofs.Common.{◌≡◌, ◌↔◌, ℕ, ◌+◌, ◌<◌, ◌≤◌, ◌^◌, ◌∙◌, refl, sym, ap, inl, inr, arith, Bool, IsTrue, List}
use Rattle.dpe_base.specs.declared.TheConstants.{ROW_CAP}
use Rattle.dpe_base.specs.Queries.{JoinQuery}
use Rattle.dpe_base.specs.Sets.{Within, full, union}
use Rattle.dpe_base.proofs.SetLaws.{sets, member-above, union_comm}
use Rattle.join_graph.specs.Graphs.{Connected, graph_of, pair_of}
use Rattle.card_scaled.specs.Cards.{rows}
use Rattle.card_scaled.proofs.CardLaws.{rows_bounds}
use Rattle.cost_model.specs.Costs.{operators, join_cost}
use Rattle.cert_check.specs.Certificates.{JoinBounded, PairBounded, bound_of}
use Rattle.cert_check.specs.Steps.{IsKnownRows, IsSide}

pub not_connected : (q : JoinQuery) (s known : ℕ) → IsKnownRows q s known → known ≡ 0 → Connected (graph_of q) s → ⊥
not_connected q s known k e c = elim k [ inl h ↦ omega (arith, h.1, e, rows_bounds q s) | inr h ↦ h.0 c ]

pub side_known : (q : JoinQuery) (s known : ℕ) → IsKnownRows q s known → (known ≡ 0 → ⊥) → Connected (graph_of q) s × (known ≡ rows q s)
side_known q s known k ne = elim k [ inl h ↦ h | inr h ↦ absurd (ne h.1) ]

pub rows_in_range : (q : JoinQuery) (bounds : List ℕ) (s r b : ℕ) → IsSide q bounds s r b → (1 ≤ r) × (r ≤ ROW_CAP)
rows_in_range q bounds s r b side = (omega (arith, side.rows_are, rows_bounds q s), omega (arith, side.rows_are, rows_bounds q s))

pub number_within : (s n : ℕ) → s < 2 ^ n → Within s (full n)
number_within s n l r h = grind (arith, sets, member-above s n r l)

-- the join of two sides is bounded, by the numbers that are known
abbrev IsBounded : (model lr lb rr rb wr wb : ℕ) → Type 0
IsBounded model lr lb rr rb wr wb = (op : ℕ) → op < operators model → wb ≤ lb + rb + join_cost model op lr rr wr

-- it is by the definition
by_known : (model : ℕ) (q : JoinQuery) (bounds : List ℕ) (a b u lr lb rr rb wr wb : ℕ) → union a b ≡ u → IsSide q bounds a lr lb → IsSide q bounds b rr rb → IsSide q bounds u wr wb → IsBounded model lr lb rr rb wr wb ↔ JoinBounded model q bounds a b
by_known model q bounds a b u lr lb rr rb wr wb e left right whole =
    (λ h op l. omega (arith, h op l, same op, bound, left.bound_is, right.bound_is), λ h op l. omega (arith, h op l, same op, bound, left.bound_is, right.bound_is))
  where
    same : (op : ℕ) → join_cost model op lr rr wr ≡ join_cost model op (rows q a) (rows q b) (rows q (union a b))
    same op = cc (e, left.rows_are, right.rows_are, whole.rows_are)

    bound : bound_of bounds (union a b) ≡ wb
    bound = ap (bound_of bounds) e ∙ sym whole.bound_is

-- where the join in the one order is bounded, the test of the other order decides
pub either_order : (model : ℕ) (q : JoinQuery) (bounds : List ℕ) (a b fr fb sr sb wr wb : ℕ) (other : Bool) → IsSide q bounds a fr fb → IsSide q bounds b sr sb → IsSide q bounds (union a b) wr wb → IsBounded model fr fb sr sb wr wb → (IsTrue other ↔ IsBounded model sr sb fr fb wr wb) → IsTrue other ↔ (Connected (graph_of q) a → Connected (graph_of q) b → PairBounded model q bounds (pair_of a b))
either_order model q bounds a b fr fb sr sb wr wb other first second whole one back =
    let forth : IsBounded model fr fb sr sb wr wb ↔ JoinBounded model q bounds a b = by_known model q bounds a b (union a b) fr fb sr sb wr wb refl first second whole in
    let turned : IsBounded model sr sb fr fb wr wb ↔ JoinBounded model q bounds b a = by_known model q bounds b a (union a b) sr sb fr fb wr wb (union_comm b a) second first whole in
    (λ t ca cb. (forth.0 one, turned.0 (back.0 t)), λ h. back.1 (turned.1 (h first.connected second.connected).1))
