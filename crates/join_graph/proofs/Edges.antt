-- The edges of a query's graph are its predicates.
use Rattle.std.proofs.Common.{◌≡◌, ◌≢◌, ◌↔◌, ℕ, ◌<◌, ◌⊎◌, inl, inr, arith, refl, sym, ◌∙◌, subst, List, [], ◌∷◌, length, get_or, All}
use Rattle.std.specs.List.{fold}
use Rattle.std.proofs.lemmas.Bool.{cases_eq, cases_lt, eq-eqb, ne_eqb}
use Rattle.std.proofs.lemmas.List.{get_or_past}
use Rattle.std.proofs.lemmas.List.FromFn.{length-map-range_with_len, get_or-map-range_with_len}
use Rattle.std.proofs.lemmas.List.Elements.{All-head, All-tail}
use Rattle.dpe_base.specs.declared.TheConstants.{N_MAX}
use Rattle.dpe_base.specs.declared.query.Pred.{Pred}
use Rattle.dpe_base.specs.Queries.{JoinQuery, IsQuery, relations}
use Rattle.dpe_base.specs.Sets.{Has, Meets, union, minus, single}
use Rattle.dpe_base.proofs.QueryLaws.{pred_ends}
use Rattle.dpe_base.proofs.SetLaws.{sets, empty_has, in_single, in_union}
use Rattle.join_graph.specs.Laws.{Ends}
use Rattle.join_graph.specs.Graphs.{JoinGraph, IsGraph, IsNeighbours, Edge, Crossed, adjacent_to, adjacency, other_end, graph_of}

abbrev pub SomeEnds : List Pred → ℕ → ℕ → Type 0
SomeEnds [] r s = ⊥
SomeEnds (p ∷ ps) r s = Ends p r s ⊎ SomeEnds ps r s

other_end-low : (r : ℕ) (p : Pred) → p.low ≡ r → other_end r p ≡ single p.high
unfolding other_end
other_end-low r p e = rw (eq-eqb p.low r e) refl

other_end-high : (r : ℕ) (p : Pred) → p.low ≢ r → p.high ≡ r → other_end r p ≡ single p.low
unfolding other_end
other_end-high r p ne e = rw (ne_eqb p.low r ne, eq-eqb p.high r e) refl

other_end-none : (r : ℕ) (p : Pred) → p.low ≢ r → p.high ≢ r → other_end r p ≡ 0
unfolding other_end
other_end-none r p ne nf = rw (ne_eqb p.low r ne, ne_eqb p.high r nf) refl

other_end_has : (r s : ℕ) (p : Pred) → Has (other_end r p) s ↔ Ends p r s
other_end_has r s p =
    elim (cases_eq p.low r) [
      | inl low ↦ (λ h. inl (low, (in_single p.high s).0 (rw (other_end-low r p low) at h)), λ e. rw (other_end-low r p low) ((in_single p.high s).1 (ends_low e low)))
      | inr not_low ↦
          elim (cases_eq p.high r) [
            | inl high ↦ (λ h. inr (high, (in_single p.low s).0 (rw (other_end-high r p not_low high) at h)), λ e. rw (other_end-high r p not_low high) ((in_single p.low s).1 (ends_high e not_low)))
            | inr not_high ↦ (λ h. absurd (empty_has s (rw (other_end-none r p not_low not_high) at h)), λ e. absurd (no_ends e not_low not_high))
          ]
    ]
  where
    ends_low : Ends p r s → p.low ≡ r → p.high ≡ s
    ends_low e l = elim e [ inl x ↦ x.1 | inr x ↦ x.0 ∙ sym l ∙ x.1 ]

    ends_high : Ends p r s → p.low ≢ r → p.low ≡ s
    ends_high e n = elim e [ inl x ↦ absurd (n x.0) | inr x ↦ x.1 ]

    no_ends : Ends p r s → p.low ≢ r → p.high ≢ r → ⊥
    no_ends e n m = elim e [ inl x ↦ n x.0 | inr x ↦ m x.0 ]

-- the relations gathered from the predicates, on top of those had before
fold_has : (preds : List Pred) (r s acc : ℕ) → Has (fold (λ x p. union x (other_end r p)) acc preds) s ↔ (Has acc s ⊎ SomeEnds preds r s)
fold_has [] r s acc = (λ h. inl h, λ h. elim h [ inl x ↦ x | inr x ↦ absurd x ])
fold_has (p ∷ ps) r s acc = (
  λ h. elim ((fold_has ps r s (union acc (other_end r p))).0 h) [
    | inl x ↦ elim ((in_union acc (other_end r p) s).0 x) [ inl y ↦ inl y | inr y ↦ inr (inl ((other_end_has r s p).0 y)) ]
    | inr x ↦ inr (inr x)
  ],
  λ h. (fold_has ps r s (union acc (other_end r p))).1 (elim h [
    | inl x ↦ inl ((in_union acc (other_end r p) s).1 (inl x))
    | inr x ↦ elim x [ inl y ↦ inl ((in_union acc (other_end r p) s).1 (inr ((other_end_has r s p).1 y))) | inr y ↦ inr y ]
  ]),
)

adjacent_has : (preds : List Pred) (r s : ℕ) → Has (adjacent_to preds r) s ↔ SomeEnds preds r s
unfolding adjacent_to
adjacent_has preds r s = (
  λ h. elim ((fold_has preds r s 0).0 h) [ inl x ↦ absurd (empty_has s x) | inr x ↦ x ],
  λ h. (fold_has preds r s 0).1 (inr h),
)

length-adjacency : (preds : List Pred) → length (adjacency preds) ≡ N_MAX
unfolding adjacency
length-adjacency preds = length-map-range_with_len (adjacent_to preds) 0 N_MAX

adjacency_at : (preds : List Pred) (r : ℕ) → r < N_MAX → get_or (adjacency preds) r 0 ≡ adjacent_to preds r
unfolding adjacency
adjacency_at preds r l = get_or-map-range_with_len (adjacent_to preds) 0 N_MAX r r 0 l (omega arith)

edge_below : (q : JoinQuery) (r s : ℕ) → Edge (graph_of q) r s → r < N_MAX
edge_below q r s e =
    elim (cases_lt r N_MAX) [
      | inl l ↦ l
      | inr g ↦ absurd (empty_has s (subst (λ x. Has x s) (get_or_past (adjacency q.preds) r 0 (omega (arith, length-adjacency q.preds, g))) e))
    ]

-- two relations are joined where a predicate has them as its ends
pub edge_of : (q : JoinQuery) (r s : ℕ) → Edge (graph_of q) r s → SomeEnds q.preds r s
edge_of q r s e = (adjacent_has q.preds r s).0 (subst (λ x. Has x s) (adjacency_at q.preds r (edge_below q r s e)) e)

pub of_edge : (q : JoinQuery) (r s : ℕ) → r < N_MAX → SomeEnds q.preds r s → Edge (graph_of q) r s
of_edge q r s l e = rw (adjacency_at q.preds r l) ((adjacent_has q.preds r s).1 e)

ends_turned : (preds : List Pred) (r s : ℕ) → SomeEnds preds r s → SomeEnds preds s r
ends_turned [] r s e = e
ends_turned (p ∷ ps) r s e =
    elim e [ inl x ↦ inl (elim x [ inl y ↦ inr (y.1, y.0) | inr y ↦ inl (y.1, y.0) ]) | inr x ↦ inr (ends_turned ps r s x) ]

abbrev Ordered : ℕ → Pred → Type 0
Ordered n p = (p.low < p.high) × (p.high < n)

ends_known : (n : ℕ) (preds : List Pred) (r s : ℕ) → All (Ordered n) preds → SomeEnds preds r s → (r < n) × (s < n)
ends_known n [] r s all e = absurd e
ends_known n (p ∷ ps) r s all e =
    elim e [
      | inl x ↦ ends_at n p r s (All-head (Ordered n) p ps all) x
      | inr x ↦ ends_known n ps r s (All-tail (Ordered n) p ps all) x
    ]
  where
    ends_at : (n : ℕ) (p : Pred) (r s : ℕ) → Ordered n p → Ends p r s → (r < n) × (s < n)
    ends_at n p r s o x = elim x [ inl y ↦ (omega arith, omega arith) | inr y ↦ (omega arith, omega arith) ]

-- the graph of a query is a graph
pub graph_is : (q : JoinQuery) → IsQuery q → IsGraph (graph_of q)
graph_is q ok =
    record {
      some = ok.some;
      few = ok.few;
      sized = length-adjacency q.preds;
      known = λ r s e. ends_known (relations q) q.preds r s (λ k d l. pred_ends (relations q) (get_or q.preds k d) (ok.preds k d l)) (edge_of q r s e);
      turned = λ r s e. of_edge q s r (edge_turned_below q r s ok e) (ends_turned q.preds r s (edge_of q r s e));
    }
  where
    edge_turned_below : (q : JoinQuery) (r s : ℕ) → IsQuery q → Edge (graph_of q) r s → s < N_MAX
    edge_turned_below q r s ok e = omega (arith, (ends_known (relations q) q.preds r s (λ k d l. pred_ends (relations q) (get_or q.preds k d) (ok.preds k d l)) (edge_of q r s e)).1, ok.few)

-- the calls of the graph

pub neighbours_from : (g : JoinGraph) (s all : ℕ) → ((t : ℕ) → Has all t ↔ ((k : ℕ) × Has s k × Edge g k t)) → IsNeighbours g s (minus all s)
neighbours_from g s all h r = (
  λ x. (λ y. both x y, (h r).0 (in_all x)),
  λ x. not_both ((h r).1 x.1) x.0,
)
  where
    both : Has (minus all s) r → Has s r → ⊥
    both x y = grind (arith, sets)

    in_all : Has (minus all s) r → Has all r
    in_all x = grind (arith, sets)

    not_both : Has all r → (Has s r → ⊥) → Has (minus all s) r
    not_both x y = grind (arith, sets)

pub crossed_from : (g : JoinGraph) (a b all : ℕ) → IsGraph g → ((t : ℕ) → Has all t ↔ ((k : ℕ) × Has a k × Edge g k t)) → Meets all b ↔ Crossed g a b
crossed_from g a b all ok h = (
  λ m. (((h m.0).0 m.1).0, m.0, ((h m.0).0 m.1).2, inl (((h m.0).0 m.1).1, m.2)),
  λ c. elim c.3 [
    | inl x ↦ (c.1, (h c.1).1 (c.0, x.0, c.2), x.1)
    | inr x ↦ (c.0, (h c.0).1 (c.1, x.0, ok.turned c.0 c.1 c.2), x.1)
  ],
)
