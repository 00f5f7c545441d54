-- A relation that no walk reaches is parted from the first by a set that no predicate leads out of.
use Rattle.std.proofs.Common.{◌≡◌, ◌↔◌, ◌≢◌, ◌∙◌, ℕ, zero, suc, ◌+◌, ◌^◌, ◌<◌, ◌≤◌, Bool, true, false, ◌==◌, ◌&&◌, inl, inr, List, [], ◌∷◌, length, get_or, zero-add, Some, None, slice_get, arith, refl, sym, ap, subst}
use Rattle.std.specs.Prelude.{Any, find, position}
use Rattle.std.specs.List.{list_all, range_with_len, position_or_len}
use Rattle.std.proofs.lemmas.Bool.{cases_Bool, cases_eq, cases_lt, and_parts, eqb-true, eq-eqb, lt-ltb}
use Rattle.std.proofs.lemmas.List.FromFn.{get_or-range_with_len, length-range_with_len}
use Rattle.std.proofs.lemmas.List.Folds.{Any-from_list_any, find_at, list_any_at}
use Rattle.std.proofs.lemmas.List.Sums.{AllPass-from_list_all, fails_before_first, position_or_len_is}
use Rattle.std.proofs.lemmas.List.Quantifiers.{position-Some}
use Rattle.std.proofs.lemmas.Option.{get_or_from_slice_get, slice_get-get_or, slice_get_past, slice_get_read, slice_get_within}
use Rattle.dpe_base.specs.declared.query.Pred.{Pred}
use Rattle.dpe_base.specs.Queries.{JoinQuery, IsQuery, relations}
use Rattle.dpe_base.specs.Sets.{Has, Within, Disjoint, member, union, minus, single, full}
use Rattle.dpe_base.proofs.SetLaws.{sets, same_set, member-same, member-minus, member-above, full_has, union_comm}
use Rattle.dpe_base.proofs.NextSubset.{within_le}
use Rattle.dpe_base.proofs.SizeLaws.{some_member, union_add, full_below}
use Rattle.join_graph.specs.Graphs.{Edge, Crossed, Connected, IsFirstUnreached, Reached, start, step, graph_of}
use Rattle.join_graph.specs.Laws.{Ends}
use Rattle.join_graph.proofs.Crossings.{edge_iff}
use Rattle.join_graph.proofs.Edges.{graph_is}
use Rattle.join_graph.proofs.GraphLaws.{crossed_back}
use Rattle.query_json.specs.Queries.Unreached.{is_closed, parts_from, is_unreached, first_unreached}

-- ---- walks stay in a set that no predicate leads out of

edge_stays : (q : JoinQuery) (s r t : ℕ) → IsQuery q → is_closed q s ≡ true → Edge (graph_of q) r t → member s r ≡ member s t
unfolding is_closed
edge_stays q s r t ok closed e =
    let a : Any (λ p. Ends p r t) q.preds = (edge_iff q r t ok).0 e in
    let at : get_or q.preds a.0 a.1 ≡ a.1 = a.3 in
    let same : member s a.1.low ≡ member s a.1.high = eqb-true _ _ (rw at at (AllPass-from_list_all (λ p. member s p.low == member s p.high) q.preds closed a.0 a.1 a.2)) in
    elim a.4 [
      | inl y ↦ ap (member s) (sym y.0) ∙ same ∙ ap (member s) y.1
      | inr y ↦ ap (member s) (sym y.0) ∙ sym same ∙ ap (member s) y.1
    ]

walk_stays : (q : JoinQuery) (s r : ℕ) → IsQuery q → is_closed q s ≡ true → Has s 0 → Reached (graph_of q) 0 r → Has s r
walk_stays q s r ok closed has start = has
walk_stays q s r ok closed has (step k r' w e) = sym (edge_stays q s k r' ok closed e) ∙ walk_stays q s k ok closed has w

record Parts (q : JoinQuery) (r s : ℕ) : Type 0 where
  pub within : s < 2 ^ relations q
  pub first : Has s 0
  pub lacks : member s r ≡ 0
  pub closed : is_closed q s ≡ true

parts_at : (q : JoinQuery) (r s : ℕ) → s < 2 ^ relations q → parts_from q r s ≡ true → Parts q r s
unfolding parts_from
parts_at q r s l e =
    let p : (((member s 0 == 1) && (member s r == 0)) ≡ true) × (is_closed q s ≡ true) = and_parts _ _ e in
    let o : ((member s 0 == 1) ≡ true) × ((member s r == 0) ≡ true) = and_parts _ _ p.0 in
    record { within = l; first = eqb-true _ _ o.0; lacks = eqb-true _ _ o.1; closed = p.1 }

at_range : (n i d : ℕ) → i < n → get_or (range_with_len 0 n) i d ≡ i
at_range n i d l = get_or-range_with_len 0 n i d l ∙ zero-add i

-- the set that parts an unreached relation
parting : (q : JoinQuery) (r : ℕ) → is_unreached q r ≡ true → (s : ℕ) × Parts q r s
unfolding is_unreached
parting q r e =
    let a : (k : ℕ) × (s : ℕ) × (k < length (range_with_len 0 (2 ^ relations q))) × (get_or (range_with_len 0 (2 ^ relations q)) k s ≡ s) × (parts_from q r s ≡ true) =
    Any-from_list_any (parts_from q r) (range_with_len 0 (2 ^ relations q)) e in
    let l : a.0 < 2 ^ relations q = omega (arith, a.2, length-range_with_len 0 (2 ^ relations q)) in
    let same : a.0 ≡ a.1 = sym (at_range (2 ^ relations q) a.0 a.1 l) ∙ a.3 in
    (a.1, parts_at q r a.1 (subst (λ x. x < 2 ^ relations q) same l) a.4)

not_reached : (q : JoinQuery) (r : ℕ) → IsQuery q → is_unreached q r ≡ true → Reached (graph_of q) 0 r → ⊥
not_reached q r ok e w =
    let s : (s : ℕ) × Parts q r s = parting q r e in
    let h : Has s.0 r = walk_stays q s.0 r ok s.1.closed s.1.first w in
    absurd (omega (arith, h, s.1.lacks))

-- ---- a walk leads out of each other set

parting_pred : (s : ℕ) (preds : List Pred) → list_all (λ p. member s p.low == member s p.high) preds ≡ false → Any (λ p. member s p.low ≢ member s p.high) preds
parting_pred s [] none = absurd cc
parting_pred s (p ∷ ps) none =
    elim (cases_eq (member s p.low) (member s p.high)) [
      | inl same ↦
          let a : Any (λ x. member s x.low ≢ member s x.high) ps = parting_pred s ps (rw (eq-eqb _ _ same) at none) in
          (suc a.0, a.1, omega (arith, a.2), a.3, a.4)
      | inr other ↦ (0, p, omega arith, refl, other)
    ]

-- a step out of the set
record Leads (q : JoinQuery) (s : ℕ) : Type 0 where
  pub from : ℕ
  pub to : ℕ
  pub inside : Has s from
  pub outside : member s to ≡ 0
  pub edge : Edge (graph_of q) from to

leads_out : (q : JoinQuery) (s : ℕ) → IsQuery q → is_closed q s ≡ false → Leads q s
unfolding is_closed
leads_out q s ok open_ =
    let a : Any (λ p. member s p.low ≢ member s p.high) q.preds = parting_pred s q.preds open_ in
    elim (cases_eq (member s a.1.low) 1) [
      | inl low ↦ record {
        from = a.1.low;
        to = a.1.high;
        inside = low;
        outside = omega (arith, sets, a.4, low);
        edge = (edge_iff q a.1.low a.1.high ok).1 (a.0, a.1, a.2, a.3, inl (refl, refl));
      }
      | inr not_low ↦ record {
        from = a.1.high;
        to = a.1.low;
        inside = omega (arith, sets, a.4, not_low);
        outside = omega (arith, sets, not_low);
        edge = (edge_iff q a.1.high a.1.low ok).1 (a.0, a.1, a.2, a.3, inr (refl, refl));
      }
    ]

parted : (q : JoinQuery) (r s : ℕ) → s < 2 ^ relations q → Has s 0 → member s r ≡ 0 → is_closed q s ≡ true → is_unreached q r ≡ true
unfolding is_unreached parts_from
parted q r s l first lacks closed =
    let at : get_or (range_with_len 0 (2 ^ relations q)) s s ≡ s = at_range (2 ^ relations q) s s l in
    list_any_at (parts_from q r) (range_with_len 0 (2 ^ relations q)) s s (omega (arith, length-range_with_len 0 (2 ^ relations q)))
    (rw (at, first, lacks, closed) refl)

-- where r is not parted from the first relation, no set that has the first and lacks r is closed
all_open : (q : JoinQuery) (r s : ℕ) → is_unreached q r ≡ false → s < 2 ^ relations q → Has s 0 → member s r ≡ 0 → is_closed q s ≡ false
all_open q r s none l first lacks =
    elim (cases_Bool (is_closed q s)) [
      | inl closed ↦ let bad : true ≡ false = sym (parted q r s l first lacks closed) ∙ none in absurd cc
      | inr open_ ↦ open_
    ]

-- a set of reached relations grows until it has r
grow : (q : JoinQuery) (r : ℕ) → IsQuery q → is_unreached q r ≡ false → (k s : ℕ) → full (relations q) < s + k → Within s (full (relations q)) → Has s 0 → ((t : ℕ) → Has s t → Reached (graph_of q) 0 t) → Reached (graph_of q) 0 r
grow q r ok none zero s l w first all = absurd (omega (arith, within_le s (full (relations q)) w))
grow q r ok none (suc k) s l w first all =
    elim (cases_eq (member s r) 1) [
      | inl has ↦ all r has
      | inr lacks ↦
          let e : Leads q s = leads_out q s ok (all_open q r s none (full_below s (relations q) w) first (omega (arith, sets, lacks))) in
          grow q r ok none k (union s (single e.to))
          (omega (arith, l, union_add s (single e.to) (λ t x y. other e t x y), some_single e.to))
          (λ t h. grow_within e t h) (grow_has e 0 first) (λ t h. all_more e t h)
    ]
  where
    other : (e : Leads q s) (t : ℕ) → Has s t → Has (single e.to) t → ⊥
    other e t x y = grind (arith, sets, e.outside)

    none_single : (t : ℕ) → single t ≡ 0 → ⊥
    none_single t z = grind (arith, sets, member-same z t)

    some_single : (t : ℕ) → 1 ≤ single t
    some_single t = elim (cases_eq (single t) 0) [ inl z ↦ absurd (none_single t z) | inr ne ↦ omega arith ]

    grow_has : (e : Leads q s) (t : ℕ) → Has s t → Has (union s (single e.to)) t
    grow_has e t h = grind (arith, sets)

    is_new : (e : Leads q s) (t : ℕ) → Has (union s (single e.to)) t → member s t ≢ 1 → e.to ≡ t
    is_new e t h new = grind (arith, sets)

    grow_within : (e : Leads q s) (t : ℕ) → Has (union s (single e.to)) t → Has (full (relations q)) t
    grow_within e t h =
        elim (cases_eq (member s t) 1) [
          | inl old ↦ w t old
          | inr new ↦ subst (Has (full (relations q))) (is_new e t h new) (full_has (relations q) e.to ((graph_is q ok).known e.from e.to e.edge).1)
        ]

    all_more : (e : Leads q s) (t : ℕ) → Has (union s (single e.to)) t → Reached (graph_of q) 0 t
    all_more e t h =
        elim (cases_eq (member s t) 1) [
          | inl old ↦ all t old
          | inr new ↦ subst (Reached (graph_of q) 0) (is_new e t h new) (step e.from e.to (all e.from e.inside) e.edge)
        ]

reached : (q : JoinQuery) (r : ℕ) → IsQuery q → is_unreached q r ≡ false → Reached (graph_of q) 0 r
reached q r ok none =
    grow q r ok none (full (relations q)) (single 0)
    (omega (arith, one_first))
    (λ t h. first_within t h) first_has (λ t h. subst (Reached (graph_of q) 0) (same_first t h) start)
  where
    no_first : single 0 ≡ 0 → ⊥
    no_first z = grind (arith, sets, member-same z 0)

    one_first : 1 ≤ single 0
    one_first = elim (cases_eq (single 0) 0) [ inl z ↦ absurd (no_first z) | inr ne ↦ omega arith ]

    first_has : Has (single 0) 0
    first_has = grind (arith, sets)

    same_first : (t : ℕ) → Has (single 0) t → 0 ≡ t
    same_first t h = grind (arith, sets)

    first_within : (t : ℕ) → Has (single 0) t → Has (full (relations q)) t
    first_within t h = grind (arith, sets, ok.some)

-- ---- the first

first_in : (p : ℕ → Bool) (n r : ℕ) → r < n → p r ≡ true → ((k : ℕ) → k < r → p k ≡ false) → find p (range_with_len 0 n) ≡ Some r
first_in p n r l holds fails =
    find_at p (range_with_len 0 n)
    ∙ ap (slice_get (range_with_len 0 n))
    (position_or_len_is p (range_with_len 0 n) r 0 (omega (arith, length-range_with_len 0 n))
    (λ k lt. ap p (at_range n k 0 (omega arith)) ∙ fails k lt)
    (λ lt. ap p (at_range n r 0 l) ∙ holds))
    ∙ slice_get_read (range_with_len 0 n) n r r (sym (length-range_with_len 0 n)) l (sym (at_range n r r l))

none_in : (p : ℕ → Bool) (n : ℕ) → ((k : ℕ) → k < n → p k ≡ false) → find p (range_with_len 0 n) ≡ None
none_in p n fails =
    find_at p (range_with_len 0 n)
    ∙ ap (slice_get (range_with_len 0 n))
    (position_or_len_is p (range_with_len 0 n) n 0 (omega (arith, length-range_with_len 0 n))
    (λ k lt. ap p (at_range n k 0 lt) ∙ fails k lt)
    (λ lt. absurd (omega (arith, length-range_with_len 0 n))))
    ∙ slice_get_past (range_with_len 0 n) n (omega (arith, length-range_with_len 0 n))

-- a connected graph has no unreached relation
not_parted : (q : JoinQuery) (r : ℕ) → IsQuery q → Connected (graph_of q) (full (relations q)) → r < relations q → is_unreached q r ≡ false
not_parted q r ok c l =
    elim (cases_Bool (is_unreached q r)) [
      | inl holds ↦ absurd (whole (parting q r holds))
      | inr fails ↦ fails
    ]
  where
    not_crossed : (s : ℕ) → is_closed q s ≡ true → Crossed (graph_of q) s (minus (full (relations q)) s) → ⊥
    not_crossed s closed x =
        let same : member s x.0 ≡ member s x.1 = edge_stays q s x.0 x.1 ok closed x.2 in
        elim x.3 [
          | inl y ↦ absurd (omega (arith, sets, same, y.0, y.1, member-minus (full (relations q)) s x.1))
          | inr y ↦ absurd (omega (arith, sets, same, y.0, y.1, member-minus (full (relations q)) s x.0))
        ]

    within : (s : ℕ) → s < 2 ^ relations q → (t : ℕ) → Has s t → Has (full (relations q)) t
    within s b t h = grind (arith, sets, member-above s (relations q) t b)

    zero_has : (z t : ℕ) → z ≡ 0 → Has z t → ⊥
    zero_has z t e h = grind (arith, sets, member-same e t)

    rest_has : (s : ℕ) → member s r ≡ 0 → Has (minus (full (relations q)) s) r
    rest_has s lacks = grind (arith, sets)

    apart : (s t : ℕ) → Has s t → Has (minus (full (relations q)) s) t → ⊥
    apart s t x y = grind (arith, sets)

    together : (s t : ℕ) → (Has s t → Has (full (relations q)) t) → member (union s (minus (full (relations q)) s)) t ≡ member (full (relations q)) t
    together s t h = elim (cases_eq (member s t) 1) [ inl x ↦ omega (arith, sets, h x) | inr x ↦ omega (arith, sets) ]

    whole : (s : ℕ) × Parts q r s → ⊥
    whole s =
        not_crossed s.0 s.1.closed
        (c.split s.0 (minus (full (relations q)) s.0)
        (λ z. zero_has s.0 0 z s.1.first)
        (λ z. zero_has (minus (full (relations q)) s.0) r z (rest_has s.0 s.1.lacks))
        (λ t x y. apart s.0 t x y)
        (same_set _ _ (λ t. together s.0 t (λ h. within s.0 s.1.within t h))))

pub first_none : (q : JoinQuery) → IsQuery q → Connected (graph_of q) (full (relations q)) → first_unreached q ≡ None
unfolding first_unreached
first_none q ok c = none_in (is_unreached q) (relations q) (λ k l. not_parted q k ok c l)

pub first_some : (q : JoinQuery) (r : ℕ) → IsQuery q → IsFirstUnreached (graph_of q) r → first_unreached q ≡ Some r
unfolding first_unreached
first_some q r ok f =
    first_in (is_unreached q) (relations q) r f.known
    (elim (cases_Bool (is_unreached q r)) [ inl holds ↦ holds | inr fails ↦ absurd (f.unreached (reached q r ok fails)) ])
    (λ k l. elim (cases_Bool (is_unreached q k)) [ inl holds ↦ absurd (not_reached q k ok holds (f.reached k l)) | inr fails ↦ fails ])

-- ---- the converses

in_range : (p : ℕ → Bool) (n r : ℕ) → find p (range_with_len 0 n) ≡ Some r → (r < n) × (p r ≡ true) × ((k : ℕ) → k < r → p k ≡ false)
in_range p n r e =
    let i : ℕ = position_or_len p (range_with_len 0 n) in
    let found : slice_get (range_with_len 0 n) i ≡ Some r = sym (find_at p (range_with_len 0 n)) ∙ e in
    let within : i < length (range_with_len 0 n) = slice_get_within (range_with_len 0 n) i r found in
    let l : i < n = omega (arith, within, length-range_with_len 0 n) in
    let same : i ≡ r = sym (at_range n i 0 l) ∙ get_or_from_slice_get (range_with_len 0 n) i r 0 found in
    let place : position p (range_with_len 0 n) ≡ Some i = rw (lt-ltb i (length (range_with_len 0 n)) within) refl in
    let first : (i < length (range_with_len 0 n)) × (p (get_or (range_with_len 0 n) i 0) ≡ true) × ((k : ℕ) → k < i → p (get_or (range_with_len 0 n) k 0) ≡ false) =
    position-Some p (range_with_len 0 n) i 0 place in (
      omega (arith, same, l),
      subst (λ x. p x ≡ true) (at_range n i 0 l ∙ same) first.1,
      λ k lt. subst (λ x. p x ≡ false) (at_range n k 0 (omega (arith, lt, same, l))) (first.2 k (omega (arith, lt, same))),
    )

not_in_range : (p : ℕ → Bool) (n k : ℕ) → find p (range_with_len 0 n) ≡ None → k < n → p k ≡ false
not_in_range p n k e l =
    elim (cases_lt (position_or_len p (range_with_len 0 n)) (length (range_with_len 0 n))) [
      | inl within ↦ absurd (some_none (get_or (range_with_len 0 n) (position_or_len p (range_with_len 0 n)) 0)
          (sym (slice_get-get_or (range_with_len 0 n) (position_or_len p (range_with_len 0 n)) 0 within) ∙ sym (find_at p (range_with_len 0 n)) ∙ e))
      | inr past ↦ subst (λ x. p x ≡ false) (at_range n k 0 l) (fails_before_first p (range_with_len 0 n) k 0 (omega (arith, past, l, length-range_with_len 0 n)))
    ]
  where
    some_none : (x : ℕ) → Some x ≡ None → ⊥
    some_none x h = cc

-- a walk from a into b crosses them
walk_crosses : (q : JoinQuery) (a b r : ℕ) → IsQuery q → Disjoint a b → union a b ≡ full (relations q) → Has a 0 → Has b r → Reached (graph_of q) 0 r → Crossed (graph_of q) a b
walk_crosses q a b r ok d u first last start = absurd (d 0 first last)
walk_crosses q a b r ok d u first last (step k r' w e) =
    elim (cases_eq (member a k) 1) [
      | inl in_a ↦ (k, r', e, inl (in_a, last))
      | inr out ↦ walk_crosses q a b k ok d u first (in_b k out ((graph_is q ok).known k r' e).0) w
    ]
  where
    in_b : (k : ℕ) → member a k ≢ 1 → k < relations q → Has b k
    in_b k out l = grind (arith, sets, member-same u k)

all_connected : (q : JoinQuery) → IsQuery q → ((r : ℕ) → r < relations q → Reached (graph_of q) 0 r) → Connected (graph_of q) (full (relations q))
all_connected q ok all =
    record {
      some = λ z. none_in_empty z (zero_known (relations q) ok.some);
      within = λ r h. h;
      split = λ a b na nb d u.
          let x : (x : ℕ) × Has a x = some_member a na in
          let y : (y : ℕ) × Has b y = some_member b nb in
          elim (cases_eq (member a 0) 1) [
            | inl in_a ↦ walk_crosses q a b y.0 ok d u in_a y.1 (all y.0 (known b y.0 (λ t h. in_right a b t u h) y.1))
            | inr out ↦
                crossed_back (graph_of q) b a
                (walk_crosses q b a x.0 ok (λ t h k. d t k h) (union_comm b a ∙ u) (zero_right a b u out) x.1 (all x.0 (known a x.0 (λ t h. in_left a b t u h) x.1)))
          ];
    }
  where
    zero_known : (n : ℕ) → 0 < n → Has (full n) 0
    zero_known n l = grind (arith, sets)

    none_in_empty : full (relations q) ≡ 0 → Has (full (relations q)) 0 → ⊥
    none_in_empty z h = grind (arith, sets, member-same z 0)

    known : (s r : ℕ) → Within s (full (relations q)) → Has s r → r < relations q
    known s r w h = grind (arith, sets, w r h)

    in_right : (a b t : ℕ) → union a b ≡ full (relations q) → Has b t → Has (full (relations q)) t
    in_right a b t u h = grind (arith, sets, member-same u t)

    in_left : (a b t : ℕ) → union a b ≡ full (relations q) → Has a t → Has (full (relations q)) t
    in_left a b t u h = grind (arith, sets, member-same u t)

    zero_right : (a b : ℕ) → union a b ≡ full (relations q) → member a 0 ≢ 1 → Has b 0
    zero_right a b u out = grind (arith, sets, member-same u 0, ok.some)

-- none is unreached exactly where the graph is connected, and else the first is the least that no walk reaches
pub first_unreached_is : (q : JoinQuery) → IsQuery q → ((first_unreached q ≡ None) ↔ Connected (graph_of q) (full (relations q)))
    × ((r : ℕ) → (first_unreached q ≡ Some r) ↔ IsFirstUnreached (graph_of q) r)
unfolding first_unreached
first_unreached_is q ok = (
  (
    λ e. all_connected q ok (λ r l. reached q r ok (not_in_range (is_unreached q) (relations q) r e l)),
    λ c. first_none q ok c,
  ),
  λ r. (
    λ e.
        let f : (r < relations q) × (is_unreached q r ≡ true) × ((k : ℕ) → k < r → is_unreached q k ≡ false) = in_range (is_unreached q) (relations q) r e in
        record { known = f.0; unreached = λ w. not_reached q r ok f.1 w; reached = λ k l. reached q k ok (f.2 k l) },
    λ f. first_some q r ok f,
  ),
)
