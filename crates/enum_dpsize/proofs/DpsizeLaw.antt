-- The list by sizes is complete and ordered.
use Rattle.std.proofs.Common.{◌≡◌, ◌≢◌, ◌↔◌, ℕ, ◌+◌, ◌-◌, ◌/◌, ◌<◌, ◌≤◌, ◌⊎◌, inl, inr, arith, refl, sym, ◌∙◌, ap, subst, true, not, List, [], ◌∷◌, nat_eq, nat_lt}
use Rattle.std.specs.List.{AllPairs, Contains, flat_map, filter, range_with_len}
use Rattle.std.proofs.lemmas.Bool.{cases_eq, cases_Bool, cases_lt, cond-true, cond-false, eq-eqb, ne_eqb, and_parts, and_from, not-true, not_from_false, false_from_ne_true, both_ways, lt-ltb, le-ltb}
use Rattle.std.proofs.lemmas.List.Elements.{Contains-append_left, Contains-append_right, Contains-append_cases}
use Rattle.std.proofs.lemmas.List.Kept.{AllPairs-filter}
use Rattle.dpe_base.specs.declared.pair.Pair.{Pair}
use Rattle.dpe_base.specs.Sets.{Has, Disjoint, Meets, IsLeast, union, full, size, meets, least}
use Rattle.dpe_base.proofs.SetLaws.{union_left, union_right, union_cases, union_comm, union_within}
use Rattle.dpe_base.proofs.SizeLaws.{size-union, size_none, size_full, union_some, some_member, meets_true}
use Rattle.join_graph.specs.Graphs.{JoinGraph, IsGraph, Crossed, Connected, Pairs, pair_of}
use Rattle.join_graph.proofs.GraphLaws.{crossed_back}
use Rattle.pair_stream.specs.Connectivity.{adjacent_to_members}
use Rattle.pair_stream.specs.Orders.{BuildsSide, Ordered, Complete}
use Rattle.dpe_base.proofs.Members.{contains_head, contains_tail, contains_none, contains_cases}
use Rattle.pair_stream.proofs.Lists.{contains_map, contains_from_map, contains_filter, contains_from_filter, passes_from_filter, contains_flat_map, contains_from_flat_map, contains_range, contains_from_range, pairs_nil, pairs_head, pairs_tail, pairs_append, pairs_map, pairs_flat_map, pairs_range, pairs_weaker}
use Rattle.pair_stream.proofs.SubsetLaws.{least_is}
use Rattle.pair_stream.proofs.ConnectivityLaws.{joined_true, connected_least}
use Rattle.pair_stream.proofs.OrderLaws.{MayPrecede, complete_from, ordered_from}
use Rattle.pair_stream.specs.Parts.{part}
use Rattle.pair_stream.proofs.PartLaws.{IsInPart, part_has, part_once, Differ}
use Rattle.enum_dpsize.specs.Dpsize.{is_joinable, pair_by_least, pairs_with, pairs_after, pairs_sized, seq_dpsize}

-- ---- the pair of two sets

abbrev IsPairOf : ℕ → ℕ → Pair → Type 0
IsPairOf x y p = (pair_of x y ≡ p) ⊎ (pair_of y x ≡ p)

pair_is : (x y : ℕ) → IsPairOf x y (pair_by_least x y)
unfolding pair_by_least
pair_is x y =
    elim (cases_Bool (nat_lt (least x) (least y))) [
      | inl t ↦ inl (sym (cond-true (nat_lt (least x) (least y)) (pair_of x y) (pair_of y x) t))
      | inr f ↦ inr (sym (cond-false (nat_lt (least x) (least y)) (pair_of x y) (pair_of y x) f))
    ]

pair_first : (x y : ℕ) → least x < least y → pair_by_least x y ≡ pair_of x y
unfolding pair_by_least
pair_first x y l = cond-true (nat_lt (least x) (least y)) (pair_of x y) (pair_of y x) (lt-ltb _ _ l)

pair_second : (x y : ℕ) → least y ≤ least x → pair_by_least x y ≡ pair_of y x
unfolding pair_by_least
pair_second x y l = cond-false (nat_lt (least x) (least y)) (pair_of x y) (pair_of y x) (le-ltb _ _ l)

-- one pair is made of one first set and one second, or of the two turned round
pair_same : (x y u v : ℕ) (p q : Pair) → IsPairOf x y p → IsPairOf u v q → p ≡ q → ((x ≡ u) × (y ≡ v)) ⊎ ((x ≡ v) × (y ≡ u))
pair_same x y u v p q a b e =
    elim a [
      | inl f ↦ elim b [
        | inl h ↦ inl (ap (λ p. p.a) (f ∙ e ∙ sym h), ap (λ p. p.b) (f ∙ e ∙ sym h))
        | inr h ↦ inr (ap (λ p. p.a) (f ∙ e ∙ sym h), ap (λ p. p.b) (f ∙ e ∙ sym h))
      ]
      | inr f ↦ elim b [
        | inl h ↦ inr (ap (λ p. p.b) (f ∙ e ∙ sym h), ap (λ p. p.a) (f ∙ e ∙ sym h))
        | inr h ↦ inl (ap (λ p. p.b) (f ∙ e ∙ sym h), ap (λ p. p.a) (f ∙ e ∙ sym h))
      ]
    ]

size_positive : (s : ℕ) → s ≢ 0 → 1 ≤ size s
size_positive s ne = elim (cases_eq (size s) 0) [ inl e ↦ absurd (ne (size_none s e)) | inr x ↦ omega arith ]

not_itself : (a b : ℕ) → Disjoint a b → b ≢ 0 → a ≢ b
not_itself a b d ne e = no (some_member b ne)
  where
    no : (r : ℕ) × Has b r → ⊥
    no r = d r.0 (subst (λ s. Has s r.0) (sym e) r.1) r.1

module _ (g : JoinGraph) (ok : IsGraph g) where
  -- ---- two sets that fit

  record Joinable (x y : ℕ) : Type 0 where
    pub apart : Disjoint x y
    pub crossed : Crossed g x y

  joinable_true : (x y : ℕ) → (is_joinable g x y ≡ true) ↔ Joinable x y
  unfolding is_joinable
  joinable_true x y = (
    λ t.
        let h = and_parts (not (meets x y)) (meets (adjacent_to_members g x g.n) y) t in
        record {
          apart = λ r a b. both_ways (meets x y) (not-true _ h.0) ((meets_true x y).1 (r, a, b));
          crossed = (joined_true g x y ok).0 h.1;
        },
    λ f.
        and_from (not (meets x y)) (meets (adjacent_to_members g x g.n) y)
        (not_from_false _ (false_from_ne_true (meets x y) (λ t. let m : Meets x y = (meets_true x y).0 t in f.apart m.0 m.1 m.2)))
        ((joined_true g x y ok).1 f.crossed),
  )

  joinable_back : (x y : ℕ) → Joinable x y → Joinable y x
  joinable_back x y f = record { apart = λ r a b. f.apart r b a; crossed = crossed_back g x y f.crossed }

  -- the least relation of the union is the least of the first, where that is the smaller
  pair_least : (a b r : ℕ) → Connected g a → Connected g b → least a ≤ least b → Disjoint a b → IsLeast (union a b) r → Has a r
  pair_least a b r ca cb l d m =
      elim (union_cases a b r m.0) [
        | inl h ↦ h
        | inr h ↦
            let same : least a ≡ r = omega (arith, m.1 (least a) (union_left a b (least a) (connected_least g a ok ca).0), (connected_least g b ok cb).1 r h) in
            subst (Has a) same (connected_least g a ok ca).0
      ]

  pair_from : (a b : ℕ) → Connected g a → Connected g b → least a ≤ least b → Joinable a b → Pairs g (pair_of a b)
  pair_from a b ca cb l f =
      record { first = ca; second = cb; apart = f.apart; crossed = f.crossed; least = λ r m. pair_least a b r ca cb l f.apart m }

  joinable_pair : (x y : ℕ) → Connected g x → Connected g y → Joinable x y → Pairs g (pair_by_least x y)
  joinable_pair x y cx cy f =
      elim (cases_lt (least x) (least y)) [
        | inl l ↦ subst (Pairs g) (sym (pair_first x y l)) (pair_from x y cx cy (omega arith) f)
        | inr l ↦ subst (Pairs g) (sym (pair_second x y l)) (pair_from y x cy cx l (joinable_back x y f))
      ]

  -- p is made of a connected set of k relations and one of l
  record Made (k l x y : ℕ) (p : Pair) : Type 0 where
    pub first : IsInPart g ok k x
    pub second : IsInPart g ok l y
    pub fit : Joinable x y
    pub led : pair_by_least x y ≡ p

  made_pair : (k l x y : ℕ) (p : Pair) → Made k l x y p → Pairs g p
  made_pair k l x y p m = subst (Pairs g) m.led (joinable_pair x y m.first.connected m.second.connected m.fit)

  made_of_sides : (k l x y : ℕ) (p : Pair) → Made k l x y p → IsPairOf x y p
  made_of_sides k l x y p m = subst (IsPairOf x y) m.led (pair_is x y)

  made_size : (k l x y : ℕ) (p : Pair) → Made k l x y p → size (union p.a p.b) ≡ k + l
  made_size k l x y p m =
      elim (made_of_sides k l x y p m) [
        | inl e ↦ ap (λ p. size (union p.a p.b)) (sym e) ∙ whole
        | inr e ↦ ap (λ p. size (union p.a p.b)) (sym e) ∙ ap size (union_comm y x) ∙ whole
      ]
    where
      whole : size (union x y) ≡ k + l
      whole = omega (arith, size-union x y m.fit.apart, m.first.sized, m.second.sized)

  -- ---- where a pair stands

  with_from : (ys : List ℕ) (x : ℕ) (p : Pair) → Contains (pairs_with g ys x) p → (y : ℕ) × Contains ys y × Joinable x y × (pair_by_least x y ≡ p)
  unfolding pairs_with
  with_from ys x p h =
      let y : (y : ℕ) × Contains (filter (is_joinable g x) ys) y × (pair_by_least x y ≡ p) = contains_from_map (pair_by_least x) (filter (is_joinable g x) ys) p h in
      (y.0, contains_from_filter (is_joinable g x) ys y.0 y.1, (joinable_true x y.0).0 (passes_from_filter (is_joinable g x) ys y.0 y.1), y.2)

  with_has : (ys : List ℕ) (x y : ℕ) → Contains ys y → Joinable x y → Contains (pairs_with g ys x) (pair_by_least x y)
  unfolding pairs_with
  with_has ys x y c f = contains_map (pair_by_least x) (filter (is_joinable g x) ys) y (contains_filter (is_joinable g x) ys y c ((joinable_true x y).1 f))

  after_from : (xs : List ℕ) (p : Pair) → Contains (pairs_after g xs) p → (x : ℕ) × (y : ℕ) × Contains xs x × Contains xs y × Joinable x y × (pair_by_least x y ≡ p)
  after_from [] p h = absurd (contains_none p h)
  after_from (x ∷ xs) p h =
      elim (Contains-append_cases (pairs_with g xs x) (pairs_after g xs) p h) [
        | inl a ↦
            let y : (y : ℕ) × Contains xs y × Joinable x y × (pair_by_least x y ≡ p) = with_from xs x p a in
            (x, y.0, contains_head x xs, contains_tail x xs y.0 y.1, y.2, y.3)
        | inr b ↦
            let r : (u : ℕ) × (v : ℕ) × Contains xs u × Contains xs v × Joinable u v × (pair_by_least u v ≡ p) = after_from xs p b in
            (r.0, r.1, contains_tail x xs r.0 r.2, contains_tail x xs r.1 r.3, r.4, r.5)
      ]

  after_has : (xs : List ℕ) (x y : ℕ) (p : Pair) → Contains xs x → Contains xs y → x ≢ y → Joinable x y → pair_by_least x y ≡ p → pair_by_least y x ≡ p → Contains (pairs_after g xs) p
  after_has [] x y p cx cy ne f a b = absurd (contains_none x cx)
  after_has (z ∷ zs) x y p cx cy ne f a b =
      elim (contains_cases z zs x cx) [
        | inl ex ↦ elim (contains_cases z zs y cy) [
          | inl ey ↦ absurd (ne (sym ex ∙ ey))
          | inr dy ↦ Contains-append_left (pairs_with g zs z) (pairs_after g zs) p
              (subst (Contains (pairs_with g zs z)) (ap (λ k. pair_by_least k y) ex ∙ a) (with_has zs z y dy (subst (λ k. Joinable k y) (sym ex) f)))
        ]
        | inr dx ↦ elim (contains_cases z zs y cy) [
          | inl ey ↦ Contains-append_left (pairs_with g zs z) (pairs_after g zs) p
              (subst (Contains (pairs_with g zs z)) (ap (λ k. pair_by_least k x) ey ∙ b) (with_has zs z x dx (subst (λ k. Joinable k x) (sym ey) (joinable_back x y f))))
          | inr dy ↦ Contains-append_right (pairs_with g zs z) (pairs_after g zs) p (after_has zs x y p dx dy ne f a b)
        ]
      ]

  abbrev SomeMade : ℕ → ℕ → Pair → Type 0
  SomeMade k l p = (x : ℕ) × (y : ℕ) × Made k l x y p

  sized_from : (k l : ℕ) (p : Pair) → Contains (pairs_sized g k l) p → SomeMade k l p
  unfolding pairs_sized
  sized_from k l p h =
      elim (cases_eq k l) [
        | inl e ↦ same e (after_from (part g k) p (subst (λ s. Contains s p) (cond-true (nat_eq k l) (pairs_after g (part g k)) (flat_map (pairs_with g (part g l)) (part g k)) (eq-eqb k l e)) h))
        | inr ne ↦
            let x : (x : ℕ) × Contains (part g k) x × Contains (pairs_with g (part g l) x) p =
            contains_from_flat_map (pairs_with g (part g l)) (part g k) p
            (subst (λ s. Contains s p) (cond-false (nat_eq k l) (pairs_after g (part g k)) (flat_map (pairs_with g (part g l)) (part g k)) (ne_eqb k l ne)) h) in
            let y : (y : ℕ) × Contains (part g l) y × Joinable x.0 y × (pair_by_least x.0 y ≡ p) = with_from (part g l) x.0 p x.2 in
            (x.0, y.0, record { first = (part_has g ok k x.0).0 x.1; second = (part_has g ok l y.0).0 y.1; fit = y.2; led = y.3 })
      ]
    where
      same : k ≡ l → ((x : ℕ) × (y : ℕ) × Contains (part g k) x × Contains (part g k) y × Joinable x y × (pair_by_least x y ≡ p)) → SomeMade k l p
      same e r =
          (r.0, r.1, record { first = (part_has g ok k r.0).0 r.2; second = subst (λ m. IsInPart g ok m r.1) e ((part_has g ok k r.1).0 r.3); fit = r.4; led = r.5 })

  -- ---- each pair once

  abbrev Distinct : Pair → Pair → Type 0
  Distinct p q = p ≢ q

  with_once : (ys : List ℕ) (x : ℕ) → AllPairs Differ ys → AllPairs Distinct (pairs_with g ys x)
  unfolding pairs_with
  with_once ys x o =
      pairs_map Distinct Differ (pair_by_least x) (filter (is_joinable g x) ys) (AllPairs-filter Differ (is_joinable g x) ys o)
      (λ y z my mz ne e. elim (pair_same x y x z (pair_by_least x y) (pair_by_least x z) (pair_is x y) (pair_is x z) e) [
        | inl h ↦ ne h.1
        | inr h ↦ ne (h.1 ∙ h.0)
      ])

  after_once : (xs : List ℕ) → AllPairs Differ xs → AllPairs Distinct (pairs_after g xs)
  after_once [] o = pairs_nil Distinct
  after_once (x ∷ xs) o =
      pairs_append Distinct (pairs_with g xs x) (pairs_after g xs) (with_once xs x (pairs_tail Differ x xs o)) (after_once xs (pairs_tail Differ x xs o))
      (λ p q mp mq e.
      let y : (y : ℕ) × Contains xs y × Joinable x y × (pair_by_least x y ≡ p) = with_from xs x p mp in
      let r : (u : ℕ) × (v : ℕ) × Contains xs u × Contains xs v × Joinable u v × (pair_by_least u v ≡ q) = after_from xs q mq in
      elim (pair_same x y.0 r.0 r.1 p q (subst (IsPairOf x y.0) y.3 (pair_is x y.0)) (subst (IsPairOf r.0 r.1) r.5 (pair_is r.0 r.1)) e) [
        | inl h ↦ pairs_head Differ x xs o r.0 r.2 h.0
        | inr h ↦ pairs_head Differ x xs o r.1 r.3 h.0
      ])

  sized_once : (k l : ℕ) → AllPairs Distinct (pairs_sized g k l)
  unfolding pairs_sized
  sized_once k l =
      elim (cases_eq k l) [
        | inl e ↦ subst (AllPairs Distinct) (sym (cond-true (nat_eq k l) (pairs_after g (part g k)) (flat_map (pairs_with g (part g l)) (part g k)) (eq-eqb k l e))) (after_once (part g k) (part_once g ok k))
        | inr ne ↦ subst (AllPairs Distinct) (sym (cond-false (nat_eq k l) (pairs_after g (part g k)) (flat_map (pairs_with g (part g l)) (part g k)) (ne_eqb k l ne))) (two ne)
      ]
    where
      two : k ≢ l → AllPairs Distinct (flat_map (pairs_with g (part g l)) (part g k))
      two ne =
          pairs_flat_map Distinct Differ (pairs_with g (part g l)) (part g k) (part_once g ok k) (λ x m. with_once (part g l) x (part_once g ok l))
          (λ x u p q mx mu d mp mq e.
          let y : (y : ℕ) × Contains (part g l) y × Joinable x y × (pair_by_least x y ≡ p) = with_from (part g l) x p mp in
          let v : (v : ℕ) × Contains (part g l) v × Joinable u v × (pair_by_least u v ≡ q) = with_from (part g l) u q mq in
          elim (pair_same x y.0 u v.0 p q (subst (IsPairOf x y.0) y.3 (pair_is x y.0)) (subst (IsPairOf u v.0) v.3 (pair_is u v.0)) e) [
            | inl h ↦ d h.0
            | inr h ↦ ne (sym ((part_has g ok k x).0 mx).sized ∙ ap size h.0 ∙ ((part_has g ok l v.0).0 v.1).sized)
          ])

  -- pairs of one size of the smaller side and those of another are distinct
  made_apart : (s k m : ℕ) (p q : Pair) → k < m → m ≤ s / 2 → SomeMade k (s - k) p → SomeMade m (s - m) q → p ≢ q
  made_apart s k m p q l b x y e =
      elim (pair_same x.0 x.1 y.0 y.1 p q (made_of_sides k (s - k) x.0 x.1 p x.2) (made_of_sides m (s - m) y.0 y.1 q y.2) e) [
        | inl h ↦ omega (arith, sym x.2.first.sized ∙ ap size h.0 ∙ y.2.first.sized)
        | inr h ↦ omega (arith, sym x.2.first.sized ∙ ap size h.0 ∙ y.2.second.sized)
      ]

  -- ---- the order

  abbrev of_size : ℕ → List Pair
  of_size s = flat_map (λ k. pairs_sized g k (s - k)) (range_with_len 1 (s / 2))

  of_size_from : (s : ℕ) (p : Pair) → Contains (of_size s) p → Pairs g p × (size (union p.a p.b) ≡ s)
  of_size_from s p h =
      let k : (k : ℕ) × Contains (range_with_len 1 (s / 2)) k × Contains (pairs_sized g k (s - k)) p = contains_from_flat_map (λ k. pairs_sized g k (s - k)) (range_with_len 1 (s / 2)) p h in
      let m : SomeMade k.0 (s - k.0) p = sized_from k.0 (s - k.0) p k.2 in
      let b : (1 ≤ k.0) × (k.0 < 1 + s / 2) = contains_from_range 1 (s / 2) k.0 k.1 in
      (made_pair k.0 (s - k.0) m.0 m.1 p m.2, omega (arith, made_size k.0 (s - k.0) m.0 m.1 p m.2))

  -- a pair whose union is as large builds no side
  builds_larger : (p q : Pair) → Pairs g p → size (union p.a p.b) ≤ size (union q.a q.b) → BuildsSide q p → ⊥
  builds_larger p q h l b =
      elim b [
        | inl e ↦ omega (arith, ap size e, size-union p.a p.b h.apart, size_positive p.b h.second.some)
        | inr e ↦ omega (arith, ap size e, size-union p.a p.b h.apart, size_positive p.a h.first.some)
      ]

  of_size_order : (s : ℕ) → AllPairs MayPrecede (of_size s)
  of_size_order s =
      pairs_weaker MayPrecede Distinct (of_size s) once
      (λ p q mp mq d. (d, builds_larger p q (of_size_from s p mp).0 (omega (arith, (of_size_from s p mp).1, (of_size_from s q mq).1))))
    where
      once : AllPairs Distinct (of_size s)
      once =
          pairs_flat_map Distinct (λ k m. k < m) (λ k. pairs_sized g k (s - k)) (range_with_len 1 (s / 2)) (pairs_range 1 (s / 2))
          (λ k m. sized_once k (s - k))
          (λ k m p q mk mm l mp mq.
          made_apart s k m p q l (omega (arith, (contains_from_range 1 (s / 2) m mm).1)) (sized_from k (s - k) p mp) (sized_from m (s - m) q mq))

  pub size_sound : (p : Pair) → Contains (seq_dpsize g) p → Pairs g p
  unfolding seq_dpsize
  size_sound p h =
      let s : (s : ℕ) × Contains (range_with_len 2 (g.n - 1)) s × Contains (of_size s) p = contains_from_flat_map of_size (range_with_len 2 (g.n - 1)) p h in
      (of_size_from s.0 p s.2).0

  pub size_order : AllPairs MayPrecede (seq_dpsize g)
  unfolding seq_dpsize
  size_order =
      pairs_flat_map MayPrecede (λ s t. s < t) of_size (range_with_len 2 (g.n - 1)) (pairs_range 2 (g.n - 1)) (λ s m. of_size_order s)
      (λ s t p q ms mt l mp mq.
      let x : Pairs g p × (size (union p.a p.b) ≡ s) = of_size_from s p mp in
      let y : Pairs g q × (size (union q.a q.b) ≡ t) = of_size_from t q mq in (
        λ e. omega (arith, ap (λ p. size (union p.a p.b)) e, x.1, y.1),
        builds_larger p q x.0 (omega (arith, x.1, y.1)),
      ))

  -- ---- each pair stands in the list

  first_smaller : (p : Pair) → Pairs g p → least p.a < least p.b
  first_smaller p h =
      let own : IsLeast p.a (least p.a) = connected_least g p.a ok h.first in
      let other : IsLeast p.b (least p.b) = connected_least g p.b ok h.second in
      let f : IsLeast (union p.a p.b) (least (union p.a p.b)) = least_is (union p.a p.b) g.n (union_within p.a p.b (full g.n) h.first.within h.second.within) ok.few (union_some p.a p.b h.first.some) in
      let ne : least p.a ≢ least p.b = λ e. h.apart (least p.a) own.0 (subst (Has p.b) (sym e) other.0) in
      omega (
        arith,
        f.1 (least p.b) (union_right p.a p.b (least p.b) other.0),
        own.1 (least (union p.a p.b)) (h.least (least (union p.a p.b)) f),
        ne,
      )

  sized_has : (p : Pair) (k l : ℕ) → Pairs g p → size p.a ≡ k → size p.b ≡ l → Contains (pairs_sized g k l) p × Contains (pairs_sized g l k) p
  unfolding pairs_sized
  sized_has p k l h ek el =
      elim (cases_eq k l) [
        | inl e ↦ (
          subst (λ s. Contains s p) (sym (cond-true (nat_eq k l) (pairs_after g (part g k)) (flat_map (pairs_with g (part g l)) (part g k)) (eq-eqb k l e))) (one k ek (el ∙ sym e)),
          subst (λ s. Contains s p) (sym (cond-true (nat_eq l k) (pairs_after g (part g l)) (flat_map (pairs_with g (part g k)) (part g l)) (eq-eqb l k (sym e)))) (one l (ek ∙ e) el),
        )
        | inr ne ↦ (
          subst (λ s. Contains s p) (sym (cond-false (nat_eq k l) (pairs_after g (part g k)) (flat_map (pairs_with g (part g l)) (part g k)) (ne_eqb k l ne)))
              (contains_flat_map (pairs_with g (part g l)) (part g k) p.a p ((part_has g ok k p.a).1 (record { connected = h.first; sized = ek }))
              (subst (Contains (pairs_with g (part g l) p.a)) forth (with_has (part g l) p.a p.b ((part_has g ok l p.b).1 (record { connected = h.second; sized = el })) fit))),
          subst (λ s. Contains s p) (sym (cond-false (nat_eq l k) (pairs_after g (part g l)) (flat_map (pairs_with g (part g k)) (part g l)) (ne_eqb l k (λ e. ne (sym e)))))
              (contains_flat_map (pairs_with g (part g k)) (part g l) p.b p ((part_has g ok l p.b).1 (record { connected = h.second; sized = el }))
              (subst (Contains (pairs_with g (part g k) p.b)) back (with_has (part g k) p.b p.a ((part_has g ok k p.a).1 (record { connected = h.first; sized = ek })) (joinable_back p.a p.b fit)))),
        )
      ]
    where
      fit : Joinable p.a p.b
      fit = record { apart = h.apart; crossed = h.crossed }

      smaller : least p.a < least p.b
      smaller = first_smaller p h

      forth : pair_by_least p.a p.b ≡ p
      forth = pair_first p.a p.b smaller

      back : pair_by_least p.b p.a ≡ p
      back = pair_second p.b p.a (omega (arith, smaller))

      one : (m : ℕ) → size p.a ≡ m → size p.b ≡ m → Contains (pairs_after g (part g m)) p
      one m ea eb =
          after_has (part g m) p.a p.b p
          ((part_has g ok m p.a).1 (record { connected = h.first; sized = ea }))
          ((part_has g ok m p.b).1 (record { connected = h.second; sized = eb }))
          (not_itself p.a p.b h.apart h.second.some) fit forth back

  pub size_complete : (p : Pair) → Pairs g p → Contains (seq_dpsize g) p
  unfolding seq_dpsize
  size_complete p h =
      contains_flat_map of_size (range_with_len 2 (g.n - 1)) s p (contains_range 2 (g.n - 1) s (omega (arith, some_a, some_b)) (omega (arith, fits_graph, ok.some)))
      (elim (cases_lt j i) [
        | inl l ↦ contains_flat_map (λ k. pairs_sized g k (s - k)) (range_with_len 1 (s / 2)) j p (contains_range 1 (s / 2) j some_b (omega arith))
            (subst (λ m. Contains (pairs_sized g j m) p) (rest_i) (sized_has p i j h refl refl).1)
        | inr l ↦ contains_flat_map (λ k. pairs_sized g k (s - k)) (range_with_len 1 (s / 2)) i p (contains_range 1 (s / 2) i some_a (omega arith))
            (subst (λ m. Contains (pairs_sized g i m) p) (rest_j) (sized_has p i j h refl refl).0)
      ])
    where
      i : ℕ
      i = size p.a

      j : ℕ
      j = size p.b

      s : ℕ
      s = size p.a + size p.b

      some_a : 1 ≤ size p.a
      some_a = size_positive p.a h.first.some

      some_b : 1 ≤ size p.b
      some_b = size_positive p.b h.second.some

      rest_i : size p.a ≡ size p.a + size p.b - size p.b
      rest_i = omega arith

      rest_j : size p.b ≡ size p.a + size p.b - size p.a
      rest_j = omega arith

      fits_graph : size p.a + size p.b ≤ g.n
      fits_graph =
          omega (
            arith,
            size-union p.a p.b h.apart,
            size_full (union p.a p.b) g.n (λ r m. elim (union_cases p.a p.b r m) [ inl x ↦ h.first.within r x | inr x ↦ h.second.within r x ]),
          )

  pub dpsize_complete : Complete g (seq_dpsize g)
  dpsize_complete = complete_from g (seq_dpsize g) size_sound size_complete size_order

  pub dpsize_ordered : Ordered (seq_dpsize g)
  dpsize_ordered = ordered_from g (seq_dpsize g) ok size_sound size_complete size_order
