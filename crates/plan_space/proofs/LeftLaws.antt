-- The least words of left-deep trees: of a set from those of the set without one of its relations.
use Rattle.std.proofs.Common.{◌≡◌, ◌≢◌, ℕ, zero, suc, ◌+◌, ◌*◌, ◌≤◌, ◌<◌, inl, inr, arith, refl, sym, ◌∙◌, ap, subst, min}
use Rattle.std.proofs.lemmas.Bool.{cases_eq, cases_lt, cases_Bool, true≢false}
use Rattle.dpe_base.specs.declared.TheConstants.{COST_LIMIT, ROW_CAP, EMPTY}
use Rattle.dpe_base.specs.Queries.{JoinQuery, relations, IsQuery}
use Rattle.dpe_base.specs.Sets.{Has, Within, Disjoint, member, meets, union, minus, single, full, size}
use Rattle.dpe_base.proofs.SetLaws.{sets, same_set, member-same, single_some, full_limit}
use Rattle.dpe_base.proofs.SizeLaws.{union_add, size-union, size-single, size_none, size_one, size_full}
use Rattle.join_graph.specs.Graphs.{Connected, Crossed, graph_of}
use Rattle.join_graph.proofs.Edges.{graph_is}
use Rattle.join_graph.proofs.GraphLaws.{Extended, connected_extended, crossed_back}
use Rattle.card_scaled.specs.Cards.{rows}
use Rattle.card_scaled.proofs.CardLaws.{rows_bounds}
use Rattle.cost_model.specs.Costs.{operators, join_cost}
use Rattle.cost_model.specs.Words.{word, word_cost}
use Rattle.cost_model.proofs.CostLaws.{operators_some, operators_few, first_cost_capped}
use Rattle.cost_model.proofs.WordLaws.{word_mono, word_not_empty}
use Rattle.join_tree.specs.Trees.{JoinTree, leaf, join, set_of, cost, leaf_word, root_word, Legal, HasWord}
use Rattle.join_tree.proofs.TreeLaws.{legal_connected, join_size, connected_size_some, connected_single_known}
use Rattle.join_tree.proofs.BestLaws.{legal_small, legal_word, word_reads}
use Rattle.pair_stream.specs.Connectivity.{adjacent_to_members}
use Rattle.pair_stream.proofs.ConnectivityLaws.{joined_true}
use Rattle.plan_space.specs.declared.class.Class.TheVariants.{LeftDeep}
use Rattle.plan_space.specs.Classes.{InClass, LeastIn}
use Rattle.plan_space.specs.LeastWords.{LeastOrEmpty, IsLeastOf, JoinsBelow}
use Rattle.plan_space.proofs.ClassLaws.{left_in, least_same}
use Rattle.plan_space.proofs.LeastOf.{least_none, least_alone, least_again, least_both}

-- ---- sets

-- the rest of a set without one of its relations
pub rest_smaller : (s r : ℕ) → Has s r → minus s (single r) < s
rest_smaller s r h =
    let whole : union (minus s (single r)) (single r) ≡ s = same_set _ _ (λ k. grind (arith, sets, h)) in
    omega (arith, whole, union_add (minus s (single r)) (single r) (λ k. grind (arith, sets)), single_some r)

rest_again : (s r : ℕ) → Has s r → union (minus s (single r)) (single r) ≡ s
rest_again s r h = same_set _ _ (λ k. grind (arith, sets, h))

rest_of_union : (a r : ℕ) → Disjoint a (single r) → minus (union a (single r)) (single r) ≡ a
rest_of_union a r d = same_set _ _ (λ k. grind (arith, sets, d k))

-- an operator more
pub joins_more : (model n left first l r o v here : ℕ) → IsLeastOf (JoinsBelow n model left first l r o) v → here ≡ word (word_cost first + join_cost model n l r o) n left → IsLeastOf (JoinsBelow (suc n) model left first l r o) (min v here)
joins_more model n left first l r o v here x e =
    least_both (JoinsBelow n model left first l r o) (λ u. u ≡ here) (JoinsBelow (suc n) model left first l r o) v here x (least_alone here)
    (λ u h. (h.0, omega (arith, h.1), h.2))
    (λ u h. (n, omega arith, h ∙ e))
    (λ u h. elim (cases_eq h.0 n) [ inl same ↦ inr (h.2 ∙ ap (λ k. word (word_cost first + join_cost model k l r o) k left) same ∙ sym e) | inr other ↦ inl (h.0, omega (arith, h.1), h.2) ])

module _ (model : ℕ) (q : JoinQuery) (ok : IsQuery q) where
  -- ---- each connected set has a left-deep tree with a word

  abbrev Cheap : ℕ → Type 0
  Cheap s = (t : JoinTree) × InClass LeftDeep model (graph_of q) t × (set_of t ≡ s) × (cost model q t + 4 * ROW_CAP ≤ size s * (4 * ROW_CAP))

  cheap_more : (s : ℕ) (e : Extended (graph_of q) s) → Cheap e.part → Cheap s
  cheap_more s e a =
      let first : join_cost model 0 (rows q (set_of a.0)) (rows q (single e.last)) (rows q (union (set_of a.0) (single e.last))) ≤ 4 * ROW_CAP =
      first_cost_capped model _ _ _ (rows_bounds q _).1 (rows_bounds q _).1 (rows_bounds q _).1 in (
        join 0 a.0 (leaf e.last),
        record { legal = (operators_some model, a.1.legal, e.known, rw a.2 e.apart, rw a.2 e.crossed); joins = (tt, a.1.joins, tt) },
        ap (λ x. union x (single e.last)) a.2 ∙ e.whole,
        omega (arith, first, a.3, size-union e.part (single e.last) e.apart, size-single e.last, ap size e.whole),
      )

  cheap_left : (n s : ℕ) → s < n → Connected (graph_of q) s → Cheap s
  cheap_left zero s l c = absurd (omega arith)
  cheap_left (suc n) s l c =
      elim (cases_lt (size s) 2) [
        | inl one ↦
            let e : (r : ℕ) × (s ≡ single r) = size_one s (omega (arith, connected_size_some (graph_of q) s c)) in
            (leaf e.0, record { legal = connected_single_known (graph_of q) s e.0 c e.1; joins = tt }, sym e.1, omega (arith, connected_size_some (graph_of q) s c))
        | inr many ↦
            let e : Extended (graph_of q) s = connected_extended (graph_of q) s c many in
            cheap_more s e (cheap_left n e.part (omega (arith, l, e.whole, union_add e.part (single e.last) e.apart, single_some e.last)) e.connected)
      ]

  abbrev pub HasTree : ℕ → Type 0
  HasTree s = (t : JoinTree) × InClass LeftDeep model (graph_of q) t × (set_of t ≡ s) × (cost model q t < COST_LIMIT)

  pub left_tree : (s : ℕ) → Connected (graph_of q) s → HasTree s
  left_tree s c =
      let t : Cheap s = cheap_left (suc s) s (omega arith) c in
      (t.0, t.1, t.2, omega (arith, t.3, size_full s (relations q) c.within, ok.few))

  -- ---- the words of the joins with a last relation

  -- v is the word of a join of the rest of s with its relation r, on the least word of the rest
  abbrev pub LastIn : ℕ → ℕ → ℕ → Type 0
  LastIn s r v =
      (first : ℕ)
      × LeastIn LeftDeep model q (minus s (single r)) first
      × Crossed (graph_of q) (single r) (minus s (single r))
      × JoinsBelow (operators model) model (minus s (single r)) first (rows q (minus s (single r))) (rows q (single r)) (rows q s) v

  abbrev pub AnyLast : ℕ → ℕ → Type 0
  AnyLast s v = (r : ℕ) × Has s r × LastIn s r v

  -- each smaller connected set has a least word
  abbrev pub SmallerHaveWords : ℕ → Type 0
  SmallerHaveWords s = (x : ℕ) → x < s → Connected (graph_of q) x → (w : ℕ) × LeastIn LeftDeep model q x w

  -- no tree with a last relation has a smaller word than the least
  lower_first : (op r w v first : ℕ) (l : JoinTree) → InClass LeftDeep model (graph_of q) (join op l (leaf r)) → LeastIn LeftDeep model q (set_of l) first → IsLeastOf (AnyLast (union (set_of l) (single r))) w → HasWord model q (join op l (leaf r)) v → w ≤ v
  lower_first op r w v first l i first_least least has =
      let u : ℕ = union (set_of l) (single r) in
      let e : minus u (single r) ≡ set_of l = rest_of_union (set_of l) r i.legal.3 in
      let below : cost model q l < COST_LIMIT = omega (arith, has.below) in
      let cheaper : word_cost first ≤ cost model q l =
      omega (arith, first_least.least l (root_word model q l) (left_in LeftDeep model q ok op l (leaf r) i) refl (record { below = below; is = refl }), word_reads model q l ok i.legal.1 below) in
      let value = λ (a : ℕ). word (word_cost first + join_cost model op (rows q a) (rows q (single r)) (rows q u)) op a in
      let candidate : AnyLast u (value (minus u (single r))) =
      (r, grind (arith, sets), (first, rw e first_least, rw e (crossed_back (graph_of q) (set_of l) (single r) i.legal.4), (op, i.legal.0, refl))) in
      let at_most : value (set_of l) ≤ word (cost model q (join op l (leaf r))) op (set_of l) =
      word_mono (word_cost first + join_cost model op (rows q (set_of l)) (rows q (single r)) (rows q u)) (cost model q (join op l (leaf r))) op (set_of l) (omega (arith, operators_few model op i.legal.0)) (legal_small model q l ok i.legal.1) (omega (arith, cheaper)) in
      omega (arith, least.least (value (minus u (single r))) candidate, ap value e, at_most, has.is)

  lower_join : (op r w v : ℕ) (l : JoinTree) → InClass LeftDeep model (graph_of q) (join op l (leaf r)) → SmallerHaveWords (union (set_of l) (single r)) → IsLeastOf (AnyLast (union (set_of l) (single r))) w → HasWord model q (join op l (leaf r)) v → w ≤ v
  lower_join op r w v l i smaller least has =
      let x : (w : ℕ) × LeastIn LeftDeep model q (set_of l) w =
      smaller (set_of l) (omega (arith, union_add (set_of l) (single r) i.legal.3, single_some r)) (legal_connected model (graph_of q) l i.legal.1) in
      lower_first op r w v x.0 l i x.1 least has

  lower : (s w v : ℕ) (t : JoinTree) → 2 ≤ size s → SmallerHaveWords s → IsLeastOf (AnyLast s) w → InClass LeftDeep model (graph_of q) t → set_of t ≡ s → HasWord model q t v → w ≤ v
  lower s w v (leaf r) many smaller least i e has = absurd (omega (arith, many, ap size e, size-single r))
  lower s w v (join op l (leaf r)) many smaller least i e has =
      lower_join op r w v l i (subst SmallerHaveWords (sym e) smaller) (subst (λ x. IsLeastOf (AnyLast x) w) (sym e) least) has
  lower s w v (join op l (join op' a b)) many smaller least i e has = absurd i.joins.0

  -- such a word is the word of a left-deep tree
  last_made : (s r w : ℕ) → Within s (full (relations q)) → Has s r → LastIn s r w → w ≢ EMPTY → (t : JoinTree) × InClass LeftDeep model (graph_of q) t × (set_of t ≡ s) × HasWord model q t w
  last_made s r w known h x some =
      let t : JoinTree = x.1.some.0 in
      let i : InClass LeftDeep model (graph_of q) t = x.1.some.1 in
      let over : set_of t ≡ minus s (single r) = x.1.some.2 in
      let word_is : HasWord model q t x.0 = x.1.some.3 in
      let whole : union (set_of t) (single r) ≡ s = ap (λ a. union a (single r)) over ∙ rest_again s r h in
      let reads : word_cost x.0 ≡ cost model q t = ap word_cost (sym word_is.is) ∙ word_reads model q t ok i.legal word_is.below in
      let op : ℕ = x.3.0 in
      let costs : word_cost x.0 + join_cost model op (rows q (minus s (single r))) (rows q (single r)) (rows q s) ≡ cost model q (join op t (leaf r)) =
      rw (← over, ← whole) (omega (arith, reads)) in
      let is : root_word model q (join op t (leaf r)) ≡ w =
      ap (λ k. word k op (set_of t)) (sym costs) ∙ ap (word (word_cost x.0 + join_cost model op (rows q (minus s (single r))) (rows q (single r)) (rows q s)) op) over ∙ sym x.3.2 in
      let apart : Disjoint (set_of t) (single r) = rw over (λ k. grind (arith, sets)) in
      let crossed : Crossed (graph_of q) (set_of t) (single r) = rw over (crossed_back (graph_of q) (single r) (minus s (single r)) x.2) in
      let legal : Legal model (graph_of q) (join op t (leaf r)) = (x.3.1, i.legal, full_limit (relations q) r (known r h), apart, crossed) in (
        join op t (leaf r),
        record { legal = legal; joins = (tt, i.joins, tt) },
        whole,
        record {
          below = word_not_empty (cost model q (join op t (leaf r))) op (set_of t) (operators_few model op x.3.1) (legal_small model q t ok i.legal) (λ e. some (sym is ∙ e));
          is = is;
        },
      )

  -- the least of these words is the least of the set, and EMPTY where the set isn't connected
  pub left_step : (s w : ℕ) → Within s (full (relations q)) → 2 ≤ size s → SmallerHaveWords s → IsLeastOf (AnyLast s) w → LeastOrEmpty LeftDeep model q s w
  left_step s w known many smaller least =
      elim (cases_eq w EMPTY) [
        | inl e ↦ inr (e, none e)
        | inr some ↦ elim least.one [ inl e ↦ absurd (some e) | inr x ↦ inl (record { some = last_made s x.0 w known x.1 x.2 some; least = λ t v i e h. lower s w v t many smaller least i e h }) ]
      ]
    where
      none : w ≡ EMPTY → (t : JoinTree) → InClass LeftDeep model (graph_of q) t → set_of t ≡ s → ⊥
      none e t i over =
          let u : HasTree s = left_tree s (subst (Connected (graph_of q)) over (legal_connected model (graph_of q) t i.legal)) in
          let has : HasWord model q u.0 (root_word model q u.0) = record { below = u.3; is = refl } in
          omega (arith, e, lower s w (root_word model q u.0) u.0 many smaller least u.1 u.2 has, legal_word model q u.0 (root_word model q u.0) ok u.1.legal has)

  -- ---- sets of one relation, and of none

  pub left_leaf : (r : ℕ) → r < relations q → LeastIn LeftDeep model q (single r) (leaf_word r)
  left_leaf r known =
      record {
        some = (leaf r, record { legal = known; joins = tt }, refl, record { below = omega arith; is = refl });
        least = λ t v i over has. only t v i.legal over has;
      }
    where
      only : (t : JoinTree) (v : ℕ) → Legal model (graph_of q) t → set_of t ≡ single r → HasWord model q t v → leaf_word r ≤ v
      only (leaf k) v m over has = omega (arith, has.is, over)
      only (join op x y) v m over has = absurd (omega (arith, join_size model (graph_of q) op x y m, ap size over, size-single r))

  pub left_empty : LeastOrEmpty LeftDeep model q 0 EMPTY
  left_empty = inr (refl, λ t i over. (legal_connected model (graph_of q) t i.legal).some over)

  -- the word of a connected set is its least
  pub left_least : (s w : ℕ) → Connected (graph_of q) s → LeastOrEmpty LeftDeep model q s w → LeastIn LeftDeep model q s w
  left_least s w c h =
      elim h [
        | inl x ↦ x
        | inr x ↦ let t : HasTree s = left_tree s c in absurd (x.1 t.0 t.1 t.2)
      ]

  -- ---- each set of relations has such a word

  joins_exist : (n left first l r o : ℕ) → (w : ℕ) × IsLeastOf (JoinsBelow n model left first l r o) w
  joins_exist zero left first l r o = (EMPTY, least_none _ (λ v h. omega (arith, h.1)))
  joins_exist (suc n) left first l r o =
      let x : (w : ℕ) × IsLeastOf (JoinsBelow n model left first l r o) w = joins_exist n left first l r o in
      let here : ℕ = word (word_cost first + join_cost model n l r o) n left in
      (min x.0 here, joins_more model n left first l r o x.0 here x.1 refl)

  -- at one relation: the search asks whether it is in the set, whether the rest has a word, and whether an edge joins the two
  abbrev EachHasWord : ℕ → Type 0
  EachHasWord s = (x : ℕ) → x < s → Within x (full (relations q)) → (w : ℕ) × LeastOrEmpty LeftDeep model q x w

  abbrev LastOf : ℕ → ℕ → ℕ → Type 0
  LastOf s r v = Has s r × LastIn s r v

  last_exists : (s r : ℕ) → Within s (full (relations q)) → EachHasWord s → (w : ℕ) × IsLeastOf (LastOf s r) w
  last_exists s r known each =
      elim (cases_eq (member s r) 1) [
        | inr out ↦ (EMPTY, least_none (LastOf s r) (λ v h. out h.0))
        | inl in_s ↦
            let rest : ℕ = minus s (single r) in
            let x : (w : ℕ) × LeastOrEmpty LeftDeep model q rest w = each rest (rest_smaller s r in_s) (λ k h. known k (grind (arith, sets))) in
            elim x.1 [
              | inr none ↦ (EMPTY, least_none (LastOf s r) (λ v h. none.1 h.1.1.some.0 h.1.1.some.1 h.1.1.some.2))
              | inl least ↦
                  elim (cases_Bool (meets (adjacent_to_members (graph_of q) (single r) (relations q)) rest)) [
                    | inr unmet ↦ (EMPTY, least_none (LastOf s r) (λ v h. true≢false (sym ((joined_true (graph_of q) (single r) rest (graph_is q ok)).1 h.1.2) ∙ unmet)))
                    | inl met ↦
                        let found : (w : ℕ) × IsLeastOf (JoinsBelow (operators model) model rest x.0 (rows q rest) (rows q (single r)) (rows q s)) w =
                        joins_exist (operators model) rest x.0 (rows q rest) (rows q (single r)) (rows q s) in (
                          found.0,
                          least_again (JoinsBelow (operators model) model rest x.0 (rows q rest) (rows q (single r)) (rows q s)) (LastOf s r) found.0
                              (λ v h. (in_s, (x.0, least, (joined_true (graph_of q) (single r) rest (graph_is q ok)).0 met, h)))
                              (λ v h. subst (λ k. JoinsBelow (operators model) model rest k (rows q rest) (rows q (single r)) (rows q s) v) (least_same LeftDeep model q ok rest h.1.0 x.0 h.1.1 least) h.1.3)
                              found.1,
                        )
                  ]
            ]
      ]

  abbrev LastBelow : ℕ → ℕ → ℕ → Type 0
  LastBelow s n v = (r : ℕ) × (r < n) × LastOf s r v

  lasts_exist : (n s : ℕ) → Within s (full (relations q)) → EachHasWord s → (w : ℕ) × IsLeastOf (LastBelow s n) w
  lasts_exist zero s known each = (EMPTY, least_none (LastBelow s zero) (λ v h. omega (arith, h.1)))
  lasts_exist (suc n) s known each =
      let x : (w : ℕ) × IsLeastOf (LastBelow s n) w = lasts_exist n s known each in
      let y : (w : ℕ) × IsLeastOf (LastOf s n) w = last_exists s n known each in (
        min x.0 y.0,
        least_both (LastBelow s n) (LastOf s n) (LastBelow s (suc n)) x.0 y.0 x.1 y.1
            (λ u h. (h.0, omega (arith, h.1), h.2))
            (λ u h. (n, omega arith, h))
            (λ u h. elim (cases_eq h.0 n) [ inl same ↦ inr (subst (λ k. LastOf s k u) same h.2) | inr other ↦ inl (h.0, omega (arith, h.1), h.2) ]),
      )

  pub left_exists : (n s : ℕ) → s < n → Within s (full (relations q)) → (w : ℕ) × LeastOrEmpty LeftDeep model q s w
  left_exists zero s l known = absurd (omega arith)
  left_exists (suc n) s l known =
      elim (cases_lt (size s) 2) [
        | inl few ↦
            elim (cases_eq (size s) 0) [
              | inl none ↦ (EMPTY, subst (λ x. LeastOrEmpty LeftDeep model q x EMPTY) (sym (size_none s none)) left_empty)
              | inr some ↦
                  let e : (r : ℕ) × (s ≡ single r) = size_one s (omega (arith, few)) in
                  let in_q : e.0 < relations q = full_limit (relations q) e.0 (known e.0 (grind (arith, sets, member-same e.1 e.0))) in
                  (leaf_word e.0, inl (subst (λ x. LeastIn LeftDeep model q x (leaf_word e.0)) (sym e.1) (left_leaf e.0 in_q)))
            ]
        | inr many ↦
            let each : EachHasWord s = λ x lt w. left_exists n x (omega (arith, lt, l)) w in
            let x : (w : ℕ) × IsLeastOf (LastBelow s (relations q)) w = lasts_exist (relations q) s known each in (
              x.0,
              left_step s x.0 known many (λ y lt c. let z : (w : ℕ) × LeastOrEmpty LeftDeep model q y w = each y lt c.within in (z.0, left_least y z.0 c z.1))
                  (least_again (LastBelow s (relations q)) (AnyLast s) x.0 (λ v h. (h.0, h.2.0, h.2.1)) (λ v h. (h.0, full_limit (relations q) h.0 (known h.0 h.1), (h.1, h.2))) x.1),
            )
      ]

-- each connected set has a least left-deep word
pub connected_left : (model : ℕ) (q : JoinQuery) (s : ℕ) → IsQuery q → Connected (graph_of q) s → (w : ℕ) × LeastIn LeftDeep model q s w
connected_left model q s ok c =
    let x : (w : ℕ) × LeastOrEmpty LeftDeep model q s w = left_exists model q ok (suc s) s (omega arith) c.within in
    (x.0, left_least model q ok s x.0 c x.1)
