-- The steps of `left_words`: of the operators, of the last relations, and of the sets.
use Rattle.std.proofs.Common.{◌≡◌, ◌≢◌, ℕ, suc, ◌+◌, ◌*◌, ◌^◌, ◌≤◌, ◌<◌, inl, inr, arith, refl, sym, ◌∙◌, ap, subst, min, List, length, slice_index, replicate, ◌%◌}
use Rattle.std.proofs.lemmas.List.{length-replicate, get_or-replicate}
use Rattle.std.proofs.lemmas.Nat.{one_shl, pow_pos}
use Rattle.std.proofs.lemmas.Bool.{cases_eq, cases_lt}
use Rattle.dpe_base.specs.declared.TheConstants.{ROW_CAP, EMPTY}
use Rattle.dpe_base.specs.Queries.{JoinQuery, relations, IsQuery}
use Rattle.dpe_base.specs.Sets.{Has, Within, minus, single, full, size}
use Rattle.dpe_base.proofs.SetLaws.{sets, same_set, member-same, member-above, full_limit, single_some, minus_has, minus_left, single_one}
use Rattle.dpe_base.proofs.SizeLaws.{size_none, size_one, size-single}
use Rattle.join_graph.specs.Graphs.{JoinGraph, Crossed, Connected, graph_of}
use Rattle.card_scaled.specs.Cards.{RowTable, rows, IsCardTable}
use Rattle.card_scaled.proofs.CardLaws.{rows_bounds}
use Rattle.cost_model.specs.declared.model.TheConstants.{LEAF}
use Rattle.cost_model.specs.Costs.{operators, join_cost}
use Rattle.cost_model.specs.Words.{word, word_cost}
use Rattle.cost_model.proofs.WordLaws.{word-below}
use Rattle.join_tree.specs.Trees.{leaf_word}
use Rattle.plan_space.specs.declared.class.Class.TheVariants.{LeftDeep}
use Rattle.plan_space.specs.Classes.{LeastIn}
use Rattle.plan_space.specs.LeastWords.{LeastOrEmpty, IsLeastOf, JoinsBelow, EndsWith, HasRows}
use Rattle.plan_space.proofs.ClassLaws.{least_same, least_not_empty, least_connected}
use Rattle.plan_space.proofs.LeastOf.{least_again, least_both}
use Rattle.plan_space.proofs.LeftLaws.{rest_smaller, LastIn, AnyLast, left_step, left_leaf, left_empty, left_least, joins_more}

-- ---- sets

pub in_graph : (n s r : ℕ) → Within s (full n) → Has s r → r < n
in_graph n s r known has = full_limit n r (known r has)

pub last_within : (n s r last : ℕ) → Within s (full n) → Has s r → last ≡ single r → Within last (full n)
last_within n s r last known has e k h = grind (arith, sets, known r has, member-same e k)

pub left_within : (n s last left : ℕ) → Within s (full n) → left ≡ minus s last → Within left (full n)
left_within n s last left known e k h = known k (minus_left s last k (subst (λ x. Has x k) e h))

-- a set of two relations or more has a rest without one of them
pub rest_some : (s r last left : ℕ) → 2 ≤ size s → Has s r → last ≡ single r → left ≡ minus s last → left ≢ 0
rest_some s r last left many has e f none =
    let one : s ≡ single r = same_set _ _ (λ k. grind (arith, sets, has, member-same e k, member-same f k, member-same none k)) in
    omega (arith, many, ap size one, size-single r)

pub many_from : (s len : ℕ) → s ≢ 0 → len ≡ size s → len ≢ 1 → 2 ≤ size s
many_from s len some e ne = elim (cases_eq (size s) 0) [ inl none ↦ absurd (some (size_none s none)) | inr other ↦ omega (arith, e, ne, other) ]

pub rows_in : (table : RowTable) (n s row : ℕ) → HasRows table → table.n ≡ n → s ≢ 0 → Within s (full n) → row ≡ slice_index table.rows s → (1 ≤ row) × (row ≤ ROW_CAP)
rows_in table n s row all e some within is = rw is (all s some (subst (λ k. Within s (full k)) (sym e) within))

-- ---- operators

pub joins_next : (n model left first below l r o v here m : ℕ) → IsLeastOf (JoinsBelow n model left first l r o) v → below ≡ word_cost first → here ≡ word (below + join_cost model n l r o) n left → m ≡ min v here → IsLeastOf (JoinsBelow (n + 1) model left first l r o) m
joins_next n model left first below l r o v here m x e f is =
    let one : suc n ≡ n + 1 = omega arith in
    rw is (subst (λ (k : ℕ). IsLeastOf (JoinsBelow k model left first l r o) (min v here)) one (joins_more model n left first l r o v here x (f ∙ ap (λ (k : ℕ). word (k + join_cost model n l r o) n left) e)))

-- ---- last relations

pub ends_with : (model : ℕ) (g : JoinGraph) (table words : List ℕ) (s r last left bits l k o w : ℕ) → last ≡ single r → left ≡ minus s last → bits ≡ left → l ≡ slice_index table left → k ≡ slice_index table last → o ≡ slice_index table s → slice_index words bits ≢ EMPTY → Crossed g last left → IsLeastOf (JoinsBelow (operators model) model left (slice_index words bits) l k o) w → IsLeastOf (EndsWith model g table words s r) w
ends_with model g table words s r last left bits l k o w is_last is_left is_bits is_l is_k is_o some crossed x =
    least_again (JoinsBelow (operators model) model left (slice_index words bits) l k o) (EndsWith model g table words s r) w
    (λ v h. (λ e. some (first ∙ ap (slice_index words) whole ∙ e), rw (← whole, ← is_last) crossed, rw (← whole, ← first, ← is_l, ← is_last, ← is_k, ← is_o) h))
    (λ v h. rw (← whole, ← first, ← is_l, ← is_last, ← is_k, ← is_o) at h.2)
    x
  where
    whole : left ≡ minus s (single r)
    whole = is_left ∙ ap (minus s) is_last

    first : slice_index words bits ≡ slice_index words left
    first = ap (slice_index words) is_bits

-- a relation more
pub last_smaller : (rest r one later : ℕ) → Has rest r → one ≡ single r → later ≡ minus rest one → later < rest
last_smaller rest r one later has e f = omega (arith, f, ap (minus rest) e, rest_smaller rest r has)

pub fewer_within : (s rest one later : ℕ) → Within rest s → later ≡ minus rest one → Within later s
fewer_within s rest one later within e k h = within k (minus_left rest one k (subst (λ a. Has a k) e h))

abbrev VisitedEndsWith : ℕ → JoinGraph → List ℕ → List ℕ → ℕ → ℕ → ℕ → Type 0
VisitedEndsWith model g table words s rest v = (r : ℕ) × (Has rest r → ⊥) × Has s r × EndsWith model g table words s r v

pub last_next : (model : ℕ) (g : JoinGraph) (table words : List ℕ) (s rest r one later v here m : ℕ) → Within rest s → Has rest r → one ≡ single r → later ≡ minus rest one → IsLeastOf (VisitedEndsWith model g table words s rest) v → IsLeastOf (EndsWith model g table words s r) here → m ≡ min v here → IsLeastOf (VisitedEndsWith model g table words s later) m
last_next model g table words s rest r one later v here m within has is_one is_later x y is =
    rw is (least_both (VisitedEndsWith model g table words s rest) (EndsWith model g table words s r) (VisitedEndsWith model g table words s later) v here x y
    (λ u h. (h.0, (λ in_later. h.1 (minus_left rest one h.0 (subst (λ a. Has a h.0) is_later in_later))), h.2, h.3))
    (λ u h. (r, gone, within r has, h))
    (λ u h. elim (cases_eq h.0 r) [
      | inl same ↦ inr (subst (λ a. EndsWith model g table words s a u) same h.3)
      | inr other ↦ inl (h.0, (λ in_rest. h.1 (subst (λ a. Has a h.0) (sym is_later) (minus_has rest one h.0 in_rest (λ z. other (sym (single_one r h.0 (subst (λ a. Has a h.0) is_one z))))))), h.2, h.3)
    ]))
  where
    gone : Has later r → ⊥
    gone h = grind (arith, sets, h, member-same is_later r, member-same is_one r)

pub last_all : (model : ℕ) (g : JoinGraph) (table words : List ℕ) (s rest v : ℕ) → rest ≡ 0 → IsLeastOf (VisitedEndsWith model g table words s rest) v → IsLeastOf (λ u. (r : ℕ) × Has s r × EndsWith model g table words s r u) v
last_all model g table words s rest v none x =
    least_again (VisitedEndsWith model g table words s rest) (λ u. (r : ℕ) × Has s r × EndsWith model g table words s r u) v
    (λ u h. (h.0, h.2, h.3))
    (λ u h. (h.0, (λ z. grind (arith, sets, z, member-same none h.0)), h.1, h.2))
    x

-- ---- sets from the smaller ones

pub has_rows : (q : JoinQuery) (table : RowTable) → IsCardTable q table → HasRows table
has_rows q table is s some within =
    rw (is.each s some (subst (λ n. Within s (full n)) is.sized within)) (rows_bounds q s)

pub left_alone : (model : ℕ) (q : JoinQuery) (s len w : ℕ) → IsQuery q → Within s (full (relations q)) → len ≡ size s → len ≡ 1 → w ≡ word 0 LEAF s → LeastOrEmpty LeftDeep model q s w
left_alone model q s len w ok known is one e =
    let r : (r : ℕ) × (s ≡ single r) = size_one s (omega (arith, is, one)) in
    let in_q : r.0 < relations q = full_limit (relations q) r.0 (known r.0 (grind (arith, sets, member-same r.1 r.0))) in
    let here : w ≡ leaf_word r.0 = omega (arith, e, word-below 0 LEAF s (omega arith), r.1) in
    inl (rw here (subst (λ x. LeastIn LeftDeep model q x (leaf_word r.0)) (sym r.1) (left_leaf model q ok r.0 in_q)))

module _ (model : ℕ) (q : JoinQuery) (g : JoinGraph) (table : RowTable) (words : List ℕ) (s : ℕ) (ok : IsQuery q) (is_graph : g ≡ graph_of q) (cards : IsCardTable q table) (known : Within s (full (relations q))) (some : s ≢ 0) (smaller : (x : ℕ) → x < s → LeastOrEmpty LeftDeep model q x (slice_index words x)) where
  rest_within : (r : ℕ) → Within (minus s (single r)) (full (relations q))
  rest_within r k h = known k (minus_left s (single r) k h)

  one_within : (r : ℕ) → Has s r → Within (single r) (full (relations q))
  one_within r has = last_within (relations q) s r (single r) known has refl

  word_of_rest : (r : ℕ) → Has s r → Connected (graph_of q) (minus s (single r)) → LeastIn LeftDeep model q (minus s (single r)) (slice_index words (minus s (single r)))
  word_of_rest r has c = left_least model q ok _ _ c (smaller (minus s (single r)) (rest_smaller s r has))

  row_rest : (r : ℕ) → Connected (graph_of q) (minus s (single r)) → slice_index table.rows (minus s (single r)) ≡ rows q (minus s (single r))
  row_rest r c = cards.each _ c.some (rest_within r)

  row_one : (r : ℕ) → Has s r → slice_index table.rows (single r) ≡ rows q (single r)
  row_one r has = cards.each _ (single_some r) (one_within r has)

  row_all : slice_index table.rows s ≡ rows q s
  row_all = cards.each s some known

  to_last : (r v : ℕ) → Has s r → EndsWith model g table.rows words s r v → LastIn model q ok s r v
  to_last r v has h =
      elim (smaller (minus s (single r)) (rest_smaller s r has)) [
        | inr none ↦ absurd (h.0 none.0)
        | inl least ↦
            let c : Connected (graph_of q) (minus s (single r)) = least_connected LeftDeep model q ok _ _ least in
            (slice_index words (minus s (single r)), least, subst (λ x. Crossed x (single r) (minus s (single r))) is_graph h.1, rw (← row_rest r c, ← row_one r has, ← row_all) h.2)
      ]

  from_last : (r v : ℕ) → Has s r → LastIn model q ok s r v → EndsWith model g table.rows words s r v
  from_last r v has h =
      let c : Connected (graph_of q) (minus s (single r)) = least_connected LeftDeep model q ok _ _ h.1 in
      let mine : LeastIn LeftDeep model q (minus s (single r)) (slice_index words (minus s (single r))) = word_of_rest r has c in
      let same : slice_index words (minus s (single r)) ≡ h.0 = least_same LeftDeep model q ok _ _ _ mine h.1 in (
        λ e. omega (arith, e, least_not_empty LeftDeep model q ok _ _ mine),
        subst (λ x. Crossed x (single r) (minus s (single r))) (sym is_graph) h.2,
        rw (row_rest r c, row_one r has, row_all, same) h.3,
      )

  pub left_many : (w : ℕ) → 2 ≤ size s → IsLeastOf (λ v. (r : ℕ) × Has s r × EndsWith model g table.rows words s r v) w → LeastOrEmpty LeftDeep model q s w
  left_many w many x =
      left_step model q ok s w known many
      (λ y lt c. (slice_index words y, left_least model q ok y (slice_index words y) c (smaller y lt)))
      (least_again (λ v. (r : ℕ) × Has s r × EndsWith model g table.rows words s r v) (AnyLast model q ok s) w
      (λ v h. (h.0, h.1, to_last h.0 v h.1 h.2))
      (λ v h. (h.0, h.1, from_last h.0 v h.1 h.2))
      x)

-- ---- the list

pub below_within : (s n : ℕ) → s < 2 ^ n → Within s (full n)
below_within s n l r h = elim (cases_lt r n) [ inl lt ↦ grind (arith, sets) | inr ge ↦ absurd (omega (arith, h, member-above s n r l ge)) ]

pub size_is : (q : JoinQuery) (n : ℕ) → IsQuery q → n ≡ relations q → 1 * 2 ^ n % 2 ^ 64 ≡ 2 ^ relations q
size_is q n ok e = one_shl n 64 (omega (arith, e, ok.few)) ∙ ap (λ (k : ℕ). 2 ^ k) e

pub words_first : (model : ℕ) (q : JoinQuery) (count : ℕ) (words : List ℕ) → IsQuery q → count ≡ 2 ^ relations q → words ≡ replicate count EMPTY → (length words ≡ 2 ^ relations q) × ((s : ℕ) → s < 1 → LeastOrEmpty LeftDeep model q s (slice_index words s))
words_first model q count words ok is e = (ap length e ∙ length-replicate count EMPTY ∙ is, places)
  where
    some : 0 < count
    some = omega (arith, is, pow_pos (relations q))

    places : (s : ℕ) → s < 1 → LeastOrEmpty LeftDeep model q s (slice_index words s)
    places s l =
        let none : s ≡ 0 = omega (arith, l) in
        let here : slice_index words s ≡ EMPTY = rw (none, e) (get_or-replicate count 0 EMPTY 0 some) in
        rw (here, none) (left_empty model q ok)
