-- One step along a row of sets.
use Rattle.std.proofs.Common.{add-one, ◌≡◌, ◌↔◌, ℕ, ◌+◌, ◌<◌, ◌≤◌, inl, inr, arith, refl, sym, ◌∙◌, ap, Bool, true, false, ◌&&◌, not, List, [], ◌∷◌, ◌++◌, map, length, get_or, drop, suc, drop-cons}
use Rattle.std.specs.List.{filter}
use Rattle.std.proofs.lemmas.Bool.{cases_lt, cond-true, cond-false, and_left, not_from_true, false_from_ne_true, and_from, and_parts, not_from_false}
use Rattle.std.specs.Cmp.{both_ways as test_same}
use Rattle.std.proofs.lemmas.List.{drop_all}
use Rattle.dpe_base.specs.declared.pair.Pair.{Pair}
use Rattle.dpe_base.specs.Sets.{Has, IsLeast, Meets, meets, least}
use Rattle.join_graph.specs.Graphs.{JoinGraph, IsGraph, Edge, Crossed, Connected, IsNeighbours}
use Rattle.pair_stream.specs.Connectivity.{adjacent_to_members}
use Rattle.dpe_base.proofs.SizeLaws.{meets_true}
use Rattle.pair_stream.proofs.ConnectivityLaws.{joined_true, connected_least}
use Rattle.enum_dpsize.specs.Dpsize.{is_joinable, pair_by_least, pairs_with, pairs_after, row_pairs, start_at}
use Rattle.enum_dpsize.specs.DpsizeLeft.{rows_from}

pub not_joinable : (g : JoinGraph) (x y : ℕ) → Meets x y → false ≡ is_joinable g x y
unfolding is_joinable
not_joinable g x y m = sym (and_left (not (meets x y)) (meets (adjacent_to_members g x g.n) y) (not_from_true (meets x y) ((meets_true x y).1 m)))

-- a set is joined to x where it has a neighbour of x
around_crossed : (g : JoinGraph) (x around y : ℕ) → IsGraph g → IsNeighbours g x around → (Meets x y → ⊥) → Meets around y ↔ Crossed g x y
around_crossed g x around y ok n apart = (
  λ m.
      let e : (k : ℕ) × Has x k × Edge g k m.0 = ((n m.0).0 m.1).1 in
      (e.0, m.0, e.2, inl (e.1, m.2)),
  λ c. elim c.3 [
    | inl h ↦ (c.1, (n c.1).1 (λ k. apart (c.1, k, h.1), (c.0, h.0, c.2)), h.1)
    | inr h ↦ (c.0, (n c.0).1 (λ k. apart (c.0, k, h.1), (c.1, h.0, ok.turned c.0 c.1 c.2)), h.1)
  ],
)

pub joinable_by : (g : JoinGraph) (x around y : ℕ) (b : Bool) → IsGraph g → IsNeighbours g x around → (Meets x y → ⊥) → (b ≡ true) ↔ Meets around y → b ≡ is_joinable g x y
unfolding is_joinable
joinable_by g x around y b ok n apart both =
    let crossed : Meets around y ↔ Crossed g x y = around_crossed g x around y ok n apart in
    test_same b (not (meets x y) && meets (adjacent_to_members g x g.n) y)
    (λ t. and_from (not (meets x y)) (meets (adjacent_to_members g x g.n) y) (not_from_false _ (false_from_ne_true (meets x y) (λ m. apart ((meets_true x y).0 m)))) ((joined_true g x y ok).1 (crossed.0 (both.0 t))))
    (λ t. both.1 (crossed.1 ((joined_true g x y ok).0 (and_parts (not (meets x y)) (meets (adjacent_to_members g x g.n) y) t).1)))

pub least_by : (g : JoinGraph) (x r : ℕ) → IsGraph g → Connected g x → IsLeast x r → r ≡ least x
least_by g x r ok c l =
    let m : IsLeast x (least x) = connected_least g x ok c in
    omega (arith, l.1 (least x) m.0, m.1 r l.0)

split : (ys : List ℕ) (j y : ℕ) → j < length ys → y ≡ get_or ys j y → drop j ys ≡ y ∷ drop (j + 1) ys
split ys j y l e = drop-cons ys j y l ∙ ap (λ (k : ℕ). k ∷ drop (suc j) ys) (sym e) ∙ ap (λ (k : ℕ). y ∷ drop k ys) next
  where
    next : suc j ≡ j + 1
    next = omega arith

-- the next set of the row can be joined
pub row_taken : (g : JoinGraph) (ys : List ℕ) (x j y : ℕ) (p : Pair) → j < length ys → y ≡ get_or ys j y → true ≡ is_joinable g x y → p ≡ pair_by_least x y → pairs_with g (drop j ys) x ≡ p ∷ pairs_with g (drop (j + 1) ys) x
unfolding pairs_with
row_taken g ys x j y p l ey t ep =
    ap (λ zs. map (pair_by_least x) (filter (is_joinable g x) zs)) (split ys j y l ey)
    ∙ ap (map (pair_by_least x)) (cond-true (is_joinable g x y) (y ∷ filter (is_joinable g x) (drop (j + 1) ys)) (filter (is_joinable g x) (drop (j + 1) ys)) (sym t))
    ∙ ap (λ q. q ∷ map (pair_by_least x) (filter (is_joinable g x) (drop (j + 1) ys))) (sym ep)

-- it cannot
pub row_passed : (g : JoinGraph) (ys : List ℕ) (x j y : ℕ) → j < length ys → y ≡ get_or ys j y → false ≡ is_joinable g x y → pairs_with g (drop j ys) x ≡ pairs_with g (drop (j + 1) ys) x
unfolding pairs_with
row_passed g ys x j y l ey t =
    ap (λ zs. map (pair_by_least x) (filter (is_joinable g x) zs)) (split ys j y l ey)
    ∙ ap (map (pair_by_least x)) (cond-false (is_joinable g x y) (y ∷ filter (is_joinable g x) (drop (j + 1) ys)) (filter (is_joinable g x) (drop (j + 1) ys)) (sym t))

pub row_over : (g : JoinGraph) (ys : List ℕ) (x j : ℕ) → length ys ≤ j → pairs_with g (drop j ys) x ≡ []
unfolding pairs_with
row_over g ys x j l = ap (λ zs. map (pair_by_least x) (filter (is_joinable g x) zs)) (drop_all j ys l)

-- ---- rows

rows_none : (g : JoinGraph) (ys : List ℕ) (same : Bool) → row_pairs g ys same [] ≡ []
rows_none g ys true = refl
rows_none g ys false = refl

-- a row begins
begin_at : (g : JoinGraph) (ys : List ℕ) (same : Bool) (x : ℕ) (rest : List ℕ) (i : ℕ) → (same ≡ true → drop (i + 1) ys ≡ rest) → rows_from g ys same (x ∷ rest) (start_at same i) ≡ row_pairs g ys same (x ∷ rest)
begin_at g ys true x rest i h = ap (λ zs. pairs_with g zs x ++ pairs_after g rest) (h refl)
begin_at g ys false x rest i h = refl

pub row_begins : (g : JoinGraph) (xs ys : List ℕ) (same : Bool) (i : ℕ) → (same ≡ true → xs ≡ ys) → rows_from g ys same (drop i xs) (start_at same i) ≡ row_pairs g ys same (drop i xs)
row_begins g xs ys same i h =
    elim (cases_lt i (length xs)) [
      | inl l ↦
          let e : drop i xs ≡ get_or xs i 0 ∷ drop (i + 1) xs = drop_cons xs i l in
          ap (λ zs. rows_from g ys same zs (start_at same i)) e
          ∙ begin_at g ys same (get_or xs i 0) (drop (i + 1) xs) i (λ t. ap (drop (i + 1)) (sym (h t)))
          ∙ ap (row_pairs g ys same) (sym e)
      | inr l ↦ ap (λ zs. rows_from g ys same zs (start_at same i)) (drop_all i xs l) ∙ sym (ap (row_pairs g ys same) (drop_all i xs l) ∙ rows_none g ys same)
    ]
  where
    drop_cons : (xs : List ℕ) (i : ℕ) → i < length xs → drop i xs ≡ get_or xs i 0 ∷ drop (i + 1) xs
    drop_cons xs i l = drop-cons xs i 0 l ∙ ap (λ (k : ℕ). get_or xs i 0 ∷ drop k xs) (sym (add-one i))

-- the row of x gives a pair
pub rows_taken : (g : JoinGraph) (xs ys : List ℕ) (same : Bool) (i j j' x : ℕ) (p : Pair) → i < length xs → x ≡ get_or xs i x → pairs_with g (drop j ys) x ≡ p ∷ pairs_with g (drop j' ys) x → rows_from g ys same (drop i xs) j ≡ p ∷ rows_from g ys same (drop i xs) j'
rows_taken g xs ys same i j j' x p l ex e =
    ap (λ zs. rows_from g ys same zs j) (split xs i x l ex)
    ∙ ap (λ zs. zs ++ row_pairs g ys same (drop (i + 1) xs)) e
    ∙ ap (λ zs. p ∷ zs) (sym (ap (λ zs. rows_from g ys same zs j') (split xs i x l ex)))

-- the row of x is over
pub rows_next : (g : JoinGraph) (xs ys : List ℕ) (same : Bool) (i j n x : ℕ) → i < length xs → x ≡ get_or xs i x → pairs_with g (drop j ys) x ≡ [] → (same ≡ true → xs ≡ ys) → n ≡ start_at same (i + 1) → rows_from g ys same (drop i xs) j ≡ rows_from g ys same (drop (i + 1) xs) n
rows_next g xs ys same i j n x l ex e h en =
    ap (λ zs. rows_from g ys same zs j) (split xs i x l ex)
    ∙ ap (λ zs. zs ++ row_pairs g ys same (drop (i + 1) xs)) e
    ∙ sym (row_begins g xs ys same (i + 1) h)
    ∙ ap (λ (k : ℕ). rows_from g ys same (drop (i + 1) xs) k) (sym en)

pub rows_over : (g : JoinGraph) (xs ys : List ℕ) (same : Bool) (i j : ℕ) → length xs ≤ i → rows_from g ys same (drop i xs) j ≡ []
rows_over g xs ys same i j l = ap (λ zs. rows_from g ys same zs j) (drop_all i xs l)
