-- Of a first side without a relation, beside which the relation stands alone, the second sides with it.
use Rattle.std.proofs.Common.{◌≡◌, ◌≢◌, ℕ, ◌<◌, ◌⊎◌, inl, inr, arith, sym, ◌∙◌, ap, subst, refl, Bool, true, false, cond, List, [], ◌∷◌, ◌++◌, map, nat_eq}
use Rattle.std.specs.List.{AllPairs, Contains, filter, flat_map}
use Rattle.std.proofs.lemmas.Bool.{cases_Bool, cases_eq, eqb-true, eq-eqb}
use Rattle.std.proofs.lemmas.List.Elements.{filter-append}
use Rattle.dpe_base.specs.declared.pair.Pair.{Pair}
use Rattle.dpe_base.specs.Sets.{Has, Within, member, union, minus, single, full}
use Rattle.dpe_base.proofs.SetLaws.{empty_has, single_has, single_one, single_some, single_within, within_same, union_cases, union_left, union_right, minus_has, minus_left, minus_right, rest_apart, rest_whole, full_has}
use Rattle.dpe_base.proofs.Members.{contains_head, contains_none, contains_tail, contains_cases}
use Rattle.join_graph.specs.Graphs.{JoinGraph, IsGraph, Edge, Crossed, pair_of}
use Rattle.join_graph.proofs.GraphLaws.{connected_single}
use Rattle.pair_stream.specs.Connectivity.{neighbours}
use Rattle.pair_stream.proofs.Lists.{pairs_head, pairs_tail}
use Rattle.pair_stream.proofs.ConnectivityLaws.{neighbours_is}
use Rattle.connected_sets.specs.Lists.{all_extensions, neighbours_outside}
use Rattle.connected_sets.specs.Left.{sets_left}
use Rattle.connected_sets.specs.declared.sets.ConnectedSets.{ConnectedSets}
use Rattle.connected_sets.proofs.GrowthLaws.{giving_fresh, giving_none}
use Rattle.enum_dpccp.specs.declared.sides.SecondSides.{SecondSides}
use Rattle.enum_dpccp.specs.Dpccp.{excluded, first_sides, second_sides_from, second_sides, seq_dpccp, starts}
use Rattle.enum_dpccp.specs.Sides.{second_left}
use Rattle.enum_dpccp.specs.Left.{touching_left}
use Rattle.enum_dpccp.specs.Touching.{StandsAlone, touches, touching, touching_sides}
use Rattle.connected_sets.specs.Greatest.{IsGreatest}
use Rattle.enum_dpccp.proofs.SideLaws.{IsSecondSide, second_has, second_once, second_start}
use Rattle.enum_dpccp.proofs.SideSteps.{second_end, second_next, second_start as all_start}

pub not_both : (b : Bool) → b ≡ true → b ≡ false → ⊥
not_both b t f = clash (sym t ∙ f)
  where
    clash : true ≡ false → ⊥
    clash e = cc

-- ---- lists of which one value at most passes a test

none_passes : (p : ℕ → Bool) (xs : List ℕ) → ((x : ℕ) → Contains xs x → p x ≡ true → ⊥) → filter p xs ≡ []
none_passes p [] never = refl
none_passes p (y ∷ ys) never =
    elim (cases_Bool (p y)) [
      | inl t ↦ absurd (never y (contains_head y ys) t)
      | inr f ↦ ap (λ (v : Bool). cond v (y ∷ filter p ys) (filter p ys)) f ∙ none_passes p ys (λ x m. never x (contains_tail y ys x m))
    ]

one_passes : (p : ℕ → Bool) (v : ℕ) (xs : List ℕ) → AllPairs (λ b c. b ≢ c) xs → ((x : ℕ) → Contains xs x → p x ≡ true → x ≡ v) → p v ≡ true → Contains xs v → filter p xs ≡ v ∷ []
one_passes p v [] once only passes has = absurd (contains_none v has)
one_passes p v (y ∷ ys) once only passes has =
    elim (cases_Bool (p y)) [
      | inl t ↦
          let same : y ≡ v = only y (contains_head y ys) t in
          ap (λ (w : Bool). cond w (y ∷ filter p ys) (filter p ys)) t
          ∙ ap (λ xs. y ∷ xs) (none_passes p ys (λ x m k. pairs_head (λ b c. b ≢ c) y ys once x m (same ∙ sym (only x (contains_tail y ys x m) k))))
          ∙ ap (λ (w : ℕ). w ∷ []) same
      | inr f ↦
          ap (λ (w : Bool). cond w (y ∷ filter p ys) (filter p ys)) f
          ∙ one_passes p v ys (pairs_tail (λ b c. b ≢ c) y ys once) (λ x m k. only x (contains_tail y ys x m) k) passes (later y f (contains_cases y ys v has))
    ]
  where
    later : (y : ℕ) → p y ≡ false → (y ≡ v) ⊎ Contains ys v → Contains ys v
    later y f (inl e) = absurd (not_both (p y) (ap p e ∙ passes) f)
    later y f (inr m) = m

-- ---- the starts

pub start_of : (g : JoinGraph) (a x from r : ℕ) → x ≡ excluded a → from ≡ neighbours_outside g a x → Has from r → Has (starts g a) r
start_of g a x from r ex es h = subst (λ (y : ℕ). Has (neighbours_outside g a y) r) ex (subst (λ (s : ℕ). Has s r) es h)

pub start_in : (g : JoinGraph) (a x from r : ℕ) → x ≡ excluded a → from ≡ neighbours_outside g a x → Has (starts g a) r → Has from r
start_in g a x from r ex es h = subst (λ (s : ℕ). Has s r) (sym es) (subst (λ (y : ℕ). Has (neighbours_outside g a y) r) (sym ex) h)

-- ---- a relation that stands alone beside a first side

module _ (g : JoinGraph) (ok : IsGraph g) where
  -- with an edge that leaves r, its other end is a neighbour
  next_to : (r k : ℕ) → Edge g r k → (Has (single r) k → ⊥) → Has (neighbours g (single r)) k
  next_to r k e apart = (neighbours_is g (single r) ok k).1 (apart, (r, single_has r, e))

  only_alone : (a r b : ℕ) → (Has a r → ⊥) → StandsAlone g (excluded a) r → IsSecondSide g ok a b → Has (union a b) r → b ≡ single r
  only_alone a r b without alone side has =
      elim (cases_eq rest 0) [
        | inl e ↦ within_same b (single r) (λ k h. whole e k h) (single_within b r in_b)
        | inr ne ↦ absurd (left_alone alone (side.connected.split (single r) rest (single_some r) ne (rest_apart b (single r)) (rest_whole b (single r) (single_within b r in_b))))
      ]
    where
      rest : ℕ
      rest = minus b (single r)

      in_b : Has b r
      in_b = elim (union_cases a b r has) [
        | inl h ↦ absurd (without h)
        | inr h ↦ h
      ]

      whole : rest ≡ 0 → (k : ℕ) → Has b k → Has (single r) k
      whole e k h =
          elim (cases_eq (member (single r) k) 1) [
            | inl i ↦ i
            | inr o ↦ absurd (empty_has k (subst (λ (s : ℕ). Has s k) e (minus_has b (single r) k h o)))
          ]

      beyond : (k : ℕ) → Within (neighbours g (single r)) (excluded a) → Has rest k → Edge g r k → ⊥
      beyond k w h e = side.apart k (w k (next_to r k e (minus_right b (single r) k h))) (minus_left b (single r) k h)

      left_alone : StandsAlone g (excluded a) r → Crossed g (single r) rest → ⊥
      left_alone (inl x) c = side.apart r x in_b
      left_alone (inr w) (k, l, e, inl (hk, hl)) = beyond l w hl (subst (λ (i : ℕ). Edge g i l) (sym (single_one r k hk)) e)
      left_alone (inr w) (k, l, e, inr (hl, hk)) = beyond k w hk (ok.turned k r (subst (λ (i : ℕ). Edge g k i) (sym (single_one r l hl)) e))

  -- nothing grows from it
  nothing_grows : (r x : ℕ) → Within (neighbours g (single r)) x → all_extensions g (single r) (union x (single r)) ≡ []
  nothing_grows r x w =
      sym (giving_fresh g (single r) 0 (union x (single r)) (union (union x (single r)) 0) 0 ok none refl refl)
      ∙ giving_none g (record { base = single r; neighbours = 0; excluded = union (union x (single r)) 0; last = 0 }) refl refl
    where
      none : 0 ≡ neighbours_outside g (single r) (union x (single r))
      none = within_same 0 (neighbours_outside g (single r) (union x (single r))) (λ k h. absurd (empty_has k h))
          (λ k h. absurd (minus_right (neighbours g (single r)) (union x (single r)) k h (union_left x (single r) k (w k (minus_left (neighbours g (single r)) (union x (single r)) k h)))))

  from_alone : (r x : ℕ) → r < g.n → Within (neighbours g (single r)) x → second_sides_from g x (single r) ≡ single r ∷ []
  from_alone r x l w =
      second_next g [] [] x (single r) r (single r) (union x (single r)) (minus (single r) (single r)) refl
      (λ k h. subst (Has (full g.n)) (single_one r k h) (full_has g.n r l))
      greatest refl refl refl (sym (nothing_grows r x w))
      ∙ ap (λ xs. single r ∷ xs) (second_end g [] x (minus (single r) (single r)) refl none)
    where
      greatest : IsGreatest (single r) r
      greatest = (single_has r, λ k h. omega (arith, single_one r k h))

      none : minus (single r) (single r) ≡ 0
      none = within_same (minus (single r) (single r)) 0 (λ k h. absurd (minus_right (single r) (single r) k h (minus_left (single r) (single r) k h))) (λ k h. absurd (empty_has k h))

  pub started_by : (a r x from : ℕ) → x ≡ excluded a → from ≡ neighbours_outside g a x → touching_sides r a (second_sides_from g x from) ≡ touching_sides r a (second_sides g a)
  started_by a r x from ex es = ap (touching_sides r a) (all_start g [] a x from refl ex es)

  has_it : (a r : ℕ) → nat_eq (member (union a (single r)) r) 1 ≡ true
  has_it a r = eq-eqb _ _ (union_right a (single r) r (single_has r))

  pub touched_alone : (a r x : ℕ) → r < g.n → (Has a r → ⊥) → StandsAlone g x r → x ≡ excluded a → Has (starts g a) r
      → touching_sides r a (second_sides_from g x (single r)) ≡ touching_sides r a (second_sides g a)
  touched_alone a r x l without alone ex start =
      ap (touching_sides r a) (from_alone r x l (around alone))
      ∙ ap (λ (v : Bool). cond v (single r ∷ []) []) (has_it a r)
      ∙ sym (one_passes (λ b. nat_eq (member (union a b) r) 1) (single r) (second_sides g a) (second_once g ok a)
      (λ b m p. only_alone a r b without (subst (λ (y : ℕ). StandsAlone g y r) ex alone) ((second_has g ok a b).0 m) (eqb-true _ _ p))
      (has_it a r)
      ((second_has g ok a (single r)).1 (record {
        connected = connected_single g r l;
        apart = λ k h s. apart k h (single_one r k s);
        crossed = (edge.0, r, edge.2, inl (edge.1, single_has r));
      })))
    where
      apart : (k : ℕ) → Has (excluded a) k → r ≡ k → ⊥
      apart k h e = minus_right (neighbours g a) (excluded a) r start (subst (Has (excluded a)) (sym e) h)

      around : StandsAlone g x r → Within (neighbours g (single r)) x
      around (inl h) = absurd (minus_right (neighbours g a) (excluded a) r start (subst (λ (y : ℕ). Has y r) ex h))
      around (inr w) = w

      edge : (k : ℕ) × Has a k × Edge g k r
      edge = ((neighbours_is g a ok r).0 (minus_left (neighbours g a) (excluded a) r start)).1

  pub touched_never : (a r x : ℕ) → (Has a r → ⊥) → StandsAlone g x r → x ≡ excluded a → (Has (starts g a) r → ⊥)
      → touching_sides r a (second_sides_from g x 0) ≡ touching_sides r a (second_sides g a)
  touched_never a r x without alone ex stop =
      ap (touching_sides r a) (second_end g [] x 0 refl refl)
      ∙ sym (none_passes (λ b. nat_eq (member (union a b) r) 1) (second_sides g a) (λ b m p. never b ((second_has g ok a b).0 m) (eqb-true _ _ p)))
    where
      never : (b : ℕ) → IsSecondSide g ok a b → Has (union a b) r → ⊥
      never b side has =
          let same : b ≡ single r = only_alone a r b without (subst (λ (y : ℕ). StandsAlone g y r) ex alone) side has in
          let k : (k : ℕ) × Has b k × Has (starts g a) k = second_start g ok a b side in
          stop (subst (Has (starts g a)) (sym (single_one r k.0 (subst (λ (s : ℕ). Has s k.0) same k.1))) k.2)

-- ---- one step of the stream

touching_map : (r a : ℕ) (bs : List ℕ) → filter (touches r) (map (pair_of a) bs) ≡ map (pair_of a) (touching_sides r a bs)
touching_map r a [] = refl
touching_map r a (b ∷ bs) = at (touches r (pair_of a b)) (touching_map r a bs)
  where
    at : (v : Bool) → filter (touches r) (map (pair_of a) bs) ≡ map (pair_of a) (touching_sides r a bs)
        → cond v (pair_of a b ∷ filter (touches r) (map (pair_of a) bs)) (filter (touches r) (map (pair_of a) bs)) ≡ map (pair_of a) (cond v (b ∷ touching_sides r a bs) (touching_sides r a bs))
    at true e = ap (λ xs. pair_of a b ∷ xs) e
    at false e = e

abbrev touching_pairs : JoinGraph → ℕ → List ℕ → List Pair
touching_pairs g r firsts = flat_map (λ a. map (pair_of a) (touching_sides r a (second_sides g a))) firsts

touching_firsts : (g : JoinGraph) (r : ℕ) (firsts : List ℕ) → filter (touches r) (flat_map (λ a. map (pair_of a) (second_sides g a)) firsts) ≡ touching_pairs g r firsts
touching_firsts g r [] = refl
touching_firsts g r (a ∷ firsts) =
    filter-append (touches r) (map (pair_of a) (second_sides g a)) (flat_map (λ a. map (pair_of a) (second_sides g a)) firsts)
    ∙ ap (λ xs. xs ++ filter (touches r) (flat_map (λ a. map (pair_of a) (second_sides g a)) firsts)) (touching_map r a (second_sides g a))
    ∙ ap (λ xs. map (pair_of a) (touching_sides r a (second_sides g a)) ++ xs) (touching_firsts g r firsts)

pub touching_started : (g : JoinGraph) (r : ℕ) (f : ConnectedSets) (a : ℕ) (s : SecondSides) → sets_left g f ≡ first_sides g → second_left g s ≡ [] → touching_left g r f a s ≡ touching r (seq_dpccp g)
unfolding touching_left seq_dpccp
touching_started g r f a s ef es =
    ap (λ bs. map (pair_of a) (touching_sides r a bs) ++ touching_pairs g r (sets_left g f)) es
    ∙ ap (touching_pairs g r) ef
    ∙ sym (touching_firsts g r (first_sides g))

-- a second side is taken
pub touching_pair : (g : JoinGraph) (r : ℕ) (f : ConnectedSets) (a b : ℕ) (old now : SecondSides) → touching_sides r a (second_left g old) ≡ b ∷ touching_sides r a (second_left g now)
    → touching_left g r f a old ≡ pair_of a b ∷ touching_left g r f a now
unfolding touching_left
touching_pair g r f a b old now e = ap (λ bs. map (pair_of a) bs ++ touching_pairs g r (sets_left g f)) e

-- a first side is taken, and its second sides begin
pub touching_first : (g : JoinGraph) (r : ℕ) (f f' : ConnectedSets) (before a : ℕ) (s s' : SecondSides) → touching_sides r before (second_left g s) ≡ [] → sets_left g f ≡ a ∷ sets_left g f'
    → touching_sides r a (second_left g s') ≡ touching_sides r a (second_sides g a) → touching_left g r f before s ≡ touching_left g r f' a s'
unfolding touching_left
touching_first g r f f' before a s s' es ef en =
    ap (λ bs. map (pair_of before) bs ++ touching_pairs g r (sets_left g f)) es
    ∙ ap (touching_pairs g r) ef
    ∙ ap (λ bs. map (pair_of a) bs ++ touching_pairs g r (sets_left g f')) (sym en)

pub touching_end : (g : JoinGraph) (r : ℕ) (f : ConnectedSets) (a : ℕ) (s : SecondSides) → touching_sides r a (second_left g s) ≡ [] → sets_left g f ≡ [] → touching_left g r f a s ≡ []
unfolding touching_left
touching_end g r f a s es ef = ap (λ bs. map (pair_of a) bs ++ touching_pairs g r (sets_left g f)) es ∙ ap (touching_pairs g r) ef
