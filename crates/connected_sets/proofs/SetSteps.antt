-- What one step takes from the connected sets.
use Rattle.std.proofs.Common.{add-one, ◌≡◌, ◌≢◌, ℕ, suc, ◌+◌, ◌-◌, ◌<◌, arith, refl, sym, ◌∙◌, ap, subst, List, [], ◌∷◌, ◌++◌}
use Rattle.std.specs.List.{Contains}
use Rattle.dpe_base.specs.Sets.{Has, Within, single, full}
use Rattle.dpe_base.proofs.SetLaws.{has_some, single_has, single_one, full_has}
use Rattle.join_graph.specs.Graphs.{JoinGraph, IsGraph, Connected}
use Rattle.pair_stream.specs.Subsets.{descending}
use Rattle.dpe_base.proofs.Members.{contains_head, contains_tail, contains_none}
use Rattle.connected_sets.specs.Lists.{grown_from, all_extensions, sets_with_least_below, sets_by_least}
use Rattle.connected_sets.proofs.GrownLaws.{sets_has}

pub sets_start : (g : JoinGraph) (grown : List ℕ) (n : ℕ) → grown ≡ [] → n ≡ g.n → grown ++ sets_with_least_below g n ≡ sets_by_least g
unfolding sets_by_least
sets_start g grown n e en = ap (λ xs. xs ++ sets_with_least_below g n) e ∙ ap (sets_with_least_below g) en

pub start_connected : (g : JoinGraph) (left : List ℕ) → IsGraph g → left ≡ sets_by_least g → (a : ℕ) → Contains left a → Connected g a
start_connected g left ok e a h = (sets_has g ok a).0 (subst (λ xs. Contains xs a) e h)

pub sets_end : (g : JoinGraph) (grown : List ℕ) (n : ℕ) → grown ≡ [] → n ≡ 0 → grown ++ sets_with_least_below g n ≡ []
unfolding sets_with_least_below descending
sets_end g grown n e en = ap (λ xs. xs ++ sets_with_least_below g n) e ∙ ap (sets_with_least_below g) en

sets_below : (g : JoinGraph) (i : ℕ) → sets_with_least_below g (suc i) ≡ single i ∷ (all_extensions g (single i) (full (suc i)) ++ sets_with_least_below g i)
unfolding sets_with_least_below descending grown_from
sets_below g i = refl

pub sets_next : (g : JoinGraph) (old now : List ℕ) (n i s x : ℕ) → old ≡ [] → n ≢ 0 → i ≡ n - 1 → s ≡ single i → x ≡ full (i + 1) → now ≡ all_extensions g s x → old ++ sets_with_least_below g n ≡ s ∷ (now ++ sets_with_least_below g i)
sets_next g old now n i s x eo ne ei es ex en =
    ap (λ xs. xs ++ sets_with_least_below g n) eo
    ∙ ap (sets_with_least_below g) count
    ∙ sets_below g i
    ∙ ap (λ (k : ℕ). k ∷ (all_extensions g k (full (suc i)) ++ sets_with_least_below g i)) (sym es)
    ∙ ap (λ (k : ℕ). s ∷ (all_extensions g s k ++ sets_with_least_below g i)) (sym (ex ∙ ap full (add-one i)))
    ∙ ap (λ xs. s ∷ (xs ++ sets_with_least_below g i)) (sym en)
  where
    count : n ≡ suc i
    count = omega (arith, ne, ei)

pub start_known : (g : JoinGraph) (i s : ℕ) → s ≡ single i → i < g.n → Within s (full g.n)
start_known g i s e l r h = full_has g.n r (omega (arith, l, single_one i r (subst (λ (k : ℕ). Has k r) e h)))

pub start_some : (i s : ℕ) → s ≡ single i → s ≢ 0
start_some i s e z = has_some (single i) i (single_has i) (sym e ∙ z)

pub start_below : (i s x : ℕ) → s ≡ single i → x ≡ full (i + 1) → Within s x
start_below i s x e ex r h =
    subst (λ (k : ℕ). Has k r) (sym ex) (full_has (i + 1) r (omega (arith, single_one i r (subst (λ (k : ℕ). Has k r) e h))))

-- the head of the list, and the rest, are connected where all of it is
pub head_connected : (g : JoinGraph) (old now : List ℕ) (a : ℕ) → ((s : ℕ) → Contains old s → Connected g s) → old ≡ a ∷ now → Connected g a
head_connected g old now a h e = h a (subst (λ xs. Contains xs a) (sym e) (contains_head a now))

pub rest_connected : (g : JoinGraph) (old now : List ℕ) (a : ℕ) → ((s : ℕ) → Contains old s → Connected g s) → old ≡ a ∷ now → (s : ℕ) → Contains now s → Connected g s
rest_connected g old now a h e s c = h s (subst (λ xs. Contains xs s) (sym e) (contains_tail a now s c))

pub none_connected : (g : JoinGraph) (now : List ℕ) → now ≡ [] → (s : ℕ) → Contains now s → Connected g s
none_connected g now e s c = absurd (contains_none s (subst (λ xs. Contains xs s) e c))
