-- The recursion with its full depth gives what each of its calls gives with the same depth.
use Rattle.std.proofs.Common.{◌≡◌, ◌≢◌, ℕ, zero, suc, ◌-◌, ◌<◌, ◌≤◌, inl, inr, arith, refl, sym, ◌∙◌, ap, subst, List, [], ◌∷◌, ◌++◌, map}
use Rattle.std.specs.List.{Contains, flat_map}
use Rattle.std.proofs.lemmas.Bool.{cases_eq}
use Rattle.dpe_base.specs.Sets.{Has, Within, Disjoint, member, union, minus, full, size}
use Rattle.dpe_base.proofs.SetLaws.{sets, same_set, member-same}
use Rattle.dpe_base.proofs.SizeLaws.{size-union, size_none, size_full}
use Rattle.join_graph.specs.Graphs.{JoinGraph, IsGraph, Edge}
use Rattle.pair_stream.specs.Subsets.{subsets}
use Rattle.pair_stream.specs.Connectivity.{neighbours}
use Rattle.dpe_base.proofs.Members.{contains_head, contains_tail}
use Rattle.pair_stream.proofs.SubsetLaws.{subsets_has, subsets_last}
use Rattle.pair_stream.proofs.ConnectivityLaws.{neighbours_is}
use Rattle.connected_sets.specs.Lists.{neighbours_outside, extensions, all_extensions}

pub flat_map_agree : {X Y : Type 0} (f h : X → List Y) (xs : List X) → ((x : X) → Contains xs x → f x ≡ h x) → flat_map f xs ≡ flat_map h xs
flat_map_agree f h [] e = refl
flat_map_agree f h (x ∷ xs) e =
    ap (λ ys. ys ++ flat_map f xs) (e x (contains_head x xs))
    ∙ ap (λ ys. h x ++ ys) (flat_map_agree f h xs (λ y c. e y (contains_tail x xs y c)))

-- the rest falls where barred relations come to it
pub rest_falls : (all x n : ℕ) → Within n all → Disjoint n x → n ≢ 0 → size (minus all (union x n)) < size (minus all x)
rest_falls all x n w d ne =
    omega (arith, nonzero, ap size whole, size-union n (minus all (union x n)) (λ r h k. apart r h k))
  where
    nonzero : 1 ≤ size n
    nonzero = elim (cases_eq (size n) 0) [ inl e ↦ absurd (ne (size_none n e)) | inr y ↦ omega arith ]

    at : (r : ℕ) → (Has n r → Has all r) → (Has n r → Has x r → ⊥) → member (union n (minus all (union x n))) r ≡ member (minus all x) r
    at r f k = grind (arith, sets)

    whole : union n (minus all (union x n)) ≡ minus all x
    whole = same_set _ _ (λ r. at r (w r) (d r))

    apart : (r : ℕ) → Has n r → Has (minus all (union x n)) r → ⊥
    apart r h k = grind (arith, sets)

subsets_none : (n : ℕ) → n ≡ 0 → subsets n ≡ []
subsets_none n e = ap subsets e ∙ subsets_last 0

module _ (g : JoinGraph) (ok : IsGraph g) where
  pub outside_in_graph : (s x : ℕ) → Within (neighbours_outside g s x) (full g.n)
  outside_in_graph s x r h = in_full (ok.known (near r h).1.0 r (near r h).1.2).1
    where
      in_neighbours : (r : ℕ) → Has (neighbours_outside g s x) r → Has (neighbours g s) r
      in_neighbours r h = grind (arith, sets)

      near : (r : ℕ) → Has (neighbours_outside g s x) r → (Has s r → ⊥) × ((k : ℕ) × Has s k × Edge g k r)
      near r h = (neighbours_is g s ok r).0 (in_neighbours r h)

      in_full : r < g.n → Has (full g.n) r
      in_full l = grind (arith, sets)

  pub outside_apart : (s x : ℕ) → Disjoint (neighbours_outside g s x) x
  outside_apart s x r h k = grind (arith, sets)

  outside_none : (s x : ℕ) → size (minus (full g.n) x) ≡ 0 → neighbours_outside g s x ≡ 0
  outside_none s x e = same_set _ _ (λ r. at r (outside_in_graph s x r) (outside_apart s x r) (size_none _ e))
    where
      at : (r : ℕ) → (Has (neighbours_outside g s x) r → Has (full g.n) r) → (Has (neighbours_outside g s x) r → Has x r → ⊥) → minus (full g.n) x ≡ 0 → member (neighbours_outside g s x) r ≡ member 0 r
      at r f k z = grind (arith, sets, member-same z r)

  some_option : (s x t : ℕ) → Contains (subsets (neighbours_outside g s x)) t → neighbours_outside g s x ≢ 0
  some_option s x t m e = none (subsets_has 0 (neighbours_outside g s x) t).0
    where
      none : (Contains (subsets (neighbours_outside g s x)) t → (0 < t) × Within t (neighbours_outside g s x)) → ⊥
      none f = omega (arith, (f m).0, empty)
        where
          at : (r : ℕ) → (Has t r → Has (neighbours_outside g s x) r) → member t r ≡ member 0 r
          at r w = grind (arith, sets, member-same e r)

          empty : t ≡ 0
          empty = same_set _ _ (λ r. at r ((f m).1 r))

  extensions_none : (depth s x : ℕ) → neighbours_outside g s x ≡ 0 → extensions g depth s x ≡ []
  unfolding extensions
  extensions_none zero s x e = refl
  extensions_none (suc depth) s x e =
      ap (λ ts. map (union s) ts ++ flat_map (λ t. extensions g depth (union s t) (union x (neighbours_outside g s x))) ts) (subsets_none (neighbours_outside g s x) e)

  -- more depth than there are relations left changes nothing
  extensions_more : (depth s x : ℕ) → size (minus (full g.n) x) ≤ depth → extensions g depth s x ≡ extensions g (suc depth) s x
  unfolding extensions
  extensions_more zero s x l = sym (extensions_none 1 s x (outside_none s x (omega arith)))
  extensions_more (suc depth) s x l =
      ap (λ ys. map (union s) (subsets (neighbours_outside g s x)) ++ ys)
      (flat_map_agree (λ t. extensions g depth (union s t) (union x (neighbours_outside g s x))) (λ t. extensions g (suc depth) (union s t) (union x (neighbours_outside g s x))) (subsets (neighbours_outside g s x))
      (λ t m. extensions_more depth (union s t) (union x (neighbours_outside g s x))
      (omega (arith, rest_falls (full g.n) x (neighbours_outside g s x) (outside_in_graph s x) (outside_apart s x) (some_option s x t m)))))

  unfold_at : (m s x : ℕ) → g.n ≡ suc m → extensions g (suc m) s x ≡ map (union s) (subsets (neighbours_outside g s x)) ++ flat_map (λ t. extensions g (suc m) (union s t) (union x (neighbours_outside g s x))) (subsets (neighbours_outside g s x))
  unfolding extensions
  unfold_at m s x e =
      ap (λ ys. map (union s) (subsets (neighbours_outside g s x)) ++ ys)
      (flat_map_agree (λ t. extensions g m (union s t) (union x (neighbours_outside g s x))) (λ t. extensions g (suc m) (union s t) (union x (neighbours_outside g s x))) (subsets (neighbours_outside g s x))
      (λ t k. extensions_more m (union s t) (union x (neighbours_outside g s x))
      (omega (
        arith,
        rest_falls (full g.n) x (neighbours_outside g s x) (outside_in_graph s x) (outside_apart s x) (some_option s x t k),
        size_full (minus (full g.n) x) g.n (λ r h. in_all r h),
        e,
      ))))
    where
      in_all : (r : ℕ) → Has (minus (full g.n) x) r → Has (full g.n) r
      in_all r h = grind (arith, sets)

  -- the recursion, with no depth
  pub all_extensions_is : (s x : ℕ) → all_extensions g s x ≡ map (union s) (subsets (neighbours_outside g s x)) ++ flat_map (λ t. all_extensions g (union s t) (union x (neighbours_outside g s x))) (subsets (neighbours_outside g s x))
  all_extensions_is s x =
      subst (λ n. extensions g n s x ≡ map (union s) (subsets (neighbours_outside g s x)) ++ flat_map (λ t. extensions g n (union s t) (union x (neighbours_outside g s x))) (subsets (neighbours_outside g s x)))
      (sym depth) (unfold_at (g.n - 1) s x depth)
    where
      depth : g.n ≡ suc (g.n - 1)
      depth = omega (arith, ok.some)

  pub all_extensions_none : (s x : ℕ) → neighbours_outside g s x ≡ 0 → all_extensions g s x ≡ []
  all_extensions_none s x e = extensions_none g.n s x e
