-- The sets that grow from one relation, and all connected sets: which they are, and in what order they stand.
use Rattle.std.proofs.Common.{◌≡◌, ◌≢◌, ◌↔◌, ℕ, suc, ◌<◌, ◌≤◌, inl, inr, arith, sym, subst, ◌∷◌}
use Rattle.std.specs.List.{AllPairs, Contains}
use Rattle.std.proofs.lemmas.Bool.{cases_eq}
use Rattle.dpe_base.specs.Sets.{Has, Within, IsLeast, member, minus, single, full, least}
use Rattle.dpe_base.proofs.SetLaws.{sets, single_has, single_one, full_limit, minus_left, within_same, least_same}
use Rattle.dpe_base.proofs.SizeLaws.{size_full}
use Rattle.join_graph.specs.Graphs.{JoinGraph, IsGraph, Connected}
use Rattle.join_graph.proofs.GraphLaws.{connected_single, known_relation}
use Rattle.pair_stream.specs.Subsets.{descending}
use Rattle.dpe_base.proofs.Members.{contains_head, contains_tail, contains_cases}
use Rattle.pair_stream.proofs.Lists.{contains_flat_map, contains_from_flat_map, pairs_cons, pairs_flat_map, pairs_weaker}
use Rattle.pair_stream.proofs.SubsetLaws.{descending_has, descending_order}
use Rattle.pair_stream.proofs.ConnectivityLaws.{connected_least}
use Rattle.connected_sets.specs.Lists.{extensions, grown_from, sets_with_least_below, sets_by_least}
use Rattle.connected_sets.proofs.Extensions.{IsExtension, NotWithin, extensions_sound, extensions_complete, extensions_order}

-- t is connected, has i, and has no other member of x
pub record IsGrownFrom (g : JoinGraph) (x i t : ℕ) : Type 0 where
  pub connected : Connected g t
  pub has : Has t i
  pub free : (r : ℕ) → Has t r → Has x r → i ≡ r

module _ (g : JoinGraph) (ok : IsGraph g) where
  -- ---- from one relation

  pub grown_sound : (x i u : ℕ) → i < g.n → Contains (grown_from g x i) u → IsGrownFrom g x i u
  unfolding grown_from
  grown_sound x i u l h =
      elim (contains_cases (single i) (extensions g g.n (single i) x) u h) [
        | inl e ↦ record {
          connected = subst (Connected g) e (connected_single g i l);
          has = subst (λ s. Has s i) e (single_has i);
          free = λ r k f. single_one i r (subst (λ s. Has s r) (sym e) k);
        }
        | inr m ↦
            let b : IsExtension g (single i) x u = extensions_sound g ok g.n (single i) x u (connected_single g i l) m in
            record {
              connected = b.connected;
              has = b.within i (single_has i);
              free = λ r k f. single_one i r (b.free r k f);
            }
      ]

  pub grown_complete : (x i u : ℕ) → i < g.n → IsGrownFrom g x i u → Contains (grown_from g x i) u
  unfolding grown_from
  grown_complete x i u l f =
      elim (cases_eq (single i) u) [
        | inl e ↦ subst (Contains (single i ∷ extensions g g.n (single i) x)) e (contains_head (single i) (extensions g g.n (single i) x))
        | inr ne ↦
            contains_tail (single i) (extensions g g.n (single i) x) u
            (extensions_complete g ok g.n (single i) x u (connected_single g i l)
            (record {
              connected = f.connected;
              within = λ r h. subst (Has u) (single_one i r h) f.has;
              larger = ne;
              free = λ r h k. subst (Has (single i)) (f.free r h k) (single_has i);
            })
            (size_full (minus u (single i)) g.n (λ r h. f.connected.within r (minus_left u (single i) r h))))
      ]

  pub grown_order : (x i : ℕ) → i < g.n → AllPairs NotWithin (grown_from g x i)
  unfolding grown_from
  grown_order x i l =
      pairs_cons NotWithin (single i) (extensions g g.n (single i) x)
      (λ u m w.
      let b : IsExtension g (single i) x u = extensions_sound g ok g.n (single i) x u (connected_single g i l) m in
      b.larger (within_same (single i) u b.within w))
      (extensions_order g ok g.n (single i) x (connected_single g i l))

  -- ---- all connected sets

  -- no later set lies within an earlier one, nor has a greater least relation
  abbrev pub ByLeast : ℕ → ℕ → Type 0
  ByLeast a c = NotWithin a c × (least c ≤ least a)

  from_least : (i u : ℕ) → IsGrownFrom g (full (suc i)) i u → IsLeast u i
  from_least i u f = (f.has, λ k h. at k h)
    where
      at : (k : ℕ) → Has u k → i ≤ k
      at k h =
          elim (cases_eq (member (full (suc i)) k) 1) [
            | inl e ↦ omega (arith, f.free k h e)
            | inr ne ↦ outside k ne
          ]
        where
          outside : (k : ℕ) → (Has (full (suc i)) k → ⊥) → i ≤ k
          outside k ne = grind (arith, sets)

  sets_from : (u : ℕ) → Contains (sets_by_least g) u → (i : ℕ) × (i < g.n) × IsGrownFrom g (full (suc i)) i u
  unfolding sets_by_least sets_with_least_below
  sets_from u h =
      let i : (i : ℕ) × Contains (descending g.n) i × Contains (grown_from g (full (suc i)) i) u = contains_from_flat_map (λ i. grown_from g (full (suc i)) i) (descending g.n) u h in
      (i.0, (descending_has g.n i.0).0 i.1, grown_sound (full (suc i.0)) i.0 u ((descending_has g.n i.0).0 i.1) i.2)

  pub sets_has : (u : ℕ) → Contains (sets_by_least g) u ↔ Connected g u
  unfolding sets_by_least sets_with_least_below
  sets_has u = (
    λ h. (sets_from u h).2.connected,
    λ c.
        let i : ℕ = least u in
        let l : IsLeast u i = connected_least g u ok c in
        let below : i < g.n = known_relation g u i c l.0 in
        contains_flat_map (λ i. grown_from g (full (suc i)) i) (descending g.n) i u ((descending_has g.n i).1 below)
        (grown_complete (full (suc i)) i u below
        (record {
          connected = c;
          has = l.0;
          free = λ r h k. omega (arith, full_limit (suc i) r k, l.1 r h);
        })),
  )

  grown_least : (i u : ℕ) → IsGrownFrom g (full (suc i)) i u → least u ≡ i
  grown_least i u f = least_same u (least u) i (connected_least g u ok f.connected) (from_least i u f)

  pub sets_order : AllPairs ByLeast (sets_by_least g)
  unfolding sets_by_least sets_with_least_below
  sets_order =
      pairs_flat_map ByLeast (λ i j. j < i) (λ i. grown_from g (full (suc i)) i) (descending g.n) (descending_order g.n)
      (λ i m.
      pairs_weaker ByLeast NotWithin (grown_from g (full (suc i)) i) (grown_order (full (suc i)) i ((descending_has g.n i).0 m))
      (λ a c ma mc w. (w, omega (arith, grown_least i a (grown i a m ma), grown_least i c (grown i c m mc)))))
      (λ i j a c mi mj l ma mc. (
        λ w. omega (arith, (from_least i a (grown i a mi ma)).1 j (w j (grown j c mj mc).has)),
        omega (arith, grown_least i a (grown i a mi ma), grown_least j c (grown j c mj mc)),
      ))
    where
      grown : (i u : ℕ) → Contains (descending g.n) i → Contains (grown_from g (full (suc i)) i) u → IsGrownFrom g (full (suc i)) i u
      grown i u m h = grown_sound (full (suc i)) i u ((descending_has g.n i).0 m) h

  -- no set stands twice
  pub sets_once : AllPairs (λ a b. a ≢ b) (sets_by_least g)
  sets_once = pairs_weaker (λ a b. a ≢ b) ByLeast (sets_by_least g) sets_order (λ a b ma mb w e. w.0 (subst (λ k. Within k a) e (λ r h. h)))

  -- no set stands after one that it lies within
  pub subsets_first : AllPairs (λ a b. Within b a → ⊥) (sets_by_least g)
  subsets_first = pairs_weaker (λ a b. Within b a → ⊥) ByLeast (sets_by_least g) sets_order (λ a b ma mb w. w.0)
