-- The sets that grow from a connected set: which they are, and in what order they stand.
use Rattle.std.proofs.Common.{◌≡◌, ◌≢◌, ℕ, zero, suc, ◌<◌, ◌≤◌, ◌⊎◌, inl, inr, arith, sym, ◌∙◌, ap, subst, List, map}
use Rattle.std.specs.List.{AllPairs, Contains, flat_map}
use Rattle.std.proofs.lemmas.Bool.{cases_eq}
use Rattle.std.proofs.lemmas.List.Elements.{Contains-append_left, Contains-append_right, Contains-append_cases}
use Rattle.dpe_base.specs.Sets.{Has, Within, Disjoint, member, union, inter, minus, full, size}
use Rattle.dpe_base.proofs.SetLaws.{sets, same_set, member-same, union_left, union_right, union_cases, full_has, inter_right, minus_has, minus_left, minus_right, within_same}
use Rattle.dpe_base.proofs.NextSubset.{within_le}
use Rattle.dpe_base.proofs.SizeLaws.{size-union, size_none}
use Rattle.join_graph.specs.Graphs.{JoinGraph, IsGraph, Edge, Crossed, Connected}
use Rattle.join_graph.specs.Growth.{IsFrontier}
use Rattle.join_graph.proofs.Growth.{connected_more}
use Rattle.pair_stream.specs.Subsets.{subsets}
use Rattle.pair_stream.specs.Connectivity.{neighbours}
use Rattle.dpe_base.proofs.Members.{contains_none}
use Rattle.pair_stream.proofs.Lists.{contains_map, contains_from_map, contains_flat_map, contains_from_flat_map, pairs_nil, pairs_append, pairs_map, pairs_flat_map}
use Rattle.pair_stream.proofs.SubsetLaws.{subsets_has, subsets_ascend, positive}
use Rattle.pair_stream.proofs.ConnectivityLaws.{neighbours_is}
use Rattle.connected_sets.specs.Lists.{neighbours_outside, extensions}
use Rattle.connected_sets.proofs.Depth.{outside_apart}

-- t is connected, contains s and more, and has no member of x outside s
pub record IsExtension (g : JoinGraph) (s x t : ℕ) : Type 0 where
  pub connected : Connected g t
  pub within : Within s t
  pub larger : s ≢ t
  pub free : (r : ℕ) → Has t r → Has x r → Has s r

-- ---- sets: n lies apart from s and from x, and t is in n

-- where no member of t' is in x or n outside s and t, the part of t' in n is t
part_is : (s x n t u : ℕ) → Disjoint n s → Within t n → Within (union s t) u → ((r : ℕ) → Has u r → Has (union x n) r → Has (union s t) r) → inter u n ≡ t
part_is s x n t u d w v f = same_set _ _ (λ r. at r (w r) (v r) (f r) (d r))
  where
    at : (r : ℕ) → (Has t r → Has n r) → (Has (union s t) r → Has u r) → (Has u r → Has (union x n) r → Has (union s t) r) → (Has n r → Has s r → ⊥) → member (inter u n) r ≡ member t r
    at r a b c e = grind (arith, sets)

free_up : (s x n t u : ℕ) → Disjoint n x → Within t n → ((r : ℕ) → Has u r → Has (union x n) r → Has (union s t) r) → (r : ℕ) → Has u r → Has x r → Has s r
free_up s x n t u d w f r h k = at (f r) (w r) (d r)
  where
    at : (Has u r → Has (union x n) r → Has (union s t) r) → (Has t r → Has n r) → (Has n r → Has x r → ⊥) → Has s r
    at a b c = grind (arith, sets)

-- x and n in one more step
free_down : (s x n u : ℕ) → ((r : ℕ) → Has u r → Has x r → Has s r) → (r : ℕ) → Has u r → Has (union x n) r → Has (union s (inter u n)) r
free_down s x n u f r h k = at (f r)
  where
    at : (Has u r → Has x r → Has s r) → Has (union s (inter u n)) r
    at a = grind (arith, sets)

within_left : (a b t : ℕ) → Within (union a b) t → Within a t
within_left a b t w r h = w r (in_union r h)
  where
    in_union : (r : ℕ) → Has a r → Has (union a b) r
    in_union r h = grind (arith, sets)

within_both : (s n u : ℕ) → Within s u → Within (union s (inter u n)) u
within_both s n u w r h = at (w r)
  where
    at : (Has s r → Has u r) → Has u r
    at a = grind (arith, sets)

-- of two sets beyond s with the same rest free, the one in the other has its part in n in the other's part
part_within : (n a c : ℕ) → Within c a → Within (inter c n) (inter a n)
part_within n a c w r h = at (w r)
  where
    at : (Has c r → Has a r) → Has (inter a n) r
    at f = grind (arith, sets)

-- a set in the union of s and a part of n is the union of s and its own part
in_part : (s n a c : ℕ) → Within s c → Within a n → Within c (union s a) → c ≡ union s (inter c n)
in_part s n a c v w k = same_set _ _ (λ r. at r (v r) (w r) (k r))
  where
    at : (r : ℕ) → (Has s r → Has c r) → (Has a r → Has n r) → (Has c r → Has (union s a) r) → member c r ≡ member (union s (inter c n)) r
    at r f k l = grind (arith, sets)

-- the part is smaller by what a step takes
part_smaller : (s n u : ℕ) → Disjoint n s → inter u n ≢ 0 → size (minus u (union s (inter u n))) < size (minus u s)
part_smaller s n u d ne =
    omega (
      arith,
      nonzero,
      ap size whole,
      size-union (inter u n) (minus u (union s (inter u n))) (λ r x y. apart r x y),
    )
  where
    nonzero : 1 ≤ size (inter u n)
    nonzero = elim (cases_eq (size (inter u n)) 0) [ inl e ↦ absurd (ne (size_none _ e)) | inr x ↦ omega arith ]

    at : (r : ℕ) → (Has n r → Has s r → ⊥) → member (union (inter u n) (minus u (union s (inter u n)))) r ≡ member (minus u s) r
    at r f = grind (arith, sets)

    whole : union (inter u n) (minus u (union s (inter u n))) ≡ minus u s
    whole = same_set _ _ (λ r. at r (d r))

    apart : (r : ℕ) → Has (inter u n) r → Has (minus u (union s (inter u n))) r → ⊥
    apart r x y = grind (arith, sets)

-- no later set lies within an earlier one
abbrev pub NotWithin : ℕ → ℕ → Type 0
NotWithin a c = Within c a → ⊥

step_within : (s n a b : ℕ) → Disjoint n s → Within b n → Within (union s b) (union s a) → Within b a
step_within s n a b d w v r h = at (d r) (w r) (v r)
  where
    at : (Has n r → Has s r → ⊥) → (Has b r → Has n r) → (Has (union s b) r → Has (union s a) r) → Has a r
    at f k l = grind (arith, sets)

module _ (g : JoinGraph) (ok : IsGraph g) where
  outside_self : (s x : ℕ) → Disjoint (neighbours_outside g s x) s
  outside_self s x r h k = ((neighbours_is g s ok r).0 (minus_left (neighbours g s) x r h)).0 k

  -- s and neighbours of it are connected together
  pub connected_step : (s x t : ℕ) → Connected g s → Within t (neighbours_outside g s x) → Connected g (union s t)
  connected_step s x t c w = connected_more g s (union s t) t c in_graph frontier
    where
      near : (r : ℕ) → Has t r → (Has s r → ⊥) × ((k : ℕ) × Has s k × Edge g k r)
      near r h = (neighbours_is g s ok r).0 (minus_left (neighbours g s) x r (w r h))

      in_graph : Within (union s t) (full g.n)
      in_graph r h =
          elim (union_cases s t r h) [
            | inl a ↦ c.within r a
            | inr b ↦ full_has g.n r (ok.known (near r b).1.0 r (near r b).1.2).1
          ]

      right : (r : ℕ) → Has (union s t) r → (Has s r → ⊥) → Has t r
      right r h k = grind (arith, sets)

      frontier : IsFrontier g s (union s t) t
      frontier r = (λ h. (union_right s t r h, (near r h).0, (near r h).1), λ h. right r h.0 h.1)

  -- a larger connected set has a relation next to s
  pub touches : (s x t : ℕ) → Connected g s → IsExtension g s x t → (r : ℕ) × Has t r × Has (neighbours_outside g s x) r
  touches s x t c b = from (b.connected.split s (minus t s) c.some some (λ r h k. minus_right t s r k h) whole)
    where
      some : minus t s ≢ 0
      some e = b.larger (within_same s t b.within (λ r h. all r h))
        where
          all : (r : ℕ) → Has t r → Has s r
          all r h = grind (arith, sets, member-same e r)

      whole : union s (minus t s) ≡ t
      whole = same_set _ _ (λ r. at r (b.within r))
        where
          at : (r : ℕ) → (Has s r → Has t r) → member (union s (minus t s)) r ≡ member t r
          at r f = grind (arith, sets)

      next : (k r : ℕ) → Has s k → Has (minus t s) r → Edge g k r → Has (neighbours_outside g s x) r
      next k r h m e =
          minus_has (neighbours g s) x r ((neighbours_is g s ok r).1 (minus_right t s r m, (k, h, e)))
          (λ in_x. minus_right t s r m (b.free r (minus_left t s r m) in_x))

      from : Crossed g s (minus t s) → (r : ℕ) × Has t r × Has (neighbours_outside g s x) r
      from y =
          elim y.3 [
            | inl h ↦ (y.1, minus_left t s y.1 h.1, next y.0 y.1 h.0 h.1 y.2)
            | inr h ↦ (y.0, minus_left t s y.0 h.1, next y.1 y.0 h.0 h.1 (ok.turned y.0 y.1 y.2))
          ]

  -- what one step reaches
  extension_step : (s x t : ℕ) → Connected g s → 0 < t → Within t (neighbours_outside g s x) → IsExtension g s x (union s t)
  extension_step s x t c l w =
      record {
        connected = connected_step s x t c w;
        within = λ r h. union_left s t r h;
        larger = λ e. none e;
        free = λ r h k. elim (union_cases s t r h) [ inl a ↦ a | inr b ↦ absurd (outside_apart g ok s x r (w r b) k) ];
      }
    where
      none : s ≡ union s t → ⊥
      none e = omega (arith, empty)
        where
          at : (r : ℕ) → (Has t r → Has s r → ⊥) → member t r ≡ member 0 r
          at r f = grind (arith, sets, member-same e r)

          empty : t ≡ 0
          empty = same_set _ _ (λ r. at r (λ h k. outside_self s x r (w r h) k))

  -- what is beyond one step
  extension_up : (s x t u : ℕ) → Within t (neighbours_outside g s x) → IsExtension g (union s t) (union x (neighbours_outside g s x)) u → IsExtension g s x u
  extension_up s x t u w b =
      record {
        connected = b.connected;
        within = within_left s t u b.within;
        larger = λ e. b.larger (within_same (union s t) u b.within (λ r h. union_left s t r (subst (λ k. Has k r) (sym e) h)));
        free = free_up s x (neighbours_outside g s x) t u (outside_apart g ok s x) w b.free;
      }

  -- a set beyond s is reached by one step with its part next to s, or lies beyond that
  extension_down : (s x u : ℕ) → IsExtension g s x u → (union s (inter u (neighbours_outside g s x)) ≡ u) ⊎ IsExtension g (union s (inter u (neighbours_outside g s x))) (union x (neighbours_outside g s x)) u
  extension_down s x u b =
      elim (cases_eq (union s (inter u (neighbours_outside g s x))) u) [
        | inl e ↦ inl e
        | inr ne ↦ inr (record {
          connected = b.connected;
          within = within_both s (neighbours_outside g s x) u b.within;
          larger = ne;
          free = free_down s x (neighbours_outside g s x) u b.free;
        })
      ]

  -- ---- which sets

  pub extensions_sound : (depth s x u : ℕ) → Connected g s → Contains (extensions g depth s x) u → IsExtension g s x u
  unfolding extensions
  extensions_sound zero s x u c h = absurd (contains_none u h)
  extensions_sound (suc depth) s x u c h =
      elim (Contains-append_cases (map (union s) (subsets (neighbours_outside g s x))) (flat_map (λ t. extensions g depth (union s t) (union x (neighbours_outside g s x))) (subsets (neighbours_outside g s x))) u h) [
        | inl a ↦
            let t : (t : ℕ) × Contains (subsets (neighbours_outside g s x)) t × (union s t ≡ u) = contains_from_map (union s) (subsets (neighbours_outside g s x)) u a in
            let m : (0 < t.0) × Within t.0 (neighbours_outside g s x) = (subsets_has 0 (neighbours_outside g s x) t.0).0 t.1 in
            subst (IsExtension g s x) t.2 (extension_step s x t.0 c m.0 m.1)
        | inr b ↦
            let t : (t : ℕ) × Contains (subsets (neighbours_outside g s x)) t × Contains (extensions g depth (union s t) (union x (neighbours_outside g s x))) u =
            contains_from_flat_map (λ t. extensions g depth (union s t) (union x (neighbours_outside g s x))) (subsets (neighbours_outside g s x)) u b in
            let m : (0 < t.0) × Within t.0 (neighbours_outside g s x) = (subsets_has 0 (neighbours_outside g s x) t.0).0 t.1 in
            extension_up s x t.0 u m.1 (extensions_sound depth (union s t.0) (union x (neighbours_outside g s x)) u (connected_step s x t.0 c m.1) t.2)
      ]

  pub extensions_complete : (depth s x u : ℕ) → Connected g s → IsExtension g s x u → size (minus u s) ≤ depth → Contains (extensions g depth s x) u
  unfolding extensions
  extensions_complete zero s x u c b l = absurd (b.larger (within_same s u b.within (λ r h. all r h)))
    where
      empty : minus u s ≡ 0
      empty = size_none (minus u s) (omega arith)

      all : (r : ℕ) → Has u r → Has s r
      all r h = grind (arith, sets, member-same empty r)
  extensions_complete (suc depth) s x u c b l =
      let n : ℕ = neighbours_outside g s x in
      let p : ℕ = inter u n in
      let t : (r : ℕ) × Has u r × Has n r = touches s x u c b in
      let some : p ≢ 0 = some_in u n t.0 t.1 t.2 in
      let in_list : Contains (subsets n) p = (subsets_has 0 n p).1 (positive p some, λ r h. inter_right u n r h) in
      elim (extension_down s x u b) [
        | inl e ↦
            Contains-append_left (map (union s) (subsets n)) (flat_map (λ t. extensions g depth (union s t) (union x n)) (subsets n)) u
            (subst (Contains (map (union s) (subsets n))) e (contains_map (union s) (subsets n) p in_list))
        | inr d ↦
            Contains-append_right (map (union s) (subsets n)) (flat_map (λ t. extensions g depth (union s t) (union x n)) (subsets n)) u
            (contains_flat_map (λ t. extensions g depth (union s t) (union x n)) (subsets n) p u in_list
            (extensions_complete depth (union s p) (union x n) u (connected_step s x p c (λ r h. inter_right u n r h)) d
            (omega (arith, part_smaller s n u (outside_self s x) some))))
      ]
    where
      some_in : (u n r : ℕ) → Has u r → Has n r → inter u n ≢ 0
      some_in u n r h k e = grind (arith, sets, member-same e r)

  -- ---- in what order

  -- the part next to s of a set beyond one step is that step
  extension_part : (s x t u : ℕ) → Within t (neighbours_outside g s x) → IsExtension g (union s t) (union x (neighbours_outside g s x)) u → inter u (neighbours_outside g s x) ≡ t
  extension_part s x t u w b = part_is s x (neighbours_outside g s x) t u (outside_self s x) w b.within b.free

  pub extensions_order : (depth s x : ℕ) → Connected g s → AllPairs NotWithin (extensions g depth s x)
  unfolding extensions
  extensions_order zero s x c = pairs_nil NotWithin
  extensions_order (suc depth) s x c =
      pairs_append NotWithin (map (union s) (subsets n)) (flat_map call (subsets n))
      (pairs_map NotWithin (λ a b. a < b) (union s) (subsets n) (subsets_ascend 0 n)
      (λ a b ca cb l w. omega (arith, within_le b a (step_within s n a b (outside_self s x) (in_next b cb) w))))
      (pairs_flat_map NotWithin (λ a b. a < b) call (subsets n) (subsets_ascend 0 n)
      (λ t m. extensions_order depth (union s t) (union x n) (connected_step s x t c (in_next t m)))
      (λ a b u v ca cb l mu mv w.
      omega (arith, within_le (inter v n) (inter u n) (part_within n u v w), part a u ca mu, part b v cb mv)))
      (λ u v mu mv w.
      let a : (a : ℕ) × Contains (subsets n) a × (union s a ≡ u) = contains_from_map (union s) (subsets n) u mu in
      let t : (t : ℕ) × Contains (subsets n) t × Contains (call t) v = contains_from_flat_map call (subsets n) v mv in
      let b : IsExtension g (union s t.0) (union x n) v = later t.0 v t.1 t.2 in
      b.larger (sym (in_part s n a.0 v (within_left s t.0 v b.within) (in_next a.0 a.1) (subst (Within v) (sym a.2) w) ∙ ap (union s) (part t.0 v t.1 t.2))))
    where
      n : ℕ
      n = neighbours_outside g s x

      call : ℕ → List ℕ
      call t = extensions g depth (union s t) (union x (neighbours_outside g s x))

      in_next : (t : ℕ) → Contains (subsets (neighbours_outside g s x)) t → Within t (neighbours_outside g s x)
      in_next t m = ((subsets_has 0 (neighbours_outside g s x) t).0 m).1

      later : (t u : ℕ) → Contains (subsets (neighbours_outside g s x)) t → Contains (extensions g depth (union s t) (union x (neighbours_outside g s x))) u → IsExtension g (union s t) (union x (neighbours_outside g s x)) u
      later t u m h = extensions_sound depth (union s t) (union x (neighbours_outside g s x)) u (connected_step s x t c (in_next t m)) h

      part : (t u : ℕ) → Contains (subsets (neighbours_outside g s x)) t → Contains (extensions g depth (union s t) (union x (neighbours_outside g s x))) u → inter u (neighbours_outside g s x) ≡ t
      part t u m h = extension_part s x t u (in_next t m) (later t u m h)
