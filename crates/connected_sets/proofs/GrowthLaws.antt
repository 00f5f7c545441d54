-- What one step of a growth takes from its list, and the room that its calls need.
use Rattle.std.proofs.Common.{◌≡◌, ◌≢◌, ℕ, suc, ◌+◌, ◌-◌, ◌<◌, ◌≤◌, inl, inr, arith, refl, sym, ◌∙◌, ap, subst, List, [], ◌∷◌, ◌++◌, map, append_assoc, append-nil, length, length-append}
use Rattle.std.specs.List.{Contains, flat_map}
use Rattle.std.proofs.lemmas.Bool.{cases_eq}
use Rattle.std.proofs.lemmas.List.{nil_from_length}
use Rattle.dpe_base.specs.Sets.{Has, Within, Disjoint, IsNextSubset, member, union, minus, full, size}
use Rattle.dpe_base.proofs.SetLaws.{sets, same_set, empty_has, has_some, union_left, union_right, union_cases, minus_has, minus_left, minus_right, union_within, within_same}
use Rattle.dpe_base.proofs.NextSubset.{within_le}
use Rattle.dpe_base.proofs.SizeLaws.{size-empty, size-union, size_none, size_full, some_member}
use Rattle.join_graph.specs.Graphs.{JoinGraph, IsGraph, Edge}
use Rattle.pair_stream.specs.Subsets.{subsets_after}
use Rattle.pair_stream.specs.Connectivity.{neighbours}
use Rattle.dpe_base.proofs.Members.{contains_head, contains_tail}
use Rattle.pair_stream.proofs.SubsetLaws.{subsets_has, subsets_next, subsets_last}
use Rattle.pair_stream.proofs.ConnectivityLaws.{neighbours_is}
use Rattle.connected_sets.specs.declared.growth.Call.{Call}
use Rattle.connected_sets.specs.declared.growth.Child.{Child}
use Rattle.connected_sets.specs.Lists.{neighbours_outside, all_extensions}
use Rattle.connected_sets.specs.Growth.{child_sets, calls_after, giving_left, calling_left, spent_call, CallFits, CallsFit, IsChild, NoChild}
use Rattle.connected_sets.proofs.Depth.{all_extensions_is, all_extensions_none, outside_in_graph, outside_apart, rest_falls}

pub within_empty : (n : ℕ) → Within 0 n
within_empty n r h = grind (arith, sets)

pub within_trans : (a b c : ℕ) → Within a b → Within b c → Within a c
within_trans a b c v w r h = w r (v r h)

-- ---- the neighbours of a call's base and of subsets of its neighbours

module _ (g : JoinGraph) (ok : IsGraph g) where
  joined : (s x r : ℕ) → Has (neighbours_outside g s x) r → (k : ℕ) × Has s k × Edge g k r
  joined s x r h = ((neighbours_is g s ok r).0 (minus_left (neighbours g s) x r h)).1

  outside_from : (s x r k : ℕ) → (Has s r → ⊥) → (Has x r → ⊥) → Has s k → Edge g k r → Has (neighbours_outside g s x) r
  outside_from s x r k not_in not_out h e = minus_has (neighbours g s) x r ((neighbours_is g s ok r).1 (not_in, (k, h, e))) not_out

  -- the neighbours of the base are excluded, so those of the subset are all that are new
  pub child_neighbours : (c : Call) (k t : ℕ) → CallFits g k c → Within t c.neighbours → neighbours_outside g t c.excluded ≡ neighbours_outside g (union c.base t) c.excluded
  child_neighbours c k t fits w = within_same (neighbours_outside g t c.excluded) (neighbours_outside g (union c.base t) c.excluded) forth back
    where
      forth : Within (neighbours_outside g t c.excluded) (neighbours_outside g (union c.base t) c.excluded)
      forth r h =
          let e : (k : ℕ) × Has t k × Edge g k r = joined t c.excluded r h in
          outside_from (union c.base t) c.excluded r e.0
          (λ m. elim (union_cases c.base t r m) [
            | inl b ↦ outside_apart g ok t c.excluded r h (fits.base_excluded r b)
            | inr b ↦ outside_apart g ok t c.excluded r h (fits.neighbours_excluded r (w r b))
          ])
          (outside_apart g ok t c.excluded r h) (union_right c.base t e.0 e.1) e.2

      back : Within (neighbours_outside g (union c.base t) c.excluded) (neighbours_outside g t c.excluded)
      back r h =
          let e : (k : ℕ) × Has (union c.base t) k × Edge g k r = joined (union c.base t) c.excluded r h in
          let x : Has c.excluded r → ⊥ = outside_apart g ok (union c.base t) c.excluded r h in
          elim (union_cases c.base t e.0 e.1) [
            | inl b ↦ absurd (x (fits.joined_excluded r ((neighbours_is g c.base ok r).1 ((λ m. x (fits.base_excluded r m)), (e.0, b, e.2)))))
            | inr b ↦ outside_from t c.excluded r e.0 (λ m. x (fits.neighbours_excluded r (w r m))) x b e.2
          ]

  -- what all neighbours don't reach, some of them don't
  none_reached : (c : Call) (k t : ℕ) → CallFits g k c → neighbours_outside g c.neighbours c.excluded ≡ 0 → Within t c.neighbours → neighbours_outside g t c.excluded ≡ 0
  none_reached c k t fits none w =
      elim (cases_eq (neighbours_outside g t c.excluded) 0) [
        | inl e ↦ e
        | inr ne ↦ absurd (some (some_member (neighbours_outside g t c.excluded) ne))
      ]
    where
      some : (r : ℕ) × Has (neighbours_outside g t c.excluded) r → ⊥
      some m =
          let e : (k : ℕ) × Has t k × Edge g k m.0 = joined t c.excluded m.0 m.1 in
          let x : Has c.excluded m.0 → ⊥ = outside_apart g ok t c.excluded m.0 m.1 in
          has_some (neighbours_outside g c.neighbours c.excluded) m.0
          (outside_from c.neighbours c.excluded m.0 e.0 (λ h. x (fits.neighbours_excluded m.0 h)) x (w e.0 e.1) e.2) none

flat_map_none : {X Y : Type 0} (f : X → List Y) (xs : List X) → ((x : X) → Contains xs x → f x ≡ []) → flat_map f xs ≡ []
flat_map_none f [] h = refl
flat_map_none f (x ∷ xs) h =
    ap (λ ys. ys ++ flat_map f xs) (h x (contains_head x xs)) ∙ flat_map_none f xs (λ y c. h y (contains_tail x xs y c))

-- ---- calls, in the order of their subsets

pub calls_next : (g : JoinGraph) (c : Call) (from t : ℕ) → IsNextSubset from c.neighbours t → calls_after g c from ≡ child_sets g c t ++ calls_after g c t
calls_next g c from t n = ap (flat_map (child_sets g c)) (subsets_next from c.neighbours t n)

pub calls_last : (g : JoinGraph) (c : Call) (from : ℕ) → from ≡ c.neighbours → calls_after g c from ≡ []
calls_last g c from e = ap (λ (k : ℕ). calls_after g c k) e ∙ ap (flat_map (child_sets g c)) (subsets_last c.neighbours)

-- no call gives anything
pub no_child : (g : JoinGraph) (c : Call) (k : ℕ) → IsGraph g → CallFits g k c → neighbours_outside g c.neighbours c.excluded ≡ 0 → NoChild g c
no_child g c k ok fits none =
    flat_map_none (child_sets g c) (subsets_after c.last c.neighbours)
    (λ t m.
    let w : Within t c.neighbours = ((subsets_has c.last c.neighbours t).0 m).1 in
    all_extensions_none g ok (union c.base t) c.excluded (sym (child_neighbours g ok c k t fits w) ∙ none_reached g ok c k t fits none w))

-- the next call gives nothing
pub child_skipped : (g : JoinGraph) (c : Call) (k from t neighbours : ℕ) → IsGraph g → CallFits g k c → IsNextSubset from c.neighbours t → neighbours ≡ neighbours_outside g t c.excluded → neighbours ≡ 0 → calls_after g c from ≡ calls_after g c t
child_skipped g c k from t neighbours ok fits n e z =
    calls_next g c from t n
    ∙ ap (λ ys. ys ++ calls_after g c t) (all_extensions_none g ok (union c.base t) c.excluded (sym (child_neighbours g ok c k t fits n.within) ∙ sym e ∙ z))

pub child_is : (g : JoinGraph) (c : Call) (k from t neighbours : ℕ) → IsGraph g → CallFits g k c → calls_after g c c.last ≡ calls_after g c from → IsNextSubset from c.neighbours t → neighbours ≡ neighbours_outside g t c.excluded → neighbours ≢ 0 → IsChild g c (record { last = t; neighbours = neighbours })
child_is g c k from t neighbours ok fits left n e some =
    record {
      neighbours = e ∙ child_neighbours g ok c k t fits n.within;
      some = some;
      part = n.within;
      left = left ∙ calls_next g c from t n;
    }

pub fewer : (o s t : ℕ) → IsNextSubset s o t → o - t < o - s
fewer o s t n = omega (arith, n.greater, within_le t o n.within)

-- ---- what a call gives

abbrev pub call : ℕ → ℕ → ℕ → ℕ → Call
call s n x last = record { base = s; neighbours = n; excluded = x; last = last }

-- a call that has given nothing yet
pub giving_fresh : (g : JoinGraph) (s n x e last : ℕ) → IsGraph g → n ≡ neighbours_outside g s x → e ≡ union x n → last ≡ 0 → giving_left g (call s n e last) ≡ all_extensions g s x
unfolding giving_left
giving_fresh g s n x e last ok en ee el =
    ap (λ (k : ℕ). giving_left g (call s n e k)) el
    ∙ ap (λ (k : ℕ). giving_left g (call s n k 0)) ee
    ∙ ap (λ (k : ℕ). giving_left g (call s k (union x k) 0)) en
    ∙ sym (all_extensions_is g ok s x)

-- the next of the call's own sets
pub giving_next : (g : JoinGraph) (c : Call) (t : ℕ) → IsNextSubset c.last c.neighbours t → giving_left g c ≡ union c.base t ∷ giving_left g (call c.base c.neighbours c.excluded t)
unfolding giving_left
giving_next g c t n = ap (λ ts. map (union c.base) ts ++ calls_after g c 0) (subsets_next c.last c.neighbours t n)

-- the call's own sets are given
pub giving_done : (g : JoinGraph) (c : Call) → c.last ≡ c.neighbours → giving_left g c ≡ calls_after g c 0
unfolding giving_left
giving_done g c e =
    ap (λ (k : ℕ). map (union c.base) (subsets_after k c.neighbours) ++ calls_after g c 0) e
    ∙ ap (λ ts. map (union c.base) ts ++ calls_after g c 0) (subsets_last c.neighbours)

pub giving_none : (g : JoinGraph) (c : Call) → c.last ≡ c.neighbours → c.neighbours ≡ 0 → giving_left g c ≡ []
giving_none g c e z = giving_done g c e ∙ calls_last g c 0 (sym z)

-- ---- the calls around it

pub calling_push : (g : JoinGraph) (cs : List Call) (c : Call) → calling_left g (cs ++ c ∷ []) ≡ calls_after g c c.last ++ calling_left g cs
unfolding calling_left
calling_push g [] c = sym (append-nil (calls_after g c c.last))
calling_push g (x ∷ cs) c =
    ap (λ ys. ys ++ calls_after g x x.last) (calling_push g cs c)
    ∙ append_assoc (calls_after g c c.last) (calling_left g cs) (calls_after g x x.last)

pub calling_none : (g : JoinGraph) (cs : List Call) → cs ≡ [] → calling_left g cs ≡ []
unfolding calling_left
calling_none g cs e = ap (calling_left g) e

-- ---- the room for the calls

pub fits_push : (g : JoinGraph) (k : ℕ) (cs : List Call) (c : Call) → CallsFit g k cs → CallFits g (k + length cs) c → CallsFit g k (cs ++ c ∷ [])
fits_push g k [] c s h = (subst (λ (n : ℕ). CallFits g n c) (omega arith) h, tt)
fits_push g k (x ∷ cs) c s h = (s.0, fits_push g (suc k) cs c s.1 (subst (λ (n : ℕ). CallFits g n c) (omega arith) h))

pub fits_pop : (g : JoinGraph) (k : ℕ) (cs : List Call) (c : Call) → CallsFit g k (cs ++ c ∷ []) → CallsFit g k cs × CallFits g (k + length cs) c
fits_pop g k [] c s = (tt, subst (λ (n : ℕ). CallFits g n c) (omega arith) s.0)
fits_pop g k (x ∷ cs) c s =
    let r : CallsFit g (suc k) cs × CallFits g (suc k + length cs) c = fits_pop g (suc k) cs c s.1 in
    ((s.0, r.0), subst (λ (n : ℕ). CallFits g n c) (omega arith) r.1)

pub popped : (g : JoinGraph) (old cs : List Call) (c : Call) → CallsFit g 0 old → old ≡ cs ++ c ∷ [] → CallsFit g 0 cs × CallFits g (length cs) c
popped g old cs c s e =
    let r : CallsFit g 0 cs × CallFits g (0 + length cs) c = fits_pop g 0 cs c (subst (CallsFit g 0) e s) in
    (r.0, subst (λ (n : ℕ). CallFits g n c) (omega arith) r.1)

pub pushed : (g : JoinGraph) (cs : List Call) (c : Call) → CallsFit g 0 cs → CallFits g (length cs) c → CallsFit g 0 (cs ++ c ∷ [])
pushed g cs c s h = fits_push g 0 cs c s (subst (λ (n : ℕ). CallFits g n c) (omega arith) h)

pub fits_at : (g : JoinGraph) (k : ℕ) (c : Call) (last : ℕ) → CallFits g k c → Within last c.neighbours → CallFits g k (call c.base c.neighbours c.excluded last)
fits_at g k c last h w =
    record {
      base_known = h.base_known;
      neighbours_known = h.neighbours_known;
      part = w;
      base_excluded = h.base_excluded;
      joined_excluded = h.joined_excluded;
      neighbours_excluded = h.neighbours_excluded;
      room = h.room;
    }

-- the neighbours of s are excluded: those in x, and those that come to it
all_joined : (g : JoinGraph) (s n x e : ℕ) → n ≡ neighbours_outside g s x → e ≡ union x n → Within (neighbours g s) e
all_joined g s n x e en ee r h =
    subst (λ (k : ℕ). Has k r) (sym (ee ∙ ap (union x) en))
    (elim (cases_eq (member x r) 1) [
      | inl m ↦ union_left x (neighbours_outside g s x) r m
      | inr m ↦ union_right x (neighbours_outside g s x) r (minus_has (neighbours g s) x r h m)
    ])

-- a call with its neighbours n, where x is excluded around it
pub fits_fresh : (g : JoinGraph) (k s n x e last : ℕ) → IsGraph g → Within s (full g.n) → Within s x → n ≡ neighbours_outside g s x → e ≡ union x n → last ≡ 0 → k + 1 + size (minus (full g.n) e) ≤ g.n → CallFits g k (call s n e last)
fits_fresh g k s n x e last ok known out en ee el room =
    record {
      base_known = known;
      neighbours_known = λ r h. outside_in_graph g ok s x r (subst (λ (m : ℕ). Has m r) en h);
      part = subst (λ (m : ℕ). Within m n) (sym el) (within_empty n);
      base_excluded = λ r h. subst (λ (m : ℕ). Has m r) (sym ee) (union_left x n r (out r h));
      joined_excluded = all_joined g s n x e en ee;
      neighbours_excluded = λ r h. subst (λ (m : ℕ). Has m r) (sym ee) (union_right x n r h);
      room = room;
    }

-- a set that is not empty leaves room for one call
pub first_room : (n s e : ℕ) → Within s (full n) → Within s e → s ≢ 0 → 0 + 1 + size (minus (full n) e) ≤ n
first_room n s e known out some =
    omega (arith, nonzero, size-union s (minus (full n) e) (λ r h k. minus_right (full n) e r k (out r h)), size_full (union s (minus (full n) e)) n both)
  where
    nonzero : 1 ≤ size s
    nonzero = elim (cases_eq (size s) 0) [ inl z ↦ absurd (some (size_none s z)) | inr y ↦ omega arith ]

    both : Within (union s (minus (full n) e)) (full n)
    both = union_within s (minus (full n) e) (full n) known (λ r h. minus_left (full n) e r h)

-- a call within a call has its room from the neighbours that came to the excluded
pub fits_child : (g : JoinGraph) (k : ℕ) (c : Call) (child : Child) (s e last : ℕ) → IsGraph g → CallFits g k c → IsChild g c child → s ≡ union c.base child.last → e ≡ union c.excluded child.neighbours → last ≡ 0 → CallFits g (k + 1) (call s child.neighbours e last)
fits_child g k c child s e last ok h x es ee el =
    fits_fresh g (k + 1) s child.neighbours c.excluded e last ok known out next ee el
    (subst (λ (m : ℕ). k + 1 + 1 + size (minus (full g.n) m) ≤ g.n) (sym ee) (omega (arith, h.room, rest_falls (full g.n) c.excluded child.neighbours in_graph apart x.some)))
  where
    next : child.neighbours ≡ neighbours_outside g s c.excluded
    next = x.neighbours ∙ ap (λ (m : ℕ). neighbours_outside g m c.excluded) (sym es)

    known : Within s (full g.n)
    known = subst (λ (m : ℕ). Within m (full g.n)) (sym es) (union_within c.base child.last (full g.n) h.base_known (within_trans child.last c.neighbours (full g.n) x.part h.neighbours_known))

    out : Within s c.excluded
    out = subst (λ (m : ℕ). Within m c.excluded) (sym es) (union_within c.base child.last c.excluded h.base_excluded (within_trans child.last c.neighbours c.excluded x.part h.neighbours_excluded))

    in_graph : Within child.neighbours (full g.n)
    in_graph r m = outside_in_graph g ok s c.excluded r (subst (λ (n : ℕ). Has n r) next m)

    apart : Disjoint child.neighbours c.excluded
    apart r m = outside_apart g ok s c.excluded r (subst (λ (n : ℕ). Has n r) next m)

-- a call that has nothing to give
neighbours_empty : (g : JoinGraph) → IsGraph g → (r : ℕ) → Has (neighbours g 0) r → ⊥
neighbours_empty g ok r h = none ((neighbours_is g 0 ok r).0 h).1
  where
    none : (k : ℕ) × Has 0 k × Edge g k r → ⊥
    none e = empty_has e.0 e.1

pub fits_spent : (g : JoinGraph) → IsGraph g → CallFits g 0 (spent_call g)
fits_spent g ok =
    record {
      base_known = within_empty (full g.n);
      neighbours_known = within_empty (full g.n);
      part = within_empty 0;
      base_excluded = within_empty (full g.n);
      joined_excluded = λ r h. absurd (neighbours_empty g ok r h);
      neighbours_excluded = within_empty (full g.n);
      room = omega (arith, ok.some, ap size nothing, size-empty);
    }
  where
    nothing : minus (full g.n) (full g.n) ≡ 0
    nothing = same_set _ _ (λ r. grind (arith, sets))

pub spent_left : (g : JoinGraph) (c : Call) (cs : List Call) → c ≡ spent_call g → cs ≡ [] → giving_left g c ++ calling_left g cs ≡ []
spent_left g c cs ec es =
    ap (λ (x : Call). giving_left g x ++ calling_left g cs) ec
    ∙ ap (λ ys. ys ++ calling_left g cs) (giving_none g (spent_call g) refl refl)
    ∙ calling_none g cs es

pub spent_fits : (g : JoinGraph) (c : Call) (cs : List Call) → IsGraph g → c ≡ spent_call g → cs ≡ [] → CallsFit g 0 cs × CallFits g (length cs) c
spent_fits g c cs ok ec es =
    subst (λ xs. CallsFit g 0 xs × CallFits g (length xs) c) (sym es)
    (tt, subst (λ (x : Call). CallFits g 0 x) (sym ec) (fits_spent g ok))

-- a call with no call around it
pub begun_left : (g : JoinGraph) (cs : List Call) (s n x e last : ℕ) → IsGraph g → cs ≡ [] → n ≡ neighbours_outside g s x → e ≡ union x n → last ≡ 0 → giving_left g (call s n e last) ++ calling_left g cs ≡ all_extensions g s x
begun_left g cs s n x e last ok ec en ee el =
    ap (λ ys. giving_left g (call s n e last) ++ ys) (calling_none g cs ec)
    ∙ append-nil (giving_left g (call s n e last))
    ∙ giving_fresh g s n x e last ok en ee el

pub begun_fits : (g : JoinGraph) (cs : List Call) (s n x e last : ℕ) → IsGraph g → cs ≡ [] → Within s (full g.n) → s ≢ 0 → Within s x → n ≡ neighbours_outside g s x → e ≡ union x n → last ≡ 0 → CallsFit g 0 cs × CallFits g (length cs) (call s n e last)
begun_fits g cs s n x e last ok ec known some out en ee el =
    subst (λ xs. CallsFit g 0 xs × CallFits g (length xs) (call s n e last)) (sym ec)
    (tt, fits_fresh g 0 s n x e last ok known out en ee el (first_room g.n s e known (λ r h. subst (λ (m : ℕ). Has m r) (sym ee) (union_left x n r (out r h))) some))

pub none_left : (g : JoinGraph) (old now : List Call) → old ≡ now ++ [] → (0 < length old → ⊥) → (calling_left g old ≡ []) × (now ≡ [])
none_left g [] [] e h = (calling_none g [] refl, refl)
none_left g [] (y ∷ ys) e h = cc
none_left g (x ∷ xs) now e h = absurd (h (omega arith))

pub spare_left : (g : JoinGraph) (c : Call) (cs : List Call) → c.last ≡ c.neighbours → c.neighbours ≡ 0 → length cs ≡ 0 → giving_left g c ++ calling_left g cs ≡ []
spare_left g c cs e z l = ap (λ ys. ys ++ calling_left g cs) (giving_none g c e z) ∙ calling_none g cs (nil_from_length cs l)

-- ---- from one call to the next

-- the call at hand has given its sets, and its calls come
pub calls_begin : (g : JoinGraph) (c : Call) (last : ℕ) (cs : List Call) → c.last ≡ c.neighbours → last ≡ 0 → giving_left g c ++ calling_left g cs ≡ calls_after g (call c.base c.neighbours c.excluded last) last ++ calling_left g cs
calls_begin g c last cs given e =
    ap (λ ys. ys ++ calling_left g cs) (giving_done g c given ∙ sym (ap (λ (k : ℕ). calls_after g c k) e))

pub fits_begin : (g : JoinGraph) (k : ℕ) (c : Call) (last : ℕ) → CallFits g k c → last ≡ 0 → CallFits g k (call c.base c.neighbours c.excluded last)
fits_begin g k c last h e = fits_at g k c last h (subst (λ (m : ℕ). Within m c.neighbours) (sym e) (within_empty c.neighbours))

-- a call within a call, as what it gives
entered : (g : JoinGraph) (c : Call) (child : Child) (s e last : ℕ) → IsGraph g → IsChild g c child → s ≡ union c.base child.last → e ≡ union c.excluded child.neighbours → last ≡ 0 → giving_left g (call s child.neighbours e last) ≡ child_sets g c child.last
entered g c child s e last ok x es ee el =
    giving_fresh g s child.neighbours c.excluded e last ok (x.neighbours ∙ ap (λ (m : ℕ). neighbours_outside g m c.excluded) (sym es)) ee el
    ∙ ap (λ (m : ℕ). all_extensions g m c.excluded) es

-- it is entered, and the call stays around it
pub enter_left : (g : JoinGraph) (old now : List Call) (c : Call) (child : Child) (s e last : ℕ) → IsGraph g → IsChild g c child → now ≡ old ++ call c.base c.neighbours c.excluded child.last ∷ [] → s ≡ union c.base child.last → e ≡ union c.excluded child.neighbours → last ≡ 0
    → giving_left g (call s child.neighbours e last) ++ calling_left g now ≡ calls_after g c c.last ++ calling_left g old
enter_left g old now c child s e last ok x en es ee el =
    ap (λ ys. ys ++ calling_left g now) (entered g c child s e last ok x es ee el)
    ∙ ap (λ ys. child_sets g c child.last ++ ys) (ap (calling_left g) en ∙ calling_push g old (call c.base c.neighbours c.excluded child.last))
    ∙ sym (append_assoc (child_sets g c child.last) (calls_after g c child.last) (calling_left g old))
    ∙ ap (λ ys. ys ++ calling_left g old) (sym x.left)

-- it is entered, and was the last
pub enter_last : (g : JoinGraph) (old now : List Call) (c : Call) (child : Child) (s e last : ℕ) → IsGraph g → IsChild g c child → now ≡ old → child.last ≡ c.neighbours → s ≡ union c.base child.last → e ≡ union c.excluded child.neighbours → last ≡ 0
    → giving_left g (call s child.neighbours e last) ++ calling_left g now ≡ calls_after g c c.last ++ calling_left g old
enter_last g old now c child s e last ok x en at_end es ee el =
    ap (λ cs. giving_left g (call s child.neighbours e last) ++ calling_left g cs) en
    ∙ ap (λ ys. ys ++ calling_left g old)
    (entered g c child s e last ok x es ee el
    ∙ sym (append-nil (child_sets g c child.last))
    ∙ ap (λ ys. child_sets g c child.last ++ ys) (sym (calls_last g c child.last at_end))
    ∙ sym x.left)

pub enter_fits : (g : JoinGraph) (old now : List Call) (c : Call) (child : Child) (s e last : ℕ) → IsGraph g → CallsFit g 0 old → CallFits g (length old) c → IsChild g c child → now ≡ old ++ call c.base c.neighbours c.excluded child.last ∷ [] → s ≡ union c.base child.last → e ≡ union c.excluded child.neighbours → last ≡ 0
    → CallsFit g 0 now × CallFits g (length now) (call s child.neighbours e last)
enter_fits g old now c child s e last ok fits h x en es ee el =
    let outer : Call = call c.base c.neighbours c.excluded child.last in (
      subst (CallsFit g 0) (sym en) (pushed g old outer fits (fits_at g (length old) c child.last h x.part)),
      subst (λ (k : ℕ). CallFits g k (call s child.neighbours e last)) (sym (ap length en ∙ length-append old (outer ∷ [])))
          (fits_child g (length old) c child s e last ok h x es ee el),
    )

-- with fewer calls around it there is as much room
fits_lower : (g : JoinGraph) (k : ℕ) (c : Call) → CallFits g (k + 1) c → CallFits g k c
fits_lower g k c h =
    record {
      base_known = h.base_known;
      neighbours_known = h.neighbours_known;
      part = h.part;
      base_excluded = h.base_excluded;
      joined_excluded = h.joined_excluded;
      neighbours_excluded = h.neighbours_excluded;
      room = omega (arith, h.room);
    }

pub enter_last_fits : (g : JoinGraph) (old now : List Call) (c : Call) (child : Child) (s e last : ℕ) → IsGraph g → CallsFit g 0 old → CallFits g (length old) c → IsChild g c child → now ≡ old → s ≡ union c.base child.last → e ≡ union c.excluded child.neighbours → last ≡ 0
    → CallsFit g 0 now × CallFits g (length now) (call s child.neighbours e last)
enter_last_fits g old now c child s e last ok fits h x en es ee el =
    subst (λ cs. CallsFit g 0 cs × CallFits g (length cs) (call s child.neighbours e last)) (sym en)
    (fits, fits_lower g (length old) (call s child.neighbours e last) (fits_child g (length old) c child s e last ok h x es ee el))

-- the call has nothing left to give, and the one around it comes
pub outer_left : (g : JoinGraph) (old now : List Call) (c outer : Call) → NoChild g c → old ≡ now ++ outer ∷ [] → calls_after g c c.last ++ calling_left g old ≡ calls_after g outer outer.last ++ calling_left g now
outer_left g old now c outer none e = ap (λ ys. ys ++ calling_left g old) none ∙ ap (calling_left g) e ∙ calling_push g now outer

-- the call has nothing left to give, and there is none around it
pub all_left : (g : JoinGraph) (old : List Call) (c : Call) → NoChild g c → calling_left g old ≡ [] → calls_after g c c.last ++ calling_left g old ≡ []
all_left g old c none e = ap (λ ys. ys ++ calling_left g old) none ∙ e
