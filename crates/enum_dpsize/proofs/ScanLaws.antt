-- A row by skips: what the scan leaps over cannot be joined, and its probes are those that are left.
use Rattle.std.proofs.Common.{◌≡◌, ℕ, zero, suc, ◌+◌, ◌-◌, ◌^◌, ◌<◌, ◌≤◌, arith, sym, ◌∙◌, ap, true, false, List, ◌∷◌, length, get_or, slice_index, drop}
use Rattle.std.specs.Prelude.{All}
use Rattle.std.proofs.lemmas.List.{get_or_default}
use Rattle.dpe_base.specs.declared.pair.Pair.{Pair}
use Rattle.dpe_base.specs.Sets.{Meets}
use Rattle.dpe_base.proofs.SizeLaws.{within_span}
use Rattle.join_graph.specs.Graphs.{JoinGraph, IsGraph, Connected}
use Rattle.skip_vector.specs.Skips.{IsPart, IsFirstFree, NoneFree, probes, probes_from}
use Rattle.skip_vector.proofs.JoinLaws.{probes_rest}
use Rattle.enum_dpsize.specs.Dpsize.{is_joinable, pair_by_least, pairs_with}
use Rattle.enum_dpsize.proofs.RowLaws.{not_joinable, row_taken, row_passed}

-- a blocked entry cannot be joined
blocked_out : (g : JoinGraph) (x y : ℕ) → Meets y x → false ≡ is_joinable g x y
blocked_out g x y m = not_joinable g x y (m.0, m.2, m.1)

skipped : (g : JoinGraph) (ys : List ℕ) (x from d : ℕ) → from + d ≤ length ys → NoneFree ys x from (from + d) → pairs_with g (drop from ys) x ≡ pairs_with g (drop (from + d) ys) x
skipped g ys x from zero l none = ap (λ (k : ℕ). pairs_with g (drop k ys) x) here
  where
    here : from ≡ from + 0
    here = omega arith
skipped g ys x from (suc d) l none =
    skipped g ys x from d (omega arith) (λ j a b. none j a (omega arith))
    ∙ row_passed g ys x (from + d) (slice_index ys (from + d)) (omega arith) (get_or_default ys (from + d) 0 (slice_index ys (from + d)) (omega arith)) (blocked_out g x (slice_index ys (from + d)) (none (from + d) (omega arith) (omega arith)))
    ∙ ap (λ (k : ℕ). pairs_with g (drop k ys) x) next
  where
    next : from + d + 1 ≡ from + suc d
    next = omega arith

skipped_to : (g : JoinGraph) (ys : List ℕ) (x from place : ℕ) → from ≤ place → place ≤ length ys → NoneFree ys x from place → pairs_with g (drop from ys) x ≡ pairs_with g (drop place ys) x
skipped_to g ys x from place l m none =
    skipped g ys x from (place - from) (omega arith) (λ j a b. none j a (omega arith))
    ∙ ap (λ (k : ℕ). pairs_with g (drop k ys) x) there
  where
    there : from + (place - from) ≡ place
    there = omega arith

entry_read : (ys : List ℕ) (x from place y : ℕ) → IsFirstFree ys x from place y → y ≡ get_or ys place y
entry_read ys x from place y f = f.entry_is ∙ get_or_default ys place 0 y f.within

-- the found entry makes a pair
pub found_taken : (g : JoinGraph) (ys : List ℕ) (x from place y : ℕ) (p : Pair) → IsFirstFree ys x from place y → true ≡ is_joinable g x y → p ≡ pair_by_least x y → pairs_with g (drop from ys) x ≡ p ∷ pairs_with g (drop (place + 1) ys) x
found_taken g ys x from place y p f t e =
    skipped_to g ys x from place f.from_on (omega (arith, f.within)) f.first
    ∙ row_taken g ys x place y p f.within (entry_read ys x from place y f) t e

-- it makes none
pub found_passed : (g : JoinGraph) (ys : List ℕ) (x from place y : ℕ) → IsFirstFree ys x from place y → false ≡ is_joinable g x y → pairs_with g (drop from ys) x ≡ pairs_with g (drop (place + 1) ys) x
found_passed g ys x from place y f t =
    skipped_to g ys x from place f.from_on (omega (arith, f.within)) f.first
    ∙ row_passed g ys x place y f.within (entry_read ys x from place y f) t

pub none_found : (g : JoinGraph) (ys : List ℕ) (x from end : ℕ) → end ≡ length ys → from < length ys → NoneFree ys x from (length ys) → pairs_with g (drop from ys) x ≡ pairs_with g (drop end ys) x
none_found g ys x from end e l none =
    skipped_to g ys x from (length ys) (omega arith) (omega arith) none ∙ ap (λ (k : ℕ). pairs_with g (drop k ys) x) (sym e)

-- ---- the probes

pub entries_small : (g : JoinGraph) (ys : List ℕ) → IsGraph g → All (Connected g) ys → (i : ℕ) → i < length ys → slice_index ys i < 2 ^ 32
entries_small g ys ok all i l = omega (arith, within_span (slice_index ys i) g.n (all i 0 l).within ok.few)

pub found_counted : (ys : List ℕ) (x from place y n : ℕ) → IsPart ys → ((i : ℕ) → i < length ys → slice_index ys i < 2 ^ 32) → IsFirstFree ys x from place y → n ≡ probes ys from x (place + 1 - from) → n + probes_from ys (place + 1) x ≡ probes_from ys from x
found_counted ys x from place y n ok small f e = omega (arith, e, probes_rest ys x from place y ok small f)

pub none_over : (ys : List ℕ) (x from : ℕ) → length ys ≤ from → probes_from ys from x ≡ 0
unfolding probes
none_over ys x from l = ap (probes ys from x) none
  where
    none : length ys - from ≡ 0
    none = omega arith

pub none_counted : (ys : List ℕ) (x from end n : ℕ) → end ≡ length ys → n ≡ probes ys from x (length ys - from) → n + probes_from ys end x ≡ probes_from ys from x
none_counted ys x from end n e h = omega (arith, h, none_over ys x end (omega arith))
