-- The next subset with the least member of the whole, from the next subset.
use Rattle.std.proofs.Common.{◌≡◌, ℕ, suc, ◌+◌, ◌*◌, ◌/◌, ◌%◌, ◌^◌, ◌<◌, ◌≤◌, inl, inr, arith, sym, ◌∙◌, ap, subst}
use Rattle.std.proofs.Math.Nat.{mul-le-mul_right, suc-mul}
use Rattle.std.specs.Int.{bit_at}
use Rattle.std.specs.Int.RustNames.{bit_and}
use Rattle.std.proofs.lemmas.Bool.{cases_eq, cases_lt}
use Rattle.std.proofs.lemmas.Nat.{div-add-mod', or_disjoint, pow_pos}
use Rattle.std.proofs.lemmas.Nat.Bits.{and_pow, bit_at_cat_low, bit_at-lt, bit_at-zero, same_from_bits_below}
use Rattle.dpe_base.specs.Sets.{Has, Within, IsLeast, IsNextSubset, member, union, single, least}
use Rattle.dpe_base.proofs.NextSubset.{within_le}
use Rattle.pair_stream.specs.Subsets.{IsNextWithLeast}
use Rattle.dpe_base.proofs.SetLaws.{single_has, single_one, union_left, union_right, union_within, within_same}

-- no digit below the least member is set
low_digits : (s whole l : ℕ) → Within s whole → IsLeast whole l → s % 2 ^ l ≡ 0
unfolding member
low_digits s whole l w m =
    same_from_bits_below l (s % 2 ^ l) 0 (omega (arith, pow_pos l)) (omega (arith, pow_pos l))
    (λ i b. sym (bit_at_cat_low (s / 2 ^ l) l (s % 2 ^ l) i b) ∙ ap (λ (n : ℕ). bit_at n i) (div-add-mod' s (2 ^ l)) ∙ none i b (w i) (m.1 i) ∙ sym (bit_at-zero i))
  where
    none : (i : ℕ) → i < l → (bit_at s i ≡ 1 → bit_at whole i ≡ 1) → (bit_at whole i ≡ 1 → l ≤ i) → bit_at s i ≡ 0
    none i b f g =
        elim (cases_eq (bit_at s i) 1) [
          | inl e ↦ absurd (omega (arith, g (f e)))
          | inr ne ↦ omega (arith, bit_at-lt s i)
        ]

-- the least member comes to a subset that lacks it
with_least : (s l : ℕ) → (Has s l → ⊥) → union s (single l) ≡ s + 2 ^ l
unfolding member union single
with_least s l ne = or_disjoint s (2 ^ l) (no_digit)
  where
    zero_digit : bit_at s l ≡ 0
    zero_digit = elim (cases_eq (bit_at s l) 1) [ inl e ↦ absurd (ne e) | inr x ↦ omega (arith, bit_at-lt s l) ]

    no_digit : bit_and s (2 ^ l) ≡ 0
    no_digit = and_pow s l ∙ ap (λ (k : ℕ). k * 2 ^ l) zero_digit ∙ omega arith

-- between two multiples there is room for one
room : (p s u : ℕ) → s % p ≡ 0 → u % p ≡ 0 → s < u → s + p ≤ u
room p s u e f lt =
    elim (cases_lt (s / p) (u / p)) [
      | inl l ↦ omega (arith, mul-le-mul_right {m = suc (s / p)} {n = u / p} p (omega arith), suc-mul (s / p) p, div-add-mod' s p, div-add-mod' u p)
      | inr g ↦ absurd (omega (arith, mul-le-mul_right {m = u / p} {n = s / p} p g, div-add-mod' s p, div-add-mod' u p))
    ]

-- the least member can come to a subset that lacks it, and no subset is between
next_low : (s u whole l : ℕ) → Within s whole → Within u whole → IsLeast whole l → (Has s l → ⊥) → s < u → union s (single l) ≤ u
next_low s u whole l w v m ne lt =
    omega (arith, with_least s l ne, room (2 ^ l) s u (low_digits s whole l w m) (low_digits u whole l v m) lt)

pub next_with_least : (s whole n l t : ℕ) → IsNextSubset s whole n → IsLeast whole l → least whole ≡ l → t ≡ union n (single l) → IsNextWithLeast s whole t
next_with_least s whole n l t x m e et =
    record {
      within = subst (λ (k : ℕ). Within k whole) (sym et) (union_within n (single l) whole x.within (λ r h. subst (Has whole) (single_one l r h) m.0));
      greater = omega (arith, x.greater, et, within_le n (union n (single l)) (λ r h. union_left n (single l) r h));
      has = subst (Has t) (sym e) (subst (λ (k : ℕ). Has k l) (sym et) (union_right n (single l) l (single_has l)));
      next = λ u w h lt. omega (arith, et, at u w (subst (Has u) e h) (x.next u w lt));
    }
  where
    has_it : Has n l → union n (single l) ≡ n
    has_it h = within_same (union n (single l)) n (union_within n (single l) n (λ r k. k) (λ r k. subst (Has n) (single_one l r k) h)) (λ r k. union_left n (single l) r k)

    at : (u : ℕ) → Within u whole → Has u l → n ≤ u → union n (single l) ≤ u
    at u w h le =
        elim (cases_eq (member n l) 1) [
          | inl k ↦ omega (arith, has_it k)
          | inr k ↦ elim (cases_eq n u) [
            | inl same ↦ absurd (k (subst (λ (v : ℕ). Has v l) (sym same) h))
            | inr other ↦ next_low n u whole l x.within w m k (omega (arith, other))
          ]
        ]
