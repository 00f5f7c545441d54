-- The walk over the sets that have the lower end of a predicate, which multiplies each by its fraction.
use Rattle.std.proofs.Common.{◌≡◌, ◌≢◌, ℕ, ◌+◌, ◌-◌, ◌*◌, ◌/◌, ◌^◌, ◌<◌, ◌≤◌, refl, sym, ◌∙◌, ap, subst, arith, inl, inr, List, length, get_or, ◌%◌}
use Rattle.std.proofs.Math.ListN.{set}
use Rattle.std.proofs.lemmas.List.{get_or-set_same, get_or-set_other, get_or_default, length-set}
use Rattle.std.proofs.lemmas.Bool.{cases_eq, cases_lt}
use Rattle.dpe_base.specs.declared.query.Pred.{Pred}
use Rattle.std.proofs.lemmas.Nat.{pow_pos, le_or_l, mod_below, div-add-mod', div-mul-add}
use Rattle.std.proofs.lemmas.Nat.Bits.{bit_at_ones}
use Rattle.std.specs.Int.RustNames.{bit_or}
use Rattle.dpe_base.specs.Sets.{member, Has, Disjoint, single, union}
use Rattle.dpe_base.proofs.SetLaws.{sets, same_set, single_has, union_right}
use Rattle.dpe_base.proofs.SizeLaws.{union_add}
use Rattle.card_scaled.specs.Scaled.{ScaledNumber, IsNear, frac, mul, one}
use Rattle.card_scaled.specs.Cards.{times_pred}
use Rattle.card_scaled.proofs.CardSteps.{pred_in, pred_out}

-- the sets from half on, of which those below k are multiplied
pub record IsMultiplied (p : Pred) (half k : ℕ) (old new : List ScaledNumber) : Type 0 where
  pub sized : length new ≡ length old
  pub below : (j : ℕ) → j < half → get_or new j one ≡ get_or old j one
  pub here : (j : ℕ) → half ≤ j → j < k → get_or new j one ≡ times_pred j p.high (get_or old j one) p
  pub rest : (j : ℕ) → k ≤ j → get_or new j one ≡ get_or old j one

-- the next set that has the relation: between it and a set that has it lie none
next_has : (k b : ℕ) → Has (bit_or (k + 1) (2 ^ b)) b
unfolding union single
next_has k b = union_right (k + 1) (single b) b (single_has b)

none_until : (k b j : ℕ) → Has k b → k < j → j < bit_or (k + 1) (2 ^ b) → member j b ≢ 1
unfolding union single member
none_until k b j h lt l =
    let w : ℕ = 2 ^ b in
    let p : 0 < w = pow_pos b in
    elim (cases_eq (member (k + 1) b) 1) [
      | inl is ↦ let e : bit_or (k + 1) w ≡ k + 1 = had (k + 1) b is in absurd (omega (arith, e))
      | inr ne ↦
          let e : bit_or (k + 1) w ≡ k + 1 + w = union_add (k + 1) w (apart (k + 1) b ne) in
          let q : ℕ = k / w in
          let parts : q * w + k % w ≡ k = div-add-mod' k w in
          let small : k % w < w = mod_below k w p in
          let top : k % w + 1 ≡ w = elim (cases_lt (k % w + 1) w) [
            | inl short ↦
                let same : (k + 1) / w ≡ q = ap (λ n. n / w) (omega (arith, parts)) ∙ div-mul-add q w (k % w + 1) short in
                absurd (ne (ap (λ n. n % 2) same ∙ h))
            | inr ge ↦ omega arith
          ] in
          let i : ℕ = j - (k + 1) in
          let next : (q + 1) * w ≡ k + 1 = omega (arith, parts, top, succ_mul q w) in
          let place : j ≡ (q + 1) * w + i = omega (arith, next) in
          let quot : j / w ≡ q + 1 = ap (λ n. n / w) place ∙ div-mul-add (q + 1) w i (omega (arith, e)) in
          λ is. absurd (omega (arith, h, sym (ap (λ n. n % 2) quot) ∙ is))
    ]
  where
    had : (k b : ℕ) → member k b ≡ 1 → union k (single b) ≡ k
    had k b is = same_set _ _ (λ r. grind (arith, sets))

    apart : (k b : ℕ) → member k b ≢ 1 → Disjoint k (single b)
    apart k b ne r x y = grind (arith, sets)

    succ_mul : (q w : ℕ) → (q + 1) * w ≡ q * w + w
    succ_mul q w = omega arith

next_above : (k b : ℕ) → k < bit_or (k + 1) (2 ^ b)
next_above k b = omega (arith, le_or_l (k + 1) (2 ^ b))

-- the same with the set that has the relation at k
pub record IsWalked (p : Pred) (half k : ℕ) (old new : List ScaledNumber) : Type 0 where
  pub from_on : half ≤ k
  pub has : Has k p.low
  pub multiplied : IsMultiplied p half k old new

multiplied_skip : (p : Pred) (half k n : ℕ) (old new : List ScaledNumber) → k ≤ n → IsMultiplied p half k old new → ((j : ℕ) → k ≤ j → j < n → member j p.low ≢ 1) → IsMultiplied p half n old new
multiplied_skip p half k n old new le m none = record {
  sized = m.sized;
  below = m.below;
  here = λ j ge lt. elim (cases_lt j k) [
    | inl b ↦ m.here j ge b
    | inr a ↦ m.rest j a ∙ sym (pred_out j p.high (get_or old j one) p (none j a lt))
  ];
  rest = λ j ge. m.rest j (omega arith);
}

pub walk_first : (p : Pred) (half r b k : ℕ) (old : List ScaledNumber) → half ≡ 2 ^ r → p.low < r → b ≡ 2 ^ p.low → k ≡ bit_or half b → IsWalked p half k old old
unfolding member
walk_first p half r b k old e low bis kis =
    let some : 1 ≤ half = omega (arith, e, pow_pos r) in
    let back : half - 1 + 1 ≡ half = omega arith in
    let first : bit_or (half - 1 + 1) (2 ^ p.low) ≡ k = ap (λ n. bit_or n (2 ^ p.low)) back ∙ ap (bit_or half) (sym bis) ∙ sym kis in
    let ones : Has (half - 1) p.low = ap (λ n. member (n - 1) p.low) e ∙ bit_at_ones r p.low low in
    let start : IsMultiplied p half half old old = record { sized = refl; below = λ j l. refl; here = λ j g l. absurd (omega arith); rest = λ j g. refl } in
    let above : half ≤ k = omega (arith, kis, le_or_l half b) in
    record {
      from_on = above;
      has = subst (λ n. Has n p.low) first (next_has (half - 1) p.low);
      multiplied = multiplied_skip p half half k old old above start (λ j g l. none_until (half - 1) p.low j ones (omega arith) (omega (arith, first)));
    }

pub walk_more : (p : Pred) (half k b n : ℕ) (old new : List ScaledNumber) (x y f : ScaledNumber) → IsWalked p half k old new → k < length old → b ≡ 2 ^ p.low → n ≡ bit_or (k + 1) b → f ≡ frac p.num p.den → x ≡ get_or new k x → y ≡ mul x f → IsWalked p half n old (set new k y)
walk_more p half k b n old new x y f walk l bis nis fis xis yis =
    let m : IsMultiplied p half k old new = walk.multiplied in
    let within : k < length new = omega (arith, m.sized) in
    let read : x ≡ get_or old k one = xis ∙ get_or_default new k x one within ∙ m.rest k (omega arith) in
    let value : y ≡ times_pred k p.high (get_or old k one) p = yis ∙ ap (mul x) fis ∙ sym (pred_in k p.high x p refl walk.has) ∙ ap (λ z. times_pred k p.high z p) read in
    let next : n ≡ bit_or (k + 1) (2 ^ p.low) = nis ∙ ap (bit_or (k + 1)) bis in
    let above : k < n = omega (arith, next, next_above k p.low) in
    let step : IsMultiplied p half (k + 1) old (set new k y) = record {
      sized = length-set new k y ∙ m.sized;
      below = λ j lt. get_or-set_other new k j y one (λ e. absurd (omega (arith, walk.from_on))) ∙ m.below j lt;
      here = λ j ge lt. elim (cases_eq j k) [
        | inl e ↦ rw e (get_or-set_same new k y one within ∙ value)
        | inr ne ↦ get_or-set_other new k j y one ne ∙ m.here j ge (omega arith)
      ];
      rest = λ j ge. get_or-set_other new k j y one (λ e. absurd (omega arith)) ∙ m.rest j (omega arith);
    } in
    record {
      from_on = omega (arith, walk.from_on);
      has = subst (λ k. Has k p.low) (sym next) (next_has k p.low);
      multiplied = multiplied_skip p half (k + 1) n old (set new k y) (omega arith) step (λ j g lt. none_until k p.low j walk.has (omega arith) (omega (arith, next)));
    }

pub walk_above : (k b low n : ℕ) → b ≡ 2 ^ low → n ≡ bit_or (k + 1) b → k < n
walk_above k b low n e f = omega (arith, f, le_or_l (k + 1) b)

pub walk_near : (p : Pred) (half k : ℕ) (old new : List ScaledNumber) (x : ScaledNumber) → IsWalked p half k old new → k < half + half → half + half ≤ length old → ((j : ℕ) → half ≤ j → j < half + half → IsNear (2 ^ 24) (get_or old j one).scale) → x ≡ get_or new k x → IsNear (2 ^ 24) x.scale
walk_near p half k old new x walk l room near xis =
    let within : k < length new = omega (arith, walk.multiplied.sized) in
    let read : x ≡ get_or old k one = xis ∙ get_or_default new k x one within ∙ walk.multiplied.rest k (omega arith) in
    subst (λ (z : ScaledNumber). IsNear (2 ^ 24) z.scale) (sym read) (near k walk.from_on l)
