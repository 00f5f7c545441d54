-- A column, made from the last entry to the first.
use Rattle.std.proofs.Common.{◌≡◌, ◌≢◌, ℕ, ◌+◌, ◌-◌, ◌*◌, ◌/◌, ◌%◌, ◌<◌, ◌≤◌, List, length, slice_index, slice_set, min, sym, ◌∙◌, ap, subst, arith, Bool, cond, nat_lt, inl, inr}
use Rattle.std.proofs.lemmas.Bool.{cases_eq, cases_lt, le-ltb, lt-ltb}
use Rattle.std.proofs.lemmas.List.{get_or-set_other, get_or-set_same, length-set}
use Rattle.std.proofs.Math.Nat.{div-add-mod}
use Rattle.skip_vector.specs.Skips.{HasPlaces, IsAfter, end_in}

-- ---- runs

-- within a run all entries have the same end
after_within : (part : List ℕ) (i j p e : ℕ) → IsAfter part i p e → i < j → j < e → IsAfter part j p e
after_within part i j p e a l m = record {
  above = m;
  within = a.within;
  same = λ k n o. a.same k (omega (arith, l, n)) o ∙ sym (a.same j l m);
  other = λ n h. a.other n (h ∙ a.same j l m);
}

-- and each has one end
after_one : (part : List ℕ) (i p e f : ℕ) → IsAfter part i p e → IsAfter part i p f → e ≡ f
after_one part i p e f a b =
    elim (cases_lt e f) [
      | inl l ↦ absurd (a.other (omega (arith, l, b.within)) (b.same e a.above l))
      | inr g ↦ elim (cases_lt f e) [
        | inl l ↦ absurd (b.other (omega (arith, l, a.within)) (a.same f b.above l))
        | inr h ↦ omega (arith, g, h)
      ]
    ]

run_on : (part : List ℕ) (i j p e f : ℕ) → IsAfter part i p e → i < j → j < e → IsAfter part j p f → IsAfter part i p f
run_on part i j p e f a l m b = subst (λ (k : ℕ). IsAfter part i p k) (after_one part j p e f (after_within part i j p e a l m) b) a

-- ---- blocks

-- the first entry of the next block
next_block : (i : ℕ) → (i < 128 * (i / 128 + 1)) × (128 * (i / 128 + 1) ≤ i + 128)
next_block i = (omega (arith, div-add-mod i 128), omega (arith, div-add-mod i 128))

-- of the last `back` entries all ends are there, and of the first the end is `later`
pub record Built (part : List ℕ) (p back : ℕ) (near far : List ℕ) (later : ℕ) : Type 0 where
  pub places : HasPlaces part near far
  pub later_is : 0 < length part → IsAfter part (length part - back) p later
  pub ends : (k : ℕ) → length part ≤ k + back → k < length part → IsAfter part k p (end_in near far k)
  pub blocks : (b : ℕ) → length part ≤ 128 * b + back → 128 * b < length part → IsAfter part (128 * b) p (slice_index far b)

end_near : (near far : List ℕ) (i : ℕ) → slice_index near i < 255 → end_in near far i ≡ i + slice_index near i
end_near near far i l = ap (λ (b : Bool). cond b (i + slice_index near i) (slice_index far (i / 128 + 1))) (lt-ltb (slice_index near i) 255 l)

end_far : (near far : List ℕ) (i : ℕ) → 255 ≤ slice_index near i → end_in near far i ≡ slice_index far (i / 128 + 1)
end_far near far i l = ap (λ (b : Bool). cond b (i + slice_index near i) (slice_index far (i / 128 + 1))) (le-ltb (slice_index near i) 255 l)

end_same : (near far near' far' : List ℕ) (i : ℕ) → slice_index near' i ≡ slice_index near i → slice_index far' (i / 128 + 1) ≡ slice_index far (i / 128 + 1) → end_in near' far' i ≡ end_in near far i
end_same near far near' far' i en ef =
    ap (λ (n : ℕ). cond (nat_lt n 255) (i + n) (slice_index far' (i / 128 + 1))) en
    ∙ ap (λ (f : ℕ). cond (nat_lt (slice_index near i) 255) (i + slice_index near i) f) ef

-- ---- steps

module _ (part : List ℕ) (p back i e : ℕ) (near far near' far' : List ℕ) (later : ℕ) (built : Built part p back near far later) (more : back < length part) (at : i ≡ length part - 1 - back) (after : IsAfter part i p e) (near_is : near' ≡ slice_set near i (min (e - i) 255)) where
  i_in : i < length near
  i_in = omega (arith, at, more, built.places.0)

  near_at : slice_index near' i ≡ min (e - i) 255
  near_at = ap (λ (xs : List ℕ). slice_index xs i) near_is ∙ get_or-set_same near i (min (e - i) 255) 0 i_in

  near_other : (k : ℕ) → k ≢ i → slice_index near' k ≡ slice_index near k
  near_other k ne = ap (λ (xs : List ℕ). slice_index xs k) near_is ∙ get_or-set_other near i k (min (e - i) 255) 0 ne

  near_sized : length near' ≡ length part
  near_sized = ap (λ (xs : List ℕ). length xs) near_is ∙ length-set near i (min (e - i) 255) ∙ built.places.0

  -- one more end is there, where no end of a later block has changed
  built_by : length far' ≡ length far → ((b : ℕ) → i < 128 * b → slice_index far' b ≡ slice_index far b) → ((b : ℕ) → 128 * b ≡ i → slice_index far' b ≡ e) → Built part p (back + 1) near' far' e
  built_by sized same here = record {
    places = (near_sized, sized ∙ built.places.1);
    later_is = λ some. subst (λ (k : ℕ). IsAfter part k p e) (omega (arith, at, more)) after;
    ends = λ k l m. elim (cases_eq k i) [
      | inl eq ↦ subst (λ (j : ℕ). IsAfter part j p (end_in near' far' j)) (sym eq) first
      | inr ne ↦
          subst (λ (f : ℕ). IsAfter part k p f)
          (sym (end_same near far near' far' k (near_other k ne) (same (k / 128 + 1) (omega (arith, (next_block k).0, l, ne, at, more)))))
          (built.ends k (omega (arith, l, ne, at, more)) m)
    ];
    blocks = λ b l m. elim (cases_eq (128 * b) i) [
      | inl eq ↦ subst (λ (f : ℕ). IsAfter part (128 * b) p f) (sym (here b eq)) (subst (λ (j : ℕ). IsAfter part j p e) (sym eq) after)
      | inr ne ↦
          subst (λ (f : ℕ). IsAfter part (128 * b) p f) (sym (same b (omega (arith, l, ne, at, more)))) (built.blocks b (omega (arith, l, ne, at, more)) m)
    ];
  }
    where
      first : IsAfter part i p (end_in near' far' i)
      first =
          elim (cases_lt (e - i) 255) [
            | inl l ↦
                let n : slice_index near' i ≡ e - i = near_at ∙ omega (arith, l) in
                subst (λ (f : ℕ). IsAfter part i p f) (sym (end_near near' far' i (omega (arith, n, l)) ∙ omega (arith, n, after.above))) after
            | inr g ↦
                let n : slice_index near' i ≡ 255 = near_at ∙ omega (arith, g) in
                let b : ℕ = i / 128 + 1 in
                let inside : 128 * b < e = omega (arith, (next_block i).1, g) in
                subst (λ (f : ℕ). IsAfter part i p f) (sym (end_far near' far' i (omega (arith, n)) ∙ same b (next_block i).0))
                (run_on part i (128 * b) p e (slice_index far b) after (next_block i).0 inside
                (built.blocks b (omega (arith, (next_block i).0, at, more)) (omega (arith, inside, after.within))))
          ]

  pub built_more : i % 128 ≢ 0 → far' ≡ far → Built part p (back + 1) near' far' e
  built_more ne same =
      built_by (ap (λ (xs : List ℕ). length xs) same) (λ b l. ap (λ (xs : List ℕ). slice_index xs b) same)
      (λ b eq. absurd (ne (omega (arith, div-add-mod i 128, eq))))

  pub built_block : i % 128 ≡ 0 → far' ≡ slice_set far (i / 128) e → Built part p (back + 1) near' far' e
  built_block eq set_is =
      built_by (ap (λ (xs : List ℕ). length xs) set_is ∙ length-set far (i / 128) e)
      (λ b l. ap (λ (xs : List ℕ). slice_index xs b) set_is ∙ get_or-set_other far (i / 128) b e 0 (omega (arith, div-add-mod i 128, eq, l)))
      (λ b same.
      let here : b ≡ i / 128 = omega (arith, div-add-mod i 128, eq, same) in
      ap (λ (xs : List ℕ). slice_index xs b) set_is ∙ ap (λ (k : ℕ). slice_index (slice_set far (i / 128) e) k) here
      ∙ get_or-set_same far (i / 128) e 0 (omega (arith, div-add-mod i 128, div-add-mod (length part) 128, at, more, built.places.1)))
