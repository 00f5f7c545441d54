-- What a call of the inner stream takes from the pairs that pass a test.
use Rattle.std.proofs.Common.{◌≡◌, Bool, true, false, List, [], ◌∷◌, refl, ◌∙◌, ap}
use Rattle.std.specs.List.{filter}
use Rattle.dpe_base.specs.declared.pair.Pair.{Pair}

pub filter_none : (first later : Pair → Bool) (start pairs new : List Pair) → filter first start ≡ filter first pairs → (pairs ≡ []) × (new ≡ []) → (filter first start ≡ []) × (filter later new ≡ [])
filter_none first later start pairs new same none = (rw (same, none.0) refl, rw none.1 refl)

pub filter_taken : (first later : Pair → Bool) (start pairs new : List Pair) (p : Pair) → filter first start ≡ filter first pairs → later ≡ first → pairs ≡ p ∷ new → true ≡ later p → filter first start ≡ p ∷ filter later new
filter_taken first later start pairs new p same still is passes =
    let here : true ≡ first p = passes ∙ ap (λ t. t p) still in rw (same, is, still, ← here) refl

pub filter_skipped : (first later : Pair → Bool) (start pairs new : List Pair) (p : Pair) → filter first start ≡ filter first pairs → later ≡ first → pairs ≡ p ∷ new → false ≡ later p → filter first start ≡ filter first new
filter_skipped first later start pairs new p same still is fails =
    let here : false ≡ first p = fails ∙ ap (λ t. t p) still in rw (same, is, ← here) refl
