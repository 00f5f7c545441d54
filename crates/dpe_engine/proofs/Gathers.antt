-- The seats of the crew are joined, the last first.
use Rattle.std.proofs.Common.{◌≡◌, ℕ, ◌<◌, ◌⊎◌, List, [], ◌∷◌, ◌++◌, All, Contains, length, refl, ap, ◌∙◌, sym, subst, arith, length-append, sum_by, inl, inr, ⊎_elim}
use Rattle.std.proofs.lemmas.List.Sums.{sum_by_push}
use Rattle.std.proofs.Math.Seq.{take-append_seam}
use Rattle.std.proofs.lemmas.List.Elements.{All-contains, All-take, Contains-push, Contains-push_cases, Contains-append_left, Contains-append_right}
use Rattle.memo_table.specs.declared.view.View.{View}
use Rattle.memo_table.specs.Seats.{MemoTable, SeatView, IsSeatOf}
use Rattle.memo_table.specs.Views.{times, joined_view}
use Rattle.memo_table.proofs.Counting.{times-append}
use Rattle.dpe_engine.specs.Working.{past}
use Rattle.dpe_engine.specs.Rounds.Crews.{weights, allowances, all_drawn, all_past, all_times, IsGathered, HasAmong}
use Rattle.dpe_engine.proofs.Tickets.{past-append}

-- part of the crew is taken in, and these are left
pub record IsGathering (memo : MemoTable) (before : SeatView) (crew : List SeatView) (now : SeatView) (rest : List SeatView) : Type 0 where
  pub seat : IsSeatOf memo now
  pub left : All (IsSeatOf memo) rest
  pub bounds : (b : ℕ × ℕ) → Contains before.view.bounds b → Contains now.view.bounds b
  pub weight : weights now rest ≡ weights before crew
  pub allowance : allowances now rest ≡ allowances before crew
  pub counted : all_drawn now rest ≡ all_drawn before crew
  pub taken : (b : ℕ × ℕ) → HasAmong crew b → Contains now.view.bounds b ⊎ HasAmong rest b
  pub drawn : (x : ℕ) → all_times x now rest ≡ all_times x before crew
  pub passed : (end : ℕ) → all_past end now rest ≡ all_past end before crew

among_push : (b : ℕ × ℕ) (xs : List SeatView) (y : SeatView) → HasAmong (xs ++ y ∷ []) b → HasAmong xs b ⊎ Contains y.view.bounds b
among_push b xs y h = ⊎_elim
    (λ c. inl (record { seat = h.seat; member = c; bound = h.bound }))
    (λ (e : y ≡ h.seat). let F : SeatView → Type 0 = λ s. Contains s.view.bounds b in inr (subst F (sym e) h.bound))
    (Contains-push_cases xs y h.seat h.member)

-- all but the last, and the last
pub front_and_last : (P : SeatView → Type 0) (xs : List SeatView) (y : SeatView) → All P (xs ++ y ∷ []) → All P xs × P y
front_and_last P xs y all = let F : List SeatView → Type 0 = All P in
    (subst F (take-append_seam xs (y ∷ [])) (All-take P (length xs) (xs ++ y ∷ []) all), All-contains P (xs ++ y ∷ []) y all (Contains-push xs y))

pub gather_begins : (memo : MemoTable) (before : SeatView) (crew : List SeatView) → IsSeatOf memo before → All (IsSeatOf memo) crew → IsGathering memo before crew before crew
gather_begins memo before crew seat each =
    record { seat = seat; left = each; bounds = λ b h. h; weight = refl; allowance = refl; counted = refl; taken = λ b h. inr h; drawn = λ x. refl; passed = λ end. refl }

pub gather_more : (memo : MemoTable) (before : SeatView) (crew : List SeatView) (now after part : SeatView) (rest left : List SeatView) → IsGathering memo before crew now rest → rest ≡ left ++ part ∷ []
    → after.table ≡ now.table → after.view ≡ joined_view now.view part.view → IsGathering memo before crew after left
gather_more memo before crew now after part rest left g is table view =
    let each : All (IsSeatOf memo) (left ++ part ∷ []) = let F : List SeatView → Type 0 = All (IsSeatOf memo) in subst F is g.left in
    let f = front_and_last (IsSeatOf memo) left part each in
    record {
      seat = record { table = table ∙ g.seat.table; query = ap (λ (v : View). v.query) view ∙ g.seat.query; pairs = ap (λ (v : View). v.pairs) view ∙ g.seat.pairs };
      left = f.0;
      bounds = λ b h. let F : View → Type 0 = λ v. Contains v.bounds b in subst F (sym view) (Contains-append_left now.view.bounds part.view.bounds b (g.bounds b h));
      weight =
          let a = ap (λ (v : View). v.weight) view in let w = g.weight in
          let s = ap (sum_by (λ (c : SeatView). c.view.weight)) is in let p = sum_by_push (λ (c : SeatView). c.view.weight) left part in omega arith;
      allowance =
          let a = ap (λ (v : View). v.allowance) view in let w = g.allowance in
          let s = ap (sum_by (λ (c : SeatView). c.view.allowance)) is in let p = sum_by_push (λ (c : SeatView). c.view.allowance) left part in omega arith;
      counted =
          let a : length after.view.tickets ≡ length (now.view.tickets ++ part.view.tickets) = ap (λ (v : View). length v.tickets) view in let w = g.counted in let l = length-append now.view.tickets part.view.tickets in
          let s = ap (sum_by (λ (c : SeatView). length c.view.tickets)) is in let p = sum_by_push (λ (c : SeatView). length c.view.tickets) left part in omega arith;
      taken = λ b h.
          let F : View → Type 0 = λ v. Contains v.bounds b in
          let G : List SeatView → Type 0 = λ l. HasAmong l b in
          ⊎_elim (λ was. inl (subst F (sym view) (Contains-append_left now.view.bounds part.view.bounds b was)))
          (λ left_over. ⊎_elim (λ a. inr a) (λ e. inl (subst F (sym view) (Contains-append_right now.view.bounds part.view.bounds b e)))
          (among_push b left part (subst G is left_over)))
          (g.taken b h);
      drawn = λ x.
          let a : times x after.view.tickets ≡ times x (now.view.tickets ++ part.view.tickets) = ap (λ (v : View). times x v.tickets) view in let w = g.drawn x in let l = times-append x now.view.tickets part.view.tickets in
          let s = ap (sum_by (λ (c : SeatView). times x c.view.tickets)) is in let p = sum_by_push (λ (c : SeatView). times x c.view.tickets) left part in omega arith;
      passed = λ end.
          let a : past end after.view.tickets ≡ past end (now.view.tickets ++ part.view.tickets) = ap (λ (v : View). past end v.tickets) view in let w = g.passed end in let l = past-append end now.view.tickets part.view.tickets in
          let s = ap (sum_by (λ (c : SeatView). past end c.view.tickets)) is in let p = sum_by_push (λ (c : SeatView). past end c.view.tickets) left part in omega arith;
    }

pub gather_ends : (memo : MemoTable) (before : SeatView) (crew : List SeatView) (now : SeatView) (rest : List SeatView) → IsGathering memo before crew now rest → rest ≡ [] → IsGathered memo before crew now
gather_ends memo before crew now rest g none =
    record {
      seat = g.seat;
      bounds = g.bounds;
      weight = let w = g.weight in let s = ap (sum_by (λ (c : SeatView). c.view.weight)) none in omega arith;
      allowance = let w = g.allowance in let s = ap (sum_by (λ (c : SeatView). c.view.allowance)) none in omega arith;
      counted = let w = g.counted in let s = ap (sum_by (λ (c : SeatView). length c.view.tickets)) none in omega arith;
      taken = λ b h. let F : List SeatView → Type 0 = λ l. HasAmong l b in ⊎_elim (λ e. e) (λ left_over. absurd (no_crew b (subst F none left_over))) (g.taken b h);
      drawn = λ x. let w = g.drawn x in let s = ap (sum_by (λ (c : SeatView). times x c.view.tickets)) none in omega arith;
      passed = λ end. let w = g.passed end in let s = ap (sum_by (λ (c : SeatView). past end c.view.tickets)) none in omega arith;
    }
  where
    no_crew : (b : ℕ × ℕ) → HasAmong [] b → ⊥
    no_crew b h = let i : h.member.0 < 0 = h.member.1 in omega arith
