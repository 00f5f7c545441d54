-- The table of all sets, a greatest relation and a predicate at a time.
use Rattle.std.proofs.Common.{◌≡◌, ◌≢◌, ℕ, suc, ◌+◌, ◌-◌, ◌*◌, ◌^◌, ◌<◌, ◌≤◌, refl, sym, ◌∙◌, ap, subst, arith, inl, inr, List, length, take, get_or, add-one, ◌%◌, slice_index, replicate}
use Rattle.std.specs.List.{fold, slice_get}
use Rattle.std.proofs.Math.ListN.{set}
use Rattle.std.proofs.Math.Seq.{take-length}
use Rattle.std.proofs.lemmas.List.{get_or-set_same, get_or-set_other, get_or_default, length-set, length-replicate, get_or-replicate}
use Rattle.std.proofs.lemmas.Bool.{cases_eq, cases_lt}
use Rattle.dpe_base.specs.Queries.{JoinQuery, relations, IsQuery}
use Rattle.std.proofs.lemmas.Nat.{one_shl, pow_pos}
use Rattle.std.proofs.Math.Nat.{pow-suc}
use Rattle.std.proofs.Math.Pow.{pow_mono}
use Rattle.std.proofs.lemmas.Grind.{get_or_default_zero}
use Rattle.dpe_base.specs.Sets.{member, Has, Within, Disjoint, full, single, union, alone, members_below}
use Rattle.dpe_base.proofs.SetLaws.{member-above, member-single, below_single}
use Rattle.dpe_base.proofs.SizeLaws.{union_add, full_below}
use Rattle.card_scaled.proofs.NearLaws.{REACH, near_more, card_near, between_near}
use Rattle.card_scaled.proofs.CardLaws.{card_more, relation_same}
use Rattle.card_scaled.specs.Scaled.{ScaledNumber, IsNear, mul, one, rounded}
use Rattle.card_scaled.specs.Cards.{RowTable, times_base, times_pred, with_relation, card, rows, IsCardTable}

pub empty_card : (q : JoinQuery) → card q 0 ≡ one
unfolding card members_below alone member
empty_card q = refl

below_members : (s r : ℕ) → s < 2 ^ r → (k : ℕ) → Has s k → k < r
below_members s r l k h = elim (cases_lt k r) [ inl lt ↦ lt | inr ge ↦ absurd (omega (arith, h, member-above s r k l ge)) ]

in_single : (r k : ℕ) → Has (2 ^ r) k → k ≡ r
unfolding single
in_single r k h = elim (member-single r k) [ inl x ↦ sym x.0 | inr x ↦ absurd (omega (arith, h, x.1)) ]

apart : (s r : ℕ) → s < 2 ^ r → Disjoint s (2 ^ r)
apart s r l k h g = absurd (omega (arith, below_members s r l k h, in_single r k g))

-- a number from 2 ^ r on is a set below with r
pub half_union : (s r : ℕ) → s < 2 ^ r → union s (single r) ≡ 2 ^ r + s
unfolding single
half_union s r l = omega (arith, union_add s (2 ^ r) (apart s r l))

half_same : (s r k : ℕ) → s < 2 ^ r → k < r → member (2 ^ r + s) k ≡ member s k
half_same s r k l lt = ap (λ t. member t k) (sym (half_union s r l)) ∙ below_single s r k lt

relation_is : (q : JoinQuery) (s : ℕ) (c : ScaledNumber) (r : ℕ) → fold (times_pred s r) (times_base c (slice_get q.rels r)) q.preds ≡ with_relation q s c r
unfolding with_relation
relation_is q s c r = refl

-- the rows of such a set, as the code's passes make them
pub card_half : (q : JoinQuery) (s r : ℕ) → IsQuery q → r < 32 → s < 2 ^ r → fold (times_pred (2 ^ r + s) r) (times_base (card q s) (slice_get q.rels r)) q.preds ≡ card q (2 ^ r + s)
card_half q s r ok few l =
    relation_is q (2 ^ r + s) (card q s) r
    ∙ relation_same q (2 ^ r + s) s r (card q s) ok (λ k lt. half_same s r k l lt)
    ∙ sym (card_more q s r ok few (below_members s r l))
    ∙ ap (card q) (half_union s r l)

-- the sets from half on, of which the first k are made
pub record IsBased (base : ScaledNumber) (half k : ℕ) (old new : List ScaledNumber) : Type 0 where
  pub sized : length new ≡ length old
  pub below : (j : ℕ) → j < half → get_or new j one ≡ get_or old j one
  pub here : (j : ℕ) → j < k → get_or new (half + j) one ≡ mul (get_or old j one) base

pub based_more : (base : ScaledNumber) (half k : ℕ) (old new : List ScaledNumber) (x y : ScaledNumber) → IsBased base half k old new → k < half → half + half ≤ length old → x ≡ get_or new k x → y ≡ mul x base → IsBased base half (k + 1) old (set new (half + k) y)
based_more base half k old new x y m l room xis yis =
    let within : half + k < length new = omega (arith, m.sized) in
    let near : k < length new = omega (arith, m.sized) in
    let value : y ≡ mul (get_or old k one) base = yis ∙ ap (λ z. mul z base) (xis ∙ get_or_default new k x one near ∙ m.below k l) in
    record {
      sized = length-set new (half + k) y ∙ m.sized;
      below = λ j lt. get_or-set_other new (half + k) j y one (λ e. absurd (omega arith)) ∙ m.below j lt;
      here = λ j lt. elim (cases_eq j k) [
        | inl e ↦ rw e (get_or-set_same new (half + k) y one within ∙ value)
        | inr ne ↦ get_or-set_other new (half + k) (half + j) y one (λ e. absurd (omega arith)) ∙ m.here j (omega arith)
      ];
    }

-- the sets with the greatest relation r, by the first i predicates
pub record AfterPredicates (q : JoinQuery) (r i : ℕ) (size : ℕ) (cards : List ScaledNumber) : Type 0 where
  pub sized : length cards ≡ size
  pub below : (k : ℕ) → k < 2 ^ r → get_or cards k one ≡ card q k
  pub here : (k : ℕ) → k < 2 ^ r → get_or cards (2 ^ r + k) one ≡ fold (times_pred (2 ^ r + k) r) (times_base (card q k) (slice_get q.rels r)) (take i q.preds)

pub after_base : (q : JoinQuery) (r half size : ℕ) (old new : List ScaledNumber) (base : ScaledNumber) → half ≡ 2 ^ r → length old ≡ size → ((k : ℕ) → k < 2 ^ r → get_or old k one ≡ card q k) → length new ≡ length old → ((k : ℕ) → k < half → get_or new k one ≡ get_or old k one) → ((k : ℕ) → k < half → get_or new (half + k) one ≡ mul (get_or old k one) base) → ((c : ScaledNumber) → mul c base ≡ times_base c (slice_get q.rels r)) → AfterPredicates q r 0 size new
after_base q r half size old new base e sized filled same below here basis =
    record {
      sized = same ∙ sized;
      below = λ k l. below k (omega arith) ∙ filled k l;
      here = λ k l. ap (λ h. get_or new (h + k) one) (sym e) ∙ here k (omega arith) ∙ ap (λ c. mul c base) (filled k l) ∙ basis (card q k);
    }

pub after_last_predicate : (q : JoinQuery) (r i size : ℕ) (cards : List ScaledNumber) → IsQuery q → r < 32 → i ≡ length q.preds → AfterPredicates q r i size cards → (k : ℕ) → k < 2 ^ r + 2 ^ r → get_or cards k one ≡ card q k
after_last_predicate q r i size cards ok few e part k l =
    elim (cases_lt k (2 ^ r)) [
      | inl lt ↦ part.below k lt
      | inr ge ↦
          let s : ℕ = k - 2 ^ r in
          let back : 2 ^ r + s ≡ k = omega arith in
          let all : take i q.preds ≡ q.preds = ap (λ n. take n q.preds) e ∙ take-length q.preds in
          ap (λ j. get_or cards j one) (sym back)
          ∙ part.here s (omega arith)
          ∙ ap (fold (times_pred (2 ^ r + s) r) (times_base (card q s) (slice_get q.rels r))) all
          ∙ card_half q s r ok few (omega arith)
          ∙ ap (card q) back
    ]

pub after_near : (q : JoinQuery) (r i half size : ℕ) (cards : List ScaledNumber) → IsQuery q → half ≡ 2 ^ r → AfterPredicates q r i size cards → (k : ℕ) → half ≤ k → k < half + half → IsNear (2 ^ 24) (get_or cards k one).scale
after_near q r i half size cards ok e part k ge lt =
    let s : ℕ = k - 2 ^ r in
    let back : 2 ^ r + s ≡ k = omega arith in
    let near : IsNear (2 ^ 24) (get_or cards (2 ^ r + s) one).scale =
    subst (λ (x : ScaledNumber). IsNear (2 ^ 24) x.scale) (sym (part.here s (omega arith))) (between_near q (2 ^ r + s) r i (card q s) ok.few_preds (card_near q s ok.few_preds)) in
    subst (λ j. IsNear (2 ^ 24) (get_or cards j one).scale) back near

pub filled_near : (q : JoinQuery) (n : ℕ) (cards : List ScaledNumber) → IsQuery q → ((k : ℕ) → k < n → get_or cards k one ≡ card q k) → (k : ℕ) → k < n → IsNear (2 ^ 24) (get_or cards k one).scale
filled_near q n cards ok h k l =
    subst (λ (x : ScaledNumber). IsNear (2 ^ 24) x.scale) (sym (h k l)) (near_more REACH (2 ^ 24) _ (card_near q k ok.few_preds) (omega arith))

pub table_first : (q : JoinQuery) (size : ℕ) (cards : List ScaledNumber) (x : ScaledNumber) → IsQuery q → size ≡ 1 * 2 ^ relations q % 2 ^ 64 → x ≡ one → cards ≡ replicate size x → (length cards ≡ 2 ^ relations q) × ((k : ℕ) → k < 2 ^ 0 → get_or cards k one ≡ card q k)
table_first q size cards x ok e xis h =
    let n : size ≡ 2 ^ relations q = e ∙ one_shl (relations q) 64 (omega (arith, ok.few)) in
    let p : 0 < 2 ^ relations q = pow_pos (relations q) in (
      ap length h ∙ length-replicate size x ∙ n,
      λ k l.
          let z : k ≡ 0 = omega arith in
          ap (get_or cards k) (sym xis) ∙ ap (λ l. get_or l k x) h ∙ get_or-replicate size k x x (omega arith) ∙ xis ∙ sym (ap (card q) z ∙ empty_card q),
    )

pub room_for : (r n : ℕ) → r < n → 2 ^ r + 2 ^ r ≤ 2 ^ n
room_for r n l = omega (arith, pow-suc 2 r, pow_mono {i = suc r} {j = n} l)

pub twice : (r : ℕ) → 2 ^ (r + 1) ≡ 2 ^ r + 2 ^ r
twice r = rw add-one (omega (arith, pow-suc 2 r))

pub table_from : (q : JoinQuery) (n : ℕ) (cards : List ScaledNumber) (table : List ℕ) → n ≡ relations q → length cards ≡ 2 ^ relations q → ((k : ℕ) → k < 2 ^ relations q → get_or cards k one ≡ card q k) → length table ≡ length cards → ((k : ℕ) → k < length cards → slice_index table k ≡ rounded (get_or cards k one)) → IsCardTable q (record { n = n; rows = table })
unfolding rows
table_from q n cards table nis sized each same rounds =
    record {
      sized = nis;
      each = λ s ne w.
          let l : s < 2 ^ relations q = full_below s (relations q) w in
          rounds s (omega arith) ∙ ap rounded (each s l);
    }

-- a set of the table's relations has a place in it
pub table_place : (n s count : ℕ) → count ≡ 2 ^ n → Within s (full n) → s < count
table_place n s count e w = omega (arith, e, full_below s n w)

-- what is read there
pub table_entry : (table : RowTable) (n : ℕ) (items : List ℕ) (k s r : ℕ) → record { n = n; rows = items } ≡ table → k ≡ s → r ≡ get_or items k r → k < length items → r ≡ slice_index table.rows s
table_entry table n items k s r e f g l =
    g ∙ get_or_default_zero items k r l ∙ ap (λ t. slice_index t.rows k) e ∙ ap (slice_index table.rows) f

pub table_rows : (q : JoinQuery) (table : RowTable) (s r : ℕ) → s ≢ 0 → Within s (full table.n) → r ≡ slice_index table.rows s → IsCardTable q table → r ≡ rows q s
table_rows q table s r ne w e t = e ∙ t.each s ne (subst (λ n. Within s (full n)) t.sized w)
