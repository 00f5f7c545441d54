-- What the factors of a query give, and a set from the set without its greatest relation.
use Rattle.std.proofs.Common.{◌≡◌, ◌≢◌, ℕ, ◌+◌, ◌*◌, ◌^◌, ◌<◌, ◌≤◌, ◌&&◌, ◌==◌, nat_eq, Bool, true, false, cond, if◌then◌else◌, refl, sym, ◌∙◌, ap, subst, arith, List, [], ◌∷◌, ◌++◌, All, map, length, get_or, take}
use Rattle.std.specs.List.{fold, slice_get, filter, range_with_len}
use Rattle.std.proofs.lemmas.Bool.{ne_eqb, eq-eqb}
use Rattle.std.proofs.lemmas.Grind.{fold-append}
use Rattle.std.proofs.lemmas.List.{append-nil, get_or-map, length-map, length-take, map-append, take_all, take_more}
use Rattle.std.proofs.lemmas.List.Elements.{filter-append, All-nil, All-cons, All-head, All-tail, All-map, All-take, All-get_or}
use Rattle.std.proofs.lemmas.List.FromFn.{get_or-map-range_with_len, length-map-range_with_len, map-range_with_len_more}
use Rattle.std.proofs.lemmas.List.Sums.{length-filter, count_by-le-length}
use Rattle.std.proofs.lemmas.Nat.{pow_pos}
use Rattle.dpe_base.specs.declared.TheConstants.{N_MAX, PREDS_MAX}
use Rattle.dpe_base.specs.declared.query.Pred.{Pred}
use Rattle.dpe_base.specs.declared.query.Rel.{Rel}
use Rattle.dpe_base.specs.Queries.{JoinQuery, IsQuery, relations}
use Rattle.dpe_base.specs.Sets.{Has, Within, Disjoint, member, union, minus, single, full}
use Rattle.dpe_base.proofs.SetLaws.{sets, same_set, single_has, full_limit, minus_left, minus_right}
use Rattle.dpe_base.proofs.SizeLaws.{union_add}
use Rattle.connected_sets.specs.Greatest.{IsGreatest}
use Rattle.card_scaled.specs.declared.factors.Link.{Link}
use Rattle.card_scaled.specs.Scaled.{ScaledNumber, IsNear, frac, mul, one}
use Rattle.card_scaled.specs.Cards.{base_of, times_base, times_pred, with_relation, card}
use Rattle.card_scaled.specs.Sparse.{link_of, links_up, times_link}
use Rattle.card_scaled.proofs.ScaledLaws.{frac_near, mul_near}
use Rattle.card_scaled.proofs.NearLaws.{REACH, near_more, base_near, card_near, times_base_near}
use Rattle.card_scaled.proofs.CardLaws.{card_more}
use Rattle.card_scaled.proofs.CardSteps.{base_step}
use Rattle.card_scaled.proofs.TableSteps.{empty_card}

-- ---- the factors

pub base_at : (q : JoinQuery) (bases : List ScaledNumber) (r : ℕ) (x : ScaledNumber) (d : Rel) → bases ≡ map base_of q.rels → r < relations q → x ≡ get_or bases r x → x ≡ base_of (get_or q.rels r d)
base_at q bases r x d e l is = is ∙ ap (λ xs. get_or xs r x) e ∙ get_or-map base_of q.rels r d x l

abbrev no_rel : Rel
no_rel = record { rows = 0; num = 0; den = 0 }

pub base_is_near : (q : JoinQuery) (bases : List ScaledNumber) (r : ℕ) (x : ScaledNumber) → bases ≡ map base_of q.rels → r < relations q → x ≡ get_or bases r x → IsNear (2 ^ 24) x.scale
base_is_near q bases r x e l is =
    subst (λ (y : ScaledNumber). IsNear (2 ^ 24) y.scale) (sym (base_at q bases r x no_rel e l is)) (near_more 352 (2 ^ 24) _ (base_near _) (omega arith))

pub base_times : (q : JoinQuery) (bases : List ScaledNumber) (r : ℕ) (x c p : ScaledNumber) → bases ≡ map base_of q.rels → r < relations q → x ≡ get_or bases r x → p ≡ mul c x → p ≡ times_base c (slice_get q.rels r)
base_times q bases r x c p e l is m = base_step q r c q.rels no_rel x p refl l (base_at q bases r x no_rel e l is) m

-- a predicate more, where it leads up to r and where it doesn't
abbrev is_up : ℕ → Pred → Bool
is_up r p = nat_eq p.high r

links_step : (ps : List Pred) (r i : ℕ) (d : Pred) (b : Bool) → i < length ps → is_up r (get_or ps i d) ≡ b → map link_of (filter (is_up r) (take (i + 1) ps)) ≡ map link_of (filter (is_up r) (take i ps)) ++ map link_of (cond b (get_or ps i d ∷ []) [])
links_step ps r i d b l e =
    ap (λ xs. map link_of (filter (is_up r) xs)) (take_more ps i d l)
    ∙ ap (map link_of) (filter-append (is_up r) (take i ps) (get_or ps i d ∷ []))
    ∙ map-append link_of (filter (is_up r) (take i ps)) (filter (is_up r) (get_or ps i d ∷ []))
    ∙ ap (λ t. map link_of (filter (is_up r) (take i ps)) ++ map link_of (cond t (get_or ps i d ∷ []) [])) e

pub link_pushed : (ps qs : List Pred) (r i : ℕ) (d : Pred) (x : Link) (xs ys : List Link) → ps ≡ qs → i < length ps → xs ≡ map link_of (filter (is_up r) (take i qs)) → (get_or ps i d).high ≡ r → x ≡ link_of (get_or ps i d) → ys ≡ xs ++ x ∷ [] → ys ≡ map link_of (filter (is_up r) (take (i + 1) qs))
link_pushed ps qs r i d x xs ys same l e high is pushed =
    pushed
    ∙ ap (λ y. xs ++ y ∷ []) is
    ∙ ap (λ zs. zs ++ link_of (get_or ps i d) ∷ []) (e ∙ ap (λ zs. map link_of (filter (is_up r) (take i zs))) (sym same))
    ∙ sym (links_step ps r i d true l (eq-eqb _ _ high))
    ∙ ap (λ zs. map link_of (filter (is_up r) (take (i + 1) zs))) same

pub link_passed : (ps qs : List Pred) (r i : ℕ) (d : Pred) (xs ys : List Link) → ps ≡ qs → i < length ps → xs ≡ map link_of (filter (is_up r) (take i qs)) → (get_or ps i d).high ≢ r → ys ≡ xs → ys ≡ map link_of (filter (is_up r) (take (i + 1) qs))
link_passed ps qs r i d xs ys same l e high is =
    is
    ∙ e
    ∙ ap (λ zs. map link_of (filter (is_up r) (take i zs))) (sym same)
    ∙ sym (append-nil (map link_of (filter (is_up r) (take i ps))))
    ∙ sym (links_step ps r i d false l (ne_eqb _ _ high))
    ∙ ap (λ zs. map link_of (filter (is_up r) (take (i + 1) zs))) same

-- the predicates up to one relation more
pub links_more : (f : ℕ → List Link) (n : ℕ) → map f (range_with_len 0 (n + 1)) ≡ map f (range_with_len 0 n) ++ f n ∷ []
links_more f n = map-range_with_len_more f 0 n n (omega arith)

pub same_end : (k e n : ℕ) → k ≤ e → e ≤ k → e ≡ n → k ≡ n
same_end k e n l m q = omega arith

pub link_in : (s : ℕ) (c : ScaledNumber) (link : Link) → Has s link.low → times_link s c link ≡ mul c link.fraction
unfolding times_link
link_in s c link h = rw h refl

pub link_out : (s : ℕ) (c : ScaledNumber) (link : Link) → member s link.low ≢ 1 → times_link s c link ≡ c
unfolding times_link
link_out s c link ne = rw (ne_eqb (member s link.low) 1 ne) refl

-- the links of a relation
pub links_known : (q : JoinQuery) (all : List (List Link)) → all ≡ map (links_up q) (range_with_len 0 (relations q)) → length all ≡ relations q
links_known q all e = ap length e ∙ length-map-range_with_len (links_up q) 0 (relations q)

pub links_are : (q : JoinQuery) (all : List (List Link)) (r : ℕ) (d : List Link) → all ≡ map (links_up q) (range_with_len 0 (relations q)) → r < relations q → get_or all r d ≡ links_up q r
links_are q all r d e l = ap (λ xs. get_or xs r d) e ∙ get_or-map-range_with_len (links_up q) 0 (relations q) r r d l (omega arith)

pub links_at : {V : Type 0} (q : JoinQuery) (items : V → List Link) (vs : List V) (r : ℕ) (v : V) (ls : List Link) → map items vs ≡ map (links_up q) (range_with_len 0 (relations q)) → r < relations q → v ≡ get_or vs r v → ls ≡ items v → ls ≡ links_up q r
links_at q items vs r v ls e l is here =
    here
    ∙ ap items is
    ∙ sym (get_or-map items vs r v (items v) (omega (arith, l, links_known q (map items vs) e, length-map vs items)))
    ∙ links_are q (map items vs) r (items v) e l

-- a link more
pub link_taken : (ls ups : List Link) (s i : ℕ) (before product after : ScaledNumber) (x : Link) → ls ≡ ups → i < length ls → x ≡ get_or ls i x → product ≡ fold (times_link s) before (take i ups) → after ≡ times_link s product x → after ≡ fold (times_link s) before (take (i + 1) ups)
link_taken ls ups s i before product after x same l is e step =
    step
    ∙ ap (times_link s product) is
    ∙ ap (λ c. times_link s c (get_or ls i x)) (e ∙ ap (λ us. fold (times_link s) before (take i us)) (sym same))
    ∙ sym (fold-append (times_link s) before (take i ls) (get_or ls i x ∷ []))
    ∙ sym (ap (fold (times_link s) before) (take_more ls i x l))
    ∙ ap (λ us. fold (times_link s) before (take (i + 1) us)) same

-- a predicate that doesn't lead up to r changes nothing, and the others are its links
links_fold : (ps : List Pred) (s r : ℕ) (c : ScaledNumber) → fold (times_link s) c (map link_of (filter (λ p. p.high == r) ps)) ≡ fold (times_pred s r) c ps
unfolding times_pred times_link
links_fold [] s r c = refl
links_fold (p ∷ ps) s r c =
    elim (p.high == r) as (λ b. fold (times_link s) c (map link_of (cond b (p ∷ filter (λ p. p.high == r) ps) (filter (λ p. p.high == r) ps))) ≡ fold (times_pred s r) (if b && member s p.low == 1 then mul c (frac p.num p.den) else c) ps) [
      | true ↦ links_fold ps s r (if member s p.low == 1 then mul c (frac p.num p.den) else c)
      | false ↦ links_fold ps s r c
    ]

pub all_links_in : (q : JoinQuery) (s r i : ℕ) (c x : ScaledNumber) → length (links_up q r) ≤ i → x ≡ fold (times_link s) (times_base c (slice_get q.rels r)) (take i (links_up q r)) → x ≡ with_relation q s c r
unfolding with_relation links_up
all_links_in q s r i c x e h =
    h ∙ ap (fold (times_link s) (times_base c (slice_get q.rels r))) (take_all i (links_up q r) e) ∙ links_fold q.preds s r (times_base c (slice_get q.rels r))

-- ---- the scales of the links

few_links : (q : JoinQuery) (r : ℕ) → length q.preds ≤ PREDS_MAX → length (links_up q r) ≤ PREDS_MAX
unfolding links_up
few_links q r few =
    omega (arith, few, length-filter (λ p. p.high == r) q.preds, count_by-le-length (λ p. p.high == r) q.preds, length-map (filter (λ p. p.high == r) q.preds) link_of)

link_near : (s n : ℕ) (c : ScaledNumber) (l : Link) → IsNear 160 l.fraction.scale → IsNear n c.scale → IsNear (n + 256) (times_link s c l).scale
unfolding times_link
link_near s n c l f h =
    elim (member s l.low == 1) as (λ b. IsNear (n + 256) (if b then mul c l.fraction else c).scale) [
      | true ↦ near_more _ _ _ (mul_near c l.fraction n 160 h f) (omega arith)
      | false ↦ near_more _ _ _ h (omega arith)
    ]

links_near : (ls : List Link) (s n : ℕ) (c : ScaledNumber) → All (λ l. IsNear 160 l.fraction.scale) ls → IsNear n c.scale → IsNear (n + 256 * length ls) (fold (times_link s) c ls).scale
links_near [] s n c all h = near_more _ _ _ h (omega arith)
links_near (l ∷ ls) s n c all h =
    near_more _ _ _ (links_near ls s (n + 256) (times_link s c l) (All-tail (λ l. IsNear 160 l.fraction.scale) l ls all) (link_near s n c l (All-head (λ l. IsNear 160 l.fraction.scale) l ls all) h)) (omega arith)

fractions_near : (q : JoinQuery) (r : ℕ) → All (λ l. IsNear 160 l.fraction.scale) (links_up q r)
unfolding links_up
fractions_near q r = All-map (λ (l : Link). IsNear 160 l.fraction.scale) link_of (filter (λ p. p.high == r) q.preds) (all_of (filter (λ p. p.high == r) q.preds))
  where
    all_of : (ps : List Pred) → All (λ p. IsNear 160 (frac p.num p.den).scale) ps
    all_of [] = All-nil _
    all_of (p ∷ ps) = All-cons (λ (p : Pred). IsNear 160 (frac p.num p.den).scale) p ps (frac_near p.num p.den) (all_of ps)

pub links_between_near : (q : JoinQuery) (s r i : ℕ) (c : ScaledNumber) → length q.preds ≤ PREDS_MAX → IsNear REACH c.scale → IsNear (2 ^ 24) (fold (times_link s) (times_base c (slice_get q.rels r)) (take i (links_up q r))).scale
links_between_near q s r i c few h =
    near_more _ _ _ (links_near (take i (links_up q r)) s (REACH + 512) (times_base c (slice_get q.rels r)) (All-take (λ (l : Link). IsNear 160 l.fraction.scale) i (links_up q r) (fractions_near q r)) (times_base_near c (slice_get q.rels r) REACH h))
    (omega (arith, few_links q r few, length-take {A = Link}))

pub link_is_near : (q : JoinQuery) (r i : ℕ) (x : Link) → i < length (links_up q r) → x ≡ get_or (links_up q r) i x → IsNear (2 ^ 24) x.fraction.scale
link_is_near q r i x l e =
    subst (λ (y : Link). IsNear (2 ^ 24) y.fraction.scale) (sym e) (near_more 160 (2 ^ 24) _ (All-get_or (λ (l : Link). IsNear 160 l.fraction.scale) (links_up q r) i x l (fractions_near q r)) (omega arith))

-- ---- a set and its greatest relation

pub card_none : (q : JoinQuery) (s : ℕ) (x : ScaledNumber) → s ≡ 0 → x ≡ one → x ≡ card q s
card_none q s x z e = e ∙ sym (ap (card q) z ∙ empty_card q)

module _ (q : JoinQuery) (ok : IsQuery q) (s r a rest : ℕ) (within : Within s (full (relations q))) (top : IsGreatest s r) (alone : a ≡ single r) (left : rest ≡ minus s a) where
  pub top_known : (r < relations q) × (r < N_MAX)
  top_known = (full_limit (relations q) r (within r top.0), omega (arith, full_limit (relations q) r (within r top.0), ok.few))

  rest_is : rest ≡ minus s (single r)
  rest_is = left ∙ ap (minus s) alone

  pub rest_within : Within rest (full (relations q))
  rest_within k h = within k (minus_left s (single r) k (subst (λ (t : ℕ). Has t k) rest_is h))

  rest_apart_from : Disjoint rest (single r)
  rest_apart_from k h one = minus_right s (single r) k (subst (λ (t : ℕ). Has t k) rest_is h) one

  whole : union rest (single r) ≡ s
  whole = ap (λ (t : ℕ). union t (single r)) rest_is ∙ same_set _ _ (λ k. at k (λ e. subst (λ (j : ℕ). Has s j) e top.0))
    where
      at : (k : ℕ) → (r ≡ k → Has s k) → member (union (minus s (single r)) (single r)) k ≡ member s k
      at k h = grind (arith, sets)

  pub rest_smaller : rest < s
  unfolding single
  rest_smaller = omega (arith, sym whole ∙ union_add rest (single r) rest_apart_from, pow_pos r)

  below_top : (k : ℕ) → Has rest k → k < r
  below_top k h =
      let in_s : Has s k = minus_left s (single r) k (subst (λ (t : ℕ). Has t k) rest_is h) in
      let ne : k ≢ r = λ e. rest_apart_from k h (subst (λ (j : ℕ). Has (single r) j) (sym e) (single_has r)) in
      omega (arith, top.1 k in_s, ne)

  pub before_near : (before : ScaledNumber) → before ≡ card q rest → IsNear REACH before.scale
  before_near before e = subst (λ (y : ScaledNumber). IsNear REACH y.scale) (sym e) (card_near q rest ok.few_preds)

  pub card_by_rest : (before x : ScaledNumber) → before ≡ card q rest → x ≡ with_relation q rest before r → x ≡ card q s
  card_by_rest before x e h =
      h
      ∙ ap (λ c. with_relation q rest c r) e
      ∙ sym (card_more q rest r ok (omega (arith, top_known.1)) below_top)
      ∙ ap (card q) whole
