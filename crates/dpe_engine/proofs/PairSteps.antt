-- One pair is worked.
use Rattle.std.proofs.Common.{◌≡◌, ◌≢◌, ℕ, ◌<◌, ◌≤◌, ◌⊎◌, Bool, ◌∷◌, Contains, sym, refl, ap, ◌∙◌, subst, arith, inl, inr, ⊎_elim, eq-eqb, ne_eqb, le_refl, append-nil}
use mathlib.Core.Logic.{dite}
use native.Mathlib.Decide.{ℕ_discrete}
use Rattle.dpe_base.specs.declared.TheConstants.{EMPTY, SPAN}
use Rattle.dpe_base.specs.declared.pair.Pair.{Pair}
use Rattle.dpe_base.specs.Queries.{JoinQuery, relations, IsQuery}
use Rattle.dpe_base.specs.Sets.{Within, full, union}
use Rattle.dpe_base.proofs.Members.{contains_tail}
use Rattle.dpe_base.proofs.SetLaws.{union_within}
use Rattle.dpe_base.proofs.SizeLaws.{within_span, union_some}
use Rattle.join_graph.specs.Graphs.{Pairs, graph_of}
use Rattle.card_scaled.specs.Cards.{rows}
use Rattle.cost_model.specs.Words.{least_split_word}
use Rattle.join_tree.specs.Trees.{Least, pair_word}
use Rattle.join_tree.proofs.Substructure.{least_word_same}
use Rattle.memo_table.specs.declared.view.View.{View}
use Rattle.memo_table.specs.Seats.{SeatView, Settled}
use Rattle.memo_table.specs.Views.{with_bound, with_offer}
use Rattle.memo_table.proofs.SeatLaws.{offer_if}
use Rattle.dpe_engine.specs.Working.{HasWorkedPair}

-- what a pair of the query keeps
pub record IsPairOf (q : JoinQuery) (p : Pair) : Type 0 where
  pub some_first : p.a ≢ 0
  pub some_second : p.b ≢ 0
  pub some_union : union p.a p.b ≢ 0
  pub first : Within p.a (full (relations q))
  pub second : Within p.b (full (relations q))
  pub both : Within (union p.a p.b) (full (relations q))
  pub small_first : p.a < SPAN
  pub small_second : p.b < SPAN

pub pair_of_query : (q : JoinQuery) (p : Pair) → IsQuery q → Pairs (graph_of q) p → IsPairOf q p
pair_of_query q p ok is =
    record {
      some_first = is.first.some;
      some_second = is.second.some;
      some_union = union_some p.a p.b is.first.some;
      first = is.first.within;
      second = is.second.within;
      both = union_within p.a p.b (full (relations q)) is.first.within is.second.within;
      small_first = within_span p.a (relations q) is.first.within ok.few;
      small_second = within_span p.b (relations q) is.second.within ok.few;
    }

-- a settled set stays settled where bounds are added
pub stays_settled : (model : ℕ) (v w : View) (s : ℕ) → w.query ≡ v.query → w.pairs ≡ v.pairs → ((b : ℕ × ℕ) → Contains v.bounds b → Contains w.bounds b) → Settled model v s → Settled model w s
stays_settled model v w s q p grow settled =
    record { word = settled.word; bound = grow (s, settled.word) settled.bound; least = rw (q, p) settled.least }

-- what an offer leaves
pub record IsOffered (v after : View) (s w : ℕ) : Type 0 where
  pub query : after.query ≡ v.query
  pub pairs : after.pairs ≡ v.pairs
  pub bounds : (b : ℕ × ℕ) → Contains v.bounds b → Contains after.bounds b
  pub floor : after.floor ≡ v.floor
  pub weight : after.weight ≡ v.weight
  pub tickets : after.tickets ≡ v.tickets
  pub allowance : after.allowance ≡ v.allowance
  pub known : (w ≡ EMPTY) ⊎ Contains after.bounds (s, w)

pub offering : (v : View) (s w : ℕ) → IsOffered v (with_offer v s w) s w
offering v s w = dite (ℕ_discrete w EMPTY)
    (λ (e : w ≡ EMPTY). let F : Bool → Type 0 = λ b. IsOffered v (offer_if v s w b) s w in
    subst F (sym (eq-eqb w EMPTY e)) record { query = refl; pairs = refl; bounds = λ b h. h; floor = refl; weight = refl; tickets = refl; allowance = refl; known = inl e })
    (λ (ne : w ≢ EMPTY). let F : Bool → Type 0 = λ b. IsOffered v (offer_if v s w b) s w in
    subst F (sym (ne_eqb w EMPTY ne)) record { query = refl; pairs = refl; bounds = contains_tail (s, w) v.bounds; floor = refl; weight = refl; tickets = refl; allowance = refl; known = inr (0, omega arith, refl) })

-- the word of the split, by what the table answered
pub word_is : (model : ℕ) (q : JoinQuery) (p : Pair) (wa wb la lb o word : ℕ) → word ≡ least_split_word model p.a p.b wa wb la lb o → la ≡ rows q p.a → lb ≡ rows q p.b → o ≡ rows q (union p.a p.b) → word ≡ pair_word model q p wa wb
word_is model q p wa wb la lb o word e a b c =
    e ∙ (ap (λ x. least_split_word model p.a p.b wa wb x lb o) a ∙ (ap (λ x. least_split_word model p.a p.b wa wb (rows q p.a) x o) b ∙ ap (λ x. least_split_word model p.a p.b wa wb (rows q p.a) (rows q p.b) x) c))

pub worked_pair : (model : ℕ) (p : Pair) (before one two after : SeatView) (wa wb word : ℕ) → one.table ≡ before.table → two.table ≡ one.table → after.table ≡ two.table
    → one.view ≡ with_bound before.view p.a wa → two.view ≡ with_bound one.view p.b wb → after.view ≡ with_offer two.view (union p.a p.b) word
    → Least model before.view.query before.view.pairs p.a wa → Least model before.view.query before.view.pairs p.b wb → word ≡ pair_word model before.view.query p wa wb → HasWorkedPair model p before after
worked_pair model p before one two after wa wb word t1 t2 t3 v1 v2 v3 la lb is =
    let q : JoinQuery = before.view.query in
    let base : View = with_bound (with_bound before.view p.a wa) p.b wb in
    let at : after.view ≡ with_offer base (union p.a p.b) word = v3 ∙ ap (λ (v : View). with_offer v (union p.a p.b) word) (v2 ∙ ap (λ (v : View). with_bound v p.b wb) v1) in
    let F : View → Type 0 = λ v. IsOffered base v (union p.a p.b) word in
    let f = subst F (sym at) (offering base (union p.a p.b) word) in
    record {
      drawn = record {
        table = t3 ∙ (t2 ∙ t1);
        query = f.query;
        pairs = f.pairs;
        bounds = λ b h. f.bounds b (contains_tail (p.b, wb) ((p.a, wa) ∷ before.view.bounds) b (contains_tail (p.a, wa) before.view.bounds b h));
        floor = f.floor;
        weight = f.weight;
        tickets = f.tickets ∙ sym (append-nil before.view.tickets);
        allowance = let a = f.allowance in omega arith;
      };
      done = λ w l.
          let ea = least_word_same model q before.view.pairs p.a wa l.first la l.least_first in
          let eb = least_word_same model q before.view.pairs p.b wb l.second lb l.least_second in
          let same : word ≡ w = is ∙ (ap (λ (x : ℕ). pair_word model q p x wb) ea ∙ (ap (λ (x : ℕ). pair_word model q p l.first x) eb ∙ sym l.is)) in
          ⊎_elim (λ (e : word ≡ EMPTY). inl (sym same ∙ e)) (λ h. inr (record { word = word; bound = h; most = let F : ℕ → Type 0 = λ x. word ≤ x in subst F same (le_refl word) })) f.known;
    }
