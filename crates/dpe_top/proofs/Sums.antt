-- Sums that grow query by query.
use Rattle.std.proofs.Common.{◌≡◌, ◌+◌, ◌*◌, ◌^◌, ◌<◌, ◌≤◌, ℕ, refl, ◌∙◌, ap, arith, List, [], ◌∷◌, ◌++◌, take, length, Some, None}
use Rattle.std.proofs.lemmas.List.{length-append, append-nil}
use Rattle.std.proofs.lemmas.List.Elements.{filter_map-append}
use Rattle.std.proofs.lemmas.List.Sums.{sum_by_push}
use Rattle.std.specs.List.{slice_get}
use Rattle.dpe_base.specs.Queries.{JoinQuery, relations}
use Rattle.query_json.specs.declared.entry.Entry.{Entry}
use Rattle.query_json.specs.declared.entry.Named.{Named}
use Rattle.query_json.specs.declared.entry.Part.TheVariants.{Accepted}
use Rattle.dpe_top.specs.declared.modes.sample.Share.{Share}
use Rattle.dpe_top.specs.declared.modes.sample.Totals.{Totals}
use Rattle.dpe_top.specs.Modes.Sample.{IsShare, AreShares, AreTotals, planned_queries, query_in, totals_of}
use Rattle.dpe_top.specs.Totals.{AreAtMost, with_query}
use Rattle.dpe_top.proofs.Reporting.{take_next}

-- the sums over the first i entries
pub record HasSummed (model : ℕ) (entries : List Entry) (i : ℕ) (t : Totals) : Type 0 where
  pub totals : AreTotals model (take i entries) t
  pub small : AreAtMost (2 ^ 64 * i) t

shares_more : (model : ℕ) (queries : List JoinQuery) (shares : List Share) (q : JoinQuery) (share : Share)
    → AreShares model queries shares → IsShare model q share → AreShares model (queries ++ (q ∷ [])) (shares ++ (share ∷ []))
shares_more model [] [] q share s p = (p, tt)
shares_more model [] (x ∷ xs) q share s p = absurd s
shares_more model (e ∷ es) [] q share s p = absurd s
shares_more model (e ∷ es) (x ∷ xs) q share s p = (s.0, shares_more model es xs q share s.1 p)

totals_more : (queries : List JoinQuery) (shares : List Share) (q : JoinQuery) (share : Share)
    → with_query (totals_of queries shares) q share ≡ totals_of (queries ++ (q ∷ [])) (shares ++ (share ∷ []))
totals_more queries shares q share =
    rw (
      length-append queries (q ∷ []),
      sum_by_push relations queries q,
      sum_by_push (λ (x : JoinQuery). length x.preds) queries q,
      sum_by_push (λ (s : Share). s.pairs) shares share,
      sum_by_push (λ (s : Share). s.cost) shares share,
    ) refl

queries_more : (entries : List Entry) (i : ℕ) (entry : Entry) (named : Named) → slice_get entries i ≡ Some entry → entry.part ≡ Accepted named
    → planned_queries (take (i + 1) entries) ≡ planned_queries (take i entries) ++ (named.query ∷ [])
queries_more entries i entry named at part =
    rw (take_next entries i entry at, filter_map-append (λ (e : Entry). query_in e.part) (take i entries) (entry ∷ []), part) refl

queries_same : (entries : List Entry) (i : ℕ) (entry : Entry) → slice_get entries i ≡ Some entry → query_in entry.part ≡ None
    → planned_queries (take (i + 1) entries) ≡ planned_queries (take i entries)
queries_same entries i entry at none =
    rw (take_next entries i entry at, filter_map-append (λ (e : Entry). query_in e.part) (take i entries) (entry ∷ []), none) (append-nil _)

pub small_more : (i a b : ℕ) → a ≤ 2 ^ 64 * i → b < 2 ^ 64 → a + b ≤ 2 ^ 64 * (i + 1)
small_more i a b small fits = omega (arith)

-- one query more
pub summed_more : (model : ℕ) (entries : List Entry) (i : ℕ) (old new : Totals) (entry : Entry) (named : Named) (share : Share)
    → HasSummed model entries i old → slice_get entries i ≡ Some entry → entry.part ≡ Accepted named → IsShare model named.query share
    → new ≡ with_query old named.query share → AreAtMost (2 ^ 64 * (i + 1)) new → HasSummed model entries (i + 1) new
summed_more model entries i old new entry named share has at part is sums small = record {
  totals = (
    has.totals.0 ++ (share ∷ []),
    rw (queries_more entries i entry named at part) (shares_more model (planned_queries (take i entries)) has.totals.0 named.query share has.totals.1 is),
    rw (queries_more entries i entry named at part)
        (sums ∙ ap (λ (x : Totals). with_query x named.query share) has.totals.2 ∙ totals_more (planned_queries (take i entries)) has.totals.0 named.query share),
  );
  small = small;
}

-- an entry that is refused
pub summed_same : (model : ℕ) (entries : List Entry) (i : ℕ) (t : Totals) (entry : Entry)
    → HasSummed model entries i t → slice_get entries i ≡ Some entry → query_in entry.part ≡ None → HasSummed model entries (i + 1) t
summed_same model entries i t entry has at none = record {
  totals = (
    has.totals.0,
    rw (queries_same entries i entry at none) has.totals.1,
    rw (queries_same entries i entry at none) has.totals.2,
  );
  small = record {
    queries = omega (arith, has.small.queries);
    relations = omega (arith, has.small.relations);
    joins = omega (arith, has.small.joins);
    pairs = omega (arith, has.small.pairs);
    cost = omega (arith, has.small.cost);
  };
}
