-- The table of a query of which the connected sets alone are kept.
use Rattle.std.specs.Prelude.{◌≡◌, ◌≢◌, ℕ, ◌^◌, ◌==◌, List, All, map, if◌then◌else◌}
use Rattle.std.specs.List.{range_with_len, filter}
use Rattle.dpe_base.specs.declared.query.Pred.{Pred}
use Rattle.dpe_base.specs.Queries.{JoinQuery, relations}
use Rattle.dpe_base.specs.Sets.{member}
use Rattle.card_scaled.specs.declared.factors.Factors.{Factors}
use Rattle.card_scaled.specs.declared.factors.Link.{Link}
use Rattle.card_scaled.specs.declared.places.Place.{Place}
use Rattle.card_scaled.specs.Scaled.{ScaledNumber, frac, mul}
use Rattle.card_scaled.specs.Cards.{RowTable, base_of, card, rows}

-- the predicate, seen from its greater relation
abbrev pub link_of : Pred → Link
link_of p = record { low = p.low; fraction = frac p.num p.den }

-- the predicates up to relation r
unfoldable pub links_up : JoinQuery → ℕ → List Link
links_up q r = map link_of (filter (λ p. p.high == r) q.preds)

-- c times the predicate's fraction, where s has its lesser relation
unfoldable pub times_link : ℕ → ScaledNumber → Link → ScaledNumber
times_link s c link = if member s link.low == 1 then mul c link.fraction else c

-- what the query's relations and predicates bring into a product
pub record AreFactors (q : JoinQuery) (f : Factors) : Type 0 where
  pub bases : f.bases.items ≡ map base_of q.rels
  pub links : map (λ l. l.items) f.links.items ≡ map (links_up q) (range_with_len 0 (relations q))

-- the place has the set's number of rows, before rounding and after
pub record HasNumbers (q : JoinQuery) (s : ℕ) (p : Place) : Type 0 where
  pub card : p.card ≡ card q s
  pub rows : p.rows ≡ rows q s

-- a place is free, or has the numbers of its set
abbrev pub HasCard : JoinQuery → Place → Type 0
HasCard q p = p.set ≢ 0 → HasNumbers q p.set p

abbrev pub AreCards : JoinQuery → List Place → Type 0
AreCards q places = All (HasCard q) places

-- the rows of every set of the query's relations
abbrev pub table_of : JoinQuery → RowTable
table_of q = record { n = relations q; rows = map (rows q) (range_with_len 0 (2 ^ relations q)) }
