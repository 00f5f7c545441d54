-- The first relation that the predicates don't connect with relation 0.
use Rattle.std.specs.Prelude.{ℕ, ◌^◌, ◌==◌, ◌&&◌, Bool, Option, find}
use Rattle.std.specs.List.{list_all, list_any, range_with_len}
use Rattle.dpe_base.specs.Queries.{JoinQuery, relations}
use Rattle.dpe_base.specs.Sets.{member}

-- no predicate has one end in the set and the other outside
unfoldable pub is_closed : JoinQuery → ℕ → Bool
is_closed q s = list_all (λ p. member s p.low == member s p.high) q.preds

-- the set has relation 0 and lacks r, and no predicate leads out of it
unfoldable pub parts_from : JoinQuery → ℕ → ℕ → Bool
parts_from q r s = member s 0 == 1 && member s r == 0 && is_closed q s

-- some set of relations parts r from relation 0, so that no walk along predicates leads from the one to the other
unfoldable pub is_unreached : JoinQuery → ℕ → Bool
is_unreached q r = list_any (parts_from q r) (range_with_len 0 (2 ^ relations q))

unfoldable pub first_unreached : JoinQuery → Option ℕ
first_unreached q = find (is_unreached q) (range_with_len 0 (relations q))
