-- Views: how often a number stands in a list, and what each call makes of a view.
use Rattle.std.specs.Prelude.{◌≡◌, ℕ, ◌+◌, ◌-◌, ◌==◌, nat_lt, max, if◌then◌else◌, List, [], ◌∷◌, ◌++◌, length, count_by}
use Rattle.dpe_base.specs.declared.TheConstants.{EMPTY, WEIGHT, DRAWS}
use Rattle.memo_table.specs.declared.view.View.{View}
use Rattle.memo_table.specs.declared.view.TreeSpace.{TreeSpace}

-- how often x stands in the list
abbrev pub times : ℕ → List ℕ → ℕ
times x xs = count_by (λ y. y == x) xs

-- 1 below n, and else 0
abbrev pub once_below : ℕ → ℕ → ℕ
once_below x n = if nat_lt x n then 1 else 0

-- the numbers below n stand in the list, each once, and no others
pub record EachOnceBelow (n : ℕ) (xs : List ℕ) : Type 0 where
  pub count : length xs ≡ n
  pub once : (x : ℕ) → times x xs ≡ once_below x n

abbrev pub no_space : TreeSpace
no_space = record { query = record { rels = []; preds = [] }; pairs = [] }

-- the first seat knows nothing yet, and has the whole weight and all draws
abbrev pub opening_view : TreeSpace → View
opening_view space = record { query = space.query; pairs = space.pairs; bounds = []; floor = 0; tickets = []; weight = WEIGHT; allowance = DRAWS }

-- what is left of a seat that was joined to another
abbrev pub spent_view : View
spent_view = record { query = no_space.query; pairs = []; bounds = []; floor = 0; tickets = []; weight = 0; allowance = 0 }

-- a bound more
abbrev pub with_bound : View → ℕ → ℕ → View
with_bound v s w =
    record {
      query = v.query;
      pairs = v.pairs;
      bounds = (s, w) ∷ v.bounds;
      floor = v.floor;
      tickets = v.tickets;
      weight = v.weight;
      allowance = v.allowance;
    }

-- an offered word is a bound, unless it is EMPTY
abbrev pub with_offer : View → ℕ → ℕ → View
with_offer v s w = if w == EMPTY then v else with_bound v s w

-- a number more was drawn
abbrev pub with_ticket : View → ℕ → View
with_ticket v n =
    record {
      query = v.query;
      pairs = v.pairs;
      bounds = v.bounds;
      floor = v.floor;
      tickets = v.tickets ++ n ∷ [];
      weight = v.weight;
      allowance = v.allowance - 1;
    }

-- the counter was seen at n
abbrev pub with_floor : View → ℕ → View
with_floor v n = record { query = v.query; pairs = v.pairs; bounds = v.bounds; floor = n; tickets = v.tickets; weight = v.weight; allowance = v.allowance }

-- what a seat keeps that gives away as many draws
abbrev pub kept_part : ℕ → View → View
kept_part draws v =
    record {
      query = v.query;
      pairs = v.pairs;
      bounds = v.bounds;
      floor = v.floor;
      tickets = v.tickets;
      weight = v.weight - 1;
      allowance = v.allowance - draws;
    }

-- and the new seat
abbrev pub given_part : ℕ → View → View
given_part draws v = record { query = v.query; pairs = v.pairs; bounds = v.bounds; floor = v.floor; tickets = []; weight = 1; allowance = draws }

-- what two seats know together
abbrev pub joined_view : View → View → View
joined_view v w =
    record {
      query = v.query;
      pairs = v.pairs;
      bounds = v.bounds ++ w.bounds;
      floor = max v.floor w.floor;
      tickets = v.tickets ++ w.tickets;
      weight = v.weight + w.weight;
      allowance = v.allowance + w.allowance;
    }
