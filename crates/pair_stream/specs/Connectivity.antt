-- The neighbours of a set, and the test of connectivity, as functions.
use Rattle.std.specs.Prelude.{ℕ, zero, suc, Bool, ◌&&◌, ◌||◌, ◌==◌, not, slice_index, if◌then◌else◌}
use Rattle.std.specs.List.{list_all}
use Rattle.dpe_base.specs.Sets.{member, union, minus, full, is_within, meets}
use Rattle.join_graph.specs.Graphs.{JoinGraph}
use Rattle.pair_stream.specs.Subsets.{subsets}

-- what is joined to r, where r is a member of s
unfoldable pub adjacent_if_member : JoinGraph → ℕ → ℕ → ℕ
adjacent_if_member g s r = if member s r == 1 then slice_index g.adjacent r else 0

-- what is joined to a member of s below n
unfoldable pub adjacent_to_members : JoinGraph → ℕ → ℕ → ℕ
adjacent_to_members g s zero = 0
adjacent_to_members g s (suc n) = union (adjacent_to_members g s n) (adjacent_if_member g s n)

-- the neighbours of s outside s
unfoldable pub neighbours : JoinGraph → ℕ → ℕ
neighbours g s = minus (adjacent_to_members g s g.n) s

-- a is s, or an edge leads from a to the rest of s
abbrev pub is_crossed_at : JoinGraph → ℕ → ℕ → Bool
is_crossed_at g s a = (a == s) || meets (adjacent_to_members g a g.n) (minus s a)

-- every split of s into two parts that are not empty is crossed
unfoldable pub is_connected : JoinGraph → ℕ → Bool
is_connected g s = not (s == 0) && (is_within s (full g.n) && list_all (is_crossed_at g s) (subsets s))
