-- A tree with the numbers of each of its nodes.
use Rattle.std.specs.Prelude.{ℕ}
use Rattle.dpe_base.specs.Queries.{JoinQuery}
use Rattle.card_scaled.specs.Cards.{rows}
use Rattle.join_tree.specs.Trees.{JoinTree, leaf, join, set_of, cost}
use Rattle.plan_report.specs.declared.measured.Numbers.{Numbers}
use Rattle.plan_report.specs.declared.measured.Measured.{Measured, Scan, Join'}

pub data MeasuredTree : Type 0 where
  scan_node : ℕ → Numbers → MeasuredTree
  join_node : ℕ → Numbers → MeasuredTree → MeasuredTree → MeasuredTree

-- the tree that a value of the program is
abbrev pub measured_of : Measured → MeasuredTree
measured_of (Scan r numbers) = scan_node r numbers
measured_of (Join' op numbers p left q right) = join_node op numbers (measured_of left) (measured_of right)

abbrev pub root_numbers : MeasuredTree → Numbers
root_numbers (scan_node r numbers) = numbers
root_numbers (join_node op numbers left right) = numbers

-- the tree without its numbers
abbrev pub shape : MeasuredTree → JoinTree
shape (scan_node r numbers) = leaf r
shape (join_node op numbers left right) = join op (shape left) (shape right)

-- the set of the tree's leaves, its rows and the tree's cost
abbrev pub own_numbers : ℕ → JoinQuery → JoinTree → Numbers
own_numbers kind q t = record { set = set_of t; rows = rows q (set_of t); cost = cost kind q t }

-- each node with its own numbers
abbrev pub measured : ℕ → JoinQuery → JoinTree → MeasuredTree
measured kind q (leaf r) = scan_node r (own_numbers kind q (leaf r))
measured kind q (join op left right) = join_node op (own_numbers kind q (join op left right)) (measured kind q left) (measured kind q right)
