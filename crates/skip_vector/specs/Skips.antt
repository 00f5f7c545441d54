-- Prefixes of the ascending lists of sets, and the places of a part that a scan by skips looks at.
use Rattle.std.specs.Prelude.{◌≡◌, ◌≢◌, ◌⊎◌, ℕ, zero, suc, ◌+◌, ◌-◌, ◌/◌, ◌<◌, ◌≤◌, Bool, true, false, not, ◌||◌, ◌==◌, nat_eq, nat_lt, if◌then◌else◌, List, [], ◌∷◌, length, take, slice_index, get_or}
use Rattle.std.specs.Cmp.Lexicographic.{pointwise}
use Rattle.std.specs.declared.cmp.Ordering.TheVariants.{Less}
use Rattle.skip_vector.specs.declared.column.Column.{Column}
use Rattle.dpe_base.specs.Sets.{Disjoint, Meets, member, meets, size, members, list_order}

-- the first p relations of a set
abbrev pub first_relations : ℕ → ℕ → List ℕ
first_relations p s = take p (members s)

-- a list up to its first member of x and with it
unfoldable pub up_to : ℕ → List ℕ → List ℕ
up_to x [] = []
up_to x (r ∷ rs) = if member x r == 1 then r ∷ [] else r ∷ up_to x rs

-- the blocking prefix of s: the shortest one whose last relation is in x
unfoldable pub blocking_prefix : ℕ → ℕ → List ℕ
blocking_prefix x s = up_to x (members s)

-- no relation of s is in x
abbrev pub is_free : ℕ → ℕ → Bool
is_free x s = not (meets s x)

-- a part: sets of one size of at least 1, ascending in list order
pub record IsPart (part : List ℕ) : Type 0 where
  pub some : (i : ℕ) → i < length part → 1 ≤ size (slice_index part i)
  pub one_size : (i j : ℕ) → i < length part → j < length part → size (slice_index part i) ≡ size (slice_index part j)
  pub ascends : (i j : ℕ) → i < j → j < length part → list_order (slice_index part i) (slice_index part j) ≡ Less

-- a is the least place above i whose entry has other first p relations, or the length of the part
pub record IsAfter (part : List ℕ) (i p a : ℕ) : Type 0 where
  pub above : i < a
  pub within : a ≤ length part
  pub same : (j : ℕ) → i < j → j < a → first_relations p (slice_index part j) ≡ first_relations p (slice_index part i)
  pub other : a < length part → first_relations p (slice_index part a) ≢ first_relations p (slice_index part i)

-- whether one of the n places from `from` on has the blocking prefix p
unfoldable pub has_blocking_prefix : List ℕ → ℕ → List ℕ → ℕ → ℕ → Bool
has_blocking_prefix part x p from zero = false
has_blocking_prefix part x p from (suc n) = has_blocking_prefix part x p from n || pointwise nat_eq (blocking_prefix x (slice_index part (from + n))) p

-- whether the place is probed: its entry is free, or the first one from `from` on with its blocking prefix
unfoldable pub is_probed : List ℕ → ℕ → ℕ → ℕ → Bool
is_probed part from x n =
    is_free x (slice_index part (from + n))
    || (if has_blocking_prefix part x (blocking_prefix x (slice_index part (from + n))) from n then false else true)

-- how many of the n places from `from` on are probed
unfoldable pub probes : List ℕ → ℕ → ℕ → ℕ → ℕ
probes part from x zero = 0
probes part from x (suc n) = probes part from x n + (if is_probed part from x n then 1 else 0)

-- where the run of entry i ends: at a distance below 255, or else where the run of the next block's first entry ends
abbrev pub end_in : List ℕ → List ℕ → ℕ → ℕ
end_in near far i = if nat_lt (slice_index near i) 255 then i + slice_index near i else slice_index far (i / 128 + 1)

-- a place for each entry and, with one to spare, for each block of 128 of them
abbrev pub HasPlaces : List ℕ → List ℕ → List ℕ → Type 0
HasPlaces part near far = (length near ≡ length part) × (length far ≡ length part / 128 + 2)

-- the places after each entry's prefix of length p
pub record IsColumn (part : List ℕ) (p : ℕ) (c : Column) : Type 0 where
  pub places : HasPlaces part c.near.items c.far.items
  pub each : (i : ℕ) → i < length part → IsAfter part i p (end_in c.near.items c.far.items i)

-- what a part with skip vectors keeps
pub record IsSkipPart (part : List ℕ) (columns : List Column) : Type 0 where
  pub is_part : IsPart part
  pub wide : 0 < length part → length columns ≡ size (slice_index part 0)
  pub each : (p : ℕ) (d : Column) → p < length columns → IsColumn part (p + 1) (get_or columns p d)

-- no entry from `from` on and before `upto` is disjoint from x
abbrev pub NoneFree : List ℕ → ℕ → ℕ → ℕ → Type 0
NoneFree part x from upto = (j : ℕ) → from ≤ j → j < upto → Meets (slice_index part j) x

-- the first entry from `from` on that is disjoint from x
pub record IsFirstFree (part : List ℕ) (x from place entry : ℕ) : Type 0 where
  pub from_on : from ≤ place
  pub within : place < length part
  pub entry_is : entry ≡ slice_index part place
  pub free : Disjoint entry x
  pub first : NoneFree part x from place

-- how many of the entries from `from` on are probed
abbrev pub probes_from : List ℕ → ℕ → ℕ → ℕ
probes_from part from x = probes part from x (length part - from)

-- the entry n places after `from` is disjoint from x, or none before it has its blocking prefix
abbrev pub IsProbed : List ℕ → ℕ → ℕ → ℕ → Type 0
IsProbed part from x n =
    Disjoint (slice_index part (from + n)) x
    ⊎ ((m : ℕ) → m < n → blocking_prefix x (slice_index part (from + m)) ≢ blocking_prefix x (slice_index part (from + n)))
