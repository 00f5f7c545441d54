-- The columns of a table by name: of two columns of one name the first counts.
use Rattle.std.specs.Prelude.{ℕ, List, [], ◌∷◌, Option, Some, None, if◌then◌else◌}
use Rattle.std.specs.Str.{bytes_eq}
use Rattle.query_json.specs.declared.file.Column.{Column}

-- the distinct count of the first column of a name
abbrev pub distinct_in : List ℕ → List Column → Option ℕ
distinct_in name [] = None
distinct_in name (c ∷ cs) = if bytes_eq name c.name then Some c.distinct else distinct_in name cs
