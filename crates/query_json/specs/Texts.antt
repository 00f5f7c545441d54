-- Places and refusals as they are printed.
use Rattle.std.specs.Prelude.{ℕ, List, [], ◌++◌, codes, decimal}
use Rattle.dpe_base.specs.declared.TheConstants.{N_MAX}
use Rattle.query_json.specs.declared.place.Site.TheVariants as site
use Rattle.query_json.specs.declared.place.Place.{Place}
use Rattle.query_json.specs.declared.place.Site.{Site}
use Rattle.query_json.specs.declared.refusal.FracPlace.{FracPlace}
use Rattle.query_json.specs.declared.refusal.FracPlace.TheVariants as frac
use Rattle.query_json.specs.declared.refusal.QueryRefusal.{QueryRefusal}
use Rattle.query_json.specs.declared.refusal.QueryRefusal.TheVariants.{NoRelations, TooManyRelations, DuplicateAlias, UnknownTable, UnknownAlias, UnknownColumn, SelfJoin, BadFraction, Disconnected}

abbrev pub table_path : ℕ → List ℕ → List ℕ
table_path i rest = codes "$.tables[" ++ (decimal i ++ (codes "]" ++ rest))

abbrev pub query_path : ℕ → List ℕ → List ℕ
query_path i rest = codes "$.queries[" ++ (decimal i ++ (codes "]" ++ rest))

abbrev pub part_path : List ℕ → ℕ → List ℕ → List ℕ
part_path list j rest = list ++ (codes "[" ++ (decimal j ++ (codes "]" ++ rest)))

abbrev pub site_path : Site → ℕ → ℕ → List ℕ
site_path site.Root i j = codes "$"
site_path site.Version i j = codes "$.version"
site_path site.Tables i j = codes "$.tables"
site_path site.Table i j = table_path i []
site_path site.TableName i j = table_path i (codes ".name")
site_path site.TableRows i j = table_path i (codes ".rows")
site_path site.Columns i j = table_path i (codes ".columns")
site_path site.Column i j = table_path i (part_path (codes ".columns") j [])
site_path site.ColumnName i j = table_path i (part_path (codes ".columns") j (codes ".name"))
site_path site.Distinct i j = table_path i (part_path (codes ".columns") j (codes ".distinct"))
site_path site.Queries i j = codes "$.queries"
site_path site.QueryItem i j = query_path i []
site_path site.QueryName i j = query_path i (codes ".name")
site_path site.Relations i j = query_path i (codes ".relations")
site_path site.Relation i j = query_path i (part_path (codes ".relations") j [])
site_path site.Alias i j = query_path i (part_path (codes ".relations") j (codes ".alias"))
site_path site.TableRef i j = query_path i (part_path (codes ".relations") j (codes ".table"))
site_path site.Filter i j = query_path i (part_path (codes ".relations") j (codes ".filter"))
site_path site.Joins i j = query_path i (codes ".joins")
site_path site.JoinItem i j = query_path i (part_path (codes ".joins") j [])
site_path site.Left i j = query_path i (part_path (codes ".joins") j (codes ".left"))
site_path site.Right i j = query_path i (part_path (codes ".joins") j (codes ".right"))
site_path site.LeftColumn i j = query_path i (part_path (codes ".joins") j (codes ".left_column"))
site_path site.RightColumn i j = query_path i (part_path (codes ".joins") j (codes ".right_column"))
site_path site.Selectivity i j = query_path i (part_path (codes ".joins") j (codes ".selectivity"))

-- a place of the file as a path from its root
abbrev pub path_of : Place → List ℕ
path_of p = site_path p.site p.i p.j

abbrev pub frac_place_text : FracPlace → List ℕ
frac_place_text (frac.Relation j) = codes "relation " ++ decimal j
frac_place_text (frac.Join j) = codes "join " ++ decimal j

-- a refusal in words
unfoldable pub refusal_text : QueryRefusal → List ℕ
refusal_text NoRelations = codes "no relations"
refusal_text (TooManyRelations n) = decimal n ++ (codes " relations, at most " ++ decimal N_MAX)
refusal_text (DuplicateAlias a) = codes "alias " ++ (a ++ codes " twice")
refusal_text (UnknownTable t) = codes "unknown table " ++ t
refusal_text (UnknownAlias a) = codes "unknown alias " ++ a
refusal_text (UnknownColumn a c) = codes "unknown column " ++ (a ++ (codes "." ++ c))
refusal_text (SelfJoin a) = codes "join of " ++ (a ++ codes " with itself")
refusal_text (BadFraction place) = codes "bad fraction at " ++ frac_place_text place
refusal_text (Disconnected a) = codes "relation " ++ (a ++ codes " is not connected")

-- a refusal's number
abbrev pub refusal_code : QueryRefusal → ℕ
refusal_code NoRelations = 1
refusal_code (TooManyRelations n) = 2
refusal_code (DuplicateAlias a) = 3
refusal_code (UnknownTable t) = 4
refusal_code (UnknownAlias a) = 5
refusal_code (UnknownColumn a c) = 6
refusal_code (SelfJoin a) = 7
refusal_code (BadFraction place) = 8
refusal_code (Disconnected a) = 9
