-- The places of a file in the order of the walk, and what fits at each site.
use Rattle.std.specs.Prelude.{◌≡◌, ℕ, ◌+◌, ◌<◌, ◌++◌, ◌&&◌, ◌||◌, not, List, [], ◌∷◌, Bool, true, false, Option, Some, None, option_and_then, is_some, slice_get, codes}
use Rattle.dpe_base.specs.declared.TheConstants.{INPUT_CAP, PREDS_MAX}
use Rattle.query_json.specs.declared.TheConstants.{COLUMNS_MAX}
use Rattle.serde_json.specs.Data.{Data, Items, no_items, item}
use Rattle.serde_json.specs.Find.{get, as_array, as_object}
use Rattle.query_json.specs.declared.place.Site.{Site}
use Rattle.query_json.specs.declared.place.Site.TheVariants as site
use Rattle.query_json.specs.declared.place.Place.{Place}
use Rattle.query_json.specs.declared.file.Version.{Version}
use Rattle.query_json.specs.Walk.{as_list, as_name, as_ratio, as_version, as_whole, or_first, place, present}

-- ---- what fits

abbrev pub is_object : Data → Bool
is_object d = is_some (as_object d)

-- a member that must be there
abbrev pub must_be : {X : Type 0} → (Data → Option X) → Option Data → Bool
must_be f member = is_some (option_and_then f member)

abbrev pub is_there : Option Data → Bool
is_there member = is_some (present member)

-- a member that may be absent or null
abbrev pub may_be : {X : Type 0} → (Data → Option X) → Option Data → Bool
may_be f member = not (is_there member) || is_some (option_and_then f (present member))

-- in a file of a version, the site of an object, of which o is the object itself, or of a member of o
abbrev pub fits : Version → Site → Data → Bool
fits version site.Root o = is_object o
fits version site.Version o = may_be as_version (get (codes "version") o)
fits version site.Tables o = must_be as_array (get (codes "tables") o)
fits version site.Table o = is_object o
fits version site.TableName o = must_be as_name (get (codes "name") o)
fits version site.TableRows o = must_be (as_whole INPUT_CAP) (get (codes "rows") o)
fits version site.Columns o = may_be (as_list COLUMNS_MAX) (get (codes "columns") o)
fits version site.Column o = is_object o
fits version site.ColumnName o = must_be as_name (get (codes "name") o)
fits version site.Distinct o = must_be (as_whole INPUT_CAP) (get (codes "distinct") o)
fits version site.Queries o = must_be as_array (get (codes "queries") o)
fits version site.QueryItem o = is_object o
fits version site.QueryName o = must_be as_name (get (codes "name") o)
fits version site.Relations o = must_be as_array (get (codes "relations") o)
fits version site.Relation o = is_object o
fits version site.Alias o = must_be as_name (get (codes "alias") o)
fits version site.TableRef o = must_be as_name (get (codes "table") o)
fits version site.Filter o = may_be (as_ratio version) (get (codes "filter") o)
fits version site.Joins o = may_be (as_list PREDS_MAX) (get (codes "joins") o)
fits version site.JoinItem o = is_object o
fits version site.Left o = must_be as_name (get (codes "left") o)
fits version site.Right o = must_be as_name (get (codes "right") o)
fits version site.LeftColumn o = may_be as_name (get (codes "left_column") o)
fits version site.RightColumn o = may_be as_name (get (codes "right_column") o)
fits version site.Selectivity o =
    may_be (as_ratio version) (get (codes "selectivity") o)
    && ((is_there (get (codes "left_column") o) && is_there (get (codes "right_column") o)) || is_there (get (codes "selectivity") o))

-- the version that a file names: the first where it names none
abbrev pub version_of : Data → Version
version_of o = or_first (option_and_then as_version (present (get (codes "version") o)))

-- ---- the order of the walk

-- a place that the walk comes to, and the object that stands there or that it is a member of
pub record Visit : Type 0 where
  pub place : Place
  pub object : Data

abbrev pub visit : Site → ℕ → ℕ → Data → Visit
visit s i j o = record { place = place s i j; object = o }

abbrev pub keeps_format : Version → Visit → Bool
keeps_format version v = fits version v.place.site v.object

abbrev pub or_no_items : Option Items → Items
or_no_items None = no_items
or_no_items (Some ds) = ds

-- the items of an array; where there is none, no items
abbrev pub items_in : Option Data → Items
items_in member = or_no_items (option_and_then as_array member)

-- the places of each item, one item after the other
abbrev pub visits_of : (ℕ → Data → List Visit) → ℕ → Items → List Visit
visits_of f at no_items = []
visits_of f at (item d ds) = f at d ++ visits_of f (at + 1) ds

abbrev pub column_visits : ℕ → ℕ → Data → List Visit
column_visits i j o = visit site.Column i j o ∷ visit site.ColumnName i j o ∷ visit site.Distinct i j o ∷ []

abbrev pub table_visits : ℕ → Data → List Visit
table_visits i o =
    visit site.Table i 0 o ∷ visit site.TableName i 0 o ∷ visit site.TableRows i 0 o
    ∷ visit site.Columns i 0 o ∷ visits_of (column_visits i) 0 (items_in (get (codes "columns") o))

abbrev pub relation_visits : ℕ → ℕ → Data → List Visit
relation_visits i j o = visit site.Relation i j o ∷ visit site.Alias i j o ∷ visit site.TableRef i j o ∷ visit site.Filter i j o ∷ []

abbrev pub join_visits : ℕ → ℕ → Data → List Visit
join_visits i j o =
    visit site.JoinItem i j o ∷ visit site.Left i j o ∷ visit site.Right i j o
    ∷ visit site.LeftColumn i j o ∷ visit site.RightColumn i j o ∷ visit site.Selectivity i j o ∷ []

abbrev pub query_visits : ℕ → Data → List Visit
query_visits i o =
    visit site.QueryItem i 0 o ∷ visit site.QueryName i 0 o
    ∷ visit site.Relations i 0 o ∷ (visits_of (relation_visits i) 0 (items_in (get (codes "relations") o))
    ++ visit site.Joins i 0 o ∷ visits_of (join_visits i) 0 (items_in (get (codes "joins") o)))

-- every place of a file
abbrev pub visits : Data → List Visit
visits o =
    visit site.Root 0 0 o ∷ visit site.Version 0 0 o
    ∷ visit site.Tables 0 0 o ∷ (visits_of table_visits 0 (items_in (get (codes "tables") o))
    ++ visit site.Queries 0 0 o ∷ visits_of query_visits 0 (items_in (get (codes "queries") o)))

-- ---- the first fault

-- the place, at number k, breaks the format, and none before it does
pub record IsFirstBroken (version : Version) (walk : List Visit) (p : Place) (k : ℕ) : Type 0 where
  pub here : (v : Visit) × (slice_get walk k ≡ Some v) × (v.place ≡ p) × (keeps_format version v ≡ false)
  pub first : (i : ℕ) (v : Visit) → i < k → slice_get walk i ≡ Some v → keeps_format version v ≡ true

abbrev pub AllKeepFormat : Version → List Visit → Type 0
AllKeepFormat version walk = (i : ℕ) (v : Visit) → slice_get walk i ≡ Some v → keeps_format version v ≡ true
