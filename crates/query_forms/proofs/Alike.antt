-- A rewritten value holds what the value held.
use Rattle.std.proofs.Common.{◌≡◌, ℕ, ◌+◌, ◌&&◌, ◌∷◌, List, Bool, true, false, cond, nat_le, Option, Some, None, is_some, Result, Ok, Err, refl, ap, ◌∙◌}
use Rattle.std.specs.Prelude.{codes, option_map}
use Rattle.serde_json.specs.Data.{Data, null, boolean, number, unsigned, negative, float, string, array, object, Items, no_items, item}
use Rattle.serde_json.specs.Find.{as_array, get}
use Rattle.dpe_base.specs.declared.TheConstants.{INPUT_CAP, PREDS_MAX}
use Rattle.query_json.specs.declared.TheConstants.{COLUMNS_MAX}
use Rattle.query_json.specs.declared.fault.FileFault.{FileFault}
use Rattle.query_json.specs.declared.file.Column.{Column}
use Rattle.query_json.specs.declared.file.File.{File}
use Rattle.query_json.specs.declared.file.JoinItem.{JoinItem}
use Rattle.query_json.specs.declared.file.QueryItem.{QueryItem}
use Rattle.query_json.specs.declared.file.Ratio.{Ratio}
use Rattle.query_json.specs.declared.file.RelationItem.{RelationItem}
use Rattle.query_json.specs.declared.file.Table.{Table}
use Rattle.query_json.specs.declared.file.Version.{Version}
use Rattle.query_json.specs.declared.file.Version.TheVariants.{One, Two}
use Rattle.query_json.specs.declared.place.Place.{Place}
use Rattle.query_json.specs.declared.place.Site.TheVariants as site
use Rattle.query_json.specs.Answer.{◌>>=◌}
use Rattle.query_json.specs.Entries.{entries_of_value}
use Rattle.query_json.specs.Walk.{as_list, as_name, as_ratio, as_whole, column_at, columns_at, each, each_given, file_at, item_count, join_at, joins_at, object_at, optional, or_shape, place, query_at, ratio_by, relation_at, required, selectivity_at, table_at, version_at}
use Rattle.query_forms.specs.Forms.{count_in, each_item, fraction_in, list_in, rewritten_column, rewritten_file, rewritten_join, rewritten_query, rewritten_relation, rewritten_table, text_in}
use Rattle.query_forms.specs.Fractions.{fraction_data}
use Rattle.query_forms.proofs.Again.{fraction_reads}
use Rattle.query_forms.proofs.Fields as field

-- what the first gives, the second gives too
abbrev pub Keeps : {X : Type 0} → Result X FileFault → Result X FileFault → Type 0
Keeps {X} r s = (x : X) → r ≡ Ok x → s ≡ Ok x

then_keeps : {A B : Type 0} (r s : Result A FileFault) (f g : A → Result B FileFault) → Keeps r s → ((x : A) → Keeps (f x) (g x)) → Keeps (r >>= f) (s >>= g)
then_keeps (Ok x) s f g k h y e = ap (λ t. t >>= g) (k x refl) ∙ h x y e
then_keeps (Err z) s f g k h y e = absurd cc

same_keeps : {A : Type 0} (r s : Result A FileFault) → s ≡ r → Keeps r s
same_keeps r s same x e = same ∙ e

as_it_is : {A : Type 0} (r : Result A FileFault) → Keeps r r
as_it_is r x e = e

-- ---- one member

text_required : (p : Place) (m : Option Data) → required as_name p (text_in m) ≡ required as_name p m
text_required p None = refl
text_required p (Some null) = refl
text_required p (Some (boolean b)) = refl
text_required p (Some (number n)) = refl
text_required p (Some (string s)) = refl
text_required p (Some (array ds)) = refl
text_required p (Some (object ms)) = refl

count_required : (limit : ℕ) (p : Place) (m : Option Data) → required (as_whole limit) p (count_in m) ≡ required (as_whole limit) p m
count_required limit p None = refl
count_required limit p (Some null) = refl
count_required limit p (Some (boolean b)) = refl
count_required limit p (Some (number (unsigned n))) = refl
count_required limit p (Some (number (negative z))) = refl
count_required limit p (Some (number (float x))) = refl
count_required limit p (Some (string s)) = refl
count_required limit p (Some (array ds)) = refl
count_required limit p (Some (object ms)) = refl

text_optional : (p : Place) (m : Option Data) → Keeps (optional as_name p m) (optional as_name p (text_in m))
text_optional p None x e = e
text_optional p (Some null) x e = e
text_optional p (Some (boolean b)) x e = absurd cc
text_optional p (Some (number n)) x e = absurd cc
text_optional p (Some (string s)) x e = e
text_optional p (Some (array ds)) x e = absurd cc
text_optional p (Some (object ms)) x e = absurd cc

abbrev rewritten_fraction : Option Ratio → Option Data
rewritten_fraction o = option_map fraction_data o

-- a fraction of any version is one of version 2
ratio_in_two : (version : Version) (d : Data) (r : Ratio) → as_ratio version d ≡ Some r → as_ratio Two d ≡ Some r
ratio_in_two One d r e = by_array (as_array d) e
  where
    by_array : (o : Option Items) → ratio_by One d o ≡ Some r → ratio_by Two d o ≡ Some r
    by_array None e = absurd cc
    by_array (Some ds) e = e
ratio_in_two Two d r e = e

-- a value that reads as a fraction is there
there : (p : Place) (d : Data) (r : Ratio) → as_ratio Two d ≡ Some r → optional (as_ratio Two) p (Some d) ≡ Ok (Some r)
there p null r e = absurd cc
there p (boolean b) r e = absurd cc
there p (number n) r e = absurd cc
there p (string s) r e = ap (λ o. or_shape p o >>= λ x. Ok (Some x)) e
there p (array ds) r e = ap (λ o. or_shape p o >>= λ x. Ok (Some x)) e
there p (object ms) r e = absurd cc

fraction_given : (version : Version) (p : Place) (d : Data) (x : Option Ratio) → (or_shape p (as_ratio version d) >>= λ r. Ok (Some r)) ≡ Ok x
    → optional (as_ratio Two) p (fraction_in (Some d)) ≡ Ok x
fraction_given version p d x e = by_ratio (as_ratio version d) refl e
  where
    by_ratio : (o : Option Ratio) → as_ratio version d ≡ o → (or_shape p o >>= λ r. Ok (Some r)) ≡ Ok x → optional (as_ratio Two) p (fraction_in (Some d)) ≡ Ok x
    by_ratio None is e = absurd cc
    by_ratio (Some r) is e =
        let same : Some r ≡ x = cc in
        ap (λ o. optional (as_ratio Two) p (rewritten_fraction o)) (ratio_in_two version d r is)
        ∙ there p (fraction_data r) r (fraction_reads r)
        ∙ ap Ok same

fraction_optional : (version : Version) (p : Place) (m : Option Data) → Keeps (optional (as_ratio version) p m) (optional (as_ratio Two) p (fraction_in m))
fraction_optional version p None x e = e
fraction_optional version p (Some null) x e = e
fraction_optional version p (Some (boolean b)) x e = fraction_given version p (boolean b) x e
fraction_optional version p (Some (number n)) x e = fraction_given version p (number n) x e
fraction_optional version p (Some (string s)) x e = fraction_given version p (string s) x e
fraction_optional version p (Some (array ds)) x e = fraction_given version p (array ds) x e
fraction_optional version p (Some (object ms)) x e = fraction_given version p (object ms) x e

-- ---- lists

count_items : (f : Data → Data) (ds : Items) → item_count (each_item f ds) ≡ item_count ds
count_items f no_items = refl
count_items f (item d ds) = ap (λ (n : ℕ). 1 + n) (count_items f ds)

each_keeps : {X : Type 0} (f : Data → Data) (g h : ℕ → Data → Result X FileFault) → ((at : ℕ) (d : Data) → Keeps (g at d) (h at (f d)))
    → (at : ℕ) (ds : Items) → Keeps (each g at ds) (each h at (each_item f ds))
each_keeps f g h one at no_items = λ x e. e
each_keeps f g h one at (item d ds) =
    then_keeps (g at d) (h at (f d)) (λ x. each g (at + 1) ds >>= λ xs. Ok (x ∷ xs)) (λ x. each h (at + 1) (each_item f ds) >>= λ xs. Ok (x ∷ xs)) (one at d)
    (λ x. then_keeps (each g (at + 1) ds) (each h (at + 1) (each_item f ds)) (λ xs. Ok (x ∷ xs)) (λ xs. Ok (x ∷ xs))
    (each_keeps f g h one (at + 1) ds) (λ xs. as_it_is (Ok (x ∷ xs))))

module _ {X : Type 0} (f : Data → Data) (g h : ℕ → Data → Result X FileFault) (one : (at : ℕ) (d : Data) → Keeps (g at d) (h at (f d))) where
  list_optional : (limit : ℕ) (p : Place) (m : Option Data)
      → Keeps (optional (as_list limit) p m >>= each_given g) (optional (as_list limit) p (list_in f m) >>= each_given h)
  list_optional limit p None x e = e
  list_optional limit p (Some null) x e = e
  list_optional limit p (Some (boolean b)) x e = absurd cc
  list_optional limit p (Some (number n)) x e = absurd cc
  list_optional limit p (Some (string s)) x e = absurd cc
  list_optional limit p (Some (object ms)) x e = absurd cc
  list_optional limit p (Some (array ds)) x e =
      ap (λ (n : ℕ). by (nat_le n limit) h (each_item f ds)) (count_items f ds) ∙ by_size (nat_le (item_count ds) limit) e
    where
      by : Bool → (ℕ → Data → Result X FileFault) → Items → Result (List X) FileFault
      by b k es = (or_shape p (cond b (Some es) None) >>= λ found. Ok (Some found)) >>= each_given k

      by_size : (b : Bool) → by b g ds ≡ Ok x → by b h (each_item f ds) ≡ Ok x
      by_size true e = each_keeps f g h one 0 ds x e
      by_size false e = absurd cc

  list_required : {B : Type 0} (p : Place) (m : Option Data) (k l : List X → Result B FileFault) → ((xs : List X) → Keeps (k xs) (l xs))
      → Keeps (required as_array p m >>= λ ds. each g 0 ds >>= k) (required as_array p (list_in f m) >>= λ ds. each h 0 ds >>= l)
  list_required p None k l more = λ x e. absurd cc
  list_required p (Some null) k l more = λ x e. absurd cc
  list_required p (Some (boolean b)) k l more = λ x e. absurd cc
  list_required p (Some (number n)) k l more = λ x e. absurd cc
  list_required p (Some (string s)) k l more = λ x e. absurd cc
  list_required p (Some (object ms)) k l more = λ x e. absurd cc
  list_required p (Some (array ds)) k l more = then_keeps (each g 0 ds) (each h 0 (each_item f ds)) k l (each_keeps f g h one 0 ds) more

-- ---- the objects

after_first : {A B : Type 0} (r : Result A FileFault) (s : Result B FileFault) (x : B) → (r >>= λ y. s) ≡ Ok x → s ≡ Ok x
after_first (Ok y) s x e = e
after_first (Err fault) s x e = absurd cc

after_object : {B : Type 0} (p : Place) (d : Data) (r : Result B FileFault) (x : B) → (object_at p d >>= λ fields. r) ≡ Ok x → r ≡ Ok x
after_object p d r x e = after_first (object_at p d) r x e

-- ---- columns

abbrev column_of : ℕ → ℕ → Option Data → Option Data → Result Column FileFault
column_of i j a b = do
  name ← required as_name (place site.ColumnName i j) a
  distinct ← required (as_whole INPUT_CAP) (place site.Distinct i j) b
  Ok (record { name = name; distinct = distinct })

column_same : (i j : ℕ) {a b a₁ b₁ : Option Data} → a₁ ≡ a → b₁ ≡ b → column_of i j a₁ b₁ ≡ column_of i j a b
column_same i j ea eb = rw (ea, eb) refl

column_by : (i j : ℕ) (a b : Option Data) → column_of i j (text_in a) (count_in b) ≡ column_of i j a b
column_by i j a b = rw (text_required (place site.ColumnName i j) a, count_required INPUT_CAP (place site.Distinct i j) b) refl

pub column_keeps : (i j : ℕ) (d : Data) → Keeps (column_at i j d) (column_at i j (rewritten_column d))
unfolding column_at rewritten_column
column_keeps i j d x e =
    column_same i j (field.column_name d) (field.column_distinct d)
    ∙ column_by i j (get (codes "name") d) (get (codes "distinct") d)
    ∙ after_object (place site.Column i j) d (column_of i j (get (codes "name") d) (get (codes "distinct") d)) x e

columns_keep : (i : ℕ) (m : Option Data) → Keeps (columns_at i m) (columns_at i (list_in rewritten_column m))
unfolding columns_at
columns_keep i m = list_optional rewritten_column (column_at i) (column_at i) (column_keeps i) COLUMNS_MAX (place site.Columns i 0) m

-- ---- tables

abbrev table_of : ℕ → Option Data → Option Data → Option Data → Result Table FileFault
table_of i a b c = do
  name ← required as_name (place site.TableName i 0) a
  rows ← required (as_whole INPUT_CAP) (place site.TableRows i 0) b
  columns ← columns_at i c
  Ok (record { name = name; rows = rows; columns = columns })

table_same : (i : ℕ) {a b c a₁ b₁ c₁ : Option Data} → a₁ ≡ a → b₁ ≡ b → c₁ ≡ c → table_of i a₁ b₁ c₁ ≡ table_of i a b c
table_same i ea eb ec = rw (ea, eb, ec) refl

table_by : (i : ℕ) (a b c : Option Data) → Keeps (table_of i a b c) (table_of i (text_in a) (count_in b) (list_in rewritten_column c))
table_by i a b c =
    then_keeps (required as_name (place site.TableName i 0) a) (required as_name (place site.TableName i 0) (text_in a)) _ _
    (same_keeps _ _ (text_required (place site.TableName i 0) a)) (λ name.
    then_keeps (required (as_whole INPUT_CAP) (place site.TableRows i 0) b) (required (as_whole INPUT_CAP) (place site.TableRows i 0) (count_in b)) _ _
    (same_keeps _ _ (count_required INPUT_CAP (place site.TableRows i 0) b)) (λ rows.
    then_keeps (columns_at i c) (columns_at i (list_in rewritten_column c)) _ _ (columns_keep i c) (λ columns. as_it_is _)))

pub table_keeps : (outer i : ℕ) (d : Data) → Keeps (table_at outer i d) (table_at outer i (rewritten_table d))
unfolding table_at rewritten_table
table_keeps outer i d x e =
    let name = get (codes "name") d in
    let rows = get (codes "rows") d in
    let columns = get (codes "columns") d in
    table_same i (field.table_name d) (field.table_rows d) (field.table_columns d)
    ∙ table_by i name rows columns x (after_object (place site.Table i 0) d (table_of i name rows columns) x e)

-- ---- relations

abbrev relation_of : Version → ℕ → ℕ → Option Data → Option Data → Option Data → Result RelationItem FileFault
relation_of version i j a b c = do
  alias ← required as_name (place site.Alias i j) a
  table ← required as_name (place site.TableRef i j) b
  filter ← optional (as_ratio version) (place site.Filter i j) c
  Ok (record { alias = alias; table = table; filter = filter })

relation_same : (i j : ℕ) {a b c a₁ b₁ c₁ : Option Data} → a₁ ≡ a → b₁ ≡ b → c₁ ≡ c → relation_of Two i j a₁ b₁ c₁ ≡ relation_of Two i j a b c
relation_same i j ea eb ec = rw (ea, eb, ec) refl

relation_by : (version : Version) (i j : ℕ) (a b c : Option Data) → Keeps (relation_of version i j a b c) (relation_of Two i j (text_in a) (text_in b) (fraction_in c))
relation_by version i j a b c =
    then_keeps (required as_name (place site.Alias i j) a) (required as_name (place site.Alias i j) (text_in a)) _ _
    (same_keeps _ _ (text_required (place site.Alias i j) a)) (λ alias.
    then_keeps (required as_name (place site.TableRef i j) b) (required as_name (place site.TableRef i j) (text_in b)) _ _
    (same_keeps _ _ (text_required (place site.TableRef i j) b)) (λ table.
    then_keeps (optional (as_ratio version) (place site.Filter i j) c) (optional (as_ratio Two) (place site.Filter i j) (fraction_in c)) _ _
    (fraction_optional version (place site.Filter i j) c) (λ filter. as_it_is _)))

pub relation_keeps : (version : Version) (i j : ℕ) (d : Data) → Keeps (relation_at version i j d) (relation_at Two i j (rewritten_relation d))
unfolding relation_at rewritten_relation
relation_keeps version i j d x e =
    let alias = get (codes "alias") d in
    let table = get (codes "table") d in
    let filter = get (codes "filter") d in
    relation_same i j (field.relation_alias d) (field.relation_table d) (field.relation_filter d)
    ∙ relation_by version i j alias table filter x (after_object (place site.Relation i j) d (relation_of version i j alias table filter) x e)

-- ---- joins

selectivity_keeps : (version : Version) (p : Place) (columns : Bool) (m : Option Data) → Keeps (selectivity_at version p columns m) (selectivity_at Two p columns (fraction_in m))
unfolding selectivity_at
selectivity_keeps version p columns m =
    then_keeps (optional (as_ratio version) p m) (optional (as_ratio Two) p (fraction_in m)) _ _ (fraction_optional version p m) (λ found. as_it_is _)

abbrev join_of : Version → ℕ → ℕ → Option Data → Option Data → Option Data → Option Data → Option Data → Result JoinItem FileFault
join_of version i j a b c d s = do
  left ← required as_name (place site.Left i j) a
  right ← required as_name (place site.Right i j) b
  left_column ← optional as_name (place site.LeftColumn i j) c
  right_column ← optional as_name (place site.RightColumn i j) d
  selectivity ← selectivity_at version (place site.Selectivity i j) (is_some left_column && is_some right_column) s
  Ok (record { left = left; right = right; left_column = left_column; right_column = right_column; selectivity = selectivity })

join_same : (i j : ℕ) {a b c d s a₁ b₁ c₁ d₁ s₁ : Option Data} → a₁ ≡ a → b₁ ≡ b → c₁ ≡ c → d₁ ≡ d → s₁ ≡ s
    → join_of Two i j a₁ b₁ c₁ d₁ s₁ ≡ join_of Two i j a b c d s
join_same i j ea eb ec ed es = rw (ea, eb, ec, ed, es) refl

join_by : (version : Version) (i j : ℕ) (a b c d s : Option Data)
    → Keeps (join_of version i j a b c d s) (join_of Two i j (text_in a) (text_in b) (text_in c) (text_in d) (fraction_in s))
join_by version i j a b c d s =
    then_keeps (required as_name (place site.Left i j) a) (required as_name (place site.Left i j) (text_in a)) _ _
    (same_keeps _ _ (text_required (place site.Left i j) a)) (λ left.
    then_keeps (required as_name (place site.Right i j) b) (required as_name (place site.Right i j) (text_in b)) _ _
    (same_keeps _ _ (text_required (place site.Right i j) b)) (λ right.
    then_keeps (optional as_name (place site.LeftColumn i j) c) (optional as_name (place site.LeftColumn i j) (text_in c)) _ _
    (text_optional (place site.LeftColumn i j) c) (λ left_column.
    then_keeps (optional as_name (place site.RightColumn i j) d) (optional as_name (place site.RightColumn i j) (text_in d)) _ _
    (text_optional (place site.RightColumn i j) d) (λ right_column.
    then_keeps (selectivity_at version (place site.Selectivity i j) (is_some left_column && is_some right_column) s)
    (selectivity_at Two (place site.Selectivity i j) (is_some left_column && is_some right_column) (fraction_in s)) _ _
    (selectivity_keeps version (place site.Selectivity i j) (is_some left_column && is_some right_column) s) (λ selectivity. as_it_is _)))))

pub join_keeps : (version : Version) (i j : ℕ) (d : Data) → Keeps (join_at version i j d) (join_at Two i j (rewritten_join d))
unfolding join_at rewritten_join
join_keeps version i j d x e =
    let left = get (codes "left") d in
    let right = get (codes "right") d in
    let left_column = get (codes "left_column") d in
    let right_column = get (codes "right_column") d in
    let selectivity = get (codes "selectivity") d in
    join_same i j (field.join_left d) (field.join_right d) (field.join_left_column d) (field.join_right_column d) (field.join_selectivity d)
    ∙ join_by version i j left right left_column right_column selectivity x
    (after_object (place site.JoinItem i j) d (join_of version i j left right left_column right_column selectivity) x e)

joins_keep : (version : Version) (i : ℕ) (m : Option Data) → Keeps (joins_at version i m) (joins_at Two i (list_in rewritten_join m))
unfolding joins_at
joins_keep version i m = list_optional rewritten_join (join_at version i) (join_at Two i) (join_keeps version i) PREDS_MAX (place site.Joins i 0) m

-- ---- queries

abbrev query_of : Version → ℕ → Option Data → Option Data → Option Data → Result QueryItem FileFault
query_of version i a b c = do
  name ← required as_name (place site.QueryName i 0) a
  list ← required as_array (place site.Relations i 0) b
  relations ← each (relation_at version i) 0 list
  joins ← joins_at version i c
  Ok (record { name = name; relations = relations; joins = joins })

query_same : (i : ℕ) {a b c a₁ b₁ c₁ : Option Data} → a₁ ≡ a → b₁ ≡ b → c₁ ≡ c → query_of Two i a₁ b₁ c₁ ≡ query_of Two i a b c
query_same i ea eb ec = rw (ea, eb, ec) refl

abbrev with_joins : List ℕ → Result (List JoinItem) FileFault → List RelationItem → Result QueryItem FileFault
with_joins name joins relations = joins >>= λ found. Ok (record { name = name; relations = relations; joins = found })

query_by : (version : Version) (i : ℕ) (a b c : Option Data)
    → Keeps (query_of version i a b c) (query_of Two i (text_in a) (list_in rewritten_relation b) (list_in rewritten_join c))
query_by version i a b c =
    then_keeps (required as_name (place site.QueryName i 0) a) (required as_name (place site.QueryName i 0) (text_in a)) _ _
    (same_keeps _ _ (text_required (place site.QueryName i 0) a)) (λ name.
    list_required rewritten_relation (relation_at version i) (relation_at Two i) (relation_keeps version i) (place site.Relations i 0) b
    (with_joins name (joins_at version i c)) (with_joins name (joins_at Two i (list_in rewritten_join c)))
    (λ relations. then_keeps (joins_at version i c) (joins_at Two i (list_in rewritten_join c)) _ _ (joins_keep version i c) (λ found. as_it_is _)))

pub query_keeps : (version : Version) (outer i : ℕ) (d : Data) → Keeps (query_at version outer i d) (query_at Two outer i (rewritten_query d))
unfolding query_at rewritten_query
query_keeps version outer i d x e =
    let name = get (codes "name") d in
    let relations = get (codes "relations") d in
    let joins = get (codes "joins") d in
    query_same i (field.query_name d) (field.query_relations d) (field.query_joins d)
    ∙ query_by version i name relations joins x (after_object (place site.QueryItem i 0) d (query_of version i name relations joins) x e)

-- ---- the file

abbrev parts_of : Version → Option Data → Option Data → Result File FileFault
parts_of version a b = do
  table_list ← required as_array (place site.Tables 0 0) a
  tables ← each (table_at 0) 0 table_list
  query_list ← required as_array (place site.Queries 0 0) b
  queries ← each (query_at version 0) 0 query_list
  Ok (record { tables = tables; queries = queries })

abbrev file_of : Option Data → Option Data → Option Data → Result File FileFault
file_of v a b = version_at v >>= λ version. parts_of version a b

file_same : {v a b v₁ a₁ b₁ : Option Data} → v₁ ≡ v → a₁ ≡ a → b₁ ≡ b → file_of v₁ a₁ b₁ ≡ file_of v a b
file_same ev ea eb = rw (ev, ea, eb) refl

abbrev file_with : List Table → List QueryItem → Result File FileFault
file_with tables queries = Ok (record { tables = tables; queries = queries })

parts_by : (version : Version) (a b : Option Data) → Keeps (parts_of version a b) (parts_of Two (list_in rewritten_table a) (list_in rewritten_query b))
parts_by version a b =
    list_required rewritten_table (table_at 0) (table_at 0) (table_keeps 0) (place site.Tables 0 0) a
    (λ tables. required as_array (place site.Queries 0 0) b >>= λ list. each (query_at version 0) 0 list >>= file_with tables)
    (λ tables. required as_array (place site.Queries 0 0) (list_in rewritten_query b) >>= λ list. each (query_at Two 0) 0 list >>= file_with tables)
    (λ tables. list_required rewritten_query (query_at version 0) (query_at Two 0) (query_keeps version 0) (place site.Queries 0 0) b
    (file_with tables) (file_with tables) (λ queries. as_it_is (file_with tables queries)))

after_version : {B : Type 0} (r : Result Version FileFault) (k : Version → Result B FileFault) (s : Result B FileFault) → ((version : Version) → Keeps (k version) s) → Keeps (r >>= k) s
after_version (Ok version) k s h = h version
after_version (Err y) k s h = λ x e. absurd cc

pub file_keeps : (d : Data) → Keeps (file_at d) (file_at (rewritten_file d))
unfolding file_at rewritten_file
file_keeps d x e =
    let version = get (codes "version") d in
    let tables = get (codes "tables") d in
    let queries = get (codes "queries") d in
    file_same (field.file_version d) (field.file_tables d) (field.file_queries d)
    ∙ after_version (version_at version) (λ v. parts_of v tables queries) (parts_of Two (list_in rewritten_table tables) (list_in rewritten_query queries))
    (λ v. parts_by v tables queries) x
    (after_object (place site.Root 0 0) d (file_of version tables queries) x e)

pub entries_keep : (d : Data) → Keeps (entries_of_value d) (entries_of_value (rewritten_file d))
unfolding entries_of_value
entries_keep d = then_keeps (file_at d) (file_at (rewritten_file d)) _ _ (file_keeps d) (λ file. as_it_is _)
