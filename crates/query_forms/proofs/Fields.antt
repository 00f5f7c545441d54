-- What the members of each rewritten object are.
use Rattle.std.proofs.Common.{◌≡◌, [], ◌∷◌, List, Some, ◌∙◌}
use Rattle.std.specs.Prelude.{codes}
use Rattle.serde_json.specs.Data.{Data, number, unsigned}
use Rattle.serde_json.specs.Find.{get}
use Rattle.query_forms.specs.Forms.{count_in, fraction_in, list_in, rewritten_column, rewritten_file, rewritten_join, rewritten_query, rewritten_relation, rewritten_table, text_in}
use Rattle.query_forms.proofs.NamedMembers.{Field, field_found, first_alone}

abbrev column_fields : Data → List Field
column_fields d = (codes "distinct", count_in (get (codes "distinct") d)) ∷ (codes "name", text_in (get (codes "name") d)) ∷ []

abbrev pub table_fields : Data → List Field
table_fields d =
    (codes "rows", count_in (get (codes "rows") d)) ∷ (codes "name", text_in (get (codes "name") d))
    ∷ (codes "columns", list_in rewritten_column (get (codes "columns") d)) ∷ []

abbrev pub relation_fields : Data → List Field
relation_fields d =
    (codes "table", text_in (get (codes "table") d)) ∷ (codes "filter", fraction_in (get (codes "filter") d))
    ∷ (codes "alias", text_in (get (codes "alias") d)) ∷ []

abbrev pub join_fields : Data → List Field
join_fields d =
    (codes "selectivity", fraction_in (get (codes "selectivity") d)) ∷ (codes "right_column", text_in (get (codes "right_column") d))
    ∷ (codes "right", text_in (get (codes "right") d)) ∷ (codes "left_column", text_in (get (codes "left_column") d))
    ∷ (codes "left", text_in (get (codes "left") d)) ∷ []

abbrev pub query_fields : Data → List Field
query_fields d =
    (codes "relations", list_in rewritten_relation (get (codes "relations") d)) ∷ (codes "name", text_in (get (codes "name") d))
    ∷ (codes "joins", list_in rewritten_join (get (codes "joins") d)) ∷ []

abbrev pub file_fields : Data → List Field
file_fields d =
    (codes "version", Some (number (unsigned 2))) ∷ (codes "tables", list_in rewritten_table (get (codes "tables") d))
    ∷ (codes "queries", list_in rewritten_query (get (codes "queries") d)) ∷ []

pub column_name : (d : Data) → get (codes "name") (rewritten_column d) ≡ text_in (get (codes "name") d)
unfolding rewritten_column
column_name d = field_found (codes "name") (column_fields d) ∙ first_alone (text_in (get (codes "name") d))

pub column_distinct : (d : Data) → get (codes "distinct") (rewritten_column d) ≡ count_in (get (codes "distinct") d)
unfolding rewritten_column
column_distinct d = field_found (codes "distinct") (column_fields d) ∙ first_alone (count_in (get (codes "distinct") d))

pub table_name : (d : Data) → get (codes "name") (rewritten_table d) ≡ text_in (get (codes "name") d)
unfolding rewritten_table
table_name d = field_found (codes "name") (table_fields d) ∙ first_alone (text_in (get (codes "name") d))

pub table_rows : (d : Data) → get (codes "rows") (rewritten_table d) ≡ count_in (get (codes "rows") d)
unfolding rewritten_table
table_rows d = field_found (codes "rows") (table_fields d) ∙ first_alone (count_in (get (codes "rows") d))

pub table_columns : (d : Data) → get (codes "columns") (rewritten_table d) ≡ list_in rewritten_column (get (codes "columns") d)
unfolding rewritten_table
table_columns d = field_found (codes "columns") (table_fields d) ∙ first_alone (list_in rewritten_column (get (codes "columns") d))

pub relation_alias : (d : Data) → get (codes "alias") (rewritten_relation d) ≡ text_in (get (codes "alias") d)
unfolding rewritten_relation
relation_alias d = field_found (codes "alias") (relation_fields d) ∙ first_alone (text_in (get (codes "alias") d))

pub relation_table : (d : Data) → get (codes "table") (rewritten_relation d) ≡ text_in (get (codes "table") d)
unfolding rewritten_relation
relation_table d = field_found (codes "table") (relation_fields d) ∙ first_alone (text_in (get (codes "table") d))

pub relation_filter : (d : Data) → get (codes "filter") (rewritten_relation d) ≡ fraction_in (get (codes "filter") d)
unfolding rewritten_relation
relation_filter d = field_found (codes "filter") (relation_fields d) ∙ first_alone (fraction_in (get (codes "filter") d))

pub join_left : (d : Data) → get (codes "left") (rewritten_join d) ≡ text_in (get (codes "left") d)
unfolding rewritten_join
join_left d = field_found (codes "left") (join_fields d) ∙ first_alone (text_in (get (codes "left") d))

pub join_right : (d : Data) → get (codes "right") (rewritten_join d) ≡ text_in (get (codes "right") d)
unfolding rewritten_join
join_right d = field_found (codes "right") (join_fields d) ∙ first_alone (text_in (get (codes "right") d))

pub join_left_column : (d : Data) → get (codes "left_column") (rewritten_join d) ≡ text_in (get (codes "left_column") d)
unfolding rewritten_join
join_left_column d = field_found (codes "left_column") (join_fields d) ∙ first_alone (text_in (get (codes "left_column") d))

pub join_right_column : (d : Data) → get (codes "right_column") (rewritten_join d) ≡ text_in (get (codes "right_column") d)
unfolding rewritten_join
join_right_column d = field_found (codes "right_column") (join_fields d) ∙ first_alone (text_in (get (codes "right_column") d))

pub join_selectivity : (d : Data) → get (codes "selectivity") (rewritten_join d) ≡ fraction_in (get (codes "selectivity") d)
unfolding rewritten_join
join_selectivity d = field_found (codes "selectivity") (join_fields d) ∙ first_alone (fraction_in (get (codes "selectivity") d))

pub query_name : (d : Data) → get (codes "name") (rewritten_query d) ≡ text_in (get (codes "name") d)
unfolding rewritten_query
query_name d = field_found (codes "name") (query_fields d) ∙ first_alone (text_in (get (codes "name") d))

pub query_relations : (d : Data) → get (codes "relations") (rewritten_query d) ≡ list_in rewritten_relation (get (codes "relations") d)
unfolding rewritten_query
query_relations d = field_found (codes "relations") (query_fields d) ∙ first_alone (list_in rewritten_relation (get (codes "relations") d))

pub query_joins : (d : Data) → get (codes "joins") (rewritten_query d) ≡ list_in rewritten_join (get (codes "joins") d)
unfolding rewritten_query
query_joins d = field_found (codes "joins") (query_fields d) ∙ first_alone (list_in rewritten_join (get (codes "joins") d))

pub file_version : (d : Data) → get (codes "version") (rewritten_file d) ≡ Some (number (unsigned 2))
unfolding rewritten_file
file_version d = field_found (codes "version") (file_fields d)

pub file_tables : (d : Data) → get (codes "tables") (rewritten_file d) ≡ list_in rewritten_table (get (codes "tables") d)
unfolding rewritten_file
file_tables d = field_found (codes "tables") (file_fields d) ∙ first_alone (list_in rewritten_table (get (codes "tables") d))

pub file_queries : (d : Data) → get (codes "queries") (rewritten_file d) ≡ list_in rewritten_query (get (codes "queries") d)
unfolding rewritten_file
file_queries d = field_found (codes "queries") (file_fields d) ∙ first_alone (list_in rewritten_query (get (codes "queries") d))
