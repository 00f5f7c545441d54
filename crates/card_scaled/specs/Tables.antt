-- The rows that a table keeps, in either form.
use Rattle.card_scaled.specs.declared.table.Kept.{Kept}
use Rattle.card_scaled.specs.declared.table.Kept.TheVariants.{All, Connected}
use Rattle.card_scaled.specs.Cards.{RowTable}

abbrev pub kept_rows : Kept → RowTable
kept_rows (All table) = table
kept_rows (Connected table) = table
