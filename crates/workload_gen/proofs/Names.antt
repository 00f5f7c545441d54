-- The names of a sample: each is a name, and different numbers have different names. There are few
-- numbers, so computing each case is the proof.
use Rattle.std.proofs.Common.{◌≡◌, ℕ, ◌<◌, true, refl}
use Rattle.std.proofs.Math.Dec.{eqb}
use Rattle.std.proofs.lemmas.Bool.{agree_below, agree_below_at}
use Rattle.std.specs.Fmt.{digits}
use Rattle.std.specs.Str.{bytes_eq}
use Rattle.query_json.specs.Walk.{is_name}
use Rattle.workload_gen.specs.Values.{alias, query_name, table_name}

pub table_named : (t : ℕ) → t < 8 → is_name (table_name t) ≡ true
unfolding digits
table_named t = agree_below_at (λ t. is_name (table_name t)) (λ _. true) 8 t refl

pub query_named : (j : ℕ) → j < 8 → is_name (query_name j) ≡ true
unfolding digits
query_named j = agree_below_at (λ j. is_name (query_name j)) (λ _. true) 8 j refl

pub alias_named : (i : ℕ) → i < 12 → is_name (alias i) ≡ true
unfolding digits
alias_named i = agree_below_at (λ i. is_name (alias i)) (λ _. true) 12 i refl

pub tables_differ : (i : ℕ) → i < 8 → (j : ℕ) → j < 8 → bytes_eq (table_name i) (table_name j) ≡ eqb i j
unfolding digits
tables_differ i bi j = agree_below_at (λ j. bytes_eq (table_name i) (table_name j)) (eqb i) 8 j
    (agree_below_at (λ i. agree_below (λ j. bytes_eq (table_name i) (table_name j)) (eqb i) 8) (λ _. true) 8 i refl bi)

pub aliases_differ : (i : ℕ) → i < 12 → (j : ℕ) → j < 12 → bytes_eq (alias i) (alias j) ≡ eqb i j
unfolding digits
aliases_differ i bi j = agree_below_at (λ j. bytes_eq (alias i) (alias j)) (eqb i) 12 j
    (agree_below_at (λ i. agree_below (λ j. bytes_eq (alias i) (alias j)) (eqb i) 12) (λ _. true) 12 i refl bi)
