-- The first column of a name, with one more column in front.
use Rattle.std.proofs.Common.{◌≡◌, ◌∙◌, ℕ, ◌+◌, ◌<◌, Bool, true, false, cond, List, ◌∷◌, length, drop, get_or, Some, refl, sym, ap}
use Rattle.std.specs.Str.{bytes_eq}
use Rattle.std.proofs.lemmas.List.{drop_more}
use Rattle.std.proofs.lemmas.Slice.Eq.{bytes_eq-Decides}
use Rattle.query_json.specs.declared.file.Column.{Column}
use Rattle.query_json.specs.Columns.{distinct_in}

turned_by : (xs ys : List ℕ) (t u : Bool) → bytes_eq xs ys ≡ t → bytes_eq ys xs ≡ u → t ≡ u
turned_by xs ys true u e f = let same : xs ≡ ys = (bytes_eq-Decides xs ys).0 e in sym ((bytes_eq-Decides ys xs).1 (sym same)) ∙ f
turned_by xs ys false true e f = let same : ys ≡ xs = (bytes_eq-Decides ys xs).0 f in sym e ∙ (bytes_eq-Decides xs ys).1 (sym same)
turned_by xs ys false false e f = refl

turned : (xs ys : List ℕ) → bytes_eq xs ys ≡ bytes_eq ys xs
turned xs ys = turned_by xs ys (bytes_eq xs ys) (bytes_eq ys xs) refl refl

-- the column in front is the first of its name
pub column_in_front : (q : List ℕ) (cs : List Column) (i : ℕ) (c : Column) → i < length cs → c ≡ get_or cs i c → cond (bytes_eq c.name q) (Some c.distinct) (distinct_in q (drop (i + 1) cs)) ≡ distinct_in q (drop i cs)
column_in_front q cs i c lt is =
    ap (λ b. cond b (Some c.distinct) (distinct_in q (drop (i + 1) cs))) (turned c.name q)
    ∙ sym (ap (distinct_in q) (drop_more cs i c lt ∙ ap (λ x. x ∷ drop (i + 1) cs) (sym is)))
