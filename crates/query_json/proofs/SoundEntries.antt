-- The accepted entries of a file are connected queries within the limits.
use Rattle.std.proofs.Common.{◌≡◌, ◌∙◌, ℕ, refl, sym, subst, List, [], ◌∷◌, map, Option, Some, None, Result, Ok, Err}
use Rattle.std.specs.Prelude.{All}
use Rattle.std.proofs.lemmas.List.{length-map}
use Rattle.std.proofs.lemmas.List.Elements.{All-head, All-tail, All-cons, All-nil}
use Rattle.serde_json.specs.Data.{Data}
use Rattle.query_json.specs.declared.entry.Entry.{Entry}
use Rattle.query_json.specs.declared.entry.Named.{Named}
use Rattle.query_json.specs.declared.file.QueryItem.{QueryItem}
use Rattle.query_json.specs.declared.file.RelationItem.{RelationItem}
use Rattle.query_json.specs.declared.file.Table.{Table}
use Rattle.query_json.specs.declared.refusal.QueryRefusal.{QueryRefusal}
use Rattle.query_json.specs.Entries.{counted, entries_of_value, entry_of, part_of, table_names, tables_of}
use Rattle.query_json.specs.Walk.Limits.{IsFileWithin, IsQueryWithin, IsTableWithin}
use Rattle.query_json.specs.Queries.{named, named_of, or_disconnected, query_of}
use Rattle.query_json.specs.Sound.{IsEntrySound, IsPartSound, IsSound}
use Rattle.query_json.specs.Queries.Unreached.{first_unreached}
use Rattle.query_json.specs.Walk.{file_at}
use Rattle.query_json.proofs.Binds.{bind_ok, ok_same}
use Rattle.query_json.proofs.QueryLaws.{query_valid}
use Rattle.query_json.proofs.UnreachedLaws.{first_unreached_is}
use Rattle.query_json.proofs.WalkLaws.{given_within}

none_unreached : (rs : List RelationItem) (o : Option ℕ) (u : Unit {0}) → or_disconnected rs o ≡ Ok u → o ≡ None
none_unreached rs None u e = refl
none_unreached rs (Some r) u e = absurd cc

sound_named : (tables : List Table) (item : QueryItem) (n : Named) → All IsTableWithin tables → IsQueryWithin item → named_of tables item ≡ Ok n → IsSound n
unfolding named_of
sound_named tables item n within few e =
    let q = bind_ok (query_of tables item) _ n e in
    let c = bind_ok (or_disconnected item.relations (first_unreached q.0)) _ n q.2 in
    let valid = query_valid tables item q.0 within few q.1 in
    subst IsSound (ok_same (named item q.0) n c.2)
    (record {
      valid = valid.0;
      connected = (first_unreached_is q.0 valid.0).0.0 (none_unreached item.relations (first_unreached q.0) c.0 c.1);
      aliases = length-map item.relations (λ (r : RelationItem). r.alias) ∙ sym valid.1;
    })

sound_part : (tables : List Table) (item : QueryItem) (r : Result Named QueryRefusal) → All IsTableWithin tables → IsQueryWithin item
    → named_of tables item ≡ r → IsPartSound (part_of r)
sound_part tables item (Ok n) within few e = sound_named tables item n within few e
sound_part tables item (Err why) within few e = tt

sound_entry : (tables : List Table) (item : QueryItem) → All IsTableWithin tables → IsQueryWithin item → IsEntrySound (entry_of tables item)
unfolding entry_of
sound_entry tables item within few = sound_part tables item (named_of tables item) within few refl

sound_items : (tables : List Table) (items : List QueryItem) → All IsTableWithin tables → All IsQueryWithin items → All IsEntrySound (map (entry_of tables) items)
sound_items tables [] within few = All-nil IsEntrySound
sound_items tables (x ∷ xs) within few =
    All-cons IsEntrySound (entry_of tables x) (map (entry_of tables) xs)
    (sound_entry tables x within (All-head IsQueryWithin x xs few)) (sound_items tables xs within (All-tail IsQueryWithin x xs few))

same_tables : (found tables : List Table) → tables_of found ≡ Ok tables → found ≡ tables
same_tables found tables e =
    let names = bind_ok (table_names found) _ tables e in
    ok_same found tables names.2

pub sound_entries : (d : Data) (entries : List Entry) → entries_of_value d ≡ Ok entries → All IsEntrySound entries
unfolding entries_of_value
sound_entries d entries e =
    let file = bind_ok (file_at d) _ entries e in
    let size = bind_ok (counted file.0) _ entries file.2 in
    let tables = bind_ok (tables_of file.0.tables) _ entries size.2 in
    let within : IsFileWithin file.0 = given_within d (Ok file.0) file.1 in
    let all : All IsTableWithin tables.0 = subst (All IsTableWithin) (same_tables file.0.tables tables.0 tables.1) within.tables in
    subst (All IsEntrySound) (ok_same (map (entry_of tables.0) file.0.queries) entries tables.2) (sound_items tables.0 file.0.queries all within.queries)
