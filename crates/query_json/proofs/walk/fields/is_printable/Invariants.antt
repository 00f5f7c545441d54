use Rattle.std.proofs.Common.{◌≡◌, ◌&&◌, drop}
use Rattle.std.specs.List.{list_all}
use Rattle.query_json.specs.Walk.{is_printable}
use Rattle.query_json.proofs.walk.fields.is_printable.Given as goal

abbrev pub invariant-bytes : goal.invariant-bytes
invariant-bytes l = (l.printable && list_all is_printable (drop l.byte-index l.bytes)) ≡ list_all is_printable l.bytes
