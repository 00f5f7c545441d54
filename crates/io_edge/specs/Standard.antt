-- What a source and a sink of std keep.
use Rattle.std.specs.Prelude.{ℕ}
use Rattle.io_edge.specs.declared.standard.StdSource.{StdSource}
use Rattle.io_edge.specs.declared.standard.StdSink.{StdSink}

abbrev pub reader_of : {I : Type 0} → StdSource I → I
reader_of s = s.input

abbrev pub reading_faults : {I : Type 0} → StdSource I → ℕ
reading_faults s = s.faults

abbrev pub writer_of : {O : Type 0} → StdSink O → O
writer_of s = s.output

abbrev pub writing_faults : {O : Type 0} → StdSink O → ℕ
writing_faults s = s.faults
