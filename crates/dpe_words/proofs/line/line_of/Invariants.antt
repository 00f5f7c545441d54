use Rattle.std.proofs.Common.{◌≡◌, map, take}
use Rattle.dpe_words.specs.Command.{whole_line}
use Rattle.dpe_words.specs.Line.{texts_of}
use Rattle.dpe_words.proofs.line.line_of.Given as goal

abbrev pub invariant-loop-word : goal.invariant-loop-word
invariant-loop-word l = map (λ s. s.now) l.line.items ≡ whole_line (texts_of (take l.word-index l.words))
