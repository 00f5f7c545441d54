use Rattle.pair_stream.proofs.collect.collect_pairs.Given as goal

abbrev pub ghosts-collect_counting : goal.ghosts-collect_counting
ghosts-collect_counting g a = record { name = a.blank.name; parts = a.blank.parts }
