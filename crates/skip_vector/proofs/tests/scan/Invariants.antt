use Rattle.skip_vector.proofs.tests.scan.Given as goal

abbrev pub ghosts-scan_counting : goal.ghosts-scan_counting
ghosts-scan_counting a = record { name = a.blank.name; parts = a.blank.parts }
