use Rattle.enum_dpsize.proofs.tests.first_probes.Given as goal

abbrev pub ghosts-probes_when_found : goal.ghosts-probes_when_found
ghosts-probes_when_found a = record { name = a.blank.name; parts = a.blank.parts }
