use Rattle.mea_named_run.proofs.gathering.gathered.Given as goal

abbrev pub ghosts-gathered_in : goal.ghosts-gathered_in
ghosts-gathered_in g a = record { name = a.blank.name; parts = a.blank.parts }
