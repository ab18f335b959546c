use Rattle.mea_crew_run.proofs.sharing.crew.Given as goal

abbrev pub ghosts-crew_in : goal.ghosts-crew_in
ghosts-crew_in g a = record { name = a.blank.name; parts = a.blank.parts }
