use Rattle.mea_core_tests.proofs.sem_core.touches.Given as goal

abbrev pub ghosts-touches_few : goal.ghosts-touches_few
ghosts-touches_few g a = record { name = a.blank.name; parts = a.blank.parts }
