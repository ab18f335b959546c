use Rattle.mea_sem_core.proofs.sem_core.SemCore.pour.Given as goal

abbrev pub ghosts-pour_from : goal.ghosts-pour_from
ghosts-pour_from g a = record { name = a.blank.name; parts = a.blank.parts }
