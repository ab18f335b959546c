use Rattle.mea_sem_core.proofs.sem_core.SemCore.wake_queue.Given as goal

abbrev pub ghosts-pour : goal.ghosts-pour
ghosts-pour g a = record { name = a.blank.name; parts = a.blank.parts }
