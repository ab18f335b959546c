use Rattle.mea_recorded_tests.proofs.shared.calls_of_a_counted_semaphore.Given as goal

abbrev pub ghosts-plays : goal.ghosts-plays
ghosts-plays g a = record { name = a.blank.name; parts = a.blank.parts }
