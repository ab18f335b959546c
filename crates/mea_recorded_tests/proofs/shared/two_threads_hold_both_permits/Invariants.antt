use Rattle.mea_recorded_tests.proofs.shared.two_threads_hold_both_permits.Given as goal

abbrev pub ghosts-holds : goal.ghosts-holds
ghosts-holds g a = record { name = a.blank.name; parts = a.blank.parts }
