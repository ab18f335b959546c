use Rattle.mea_recorded_tests.proofs.history.a_history_is_a_script.Given as goal

abbrev pub ghosts-history : goal.ghosts-history
ghosts-history g a = record { name = a.blank.name; parts = a.blank.parts }
