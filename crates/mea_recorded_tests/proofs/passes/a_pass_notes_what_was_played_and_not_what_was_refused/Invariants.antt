use Rattle.mea_recorded_tests.proofs.passes.a_pass_notes_what_was_played_and_not_what_was_refused.Given as goal

abbrev pub ghosts-plays : goal.ghosts-plays
ghosts-plays g a = record { name = a.blank.name; parts = a.blank.parts }
