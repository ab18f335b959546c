use Rattle.mea_base.proofs.wait_list.WaitList.unlink.Given as goal

abbrev pub ghosts-unlink_from : goal.ghosts-unlink_from
ghosts-unlink_from g a = record { name = a.blank.name; parts = a.blank.parts }
