-- what a text at the end of the input tells of
use Rattle.std.specs.Prelude.{ℕ, ◌≡◌, ◌≤◌, ◌++◌, codes}
use Rattle.mea_script.specs.Told.{Told}
use Rattle.mea_text.specs.Text.{counted_line}
use Rattle.mea_task_core.specs.Machine.{Machine, IsAtRest}
use Rattle.mea_task_core.specs.Settled.{AreSettled}
use Rattle.mea_task_run.specs.Results.{results}

-- the results of a machine at rest, whose tasks are finished, have failed, or wait and lack a permit, after no more turns than
-- tasks, takes and yields were added; and the number of lines
pub record TellsRest (told : Told) : Type 0 where
  pub machine : Machine
  pub lines : ℕ
  pub text : told.text ≡ results machine ++ counted_line (codes "done") lines
  pub rest : IsAtRest machine
  pub settled : AreSettled machine
  pub few : machine.polls ≤ machine.allowance
