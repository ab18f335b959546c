use Rattle.mea_task_run.proofs.Spellings.{spelling_only, spelling_tells}
use Rattle.mea_task_run.proofs.lines.lines_have_one_spelling.Goals as goal

pub returns : goal.returns
returns c = λ line e. (spelling_only line e, spelling_tells line e)
