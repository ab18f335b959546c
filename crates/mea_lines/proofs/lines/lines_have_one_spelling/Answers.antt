use Rattle.mea_lines.proofs.Spellings.{spelling_only, spelling_tells}
use Rattle.mea_lines.proofs.lines.lines_have_one_spelling.Goals as goal

pub returns : goal.returns
returns c = λ line event. (spelling_only line event, spelling_tells line event)
