use Rattle.mea_lines.proofs.Lengths.{long_is_no_event}
use Rattle.mea_lines.proofs.lines.long_lines_are_no_events.Goals as goal

pub returns : goal.returns
returns c = λ line long. long_is_no_event line long
