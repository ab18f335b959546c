use Rattle.std.proofs.Common.{◌≡◌, ◌≤◌, length}
use Rattle.mea_script.specs.Lines.{is_long, lines_in}
use Rattle.mea_marks.specs.declared.ending.Ending.TheVariants.{Whole}
use Rattle.mea_marks.specs.Marks.{board_of}
use Rattle.mea_marks.specs.Script.{shown_of, shown_from}
use Rattle.mea_marks.proofs.reading.show.Given as goal

-- what is shown of the script is what is shown of the lines that are left
abbrev pub invariant-loop-line : goal.invariant-loop-line
invariant-loop-line g l =
    let steps = g.P.Playing.steps in
    let state = g.P.Playing.state in
    let stands_at = g.P.Playing.stands_at in
    record {
      stands : stands_at l.player l.past.lines;
      few : l.past.lines ≤ 2000;
      whole : l.past.ending ≡ Whole;
      told : shown_of steps (state l.fn.player) l.script ≡ shown_from steps (is_long l.script) (state l.player) (board_of l.past.board) l.past.lines (lines_in (is_long l.script) l.rest);
    }

abbrev pub decreases-loop-line : goal.decreases-loop-line
decreases-loop-line g l = length l.rest
