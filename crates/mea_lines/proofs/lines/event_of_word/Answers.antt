use Rattle.std.proofs.Common.{◌+◌, ◌-◌, ◌∙◌, length, take, drop, ap, arith}
use Rattle.std.proofs.lemmas.List.{take_all, length-drop}
use Rattle.mea_lines.specs.Marks.{marks, of_marks}
use Rattle.mea_lines.proofs.Dots.{by_mark}
use Rattle.mea_lines.proofs.lines.event_of_word.Goals as goal

pub returns-in-Some : goal.returns-in-Some
returns-in-Some c =
    let word = c.args.word.now in
    let k = c.in-Some.at in
    c.marked_event.ensures
    ∙ ap (λ verb. of_marks marks (take k word) verb c.args.numbers) (take_all (length word - (k + 1)) (drop (k + 1) word) (omega (arith, length-drop (k + 1) word)))
    ∙ by_mark word c.args.numbers k c.in-Some.ensures.place
