use Rattle.std.proofs.Common.{map, ap, sym, ◌∙◌, string_bytes}
use Rattle.mea_text.specs.declared.numbers.Numbers.TheVariants.{Two}
use Rattle.mea_text.specs.Command.{two_of}
use Rattle.mea_text.proofs.Commands.{two_only, two_back, two_some}
use Rattle.mea_text.proofs.command.numbers_of_command.Goals as goal

pub returns : goal.returns
returns c = λ first second.
    let name = c.args.name.now in
    let words = map string_bytes c.args.words.now in (
      λ some. two_only name words first second ((c.command_numbers.ensures (Two first second)).0 (two_some c.command_numbers.result first second (sym c.two_of.ensures ∙ some))),
      λ command. c.two_of.ensures ∙ ap two_of ((c.command_numbers.ensures (Two first second)).1 (two_back name words first second command)),
    )
