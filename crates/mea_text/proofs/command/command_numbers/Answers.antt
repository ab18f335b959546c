use Rattle.std.proofs.Common.{◌-◌, map, length, take, drop, string_bytes, subst, sym, ◌∙◌}
use Rattle.mea_text.specs.Command.{IsSpelled, numbers_after}
use Rattle.mea_text.proofs.Commands.{first_word, numbers_only, numbers_back}
use Rattle.mea_text.proofs.command.command_numbers.Goals as goal

pub returns-in-len1-up : goal.returns-in-len1-up
returns-in-len1-up c = λ numbers.
    let words = first_word string_bytes c.args.words.now c.word-item.result c.in-len1-up.len_at_least c.word-item.is in
    let rest = map string_bytes (take (length c.args.words.now - 1) (drop 1 c.args.words.now)) in
    let is = c.numbers_after.ensures ∙ (λ i. numbers_after c.args.name.now (c.as_bytes.ensures.value i) rest) in (
      λ some. subst (λ ws. IsSpelled c.args.name.now ws numbers) (sym words) (numbers_only c.args.name.now _ rest numbers (sym is ∙ some)),
      λ command. is ∙ numbers_back c.args.name.now _ rest numbers (subst (λ ws. IsSpelled c.args.name.now ws numbers) words command),
    )
