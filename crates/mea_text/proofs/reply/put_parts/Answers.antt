use Rattle.mea_text.specs.Text.{numbers_text}
use Rattle.mea_text.specs.Reply.{numbers_in}
use Rattle.mea_text.proofs.Puts.{kept_before}
use Rattle.mea_text.proofs.reply.put_parts.Goals as goal

pub returns-in_err-put_wakes-clause-kept : goal.returns-in_err-put_wakes-clause-kept
returns-in_err-put_wakes-clause-kept c =
    let mid = kept_before c.put_text.new.out.items (numbers_text (numbers_in c.args.answer.now))
    c.put_numbers.new.out.items c.put_wakes.new.out.items c.in_ok-put_numbers.ensures.ok c.in_err-put_wakes.ensures.kept in
    kept_before c.args.out.now.items c.word_of.result.now c.put_text.new.out.items c.put_wakes.new.out.items c.in_ok-put_text.ensures.ok mid
