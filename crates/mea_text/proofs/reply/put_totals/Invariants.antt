use Rattle.std.proofs.Common.{◌≡◌, ◌++◌, take}
use Rattle.mea_text.specs.Text.{numbers_text}
use Rattle.mea_text.proofs.reply.put_totals.Given as goal

-- the numbers so far are put
abbrev pub invariant-loop-total : goal.invariant-loop-total
invariant-loop-total l = l.out.items ≡ l.fn.out.items ++ numbers_text (take l.total-index l.totals)
