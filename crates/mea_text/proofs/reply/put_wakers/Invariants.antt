use Rattle.std.proofs.Common.{◌≡◌, ◌++◌, take}
use Rattle.mea_text.specs.Text.{numbers_text}
use Rattle.mea_text.proofs.reply.put_wakers.Given as goal

-- the wakers so far are put
abbrev pub invariant-loop-waker : goal.invariant-loop-waker
invariant-loop-waker l = l.out.items ≡ l.fn.out.items ++ numbers_text (take l.waker-index l.wakes)
