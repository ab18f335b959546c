use Rattle.std.proofs.Common.{◌≡◌, ◌+◌, ◌≤◌, ◌++◌, [], length}
use Rattle.mea_chan.specs.Entries.{kept}
use Rattle.mea_chan.proofs.channel_entry.ChannelEntry.settle.Given as goal

-- what was handed on and what is still there are what there was
abbrev pub invariant-loop-waker : goal.invariant-loop-waker
invariant-loop-waker g l = record {
  rest : record (g.C.MailboxCore.mailbox_of l.self-inside.core) { wakes = [] } ≡ record l.fn.self { wakes = [] };
  moved : l.ready.wakers ++ (g.C.MailboxCore.mailbox_of l.self-inside.core).wakes ≡ l.fn.ready.wakers ++ l.fn.self.wakes;
  counted : l.ready.registered + l.before ≡ l.fn.ready.registered + kept l.fn.self + l.gone;
  fits : length (g.C.MailboxCore.mailbox_of l.self-inside.core).wakes ≤ l.gone;
  room : l.before ≤ l.fn.ready.registered;
}

abbrev pub decreases-loop-waker : goal.decreases-loop-waker
decreases-loop-waker g l = length (g.C.MailboxCore.mailbox_of l.self-inside.core).wakes
