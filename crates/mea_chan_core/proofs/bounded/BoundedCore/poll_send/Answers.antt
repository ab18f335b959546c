use Rattle.std.proofs.Common.{sym, ap, ◌∙◌, Err}
use Rattle.mea_chan_core.proofs.Sends.{polls_sent, polls_refused, polls_full}
use Rattle.mea_chan_core.proofs.bounded.BoundedCore.poll_send.Goals as goal

pub returns-in-Ok : goal.returns-in-Ok
returns-in-Ok g c =
    let leaves = rw c.take_acquire.ensures.is at c.leave.ensures in
    rw (c.take_acquire.ensures.value, c.take.ensures.after) (polls_sent c.args.self.now c.try_send.new.self c.leave.new.self c.in-Some.value c.args.send.now.value c.args.send.now.acquire c.take_acquire.new.self.acquire c.args.waker c.in-Ok.field-0 (sym c.take.ensures.value ∙ c.in-Some.is) (sym c.in-Ok.is ∙ c.try_send.ensures.answer) c.try_send.ensures.after leaves)

pub returns-in-Err-Disconnected : goal.returns-in-Err-Disconnected
returns-in-Err-Disconnected g c =
    let leaves = rw c.take_acquire-in-Err-Disconnected.ensures.is at c.leave-in-Err-Disconnected.ensures in
    rw (c.take_acquire-in-Err-Disconnected.ensures.value, c.take.ensures.after) (polls_refused c.args.self.now c.try_send.new.self c.leave-in-Err-Disconnected.new.self c.in-Some.value c.in-Err-Disconnected.value c.args.send.now.value c.args.send.now.acquire c.take_acquire-in-Err-Disconnected.new.self.acquire c.args.waker (sym c.take.ensures.value ∙ c.in-Some.is) (sym (c.in-Err-Disconnected.is ∙ ap (λ e. Err e) c.in-Err-Disconnected.field-0-is) ∙ c.try_send.ensures.answer) c.try_send.ensures.after leaves)

pub returns-in-Ok-stay : goal.returns-in-Ok-stay
returns-in-Ok-stay g c =
    polls_full c.args.self.now c.try_send.new.self c.stay.new.self c.in-Some.value c.in-Err-Full.value c.args.send.now.value c.args.send.now.acquire c.stay.new.acquire c.args.waker c.in-Ok-stay.field-0 (sym c.take.ensures.value ∙ c.in-Some.is) (sym (c.in-Err-Full.is ∙ ap (λ e. Err e) c.in-Err-Full.field-0-is) ∙ c.try_send.ensures.answer) c.try_send.ensures.after c.in-Ok-stay.ensures.stays
