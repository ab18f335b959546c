use Rattle.std.proofs.Common.{refl, rules, sym, ◌∙◌}
use Rattle.mea_lock_core.proofs.Changes.{in_use, polls_waiting, polls_asking, left_after, sound_of}
use Rattle.mea_lock_core.proofs.Kept.{noted_rewoken_by}
use Rattle.mea_lock_core.proofs.condvar_core.CondvarCore.poll_listed.Goals as goal

pub get-requires : goal.get-requires
get-requires g c = in_use c.self.inside.waiters c.self.inside.outbox c.args.number (rw (← c.self.view_is) at c.requires.known)

pub returns-in_default-clause-polls : goal.returns-in_default-clause-polls
returns-in_default-clause-polls g c =
    rw (c.requires.listed, ← c.self.view_is)
    (polls_waiting c.self.inside.waiters c.self.inside.outbox c.args.lock.now c.args.number c.args.waker c.get.result.now c.get.ensures
    (sym c.notified.ensures ∙ c.in_default.is) c.self.invariant.noted)

pub returns-in_err-turn-clause-polls : goal.returns-in_err-turn-clause-polls
returns-in_err-turn-clause-polls g c =
    polls_asking c.self.inside.waiters c.self.inside.outbox c.args.self.now c.args.lock.now c.args.number c.in-Some.by_one c.args.waker c.get.result.now _ _ _ _ c.self.view_is c.get.ensures (search rules) (search rules)

pub returns-clause-polls : goal.returns-clause-polls
returns-clause-polls g c =
    let left = left_after c.self.inside.waiters c.self.inside.waiters c.take_out.new.waiters c.self.inside.outbox c.self.inside.outbox c.args.number c.in-Some.by_one c.get.result.now refl refl c.get.ensures (search rules) c.take_out.ensures.updates c.take_out.ensures.order c.self.invariant.noted in
    polls_asking c.self.inside.waiters c.self.inside.outbox c.args.self.now c.args.lock.now c.args.number c.in-Some.by_one c.args.waker c.get.result.now _ _ _ _ c.self.view_is c.get.ensures (search rules) (rw (← c.self.view_is) left, c.in_ok-turn.ensures.value, (c.poll.new.wait, search rules, c.after_lock.ensures))

pub returns-in_default-clause-sound : goal.returns-in_default-clause-sound
returns-in_default-clause-sound g c = λ _. sound_of _ c.self.inside.outbox
    (noted_rewoken_by c.self.inside.waiters c.args.number c.get.result.now c.args.waker c.get.ensures (sym c.notified.ensures ∙ c.in_default.is)
    c.self.invariant.noted)

pub returns-clause-sound : goal.returns-clause-sound
returns-clause-sound g c = λ _. sound_of c.take_out.new.waiters c.self.inside.outbox (c.take_out.ensures.noted c.self.invariant.noted)
