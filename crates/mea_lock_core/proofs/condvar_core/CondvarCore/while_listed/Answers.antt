use Rattle.std.proofs.Common.{rules, refl, ◌∙◌, sym}
use Rattle.mea_base.specs.declared.turn.Turn.TheVariants.{Pending}
use Rattle.mea_lock_core.specs.Notes.{condvar_of}
use Rattle.mea_lock_core.specs.declared.cond_wait.CondWait.TheVariants.{Listed}
use Rattle.mea_lock_core.proofs.Changes.{in_use, notified_waits_not, polls_waiting, polls_asking, left_after, sound_of}
use Rattle.mea_lock_core.proofs.Kept.{noted_rewoken_by}
use Rattle.mea_lock_core.proofs.condvar_core.CondvarCore.while_listed.Goals as goal

pub get-requires : goal.get-requires
get-requires g c = in_use c.self.inside.waiters c.self.inside.outbox c.args.number (rw (← c.self.view_is) at c.requires.known)

pub returns-in_default-clause-polls : goal.returns-in_default-clause-polls
returns-in_default-clause-polls g c =
    record {
      first = Pending;
      between = _;
      lock = c.args.lock.now;
      stage = Listed c.args.number;
      polls = rw (← c.self.view_is) (polls_waiting c.self.inside.waiters c.self.inside.outbox c.args.lock.now c.args.number c.args.waker c.get.result.now c.get.ensures (sym c.notified.ensures ∙ c.in_default.is) c.self.invariant.noted);
      continues = (refl, refl, refl, λ i. record { wait = c.requires.listed i; condition = c.args.wait.now.condition });
    }

pub returns-clause-polls : goal.returns-clause-polls
returns-clause-polls g c =
    let left = left_after c.self.inside.waiters c.reserve.new.waiters c.take_out.new.waiters c.self.inside.outbox c.reserve.new.outbox c.args.number c.in-Some.by_one c.get.result.now c.reserve.ensures.waiters_kept c.reserve.ensures.outbox_kept c.get.ensures (search rules) c.take_out.ensures.updates c.take_out.ensures.order c.self.invariant.noted in
    record {
      first = c.in_ok-turn.turn;
      between = condvar_of c.take_out.new.waiters c.reserve.new.outbox;
      lock = c.poll.new.self;
      stage = c.after_lock-wait.result;
      polls = polls_asking c.self.inside.waiters c.self.inside.outbox c.args.self.now c.args.lock.now c.args.number c.in-Some.by_one c.args.waker c.get.result.now _ _ _ _ c.self.view_is c.get.ensures (search rules) (rw (← c.self.view_is) left, c.in_ok-turn.ensures.value, (c.poll.new.wait, search rules, c.after_lock-wait.ensures));
      continues = c.resume.ensures.continues;
    }

pub returns-in_default-clause-sound : goal.returns-in_default-clause-sound
returns-in_default-clause-sound g c = λ _. sound_of _ c.self.inside.outbox
    (noted_rewoken_by c.self.inside.waiters c.args.number c.get.result.now c.args.waker c.get.ensures (sym c.notified.ensures ∙ c.in_default.is)
    c.self.invariant.noted)

pub returns-then-is_err-clause-waits : goal.returns-then-is_err-clause-waits
returns-then-is_err-clause-waits g c = λ waits. absurd
    (notified_waits_not c.self.inside.waiters c.self.inside.outbox c.args.number c.get.result.now c.in-Some.by_one c.get.ensures (search rules)
    (rw (← c.self.view_is) at waits))

pub returns-in_err-turn-clause-waits : goal.returns-in_err-turn-clause-waits
returns-in_err-turn-clause-waits g c = λ waits. absurd
    (notified_waits_not c.self.inside.waiters c.self.inside.outbox c.args.number c.get.result.now c.in-Some.by_one c.get.ensures (search rules)
    (rw (← c.self.view_is) at waits))
