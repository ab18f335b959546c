use Rattle.std.proofs.Common.{ℕ, ◌+◌, Some, Ok, refl, ap, sym, subst, ◌∙◌, arith}
use Rattle.std.specs.FinMap.{insert}
use Rattle.std.specs.Option.{option_copied_mut}
use Rattle.mea_base.specs.declared.poll.Poll.{Poll}
use Rattle.mea_base.proofs.Maps.{get-there, is_there}
use Rattle.mea_by_name.specs.ByName.{Names}
use Rattle.mea_by_name.proofs.Own.{insert_same, put_gone}
use Rattle.mea_pool_core.specs.declared.lease_poll.LeasePoll.{LeasePoll}
use Rattle.mea_pool_core.specs.Calls.{PollsLease, PollsDrain}
use Rattle.mea_pool_run.specs.declared.reply.PoolReply.TheVariants.{Leased}
use Rattle.mea_pool_run.specs.declared.thing.Thing.{Thing}
use Rattle.mea_pool_run.specs.declared.thing.Thing.TheVariants.{Ask, Wait, Held}
use Rattle.mea_pool_run.proofs.Drains.{may_poll_drain, is_ready, is_pending}
use Rattle.mea_pool_run.proofs.Events.{goes_as, below_as}
use Rattle.mea_pool_run.proofs.Polls.{may_poll, got, pending, closed_to}
use Rattle.mea_pool_run.proofs.Still.{IsNoWait, poll_unknown}
use Rattle.mea_pool_run.proofs.Things.{below_more, below_after, below_moved, below_stays}
use Rattle.mea_pool_run.proofs.named_pool.NamedPool.poll.Goals as goal

pub poll_lease-requires : goal.poll_lease-requires
poll_lease-requires c = may_poll c.args.self.now.pool c.args.self.now.things c.args.name c.in-Ask.wait c.requires.stands.keeps (sym c.get_mut.ensures.value ∙ ap option_copied_mut c.in-Some.is ∙ ap (λ (t : Thing). Some t) c.in-Ask.is)

pub poll_drained-requires : goal.poll_drained-requires
poll_drained-requires c = may_poll_drain c.args.self.now.pool c.args.self.now.things c.args.name c.in-Wait.wait c.requires.stands.keeps (sym c.get_mut.ensures.value ∙ ap option_copied_mut c.in-Some.is ∙ ap (λ (t : Thing). Some t) c.in-Wait.is)

pub remove-requires : goal.remove-requires
remove-requires c = is_there _ _ (get-there c.args.self.now.things c.args.name _)

pub remove-requires-in-Ok-Closed : goal.remove-requires-in-Ok-Closed
remove-requires-in-Ok-Closed c = is_there _ _ (get-there c.args.self.now.things c.args.name _)

pub remove-requires-in-Ok-Ready : goal.remove-requires-in-Ok-Ready
remove-requires-in-Ok-Ready c = is_there _ _ (get-there c.args.self.now.things c.args.name _)

pub returns-in_ok-insert-in-Ok-Got-clause-goes : goal.returns-in_ok-insert-in-Ok-Got-clause-goes
returns-in_ok-insert-in-Ok-Got-clause-goes c =
    goes_as _ _ _ _ _ _ _ refl (c.in_ok-insert-in-Ok-Got.ensures.ok ∙ ap (λ (ts : Names Thing). insert ts c.args.number (Held c.in-Ok-Got.lease)) (c.remove.ensures.rest ∙ (put_gone c.args.self.now.things c.args.name (Ask c.poll_lease.new.wait)))) (λ i. Leased (c.slot.ensures i) (c.resource.ensures i))
    (got c.args.self.now.pool c.args.self.now.things c.requires.stands c.args.name c.args.number c.args.waker c.in-Ask.wait c.poll_lease.new.wait _ c.poll_lease.new.self c.in-Ok-Got.lease (sym c.get_mut.ensures.value ∙ ap option_copied_mut c.in-Some.is ∙ ap (λ (t : Thing). Some t) c.in-Ask.is)
    (c.requires.below c.args.number (omega arith)) (subst (λ (t : LeasePoll ℕ). PollsLease c.args.self.now.pool c.in-Ask.wait (record { name = c.args.name; waker = c.args.waker }) (Ok t) c.poll_lease.new.self c.poll_lease.new.wait) c.in-Ok-Got.field-0-is c.in-Ok-Got.ensures.polls))

pub returns-in_ok-insert-in-Ok-Got-clause-below : goal.returns-in_ok-insert-in-Ok-Got-clause-below
returns-in_ok-insert-in-Ok-Got-clause-below c =
    below_as _ _ (c.args.number + 1) (c.in_ok-insert-in-Ok-Got.ensures.ok ∙ ap (λ (ts : Names Thing). insert ts c.args.number (Held c.in-Ok-Got.lease)) (c.remove.ensures.rest ∙ (put_gone c.args.self.now.things c.args.name (Ask c.poll_lease.new.wait)))) (below_moved c.args.self.now.things c.args.name (Held c.in-Ok-Got.lease) c.args.number c.requires.below)

pub returns-in-Ok-Pending-clause-goes : goal.returns-in-Ok-Pending-clause-goes
returns-in-Ok-Pending-clause-goes c =
    pending c.args.self.now.pool c.args.self.now.things c.requires.stands c.args.name c.args.number c.args.waker c.in-Ask.wait c.poll_lease.new.wait c.poll_lease.new.self (sym c.get_mut.ensures.value ∙ ap option_copied_mut c.in-Some.is ∙ ap (λ (t : Thing). Some t) c.in-Ask.is) (subst (λ (t : LeasePoll ℕ). PollsLease c.args.self.now.pool c.in-Ask.wait (record { name = c.args.name; waker = c.args.waker }) (Ok t) c.poll_lease.new.self c.poll_lease.new.wait) c.in-Ok-Pending.field-0-is c.in-Ok-Pending.ensures.polls)

pub returns-in-Ok-Pending-clause-below : goal.returns-in-Ok-Pending-clause-below
returns-in-Ok-Pending-clause-below c =
    below_stays c.args.self.now.things c.args.name (Ask c.in-Ask.wait) (Ask c.poll_lease.new.wait) (c.args.number + 1) (sym c.get_mut.ensures.value ∙ ap option_copied_mut c.in-Some.is ∙ ap (λ (t : Thing). Some t) c.in-Ask.is) (below_more c.args.self.now.things c.args.number c.requires.below)

pub returns-in-Ok-Closed-clause-goes : goal.returns-in-Ok-Closed-clause-goes
returns-in-Ok-Closed-clause-goes c =
    goes_as _ _ _ _ _ _ _ refl (c.remove-in-Ok-Closed.ensures.rest ∙ (put_gone c.args.self.now.things c.args.name (Ask c.poll_lease.new.wait))) refl
    (closed_to c.args.self.now.pool c.args.self.now.things c.requires.stands c.args.name c.args.number c.args.waker c.in-Ask.wait c.poll_lease.new.wait _ c.poll_lease.new.self (sym c.get_mut.ensures.value ∙ ap option_copied_mut c.in-Some.is ∙ ap (λ (t : Thing). Some t) c.in-Ask.is) (subst (λ (t : LeasePoll ℕ). PollsLease c.args.self.now.pool c.in-Ask.wait (record { name = c.args.name; waker = c.args.waker }) (Ok t) c.poll_lease.new.self c.poll_lease.new.wait) c.in-Ok-Closed.field-0-is c.in-Ok-Closed.ensures.polls))

pub returns-in-Ok-Closed-clause-below : goal.returns-in-Ok-Closed-clause-below
returns-in-Ok-Closed-clause-below c = below_as _ _ (c.args.number + 1) (c.remove-in-Ok-Closed.ensures.rest ∙ (put_gone c.args.self.now.things c.args.name (Ask c.poll_lease.new.wait))) (below_after c.args.self.now.things c.args.name c.args.number c.requires.below)

pub returns-in-Ok-Ready-clause-goes : goal.returns-in-Ok-Ready-clause-goes
returns-in-Ok-Ready-clause-goes c =
    goes_as _ _ _ _ _ _ _ refl (c.remove-in-Ok-Ready.ensures.rest ∙ (put_gone c.args.self.now.things c.args.name (Wait c.poll_drained.new.wait))) refl
    (is_ready c.args.self.now.pool c.args.self.now.things c.requires.stands c.args.name c.args.number c.args.waker c.in-Wait.wait c.poll_drained.new.wait _ c.poll_drained.new.self (sym c.get_mut.ensures.value ∙ ap option_copied_mut c.in-Some.is ∙ ap (λ (t : Thing). Some t) c.in-Wait.is) (subst (λ (t : Poll (Unit {0})). PollsDrain c.args.self.now.pool c.in-Wait.wait (record { name = c.args.name; waker = c.args.waker }) (Ok t) c.poll_drained.new.self c.poll_drained.new.wait) c.in-Ok-Ready.field-0-is c.in-Ok-Ready.ensures.polls))

pub returns-in-Ok-Ready-clause-below : goal.returns-in-Ok-Ready-clause-below
returns-in-Ok-Ready-clause-below c = below_as _ _ (c.args.number + 1) (c.remove-in-Ok-Ready.ensures.rest ∙ (put_gone c.args.self.now.things c.args.name (Wait c.poll_drained.new.wait))) (below_after c.args.self.now.things c.args.name c.args.number c.requires.below)

pub returns-in-Ok-Pending-poll_drained-clause-goes : goal.returns-in-Ok-Pending-poll_drained-clause-goes
returns-in-Ok-Pending-poll_drained-clause-goes c =
    is_pending c.args.self.now.pool c.args.self.now.things c.requires.stands c.args.name c.args.number c.args.waker c.in-Wait.wait c.poll_drained.new.wait c.poll_drained.new.self (sym c.get_mut.ensures.value ∙ ap option_copied_mut c.in-Some.is ∙ ap (λ (t : Thing). Some t) c.in-Wait.is) (subst (λ (t : Poll (Unit {0})). PollsDrain c.args.self.now.pool c.in-Wait.wait (record { name = c.args.name; waker = c.args.waker }) (Ok t) c.poll_drained.new.self c.poll_drained.new.wait) c.in-Ok-Pending-poll_drained.field-0-is c.in-Ok-Pending-poll_drained.ensures.polls)

pub returns-in-Ok-Pending-poll_drained-clause-below : goal.returns-in-Ok-Pending-poll_drained-clause-below
returns-in-Ok-Pending-poll_drained-clause-below c =
    below_stays c.args.self.now.things c.args.name (Wait c.in-Wait.wait) (Wait c.poll_drained.new.wait) (c.args.number + 1) (sym c.get_mut.ensures.value ∙ ap option_copied_mut c.in-Some.is ∙ ap (λ (t : Thing). Some t) c.in-Wait.is) (below_more c.args.self.now.things c.args.number c.requires.below)

pub returns-in-Held-clause-goes : goal.returns-in-Held-clause-goes
returns-in-Held-clause-goes c =
    goes_as _ _ _ _ _ _ _ refl (insert_same c.args.self.now.things c.args.name c.in-Some.thing.now (sym c.get_mut.ensures.value ∙ ap option_copied_mut c.in-Some.is)) refl
    (poll_unknown c.args.self.now.pool c.args.self.now.things c.requires.stands c.args.name c.args.number c.args.waker (subst IsNoWait (sym (sym c.get_mut.ensures.value ∙ ap option_copied_mut c.in-Some.is ∙ ap (λ (t : Thing). Some t) c.in-Held.is)) tt))

pub returns-in-Held-clause-below : goal.returns-in-Held-clause-below
returns-in-Held-clause-below c = below_as _ _ (c.args.number + 1) (insert_same c.args.self.now.things c.args.name c.in-Some.thing.now (sym c.get_mut.ensures.value ∙ ap option_copied_mut c.in-Some.is)) (below_more c.args.self.now.things c.args.number c.requires.below)

pub returns-in_default-clause-goes : goal.returns-in_default-clause-goes
returns-in_default-clause-goes c =
    poll_unknown c.args.self.now.pool c.args.self.now.things c.requires.stands c.args.name c.args.number c.args.waker (subst IsNoWait (sym (sym c.get_mut.ensures.value ∙ ap option_copied_mut c.in_default.is)) tt)

pub returns-in_default-clause-below : goal.returns-in_default-clause-below
returns-in_default-clause-below c = below_more c.args.self.now.things c.args.number c.requires.below
