use Rattle.std.proofs.Common.{None, Some, refl, sym, ap, ◌∙◌, arith}
use Rattle.std.specs.Option.{option_copied_mut}
use Rattle.mea_base.proofs.Maps.{get-there, is_there}
use Rattle.mea_by_name.proofs.Own.{put_gone}
use Rattle.mea_meet.proofs.BarrierSites.{site, wait_told, waits_barrier, some_waits, its_quiet, its_few, its_room, opened, unpolled, pends, readies}
use Rattle.mea_family.proofs.Refusals.{unknown, lacking}
use Rattle.mea_meet.proofs.barrier_part.BarrierPart.poll.Goals as goal

pub returns-in_default : goal.returns-in_default
returns-in_default c = (unknown _ _ (wait_told (site c.self.inside.barriers c.self.inside.waits c.self.inside.next c.self.view_is c.self.invariant c.requires.next) c.args.f None (sym c.get_mut.ensures.value ∙ ap option_copied_mut c.in_default.is)), c.self.view_is, refl)

pub at_mut-entry-requires : goal.at_mut-entry-requires
at_mut-entry-requires c = waits_barrier (site c.self.inside.barriers c.self.inside.waits c.self.inside.next c.self.view_is c.self.invariant c.requires.next) c.args.f c.in-Some.future.now (sym c.get_mut.ensures.value ∙ ap option_copied_mut c.in-Some.is)

pub poll-requires-clause-opened : goal.poll-requires-clause-opened
poll-requires-clause-opened c = opened (site c.self.inside.barriers c.self.inside.waits c.self.inside.next c.self.view_is c.self.invariant c.requires.next) c.in-Some.future.now.barrier c.at_mut-entry.result.now c.at_mut-entry.ensures.value c.args.f c.in-Some.future.now (sym c.get_mut.ensures.value ∙ ap option_copied_mut c.in-Some.is) refl

pub poll-requires-clause-quiet : goal.poll-requires-clause-quiet
poll-requires-clause-quiet c = its_quiet (site c.self.inside.barriers c.self.inside.waits c.self.inside.next c.self.view_is c.self.invariant c.requires.next) c.in-Some.future.now.barrier c.at_mut-entry.result.now c.at_mut-entry.ensures.value

pub poll-requires-clause-few : goal.poll-requires-clause-few
poll-requires-clause-few c = its_few (site c.self.inside.barriers c.self.inside.waits c.self.inside.next c.self.view_is c.self.invariant c.requires.next) c.in-Some.future.now.barrier c.at_mut-entry.result.now c.at_mut-entry.ensures.value c.ranges.number.fits

pub poll-requires-clause-room : goal.poll-requires-clause-room
poll-requires-clause-room c = its_room (site c.self.inside.barriers c.self.inside.waits c.self.inside.next c.self.view_is c.self.invariant c.requires.next) c.in-Some.future.now.barrier c.at_mut-entry.result.now c.at_mut-entry.ensures.value c.args.ready.now c.requires.room

pub invariant_of-self-in-Err : goal.invariant_of-self-in-Err
invariant_of-self-in-Err c = (unpolled (site c.self.inside.barriers c.self.inside.waits c.self.inside.next c.self.view_is c.self.invariant c.requires.next) c.in-Some.future.now.barrier c.at_mut-entry.result.now c.at_mut-entry.ensures.value c.args.f c.in-Some.future.now (sym c.get_mut.ensures.value ∙ ap option_copied_mut c.in-Some.is) refl c.poll.new.self c.poll.new.wait c.in-Err.ensures.err.0 c.in-Err.ensures.err.1).0

pub returns-in-Err : goal.returns-in-Err
returns-in-Err c = (lacking _ _ (wait_told (site c.self.inside.barriers c.self.inside.waits c.self.inside.next c.self.view_is c.self.invariant c.requires.next) c.args.f (Some c.in-Some.future.now) (sym c.get_mut.ensures.value ∙ ap option_copied_mut c.in-Some.is)) (λ none. none), (unpolled (site c.self.inside.barriers c.self.inside.waits c.self.inside.next c.self.view_is c.self.invariant c.requires.next) c.in-Some.future.now.barrier c.at_mut-entry.result.now c.at_mut-entry.ensures.value c.args.f c.in-Some.future.now (sym c.get_mut.ensures.value ∙ ap option_copied_mut c.in-Some.is) refl c.poll.new.self c.poll.new.wait c.in-Err.ensures.err.0 c.in-Err.ensures.err.1).1, c.in-Err.ensures.err.2)

pub invariant_of-self-in-Ok-Pending : goal.invariant_of-self-in-Ok-Pending
invariant_of-self-in-Ok-Pending c = let turns = rw c.in-Ok-Pending.field-0-is at c.in-Ok-Pending.ensures.turns in (pends (site c.self.inside.barriers c.self.inside.waits c.self.inside.next c.self.view_is c.self.invariant c.requires.next) c.in-Some.future.now.barrier c.at_mut-entry.result.now c.at_mut-entry.ensures.value c.args.f c.in-Some.future.now (sym c.get_mut.ensures.value ∙ ap option_copied_mut c.in-Some.is) refl c.args.waker c.poll.new.self c.poll.new.wait c.args.ready.now c.poll.new.ready turns).0

pub returns-in-Ok-Pending : goal.returns-in-Ok-Pending
returns-in-Ok-Pending c = let turns = rw c.in-Ok-Pending.field-0-is at c.in-Ok-Pending.ensures.turns in (pends (site c.self.inside.barriers c.self.inside.waits c.self.inside.next c.self.view_is c.self.invariant c.requires.next) c.in-Some.future.now.barrier c.at_mut-entry.result.now c.at_mut-entry.ensures.value c.args.f c.in-Some.future.now (sym c.get_mut.ensures.value ∙ ap option_copied_mut c.in-Some.is) refl c.args.waker c.poll.new.self c.poll.new.wait c.args.ready.now c.poll.new.ready turns).1

pub overflow_sub-entry : goal.overflow_sub-entry
overflow_sub-entry c =
    let turns = rw c.in-Ok-Ready.field-0-is at c.in-Ok-Ready.ensures.turns in
    let same = turns.waits in
    let some = some_waits (site c.self.inside.barriers c.self.inside.waits c.self.inside.next c.self.view_is c.self.invariant c.requires.next) c.in-Some.future.now.barrier c.at_mut-entry.result.now c.at_mut-entry.ensures.value c.args.f c.in-Some.future.now (sym c.get_mut.ensures.value ∙ ap option_copied_mut c.in-Some.is) refl in
    omega (arith, same, some)

pub remove-requires : goal.remove-requires
remove-requires c = is_there _ _ (get-there c.self.inside.waits c.args.f _)

pub invariant_of-self-in-Ok-Ready : goal.invariant_of-self-in-Ok-Ready
invariant_of-self-in-Ok-Ready c =
    let turns = rw c.in-Ok-Ready.field-0-is at c.in-Ok-Ready.ensures.turns in
    rw (c.remove.ensures.rest, put_gone c.self.inside.waits c.args.f (record { barrier = c.in-Some.future.now.barrier; wait = c.poll.new.wait })) ((readies (site c.self.inside.barriers c.self.inside.waits c.self.inside.next c.self.view_is c.self.invariant c.requires.next) c.in-Some.future.now.barrier c.at_mut-entry.result.now c.at_mut-entry.ensures.value c.args.f c.in-Some.future.now (sym c.get_mut.ensures.value ∙ ap option_copied_mut c.in-Some.is) refl c.args.waker c.poll.new.self c.poll.new.wait c.args.ready.now c.poll.new.ready c.ranges.number.fits c.in-Ok-Ready.told turns).0)

pub returns-in-Ok-Ready : goal.returns-in-Ok-Ready
returns-in-Ok-Ready c =
    let turns = rw c.in-Ok-Ready.field-0-is at c.in-Ok-Ready.ensures.turns in
    rw (c.remove.ensures.rest, put_gone c.self.inside.waits c.args.f (record { barrier = c.in-Some.future.now.barrier; wait = c.poll.new.wait }), c.reply_of.ensures) ((readies (site c.self.inside.barriers c.self.inside.waits c.self.inside.next c.self.view_is c.self.invariant c.requires.next) c.in-Some.future.now.barrier c.at_mut-entry.result.now c.at_mut-entry.ensures.value c.args.f c.in-Some.future.now (sym c.get_mut.ensures.value ∙ ap option_copied_mut c.in-Some.is) refl c.args.waker c.poll.new.self c.poll.new.wait c.args.ready.now c.poll.new.ready c.ranges.number.fits c.in-Ok-Ready.told turns).1)
