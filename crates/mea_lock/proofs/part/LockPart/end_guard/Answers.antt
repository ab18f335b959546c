use Rattle.std.proofs.Common.{refl, sym, ap, ◌∙◌}
use Rattle.mea_lock.specs.Entries.{is_over}
use Rattle.mea_lock.proofs.PartEvents.{site, end_cause, untaken, its_kept, its_room, over_there, is_held, guard_few, guard_ended}
use Rattle.mea_family.proofs.Refusals.{unknown}
use Rattle.mea_lock.proofs.part.LockPart.end_guard.Goals as goal

pub invariant_of-self : goal.invariant_of-self
invariant_of-self g c = rw c.take.ensures.things (untaken (site c.self.inside.locks c.self.inside.futures c.self.inside.guards.things c.self.inside.next c.self.view_is c.self.invariant c.requires.next c.ranges.number.fits) c.args.g (sym c.take.ensures.value ∙ c.in_default.is)).0

pub returns-in_default : goal.returns-in_default
returns-in_default g c = (unknown _ _ (end_cause (site c.self.inside.locks c.self.inside.futures c.self.inside.guards.things c.self.inside.next c.self.view_is c.self.invariant c.requires.next c.ranges.number.fits) c.args.g _ (sym c.take.ensures.value ∙ c.in_default.is) c.requires.apart), rw c.take.ensures.things (untaken (site c.self.inside.locks c.self.inside.futures c.self.inside.guards.things c.self.inside.next c.self.view_is c.self.invariant c.requires.next c.ranges.number.fits) c.args.g (sym c.take.ensures.value ∙ c.in_default.is)).1, refl)

pub unlock-requires-clause-held : goal.unlock-requires-clause-held
unlock-requires-clause-held g c = is_held (site c.self.inside.locks c.self.inside.futures c.self.inside.guards.things c.self.inside.next c.self.view_is c.self.invariant c.requires.next c.ranges.number.fits) c.args.g c.in-Some.guard c.at_mut-entry.result.now (sym c.take.ensures.value ∙ c.in-Some.is) c.at_mut-entry.ensures.value

pub unlock-requires-clause-quiet : goal.unlock-requires-clause-quiet
unlock-requires-clause-quiet g c = (its_kept (site c.self.inside.locks c.self.inside.futures c.self.inside.guards.things c.self.inside.next c.self.view_is c.self.invariant c.requires.next c.ranges.number.fits) c.in-Some.guard.lock c.at_mut-entry.result.now c.at_mut-entry.ensures.value).quiet

pub unlock-requires-clause-room : goal.unlock-requires-clause-room
unlock-requires-clause-room g c = its_room (site c.self.inside.locks c.self.inside.futures c.self.inside.guards.things c.self.inside.next c.self.view_is c.self.invariant c.requires.next c.ranges.number.fits) c.in-Some.guard.lock c.at_mut-entry.result.now c.at_mut-entry.ensures.value c.args.ready.now c.requires.room

pub finish-requires-clause-things : goal.finish-requires-clause-things
finish-requires-clause-things g c = rw c.unlock.ensures.2.entry (guard_few (site c.self.inside.locks c.self.inside.futures c.self.inside.guards.things c.self.inside.next c.self.view_is c.self.invariant c.requires.next c.ranges.number.fits) c.args.g c.in-Some.guard c.at_mut-entry.result.now (sym c.take.ensures.value ∙ c.in-Some.is) c.at_mut-entry.ensures.value).0

pub finish-requires-clause-plain : goal.finish-requires-clause-plain
finish-requires-clause-plain g c = rw c.unlock.ensures.2.entry (guard_few (site c.self.inside.locks c.self.inside.futures c.self.inside.guards.things c.self.inside.next c.self.view_is c.self.invariant c.requires.next c.ranges.number.fits) c.args.g c.in-Some.guard c.at_mut-entry.result.now (sym c.take.ensures.value ∙ c.in-Some.is) c.at_mut-entry.ensures.value).1

pub remove_if-requires : goal.remove_if-requires
remove_if-requires g c = λ over. over_there (site c.self.inside.locks c.self.inside.futures c.self.inside.guards.things c.self.inside.next c.self.view_is c.self.invariant c.requires.next c.ranges.number.fits) c.in-Some.guard.lock c.at_mut-entry.result.now c.at_mut-entry.ensures.value _

pub invariant_of-self-2 : goal.invariant_of-self-2
invariant_of-self-2 g c = rw (c.remove_if.ensures, c.finish.ensures, c.take.ensures.things) (guard_ended (site c.self.inside.locks c.self.inside.futures c.self.inside.guards.things c.self.inside.next c.self.view_is c.self.invariant c.requires.next c.ranges.number.fits) c.args.g c.in-Some.guard c.at_mut-entry.result.now (sym c.take.ensures.value ∙ c.in-Some.is) c.at_mut-entry.ensures.value c.requires.apart c.unlock.ensures.0 c.unlock.new.self c.args.ready.now c.unlock.new.ready c.unlock.ensures.1 c.unlock.ensures.2 c.is_over-over.result
    (sym (c.is_over-over.ensures ∙ ap is_over c.finish.ensures))).0

pub returns : goal.returns
returns g c = (
  end_cause (site c.self.inside.locks c.self.inside.futures c.self.inside.guards.things c.self.inside.next c.self.view_is c.self.invariant c.requires.next c.ranges.number.fits) c.args.g _ (sym c.take.ensures.value ∙ c.in-Some.is) c.requires.apart,
  rw (c.remove_if.ensures, c.finish.ensures, c.take.ensures.things) (guard_ended (site c.self.inside.locks c.self.inside.futures c.self.inside.guards.things c.self.inside.next c.self.view_is c.self.invariant c.requires.next c.ranges.number.fits) c.args.g c.in-Some.guard c.at_mut-entry.result.now (sym c.take.ensures.value ∙ c.in-Some.is) c.at_mut-entry.ensures.value c.requires.apart c.unlock.ensures.0 c.unlock.new.self c.args.ready.now c.unlock.new.ready c.unlock.ensures.1 c.unlock.ensures.2 c.is_over-over.result
      (sym (c.is_over-over.ensures ∙ ap is_over c.finish.ensures))).1,
)
