use Rattle.std.proofs.Common.{sym, ap, ◌∙◌}
use Rattle.mea_family.specs.Causes.{unknown_unless}
use Rattle.mea_lock.proofs.PartEvents.{site, lock_there, few_things, unchanged, begins}
use Rattle.mea_family.proofs.Refusals.{lacking}
use Rattle.mea_lock.proofs.part.LockPart.begin.Goals as goal

pub at_mut-entry-requires : goal.at_mut-entry-requires
at_mut-entry-requires g c = lock_there (site c.self.inside.locks c.self.inside.futures c.self.inside.guards.things c.self.inside.next c.self.view_is c.self.invariant c.requires.next c.ranges.number.fits) c.args.o (sym c.is_named.ensures ∙ c.if-not-is_named.false)

pub invariant_of-self : goal.invariant_of-self
invariant_of-self g c = rw c.in_default.ensures.err (unchanged (site c.self.inside.locks c.self.inside.futures c.self.inside.guards.things c.self.inside.next c.self.view_is c.self.invariant c.requires.next c.ranges.number.fits) c.args.o c.at_mut-entry.result.now c.at_mut-entry.ensures.value).0

pub returns-in_default : goal.returns-in_default
returns-in_default g c = (lacking _ _ (ap unknown_unless (sym c.is_named.ensures ∙ c.if-not-is_named.false)) (λ none. none), rw c.in_default.ensures.err (unchanged (site c.self.inside.locks c.self.inside.futures c.self.inside.guards.things c.self.inside.next c.self.view_is c.self.invariant c.requires.next c.ranges.number.fits) c.args.o c.at_mut-entry.result.now c.at_mut-entry.ensures.value).1)

pub begin-requires-clause-things : goal.begin-requires-clause-things
begin-requires-clause-things g c = (few_things (site c.self.inside.locks c.self.inside.futures c.self.inside.guards.things c.self.inside.next c.self.view_is c.self.invariant c.requires.next c.ranges.number.fits) c.args.o c.at_mut-entry.result.now c.at_mut-entry.ensures.value).0

pub begin-requires-clause-plain : goal.begin-requires-clause-plain
begin-requires-clause-plain g c = (few_things (site c.self.inside.locks c.self.inside.futures c.self.inside.guards.things c.self.inside.next c.self.view_is c.self.invariant c.requires.next c.ranges.number.fits) c.args.o c.at_mut-entry.result.now c.at_mut-entry.ensures.value).1

pub invariant_of-self-2 : goal.invariant_of-self-2
invariant_of-self-2 g c = rw (c.begin.ensures, c.in-Ok.ensures.ok) (begins (site c.self.inside.locks c.self.inside.futures c.self.inside.guards.things c.self.inside.next c.self.view_is c.self.invariant c.requires.next c.ranges.number.fits) c.args.o c.at_mut-entry.result.now c.at_mut-entry.ensures.value c.is_plain-plain.result c.writes-write.result c.new_future.result c.new_future.ensures.future c.new_future.ensures.wait).0

pub returns : goal.returns
returns g c = (ap unknown_unless (sym c.is_named.ensures ∙ c.if-not-is_named.false), rw (← c.is_plain-plain.ensures, ← c.writes-write.ensures, c.begin.ensures, c.in-Ok.ensures.ok) (begins (site c.self.inside.locks c.self.inside.futures c.self.inside.guards.things c.self.inside.next c.self.view_is c.self.invariant c.requires.next c.ranges.number.fits) c.args.o c.at_mut-entry.result.now c.at_mut-entry.ensures.value c.is_plain-plain.result c.writes-write.result c.new_future.result c.new_future.ensures.future c.new_future.ensures.wait).1)
