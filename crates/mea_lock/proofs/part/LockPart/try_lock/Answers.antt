use Rattle.std.proofs.Common.{sym, ap, ◌∙◌}
use Rattle.mea_family.specs.Causes.{unknown_unless}
use Rattle.mea_lock.proofs.PartEvents.{site, lock_there, few_things, enough_if, few_if, try_holds, try_lacks}
use Rattle.mea_lock.proofs.part.LockPart.try_lock.Goals as goal

pub at_mut-entry-requires : goal.at_mut-entry-requires
at_mut-entry-requires g c = lock_there (site c.self.inside.locks c.self.inside.futures c.self.inside.guards.things c.self.inside.next c.self.view_is c.self.invariant c.requires.next c.ranges.number.fits) c.args.o (sym c.is_named.ensures ∙ c.if-not-is_named.false)

pub begin-requires-clause-things : goal.begin-requires-clause-things
begin-requires-clause-things g c = let taken = c.try_lock.ensures.taken (enough_if _ _ c.try_lock.result c.try_lock.ensures.refused c.if-try_lock.true) in
    rw taken.2 (few_things (site c.self.inside.locks c.self.inside.futures c.self.inside.guards.things c.self.inside.next c.self.view_is c.self.invariant c.requires.next c.ranges.number.fits) c.args.o c.at_mut-entry.result.now c.at_mut-entry.ensures.value).0

pub begin-requires-clause-plain : goal.begin-requires-clause-plain
begin-requires-clause-plain g c = let taken = c.try_lock.ensures.taken (enough_if _ _ c.try_lock.result c.try_lock.ensures.refused c.if-try_lock.true) in
    rw taken.2 (few_things (site c.self.inside.locks c.self.inside.futures c.self.inside.guards.things c.self.inside.next c.self.view_is c.self.invariant c.requires.next c.ranges.number.fits) c.args.o c.at_mut-entry.result.now c.at_mut-entry.ensures.value).1

pub invariant_of-self-then-try_lock : goal.invariant_of-self-then-try_lock
invariant_of-self-then-try_lock g c = let enough = enough_if _ _ c.try_lock.result c.try_lock.ensures.refused c.if-try_lock.true in
    let taken = c.try_lock.ensures.taken enough in
    rw (c.begin.ensures, taken.2, c.insert.ensures.things, c.reserve.ensures.things) (try_holds (site c.self.inside.locks c.self.inside.futures c.self.inside.guards.things c.self.inside.next c.self.view_is c.self.invariant c.requires.next c.ranges.number.fits) c.args.o c.at_mut-entry.result.now c.at_mut-entry.ensures.value c.is_plain-plain.result c.writes-write.result enough c.try_lock.new.self.lock taken.1).0

pub returns-then-try_lock : goal.returns-then-try_lock
returns-then-try_lock g c = let enough = enough_if _ _ c.try_lock.result c.try_lock.ensures.refused c.if-try_lock.true in
    let taken = c.try_lock.ensures.taken enough in
    (ap unknown_unless (sym c.is_named.ensures ∙ c.if-not-is_named.false), rw (← c.is_plain-plain.ensures, ← c.writes-write.ensures, c.begin.ensures, taken.2, c.insert.ensures.things, c.reserve.ensures.things) (try_holds (site c.self.inside.locks c.self.inside.futures c.self.inside.guards.things c.self.inside.next c.self.view_is c.self.invariant c.requires.next c.ranges.number.fits) c.args.o c.at_mut-entry.result.now c.at_mut-entry.ensures.value c.is_plain-plain.result c.writes-write.result enough c.try_lock.new.self.lock taken.1).1)

pub invariant_of-self-2 : goal.invariant_of-self-2
invariant_of-self-2 g c = let few = few_if _ _ c.try_lock.result (λ enough. (c.try_lock.ensures.taken enough).0) c.if-try_lock.false in
    rw ((c.try_lock.ensures.refused few).1) (try_lacks (site c.self.inside.locks c.self.inside.futures c.self.inside.guards.things c.self.inside.next c.self.view_is c.self.invariant c.requires.next c.ranges.number.fits) c.args.o c.at_mut-entry.result.now c.at_mut-entry.ensures.value c.is_plain-plain.result c.writes-write.result few c.reserve.new.self.things c.reserve.ensures.things).0

pub returns : goal.returns
returns g c = let few = few_if _ _ c.try_lock.result (λ enough. (c.try_lock.ensures.taken enough).0) c.if-try_lock.false in
    (ap unknown_unless (sym c.is_named.ensures ∙ c.if-not-is_named.false), rw (← c.is_plain-plain.ensures, ← c.writes-write.ensures, (c.try_lock.ensures.refused few).1) (try_lacks (site c.self.inside.locks c.self.inside.futures c.self.inside.guards.things c.self.inside.next c.self.view_is c.self.invariant c.requires.next c.ranges.number.fits) c.args.o c.at_mut-entry.result.now c.at_mut-entry.ensures.value c.is_plain-plain.result c.writes-write.result few c.reserve.new.self.things c.reserve.ensures.things).1)
