use Rattle.std.proofs.Common.{Some, None, inl, refl, sym, ap, ◌∙◌, if◌then◌else◌}
use Rattle.mea_family.specs.declared.stop.Stop.TheVariants as stops
use Rattle.mea_meet.proofs.CountSites.{site, point_there, its_few}
use Rattle.mea_meet.proofs.CountCalls.{added, not_full, lives_here, full_at, unturned}
use Rattle.mea_family.proofs.Refusals.{lacking}
use Rattle.mea_meet.proofs.count_part.CountPart.add.Goals as goal

pub at_mut-entry-requires : goal.at_mut-entry-requires
at_mut-entry-requires g c = point_there (site c.self.inside.points c.self.inside.senders c.self.inside.holders c.self.inside.waits c.self.inside.next c.self.view_is c.self.invariant c.requires.next) c.args.o c.requires.there

pub invariant_of-self : goal.invariant_of-self
invariant_of-self g c = (unturned (site c.self.inside.points c.self.inside.senders c.self.inside.holders c.self.inside.waits c.self.inside.next c.self.view_is c.self.invariant c.requires.next) c.args.o c.at_mut-entry.result.now c.at_mut-entry.ensures.value).0

pub returns-then-is_full : goal.returns-then-is_full
returns-then-is_full g c = λ r at_old. (inl (sym (full_at (site c.self.inside.points c.self.inside.senders c.self.inside.holders c.self.inside.waits c.self.inside.next c.self.view_is c.self.invariant c.requires.next) c.args.o c.at_mut-entry.result.now c.at_mut-entry.ensures.value c.args.counted r at_old) ∙ ap (λ b. if b then Some stops.Overflow else None) (sym c.is_full.ensures ∙ c.if-is_full.true), (λ no. absurd (cc))), (unturned (site c.self.inside.points c.self.inside.senders c.self.inside.holders c.self.inside.waits c.self.inside.next c.self.view_is c.self.invariant c.requires.next) c.args.o c.at_mut-entry.result.now c.at_mut-entry.ensures.value).1)

pub invariant_of-self-in_default : goal.invariant_of-self-in_default
invariant_of-self-in_default g c = rw c.in_default.ensures.err (unturned (site c.self.inside.points c.self.inside.senders c.self.inside.holders c.self.inside.waits c.self.inside.next c.self.view_is c.self.invariant c.requires.next) c.args.o c.at_mut-entry.result.now c.at_mut-entry.ensures.value).0

pub returns-in_default : goal.returns-in_default
returns-in_default g c = λ r at_old. (lacking _ _ (sym (full_at (site c.self.inside.points c.self.inside.senders c.self.inside.holders c.self.inside.waits c.self.inside.next c.self.view_is c.self.invariant c.requires.next) c.args.o c.at_mut-entry.result.now c.at_mut-entry.ensures.value c.args.counted r at_old) ∙ ap (λ b. if b then Some stops.Overflow else None) (sym c.is_full.ensures ∙ c.if-is_full.false)) (λ none. none), rw c.in_default.ensures.err (unturned (site c.self.inside.points c.self.inside.senders c.self.inside.holders c.self.inside.waits c.self.inside.next c.self.view_is c.self.invariant c.requires.next) c.args.o c.at_mut-entry.result.now c.at_mut-entry.ensures.value).1)

pub join-requires-clause-few : goal.join-requires-clause-few
join-requires-clause-few g c = its_few (site c.self.inside.points c.self.inside.senders c.self.inside.holders c.self.inside.waits c.self.inside.next c.self.view_is c.self.invariant c.requires.next) c.args.o c.at_mut-entry.result.now c.at_mut-entry.ensures.value c.ranges.number.fits

pub join-requires-clause-lives : goal.join-requires-clause-lives
join-requires-clause-lives g c = λ is. lives_here (site c.self.inside.points c.self.inside.senders c.self.inside.holders c.self.inside.waits c.self.inside.next c.self.view_is c.self.invariant c.requires.next) c.args.o c.at_mut-entry.result.now c.at_mut-entry.ensures.value (c.requires.lives is)

pub join-requires-clause-fits : goal.join-requires-clause-fits
join-requires-clause-fits g c = not_full c.args.counted c.at_mut-entry.result.now.point.receivers.number (sym c.is_full.ensures ∙ c.if-is_full.false)

pub invariant_of-self-2 : goal.invariant_of-self-2
invariant_of-self-2 g c = rw (c.in-Ok.ensures.ok, c.join.ensures) (added (site c.self.inside.points c.self.inside.senders c.self.inside.holders c.self.inside.waits c.self.inside.next c.self.view_is c.self.invariant c.requires.next) c.args.o c.at_mut-entry.result.now c.at_mut-entry.ensures.value (record { point = c.args.o; counted = c.args.counted; borrowers = 0 }) refl refl _ refl).0

pub returns : goal.returns
returns g c = λ r at_old. (sym (full_at (site c.self.inside.points c.self.inside.senders c.self.inside.holders c.self.inside.waits c.self.inside.next c.self.view_is c.self.invariant c.requires.next) c.args.o c.at_mut-entry.result.now c.at_mut-entry.ensures.value c.args.counted r at_old) ∙ ap (λ b. if b then Some stops.Overflow else None) (sym c.is_full.ensures ∙ c.if-is_full.false), rw (c.in-Ok.ensures.ok, c.join.ensures) ((added (site c.self.inside.points c.self.inside.senders c.self.inside.holders c.self.inside.waits c.self.inside.next c.self.view_is c.self.invariant c.requires.next) c.args.o c.at_mut-entry.result.now c.at_mut-entry.ensures.value (record { point = c.args.o; counted = c.args.counted; borrowers = 0 }) refl refl _ refl).1 r at_old))
