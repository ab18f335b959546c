use Rattle.std.proofs.Common.{refl, sym, ◌∙◌, ◌&&◌}
use Rattle.mea_family.specs.Causes.{unknown_unless}
use Rattle.mea_base.proofs.Maps.{get-there, is_there}
use Rattle.mea_by_name.proofs.Own.{put_gone, gone_none}
use Rattle.mea_lock.proofs.WaitEvents.{site, condvar_there, no_wait, begun}
use Rattle.mea_family.proofs.Refusals.{lacking}
use Rattle.mea_lock.proofs.wait_part.WaitPart.begin.Goals as goal

pub remove-requires : goal.remove-requires
remove-requires c = rw c.in-Ok.ensures.ok (is_there _ _ (get-there c.self.inside.waits c.args.number _))

pub invariant_of-self-in_default-hand : goal.invariant_of-self-in_default-hand
invariant_of-self-in_default-hand c = rw (c.remove.ensures.rest, c.in-Ok.ensures.ok, put_gone c.self.inside.waits c.args.number _, gone_none c.self.inside.waits c.args.number (no_wait (site c.self.inside.condvars c.self.inside.waits c.self.inside.next c.self.view_is c.self.invariant c.requires.next c.ranges.number.fits))) c.self.invariant

pub returns-in_default-hand : goal.returns-in_default-hand
returns-in_default-hand c = λ w. (lacking _ _ (λ j. unknown_unless ((sym c.is_condvar.ensures ∙ c.if-not-is_condvar.false) j && sym c.in-Some.ensures.there j)) (λ none. none), c.in_default-hand.ensures.err, rw (c.remove.ensures.rest, c.in-Ok.ensures.ok, put_gone c.self.inside.waits c.args.number _, gone_none c.self.inside.waits c.args.number (no_wait (site c.self.inside.condvars c.self.inside.waits c.self.inside.next c.self.view_is c.self.invariant c.requires.next c.ranges.number.fits))) c.self.view_is, refl)

pub at_mut-requires : goal.at_mut-requires
at_mut-requires c = condvar_there (site c.self.inside.condvars c.self.inside.waits c.self.inside.next c.self.view_is c.self.invariant c.requires.next c.ranges.number.fits) c.args.c (sym c.is_condvar.ensures ∙ c.if-not-is_condvar.false)

pub invariant_of-self-2 : goal.invariant_of-self-2
invariant_of-self-2 c = rw (c.in-Ok.ensures.ok, c.begin.ensures) (begun (site c.self.inside.condvars c.self.inside.waits c.self.inside.next c.self.view_is c.self.invariant c.requires.next c.ranges.number.fits) c.args.c c.at_mut.result.now c.at_mut.ensures.value c.args.g c.args.bound).0

pub returns : goal.returns
returns c = λ w. ((λ j. unknown_unless ((sym c.is_condvar.ensures ∙ c.if-not-is_condvar.false) j && sym c.in-Some.ensures.there j)), rw (c.in-Ok.ensures.ok, c.begin.ensures) ((begun (site c.self.inside.condvars c.self.inside.waits c.self.inside.next c.self.view_is c.self.invariant c.requires.next c.ranges.number.fits) c.args.c c.at_mut.result.now c.at_mut.ensures.value c.args.g c.args.bound).1 c.args.mutexes.now c.hand.new.self c.in-Ok-hand.answer w c.in-Ok-hand.ensures.ok))
