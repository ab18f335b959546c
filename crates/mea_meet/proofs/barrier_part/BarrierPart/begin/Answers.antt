use Rattle.std.proofs.Common.{None, Some, sym, ap, ◌∙◌, arith}
use Rattle.std.specs.Option.{option_copied_mut}
use Rattle.mea_meet.proofs.BarrierSites.{site, barrier_told, unlent, few_waits, begun}
use Rattle.mea_family.proofs.Refusals.{unknown, lacking}
use Rattle.mea_meet.proofs.barrier_part.BarrierPart.begin.Goals as goal

pub returns-in_default : goal.returns-in_default
returns-in_default c = (unknown _ _ (barrier_told (site c.self.inside.barriers c.self.inside.waits c.self.inside.next c.self.view_is c.self.invariant c.requires) c.args.b None (sym c.get_mut.ensures.value ∙ ap option_copied_mut c.in_default.is)), c.self.view_is)

pub invariant_of-self-in_default-insert : goal.invariant_of-self-in_default-insert
invariant_of-self-in_default-insert c = rw c.in_default-insert.ensures.err (unlent (site c.self.inside.barriers c.self.inside.waits c.self.inside.next c.self.view_is c.self.invariant c.requires) c.args.b c.in-Some.entry.now (sym c.get_mut.ensures.value ∙ ap option_copied_mut c.in-Some.is)).0

pub returns-in_default-insert : goal.returns-in_default-insert
returns-in_default-insert c = (lacking _ _ (barrier_told (site c.self.inside.barriers c.self.inside.waits c.self.inside.next c.self.view_is c.self.invariant c.requires) c.args.b (Some c.in-Some.entry.now) (sym c.get_mut.ensures.value ∙ ap option_copied_mut c.in-Some.is)) (λ none. none), rw c.in_default-insert.ensures.err (unlent (site c.self.inside.barriers c.self.inside.waits c.self.inside.next c.self.view_is c.self.invariant c.requires) c.args.b c.in-Some.entry.now (sym c.get_mut.ensures.value ∙ ap option_copied_mut c.in-Some.is)).1)

pub overflow_add-entry : goal.overflow_add-entry
overflow_add-entry c = let few = few_waits (site c.self.inside.barriers c.self.inside.waits c.self.inside.next c.self.view_is c.self.invariant c.requires) c.args.b c.in-Some.entry.now (sym c.get_mut.ensures.value ∙ ap option_copied_mut c.in-Some.is) c.ranges.number.fits in omega (arith, few)

pub invariant_of-self-2 : goal.invariant_of-self-2
invariant_of-self-2 c = (begun (site c.self.inside.barriers c.self.inside.waits c.self.inside.next c.self.view_is c.self.invariant c.requires) c.args.b c.in-Some.entry.now (sym c.get_mut.ensures.value ∙ ap option_copied_mut c.in-Some.is) c.new.result c.new.ensures c.insert.new.self c.in-Ok.ensures.ok).0

pub returns : goal.returns
returns c = (begun (site c.self.inside.barriers c.self.inside.waits c.self.inside.next c.self.view_is c.self.invariant c.requires) c.args.b c.in-Some.entry.now (sym c.get_mut.ensures.value ∙ ap option_copied_mut c.in-Some.is) c.new.result c.new.ensures c.insert.new.self c.in-Ok.ensures.ok).1
