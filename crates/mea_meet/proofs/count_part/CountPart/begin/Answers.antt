use Rattle.std.proofs.Common.{None, Some, sym, ap, ◌∙◌, arith}
use Rattle.std.specs.Option.{option_copied_mut}
use Rattle.mea_meet_model.specs.Counts as model
use Rattle.mea_meet.proofs.CountSites.{site, holders_point, its_few}
use Rattle.mea_meet.proofs.CountCalls.{holder_told, unlent, few_borrow, begun}
use Rattle.mea_family.proofs.Refusals.{unknown, lacking}
use Rattle.mea_meet.proofs.count_part.CountPart.begin.Goals as goal

pub returns-in_default : goal.returns-in_default
returns-in_default g c = (unknown _ _ (holder_told (site c.self.inside.points c.self.inside.senders c.self.inside.holders c.self.inside.waits c.self.inside.next c.self.view_is c.self.invariant c.requires) c.args.k None (sym c.get_mut.ensures.value ∙ ap option_copied_mut c.in_default.is)), c.self.view_is)

pub invariant_of-self-in_default-insert : goal.invariant_of-self-in_default-insert
invariant_of-self-in_default-insert g c = rw c.in_default-insert.ensures.err (unlent (site c.self.inside.points c.self.inside.senders c.self.inside.holders c.self.inside.waits c.self.inside.next c.self.view_is c.self.invariant c.requires) c.args.k c.in-Some.holder.now (sym c.get_mut.ensures.value ∙ ap option_copied_mut c.in-Some.is)).0

pub returns-in_default-insert : goal.returns-in_default-insert
returns-in_default-insert g c = (lacking _ _ (holder_told (site c.self.inside.points c.self.inside.senders c.self.inside.holders c.self.inside.waits c.self.inside.next c.self.view_is c.self.invariant c.requires) c.args.k (Some c.in-Some.holder.now) (sym c.get_mut.ensures.value ∙ ap option_copied_mut c.in-Some.is)) (λ none. none), rw c.in_default-insert.ensures.err (unlent (site c.self.inside.points c.self.inside.senders c.self.inside.holders c.self.inside.waits c.self.inside.next c.self.view_is c.self.invariant c.requires) c.args.k c.in-Some.holder.now (sym c.get_mut.ensures.value ∙ ap option_copied_mut c.in-Some.is)).1)

pub overflow_add-holder : goal.overflow_add-holder
overflow_add-holder g c = let few = few_borrow (site c.self.inside.points c.self.inside.senders c.self.inside.holders c.self.inside.waits c.self.inside.next c.self.view_is c.self.invariant c.requires) c.ranges.number.fits c.args.k c.in-Some.holder.now (sym c.get_mut.ensures.value ∙ ap option_copied_mut c.in-Some.is) c.one_if.result c.is_plain-plain.result c.one_if.ensures in omega (arith, few)

pub at_mut-requires : goal.at_mut-requires
at_mut-requires g c = holders_point (site c.self.inside.points c.self.inside.senders c.self.inside.holders c.self.inside.waits c.self.inside.next c.self.view_is c.self.invariant c.requires) c.args.k c.in-Some.holder.now (sym c.get_mut.ensures.value ∙ ap option_copied_mut c.in-Some.is)

pub begin-requires : goal.begin-requires
begin-requires g c = its_few (site c.self.inside.points c.self.inside.senders c.self.inside.holders c.self.inside.waits c.self.inside.next c.self.view_is c.self.invariant c.requires) c.in-Some.holder.now.point c.at_mut.result.now c.at_mut.ensures.value c.ranges.number.fits

pub invariant_of-self-2 : goal.invariant_of-self-2
invariant_of-self-2 g c = (begun (site c.self.inside.points c.self.inside.senders c.self.inside.holders c.self.inside.waits c.self.inside.next c.self.view_is c.self.invariant c.requires) c.args.k c.in-Some.holder.now c.at_mut.result.now (sym c.get_mut.ensures.value ∙ ap option_copied_mut c.in-Some.is) c.at_mut.ensures.value c.is_plain-plain.result c.on_signal-future.result c.on_signal-future.ensures.point c.on_signal-future.ensures.new (c.on_signal-future.ensures.awaits ∙ ap model.Signal c.borrowed_if.ensures) c.one_if.result c.one_if.ensures c.begin.new.self c.begin.ensures c.insert.new.self c.in-Ok.ensures.ok).0

pub returns : goal.returns
returns g c = rw (← c.is_plain-plain.ensures) (begun (site c.self.inside.points c.self.inside.senders c.self.inside.holders c.self.inside.waits c.self.inside.next c.self.view_is c.self.invariant c.requires) c.args.k c.in-Some.holder.now c.at_mut.result.now (sym c.get_mut.ensures.value ∙ ap option_copied_mut c.in-Some.is) c.at_mut.ensures.value c.is_plain-plain.result c.on_signal-future.result c.on_signal-future.ensures.point c.on_signal-future.ensures.new (c.on_signal-future.ensures.awaits ∙ ap model.Signal c.borrowed_if.ensures) c.one_if.result c.one_if.ensures c.begin.new.self c.begin.ensures c.insert.new.self c.in-Ok.ensures.ok).1
