use Rattle.std.proofs.Common.{None, Some, refl, sym, ap, ◌∙◌}
use Rattle.std.specs.Option.{option_copied}
use Rattle.mea_meet.proofs.CountSites.{site, waits_point, its_few}
use Rattle.mea_meet.proofs.CountCalls.{wait_told, copied_wait, untold}
use Rattle.mea_family.proofs.Refusals.{unknown, lacking}
use Rattle.mea_meet.proofs.count_part.CountPart.copy.Goals as goal

pub returns-in_default : goal.returns-in_default
returns-in_default g c = (unknown _ _ (wait_told (site c.self.inside.points c.self.inside.senders c.self.inside.holders c.self.inside.waits c.self.inside.next c.self.view_is c.self.invariant c.requires) c.args.f None (sym c.get.ensures ∙ ap option_copied c.in_default.is)), refl)

pub returns-in_default-insert : goal.returns-in_default-insert
returns-in_default-insert g c = (lacking _ _ (wait_told (site c.self.inside.points c.self.inside.senders c.self.inside.holders c.self.inside.waits c.self.inside.next c.self.view_is c.self.invariant c.requires) c.args.f (Some c.in-Some.other.now) (sym c.get.ensures ∙ ap option_copied c.in-Some.is)) (λ none. none), (untold (site c.self.inside.points c.self.inside.senders c.self.inside.holders c.self.inside.waits c.self.inside.next c.self.view_is c.self.invariant c.requires) _ _ _ _ refl refl refl c.in_default-insert.ensures.err).1)

pub at_mut-requires : goal.at_mut-requires
at_mut-requires g c = waits_point (site c.self.inside.points c.self.inside.senders c.self.inside.holders c.self.inside.waits c.self.inside.next c.self.view_is c.self.invariant c.requires) c.args.f c.in-Some.other.now (sym c.get.ensures ∙ ap option_copied c.in-Some.is)

pub begin-requires : goal.begin-requires
begin-requires g c = its_few (site c.self.inside.points c.self.inside.senders c.self.inside.holders c.self.inside.waits c.self.inside.next c.self.view_is c.self.invariant c.requires) c.in-Some.other.now.point c.at_mut.result.now c.at_mut.ensures.value c.ranges.number.fits

pub invariant_of-self-2 : goal.invariant_of-self-2
invariant_of-self-2 g c = (copied_wait (site c.self.inside.points c.self.inside.senders c.self.inside.holders c.self.inside.waits c.self.inside.next c.self.view_is c.self.invariant c.requires) c.args.f c.in-Some.other.now c.at_mut.result.now (sym c.get.ensures ∙ ap option_copied c.in-Some.is) c.at_mut.ensures.value c.on_members.result c.on_members.ensures.point c.on_members.ensures.new c.on_members.ensures.awaits c.begin.new.self c.begin.ensures c.insert.new.self c.in-Ok.ensures.ok).0

pub returns : goal.returns
returns g c = (copied_wait (site c.self.inside.points c.self.inside.senders c.self.inside.holders c.self.inside.waits c.self.inside.next c.self.view_is c.self.invariant c.requires) c.args.f c.in-Some.other.now c.at_mut.result.now (sym c.get.ensures ∙ ap option_copied c.in-Some.is) c.at_mut.ensures.value c.on_members.result c.on_members.ensures.point c.on_members.ensures.new c.on_members.ensures.awaits c.begin.new.self c.begin.ensures c.insert.new.self c.in-Ok.ensures.ok).1
