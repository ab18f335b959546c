use Rattle.std.proofs.Common.{None, Some, refl, sym, ap, ◌∙◌}
use Rattle.std.specs.Option.{option_copied}
use Rattle.mea_meet.proofs.CountSites.{site, senders_point, its_few}
use Rattle.mea_meet.proofs.CountCalls.{sender_told, untold, copied}
use Rattle.mea_family.proofs.Refusals.{unknown, lacking}
use Rattle.mea_meet.proofs.count_part.CountPart.copy_sender.Goals as goal

pub returns-in_default : goal.returns-in_default
returns-in_default g c = (unknown _ _ (sender_told (site c.self.inside.points c.self.inside.senders c.self.inside.holders c.self.inside.waits c.self.inside.next c.self.view_is c.self.invariant c.requires) c.args.s None (sym c.get.ensures ∙ ap option_copied c.in_default.is)), refl)

pub returns-in_default-insert : goal.returns-in_default-insert
returns-in_default-insert g c = (lacking _ _ (sender_told (site c.self.inside.points c.self.inside.senders c.self.inside.holders c.self.inside.waits c.self.inside.next c.self.view_is c.self.invariant c.requires) c.args.s (Some c.in-Some.o.now) (sym c.get.ensures ∙ ap option_copied c.in-Some.is)) (λ none. none), (untold (site c.self.inside.points c.self.inside.senders c.self.inside.holders c.self.inside.waits c.self.inside.next c.self.view_is c.self.invariant c.requires) _ _ _ _ refl c.in_default-insert.ensures.err refl refl).1)

pub at_mut-requires : goal.at_mut-requires
at_mut-requires g c = senders_point (site c.self.inside.points c.self.inside.senders c.self.inside.holders c.self.inside.waits c.self.inside.next c.self.view_is c.self.invariant c.requires) c.args.s c.in-Some.o.now (sym c.get.ensures ∙ ap option_copied c.in-Some.is)

pub begin-requires : goal.begin-requires
begin-requires g c = its_few (site c.self.inside.points c.self.inside.senders c.self.inside.holders c.self.inside.waits c.self.inside.next c.self.view_is c.self.invariant c.requires) c.in-Some.o.now c.at_mut.result.now c.at_mut.ensures.value c.ranges.number.fits

pub invariant_of-self-2 : goal.invariant_of-self-2
invariant_of-self-2 g c = (copied (site c.self.inside.points c.self.inside.senders c.self.inside.holders c.self.inside.waits c.self.inside.next c.self.view_is c.self.invariant c.requires) c.in-Some.o.now c.at_mut.result.now c.at_mut.ensures.value c.args.s (sym c.get.ensures ∙ ap option_copied c.in-Some.is) c.begin.new.self c.begin.ensures c.insert.new.self c.in-Ok.ensures.ok).0

pub returns : goal.returns
returns g c = (copied (site c.self.inside.points c.self.inside.senders c.self.inside.holders c.self.inside.waits c.self.inside.next c.self.view_is c.self.invariant c.requires) c.in-Some.o.now c.at_mut.result.now c.at_mut.ensures.value c.args.s (sym c.get.ensures ∙ ap option_copied c.in-Some.is) c.begin.new.self c.begin.ensures c.insert.new.self c.in-Ok.ensures.ok).1
