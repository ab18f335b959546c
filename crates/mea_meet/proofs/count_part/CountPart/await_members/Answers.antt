use Rattle.std.proofs.Common.{None, Some, refl, sym, ap, ◌∙◌}
use Rattle.std.specs.Option.{option_copied}
use Rattle.mea_base.proofs.Maps.{is_there}
use Rattle.mea_meet.proofs.CountSites.{site}
use Rattle.mea_meet.proofs.CountCalls.{sender_told, untold, awaited}
use Rattle.mea_family.proofs.Refusals.{unknown, lacking}
use Rattle.mea_meet.proofs.count_part.CountPart.await_members.Goals as goal

pub returns-in_default : goal.returns-in_default
returns-in_default g c = (unknown _ _ (sender_told (site c.self.inside.points c.self.inside.senders c.self.inside.holders c.self.inside.waits c.self.inside.next c.self.view_is c.self.invariant c.requires) c.args.s None (sym c.get.ensures ∙ ap option_copied c.in_default.is)), refl)

pub returns-in_default-insert : goal.returns-in_default-insert
returns-in_default-insert g c = (lacking _ _ (sender_told (site c.self.inside.points c.self.inside.senders c.self.inside.holders c.self.inside.waits c.self.inside.next c.self.view_is c.self.invariant c.requires) c.args.s (Some c.in-Some.o.now) (sym c.get.ensures ∙ ap option_copied c.in-Some.is)) (λ none. none), (untold (site c.self.inside.points c.self.inside.senders c.self.inside.holders c.self.inside.waits c.self.inside.next c.self.view_is c.self.invariant c.requires) _ _ _ _ refl refl refl c.in_default-insert.ensures.err).1)

pub remove-requires : goal.remove-requires
remove-requires g c = is_there _ _ (sym c.get.ensures ∙ ap option_copied c.in-Some.is)

pub invariant_of-self-2 : goal.invariant_of-self-2
invariant_of-self-2 g c = (awaited (site c.self.inside.points c.self.inside.senders c.self.inside.holders c.self.inside.waits c.self.inside.next c.self.view_is c.self.invariant c.requires) c.args.s c.in-Some.o.now (sym c.get.ensures ∙ ap option_copied c.in-Some.is) c.on_members.result c.on_members.ensures.point c.on_members.ensures.new c.on_members.ensures.awaits c.insert.new.self c.in-Ok.ensures.ok c.remove.new.self c.remove.ensures.rest).0

pub returns : goal.returns
returns g c = (awaited (site c.self.inside.points c.self.inside.senders c.self.inside.holders c.self.inside.waits c.self.inside.next c.self.view_is c.self.invariant c.requires) c.args.s c.in-Some.o.now (sym c.get.ensures ∙ ap option_copied c.in-Some.is) c.on_members.result c.on_members.ensures.point c.on_members.ensures.new c.on_members.ensures.awaits c.insert.new.self c.in-Ok.ensures.ok c.remove.new.self c.remove.ensures.rest).1
