use Rattle.std.proofs.Common.{None, Some, refl, sym, ap, ◌∙◌}
use Rattle.std.specs.Option.{option_copied}
use Rattle.mea_base.proofs.Maps.{is_there}
use Rattle.mea_meet.proofs.CountSites.{site, holders_point, its, its_room}
use Rattle.mea_meet.proofs.CountCalls.{holder_told, untold, gone_over, counted_lives}
use Rattle.mea_family.proofs.Refusals.{unknown, lacking}
use Rattle.mea_meet.proofs.count_part.CountPart.into_wait.Goals as goal

pub returns-in_default : goal.returns-in_default
returns-in_default g c = (unknown _ _ (holder_told (site c.self.inside.points c.self.inside.senders c.self.inside.holders c.self.inside.waits c.self.inside.next c.self.view_is c.self.invariant c.requires.next) c.args.k None (sym c.get.ensures ∙ ap option_copied c.in_default.is)), refl, refl)

pub returns-in_default-insert : goal.returns-in_default-insert
returns-in_default-insert g c = (lacking _ _ (holder_told (site c.self.inside.points c.self.inside.senders c.self.inside.holders c.self.inside.waits c.self.inside.next c.self.view_is c.self.invariant c.requires.next) c.args.k (Some c.in-Some.holder.now) (sym c.get.ensures ∙ ap option_copied c.in-Some.is)) (λ none. none), (untold (site c.self.inside.points c.self.inside.senders c.self.inside.holders c.self.inside.waits c.self.inside.next c.self.view_is c.self.invariant c.requires.next) _ _ _ _ refl refl refl c.in_default-insert.ensures.err).1, refl)

pub remove-requires : goal.remove-requires
remove-requires g c = is_there _ _ (sym c.get.ensures ∙ ap option_copied c.in-Some.is)

pub at_mut-requires : goal.at_mut-requires
at_mut-requires g c = holders_point (site c.self.inside.points c.self.inside.senders c.self.inside.holders c.self.inside.waits c.self.inside.next c.self.view_is c.self.invariant c.requires.next) c.args.k c.in-Some.holder.now (sym c.get.ensures ∙ ap option_copied c.in-Some.is)

pub part-requires-clause-lives : goal.part-requires-clause-lives
part-requires-clause-lives g c = counted_lives (site c.self.inside.points c.self.inside.senders c.self.inside.holders c.self.inside.waits c.self.inside.next c.self.view_is c.self.invariant c.requires.next) c.args.k c.in-Some.holder.now c.at_mut.result.now (sym c.get.ensures ∙ ap option_copied c.in-Some.is) c.at_mut.ensures.value

pub part-requires-clause-quiet : goal.part-requires-clause-quiet
part-requires-clause-quiet g c = (its (site c.self.inside.points c.self.inside.senders c.self.inside.holders c.self.inside.waits c.self.inside.next c.self.view_is c.self.invariant c.requires.next) c.in-Some.holder.now.point c.at_mut.result.now c.at_mut.ensures.value).quiet

pub part-requires-clause-room : goal.part-requires-clause-room
part-requires-clause-room g c = its_room (site c.self.inside.points c.self.inside.senders c.self.inside.holders c.self.inside.waits c.self.inside.next c.self.view_is c.self.invariant c.requires.next) c.in-Some.holder.now.point c.at_mut.result.now c.at_mut.ensures.value c.args.ready.now c.requires.room

pub invariant_of-self-2 : goal.invariant_of-self-2
invariant_of-self-2 g c = (gone_over (site c.self.inside.points c.self.inside.senders c.self.inside.holders c.self.inside.waits c.self.inside.next c.self.view_is c.self.invariant c.requires.next) c.args.k c.in-Some.holder.now c.at_mut.result.now c.requires.free (sym c.get.ensures ∙ ap option_copied c.in-Some.is) c.at_mut.ensures.value c.on_members-future.result c.on_members-future.ensures.point c.on_members-future.ensures.new c.on_members-future.ensures.awaits c.part.new.self c.args.ready.now c.part.new.ready c.part.ensures c.insert.new.self c.in-Ok.ensures.ok c.remove.new.self c.remove.ensures.rest).0

pub returns : goal.returns
returns g c = (gone_over (site c.self.inside.points c.self.inside.senders c.self.inside.holders c.self.inside.waits c.self.inside.next c.self.view_is c.self.invariant c.requires.next) c.args.k c.in-Some.holder.now c.at_mut.result.now c.requires.free (sym c.get.ensures ∙ ap option_copied c.in-Some.is) c.at_mut.ensures.value c.on_members-future.result c.on_members-future.ensures.point c.on_members-future.ensures.new c.on_members-future.ensures.awaits c.part.new.self c.args.ready.now c.part.new.ready c.part.ensures c.insert.new.self c.in-Ok.ensures.ok c.remove.new.self c.remove.ensures.rest).1
