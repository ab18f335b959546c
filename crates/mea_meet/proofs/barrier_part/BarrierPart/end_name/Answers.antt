use Rattle.std.proofs.Common.{◌-◌, sym, ap, arith, ◌∙◌}
use Rattle.mea_meet.proofs.BarrierSites.{site, barrier_there, its_room, dropped}
use Rattle.mea_family.proofs.Refusals.{borrowed_none}
use Rattle.mea_meet.proofs.barrier_part.BarrierPart.end_name.Goals as goal

pub remove-entry-requires : goal.remove-entry-requires
remove-entry-requires c = barrier_there (site c.self.inside.barriers c.self.inside.waits c.self.inside.next c.self.view_is c.self.invariant c.requires.next) c.args.b (borrowed_none _ _ (sym c.cause_of_drop.ensures.is ∙ c.in_default.is)).0

pub unregister-requires : goal.unregister-requires
unregister-requires c = let fits = its_room (site c.self.inside.barriers c.self.inside.waits c.self.inside.next c.self.view_is c.self.invariant c.requires.next) c.args.b c.remove-entry.result c.remove-entry.ensures.value c.args.ready.now c.requires.room in let many = c.registered.ensures in omega (arith, fits, many)

pub invariant_of-self : goal.invariant_of-self
invariant_of-self c = (dropped (site c.self.inside.barriers c.self.inside.waits c.self.inside.next c.self.view_is c.self.invariant c.requires.next) c.args.b c.remove-entry.result c.remove-entry.ensures.value (sym c.cause_of_drop.ensures.is ∙ c.in_default.is) c.remove-entry.new.self c.remove-entry.ensures.rest c.args.ready.now c.unregister.new.self (c.unregister.ensures ∙ ap (λ n. record c.args.ready.now { registered = c.args.ready.now.registered - n }) c.registered.ensures) c.requires.room).0

pub returns : goal.returns
returns c = (dropped (site c.self.inside.barriers c.self.inside.waits c.self.inside.next c.self.view_is c.self.invariant c.requires.next) c.args.b c.remove-entry.result c.remove-entry.ensures.value (sym c.cause_of_drop.ensures.is ∙ c.in_default.is) c.remove-entry.new.self c.remove-entry.ensures.rest c.args.ready.now c.unregister.new.self (c.unregister.ensures ∙ ap (λ n. record c.args.ready.now { registered = c.args.ready.now.registered - n }) c.registered.ensures) c.requires.room).1
