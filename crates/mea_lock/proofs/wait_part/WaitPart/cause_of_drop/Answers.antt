use Rattle.std.proofs.Common.{Some, None, if◌then◌else◌, ◌∙◌, sym, ap}
use Rattle.std.specs.Option.{option_copied}
use Rattle.mea_family.specs.declared.stop.Stop.TheVariants as stops
use Rattle.mea_lock.proofs.WaitEvents.{drop_unknown, drop_known}
use Rattle.mea_lock.proofs.wait_part.WaitPart.cause_of_drop.Goals as goal

pub returns-in-Some-clause-is : goal.returns-in-Some-clause-is
returns-in-Some-clause-is c = c.borrowed_if.ensures ∙ ap (λ b. if b then Some stops.Borrowed else None) c.has_waits.ensures ∙ drop_known c.self.inside.condvars c.self.inside.waits c.self.inside.next c.self.view_is c.self.invariant c.args.c c.in-Some.entry.now (sym c.get.ensures ∙ ap option_copied c.in-Some.is)

pub returns-in-None-clause-is : goal.returns-in-None-clause-is
returns-in-None-clause-is c = drop_unknown c.self.inside.condvars c.self.inside.waits c.self.inside.next c.self.view_is c.args.c (sym c.get.ensures ∙ ap option_copied c.in-None.is)
