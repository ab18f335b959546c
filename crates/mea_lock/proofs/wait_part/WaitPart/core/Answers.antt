use Rattle.std.proofs.Common.{is_some, ◌∙◌, sym, subst, ap}
use Rattle.std.specs.Option.{option_copied}
use Rattle.mea_lock.specs.Lends.{ListsAs}
use Rattle.mea_lock.proofs.WaitEvents.{condvar_of, lists_it}
use Rattle.mea_lock.proofs.wait_part.WaitPart.core.Goals as goal

pub returns-in_err-entry-clause-there : goal.returns-in_err-entry-clause-there
returns-in_err-entry-clause-there c = ap is_some c.from_residual.ensures ∙ ap is_some (sym (sym c.get.ensures ∙ ap option_copied c.in_err-entry.was)) ∙ condvar_of c.self.inside.condvars c.self.inside.waits c.self.inside.next c.self.view_is c.args.c

pub returns-clause-there : goal.returns-clause-there
returns-clause-there c = ap is_some (sym (sym c.get.ensures ∙ ap option_copied c.in_ok-entry.was)) ∙ condvar_of c.self.inside.condvars c.self.inside.waits c.self.inside.next c.self.view_is c.args.c

pub returns-clause-lists : goal.returns-clause-lists
returns-clause-lists c = subst (ListsAs c.args.self.now.hall c.args.c) (sym c.core.ensures) (lists_it c.self.inside.condvars c.self.inside.waits c.self.inside.next c.self.view_is c.self.invariant c.args.c c.in_ok-entry.entry.now (sym c.get.ensures ∙ ap option_copied c.in_ok-entry.was))
