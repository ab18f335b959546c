use Rattle.std.proofs.Common.{None, Some, is_some, ap, sym, ◌∙◌}
use Rattle.std.specs.Option.{option_copied}
use Rattle.mea_lock.proofs.PartEvents.{named_of, things_of_it, plain_of_it, stands_for_it}
use Rattle.mea_lock.proofs.part.LockPart.named_entry.Goals as goal

pub returns-in_err-entry-clause-named : goal.returns-in_err-entry-clause-named
returns-in_err-entry-clause-named g c = ap is_some c.from_residual.ensures ∙ named_of c.self.inside.locks c.self.inside.futures c.self.inside.guards.things c.self.inside.next c.self.view_is c.args.o None (sym c.get.ensures ∙ ap option_copied c.in_err-entry.was)

pub returns-then-is_named-clause-named : goal.returns-then-is_named-clause-named
returns-then-is_named-clause-named g c = sym c.if-is_named.true ∙ c.is_named.ensures ∙ named_of c.self.inside.locks c.self.inside.futures c.self.inside.guards.things c.self.inside.next c.self.view_is c.args.o (Some c.in_ok-entry.entry.now) (sym c.get.ensures ∙ ap option_copied c.in_ok-entry.was)

pub returns-then-is_named-clause-things : goal.returns-then-is_named-clause-things
returns-then-is_named-clause-things g c = things_of_it c.self.inside.locks c.self.inside.futures c.self.inside.guards.things c.self.inside.next c.self.view_is c.self.invariant c.args.o c.in_ok-entry.entry.now (sym c.get.ensures ∙ ap option_copied c.in_ok-entry.was)

pub returns-then-is_named-clause-plain : goal.returns-then-is_named-clause-plain
returns-then-is_named-clause-plain g c = plain_of_it c.self.inside.locks c.self.inside.futures c.self.inside.guards.things c.self.inside.next c.self.view_is c.self.invariant c.args.o c.in_ok-entry.entry.now (sym c.get.ensures ∙ ap option_copied c.in_ok-entry.was)

pub returns-then-is_named-clause-stands : goal.returns-then-is_named-clause-stands
returns-then-is_named-clause-stands g c = stands_for_it c.self.inside.locks c.self.inside.futures c.self.inside.guards.things c.self.inside.next c.self.view_is c.self.invariant c.args.o c.in_ok-entry.entry.now (sym c.get.ensures ∙ ap option_copied c.in_ok-entry.was) (sym c.is_named.ensures ∙ c.if-is_named.true)

pub returns-else-is_named-clause-named : goal.returns-else-is_named-clause-named
returns-else-is_named-clause-named g c = sym c.if-is_named.false ∙ c.is_named.ensures ∙ named_of c.self.inside.locks c.self.inside.futures c.self.inside.guards.things c.self.inside.next c.self.view_is c.args.o (Some c.in_ok-entry.entry.now) (sym c.get.ensures ∙ ap option_copied c.in_ok-entry.was)
