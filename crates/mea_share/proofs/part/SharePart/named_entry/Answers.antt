use Rattle.std.proofs.Common.{Some, None, is_some, ap, sym, ◌∙◌}
use Rattle.std.specs.Option.{option_copied}
use Rattle.mea_share.proofs.LookUps.{named_of, plain_of_it, stands_for_it}
use Rattle.mea_share.proofs.part.SharePart.named_entry.Goals as goal

pub returns-in_err-entry-clause-named : goal.returns-in_err-entry-clause-named
returns-in_err-entry-clause-named c = ap is_some c.from_residual.ensures ∙ named_of c.self.inside.admissions c.self.inside.futures c.self.inside.permits.things c.self.inside.next c.self.view_is c.args.o None (sym c.get.ensures ∙ ap option_copied c.in_err-entry.was)

pub returns-then-is_named-clause-named : goal.returns-then-is_named-clause-named
returns-then-is_named-clause-named c = sym c.if-is_named.true ∙ c.is_named.ensures ∙ named_of c.self.inside.admissions c.self.inside.futures c.self.inside.permits.things c.self.inside.next c.self.view_is c.args.o (Some c.in_ok-entry.entry.now) (sym c.get.ensures ∙ ap option_copied c.in_ok-entry.was)

pub returns-then-is_named-clause-plain : goal.returns-then-is_named-clause-plain
returns-then-is_named-clause-plain c = plain_of_it c.self.inside.admissions c.self.inside.futures c.self.inside.permits.things c.self.inside.next c.self.view_is c.self.invariant c.args.o c.in_ok-entry.entry.now (sym c.get.ensures ∙ ap option_copied c.in_ok-entry.was)

pub returns-then-is_named-clause-stands : goal.returns-then-is_named-clause-stands
returns-then-is_named-clause-stands c = stands_for_it c.self.inside.admissions c.self.inside.futures c.self.inside.permits.things c.self.inside.next c.self.view_is c.self.invariant c.args.o c.in_ok-entry.entry.now (sym c.get.ensures ∙ ap option_copied c.in_ok-entry.was) (sym c.is_named.ensures ∙ c.if-is_named.true)

pub returns-then-is_named-clause-waiting : goal.returns-then-is_named-clause-waiting
returns-then-is_named-clause-waiting c = (c.self.invariant.hall.each c.args.o c.in_ok-entry.entry.now (sym c.get.ensures ∙ ap option_copied c.in_ok-entry.was)).good.waiting

pub returns-else-is_named-clause-named : goal.returns-else-is_named-clause-named
returns-else-is_named-clause-named c = sym c.if-is_named.false ∙ c.is_named.ensures ∙ named_of c.self.inside.admissions c.self.inside.futures c.self.inside.permits.things c.self.inside.next c.self.view_is c.args.o (Some c.in_ok-entry.entry.now) (sym c.get.ensures ∙ ap option_copied c.in_ok-entry.was)
