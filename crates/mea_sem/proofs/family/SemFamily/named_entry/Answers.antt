use Rattle.std.proofs.Common.{ap, sym, ◌∙◌}
use Rattle.std.specs.Option.{option_copied, is_some}
use Rattle.mea_sem.proofs.Refusals.{named-some, named-missing, live_as, plain_as, stands_as}
use Rattle.mea_sem.proofs.Endings.{living_in}
use Rattle.mea_sem.proofs.Lists.{alone}
use Rattle.mea_sem.proofs.Inside.{seen_alone}
use Rattle.mea_sem.proofs.family.SemFamily.named_entry.Goals as goal

pub returns-in_err-entry-clause-named : goal.returns-in_err-entry-clause-named
returns-in_err-entry-clause-named c =
    ap is_some c.from_residual.ensures ∙ sym (named-missing (alone c.self.inside) (seen_alone c.self.view_is) c.args.s (sym c.get.ensures.value ∙ ap option_copied c.in_err-entry.was))

pub returns-then-entry-clause-named : goal.returns-then-entry-clause-named
returns-then-entry-clause-named c =
    sym
    (named-some (alone c.self.inside) (seen_alone c.self.view_is) c.args.s c.in_ok-entry.entry.now (living_in (alone c.self.inside) _ _ (sym c.get.ensures.value ∙ ap option_copied c.in_ok-entry.was)) ∙ c.if-entry.true)

pub returns-else-entry-clause-named : goal.returns-else-entry-clause-named
returns-else-entry-clause-named c =
    sym
    (named-some (alone c.self.inside) (seen_alone c.self.view_is) c.args.s c.in_ok-entry.entry.now (living_in (alone c.self.inside) _ _ (sym c.get.ensures.value ∙ ap option_copied c.in_ok-entry.was)) ∙ c.if-entry.false)

pub returns-then-entry-clause-live : goal.returns-then-entry-clause-live
returns-then-entry-clause-live c =
    live_as (alone c.self.inside) (seen_alone c.self.view_is) c.self.invariant c.args.s c.in_ok-entry.entry.now
    (living_in (alone c.self.inside) _ _ (sym c.get.ensures.value ∙ ap option_copied c.in_ok-entry.was))

pub returns-then-entry-clause-plain : goal.returns-then-entry-clause-plain
returns-then-entry-clause-plain c =
    plain_as (alone c.self.inside) (seen_alone c.self.view_is) c.self.invariant c.args.s c.in_ok-entry.entry.now
    (living_in (alone c.self.inside) _ _ (sym c.get.ensures.value ∙ ap option_copied c.in_ok-entry.was))

pub returns-then-entry-clause-stands : goal.returns-then-entry-clause-stands
returns-then-entry-clause-stands c =
    stands_as (alone c.self.inside) (seen_alone c.self.view_is) c.self.invariant c.args.s c.in_ok-entry.entry.now
    (living_in (alone c.self.inside) _ _ (sym c.get.ensures.value ∙ ap option_copied c.in_ok-entry.was))
