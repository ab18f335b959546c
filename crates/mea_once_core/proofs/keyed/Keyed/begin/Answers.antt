use Rattle.std.proofs.Common.{rules, ◌≡◌, Some, IsSome, sym, subst}
use Rattle.mea_base.proofs.Maps.{value_in}
use Rattle.mea_once_core.specs.Keyed.{Keyed, MayPollAt}
use Rattle.mea_once_core.specs.Table.{entry_at, number_of}
use Rattle.mea_once_core.specs.declared.key_call.KeyStage.TheVariants.{New}
use Rattle.mea_once_core.proofs.keyed.Keyed.begin.Goals as goal

pub begin_at-requires-clause-there : goal.begin_at-requires-clause-there
begin_at-requires-clause-there g c =
    let at : c.args.call.now.stage ≡ New c.in-New.key = search rules in
    let may = subst (λ s. MayPollAt g.K.PartialEq.eq s c.args.self.now c.args.call.now.call) at c.requires.may in
    let e = value_in (entry_at c.args.self.now.table c.in-Some.number) (subst (λ (s : Keyed g.row.K.Denot g.row.V.Denot g.row.W.Denot). IsSome (entry_at s.table c.in-Some.number)) c.self.view_is c.in-Some.ensures.in_use) in
    (e.0, e.1, may.0 c.in-Some.number e.0 (subst (λ (s : Keyed g.row.K.Denot g.row.V.Denot g.row.W.Denot). number_of g.K.PartialEq.eq s.table c.in-New.key ≡ Some c.in-Some.number) c.self.view_is (sym c.in-Some.ensures.is)) e.1)
