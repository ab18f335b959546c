use Rattle.std.proofs.Common.{◌≡◌, ◌≤◌, ◌∙◌, Some, unwrap_or, refl, ap, sym, subst}
use Rattle.mea_once_core.specs.Links.{Shown}
use Rattle.mea_once_core.specs.Table.{entry_at, HasCaller}
use Rattle.mea_once_core.specs.Keyed.{Keyed, GivesUp}
use Rattle.mea_once_core.proofs.Keyeds.{given-up, given-none, kept-given}
use Rattle.mea_once_core.proofs.keyed.Keyed.give_up.Goals as goal

pub remove_entry-requires : goal.remove_entry-requires
remove_entry-requires g c = subst (λ (s : Keyed g.row.K.Denot g.row.V.Denot g.row.W.Denot). HasCaller s.table c.args.number) (sym c.self.view_is) c.requires

pub invariant_of-self : goal.invariant_of-self
invariant_of-self g c =
    let k = kept-given g.K.PartialEq.eq c.self.inside.table c.remove_entry.new.self c.args.number (subst (λ (s : Keyed g.row.K.Denot g.row.V.Denot g.row.W.Denot). HasCaller s.table c.args.number) (sym c.self.view_is) c.requires) c.remove_entry.ensures.listed c.remove_entry.ensures.unlisted c.self.invariant.quiet in
    record { quiet = k.0; counted = c.self.invariant.counted ∙ sym k.1; room = c.self.invariant.room }

pub returns-then-once : goal.returns-then-once
returns-then-once g c = λ e there.
    let k : Keyed g.row.K.Denot g.row.V.Denot g.row.W.Denot = record { table = c.self.inside.table; wakes = c.self.inside.outbox.wakers } in
    let k' : Keyed g.row.K.Denot g.row.V.Denot g.row.W.Denot = record { table = c.remove_entry.new.self; wakes = c.self.inside.outbox.wakers } in
    let has = (subst (λ (s : Keyed g.row.K.Denot g.row.V.Denot g.row.W.Denot). HasCaller s.table c.args.number) (sym c.self.view_is) c.requires) in
    let here = subst (λ (s : Keyed g.row.K.Denot g.row.V.Denot g.row.W.Denot). entry_at s.table c.args.number ≡ Some e) (sym c.self.view_is) there in
    subst (λ (s : Keyed g.row.K.Denot g.row.V.Denot g.row.W.Denot). GivesUp g.K.PartialEq.eq c.args.once s c.args.number e k') c.self.view_is
    (given-up g.K.PartialEq.eq k k' c.args.number c.args.once e c.if-once.true here
    (subst (λ (x : Shown g.row.V.Denot g.row.W.Denot). 1 ≤ x.callers) (ap (λ y. unwrap_or y has.0) (sym has.1 ∙ here)) has.2)
    c.remove_entry.ensures.listed c.remove_entry.ensures.unlisted refl)

pub returns-else-once : goal.returns-else-once
returns-else-once g c = λ e there. given-none g.K.PartialEq.eq c.args.self.now c.args.self.now c.args.number c.args.once e c.if-once.false there refl
