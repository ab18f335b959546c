use Rattle.std.proofs.Common.{rules, ◌≡◌, Some, refl, sym, subst}
use Rattle.slab.specs.Slab as slab
use Rattle.mea_once_core.specs.Table.{Table, entry_at, PollsEntry}
use Rattle.mea_once_core.proofs.Tables.{linked-polled, polls-entry}
use Rattle.mea_once_core.proofs.once_table.OnceTable.poll_init.Goals as goal

pub invariant_of-self : goal.invariant_of-self
invariant_of-self g c =
    linked-polled g.I.Init.answers c.self.inside.entries c.poll_init.new.entries c.self.inside.numbers.entries c.args.number c.args.call.now c.poll_init.new.call c.args.waker c.poll_init.result
    (slab.get c.self.inside.entries c.args.number) refl (search rules) c.poll_init.ensures.polls c.self.invariant

pub returns-clause-polls : goal.returns-clause-polls
returns-clause-polls g c =
    let t : Table g.row.K.Denot g.row.V.Denot g.row.W.Denot = record { slots = c.self.inside.entries.slots; pairs = c.self.inside.numbers.entries } in
    let t' : Table g.row.K.Denot g.row.V.Denot g.row.W.Denot = record { slots = c.poll_init.new.entries.slots; pairs = c.self.inside.numbers.entries } in
    λ e there.
    subst (λ (s : Table g.row.K.Denot g.row.V.Denot g.row.W.Denot). PollsEntry g.I.Init.answers g.K.PartialEq.eq s c.args.number e c.args.call.now c.args.waker c.poll_init.result t' c.poll_init.new.call) c.self.view_is
    (polls-entry g.I.Init.answers g.K.PartialEq.eq t t' c.args.number c.args.call.now c.poll_init.new.call c.args.waker c.poll_init.result (slab.get c.self.inside.entries c.args.number) refl c.poll_init.ensures.polls refl e
    (subst (λ (s : Table g.row.K.Denot g.row.V.Denot g.row.W.Denot). entry_at s c.args.number ≡ Some e) (sym c.self.view_is) there))
