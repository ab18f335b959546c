use Rattle.std.proofs.Common.{inl, sym, subst, arith}
use Rattle.mea_once_core.specs.Links.{Shown}
use Rattle.mea_once_core.specs.Permit.{MayPoll}
use Rattle.mea_once_core.specs.Table.{fresh_entry}
use Rattle.mea_once_core.proofs.Keyeds.{asks-fresh}
use Rattle.mea_once_core.proofs.Refusals.{none-back, fresh-back}
use Rattle.mea_once_core.proofs.keyed.Keyed.begin_new.Goals as goal

pub go_on-requires-clause-may : goal.go_on-requires-clause-may
go_on-requires-clause-may g c =
    let e : Shown g.row.V.Denot g.row.W.Denot = fresh_entry in
    (e, c.in-Ok.ensures.made.entries.changed, omega arith, subst (MayPoll e.cell.permit) (sym c.requires.new) tt)

pub returns-in-Ok-clause-starts : goal.returns-in-Ok-clause-starts
returns-in-Ok-clause-starts g c =
    inl (
      c.in-Ok.number,
      c.make.new.self,
      c.in-Ok.ensures.made,
      c.in-Ok.ensures.wakes,
      asks-fresh g.I.Init.answers g.K.PartialEq.eq c.args.once c.make.new.self c.in-Ok.number c.args.call.now.call c.args.waker c.go_on.result c.go_on.new.self c.go_on.new.call.call c.go_on.new.call.stage c.requires.new
          (c.go_on.ensures.polls fresh_entry c.in-Ok.ensures.made.entries.changed),
    )

pub returns-in-Ok-clause-back : goal.returns-in-Ok-clause-back
returns-in-Ok-clause-back g c =
    none-back _ c.go_on.result
    (fresh-back g.I.Init.answers g.K.PartialEq.eq c.args.once c.make.new.self c.in-Ok.number c.args.call.now.call c.args.waker c.go_on.result c.go_on.new.self c.go_on.new.call.call c.go_on.new.call.stage c.requires.new
    (c.go_on.ensures.polls fresh_entry c.in-Ok.ensures.made.entries.changed))
