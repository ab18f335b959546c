use Rattle.std.proofs.Common.{rules, ◌≡◌, ◌<◌, Some, is_some, ap, sym, subst, arith}
use Rattle.mea_once_core.specs.Permit.{MayEnd}
use Rattle.mea_once_core.specs.Links.{Shown}
use Rattle.mea_once_core.specs.Table.{entry_at}
use Rattle.mea_once_core.specs.Keyed.{Keyed, EndsCell}
use Rattle.mea_once_core.proofs.Keyeds.{moved, room-after}
use Rattle.mea_once_core.proofs.keyed.Keyed.end_cell.Goals as goal

pub move_wakes-requires-clause-there : goal.move_wakes-requires-clause-there
move_wakes-requires-clause-there g c = let has = (subst (λ (s : Keyed g.row.K.Denot g.row.V.Denot g.row.W.Denot). (e : Shown g.row.V.Denot g.row.W.Denot) × (entry_at s.table c.args.number ≡ Some e) × MayEnd e.cell.permit c.args.call.stage) (sym c.self.view_is) c.requires.may) in let p = c.end_init.ensures.ends has.0 has.1 in ap is_some p.sets.0.changed

pub move_wakes-requires-clause-room : goal.move_wakes-requires-clause-room
move_wakes-requires-clause-room g c = λ s there.
    let has = (subst (λ (s : Keyed g.row.K.Denot g.row.V.Denot g.row.W.Denot). (e : Shown g.row.V.Denot g.row.W.Denot) × (entry_at s.table c.args.number ≡ Some e) × MayEnd e.cell.permit c.args.call.stage) (sym c.self.view_is) c.requires.may) in
    let p = c.end_init.ensures.ends has.0 has.1 in
    let room = c.self.invariant.room in
    room-after g.K.PartialEq.eq c.self.inside.table c.end_init.new.self c.args.number 0 c.self.inside.waiting c.self.inside.outbox.spare has.0 p.cell has.1 c.self.invariant.quiet c.self.invariant.counted p.few p.sets (omega arith) s there

pub cell-requires-2 : goal.cell-requires-2
cell-requires-2 g c =
    let has = (subst (λ (s : Keyed g.row.K.Denot g.row.V.Denot g.row.W.Denot). (e : Shown g.row.V.Denot g.row.W.Denot) × (entry_at s.table c.args.number ≡ Some e) × MayEnd e.cell.permit c.args.call.stage) (sym c.self.view_is) c.requires.may) in
    let p = c.end_init.ensures.ends has.0 has.1 in
    let r = c.move_wakes.ensures.rests (record has.0 { cell = p.cell }) p.sets.0.changed in
    ap is_some r.sets.0.changed

pub overflow_add-self : goal.overflow_add-self
overflow_add-self g c =
    let has = (subst (λ (s : Keyed g.row.K.Denot g.row.V.Denot g.row.W.Denot). (e : Shown g.row.V.Denot g.row.W.Denot) × (entry_at s.table c.args.number ≡ Some e) × MayEnd e.cell.permit c.args.call.stage) (sym c.self.view_is) c.requires.may) in
    let p = c.end_init.ensures.ends has.0 has.1 in
    let room = c.self.invariant.room in
    let m = moved g.K.PartialEq.eq c.self.inside.table c.end_init.new.self c.move_wakes.new.self c.args.number 0 c.self.inside.waiting c.waiting-before.result c.waiting.result c.self.inside.outbox c.move_wakes.new.out has.0 p.cell c.cell.result.now c.cell-2.result.now
    has.1 c.self.invariant.quiet c.self.invariant.counted p.few p.sets (omega arith) c.move_wakes.ensures.rests c.cell.ensures c.waiting-before.ensures c.cell-2.ensures c.waiting.ensures in
    let most = m.most in
    let fits : c.self.inside.waiting < 18446744073709551616 = search rules in
    omega arith

pub invariant_of-self : goal.invariant_of-self
invariant_of-self g c =
    let has = (subst (λ (s : Keyed g.row.K.Denot g.row.V.Denot g.row.W.Denot). (e : Shown g.row.V.Denot g.row.W.Denot) × (entry_at s.table c.args.number ≡ Some e) × MayEnd e.cell.permit c.args.call.stage) (sym c.self.view_is) c.requires.may) in
    let p = c.end_init.ensures.ends has.0 has.1 in
    let room = c.self.invariant.room in
    let m = moved g.K.PartialEq.eq c.self.inside.table c.end_init.new.self c.move_wakes.new.self c.args.number 0 c.self.inside.waiting c.waiting-before.result c.waiting.result c.self.inside.outbox c.move_wakes.new.out has.0 p.cell c.cell.result.now c.cell-2.result.now
    has.1 c.self.invariant.quiet c.self.invariant.counted p.few p.sets (omega arith) c.move_wakes.ensures.rests c.cell.ensures c.waiting-before.ensures c.cell-2.ensures c.waiting.ensures in
    record { quiet = m.quiet; counted = m.counted; room = m.room }

pub returns : goal.returns
returns g c = record {
  ends = λ e there.
      let here = subst (λ (s : Keyed g.row.K.Denot g.row.V.Denot g.row.W.Denot). entry_at s.table c.args.number ≡ Some e) (sym c.self.view_is) there in
      let p = c.end_init.ensures.ends e here in
      let room = c.self.invariant.room in
      let m = moved g.K.PartialEq.eq c.self.inside.table c.end_init.new.self c.move_wakes.new.self c.args.number 0 c.self.inside.waiting c.waiting-before.result c.waiting.result c.self.inside.outbox c.move_wakes.new.out e p.cell c.cell.result.now c.cell-2.result.now
      here c.self.invariant.quiet c.self.invariant.counted p.few p.sets (omega arith) c.move_wakes.ensures.rests c.cell.ensures c.waiting-before.ensures c.cell-2.ensures c.waiting.ensures in
      let k' : Keyed g.row.K.Denot g.row.V.Denot g.row.W.Denot = record { table = c.move_wakes.new.self; wakes = c.move_wakes.new.out.wakers } in
      subst (λ (s : Keyed g.row.K.Denot g.row.V.Denot g.row.W.Denot). EndsCell g.K.PartialEq.eq s c.args.number e c.args.call.stage k') c.self.view_is
      (record { cell = p.cell; ends = p.ends; sets = m.sets; wakes = m.wakers });
}
