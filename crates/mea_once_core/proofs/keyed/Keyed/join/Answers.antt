use Rattle.std.proofs.Common.{◌≡◌, ◌<◌, ◌∙◌, Some, sym, subst}
use Rattle.mea_once_core.specs.Links.{Shown}
use Rattle.mea_once_core.specs.Table.{entry_at}
use Rattle.mea_once_core.specs.Keyed.{Keyed}
use Rattle.mea_once_core.proofs.Keyeds.{kept-joined}
use Rattle.mea_once_core.proofs.keyed.Keyed.join.Goals as goal

pub join-requires : goal.join-requires
join-requires g c = subst (λ (s : Keyed g.row.K.Denot g.row.V.Denot g.row.W.Denot). (e : Shown g.row.V.Denot g.row.W.Denot) × (entry_at s.table c.args.number ≡ Some e) × (e.callers < 18446744073709551615)) (sym c.self.view_is) c.requires

pub invariant_of-self : goal.invariant_of-self
invariant_of-self g c =
    let has = (subst (λ (s : Keyed g.row.K.Denot g.row.V.Denot g.row.W.Denot). (e : Shown g.row.V.Denot g.row.W.Denot) × (entry_at s.table c.args.number ≡ Some e) × (e.callers < 18446744073709551615)) (sym c.self.view_is) c.requires) in
    let k = kept-joined g.K.PartialEq.eq c.self.inside.table c.join.new.self c.args.number has.0 has.1 c.join.ensures c.self.invariant.quiet in
    record { quiet = k.0; counted = c.self.invariant.counted ∙ sym k.1; room = c.self.invariant.room }
