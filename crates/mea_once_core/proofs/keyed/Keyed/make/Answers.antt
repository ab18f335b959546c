use Rattle.std.proofs.Common.{◌≡◌, ◌∙◌, None, sym, subst}
use Rattle.mea_once_core.specs.Keyed.{Keyed}
use Rattle.mea_once_core.specs.Table.{number_of}
use Rattle.mea_once_core.proofs.Keyeds.{kept-made}
use Rattle.mea_once_core.proofs.keyed.Keyed.make.Goals as goal

pub invariant_of-self : goal.invariant_of-self
invariant_of-self g c =
    let k = kept-made g.K.PartialEq.eq c.self.inside.table c.get_or_insert.new.self c.args.key c.get_or_insert.result (c.get_or_insert.ensures.made (subst (λ (s : Keyed g.row.K.Denot g.row.V.Denot g.row.W.Denot). number_of g.K.PartialEq.eq s.table c.args.key ≡ None) (sym c.self.view_is) c.requires)) c.get_or_insert.ensures.err c.self.invariant.quiet in
    record { quiet = k.0; counted = c.self.invariant.counted ∙ sym k.1; room = c.self.invariant.room }
