use Rattle.std.proofs.Common.{subst}
use Rattle.mea_share_model.specs.Actions.{Action}
use Rattle.mea_share_model.specs.Meaning.{meaning_of}
use Rattle.mea_share.specs.Halls.{Acts}
use Rattle.mea_share.proofs.Playing.{told}
use Rattle.mea_share.proofs.family.ShareFamilyFamilyShareModel.act.Goals as goal

pub returns : goal.returns
returns c =
    let old = c.self.inside.admissions in
    let law = c.wakes_are_of_the_registered.ensures.grows old.hall c.args.number c.args.event.now in
    let acts = subst (λ (a : Action). Acts old c.args.number a c.act.result c.act.new.self c.args.ready.now c.act.new.ready) c.meaning_of.ensures c.act.ensures in
    let t = told old c.args.number (meaning_of c.args.event.now) c.act.new.self c.args.ready.now c.act.new.ready law c.act.result acts in
    rw (← c.self.view_is) record { played = t.0; grows = t.1; allowed = t.2; refused = t.3; no_memory = t.4; err = t.5 }
