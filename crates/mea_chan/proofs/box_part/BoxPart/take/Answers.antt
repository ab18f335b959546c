use Rattle.std.proofs.Common.{None, inl, refl, sym, ◌∙◌}
use Rattle.mea_by_name.proofs.Own.{gone_none}
use Rattle.mea_chan_model.specs.declared.box_action.BoxAction.TheVariants.{TakeOut}
use Rattle.mea_chan.proofs.BoxEvents.{cause_is}
use Rattle.mea_chan.proofs.box_part.BoxPart.take.Goals as goal

pub returns-in_default : goal.returns-in_default
returns-in_default g c = (inl (cause_is c.self.inside.boxes c.self.view_is c.args.b (TakeOut c.args.b) (λ h. refl) None (sym c.take.ensures.value ∙ c.in_default.is), (λ no. absurd (cc))), rw (c.take.ensures.rest, gone_none c.self.inside.boxes c.args.b (sym c.take.ensures.value ∙ c.in_default.is)) c.self.view_is)
