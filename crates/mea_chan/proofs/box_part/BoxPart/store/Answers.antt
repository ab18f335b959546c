use Rattle.std.proofs.Common.{Some, inr, refl, sym, ap, ◌∙◌}
use Rattle.std.specs.Option.{option_copied_mut}
use Rattle.mea_by_name.proofs.Own.{insert_same}
use Rattle.mea_chan_model.specs.declared.box_action.BoxAction.TheVariants.{Store}
use Rattle.mea_chan.proofs.BoxEvents.{costs, cause_is}
use Rattle.mea_chan.proofs.box_part.BoxPart.store.Goals as goal

pub returns-in_default-swap : goal.returns-in_default-swap
returns-in_default-swap g c = (inr ((cause_is c.self.inside.boxes c.self.view_is c.args.b (Store c.args.b c.args.content) (λ h. refl) (Some c.in-Some.entry.now) (sym c.get_mut.ensures.value ∙ ap option_copied_mut c.in-Some.is)), refl, costs c.args.content c.in_default-swap.ensures.empty), rw c.in_default-swap.ensures.err (insert_same c.self.inside.boxes c.args.b c.in-Some.entry.now (sym c.get_mut.ensures.value ∙ ap option_copied_mut c.in-Some.is)) ∙ c.self.view_is)
