use Rattle.std.proofs.Common.{◌++◌, ◌∷◌, [], ap, sym, subst, ◌∙◌, arith, refl, ◌<◌, ◌^◌}
use Rattle.mea_task_core.specs.contracts.executor.Executor.{the_view}
use Rattle.mea_task_core.specs.Machine.{Machine}
use Rattle.mea_task_core.proofs.Adds.{kept_made}
use Rattle.mea_task_core.proofs.executor.Executor.add_semaphore.Goals as goal

pub invariant_of-self-2 : goal.invariant_of-self-2
invariant_of-self-2 c =
    let m : Machine = the_view c.self.inside in
    let few : c.self.inside.events < 2 ^ 62 = subst (λ (a : Machine). a.events < 2 ^ 62) (sym c.self.view_is) c.requires in
    let fits : c.args.permits < 2 ^ 64 = omega (arith, c.ranges.permits.fits) in
    kept_made m c.self.inside.hall c.act.new.self c.args.permits c.in-Ok.field-0 c.push_reserved.new.self.items c.self.inside.queue.room c.self.invariant refl fits few c.in-Ok.ensures.played
    (c.push_reserved.ensures.items ∙ ap (λ ns. ns ++ c.self.inside.events ∷ []) c.reserve.ensures.items)
