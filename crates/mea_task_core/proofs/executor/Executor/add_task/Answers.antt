use Rattle.std.proofs.Common.{◌≡◌, ◌+◌, ◌≤◌, ◌^◌, ◌++◌, ◌∷◌, [], None, not, length, ap, sym, ◌∙◌, arith}
use Rattle.std.specs.List.{position}
use Rattle.mea_task_core.specs.contracts.executor.Executor.{the_view}
use Rattle.mea_task_core.specs.Machine.{Machine}
use Rattle.mea_task_core.specs.Bounds.{takes_and_yields}
use Rattle.mea_task_core.specs.Adding.{is_known, first_unknown, size_with}
use Rattle.mea_task_core.proofs.Ends.{queue_fits}
use Rattle.mea_task_core.proofs.Adds.{kept_added}
use Rattle.mea_task_core.proofs.executor.Executor.add_task.Goals as goal

pub push-requires : goal.push-requires
push-requires c =
    let fits = queue_fits _ c.self.invariant.sound in
    omega (arith, fits, c.in-Ok-reserve.ensures.room, ap length c.reserve-2.ensures.tasks, c.len-task.ensures, c.self.inside.tasks.ok.0)

pub invariant_of-self-2 : goal.invariant_of-self-2
invariant_of-self-2 c =
    let m : Machine = the_view c.self.inside in
    let count : c.len.result ≡ length c.self.inside.semaphores.items = c.len.ensures ∙ c.self.inside.semaphores.ok.0 in
    let known : first_unknown m c.args.steps.items ≡ None =
    ap (λ k. position (λ s. not (is_known k s)) c.args.steps.items) (sym count) ∙ ap (position (λ s. not (is_known c.len.result s))) (sym c.as_slice.ensures.value) ∙ sym c.first_unknown.ensures ∙ c.in_default.is in
    let sized = c.in-Some-size_with.ensures.some in
    let few : size_with m c.args.steps.items ≤ 2 ^ 60 = omega (arith, sized.0, sized.1, c.len-2.ensures, c.args.steps.ok.0) in
    let tasks = c.push_reserved.ensures.items ∙ ap (λ ts. ts ++ c.new.result ∷ []) c.reserve.ensures.items ∙ ap (λ x. c.self.inside.tasks.items ++ x ∷ []) c.new.ensures in
    let queue = ap (λ q. q.tasks) c.push.ensures ∙ ap (λ ts. ts ++ c.len-task.result ∷ []) c.reserve-2.ensures.tasks ∙ ap (λ k. c.self.inside.queue.tasks ++ k ∷ []) (c.len-task.ensures ∙ c.self.inside.tasks.ok.0) in
    let added : c.in-Some-size_with.size ≡ m.added + (length c.args.steps.items + 1) = omega (arith, sized.0, c.len-2.ensures, c.args.steps.ok.0) in
    let turns : c.self.inside.allowance + (c.takes_and_yields-turns.result + 1) ≡ m.allowance + (takes_and_yields c.args.steps.items + 1) =
    ap (λ k. c.self.inside.allowance + (k + 1)) (c.takes_and_yields-turns.ensures ∙ ap takes_and_yields c.as_slice-2.ensures.value) in
    kept_added m _ c.self.inside.hall c.args.steps.items c.self.inside.queue.room c.push.new.self.room c.self.invariant (record { known = known; few = few })
    (λ i. record { hall = c.self.inside.hall.hall; events = c.self.inside.events; semaphores = c.self.inside.semaphores.items; tasks = tasks i; queue = queue i; running = c.self.inside.running; polls = c.self.inside.polls; added = added i; allowance = turns i })
    (let room = ap (λ q. q.room) c.push.ensures in omega (arith, room, c.in-Ok-reserve.ensures.room, c.len-task.ensures, c.self.inside.tasks.ok.0))
