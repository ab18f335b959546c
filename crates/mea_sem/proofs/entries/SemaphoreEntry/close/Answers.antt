use Rattle.std.proofs.Common.{◌≡◌, ◌+◌, ◌++◌, ap, sym, length, ◌∙◌}
use Rattle.mea_sem_core.specs.Core as cores
use Rattle.mea_sem.proofs.Turns.{closing_wakes, closing_room}
use Rattle.mea_sem.proofs.entries.SemaphoreEntry.close.Goals as goal
use Rattle.std.proofs.Common.{arith}

pub hand_on-requires : goal.hand_on-requires
hand_on-requires c =
    let room = closing_room c.args.self.now.core c.requires.quiet in
    let same : length c.close.new.self.wakes ≡ length (cores.closed_core c.args.self.now.core).wakes =
    ap (λ x. length x.wakes) c.close.ensures.closes in
    omega (arith, room, same)

pub returns-clause-moved : goal.returns-clause-moved
returns-clause-moved c = c.hand_on.ensures.moved
    ∙ ap (λ ws. c.args.ready.now.wakers ++ ws) (ap (λ x. x.wakes) c.close.ensures.closes ∙ closing_wakes c.args.self.now.core c.requires.quiet)

pub returns-clause-counted : goal.returns-clause-counted
returns-clause-counted c = ap (λ ws. c.hand_on.new.ready.registered + length ws) (sym (ap (λ x. x.wakes) c.close.ensures.closes ∙ closing_wakes c.args.self.now.core c.requires.quiet))
    ∙ c.hand_on.ensures.counted
