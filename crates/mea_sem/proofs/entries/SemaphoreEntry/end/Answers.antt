use Rattle.std.proofs.Common.{◌≡◌, ℕ, ◌+◌, rules, arith, ap, length}
use Rattle.mea_base.specs.Ready.{Waking}
use Rattle.mea_sem.specs.declared.entries.SemaphoreEntry.{SemaphoreEntry}
use Rattle.mea_sem.proofs.EndRoom.{end_room}
use Rattle.mea_sem.proofs.entries.SemaphoreEntry.end.Goals as goal

pub hand_on-requires : goal.hand_on-requires
hand_on-requires c =
    let room = end_room c.args.self.now.core c.cancel.new.self c.args.acquire c.waited-waited.result c.requires.quiet c.requires.belongs c.cancel.ensures.cancels c.waited-waited.ensures in
    let same : length c.discount.new.self.core.wakes ≡ length c.cancel.new.self.wakes = ap (λ (x : SemaphoreEntry). length x.core.wakes) c.discount.ensures in
    omega (arith, room, same)

pub unregister-requires : goal.unregister-requires
unregister-requires c =
    let room = end_room c.args.self.now.core c.cancel.new.self c.args.acquire c.waited-waited.result c.requires.quiet c.requires.belongs c.cancel.ensures.cancels c.waited-waited.ensures in
    let same : length c.discount.new.self.core.wakes ≡ length c.cancel.new.self.wakes = ap (λ (x : SemaphoreEntry). length x.core.wakes) c.discount.ensures in
    omega (arith, room, same, c.requires.room, c.hand_on.ensures.counted)

-- as many wakers left the queue as were handed on, and that of an acquire that waited
pub returns-clause-ends : goal.returns-clause-ends
returns-clause-ends c =
    let room = end_room c.args.self.now.core c.cancel.new.self c.args.acquire c.waited-waited.result c.requires.quiet c.requires.belongs c.cancel.ensures.cancels c.waited-waited.ensures in
    let same : length c.discount.new.self.core.wakes ≡ length c.cancel.new.self.wakes = ap (λ (x : SemaphoreEntry). length x.core.wakes) c.discount.ensures in
    let fewer = ap (λ (w : Waking ℕ). w.registered) c.unregister.ensures in
    (length c.discount.new.self.core.wakes + c.waited-waited.result, search rules, omega (arith, room, same, c.requires.room, c.hand_on.ensures.counted, fewer))
