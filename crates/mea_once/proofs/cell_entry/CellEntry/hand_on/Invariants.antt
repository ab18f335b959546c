use Rattle.std.proofs.Common.{◌≡◌, ◌+◌, ◌≤◌, ◌++◌, length, map}
use Rattle.mea_once.specs.Entries.{keeps, rested}
use Rattle.mea_once.proofs.cell_entry.CellEntry.hand_on.Given as goal

-- what was handed on and what is still there are what there was
abbrev pub invariant-loop-next : goal.invariant-loop-next
invariant-loop-next g l = record {
  rest : record { cell = rested (g.C.TurnCore.seen_as l.self-inside.core); running = l.self-inside.running; futures = l.self-inside.futures; alone = l.self-inside.alone } ≡ record l.fn.self { cell = rested l.fn.self.cell };
  moved : l.ready.wakers ++ map (λ k. k.waker) (g.C.TurnCore.seen_as l.self-inside.core).permit.wakes ≡ l.fn.ready.wakers ++ map (λ k. k.waker) l.fn.self.cell.permit.wakes;
  counted : l.ready.registered + l.more ≡ l.fn.ready.registered + keeps l.fn.self + l.gone;
  fits : length (g.C.TurnCore.seen_as l.self-inside.core).permit.wakes ≤ l.gone;
  room : l.more ≤ l.fn.ready.registered;
}

abbrev pub decreases-loop-next : goal.decreases-loop-next
decreases-loop-next g l = length (g.C.TurnCore.seen_as l.self-inside.core).permit.wakes
