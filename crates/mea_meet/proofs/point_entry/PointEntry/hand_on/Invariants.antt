use Rattle.std.proofs.Common.{◌≡◌, ◌+◌, ◌≤◌, ◌++◌, length, map}
use Rattle.mea_meet.specs.CountCores.{handed_on}
use Rattle.mea_meet.proofs.point_entry.PointEntry.hand_on.Given as goal

-- what was handed on and what is still there are what there was
abbrev pub invariant-loop-next : goal.invariant-loop-next
invariant-loop-next g l = record {
  rest : record { point = handed_on (g.C.CountCore.point_of l.self-inside.core); things = l.self-inside.things } ≡ record l.fn.self { point = handed_on l.fn.self.point };
  moved : l.ready.wakers ++ map (λ k. k.waker) (g.C.CountCore.point_of l.self-inside.core).wakes ≡ l.fn.ready.wakers ++ map (λ k. k.waker) l.fn.self.point.wakes;
  counted : l.ready.registered + length l.fn.self.point.wakes ≡ l.fn.ready.registered + length (g.C.CountCore.point_of l.self-inside.core).wakes;
  room : length l.fn.self.point.wakes ≤ l.fn.ready.registered;
}

abbrev pub decreases-loop-next : goal.decreases-loop-next
decreases-loop-next g l = length (g.C.CountCore.point_of l.self-inside.core).wakes
