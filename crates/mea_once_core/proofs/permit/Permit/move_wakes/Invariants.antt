use Rattle.std.proofs.Common.{◌≡◌, ◌+◌, ◌++◌, length}
use Rattle.mea_once_core.specs.Permit.{IsPermit}
use Rattle.mea_once_core.proofs.permit.Permit.move_wakes.Given as goal

-- the wakers that were moved and those that are left are those that there were
abbrev pub invariant-loop-waker : goal.invariant-loop-waker
invariant-loop-waker g l =
    record {
      rest : l.self ≡ record l.initial.self { wakes = l.self.wakes };
      moved : l.out.wakers ++ l.self.wakes ≡ l.initial.out.wakers ++ l.initial.self.wakes;
      room : l.out.spare + length l.initial.self.wakes ≡ l.initial.out.spare + length l.self.wakes;
      sound : IsPermit l.self;
    }

abbrev pub decreases-loop-waker : goal.decreases-loop-waker
decreases-loop-waker g l = length l.self.wakes
