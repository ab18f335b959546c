use Rattle.std.proofs.Common.{◌≡◌, ◌+◌, ◌≤◌, ◌++◌, [], length, map}
use Rattle.mea_once.specs.KeyEntries.{kept_with}
use Rattle.mea_once.proofs.table_entry.TableEntry.hand_on.Given as goal

-- what was handed on and what is still there are what there was
abbrev pub invariant-loop-next : goal.invariant-loop-next
invariant-loop-next g l = record {
  rest : record { keyed = record (g.C.TableCore.seen_as l.self-inside.core) { wakes = [] }; current = l.self-inside.current.things; rounds = l.self-inside.rounds; futures = l.self-inside.futures } ≡ record l.fn.self { keyed = record l.fn.self.keyed { wakes = [] } };
  moved : l.ready.wakers ++ map (λ k. k.waker) (g.C.TableCore.seen_as l.self-inside.core).wakes ≡ l.fn.ready.wakers ++ map (λ k. k.waker) l.fn.self.keyed.wakes;
  counted : l.ready.registered + l.more ≡ l.fn.ready.registered + kept_with l.fn.self l.fn.running + l.gone;
  fits : length (g.C.TableCore.seen_as l.self-inside.core).wakes ≤ l.gone;
  room : l.more ≤ l.fn.ready.registered;
}

abbrev pub decreases-loop-next : goal.decreases-loop-next
decreases-loop-next g l = length (g.C.TableCore.seen_as l.self-inside.core).wakes
