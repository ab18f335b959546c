-- what the calls of a barrier's entry do
use Rattle.std.specs.Prelude.{ℕ, ◌≡◌, ◌+◌, ◌++◌, Bool, List, [], length, map, Ok}
use Rattle.mea_base.specs.Ready.{Waking}
use Rattle.mea_by_name.specs.declared.named_waker.NamedWaker.{NamedWaker}
use Rattle.mea_sets.specs.Poll.{Poll}
use Rattle.mea_meet_core.specs.declared.barrier_wait.BarrierWait.{BarrierWait}
use Rattle.mea_meet_core.specs.Barrier.{Polls}
use Rattle.mea_meet.specs.declared.barrier_entry.BarrierEntry.{BarrierEntry}

-- its wakers were handed on
pub record HandsOn (old new : BarrierEntry) (before after : Waking ℕ) : Type 0 where
  pub entry : new ≡ record old { core = record old.core { wakes = [] } }
  pub wakers : after.wakers ≡ before.wakers ++ map (λ (k : NamedWaker). k.waker) old.core.wakes
  pub counted : after.registered + length old.core.wakes ≡ before.registered

-- a future was polled, which woke these; they were handed on, and the registered wakers were counted
pub record Turns (e : BarrierEntry) (wait : BarrierWait) (k : NamedWaker) (turn : Poll Bool) (e' : BarrierEntry) (wait' : BarrierWait) (before after : Waking ℕ) : Type 0 where
  pub woken : List NamedWaker
  pub polls : Polls e.core wait k (Ok turn) (record e'.core { wakes = woken }) wait'
  pub quiet : e'.core.wakes ≡ []
  pub wakers : after.wakers ≡ before.wakers ++ map (λ (k : NamedWaker). k.waker) woken
  pub counted : after.registered + length e.core.waiting.wakers ≡ before.registered + length e'.core.waiting.wakers
  pub waits : e'.waits ≡ e.waits
