-- the future of a wait that asks for the lock at its entry
use Rattle.std.proofs.Common.{◌≡◌, ℕ, ◌≤◌, ◌||◌, Bool, true, false, length, [], refl, ap, ◌∙◌, arith, if◌then◌else◌}
use Rattle.mea_base.specs.Ready.{Waking}
use Rattle.mea_base.specs.declared.turn.Turn.TheVariants.{Ready}
use Rattle.mea_by_name.specs.declared.named_waker.NamedWaker.{NamedWaker}
use Rattle.mea_lock_core.specs.RwLock.{IsSound, MayPoll, is_write}
use Rattle.mea_lock.specs.Cores.{NamedLock}
use Rattle.mea_lock.specs.Entries.{KeptLock, KeptFuture, Polled, HasLock, Asks}
use Rattle.mea_lock.proofs.Lengths.{lock_poll_leaves}

or_true : (b : Bool) → (b || true) ≡ true
or_true true = refl
or_true false = refl

-- a poll that is ready has the lock
pub has_lock : (old : KeptLock) (f : ℕ) (x : KeptFuture) (waker : ℕ) (k : NamedWaker) (new : KeptLock) (y : KeptFuture) (before after : Waking ℕ) → x.holds ≡ false → is_write x.wait ≡ true → IsSound old.lock → MayPoll old.lock x.wait
    → old.lock.permits.wakes ≡ [] → length old.lock.permits.queue ≤ before.registered → Polled old f x waker (Ready k) new y before after → HasLock old f x waker new y before after
has_lock old f x waker k new y before after waits writes sound may quiet room polled =
    let left_is : new.lock ≡ polled.left = ap (λ (e : KeptLock). e.lock) polled.entry in
    let queue_is : length new.lock.permits.queue ≡ length polled.left.permits.queue = ap (λ (l : NamedLock). length l.permits.queue) left_is in
    record {
      held = λ holds. absurd (cc);
      polled = λ _. (k, polled);
      writing = ap (λ (l : NamedLock). l.writing) left_is ∙ ap (λ (l : NamedLock). l.writing) polled.polls.lock ∙ ap (λ b. old.lock.writing || (if b then true else false)) writes ∙ or_true old.lock.writing;
      quiet = ap (λ (l : NamedLock). l.permits.wakes) left_is ∙ (lock_poll_leaves old.lock polled.left x.wait y.wait _ (Ready k) sound polled.polls may).1 ∙ quiet;
      room = omega (arith, polled.counted, room, queue_is);
      rest = polled.future;
    }

pub has_it : (b : Bool) (old : KeptLock) (f : ℕ) (x : KeptFuture) (waker : ℕ) (new : KeptLock) (y : KeptFuture) (before after : Waking ℕ) → b ≡ true → Asks b old f x waker new y before after → HasLock old f x waker new y before after
has_it true old f x waker new y before after is asks = asks
has_it false old f x waker new y before after is asks = absurd (cc)
