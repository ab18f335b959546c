-- a poll of a send, by what `try_send` answers in it
use Rattle.std.proofs.Common.{◌≡◌, ℕ, Bool, true, false, cond, Option, Some, None, Result, Ok, Err, IsOk, length, option_to_list, refl, ap, ◌≤◌, arith}
use Rattle.std.specs.FinMap as map
use Rattle.mea_base.specs.declared.poll.Poll.TheVariants.{Ready, Pending}
use Rattle.mea_base.specs.declared.no_memory.NoMemory.{NoMemory}
use Rattle.mea_sem_core.specs.Calls.{with_waker}
use Rattle.mea_sem_core.specs.declared.acquire.Acquire.{Acquire}
use Rattle.mea_sem_core.specs.declared.acquire.Acquire.TheVariants.{New, Queued, Done, Refused}
use Rattle.mea_chan_core.specs.declared.errors.TrySendError.{TrySendError}
use Rattle.mea_chan_core.specs.declared.errors.TrySendError.TheVariants.{Full, Disconnected}
use Rattle.mea_chan_core.specs.Channel.{Channel}
use Rattle.mea_chan_core.specs.Bounded.{with_message, send_answer, after_send, is_full, Leaves, StaysPending, StaysBy, MayQueueAnew, IsOut, IsIn, number_of, PollsValue, PollsSend}

pub option_few : {X : Type 0} (o : Option X) → length (option_to_list o) ≤ 1
option_few None = omega arith
option_few (Some x) = omega arith

abbrev answer_by : {T : Type 0} → Bool → Bool → T → Result (Unit {0}) (TrySendError T)
answer_by ended full v = cond ended (Err (Disconnected v)) (cond full (Err (Full v)) (Ok tt))

-- a send that finds the channel full, by where its acquire is
pub stays_there : {T W R : Type 0} (c c' : Channel T W) (a a' : Acquire) (w : W) (r : Result R (W × NoMemory)) → IsIn c.waiting a → IsOk r
    → c' ≡ record c { waiting = record c.waiting { queue = with_waker c.waiting.queue (number_of a) w } } → a' ≡ a → StaysPending c a w r c' a'
stays_there c c' (New _) a' w r waits ok is same = absurd waits
stays_there c c' (Done _) a' w r waits ok is same = absurd waits
stays_there c c' (Refused _) a' w r waits ok is same = absurd waits
stays_there c c' (Queued demand number) a' w r waits ok is same = rw waits.1 (ok, is, same)

pub stays_out : {T W R : Type 0} (c c' : Channel T W) (a a' : Acquire) (w : W) (r : Result R (W × NoMemory)) → IsOut c.waiting a → MayQueueAnew c a w r c' a' → StaysPending c a w r c' a'
stays_out c c' (New _) a' w r out may = may
stays_out c c' (Done _) a' w r out may = may
stays_out c c' (Refused _) a' w r out may = may
stays_out c c' (Queued demand number) a' w r out may = rw out may

module _ {T W : Type 0} where
  -- what the result holds does not matter to where the send stays
  lifts : {R S : Type 0} (d c' : Channel T W) (old new : Acquire) (w : W) (x : R) (y : S) → StaysPending {R = R} d old w (Ok x) c' new → StaysPending {R = S} d old w (Ok y) c' new
  lifts d c' (New demand) new w x y stays = stays
  lifts d c' (Done demand) new w x y stays = stays
  lifts d c' (Refused demand) new w x y stays = stays
  lifts {R} {S} d c' (Queued demand number) new w x y stays = by_grant (map.get d.waiting.granted number) stays
    where
      by_grant : (o : Option ℕ) → StaysBy {R = R} o d demand number w (Ok x) c' new → StaysBy {R = S} o d demand number w (Ok y) c' new
      by_grant None stays = (refl, stays.1, stays.2)
      by_grant (Some _) stays = stays

  pub polls_sent : (c c1 c' : Channel T W) (v : T) (value : Option T) (old new : Acquire) (w : W) (x : Unit {0}) → value ≡ Some v → Ok x ≡ send_answer c v → c1 ≡ after_send c v → Leaves c1 old c'
      → PollsSend c value old w (Ok (Ready (Ok tt))) c' None new
  polls_sent c c1 c' v value old new w x is answer after leaves = rw is (by_case c.ended (is_full c) answer after)
    where
      by_case : (e f : Bool) → Ok x ≡ answer_by e f v → c1 ≡ cond e c (cond f c (with_message c v)) → PollsValue c v (answer_by e f v) old w (Ok (Ready (Ok tt))) c' None new
      by_case true f answer after = absurd (cc)
      by_case false true answer after = absurd (cc)
      by_case false false answer after = (refl, refl, rw after at leaves)

  pub polls_refused : (c c1 c' : Channel T W) (v v' : T) (value : Option T) (old new : Acquire) (w : W) → value ≡ Some v → Err (Disconnected v') ≡ send_answer c v → c1 ≡ after_send c v → Leaves c1 old c'
      → PollsSend c value old w (Ok (Ready (Err (record { 0 = v' })))) c' None new
  polls_refused c c1 c' v v' value old new w is answer after leaves = rw is (by_case c.ended (is_full c) answer after)
    where
      by_case : (e f : Bool) → Err (Disconnected v') ≡ answer_by e f v → c1 ≡ cond e c (cond f c (with_message c v)) → PollsValue c v (answer_by e f v) old w (Ok (Ready (Err (record { 0 = v' })))) c' None new
      by_case true f answer after = let same : v' ≡ v = cc in (λ i. Ok (Ready (Err (record { 0 = same i }))), refl, rw after at leaves)
      by_case false true answer after = absurd (cc)
      by_case false false answer after = absurd (cc)

  pub polls_full : (c c1 c' : Channel T W) (v v' : T) (value : Option T) (old new : Acquire) (w : W) (x : Unit {0}) → value ≡ Some v → Err (Full v') ≡ send_answer c v → c1 ≡ after_send c v
      → StaysPending {R = Unit {0}} c1 old w (Ok x) c' new → PollsSend c value old w (Ok Pending) c' (Some v') new
  polls_full c c1 c' v v' value old new w x is answer after stays = rw is (by_case c.ended (is_full c) answer after)
    where
      by_case : (e f : Bool) → Err (Full v') ≡ answer_by e f v → c1 ≡ cond e c (cond f c (with_message c v)) → PollsValue c v (answer_by e f v) old w (Ok Pending) c' (Some v') new
      by_case true f answer after = absurd (cc)
      by_case false true answer after = let same : v' ≡ v = cc in (refl, ap (λ a. Some a) same, lifts c c' old new w x Pending (rw after at stays))
      by_case false false answer after = absurd (cc)
