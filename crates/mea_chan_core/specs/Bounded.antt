-- what the calls of a bounded channel do
use Rattle.std.specs.Prelude.{ℕ, ◌≡◌, ◌-◌, ◌==◌, ◌++◌, Bool, true, List, [], ◌∷◌, length, Option, Some, None, option_to_list, Result, Ok, Err, IsOk, MatchResult, if◌then◌else◌}
use Rattle.std.specs.FinMap as map
use Rattle.mea_base.specs.declared.poll.Poll.{Poll}
use Rattle.mea_base.specs.declared.poll.Poll.TheVariants.{Ready, Pending}
use Rattle.mea_base.specs.declared.no_memory.NoMemory.{NoMemory}
use Rattle.mea_base.specs.Queue.{lacks}
use Rattle.mea_sem_core.specs.Core.{Core, Waiter, poured}
use Rattle.mea_sem_core.specs.Calls.{Queues, Cancels, Loses, IsWaitingAs, IsGrantedAs, with_waker}
use Rattle.mea_sem_core.specs.declared.acquire.Acquire.{Acquire}
use Rattle.mea_sem_core.specs.declared.acquire.Acquire.TheVariants.{New, Queued, Done, Refused}
use Rattle.mea_chan_core.specs.declared.errors.SendError.{SendError}
use Rattle.mea_chan_core.specs.declared.errors.TrySendError.{TrySendError}
use Rattle.mea_chan_core.specs.declared.errors.TrySendError.TheVariants.{Full, Disconnected}
use Rattle.mea_chan_core.specs.declared.errors.RecvError.{RecvError}
use Rattle.mea_chan_core.specs.declared.errors.RecvError.TheVariants as recv
use Rattle.mea_chan_core.specs.declared.errors.TryRecvError.{TryRecvError}
use Rattle.mea_chan_core.specs.declared.errors.TryRecvError.TheVariants as try
use Rattle.mea_chan_core.specs.Channel.{Channel}

-- ---- the semaphore of the senders

-- one place is free: where a sender waits, one permit is poured
abbrev pub made_way_for : {W : Type 0} → List (Waiter W × ℕ) → Core W → Core W
made_way_for [] s = s
made_way_for (e ∷ q) s = poured s 1

abbrev pub made_way : {W : Type 0} → Core W → Core W
made_way s = made_way_for s.queue s

-- the free permits are gone
abbrev pub without_free : {W : Type 0} → Core W → Core W
without_free s = record s { free = 0; live = s.live - s.free }

-- the acquire is not in the queue: it was never polled, or it was granted
abbrev pub IsOut : {W : Type 0} → Core W → Acquire → Type 0
IsOut s (New _) = Unit {0}
IsOut s (Done _) = Unit {0}
IsOut s (Refused _) = s.closed ≡ true
IsOut s (Queued demand number) = IsGrantedAs s demand number

-- the acquire is in the queue
abbrev pub IsIn : {W : Type 0} → Core W → Acquire → Type 0
IsIn s (New _) = ⊥
IsIn s (Done _) = ⊥
IsIn s (Refused _) = ⊥
IsIn s (Queued demand number) = IsWaitingAs s demand number × (map.get s.granted number ≡ None)

-- the number of an acquire that was polled
abbrev pub number_of : Acquire → ℕ
number_of (New _) = 0
number_of (Done _) = 0
number_of (Refused _) = 0
number_of (Queued _ number) = number

module _ {T W : Type 0} where
  -- the wakers of the senders whom a step of their semaphore granted follow those of the channel
  abbrev pub with_waiting : Channel T W → Core W → Channel T W
  with_waiting c s = record c { waiting = record s { wakes = [] }; wakes = c.wakes ++ s.wakes }

  -- ---- sends

  -- a message is accepted: it is queued last, and the receiver's waker is taken and made ready
  abbrev pub with_message : Channel T W → T → Channel T W
  with_message c v = record c { queued = c.queued ++ v ∷ []; waker = None; wakes = c.wakes ++ option_to_list c.waker }

  abbrev pub is_full : Channel T W → Bool
  is_full c = length c.queued == c.capacity

  -- what `try_send` answers, and what it leaves
  abbrev pub send_answer : Channel T W → T → Result (Unit {0}) (TrySendError T)
  send_answer c v = if c.ended then Err (Disconnected v) else if is_full c then Err (Full v) else Ok tt

  abbrev pub after_send : Channel T W → T → Channel T W
  after_send c v = if c.ended then c else if is_full c then c else with_message c v

  -- a send that has its answer leaves the senders that wait, and a permit that it was granted is lost
  abbrev pub Leaves : Channel T W → Acquire → Channel T W → Type 0
  Leaves c acquire c' = (q : Core W) × Loses c.waiting acquire q × (c' ≡ record c { waiting = q })

  -- the send goes to the tail of those that wait; the free permits and the one that it was granted are lost
  abbrev pub QueuesAnew : Channel T W → Acquire → W → Channel T W → Acquire → Type 0
  QueuesAnew c old w c' new = (q : Core W) × (q' : Core W) × (number : ℕ) × Queues (without_free c.waiting) q 1 w number × Loses q old q' × (new ≡ Queued 1 number) × (c' ≡ record c { waiting = q' })

  -- the same, or there is no memory for it
  abbrev pub MayQueueAnew : {R : Type 0} → Channel T W → Acquire → W → Result R (W × NoMemory) → Channel T W → Acquire → Type 0
  MayQueueAnew c old w r c' new = MatchResult r (λ _. QueuesAnew c old w c' new) (λ e. (e.0 ≡ w) × (c' ≡ c) × (new ≡ old))

  -- a polled send that stays pending, by whether it was granted: one that waits gets the waker
  abbrev pub StaysBy : {R : Type 0} → Option ℕ → Channel T W → ℕ → ℕ → W → Result R (W × NoMemory) → Channel T W → Acquire → Type 0
  StaysBy (Some _) c demand number w r c' new = MayQueueAnew c (Queued demand number) w r c' new
  StaysBy None c demand number w r c' new = IsOk r × (c' ≡ record c { waiting = record c.waiting { queue = with_waker c.waiting.queue number w } }) × (new ≡ Queued demand number)

  -- a poll of a send that finds the channel full
  abbrev pub StaysPending : {R : Type 0} → Channel T W → Acquire → W → Result R (W × NoMemory) → Channel T W → Acquire → Type 0
  StaysPending c (New demand) w r c' new = MayQueueAnew c (New demand) w r c' new
  StaysPending c (Done demand) w r c' new = MayQueueAnew c (Done demand) w r c' new
  StaysPending c (Refused demand) w r c' new = MayQueueAnew c (Refused demand) w r c' new
  StaysPending c (Queued demand number) w r c' new = StaysBy (map.get c.waiting.granted number) c demand number w r c' new

  -- one poll of a send of a value, where `try_send` would answer so
  abbrev pub PollsValue : Channel T W → T → Result (Unit {0}) (TrySendError T) → Acquire → W → Result (Poll (Result (Unit {0}) (SendError T))) (W × NoMemory) → Channel T W → Option T → Acquire → Type 0
  PollsValue c v (Ok _) old w r c' value new = (r ≡ Ok (Ready (Ok tt))) × (value ≡ None) × Leaves (with_message c v) old c'
  PollsValue c v (Err (Disconnected _)) old w r c' value new = (r ≡ Ok (Ready (Err (record { 0 = v })))) × (value ≡ None) × Leaves c old c'
  PollsValue c v (Err (Full _)) old w r c' value new = MatchResult r (λ poll. poll ≡ Pending) (λ _. Unit {0}) × (value ≡ Some v) × StaysPending c old w r c' new

  -- one poll of a send; one that has had its answer is ready again, and changes nothing
  abbrev pub PollsSend : Channel T W → Option T → Acquire → W → Result (Poll (Result (Unit {0}) (SendError T))) (W × NoMemory) → Channel T W → Option T → Acquire → Type 0
  PollsSend c None old w r c' value new = (r ≡ Ok (Ready (Ok tt))) × (c' ≡ c) × (value ≡ None) × (new ≡ old)
  PollsSend c (Some v) old w r c' value new = PollsValue c v (send_answer c v) old w r c' value new

  -- a send ends; one that was granted a permit gives it to the next
  abbrev pub EndsSend : Channel T W → Acquire → Channel T W → Type 0
  EndsSend c acquire c' = (q : Core W) × Cancels c.waiting acquire q × (c' ≡ with_waiting c q)

  -- ---- receives

  -- what `try_recv` answers, and what it leaves
  abbrev pub recv_answer_of : Channel T W → List T → Result T TryRecvError
  recv_answer_of c [] = if c.ended then Err try.Disconnected else if c.senders == 0 then Err try.Disconnected else Err try.Empty
  recv_answer_of c (v ∷ _) = Ok v

  abbrev pub recv_answer : Channel T W → Result T TryRecvError
  recv_answer c = recv_answer_of c c.queued

  abbrev pub after_recv_of : Channel T W → List T → Channel T W
  after_recv_of c [] = c
  after_recv_of c (_ ∷ rest) = with_waiting (record c { queued = rest }) (made_way c.waiting)

  abbrev pub after_recv : Channel T W → Channel T W
  after_recv c = after_recv_of c c.queued

  -- one poll of a receive, where `try_recv` would answer so
  abbrev pub PollsRecv : Channel T W → W → Result T TryRecvError → Result (Poll (Result T RecvError)) (W × NoMemory) → Channel T W → Type 0
  PollsRecv c w (Ok v) r c' = (r ≡ Ok (Ready (Ok v))) × (c' ≡ after_recv c)
  PollsRecv c w (Err try.Disconnected) r c' = (r ≡ Ok (Ready (Err recv.Disconnected))) × (c' ≡ c)
  PollsRecv c w (Err try.Empty) r c' = MatchResult r (λ poll. (poll ≡ Pending) × (c' ≡ record c { waker = Some w })) (λ e. (e.0 ≡ w) × (c' ≡ c))

  -- ---- ends

  -- the receiver ends: the queued messages fall, and all senders that wait are granted and woken
  abbrev pub without_receiver : Channel T W → Channel T W
  without_receiver c = with_waiting (record c { queued = []; ended = true }) (poured c.waiting (lacks c.waiting.queue))

  -- a sender ends: at the last one the receiver's waker is taken and made ready
  abbrev pub without_sender : Channel T W → Channel T W
  without_sender c = if c.senders == 1 then record c { senders = 0; waker = None; wakes = c.wakes ++ option_to_list c.waker } else record c { senders = c.senders - 1 }
