-- an unbounded channel, and what its calls do
use Rattle.std.specs.Prelude.{ℕ, ◌≡◌, ◌-◌, ◌==◌, ◌++◌, Bool, true, List, [], ◌∷◌, Option, Some, None, option_to_list, Result, Ok, Err, MatchResult, if◌then◌else◌}
use Rattle.mea_base.specs.declared.poll.Poll.{Poll}
use Rattle.mea_base.specs.declared.poll.Poll.TheVariants.{Ready, Pending}
use Rattle.mea_base.specs.declared.no_memory.NoMemory.{NoMemory}
use Rattle.mea_chan_core.specs.declared.errors.RecvError.{RecvError}
use Rattle.mea_chan_core.specs.declared.errors.RecvError.TheVariants as recv
use Rattle.mea_chan_core.specs.declared.errors.TryRecvError.{TryRecvError}
use Rattle.mea_chan_core.specs.declared.errors.TryRecvError.TheVariants as try

-- the queued messages, how many senders live, whether the receiver has ended, its waker, and the wakers that are ready
pub record Mailbox (T W : Type 0) : Type 0 where
  pub queued : List T
  pub senders : ℕ
  pub ended : Bool
  pub waker : Option W
  pub wakes : List W

module _ {T W : Type 0} where
  -- a message is accepted: it is queued last, and the receiver's waker is taken and made ready
  abbrev pub with_message : Mailbox T W → T → Mailbox T W
  with_message m v = record m { queued = m.queued ++ v ∷ []; waker = None; wakes = m.wakes ++ option_to_list m.waker }

  -- what `try_recv` answers, and what it leaves
  abbrev pub recv_answer_of : Mailbox T W → List T → Result T TryRecvError
  recv_answer_of m [] = if m.ended then Err try.Disconnected else if m.senders == 0 then Err try.Disconnected else Err try.Empty
  recv_answer_of m (v ∷ _) = Ok v

  abbrev pub recv_answer : Mailbox T W → Result T TryRecvError
  recv_answer m = recv_answer_of m m.queued

  abbrev pub after_recv_of : Mailbox T W → List T → Mailbox T W
  after_recv_of m [] = m
  after_recv_of m (_ ∷ rest) = record m { queued = rest }

  abbrev pub after_recv : Mailbox T W → Mailbox T W
  after_recv m = after_recv_of m m.queued

  -- one poll of a receive, where `try_recv` would answer so
  abbrev pub PollsRecv : Mailbox T W → W → Result T TryRecvError → Result (Poll (Result T RecvError)) (W × NoMemory) → Mailbox T W → Type 0
  PollsRecv m w (Ok v) r m' = (r ≡ Ok (Ready (Ok v))) × (m' ≡ after_recv m)
  PollsRecv m w (Err try.Disconnected) r m' = (r ≡ Ok (Ready (Err recv.Disconnected))) × (m' ≡ m)
  PollsRecv m w (Err try.Empty) r m' = MatchResult r (λ poll. (poll ≡ Pending) × (m' ≡ record m { waker = Some w })) (λ e. (e.0 ≡ w) × (m' ≡ m))

  -- the receiver ends: the queued messages fall
  abbrev pub without_receiver : Mailbox T W → Mailbox T W
  without_receiver m = record m { queued = []; ended = true }

  -- a sender ends: at the last one the receiver's waker is taken and made ready
  abbrev pub without_sender : Mailbox T W → Mailbox T W
  without_sender m = if m.senders == 1 then record m { senders = 0; waker = None; wakes = m.wakes ++ option_to_list m.waker } else record m { senders = m.senders - 1 }
