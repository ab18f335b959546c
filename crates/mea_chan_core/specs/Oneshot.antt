-- a channel for one message, and what its calls do
use Rattle.std.specs.Prelude.{Bool, true, false, Option, Some, None, Result, Ok, Err, if◌then◌else◌}
use Rattle.mea_base.specs.declared.poll.Poll.{Poll}
use Rattle.mea_base.specs.declared.poll.Poll.TheVariants.{Ready, Pending}
use Rattle.mea_chan_core.specs.declared.errors.RecvError.{RecvError}
use Rattle.mea_chan_core.specs.declared.errors.RecvError.TheVariants as recv
use Rattle.mea_chan_core.specs.declared.errors.SendError.{SendError}
use Rattle.mea_chan_core.specs.declared.errors.TryRecvError.{TryRecvError}
use Rattle.mea_chan_core.specs.declared.errors.TryRecvError.TheVariants as try

-- the message that is there, whether the sender lives, which has neither sent nor ended, whether the receiver lives, its
-- waker, and the waker that is ready: there is one at most in all its life
pub record Oneshot (T W : Type 0) : Type 0 where
  pub message : Option T
  pub sender : Bool
  pub receiver : Bool
  pub waker : Option W
  pub ready : Option W

-- both ends live and nothing was sent
abbrev pub fresh : {T W : Type 0} → Oneshot T W
fresh = record { message = None; sender = true; receiver = true; waker = None; ready = None }

-- what a poll of a receive answers, where `try_recv` would answer so
abbrev pub poll_answer : {T : Type 0} → Result T TryRecvError → Poll (Result T RecvError)
poll_answer (Ok v) = Ready (Ok v)
poll_answer (Err try.Empty) = Pending
poll_answer (Err try.Disconnected) = Ready (Err recv.Disconnected)

module _ {T W : Type 0} where
  -- what `send` answers, and what it leaves
  abbrev pub send_answer : Oneshot T W → T → Result (Unit {0}) (SendError T)
  send_answer o v = if o.receiver then (if o.sender then Ok tt else Err (record { 0 = v })) else Err (record { 0 = v })

  abbrev pub after_send : Oneshot T W → T → Oneshot T W
  after_send o v = if o.receiver then (if o.sender then record o { message = Some v; sender = false; waker = None; ready = o.waker } else o) else o

  -- the sender ends without a message: the receiver's waker is taken and made ready
  abbrev pub without_sender : Oneshot T W → Oneshot T W
  without_sender o = record o { sender = false; waker = None; ready = o.waker }

  -- what `try_recv` answers, and what it leaves
  abbrev pub recv_answer_of : Oneshot T W → Option T → Result T TryRecvError
  recv_answer_of o (Some v) = Ok v
  recv_answer_of o None = if o.receiver then (if o.sender then Err try.Empty else Err try.Disconnected) else Err try.Disconnected

  abbrev pub recv_answer : Oneshot T W → Result T TryRecvError
  recv_answer o = recv_answer_of o o.message

  abbrev pub after_recv : Oneshot T W → Oneshot T W
  after_recv o = record o { message = None }

  -- what a poll of a receive leaves, where `try_recv` would answer so
  abbrev pub after_poll : Oneshot T W → W → Result T TryRecvError → Oneshot T W
  after_poll o w (Ok v) = after_recv o
  after_poll o w (Err try.Empty) = record o { waker = Some w }
  after_poll o w (Err try.Disconnected) = o

  -- the receiver ends: its waker and a message that is there fall
  abbrev pub without_receiver : Oneshot T W → Oneshot T W
  without_receiver o = record o { receiver = false; message = None; waker = None }
