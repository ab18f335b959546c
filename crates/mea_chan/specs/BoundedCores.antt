-- what a hall keeps of bounded channels, and what the calls of their cores do
use Rattle.std.specs.Prelude.{ℕ, ◌≡◌, ◌+◌, ◌++◌, [], length, map, Option, Some, option_to_list, Result, Ok, Err}
use Rattle.std.specs.Coded.{Coded, coded_ℕ}
use Rattle.std.specs.Option.{option_map}
use Rattle.mea_base.specs.declared.poll.Poll.{Poll}
use Rattle.mea_base.specs.Ready.{Waking}
use Rattle.mea_by_name.specs.NamedWaker.{waker_code}
use Rattle.mea_by_name.specs.declared.named_waker.NamedWaker.{NamedWaker}
use Rattle.mea_sem_core.specs.Acquire.{demand_of}
use Rattle.mea_sem_core.specs.declared.acquire.Acquire.{Acquire}
use Rattle.mea_sem_core.specs.declared.acquire.Acquire.TheVariants as acquire
use Rattle.mea_chan_core.specs.declared.errors.SendError.{SendError}
use Rattle.mea_chan_core.specs.declared.errors.TrySendError.{TrySendError}
use Rattle.mea_chan_core.specs.declared.errors.TrySendError.TheVariants.{Full, Disconnected}
use Rattle.mea_family.specs.declared.answer.Answer.{Answer}
use Rattle.mea_family.specs.declared.answer.Answer.TheVariants as answers
use Rattle.mea_chan_core.specs.declared.errors.TryRecvError.{TryRecvError}
use Rattle.mea_chan_core.specs.declared.errors.TryRecvError.TheVariants as try
use Rattle.mea_chan_core.specs.Channel.{Channel, channel_code}
use Rattle.mea_chan_core.specs.Bounded.{PollsSend, after_recv}
use Rattle.mea_chan.specs.Cores.{Mailbox}

-- a bounded channel whose wakers carry the names of their futures and receivers
abbrev pub NamedChannel : Type 0
NamedChannel = Channel ℕ NamedWaker

-- by which a proof tells two of them apart
abbrev pub named_channel_code : Coded NamedChannel
named_channel_code = channel_code coded_ℕ waker_code

-- the same as a mailbox
abbrev pub as_mailbox : NamedChannel → Mailbox
as_mailbox c = record { queued = c.queued; senders = c.senders; ended = c.ended; waker = option_map (λ (k : NamedWaker). k.waker) c.waker; wakes = map (λ (k : NamedWaker). k.waker) c.wakes }

-- a send: the names of its sender and its channel, its value until it has its answer, and its place among those that wait
pub record KeptSend : Type 0 where
  pub sender : ℕ
  pub channel : ℕ
  pub value : Option ℕ
  pub acquire : Acquire

-- how many wakers a channel keeps
abbrev pub kept_by : NamedChannel → ℕ
kept_by c = length (option_to_list c.waker) + length c.waiting.queue

-- no waker is ready
abbrev pub handed_on : NamedChannel → NamedChannel
handed_on c = record c { wakes = [] }

-- the channel became this; its wakers were handed on, and as many are registered as it keeps
pub record HandsOn (old c new : NamedChannel) (before after : Waking ℕ) : Type 0 where
  pub entry : new ≡ handed_on c
  pub wakers : after.wakers ≡ before.wakers ++ map (λ (k : NamedWaker). k.waker) c.wakes
  pub counted : after.registered + kept_by old ≡ before.registered + kept_by c

-- what a poll of a receiver leaves, where a try would answer so
abbrev pub polled_as : NamedChannel → NamedWaker → Result ℕ TryRecvError → NamedChannel
polled_as c k (Ok v) = after_recv c
polled_as c k (Err try.Disconnected) = c
polled_as c k (Err try.Empty) = record c { waker = Some k }

-- a send was polled
pub record SendPolled (old : NamedChannel) (x : KeptSend) (k : NamedWaker) (turn : Poll (Result (Unit {0}) (SendError ℕ))) (new : NamedChannel) (x' : KeptSend) (before after : Waking ℕ) : Type 0 where
  pub left : NamedChannel
  pub polls : PollsSend old x.value x.acquire k (Ok turn) left x'.value x'.acquire
  pub same : x' ≡ record x { value = x'.value; acquire = x'.acquire }
  pub one : demand_of x'.acquire ≡ 1
  pub settles : HandsOn old left new before after

-- what a script is told of a message that was tried
abbrev pub tried_told : Result (Unit {0}) (TrySendError ℕ) → Answer
tried_told (Ok u) = answers.Accepted
tried_told (Err (Full v)) = answers.Full v
tried_told (Err (Disconnected v)) = answers.Closed v

-- what a script is told of a send that has its answer
abbrev pub ready_told : Result (Unit {0}) (SendError ℕ) → Answer
ready_told (Ok u) = answers.Accepted
ready_told (Err e) = answers.Closed e.0
