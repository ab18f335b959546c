-- what the calls of a channel's entry do
use Rattle.std.specs.Prelude.{ℕ, ◌≡◌, ◌+◌, ◌++◌, [], length, option_to_list, Result, Ok, Err}
use Rattle.mea_family.specs.declared.answer.Answer.{Answer}
use Rattle.mea_family.specs.declared.answer.Answer.TheVariants as answers
use Rattle.mea_base.specs.Ready.{Waking}
use Rattle.mea_chan_core.specs.declared.errors.TryRecvError.{TryRecvError}
use Rattle.mea_chan_core.specs.declared.errors.TryRecvError.TheVariants as try
use Rattle.mea_chan_core.specs.Mailbox.{recv_answer}
use Rattle.mea_chan.specs.Cores.{Mailbox, ReceivesBy}

-- how many wakers a channel keeps
abbrev pub kept : Mailbox → ℕ
kept m = length (option_to_list m.waker)

-- what a script is told of a receive, and of a poll
abbrev pub told : Result ℕ TryRecvError → Answer
told (Ok v) = answers.Got v
told (Err try.Empty) = answers.Empty
told (Err try.Disconnected) = answers.Gone

abbrev pub poll_told : Result ℕ TryRecvError → Answer
poll_told (Ok v) = answers.Got v
poll_told (Err try.Empty) = answers.Pending
poll_told (Err try.Disconnected) = answers.Gone

-- the channel became this; its wakers were handed on, and as many are registered as it keeps
pub record Settles (old m new : Mailbox) (before after : Waking ℕ) : Type 0 where
  pub entry : new ≡ record m { wakes = [] }
  pub wakers : after.wakers ≡ before.wakers ++ m.wakes
  pub counted : after.registered + kept old ≡ before.registered + kept m

-- the receiver was polled
pub record Polls (old : Mailbox) (waker : ℕ) (answer : Answer) (new : Mailbox) (before after : Waking ℕ) : Type 0 where
  pub told : answer ≡ poll_told (recv_answer old)
  pub entry : ReceivesBy old waker (recv_answer old) new
  pub wakers : after.wakers ≡ before.wakers
  pub counted : after.registered + kept old ≡ before.registered + kept new
