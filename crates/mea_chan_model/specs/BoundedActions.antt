-- what can be done to bounded channels: why it is refused, and what it does
use Rattle.std.specs.Prelude.{ℕ, ◌==◌, Bool, true, false, nat_lt, Option, Some, None, if◌then◌else◌}
use Rattle.std.specs.FinMap.{get}
use Rattle.mea_family.specs.declared.answer.Answer.TheVariants as answers
use Rattle.mea_family.specs.declared.stop.Stop.{Stop}
use Rattle.mea_family.specs.declared.stop.Stop.TheVariants as stops
use Rattle.mea_family.specs.Causes.{unknown_unless}
use Rattle.mea_family.specs.Family.{Outcome, quietly}
use Rattle.mea_family.specs.Play.{found}
use Rattle.mea_chan_model.specs.Mailboxes.{is_sender}
use Rattle.mea_chan_model.specs.MailboxActions as actions
use Rattle.mea_chan_model.specs.MailboxActions.{cause_in, act_in, polled_in, ends_in}
use Rattle.mea_chan_model.specs.Bounded as bounded
use Rattle.mea_chan_model.specs.Bounded.{Bounded, is_send, sends_of, is_full}
pub use Rattle.mea_chan_model.specs.declared.bounded_action.BoundedAction.{BoundedAction}
pub use Rattle.mea_chan_model.specs.declared.bounded_action.BoundedAction.TheVariants.{Make, CopySender, TrySend, BeginSend, PollSend, EndSend, TryReceive, PollReceive, EndSender, EndReceiver}

-- why an action is refused; none where it is not
abbrev pub bounded_cause : Bounded → BoundedAction → Option Stop
bounded_cause h (Make n) = if n == 0 then Some stops.Zero else None
bounded_cause h (CopySender s) = cause_in h.mail (actions.Copy s)
bounded_cause h (TrySend s v) = unknown_unless (is_sender h.mail s)
bounded_cause h (BeginSend s v) = unknown_unless (is_sender h.mail s)
bounded_cause h (PollSend f w) = unknown_unless (is_send h f)
bounded_cause h (EndSend f) = unknown_unless (is_send h f)
bounded_cause h (TryReceive r) = cause_in h.mail (actions.Receive r true)
bounded_cause h (PollReceive r w) = cause_in h.mail (actions.Poll r w)
bounded_cause h (EndSender s) = if is_sender h.mail s then (if nat_lt 0 (sends_of h s) then Some stops.Borrowed else None) else Some stops.Unknown
bounded_cause h (EndReceiver r) = cause_in h.mail (actions.EndReceiver r true false)

-- what is done under number i. A message is sent and received as with any mailbox
abbrev pub bounded_act : Bounded → ℕ → BoundedAction → Outcome Bounded
bounded_act h i (Make n) = bounded.with_room h i n (act_in h.mail i (actions.Make true))
bounded_act h i (CopySender s) = bounded.in_mail h (act_in h.mail i (actions.Copy s))
bounded_act h i (TrySend s v) = found (get h.mail.senders s) h (λ o. if is_full h o then quietly h (answers.Full v) else bounded.in_mail h (act_in h.mail i (actions.Send s v)))
bounded_act h i (BeginSend s v) = found (get h.mail.senders s) h (bounded.begin h i s v)
bounded_act h i (PollSend f w) = found (get h.sends f) h (λ x. if is_full h x.channel then bounded.pends h f w x else bounded.answered h f x (act_in h.mail i (actions.Send x.sender x.value)))
bounded_act h i (EndSend f) = found (get h.sends f) h (λ x. bounded.end_send h f x (get h.rooms x.channel))
bounded_act h i (TryReceive r) = found (get h.mail.receivers r) h (λ x. bounded.received h x.channel (act_in h.mail i (actions.Receive r true)))
bounded_act h i (PollReceive r w) = found (get h.mail.receivers r) h (λ x. bounded.received h x.channel (act_in h.mail i (actions.Poll r w)))
bounded_act h i (EndSender s) = found (get h.mail.senders s) h (λ o. bounded.sender_ended h o (act_in h.mail i (actions.EndSender s)))
bounded_act h i (EndReceiver r) = found (get h.mail.receivers r) h (λ x. bounded.receiver_ended h x.channel (act_in h.mail i (actions.EndReceiver r true false)))

-- the waker with which the receiver r is polled, if it is, and whether it ends
abbrev pub bounded_polled : BoundedAction → ℕ → Option ℕ
bounded_polled (PollReceive q w) r = polled_in (actions.Poll q w) r
bounded_polled _ r = None

-- whether the receiver r ends
abbrev pub bounded_ends : BoundedAction → ℕ → Bool
bounded_ends (EndReceiver q) r = ends_in (actions.EndReceiver q true false) r
bounded_ends _ r = false

-- whether a waker may be registered
abbrev pub bounded_registers : BoundedAction → Bool
bounded_registers (PollSend f w) = true
bounded_registers (PollReceive r w) = true
bounded_registers _ = false
