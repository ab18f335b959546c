-- what has happened on a channel, whatever was called in whatever order
use Rattle.std.specs.Prelude.{◌≡◌, ◌+◌, ◌++◌, true, false, List, [], ◌∷◌, Option, Some, None, option_to_list, Result, Ok, Err}
use Rattle.mea_base.specs.declared.poll.Poll.{Poll}
use Rattle.mea_base.specs.declared.poll.Poll.TheVariants.{Ready, Pending}
use Rattle.mea_base.specs.declared.no_memory.NoMemory.{NoMemory}
use Rattle.mea_sem_core.specs.declared.acquire.Acquire.{Acquire}
use Rattle.mea_chan_core.specs.declared.errors.SendError.{SendError}
use Rattle.mea_chan_core.specs.declared.errors.RecvError.{RecvError}
use Rattle.mea_chan_core.specs.Channel.{Channel}
use Rattle.mea_chan_core.specs.Bounded.{send_answer, after_send, recv_answer, after_recv, PollsSend, PollsRecv, EndsSend, without_receiver, without_sender}
use Rattle.mea_chan_core.specs.Mailbox as mailbox
use Rattle.mea_chan_core.specs.Mailbox.{Mailbox}
use Rattle.mea_chan_core.specs.Oneshot as oneshot
use Rattle.mea_chan_core.specs.Oneshot.{Oneshot}

-- what an answer says was accepted of a value, and what was received
abbrev pub accepted_by : {T E : Type 0} → Result (Unit {0}) E → T → List T
accepted_by (Ok _) v = v ∷ []
accepted_by (Err _) v = []

abbrev pub received_by : {T E : Type 0} → Result T E → List T
received_by (Ok v) = v ∷ []
received_by (Err _) = []

-- the same of a poll; a send that has had its answer has no value any more
abbrev pub accepted_at : {T W : Type 0} → Result (Poll (Result (Unit {0}) (SendError T))) (W × NoMemory) → Option T → List T
accepted_at (Ok (Ready answer)) (Some v) = accepted_by answer v
accepted_at (Ok (Ready answer)) None = []
accepted_at (Ok Pending) value = []
accepted_at (Err e) value = []

abbrev pub received_at : {T W : Type 0} → Result (Poll (Result T RecvError)) (W × NoMemory) → List T
received_at (Ok (Ready answer)) = received_by answer
received_at (Ok Pending) = []
received_at (Err e) = []

abbrev pub received_in : {T : Type 0} → Poll (Result T RecvError) → List T
received_in (Ready answer) = received_by answer
received_in Pending = []

module _ {T W : Type 0} where
  -- a call takes a channel from one state to another; it accepts, receives and drops these messages
  pub data Calls (c : Channel T W) : Channel T W → List T → List T → List T → Type 0 where
    TrySend : (v : T) → Calls c (after_send c v) (accepted_by (send_answer c v) v) [] []
    PollSend : (value value' : Option T) (acquire acquire' : Acquire) (w : W) (r : Result (Poll (Result (Unit {0}) (SendError T))) (W × NoMemory)) (c' : Channel T W)
        → PollsSend c value acquire w r c' value' acquire' → Calls c c' (accepted_at r value) [] []
    EndSend : (acquire : Acquire) (c' : Channel T W) → EndsSend c acquire c' → Calls c c' [] [] []
    TryRecv : Calls c (after_recv c) [] (received_by (recv_answer c)) []
    PollRecv : (w : W) (r : Result (Poll (Result T RecvError)) (W × NoMemory)) (c' : Channel T W) → PollsRecv c w (recv_answer c) r c' → Calls c c' [] (received_at r) []
    AddSender : Calls c (record c { senders = c.senders + 1 }) [] [] []
    EndSender : Calls c (without_sender c) [] [] []
    EndReceiver : c.ended ≡ false → Calls c (without_receiver c) [] [] c.queued
    NextWake : (wakes : List W) → Calls c (record c { wakes = wakes }) [] [] []

  -- a list of calls on a channel that was new: what it accepted, what was received, and what fell with the receiver
  pub data ChannelRuns : Channel T W → List T → List T → List T → Type 0 where
    Starts : (c : Channel T W) → c.queued ≡ [] → c.ended ≡ false → ChannelRuns c [] [] []
    Goes : (c c' : Channel T W) (accepted received fallen accepted' received' fallen' : List T) → ChannelRuns c accepted received fallen → Calls c c' accepted' received' fallen'
        → ChannelRuns c' (accepted ++ accepted') (received ++ received') (fallen ++ fallen')

  -- ---- the same of an unbounded channel; a send that is refused changes nothing

  pub data MailCalls (m : Mailbox T W) : Mailbox T W → List T → List T → List T → Type 0 where
    Send : (v : T) → m.ended ≡ false → MailCalls m (mailbox.with_message m v) (v ∷ []) [] []
    SendRefused : MailCalls m m [] [] []
    MailTryRecv : MailCalls m (mailbox.after_recv m) [] (received_by (mailbox.recv_answer m)) []
    MailPollRecv : (w : W) (r : Result (Poll (Result T RecvError)) (W × NoMemory)) (m' : Mailbox T W) → mailbox.PollsRecv m w (mailbox.recv_answer m) r m' → MailCalls m m' [] (received_at r) []
    MailAddSender : MailCalls m (record m { senders = m.senders + 1 }) [] [] []
    MailEndSender : MailCalls m (mailbox.without_sender m) [] [] []
    MailEndReceiver : m.ended ≡ false → MailCalls m (mailbox.without_receiver m) [] [] m.queued
    MailNextWake : (wakes : List W) → MailCalls m (record m { wakes = wakes }) [] [] []

  pub data MailRuns : Mailbox T W → List T → List T → List T → Type 0 where
    MailStarts : (m : Mailbox T W) → m.queued ≡ [] → m.ended ≡ false → MailRuns m [] [] []
    MailGoes : (m m' : Mailbox T W) (accepted received fallen accepted' received' fallen' : List T) → MailRuns m accepted received fallen → MailCalls m m' accepted' received' fallen'
        → MailRuns m' (accepted ++ accepted') (received ++ received') (fallen ++ fallen')

  -- ---- and of a oneshot

  pub data ShotCalls (o : Oneshot T W) : Oneshot T W → List T → List T → List T → Type 0 where
    ShotSend : (v : T) → ShotCalls o (oneshot.after_send o v) (accepted_by (oneshot.send_answer o v) v) [] []
    ShotEndSender : o.sender ≡ true → ShotCalls o (oneshot.without_sender o) [] [] []
    ShotTryRecv : ShotCalls o (oneshot.after_recv o) [] (received_by (oneshot.recv_answer o)) []
    ShotPollRecv : (w : W) → ShotCalls o (oneshot.after_poll o w (oneshot.recv_answer o)) [] (received_in (oneshot.poll_answer (oneshot.recv_answer o))) []
    ShotEndReceiver : o.receiver ≡ true → ShotCalls o (oneshot.without_receiver o) [] [] (option_to_list o.message)
    ShotNextWake : ShotCalls o (record o { ready = None }) [] [] []

  pub data ShotRuns : Oneshot T W → List T → List T → List T → Type 0 where
    ShotStarts : ShotRuns oneshot.fresh [] [] []
    ShotGoes : (o o' : Oneshot T W) (accepted received fallen accepted' received' fallen' : List T) → ShotRuns o accepted received fallen → ShotCalls o o' accepted' received' fallen'
        → ShotRuns o' (accepted ++ accepted') (received ++ received') (fallen ++ fallen')
