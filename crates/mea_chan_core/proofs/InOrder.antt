-- each call moves messages from the accepted through the queue to the received, or drops the queue
use Rattle.std.proofs.Common.{◌≡◌, ℕ, ◌-◌, ◌==◌, ◌++◌, Bool, true, false, cond, not, List, [], ◌∷◌, Option, Some, None, Result, Ok, Err, MatchResult, length, option_to_list, refl, ap, sym, subst, ◌∙◌, ◌≤◌, arith, append-nil, append_assoc}
use Rattle.std.specs.FinMap as map
use Rattle.mea_base.specs.declared.poll.Poll.{Poll}
use Rattle.mea_base.specs.declared.poll.Poll.TheVariants.{Ready, Pending}
use Rattle.mea_base.specs.declared.no_memory.NoMemory.{NoMemory}
use Rattle.mea_sem_core.specs.declared.acquire.Acquire.{Acquire}
use Rattle.mea_sem_core.specs.declared.acquire.Acquire.TheVariants as acquires
use Rattle.mea_chan_core.specs.declared.errors.SendError.{SendError}
use Rattle.mea_chan_core.specs.declared.errors.TrySendError.{TrySendError}
use Rattle.mea_chan_core.specs.declared.errors.TrySendError.TheVariants.{Full, Disconnected}
use Rattle.mea_chan_core.specs.declared.errors.RecvError.{RecvError}
use Rattle.mea_chan_core.specs.declared.errors.TryRecvError.{TryRecvError}
use Rattle.mea_chan_core.specs.declared.errors.TryRecvError.TheVariants as try
use Rattle.mea_chan_core.specs.Channel.{Channel}
use Rattle.mea_chan_core.specs.Bounded.{with_message, send_answer, after_send, is_full, recv_answer, recv_answer_of, after_recv, after_recv_of, StaysPending, StaysBy, MayQueueAnew, PollsValue, PollsSend, PollsRecv, without_sender}
use Rattle.mea_chan_core.specs.Mailbox as mailbox
use Rattle.mea_chan_core.specs.Mailbox.{Mailbox}
use Rattle.mea_chan_core.specs.Oneshot as oneshot
use Rattle.mea_chan_core.specs.Oneshot.{Oneshot}
use Rattle.mea_chan_core.specs.InOrder.{accepted_by, received_by, accepted_at, received_at, received_in, Calls, TrySend, PollSend, EndSend, TryRecv, PollRecv, AddSender, EndSender, EndReceiver, NextWake, ChannelRuns, Starts, Goes, MailCalls, Send, SendRefused, MailTryRecv, MailPollRecv, MailAddSender, MailEndSender, MailEndReceiver, MailNextWake, MailRuns, MailStarts, MailGoes, ShotCalls, ShotSend, ShotEndSender, ShotTryRecv, ShotPollRecv, ShotEndReceiver, ShotNextWake, ShotRuns, ShotStarts, ShotGoes}

module _ {T : Type 0} where
  -- what a call does to the queue: it appends what it accepts, and takes from the front what it hands out or drops; only an
  -- open channel does any of this, and drops only where it ends
  pub record Moves (queued : List T) (ended : Bool) (queued' : List T) (ended' : Bool) (accepted received fallen : List T) : Type 0 where
    pub moved : queued ++ accepted ≡ received ++ (fallen ++ queued')
    pub opens : ended' ≡ false → (ended ≡ false) × (fallen ≡ [])
    pub shut : ended ≡ true → queued ≡ [] → (ended' ≡ true) × (accepted ≡ []) × (received ≡ []) × (fallen ≡ []) × (queued' ≡ [])
    pub falls : ended ≡ false → ended' ≡ true → queued' ≡ []

  -- nothing of it changes
  rests : (queued : List T) (ended : Bool) → Moves queued ended queued ended [] [] []
  rests queued ended = record {
    moved = append-nil queued;
    opens = λ is. (is, refl);
    shut = λ is none. (is, refl, refl, refl, none);
    falls = λ lives ends. absurd (let no = sym lives ∙ ends in cc);
  }

  accepts : (queued : List T) (v : T) → Moves queued false (queued ++ v ∷ []) false (v ∷ []) [] []
  accepts queued v = record {
    moved = refl;
    opens = λ is. (refl, refl);
    shut = λ is none. absurd (cc);
    falls = λ lives ends. absurd (cc);
  }

  takes : (v : T) (rest : List T) (ended : Bool) → Moves (v ∷ rest) ended rest ended [] (v ∷ []) []
  takes v rest ended = record {
    moved = ap (λ q. v ∷ q) (append-nil rest);
    opens = λ is. (is, refl);
    shut = λ is none. absurd (cc);
    falls = λ lives ends. absurd (let no = sym lives ∙ ends in cc);
  }

  drops : (queued : List T) → Moves queued false [] true [] [] queued
  drops queued = record {
    moved = refl;
    opens = λ is. absurd (cc);
    shut = λ is none. absurd (cc);
    falls = λ lives ends. refl;
  }

  -- what a channel of these messages would answer, by whether it has ended and is full
  abbrev answer : Bool → Bool → T → Result (Unit {0}) (TrySendError T)
  answer ended full v = cond ended (Err (Disconnected v)) (cond full (Err (Full v)) (Ok tt))

  pub record Ordered (queued : List T) (ended : Bool) (accepted received fallen : List T) : Type 0 where
    pub order : accepted ≡ received ++ (fallen ++ queued)
    pub lives : ended ≡ false → fallen ≡ []
    pub ended_none : ended ≡ true → queued ≡ []

  pub goes : (q : List T) (e : Bool) (q' : List T) (e' : Bool) (a r f a' r' f' : List T) → Ordered q e a r f → Moves q e q' e' a' r' f' → Ordered q' e' (a ++ a') (r ++ r') (f ++ f')
  goes q false q' e' a r f a' r' f' o m =
      let none = o.lives refl in
      let before : a ≡ r ++ q = o.order ∙ ap (λ xs. r ++ (xs ++ q)) none in
      record {
        order = ap (λ xs. xs ++ a') before ∙ append_assoc r q a' ∙ ap (λ xs. r ++ xs) m.moved ∙ sym (append_assoc r r' (f' ++ q'))
            ∙ ap (λ xs. (r ++ r') ++ ((xs ++ f') ++ q')) (sym none);
        lives = λ open_still. ap (λ xs. xs ++ f') none ∙ (m.opens open_still).1;
        ended_none = λ ends. m.falls refl ends;
      }
  goes q true q' e' a r f a' r' f' o m =
      let shut = m.shut refl (o.ended_none refl) in
      record {
        order = ap (λ xs. a ++ xs) shut.1 ∙ append-nil a ∙ o.order ∙ ap (λ xs. r ++ (f ++ xs)) (o.ended_none refl ∙ sym shut.4)
            ∙ ap (λ xs. xs ++ (f ++ q')) (sym (append-nil r) ∙ ap (λ xs. r ++ xs) (sym shut.2))
            ∙ ap (λ xs. (r ++ r') ++ (xs ++ q')) (sym (append-nil f) ∙ ap (λ xs. f ++ xs) (sym shut.3));
        lives = λ lives. absurd (let no = (m.opens lives).0 in cc);
        ended_none = λ ends. shut.4;
      }

-- what a oneshot without a message answers, by whether its receiver and its sender live
abbrev shot_answer : {T : Type 0} → Bool → Bool → Result T TryRecvError
shot_answer rc sn = cond rc (cond sn (Err try.Empty) (Err try.Disconnected)) (Err try.Disconnected)

module _ {T W : Type 0} where
  abbrev Of : Channel T W → Channel T W → List T → List T → List T → Type 0
  Of c c' accepted received fallen = Moves c.queued c.ended c'.queued c'.ended accepted received fallen

  sends : (c : Channel T W) (v : T) → Of c (after_send c v) (accepted_by (send_answer c v) v) [] []
  sends c v = by_case c.ended (is_full c) refl
    where
      by_case : (e f : Bool) → c.ended ≡ e → Moves c.queued c.ended (cond e c (cond f c (with_message c v))).queued (cond e c (cond f c (with_message c v))).ended (accepted_by (answer e f v) v) [] []
      by_case true f is = rests c.queued c.ended
      by_case false true is = rests c.queued c.ended
      by_case false false is = subst (λ (e : Bool). Moves c.queued e (c.queued ++ v ∷ []) e (v ∷ []) [] []) (sym is) (accepts c.queued v)

  -- a channel that differs in its senders' semaphore, its waker or its wakes alone
  alike : (c c' : Channel T W) → c'.queued ≡ c.queued → c'.ended ≡ c.ended → Of c c' [] [] []
  alike c c' queued ended = subst (λ (q : List T). Moves c.queued c.ended q c'.ended [] [] []) (sym queued) (subst (λ (e : Bool). Moves c.queued c.ended c.queued e [] [] []) (sym ended) (rests c.queued c.ended))

  same_after : (c d c' : Channel T W) → c' ≡ d → d.queued ≡ c.queued → d.ended ≡ c.ended → Of c c' [] [] []
  same_after c d c' is queued ended = alike c c' (ap (λ (x : Channel T W). x.queued) is ∙ queued) (ap (λ (x : Channel T W). x.ended) is ∙ ended)

  anew : {R : Type 0} (c c' : Channel T W) (old new : Acquire) (w : W) (r : Result R (W × NoMemory)) → MayQueueAnew c old w r c' new → Of c c' [] [] []
  anew c c' old new w (Ok x) queues = same_after c (record c { waiting = queues.1 }) c' queues.6 refl refl
  anew c c' old new w (Err e) none = same_after c c c' none.1 refl refl

  stays : {R : Type 0} (c c' : Channel T W) (old new : Acquire) (w : W) (r : Result R (W × NoMemory)) → StaysPending c old w r c' new → Of c c' [] [] []
  stays c c' (acquires.New demand) new w r h = anew c c' (acquires.New demand) new w r h
  stays c c' (acquires.Done demand) new w r h = anew c c' (acquires.Done demand) new w r h
  stays c c' (acquires.Refused demand) new w r h = anew c c' (acquires.Refused demand) new w r h
  stays {R} c c' (acquires.Queued demand number) new w r h = by_grant (map.get c.waiting.granted number) h
    where
      by_grant : (o : Option ℕ) → StaysBy {R = R} o c demand number w r c' new → Of c c' [] [] []
      by_grant None h = same_after c _ c' h.1 refl refl
      by_grant (Some d) h = anew c c' (acquires.Queued demand number) new w r h

  polls : (c c' : Channel T W) (value value' : Option T) (old new : Acquire) (w : W) (r : Result (Poll (Result (Unit {0}) (SendError T))) (W × NoMemory)) → PollsSend c value old w r c' value' new
      → Of c c' (accepted_at r value) [] []
  polls c c' None value' old new w r h = subst (λ (x : Result (Poll (Result (Unit {0}) (SendError T))) (W × NoMemory)). Of c c' (accepted_at x None) [] []) (sym h.0) (same_after c c c' h.1 refl refl)
  polls c c' (Some v) value' old new w r h = by_case c.ended (is_full c) refl h
    where
      by_case : (e f : Bool) → c.ended ≡ e → PollsValue c v (answer e f v) old w r c' value' new → Of c c' (accepted_at r (Some v)) [] []
      by_case true f is h = subst (λ (x : Result (Poll (Result (Unit {0}) (SendError T))) (W × NoMemory)). Of c c' (accepted_at x (Some v)) [] []) (sym h.0) (same_after c _ c' h.2.2 refl refl)
      by_case false true is h = by_result r h.0 h.2
        where
          by_result : (r : Result (Poll (Result (Unit {0}) (SendError T))) (W × NoMemory)) → MatchResult r (λ poll. poll ≡ Pending) (λ _. Unit {0}) → StaysPending c old w r c' new → Of c c' (accepted_at r (Some v)) [] []
          by_result (Ok (Ready x)) is h = absurd (cc)
          by_result (Ok Pending) is h = stays c c' old new w (Ok Pending) h
          by_result (Err e) is h = stays c c' old new w (Err e) h
      by_case false false is h =
          let queued : c'.queued ≡ c.queued ++ v ∷ [] = ap (λ (x : Channel T W). x.queued) h.2.2 in
          let ended : c'.ended ≡ c.ended = ap (λ (x : Channel T W). x.ended) h.2.2 in
          let here : Moves c.queued c.ended (c.queued ++ v ∷ []) c.ended (v ∷ []) [] [] = subst (λ (e : Bool). Moves c.queued e (c.queued ++ v ∷ []) e (v ∷ []) [] []) (sym is) (accepts c.queued v) in
          let there : Moves c.queued c.ended c'.queued c'.ended (v ∷ []) [] [] = subst (λ (q : List T). Moves c.queued c.ended q c'.ended (v ∷ []) [] []) (sym queued) (subst (λ (e : Bool). Moves c.queued c.ended (c.queued ++ v ∷ []) e (v ∷ []) [] []) (sym ended) here) in
          subst (λ (x : Result (Poll (Result (Unit {0}) (SendError T))) (W × NoMemory)). Of c c' (accepted_at x (Some v)) [] []) (sym h.0) there

  -- ---- receives

  receives_of : (c : Channel T W) (q : List T) → c.queued ≡ q → Of c (after_recv_of c q) [] (received_by (recv_answer_of c q)) []
  receives_of c [] is = by_case c.ended (c.senders == 0)
    where
      by_case : (e n : Bool) → Of c c [] (received_by {E = TryRecvError} (cond e (Err try.Disconnected) (cond n (Err try.Disconnected) (Err try.Empty)))) []
      by_case true n = rests c.queued c.ended
      by_case false true = rests c.queued c.ended
      by_case false false = rests c.queued c.ended
  receives_of c (v ∷ rest) is = subst (λ (q : List T). Moves q c.ended rest c.ended [] (v ∷ []) []) (sym is) (takes v rest c.ended)

  receives : (c : Channel T W) → Of c (after_recv c) [] (received_by (recv_answer c)) []
  receives c = receives_of c c.queued refl

  polls_recv : (c c' : Channel T W) (w : W) (a : Result T TryRecvError) (r : Result (Poll (Result T RecvError)) (W × NoMemory)) → Of c (after_recv c) [] (received_by a) [] → PollsRecv c w a r c' → Of c c' [] (received_at r) []
  polls_recv c c' w (Ok v) r taken h =
      subst (λ (x : Result (Poll (Result T RecvError)) (W × NoMemory)). Of c c' [] (received_at x) []) (sym h.0) (subst (λ (d : Channel T W). Of c d [] (v ∷ []) []) (sym h.1) taken)
  polls_recv c c' w (Err try.Disconnected) r taken h =
      subst (λ (x : Result (Poll (Result T RecvError)) (W × NoMemory)). Of c c' [] (received_at x) []) (sym h.0) (same_after c c c' h.1 refl refl)
  polls_recv c c' w (Err try.Empty) r taken h = by_result r h
    where
      by_result : (r : Result (Poll (Result T RecvError)) (W × NoMemory)) → MatchResult r (λ poll. (poll ≡ Pending) × (c' ≡ record c { waker = Some w })) (λ e. (e.0 ≡ w) × (c' ≡ c)) → Of c c' [] (received_at r) []
      by_result (Ok (Ready x)) is = absurd (let pending = is.0 in cc)
      by_result (Ok Pending) is = same_after c _ c' is.1 refl refl
      by_result (Err e) is = same_after c c c' is.1 refl refl

  -- ---- all calls

  without_one : (c : Channel T W) → Of c (without_sender c) [] [] []
  without_one c = by_count (c.senders == 1)
    where
      by_count : (b : Bool) → Of c (cond b (record c { senders = 0; waker = None; wakes = c.wakes ++ option_to_list c.waker }) (record c { senders = c.senders - 1 })) [] [] []
      by_count true = rests c.queued c.ended
      by_count false = rests c.queued c.ended

  moves : (c c' : Channel T W) (accepted received fallen : List T) → Calls c c' accepted received fallen → Of c c' accepted received fallen
  moves c _ _ _ _ (TrySend v) = sends c v
  moves c _ _ _ _ (PollSend value value' old new w r c' h) = polls c c' value value' old new w r h
  moves c _ _ _ _ (EndSend acquire c' h) = same_after c _ c' h.2 refl refl
  moves c _ _ _ _ TryRecv = receives c
  moves c _ _ _ _ (PollRecv w r c' h) = polls_recv c c' w (recv_answer c) r (receives c) h
  moves c _ _ _ _ AddSender = rests c.queued c.ended
  moves c _ _ _ _ EndSender = without_one c
  moves c _ _ _ _ (EndReceiver lives) = subst (λ (e : Bool). Moves c.queued e [] true [] [] c.queued) (sym lives) (drops c.queued)
  moves c _ _ _ _ (NextWake wakes) = rests c.queued c.ended

  -- ---- all lists of calls

  pub in_order : (c : Channel T W) (a r f : List T) → ChannelRuns c a r f → Ordered c.queued c.ended a r f
  in_order _ _ _ _ (Starts c none lives) = record { order = sym none; lives = λ is. refl; ended_none = λ ends. none }
  in_order _ _ _ _ (Goes c c' a r f a' r' f' runs calls) = goes c.queued c.ended c'.queued c'.ended a r f a' r' f' (in_order c a r f runs) (moves c c' a' r' f' calls)

  -- ---- unbounded channels

  abbrev OfMail : Mailbox T W → Mailbox T W → List T → List T → List T → Type 0
  OfMail m m' accepted received fallen = Moves m.queued m.ended m'.queued m'.ended accepted received fallen

  mail_same : (m d m' : Mailbox T W) → m' ≡ d → d.queued ≡ m.queued → d.ended ≡ m.ended → OfMail m m' [] [] []
  mail_same m d m' is queued ended =
      subst (λ (q : List T). Moves m.queued m.ended q m'.ended [] [] []) (sym (ap (λ (x : Mailbox T W). x.queued) is ∙ queued))
      (subst (λ (e : Bool). Moves m.queued m.ended m.queued e [] [] []) (sym (ap (λ (x : Mailbox T W). x.ended) is ∙ ended)) (rests m.queued m.ended))

  mail_receives_of : (m : Mailbox T W) (q : List T) → m.queued ≡ q → OfMail m (mailbox.after_recv_of m q) [] (received_by (mailbox.recv_answer_of m q)) []
  mail_receives_of m [] is = by_case m.ended (m.senders == 0)
    where
      by_case : (e n : Bool) → OfMail m m [] (received_by {E = TryRecvError} (cond e (Err try.Disconnected) (cond n (Err try.Disconnected) (Err try.Empty)))) []
      by_case true n = rests m.queued m.ended
      by_case false true = rests m.queued m.ended
      by_case false false = rests m.queued m.ended
  mail_receives_of m (v ∷ rest) is = subst (λ (q : List T). Moves q m.ended rest m.ended [] (v ∷ []) []) (sym is) (takes v rest m.ended)

  mail_polls : (m m' : Mailbox T W) (w : W) (a : Result T TryRecvError) (r : Result (Poll (Result T RecvError)) (W × NoMemory)) → OfMail m (mailbox.after_recv m) [] (received_by a) [] → mailbox.PollsRecv m w a r m' → OfMail m m' [] (received_at r) []
  mail_polls m m' w (Ok v) r taken h =
      subst (λ (x : Result (Poll (Result T RecvError)) (W × NoMemory)). OfMail m m' [] (received_at x) []) (sym h.0) (subst (λ (d : Mailbox T W). OfMail m d [] (v ∷ []) []) (sym h.1) taken)
  mail_polls m m' w (Err try.Disconnected) r taken h =
      subst (λ (x : Result (Poll (Result T RecvError)) (W × NoMemory)). OfMail m m' [] (received_at x) []) (sym h.0) (mail_same m m m' h.1 refl refl)
  mail_polls m m' w (Err try.Empty) r taken h = by_result r h
    where
      by_result : (r : Result (Poll (Result T RecvError)) (W × NoMemory)) → MatchResult r (λ poll. (poll ≡ Pending) × (m' ≡ record m { waker = Some w })) (λ e. (e.0 ≡ w) × (m' ≡ m)) → OfMail m m' [] (received_at r) []
      by_result (Ok (Ready x)) is = absurd (let pending = is.0 in cc)
      by_result (Ok Pending) is = mail_same m _ m' is.1 refl refl
      by_result (Err e) is = mail_same m m m' is.1 refl refl

  mail_without_one : (m : Mailbox T W) → OfMail m (mailbox.without_sender m) [] [] []
  mail_without_one m = by_count (m.senders == 1)
    where
      by_count : (b : Bool) → OfMail m (cond b (record m { senders = 0; waker = None; wakes = m.wakes ++ option_to_list m.waker }) (record m { senders = m.senders - 1 })) [] [] []
      by_count true = rests m.queued m.ended
      by_count false = rests m.queued m.ended

  mail_moves : (m m' : Mailbox T W) (accepted received fallen : List T) → MailCalls m m' accepted received fallen → OfMail m m' accepted received fallen
  mail_moves m _ _ _ _ (Send v lives) = subst (λ (e : Bool). Moves m.queued e (m.queued ++ v ∷ []) e (v ∷ []) [] []) (sym lives) (accepts m.queued v)
  mail_moves m _ _ _ _ SendRefused = rests m.queued m.ended
  mail_moves m _ _ _ _ MailTryRecv = mail_receives_of m m.queued refl
  mail_moves m _ _ _ _ (MailPollRecv w r m' h) = mail_polls m m' w (mailbox.recv_answer m) r (mail_receives_of m m.queued refl) h
  mail_moves m _ _ _ _ MailAddSender = rests m.queued m.ended
  mail_moves m _ _ _ _ MailEndSender = mail_without_one m
  mail_moves m _ _ _ _ (MailEndReceiver lives) = subst (λ (e : Bool). Moves m.queued e [] true [] [] m.queued) (sym lives) (drops m.queued)
  mail_moves m _ _ _ _ (MailNextWake wakes) = rests m.queued m.ended

  pub mail_in_order : (m : Mailbox T W) (a r f : List T) → MailRuns m a r f → Ordered m.queued m.ended a r f
  mail_in_order _ _ _ _ (MailStarts m none lives) = record { order = sym none; lives = λ is. refl; ended_none = λ ends. none }
  mail_in_order _ _ _ _ (MailGoes m m' a r f a' r' f' runs calls) = goes m.queued m.ended m'.queued m'.ended a r f a' r' f' (mail_in_order m a r f runs) (mail_moves m m' a' r' f' calls)

  -- ---- oneshots

  -- a message is there only once it was sent; there is at most the one that was accepted
  pub record Shoots (o : Oneshot T W) (accepted received fallen : List T) : Type 0 where
    pub ordered : Ordered (option_to_list o.message) (not o.receiver) accepted received fallen
    pub unsent : o.sender ≡ true → (o.message ≡ None) × (accepted ≡ [])
    pub once : length accepted ≤ 1

  abbrev OfShot : Oneshot T W → Oneshot T W → List T → List T → List T → Type 0
  OfShot o o' accepted received fallen = Moves (option_to_list o.message) (not o.receiver) (option_to_list o'.message) (not o'.receiver) accepted received fallen

  -- a call that accepts nothing
  keeps : (o o' : Oneshot T W) (a r f r' f' : List T) → Shoots o a r f → OfShot o o' [] r' f' → (o'.sender ≡ true → (o.sender ≡ true) × (o.message ≡ None → o'.message ≡ None))
      → Shoots o' (a ++ []) (r ++ r') (f ++ f')
  keeps o o' a r f r' f' h m sender = record {
    ordered = goes (option_to_list o.message) (not o.receiver) (option_to_list o'.message) (not o'.receiver) a r f [] r' f' h.ordered m;
    unsent = λ lives. let before = h.unsent (sender lives).0 in ((sender lives).1 before.0, append-nil a ∙ before.1);
    once = subst (λ (xs : List T). length xs ≤ 1) (sym (append-nil a)) h.once;
  }

  same_shot : (o : Oneshot T W) (a r f : List T) → Shoots o a r f → Shoots o (a ++ []) (r ++ []) (f ++ [])
  same_shot o a r f h = keeps o o a r f [] [] h (rests (option_to_list o.message) (not o.receiver)) (λ lives. (lives, λ none. none))

  shot_sends : (o : Oneshot T W) (v : T) (a r f : List T) → Shoots o a r f → Shoots (oneshot.after_send o v) (a ++ accepted_by (oneshot.send_answer o v) v) (r ++ []) (f ++ [])
  shot_sends o v a r f h = by_ends o.receiver o.sender refl refl
    where
      there : Oneshot T W
      there = record o { message = Some v; sender = false; waker = None; ready = o.waker }

      by_ends : (rc sn : Bool) → o.receiver ≡ rc → o.sender ≡ sn
          → Shoots (cond rc (cond sn there o) o) (a ++ accepted_by {E = SendError T} (cond rc (cond sn (Ok tt) (Err (record { 0 = v }))) (Err (record { 0 = v }))) v) (r ++ []) (f ++ [])
      by_ends false sn lives sends = same_shot o a r f h
      by_ends true false lives sends = same_shot o a r f h
      by_ends true true lives sends =
          let before = h.unsent sends in
          let moved : OfShot o there (v ∷ []) [] [] =
          subst (λ (m : Option T). Moves (option_to_list m) (not o.receiver) (v ∷ []) (not o.receiver) (v ∷ []) [] []) (sym before.0)
          (subst (λ (e : Bool). Moves [] (not e) (v ∷ []) (not e) (v ∷ []) [] []) (sym lives) (accepts [] v)) in
          record {
            ordered = goes (option_to_list o.message) (not o.receiver) (v ∷ []) (not o.receiver) a r f (v ∷ []) [] [] h.ordered moved;
            unsent = λ none. absurd (cc);
            once = subst (λ (xs : List T). length (xs ++ v ∷ []) ≤ 1) (sym before.1) (omega arith);
          }

  shot_takes : (o : Oneshot T W) (m : Option T) (a r f : List T) → o.message ≡ m → Shoots o a r f → Shoots (oneshot.after_recv o) (a ++ []) (r ++ received_by (oneshot.recv_answer_of o m)) (f ++ [])
  shot_takes o (Some v) a r f is h =
      keeps o (oneshot.after_recv o) a r f (v ∷ []) [] h
      (subst (λ (m : Option T). Moves (option_to_list m) (not o.receiver) [] (not o.receiver) [] (v ∷ []) []) (sym is) (takes v [] (not o.receiver))) (λ lives. (lives, λ none. refl))
  shot_takes o None a r f is h = by_ends o.receiver o.sender
    where
      rest : Shoots (oneshot.after_recv o) (a ++ []) (r ++ []) (f ++ [])
      rest = keeps o (oneshot.after_recv o) a r f [] [] h (subst (λ (m : Option T). Moves (option_to_list m) (not o.receiver) [] (not o.receiver) [] [] []) (sym is) (rests [] (not o.receiver))) (λ lives. (lives, λ none. refl))

      by_ends : (rc sn : Bool) → Shoots (oneshot.after_recv o) (a ++ []) (r ++ received_by {E = TryRecvError} (cond rc (cond sn (Err try.Empty) (Err try.Disconnected)) (Err try.Disconnected))) (f ++ [])
      by_ends false sn = rest
      by_ends true false = rest
      by_ends true true = rest

  shot_polls : (o : Oneshot T W) (w : W) (m : Option T) (a r f : List T) → o.message ≡ m → Shoots o a r f
      → Shoots (oneshot.after_poll o w (oneshot.recv_answer_of o m)) (a ++ []) (r ++ received_in (oneshot.poll_answer (oneshot.recv_answer_of o m))) (f ++ [])
  shot_polls o w (Some v) a r f is h = shot_takes o (Some v) a r f is h
  shot_polls o w None a r f is h = by_ends o.receiver o.sender
    where
      by_ends : (rc sn : Bool) → Shoots (oneshot.after_poll o w (shot_answer {T = T} rc sn)) (a ++ []) (r ++ received_in (oneshot.poll_answer (shot_answer {T = T} rc sn))) (f ++ [])
      by_ends false sn = same_shot o a r f h
      by_ends true false = same_shot o a r f h
      by_ends true true = keeps o (record o { waker = Some w }) a r f [] [] h (rests (option_to_list o.message) (not o.receiver)) (λ lives. (lives, λ none. none))

  shot_goes : (o o' : Oneshot T W) (a r f a' r' f' : List T) → Shoots o a r f → ShotCalls o o' a' r' f' → Shoots o' (a ++ a') (r ++ r') (f ++ f')
  shot_goes o _ a r f _ _ _ h (ShotSend v) = shot_sends o v a r f h
  shot_goes o _ a r f _ _ _ h (ShotEndSender lives) = keeps o (oneshot.without_sender o) a r f [] [] h (rests (option_to_list o.message) (not o.receiver)) (λ no_more. absurd (cc))
  shot_goes o _ a r f _ _ _ h ShotTryRecv = shot_takes o o.message a r f refl h
  shot_goes o _ a r f _ _ _ h (ShotPollRecv w) = shot_polls o w o.message a r f refl h
  shot_goes o _ a r f _ _ _ h (ShotEndReceiver lives) =
      keeps o (oneshot.without_receiver o) a r f [] (option_to_list o.message) h
      (subst (λ (e : Bool). Moves (option_to_list o.message) (not e) [] true [] [] (option_to_list o.message)) (sym lives) (drops (option_to_list o.message))) (λ sends. (sends, λ none. refl))
  shot_goes o _ a r f _ _ _ h ShotNextWake = keeps o (record o { ready = None }) a r f [] [] h (rests (option_to_list o.message) (not o.receiver)) (λ lives. (lives, λ none. none))

  pub shoots : (o : Oneshot T W) (a r f : List T) → ShotRuns o a r f → Shoots o a r f
  shoots _ _ _ _ ShotStarts = record { ordered = record { order = refl; lives = λ is. refl; ended_none = λ ends. refl }; unsent = λ lives. (refl, refl); once = omega arith }
  shoots _ _ _ _ (ShotGoes o o' a r f a' r' f' runs calls) = shot_goes o o' a r f a' r' f' (shoots o a r f runs) calls
