-- one channel: what each change of it is, as it is kept and as it is seen
use Rattle.std.proofs.Common.{◌≡◌, ℕ, ◌+◌, ◌-◌, ◌<◌, ◌==◌, ◌++◌, Bool, true, false, not, cond, length, List, [], ◌∷◌, Option, Some, None, Ok, Err, option_to_list, if◌then◌else◌, refl, ap, sym, ◌∙◌, arith}
use Rattle.std.specs.FinMap.{get, insert, remove, len}
use Rattle.std.proofs.lemmas.Bool.{eqb-true, eqb-false}
use Rattle.mea_family.specs.declared.answer.Answer.{Answer}
use Rattle.mea_family.specs.declared.answer.Answer.TheVariants as answers
use Rattle.mea_by_name.specs.ByName.{Names}
use Rattle.mea_by_name.proofs.Own.{len-new, len-gone, len-some}
use Rattle.mea_chan_core.specs.declared.errors.TryRecvError.TheVariants as try
use Rattle.mea_chan_core.specs.Mailbox.{with_message, recv_answer, recv_answer_of, after_recv, after_recv_of, without_sender}
use Rattle.mea_chan_model.specs.Mailboxes as model
use Rattle.mea_chan.specs.declared.receiver_entry.ReceiverEntry.{ReceiverEntry}
use Rattle.mea_chan.specs.Cores.{Mailbox, is_over, message_sent, sent_answer, last_sent, receiver_ended, has_message, no_message_comes, is_some_message}
use Rattle.mea_chan.specs.Entries.{kept, told}
use Rattle.mea_chan.specs.MailboxParts.{channel_seen, AreKept}

-- no waker is ready
abbrev pub settled : Mailbox → Mailbox
settled m = record m { wakes = [] }

no_waker : (w : ℕ) → ◌≡◌ {A = Option ℕ} None (Some w) → ⊥
no_waker w is = absurd (cc)

-- where no sender lives nobody waits
pub silent : (m : Mailbox) (ss : Names ℕ) (rs : Names ReceiverEntry) → AreKept m ss rs → m.senders ≡ 0 → m.waker ≡ None
silent m ss rs k none = at m.waker refl
  where
    at : (o : Option ℕ) → m.waker ≡ o → m.waker ≡ None
    at None is = is
    at (Some w) is = absurd (let some = (k.waits w is).1 in omega (arith, some, none))

-- ---- what is seen of each change, and the wakers that it makes ready
module _ (m : Mailbox) where
  pub seen_sent : (v : ℕ) → channel_seen (settled (message_sent m v)) ≡ model.with_message (channel_seen m) v
  seen_sent v = elim m.ended as (λ b. channel_seen (settled (if b then m else with_message m v)) ≡ (if b then channel_seen m else record (channel_seen m) { queued = m.queued ++ v ∷ []; waker = None })) [ true ↦ refl | false ↦ refl ]

  pub woken_sent : (v : ℕ) → m.wakes ≡ [] → (message_sent m v).wakes ≡ model.woken_by_send (channel_seen m)
  woken_sent v quiet = elim m.ended as (λ b. (if b then m else with_message m v).wakes ≡ (if b then [] else option_to_list m.waker)) [ true ↦ quiet | false ↦ ap (λ ws. ws ++ option_to_list m.waker) quiet ]

  pub answer_sent : (v : ℕ) (answer : Answer) → answer ≡ (if sent_answer m then answers.Accepted else answers.Closed v) → answer ≡ model.sent (channel_seen m) v
  answer_sent v answer is = is ∙ (elim m.ended as (λ b. (if not b then answers.Accepted else answers.Closed v) ≡ (if b then answers.Closed v else answers.Accepted)) [ true ↦ refl | false ↦ refl ])

  pub seen_last : (v : ℕ) → channel_seen (settled (last_sent m v)) ≡ model.without_senders (model.with_message (channel_seen m) v)
  seen_last v = at m.ended refl
    where
      at : (b : Bool) → m.ended ≡ b → channel_seen (settled (record m { queued = if b then m.queued else m.queued ++ v ∷ []; senders = 0; waker = None; wakes = option_to_list m.waker }))
          ≡ model.without_senders (if b then channel_seen m else record (channel_seen m) { queued = m.queued ++ v ∷ []; waker = None })
      at true is = refl
      at false is = refl

  pub seen_less : channel_seen (settled (without_sender m)) ≡ model.less_sender (channel_seen m)
  seen_less = at (m.senders == 1)
    where
      at : (b : Bool) → channel_seen (settled (if b then record m { senders = 0; waker = None; wakes = m.wakes ++ option_to_list m.waker } else record m { senders = m.senders - 1 }))
          ≡ (if b then model.without_senders (channel_seen m) else record (channel_seen m) { senders = m.senders - 1 })
      at true = refl
      at false = refl

  pub woken_less : m.wakes ≡ [] → (without_sender m).wakes ≡ model.woken_by_end (channel_seen m)
  woken_less quiet = elim (m.senders == 1) as (λ b. (if b then record m { senders = 0; waker = None; wakes = m.wakes ++ option_to_list m.waker } else record m { senders = m.senders - 1 }).wakes ≡ (if b then option_to_list m.waker else [])) [ true ↦ ap (λ ws. ws ++ option_to_list m.waker) quiet | false ↦ quiet ]

  pub none_kept : m.waker ≡ None → kept m ≡ 0
  none_kept none = ap (λ (o : Option ℕ). length (option_to_list o)) none

  pub over_is : is_over m ≡ true → (m.ended ≡ true) × (m.senders ≡ 0)
  over_is = elim m.ended as (λ b. (if b then m.senders == 0 else false) ≡ true → (b ≡ true) × (m.senders ≡ 0)) [ true ↦ λ is. (refl, eqb-true m.senders 0 is) | false ↦ λ is. absurd (cc) ]

  -- ---- what it keeps to after each change, with its senders and receivers
  module _ (ss : Names ℕ) (rs : Names ReceiverEntry) (k : AreKept m ss rs) where
    pub sent_kept : (v : ℕ) → AreKept (settled (message_sent m v)) ss rs
    sent_kept v = elim m.ended as (λ b. AreKept (settled (if b then m else with_message m v)) ss rs) [
      | true ↦ record { senders = k.senders; receivers = k.receivers; waits = k.waits; quiet = refl }
      | false ↦ record { senders = k.senders; receivers = k.receivers; waits = λ w kept. absurd (no_waker w kept); quiet = refl }
    ]

    pub received_kept : (v : ℕ) (rest : List ℕ) → m.queued ≡ v ∷ rest → AreKept (record m { queued = rest }) ss rs
    received_kept v rest queue = record { senders = k.senders; receivers = k.receivers; waits = λ w kept. absurd (let none = sym queue ∙ (k.waits w kept).0 in cc); quiet = k.quiet }

    pub waits_kept : (w : ℕ) → m.queued ≡ [] → (m.senders == 0) ≡ false → AreKept (record m { waker = Some w }) ss rs
    waits_kept w queue some = record { senders = k.senders; receivers = k.receivers; waits = λ v kept. (queue, let more = eqb-false m.senders 0 some in omega (arith, more)); quiet = k.quiet }

    pub copied_kept : (i o : ℕ) → get ss i ≡ None → AreKept (record m { senders = m.senders + 1 }) (insert ss i o) rs
    copied_kept i o absent = record {
      senders = let more = len-new ss i o absent in omega (arith, more, k.senders);
      receivers = k.receivers;
      waits = λ w kept. ((k.waits w kept).0, omega arith);
      quiet = k.quiet;
    }

    module _ (s o : ℕ) (there : get ss s ≡ Some o) where
      pub some_sender : 0 < m.senders
      some_sender = omega (arith, k.senders, len-some ss s o there)

      -- the one sender, or one of many, is gone
      pub less_kept : AreKept (settled (without_sender m)) (remove ss s) rs
      less_kept = at (m.senders == 1) refl
        where
          at : (b : Bool) → (m.senders == 1) ≡ b → AreKept (settled (if b then record m { senders = 0; waker = None; wakes = m.wakes ++ option_to_list m.waker } else record m { senders = m.senders - 1 })) (remove ss s) rs
          at true is = record { senders = let one = eqb-true m.senders 1 is in let less = len-gone ss s o there in omega (arith, one, less, k.senders); receivers = k.receivers; waits = λ w kept. absurd (no_waker w kept); quiet = refl }
          at false is = record {
            senders = let less = len-gone ss s o there in omega (arith, less, k.senders);
            receivers = k.receivers;
            waits = λ w kept. ((k.waits w kept).0, let more = eqb-false m.senders 1 is in let some = some_sender in omega (arith, some, more));
            quiet = refl;
          }

      pub last_kept : (v : ℕ) → m.senders ≡ 1 → AreKept (settled (last_sent m v)) (remove ss s) rs
      last_kept v one = record { senders = let less = len-gone ss s o there in omega (arith, one, less, k.senders); receivers = k.receivers; waits = λ w kept. absurd (no_waker w kept); quiet = refl }

    module _ (r : ℕ) (x : ReceiverEntry) (there : get rs r ≡ Some x) where
      pub lives : m.ended ≡ false
      lives = elim m.ended as (λ b. cond b 0 1 ≡ len rs → b ≡ false) [ true ↦ λ none. absurd (let some = len-some rs r x there in omega (arith, none, some)) | false ↦ λ one. refl ] k.receivers

      pub ended_kept : (falls : Bool) → AreKept (settled (receiver_ended falls m)) ss (remove rs r)
      ended_kept falls = record {
        senders = k.senders;
        receivers = let less = len-gone rs r x there in let one = ap (λ b. cond {A = ℕ} b 0 1) (sym lives) ∙ k.receivers in omega (arith, less, one);
        waits = at falls;
        quiet = refl;
      }
        where
          at : (b : Bool) (w : ℕ) → (if b then None else m.waker) ≡ Some w → (◌≡◌ {A = List ℕ} [] []) × (0 < m.senders)
          at true w kept = absurd (no_waker w kept)
          at false w kept = (refl, (k.waits w kept).1)

      -- it becomes a future
      pub future_kept : (i : ℕ) (y : ReceiverEntry) → get (remove rs r) i ≡ None → AreKept m ss (insert (remove rs r) i y)
      future_kept i y absent = record {
        senders = k.senders;
        receivers = let less = len-gone rs r x there in let some = len-some rs r x there in let more = len-new (remove rs r) i y absent in omega (arith, less, some, more, k.receivers);
        waits = k.waits;
        quiet = k.quiet;
      }

  -- ---- what is received, where the receiver lives
  module _ (living : m.ended ≡ false) where
    answer_none : recv_answer_of m [] ≡ (if m.senders == 0 then Err try.Disconnected else Err try.Empty)
    answer_none = ap (λ b. if b then Err try.Disconnected else if m.senders == 0 then Err try.Disconnected else Err try.Empty) living

    pub told_none : m.queued ≡ [] → told (recv_answer m) ≡ (if m.senders == 0 then answers.Gone else answers.Empty)
    told_none none = ap told (ap (recv_answer_of m) none ∙ answer_none) ∙ (elim (m.senders == 0) as (λ b. told (if b then Err try.Disconnected else Err try.Empty) ≡ (if b then answers.Gone else answers.Empty)) [ true ↦ refl | false ↦ refl ])

    pub answer_gone : m.queued ≡ [] → (m.senders == 0) ≡ true → recv_answer m ≡ Err try.Disconnected
    answer_gone none gone = ap (recv_answer_of m) none ∙ answer_none ∙ ap (λ b. if b then Err try.Disconnected else Err try.Empty) gone

    pub answer_empty : m.queued ≡ [] → (m.senders == 0) ≡ false → recv_answer m ≡ Err try.Empty
    answer_empty none some = ap (recv_answer_of m) none ∙ answer_none ∙ ap (λ b. if b then Err try.Disconnected else Err try.Empty) some

  pub after_none : m.queued ≡ [] → after_recv m ≡ m
  after_none none = ap (after_recv_of m) none

  pub answer_some : (v : ℕ) (rest : List ℕ) → m.queued ≡ v ∷ rest → recv_answer m ≡ Ok v
  answer_some v rest some = ap (recv_answer_of m) some

  pub after_some : (v : ℕ) (rest : List ℕ) → m.queued ≡ v ∷ rest → after_recv m ≡ record m { queued = rest }
  after_some v rest some = ap (after_recv_of m) some

  -- ---- what is told
  pub over_told : no_message_comes m ≡ (if m.senders == 0 then model.is_empty m.queued else false)
  over_told = ap (λ b. if m.senders == 0 then b else false) (at m.queued)
    where
      at : (q : List ℕ) → not (is_some_message q) ≡ model.is_empty q
      at [] = refl
      at (v ∷ rest) = refl

  pub message_told : has_message m ≡ (if model.is_empty m.queued then false else true)
  message_told = at m.queued
    where
      at : (q : List ℕ) → is_some_message q ≡ (if model.is_empty q then false else true)
      at [] = refl
      at (v ∷ rest) = refl
