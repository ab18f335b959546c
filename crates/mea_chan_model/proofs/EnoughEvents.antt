-- what each event does to the sends of bounded channels keeps that enough senders are woken
use Rattle.std.proofs.Common.{◌≡◌, ℕ, ◌+◌, ◌-◌, ◌<◌, ◌≤◌, ◌==◌, ◌++◌, ◌⊎◌, inl, inr, Bool, true, false, cond, min, nat_lt, length, List, [], ◌∷◌, Option, Some, None, is_some, if◌then◌else◌, refl, ap, sym, subst, ◌∙◌, arith}
use Rattle.std.specs.List.{Contains}
use Rattle.std.specs.Ordering.{nat_cmp}
use Rattle.std.specs.FinMap.{get, insert, remove, get-empty}
use Rattle.std.proofs.lemmas.Bool.{eqb-true, eq-eqb, ne_eqb}
use Rattle.std.proofs.lemmas.List.Elements.{Contains-append_right}
use Rattle.mea_family.specs.declared.answer.Answer.{Answer}
use Rattle.mea_family.specs.declared.answer.Answer.TheVariants as answers
use Rattle.mea_family.specs.declared.stop.Stop.TheVariants as stops
use Rattle.mea_family.specs.Family.{Outcome, quietly, ToldEvent, IsRun, Starts, Goes, RunOf, last_waker, last_waker_at, wakes_since, wakes_at}
use Rattle.mea_base.specs.Queue.{lacks, waiting_after}
use Rattle.mea_base.specs.Totals.{weight}
use Rattle.mea_base.proofs.Maps.{by_put, get-there, get-other, get-gone, get-removed_other, removed_there, inside, none_if, nothing_at}
use Rattle.mea_base.proofs.Tests.{by_name}
use Rattle.mea_family.proofs.Causes.{known}
use Rattle.mea_family.proofs.Refusals.{borrowed_none}
use Rattle.mea_base.proofs.Totals.{total-same}
use Rattle.mea_by_name.specs.ByName.{Names}
use Rattle.mea_by_name.specs.NamedQueue.{waits, waker_for}
use Rattle.mea_by_name.specs.LackingQueue.{Lacking, who, rewoken, leaving, woken_by}
use Rattle.mea_family.specs.Play.{found}
use Rattle.mea_by_name.proofs.Cases.{by_found, by_if, if_true, if_false}
use Rattle.mea_by_name.proofs.NamedQueues.{without-other, with_waker-there, appended-there}
use Rattle.mea_by_name.proofs.LackingQueues.{local_poured, local_pushed, local_rewoken, who-leaving, who-rewoken, who-append}
use Rattle.mea_by_name.proofs.Own.{own-nothing}
use Rattle.mea_events.specs.declared.chan_event.ChanEvent.{ChanEvent}
use Rattle.mea_chan_model.specs.Mailboxes.{Mailbox, Mailboxes, Receiver, new_mailbox, is_channel, is_sender}
use Rattle.mea_chan_model.specs.MailboxActions as actions
use Rattle.mea_chan_model.specs.MailboxActions.{act_in}
use Rattle.mea_chan_model.specs.Bounded as bounded
use Rattle.mea_chan_model.specs.Bounded.{Bounded, Room, BoundedSend, waiting_at, is_full, is_full_in, is_got, at_room, at_room_in, woken_at, woken_in, granted, woken_by_grant, all_granted, all_woken, joined, left_by, tidied_rooms, sends_of, is_send}
use Rattle.mea_chan_model.specs.BoundedActions.{BoundedAction, Make, CopySender, TrySend, BeginSend, PollSend, EndSend, TryReceive, PollReceive, EndSender, EndReceiver, bounded_act, bounded_cause}
use Rattle.mea_chan_model.specs.ChanHall.{ChanHall, Unbounded, Full}
use Rattle.mea_chan_model.specs.Meaning.{Meaning, OfChannels, OfBounded, OfBoxes, meaning_of, cause_by, step_by}
use Rattle.mea_chan_model.specs.ChanFamily.{chans_family}
use Rattle.mea_chan_model.specs.InOrder.{queued_in}
use Rattle.mea_chan_model.specs.Sends.{queue_in, queue_at, capacity_in, capacity_at, is_pending_at, is_granted_at, granted_of, granted_at, pending_at, polls_send, send_polled_by, sends_family}
use Rattle.mea_chan_model.proofs.SendLines.{WaitsFor, InLine, line_map, line_rewoken, line_pushed, line_left, one_granted, all_granted_none, counts_at, granted_apart, weighs_one, weighs_none, not_granted_new, not_granted_waiting, first_counts}
use Rattle.mea_chan_model.proofs.MailKeeps.{ended_in, Lessens, lessens_same, Took, copy_lessens, send_lessens, end_sender_lessens, received_took, polled_took, end_receiver_others, end_receiver_senders, send_senders, copy_senders, end_sender_senders, end_sender_had}
use Rattle.std.specs.Option.{option_map}
use Rattle.std.specs.Prelude.{not}
use Rattle.mea_chan_model.specs.ChanHall.{ReceiverOfBounded}
use Rattle.mea_chan_model.proofs.Wakers.{lows}
use Rattle.mea_chan_model.proofs.MailKeeps.{send_more}
use Rattle.mea_chan_model.proofs.Enough.{Held, Changes, held_after}

-- ---- a channel that is full
pub record IsFull (p : Option Mailbox) (r : Option Room) : Type 0 where
  pub room : Room
  pub there : r ≡ Some room
  pub lives : ended_in p ≡ false
  pub all : length (queued_in p) ≡ room.capacity

full_is : (p : Option Mailbox) (r : Option Room) → is_full_in p r ≡ true → IsFull p r
full_is None r is = absurd (cc)
full_is (Some c) None is = absurd (cc)
full_is (Some c) (Some r) is = at c.ended refl is
  where
    at : (b : Bool) → c.ended ≡ b → (if b then false else length c.queued == r.capacity) ≡ true → IsFull (Some c) (Some r)
    at true ended full = absurd (cc)
    at false lives full = record { room = r; there = refl; lives = lives; all = eqb-true (length c.queued) r.capacity full }

-- ---- one place is granted
poured_line : (xs : Names BoundedSend) (last : ℕ → Option ℕ) (o : ℕ) (q : Lacking) → InLine xs last o q → InLine xs last o (waiting_after q 1)
poured_line xs last o [] line = tt
poured_line xs last o (e ∷ q) line = rw (one_granted xs last o e q line) line.3

poured_counts : (xs : Names BoundedSend) (last : ℕ → Option ℕ) (o : ℕ) (q : Lacking) → InLine xs last o q → (waiting_after q 1 ≡ [] → ⊥) → granted_of (waiting_after q 1) xs o ≡ granted_of q xs o + 1
poured_counts xs last o [] line some = absurd (some refl)
poured_counts xs last o (e ∷ q) line some = rw (one_granted xs last o e q line) (first_counts xs last o e q line)

poured_none : (q : Lacking) → q ≡ [] → waiting_after q 1 ≡ []
poured_none q none = ap (λ p. waiting_after p 1) none

joined_queue : (f w : ℕ) (r : Room) → queue_in (Some (joined f w r)) ≡ (if waits (waiting_at r) f then rewoken r.queue f w else r.queue ++ ((f, w), 1) ∷ [])
joined_queue f w r = elim (waits (waiting_at r) f) as (λ b. queue_in (Some (if b then record r { queue = rewoken r.queue f w } else record r { queue = r.queue ++ ((f, w), 1) ∷ [] })) ≡ (if b then rewoken r.queue f w else r.queue ++ ((f, w), 1) ∷ [])) [ true ↦ refl | false ↦ refl ]

pub joined_capacity : (f w : ℕ) (r : Room) → (joined f w r).capacity ≡ r.capacity
joined_capacity f w r = by_if (λ (d : Room). d.capacity ≡ r.capacity) (waits (waiting_at r) f) _ _ (λ waits. refl) (λ other. refl)

-- ---- the rooms after a change at one channel
at_room_other : (rs : Names Room) (o q : ℕ) (change : Room → Room) → (o ≡ q → ⊥) → get (at_room rs o change) q ≡ get rs q
at_room_other rs o q change apart = at (get rs o)
  where
    at : (p : Option Room) → get (at_room_in rs o change p) q ≡ get rs q
    at None = refl
    at (Some r) = get-other rs o q (change r) apart

at_room_there : (rs : Names Room) (o : ℕ) (change : Room → Room) → get (at_room rs o change) o ≡ option_map change (get rs o)
at_room_there rs o change = at (get rs o) refl
  where
    at : (p : Option Room) → get rs o ≡ p → get (at_room_in rs o change p) o ≡ option_map change p
    at None is = is
    at (Some r) is = get-there rs o (change r)

tidied_other : (rs : Names Room) (o q : ℕ) (there : Bool) → (o ≡ q → ⊥) → get (tidied_rooms rs o there) q ≡ get rs q
tidied_other rs o q true apart = refl
tidied_other rs o q false apart = get-removed_other rs o q apart

granted_queue : (p : Option Room) (n : ℕ) → queue_in (option_map (granted n) p) ≡ waiting_after (queue_in p) n
granted_queue None n = refl
granted_queue (Some r) n = refl

granted_capacity : (p : Option Room) (n : ℕ) → capacity_in (option_map (granted n) p) ≡ capacity_in p
granted_capacity None n = refl
granted_capacity (Some r) n = refl

woken_queue : (p : Option Room) (n : ℕ) → woken_in p (woken_by_grant n) ≡ woken_by (queue_in p) n
woken_queue None n = refl
woken_queue (Some r) n = refl

all_queue : (p : Option Room) → queue_in (option_map all_granted p) ≡ waiting_after (queue_in p) (lacks (queue_in p))
all_queue None = refl
all_queue (Some r) = refl

all_woken_queue : (p : Option Room) → woken_in p all_woken ≡ woken_by (queue_in p) (lacks (queue_in p))
all_woken_queue None = refl
all_woken_queue (Some r) = refl

abbrev left_queue : Lacking → ℕ → Lacking
left_queue q f = if waits (who q) f then leaving q f else q

left_is : (p : Option Room) (f : ℕ) → queue_in (option_map (left_by f) p) ≡ left_queue (queue_in p) f
left_is None f = refl
left_is (Some r) f = elim (waits (waiting_at r) f) as (λ b. queue_in (Some (if b then record r { queue = leaving r.queue f } else r)) ≡ (if b then leaving r.queue f else r.queue)) [ true ↦ refl | false ↦ refl ]

pub left_capacity : (f : ℕ) (r : Room) → (left_by f r).capacity ≡ r.capacity
left_capacity f r = by_if (λ (d : Room). d.capacity ≡ r.capacity) (waits (waiting_at r) f) _ r (λ waits. refl) (λ other. refl)

left_in : (p : Option Room) (f : ℕ) → capacity_in (option_map (left_by f) p) ≡ capacity_in p
left_in None f = refl
left_in (Some r) f = left_capacity f r

left_others : (q : Lacking) (f g : ℕ) → (f ≡ g → ⊥) → waker_for (who (left_queue q f)) g ≡ waker_for (who q) g
left_others q f g apart = by_if (λ p. waker_for (who p) g ≡ waker_for (who q) g) (waits (who q) f) (leaving q f) q (λ waiting. ap (λ p. waker_for p g) (who-leaving q f) ∙ without-other (who q) f g apart) (λ free. refl)

left_none : (q : Lacking) (f : ℕ) → q ≡ [] → left_queue q f ≡ []
left_none q f none = ap (λ p. left_queue p f) none

abbrev tell : ChanHall → ℕ → ChanEvent → Outcome Bounded → ToldEvent ChanHall ChanEvent
tell all i e out = record { number = i; before = all; event = e; reply = out.reply; wakes = out.wakes }

module _ (all : ChanHall) (e : ChanEvent) (h : Bounded) (last : ℕ → Option ℕ) (since : ℕ → List ℕ) (n i : ℕ) (held : Held h last since n) (later : n ≤ i) (fresh : get h.mail.channels i ≡ None) where
  abbrev last_of : BoundedAction → Outcome Bounded → ℕ → Option ℕ
  last_of b out f = last_waker_at sends_family (tell all i e out) (polls_send b f) (last f)

  abbrev since_of : BoundedAction → Outcome Bounded → ℕ → List ℕ
  since_of b out f = wakes_at sends_family (tell all i e out) (polls_send b f) (since f)

  abbrev Good : BoundedAction → Outcome Bounded → Type 0
  Good b out = Held out.hall (last_of b out) (since_of b out) (i + 1)

  -- where no send is polled
  abbrev Rested : Outcome Bounded → Type 0
  Rested out = Held out.hall last (λ f. since f ++ out.wakes) (i + 1)

  rested : (out : Outcome Bounded) (k o : ℕ) → Changes h out.hall last last since (λ f. since f ++ out.wakes) i k o out.wakes → Rested out
  rested out k o change = held_after h out.hall last last since (λ f. since f ++ out.wakes) n i k o out.wakes held later change

  unpolled : (f w : ℕ) (out : Outcome Bounded) (g : ℕ) → (f ≡ g → ⊥) → last_of (PollSend f w) out g ≡ last g
  unpolled f w out g apart = ap (λ b. last_waker_at sends_family (tell all i e out) (cond b (Some w) None) (last g)) (ne_eqb f g apart)

  unwoken : (f w : ℕ) (out : Outcome Bounded) (g : ℕ) → (f ≡ g → ⊥) → since_of (PollSend f w) out g ≡ since g ++ out.wakes
  unwoken f w out g apart = ap (λ b. wakes_at sends_family (tell all i e out) (cond b (Some w) None) (since g)) (ne_eqb f g apart)

  no_send : (x : BoundedSend) → get h.sends i ≡ Some x → ⊥
  no_send x is = absurd (let low = held.below i x is in omega (arith, low, later))

  -- ---- the senders
  module _ (m : Mailboxes) (same : (s : ℕ) → (i ≡ s → ⊥) → get m.senders s ≡ get h.mail.senders s) where
    senders_low : (s p : ℕ) → get m.senders s ≡ Some p → s < i + 1
    senders_low s p is = by_name i s (λ here. omega (arith, here)) (λ apart. let low = held.low s p (sym (same s apart) ∙ is) in omega (arith, low, later))

    senders_alike : (f : ℕ) (x : BoundedSend) → get h.sends f ≡ Some x → get m.senders x.sender ≡ Some x.channel
    senders_alike f x is = let was = held.alike f x is in same x.sender (λ here. absurd (let low = held.low x.sender x.channel was in omega (arith, low, later, here))) ∙ was

  -- ---- the mailboxes alone change
  mail_changes : (m : Mailboxes) (ws : List ℕ) → ((s : ℕ) → (i ≡ s → ⊥) → get m.senders s ≡ get h.mail.senders s) → ((q : ℕ) → Lessens 0 (get h.mail.channels q) (get m.channels q))
      → Changes h (record h { mail = m }) last last since (λ f. since f ++ ws) i i 0 ws
  mail_changes m ws same lessens = record {
    queues = λ q apart. refl;
    capacities = λ q apart. refl;
    others = λ f apart. refl;
    was_of = λ x is. absurd (no_send x is);
    is_of = λ x is. absurd (no_send x is);
    small = λ x is. omega arith;
    keeps = λ f w apart is. inl is;
    line = held.lines 0;
    its = λ x is polled free. no_send x is;
    lasts = λ f apart. refl;
    sinces = λ f apart. refl;
    low = senders_low m same;
    alike = senders_alike m same;
    mail = λ q apart. lessens q;
    places = λ lives some. let lived = sym (lessens 0).ended ∙ lives in let before = held.places 0 lived some in omega (arith, before, (lessens 0).queued lived);
    shut = λ ends. held.shut 0 (sym (lessens 0).ended ∙ ends);
  }

  mail_rested : (out : Outcome Mailboxes) → ((s : ℕ) → (i ≡ s → ⊥) → get out.hall.senders s ≡ get h.mail.senders s) → ((q : ℕ) → Lessens 0 (get h.mail.channels q) (get out.hall.channels q)) → Rested (bounded.in_mail h out)
  mail_rested out same lessens = rested (bounded.in_mail h out) i 0 (mail_changes out.hall out.wakes same lessens)

  pub nothing_done : (ws : List ℕ) → Held h last (λ f. since f ++ ws) (i + 1)
  nothing_done ws = mail_rested (record { hall = h.mail; reply = answers.Done; wakes = ws }) (λ s apart. refl) (λ q. lessens_same (get h.mail.channels q))

  -- ---- a channel is made
  makes : (size : ℕ) → Rested (bounded_act h i (Make size))
  makes size = rested (bounded_act h i (Make size)) i i (record {
    queues = λ q apart. ap queue_in (get-other h.rooms i q new apart);
    capacities = λ q apart. ap capacity_in (get-other h.rooms i q new apart);
    others = λ f apart. refl;
    was_of = λ x is. absurd (no_send x is);
    is_of = λ x is. absurd (no_send x is);
    small = λ x is. omega arith;
    keeps = λ f w apart is. absurd (nobody_waits f w is);
    line = rw here tt;
    its = λ x is polled free. no_send x is;
    lasts = λ f apart. refl;
    sinces = λ f apart. refl;
    low = senders_low (act_in h.mail i (actions.Make true)).hall (λ s apart. get-other h.mail.senders i s i apart);
    alike = senders_alike (act_in h.mail i (actions.Make true)).hall (λ s apart. get-other h.mail.senders i s i apart);
    mail = λ q apart. let still = get-other h.mail.channels i q new_mailbox apart in record { ended = ap ended_in still; queued = λ lives. let size = ap (λ p. length (queued_in p)) still in omega (arith, size) };
    places = λ lives some. absurd (some here);
    shut = λ ends. here;
  })
    where
      new : Room
      new = record { capacity = size; queue = [] }

      here : queue_at (record h { mail = (act_in h.mail i (actions.Make true)).hall; rooms = insert h.rooms i new }) i ≡ []
      here = ap queue_in (get-there h.rooms i new)

      nobody : queue_at h i ≡ []
      nobody = held.shut i (ap ended_in fresh)

      nobody_waits : (f w : ℕ) → waker_for (who (queue_at h i)) f ≡ Some w → ⊥
      nobody_waits f w is = absurd (let none = sym (ap (λ q. waker_for (who q) f) nobody) ∙ is in cc)

  -- ---- a send is begun
  begins : (s v o : ℕ) → get h.mail.senders s ≡ Some o → Rested (bounded.begin h i s v o)
  begins s v o sender = rested (bounded.begin h i s v o) i o (record {
    queues = λ q apart. refl;
    capacities = λ q apart. refl;
    others = λ f apart. get-other h.sends i f new apart;
    was_of = λ x is. absurd (no_send x is);
    is_of = λ x is. ap (λ (x : BoundedSend). x.channel) (sym (inside (sym (get-there h.sends i new) ∙ is)));
    small = λ x is. omega arith;
    keeps = λ f w apart is. inl is;
    line = line_map h.sends last o (insert h.sends i new) last (queue_at h o) (λ f w waiting it. record { x = it.x; there = get-other h.sends i f new (λ same. no_send it.x (ap (get h.sends) same ∙ it.there)) ∙ it.there; of = it.of; polled = it.polled; told = it.told }) (held.lines o);
    its = λ x is polled free. absurd (let same : new ≡ x = inside (sym (get-there h.sends i new) ∙ is) in let no = ap (λ (x : BoundedSend). x.polled) same ∙ polled in cc);
    lasts = λ f apart. refl;
    sinces = λ f apart. refl;
    low = λ s p is. let low = held.low s p is in omega (arith, low, later);
    alike = by_put h.sends i new (λ f p. (x : BoundedSend) → p ≡ Some x → get h.mail.senders x.sender ≡ Some x.channel)
        (λ x is. subst (λ (x : BoundedSend). get h.mail.senders x.sender ≡ Some x.channel) (inside is) sender) (λ f apart x is. held.alike f x is);
    mail = λ q apart. lessens_same (get h.mail.channels q);
    places = λ lives some.
        let before = held.places o lives some in
        let count = granted_apart (queue_at h o) (queue_at h o) h.sends (insert h.sends i new) o i (λ f apart. get-other h.sends i f new apart) (λ f apart. refl) in
        let was = weighs_none (queue_at h o) o i (get h.sends i) (λ x is. absurd (no_send x is)) in
        let is = weighs_none (queue_at h o) o i (get (insert h.sends i new) i) (λ x is. not_granted_new (queue_at h o) o i x (ap (λ (x : BoundedSend). x.polled) (sym (inside (sym (get-there h.sends i new) ∙ is))))) in
        omega (arith, before, count, was, is);
    shut = λ ends. held.shut o ends;
  })
    where
      new : BoundedSend
      new = record { sender = s; channel = o; value = v; polled = false }

  -- ---- a send f of x.channel
  module _ (f : ℕ) (x : BoundedSend) (there : get h.sends f ≡ Some x) where
    abbrev o : ℕ
    o = x.channel

    f_low : f < i + 1
    f_low = let low = held.below f x there in omega (arith, low, later)

    its_channel : (y : BoundedSend) → get h.sends f ≡ Some y → y.channel ≡ o
    its_channel y is = ap (λ (x : BoundedSend). x.channel) (sym (inside (sym there ∙ is)))

    gone : (y : BoundedSend) → get (remove h.sends f) f ≡ Some y → ⊥
    gone y is = absurd (let none = get-gone h.sends f in cc)

    old_low : (s p : ℕ) → get h.mail.senders s ≡ Some p → s < i + 1
    old_low s p is = let low = held.low s p is in omega (arith, low, later)

    -- those who wait beside f wait on once that is gone
    beside : (g w : ℕ) → (f ≡ g → ⊥) → WaitsFor h.sends last o g w → WaitsFor (remove h.sends f) last o g w
    beside g w apart it = record { x = it.x; there = get-removed_other h.sends f g apart ∙ it.there; of = it.of; polled = it.polled; told = it.told }

    -- f is gone, also from the queue
    module _ (h' : Bounded) (ws : List ℕ) (sends : h'.sends ≡ remove h.sends f) (senders : h'.mail.senders ≡ h.mail.senders) (queue : queue_at h' o ≡ left_queue (queue_at h o) f) (capacity : capacity_at h' o ≡ capacity_at h o)
        (queues : (q : ℕ) → (o ≡ q → ⊥) → get h'.rooms q ≡ get h.rooms q) (mail : (q : ℕ) → Lessens 0 (get h.mail.channels q) (get h'.mail.channels q))
        (more : ended_in (get h'.mail.channels o) ≡ false → (queue_at h' o ≡ [] → ⊥) → weight (counts_at (queue_at h o) o) f (get h.sends f) + length (queued_in (get h.mail.channels o)) ≤ length (queued_in (get h'.mail.channels o))) where
      left_line : InLine (remove h.sends f) last o (left_queue (queue_at h o) f)
      left_line = by_if (InLine (remove h.sends f) last o) (waits (who (queue_at h o)) f) (leaving (queue_at h o) f) (queue_at h o)
          (λ waiting. line_left h.sends last o (remove h.sends f) last (queue_at h o) f beside (held.lines o))
          (λ free. line_map h.sends last o (remove h.sends f) last (queue_at h o) (λ g w waiting it. beside g w (λ same. absurd (let none = ap (waits (who (queue_at h o))) (sym same) ∙ free in cc)) it) (held.lines o))

      leaves : Changes h h' last last since (λ g. since g ++ ws) i f o ws
      leaves = record {
        queues = λ q apart. ap queue_in (queues q apart);
        capacities = λ q apart. ap capacity_in (queues q apart);
        others = λ g apart. ap (λ (xs : Names BoundedSend). get xs g) sends ∙ get-removed_other h.sends f g apart;
        was_of = its_channel;
        is_of = λ y is. absurd (gone y (ap (λ (xs : Names BoundedSend). get xs f) (sym sends) ∙ is));
        small = λ y is. f_low;
        keeps = λ g w apart is. inl (ap (λ q. waker_for (who q) g) queue ∙ left_others (queue_at h o) f g apart ∙ is);
        line = rw (sends, queue) left_line;
        its = λ y is polled free. gone y (ap (λ (xs : Names BoundedSend). get xs f) (sym sends) ∙ is);
        lasts = λ g apart. refl;
        sinces = λ g apart. refl;
        low = λ s p is. old_low s p (ap (λ (ss : Names ℕ). get ss s) (sym senders) ∙ is);
        alike = λ g y is. ap (λ (ss : Names ℕ). get ss y.sender) senders ∙ held.alike g y (removed_there h.sends f g y (ap (λ (xs : Names BoundedSend). get xs g) (sym sends) ∙ is));
        mail = λ q apart. mail q;
        places = λ lives some.
            let lived = sym (mail o).ended ∙ lives in
            let before = held.places o lived (λ none. some (queue ∙ left_none (queue_at h o) f none)) in
            let count = granted_apart (queue_at h o) (queue_at h' o) h.sends h'.sends o f (λ g apart. ap (λ (xs : Names BoundedSend). get xs g) sends ∙ get-removed_other h.sends f g apart) (λ g apart. ap is_some (ap (λ q. waker_for (who q) g) queue ∙ left_others (queue_at h o) f g apart)) in
            let none = weighs_none (queue_at h' o) o f (get h'.sends f) (λ y is. absurd (gone y (ap (λ (xs : Names BoundedSend). get xs f) (sym sends) ∙ is))) in
            let grows = more lives some in
            omega (arith, before, count, none, grows, capacity);
        shut = λ ends. queue ∙ left_none (queue_at h o) f (held.shut o (sym (mail o).ended ∙ ends));
      }

    -- a change by which f is gone, where that was polled
    repolled : (w : ℕ) (out : Outcome Bounded) → Changes h out.hall last last since (λ g. since g ++ out.wakes) i f o out.wakes → ((y : BoundedSend) → get out.hall.sends f ≡ Some y → ⊥)
        → Changes h out.hall last (last_of (PollSend f w) out) since (since_of (PollSend f w) out) i f o out.wakes
    repolled w out change gone = record {
      queues = change.queues;
      capacities = change.capacities;
      others = change.others;
      was_of = change.was_of;
      is_of = change.is_of;
      small = change.small;
      keeps = change.keeps;
      line = line_map out.hall.sends last o out.hall.sends (last_of (PollSend f w) out) (queue_at out.hall o)
          (λ g v waiting it. record { x = it.x; there = it.there; of = it.of; polled = it.polled; told = unpolled f w out g (λ same. gone it.x (ap (get out.hall.sends) same ∙ it.there)) ∙ it.told }) change.line;
      its = change.its;
      lasts = λ g apart. unpolled f w out g apart;
      sinces = λ g apart. unwoken f w out g apart;
      low = change.low;
      alike = change.alike;
      mail = change.mail;
      places = change.places;
      shut = change.shut;
    }

    -- it had its answer
    answers_it : (w : ℕ) → is_full h o ≡ false → Good (PollSend f w) (bounded.answered h f x (act_in h.mail i (actions.Send x.sender x.value)))
    answers_it w room =
        let out = bounded.answered h f x (act_in h.mail i (actions.Send x.sender x.value)) in
        let change = leaves out.hall out.wakes refl (send_senders h.mail i x.sender x.value) (ap queue_in (at_room_there h.rooms o (left_by f)) ∙ left_is (get h.rooms o) f) (ap capacity_in (at_room_there h.rooms o (left_by f)) ∙ left_in (get h.rooms o) f)
        (λ q apart. at_room_other h.rooms o q (left_by f) apart) (send_lessens h.mail i x.sender x.value)
        (λ lives some. let sent = send_more h.mail i x.sender x.value o (held.alike f x there) lives in let one = weighs_one (queue_at h o) o f (get h.sends f) in omega (arith, sent.1, one)) in
        held_after h out.hall last (last_of (PollSend f w) out) since (since_of (PollSend f w) out) n i f o out.wakes held later (repolled w out change (λ y is. gone y is))

    -- it finds no place, and waits
    pends : (w : ℕ) → is_full h o ≡ true → Good (PollSend f w) (bounded.pends h f w x)
    pends w full = held_after h out.hall last last' since (since_of (PollSend f w) out) n i f o [] held later (record {
      queues = λ q apart. ap queue_in (at_room_other h.rooms o q (joined f w) apart);
      capacities = λ q apart. ap capacity_in (at_room_other h.rooms o q (joined f w) apart);
      others = λ g apart. get-other h.sends f g y apart;
      was_of = its_channel;
      is_of = λ z is. ap (λ (x : BoundedSend). x.channel) (sym (inside (sym (get-there h.sends f y) ∙ is)));
      small = λ z is. f_low;
      keeps = λ g v apart is. subst (λ q. (waker_for (who q) g ≡ Some v) ⊎ Contains [] v) (sym queue) (kept g v apart (ap (λ q. waker_for (who q) g) (sym before) ∙ is));
      line = rw queue line;
      its = λ z is polled free. absurd (let some = waiting (waits (waiting_at r) f) refl in let here = ap (λ q. waits (who q) f) queue in let some' = here ∙ ap is_some some in cc);
      lasts = λ g apart. unpolled f w out g apart;
      sinces = λ g apart. unwoken f w out g apart;
      low = old_low;
      alike = by_put h.sends f y (λ g p. (z : BoundedSend) → p ≡ Some z → get h.mail.senders z.sender ≡ Some z.channel)
          (λ z is. subst (λ (z : BoundedSend). get h.mail.senders z.sender ≡ Some z.channel) (inside is) (held.alike f x there)) (λ g apart z is. held.alike g z is);
      mail = λ q apart. lessens_same (get h.mail.channels q);
      places = λ lives some. omega (arith, capacity, it.all);
      shut = λ ends. absurd (let no = sym ends ∙ it.lives in cc);
    })
      where
        y : BoundedSend
        y = record x { polled = true }

        out : Outcome Bounded
        out = bounded.pends h f w x

        last' : ℕ → Option ℕ
        last' g = last_of (PollSend f w) (bounded.pends h f w x) g

        it : IsFull (get h.mail.channels o) (get h.rooms o)
        it = full_is (get h.mail.channels o) (get h.rooms o) full

        r : Room
        r = (full_is (get h.mail.channels o) (get h.rooms o) full).room

        before : queue_at h o ≡ r.queue
        before = ap queue_in it.there

        room : get (at_room h.rooms o (joined f w)) o ≡ Some (joined f w r)
        room = at_room_there h.rooms o (joined f w) ∙ ap (option_map (joined f w)) it.there

        queue : queue_at (record h { rooms = at_room h.rooms o (joined f w); sends = insert h.sends f y }) o ≡ (if waits (waiting_at r) f then rewoken r.queue f w else r.queue ++ ((f, w), 1) ∷ [])
        queue = ap queue_in room ∙ joined_queue f w r

        capacity : capacity_at (record h { rooms = at_room h.rooms o (joined f w); sends = insert h.sends f y }) o ≡ r.capacity
        capacity = ap capacity_in room ∙ joined_capacity f w r

        mine : WaitsFor (insert h.sends f y) last' o f w
        mine = record { x = y; there = get-there h.sends f y; of = refl; polled = refl; told = ap (λ b. last_waker_at sends_family (tell all i e (bounded.pends h f w x)) (cond b (Some w) None) (last f)) (eq-eqb f f refl) }

        others : (g v : ℕ) → (f ≡ g → ⊥) → WaitsFor h.sends last o g v → WaitsFor (insert h.sends f y) last' o g v
        others g v apart it = record { x = it.x; there = get-other h.sends f g y apart ∙ it.there; of = it.of; polled = it.polled; told = unpolled f w (bounded.pends h f w x) g apart ∙ it.told }

        old_line : InLine h.sends last o r.queue
        old_line = rw before at (held.lines o)

        line : InLine (insert h.sends f y) last' o (if waits (waiting_at r) f then rewoken r.queue f w else r.queue ++ ((f, w), 1) ∷ [])
        line = by_if (InLine (insert h.sends f y) last' o) (waits (waiting_at r) f) (rewoken r.queue f w) (r.queue ++ ((f, w), 1) ∷ [])
            (λ some. line_rewoken h.sends last o (insert h.sends f y) last' r.queue f w mine others old_line)
            (λ free. line_pushed h.sends last o (insert h.sends f y) last' r.queue f w free mine
            (λ g v waiting it. others g v (λ same. absurd (let none = ap (waits (who r.queue)) (sym same) ∙ free in cc)) it) old_line)

        kept : (g v : ℕ) → (f ≡ g → ⊥) → waker_for (who r.queue) g ≡ Some v → (waker_for (who (if waits (waiting_at r) f then rewoken r.queue f w else r.queue ++ ((f, w), 1) ∷ [])) g ≡ Some v) ⊎ Contains [] v
        kept g v apart is = by_if (λ q. (waker_for (who q) g ≡ Some v) ⊎ Contains [] v) (waits (waiting_at r) f) (rewoken r.queue f w) (r.queue ++ ((f, w), 1) ∷ [])
            (λ some. (local_rewoken r.queue f w).keeps g v apart is) (λ free. (local_pushed r.queue f w 1).keeps g v apart is)

        waiting : (b : Bool) → waits (waiting_at r) f ≡ b → waker_for (who (if b then rewoken r.queue f w else r.queue ++ ((f, w), 1) ∷ [])) f ≡ Some w
        waiting true some = ap (λ p. waker_for p f) (who-rewoken r.queue f w) ∙ with_waker-there (who r.queue) f w some
        waiting false free = ap (λ p. waker_for p f) (who-append r.queue (((f, w), 1) ∷ [])) ∙ appended-there (who r.queue) f w free

    -- it ends
    abbrev ended_hall : Names Room → Bounded
    ended_hall rooms = record h { rooms = rooms; sends = remove h.sends f }

    ends_it : Rested (bounded.end_send h f x (get h.rooms o))
    ends_it = at (get h.rooms o) refl
      where
        by_leaving : (rooms : Names Room) → queue_at (ended_hall rooms) o ≡ left_queue (queue_at h o) f → capacity_at (ended_hall rooms) o ≡ capacity_at h o → ((q : ℕ) → (o ≡ q → ⊥) → get rooms q ≡ get h.rooms q)
            → ((queue_at (ended_hall rooms) o ≡ [] → ⊥) → weight (counts_at (queue_at h o) o) f (get h.sends f) ≡ 0) → Rested (quietly (ended_hall rooms) answers.Done)
        by_leaving rooms queue capacity queues none = rested (quietly (ended_hall rooms) answers.Done) f o
            (leaves (ended_hall rooms) [] refl refl queue capacity queues (λ q. lessens_same (get h.mail.channels q)) (λ lives some. let nothing = none some in omega (arith, nothing)))

        at : (p : Option Room) → get h.rooms o ≡ p → Rested (bounded.end_send h f x p)
        at None is = by_leaving h.rooms (ap queue_in is ∙ sym (left_none (queue_at h o) f (ap queue_in is))) refl (λ q apart. refl) (λ some. absurd (some (ap queue_in is)))
        at (Some r) is = by_if Rested (waits (waiting_at r) f) _ _
            (λ waiting. by_leaving (insert h.rooms o (record r { queue = leaving r.queue f }))
            (ap queue_in (get-there h.rooms o (record r { queue = leaving r.queue f })) ∙ sym (ap (λ p. left_queue (queue_in p) f) is ∙ if_true (waits (waiting_at r) f) (leaving r.queue f) r.queue waiting))
            (ap capacity_in (get-there h.rooms o (record r { queue = leaving r.queue f })) ∙ sym (ap capacity_in is)) (λ q apart. get-other h.rooms o q (record r { queue = leaving r.queue f }) apart)
            (λ some. weighs_none (queue_at h o) o f (get h.sends f) (λ y had. not_granted_waiting (queue_at h o) o f y (ap (λ p. waits (who (queue_in p)) f) is ∙ waiting))))
            (λ free. by_if Rested x.polled _ _ (λ polled. passes r is free)
            (λ new. by_leaving h.rooms (sym (ap (λ p. left_queue (queue_in p) f) is ∙ if_false (waits (waiting_at r) f) (leaving r.queue f) r.queue free ∙ sym (ap queue_in is))) refl (λ q apart. refl)
            (λ some. weighs_none (queue_at h o) o f (get h.sends f) (λ y had. not_granted_new (queue_at h o) o f y (ap (λ (x : BoundedSend). x.polled) (sym (inside (sym there ∙ had))) ∙ new)))))
          where
            passes : (r : Room) → get h.rooms o ≡ Some r → waits (waiting_at r) f ≡ false → Rested (record { hall = ended_hall (insert h.rooms o (granted 1 r)); reply = answers.Done; wakes = woken_by_grant 1 r })
            passes r is free =
                let before : queue_at h o ≡ r.queue = ap queue_in is in
                let here = get-there h.rooms o (granted 1 r) in
                let old_line : InLine (remove h.sends f) last o r.queue = line_map h.sends last o (remove h.sends f) last r.queue (λ g v waiting it. beside g v (λ same. absurd (let none = ap (waits (who r.queue)) (sym same) ∙ free in cc)) it) (rw before at (held.lines o)) in
                rested (record { hall = ended_hall (insert h.rooms o (granted 1 r)); reply = answers.Done; wakes = woken_by_grant 1 r }) f o (record {
                  queues = λ q apart. ap queue_in (get-other h.rooms o q (granted 1 r) apart);
                  capacities = λ q apart. ap capacity_in (get-other h.rooms o q (granted 1 r) apart);
                  others = λ g apart. get-removed_other h.sends f g apart;
                  was_of = its_channel;
                  is_of = λ y is. absurd (gone y is);
                  small = λ y is. f_low;
                  keeps = λ g v apart is. subst (λ p. (waker_for (who (queue_in p)) g ≡ Some v) ⊎ Contains (woken_by_grant 1 r) v) (sym here) ((local_poured r.queue 1 f).keeps g v apart (ap (λ q. waker_for (who q) g) (sym before) ∙ is));
                  line = rw here (poured_line (remove h.sends f) last o r.queue old_line);
                  its = λ y is polled free. gone y is;
                  lasts = λ g apart. refl;
                  sinces = λ g apart. refl;
                  low = old_low;
                  alike = λ g y is. held.alike g y (removed_there h.sends f g y is);
                  mail = λ q apart. lessens_same (get h.mail.channels q);
                  places = λ lives some.
                      let some' : waiting_after r.queue 1 ≡ [] → ⊥ = λ none. some (ap queue_in here ∙ none) in
                      let had = held.places o lives (λ none. some' (poured_none r.queue (sym before ∙ none))) in
                      let less = granted_apart (queue_at h o) (queue_at h o) h.sends (remove h.sends f) o f (λ g apart. get-removed_other h.sends f g apart) (λ g apart. refl) in
                      let none = weighs_none (queue_at h o) o f (get (remove h.sends f) f) (λ y is. absurd (gone y is)) in
                      let one = weighs_one (queue_at h o) o f (get h.sends f) in
                      let more = poured_counts (remove h.sends f) last o r.queue old_line some' in
                      let same = ap (λ q. granted_of q (remove h.sends f) o) before in
                      let now = ap (λ p. granted_of (queue_in p) (remove h.sends f) o) here in
                      let size = ap capacity_in here in
                      let size_before = ap capacity_in is in
                      omega (arith, had, less, none, one, more, same, now, size, size_before);
                  shut = λ ends. ap queue_in here ∙ poured_none r.queue (sym before ∙ held.shut o ends);
                })

  -- ---- at the channel of a receiver, or of a sender
  received_mail : (o : ℕ) (out : Outcome Mailboxes) → Took h.mail i o out → Rested (bounded.received h o out)
  received_mail o out took = by_if Rested (is_got out.reply) _ _ got (λ other. mail_rested out (λ s apart. ap (λ (ss : Names ℕ). get ss s) took.senders) (took.none other))
    where
      queue : Lacking
      queue = queue_at h o

      here : get (at_room h.rooms o (granted 1)) o ≡ option_map (granted 1) (get h.rooms o)
      here = at_room_there h.rooms o (granted 1)

      now : queue_in (get (at_room h.rooms o (granted 1)) o) ≡ waiting_after (queue_at h o) 1
      now = ap queue_in (at_room_there h.rooms o (granted 1)) ∙ granted_queue (get h.rooms o) 1

      got : is_got out.reply ≡ true → Rested (record { hall = record h { mail = out.hall; rooms = at_room h.rooms o (granted 1) }; reply = out.reply; wakes = out.wakes ++ woken_at h.rooms o (woken_by_grant 1) })
      got is = rested (record { hall = record h { mail = out.hall; rooms = at_room h.rooms o (granted 1) }; reply = out.reply; wakes = out.wakes ++ woken_at h.rooms o (woken_by_grant 1) }) i o (record {
        queues = λ q apart. ap queue_in (at_room_other h.rooms o q (granted 1) apart);
        capacities = λ q apart. ap capacity_in (at_room_other h.rooms o q (granted 1) apart);
        others = λ f apart. refl;
        was_of = λ x is. absurd (no_send x is);
        is_of = λ x is. absurd (no_send x is);
        small = λ x is. omega arith;
        keeps = λ f w apart waiting. elim ((local_poured (queue_at h o) 1 i).keeps f w apart waiting) [
          | inl still ↦ inl (ap (λ q. waker_for (who q) f) now ∙ still)
          | inr woken ↦ inr (Contains-append_right out.wakes (woken_at h.rooms o (woken_by_grant 1)) w (subst (λ ws. Contains ws w) (sym (woken_queue (get h.rooms o) 1)) woken))
        ];
        line = rw now (poured_line h.sends last o (queue_at h o) (held.lines o));
        its = λ x is polled free. no_send x is;
        lasts = λ f apart. refl;
        sinces = λ f apart. refl;
        low = senders_low out.hall (λ s apart. ap (λ (ss : Names ℕ). get ss s) took.senders);
        alike = senders_alike out.hall (λ s apart. ap (λ (ss : Names ℕ). get ss s) took.senders);
        mail = took.others;
        places = λ lives some.
            let lived = sym took.one.ended ∙ lives in
            let some' : waiting_after (queue_at h o) 1 ≡ [] → ⊥ = λ none. some (now ∙ none) in
            let had = held.places o lived (λ none. some' (poured_none (queue_at h o) none)) in
            let more = poured_counts h.sends last o (queue_at h o) (held.lines o) some' in
            let same = ap (λ q. granted_of q h.sends o) now in
            let size = ap capacity_in here ∙ granted_capacity (get h.rooms o) 1 in
            let less = took.one.queued lived in
            omega (arith, had, more, same, size, less);
        shut = λ ends. now ∙ poured_none (queue_at h o) (held.shut o (sym took.one.ended ∙ ends));
      })

  no_sends : (s : ℕ) → bounded_cause h (EndSender s) ≡ None → (is_sender h.mail s ≡ true) × (sends_of h s ≡ 0)
  no_sends s = at (is_sender h.mail s) (sends_of h s)
    where
      at : (there : Bool) (k : ℕ) → (if there then (if nat_lt 0 k then Some stops.Borrowed else None) else Some stops.Unknown) ≡ None → (there ≡ true) × (k ≡ 0)
      at false k is = absurd (cc)
      at true k is = borrowed_none true k is

  -- a sender that has no send is gone
  sender_gone : (s o : ℕ) → sends_of h s ≡ 0 → Rested (bounded.sender_ended h o (act_in h.mail i (actions.EndSender s)))
  sender_gone s o none = rested (bounded.sender_ended h o out) i o (record {
    queues = λ q apart. ap queue_in (tidied_other h.rooms o q (is_channel out.hall o) apart);
    capacities = λ q apart. ap capacity_in (tidied_other h.rooms o q (is_channel out.hall o) apart);
    others = λ f apart. refl;
    was_of = λ x is. absurd (no_send x is);
    is_of = λ x is. absurd (no_send x is);
    small = λ x is. omega arith;
    keeps = λ f w apart is. inl (ap (λ q. waker_for (who q) f) same ∙ is);
    line = rw same (held.lines o);
    its = λ x is polled free. no_send x is;
    lasts = λ f apart. refl;
    sinces = λ f apart. refl;
    low = λ k p is. let low = held.low k p (end_sender_had h.mail i s k p is) in omega (arith, low, later);
    alike = λ f x is. end_sender_senders h.mail i s x.sender (λ mine. own_nothing x f is mine) ∙ held.alike f x is;
    mail = λ q apart. lessens q;
    places = λ lives some.
        let lived = sym (lessens o).ended ∙ lives in
        let had = held.places o lived (λ nobody. some (same ∙ nobody)) in
        let count = ap (λ q. granted_of q h.sends o) same in
        let size = capacity (is_channel out.hall o) refl lives in
        let less = (lessens o).queued lived in
        omega (arith, had, count, size, less);
    shut = λ ends. same ∙ held.shut o (sym (lessens o).ended ∙ ends);
  })
    where
      out : Outcome Mailboxes
      out = act_in h.mail i (actions.EndSender s)

      lessens : (q : ℕ) → Lessens 0 (get h.mail.channels q) (get (act_in h.mail i (actions.EndSender s)).hall.channels q)
      lessens q = end_sender_lessens h.mail i s q

      own_nothing : (x : BoundedSend) (f : ℕ) → get h.sends f ≡ Some x → s ≡ x.sender → ⊥
      own_nothing x f is mine = own-nothing (λ (x : BoundedSend). x.sender) s h.sends none f x is mine

      over : (p : Option Mailbox) → is_some p ≡ false → ended_in p ≡ true
      over None is = refl
      over (Some c) is = absurd (cc)

      at : (b : Bool) → is_channel (act_in h.mail i (actions.EndSender s)).hall o ≡ b → queue_in (get (tidied_rooms h.rooms o b) o) ≡ queue_at h o
      at true is = refl
      at false is = ap queue_in (get-gone h.rooms o) ∙ sym (held.shut o (sym (lessens o).ended ∙ over (get (act_in h.mail i (actions.EndSender s)).hall.channels o) is))

      same : queue_in (get (tidied_rooms h.rooms o (is_channel (act_in h.mail i (actions.EndSender s)).hall o)) o) ≡ queue_at h o
      same = at (is_channel (act_in h.mail i (actions.EndSender s)).hall o) refl

      capacity : (b : Bool) → is_channel (act_in h.mail i (actions.EndSender s)).hall o ≡ b → ended_in (get (act_in h.mail i (actions.EndSender s)).hall.channels o) ≡ false → capacity_in (get (tidied_rooms h.rooms o b) o) ≡ capacity_at h o
      capacity true is lives = refl
      capacity false is lives = absurd (let ended = over (get (act_in h.mail i (actions.EndSender s)).hall.channels o) is in cc)

  -- the receiver ends, and all who wait are granted a place
  receiver_gone : (r : ℕ) (x : Receiver) → get h.mail.receivers r ≡ Some x → Rested (bounded.receiver_ended h x.channel (act_in h.mail i (actions.EndReceiver r true false)))
  receiver_gone r x is = rested (bounded.receiver_ended h o out) i o (record {
    queues = λ q apart. ap queue_in (tidied_other (at_room h.rooms o all_granted) o q (is_channel out.hall o) apart ∙ at_room_other h.rooms o q all_granted apart);
    capacities = λ q apart. ap capacity_in (tidied_other (at_room h.rooms o all_granted) o q (is_channel out.hall o) apart ∙ at_room_other h.rooms o q all_granted apart);
    others = λ f apart. refl;
    was_of = λ x is. absurd (no_send x is);
    is_of = λ x is. absurd (no_send x is);
    small = λ x is. omega arith;
    keeps = λ f w apart waiting. elim ((local_poured (queue_at h o) (lacks (queue_at h o)) i).keeps f w apart waiting) [
      | inl still ↦ absurd (let none = ap (λ q. waker_for (who q) f) emptied in let some = sym none ∙ still in cc)
      | inr woken ↦ inr (Contains-append_right out.wakes (woken_at h.rooms o all_woken) w (subst (λ ws. Contains ws w) (sym (all_woken_queue (get h.rooms o))) woken))
    ];
    line = rw nobody tt;
    its = λ x is polled free. no_send x is;
    lasts = λ f apart. refl;
    sinces = λ f apart. refl;
    low = senders_low out.hall (λ s apart. ap (λ (ss : Names ℕ). get ss s) (end_receiver_senders h.mail i r true false));
    alike = senders_alike out.hall (λ s apart. ap (λ (ss : Names ℕ). get ss s) (end_receiver_senders h.mail i r true false));
    mail = λ q apart. end_receiver_others h.mail i r x true false is q apart;
    places = λ lives some. absurd (some nobody);
    shut = λ ends. nobody;
  })
    where
      o : ℕ
      o = x.channel

      out : Outcome Mailboxes
      out = act_in h.mail i (actions.EndReceiver r true false)

      emptied : waiting_after (queue_at h x.channel) (lacks (queue_at h x.channel)) ≡ []
      emptied = all_granted_none h.sends last x.channel 0 (lacks (queue_at h x.channel)) (queue_at h x.channel) (omega arith)

      at : (b : Bool) → queue_in (get (tidied_rooms (at_room h.rooms x.channel all_granted) x.channel b) x.channel) ≡ []
      at true = ap queue_in (at_room_there h.rooms x.channel all_granted) ∙ all_queue (get h.rooms x.channel) ∙ emptied
      at false = ap queue_in (get-gone (at_room h.rooms x.channel all_granted) x.channel)

      nobody : queue_in (get (tidied_rooms (at_room h.rooms x.channel all_granted) x.channel (is_channel (act_in h.mail i (actions.EndReceiver r true false)).hall x.channel)) x.channel) ≡ []
      nobody = at (is_channel (act_in h.mail i (actions.EndReceiver r true false)).hall x.channel)

  -- ---- each event
  quiet : (reply : Answer) → Rested (quietly h reply)
  quiet reply = nothing_done []

  pub acts : (b : BoundedAction) → bounded_cause h b ≡ None → Good b (bounded_act h i b)
  acts (Make size) allowed = makes size
  acts (CopySender s) allowed = mail_rested (act_in h.mail i (actions.Copy s)) (λ f apart. copy_senders h.mail i s f apart) (copy_lessens h.mail i s)
  acts (TrySend s v) allowed = by_found Rested (get h.mail.senders s) h _ (quiet answers.Done)
      (λ o is. by_if Rested (is_full h o) _ _ (λ full. quiet (answers.Full v)) (λ room. mail_rested (act_in h.mail i (actions.Send s v)) (λ f apart. ap (λ (ss : Names ℕ). get ss f) (send_senders h.mail i s v)) (send_lessens h.mail i s v)))
  acts (BeginSend s v) allowed = by_found Rested (get h.mail.senders s) h _ (quiet answers.Done) (λ o is. begins s v o is)
  acts (PollSend f w) allowed = at (get h.sends f) refl
    where
      at : (p : Option BoundedSend) → get h.sends f ≡ p → Good (PollSend f w) (found p h (λ x. if is_full h x.channel then bounded.pends h f w x else bounded.answered h f x (act_in h.mail i (actions.Send x.sender x.value))))
      at None is = absurd (let some = known (is_send h f) allowed in let none = ap is_some is in cc)
      at (Some x) is = by_if (Good (PollSend f w)) (is_full h x.channel) _ _ (λ full. pends f x is w full) (λ room. answers_it f x is w room)
  acts (EndSend f) allowed = by_found Rested (get h.sends f) h _ (quiet answers.Done) (λ x is. ends_it f x is)
  acts (TryReceive r) allowed = by_found Rested (get h.mail.receivers r) h _ (quiet answers.Done) (λ x is. received_mail x.channel (act_in h.mail i (actions.Receive r true)) (received_took h.mail i r x true is))
  acts (PollReceive r w) allowed = by_found Rested (get h.mail.receivers r) h _ (quiet answers.Done) (λ x is. received_mail x.channel (act_in h.mail i (actions.Poll r w)) (polled_took h.mail i r w x is))
  acts (EndSender s) allowed = by_found Rested (get h.mail.senders s) h _ (quiet answers.Done) (λ o is. sender_gone s o (no_sends s allowed).1)
  acts (EndReceiver r) allowed = by_found Rested (get h.mail.receivers r) h _ (quiet answers.Done) (λ x is. receiver_gone r x is)

-- ---- the channels of all kinds
module _ (h : ChanHall) (e : ChanEvent) (last : ℕ → Option ℕ) (since : ℕ → List ℕ) (n i : ℕ) (held : Held h.bounded last since n) (later : n ≤ i) (fresh : get h.bounded.mail.channels i ≡ None) where
  abbrev heard : Meaning → ToldEvent ChanHall ChanEvent
  heard m = record { number = i; before = h; event = e; reply = (step_by h i m).reply; wakes = (step_by h i m).wakes }

  steps : (m : Meaning) → cause_by h m ≡ None → Held (step_by h i m).hall.bounded (λ f. last_waker_at sends_family (heard m) (send_polled_by m f) (last f)) (λ f. wakes_at sends_family (heard m) (send_polled_by m f) (since f)) (i + 1)
  steps (OfBounded b) allowed = acts h e h.bounded last since n i held later fresh b allowed
  steps (OfChannels Unbounded a) allowed = nothing_done h e h.bounded last since n i held later fresh (act_in h.unbounded i a).wakes
  steps (OfBoxes Full a) allowed = nothing_done h e h.bounded last since n i held later fresh (step_by h i (OfBoxes Full a)).wakes
  steps m allowed = nothing_done h e h.bounded last since n i held later fresh (step_by h i m).wakes

starts : Held bounded.no_bounded (λ f. None) (λ f. []) 0
starts = record {
  below = λ f x is. absurd (nothing_at BoundedSend f x is);
  low = λ s o is. absurd (nothing_at ℕ s o is);
  alike = λ f x is. absurd (nothing_at BoundedSend f x is);
  lines = λ o. rw (none o) tt;
  told = λ f x is polled free. absurd (nothing_at BoundedSend f x is);
  places = λ o lives some. absurd (some (none o));
  shut = λ o ends. none o;
}
  where
    none : (o : ℕ) → queue_at bounded.no_bounded o ≡ []
    none o = ap queue_in (get-empty nat_cmp o)

all_held : (r : RunOf chans_family) → IsRun chans_family r → Held r.hall.bounded (λ f. last_waker sends_family r.trace f) (λ f. wakes_since sends_family r.trace f) r.next
all_held _ Starts = starts
all_held _ (Goes r i e runs later cause) = steps r.hall e _ _ r.next i (all_held r runs) later
    (none_if (get r.hall.bounded.mail.channels i) (λ c is. absurd (let small = (lows r runs ReceiverOfBounded).lows i c is in omega (arith, small, later)))) (meaning_of e) cause

pub woken : (r : RunOf chans_family) → IsRun chans_family r → (f : ℕ) (x : BoundedSend) → get r.hall.bounded.sends f ≡ Some x → is_granted_at (queue_at r.hall.bounded x.channel) x.channel f x ≡ true
    → (w : ℕ) × (last_waker sends_family r.trace f ≡ Some w) × Contains (wakes_since sends_family r.trace f) w
woken r runs f x is granted =
    let both = at (x.channel == x.channel) x.polled (waits (who (queue_at r.hall.bounded x.channel)) f) granted in
    let it = (all_held r runs).told f x is both.0 both.1 in
    (it.w, it.told, it.woken)
  where
    at : (a b c : Bool) → (if (if a then b else false) then not c else false) ≡ true → (b ≡ true) × (c ≡ false)
    at true true true is = absurd (cc)
    at true true false is = (refl, refl)
    at true false c is = absurd (cc)
    at false b c is = absurd (cc)

-- where nobody waits, all that are pending were granted a place
nobody_waits : (h : Bounded) (o : ℕ) → queue_at h o ≡ [] → pending_at h o ≡ granted_at h o
nobody_waits h o none = total-same (λ f x. cond (is_pending_at o x) 1 0) (counts_at (queue_at h o) o) h.sends (λ f x is. at (is_pending_at o x) (waits (who (queue_at h o)) f) (ap (λ q. waits (who q) f) none))
  where
    at : (a b : Bool) → b ≡ false → ◌≡◌ {A = ℕ} (cond a 1 0) (cond (if a then not b else false) 1 0)
    at a true is = absurd (cc)
    at true false is = refl
    at false false is = refl

pub enough : (r : RunOf chans_family) → IsRun chans_family r → (o : ℕ) (c : Mailbox) → get r.hall.bounded.mail.channels o ≡ Some c → c.ended ≡ false
    → min (capacity_at r.hall.bounded o - length c.queued) (pending_at r.hall.bounded o) ≤ granted_at r.hall.bounded o
enough r runs o c is lives = at (queue_at r.hall.bounded o) refl
  where
    at : (q : Lacking) → queue_at r.hall.bounded o ≡ q → min (capacity_at r.hall.bounded o - length c.queued) (pending_at r.hall.bounded o) ≤ granted_at r.hall.bounded o
    at [] none = let all = nobody_waits r.hall.bounded o none in omega (arith, all)
    at (e ∷ q) some =
        let places = (all_held r runs).places o (ap ended_in is ∙ lives) (λ none. absurd (let no = sym some ∙ none in cc)) in
        let size = ap (λ p. length (queued_in p)) is in
        omega (arith, places, size)

pub all_are_woken : (r : RunOf chans_family) → IsRun chans_family r → (o : ℕ) (c : Mailbox) → get r.hall.bounded.mail.channels o ≡ Some c → c.ended ≡ true → pending_at r.hall.bounded o ≡ granted_at r.hall.bounded o
all_are_woken r runs o c is ends = nobody_waits r.hall.bounded o ((all_held r runs).shut o (ap ended_in is ∙ ends))
