-- one bounded channel with its sends: what each call of its core leaves
use Rattle.std.proofs.Common.{◌≡◌, ◌≢◌, ℕ, ◌+◌, ◌-◌, ◌≤◌, ◌==◌, ◌++◌, ◌⊎◌, inl, inr, Bool, true, false, length, List, [], ◌∷◌, map, cond, Option, Some, None, is_some, option_to_list, Result, Ok, Err, refl, ap, sym, subst, ◌∙◌, arith, if◌then◌else◌}
use Rattle.std.specs.FinMap.{get, insert, remove}
use Rattle.std.proofs.lemmas.List.{length-append}
use Rattle.mea_base.specs.declared.poll.Poll.{Poll}
use Rattle.mea_base.specs.Queue.{lacks, waiting_after}
use Rattle.std.specs.Ordering.{nat_cmp}
use Rattle.std.specs.FinMap.{FinMap}
use Rattle.mea_base.proofs.Maps.{get-gone, removed_none}
use Rattle.mea_base.proofs.NamedMaps.{same_named}
use Rattle.mea_base.proofs.Totals.{get_inserted, get_removed}
use Rattle.mea_by_name.specs.declared.named_waker.NamedWaker.{NamedWaker}
use Rattle.mea_by_name.specs.ByName.{Names}
use Rattle.mea_by_name.specs.NamedQueue.{waits}
use Rattle.mea_by_name.specs.LackingQueue.{who, rewoken, leaving, woken_by}
use Rattle.mea_by_name.proofs.Own.{seen-at, seen-insert, seen-remove, insert_same}
use Rattle.mea_sem_core.specs.Acquire.{demand_of}
use Rattle.mea_sem_core.specs.declared.acquire.Acquire.{Acquire}
use Rattle.mea_sem_core.specs.declared.acquire.Acquire.TheVariants.{New, Queued, Done, Refused}
use Rattle.mea_sem_core.specs.Core.{HasNoDebt, Core, Waiter, Acquires, Owes, waiting, poured}
use Rattle.mea_sem_core.specs.Calls.{Belongs, Queues, Loses, Cancels, without_acquire}
use Rattle.mea_sem_core.specs.Ones.{AskForOne}
use Rattle.mea_sem_core.proofs.Ones.{ones_no_debt, ones_without, length-rewaked}
use Rattle.mea_sem_core.proofs.Pours.{AllLack, poured_nothing}
use Rattle.mea_chan_core.specs.declared.errors.SendError.{SendError}
use Rattle.mea_chan_core.specs.declared.errors.TrySendError.{TrySendError}
use Rattle.mea_chan_core.specs.declared.errors.TrySendError.TheVariants.{Full, Disconnected}
use Rattle.mea_chan_core.specs.declared.errors.TryRecvError.{TryRecvError}
use Rattle.mea_chan_core.specs.declared.errors.TryRecvError.TheVariants as try
use Rattle.mea_chan_core.specs.Channel.{IsSenders}
use Rattle.mea_chan_core.specs.Bounded.{made_way, made_way_for, without_free, IsOut, with_message, send_answer, Leaves, QueuesAnew, StaysBy, StaysPending, PollsValue, PollsSend, EndsSend, after_recv, after_recv_of, without_receiver}
use Rattle.mea_chan_core.specs.Woken.{IsChannel}
use Rattle.mea_chan_core.proofs.Senders.{Stays, makes_way, wakes_all, loses_keeps, cancels_keeps}
use Rattle.mea_chan_model.specs.Bounded.{Room, left_by, joined}
use Rattle.mea_cores_by_name.specs.Linked.{names_in, IsHome, Linked}
use Rattle.mea_cores_by_name.proofs.Linking.{IsUnqueued, unqueued_waits, linked_gone, linked_pushed, queued_waits, queued_with, queued_without, linked_again, linked_taken, linked_left, push-names}
use Rattle.mea_cores_by_name.proofs.Poured.{queue_poured, woken_poured, poured_linked}
use Rattle.mea_chan.specs.BoundedCores.{NamedChannel, KeptSend, kept_by, polled_as}
use Rattle.mea_chan.specs.BoundedParts.{room_seen, acquires_of, was_polled}

none_is : {A : Type 0} (ws : List A) → ws ≡ [] → length ws ≡ 0
none_is ws none = ap length none

-- ---- how many wakers a channel keeps after each call
made_way_stays : (s : Core NamedWaker) → IsSenders s → Stays s (made_way s)
made_way_stays s is = (makes_way s (made_way s) is (λ some. at s.queue some) (λ none. ap (λ q. made_way_for q s) none)).0
  where
    at : (q : List (Waiter NamedWaker × ℕ)) → q ≢ [] → made_way_for q s ≡ poured s 1
    at [] some = absurd (some refl)
    at (e ∷ q) some = refl

module _ (c : NamedChannel) (quiet : c.wakes ≡ []) where
  pub received_fits : IsSenders c.waiting → kept_by (after_recv c) + length (after_recv c).wakes ≤ kept_by c
  received_fits is = at c.queued
    where
      at : (q : List ℕ) → kept_by (after_recv_of c q) + length (after_recv_of c q).wakes ≤ kept_by c
      at [] = omega (arith, none_is c.wakes quiet)
      at (v ∷ rest) = let stays = made_way_stays c.waiting is in omega (arith, none_is c.wakes quiet, stays.room, length-append c.wakes (made_way c.waiting).wakes)

  pub polled_fits : IsSenders c.waiting → (k : NamedWaker) (r : Result ℕ TryRecvError) → kept_by (polled_as c k r) + length (polled_as c k r).wakes ≤ kept_by c + 1
  polled_fits is k (Ok v) = omega (arith, received_fits is)
  polled_fits is k (Err try.Disconnected) = omega (arith, none_is c.wakes quiet)
  polled_fits is k (Err try.Empty) = omega (arith, none_is c.wakes quiet)

  pub ended_fits : IsSenders c.waiting → kept_by (without_receiver c) + length (without_receiver c).wakes ≤ kept_by c
  ended_fits is =
      let stays = wakes_all c.waiting (poured c.waiting (lacks c.waiting.queue)) is refl in
      omega (arith, none_is c.wakes quiet, stays.room, length-append c.wakes (poured c.waiting (lacks c.waiting.queue)).wakes)

  pub cancelled_fits : IsSenders c.waiting → (a : Acquire) (c' : NamedChannel) → demand_of a ≡ 1 → Belongs c.waiting a → EndsSend c a c' → kept_by c' + length c'.wakes ≤ kept_by c
  cancelled_fits is a c' one belongs (q, cancels, same) =
      let stays = cancels_keeps c.waiting q a is one belongs cancels in
      rw same (omega (arith, none_is c.wakes quiet, stays.room, length-append c.wakes q.wakes))

  left_fits : IsSenders c.waiting → (d c' : NamedChannel) (a : Acquire) → d.waiting ≡ c.waiting → Belongs c.waiting a → Leaves d a c' → kept_by c' + length c'.wakes ≤ kept_by d + length d.wakes
  left_fits is d c' a alike belongs (q, loses, same) =
      let stays = loses_keeps c.waiting q a is belongs (rw alike at loses) in
      let before : length d.waiting.queue ≡ length c.waiting.queue = ap (λ (s : Core NamedWaker). length s.queue) alike in
      rw same (omega (arith, stays.room, before))

  anew_length : (s q q' : Core NamedWaker) (a : Acquire) (k : NamedWaker) (number : ℕ) → IsOut s a → Queues (without_free s) q 1 k number → Loses q a q' → length q'.queue ≡ length s.queue + 1
  anew_length s q q' a k number out queues loses = by_acquire a out loses
    where
      more : length q.queue ≡ length s.queue + 1
      more = ap (λ (t : Core NamedWaker). length t.queue) queues.is ∙ length-append s.queue ((Acquires number 1 k, 1 - 0) ∷ [])

      by_acquire : (a : Acquire) → IsOut s a → Loses q a q' → length q'.queue ≡ length s.queue + 1
      by_acquire (New _) out same = ap (λ (t : Core NamedWaker). length t.queue) same ∙ more
      by_acquire (Done _) out same = ap (λ (t : Core NamedWaker). length t.queue) same ∙ more
      by_acquire (Refused _) out same = ap (λ (t : Core NamedWaker). length t.queue) same ∙ more
      by_acquire (Queued d m) out loses = ap (λ (t : Core NamedWaker). length t.queue) (loses.0 (ap (λ (t : Core NamedWaker). get t.granted m) queues.is ∙ out)) ∙ more

  anew_fits : (a a' : Acquire) (k : NamedWaker) (c' : NamedChannel) → IsOut c.waiting a → QueuesAnew c a k c' a' → kept_by c' + length c'.wakes ≤ kept_by c + 1
  anew_fits a a' k c' out (q, q', number, queues, loses, new, same) = rw same (omega (arith, none_is c.wakes quiet, anew_length c.waiting q q' a k number out queues loses))

  stayed_fits : IsChannel c → {R : Type 0} (y : R) (a a' : Acquire) (k : NamedWaker) (c' : NamedChannel) → Belongs c.waiting a → StaysPending {R = R} c a k (Ok y) c' a' → kept_by c' + length c'.wakes ≤ kept_by c + 1
  stayed_fits is y (New d) a' k c' belongs anew = anew_fits (New d) a' k c' tt anew
  stayed_fits is y (Done d) a' k c' belongs anew = anew_fits (Done d) a' k c' tt anew
  stayed_fits is y (Refused d) a' k c' belongs anew = anew_fits (Refused d) a' k c' belongs anew
  stayed_fits is {R} y (Queued d n) a' k c' belongs stays = at (get c.waiting.granted n) refl stays
    where
      granted_as : (e : ℕ) → get c.waiting.granted n ≡ Some e → Belongs c.waiting (Queued d n) → get c.waiting.granted n ≡ Some d
      granted_as e is_e (inl (inl granted)) = granted
      granted_as e is_e (inl (inr waits)) = absurd (let none = is.sound.granted_apart n (λ none. absurd (cc)) in let some = waits.1 in cc)
      granted_as e is_e (inr cut) = absurd (let closed = cut.0 in let opened = is.senders.is_open in cc)

      at : (o : Option ℕ) → get c.waiting.granted n ≡ o → StaysBy {R = R} o c d n k (Ok y) c' a' → kept_by c' + length c'.wakes ≤ kept_by c + 1
      at None none stays = rw stays.1 (omega (arith, none_is c.wakes quiet, length-rewaked c.waiting.queue n k))
      at (Some e) some anew = anew_fits (Queued d n) a' k c' (granted_as e some belongs) anew

  pub poll_fits : IsChannel c → (value value' : Option ℕ) (a a' : Acquire) (k : NamedWaker) (turn : Poll (Result (Unit {0}) (SendError ℕ))) (c' : NamedChannel) → Belongs c.waiting a
      → PollsSend c value a k (Ok turn) c' value' a' → kept_by c' + length c'.wakes ≤ kept_by c + 1
  poll_fits is None value' a a' k turn c' belongs polls = rw polls.1 (omega (arith, none_is c.wakes quiet))
  poll_fits is (Some v) value' a a' k turn c' belongs polls = at (send_answer c v) polls
    where
      at : (r : Result (Unit {0}) (TrySendError ℕ)) → PollsValue c v r a k (Ok turn) c' value' a' → kept_by c' + length c'.wakes ≤ kept_by c + 1
      at (Ok u) polls =
          let less = left_fits is.senders (with_message c v) c' a refl belongs polls.2 in
          omega (arith, less, none_is c.wakes quiet, length-append c.wakes (option_to_list c.waker))
      at (Err (Disconnected u)) polls = let less = left_fits is.senders c c' a refl belongs polls.2 in omega (arith, less, none_is c.wakes quiet)
      at (Err (Full u)) polls = stayed_fits is turn a a' k c' belongs polls.2

-- each who waits among ones lacks one
lack_of_ones : (q : List (Waiter NamedWaker × ℕ)) (n d l : ℕ) → AskForOne q → waiting q n ≡ Some (d, l) → l ≡ 1
lack_of_ones [] n d l ones is = absurd (cc)
lack_of_ones ((Acquires m e k, j) ∷ q) n d l ones is = elim (m == n) as (λ b. cond b (Some (e, j)) (waiting q n) ≡ Some (d, l) → l ≡ 1) [
  | true ↦ λ is. (let both : ◌≡◌ {A = ℕ × ℕ} (e, j) (d, l) = cc in sym (ap (λ (p : ℕ × ℕ). p.1) both)) ∙ ones.1
  | false ↦ λ is. lack_of_ones q n d l ones.2 is
] is
lack_of_ones ((Owes, j) ∷ q) n d l ones is = absurd ones

ones_lack : (q : List (Waiter NamedWaker × ℕ)) → AskForOne q → AllLack q
ones_lack [] ones = tt
ones_lack ((Acquires m e k, j) ∷ q) ones = (omega (arith, ones.1), ones_lack q ones.2)
ones_lack ((Owes, j) ∷ q) ones = absurd ones

-- ---- who waits after each call
module _ (c : NamedChannel) (xs : Names KeptSend) (linked : Linked c.waiting.queue c.waiting.granted (acquires_of xs)) (is : IsChannel c) where
  abbrev queue : List (Waiter NamedWaker × ℕ)
  queue = c.waiting.queue

  no_debt : HasNoDebt queue
  no_debt = ones_no_debt queue is.senders.ones

  -- n of those who wait are granted a place
  pub grants_linked : (t : Core NamedWaker) (n : ℕ) → t ≡ poured c.waiting n → Linked t.queue t.granted (acquires_of xs)
  grants_linked t n poured_is = poured_linked c.waiting t n is.senders.quiet poured_is no_debt (acquires_of xs) linked

  pub grants_seen : (t : Core NamedWaker) (n : ℕ) → t ≡ poured c.waiting n → names_in t.queue ≡ waiting_after (names_in queue) n
  grants_seen t n poured_is = queue_poured c.waiting t n is.senders.quiet poured_is no_debt

  pub grants_woken : (t : Core NamedWaker) (n : ℕ) → t ≡ poured c.waiting n → map (λ (k : NamedWaker). k.waker) t.wakes ≡ woken_by (names_in queue) n
  grants_woken t n poured_is = woken_poured c.waiting t n is.senders.quiet poured_is no_debt

  -- one of those who wait is, if there is one
  pub record MakesWay (t : Core NamedWaker) : Type 0 where
    pub links : Linked t.queue t.granted (acquires_of xs)
    pub seen : names_in t.queue ≡ waiting_after (names_in queue) 1
    pub woken : map (λ (k : NamedWaker). k.waker) t.wakes ≡ woken_by (names_in queue) 1

  pub made : MakesWay (made_way c.waiting)
  made = at c.waiting.queue refl
    where
      at : (q : List (Waiter NamedWaker × ℕ)) → c.waiting.queue ≡ q → MakesWay (made_way_for q c.waiting)
      at [] none = record { links = linked; seen = rw none refl; woken = ap (map (λ (k : NamedWaker). k.waker)) is.senders.quiet ∙ sym (ap (λ q. woken_by (names_in q) 1) none) }
      at (e ∷ q) some = record { links = grants_linked (poured c.waiting 1) 1 refl; seen = grants_seen (poured c.waiting 1) 1 refl; woken = grants_woken (poured c.waiting 1) 1 refl }

  module _ (f : ℕ) (x : KeptSend) (there : get xs f ≡ Some x) where
    its : get (acquires_of xs) f ≡ Some x.acquire
    its = seen-at (λ (x : KeptSend). x.acquire) xs f x there

    -- a send that was never polled, that was granted a place, or that waits
    data Stands : Acquire → Type 0 where
      IsNew : (d : ℕ) → Stands (New d)
      IsGranted : (d n : ℕ) → get c.waiting.granted n ≡ Some d → waiting queue n ≡ None → Stands (Queued d n)
      IsWaiting : (d n l : ℕ) → get c.waiting.granted n ≡ None → waiting queue n ≡ Some (d, l) → Stands (Queued d n)

    stands : (a : Acquire) → IsHome queue c.waiting.granted a → Stands a
    stands (New d) home = IsNew d
    stands (Queued d n) (inl held) = IsGranted d n held (at (waiting queue n) refl)
      where
        at : (o : Option (ℕ × ℕ)) → waiting queue n ≡ o → waiting queue n ≡ None
        at None none = none
        at (Some p) some = absurd (let none = is.sound.granted_apart n (λ none. absurd (cc)) in cc)
    stands (Queued d n) (inr still) = IsWaiting d n still.0 (is.sound.granted_apart n (λ none. absurd (let some = still.1 in cc))) still.1
    stands (Done d) home = absurd home
    stands (Refused d) home = absurd home

    its_home : IsHome queue c.waiting.granted x.acquire
    its_home = linked.home f x.acquire its

    -- what is seen of its place
    abbrev is_waiting : Bool
    is_waiting = waits (who (names_in queue)) f

    its_at : (a : Acquire) → x.acquire ≡ a → get (acquires_of xs) f ≡ Some a
    its_at a same = its ∙ ap (λ a. Some a) same

    -- ---- it leaves, and a place that it was granted is lost
    pub record Left (s : Core NamedWaker) : Type 0 where
      pub links : Linked s.queue s.granted (acquires_of (remove xs f))
      pub seen : names_in s.queue ≡ (left_by f (room_seen c)).queue

    abbrev left_room : Bool → Room
    left_room b = if b then record (room_seen c) { queue = leaving (names_in queue) f } else room_seen c

    pub left : (s : Core NamedWaker) → Loses c.waiting x.acquire s → Left s
    left s loses = at x.acquire refl (stands x.acquire its_home) loses
      where
        at : (a : Acquire) → x.acquire ≡ a → Stands a → Loses c.waiting a s → Left s
        at _ same (IsNew d) lost =
            let out = subst IsUnqueued (sym (its_at (New d) same)) tt in
            rw lost (record {
              links = rw (seen-remove (λ (x : KeptSend). x.acquire) xs f) (linked_gone queue c.waiting.granted (acquires_of xs) linked f out);
              seen = sym (ap (λ b. (left_room b).queue) (unqueued_waits queue c.waiting.granted (acquires_of xs) linked f out no_debt));
            })
        at _ same (IsGranted d n held none) lost =
            let here = its_at (Queued d n) same in
            rw (lost.0 held) (record {
              links = rw (seen-remove (λ (x : KeptSend). x.acquire) xs f) (linked_taken queue c.waiting.granted (acquires_of xs) linked f d n here none);
              seen = sym (ap (λ b. (left_room b).queue) (queued_waits queue c.waiting.granted (acquires_of xs) linked f d n here no_debt ∙ ap is_some none));
            })
        at _ same (IsWaiting d n l none waits) lost =
            let here = its_at (Queued d n) same in
            rw (lost.1 l waits) (record {
              links = rw (seen-remove (λ (x : KeptSend). x.acquire) xs f) (linked_left queue c.waiting.granted (acquires_of xs) linked f d n here none);
              seen = queued_without queue c.waiting.granted (acquires_of xs) linked f d n here no_debt
                  ∙ sym (ap (λ b. (left_room b).queue) (queued_waits queue c.waiting.granted (acquires_of xs) linked f d n here no_debt ∙ ap is_some waits));
            })

    -- ---- it waits on, or goes to the end of the queue
    pub record Joined (w : ℕ) (c' : NamedChannel) (a : Acquire) : Type 0 where
      pub only : c' ≡ record c { waiting = c'.waiting }
      pub links : Linked c'.waiting.queue c'.waiting.granted (acquires_of (insert xs f (record x { acquire = a })))
      pub seen : names_in c'.waiting.queue ≡ (joined f w (room_seen c)).queue
      pub polled : was_polled a ≡ true

    abbrev joined_room : ℕ → Bool → Room
    joined_room w b = if b then record (room_seen c) { queue = rewoken (names_in queue) f w } else record (room_seen c) { queue = names_in queue ++ ((f, w), 1) ∷ [] }

    module _ (w : ℕ) where
      abbrev waker : NamedWaker
      waker = record { name = f; waker = w }

      -- it goes there from outside of the queue, which names it under no number
      pushed : (g : FinMap nat_cmp ℕ) (others : Names Acquire) → Linked queue g others → IsUnqueued (get others f) → waits (who (names_in queue)) f ≡ false
          → (q : Core NamedWaker) (number : ℕ) → q.queue ≡ queue ++ (Acquires number 1 waker, 1 - 0) ∷ [] → waiting queue number ≡ None → get g number ≡ None
          → Linked q.queue g (insert others f (Queued 1 number)) × (names_in q.queue ≡ (joined_room w is_waiting).queue)
      pushed g others links out apart q number more fresh free = (
        rw more (linked_pushed queue g others links f out number 1 (1 - 0) waker refl fresh free),
        ap names_in more ∙ push-names queue number 1 (1 - 0) waker ∙ ap (λ l. names_in queue ++ ((f, w), l) ∷ []) (let one : 1 - 0 ≡ 1 = omega arith in one) ∙ sym (ap (λ b. (joined_room w b).queue) apart),
      )

      joins_anew : (c' : NamedChannel) (a' : Acquire) → Stands x.acquire → waits (who (names_in queue)) f ≡ false → QueuesAnew c x.acquire waker c' a' → Joined w c' a'
      joins_anew c' a' stand apart (q, q', number, queues, loses, new, same) = at x.acquire refl stand loses
        where
          more : q.queue ≡ queue ++ (Acquires number 1 waker, 1 - 0) ∷ []
          more = ap (λ (t : Core NamedWaker). t.queue) queues.is

          still : q.granted ≡ c.waiting.granted
          still = ap (λ (t : Core NamedWaker). t.granted) queues.is

          -- what was put over what was gone
          put_over : (o : Acquire) → insert (remove (acquires_of xs) f) f o ≡ insert (acquires_of xs) f o
          put_over o = same_named _ _ (λ k. get_inserted (remove (acquires_of xs) f) f k o ∙ ap (cond (f == k) (Some o)) (get_removed (acquires_of xs) f k) ∙ at_test k (f == k) ∙ sym (get_inserted (acquires_of xs) f k o))
            where
              at_test : (k : ℕ) (b : Bool) → cond b (Some o) (cond b None (get (acquires_of xs) k)) ≡ cond b (Some o) (get (acquires_of xs) k)
              at_test k true = refl
              at_test k false = refl

          finish : Linked q'.queue q'.granted (insert (acquires_of xs) f (Queued 1 number)) → names_in q'.queue ≡ (joined_room w is_waiting).queue → Joined w c' a'
          finish links names = rw (same, new) (record { only = refl; links = rw (seen-insert (λ (x : KeptSend). x.acquire) xs f (record x { acquire = Queued 1 number })) links; seen = names; polled = refl })

          at : (a : Acquire) → x.acquire ≡ a → Stands a → Loses q a q' → Joined w c' a'
          at _ mine (IsNew d) lost =
              let out = subst IsUnqueued (sym (its_at (New d) mine)) tt in
              let all = pushed c.waiting.granted (acquires_of xs) linked out apart q number more queues.not_waiting queues.not_granted in
              finish (rw (lost, still) all.0) (ap (λ (t : Core NamedWaker). names_in t.queue) lost ∙ all.1)
          at _ mine (IsGranted d n held none) lost =
              let here = its_at (Queued d n) mine in
              let gone = linked_taken queue c.waiting.granted (acquires_of xs) linked f d n here none in
              let out = subst IsUnqueued (sym (get-gone (acquires_of xs) f)) tt in
              let free : get (remove c.waiting.granted n) number ≡ None = removed_none c.waiting.granted n number queues.not_granted in
              let all = pushed (remove c.waiting.granted n) (remove (acquires_of xs) f) gone out apart q number more queues.not_waiting free in
              let now = lost.0 (ap (λ g. get g n) still ∙ held) in
              finish (rw (now, still) (rw (put_over (Queued 1 number)) at all.0)) (ap (λ (t : Core NamedWaker). names_in t.queue) now ∙ all.1)
          at _ mine (IsWaiting d n l none waits) lost =
              absurd (let some = queued_waits queue c.waiting.granted (acquires_of xs) linked f d n (its_at (Queued d n) mine) no_debt ∙ ap is_some waits in cc)

      pub joins : {R : Type 0} (y : R) (c' : NamedChannel) (a' : Acquire) → StaysPending {R = R} c x.acquire waker (Ok y) c' a' → Joined w c' a'
      joins {R} y c' a' stays = at x.acquire refl (stands x.acquire its_home) stays
        where
          at : (a : Acquire) → x.acquire ≡ a → Stands a → StaysPending {R = R} c a waker (Ok y) c' a' → Joined w c' a'
          at _ mine (IsNew d) anew =
              let out = subst IsUnqueued (sym (its_at (New d) mine)) tt in
              joins_anew c' a' (subst Stands (sym mine) (IsNew d)) (unqueued_waits queue c.waiting.granted (acquires_of xs) linked f out no_debt) (rw mine anew)
          at _ mine (IsGranted d n held none) anew =
              let here = its_at (Queued d n) mine in
              joins_anew c' a' (subst Stands (sym mine) (IsGranted d n held none)) (queued_waits queue c.waiting.granted (acquires_of xs) linked f d n here no_debt ∙ ap is_some none) (rw mine (rw held at anew))
          at _ mine (IsWaiting d n l none waits) on =
              let here = its_at (Queued d n) mine in
              let now = rw none at on in
              let same : insert (acquires_of xs) f (Queued d n) ≡ acquires_of xs = insert_same (acquires_of xs) f (Queued d n) here in
              rw (now.1, now.2) (record {
                only = refl;
                links = rw (seen-insert (λ (x : KeptSend). x.acquire) xs f (record x { acquire = Queued d n }), same) (linked_again queue c.waiting.granted (acquires_of xs) linked f d n here waker refl);
                seen = queued_with queue c.waiting.granted (acquires_of xs) linked f d n here waker refl no_debt
                    ∙ sym (ap (λ b. (joined_room w b).queue) (queued_waits queue c.waiting.granted (acquires_of xs) linked f d n here no_debt ∙ ap is_some waits));
                polled = refl;
              })

    -- ---- it ends: it leaves the queue, or its place goes to the first who waits
    pub record Ended (s : Core NamedWaker) : Type 0 where
      pub links : Linked s.queue s.granted (acquires_of (remove xs f))
      pub seen : (waits (who (names_in queue)) f ≡ true) × (names_in s.queue ≡ leaving (names_in queue) f) × (map (λ (k : NamedWaker). k.waker) s.wakes ≡ [])
          ⊎ ((waits (who (names_in queue)) f ≡ false) × (was_polled x.acquire ≡ true) × (names_in s.queue ≡ waiting_after (names_in queue) 1) × (map (λ (k : NamedWaker). k.waker) s.wakes ≡ woken_by (names_in queue) 1)
          ⊎ (waits (who (names_in queue)) f ≡ false) × (was_polled x.acquire ≡ false) × (names_in s.queue ≡ names_in queue) × (map (λ (k : NamedWaker). k.waker) s.wakes ≡ []))

    pub ends : (s : Core NamedWaker) → Cancels c.waiting x.acquire s → demand_of x.acquire ≡ 1 → Ended s
    ends s cancels one = at x.acquire refl (stands x.acquire its_home) cancels
      where
        silent : map (λ (k : NamedWaker). k.waker) c.waiting.wakes ≡ []
        silent = ap (map (λ (k : NamedWaker). k.waker)) is.senders.quiet

        at : (a : Acquire) → x.acquire ≡ a → Stands a → Cancels c.waiting a s → Ended s
        at _ same (IsNew d) gone =
            let out = subst IsUnqueued (sym (its_at (New d) same)) tt in
            rw gone (record {
              links = rw (seen-remove (λ (x : KeptSend). x.acquire) xs f) (linked_gone queue c.waiting.granted (acquires_of xs) linked f out);
              seen = inr (inr (unqueued_waits queue c.waiting.granted (acquires_of xs) linked f out no_debt, ap was_polled same, refl, silent));
            })
        at _ same (IsGranted d n held none) gone =
            let here = its_at (Queued d n) same in
            let apart = queued_waits queue c.waiting.granted (acquires_of xs) linked f d n here no_debt ∙ ap is_some none in
            let single : d ≡ 1 = sym (ap demand_of same) ∙ one in
            let now : s ≡ poured (record c.waiting { live = c.waiting.live - d; granted = remove c.waiting.granted n }) 1 = gone.0 held ∙ ap (poured (record c.waiting { live = c.waiting.live - d; granted = remove c.waiting.granted n })) single in
            record {
              links = rw (seen-remove (λ (x : KeptSend). x.acquire) xs f) (poured_linked (record c.waiting { live = c.waiting.live - d; granted = remove c.waiting.granted n }) s 1 is.senders.quiet now no_debt (remove (acquires_of xs) f)
                  (linked_taken queue c.waiting.granted (acquires_of xs) linked f d n here none));
              seen = inr (inl (
                apart,
                ap was_polled same,
                queue_poured (record c.waiting { live = c.waiting.live - d; granted = remove c.waiting.granted n }) s 1 is.senders.quiet now no_debt,
                woken_poured (record c.waiting { live = c.waiting.live - d; granted = remove c.waiting.granted n }) s 1 is.senders.quiet now no_debt,
              ));
            }
        at _ same (IsWaiting d n l none still) gone =
            let here = its_at (Queued d n) same in
            let stays = queued_waits queue c.waiting.granted (acquires_of xs) linked f d n here no_debt ∙ ap is_some still in
            let single : d ≡ 1 = sym (ap demand_of same) ∙ one in
            let lacks_one : l ≡ 1 = lack_of_ones queue n d l is.senders.ones still in
            let nothing : d - l ≡ 0 = omega (arith, single, lacks_one) in
            let rest : AskForOne (without_acquire queue n) = ones_without queue n is.senders.ones in
            let now : s ≡ record c.waiting { live = c.waiting.live - (d - l); queue = without_acquire queue n } =
            gone.1 l still ∙ ap (poured (record c.waiting { live = c.waiting.live - (d - l); queue = without_acquire queue n })) nothing
            ∙ poured_nothing (record c.waiting { live = c.waiting.live - (d - l); queue = without_acquire queue n }) (ones_lack (without_acquire queue n) rest) in
            rw now (record {
              links = rw (seen-remove (λ (x : KeptSend). x.acquire) xs f) (linked_left queue c.waiting.granted (acquires_of xs) linked f d n here none);
              seen = inl (stays, queued_without queue c.waiting.granted (acquires_of xs) linked f d n here no_debt, silent);
            })
