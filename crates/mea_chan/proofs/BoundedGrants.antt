-- as many numbers of a bounded channel were granted as sends of it that were polled wait no more
use Rattle.std.proofs.Common.{◌≡◌, ℕ, ◌+◌, ◌==◌, Bool, true, false, not, cond, List, Option, Some, None, refl, ap, sym, ◌∙◌, arith, if◌then◌else◌}
use Rattle.std.specs.Option.{option_map}
use Rattle.std.specs.Ordering.{nat_cmp}
use Rattle.std.specs.FinMap.{FinMap, get, len}
use Rattle.mea_base.specs.Totals.{total, weight}
use Rattle.mea_base.proofs.Totals.{total-alike, total-zero}
use Rattle.mea_base.proofs.NamedMaps.{get-seen}
use Rattle.mea_by_name.specs.declared.named_waker.NamedWaker.{NamedWaker}
use Rattle.mea_by_name.specs.ByName.{Names, seen, own, is_of}
use Rattle.mea_by_name.specs.NamedQueue.{waits}
use Rattle.mea_by_name.specs.LackingQueue.{who}
use Rattle.mea_by_name.proofs.Own.{get-own, seen-at}
use Rattle.mea_sem_core.specs.declared.acquire.Acquire.{Acquire}
use Rattle.mea_sem_core.specs.declared.acquire.Acquire.TheVariants.{New, Queued, Done, Refused}
use Rattle.mea_sem_core.specs.Core.{Waiter}
use Rattle.mea_sem_core.proofs.Ones.{ones_no_debt}
use Rattle.mea_chan_core.specs.Woken.{IsChannel}
use Rattle.mea_chan_model.specs.Bounded.{BoundedSend}
use Rattle.mea_chan_model.specs.Sends.{is_granted_at, granted_of}
use Rattle.mea_cores_by_name.specs.Linked.{names_in, IsHome, Linked}
use Rattle.mea_cores_by_name.proofs.Granted.{one_if_granted, granted_seen}
use Rattle.mea_chan.specs.BoundedCores.{NamedChannel, KeptSend}
use Rattle.mea_chan.specs.BoundedParts.{was_polled, send_seen, acquires_of, of_channel}

-- a send that was polled and does not wait
abbrev is_granted : List (Waiter NamedWaker × ℕ) → ℕ → Bool → Bool
is_granted q f polled = if polled then not (waits (who (names_in q)) f) else false

abbrev counts : List (Waiter NamedWaker × ℕ) → ℕ → BoundedSend → ℕ
counts q f y = cond (is_granted q f y.polled) 1 0

-- of an acquire that is home: one that has a number, and does not wait
granted_home : (q : List (Waiter NamedWaker × ℕ)) (granted : FinMap nat_cmp ℕ) (f : ℕ) (a : Acquire) → IsHome q granted a → ◌≡◌ {A = ℕ} (cond (is_granted q f (was_polled a)) 1 0) (one_if_granted q f a + 0)
granted_home q granted f (New d) home = refl
granted_home q granted f (Queued d n) home = omega arith
granted_home q granted f (Done d) home = absurd home
granted_home q granted f (Refused d) home = absurd home

-- the sends of one channel
pub own_granted : (c : NamedChannel) (xs : Names KeptSend) → Linked c.waiting.queue c.waiting.granted (acquires_of xs) → IsChannel c → total (λ f y. counts c.waiting.queue f y) (seen send_seen xs) ≡ len c.waiting.granted
own_granted c xs linked is =
    let all = granted_seen c.waiting.queue c.waiting.granted (λ (x : KeptSend). x.acquire) send_seen xs (λ f y. counts c.waiting.queue f y) (λ x. 0) (ones_no_debt c.waiting.queue is.senders.ones) is.sound.granted_apart linked
    (λ f x there. granted_home c.waiting.queue c.waiting.granted f x.acquire (linked.home f x.acquire (seen-at (λ (x : KeptSend). x.acquire) xs f x there))) in
    omega (arith, all, total-zero (λ f (x : KeptSend). 0) xs (λ f x there. refl))

-- they are those of all sends that are of the channel
pub all_granted : (c : NamedChannel) (xs : Names KeptSend) (o : ℕ) → granted_of (names_in c.waiting.queue) (seen send_seen xs) o ≡ total (λ f y. counts c.waiting.queue f y) (seen send_seen (own of_channel o xs))
all_granted c xs o = total-alike (λ f y. cond (is_granted_at (names_in c.waiting.queue) o f y) 1 0) (λ f y. counts c.waiting.queue f y) (seen send_seen xs) (seen send_seen (own of_channel o xs))
    (λ f. ap (weight (λ f y. cond (is_granted_at (names_in c.waiting.queue) o f y) 1 0) f) (get-seen (λ k x. send_seen x) xs f) ∙ at f (get xs f)
    ∙ sym (ap (weight (λ f y. counts c.waiting.queue f y) f) (get-seen (λ k x. send_seen x) (own of_channel o xs) f ∙ ap (option_map send_seen) (get-own of_channel o xs f))))
  where
    at : (f : ℕ) (p : Option KeptSend) → weight (λ f y. cond (is_granted_at (names_in c.waiting.queue) o f y) 1 0) f (option_map send_seen p)
        ≡ weight (λ f y. counts c.waiting.queue f y) f (option_map send_seen (cond (is_of of_channel o p) p None))
    at f None = refl
    at f (Some x) = elim (x.channel == o)
        as (λ b. ◌≡◌ {A = ℕ} (cond (if (if b then was_polled x.acquire else false) then not (waits (who (names_in c.waiting.queue)) f) else false) 1 0) (weight (λ f y. counts c.waiting.queue f y) f (option_map send_seen (cond b (Some x) None)))) [ true ↦ refl | false ↦ refl ]
