-- what is seen of a service, as its parts change
use Rattle.std.proofs.Common.{◌≡◌, ℕ, ◌+◌, ◌<◌, ◌==◌, ◌&&◌, ◌++◌, Bool, true, false, cond, length, List, [], ◌∷◌, Option, None, IsSome, option_to_list, Ok, Err, refl, ap, sym, subst, ◌∙◌, arith}
use Rattle.std.specs.FinMap.{empty, get, len, len-empty}
use Rattle.std.specs.Ordering.{nat_cmp}
use Rattle.mea_sets.specs.declared.place.Place.{Place}
use Rattle.mea_meet_core.specs.Shutdown.{Shutdown, without_receiver}
use Rattle.mea_chan_core.specs.declared.errors.TrySendError.TheVariants.{Full, Disconnected}
use Rattle.mea_chan_core.specs.Channel.{Channel}
use Rattle.mea_chan_core.specs.Bounded.{send_answer, after_send, with_message}
use Rattle.mea_job_core.specs.Work.{Submission, Work, ended, recalled}
use Rattle.mea_job_core.specs.Service.{first_waker, Service, told, after_recall, after_finish, with_result}
use Rattle.mea_job_core.specs.Parts.{IsOnly, IsQuiet, IsShut}
use Rattle.mea_job_core.proofs.Counting.{recalled_fewer, ended_stopped, ended_queued}
use Rattle.mea_job_core.proofs.Shut.{some_receiver, shut_less, seen_less}

-- ---- a result is sent
module _ {T W : Type 0} where
  pub record IsSent (c c' : Channel T W) (v : T) : Type 0 where
    pub quiet : IsQuiet c'
    pub queued : c'.queued ≡ c.queued ++ v ∷ []
    pub capacity : c'.capacity ≡ c.capacity
    pub not_full : (length c.queued == c.capacity) ≡ false

  pub sent : (c c' : Channel T W) (v : T) → IsQuiet c → Ok tt ≡ send_answer c v → c' ≡ after_send c v → IsSent c c' v
  sent c c' v quiet answer after = by_full (length c.queued == c.capacity) refl
    where
      goes : (b : Bool) → (length c.queued == c.capacity) ≡ b → after_send c v ≡ cond b c (with_message c v)
      goes b is = ap (λ e. cond e c (cond (length c.queued == c.capacity) c (with_message c v))) quiet.lives ∙ ap (λ e. cond e c (with_message c v)) is

      answers : (b : Bool) → (length c.queued == c.capacity) ≡ b → send_answer c v ≡ cond b (Err (Full v)) (Ok tt)
      answers b is = ap (λ e. cond e (Err (Disconnected v)) (cond (length c.queued == c.capacity) (Err (Full v)) (Ok tt))) quiet.lives ∙ ap (λ e. cond e (Err (Full v)) (Ok tt)) is

      by_full : (b : Bool) → (length c.queued == c.capacity) ≡ b → IsSent c c' v
      by_full true full = absurd (let no = answer ∙ answers true full in cc)
      by_full false not = subst (λ (d : Channel T W). IsSent c d v) (sym (after ∙ goes false not)) (record {
        quiet = record { senders = quiet.senders; lives = quiet.lives; waker = refl; waiting = quiet.waiting; wakes = ap (λ ws. ws ++ option_to_list c.waker) quiet.wakes ∙ ap option_to_list quiet.waker };
        queued = refl;
        capacity = refl;
        not_full = not;
      })

module _ {W : Type 0} where
  told_going : (t : Service W) → t.work.stopped ≡ false → told t ≡ t
  told_going t still = ap (λ b. cond (b && (len t.work.running == 0)) (record t { waker = None; wakes = t.wakes ++ option_to_list t.waker }) t) still

  module _ (base old : Service W) (is : base ≡ old) (s u : Shutdown W) (place : Option Place) (w' : Work) (shut : IsShut s base.work) (only : IsOnly s.receivers.waiting place)
      (waker : base.waker ≡ first_waker s.receivers.waiting.wakers) (wakes : base.wakes ≡ s.wakes) (gone : u ≡ without_receiver s) where
    -- ---- a queued job is over
    module _ (k : ℕ) (some : IsSome (get base.work.queued k)) (still : base.work.stopped ≡ false) (did : w' ≡ recalled base.work k) where
      same : w'.stopped ≡ base.work.stopped
      same = ap (λ (w : Work). w.stopped) did

      fewer : len w'.queued + len w'.running + 1 ≡ len base.work.queued + len base.work.running
      fewer = (let queued = ap (λ (w : Work). len w.queued) did in let running = ap (λ (w : Work). len w.running) did in omega (arith, queued, running, recalled_fewer base.work k some))

      pub recall_some : 0 < s.receivers.number
      recall_some = some_receiver s place base.work w' shut only same fewer

      pub recall_shut : IsShut u w' × IsOnly u.receivers.waiting place
      recall_shut = subst (λ (t : Shutdown W). IsShut t w' × IsOnly t.receivers.waiting place) (sym gone) (shut_less s place base.work w' shut only same fewer)

      pub recall_seen : record base { work = w'; returned = base.returned + 1; waker = first_waker u.receivers.waiting.wakers; wakes = u.wakes } ≡ after_recall old k
      recall_seen =
          ap (λ (v : Shutdown W). record base { work = w'; returned = base.returned + 1; waker = first_waker v.receivers.waiting.wakers; wakes = v.wakes }) gone
          ∙ seen_less s place base.work w' shut only same fewer (record base { work = w'; returned = base.returned + 1 }) refl waker wakes (λ over. absurd (let no = sym (same ∙ still) ∙ over in cc))
          ∙ told_going (record base { work = w'; returned = base.returned + 1 }) (same ∙ still)
          ∙ (λ i. record base { work = did i; returned = base.returned + 1 })
          ∙ ap (λ b. cond b (record base { work = recalled base.work k; returned = base.returned + 1 }) base) (sym some)
          ∙ ap (λ o. after_recall o k) is

    -- ---- a running job is over
    module _ (k result : ℕ) (some : IsSome (get base.work.running k)) (did : w' ≡ ended base.work k) (fewer : len w'.queued + len w'.running + 1 ≡ len base.work.queued + len base.work.running)
        (halted : base.work.stopped ≡ true → base.work.queued ≡ empty) (results : List (ℕ × ℕ)) (capacity : ℕ) (more : results ≡ base.results ++ (k, result) ∷ []) (as_before : capacity ≡ base.capacity)
        (not_full : (length base.results == base.capacity) ≡ false) where
      same_stop : w'.stopped ≡ base.work.stopped
      same_stop = ap (λ (w : Work). w.stopped) did ∙ (ended_stopped base.work k).0

      none_left : w'.stopped ≡ true → len w'.queued ≡ 0
      none_left over = ap (λ (w : Work). len w.queued) did ∙ ap len ((ended_queued base.work k).1 (halted (sym same_stop ∙ over))) ∙ len-empty nat_cmp Submission

      pub finish_shut : IsShut u w' × IsOnly u.receivers.waiting place
      finish_shut = subst (λ (t : Shutdown W). IsShut t w' × IsOnly t.receivers.waiting place) (sym gone) (shut_less s place base.work w' shut only same_stop fewer)

      pub finish_seen : record base { work = w'; capacity = capacity; results = results; finished = base.finished + 1; waker = first_waker u.receivers.waiting.wakers; wakes = u.wakes } ≡ after_finish old k result
      finish_seen =
          (λ i. record base { work = w'; capacity = as_before i; results = results; finished = base.finished + 1; waker = first_waker (gone i).receivers.waiting.wakers; wakes = (gone i).wakes })
          ∙ seen_less s place base.work w' shut only same_stop fewer (record base { work = w'; results = results; finished = base.finished + 1 }) refl waker wakes none_left
          ∙ (λ i. told (record base { work = did i; results = more i; finished = base.finished + 1 }))
          ∙ ap (λ b. cond b base (with_result base k result)) (sym not_full)
          ∙ ap (λ b. cond b (cond (length base.results == base.capacity) base (with_result base k result)) base) (sym some)
          ∙ ap (λ o. after_finish o k result) is
