-- what every run keeps of the order in which acquires were first polled
use Rattle.std.proofs.Common.{◌≡◌, ℕ, ◌<◌, ◌==◌, ◌&&◌, ◌||◌, ◌⊎◌, inl, inr, Bool, true, false, cond, List, [], ◌∷◌, Option, Some, None, refl, ap, ◌∙◌, arith, is_some, unwrap_or}
use Rattle.std.specs.Option.{option_or, IsSome}
use Rattle.std.specs.FinMap.{get}
use Rattle.std.proofs.lemmas.Bool.{eq-eqb}
use Rattle.mea_family.specs.Family.{last_waker, last_waker_at}
use Rattle.mea_family.specs.declared.answer.Answer.{Answer}
use Rattle.mea_family.specs.declared.answer.Answer.TheVariants as answers
use Rattle.mea_base.proofs.Tests.{on_true}
use Rattle.mea_sem_model.specs.Hall.{Hall, Future, FutureStage, New, Waiting, Granted, Cut, queue_at, is_closed, staged, everyone}
use Rattle.mea_sem_model.specs.Valid.{one_if_waiting, waits_at}
use Rattle.mea_sem_model.specs.Runs.{ToldSemEvent, Run, semaphores, waker_in}
use Rattle.mea_sem_model.specs.Order.{asked, poll_number, first_poll, is_ready, was_ready, was_ended}
use Rattle.mea_sem_model.proofs.HallLemmas.{among}
use Rattle.mea_sem_model.proofs.Matched.{IsMatched}
use Rattle.mea_sem_model.proofs.Ranks.{AreRanked, counted, uncounted}

-- ---- what was told
-- the number of the first poll, or 0
abbrev pub rank : List ToldSemEvent → ℕ → ℕ
rank trace f = unwrap_or (first_poll trace f) 0

-- who was polled keeps its first poll
pub first_stays : (t : ToldSemEvent) (trace : List ToldSemEvent) (f : ℕ) → IsSome (first_poll trace f) → first_poll (t ∷ trace) f ≡ first_poll trace f
first_stays t trace f some = by_option (first_poll trace f) some
  where
    by_option : (o : Option ℕ) → IsSome o → option_or o (poll_number t (waker_in t.event f)) ≡ o
    by_option None none = absurd (cc)
    by_option (Some i) some = refl

pub rank_stays : (t : ToldSemEvent) (trace : List ToldSemEvent) (f : ℕ) → IsSome (first_poll trace f) → rank (t ∷ trace) f ≡ rank trace f
rank_stays t trace f some = ap (λ o. unwrap_or o 0) (first_stays t trace f some)

-- an event that does not poll f is no poll of it
pub first_unpolled : (t : ToldSemEvent) (trace : List ToldSemEvent) (f : ℕ) → waker_in t.event f ≡ None → first_poll (t ∷ trace) f ≡ first_poll trace f
first_unpolled t trace f none = ap (λ o. option_or (first_poll trace f) (poll_number t o)) none ∙ by_option (first_poll trace f)
  where
    by_option : (o : Option ℕ) → option_or o None ≡ o
    by_option None = refl
    by_option (Some i) = refl

pub ready_unpolled : (t : ToldSemEvent) (trace : List ToldSemEvent) (f : ℕ) → waker_in t.event f ≡ None → was_ready (t ∷ trace) f ≡ was_ready trace f
ready_unpolled t trace f none = ap (λ o. (is_some o && is_ready t.reply) || was_ready trace f) none

pub waker_unpolled : (t : ToldSemEvent) (trace : List ToldSemEvent) (f : ℕ) → waker_in t.event f ≡ None → last_waker semaphores (t ∷ trace) f ≡ last_waker semaphores trace f
waker_unpolled t trace f none = ap (λ o. last_waker_at semaphores t o (last_waker semaphores trace f)) none

-- whether a poll of f replied `gone`
abbrev pub is_gone : Answer → Bool
is_gone answers.Gone = true
is_gone _ = false

abbrev pub was_refused : List ToldSemEvent → ℕ → Bool
was_refused [] f = false
was_refused (t ∷ older) f = (is_some (waker_in t.event f) && is_gone t.reply) || was_refused older f

pub refused_unpolled : (t : ToldSemEvent) (trace : List ToldSemEvent) (f : ℕ) → waker_in t.event f ≡ None → was_refused (t ∷ trace) f ≡ was_refused trace f
refused_unpolled t trace f none = ap (λ o. (is_some o && is_gone t.reply) || was_refused trace f) none

-- who was refused was polled
pub refused_polled : (trace : List ToldSemEvent) (f : ℕ) → was_refused trace f ≡ true → IsSome (first_poll trace f)
refused_polled [] f h = absurd (cc)
refused_polled (t ∷ trace) f h = by_option (waker_in t.event f) (first_poll trace f) (is_gone t.reply) (refused_polled trace f) h
  where
    by_option : (o : Option ℕ) (p : Option ℕ) (b : Bool) → (was_refused trace f ≡ true → IsSome p) → ((is_some o && b) || was_refused trace f) ≡ true
        → IsSome (option_or p (poll_number t o))
    by_option (Some w) None b before h = refl
    by_option (Some w) (Some i) b before h = refl
    by_option None None b before h = absurd (let no = before h in cc)
    by_option None (Some i) b before h = refl

-- who was ready was polled
pub ready_polled : (trace : List ToldSemEvent) (f : ℕ) → was_ready trace f ≡ true → IsSome (first_poll trace f)
ready_polled [] f h = absurd (cc)
ready_polled (t ∷ trace) f h = by_option (waker_in t.event f) (first_poll trace f) (is_ready t.reply) (ready_polled trace f) h
  where
    by_option : (o : Option ℕ) (p : Option ℕ) (b : Bool) → (was_ready trace f ≡ true → IsSome p) → ((is_some o && b) || was_ready trace f) ≡ true
        → IsSome (option_or p (poll_number t o))
    by_option (Some w) None b before h = refl
    by_option (Some w) (Some i) b before h = refl
    by_option None None b before h = absurd (let no = before h in cc)
    by_option None (Some i) b before h = refl

-- ---- what every run keeps
-- g had its permits given, or is granted
abbrev pub HasPermits : Run → ℕ → Type 0
HasPermits r g = (was_ready r.trace g ≡ true) ⊎ ((x : Future) × (get r.hall.futures g ≡ Some x) × (x.stage ≡ Granted))

-- one that was polled and has no permits: it waits, or is cut
abbrev pub lags : FutureStage → Bool
lags New = false
lags (Waiting w) = true
lags Granted = false
lags Cut = true

pub record Ordered (r : Run) : Type 0 where
  pub asks : (f : ℕ) (x : Future) → get r.hall.futures f ≡ Some x → asked r.trace f ≡ Some (x.semaphore, x.demand)
  pub unpolled : (f : ℕ) (x : Future) → get r.hall.futures f ≡ Some x → x.stage ≡ New → first_poll r.trace f ≡ None
  pub polled : (f : ℕ) (x : Future) → get r.hall.futures f ≡ Some x → (x.stage ≡ New → ⊥) → IsSome (first_poll r.trace f)
  pub waker : (f w : ℕ) (x : Future) → get r.hall.futures f ≡ Some x → x.stage ≡ Waiting w → last_waker semaphores r.trace f ≡ Some w
  pub gone : (f : ℕ) → IsSome (first_poll r.trace f) → get r.hall.futures f ≡ None → (was_ready r.trace f ≡ true) ⊎ ((was_ended r.trace f ≡ true) ⊎ (was_refused r.trace f ≡ true))
  pub names : (f : ℕ) → IsSome (first_poll r.trace f) → f < r.next
  pub early : (f i : ℕ) → first_poll r.trace f ≡ Some i → i < r.next
  pub ranked : (s : ℕ) → AreRanked (rank r.trace) (everyone (queue_at r.hall s))
  -- who waits or is cut was first polled after each of the same semaphore that has its permits
  pub late : (g s n : ℕ) → asked r.trace g ≡ Some (s, n) → 0 < n → HasPermits r g → (f : ℕ) (x : Future) → get r.hall.futures f ≡ Some x → x.semaphore ≡ s
      → lags x.stage ≡ true → rank r.trace g < rank r.trace f
  -- so was who was refused, and its semaphore is closed
  pub late_refused : (g s n : ℕ) → asked r.trace g ≡ Some (s, n) → 0 < n → HasPermits r g → (f m : ℕ) → (g ≡ f → ⊥) → asked r.trace f ≡ Some (s, m)
      → was_refused r.trace f ≡ true → rank r.trace g < rank r.trace f
  pub shut : (f s m : ℕ) → asked r.trace f ≡ Some (s, m) → was_refused r.trace f ≡ true → is_closed r.hall s ≡ true

-- who has its permits was polled
pub permits_polled : (r : Run) → Ordered r → (g : ℕ) → HasPermits r g → IsSome (first_poll r.trace g)
permits_polled r o g (inl was) = ready_polled r.trace g was
permits_polled r o g (inr has) = o.polled g has.0 has.1 (λ new. absurd (let is = has.2 in cc))

-- who stands in a queue was polled
module _ (r : Run) (o : Ordered r) (m : IsMatched r.hall) where
  pub waits_polled : (s f : ℕ) (p : Option Future) → get r.hall.futures f ≡ p → 0 < waits_at s p → IsSome (first_poll r.trace f)
  waits_polled s f None is some = absurd (omega (arith, some))
  waits_polled s f (Some x) is some = o.polled f x is (λ new. absurd (let none = none_new (x.semaphore == s) x.stage new in omega (arith, some, none)))
    where
      none_new : (b : Bool) (t : FutureStage) → t ≡ New → cond b (one_if_waiting t) 0 ≡ 0
      none_new true New e = refl
      none_new false t e = refl
      none_new true (Waiting w) e = absurd (cc)
      none_new true Granted e = absurd (cc)
      none_new true Cut e = absurd (cc)

  pub in_queue_polled : (s f : ℕ) → among (everyone (queue_at r.hall s)) f ≡ true → IsSome (first_poll r.trace f)
  in_queue_polled s f a = waits_polled s f (get r.hall.futures f) refl (omega (arith, uncounted (queue_at r.hall s) f a, m.once s f))

-- a future of s that waits counts in the queue of s
pub waits_one : (s w : ℕ) (x : Future) (p : Option Future) → p ≡ Some x → x.semaphore ≡ s → x.stage ≡ Waiting w → waits_at s p ≡ 1
waits_one s w x p is of waits = ap (waits_at s) is ∙ ap (λ t. cond (x.semaphore == s) (one_if_waiting t) 0) waits
    ∙ on_true (x.semaphore == s) 1 (eq-eqb x.semaphore s of)

pub waits_here : (h : Hall) → IsMatched h → (s f w : ℕ) (x : Future) → get h.futures f ≡ Some x → x.semaphore ≡ s → x.stage ≡ Waiting w
    → among (everyone (queue_at h s)) f ≡ true
waits_here h m s f w x is of waits = counted (queue_at h s) f (omega (arith, m.once s f, waits_one s w x (get h.futures f) is of waits))

-- ---- a future that came to a stage, or not
pub staged_semaphore : (t : FutureStage) (b : Bool) (x : Future) → (cond b (staged t x) x).semaphore ≡ x.semaphore
staged_semaphore t true x = refl
staged_semaphore t false x = refl

pub staged_demand : (t : FutureStage) (b : Bool) (x : Future) → (cond b (staged t x) x).demand ≡ x.demand
staged_demand t true x = refl
staged_demand t false x = refl

pub not_staged : (t : FutureStage) (b : Bool) (x : Future) → ((cond b (staged t x) x).stage ≡ t → ⊥) → (b ≡ false) × ((cond b (staged t x) x).stage ≡ x.stage)
not_staged t true x undone = absurd (undone refl)
not_staged t false x undone = (refl, refl)
