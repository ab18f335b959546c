-- what a poll of the end of a service does
use Rattle.std.proofs.Common.{◌≡◌, ℕ, zero, suc, ◌<◌, ◌==◌, ◌&&◌, ◌++◌, Bool, true, false, cond, length, List, [], ◌∷◌, Option, Some, None, IsSome, Result, Ok, Err, MatchResult, nat_lt, slice_set, refl, ap, sym, subst, ◌∙◌, arith}
use Rattle.std.proofs.lemmas.Bool.{eqb-true, and_parts, and_right, ltb-true, le-ltb}
use Rattle.std.specs.FinMap.{empty, len, len-empty}
use Rattle.std.specs.Ordering.{nat_cmp}
use Rattle.mea_base.specs.declared.poll.Poll.{Poll}
use Rattle.mea_base.specs.declared.poll.Poll.TheVariants.{Pending}
use Rattle.mea_base.specs.declared.no_memory.NoMemory.{NoMemory}
use Rattle.mea_sets.specs.declared.place.Place.{Place}
use Rattle.mea_sets.specs.WaitSet.{Registered, is_registered, index_of, with_waker, slot_after}
use Rattle.mea_sets.specs.Countdown.{Count, PollsCount}
use Rattle.mea_meet_core.specs.Shutdown.{Shutdown}
use Rattle.mea_job_core.specs.Work.{Submission}
use Rattle.mea_job_core.specs.Service.{first_waker, Service, PollsEnd}
use Rattle.mea_job_core.specs.Parts.{HasOne, IsOnly, IsShut}

module _ {W : Type 0} where
  not_in_none : (s : Registered W) (place : Option Place) → s.wakers ≡ [] → is_registered s place ≡ false
  not_in_none s None none = refl
  not_in_none s (Some place) none = and_right (place.drains == s.drains) (nat_lt place.index (length s.wakers)) (ap (λ ws. nat_lt place.index (length ws)) none ∙ le-ltb place.index 0 (omega arith))

  at_first : (s : Registered W) (v : W) (place : Option Place) → s.wakers ≡ v ∷ [] → is_registered s place ≡ true → index_of place ≡ 0
  at_first s v None is there = refl
  at_first s v (Some place) is there =
      let low = ltb-true place.index (length s.wakers) (and_parts (place.drains == s.drains) (nat_lt place.index (length s.wakers)) there).1 in
      let one : length s.wakers ≡ 1 = ap length is in
      omega (arith, low, one)

  -- the waker is the one that is kept then
  pub kept_waker : (s : Registered W) (place : Option Place) (w : W) → HasOne s s.wakers place → first_waker (with_waker s place w).wakers ≡ Some w
  kept_waker s place w has = by_wakers s.wakers refl has
    where
      appended : Registered W
      appended = record s { wakers = s.wakers ++ w ∷ [] }

      replaced : Registered W
      replaced = record s { wakers = slice_set s.wakers (index_of place) w }

      by_wakers : (ws : List W) → s.wakers ≡ ws → HasOne s ws place → first_waker (with_waker s place w).wakers ≡ Some w
      by_wakers [] none one = ap (λ b. first_waker (cond b replaced appended).wakers) (not_in_none s place none) ∙ ap (λ ws. first_waker (ws ++ w ∷ [])) none
      by_wakers (v ∷ []) is one =
          ap (λ b. first_waker (cond b replaced appended).wakers) one ∙ ap (λ n. first_waker (slice_set s.wakers n w)) (at_first s v place is one) ∙ ap (λ ws. first_waker (slice_set ws 0 w)) is
      by_wakers (v ∷ u ∷ ws) is one = absurd one

  -- a waker that waits has the place of the one wait
  pub has_place : (s : Registered W) (ws : List W) (place : Option Place) → HasOne s ws place → IsSome (first_waker ws) → is_registered s place ≡ true
  has_place s [] place one some = absurd (cc)
  has_place s (v ∷ []) place one some = one
  has_place s (v ∷ u ∷ ws) place one some = absurd one

  module _ (base old : Service W) (is : base ≡ old) (s u : Shutdown W) (place place' : Option Place) (w : W) (result : Result (Poll (Unit {0})) (W × NoMemory)) (shut : IsShut s base.work)
      (only : IsOnly s.receivers.waiting place) (waker : base.waker ≡ first_waker s.receivers.waiting.wakers) (wakes : base.wakes ≡ s.wakes) (halted : base.work.stopped ≡ true → base.work.queued ≡ empty)
      (polls : PollsCount s.receivers place w result u.receivers place') (rest : u ≡ record s { receivers = u.receivers }) where
    over_number : (b : Bool) (r : ℕ) → base.work.stopped ≡ b → len base.work.running ≡ r → (b && (r == 0)) ≡ true → s.receivers.number ≡ 0
    over_number false r is running over = absurd (cc)
    over_number true zero is running over =
        let stopped : ◌≡◌ {A = ℕ} (cond base.work.stopped 0 1) 0 = ap (λ c. cond c 0 1) is in
        let none = ap len (halted is) ∙ len-empty nat_cmp Submission in
        omega (arith, shut.receivers, stopped, none, running)
    over_number true (suc r) is running over = absurd (let zero = eqb-true (suc r) 0 over in omega (arith, zero))

    going_number : (b : Bool) (r : ℕ) → base.work.stopped ≡ b → len base.work.running ≡ r → (b && (r == 0)) ≡ false → 0 < s.receivers.number
    going_number false r is running going = let stopped : ◌≡◌ {A = ℕ} (cond base.work.stopped 0 1) 1 = ap (λ c. cond c 0 1) is in omega (arith, shut.receivers, stopped)
    going_number true zero is running going = absurd (cc)
    going_number true (suc r) is running going = omega (arith, shut.receivers, running)

    abbrev new : Service W
    new = record base { waker = first_waker u.receivers.waiting.wakers; wakes = u.wakes }

    same_wakes : u.wakes ≡ base.wakes
    same_wakes = ap (λ (v : Shutdown W). v.wakes) rest ∙ sym wakes

    stays : u.receivers ≡ s.receivers → new ≡ old
    stays same = (λ i. record base { waker = (ap (λ (c : Count W). first_waker c.waiting.wakers) same ∙ sym waker) i; wakes = same_wakes i }) ∙ is

    keeps : u.receivers ≡ record s.receivers { waiting = with_waker s.receivers.waiting place w } → new ≡ record old { waker = Some w }
    keeps put =
        (λ i. record base { waker = (ap (λ (c : Count W). first_waker c.waiting.wakers) put ∙ kept_waker s.receivers.waiting place w only.one) i; wakes = same_wakes i })
        ∙ ap (λ (t : Service W). record t { waker = Some w }) is

    pub poll_seen : PollsEnd old w result new
    poll_seen = subst (λ (t : Service W). PollsEnd t w result new) is (record {
      ready = λ over. let did = polls.ready (over_number base.work.stopped (len base.work.running) refl refl over) in (did.0, stays did.1 ∙ sym is);
      pending = λ going. by_result result (polls.pending (going_number base.work.stopped (len base.work.running) refl refl going));
    })
      where
        by_result : (r : Result (Poll (Unit {0})) (W × NoMemory))
            → MatchResult r (λ turn. (turn ≡ Pending) × (u.receivers ≡ record s.receivers { waiting = with_waker s.receivers.waiting place w }) × (place' ≡ slot_after s.receivers.waiting place)) (λ e. (e.0 ≡ w) × (u.receivers ≡ s.receivers) × (place' ≡ place))
            → MatchResult r (λ poll. (poll ≡ Pending) × (new ≡ record base { waker = Some w })) (λ e. (e.0 ≡ w) × (new ≡ base))
        by_result (Ok turn) h = (h.0, keeps h.1 ∙ ap (λ (t : Service W). record t { waker = Some w }) (sym is))
        by_result (Err e) h = (h.0, stays h.1 ∙ sym is)
