-- what a receiver less makes of the shutdown of a service, and what is seen of it
use Rattle.std.proofs.Common.{◌≡◌, ℕ, zero, suc, ◌+◌, ◌-◌, ◌<◌, ◌==◌, ◌&&◌, ◌++◌, Bool, true, false, cond, List, [], ◌∷◌, Option, None, option_to_list, refl, ap, sym, subst, ◌∙◌, arith, append-nil}
use Rattle.std.specs.FinMap.{empty, insert, len, len-empty, get-empty}
use Rattle.std.specs.Ordering.{nat_cmp}
use Rattle.std.proofs.lemmas.Bool.{ne_eqb}
use Rattle.std.proofs.lemmas.Bool.Decides.{nat_tests}
use Rattle.mea_sets.specs.declared.place.Place.{Place}
use Rattle.mea_sets.specs.WaitSet.{Registered, has_given, drained}
use Rattle.mea_sets.specs.Countdown.{Count, count_from, ends, decreased}
use Rattle.mea_sets.proofs.WaitSets.{given_stays}
use Rattle.mea_sets.specs.WaitSet.{Stays, Drains}
use Rattle.mea_meet_core.specs.Shutdown.{Shutdown, signalled, without_receivers, without_receiver}
use Rattle.mea_by_name.proofs.Own.{len-new}
use Rattle.mea_job_core.specs.Work.{Submission, Work, new_work, halted}
use Rattle.mea_job_core.specs.Service.{first_waker, Service, is_over, told}
use Rattle.mea_job_core.specs.Parts.{HasOne, IsOnly, IsShut}

module _ {W : Type 0} where
  -- ---- some receivers less, and one
  ends_not : (c : Count W) (n : ℕ) → n < c.number → ends c n ≡ false
  ends_not c n more = grind (arith, nat_tests)

  ends_now : (c : Count W) → c.number ≡ 1 → ends c 1 ≡ true
  ends_now c one = grind (arith, nat_tests)

  pub less_many : (s : Shutdown W) (n : ℕ) → n < s.receivers.number → without_receivers s n ≡ record s { receivers = record s.receivers { number = s.receivers.number - n } }
  less_many s n more =
      let not = ends_not s.receivers n more in
      (λ i. record s {
        receivers = record { number = s.receivers.number - n; waiting = cond (not i) (drained s.receivers.waiting) s.receivers.waiting };
        wakes = s.wakes ++ cond (not i) s.receivers.waiting.wakers [];
      }) ∙ (λ i. record s { receivers = record s.receivers { number = s.receivers.number - n }; wakes = append-nil s.wakes i })

  pub less_one : (s : Shutdown W) → 1 < s.receivers.number → without_receiver s ≡ record s { receivers = record s.receivers { number = s.receivers.number - 1 } }
  less_one s more = less_many s 1 more

  pub last_one : (s : Shutdown W) → s.receivers.number ≡ 1
      → without_receiver s ≡ record s { receivers = record { number = s.receivers.number - 1; waiting = drained s.receivers.waiting }; wakes = s.wakes ++ s.receivers.waiting.wakers }
  last_one s one =
      let now = ends_now s.receivers one in
      λ i. record s {
        receivers = record { number = s.receivers.number - 1; waiting = cond (now i) (drained s.receivers.waiting) s.receivers.waiting };
        wakes = s.wakes ++ cond (now i) s.receivers.waiting.wakers [];
      }

  one_list : (s : Registered W) (ws : List W) (place : Option Place) → HasOne s ws place → ws ≡ option_to_list (first_waker ws)
  one_list s [] place has = refl
  one_list s (w ∷ []) place has = refl
  one_list s (w ∷ v ∷ ws) place has = absurd has

  drained_only : (s : Registered W) (place : Option Place) → has_given s place ≡ true → IsOnly (drained s) place
  drained_only s place given = record { given = given_stays s (drained s) (Drains s s (Stays s)) place given; one = tt }

  module _ (s : Shutdown W) (place : Option Place) (w w' : Work) (shut : IsShut s w) (only : IsOnly s.receivers.waiting place) (same : w'.stopped ≡ w.stopped)
      (fewer : len w'.queued + len w'.running + 1 ≡ len w.queued + len w.running) where
    pub some_receiver : 0 < s.receivers.number
    some_receiver = omega (arith, shut.receivers, fewer)

    now : s.receivers.number - 1 ≡ cond w'.stopped 0 1 + len w'.queued + len w'.running
    now = (let stopped : ◌≡◌ {A = ℕ} (cond w'.stopped 0 1) (cond w.stopped 0 1) = ap (λ b. cond b 0 1) same in omega (arith, stopped, shut.receivers, fewer))

    signal : s.signal.number ≡ cond w'.stopped 0 1
    signal = shut.signal ∙ ap (λ b. cond b 0 1) (sym same)

    pub shut_less : IsShut (without_receiver s) w' × IsOnly (without_receiver s).receivers.waiting place
    shut_less = by_number s.receivers.number refl
      where
        by_number : (n : ℕ) → s.receivers.number ≡ n → IsShut (without_receiver s) w' × IsOnly (without_receiver s).receivers.waiting place
        by_number zero none = absurd (omega (arith, some_receiver, none))
        by_number (suc zero) one = subst (λ (t : Shutdown W). IsShut t w' × IsOnly t.receivers.waiting place) (sym (last_one s (omega (arith, one))))
            (record { signal = signal; nobody = shut.nobody; receivers = now; over = λ _. refl }, drained_only s.receivers.waiting place only.given)
        by_number (suc (suc n)) more = subst (λ (t : Shutdown W). IsShut t w' × IsOnly t.receivers.waiting place) (sym (less_one s (omega (arith, more))))
            (record { signal = signal; nobody = shut.nobody; receivers = now; over = λ zero. absurd (omega (arith, more, zero)) }, only)

    -- where no job is left the waker is ready
    pub seen_less : (t : Service W) → t.work ≡ w' → t.waker ≡ first_waker s.receivers.waiting.wakers → t.wakes ≡ s.wakes → (w'.stopped ≡ true → len w'.queued ≡ 0)
        → record t { waker = first_waker (without_receiver s).receivers.waiting.wakers; wakes = (without_receiver s).wakes } ≡ told t
    seen_less t work waker wakes halted = by_number s.receivers.number refl
      where
        seen : Shutdown W → Service W
        seen u = record t { waker = first_waker u.receivers.waiting.wakers; wakes = u.wakes }

        by_over : (b : Bool) → is_over t ≡ b → told t ≡ cond b (record t { waker = None; wakes = t.wakes ++ option_to_list t.waker }) t
        by_over b is = ap (λ c. cond c (record t { waker = None; wakes = t.wakes ++ option_to_list t.waker }) t) is

        over_as : is_over t ≡ (w'.stopped && (len w'.running == 0))
        over_as = ap (λ (v : Work). v.stopped && (len v.running == 0)) work

        ended : (b : Bool) (r : ℕ) → w'.stopped ≡ b → len w'.running ≡ r → s.receivers.number ≡ 1 → (b && (r == 0)) ≡ true
        ended false r is running one = absurd (let stopped : ◌≡◌ {A = ℕ} (cond w'.stopped 0 1) 1 = ap (λ c. cond c 0 1) is in omega (arith, now, stopped, one))
        ended true zero is running one = refl
        ended true (suc r) is running one = absurd (omega (arith, now, running, one))

        going : (b : Bool) (r : ℕ) → w'.stopped ≡ b → len w'.running ≡ r → 1 < s.receivers.number → (b && (r == 0)) ≡ false
        going false r is running more = refl
        going true zero is running more = absurd (let stopped : ◌≡◌ {A = ℕ} (cond w'.stopped 0 1) 0 = ap (λ c. cond c 0 1) is in omega (arith, now, stopped, running, halted is, more))
        going true (suc r) is running more = ne_eqb (suc r) 0 (λ zero. absurd (omega (arith, zero)))

        by_number : (n : ℕ) → s.receivers.number ≡ n → seen (without_receiver s) ≡ told t
        by_number zero none = absurd (omega (arith, some_receiver, none))
        by_number (suc zero) one =
            ap seen (last_one s (omega (arith, one)))
            ∙ (λ i. record t { waker = None; wakes = (sym (ap (λ ws. ws ++ s.receivers.waiting.wakers) wakes) ∙ sym (ap (λ ws. t.wakes ++ ws) (ap option_to_list waker ∙ sym (one_list s.receivers.waiting s.receivers.waiting.wakers place only.one)))) i })
            ∙ sym (by_over true (over_as ∙ ended w'.stopped (len w'.running) refl refl (omega (arith, one))))
        by_number (suc (suc n)) more =
            ap seen (less_one s (omega (arith, more))) ∙ (λ i. record t { waker = sym waker i; wakes = sym wakes i })
            ∙ sym (by_over false (over_as ∙ going w'.stopped (len w'.running) refl refl (omega (arith, more))))

-- ---- a new service
pub shut_new : {W : Type 0} (s : Shutdown W) (w : Work) (p : ℕ) → s ≡ record { signal = count_from 1; receivers = count_from 1; wakes = [] } → w ≡ new_work p → IsShut s w
shut_new {W} s w p is new =
    subst (λ (t : Shutdown W). IsShut t w) (sym is) (subst (λ v. IsShut {W = W} (record { signal = count_from 1; receivers = count_from 1; wakes = [] }) v) (sym new) (record {
      signal = refl;
      nobody = refl;
      receivers = omega (arith, len-empty nat_cmp Submission, len-empty nat_cmp ℕ);
      over = λ none. absurd (omega (arith, none));
    }))

pub only_new : {W : Type 0} (s : Shutdown W) (place : Option Place) → s ≡ record { signal = count_from 1; receivers = count_from 1; wakes = [] } → place ≡ None → IsOnly s.receivers.waiting place
only_new {W} s place is none = subst (λ (t : Shutdown W). IsOnly t.receivers.waiting place) (sym is) (subst (λ p. IsOnly {W = W} (record { wakers = []; drains = 0 }) p) (sym none) (record { given = refl; one = tt }))

-- ---- the stop
module _ {W : Type 0} (s u1 u2 u3 : Shutdown W) (place : Option Place) (w w' : Work) (n : ℕ) (shut : IsShut s w) (only : IsOnly s.receivers.waiting place) (still : w.stopped ≡ false) (did : w' ≡ halted w)
    (first : u1 ≡ signalled s) (many : n ≡ len w.queued) (less : u2 ≡ record u1 { receivers = record u1.receivers { number = u1.receivers.number - n } }) (last : u3 ≡ without_receiver u2) where
  receivers_now : u2.receivers ≡ record s.receivers { number = s.receivers.number - n }
  receivers_now = ap (λ (t : Shutdown W). t.receivers) less ∙ ap (λ (t : Shutdown W). record t.receivers { number = t.receivers.number - n }) first

  signal_now : u2.signal ≡ decreased s.signal 1
  signal_now = ap (λ (t : Shutdown W). t.signal) less ∙ ap (λ (t : Shutdown W). t.signal) first

  -- with one job that is queued, for the receiver of the service itself
  abbrev one_more : Work
  one_more = record (halted w) { queued = insert empty 0 (record { key = 0; value = 0 }) }

  one_queued : len one_more.queued ≡ 1
  one_queued = len-new empty 0 (record { key = 0; value = 0 }) (get-empty nat_cmp 0) ∙ ap (λ k. k + 1) (len-empty nat_cmp Submission)

  before : IsShut u2 one_more
  before = record {
    signal = (let now = ap (λ (c : Count W). c.number) signal_now in let stopped : ◌≡◌ {A = ℕ} (cond w.stopped 0 1) 1 = ap (λ b. cond b 0 1) still in omega (arith, now, shut.signal, stopped));
    nobody = ap (λ (c : Count W). c.waiting.wakers) signal_now ∙ none (ends s.signal 1);
    receivers = (let now = ap (λ (c : Count W). c.number) receivers_now in let stopped : ◌≡◌ {A = ℕ} (cond w.stopped 0 1) 1 = ap (λ b. cond b 0 1) still in omega (arith, now, shut.receivers, many, stopped, one_queued));
    over = λ zero. absurd (let now = ap (λ (c : Count W). c.number) receivers_now in let stopped : ◌≡◌ {A = ℕ} (cond w.stopped 0 1) 1 = ap (λ b. cond b 0 1) still in omega (arith, zero, now, shut.receivers, many, stopped));
  }
    where
      none : (b : Bool) → (cond b (drained s.signal.waiting) s.signal.waiting).wakers ≡ []
      none true = refl
      none false = shut.nobody

  only_before : IsOnly u2.receivers.waiting place
  only_before = subst (λ (c : Count W). IsOnly c.waiting place) (sym receivers_now) only

  pub stop_shut : IsShut u3 w' × IsOnly u3.receivers.waiting place
  stop_shut = subst (λ (t : Shutdown W). IsShut t w' × IsOnly t.receivers.waiting place) (sym last)
      (shut_less u2 place one_more w' before only_before (ap (λ (v : Work). v.stopped) did)
      (let queued = ap (λ (v : Work). len v.queued) did in let running = ap (λ (v : Work). len v.running) did in omega (arith, queued, running, one_queued, len-empty nat_cmp Submission)))
