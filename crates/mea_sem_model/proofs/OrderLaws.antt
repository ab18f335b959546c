-- the laws of the order of grants
use Rattle.std.proofs.Common.{◌≡◌, ℕ, ◌+◌, ◌-◌, ◌<◌, ◌≤◌, ◌==◌, ◌&&◌, ◌||◌, not, get_or, ◌⊎◌, inl, inr, Bool, true, false, cond, List, [], ◌∷◌, map, Option, Some, None, refl, ap, sym, subst, ◌∙◌, arith, unwrap_or, if◌then◌else◌, nat_le, zero, suc}
use Rattle.std.specs.List.{Contains}
use Rattle.std.specs.Option.{IsSome}
use Rattle.std.specs.FinMap.{get}
use Rattle.std.proofs.lemmas.Bool.{eqb-true, eq-eqb, lt-leb}
use Rattle.std.proofs.lemmas.List.Elements.{Contains-append_cases, Contains-append_left, Contains-append_right, Contains-push}
use Rattle.mea_family.specs.Family.{told, goes_on, Starts, Goes, last_waker}
use Rattle.mea_family.specs.declared.answer.Answer.TheVariants as answers
use Rattle.mea_base.proofs.Maps.{inside, value_in, is_there, nothing_at}
use Rattle.mea_base.proofs.Tests.{by_name}
use Rattle.mea_events.specs.declared.sem_event.SemEvent.{SemEvent}
use Rattle.mea_events.specs.declared.sem_event.SemEvent.TheVariants as events
use Rattle.mea_sem_model.specs.Hall.{Hall, Future, FutureStage, New, Waiting, Granted, Cut, Who, Waiter, Debt, semaphore_at, queue_at, is_closed, free, staged, owed, with_semaphore, everyone}
use Rattle.mea_sem_model.specs.Cause.{cause_of}
use Rattle.mea_sem_model.specs.Step.{quietly, with_permit, taking, poll_at, poll_of, offers, try_of, try_and_forget, step}
use Rattle.mea_sem_model.specs.Runs.{ToldSemEvent, Run, IsSemRun, semaphores, waker_in, waker_at, waker_kept}
use Rattle.mea_sem_model.specs.Order.{asked, first_poll, was_ready, was_ended, reply_to_poll, HasGot, GrantsInOrder, IsPolledBefore, IsPolledBeforeAll, AreInOrder, IsSettled, Settles, WakesInOrder, IsNotOvertaken, LetsNobodyPast}
use Rattle.mea_sem_model.proofs.HallLemmas.{among}
use Rattle.mea_sem_model.proofs.Keeps.{no_queue, below_later}
use Rattle.mea_sem_model.proofs.Balanced as balance
use Rattle.mea_sem_model.proofs.LostWakes.{polls_living}
use Rattle.mea_sem_model.proofs.Lives.{polls_or_not}
use Rattle.mea_sem_model.proofs.Ranks.{AreRanked, AreAfter, ranked_front, among_here, among_later}
use Rattle.mea_sem_model.proofs.Granting.{futures_in, Granting, grants}
use Rattle.mea_sem_model.proofs.OrderKept.{rank, was_refused, lags, HasPermits, Ordered, waits_here}
use Rattle.mea_sem_model.proofs.OrderQuiet.{quiet_ordered}
use Rattle.mea_sem_model.proofs.OrderPolls.{PollGives, Readied, Refused, Pended, gives_poll, poll_ordered}

-- ---- every run keeps the order
-- who is polled is there
polled_there : (h : Hall) (g w : ℕ) → cause_of h (events.Poll g w) ≡ None → (x : Future) × (get h.futures g ≡ Some x)
polled_there h g w cause = value_in (get h.futures g) (polls_living h (events.Poll g w) cause g w (ap (λ b. cond b (Some w) None) (eq-eqb g g refl)))

pub ordered : (r : Run) → IsSemRun r → Ordered r
ordered _ Starts = record {
  asks = λ f x is. absurd (nothing_at Future f x is);
  unpolled = λ f x is new. refl;
  polled = λ f x is old. absurd (nothing_at Future f x is);
  waker = λ f w x is waits. absurd (nothing_at Future f x is);
  gone = λ f some none. absurd (cc);
  names = λ f some. absurd (cc);
  early = λ f i is. absurd (cc);
  ranked = λ s. subst (λ q. AreRanked (rank []) (everyone q)) (sym (no_queue s)) tt;
  late = λ g s n asks. absurd (cc);
  late_refused = λ g s n asks. absurd (cc);
  shut = λ f s m asks. absurd (cc);
}
ordered _ (Goes r i e runs later cause) = elim (polls_or_not e) [
  | inl poll ↦ subst (λ d. cause_of r.hall d ≡ None → Ordered (goes_on semaphores r i d)) (sym poll.2)
      (λ allowed. let x = polled_there r.hall poll.0 poll.1 allowed in
      poll_ordered r i poll.0 poll.1 x.0 x.1 (ordered r runs) runs later allowed) cause
  | inr quiet ↦ quiet_ordered r i e (ordered r runs) runs later cause quiet
]

-- ---- what a poll replies
-- of a future that is there
reply_is : (h : Hall) (i f w : ℕ) (x : Future) (t : FutureStage) → get h.futures f ≡ Some x → x.stage ≡ t → reply_to_poll h i f w ≡ (poll_at h i f w x t).reply
reply_is h i f w x t is stage = ap (λ o. (poll_of h i f w o).reply) is ∙ ap (λ s. (poll_at h i f w x s).reply) stage

reply_none : (h : Hall) (i f w : ℕ) → get h.futures f ≡ None → reply_to_poll h i f w ≡ answers.Done
reply_none h i f w is = ap (λ o. (poll_of h i f w o).reply) is

-- ---- the order of grants
-- who was polled, and would be ready now, has its permits
got_permits : (r : Run) → Ordered r → (g v j : ℕ) → first_poll r.trace g ≡ Some j → HasGot r g v → HasPermits r g
got_permits r o g v j first (inl was) = inl was
got_permits r o g v j first (inr ready) = by_option (get r.hall.futures g) refl
  where
    by_stage : (x : Future) → get r.hall.futures g ≡ Some x → (t : FutureStage) → x.stage ≡ t → HasPermits r g
    by_stage x is New e = absurd (let none = o.unpolled g x is e in cc)
    by_stage x is (Waiting w) e = absurd (let pending = reply_is r.hall r.next g v x (Waiting w) is e in cc)
    by_stage x is Granted e = inr (x, is, e)
    by_stage x is Cut e = absurd (let refused = reply_is r.hall r.next g v x Cut is e in cc)

    by_option : (p : Option Future) → get r.hall.futures g ≡ p → HasPermits r g
    by_option None is = absurd (let none = reply_none r.hall r.next g v is in cc)
    by_option (Some x) is = by_stage x is x.stage refl

pub in_order : (r : Run) → IsSemRun r → GrantsInOrder r
in_order r runs s m n f g i j v w asks_f asks_g some first_f first_g less got = by_option (get r.hall.futures f) refl
  where
    o : Ordered r
    o = ordered r runs

    rank_f : rank r.trace f ≡ i
    rank_f = ap (λ p. unwrap_or p 0) first_f

    rank_g : rank r.trace g ≡ j
    rank_g = ap (λ p. unwrap_or p 0) first_g

    has : HasPermits r g
    has = got_permits r o g v j first_g got

    behind : (x : Future) → get r.hall.futures f ≡ Some x → lags x.stage ≡ true → HasGot r f w ⊎ (was_ended r.trace f ≡ true)
    behind x is lag =
        let mine : ◌≡◌ {A = Option (ℕ × ℕ)} (Some (x.semaphore, x.demand)) (Some (s, m)) = sym (o.asks f x is) ∙ asks_f in
        let late : rank r.trace g < rank r.trace f = o.late g s n asks_g some has f x is (ap (λ (p : ℕ × ℕ). p.0) (inside mine)) lag in
        absurd (omega (arith, less, late, rank_f, rank_g))

    refused : was_refused r.trace f ≡ true → HasGot r f w ⊎ (was_ended r.trace f ≡ true)
    refused was =
        let late : rank r.trace g < rank r.trace f =
        o.late_refused g s n asks_g some has f m (λ same. absurd (let ranks = ap (rank r.trace) same in omega (arith, less, ranks, rank_f, rank_g))) asks_f was in
        absurd (omega (arith, less, late, rank_f, rank_g))

    by_stage : (x : Future) → get r.hall.futures f ≡ Some x → (t : FutureStage) → x.stage ≡ t → HasGot r f w ⊎ (was_ended r.trace f ≡ true)
    by_stage x is New e = absurd (let none = o.unpolled f x is e in cc)
    by_stage x is (Waiting u) e = behind x is (ap lags e)
    by_stage x is Cut e = behind x is (ap lags e)
    by_stage x is Granted e = inl (inr (reply_is r.hall r.next f w x Granted is e))

    by_case : (was_ready r.trace f ≡ true) ⊎ ((was_ended r.trace f ≡ true) ⊎ (was_refused r.trace f ≡ true)) → HasGot r f w ⊎ (was_ended r.trace f ≡ true)
    by_case (inl was) = inl (inl was)
    by_case (inr (inl was)) = inr was
    by_case (inr (inr was)) = refused was

    by_option : (p : Option Future) → get r.hall.futures f ≡ p → HasGot r f w ⊎ (was_ended r.trace f ≡ true)
    by_option None is = by_case (o.gone f (is_there (first_poll r.trace f) i first_f) is)
    by_option (Some x) is = by_stage x is x.stage refl

-- ---- whom an event grants
contains_among : (ws : List Who) (f : ℕ) → Contains (futures_in ws) f → among ws f ≡ true
contains_among [] f has = absurd (let less = has.1 in omega (arith, less))
contains_among (Waiter g ∷ ws) f has = elim (Contains-append_cases (g ∷ []) (futures_in ws) f has) [
  | inl head ↦ elim (Contains-append_cases [] (g ∷ []) f head) [
    | inl none ↦ absurd (let less = none.1 in omega (arith, less))
    | inr here ↦ ap (λ b. b || among ws f) (eq-eqb g f (only here))
  ]
  | inr tail ↦ later (g == f) (contains_among ws f tail)
]
  where
    only : Contains (g ∷ []) f → g ≡ f
    only at = one at.0 at.1 at.2
      where
        one : (k : ℕ) → k < 1 → get_or (g ∷ []) k f ≡ f → g ≡ f
        one zero less is = is
        one (suc k) less is = absurd (omega (arith, less))

    later : (b : Bool) → among ws f ≡ true → (b || among ws f) ≡ true
    later true a = refl
    later false a = a
contains_among (Debt ∷ ws) f has = contains_among ws f has

among_contains : (ws : List Who) (f : ℕ) → among ws f ≡ true → Contains (futures_in ws) f
among_contains [] f a = absurd (cc)
among_contains (Waiter g ∷ ws) f a = elim (g == f) as (λ b. (g == f) ≡ b → (b || among ws f) ≡ true → Contains (g ∷ futures_in ws) f) [
  | true ↦ λ e t. subst (λ k. Contains (g ∷ futures_in ws) k) (eqb-true g f e) (Contains-append_left (g ∷ []) (futures_in ws) g (Contains-push [] g))
  | false ↦ λ e t. Contains-append_right (g ∷ []) (futures_in ws) f (among_contains ws f t)
] refl a
among_contains (Debt ∷ ws) f a = among_contains ws f a

-- ranks are the numbers of first polls
polled_before : (trace : List ToldSemEvent) (f g : ℕ) → IsSome (first_poll trace f) → IsSome (first_poll trace g) → rank trace f < rank trace g
    → IsPolledBefore trace f g
polled_before trace f g a b less =
    let i = value_in (first_poll trace f) a in
    let j = value_in (first_poll trace g) b in
    let rank_f : rank trace f ≡ i.0 = ap (λ p. unwrap_or p 0) i.1 in
    let rank_g : rank trace g ≡ j.0 = ap (λ p. unwrap_or p 0) j.1 in
    (i.0, j.0, i.1, j.1, omega (arith, less, rank_f, rank_g))

before_all : (trace : List ToldSemEvent) (f : ℕ) (ws : List Who) → IsSome (first_poll trace f) → ((g : ℕ) → among ws g ≡ true → IsSome (first_poll trace g))
    → AreAfter (rank trace) (rank trace f) ws → IsPolledBeforeAll trace f (futures_in ws)
before_all trace f [] a polled after = tt
before_all trace f (Waiter g ∷ ws) a polled after = (
  polled_before trace f g a (polled g (among_here g ws)) after.0,
  before_all trace f ws a (λ k b. polled k (among_later g k ws b)) after.1,
)
before_all trace f (Debt ∷ ws) a polled after = before_all trace f ws a polled after

ranked_in_order : (trace : List ToldSemEvent) (ws : List Who) → ((g : ℕ) → among ws g ≡ true → IsSome (first_poll trace g)) → AreRanked (rank trace) ws
    → AreInOrder trace (futures_in ws)
ranked_in_order trace [] polled ranked = tt
ranked_in_order trace (Waiter f ∷ ws) polled ranked = (
  before_all trace f ws (polled f (among_here f ws)) (λ k b. polled k (among_later f k ws b)) ranked.0,
  ranked_in_order trace ws (λ k b. polled k (among_later f k ws b)) ranked.1,
)
ranked_in_order trace (Debt ∷ ws) polled ranked = ranked_in_order trace ws polled ranked

map_alike : {B : Type 0} (a b : ℕ → B) (ws : List Who) → ((f : ℕ) → among ws f ≡ true → a f ≡ b f) → map a (futures_in ws) ≡ map b (futures_in ws)
map_alike a b [] same = refl
map_alike a b (Waiter f ∷ ws) same = ap (λ x. x ∷ map a (futures_in ws)) (same f (among_here f ws))
    ∙ ap (λ xs. b f ∷ xs) (map_alike a b ws (λ k t. same k (among_later f k ws t)))
map_alike a b (Debt ∷ ws) same = map_alike a b ws same

-- who waited before an event and is as it was is not settled
not_settled : (r : Run) → Ordered r → (h : Hall) (i k f v w : ℕ) → IsSome (first_poll r.trace f) → get h.futures f ≡ get r.hall.futures f
    → reply_to_poll r.hall i f v ≡ answers.Pending
    → (reply_to_poll h k f w ≡ answers.Ready) ⊎ (reply_to_poll h k f w ≡ answers.Gone) → ⊥
not_settled r o h i k f v w polled same waited replies = by_option (get r.hall.futures f) refl
  where
    not_pending : reply_to_poll h k f w ≡ answers.Pending → ⊥
    not_pending pending = elim replies [ inl ready ↦ absurd (cc) | inr gone ↦ absurd (cc) ]

    by_stage : (x : Future) → get r.hall.futures f ≡ Some x → (t : FutureStage) → x.stage ≡ t → ⊥
    by_stage x is New e = let none = o.unpolled f x is e in cc
    by_stage x is (Waiting u) e = not_pending (reply_is h k f w x (Waiting u) (same ∙ is) e)
    by_stage x is Granted e = let done = reply_is r.hall i f v x Granted is e in cc
    by_stage x is Cut e = let cut = reply_is r.hall i f v x Cut is e in cc

    by_option : (p : Option Future) → get r.hall.futures f ≡ p → ⊥
    by_option None is = let none = reply_none r.hall i f v is in cc
    by_option (Some x) is = by_stage x is x.stage refl

-- who is not there is not settled
none_settled : (h : Hall) (k f w : ℕ) → get h.futures f ≡ None → (reply_to_poll h k f w ≡ answers.Ready) ⊎ (reply_to_poll h k f w ≡ answers.Gone) → ⊥
none_settled h k f w is replies = let none = reply_none h k f w is in elim replies [ inl ready ↦ absurd (cc) | inr gone ↦ absurd (cc) ]

module _ (r : Run) (i : ℕ) (e : SemEvent) (runs : IsSemRun r) (later : r.next ≤ i) (cause : cause_of r.hall e ≡ None) where
  o : Ordered r
  o = ordered r runs

  kept : balance.Kept r
  kept = balance.kept r runs

  abbrev next : Run
  next = goes_on semaphores r i e

  abbrev t : ToldSemEvent
  t = told semaphores r i e

  quiet_settles : ((f : ℕ) → waker_in e f ≡ None) → Settles next t r.trace
  quiet_settles quiet = record {
    futures = futures_in given.who;
    settled = λ f v w has. is_settled f v w (contains_among given.who f has);
    all = λ f v w done. among_contains given.who f (by_each f v w done (get next.hall.futures f) refl);
    order = ranked_in_order r.trace given.who (λ f a. polled f a) (ranked_front (rank r.trace) given.who _ (given.order (rank r.trace) o.ranked));
    wakes = given.wakes ∙ map_alike (λ f. waker_kept (get r.hall.futures f)) (λ f. last_waker semaphores r.trace f) given.who (λ f a.
        let x = given.got f a in ap waker_kept x.2 ∙ ap waker_at x.4 ∙ sym (o.waker f x.1 x.0 x.2 x.4));
    paid_off = λ f s n w has asks ready.
        let a = contains_among given.who f has in
        subst (λ q. owed next.hall q ≡ 0) (of_is f s n a asks) (given.debts (is_granted f w a ready given.kind) f a);
    closed = λ f s n w has asks gone.
        let a = contains_among given.who f has in
        is_closing f w a gone given.kind ∙ ap events.Close (of_is f s n a asks);
  }
    where
      given : Granting r.hall (step r.hall i e) i e
      given = grants r.hall i kept.matched kept.orderly (below_later r.hall r.next i later kept.below) e cause quiet

      polled : (f : ℕ) → among given.who f ≡ true → IsSome (first_poll r.trace f)
      polled f a = let x = given.got f a in o.polled f x.0 x.2 (λ new. absurd (let waits = x.4 in cc))

      of_is : (f s n : ℕ) → among given.who f ≡ true → asked r.trace f ≡ Some (s, n) → given.of ≡ s
      of_is f s n a asks =
          let x = given.got f a in
          let mine : ◌≡◌ {A = Option (ℕ × ℕ)} (Some (x.0.semaphore, x.0.demand)) (Some (s, n)) = sym (o.asks f x.0 x.2) ∙ asks in
          sym x.3 ∙ ap (λ (p : ℕ × ℕ). p.0) (inside mine)

      -- what a poll of one of them replies now
      replies_as : (f w : ℕ) (a : among given.who f ≡ true) (u : FutureStage) → given.stage ≡ u → reply_to_poll next.hall next.next f w ≡ (poll_at next.hall
          next.next f w (staged given.stage (given.got f a).0) u).reply
      replies_as f w a u is = let x = given.got f a in reply_is next.hall next.next f w (staged given.stage x.0) u x.5 is

      is_granted : (f w : ℕ) → among given.who f ≡ true → reply_to_poll next.hall next.next f w ≡ answers.Ready
          → (given.stage ≡ Granted) ⊎ ((given.stage ≡ Cut) × (e ≡ events.Close given.of)) → given.stage ≡ Granted
      is_granted f w a ready (inl done) = done
      is_granted f w a ready (inr cut) = absurd (let gone = replies_as f w a Cut cut.0 in cc)

      is_closing : (f w : ℕ) → among given.who f ≡ true → reply_to_poll next.hall next.next f w ≡ answers.Gone
          → (given.stage ≡ Granted) ⊎ ((given.stage ≡ Cut) × (e ≡ events.Close given.of)) → e ≡ events.Close given.of
      is_closing f w a gone (inl done) = absurd (let ready = replies_as f w a Granted done in cc)
      is_closing f w a gone (inr cut) = cut.1

      replies_now : (f w : ℕ) → among given.who f ≡ true → (given.stage ≡ Granted) ⊎ ((given.stage ≡ Cut) × (e ≡ events.Close given.of))
          → (reply_to_poll next.hall next.next f w ≡ answers.Ready) ⊎ (reply_to_poll next.hall next.next f w ≡ answers.Gone)
      replies_now f w a (inl done) = inl (replies_as f w a Granted done)
      replies_now f w a (inr cut) = inr (replies_as f w a Cut cut.0)

      is_settled : (f v w : ℕ) → among given.who f ≡ true → IsSettled next t r.trace f v w
      is_settled f v w a = let x = given.got f a in record {
        polled = polled f a;
        waited = reply_is r.hall i f v x.0 (Waiting x.1) x.2 x.4;
        replies = replies_now f w a given.kind;
      }

      by_each : (f v w : ℕ) → IsSettled next t r.trace f v w → (p : Option Future) → get next.hall.futures f ≡ p → among given.who f ≡ true
      by_each f v w done None is = absurd (none_settled next.hall next.next f w is done.replies)
      by_each f v w done (Some y) is = elim (given.each f y is) [
        | inl x ↦ by_stage x.0 x.1 (among given.who f) refl x.2
        | inr new ↦ absurd (let low = o.names f done.polled in let same = new.0 in omega (arith, low, same, later))
      ]
        where
          by_stage : (x : Future) → get r.hall.futures f ≡ Some x → (b : Bool) → among given.who f ≡ b → y ≡ cond b (staged given.stage x) x → b ≡ true
          by_stage x at true a same = refl
          by_stage x at false a same = absurd (not_settled r o next.hall i next.next f v w done.polled (is ∙ ap (λ z. Some z) same
              ∙ sym at) done.waited done.replies)

module _ (r : Run) (i g w : ℕ) (runs : IsSemRun r) (later : r.next ≤ i) (cause : cause_of r.hall (events.Poll g w) ≡ None) where
  abbrev polled_run : Run
  polled_run = goes_on semaphores r i (events.Poll g w)

  poll_settles : Settles (goes_on semaphores r i (events.Poll g w)) (told semaphores r i (events.Poll g w)) r.trace
  poll_settles = record {
    futures = [];
    settled = λ f v u has. absurd (let less = has.1 in omega (arith, less));
    all = λ f v u done. absurd (nobody f v u done);
    order = tt;
    wakes = ap (λ ws. map (λ w. Some w) ws) gives.quiet;
    paid_off = λ f s n u has. absurd (let less = has.1 in omega (arith, less));
    closed = λ f s n u has. absurd (let less = has.1 in omega (arith, less));
  }
    where
      x : (z : Future) × (get r.hall.futures g ≡ Some z)
      x = polled_there r.hall g w cause

      gives : PollGives r.hall g w x.0 (step r.hall i (events.Poll g w))
      gives = gives_poll r.hall i g w x.0 x.1 (balance.kept r runs).orderly

      nobody : (f v u : ℕ) → IsSettled polled_run (told semaphores r i (events.Poll g w)) r.trace f v u → ⊥
      nobody f v u done = by_name g f (λ same. mine same gives.how)
          (λ apart. not_settled r (ordered r runs) polled_run.hall i polled_run.next f v u done.polled (gives.others f apart) done.waited done.replies)
        where
          left : g ≡ f → get polled_run.hall.futures g ≡ None → ⊥
          left same none = none_settled polled_run.hall polled_run.next f u (ap (λ k. get polled_run.hall.futures k) (sym same) ∙ none) done.replies

          mine : g ≡ f → (Readied r.hall g x.0 (step r.hall i (events.Poll g w)) ⊎ Refused r.hall g x.0 (step r.hall i (events.Poll g w)))
              ⊎ Pended r.hall g w x.0 (step r.hall i (events.Poll g w)) → ⊥
          mine same (inl (inl ready)) = left same ready.left
          mine same (inl (inr refused)) = left same refused.left
          mine same (inr pended) =
              let waits = reply_is polled_run.hall polled_run.next f u (record x.0 { stage = Waiting w }) (Waiting w)
              (ap (λ k. get polled_run.hall.futures k) (sym same) ∙ pended.there) refl in
              elim done.replies [ inl now ↦ absurd (cc) | inr now ↦ absurd (cc) ]

pub wakes_in_order : (r : Run) → IsSemRun r → WakesInOrder r
wakes_in_order _ Starts = tt
wakes_in_order _ (Goes r i e runs later cause) = elim (polls_or_not e) [
  | inl poll ↦ subst (λ d. cause_of r.hall d ≡ None → Settles (goes_on semaphores r i d) (told semaphores r i d) r.trace) (sym poll.2)
      (λ allowed. poll_settles r i poll.0 poll.1 runs later allowed) cause
  | inr quiet ↦ quiet_settles r i e runs later cause quiet
]

-- ---- who waits is not overtaken
pub nobody_past : (r : Run) → IsSemRun r → LetsNobodyPast r
nobody_past r runs s m n f w asks polled waited some = by_option (get r.hall.futures f) refl
  where
    o : Ordered r
    o = ordered r runs

    kept : balance.Kept r
    kept = balance.kept r runs

    busy : among (everyone (queue_at r.hall s)) f ≡ true → nat_le n (free r.hall s) ≡ false
    busy a = by_free (free r.hall s) refl
      where
        by_free : (k : ℕ) → free r.hall s ≡ k → nat_le n (free r.hall s) ≡ false
        by_free zero e = lt-leb n (free r.hall s) (omega (arith, some, e))
        by_free (suc k) e =
            let more : 0 < free r.hall s = omega (arith, e) in
            let idle = kept.orderly.idle s more in
            absurd (let no : among [] f ≡ true = subst (λ q. among (everyone q) f ≡ true) idle a in cc)

    refused : nat_le n (free r.hall s) ≡ false → IsNotOvertaken r s n
    refused less = record {
      plain = try_refused true;
      owned = try_refused false;
      forgetting = try_and_forget_refused;
      owned_forgetting = try_and_forget_refused;
    }
      where
        few : offers r.hall s n ≡ false
        few = by_test (not (is_closed r.hall s)) (nat_le n (free r.hall s)) less
          where
            by_test : (a b : Bool) → b ≡ false → (a && b) ≡ false
            by_test true b e = e
            by_test false b e = refl

        try_refused : (plain : Bool) → (try_of r.hall r.next s n plain).reply ≡ answers.Lacking
        try_refused plain = ap (λ b. (if b then quietly (with_permit (with_semaphore r.hall s (taking (semaphore_at r.hall s) n)) r.next
            (record { semaphore = s; size = n; plain = plain })) answers.Held else quietly r.hall answers.Lacking).reply) few

        try_and_forget_refused : (try_and_forget r.hall s n).reply ≡ answers.No
        try_and_forget_refused = ap (λ b. (if b then quietly (with_semaphore r.hall s
            (record (semaphore_at r.hall s) { free = free r.hall s - n; forgotten = (semaphore_at r.hall s).forgotten + n })) answers.Yes
            else quietly r.hall answers.No).reply) few

    by_stage : (x : Future) → get r.hall.futures f ≡ Some x → (t : FutureStage) → x.stage ≡ t → IsNotOvertaken r s n
    by_stage x is New e = absurd (let none = o.unpolled f x is e in cc)
    by_stage x is (Waiting u) e =
        let mine : ◌≡◌ {A = Option (ℕ × ℕ)} (Some (x.semaphore, x.demand)) (Some (s, m)) = sym (o.asks f x is) ∙ asks in
        refused (busy (waits_here r.hall kept.matched s f u x is (ap (λ (p : ℕ × ℕ). p.0) (inside mine)) e))
    by_stage x is Granted e = absurd (let done = reply_is r.hall r.next f w x Granted is e in cc)
    by_stage x is Cut e = absurd (let cut = reply_is r.hall r.next f w x Cut is e in cc)

    by_option : (p : Option Future) → get r.hall.futures f ≡ p → IsNotOvertaken r s n
    by_option None is = absurd (let none = reply_none r.hall r.next f w is in cc)
    by_option (Some x) is = by_stage x is x.stage refl
