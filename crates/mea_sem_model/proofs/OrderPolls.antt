-- a poll keeps that order
use Rattle.std.proofs.Common.{◌≡◌, ℕ, ◌+◌, ◌-◌, ◌<◌, ◌≤◌, ◌&&◌, ◌||◌, ◌++◌, ◌⊎◌, inl, inr, Bool, true, false, List, [], ◌∷◌, Option, Some, None, refl, ap, sym, subst, ◌∙◌, arith, is_some, unwrap_or, if◌then◌else◌, nat_le}
use Rattle.std.specs.Option.{option_or, IsSome}
use Rattle.std.specs.FinMap.{get}
use Rattle.std.proofs.lemmas.Bool.{leb-true}
use Rattle.mea_family.specs.Family.{told, goes_on, kept_waker, last_waker, last_waker_at}
use Rattle.mea_family.specs.declared.answer.Answer.TheVariants as answers
use Rattle.mea_base.proofs.Maps.{inside, value_in, is_there, get-there, get-other, get-gone, get-removed_other}
use Rattle.mea_base.proofs.Tests.{at_same, at_apart, by_name}
use Rattle.mea_events.specs.declared.sem_event.SemEvent.{SemEvent}
use Rattle.mea_events.specs.declared.sem_event.SemEvent.TheVariants as events
use Rattle.mea_sem_model.specs.Hall.{Hall, Future, FutureStage, New, Waiting, Granted, Cut, Who, Waiter, semaphore_at, queue_at, is_closed, free, with_semaphore, everyone}
use Rattle.mea_sem_model.specs.Cause.{cause_of}
use Rattle.mea_sem_model.specs.Step.{Outcome, quietly, without_future, with_permit, taking, made_ready, queueing, open_poll, refusing, poll_at, poll_of, step}
use Rattle.mea_sem_model.specs.Valid.{SuitsClosed}
use Rattle.mea_sem_model.specs.Runs.{ToldSemEvent, Run, IsSemRun, semaphores, waker_in, waker_at}
use Rattle.mea_sem_model.specs.Order.{acquire_in, asked, poll_number, first_poll, is_ready, was_ready, was_ended}
use Rattle.mea_sem_model.proofs.HallLemmas.{by_semaphore, among}
use Rattle.mea_sem_model.proofs.Orderly.{IsOrderly}
use Rattle.mea_sem_model.proofs.Keeps.{below_later}
use Rattle.mea_sem_model.proofs.Tallies.{tallies}
use Rattle.mea_sem_model.proofs.Balanced as balance
use Rattle.mea_sem_model.proofs.LostWakes.{ready_futures}
use Rattle.mea_sem_model.proofs.Ranks.{AreRanked, ranked_append, ranked_alike}
use Rattle.mea_sem_model.proofs.OrderKept.{rank, rank_stays, first_unpolled, ready_unpolled, is_gone, was_refused, refused_unpolled, refused_polled, waker_unpolled, lags, HasPermits, Ordered, permits_polled, in_queue_polled, waits_here}

-- ---- a poll
-- a poll of g, which was x, that replied `ready`
pub record Readied (h : Hall) (g : ℕ) (x : Future) (o : Outcome) : Type 0 where
  pub reply : o.reply ≡ answers.Ready
  pub left : get o.hall.futures g ≡ None
  pub queues : (s : ℕ) → queue_at o.hall s ≡ queue_at h s
  -- it was granted; or its semaphore is open, and it asks for none or nobody waited
  pub fresh : (x.stage ≡ Granted) ⊎ ((is_closed h x.semaphore ≡ false) × (0 < x.demand → queue_at h x.semaphore ≡ []))

-- a poll of g, which was x, with the waker w, that replied `pending`
pub record Pended (h : Hall) (g w : ℕ) (x : Future) (o : Outcome) : Type 0 where
  pub reply : o.reply ≡ answers.Pending
  pub there : get o.hall.futures g ≡ Some (record x { stage = Waiting w })
  pub before : (x.stage ≡ New) ⊎ ((v : ℕ) × (x.stage ≡ Waiting v))
  pub ranked : (rank : ℕ → ℕ) → ((s : ℕ) → AreRanked rank (everyone (queue_at h s)))
      → (x.stage ≡ New → (s f : ℕ) → among (everyone (queue_at h s)) f ≡ true → rank f < rank g) → (s : ℕ) → AreRanked rank (everyone (queue_at o.hall s))

-- a poll of g, which was x, that replied `gone`
pub record Refused (h : Hall) (g : ℕ) (x : Future) (o : Outcome) : Type 0 where
  pub reply : o.reply ≡ answers.Gone
  pub left : get o.hall.futures g ≡ None
  pub queues : (s : ℕ) → queue_at o.hall s ≡ queue_at h s
  pub closed : is_closed h x.semaphore ≡ true
  pub before : (x.stage ≡ New) ⊎ (x.stage ≡ Cut)

pub record PollGives (h : Hall) (g w : ℕ) (x : Future) (o : Outcome) : Type 0 where
  pub quiet : o.wakes ≡ []
  pub others : (f : ℕ) → (g ≡ f → ⊥) → get o.hall.futures f ≡ get h.futures f
  pub how : (Readied h g x o ⊎ Refused h g x o) ⊎ Pended h g w x o

ready_queues : (h : Hall) (i f : ℕ) (x : Future) (s : ℕ) → queue_at (made_ready h i f x) s ≡ queue_at h s
ready_queues h i f x s = elim x.forgets as (λ b.
    queue_at (if b then with_semaphore (without_future h f) x.semaphore
    (record (semaphore_at h x.semaphore) { forgotten = (semaphore_at h x.semaphore).forgotten + x.demand })
    else with_permit (without_future h f) i (record { semaphore = x.semaphore; size = x.demand; plain = x.plain })) s ≡ queue_at h s) [
      | true ↦ by_semaphore (without_future h f) x.semaphore
          (record (semaphore_at h x.semaphore) { forgotten = (semaphore_at h x.semaphore).forgotten + x.demand }) (λ k y. y.queue ≡ queue_at h k) refl
          (λ k apart. refl) s
      | false ↦ refl
    ]

taking_queues : (h : Hall) (q n s : ℕ) → queue_at (with_semaphore h q (taking (semaphore_at h q) n)) s ≡ queue_at h s
taking_queues h q n s = by_semaphore h q (taking (semaphore_at h q) n) (λ k y. y.queue ≡ queue_at h k) refl (λ k apart. refl) s

everyone-append : (q : List (Who × ℕ)) (f n : ℕ) → everyone (q ++ (Waiter f, n) ∷ []) ≡ everyone q ++ Waiter f ∷ []
everyone-append [] f n = refl
everyone-append (e ∷ q) f n = ap (λ ws. e.0 ∷ ws) (everyone-append q f n)

module _ (h : Hall) (i g w : ℕ) (x : Future) (is : get h.futures g ≡ Some x) (v : IsOrderly h) where
  gives_ready : (k : Hall) → k.futures ≡ h.futures → ((s : ℕ) → queue_at k s ≡ queue_at h s) → (x.stage ≡ Granted)
      ⊎ ((is_closed h x.semaphore ≡ false) × (0 < x.demand → queue_at h x.semaphore ≡ []))
      → PollGives h g w x (quietly (made_ready k i g x) answers.Ready)
  gives_ready k same queues fresh = record {
    quiet = refl;
    others = λ f apart. ap (λ m. get m f) (ready_futures k i g x) ∙ get-removed_other k.futures g f apart ∙ ap (λ m. get m f) same;
    how = inl (inl (record {
      reply = refl;
      left = ap (λ m. get m g) (ready_futures k i g x) ∙ get-gone k.futures g;
      queues = λ s. ready_queues k i g x s ∙ queues s;
      fresh = fresh;
    }));
  }

  gives_refused : is_closed h x.semaphore ≡ true → (x.stage ≡ New) ⊎ (x.stage ≡ Cut) → PollGives h g w x (refusing h g)
  gives_refused closed before = record {
    quiet = refl;
    others = λ f apart. get-removed_other h.futures g f apart;
    how = inl (inr (record { reply = refl; left = get-gone h.futures g; queues = λ s. refl; closed = closed; before = before }));
  }

  gives_queue : x.stage ≡ New → PollGives h g w x (quietly (queueing h g w x) answers.Pending)
  gives_queue new = record {
    quiet = refl;
    others = λ f apart. get-other h.futures g f (record x { stage = Waiting w }) apart;
    how = inr (record {
      reply = refl;
      there = get-there h.futures g (record x { stage = Waiting w });
      before = inl new;
      ranked = λ rank all first s. by_semaphore h x.semaphore
          (record (semaphore_at h x.semaphore) { free = 0; queue = queue_at h x.semaphore ++ (Waiter g, x.demand - free h x.semaphore) ∷ [] })
          (λ k y. AreRanked rank (everyone y.queue))
          (subst (λ ws. AreRanked rank ws) (sym (everyone-append (queue_at h x.semaphore) g (x.demand - free h x.semaphore)))
          (ranked_append rank (everyone (queue_at h x.semaphore)) g (λ f a. first new x.semaphore f a) (all x.semaphore)))
          (λ k apart. all k) s;
    });
  }

  gives_open : x.stage ≡ New → is_closed h x.semaphore ≡ false → (b : Bool) → nat_le x.demand (free h x.semaphore) ≡ b
      → PollGives h g w x (if b then quietly (made_ready (with_semaphore h x.semaphore (taking (semaphore_at h x.semaphore) x.demand)) i g x) answers.Ready
      else quietly (queueing h g w x) answers.Pending)
  gives_open new open_still true e = gives_ready (with_semaphore h x.semaphore (taking (semaphore_at h x.semaphore) x.demand)) refl (taking_queues h x.semaphore x.demand)
      (inr (open_still, λ some. v.idle x.semaphore (let enough = leb-true x.demand (free h x.semaphore) e in omega (arith, some, enough))))
  gives_open new open_still false e = gives_queue new

  gives_first : x.stage ≡ New → (b : Bool) → is_closed h x.semaphore ≡ b → PollGives h g w x (if b then refusing h g else open_poll h i g w x)
  gives_first new true e = gives_refused e (inl new)
  gives_first new false e = gives_open new e (nat_le x.demand (free h x.semaphore)) refl

  gives_at : (t : FutureStage) → x.stage ≡ t → PollGives h g w x (poll_at h i g w x t)
  gives_at New e = gives_first e (is_closed h x.semaphore) refl
  gives_at Cut e = gives_refused (subst (SuitsClosed (is_closed h x.semaphore)) e (v.closed g x is)) (inr e)
  gives_at (Waiting u) e = record {
    quiet = refl;
    others = λ f apart. get-other h.futures g f (record x { stage = Waiting w }) apart;
    how = inr (record {
      reply = refl;
      there = get-there h.futures g (record x { stage = Waiting w });
      before = inr (u, e);
      ranked = λ rank all first s. all s;
    });
  }
  gives_at Granted e = gives_ready h refl (λ s. refl) (inl e)

  pub gives_poll : PollGives h g w x (step h i (events.Poll g w))
  gives_poll = subst (λ p. PollGives h g w x (poll_of h i g w p)) (sym is) (gives_at x.stage refl)

-- who is polled has a first poll
polled_now : (t : ToldSemEvent) (trace : List ToldSemEvent) (f w : ℕ) → waker_in t.event f ≡ Some w → IsSome (first_poll (t ∷ trace) f)
polled_now t trace f w polls = ap (λ p. is_some (option_or (first_poll trace f) (poll_number t p))) polls ∙ by_option (first_poll trace f)
  where
    by_option : (p : Option ℕ) → is_some (option_or p (Some t.number)) ≡ true
    by_option None = refl
    by_option (Some k) = refl

-- the first poll is an older one, or this event
first_cases : (t : ToldSemEvent) (trace : List ToldSemEvent) (f j : ℕ) → first_poll (t ∷ trace) f ≡ Some j → (first_poll trace f ≡ Some j) ⊎ (j ≡ t.number)
first_cases t trace f j is = by_option (first_poll trace f) (waker_in t.event f) refl is
  where
    by_option : (p u : Option ℕ) → first_poll trace f ≡ p → option_or p (poll_number t u) ≡ Some j → (first_poll trace f ≡ Some j) ⊎ (j ≡ t.number)
    by_option (Some k) u at e = inl (at ∙ e)
    by_option None (Some w) at e = inr (sym (inside e))
    by_option None None at e = absurd (cc)

module _ (r : Run) (i g w : ℕ) (x : Future) (is : get r.hall.futures g ≡ Some x) (o : Ordered r) (runs : IsSemRun r) (later : r.next ≤ i)
    (cause : cause_of r.hall (events.Poll g w) ≡ None) where
  abbrev e : SemEvent
  e = events.Poll g w

  abbrev next : Run
  next = goes_on semaphores r i e

  abbrev t : ToldSemEvent
  t = told semaphores r i e

  kept : balance.Kept r
  kept = balance.kept r runs

  gives : PollGives r.hall g w x (step r.hall i e)
  gives = gives_poll r.hall i g w x is kept.orderly

  polls_g : waker_in e g ≡ Some w
  polls_g = at_same g g (Some w) None refl

  polls_no_other : (f : ℕ) → (g ≡ f → ⊥) → waker_in e f ≡ None
  polls_no_other f apart = at_apart g f (Some w) None apart

  low : g < r.next
  low = kept.below.futures g (is_there (get r.hall.futures g) x is)

  old_asked : (f : ℕ) → f < r.next → asked next.trace f ≡ asked r.trace f
  old_asked f less = at_apart i f (acquire_in e) (asked r.trace f) (λ same. absurd (omega (arith, less, later, same)))

  -- what a future was before the poll: g waits now, and others are as they were
  record Origin (f : ℕ) (y : Future) : Type 0 where
    z : Future
    at : get r.hall.futures f ≡ Some z
    of : y.semaphore ≡ z.semaphore
    wants : y.demand ≡ z.demand
    how : ((g ≡ f) × (y.stage ≡ Waiting w) × Pended r.hall g w x (step r.hall i e)) ⊎ ((g ≡ f → ⊥) × (y ≡ z))

  origin : (f : ℕ) (y : Future) → get next.hall.futures f ≡ Some y → Origin f y
  origin f y there = by_name g f (λ same. mine same (gives.how)) (λ apart. record {
    z = y;
    at = sym (gives.others f apart) ∙ there;
    of = refl;
    wants = refl;
    how = inr (apart, refl);
  })
    where
      mine : g ≡ f → (Readied r.hall g x (step r.hall i e) ⊎ Refused r.hall g x (step r.hall i e)) ⊎ Pended r.hall g w x (step r.hall i e) → Origin f y
      mine same (inl (inl ready)) = absurd (let none = ready.left in let here = ap (λ k. get next.hall.futures k) same ∙ there in cc)
      mine same (inl (inr refused)) = absurd (let none = refused.left in let here = ap (λ k. get next.hall.futures k) same ∙ there in cc)
      mine same (inr pended) =
          let now : record x { stage = Waiting w } ≡ y = inside (sym pended.there ∙ ap (λ k. get next.hall.futures k) same ∙ there) in
          record {
            z = x;
            at = ap (get r.hall.futures) (sym same) ∙ is;
            of = ap (λ (u : Future). u.semaphore) (sym now);
            wants = ap (λ (u : Future). u.demand) (sym now);
            how = inl (same, ap (λ (u : Future). u.stage) (sym now), pended);
          }

  poll_gone : (f : ℕ) → IsSome (first_poll next.trace f) → get next.hall.futures f ≡ None
      → (was_ready next.trace f ≡ true) ⊎ ((was_ended next.trace f ≡ true) ⊎ (was_refused next.trace f ≡ true))
  poll_gone f some none = by_name g f (λ same. mine same gives.how) (λ apart. other apart (old apart))
    where
      mine : g ≡ f → (Readied r.hall g x (step r.hall i e) ⊎ Refused r.hall g x (step r.hall i e)) ⊎ Pended r.hall g w x (step r.hall i e)
          → (was_ready next.trace f ≡ true) ⊎ ((was_ended next.trace f ≡ true) ⊎ (was_refused next.trace f ≡ true))
      mine same (inl (inl ready)) = inl (subst (λ k. was_ready next.trace k ≡ true) same
          (ap (λ p. (is_some p && is_ready t.reply) || was_ready r.trace g) polls_g ∙ ap (λ a. is_ready a || was_ready r.trace g) ready.reply))
      mine same (inl (inr refused)) = inr (inr (subst (λ k. was_refused next.trace k ≡ true) same
          (ap (λ p. (is_some p && is_gone t.reply) || was_refused r.trace g) polls_g ∙ ap (λ a. is_gone a || was_refused r.trace g) refused.reply)))
      mine same (inr pended) = absurd (let there = pended.there in let gone = ap (λ k. get next.hall.futures k) same ∙ none in cc)

      old : (g ≡ f → ⊥) → (was_ready r.trace f ≡ true) ⊎ ((was_ended r.trace f ≡ true) ⊎ (was_refused r.trace f ≡ true))
      old apart = o.gone f (ap is_some (sym (first_unpolled t r.trace f (polls_no_other f apart))) ∙ some) (sym (gives.others f apart) ∙ none)

      other : (g ≡ f → ⊥) → (was_ready r.trace f ≡ true) ⊎ ((was_ended r.trace f ≡ true) ⊎ (was_refused r.trace f ≡ true))
          → (was_ready next.trace f ≡ true) ⊎ ((was_ended next.trace f ≡ true) ⊎ (was_refused next.trace f ≡ true))
      other apart (inl was) = inl (ready_unpolled t r.trace f (polls_no_other f apart) ∙ was)
      other apart (inr (inl was)) = inr (inl was)
      other apart (inr (inr was)) = inr (inr (refused_unpolled t r.trace f (polls_no_other f apart) ∙ was))

  -- an old rank is below i
  rank_low : (f : ℕ) → IsSome (first_poll r.trace f) → rank r.trace f < i
  rank_low f some =
      let k = value_in (first_poll r.trace f) some in
      let at : rank r.trace f ≡ k.0 = ap (λ p. unwrap_or p 0) k.1 in
      let less = o.early f k.0 k.1 in
      omega (arith, at, less, later)

  -- the rank of g, where this is its first poll
  rank_now : x.stage ≡ New → rank next.trace g ≡ i
  rank_now new = ap (λ p. unwrap_or (option_or p (poll_number t (waker_in e g))) 0) (o.unpolled g x is new) ∙ ap (λ p. unwrap_or (poll_number t p) 0) polls_g

  stays : (f : ℕ) → IsSome (first_poll r.trace f) → rank next.trace f ≡ rank r.trace f
  stays f some = rank_stays t r.trace f some

  still_ranked : (s : ℕ) → AreRanked (rank next.trace) (everyone (queue_at r.hall s))
  still_ranked s = ranked_alike (rank r.trace) (rank next.trace) (everyone (queue_at r.hall s)) (λ f a. stays f (in_queue_polled r o kept.matched s f a)) (o.ranked s)

  as_ranked : (s : ℕ) → queue_at next.hall s ≡ queue_at r.hall s → AreRanked (rank next.trace) (everyone (queue_at next.hall s))
  as_ranked s same = subst (λ q. AreRanked (rank next.trace) (everyone q)) (sym same) (still_ranked s)

  poll_ranked : (s : ℕ) → AreRanked (rank next.trace) (everyone (queue_at next.hall s))
  poll_ranked s = by_how gives.how
    where
      by_how : (Readied r.hall g x (step r.hall i e) ⊎ Refused r.hall g x (step r.hall i e)) ⊎ Pended r.hall g w x (step r.hall i e) → AreRanked (rank next.trace) (everyone (queue_at next.hall s))
      by_how (inl (inl ready)) = as_ranked s (ready.queues s)
      by_how (inl (inr refused)) = as_ranked s (refused.queues s)
      by_how (inr pended) = pended.ranked (rank next.trace) still_ranked
          (λ new k f a. omega (arith, rank_now new, stays f (in_queue_polled r o kept.matched k f a), rank_low f (in_queue_polled r o kept.matched k f a))) s

  -- who had its permits before comes before who lags now
  after_old : (k s n : ℕ) → asked next.trace k ≡ Some (s, n) → 0 < n → HasPermits r k → (f : ℕ) (y : Future) → get next.hall.futures f ≡ Some y
      → y.semaphore ≡ s → lags y.stage ≡ true → rank next.trace k < rank next.trace f
  after_old k s n asks some had f y there of behind = by_origin u.how
    where
      u : Origin f y
      u = origin f y there

      was : IsSome (first_poll r.trace k)
      was = permits_polled r o k had

      asks_old : asked r.trace k ≡ Some (s, n)
      asks_old = sym (old_asked k (o.names k was)) ∙ asks

      by_stage : g ≡ f → (x.stage ≡ New) ⊎ ((a : ℕ) × (x.stage ≡ Waiting a)) → rank next.trace k < rank next.trace f
      by_stage same (inl new) = subst (λ j. rank next.trace k < rank next.trace j) same (omega (arith, rank_now new, stays k was, rank_low k was))
      by_stage same (inr old) =
          let z_is : x ≡ u.z = inside (sym is ∙ ap (get r.hall.futures) same ∙ u.at) in
          let less = o.late k s n asks_old some had g x is (ap (λ (z : Future). z.semaphore) z_is ∙ sym u.of ∙ of) (ap lags old.1) in
          let mine = stays g (o.polled g x is (λ new. absurd (let waited = old.1 in cc))) in
          subst (λ j. rank next.trace k < rank next.trace j) same (omega (arith, less, mine, stays k was))

      by_origin : ((g ≡ f) × (y.stage ≡ Waiting w) × Pended r.hall g w x (step r.hall i e)) ⊎ ((g ≡ f → ⊥) × (y ≡ u.z)) → rank next.trace k < rank next.trace f
      by_origin (inl mine) = by_stage mine.0 mine.2.before
      by_origin (inr other) =
          let lagged : lags u.z.stage ≡ true = ap (λ (z : Future). lags z.stage) (sym other.1) ∙ behind in
          let less = o.late k s n asks_old some had f u.z u.at (sym u.of ∙ of) lagged in
          let mine = stays f (o.polled f u.z u.at (λ new. absurd (let no : lags u.z.stage ≡ false = ap lags new in cc))) in
          omega (arith, less, mine, stays k was)

  -- what g asks for, where it is told
  own_ask : (s n : ℕ) → asked next.trace g ≡ Some (s, n) → (x.semaphore ≡ s) × (x.demand ≡ n)
  own_ask s n asks =
      let mine : ◌≡◌ {A = Option (ℕ × ℕ)} (Some (x.semaphore, x.demand)) (Some (s, n)) = sym (o.asks g x is) ∙ sym (old_asked g low) ∙ asks in
      (ap (λ (p : ℕ × ℕ). p.0) (inside mine), ap (λ (p : ℕ × ℕ). p.1) (inside mine))

  -- who is ready now comes before who lags now
  after_ready : Readied r.hall g x (step r.hall i e) → (s n : ℕ) → asked next.trace g ≡ Some (s, n) → 0 < n → (f : ℕ) (y : Future)
      → get next.hall.futures f ≡ Some y
      → y.semaphore ≡ s → lags y.stage ≡ true → rank next.trace g < rank next.trace f
  after_ready ready s n asks some f y there of behind = by_fresh ready.fresh
    where
      asks_for : (x.semaphore ≡ s) × (x.demand ≡ n)
      asks_for = own_ask s n asks

      nobody : is_closed r.hall x.semaphore ≡ false → queue_at r.hall x.semaphore ≡ [] → (z : Future) → get r.hall.futures f ≡ Some z → z.semaphore ≡ s
          → (a : FutureStage) → z.stage ≡ a → lags a ≡ true → rank next.trace g < rank next.trace f
      nobody open_still none z at here New e lag = absurd (cc)
      nobody open_still none z at here Granted e lag = absurd (cc)
      nobody open_still none z at here (Waiting v) e lag =
          let waits = waits_here r.hall kept.matched x.semaphore f v z at (here ∙ sym asks_for.0) e in
          absurd (let no : among [] f ≡ true = subst (λ q. among (everyone q) f ≡ true) none waits in cc)
      nobody open_still none z at here Cut e lag =
          let shut : is_closed r.hall z.semaphore ≡ true = subst (SuitsClosed (is_closed r.hall z.semaphore)) e (kept.orderly.closed f z at) in
          absurd (let closed : is_closed r.hall x.semaphore ≡ true = ap (is_closed r.hall) (asks_for.0 ∙ sym here) ∙ shut in cc)

      by_fresh : (x.stage ≡ Granted) ⊎ ((is_closed r.hall x.semaphore ≡ false) × (0 < x.demand → queue_at r.hall x.semaphore ≡ []))
          → rank next.trace g < rank next.trace f
      by_fresh (inl done) = after_old g s n asks some (inr (x, is, done)) f y there of behind
      by_fresh (inr idle) =
          let u = origin f y there in
          elim u.how [
            | inl same ↦ absurd (let pending = same.2.reply in let done = ready.reply in cc)
            | inr other ↦ nobody idle.0 (idle.1 (omega (arith, some, asks_for.1))) u.z u.at (sym u.of ∙ of) u.z.stage refl
                (ap (λ (z : Future). lags z.stage) (sym other.1) ∙ behind)
          ]

  -- who was ready before, where this poll of g replies otherwise
  was_before : (k : ℕ) → (is_ready t.reply ≡ false) → was_ready next.trace k ≡ true → was_ready r.trace k ≡ true
  was_before k unready was = sym (ap (λ b. (is_some (waker_in e k) && b) || was_ready r.trace k) unready ∙ nothing (is_some (waker_in e k)) (was_ready r.trace k)) ∙ was
    where
      nothing : (a b : Bool) → ((a && false) || b) ≡ b
      nothing true b = refl
      nothing false b = refl

  -- who has its permits now had them before, or is ready now
  had_or_ready : (k : ℕ) → HasPermits next k → HasPermits r k ⊎ ((g ≡ k) × Readied r.hall g x (step r.hall i e))
  had_or_ready k (inr has) =
      let u = origin k has.0 has.1 in
      elim u.how [
        | inl mine ↦ absurd (let a = mine.1 in let b = has.2 in cc)
        | inr other ↦ inl (inr (u.z, u.at, ap (λ (z : Future). z.stage) (sym other.1) ∙ has.2))
      ]
  had_or_ready k (inl was) = by_name g k (λ same. mine same gives.how)
      (λ apart. inl (inl (sym (ready_unpolled t r.trace k (polls_no_other k apart)) ∙ was)))
    where
      mine : g ≡ k → (Readied r.hall g x (step r.hall i e) ⊎ Refused r.hall g x (step r.hall i e)) ⊎ Pended r.hall g w x (step r.hall i e) → HasPermits r k ⊎ ((g ≡ k) × Readied r.hall g x (step r.hall i e))
      mine same (inl (inl ready)) = inr (same, ready)
      mine same (inl (inr refused)) = inl (inl (was_before k (ap is_ready refused.reply) was))
      mine same (inr pended) = inl (inl (was_before k (ap is_ready pended.reply) was))

  -- who was refused now was refused before, or is refused now
  refused_or_now : (f : ℕ) → was_refused next.trace f ≡ true → (was_refused r.trace f ≡ true) ⊎ ((g ≡ f) × Refused r.hall g x (step r.hall i e))
  refused_or_now f was = by_name g f (λ same. mine same gives.how) (λ apart. inl (sym (refused_unpolled t r.trace f (polls_no_other f apart)) ∙ was))
    where
      before : is_gone t.reply ≡ false → was_refused r.trace f ≡ true
      before other = sym (ap (λ b. (is_some (waker_in e f) && b) || was_refused r.trace f) other ∙ nothing (is_some (waker_in e f)) (was_refused r.trace f)) ∙ was
        where
          nothing : (a b : Bool) → ((a && false) || b) ≡ b
          nothing true b = refl
          nothing false b = refl

      mine : g ≡ f → (Readied r.hall g x (step r.hall i e) ⊎ Refused r.hall g x (step r.hall i e)) ⊎ Pended r.hall g w x (step r.hall i e) → (was_refused r.trace f ≡ true) ⊎ ((g ≡ f) × Refused r.hall g x (step r.hall i e))
      mine same (inl (inl ready)) = inl (before (ap is_gone ready.reply))
      mine same (inl (inr refused)) = inr (same, refused)
      mine same (inr pended) = inl (before (ap is_gone pended.reply))

  -- the semaphore of one that was refused before is closed
  shut_old : (f s m : ℕ) → asked next.trace f ≡ Some (s, m) → was_refused r.trace f ≡ true → is_closed r.hall s ≡ true
  shut_old f s m asks was = o.shut f s m (sym (old_asked f (o.names f (refused_polled r.trace f was))) ∙ asks) was

  -- who had its permits before comes before who is refused now
  before_refused : (k s n : ℕ) → asked next.trace k ≡ Some (s, n) → 0 < n → HasPermits r k → x.semaphore ≡ s → (x.stage ≡ New) ⊎ (x.stage ≡ Cut)
      → rank next.trace k < rank next.trace g
  before_refused k s n asks some had of (inl new) =
      let was = permits_polled r o k had in
      omega (arith, rank_now new, stays k was, rank_low k was)
  before_refused k s n asks some had of (inr cut) =
      let was = permits_polled r o k had in
      let less = o.late k s n (sym (old_asked k (o.names k was)) ∙ asks) some had g x is of (ap lags cut) in
      omega (arith, less, stays k was, stays g (o.polled g x is (λ new. absurd (cc))))

  poll_late_refused : (k s n : ℕ) → asked next.trace k ≡ Some (s, n) → 0 < n → HasPermits next k → (f m : ℕ) → (k ≡ f → ⊥) → asked next.trace f ≡ Some (s, m)
      → was_refused next.trace f ≡ true → rank next.trace k < rank next.trace f
  poll_late_refused k s n asks some has f m apart also was = by_cases (had_or_ready k has) (refused_or_now f was)
    where
      both_old : HasPermits r k → was_refused r.trace f ≡ true → rank next.trace k < rank next.trace f
      both_old had old =
          let low_k = o.names k (permits_polled r o k had) in
          let low_f = o.names f (refused_polled r.trace f old) in
          let less = o.late_refused k s n (sym (old_asked k low_k) ∙ asks) some had f m apart (sym (old_asked f low_f) ∙ also) old in
          omega (arith, less, stays k (permits_polled r o k had), stays f (refused_polled r.trace f old))

      by_cases : HasPermits r k ⊎ ((g ≡ k) × Readied r.hall g x (step r.hall i e))
          → (was_refused r.trace f ≡ true) ⊎ ((g ≡ f) × Refused r.hall g x (step r.hall i e)) → rank next.trace k < rank next.trace f
      by_cases (inl had) (inl old) = both_old had old
      by_cases (inl had) (inr now) = subst (λ j. rank next.trace k < rank next.trace j) now.0
          (before_refused k s n asks some had (own_ask s m (ap (asked next.trace) now.0 ∙ also)).0 now.1.before)
      by_cases (inr ready) (inr now) = absurd (apart (sym ready.0 ∙ now.0))
      by_cases (inr ready) (inl old) = by_fresh ready.1.fresh
        where
          of : x.semaphore ≡ s
          of = (own_ask s n (ap (asked next.trace) ready.0 ∙ asks)).0

          by_fresh : (x.stage ≡ Granted) ⊎ ((is_closed r.hall x.semaphore ≡ false) × (0 < x.demand → queue_at r.hall x.semaphore ≡ []))
              → rank next.trace k < rank next.trace f
          by_fresh (inl done) = both_old (subst (HasPermits r) ready.0 (inr (x, is, done))) old
          by_fresh (inr idle) = absurd (let shut : is_closed r.hall x.semaphore ≡ true = ap (is_closed r.hall) of ∙ shut_old f s m also old in
              let open_still = idle.0 in cc)

  pub poll_ordered : Ordered next
  poll_ordered = record {
    asks = λ f y there.
        let u = origin f y there in
        old_asked f (kept.below.futures f (is_there (get r.hall.futures f) u.z u.at)) ∙ o.asks f u.z u.at ∙ (λ k. Some (sym u.of k, sym u.wants k));
    unpolled = λ f y there new.
        let u = origin f y there in
        elim u.how [
          | inl mine ↦ absurd (let waits = mine.1 in cc)
          | inr other ↦ first_unpolled t r.trace f (polls_no_other f other.0) ∙ o.unpolled f u.z u.at (ap (λ (z : Future). z.stage) (sym other.1) ∙ new)
        ];
    polled = λ f y there old.
        let u = origin f y there in
        elim u.how [
          | inl mine ↦ subst (λ k. IsSome (first_poll next.trace k)) mine.0 (polled_now t r.trace g w polls_g)
          | inr other ↦ ap is_some (first_unpolled t r.trace f (polls_no_other f other.0))
              ∙ o.polled f u.z u.at (λ new. old (ap (λ (z : Future). z.stage) other.1 ∙ new))
        ];
    waker = λ f v y there waits.
        let u = origin f y there in
        elim u.how [
          | inl mine ↦
              let now : Some w ≡ Some v = ap waker_at (sym mine.1 ∙ waits) in
              subst (λ k. last_waker semaphores next.trace k ≡ Some v) mine.0
              (ap (λ p. last_waker_at semaphores t p (last_waker semaphores r.trace g)) polls_g ∙ ap (λ a. kept_waker a w) mine.2.reply ∙ now)
          | inr other ↦ waker_unpolled t r.trace f (polls_no_other f other.0) ∙ o.waker f v u.z u.at (ap (λ (z : Future). z.stage) (sym other.1) ∙ waits)
        ];
    gone = poll_gone;
    names = λ f some. by_name g f (λ same. omega (arith, low, later, same)) (λ apart.
        let less = o.names f (ap is_some (sym (first_unpolled t r.trace f (polls_no_other f apart))) ∙ some) in omega (arith, less, later));
    early = λ f j first. elim (first_cases t r.trace f j first) [
      | inl old ↦ let less = o.early f j old in omega (arith, less, later)
      | inr now ↦ omega (arith, now)
    ];
    ranked = poll_ranked;
    late = λ k s n asks some has f y there of behind. elim (had_or_ready k has) [
      | inl had ↦ after_old k s n asks some had f y there of behind
      | inr now ↦ subst (λ j. rank next.trace j < rank next.trace f) now.0
          (after_ready now.1 s n (ap (asked next.trace) now.0 ∙ asks) some f y there of behind)
    ];
    late_refused = poll_late_refused;
    shut = λ f s m asks was.
        (tallies r.hall i s (below_later r.hall r.next i later kept.below) e).closed (elim (refused_or_now f was) [
          | inl old ↦ shut_old f s m asks old
          | inr now ↦ ap (is_closed r.hall) (sym (own_ask s m (ap (asked next.trace) now.0 ∙ asks)).0) ∙ now.1.closed
        ]);
  }
