-- whom an event that polls nobody grants
use Rattle.std.proofs.Common.{◌≡◌, ℕ, ◌+◌, ◌-◌, ◌<◌, ◌==◌, ◌++◌, ◌⊎◌, inl, inr, Bool, true, false, cond, List, [], ◌∷◌, map, not, Option, Some, None, refl, ap, sym, subst, ◌∙◌, arith, is_some, if◌then◌else◌, nat_le, nat_lt, min}
use Rattle.std.specs.List.{flat_map}
use Rattle.std.specs.Option.{option_map, IsSome}
use Rattle.std.specs.Ordering.{nat_cmp}
use Rattle.std.specs.FinMap.{FinMap, get, remove}
use Rattle.std.proofs.lemmas.Bool.{eqb-false, eq-eqb}
use Rattle.std.proofs.lemmas.List.Sums.{sum_by-cons}
use Rattle.mea_base.specs.Queue.{lacks_after, waiting_after, granted_in}
use Rattle.mea_family.specs.declared.answer.Answer.TheVariants as answers
use Rattle.mea_base.proofs.Maps.{by_put, inside, get-removed_other, removed_there}
use Rattle.mea_base.proofs.Tests.{by_name}
use Rattle.mea_events.specs.declared.sem_event.SemEvent.{SemEvent}
use Rattle.mea_events.specs.declared.sem_event.SemEvent.TheVariants as events
use Rattle.mea_sem_model.specs.Hall.{Hall, Semaphore, Future, Permit, FutureStage, New, Waiting, Granted, Cut, Who, Waiter, Debt, names, made_with, semaphore_at, queue_at, is_closed, debt_of, debts, owed, free, poured, staged, granted, pour, waker_of, waker_of_future, waker_of_who, with_semaphore, everyone, closing, wakes_waiting}
use Rattle.mea_sem_model.specs.Cause.{is_named, cause_of}
use Rattle.mea_sem_model.specs.Step.{Outcome, quietly, pouring, with_future, without_future, with_permit, without_permit, forgetting, forgetting_exactly, taking, offers, try_of, try_and_forget, without, leaving, end_future, end_permit, end_of, lose_of, merge_of, split_of, released_to, step}
use Rattle.mea_sem_model.specs.Valid.{one_if_waiting, waits_at, AllLack, HasNoDebt, HasDebtsFirst, IsBelow}
use Rattle.mea_sem_model.specs.Runs.{waker_in, waker_at, waker_kept}
use Rattle.mea_sem_model.specs.Order.{acquire_in, ends}
use Rattle.mea_sem_model.proofs.HallLemmas.{by_semaphore, among, get-grant_all, staged_was}
use Rattle.mea_sem_model.proofs.HeadFirst.{past_waiting, past_granted, part_granted, in_order}
use Rattle.mea_sem_model.proofs.Matched.{IsMatched, is_waiting, granted_waited, cut_waited}
use Rattle.mea_sem_model.proofs.Closings.{queue_apart, nobody_waits, get-closing}
use Rattle.mea_sem_model.proofs.Orderly.{IsOrderly}
use Rattle.mea_sem_model.proofs.Pours.{no_debt-after, no_debt-filter}
use Rattle.mea_sem_model.proofs.Events.{named_there, release_known, counted_released, lost, gone, idle_granted, at_leaving}
use Rattle.mea_sem_model.proofs.Ranks.{AreRanked, ranked_rest, ranked_filter, ranked_debt, ranked_nobody, ranked_and_nobody, uncounted, among_here, among_later}
use Rattle.std.proofs.lemmas.Bool.{leb-true, leb-false}

-- the futures among these
abbrev pub futures_in : List Who → List ℕ
futures_in [] = []
futures_in (Waiter f ∷ ws) = f ∷ futures_in ws
futures_in (Debt ∷ ws) = futures_in ws

-- those whom an event grants, or cuts, of which semaphore they are, and what it leaves of the others
pub record Granting (h : Hall) (o : Outcome) (i : ℕ) (e : SemEvent) : Type 0 where
  pub who : List Who
  pub of : ℕ
  -- they are granted, or the event closes their semaphore and they are cut
  pub stage : FutureStage
  pub kind : (stage ≡ Granted) ⊎ ((stage ≡ Cut) × (e ≡ events.Close of))
  -- each future was there before, or the event begins it
  pub each : (f : ℕ) (y : Future) → get o.hall.futures f ≡ Some y
      → ((x : Future) × (get h.futures f ≡ Some x) × (y ≡ cond (among who f) (staged stage x) x))
      ⊎ ((f ≡ i) × (y.stage ≡ New) × (acquire_in e ≡ Some (y.semaphore, y.demand)))
  -- they have waited
  pub got : (f : ℕ) → among who f ≡ true
      → (x : Future) × (w : ℕ) × (get h.futures f ≡ Some x) × (x.semaphore ≡ of) × (x.stage ≡ Waiting w) × (get o.hall.futures f ≡ Some (staged stage x))
  pub ended : (f : ℕ) → IsSome (get h.futures f) → get o.hall.futures f ≡ None → ends e f ≡ true
  pub wakes : map (λ w. Some w) o.wakes ≡ map (λ f. waker_kept (get h.futures f)) (futures_in who)
  pub ranked : (rank : ℕ → ℕ) → ((s : ℕ) → AreRanked rank (everyone (queue_at h s))) → (s : ℕ) → AreRanked rank (everyone (queue_at o.hall s))
  pub order : (rank : ℕ → ℕ) → ((s : ℕ) → AreRanked rank (everyone (queue_at h s))) → AreRanked rank (who ++ everyone (queue_at o.hall of))
  pub debts : stage ≡ Granted → (f : ℕ) → among who f ≡ true → owed o.hall of ≡ 0

-- ---- nobody is granted
-- the queues of one hall are ranked where those of the other are
abbrev KeepsRanks : Hall → Hall → Type 0
KeepsRanks h g = (rank : ℕ → ℕ) → ((s : ℕ) → AreRanked rank (everyone (queue_at h s))) → (s : ℕ) → AreRanked rank (everyone (queue_at g s))

ranks_put : (h : Hall) (q : ℕ) (r : Semaphore) → ((rank : ℕ → ℕ) → AreRanked rank (everyone (queue_at h q)) → AreRanked rank (everyone r.queue))
    → KeepsRanks h (with_semaphore h q r)
ranks_put h q r keeps rank all s = by_semaphore h q r (λ k y. AreRanked rank (everyone y.queue)) (keeps rank (all q)) (λ k apart. all k) s

none_granted : (h : Hall) (o : Outcome) (i : ℕ) (e : SemEvent) → o.wakes ≡ [] → o.hall.futures ≡ h.futures → KeepsRanks h o.hall → Granting h o i e
none_granted h o i e quiet same keeps = record {
  who = [];
  of = 0;
  stage = Granted;
  kind = inl refl;
  each = λ f y is. inl (y, ap (λ m. get m f) (sym same) ∙ is, refl);
  got = λ f a. absurd (cc);
  ended = λ f some none. absurd (let there : is_some (get o.hall.futures f) ≡ true = ap (λ m. is_some (get m f)) same ∙ some in cc);
  wakes = ap (λ ws. map (λ w. Some w) ws) quiet;
  ranked = keeps;
  order = λ rank all. keeps rank all 0;
  debts = λ granted f a. absurd (cc);
}

-- ---- a pour
no_debt_owed : (q : List (Who × ℕ)) → HasNoDebt q → debts q ≡ 0
no_debt_owed [] none = refl
no_debt_owed ((Waiter f, n) ∷ q) none = omega (arith, no_debt_owed q none, sum_by-cons {X = Who × ℕ} (λ e. debt_of e.0 e.1) (Waiter f, n) q)
no_debt_owed ((Debt, n) ∷ q) none = absurd none

no_debt_pour : (q : List (Who × ℕ)) (n : ℕ) → HasNoDebt q → HasNoDebt (waiting_after q n)
no_debt_pour q n none = no_debt-filter (λ e. nat_lt 0 e.1) (lacks_after 0 q n) (no_debt-after q 0 n none)

-- who is granted leaves no debt behind
paid_off : (q : List (Who × ℕ)) (n f : ℕ) → AllLack q → HasDebtsFirst q → among (granted_in q n) f ≡ true → HasNoDebt (waiting_after q n)
paid_off [] n f all first a = tt
paid_off ((Waiter g, k) ∷ q) n f all first a = by_test (nat_le k n) refl
  where
    by_test : (b : Bool) → nat_le k n ≡ b → HasNoDebt (waiting_after ((Waiter g, k) ∷ q) n)
    by_test true t = subst HasNoDebt (sym (past_waiting (Waiter g, k) q n (leb-true k n t))) (no_debt_pour q (n - k) first)
    by_test false t = absurd (let none : among [] f ≡ true = subst (λ ws. among ws f ≡ true) (part_granted (Waiter g, k) q n all.1 (leb-false k n t)) a in cc)
paid_off ((Debt, k) ∷ q) n f all first a = by_test (nat_le k n) refl (λ b. paid_off q (n - k) f all.1 first b)
  where
    by_test : (b : Bool) → nat_le k n ≡ b → (among (granted_in q (n - k)) f ≡ true → HasNoDebt (waiting_after q (n - k)))
        → HasNoDebt (waiting_after ((Debt, k) ∷ q) n)
    by_test true t rest = subst HasNoDebt (sym (past_waiting (Debt, k) q n (leb-true k n t)))
        (rest (subst (λ ws. among ws f ≡ true) (past_granted (Debt, k) q n (leb-true k n t)) a))
    by_test false t rest = absurd (let none : among [] f ≡ true = subst (λ ws. among ws f ≡ true) (part_granted (Debt, k) q n all.1 (leb-false k n t)) a in cc)

-- the wakers of those who wait with them
wakers_of : (m g : FinMap nat_cmp Future) (ws : List Who)
    → ((f : ℕ) → among ws f ≡ true → (w : ℕ) × (waker_of_future (get m f) ≡ w ∷ []) × (waker_kept (get g f) ≡ Some w))
    → map (λ w. Some w) (flat_map (waker_of_who m) ws) ≡ map (λ f. waker_kept (get g f)) (futures_in ws)
wakers_of m g [] wait = refl
wakers_of m g (Waiter f ∷ ws) wait =
    let here = wait f (among_here f ws) in
    ap (λ l. map (λ w. Some w) (l ++ flat_map (waker_of_who m) ws)) here.1
    ∙ ap (λ l. Some here.0 ∷ l) (wakers_of m g ws (λ k a. wait k (among_later f k ws a)))
    ∙ ap (λ o. o ∷ map (λ k. waker_kept (get g k)) (futures_in ws)) (sym here.2)
wakers_of m g (Debt ∷ ws) wait = wakers_of m g ws wait

-- what counts as one that waits, waits
pub waiting_stage : (t : FutureStage) → one_if_waiting t ≡ 1 → (w : ℕ) × (t ≡ Waiting w)
waiting_stage New one = absurd (omega (arith, one))
waiting_stage (Waiting w) one = (w, refl)
waiting_stage Granted one = absurd (omega (arith, one))
waiting_stage Cut one = absurd (omega (arith, one))

-- n permits are poured into s of a hall g whose futures are among those of h
module _ (h g : Hall) (q n i : ℕ) (e : SemEvent) (m : IsMatched g) (v : IsOrderly g)
    (some : (f : ℕ) (y : Future) → get g.futures f ≡ Some y → get h.futures f ≡ Some y) (keeps : KeepsRanks h g)
    (left : (f : ℕ) → IsSome (get h.futures f) → get g.futures f ≡ None → ends e f ≡ true) where
  abbrev granted_who : List Who
  granted_who = granted_in (queue_at g q) n

  abbrev after : Hall
  after = pour g q n

  gives : (f : ℕ) → get after.futures f ≡ cond (among granted_who f) (option_map granted (get g.futures f)) (get g.futures f)
  gives f = get-grant_all granted_who g.futures f

  poured_each : (f : ℕ) (y : Future) (b : Bool) (o : Option Future) → get g.futures f ≡ o → cond b (option_map granted o) o ≡ Some y
      → (x : Future) × (get h.futures f ≡ Some x) × (y ≡ cond b (granted x) x)
  poured_each f y true None is at = absurd (cc)
  poured_each f y false None is at = absurd (cc)
  poured_each f y true (Some x) is at = (x, some f x is, sym (inside at))
  poured_each f y false (Some x) is at = (x, some f x is, sym (inside at))

  poured_left : (f : ℕ) (b : Bool) (o : Option Future) → cond b (option_map granted o) o ≡ None → o ≡ None
  poured_left f b None at = refl
  poured_left f true (Some x) at = absurd (cc)
  poured_left f false (Some x) at = absurd (cc)

  poured_got : (f : ℕ) (o : Option Future) → get g.futures f ≡ o → among granted_who f ≡ true → 0 < waits_at q o
      → (x : Future) × (w : ℕ) × (get g.futures f ≡ Some x) × (x.semaphore ≡ q) × (x.stage ≡ Waiting w) × (get after.futures f ≡ Some (granted x))
  poured_got f None is a waited = absurd (omega (arith, waited))
  poured_got f (Some x) is a waited =
      let here = is_waiting q x waited in
      let stage = waiting_stage x.stage here.1 in (
        x,
        stage.0,
        is,
        here.0,
        stage.1,
        gives f ∙ ap (λ b. cond b (option_map granted (get g.futures f)) (get g.futures f)) a
            ∙ ap (λ o. option_map granted o) is,
      )

  queue_here : queue_at after q ≡ waiting_after (queue_at g q) n
  queue_here = by_semaphore g q (poured (semaphore_at g q) n) (λ k y. k ≡ q
      → y.queue ≡ waiting_after (queue_at g q) n) (λ e. refl) (λ k other e. absurd (other (sym e))) q refl

  in_queue : granted_who ++ everyone (queue_at after q) ≡ everyone (queue_at g q)
  in_queue = ap (λ p. granted_who ++ everyone p) queue_here ∙ in_order (queue_at g q) n (v.lacking q)

  pub pours_grant : Granting h (pouring g q n) i e
  pours_grant = record {
    who = granted_who;
    of = q;
    stage = Granted;
    kind = inl refl;
    each = λ f y is. inl (poured_each f y (among granted_who f) (get g.futures f) refl (sym (gives f) ∙ is));
    got = λ f a.
        let x = poured_got f (get g.futures f) refl a (granted_waited g q n m f a) in
        (x.0, x.1, some f x.0 x.2, x.3, x.4, x.5);
    ended = λ f there none. left f there (poured_left f (among granted_who f) (get g.futures f) (sym (gives f) ∙ none));
    wakes = wakers_of g.futures h.futures granted_who (λ f a.
        let x = poured_got f (get g.futures f) refl a (granted_waited g q n m f a) in
        (x.1, ap waker_of_future x.2 ∙ ap waker_of x.4, ap waker_kept (some f x.0 x.2) ∙ ap waker_at x.4));
    ranked = λ rank all s. by_semaphore g q (poured (semaphore_at g q) n) (λ k y. AreRanked rank (everyone y.queue))
        (ranked_rest rank granted_who (everyone (waiting_after (queue_at g q) n))
        (subst (λ ws. AreRanked rank ws) (sym (in_order (queue_at g q) n (v.lacking q))) (keeps rank all q)))
        (λ k apart. keeps rank all k) s;
    order = λ rank all. subst (λ ws. AreRanked rank ws) (sym in_queue) (keeps rank all q);
    debts = λ done f a. ap debts queue_here ∙ no_debt_owed (waiting_after (queue_at g q) n) (paid_off (queue_at g q) n f (v.lacking q) (v.debts_first q) a);
  }

-- ---- each event
-- a future is removed by its end
removed_ends : (h : Hall) (k f : ℕ) → IsSome (get h.futures f) → get (remove h.futures k) f ≡ None → (k == f) ≡ true
removed_ends h k f there none = elim (k == f) as (λ b. (k == f) ≡ b → b ≡ true) [
  | true ↦ λ e. refl
  | false ↦ λ e. absurd (let same = get-removed_other h.futures k f (eqb-false k f e) in cc)
] refl

module _ (h : Hall) (i : ℕ) (m : IsMatched h) (v : IsOrderly h) (low : IsBelow h i) where
  still : (e : SemEvent) → step h i e ≡ quietly (step h i e).hall (step h i e).reply → (step h i e).hall.futures ≡ h.futures → KeepsRanks h (step h i e).hall
      → Granting h (step h i e) i e
  still e quiet same keeps = none_granted h (step h i e) i e (ap (λ (o : Outcome). o.wakes) quiet) same keeps

  ends_permit : (k : ℕ) (o : Option Permit) → get h.permits k ≡ o → Granting h (end_permit h k o) i (events.End k)
  ends_permit k None is = none_granted h _ i (events.End k) refl refl (λ rank all s. all s)
  ends_permit k (Some p) is =
      let first = lost h i m v low k p is in
      pours_grant h (without_permit h k) p.semaphore p.size i (events.End k) first.matched first.orderly (λ f y is. is) (λ rank all s. all s)
      (λ f there none. absurd (cc))

  gone_ranks : (f : ℕ) → KeepsRanks h (without_future h f)
  gone_ranks f rank all s = all s

  left_ranks : (f : ℕ) (x : Future) → KeepsRanks h (leaving h f x)
  left_ranks f x = ranks_put h x.semaphore (record (semaphore_at h x.semaphore) { queue = without (queue_at h x.semaphore) f })
      (λ rank ranked. ranked_filter rank (λ e. not (names e.0 f)) (queue_at h x.semaphore) ranked)

  ends_unpaid : (f : ℕ) → Granting h (quietly (without_future h f) answers.Done) i (events.End f)
  ends_unpaid f = record {
    who = [];
    of = 0;
    stage = Granted;
    kind = inl refl;
    each = λ k y is. inl (y, removed_there h.futures f k y is, refl);
    got = λ k a. absurd (cc);
    ended = λ k there none. removed_ends h f k there none;
    wakes = refl;
    ranked = gone_ranks f;
    order = λ rank all. all 0;
    debts = λ granted k a. absurd (cc);
  }

  ends_future : (f : ℕ) (x : Future) → get h.futures f ≡ Some x → (t : FutureStage) → x.stage ≡ t → Granting h (end_future h f x t) i (events.End f)
  ends_future f x is New e = ends_unpaid f
  ends_future f x is Cut e = ends_unpaid f
  ends_future f x is (Waiting u) e =
      let first = at_leaving h i f x is m v low in
      pours_grant h (leaving h f x) x.semaphore _ i (events.End f) first.matched first.orderly (λ k y at. removed_there h.futures f k y at)
      (left_ranks f x) (λ k there none. removed_ends h f k there none)
  ends_future f x is Granted e =
      let first = gone h i f x is m v low (idle_granted h i f x is m v low e) in
      pours_grant h (without_future h f) x.semaphore x.demand i (events.End f) first.matched first.orderly (λ k y at. removed_there h.futures f k y at)
      (gone_ranks f) (λ k there none. removed_ends h f k there none)

  ends_of : (k : ℕ) (o : Option Future) → get h.futures k ≡ o → Granting h (end_of h k o) i (events.End k)
  ends_of k None is = ends_permit k (get h.permits k) refl
  ends_of k (Some x) is = ends_future k x is x.stage refl

  begins : (q n : ℕ) (plain forgets : Bool) (e : SemEvent) → acquire_in e ≡ Some (q, n)
      → Granting h (quietly (with_future h i (record { semaphore = q; demand = n; plain = plain; forgets = forgets; stage = New })) answers.Made) i e
  begins q n plain forgets e asks =
      let x : Future = record { semaphore = q; demand = n; plain = plain; forgets = forgets; stage = New } in
      record {
        who = [];
        of = 0;
        stage = Granted;
        kind = inl refl;
        each = λ f y. by_put h.futures i x (λ k o. o ≡ Some y → ((z : Future) × (get h.futures k ≡ Some z) × (y ≡ z))
            ⊎ ((k ≡ i) × (y.stage ≡ New) × (acquire_in e ≡ Some (y.semaphore, y.demand))))
            (λ is. inr (refl, ap (λ (z : Future). z.stage) (sym (inside is)), asks ∙ ap (λ (z : Future). Some (z.semaphore, z.demand)) (inside is)))
            (λ k apart is. inl (y, is, refl)) f;
        got = λ f a. absurd (cc);
        ended = λ f there none. absurd (by_put h.futures i x (λ k o. IsSome (get h.futures k) → o ≡ None → ⊥) (λ some gone. cc)
            (λ k apart some gone. cc) f there none);
        wakes = refl;
        ranked = λ rank all s. all s;
        order = λ rank all. all 0;
        debts = λ granted f a. absurd (cc);
      }

  puts : (e : SemEvent) (o : Outcome) (q : ℕ) (r : Semaphore) → o.wakes ≡ [] → o.hall.futures ≡ h.futures
      → o.hall.semaphores ≡ (with_semaphore h q r).semaphores
      → ((rank : ℕ → ℕ) → AreRanked rank (everyone (queue_at h q)) → AreRanked rank (everyone r.queue)) → Granting h o i e
  puts e o q r quiet same semaphores keeps = none_granted h o i e quiet same
      (λ rank all s. subst (λ ms. AreRanked rank (everyone (queue_at (record h { semaphores = ms }) s))) (sym semaphores) (ranks_put h q r keeps rank all s))

  tells : (e : SemEvent) (o : Outcome) → o.wakes ≡ [] → o.hall.futures ≡ h.futures → o.hall.semaphores ≡ h.semaphores → Granting h o i e
  tells e o quiet same semaphores = none_granted h o i e quiet same
      (λ rank all s. subst (λ ms. AreRanked rank (everyone (queue_at (record h { semaphores = ms }) s))) (sym semaphores) (all s))

  tries : (e : SemEvent) (q n : ℕ) (plain : Bool) → Granting h (try_of h i q n plain) i e
  tries e q n plain = elim (offers h q n) as (λ b. Granting h
      (if b then quietly (with_permit (with_semaphore h q (taking (semaphore_at h q) n)) i (record { semaphore = q; size = n; plain = plain })) answers.Held
      else quietly h answers.Lacking) i e) [
        | true ↦ puts e _ q (taking (semaphore_at h q) n) refl refl refl (λ rank ranked. ranked)
        | false ↦ tells e _ refl refl refl
      ]

  tries_and_forgets : (e : SemEvent) (q n : ℕ) → Granting h (try_and_forget h q n) i e
  tries_and_forgets e q n = elim (offers h q n) as (λ b. Granting h
      (if b then quietly (with_semaphore h q (record (semaphore_at h q) { free = free h q - n; forgotten = (semaphore_at h q).forgotten + n })) answers.Yes
      else quietly h answers.No) i e) [
        | true ↦ puts e _ q (record (semaphore_at h q) { free = free h q - n; forgotten = (semaphore_at h q).forgotten + n }) refl refl refl
            (λ rank ranked. ranked)
        | false ↦ tells e _ refl refl refl
      ]

  loses : (p : ℕ) (o : Option Permit) → Granting h (lose_of h p o) i (events.Lose p)
  loses p None = tells (events.Lose p) _ refl refl refl
  loses p (Some x) = puts (events.Lose p) _ x.semaphore (record (semaphore_at h x.semaphore) { forgotten = (semaphore_at h x.semaphore).forgotten + x.size })
      refl refl refl (λ rank ranked. ranked)

  merges : (p q : ℕ) (o u : Option Permit) → Granting h (quietly (merge_of h p q o u) answers.Done) i (events.Merge p q)
  merges p q None u = tells (events.Merge p q) _ refl refl refl
  merges p q (Some x) None = tells (events.Merge p q) _ refl refl refl
  merges p q (Some x) (Some y) = tells (events.Merge p q) _ refl refl refl

  splits : (p n : ℕ) (o : Option Permit) → Granting h (split_of h i p n o) i (events.Split p n)
  splits p n None = tells (events.Split p n) _ refl refl refl
  splits p n (Some x) = elim (nat_le n x.size) as (λ b. Granting h
      (if b then quietly (with_permit (with_permit h p (record x { size = x.size - n })) i (record x { size = n })) answers.Held
      else quietly h answers.Lacking) i (events.Split p n)) [
        | true ↦ tells (events.Split p n) _ refl refl refl
        | false ↦ tells (events.Split p n) _ refl refl refl
      ]

  releases : (q n : ℕ) → is_named h q ≡ true → Granting h (pouring (released_to h q n) q n) i (events.Release q n)
  releases q n named =
      let first = counted_released h i m v low q n (named_there h q named) in
      pours_grant h (released_to h q n) q n i (events.Release q n) first.matched first.orderly (λ f y is. is)
      (ranks_put h q (record (semaphore_at h q) { released = (semaphore_at h q).released + n }) (λ rank ranked. ranked)) (λ f there none. absurd (cc))

  abbrev cut_who : ℕ → List Who
  cut_who q = everyone (queue_at h q)

  closes : (q : ℕ) (b : Bool) → is_closed h q ≡ b
      → Granting h (if b then quietly h answers.Done else record { hall = closing h q; reply = answers.Done; wakes = wakes_waiting h q }) i (events.Close q)
  closes q true e = tells (events.Close q) _ refl refl refl
  closes q false e = record {
    who = cut_who q;
    of = q;
    stage = Cut;
    kind = inr (refl, refl);
    each = λ f y is.
        let x = staged_was Cut (among (cut_who q) f) (get h.futures f) y (sym (get-closing h q f) ∙ is) in
        inl (x.0, x.1, x.5);
    got = λ f a. cut_got f (get h.futures f) refl a (cut_waited h q m f a);
    ended = λ f there none. absurd (let some : is_some (get (closing h q).futures f) ≡ true =
        ap is_some (get-closing h q f) ∙ still_some (among (cut_who q) f) (get h.futures f) there in cc);
    wakes = wakers_of h.futures h.futures (cut_who q) (λ f a.
        let x = cut_got f (get h.futures f) refl a (cut_waited h q m f a) in
        (x.1, ap waker_of_future x.2 ∙ ap waker_of x.4, ap waker_kept x.2 ∙ ap waker_at x.4));
    ranked = λ rank all s. by_name q s
        (λ same. subst (λ k. AreRanked rank (everyone (queue_at (closing h q) k))) same (ranked_nobody rank (everyone (queue_at (closing h q) q)) nobody))
        (λ apart. subst (λ p. AreRanked rank (everyone p)) (sym (queue_apart h q s apart)) (all s));
    order = λ rank all. ranked_and_nobody rank (cut_who q) (everyone (queue_at (closing h q) q)) (all q) nobody;
    debts = λ granted f a. absurd (cc);
  }
    where
      nobody : (f : ℕ) → among (everyone (queue_at (closing h q) q)) f ≡ false
      nobody f = by_test (among (everyone (queue_at (closing h q) q)) f) refl
        where
          by_test : (b : Bool) → among (everyone (queue_at (closing h q) q)) f ≡ b → among (everyone (queue_at (closing h q) q)) f ≡ false
          by_test false e = e
          by_test true e = absurd (omega (arith, uncounted (queue_at (closing h q) q) f e, nobody_waits h q f))

      still_some : (b : Bool) (o : Option Future) → IsSome o → is_some (cond b (option_map (staged Cut) o) o) ≡ true
      still_some b None some = absurd (cc)
      still_some true (Some x) some = refl
      still_some false (Some x) some = refl

      cut_got : (f : ℕ) (o : Option Future) → get h.futures f ≡ o → among (cut_who q) f ≡ true → 0 < waits_at q o
          → (x : Future) × (w : ℕ) × (get h.futures f ≡ Some x) × (x.semaphore ≡ q) × (x.stage ≡ Waiting w) × (get (closing h q).futures f ≡ Some (staged Cut x))
      cut_got f None is a waited = absurd (omega (arith, waited))
      cut_got f (Some x) is a waited =
          let here = is_waiting q x waited in
          let stage = waiting_stage x.stage here.1 in (
            x,
            stage.0,
            is,
            here.0,
            stage.1,
            get-closing h q f ∙ ap (λ b. cond b (option_map (staged Cut) (get h.futures f)) (get h.futures f)) a ∙ ap (λ o. option_map (staged Cut) o) is,
          )

  -- an event that polls nobody
  pub grants : (e : SemEvent) → cause_of h e ≡ None → ((f : ℕ) → waker_in e f ≡ None) → Granting h (step h i e) i e
  grants (events.New n) cause quiet = puts (events.New n) _ i (made_with n) refl refl refl (λ rank ranked. tt)
  grants (events.Free s) cause quiet = tells (events.Free s) _ refl refl refl
  grants (events.Forget s n) cause quiet = puts (events.Forget s n) _ s (forgetting (semaphore_at h s) n) refl refl refl (λ rank ranked. ranked)
  grants (events.Forgetx s n) cause quiet = puts (events.Forgetx s n) _ s (forgetting_exactly (semaphore_at h s) n) refl refl refl
      (λ rank ranked. ranked_debt rank (queue_at h s) (n - min n (free h s)) ranked)
  grants (events.Release s n) cause quiet = releases s n (release_known _ _ cause).0
  grants (events.Try s n) cause quiet = tries (events.Try s n) s n true
  grants (events.Tryo s n) cause quiet = tries (events.Tryo s n) s n false
  grants (events.Tryf s n) cause quiet = tries_and_forgets (events.Tryf s n) s n
  grants (events.Tryof s n) cause quiet = tries_and_forgets (events.Tryof s n) s n
  grants (events.Acq s n) cause quiet = begins s n true false (events.Acq s n) refl
  grants (events.Acqo s n) cause quiet = begins s n false false (events.Acqo s n) refl
  grants (events.Acqf s n) cause quiet = begins s n true true (events.Acqf s n) refl
  grants (events.Acqof s n) cause quiet = begins s n false true (events.Acqof s n) refl
  grants (events.Poll f w) cause quiet = absurd (let polls : waker_in (events.Poll f w) f ≡ Some w = ap (λ b. cond b (Some w) None) (eq-eqb f f refl) in
      let none = quiet f in cc)
  grants (events.End k) cause quiet = ends_of k (get h.futures k) refl
  grants (events.Lose p) cause quiet = loses p (get h.permits p)
  grants (events.Merge p q) cause quiet = merges p q (get h.permits p) (get h.permits q)
  grants (events.Split p n) cause quiet = splits p n (get h.permits p)
  grants (events.Size p) cause quiet = tells (events.Size p) _ refl refl refl
  grants (events.Endsem s) cause quiet = puts (events.Endsem s) _ s (record (semaphore_at h s) { named = false }) refl refl refl (λ rank ranked. ranked)
  grants (events.Ledger s) cause quiet = tells (events.Ledger s) _ refl refl refl
  grants (events.Close s) cause quiet = closes s (is_closed h s) refl
  grants (events.Closed s) cause quiet = tells (events.Closed s) _ refl refl refl
