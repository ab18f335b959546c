-- what a close does, and that a closed semaphore stays closed and gives nothing
use Rattle.std.proofs.Common.{◌≡◌, ◌≢◌, ℕ, ◌+◌, ◌-◌, ◌&&◌, ◌⊎◌, inl, inr, Bool, true, false, cond, not, Some, None, refl, ap, sym, subst, ◌∙◌, arith, nat_le, if◌then◌else◌}
use Rattle.std.specs.Option.{option_map}
use Rattle.std.specs.FinMap.{get}
use Rattle.mea_family.specs.declared.answer.Answer.TheVariants as answers
use Rattle.mea_base.proofs.Maps.{inside, value_in}
use Rattle.mea_base.proofs.Tests.{by_name}
use Rattle.mea_family.proofs.Causes.{known}
use Rattle.mea_events.specs.declared.sem_event.SemEvent.{SemEvent}
use Rattle.mea_events.specs.declared.sem_event.SemEvent.TheVariants as events
use Rattle.mea_sem_model.specs.Hall.{Hall, Future, FutureStage, New, Waiting, Granted, Cut, semaphore_at, queue_at, is_closed, free, live, owed, staged, poured, paid_in, debts_in, cutting, closing, wakes_waiting, with_semaphore}
use Rattle.mea_sem_model.specs.Cause.{cause_of}
use Rattle.mea_sem_model.specs.Step.{quietly, with_permit, taking, offers, try_of, try_and_forget, open_poll, refusing, poll_at, poll_of, step}
use Rattle.mea_sem_model.specs.Valid.{SuitsClosed, IsValid, IsBelow}
use Rattle.mea_sem_model.proofs.HallLemmas.{by_semaphore, among}
use Rattle.mea_sem_model.proofs.Matched.{matched}
use Rattle.mea_sem_model.proofs.Orderly.{orderly}
use Rattle.mea_sem_model.proofs.Closings.{get-closing}
use Rattle.mea_sem_model.proofs.Events.{steps}
use Rattle.mea_sem_model.proofs.Tallies.{tallies}
use Rattle.mea_sem_model.proofs.Paid.{parts, paid_or_lacked}
use Rattle.mea_sem_model.proofs.Lives.{polls_or_not}
use Rattle.mea_sem_model.proofs.Granting.{Granting, grants}
use Rattle.mea_sem_model.proofs.OrderKept.{waits_here}
use Rattle.mea_sem_model.proofs.OrderPolls.{PollGives, Readied, Refused, Pended, gives_poll}

-- ---- a close
pub is_closed_then : (h : Hall) (i s : ℕ) → is_closed (step h i (events.Close s)).hall s ≡ true
is_closed_then h i s = by_test (is_closed h s) refl
  where
    cut : is_closed (cutting h s) s ≡ true
    cut = by_semaphore h s (record (semaphore_at h s) { queue = debts_in (queue_at h s); closed = true }) (λ k y. k ≡ s → y.closed ≡ true) (λ e. refl)
        (λ k apart e. absurd (apart (sym e))) s refl

    by_test : (b : Bool) → is_closed h s ≡ b
        → is_closed (if b then quietly h answers.Done else record { hall = closing h s; reply = answers.Done; wakes = wakes_waiting h s }).hall s ≡ true
    by_test true e = e
    by_test false e = by_semaphore (cutting h s) s (poured (semaphore_at (cutting h s) s) (paid_in h.futures (queue_at h s))) (λ k y. k ≡ s → y.closed ≡ true)
        (λ same. cut) (λ k apart same. absurd (apart (sym same))) s refl

-- who waits at it is cut
pub cuts : (h : Hall) (i s f w : ℕ) (x : Future) → IsValid h → get h.futures f ≡ Some x → x.semaphore ≡ s → x.stage ≡ Waiting w
    → get (step h i (events.Close s)).hall.futures f ≡ Some (staged Cut x)
cuts h i s f w x v is of waits =
    let open_still : is_closed h s ≡ false = ap (is_closed h) (sym of) ∙ subst (SuitsClosed (is_closed h x.semaphore)) waits (v.closed f x is) in
    ap (λ b. get (if b then quietly h answers.Done else record { hall = closing h s; reply = answers.Done; wakes = wakes_waiting h s }).hall.futures f) open_still
    ∙ get-closing h s f
    ∙ ap (λ b. cond b (option_map (staged Cut) (get h.futures f)) (get h.futures f)) (waits_here h (matched h v) s f w x is of waits)
    ∙ ap (option_map (staged Cut)) is

-- an event but `new` and `release` makes no permit and loses none but to debts and by forgetting; here: a close
pub close_conserves : (h : Hall) (i k : ℕ) → IsValid h → IsBelow h i → cause_of h (events.Close k) ≡ None → (s : ℕ)
    → live (step h i (events.Close k)).hall s + owed h s ≡ live h s + owed (step h i (events.Close k)).hall s
close_conserves h i k v low cause s =
    let c = steps h i (matched h v) (orderly h v) low (events.Close k) cause in
    let g : Hall = (step h i (events.Close k)).hall in
    omega (arith, c.moves s, paid_or_lacked h (matched h v) s, paid_or_lacked g c.matched s, parts (queue_at h s), parts (queue_at g s))

-- ---- once it is closed
pub stays_closed : (h : Hall) (i : ℕ) (e : SemEvent) → IsBelow h i → (s : ℕ) → is_closed h s ≡ true → is_closed (step h i e).hall s ≡ true
stays_closed h i e low s closed = (tallies h i s low e).closed closed

pub refuses : (h : Hall) (i f w : ℕ) (x : Future) → IsValid h → get h.futures f ≡ Some x → is_closed h x.semaphore ≡ true → x.stage ≢ Granted
    → step h i (events.Poll f w) ≡ refusing h f
refuses h i f w x v is closed ungranted = ap (poll_of h i f w) is ∙ by_stage x.stage refl
  where
    by_stage : (t : FutureStage) → x.stage ≡ t → poll_at h i f w x t ≡ refusing h f
    by_stage New e = ap (λ b. if b then refusing h f else open_poll h i f w x) closed
    by_stage (Waiting u) e = absurd (let open_still = subst (SuitsClosed (is_closed h x.semaphore)) e (v.closed f x is) in cc)
    by_stage Granted e = absurd (ungranted e)
    by_stage Cut e = refl

none_offered : (h : Hall) (s n : ℕ) → is_closed h s ≡ true → offers h s n ≡ false
none_offered h s n closed = ap (λ b. not b && nat_le n (free h s)) closed

pub try_refused : (h : Hall) (i s n : ℕ) (plain : Bool) → is_closed h s ≡ true → try_of h i s n plain ≡ quietly h answers.Lacking
try_refused h i s n plain closed = ap
    (λ b. if b then quietly (with_permit (with_semaphore h s (taking (semaphore_at h s) n)) i (record { semaphore = s; size = n; plain = plain }))
    answers.Held else quietly h answers.Lacking) (none_offered h s n closed)

pub forgetting_try_refused : (h : Hall) (s n : ℕ) → is_closed h s ≡ true → try_and_forget h s n ≡ quietly h answers.No
forgetting_try_refused h s n closed = ap
    (λ b. if b then quietly (with_semaphore h s (record (semaphore_at h s) { free = free h s - n; forgotten = (semaphore_at h s).forgotten + n }))
    answers.Yes else quietly h answers.No) (none_offered h s n closed)

-- who is granted there was granted before
pub grants_no_more : (h : Hall) (i : ℕ) (e : SemEvent) → IsValid h → IsBelow h i → cause_of h e ≡ None → (f : ℕ) (x y : Future) → get h.futures f ≡ Some x
    → is_closed h x.semaphore ≡ true → get (step h i e).hall.futures f ≡ Some y → y.stage ≡ Granted → x.stage ≡ Granted
grants_no_more h i e v low cause f x y is closed at done = elim (polls_or_not e) [
  | inl poll ↦ polling poll.0 poll.1 (subst (λ d. cause_of h d ≡ None) poll.2 cause) (ap (λ d. get (step h i d).hall.futures f) (sym poll.2) ∙ at)
  | inr quiet ↦ by_each (grants h i (matched h v) (orderly h v) low e cause quiet)
]
  where
    as_it_was : y ≡ x → x.stage ≡ Granted
    as_it_was same = ap (λ (z : Future). z.stage) (sym same) ∙ done

    by_each : Granting h (step h i e) i e → x.stage ≡ Granted
    by_each given = elim (given.each f y at) [
      | inl z ↦ by_test z.0 z.1 (among given.who f) refl z.2
      | inr new ↦ absurd (let fresh = new.1 in cc)
    ]
      where
        by_test : (z : Future) → get h.futures f ≡ Some z → (b : Bool) → among given.who f ≡ b → y ≡ cond b (staged given.stage z) z → x.stage ≡ Granted
        by_test z there false a same = as_it_was (same ∙ inside (sym there ∙ is))
        by_test z there true a same =
            let u = given.got f a in
            let one : u.0 ≡ x = inside (sym u.2 ∙ is) in
            let waits : x.stage ≡ Waiting u.1 = ap (λ (z : Future). z.stage) (sym one) ∙ u.4 in
            absurd (let open_still = subst (SuitsClosed (is_closed h x.semaphore)) waits (v.closed f x is) in cc)

    polling : (g w : ℕ) → cause_of h (events.Poll g w) ≡ None → get (step h i (events.Poll g w)).hall.futures f ≡ Some y → x.stage ≡ Granted
    polling g w allowed there = by_name g f (λ same. mine same (ap (get h.futures) same ∙ is))
        (λ apart. as_it_was (inside (sym there ∙ others.others f apart ∙ is)))
      where
        polled : (z : Future) × (get h.futures g ≡ Some z)
        polled = value_in (get h.futures g) (known _ allowed)

        others : PollGives h g w polled.0 (step h i (events.Poll g w))
        others = gives_poll h i g w polled.0 polled.1 (orderly h v)

        mine : g ≡ f → get h.futures g ≡ Some x → x.stage ≡ Granted
        mine same here = by_how (gives_poll h i g w x here (orderly h v)).how
          where
            gone : get (step h i (events.Poll g w)).hall.futures g ≡ None → x.stage ≡ Granted
            gone no_future = absurd (let still : get (step h i (events.Poll g w)).hall.futures g ≡ Some y = ap (get (step h i (events.Poll g w)).hall.futures) same ∙ there in cc)

            by_how : (Readied h g x (step h i (events.Poll g w)) ⊎ Refused h g x (step h i (events.Poll g w))) ⊎ Pended h g w x (step h i (events.Poll g w))
                → x.stage ≡ Granted
            by_how (inl (inl ready)) = gone ready.left
            by_how (inl (inr refused)) = gone refused.left
            by_how (inr pended) =
                let now : record x { stage = Waiting w } ≡ y = inside (sym pended.there ∙ ap (get (step h i (events.Poll g w)).hall.futures) same ∙ there) in
                absurd (let waits : y.stage ≡ Waiting w = ap (λ (z : Future). z.stage) (sym now) in cc)
