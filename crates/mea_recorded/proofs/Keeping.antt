-- what a recorded hall keeps, with one more entry
use Rattle.std.proofs.Common.{◌≡◌, ℕ, ◌+◌, ◌-◌, ◌≤◌, ◌++◌, ◌∷◌, [], Bool, true, false, Option, Some, None, unwrap_or, length, refl, ap, sym, subst, ◌∙◌, arith, length-append, if◌then◌else◌}
use Rattle.mea_family.specs.declared.answer.Answer.{Answer}
use Rattle.mea_family.specs.declared.stop.Stop.{Stop}
use Rattle.mea_family.specs.declared.stop.Stop.TheVariants as stops
use Rattle.mea_events.specs.Replies.{ReplyList}
use Rattle.mea_sem.specs.Play.{Play, Plays}
use Rattle.mea_events.specs.declared.sem_event.SemEvent.{SemEvent}
use Rattle.mea_events.specs.declared.sem_event.SemEvent.TheVariants.{New}
use Rattle.std.specs.FinMap.{empty}
use Rattle.mea_base.proofs.Totals.{total-empty, total-insert}
use Rattle.mea_sem_model.specs.Hall.{Hall, Semaphore, Future, Permit, made_with, empty_hall}
use Rattle.mea_sem_model.specs.Cause.{cause_of}
use Rattle.mea_sem_model.specs.Step.{step}
use Rattle.mea_sem_model.specs.Waiters.{waiters, waiters_in, registers}
use Rattle.mea_sem_model.proofs.Waiting.{settles}
use Rattle.mea_recorded.specs.History.{History, IsHistory, hall_after, with_event, reply_of}
use Rattle.mea_recorded.specs.Things.{things, makes, ends, living_after, wakes_more}
use Rattle.mea_recorded.specs.Kept.{IsKeptHistory}
use Rattle.mea_recorded.proofs.Histories.{history-more, history-first, hall_after-more}
use Rattle.mea_recorded.proofs.Things.{grows, falls}

-- how many live after an event, where at most so many lived before it
counted_after : (h : Hall) (i : ℕ) (e : SemEvent) (living : ℕ) → cause_of h e ≡ None → things h ≤ living → things (step h i e).hall ≤ living_after living e
counted_after h i e living allowed few = at (ends e) refl
  where
    at : (b : Bool) → ends e ≡ b → things (step h i e).hall ≤ (if b then living - 1 else living + (if makes e then 1 else 0))
    at true one = omega (arith, falls h i e allowed one, few)
    at false not_one = omega (arith, grows h i e, few)

-- how many wait after an event, with those that it woke
waiting_after : (h : Hall) (i : ℕ) (e : SemEvent) → waiters (step h i e).hall + length (step h i e).wakes ≤ waiters h + wakes_more e
waiting_after h i e = at (registers e) refl
  where
    at : (b : Bool) → registers e ≡ b → waiters (step h i e).hall + length (step h i e).wakes ≤ waiters h + (if b then 1 else 0)
    at true one = (settles h i e).grows
    at false not_one = omega (arith, (settles h i e).falls not_one)

-- what is known once an event was played and its wakes were handed over
pub record Follows (old mid new : Play) (h g : History) (e : SemEvent) (answer : Answer) (living after room : ℕ) (told : ReplyList) : Type 0 where
  pub allowed : cause_of old.hall e ≡ None
  pub played : Plays old (length h.events) e answer mid
  pub handed : new ≡ record mid { wakes = [] }
  pub events : g.events ≡ h.events ++ e ∷ []
  pub replies : g.replies ≡ h.replies ++ reply_of old.hall (length h.events) e ∷ []
  pub count : after ≡ living_after living e
  pub places : after ≤ room
  pub answers : after ≤ told.room
  pub wakes : waiters old.hall + wakes_more e ≤ told.spare + length mid.wakes

pub kept_next : (old mid new : Play) (h g : History) (e : SemEvent) (answer : Answer) (living before after room : ℕ) (first told : ReplyList)
    → IsKeptHistory old h living before first → Follows old mid new h g e answer living after room told → IsKeptHistory new g after room told
kept_next old mid new h g e answer living before after room first told k f =
    let hall : new.hall ≡ (step old.hall (length h.events) e).hall = ap (λ p. p.hall) f.handed ∙ ap (λ p. p.hall) f.played.moved in
    let here : (step old.hall (length h.events) e).hall ≡ hall_after g.events =
    ap (λ x. (step x (length h.events) e).hall) k.hall ∙ sym (hall_after-more h.events e) ∙ ap hall_after (sym f.events) in
    let woken : mid.wakes ≡ (step old.hall (length h.events) e).wakes = ap (λ p. p.wakes) f.played.moved ∙ ap (λ ws. ws ++ (step old.hall (length h.events) e).wakes) k.quiet in
    let whole : with_event h e ≡ g = λ i. record { events = sym f.events i; replies = (ap (λ x. h.replies ++ reply_of x (length h.events) e ∷ []) (sym k.hall) ∙ sym f.replies) i } in
    let next : new.next ≡ length h.events + 1 = ap (λ p. p.next) f.handed ∙ ap (λ p. p.next) f.played.moved in
    let long : length g.events ≡ length h.events + 1 = ap length f.events ∙ length-append h.events (e ∷ []) in
    let few : things new.hall ≤ living_after living e = subst (λ x. things x ≤ living_after living e) (sym hall) (counted_after old.hall (length h.events) e living f.allowed k.counted) in
    let waits : waiters new.hall + length mid.wakes ≤ waiters old.hall + wakes_more e =
    rw (hall, woken) (waiting_after old.hall (length h.events) e) in
    record {
      history = subst IsHistory whole (history-more h e k.history (ap (λ x. cause_of x e) (sym k.hall) ∙ f.allowed));
      hall = hall ∙ here;
      quiet = ap (λ p. p.wakes) f.handed;
      numbers = omega (arith, next, long);
      counted = omega (arith, few, f.count);
      places = f.places;
      answers = f.answers;
      wakes = omega (arith, waits, f.wakes);
    }

pub kept_first : (old new : Play) (g : History) (n room : ℕ) (answer : Answer) (told : ReplyList) → old ≡ record { hall = empty_hall; wakes = []; next = 0 }
    → Plays old 0 (New n) answer new → g.events ≡ New n ∷ [] → g.replies ≡ (answer, []) ∷ [] → IsKeptHistory new g 0 room told
kept_first old new g n room answer told is played events replies =
    let hall : new.hall ≡ (step empty_hall 0 (New n)).hall = ap (λ p. p.hall) played.moved ∙ ap (λ (p : Play). (step p.hall 0 (New n)).hall) is in
    let whole : with_event (record { events = []; replies = [] }) (New n) ≡ g = λ i. record { events = sym events i; replies = (ap (λ a. (a, []) ∷ []) (sym played.replied) ∙ sym replies) i } in
    record {
      history = subst IsHistory whole (history-first n);
      hall = hall ∙ ap hall_after (sym events);
      quiet = ap (λ p. p.wakes) played.moved ∙ ap (λ (p : Play). p.wakes ++ []) is;
      numbers = omega (arith, ap (λ p. p.next) played.moved, ap length events);
      counted = omega (arith, ap things hall, total-empty {X = Future} (λ f x. 1), total-empty {X = Permit} (λ p x. 1));
      places = omega arith;
      answers = omega arith;
      wakes = omega (arith, ap waiters hall, total-insert {X = Semaphore} (λ s r. waiters_in r.queue) empty 0 (made_with n), total-empty {X = Semaphore} (λ s r. waiters_in r.queue));
    }

-- an end that finds no room is refused for a cause: what lives has its room
pub refused_end : (h : Hall) (i : ℕ) (e : SemEvent) (cause : Option Stop) (stop : Stop) (living : ℕ) → cause ≡ cause_of h e → stop ≡ unwrap_or cause stops.NoMemory
    → ends e ≡ true → things h ≤ living → (1 ≤ living → ⊥) → cause_of h e ≡ Some stop
refused_end h i e None stop living is s one few full = absurd (full (omega (arith, falls h i e (sym is) one, few)))
refused_end h i e (Some c) stop living is s one few full = sym is ∙ ap Some (sym s)

-- the wakes of an event have room where there is room for as many as waited before it, and one more where it may make one wait
pub room_for : (old mid : Play) (i : ℕ) (e : SemEvent) (answer : Answer) (spare : ℕ) → Plays old i e answer mid → old.wakes ≡ [] → waiters old.hall + wakes_more e ≤ spare
    → length mid.wakes ≤ spare
room_for old mid i e answer spare played quiet room =
    let woken : mid.wakes ≡ (step old.hall i e).wakes = ap (λ p. p.wakes) played.moved ∙ ap (λ ws. ws ++ (step old.hall i e).wakes) quiet in
    omega (arith, ap length woken, waiting_after old.hall i e, room)
