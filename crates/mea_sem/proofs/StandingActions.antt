-- what is done to a semaphore is what its event says
use Rattle.std.proofs.Common.{◌≡◌, ◌≢◌, ◌⊎◌, inl, inr, ℕ, ◌+◌, ◌-◌, ◌≤◌, ◌++◌, true, false, [], length, min, refl, sym, subst, ◌∙◌, arith, Some, None, append-nil}
use Rattle.mea_base.specs.Named.{at, ChangesAt}
use Rattle.mea_base.specs.Ready.{Waking}
use Rattle.mea_family.specs.declared.answer.Answer.{Answer}
use Rattle.mea_family.specs.declared.stop.Stop.{Stop}
use Rattle.mea_family.specs.declared.stop.Stop.TheVariants as stops
use Rattle.mea_sem_model.specs.Cause.{cause_of}
use Rattle.mea_sem_model.specs.Step.{Outcome, step}
use Rattle.mea_sem_core.specs.Core as cores
use Rattle.mea_sem.specs.declared.actions.Action.{Action}
use Rattle.mea_sem.specs.declared.actions.Action.TheVariants.{Free, Forget, ForgetExact, Release, TryAndForget, EndName, Close, Closed, Ledger}
use Rattle.mea_sem.specs.declared.entries.SemaphoreEntry.{SemaphoreEntry}
use Rattle.mea_sem.specs.Actions.{event_of, Finds, Refuses, Acts, woken_by}
use Rattle.mea_sem.specs.Entries.{ledger_of_entry}
use Rattle.mea_sem.specs.Play.{Play, TakesNoMemory}
use Rattle.mea_sem.specs.Store.{Store, store_of}
use Rattle.mea_sem.proofs.Inside.{Inside}
use Rattle.mea_sem.proofs.Meets.{registered_in, semaphores_in, futures_in, permits_in, store_in, seen_in, MeetsSemaphore, Done}
use Rattle.mea_sem.proofs.Refusals.{unknown_missing, refuses_unknown}
use Rattle.mea_sem.proofs.Standing.{Semaphores}
use Rattle.mea_sem.proofs.StandingSemaphores.{while_named, once_unnamed, release_known, release_refused, endsem_known, endsem_refused, wakers_few, close_few, as_it_was, done_free, done_closed, done_ledger, done_lacking, done_forget, done_forgetx, done_tried, done_endsem, done_closing, done_release}

pub unheard : (a : Inside) {v : Play} → seen_in a ≡ v → (s : ℕ) (d : Action) → at a.kept.semaphores.entries s ≡ None
    → cause_of v.hall (event_of d s) ≡ Some stops.Unknown
unheard a seen s (Release n) none = unknown_missing a seen s _ none
unheard a seen s EndName none = unknown_missing a seen s _ none
unheard a seen s _ none = unknown_missing a seen s _ none

module _ {a : Inside} {v : Play} {i s : ℕ} {e : SemaphoreEntry} (m : MeetsSemaphore a v i s e) where
  pub allowed : (d : Action) → e.named ≡ true → Finds e d → cause_of v.hall (event_of d s) ≡ None
  allowed (Release n) named fits = release_known m n named fits
  allowed EndName named none = endsem_known m named none
  allowed _ named found = while_named m named

  pub refused : (d : Action) (stop : Stop) → ((e.named ≡ false) × (stop ≡ stops.Unknown)) ⊎ ((e.named ≡ true) × Refuses e d stop)
      → (cause_of v.hall (event_of d s) ≡ Some stop) ⊎ ((cause_of v.hall (event_of d s) ≡ None) × (stop ≡ stops.NoMemory))
  refused (Release n) stop is = inl (release_refused m n stop is).0
  refused EndName stop is = inl (endsem_refused m stop is).0
  refused (ForgetExact n) stop (inr is) = inr (while_named m is.0, is.1)
  refused _ stop (inl is) = inl (refuses_unknown _ stop (once_unnamed m _ is.0) is.1).0
  refused _ stop (inr is) = absurd is.1

  pub not_for_memory : (d : Action) (stop : Stop) → ((e.named ≡ false) × (stop ≡ stops.Unknown)) ⊎ ((e.named ≡ true) × Refuses e d stop)
      → TakesNoMemory (event_of d s) → stop ≢ stops.NoMemory
  not_for_memory (ForgetExact n) stop is none = absurd none
  not_for_memory (Release n) stop is none = (release_refused m n stop is).1
  not_for_memory EndName stop is none = (endsem_refused m stop is).1
  not_for_memory _ stop (inl is) none = λ h. absurd (cc (is.1, h))
  not_for_memory _ stop (inr is) none = absurd is.1

  -- no more wakers are made ready than are registered
  pub few_woken : (d : Action) → length (woken_by e d) ≤ registered_in a
  few_woken (Release n) = wakers_few m n
  few_woken Close = close_few m
  few_woken _ = omega arith

  module _ (ss' : Semaphores) (x : SemaphoreEntry) (changes : ChangesAt (semaphores_in a) ss' s (Some x)) where
    abbrev st' : Store
    st' = store_of ss' (futures_in a) (permits_in a)

    abbrev Is : Outcome → Answer → ℕ → Waking ℕ → Type 0
    Is o answer woken w = Done v i o answer st' (registered_in a - woken) w.registered w.wakers

    -- nobody was woken
    silently : (o : Outcome) {told answer : Answer} (w : Waking ℕ) → answer ≡ told → w.wakers ≡ a.list.wakers ++ [] → w.registered + 0 ≡ a.list.registered
        → Done v i o told st' (registered_in a) a.list.registered a.list.wakers → Is o answer 0 w
    silently o {told} {answer} w same moved left done =
        let zero : registered_in a ≡ registered_in a - 0 = omega arith in
        let count : a.list.registered ≡ w.registered = omega (arith, left) in
        let to : ◌≡◌ {A = Answer × ℕ × Waking ℕ} (told, registered_in a, a.list) (answer, registered_in a - 0, w) =
        λ j. (sym same j, zero j, record { wakers = sym (moved ∙ append-nil a.list.wakers) j; registered = count j }) in
        subst (λ (t : Answer × ℕ × Waking ℕ). Done v i o t.0 st' t.1 t.2.registered t.2.wakers) to done

    -- nor was anything changed
    looking : (o : Outcome) {told answer : Answer} (w : Waking ℕ) → answer ≡ told → w.wakers ≡ a.list.wakers ++ [] → w.registered + 0 ≡ a.list.registered
        → x ≡ e → Done v i o told (store_in a) (registered_in a) a.list.registered a.list.wakers → Is o answer 0 w
    looking o {told} w same moved left is done = silently o w same moved left
        (subst (λ (st : Store). Done v i o told st (registered_in a) a.list.registered a.list.wakers) (sym (as_it_was m ss' x changes is)) done)

    waking : (o : Outcome) {told answer : Answer} (woken : ℕ) (w : Waking ℕ) → answer ≡ told → Is o told woken w → Is o answer woken w
    waking o woken w same done = subst (λ t. Is o t woken w) (sym same) done

    pub acted : (d : Action) (answer : Answer) (w : Waking ℕ) → e.named ≡ true → Finds e d → Acts e d answer x → cores.held_of x.core ≡ cores.held_of e.core
        → w.wakers ≡ a.list.wakers ++ woken_by e d → w.registered + length (woken_by e d) ≡ a.list.registered
        → Is (step v.hall i (event_of d s)) answer (length (woken_by e d)) w
    acted Free answer w named finds is held moved left = looking _ w is.0 moved left is.1 (done_free m e.core.free refl)
    acted (Forget n) answer w named finds is held moved left =
        silently _ w is.0 moved left (done_forget m ss' x changes n (min n e.core.free) is.3 (allowed (Forget n) named finds) is.1 held refl is.2)
    acted (ForgetExact n) answer w named finds is held moved left =
        silently _ w is.0 moved left (done_forgetx m ss' x changes n is.3 (allowed (ForgetExact n) named finds) is.1 held is.2)
    acted (Release n) answer w named finds is held moved left =
        waking _ (length (woken_by e (Release n))) w is.0 (done_release m ss' x changes n (length (woken_by e (Release n))) w.registered w.wakers is.2 (allowed (Release n) named finds) is.1 held moved left refl)
    acted (TryAndForget n) answer w named finds (inl is) held moved left = silently _ w is.0 moved left (done_lacking m ss' x changes n is.1 is.2)
    acted (TryAndForget n) answer w named finds (inr is) held moved left =
        silently _ w is.0 moved left (done_tried m ss' x changes n is.5 (allowed (TryAndForget n) named finds) is.3 is.4 is.1 held is.2)
    acted EndName answer w named finds is held moved left = silently _ w is.0 moved left (done_endsem m ss' x changes (allowed EndName named finds) is.1)
    acted Close answer w named finds is held moved left =
        waking _ (length (woken_by e Close)) w is.0 (done_closing m ss' x changes (allowed Close named finds) (length (woken_by e Close)) w.registered w.wakers is.1 held moved refl left is.2)
    acted Closed answer w named finds is held moved left = looking _ w is.0 moved left is.1 (done_closed m e.core.closed refl)
    acted Ledger answer w named finds is held moved left = looking _ w is.0 moved left is.1 (done_ledger m (ledger_of_entry e) is.2 refl)
