-- what a look-up among the kept entries says of the hall
use Rattle.std.proofs.Common.{Result, Ok, Err, inl, inr, ◌≡◌, ◌≢◌, ℕ, true, false, cond, if◌then◌else◌, refl, ap, sym, subst, ◌∙◌, Option, Some, None, is_some}
use Rattle.std.specs.Option.{option_map}
use Rattle.std.specs.FinMap.{get}
use Rattle.std.specs.Result.{IfErr, IsErrAnd}
use Rattle.mea_base.specs.Named.{at}
use Rattle.mea_family.specs.declared.stop.Stop.{Stop}
use Rattle.mea_family.specs.declared.stop.Stop.TheVariants as stops
use Rattle.mea_base.proofs.NamedMaps.{get-named, get-seen, is_some-map, kept-at, found}
use Rattle.mea_family.specs.Causes.{unknown_unless}
use Rattle.mea_events.specs.declared.sem_event.SemEvent.TheVariants as events
use Rattle.mea_sem_model.specs.Cause.{cause_of, is_named, is_named_semaphore, is_future, is_permit}
use Rattle.mea_sem_model.specs.Hall.{live, plain_things}
use Rattle.mea_sem.specs.declared.entries.SemaphoreEntry.{SemaphoreEntry}
use Rattle.mea_sem.specs.declared.entries.FutureEntry.{FutureEntry}
use Rattle.mea_sem.specs.declared.entries.PermitEntry.{PermitEntry}
use Rattle.mea_sem.proofs.Inside.{Inside}
use Rattle.mea_sem.specs.Play.{Play}
use Rattle.mea_sem.specs.StandsFor.{StandsFor}
use Rattle.mea_sem.specs.Store.{permit_of, semaphore_of, future_of}
use Rattle.mea_sem.proofs.Lives.{live-seen}
use Rattle.mea_sem.proofs.Lends.{stands_for}
use Rattle.mea_sem.proofs.Endings.{missing}
use Rattle.mea_sem.proofs.Meets.{registered_in, semaphores_in, futures_in, permits_in, store_in, seen_in, IsKeptIn}

module _ (a : Inside) {v : Play} (seen : seen_in a ≡ v) (k : ℕ) where
  named-at : (o : Option SemaphoreEntry) → at (semaphores_in a) k ≡ o
      → is_named v.hall k ≡ is_named_semaphore (option_map (semaphore_of (store_in a).futures a.kept.next k) o)
  named-at o is = ap (λ (p : Play). is_named p.hall k) (sym seen)
      ∙ ap is_named_semaphore (get-seen (semaphore_of (store_in a).futures a.kept.next) (store_in a).semaphores k
      ∙ ap (option_map (semaphore_of (store_in a).futures a.kept.next k)) (kept-at (semaphores_in a) k ∙ is))

  -- a semaphore is named where its entry is
  pub named-some : (e : SemaphoreEntry) → at (semaphores_in a) k ≡ Some e → is_named v.hall k ≡ e.named
  named-some e is = named-at (Some e) is

  pub named-none : at (semaphores_in a) k ≡ None → is_named v.hall k ≡ false
  named-none is = named-at None is

  pub named-missing : at a.kept.semaphores.entries k ≡ None → is_named v.hall k ≡ false
  named-missing none = elim (missing a k none) [
    | inl gone ↦ named-none gone
    | inr e ↦ named-some e.0 e.1 ∙ e.2
  ]

  pub unknown_missing : (o : Option Stop) → at a.kept.semaphores.entries k ≡ None → cond (is_named v.hall k) o (Some stops.Unknown) ≡ Some stops.Unknown
  unknown_missing o none = ap (λ b. cond b o (Some stops.Unknown)) (named-missing none)

  pub unknown_unnamed : (o : Option Stop) (e : SemaphoreEntry) → at (semaphores_in a) k ≡ Some e → e.named ≡ false
      → cond (is_named v.hall k) o (Some stops.Unknown) ≡ Some stops.Unknown
  unknown_unnamed o e is unnamed = ap (λ b. cond b o (Some stops.Unknown)) (named-some e is ∙ unnamed)

  pub known_named : (o : Option Stop) (e : SemaphoreEntry) → at (semaphores_in a) k ≡ Some e → e.named ≡ true
      → cond (is_named v.hall k) o (Some stops.Unknown) ≡ o
  known_named o e is named = ap (λ b. cond b o (Some stops.Unknown)) (named-some e is ∙ named)

  pub future-at : is_future v.hall k ≡ is_some (at (futures_in a) k)
  future-at = ap (λ (p : Play). is_future p.hall k) (sym seen)
      ∙ ap is_some (get-seen (λ f x. future_of (store_in a).semaphores x) (store_in a).futures k
      ∙ ap (option_map (future_of (store_in a).semaphores)) (kept-at (futures_in a) k))
      ∙ is_some-map (future_of (store_in a).semaphores) (at (futures_in a) k)

  pub permit-at : get v.hall.permits k ≡ option_map permit_of (at (permits_in a) k)
  permit-at = ap (λ (p : Play). get p.hall.permits k) (sym seen) ∙ get-named (λ p x. permit_of x) (permits_in a) k

  pub is_permit-at : is_permit v.hall k ≡ is_some (at (permits_in a) k)
  is_permit-at = ap is_some permit-at ∙ is_some-map permit_of (at (permits_in a) k)

  -- a future or a permit is known where its entry is
  pub future_there : (x : FutureEntry) → at (futures_in a) k ≡ Some x → is_future v.hall k ≡ true
  future_there x is = future-at ∙ ap is_some is

  pub future_missing : at (futures_in a) k ≡ None → get v.hall.futures k ≡ None
  future_missing is = by_case (get v.hall.futures k) (future-at ∙ ap is_some is)
    where
      by_case : {X : Type 0} (o : Option X) → is_some o ≡ false → o ≡ None
      by_case None h = refl
      by_case (Some x) h = absurd (cc)

  pub future_known : (x : FutureEntry) → at (futures_in a) k ≡ Some x → unknown_unless (is_future v.hall k) ≡ None
  future_known x is = ap unknown_unless (future_there x is)

  pub future_unknown : at (futures_in a) k ≡ None → unknown_unless (is_future v.hall k) ≡ Some stops.Unknown
  future_unknown is = ap unknown_unless (future-at ∙ ap is_some is)

  pub permit_known : (x : PermitEntry) → at (permits_in a) k ≡ Some x → unknown_unless (is_permit v.hall k) ≡ None
  permit_known x is = ap unknown_unless (is_permit-at ∙ ap is_some is)

  pub permit_unknown : at (permits_in a) k ≡ None → unknown_unless (is_permit v.hall k) ≡ Some stops.Unknown
  permit_unknown is = ap unknown_unless (is_permit-at ∙ ap is_some is)

  -- the end of a future, of a permit, and of neither
  pub end_known : (x : FutureEntry) → at (futures_in a) k ≡ Some x → cause_of v.hall (events.End k) ≡ None
  end_known x is = ap (λ b. unknown_unless (if b then true else is_permit v.hall k)) (future_there x is)

  pub end_of_permit_known : get v.hall.futures k ≡ None → (x : PermitEntry) → at (permits_in a) k ≡ Some x → cause_of v.hall (events.End k) ≡ None
  end_of_permit_known none x is = ap (λ o. unknown_unless (if is_some o then true else is_permit v.hall k)) none ∙ permit_known x is

  pub end_unknown : get v.hall.futures k ≡ None → at (permits_in a) k ≡ None → cause_of v.hall (events.End k) ≡ Some stops.Unknown
  end_unknown none is = ap (λ o. unknown_unless (if is_some o then true else is_permit v.hall k)) none ∙ permit_unknown is

-- a refusal of what is unknown tells that, and no want of memory
pub refuses_unknown : (c : Option Stop) (stop : Stop) → c ≡ Some stops.Unknown → stop ≡ stops.Unknown → (c ≡ Some stop) × (stop ≢ stops.NoMemory)
refuses_unknown c stop is same = (is ∙ ap (λ t. Some t) (sym same), λ h. absurd (cc (same, h)))

-- a refusal that goes on by ? is the same
pub passed : {A : Type 0} (r : Result A Stop) (e : Stop) (P : Stop → Type 0) → IsErrAnd r (λ f. f ≡ e) → P e → IfErr r P
passed (Ok a) e P is p = absurd is
passed (Err f) e P is p = subst P (sym is) p

-- what the entry of a semaphore says of it
module _ (a : Inside) {v : Play} (seen : seen_in a ≡ v) (k : IsKeptIn a) (s : ℕ) (e : SemaphoreEntry) (there : at (semaphores_in a) s ≡ Some e) where
  here : get (store_in a).semaphores s ≡ Some e
  here = found (semaphores_in a) s e there

  pub live_as : e.core.live ≡ live v.hall s
  live_as = sym (live-seen (store_in a) (registered_in a) a.list.registered a.kept.next s e k here) ∙ ap (λ (p : Play). live p.hall s) seen

  pub plain_as : e.plain ≡ plain_things v.hall s
  plain_as = (k.each s e here).plain ∙ ap (λ (p : Play). plain_things p.hall s) seen

  pub stands_as : StandsFor v.hall s e.core
  stands_as = subst (λ (p : Play). StandsFor p.hall s e.core) seen (stands_for (store_in a) (registered_in a) a.list.registered a.kept.next s e k here)
