-- what holds of each family in the world, and of an event that is played on its family
use Rattle.std.proofs.Common.{◌≡◌, ◌⊎◌, inl, inr, ℕ, ◌+◌, ◌≤◌, ◌++◌, length, Some, None, Result, Ok, Err, refl, sym, ap, subst, ◌∙◌, arith, rules}
use Rattle.std.specs.Result.{IfOk}
use Rattle.mea_family.specs.declared.answer.Answer.{Answer}
use Rattle.mea_family.specs.declared.stop.Stop.{Stop}
use Rattle.mea_base.proofs.Totals.{total-empty}
use Rattle.mea_sem_model.specs.Hall as sem_hall
use Rattle.mea_sem_model.specs.Waiters as sem_waiters
use Rattle.mea_sem_model.proofs.Waiting as sem_laws
use Rattle.mea_meet_model.proofs.MostWoken as meet_most
use Rattle.mea_meet_model.proofs.Registrations as meet_laws
use Rattle.mea_base.specs.Ready.{Waking}
use Rattle.mea_family.specs.Family as families
use Rattle.mea_family.specs.Play.{Part, PartYields}
use Rattle.mea_by_name.specs.NamedQueue.{Waiting}
use Rattle.mea_lock_model.specs.Locks.{Lock as LockRecord, waiting_at}
use Rattle.mea_lock_model.specs.LockHall as lock_hall
use Rattle.mea_lock_model.specs.Meaning as lock_meaning
use Rattle.mea_lock_model.proofs.Counts as lock_laws
use Rattle.mea_chan_model.specs.Mailboxes.{Mailbox, kept}
use Rattle.mea_chan_model.specs.Bounded as bounded
use Rattle.mea_chan_model.specs.Bounded.{Room}
use Rattle.mea_chan_model.specs.Broadcasts.{Broadcast}
use Rattle.mea_chan_model.specs.ChanHall as chan_hall
use Rattle.mea_chan_model.specs.Meaning as chan_meaning
use Rattle.mea_chan_model.proofs.Wakers as chan_laws
use Rattle.mea_share_model.specs.Next.{waiting_in}
use Rattle.mea_share_model.specs.Admissions as share_hall
use Rattle.mea_share_model.specs.Meaning as share_meaning
use Rattle.mea_share_model.proofs.Counts as share_laws
use Rattle.mea_once_model.specs.Meaning as once_meaning
use Rattle.mea_once_model.proofs.Wakers as once_laws
use Rattle.mea_events.specs.declared.event.Event.{Event}
use Rattle.mea_events.specs.declared.event.Event.TheVariants.{Sem, Meet, Lock, Chan, Share, Once}
use Rattle.mea_hall.specs.declared.families.Families.{Families}
use Rattle.mea_hall.specs.World.{World, FamilyName, Semaphores, Meets, Locks, Chans, Shares, Onces, embedding, family, hall, with_hall, Addressed, addressed, event_in, Outcome, outcome_in, step_of, OthersStay, empty_world, registered, cause_of, step}
use Rattle.mea_hall.specs.Families.{world_of, AreBelow, PlaysFamilies}

-- ---- what is said of each family by itself
-- how many wakers are registered in its hall
abbrev pub registered_in : (k : FamilyName) → (family k).Hall → ℕ
registered_in k h = (embedding k).registered h

-- an event wakes no more wakers than are registered, and registers one at the most
record AreCounted (k : FamilyName) (h : (family k).Hall) (i : ℕ) (e : (family k).Event) : Type 0 where
  most : length ((family k).step h i e).wakes ≤ registered_in k h
  grows : registered_in k ((family k).step h i e).hall + length ((family k).step h i e).wakes ≤ registered_in k h + 1

counted_in : (k : FamilyName) (h : (family k).Hall) (i : ℕ) (e : (family k).Event) → AreCounted k h i e
counted_in Semaphores h i e = record { most = (sem_laws.settles h i e).most; grows = (sem_laws.settles h i e).grows }
counted_in Meets h i e = record { most = meet_most.most h i e; grows = meet_laws.grows h i e }
counted_in Locks h i e = let c = lock_laws.counted h i e in record { most = c.most; grows = omega (arith, c.grows, lock_laws.extra-least (lock_meaning.registers e)) }
counted_in Chans h i e = let c = chan_laws.counted h i e in record { most = c.0; grows = omega (arith, c.1, chan_laws.extra-least (chan_meaning.registers e)) }
counted_in Shares h i e = let c = share_laws.counted h i e in record { most = c.0; grows = omega (arith, c.1, share_laws.extra-least (share_meaning.registers e)) }
counted_in Onces h i e = let c = once_laws.counted h i e in record { most = c.most; grows = omega (arith, c.grows, once_laws.extra-least (once_meaning.registers e)) }

-- ---- each family in the world: the last line of a lemma here is a case for each family that has no line of its own
-- an event has the cause of its family
pub caused : (w : World) (e : Event) → cause_of w e ≡ (family (addressed e).name).cause (hall w (addressed e).name) (addressed e).event
unfolding cause_of
caused w (Sem e) = refl
caused w _ = refl

-- an event that is one of this family, and goes to it
record IsOwn (k : FamilyName) (e : Event) : Type 0 where
  event : (family k).Event
  is : event_in k e ≡ Some event
  goes : addressed e ≡ record { name = k; event = event }

-- an event that is none of this family, and leaves its hall as it was
record IsOther (k : FamilyName) (e : Event) : Type 0 where
  is : event_in k e ≡ None
  leaves : (w : World) (h : (family (addressed e).name).Hall) → hall (with_hall w (addressed e).name h) k ≡ hall w k

whose : (k : FamilyName) (e : Event) → IsOwn k e ⊎ IsOther k e
whose Semaphores (Sem e) = inl (record { event = e; is = refl; goes = refl })
whose Meets (Meet e) = inl (record { event = e; is = refl; goes = refl })
whose Locks (Lock e) = inl (record { event = e; is = refl; goes = refl })
whose Chans (Chan e) = inl (record { event = e; is = refl; goes = refl })
whose Shares (Share e) = inl (record { event = e; is = refl; goes = refl })
whose Onces (Once e) = inl (record { event = e; is = refl; goes = refl })
whose _ _ = inr (record { is = refl; leaves = λ w h. refl })

pub is_own : (k : FamilyName) (e : Event) (d : (family k).Event) → event_in k e ≡ Some d → addressed e ≡ record { name = k; event = d }
is_own k e d is = elim (whose k e) [
  | inl own ↦ own.goes ∙ ap (λ (c : (family k).Event). record { name = k; event = c }) (let same : own.event ≡ d = cc (own.is, is) in same)
  | inr other ↦ absurd (cc (other.is, is))
]

-- the hall that is put is there
pub put : (w : World) (k : FamilyName) (h : (family k).Hall) → hall (with_hall w k h) k ≡ h
put w Semaphores h = refl
put w _ h = refl

-- the halls of the families that an event is not of are as they were
pub others_stay : (w : World) (e : Event) (a : Addressed) → addressed e ≡ a → (k : FamilyName) → event_in k e ≡ None → (h : (family a.name).Hall)
    → hall (with_hall w a.name h) k ≡ hall w k
others_stay w e a is k none = subst (λ (b : Addressed). (h : (family b.name).Hall) → hall (with_hall w b.name h) k ≡ hall w k) is (elim (whose k e) [
  | inl own ↦ absurd (cc (own.is, none))
  | inr other ↦ other.leaves w
])

-- the registered wakers of a family are among those of all
one_of_all : (w : World) (k : FamilyName) → registered_in k (hall w k) ≤ registered w
one_of_all w Semaphores = omega arith
one_of_all w _ = omega arith

-- and where its hall changes, those of all change as those of the hall
sums : (w : World) (k : FamilyName) (h : (family k).Hall) → registered (with_hall w k h) + registered_in k (hall w k) ≡ registered w + registered_in k h
sums w Semaphores h = omega arith
sums w _ h = omega arith

-- ---- the registered wakers of all families
-- an event wakes no more wakers than are registered
pub most_woken : (w : World) (i : ℕ) (e : Event) → length (step w i e).reply.1 ≤ registered w
unfolding step
most_woken w i e =
    let a = addressed e in
    omega (arith, (counted_in a.name (hall w a.name) i a.event).most, one_of_all w a.name)

-- and registers one at the most
pub grows : (w : World) (i : ℕ) (e : Event) → registered (step w i e).world ≤ registered w + 1
unfolding step
grows w i e =
    let a = addressed e in
    omega (arith, (counted_in a.name (hall w a.name) i a.event).grows, sums w a.name ((family a.name).step (hall w a.name) i a.event).hall)

-- in an empty world no waker is registered
pub none_registered : registered empty_world ≡ 0
none_registered = let semaphores : sem_waiters.waiters sem_hall.empty_hall ≡ 0 = total-empty (λ s r. sem_waiters.waiters_in r.queue) in
    let locks : lock_hall.registered lock_hall.empty_hall ≡ 0 = omega (arith, total-empty (λ o (r : LockRecord). length (waiting_at r)), total-empty (λ o (q : Waiting). length q)) in
    let chans : chan_hall.registered chan_hall.empty_hall ≡ 0 = omega (arith, total-empty (λ o (c : Mailbox). kept c), total-empty (λ o (r : Room). length (bounded.waiting_at r)), total-empty (λ o (c : Broadcast). length c.waiting)) in
    let shares : share_hall.registered share_hall.empty_hall ≡ 0 = total-empty (λ o (r : share_hall.Admission). waiting_in r.shares) in
    omega (arith, semaphores, meet_laws.none_registered, locks, chans, shares, once_laws.none_registered)

-- ---- all families, each with its next number
-- a family with its next number
abbrev pub part_in : Families → (k : FamilyName) → Part (family k).Hall
part_in f Semaphores = f.semaphores
part_in f Meets = f.meets
part_in f Locks = f.locks
part_in f Chans = f.chans
part_in f Shares = f.shares
part_in f Onces = f.onces

-- all families with this one in the place of a family
abbrev pub with_part : Families → (k : FamilyName) → Part (family k).Hall → Families
with_part f Semaphores p = record f { semaphores = p }
with_part f Meets p = record f { meets = p }
with_part f Locks p = record f { locks = p }
with_part f Chans p = record f { chans = p }
with_part f Shares p = record f { shares = p }
with_part f Onces p = record f { onces = p }

seen : (f : Families) (k : FamilyName) → hall (world_of f) k ≡ (part_in f k).hall
seen f Semaphores = refl
seen f _ = refl

placed : (f : Families) (k : FamilyName) (p : Part (family k).Hall) → world_of (with_part f k p) ≡ with_hall (world_of f) k p.hall
placed f Semaphores p = refl
placed f _ p = refl

below : (f : Families) (i : ℕ) (k : FamilyName) (p : Part (family k).Hall) → AreBelow f i → p.next ≤ i + 1 → AreBelow (with_part f k p) (i + 1)
below f i Semaphores p low next = search rules
below f i _ p low next = search rules

if_ok : {A E : Type 0} (P Q : A → Type 0) (r : Result A E) → ((a : A) → P a → Q a) → IfOk r P → IfOk r Q
if_ok P Q (Ok a) f h = f a h
if_ok P Q (Err e) f h = h

-- what was played on the family of an event was played on all
pub plays_one : (f : Families) (i : ℕ) → AreBelow f i → (k : FamilyName) (e : (family k).Event) (told : Event) → addressed told ≡ record { name = k; event = e }
    → (new : Part (family k).Hall) (before after : Waking ℕ) (r : Result Answer Stop)
    → IfOk r (λ answer. PartYields (registered_in k) (part_in f k) i ((family k).step (part_in f k).hall i e) answer new before after)
    → IfOk r (λ answer. PlaysFamilies f i told answer (with_part f k new) before after)
unfolding step OthersStay
plays_one f i low k e told is new before after r =
    if_ok
    (λ answer. PartYields (registered_in k) (part_in f k) i o answer new before after)
    (λ answer. PlaysFamilies f i told answer (with_part f k new) before after)
    r
    played
  where
    o : families.Outcome (family k).Hall
    o = (family k).step (part_in f k).hall i e

    steps : step (world_of f) i told ≡ outcome_in (world_of f) k o
    steps = ap (step_of (world_of f) i) is ∙ ap (λ h. outcome_in (world_of f) k ((family k).step h i e)) (seen f k)

    played : (answer : Answer) → PartYields (registered_in k) (part_in f k) i o answer new before after → PlaysFamilies f i told answer (with_part f k new) before after
    played answer yields = record {
      replied = yields.replied ∙ sym (ap (λ (s : Outcome). s.reply.0) steps);
      world = placed f k new ∙ ap (λ (p : Part (family k).Hall). with_hall (world_of f) k p.hall) yields.moved ∙ sym (ap (λ (s : Outcome). s.world) steps);
      alone = λ j other. ap (λ w. hall w j) (placed f k new) ∙ others_stay (world_of f) told (record { name = k; event = e }) is j other new.hall;
      woken = yields.woken ∙ ap (λ ws. before.wakers ++ ws) (sym (ap (λ (s : Outcome). s.reply.1) steps));
      counted = omega (
        arith,
        yields.counted,
        ap (λ (p : Part (family k).Hall). registered_in k p.hall) yields.moved,
        ap registered (placed f k new),
        ap (registered_in k) (seen f k),
        sums (world_of f) k new.hall,
      );
      below = below f i k new low (omega (arith, ap (λ (p : Part (family k).Hall). p.next) yields.moved));
    }
