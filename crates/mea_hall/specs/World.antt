-- the halls of all families, and what an event does to them
use Rattle.std.specs.Prelude.{ℕ, ◌+◌, ◌≡◌, ◌++◌, List, Option, Some, None, refl}
use Rattle.std.specs.Coded.{Coded, code_by, coded×, coded_ℕ, coded_list}
use Rattle.mea_family.specs.declared.answer.Answer.{Answer}
use Rattle.mea_family.specs.declared.stop.Stop.{Stop}
use Rattle.mea_family.specs.Family as families
use Rattle.mea_family.specs.Family.{Family}
use Rattle.mea_sem_model.specs.Hall as sem
use Rattle.mea_sem_model.specs.Runs.{semaphores}
use Rattle.mea_sem_model.specs.Valid as sem_valid
use Rattle.mea_sem_model.specs.Waiters as sem_waiters
use Rattle.mea_sem.specs.Play as sem_plays
use Rattle.mea_meet_model.specs.Hall as meet
use Rattle.mea_meet_model.specs.Meets.{meets}
use Rattle.mea_meet_model.specs.Valid as meet_valid
use Rattle.mea_meet.specs.Halls as meet_plays
use Rattle.mea_lock_model.specs.LockHall as lock
use Rattle.mea_lock_model.specs.LockFamily.{locks_family}
use Rattle.mea_lock_model.specs.Valid as lock_valid
use Rattle.mea_lock.specs.Halls as lock_plays
use Rattle.mea_chan_model.specs.ChanHall as chan
use Rattle.mea_chan_model.specs.ChanFamily.{chans_family}
use Rattle.mea_chan_model.specs.Valid as chan_valid
use Rattle.mea_chan.specs.Halls as chan_plays
use Rattle.mea_share_model.specs.Admissions as share
use Rattle.mea_share_model.specs.ShareFamily.{shares_family}
use Rattle.mea_share_model.specs.Valid as share_valid
use Rattle.mea_share.specs.Lends as share_lends
use Rattle.mea_share.specs.Halls as share_plays
use Rattle.mea_once_model.specs.OnceHall as once
use Rattle.mea_once_model.specs.OnceFamily.{onces_family}
use Rattle.mea_once_model.specs.Valid as once_valid
use Rattle.mea_once.specs.Halls as once_plays
use Rattle.mea_events.specs.declared.event.Event.{Event}
use Rattle.mea_events.specs.declared.event.Event.TheVariants.{Sem, Meet, Lock, Chan, Share, Once}

pub record World : Type 0 where
  pub semaphores : sem.Hall
  pub meets : meet.Hall
  pub locks : lock.LockHall
  pub chans : chan.ChanHall
  pub shares : share.ShareHall
  pub onces : once.OnceHall

abbrev pub empty_world : World
empty_world = record { semaphores = sem.empty_hall; meets = meet.empty_hall; locks = lock.empty_hall; chans = chan.empty_hall; shares = share.empty_hall; onces = once.empty_hall }

-- the families, by name
pub data FamilyName : Type 0 where
  Semaphores Meets Locks Chans Shares Onces : FamilyName

-- a family in the world: its model, its hall there, the world with another in place of that hall, and how many wakers an
-- event may still make ready
pub record Embedding : Type 1 where
  pub family : Family
  pub hall : World → family.Hall
  pub with_hall : World → family.Hall → World
  pub registered : family.Hall → ℕ

-- each family in the world
abbrev pub embedding : FamilyName → Embedding
embedding Semaphores = record { family = semaphores; hall = λ w. w.semaphores; with_hall = λ w h. record w { semaphores = h }; registered = sem_waiters.waiters }
embedding Meets = record { family = meets; hall = λ w. w.meets; with_hall = λ w h. record w { meets = h }; registered = meet.registered }
embedding Locks = record { family = locks_family; hall = λ w. w.locks; with_hall = λ w h. record w { locks = h }; registered = lock.registered }
embedding Chans = record { family = chans_family; hall = λ w. w.chans; with_hall = λ w h. record w { chans = h }; registered = chan.registered }
embedding Shares = record { family = shares_family; hall = λ w. w.shares; with_hall = λ w h. record w { shares = h }; registered = share.registered }
embedding Onces = record { family = onces_family; hall = λ w. w.onces; with_hall = λ w h. record w { onces = h }; registered = once.registered }

-- the model of a family
abbrev pub family : FamilyName → Family
family k = (embedding k).family

-- the hall of a family
abbrev pub hall : World → (k : FamilyName) → (family k).Hall
hall w k = (embedding k).hall w

-- the world with this one as the hall of a family
abbrev pub with_hall : World → (k : FamilyName) → (family k).Hall → World
with_hall w k h = (embedding k).with_hall w h

-- an event with the family that it is of
pub record Addressed : Type 0 where
  pub name : FamilyName
  pub event : (family name).Event

-- each event goes to its family
abbrev pub addressed : Event → Addressed
addressed (Sem e) = record { name = Semaphores; event = e }
addressed (Meet e) = record { name = Meets; event = e }
addressed (Lock e) = record { name = Locks; event = e }
addressed (Chan e) = record { name = Chans; event = e }
addressed (Share e) = record { name = Shares; event = e }
addressed (Once e) = record { name = Onces; event = e }

-- an event as one of this family, if it is one
abbrev pub event_in : (k : FamilyName) → Event → Option (family k).Event
event_in Semaphores (Sem e) = Some e
event_in Meets (Meet e) = Some e
event_in Locks (Lock e) = Some e
event_in Chans (Chan e) = Some e
event_in Shares (Share e) = Some e
event_in Onces (Once e) = Some e
event_in _ _ = None

-- why an event is refused, if it is: the cause of its own family
unfoldable pub cause_of : World → Event → Option Stop
cause_of w (Sem e) = semaphores.cause w.semaphores e
cause_of w (Meet e) = meets.cause w.meets e
cause_of w (Lock e) = locks_family.cause w.locks e
cause_of w (Chan e) = chans_family.cause w.chans e
cause_of w (Share e) = shares_family.cause w.shares e
cause_of w (Once e) = onces_family.cause w.onces e

-- what an event leaves, and what it tells: its reply with its wakes
pub record Outcome : Type 0 where
  pub world : World
  pub reply : Answer × List ℕ

-- what an event of a family leaves and tells, of which this is the outcome in the family's hall
abbrev pub outcome_in : World → (k : FamilyName) → families.Outcome (family k).Hall → Outcome
outcome_in w k o = record { world = with_hall w k o.hall; reply = (o.reply, o.wakes) }

-- event number i, which goes to this family
abbrev pub step_of : World → ℕ → Addressed → Outcome
step_of w i a = outcome_in w a.name ((family a.name).step (hall w a.name) i a.event)

-- event number i changes the hall of its own family alone
unfoldable pub step : World → ℕ → Event → Outcome
step w i e = step_of w i (addressed e)

-- the halls of the families that it is not of are as they were
unfoldable pub OthersStay : Event → World → World → Type 0
OthersStay e old new = (k : FamilyName) → event_in k e ≡ None → hall new k ≡ hall old k

-- how many wakers an event may still make ready
abbrev pub registered : World → ℕ
registered w = sem_waiters.waiters w.semaphores + meet.registered w.meets + lock.registered w.locks + chan.registered w.chans + share.registered w.shares + once.registered w.onces

-- what holds of the halls that events reach, where n events were played
pub record IsValid (w : World) (n : ℕ) : Type 0 where
  pub semaphores : sem_valid.IsValid w.semaphores
  pub meets : meet_valid.IsValid w.meets n
  pub locks : lock_valid.AllFit w.locks
  pub chans : chan_valid.AllValid w.chans
  pub shares : share_valid.AreValid w.shares
  pub settled : share_lends.AreSettled w.shares
  pub onces : once_valid.IsValid w.onces n

-- halls in play: the wakers that are ready, and how many events were played
pub record Play : Type 0 where
  pub world : World
  pub wakes : List ℕ
  pub events : ℕ

abbrev pub world_code : Coded World
world_code =
    code_by (sem.Hall × (meet.Hall × (lock.LockHall × ((chan.ChanHall × share.ShareHall) × once.OnceHall)))) (coded× sem.hall_code (coded× meet.hall_code (coded× lock.hall_code (coded× (coded× chan.hall_code share.hall_code) once.hall_code))))
    (λ w. (w.semaphores, (w.meets, (w.locks, ((w.chans, w.shares), w.onces))))) (λ p. record { semaphores = p.0; meets = p.1.0; locks = p.1.1.0; chans = p.1.1.1.0.0; shares = p.1.1.1.0.1; onces = p.1.1.1.1 }) (λ _. refl)

abbrev pub play_code : Coded Play
play_code = code_by (World × (List ℕ × ℕ)) (coded× world_code (coded× (coded_list coded_ℕ) coded_ℕ)) (λ p. (p.world, (p.wakes, p.events))) (λ p. record { world = p.0; wakes = p.1.0; events = p.1.1 }) (λ _. refl)

-- the next event is played with this reply
pub record Plays (old : Play) (event : Event) (answer : Answer) (new : Play) : Type 0 where
  pub replied : answer ≡ (step old.world old.events event).reply.0
  pub world : new.world ≡ (step old.world old.events event).world
  pub woken : new.wakes ≡ old.wakes ++ (step old.world old.events event).reply.1
  pub counted : new.events ≡ old.events + 1

-- the events that take no memory
unfoldable pub TakesNoMemory : Event → Type 0
TakesNoMemory (Sem e) = sem_plays.TakesNoMemory e
TakesNoMemory (Meet e) = meet_plays.TakesNoMemory e
TakesNoMemory (Lock e) = lock_plays.TakesNoMemory e
TakesNoMemory (Chan e) = chan_plays.TakesNoMemory e
TakesNoMemory (Share e) = share_plays.TakesNoMemory e
TakesNoMemory (Once e) = once_plays.TakesNoMemory e
