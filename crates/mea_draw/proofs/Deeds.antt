-- the deeds of events poll what the families say
use Rattle.std.proofs.Common.{◌≡◌, ◌==◌, ◌&&◌, ℕ, Bool, true, false, Option, Some, None, refl, ap, sym, ◌∙◌, if◌then◌else◌}
use Rattle.mea_events.specs.declared.event.Event.TheVariants.{Sem, Share}
use Rattle.mea_events.specs.declared.sem_event.SemEvent.{SemEvent}
use Rattle.mea_events.specs.declared.sem_event.SemEvent.TheVariants as sems
use Rattle.mea_events.specs.declared.meet_event.MeetEvent.{MeetEvent}
use Rattle.mea_events.specs.declared.meet_event.MeetEvent.TheVariants as meets
use Rattle.mea_events.specs.declared.lock_event.LockEvent.{LockEvent}
use Rattle.mea_events.specs.declared.lock_event.LockEvent.TheVariants as locks
use Rattle.mea_events.specs.declared.chan_event.ChanEvent.{ChanEvent}
use Rattle.mea_events.specs.declared.chan_event.ChanEvent.TheVariants as chans
use Rattle.mea_events.specs.declared.share_event.ShareEvent.{ShareEvent}
use Rattle.mea_events.specs.declared.share_event.ShareEvent.TheVariants as shares
use Rattle.mea_events.specs.declared.once_event.OnceEvent.{OnceEvent}
use Rattle.mea_events.specs.declared.once_event.OnceEvent.TheVariants as onces
use Rattle.mea_sem_model.specs.Runs as sem
use Rattle.mea_meet_model.specs.Hall as kinds
use Rattle.mea_meet_model.specs.Hall.{Latches, Shutdowns}
use Rattle.mea_meet_model.specs.BarrierActions.{polled_at}
use Rattle.mea_meet_model.specs.CountActions as counts
use Rattle.mea_meet_model.specs.Meaning as meet_meaning
use Rattle.mea_meet_model.specs.Meaning.{OnBarriers, OnCounts}
use Rattle.mea_meet_model.specs.Meets as meet
use Rattle.mea_lock_model.specs.LockHall.{Mutexes, RwLocks}
use Rattle.mea_lock_model.specs.Actions as lock_actions
use Rattle.mea_lock_model.specs.CondActions.{polled_on}
use Rattle.mea_lock_model.specs.Meaning as lock_meaning
use Rattle.mea_lock_model.specs.Meaning.{OnLocks, OnCondvars}
use Rattle.mea_lock_model.specs.LockFamily as lock
use Rattle.mea_chan_model.specs.ChanHall.{Unbounded, Oneshots, ReceiverOf}
use Rattle.mea_chan_model.specs.MailboxActions as mailboxes
use Rattle.mea_chan_model.specs.BoundedActions.{bounded_polled}
use Rattle.mea_chan_model.specs.BroadcastActions.{broadcast_polled}
use Rattle.mea_chan_model.specs.Meaning as chan_meaning
use Rattle.mea_chan_model.specs.Meaning.{OfChannels, OfBounded, OfBroadcasts, OfBoxes}
use Rattle.mea_chan_model.specs.ChanFamily as chan
use Rattle.mea_share_model.specs.ShareFamily as share
use Rattle.mea_once_model.specs.OnceHall as once_kinds
use Rattle.mea_once_model.specs.OnceHall.{Onces, OnceCells, Maps, Groups}
use Rattle.mea_once_model.specs.Actions as cells
use Rattle.mea_once_model.specs.KeyActions.{KeyAction, key_polled}
use Rattle.mea_once_model.specs.Meaning as once_meaning
use Rattle.mea_once_model.specs.Meaning.{OfCells, OfTables}
use Rattle.mea_once_model.specs.OnceFamily as once
use Rattle.mea_marks.specs.declared.sort.Sort.{Sort}
use Rattle.mea_marks.specs.declared.sort.Sort.TheVariants as sorts
use Rattle.mea_marks.specs.declared.thing.Thing.{Thing}
use Rattle.mea_marks.specs.Deeds.{deed_of, semaphore_deed, meet_deed, lock_deed, chan_deed, share_deed, once_deed}
use Rattle.mea_marks.specs.Marks.{thing_of}
use Rattle.mea_marks.specs.Sorts.{code_of}
use Rattle.mea_draw.specs.Model.{polled_by, meet_thing_as, lock_thing_as, chan_thing, once_thing, PollsAlike}

-- ---- what an event polls, by its meaning
-- the one sort of things that it may poll, and with which waker it polls the thing of a name, if it does
record Polling : Type 0 where
  sort : Sort
  waker : ℕ → Option ℕ

-- the waker with which a thing is polled
abbrev waker_for : Polling → Thing → Option ℕ
waker_for p x = if code_of p.sort == code_of x.sort then p.waker x.name else None

-- the thing of this sort and name is polled with w
polls : (a b : Bool) (w : ℕ) → (if a then (if b then Some w else None) else None) ≡ (if a && b then Some w else None)
polls true b w = refl
polls false b w = refl

-- nothing is polled
never : (a : Bool) → ◌≡◌ {A = Option ℕ} (if a then None else None) None
never true = refl
never false = refl

-- ---- semaphores
semaphores_poll : (e : SemEvent) (f : ℕ) → sem.waker_in e f ≡ polled_by (deed_of (Sem e)) (thing_of sorts.Acquire f)
unfolding semaphore_deed code_of
semaphores_poll (sems.Poll g w) f = refl
semaphores_poll _ f = refl

-- ---- meeting points
-- what an event of them polls
abbrev meet_polls : meet_meaning.Meaning → Polling
meet_polls (OnBarriers a) = record { sort = sorts.Arrival; waker = λ f. polled_at a f }
meet_polls (OnCounts Latches a) = record { sort = sorts.LatchWait; waker = λ f. counts.polled_in a f }
meet_polls (OnCounts kinds.Groups a) = record { sort = sorts.GroupWait; waker = λ f. counts.polled_in a f }
meet_polls (OnCounts Shutdowns a) = record { sort = sorts.Signal; waker = λ f. counts.polled_in a f }

-- by its meaning it polls the futures of its family
meets_by : (m : meet_meaning.Meaning) (s : meet.Sort) (f : ℕ) → meet.polled_by m s f ≡ waker_for (meet_polls m) (meet_thing_as s f)
unfolding code_of
meets_by (OnBarriers a) (meet.Of Latches) f = refl
meets_by (OnCounts Latches a) (meet.Of Latches) f = refl
meets_by (OnCounts kinds.Groups a) (meet.Of Latches) f = refl
meets_by (OnCounts Shutdowns a) (meet.Of Latches) f = refl
meets_by _ _ f = refl

-- and so does its deed
meets_deed : (e : MeetEvent) (x : Thing) → waker_for (meet_polls (meet_meaning.meaning_of e)) x ≡ polled_by (meet_deed e) x
unfolding meet_deed
meets_deed (meets.BarPoll g w) x = polls (code_of sorts.Arrival == code_of x.sort) (g == x.name) w
meets_deed (meets.LatPoll g w) x = polls (code_of sorts.LatchWait == code_of x.sort) (g == x.name) w
meets_deed (meets.WgPoll g w) x = polls (code_of sorts.GroupWait == code_of x.sort) (g == x.name) w
meets_deed (meets.SdPoll g w) x = polls (code_of sorts.Signal == code_of x.sort) (g == x.name) w
meets_deed e x = never (code_of (meet_polls (meet_meaning.meaning_of e)).sort == code_of x.sort)

-- ---- locks
-- what an event of locks and condition variables polls
abbrev lock_polls : lock_meaning.Meaning → Polling
lock_polls (OnLocks Mutexes a) = record { sort = sorts.Lock; waker = λ f. lock_actions.polled_in a f }
lock_polls (OnLocks RwLocks a) = record { sort = sorts.Access; waker = λ f. lock_actions.polled_in a f }
lock_polls (OnCondvars a) = record { sort = sorts.CondvarWait; waker = λ f. polled_on a f }

locks_by : (m : lock_meaning.Meaning) (s : lock.Sort) (f : ℕ) → lock.polled_by m s f ≡ waker_for (lock_polls m) (lock_thing_as s f)
unfolding code_of
locks_by (OnLocks Mutexes a) (lock.Of Mutexes) f = refl
locks_by (OnLocks RwLocks a) (lock.Of Mutexes) f = refl
locks_by (OnCondvars a) (lock.Of Mutexes) f = refl
locks_by _ _ f = refl

locks_deed : (e : LockEvent) (x : Thing) → waker_for (lock_polls (lock_meaning.meaning_of e)) x ≡ polled_by (lock_deed e) x
unfolding lock_deed
locks_deed (locks.MxPoll g w) x = polls (code_of sorts.Lock == code_of x.sort) (g == x.name) w
locks_deed (locks.RwPoll g w) x = polls (code_of sorts.Access == code_of x.sort) (g == x.name) w
locks_deed (locks.CvPoll g w) x = polls (code_of sorts.CondvarWait == code_of x.sort) (g == x.name) w
locks_deed e x = never (code_of (lock_polls (lock_meaning.meaning_of e)).sort == code_of x.sort)

-- ---- channels and boxes
-- what an event of channels polls; a box is never polled
abbrev chan_polls : chan_meaning.Meaning → Polling
chan_polls (OfChannels Unbounded a) = record { sort = sorts.Receive; waker = λ f. mailboxes.polled_in a f }
chan_polls (OfChannels Oneshots a) = record { sort = sorts.OneshotReceive; waker = λ f. mailboxes.polled_in a f }
chan_polls (OfBounded a) = record { sort = sorts.BoundedReceive; waker = λ f. bounded_polled a f }
chan_polls (OfBroadcasts a) = record { sort = sorts.Hear; waker = λ f. broadcast_polled a f }
chan_polls (OfBoxes k a) = record { sort = sorts.AtomicBox; waker = λ f. None }

chans_by : (m : chan_meaning.Meaning) (x : chan.Future) → chan.polled_by m x ≡ waker_for (chan_polls m) (chan_thing x)
unfolding code_of
chans_by (OfChannels Unbounded a) (chan.Receives (ReceiverOf Unbounded) f) = refl
chans_by (OfChannels Oneshots a) (chan.Receives (ReceiverOf Unbounded) f) = refl
chans_by (OfBounded a) (chan.Receives (ReceiverOf Unbounded) f) = refl
chans_by (OfBroadcasts a) (chan.Receives (ReceiverOf Unbounded) f) = refl
chans_by (OfBoxes k a) (chan.Receives (ReceiverOf Unbounded) f) = refl
chans_by _ _ = refl

-- a send, which a deed polls too, is no future of the family
no_send : (x : chan.Future) → (code_of sorts.Send == code_of (chan_thing x).sort) ≡ false
unfolding code_of
no_send (chan.Receives (ReceiverOf Unbounded) f) = refl
no_send _ = refl

chans_deed : (e : ChanEvent) (x : Thing) → (code_of sorts.Send == code_of x.sort) ≡ false → waker_for (chan_polls (chan_meaning.meaning_of e)) x ≡ polled_by (chan_deed e) x
unfolding chan_deed
chans_deed (chans.MbPoll g w) x other = never (code_of sorts.BoundedReceive == code_of x.sort) ∙ sym (ap (λ b. if b && (g == x.name) then Some w else None) other)
chans_deed (chans.MbRecv g w) x other = polls (code_of sorts.BoundedReceive == code_of x.sort) (g == x.name) w
chans_deed (chans.MuRecv g w) x other = polls (code_of sorts.Receive == code_of x.sort) (g == x.name) w
chans_deed (chans.BcPoll g w) x other = polls (code_of sorts.Hear == code_of x.sort) (g == x.name) w
chans_deed (chans.OsPoll g w) x other = polls (code_of sorts.OneshotReceive == code_of x.sort) (g == x.name) w
chans_deed e x other = never (code_of (chan_polls (chan_meaning.meaning_of e)).sort == code_of x.sort)

-- ---- fair admission
shares_poll : (e : ShareEvent) (f : ℕ) → share.polled e f ≡ polled_by (deed_of (Share e)) (thing_of sorts.Admit f)
unfolding share_deed code_of
shares_poll (shares.FsPoll g w) f = refl
shares_poll _ f = refl

-- ---- once types
-- what an event of cells polls
abbrev cell_polls : once_kinds.Kind → cells.Action → Polling
cell_polls Onces a = record { sort = sorts.CallWait; waker = λ f. cells.polled_in a f }
cell_polls OnceCells a = record { sort = sorts.CellWait; waker = λ f. cells.polled_in a f }

-- and one of maps or groups
abbrev table_polls : once_kinds.TableKind → KeyAction → Polling
table_polls Maps a = record { sort = sorts.MapWait; waker = λ f. key_polled a f }
table_polls Groups a = record { sort = sorts.FlightWait; waker = λ f. key_polled a f }

-- and one of either
abbrev once_polls : once_meaning.Meaning → Polling
once_polls (OfCells d) = cell_polls d.kind d.action
once_polls (OfTables d) = table_polls d.kind d.action

cells_by : (k : once_kinds.Kind) (a : cells.Action) (x : once.Future) → once.polled_by (OfCells (record { kind = k; action = a })) x ≡ waker_for (cell_polls k a) (once_thing x)
unfolding code_of
cells_by Onces a (once.AtCell Onces f) = refl
cells_by Onces a (once.ByKey Maps f) = refl
cells_by OnceCells a (once.AtCell Onces f) = refl
cells_by OnceCells a (once.ByKey Maps f) = refl
cells_by _ a _ = refl

tables_by : (k : once_kinds.TableKind) (a : KeyAction) (x : once.Future) → once.polled_by (OfTables (record { kind = k; action = a })) x ≡ waker_for (table_polls k a) (once_thing x)
unfolding code_of
tables_by Maps a (once.AtCell Onces f) = refl
tables_by Maps a (once.ByKey Maps f) = refl
tables_by Groups a (once.AtCell Onces f) = refl
tables_by Groups a (once.ByKey Maps f) = refl
tables_by _ a _ = refl

onces_by : (m : once_meaning.Meaning) (x : once.Future) → once.polled_by m x ≡ waker_for (once_polls m) (once_thing x)
onces_by (OfCells d) x = cells_by d.kind d.action x
onces_by (OfTables d) x = tables_by d.kind d.action x

onces_deed : (e : OnceEvent) (x : Thing) → waker_for (once_polls (once_meaning.meaning_of e)) x ≡ polled_by (once_deed e) x
unfolding once_deed
onces_deed (onces.OnPoll g w) x = polls (code_of sorts.CallWait == code_of x.sort) (g == x.name) w
onces_deed (onces.OcPoll g w) x = polls (code_of sorts.CellWait == code_of x.sort) (g == x.name) w
onces_deed (onces.OmPoll g w) x = polls (code_of sorts.MapWait == code_of x.sort) (g == x.name) w
onces_deed (onces.SfPoll g w) x = polls (code_of sorts.FlightWait == code_of x.sort) (g == x.name) w
onces_deed e x = never (code_of (once_polls (once_meaning.meaning_of e)).sort == code_of x.sort)

pub polls_alike : PollsAlike
polls_alike = record {
  semaphores = semaphores_poll;
  meets = λ e f. meets_by (meet_meaning.meaning_of e) f.sort f.name ∙ meets_deed e (meet_thing_as f.sort f.name);
  locks = λ e f. locks_by (lock_meaning.meaning_of e) f.sort f.name ∙ locks_deed e (lock_thing_as f.sort f.name);
  chans = λ e f. chans_by (chan_meaning.meaning_of e) f ∙ chans_deed e (chan_thing f) (no_send f);
  shares = shares_poll;
  onces = λ e f. onces_by (once_meaning.meaning_of e) f ∙ onces_deed e (once_thing f);
}
