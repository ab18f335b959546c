-- the generated script, and the summary of what it gives
use Rattle.std.specs.Prelude.{ℕ, zero, suc, ◌≡◌, ◌≢◌, ◌+◌, ◌*◌, ◌/◌, ◌%◌, ◌++◌, Bool, true, false, List, [], ◌∷◌, map, length, Some, None, codes, if◌then◌else◌}
use Rattle.std.specs.List.{sum_by}
use Rattle.std.specs.FinMap as finmap
use Rattle.mea_family.specs.declared.answer.Answer.{Answer}
use Rattle.mea_family.specs.declared.answer.Answer.TheVariants as answers
use Rattle.mea_family.specs.Family.{is_pending}
use Rattle.mea_events.specs.declared.sem_event.SemEvent.{SemEvent}
use Rattle.mea_events.specs.declared.sem_event.SemEvent.TheVariants as events
use Rattle.mea_sem_model.specs.Hall as sem
use Rattle.mea_sem_model.specs.Cause.{is_named}
use Rattle.mea_events.specs.declared.event.Event.{Event}
use Rattle.mea_events.specs.declared.event.Event.TheVariants.{Sem, Meet, Lock, Chan, Share, Once}
use Rattle.mea_family.specs.declared.stop.Stop.{Stop}
use Rattle.mea_family.specs.declared.stop.Stop.TheVariants as stops
use Rattle.mea_hall.specs.World.{Play}
use Rattle.mea_hall.specs.Front.{front_from, front_of}
use Rattle.mea_text.specs.Text.{counted_line}
use Rattle.mea_text.specs.Reply.{reply_text}

-- ---- drawn numbers

-- the state after one draw
abbrev pub drawn : ℕ → ℕ
drawn state = (1103515245 * state + 12345) % 2147483648

-- the state after so many draws
abbrev pub drawn_by : ℕ → ℕ → ℕ
drawn_by zero state = state
drawn_by (suc n) state = drawn_by n (drawn state)

-- the number that draw n gives
abbrev pub draw : ℕ → ℕ → ℕ
draw n state = drawn_by n state / 65536

-- ---- the script

-- a round, whose first line has the number f, with two wakers and four numbers: two acquires wait, some
-- permits are forgotten and some released, both acquires end, and all free permits are forgotten
abbrev pub round : ℕ → ℕ → ℕ → ℕ → ℕ → ℕ → ℕ → List SemEvent
round f v w a b c d =
    events.Acq 0 (1 + a % 4) ∷ events.Poll f v ∷ events.Acqo 0 (1 + b % 4) ∷ events.Poll (f + 2) w ∷ events.Forgetx 0 (c % 3) ∷ events.Release 0 (d % 8)
    ∷ events.End f ∷ events.End (f + 2) ∷ events.Forget 0 18446744073709551615 ∷ []

-- round j, with the next four draws
abbrev pub round_of : ℕ → ℕ → List Event
round_of state j = map (λ e. Sem e) (round (1 + 9 * j) (2 * j) (2 * j + 1) (draw 1 state) (draw 2 state) (draw 3 state) (draw 4 state))

-- n rounds, from round j on
abbrev pub rounds_from : ℕ → ℕ → ℕ → List Event
rounds_from state j zero = []
rounds_from state j (suc n) = round_of state j ++ rounds_from (drawn_by 4 state) (j + 1) n

-- the state before the first draw
abbrev pub first_state : ℕ → ℕ
first_state seed = seed % 2147483648

-- a semaphore without permits, the rounds, and its account
abbrev pub script_of : ℕ → ℕ → List Event
script_of seed rounds = Sem (events.New 0) ∷ (rounds_from (first_state seed) 0 rounds ++ Sem (events.Ledger 0) ∷ [])

-- ---- what a script gives

-- whether an event of semaphores is a poll
abbrev pub is_semaphore_poll : SemEvent → Bool
is_semaphore_poll (events.Poll f w) = true
is_semaphore_poll _ = false

-- whether this is a poll; generated scripts have those of semaphores alone
abbrev pub is_poll : Event → Bool
is_poll (Sem e) = is_semaphore_poll e
is_poll (Meet e) = false
is_poll (Lock e) = false
is_poll (Chan e) = false
is_poll (Share e) = false
is_poll (Once e) = false

-- each poll among these events has the reply `pending`
abbrev pub PollsWait : List Event → List (Answer × List ℕ) → Type 0
PollsWait [] rs = Unit {0}
PollsWait (e ∷ es) [] = Unit {0}
PollsWait (e ∷ es) (r ∷ rs) = (is_poll e ≡ true → r.0 ≡ answers.Pending) × PollsWait es rs

-- how many replies are `pending`
abbrev pub pendings : List (Answer × List ℕ) → ℕ
pendings replies = sum_by {X = Answer × List ℕ} (λ r. if is_pending r.0 then 1 else 0) replies

-- how many wakes there are in all
abbrev pub wakes_in : List (Answer × List ℕ) → ℕ
wakes_in replies = sum_by {X = Answer × List ℕ} (λ r. length r.1) replies

-- the text of the last reply
abbrev pub last_text : List (Answer × List ℕ) → List ℕ
last_text [] = []
last_text (r ∷ []) = reply_text r.0 r.1
last_text (r ∷ next ∷ rs) = last_text (next ∷ rs)

-- four lines: how many events there are, how many replies are `pending`, how many wakes there are, and the
-- last reply
abbrev pub summary : List Event → List (Answer × List ℕ) → List ℕ
summary es rs = counted_line (codes "events") (length es) ++ counted_line (codes "pending") (pendings rs) ++ counted_line (codes "wakes") (wakes_in rs) ++ last_text rs

-- the summary of the script of this seed and so many rounds
abbrev pub summary_of : ℕ → ℕ → List ℕ
summary_of seed rounds = summary (script_of seed rounds) (front_of (script_of seed rounds)).replies

-- ---- a round that is played

-- from this hall on, with so many replies `pending` and so many wakes counted before, round j was played whole
pub record PlaysRound (old : Play) (pending wakes state j : ℕ) (new : Play) (pending_after wakes_after : ℕ) : Type 0 where
  pub events : List Event
  pub is_round : events ≡ round_of state j
  pub allowed : (front_from old.world old.events events).cause ≡ None
  pub hall : new ≡ record { world = (front_from old.world old.events events).world; wakes = []; events = old.events + length events }
  pub pending_is : pending_after ≡ pending + pendings (front_from old.world old.events events).replies
  pub wakes_is : wakes_after ≡ wakes + wakes_in (front_from old.world old.events events).replies

-- but for want of memory, it was refused for a cause that an event of it has
pub record RefusesRound (old : Play) (state j : ℕ) (stop : Stop) : Type 0 where
  pub events : List Event
  pub is_round : events ≡ round_of state j
  pub caused : stop ≢ stops.NoMemory → (front_from old.world old.events events).cause ≡ Some stop

-- ---- why a generated script is legal

-- the script up to the end of its first rounds
abbrev pub begun_by : ℕ → ℕ → List Event
begun_by seed rounds = Sem (events.New 0) ∷ rounds_from (first_state seed) 0 rounds

-- a hall between two rounds: semaphore 0 is named and not closed, and has no free permit, so that each
-- acquire of at least one permit waits; no future and no permit lives. Debts alone may be left in the queue
pub record IsBetweenRounds (h : sem.Hall) : Type 0 where
  pub named : is_named h 0 ≡ true
  pub is_open : sem.is_closed h 0 ≡ false
  pub none_free : sem.free h 0 ≡ 0
  pub no_future : (f : ℕ) → finmap.get h.futures f ≡ None
  pub no_permit : (p : ℕ) → finmap.get h.permits p ≡ None
