-- what the program over a crew reads and writes
use Rattle.std.specs.Prelude.{ℕ, ◌≡◌, ◌≢◌, ◌+◌, ◌*◌, ◌≤◌, ◌++◌, ◌⊎◌, Bool, List, [], ◌∷◌, codes, length, count_by, slice_get, Some}
use Rattle.std.specs.Fmt.{decimal}
use Rattle.mea_family.specs.declared.answer.Answer.{Answer}
use Rattle.mea_family.specs.declared.answer.Answer.TheVariants.{Account}
use Rattle.mea_text.specs.Text.{counted_line}
use Rattle.mea_text.specs.Reply.{reply_text}
use Rattle.mea_events.specs.declared.sem_event.SemEvent.TheVariants.{New}
use Rattle.mea_sem_model.specs.Step.{ledger_of}
use Rattle.mea_recorded.specs.History.{History, IsHistory, hall_after}
use Rattle.mea_recorded.specs.Closing.{Explains, BeginsOtherwise}
use Rattle.mea_recorded.specs.declared.mismatch.Mismatch.{Mismatch}
use Rattle.mea_recorded.specs.declared.pass.Noted.{Noted}
use Rattle.mea_family.specs.declared.stop.Stop.TheVariants as stops
use Rattle.mea_crew_run.specs.Rounds.{is_held, is_lacking, AreRounds, IsRefusal}
use Rattle.mea_crew_run.specs.declared.fault.CrewFault.{CrewFault}
use Rattle.mea_crew_run.specs.declared.fault.CrewFault.TheVariants as faults
use Rattle.mea_crew_run.specs.declared.status.CrewStatus.{CrewStatus}
use Rattle.mea_crew_run.specs.declared.status.CrewStatus.TheVariants as statuses

abbrev pub code_of : CrewStatus → ℕ
code_of statuses.Done = 0
code_of statuses.WriteFault = 5
code_of statuses.NoMemory = 6
code_of statuses.Usage = 7
code_of statuses.Mismatch = 8
code_of statuses.Refused = 9

-- how many of these replies have such an answer
abbrev pub answers : (Answer → Bool) → List (Answer × List ℕ) → ℕ
answers is rs = count_by {X = Answer × List ℕ} (λ r. is r.0) rs

-- four lines: how many entries there are, how many answers are `some` and `none`, and the account of semaphore 0
abbrev pub text_of : History → List ℕ
text_of h = counted_line (codes "calls") (length h.events) ++ counted_line (codes "some") (answers is_held h.replies) ++ counted_line (codes "none") (answers is_lacking h.replies)
    ++ reply_text (Account (ledger_of (hall_after h.events) 0)) []

-- the history of so many workers with so many rounds each
pub record IsOfCrew (workers rounds : ℕ) (h : History) : Type 0 where
  pub history : IsHistory h
  -- the crew shares a semaphore of two permits
  pub begins : slice_get h.events 0 ≡ Some (New 2)
  pub least : 1 + workers * rounds ≤ length h.events
  pub most : length h.events ≤ 1 + 2 * (workers * rounds)

-- the words are `crew` and two numbers in range
abbrev pub IsCrew : List (List ℕ) → ℕ → ℕ → Type 0
IsCrew words workers rounds = (words ≡ codes "crew" ∷ decimal workers ∷ decimal rounds ∷ []) × (1 ≤ workers) × (workers ≤ 8) × (rounds ≤ 10000)

abbrev pub IsCommand : List (List ℕ) → Type 0
IsCommand words = (workers : ℕ) × (rounds : ℕ) × IsCrew words workers rounds

-- the receipts of a worker of so many rounds, or the first event of a semaphore of two permits, differ from a history
abbrev pub IsMismatch : ℕ → Mismatch → Type 0
IsMismatch rounds m = (h : History) × IsHistory h × (((ns : List Noted) × AreRounds rounds ns × Explains h m ns) ⊎ BeginsOtherwise h (New 2) m)

-- why the workers of a crew gave no passes: want of memory, or a refusal for a cause, and never for want of memory by that name
abbrev pub IsWorkFault : CrewFault → Type 0
IsWorkFault faults.NoMemory = Unit {0}
IsWorkFault (faults.Refused r) = (r.stop ≢ stops.NoMemory) × IsRefusal r
IsWorkFault (faults.Mismatch m) = ⊥

-- why a crew of so many rounds gave no history: that, or a mismatch
abbrev pub IsCrewFault : ℕ → CrewFault → Type 0
IsCrewFault rounds faults.NoMemory = Unit {0}
IsCrewFault rounds (faults.Refused r) = (r.stop ≢ stops.NoMemory) × IsRefusal r
IsCrewFault rounds (faults.Mismatch m) = IsMismatch rounds m

-- the status that tells of a fault
abbrev pub status_of : CrewFault → CrewStatus
status_of faults.NoMemory = statuses.NoMemory
status_of (faults.Refused r) = statuses.Refused
status_of (faults.Mismatch m) = statuses.Mismatch
