-- how the jobs that are queued and those that run go together with what fair admission has
use Rattle.std.specs.Prelude.{ℕ, ◌≡◌, ◌+◌, ◌<◌, ◌≤◌, Bool, if◌then◌else◌, List, [], Option, Some, None, IsSome, nat_eq}
use Rattle.std.specs.FinMap.{empty, get, insert, remove, len}
use Rattle.mea_by_name.specs.ByName.{Names, seen}
use Rattle.mea_share_core.specs.declared.share_acquire.ShareStage.{ShareStage}
use Rattle.mea_share_core.specs.declared.share_acquire.ShareStage.TheVariants.{Queued}
use Rattle.mea_share_core.specs.Share.{Share, IsAdmitted, queued, readied}
use Rattle.mea_share_core.specs.Groups.{share_in, waiting_in, AreNumbered}
use Rattle.mea_share_core.specs.Fair.{Fair, IsSettled, share_of, Becomes}
use Rattle.mea_by_name.specs.Room.{Room}
use Rattle.mea_job_core.specs.Waiting.{Waiting}
use Rattle.mea_job_core.specs.Work.{Submission, Work, running_of, next_of}

-- what a waiting job asks for
abbrev pub submission_of : Waiting → Submission
submission_of x = record { key = x.key; value = x.value }

-- what the waiting jobs ask for, by number
abbrev pub submissions : Names Waiting → Names Submission
submissions q = seen submission_of q

-- the waker of a key under a number of its waiting acquires
abbrev pub waker_at : List (ℕ × Share ℕ) → ℕ → ℕ → Option ℕ
waker_at es k n = get (share_in nat_eq es k).waiting n

-- a key has weight 1, as many living permits as jobs of it run, and none that was admitted and not polled since
pub record IsCounted (s : Share ℕ) (running : ℕ) : Type 0 where
  pub weight : s.weight ≡ 1
  pub living : s.living ≡ running
  pub admitted : s.admitted ≡ empty

-- a job waits under this number of its key, and its waker is its own number
pub record Waits (es : List (ℕ × Share ℕ)) (m : ℕ) (x : Waiting) : Type 0 where
  pub number : ℕ
  pub stage : x.stage ≡ Queued number
  pub waker : waker_at es x.key number ≡ Some m

-- a job of this key is queued under this number
pub record IsQueued (q : Names Waiting) (k n m : ℕ) : Type 0 where
  pub job : Waiting
  pub there : get q m ≡ Some job
  pub key : job.key ≡ k
  pub stage : job.stage ≡ Queued n

-- the jobs that are queued, with their acquires, and those that run are those that fair admission has
pub record AreTied (es : List (ℕ × Share ℕ)) (next : ℕ) (q : Names Waiting) (r : Names ℕ) : Type 0 where
  pub numbered : AreNumbered nat_eq next es
  pub counted : (k : ℕ) → IsCounted (share_in nat_eq es k) (running_of r k)
  -- who is queued waits, and who waits is queued
  pub waits : (m : ℕ) (x : Waiting) → get q m ≡ Some x → Waits es m x
  pub is_queued : (k n m : ℕ) → waker_at es k n ≡ Some m → IsQueued q k n m
  pub as_many : waiting_in es ≡ len q
  -- the numbers of acquires rise as those of jobs do
  pub order : (k n m k' n' m' : ℕ) → waker_at es k n ≡ Some m → waker_at es k' n' ≡ Some m' → m < m' → n < n'
  -- who is queued does not run
  pub apart : (m : ℕ) → IsSome (get q m) → get r m ≡ None

-- an admission whose wakers were taken stands for these jobs
pub record IsFair (f : Fair ℕ ℕ) (q : Names Waiting) (r : Names ℕ) : Type 0 where
  pub tied : AreTied f.shares f.next q r
  pub settled : IsSettled f
  pub quiet : f.wakes ≡ []

-- the values of jobs
abbrev pub values : Names Submission → Names ℕ
values q = seen (λ (r : Submission). r.value) q

-- an acquire waits now, with this waker
pub record Asks (f : Fair ℕ ℕ) (k m : ℕ) (f' : Fair ℕ ℕ) (l : ℕ) (a : ShareStage) : Type 0 where
  pub key : l ≡ k
  pub stage : a ≡ Queued f.next
  pub becomes : Becomes nat_eq f f' k (queued (share_of nat_eq f k) f.next m) 0 (f.next + 1)

-- a queued job was admitted
pub record IsAdmittedJob (f : Fair ℕ ℕ) (q : Names Waiting) (m : ℕ) : Type 0 where
  pub job : Waiting
  pub number : ℕ
  pub there : get q m ≡ Some job
  pub stage : job.stage ≡ Queued number
  pub admitted : IsAdmitted (share_of nat_eq f job.key) number

-- it starts
abbrev pub StartsJob : Fair ℕ ℕ → Names Waiting → Room ℕ → ℕ → Fair ℕ ℕ → Names Waiting → Room ℕ → Type 0
StartsJob f q r m f' q' r' = (x : Waiting) (n : ℕ) → get q m ≡ Some x → x.stage ≡ Queued n
    → Becomes nat_eq f f' x.key (readied (share_of nat_eq f x.key) n) f.free f.next × (q' ≡ remove q m) × (r'.things ≡ insert r.things m x.key) × (r.spare ≤ r'.spare + 1)

-- the jobs after a running one is over and the next has started
pub record EndsBy (next : Option (ℕ × Submission)) (q : Names Waiting) (r : Names ℕ) (q' : Names Waiting) (r' : Names ℕ) : Type 0 where
  pub none : next ≡ None → (q' ≡ q) × (r' ≡ r)
  pub some : (job : ℕ × Submission) → next ≡ Some job → (q' ≡ remove q job.0) × (r' ≡ insert r job.0 job.1.key)

-- a running job is over, and the next of those that are queued starts, if there is one
abbrev pub EndsJob : Names Waiting → Names ℕ → ℕ → Names Waiting → Names ℕ → Type 0
EndsJob q r m q' r' = EndsBy (next_of (submissions q) (remove r m)) q (remove r m) q' r'

-- what is seen of the jobs: those that are queued are to be handed back once the service was stopped
abbrev pub work_seen : ℕ → Names Waiting → Names ℕ → Bool → Work
work_seen permits q r stopped = record {
  permits = permits;
  queued = if stopped then empty else submissions q;
  running = r;
  back = if stopped then values (submissions q) else empty;
  stopped = stopped;
}
