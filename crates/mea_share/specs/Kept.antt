-- the admissions, futures and permits as the hall keeps them: what is seen of them, and what they keep to
use Rattle.std.specs.Prelude.{ℕ, ◌≡◌, ◌+◌, ◌≢◌, ◌≤◌, Bool, not, List, [], Option, Some, None, nat_eq, refl}
use Rattle.std.specs.Coded.{Coded, code_by, coded×, coded_ℕ, coded_bool}
use Rattle.std.specs.FinMap.{get, len, retain_keys}
use Rattle.mea_by_name.specs.ByName.{Names, kept, seen, count}
use Rattle.mea_by_name.specs.HallKept.{HallKept}
use Rattle.mea_share_core.specs.declared.share_acquire.ShareStage.{ShareStage}
use Rattle.mea_share_core.specs.declared.share_acquire.ShareStage.TheVariants.{New, Queued, Done}
use Rattle.mea_share_core.specs.Share.{Share}
use Rattle.mea_share_core.specs.Groups.{share_in, held_in, waiting_in}
use Rattle.mea_share_core.specs.Fair.{Fair, fair_code, IsSettled, is_queued}
use Rattle.mea_share_model.specs.Next as next_of
use Rattle.mea_share_model.specs.Next.{Shares, is_idle}
use Rattle.mea_share_model.specs.Admissions.{Admission, ShareFuture, SharePermit, ShareHall}
use Rattle.mea_share_model.specs.Valid.{AreValid}

-- the core of an admission, whether it is named, how many futures and permits it has, and how many of them are plain
pub record KeptAdmission : Type 0 where
  pub fair : Fair ℕ ℕ
  pub named : Bool
  pub things : ℕ
  pub plain : ℕ

-- by which a proof tells two of them apart
abbrev pub kept_admission_code : Coded KeptAdmission
kept_admission_code =
    code_by (Fair ℕ ℕ × (Bool × (ℕ × ℕ))) (coded× (fair_code coded_ℕ coded_ℕ) (coded× coded_bool (coded× coded_ℕ coded_ℕ)))
    (λ e. (e.fair, (e.named, (e.things, e.plain)))) (λ p. record { fair = p.0; named = p.1.0; things = p.1.1.0; plain = p.1.1.1 }) (λ _. refl)

-- whose a future is, its key, how far its acquire is, and whether it is plain
pub record KeptFuture : Type 0 where
  pub admission : ℕ
  pub key : ℕ
  pub stage : ShareStage
  pub plain : Bool

-- ---- what is seen of each thing
-- what each key has, of which something is left
abbrev pub shares_seen : List (ℕ × Share ℕ) → Shares
shares_seen es = retain_keys (kept es) (λ k. not (is_idle (share_in nat_eq es k)))

-- an admission
abbrev pub admission_seen : KeptAdmission → Admission
admission_seen e = record { free = e.fair.free; next = e.fair.next; shares = shares_seen e.fair.shares; named = e.named }

-- the number of a future that waits or was admitted
abbrev pub number_of : ShareStage → Option ℕ
number_of New = None
number_of (Queued n) = Some n
number_of Done = None

-- a future
abbrev pub future_seen : KeptFuture → ShareFuture
future_seen x = record { admission = x.admission; key = x.key; plain = x.plain; number = number_of x.stage }

-- all of them
abbrev pub hall_seen : Names KeptAdmission → Names KeptFuture → Names SharePermit → ShareHall
hall_seen es fs ps = record { admissions = seen admission_seen es; futures = seen future_seen fs; permits = ps }

-- ---- what is kept to
-- an admission with its futures and permits
pub record AreGood (e : KeptAdmission) (fs : Names KeptFuture) (ps : Names SharePermit) : Type 0 where
  -- its wakers are handed on after each event
  pub quiet : e.fair.wakes ≡ []
  pub settled : IsSettled e.fair
  pub waiting : waiting_in e.fair.shares ≡ next_of.waiting_in (shares_seen e.fair.shares)
  -- a future that is ready is gone
  pub lasting : (f : ℕ) (x : KeptFuture) → get fs f ≡ Some x → x.stage ≢ Done
  pub things : e.things ≡ len fs + len ps
  pub plain : e.plain ≡ count (λ (x : KeptFuture). x.plain) fs + count (λ (x : SharePermit). x.plain) ps

-- who waits, and what is held, is of futures that were polled and of permits
pub record AreKept (e : KeptAdmission) (fs : Names KeptFuture) (ps : Names SharePermit) : Type 0 where
  pub good : AreGood e fs ps
  pub owned : waiting_in e.fair.shares + held_in e.fair.shares ≤ count (λ (x : KeptFuture). is_queued x.stage) fs + len ps

-- whose a future is
abbrev pub of_future : KeptFuture → ℕ
of_future x = x.admission

-- whose a permit is
abbrev pub of_permit : SharePermit → ℕ
of_permit p = p.admission

-- as many events as it has things and has had waiting futures
abbrev pub size_of : KeptAdmission → ℕ
size_of e = e.things + e.fair.next

-- what admissions, futures and permits keep to, where the next event has this number or a greater one
pub record AreKeptAdmissions (es : Names KeptAdmission) (fs : Names KeptFuture) (ps : Names SharePermit) (next : ℕ) : Type 0 where
  pub hall : HallKept of_future of_permit AreKept size_of es fs ps next
  pub valid : AreValid (hall_seen es fs ps)
