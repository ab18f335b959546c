-- fair admissions by name, with the futures and permits that are of them
use Rattle.std.specs.Prelude.{ℕ, ◌+◌, ◌-◌, ◌==◌, Bool, true, false, List, [], ◌∷◌, Option, Some, None, is_some, if◌then◌else◌, refl}
use Rattle.std.specs.Coded.{Coded, code_by, coded×, coded_ℕ, coded_bool, coded_option}
use Rattle.std.specs.FinMap.{empty, get, insert, remove, len}
use Rattle.mea_family.specs.declared.answer.Answer.TheVariants as answers
use Rattle.mea_family.specs.Family.{Outcome, quietly}
use Rattle.mea_base.specs.Totals.{total}
use Rattle.mea_by_name.specs.ByName.{Names, names_code, own, count}
use Rattle.mea_share_core.specs.Share.{Share, share_code, taken, queued, left, admitting, readied, given_up, released, weighing}
use Rattle.mea_share_model.specs.Next.{Shares, Waiter, share_at, put_share, waiting_in, next_of}

-- an admission: its free permits, the number of the next future that waits, what each key has, and whether it is named
pub record Admission : Type 0 where
  pub free : ℕ
  pub next : ℕ
  pub shares : Shares
  pub named : Bool

-- a future: whose it is, its key, whether it is plain, and its number once it was polled. It waits, or was admitted
pub record ShareFuture : Type 0 where
  pub admission : ℕ
  pub key : ℕ
  pub plain : Bool
  pub number : Option ℕ

-- a permit: whose it is, its key, and whether it is plain
pub record SharePermit : Type 0 where
  pub admission : ℕ
  pub key : ℕ
  pub plain : Bool

-- admissions by name, with their futures and permits by name
pub record ShareHall : Type 0 where
  pub admissions : Names Admission
  pub futures : Names ShareFuture
  pub permits : Names SharePermit

-- no admission, and nothing that is of one
abbrev pub empty_hall : ShareHall
empty_hall = record { admissions = empty; futures = empty; permits = empty }

-- ---- what lives
-- whether an admission is there and has its name still
abbrev pub is_named_one : Option Admission → Bool
is_named_one None = false
is_named_one (Some r) = r.named

-- the same of the admission o
abbrev pub is_named : ShareHall → ℕ → Bool
is_named h o = is_named_one (get h.admissions o)

-- whether f is a future
abbrev pub is_future : ShareHall → ℕ → Bool
is_future h f = is_some (get h.futures f)

-- whether p is a permit
abbrev pub is_permit : ShareHall → ℕ → Bool
is_permit h p = is_some (get h.permits p)

-- how many futures and permits o has
abbrev pub things_of : ShareHall → ℕ → ℕ
things_of h o = len (own (λ (x : ShareFuture). x.admission) o h.futures) + len (own (λ (x : SharePermit). x.admission) o h.permits)

-- how many of them are plain
abbrev pub plain_of : ShareHall → ℕ → ℕ
plain_of h o = count (λ x. x.plain) (own (λ (x : ShareFuture). x.admission) o h.futures) + count (λ x. x.plain) (own (λ (x : SharePermit). x.admission) o h.permits)

-- how many wakers are registered
abbrev pub registered : ShareHall → ℕ
registered h = total (λ o r. waiting_in r.shares) h.admissions

-- the waker under a number, if it waits
abbrev pub waker_under : Share ℕ → Option ℕ → Option ℕ
waker_under s None = None
waker_under s (Some n) = get s.waiting n

-- the waker that is kept for a future at an admission, which may be gone
abbrev pub waker_at : Option Admission → ShareFuture → Option ℕ
waker_at None x = None
waker_at (Some r) x = waker_under (share_at r.shares x.key) x.number

-- the same at the admission of this future, if it is there
abbrev pub placed_of : ShareHall → Option ShareFuture → Option ℕ
placed_of h None = None
placed_of h (Some x) = waker_at (get h.admissions x.admission) x

-- the waker that is kept for f
abbrev pub placed : ShareHall → ℕ → Option ℕ
placed h f = placed_of h (get h.futures f)

-- ---- what the events do
-- an admission with n permits, all of them free
abbrev pub new_admission : ℕ → Admission
new_admission n = record { free = n; next = 0; shares = empty; named = true }

-- a key has this
abbrev pub with_share : Admission → ℕ → Share ℕ → Admission
with_share r k s = record r { shares = put_share r.shares k s }

-- the admission o is this now
abbrev pub with_admission : ShareHall → ℕ → Admission → ShareHall
with_admission h o r = record h { admissions = insert h.admissions o r }

-- the admission is this now, or gone where it has neither its name nor any of so many things
abbrev pub tidied_admissions : Names Admission → ℕ → Admission → ℕ → Names Admission
tidied_admissions rs o r things = if r.named then insert rs o r else if things == 0 then remove rs o else insert rs o r

-- the same of all: the admission o is this now, or gone
abbrev pub tidied : ShareHall → ℕ → Admission → ShareHall
tidied h o r = record h { admissions = tidied_admissions h.admissions o r (things_of h o) }

-- a permit comes back: who is next is admitted, and with nobody waiting the permit is free
abbrev pub passed : Admission → Option Waiter → Admission
passed r None = record r { free = r.free + 1 }
passed r (Some a) = with_share r a.key (admitting (share_at r.shares a.key) a.number)

-- whom a permit that comes back wakes: who is next, or nobody
abbrev pub woken : Option Waiter → List ℕ
woken None = []
woken (Some a) = a.waker ∷ []

-- what held a permit is gone, and it comes back
abbrev pub gives_back : ShareHall → ℕ → Admission → Outcome ShareHall
gives_back h o r = record { hall = tidied h o (passed r (next_of r.shares)); reply = answers.Done; wakes = woken (next_of r.shares) }

-- an admission with n permits is made
abbrev pub make : ShareHall → ℕ → ℕ → Outcome ShareHall
make h i n = quietly (with_admission h i (new_admission n)) answers.Made

-- a future of o for the key k is made, which was never polled
abbrev pub begin : ShareHall → ℕ → ℕ → ℕ → Bool → Outcome ShareHall
begin h i o k plain = quietly (record h { futures = insert h.futures i (record { admission = o; key = k; plain = plain; number = None }) }) answers.Made

-- a free permit is taken for a key
abbrev pub taken_for : Admission → ℕ → Admission
taken_for r k = record (with_share r k (taken (share_at r.shares k))) { free = r.free - 1 }

-- a permit of o for the key k is made where one is free, and none where none is
abbrev pub try : ShareHall → ℕ → ℕ → ℕ → Bool → Admission → Outcome ShareHall
try h i o k plain r =
    if r.free == 0 then quietly h answers.Lacking
    else quietly (record h {
      admissions = insert h.admissions o (taken_for r k);
      permits = insert h.permits i (record { admission = o; key = k; plain = plain });
    }) answers.Held

-- f has its permit
abbrev pub becomes_permit : ShareHall → ℕ → ℕ → ShareFuture → Admission → Outcome ShareHall
becomes_permit h i f x r = quietly (record {
  admissions = insert h.admissions x.admission r;
  futures = remove h.futures f;
  permits = insert h.permits i (record { admission = x.admission; key = x.key; plain = x.plain });
}) answers.Ready

-- f begins to wait, under the next number
abbrev pub queues : ShareHall → ℕ → ℕ → ShareFuture → Admission → Outcome ShareHall
queues h f w x r = quietly (record h {
  admissions = insert h.admissions x.admission (record (with_share r x.key (queued (share_at r.shares x.key) r.next w)) { next = r.next + 1 });
  futures = insert h.futures f (record x { number = Some r.next });
}) answers.Pending

-- f waits on with this waker
abbrev pub waits_on : ShareHall → ℕ → ℕ → ShareFuture → Admission → Outcome ShareHall
waits_on h n w x r = quietly (with_admission h x.admission (with_share r x.key (queued (share_at r.shares x.key) n w))) answers.Pending

-- what a poll does: a new future takes a free permit or begins to wait, one that waits waits on, and one that was admitted has
-- its permit
abbrev pub poll_at : ShareHall → ℕ → ℕ → ℕ → ShareFuture → Admission → Option ℕ → Outcome ShareHall
poll_at h i f w x r None = if r.free == 0 then queues h f w x r else becomes_permit h i f x (taken_for r x.key)
poll_at h i f w x r (Some n) =
    if is_some (get (share_at r.shares x.key).waiting n) then waits_on h n w x r
    else becomes_permit h i f x (with_share r x.key (readied (share_at r.shares x.key) n))

-- the same, by the number that the future has, if it was polled
abbrev pub poll : ShareHall → ℕ → ℕ → ℕ → ShareFuture → Admission → Outcome ShareHall
poll h i f w x r = poll_at h i f w x r x.number

-- the end of a future: it leaves the queue, or gives back what was admitted
abbrev pub end_at : ShareHall → ShareFuture → Admission → Option ℕ → Outcome ShareHall
end_at h x r None = quietly (tidied h x.admission r) answers.Done
end_at h x r (Some n) =
    if is_some (get (share_at r.shares x.key).waiting n) then quietly (tidied h x.admission (with_share r x.key (left (share_at r.shares x.key) n))) answers.Done
    else gives_back h x.admission (with_share r x.key (given_up (share_at r.shares x.key) n))

-- the future f is gone; at its admission, which is there while the future is, it ends so
abbrev pub end_future : ShareHall → ℕ → ShareFuture → Option Admission → Outcome ShareHall
end_future h f x None = quietly (record h { futures = remove h.futures f }) answers.Done
end_future h f x (Some r) = end_at (record h { futures = remove h.futures f }) x r x.number

-- the permit p ends, and comes back
abbrev pub end_permit : ShareHall → ℕ → SharePermit → Admission → Outcome ShareHall
end_permit h p x r = gives_back (record h { permits = remove h.permits p }) x.admission (with_share r x.key (released (share_at r.shares x.key)))

-- the key k has the weight n from now on
abbrev pub weigh : ShareHall → ℕ → ℕ → ℕ → Admission → Outcome ShareHall
weigh h o k n r = quietly (with_admission h o (with_share r k (weighing (share_at r.shares k) n))) answers.Done

-- the admission o loses its name, and is gone where it has nothing
abbrev pub drop : ShareHall → ℕ → Admission → Outcome ShareHall
drop h o r = quietly (tidied h o (record r { named = false })) answers.Done

-- ---- codes, by which a proof tells two values apart
-- of an admission
abbrev pub admission_code : Coded Admission
admission_code =
    code_by (ℕ × (ℕ × (Shares × Bool))) (coded× coded_ℕ (coded× coded_ℕ (coded× (names_code (share_code coded_ℕ)) coded_bool)))
    (λ r. (r.free, (r.next, (r.shares, r.named)))) (λ p. record { free = p.0; next = p.1.0; shares = p.1.1.0; named = p.1.1.1 }) (λ _. refl)

-- of a future
abbrev pub future_code : Coded ShareFuture
future_code =
    code_by (ℕ × (ℕ × (Bool × Option ℕ))) (coded× coded_ℕ (coded× coded_ℕ (coded× coded_bool (coded_option coded_ℕ))))
    (λ x. (x.admission, (x.key, (x.plain, x.number)))) (λ p. record { admission = p.0; key = p.1.0; plain = p.1.1.0; number = p.1.1.1 }) (λ _. refl)

-- of a permit
abbrev pub permit_code : Coded SharePermit
permit_code = code_by (ℕ × (ℕ × Bool)) (coded× coded_ℕ (coded× coded_ℕ coded_bool)) (λ x. (x.admission, (x.key, x.plain))) (λ p. record { admission = p.0; key = p.1.0; plain = p.1.1 }) (λ _. refl)

-- of a hall
abbrev pub hall_code : Coded ShareHall
hall_code =
    code_by (Names Admission × (Names ShareFuture × Names SharePermit)) (coded× (names_code admission_code) (coded× (names_code future_code) (names_code permit_code)))
    (λ h. (h.admissions, (h.futures, h.permits))) (λ p. record { admissions = p.0; futures = p.1.0; permits = p.1.1 }) (λ _. refl)
