-- meeting points that count, by name, with what keeps them and the futures that wait for them
use Rattle.std.specs.Prelude.{ℕ, ◌+◌, ◌==◌, ◌≡◌, Bool, false, cond, [], length, List, Option, Some, None, is_some, nat_lt, unwrap_or, if◌then◌else◌, refl}
use Rattle.std.specs.Coded.{Coded, code_by, coded×, coded_ℕ, coded_bool, coded_option}
use Rattle.std.specs.FinMap.{empty, get, insert, remove, len}
use Rattle.mea_family.specs.declared.answer.Answer.TheVariants as answers
use Rattle.mea_family.specs.Family.{Outcome, quietly}
use Rattle.mea_base.specs.Totals.{total}
use Rattle.mea_by_name.specs.ByName.{Names, names_code, own, count}
use Rattle.mea_by_name.specs.NamedQueue.{waker_for}
use Rattle.mea_meet_model.specs.Count.{Count, count_from, decreased, increased, woken_by, with_waker, count_code}

-- a meeting point: a count that is taken down, and a count of members. A latch has the first, a wait group the
-- second; a shutdown has both, its signal from 1 and its receivers
pub record Point : Type 0 where
  pub signal : Count
  pub members : Count

-- which of the two counts is meant
pub data End : Type 0 where
  OfSignal : End
  OfMembers : End

-- that count of a point
abbrev pub count_at : End → Point → Count
count_at OfSignal r = r.signal
count_at OfMembers r = r.members

-- a point with this in its place
abbrev pub with_count : End → Point → Count → Point
with_count OfSignal r c = record r { signal = c }
with_count OfMembers r c = record r { members = c }

-- what keeps a point, and whether it is counted among its members: the name of a latch, which is not; a handle of a
-- group and a receiver of a shutdown, which are; a watch, which is not
pub record Holder : Type 0 where
  pub point : ℕ
  pub counted : Bool

-- what a future waits for: the end of the signal's count, where a plain one borrows a holder; or that of the members
pub data Awaited : Type 0 where
  Signal : Option ℕ → Awaited
  Members : Awaited

-- which count a future waits for
abbrev pub end_of : Awaited → End
end_of (Signal borrowed) = OfSignal
end_of Members = OfMembers

-- a future: its point, and what it waits for there
pub record Wait : Type 0 where
  pub point : ℕ
  pub awaits : Awaited

-- the points, with the senders, which are of shutdowns alone, the holders, and the futures
pub record Counts : Type 0 where
  pub points : Names Point
  pub senders : Names ℕ
  pub holders : Names Holder
  pub waits : Names Wait

-- no point, and nothing that is of one
abbrev pub no_counts : Counts
no_counts = record { points = empty; senders = empty; holders = empty; waits = empty }

-- ---- what lives
-- whether k is a holder
abbrev pub is_holder : Counts → ℕ → Bool
is_holder h k = is_some (get h.holders k)

-- whether k is a sender
abbrev pub is_sender : Counts → ℕ → Bool
is_sender h k = is_some (get h.senders k)

-- whether f is a future
abbrev pub is_wait : Counts → ℕ → Bool
is_wait h f = is_some (get h.waits f)

-- the point of this name; one whose counts have ended, where there is none
abbrev pub point_at : Counts → ℕ → Point
point_at h o = unwrap_or (get h.points o) (record { signal = count_from 0; members = count_from 0 })

-- a sender is known by its point, so it is that
abbrev pub of_itself : ℕ → ℕ
of_itself o = o

-- the point of a holder
abbrev pub of_holder : Holder → ℕ
of_holder x = x.point

-- the point of a future
abbrev pub of_wait : Wait → ℕ
of_wait x = x.point

-- how many senders, holders and futures a point has
abbrev pub things_of : Counts → ℕ → ℕ
things_of h o = len (own of_itself o h.senders) + len (own of_holder o h.holders) + len (own of_wait o h.waits)

-- a point lives while it has one of them
abbrev pub is_live : Counts → ℕ → Bool
is_live h o = nat_lt 0 (things_of h o)

-- whether what a future waits for borrows the holder k
abbrev pub borrows : Awaited → ℕ → Bool
borrows (Signal None) k = false
borrows (Signal (Some x)) k = x == k
borrows Members k = false

-- how many plain futures borrow a holder
abbrev pub borrowers_of : Counts → ℕ → ℕ
borrowers_of h k = count (λ (x : Wait). borrows x.awaits k) h.waits

-- how many wakers are registered
abbrev pub registered : Counts → ℕ
registered h = total (λ o (r : Point). length r.signal.waiting + length r.members.waiting) h.points

-- the waker that is registered for f at a point, which may be gone
abbrev pub placed_at : Option Point → Awaited → ℕ → Option ℕ
placed_at None a f = None
placed_at (Some r) a f = waker_for (count_at (end_of a) r).waiting f

-- the same at the point of this future, if it is there
abbrev pub placed_of : Counts → ℕ → Option Wait → Option ℕ
placed_of h f None = None
placed_of h f (Some x) = placed_at (get h.points x.point) x.awaits f

-- the waker that is registered for f
abbrev pub placed : Counts → ℕ → Option ℕ
placed h f = placed_of h f (get h.waits f)

-- ---- what the events do
-- a new point: its counts, whether its first holder is counted, and whether it has a sender
pub record New : Type 0 where
  pub signal : ℕ
  pub members : ℕ
  pub counted : Bool
  pub sends : Bool

-- a new point at which nobody waits
abbrev pub new_point : New → Point
new_point new = record { signal = count_from new.signal; members = count_from new.members }

-- a point is made, with its first holder and perhaps a sender, all named i
abbrev pub make : Counts → ℕ → New → Outcome Counts
make h i new = quietly (record h {
  points = insert h.points i (new_point new);
  senders = if new.sends then insert h.senders i i else h.senders;
  holders = insert h.holders i (record { point = i; counted = new.counted });
}) answers.Made

-- a point is this now; one that has nothing is gone
abbrev pub tidied : Counts → ℕ → Point → Counts
tidied h o r = record h { points = if things_of h o == 0 then remove h.points o else insert h.points o r }

-- the signal's number is told
abbrev pub number : Counts → Point → Outcome Counts
number h r = quietly h (answers.Count r.signal.number)

-- it is told that the signal's number is 0, or how many are left
abbrev pub try : Counts → Point → Outcome Counts
try h r = quietly h (if r.signal.number == 0 then answers.Accepted else answers.Left r.signal.number)

-- it is told whether the signal's number is 0
abbrev pub now : Counts → Point → Outcome Counts
now h r = quietly h (if r.signal.number == 0 then answers.Yes else answers.No)

-- n is taken from the signal's count
abbrev pub arrive : Counts → ℕ → ℕ → Point → Outcome Counts
arrive h n o r = record { hall = record h { points = insert h.points o (record r { signal = decreased r.signal n }) }; reply = answers.Done; wakes = woken_by r.signal n }

-- a future of o is made under number i, which waits for this
abbrev pub with_wait : Counts → ℕ → ℕ → Awaited → Counts
with_wait h i o awaits = record h { waits = insert h.waits i (record { point = o; awaits = awaits }) }

-- a future on the signal; a plain one borrows the holder k
abbrev pub begin : Counts → ℕ → ℕ → Bool → Holder → Outcome Counts
begin h i k plain x = quietly (with_wait h i x.point (Signal (cond plain (Some k) None))) answers.Made

-- a further future on the end of the members, beside another
abbrev pub copy : Counts → ℕ → Wait → Outcome Counts
copy h i x = quietly (with_wait h i x.point Members) answers.Made

-- a holder more, and one less
abbrev pub joined : Point → Bool → Point
joined r counted = record r { members = if counted then increased r.members else r.members }

-- and one less
abbrev pub parted : Point → Bool → Point
parted r counted = record r { members = if counted then decreased r.members 1 else r.members }

-- whom the end of a holder wakes: all who wait for the members, where it was the last of them that is counted
abbrev pub woken_by_end : Point → Bool → List ℕ
woken_by_end r counted = if counted then woken_by r.members 1 else []

-- a further holder of o
abbrev pub join : Counts → ℕ → ℕ → Bool → Point → Outcome Counts
join h i o counted r = quietly (record h { points = insert h.points o (joined r counted); holders = insert h.holders i (record { point = o; counted = counted }) }) answers.Made

-- a holder becomes a future on the end of the members
abbrev pub into : Counts → ℕ → ℕ → Holder → Point → Outcome Counts
into h i k x r = record {
  hall = record h { points = insert h.points x.point (parted r x.counted); holders = remove h.holders k; waits = insert h.waits i (record { point = x.point; awaits = Members }) };
  reply = answers.Made;
  wakes = woken_by_end r x.counted;
}

-- the holder k ends
abbrev pub end_holder : Counts → ℕ → Holder → Point → Outcome Counts
end_holder h k x r = record { hall = tidied (record h { holders = remove h.holders k }) x.point (parted r x.counted); reply = answers.Done; wakes = woken_by_end r x.counted }

-- a further sender of o
abbrev pub copy_sender : Counts → ℕ → ℕ → Outcome Counts
copy_sender h i o = quietly (record h { senders = insert h.senders i o }) answers.Made

-- a sender becomes a future on the end of the members
abbrev pub await : Counts → ℕ → ℕ → ℕ → Outcome Counts
await h i k o = quietly (with_wait (record h { senders = remove h.senders k }) i o Members) answers.Made

-- the sender k of o ends, and wakes nobody
abbrev pub end_sender : Counts → ℕ → ℕ → Point → Outcome Counts
end_sender h k o r = quietly (tidied (record h { senders = remove h.senders k }) o r) answers.Done

-- f is gone; its waker stays
abbrev pub gone : Counts → ℕ → Wait → Point → Counts
gone h f x r = tidied (record h { waits = remove h.waits f }) x.point r

-- the future f ends; its waker stays registered
abbrev pub end_wait : Counts → ℕ → Wait → Point → Outcome Counts
end_wait h f x r = quietly (gone h f x r) answers.Done

-- f waits, with this waker
abbrev pub waits_on : Counts → ℕ → ℕ → Wait → Point → Outcome Counts
waits_on h f w x r = quietly (record h { points = insert h.points x.point (with_count (end_of x.awaits) r (with_waker (count_at (end_of x.awaits) r) f w)) }) answers.Pending

-- a future is polled: it is ready where its count has ended, and else waits
abbrev pub poll : Counts → ℕ → ℕ → Wait → Point → Outcome Counts
poll h f w x r = if (count_at (end_of x.awaits) r).number == 0 then quietly (gone h f x r) answers.Ready else waits_on h f w x r

-- ---- codes, by which a proof tells two values apart
-- of a point
abbrev pub point_code : Coded Point
point_code = code_by (Count × Count) (coded× count_code count_code) (λ r. (r.signal, r.members)) (λ p. record { signal = p.0; members = p.1 }) (λ _. refl)

-- of a holder
abbrev pub holder_code : Coded Holder
holder_code = code_by (ℕ × Bool) (coded× coded_ℕ coded_bool) (λ x. (x.point, x.counted)) (λ p. record { point = p.0; counted = p.1 }) (λ _. refl)

-- what a future waits for: nothing for the members, and for the signal whom it borrows
abbrev pub awaited_number : Awaited → Option (Option ℕ)
awaited_number (Signal borrowed) = Some borrowed
awaited_number Members = None

-- and back
abbrev pub awaited_of_number : Option (Option ℕ) → Awaited
awaited_of_number (Some borrowed) = Signal borrowed
awaited_of_number None = Members

-- from that it comes back
pub awaited_back : (a : Awaited) → awaited_of_number (awaited_number a) ≡ a
awaited_back (Signal borrowed) = refl
awaited_back Members = refl

-- of what a future waits for
abbrev pub awaited_code : Coded Awaited
awaited_code = code_by (Option (Option ℕ)) (coded_option (coded_option coded_ℕ)) awaited_number awaited_of_number awaited_back

-- of a future
abbrev pub wait_code : Coded Wait
wait_code = code_by (ℕ × Awaited) (coded× coded_ℕ awaited_code) (λ x. (x.point, x.awaits)) (λ p. record { point = p.0; awaits = p.1 }) (λ _. refl)

-- of points by name
abbrev pub counts_code : Coded Counts
counts_code =
    code_by (Names Point × (Names ℕ × (Names Holder × Names Wait))) (coded× (names_code point_code) (coded× (names_code coded_ℕ) (coded× (names_code holder_code) (names_code wait_code))))
    (λ h. (h.points, (h.senders, (h.holders, h.waits)))) (λ p. record { points = p.0; senders = p.1.0; holders = p.1.1.0; waits = p.1.1.1 }) (λ _. refl)
