-- points that count as the hall keeps them: what is seen of them, and what they keep to
use Rattle.std.specs.Prelude.{ℕ, ◌≡◌, ◌+◌, ◌-◌, ◌≤◌, [], Option, Some, None}
use Rattle.std.specs.FinMap.{get, insert, len}
use Rattle.mea_by_name.specs.declared.named_waker.NamedWaker.{NamedWaker}
use Rattle.mea_by_name.specs.ByName.{Names, seen, own, count}
use Rattle.mea_sets.specs.declared.place.Place.{Place}
use Rattle.mea_sets.specs.Countdown as cores
use Rattle.mea_cores_by_name.specs.SetLinked.{SetLinked, set_names}
use Rattle.mea_meet_model.specs.Count.{Count}
use Rattle.mea_meet_model.specs.Counts as model
use Rattle.mea_meet_model.specs.Counts.{Counts, Point, End, Holder, Wait, borrows}
use Rattle.mea_meet_model.specs.Valid.{HasCounts}
use Rattle.mea_meet.specs.declared.holder_entry.HolderEntry.{HolderEntry}
use Rattle.mea_meet.specs.declared.wait_entry.WaitEntry.{WaitEntry}
use Rattle.mea_meet.specs.CountCores.{NamedPoint, count_at}
use Rattle.mea_meet.specs.CountWaits.{slot_at, awaits_of}
use Rattle.mea_meet.specs.CountEntries.{KeptPoint}

-- ---- what is seen of each thing
abbrev pub count_seen : cores.Count NamedWaker → Count
count_seen c = record { number = c.number; waiting = set_names c.waiting }

abbrev pub core_seen : NamedPoint → Point
core_seen p = record { signal = count_seen p.signal; members = count_seen p.receivers }

abbrev pub point_seen : KeptPoint → Point
point_seen e = core_seen e.point

abbrev pub holder_seen : HolderEntry → Holder
holder_seen x = record { point = x.point; counted = x.counted }

abbrev pub wait_seen : WaitEntry → Wait
wait_seen y = record { point = y.point; awaits = awaits_of y.wait }

abbrev pub counts_seen : Names KeptPoint → Names ℕ → Names HolderEntry → Names WaitEntry → Counts
counts_seen ps ss hs ws = record { points = seen point_seen ps; senders = ss; holders = seen holder_seen hs; waits = seen wait_seen ws }

-- ---- what is kept to
abbrev pub of_holder : HolderEntry → ℕ
of_holder x = x.point

abbrev pub of_wait : WaitEntry → ℕ
of_wait y = y.point

-- the places of futures among those who wait for an end
abbrev pub slots_at : End → Names WaitEntry → Names (Option Place)
slots_at d ws = seen (λ (y : WaitEntry). slot_at d y.wait) ws

-- how many futures borrow a holder
abbrev pub borrowers_in : ℕ → Names WaitEntry → ℕ
borrowers_in k ws = count (λ (y : WaitEntry). borrows (awaits_of y.wait) k) ws

-- a point with its futures, holders and senders
pub record AreKept (e : KeptPoint) (ws : Names WaitEntry) (hs : Names HolderEntry) (ss : Names ℕ) (n : ℕ) : Type 0 where
  pub linked : (d : End) → SetLinked (count_at d e.point).waiting (slots_at d ws) n
  -- its wakers are handed on after each event
  pub quiet : e.point.wakes ≡ []
  pub things : e.things ≡ len ss + len hs + len ws
  -- an event makes one thing, but that which makes a shutdown two
  pub few : e.things ≤ n + 1
  pub borrowers : (k : ℕ) (x : HolderEntry) → get hs k ≡ Some x → x.borrowers ≡ borrowers_in k ws

pub record AreKeptCounts (ps : Names KeptPoint) (ss : Names ℕ) (hs : Names HolderEntry) (ws : Names WaitEntry) (next : ℕ) : Type 0 where
  pub valid : HasCounts (counts_seen ps ss hs ws) next
  pub each : (o : ℕ) (e : KeptPoint) → get ps o ≡ Some e → AreKept e (own of_wait o ws) (own of_holder o hs) (own model.of_itself o ss) next

-- ---- what a call does
-- one future less borrows what it borrowed, if it did
abbrev pub given_back_at : Names HolderEntry → ℕ → Option HolderEntry → Names HolderEntry
given_back_at hs k None = hs
given_back_at hs k (Some x) = insert hs k (record x { borrowers = x.borrowers - 1 })

abbrev pub given_back : Names HolderEntry → Option ℕ → Names HolderEntry
given_back hs None = hs
given_back hs (Some k) = given_back_at hs k (get hs k)
