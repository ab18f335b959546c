-- what a contract sees of a count whose waits give their places back, and what their polls and ends do
use Rattle.std.specs.Prelude.{ℕ, ◌≡◌, ◌<◌, ◌++◌, List, [], ◌∷◌, Option, Some, None, true, Result, Ok, MatchResult, nat_lt, length, if◌then◌else◌, refl}
use Rattle.std.specs.List.{All}
use Rattle.std.specs.Coded.{Coded, code_by, coded×, coded_ℕ, coded_list, coded_option}
use Rattle.mea_base.specs.declared.no_memory.NoMemory.{NoMemory}
use Rattle.mea_sets.specs.Poll.{Poll, Ready, Pending}
use Rattle.mea_sets.specs.declared.place.Place.{Place}
use Rattle.mea_sets.specs.WaitSet.{Registered, is_registered, with_waker, slot_after}
use Rattle.mea_sets.specs.Countdown.{Count, count_code, decreased, woken_by}
use Rattle.mea_meet_core.specs.Count.{increased}
use Rattle.mea_meet_seats.specs.Vacant.{first_or, others_of}
use Rattle.mea_meet_seats.specs.declared.seat.Seat.{Seat}
use Rattle.mea_meet_seats.specs.declared.seat.Seat.TheVariants.{Taken, Vacant}

-- a count with the seats at its end, and the places of those that are vacant, in the order in which they became so
pub record Seats (W : Type 0) : Type 0 where
  pub count : Count (Seat W)
  pub free : List (Option Place)

-- such a count with the seats that it made ready
pub record Seating (W : Type 0) : Type 0 where
  pub seats : Seats W
  pub wakes : List (Seat W)

-- the waker in a seat
abbrev pub waker_of : {W : Type 0} → Seat W → Option W
waker_of (Taken w) = Some w
waker_of Vacant = None

-- the seat of a waker
abbrev pub seat_of : {W : Type 0} → Option W → Seat W
seat_of (Some w) = Taken w
seat_of None = Vacant

pub seat_of-waker_of : {W : Type 0} (seat : Seat W) → seat_of (waker_of seat) ≡ seat
seat_of-waker_of (Taken w) = refl
seat_of-waker_of Vacant = refl

-- what lets a `Seat`, a place, a `Seats` and a `Seating` be the value of a model
abbrev pub seat_code : {W : Type 0} → Coded W → Coded (Seat W)
seat_code {W} code = code_by (Option W) (coded_option code) waker_of seat_of seat_of-waker_of

abbrev pub place_code : Coded Place
place_code =
    code_by
    (ℕ × ℕ)
    (coded× coded_ℕ coded_ℕ)
    (λ p. (p.drains, p.index))
    (λ p. record { drains = p.0; index = p.1 })
    (λ _. refl)

abbrev pub seats_code : {W : Type 0} → Coded W → Coded (Seats W)
seats_code {W} code =
    code_by
    (Count (Seat W) × List (Option Place))
    (coded× (count_code (seat_code code)) (coded_list (coded_option place_code)))
    (λ s. (s.count, s.free))
    (λ p. record { count = p.0; free = p.1 })
    (λ _. refl)

abbrev pub seating_code : {W : Type 0} → Coded W → Coded (Seating W)
seating_code {W} code =
    code_by
    (Seats W × List (Seat W))
    (coded× (seats_code code) (coded_list (seat_code code)))
    (λ s. (s.seats, s.wakes))
    (λ p. record { seats = p.0; wakes = p.1 })
    (λ _. refl)

-- each of these places is one in the set
abbrev pub AllThere : {S : Type 0} → Registered S → List (Option Place) → Type 0
AllThere s places = All (λ place. is_registered s place ≡ true) places

module _ {W : Type 0} where
  -- where a wait is seated by its poll: at its place, if it has one in the set, else at the first that was given back
  abbrev pub place_for : Seats W → Option Place → Option Place
  place_for s slot = if is_registered s.count.waiting slot then slot else first_or s.free None

  -- the count after a wait was seated with its waker; where no place was given back the set has one more
  abbrev pub seated : Seats W → Option Place → W → Seats W
  seated s slot w = record {
    count = record s.count { waiting = with_waker s.count.waiting (place_for s slot) (Taken w) };
    free = if is_registered s.count.waiting slot then s.free else others_of s.free;
  }

  -- the places once one was given back: those of a set that were given back before are others, and so fewer than it has
  abbrev pub given_back : Seats W → Option Place → List (Option Place)
  given_back s slot = if nat_lt (length s.free) (length s.count.waiting.wakers) then s.free ++ slot ∷ [] else s.free

  -- the count after the wait at a place has ended: its waker is gone, its seat is vacant and its place is given back
  abbrev pub vacated : Seats W → Option Place → Seats W
  vacated s slot = record {
    count = record s.count { waiting = if is_registered s.count.waiting slot then with_waker s.count.waiting slot Vacant else s.count.waiting };
    free = if is_registered s.count.waiting slot then given_back s slot else s.free;
  }

  -- the count with one handle more
  abbrev pub with_handle : Seats W → Seats W
  with_handle s = record s { count = increased s.count }

  -- the count and its wakes after n less
  abbrev pub fallen : Seating W → ℕ → Seating W
  fallen s n = record {
    seats = record s.seats { count = decreased s.seats.count n };
    wakes = s.wakes ++ woken_by s.seats.count n;
  }

  -- what a poll of a wait with this slot does: ready at 0, else it is seated
  pub record PollsSeats (s : Seats W) (slot : Option Place) (w : W) (result : Result (Poll (Unit {0})) (Seat W × NoMemory)) (s' : Seats W) (slot' : Option Place) : Type 0 where
    pub ready : s.count.number ≡ 0 → (result ≡ Ok (Ready tt)) × (s' ≡ s) × (slot' ≡ slot)
    pub pending : 0 < s.count.number → MatchResult result
        (λ turn. (turn ≡ Pending) × (s' ≡ seated s slot w) × (slot' ≡ slot_after s.count.waiting (place_for s slot)))
        (λ e. (e.0 ≡ Taken w) × (s' ≡ s) × (slot' ≡ None))
    -- where the wait has a place in the set, or one was given back, it lacks no memory
    pub reuses : 0 < s.count.number → is_registered s.count.waiting (place_for s slot) ≡ true → result ≡ Ok Pending
