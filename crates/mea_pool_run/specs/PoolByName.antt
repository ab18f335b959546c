-- a pool whose waits and leases are known by their names, and what the event of a line does to it
use Rattle.std.specs.Prelude.{ℕ, ◌+◌, ◌-◌, ◌==◌, ◌&&◌, ◌++◌, not, nat_lt, Bool, true, false, List, [], ◌∷◌, length, Option, Some, None, if◌then◌else◌}
use Rattle.std.specs.FinMap.{empty, get, insert, remove}
use Rattle.mea_by_name.specs.ByName.{Names}
use Rattle.mea_by_name.specs.NamedQueue.{Waiting, waits, registering, wakers, without}
use Rattle.mea_family.specs.declared.answer.Answer.TheVariants as answer
use Rattle.mea_pool_core.specs.Shelf.{slots_below, with_slots}
use Rattle.mea_pool_run.specs.declared.event.PoolEvent.{PoolEvent}
use Rattle.mea_pool_run.specs.declared.event.PoolEvent.TheVariants as event
use Rattle.mea_pool_run.specs.declared.reply.PoolReply.{PoolReply}
use Rattle.mea_pool_run.specs.declared.reply.PoolReply.TheVariants.{Told, Leased, Unknown}

-- what lives under a name: a wait for a lease, which was granted a place or was not; a wait for the end of the drain; or a
-- lease, with its slot and its resource
pub data Live : Type 0 where
  asks : Bool → Live
  awaits : Live
  leases : ℕ → ℕ → Live

-- how many resources there are; how many places are taken, by leases and by the waits that were granted one; the shelf, each
-- resource after its slot, in the order in which they are lent; what lives; who waits for a lease, in order, each with its
-- waker; whether the pool is draining; and who waits for the end of the drain
pub record PoolByName : Type 0 where
  pub size : ℕ
  pub taken : ℕ
  pub shelf : List (ℕ × ℕ)
  pub things : Names Live
  pub waiting : Waiting
  pub draining : Bool
  pub drains : Waiting

-- so many resources, each its own slot, all on the shelf, and no names
abbrev pub begun : ℕ → PoolByName
begun size = record { size = size; taken = 0; shelf = with_slots (slots_below size); things = empty; waiting = []; draining = false; drains = [] }

-- what an event leaves, and replies, and whom it wakes
pub record Outcome : Type 0 where
  pub pool : PoolByName
  pub reply : PoolReply
  pub wakes : List ℕ

-- this pool and this reply, and nobody is woken
abbrev pub quietly : PoolByName → PoolReply → Outcome
quietly s reply = record { pool = s; reply = reply; wakes = [] }

-- the pool is draining, and no place is taken
abbrev pub is_drained : PoolByName → Bool
is_drained s = s.draining && (s.taken == 0)

-- after these wakes: once the pool is drained, all who wait for that are woken, in their order
abbrev pub settled_at : Bool → PoolByName → List ℕ → Outcome
settled_at drained s wakes =
    if drained then record { pool = record s { drains = [] }; reply = Told answer.Done; wakes = wakes ++ wakers s.drains }
    else record { pool = s; reply = Told answer.Done; wakes = wakes }

-- the same, by whether the pool is drained now
abbrev pub settled : PoolByName → List ℕ → Outcome
settled s wakes = settled_at (is_drained s) s wakes

-- a place that becomes free goes to the first that waits, which is granted and woken
abbrev pub passed_for : Waiting → PoolByName → Outcome
passed_for [] s = settled (record s { taken = s.taken - 1 }) []
passed_for (first ∷ rest) s = settled (record s { waiting = rest; things = insert s.things first.0 (asks true) }) (first.1 ∷ [])

-- the same, by who waits now
abbrev pub passed_on : PoolByName → Outcome
passed_on s = passed_for s.waiting s

-- the waits for a lease leave their list and are woken, in its order; a second drain changes nothing
abbrev pub drained_at : Bool → PoolByName → Outcome
drained_at draining s = if draining then quietly s (Told answer.Done) else settled (record s { waiting = []; draining = true }) (wakers s.waiting)

-- the same, by whether the pool is draining now
abbrev pub drained : PoolByName → Outcome
drained s = drained_at s.draining s

-- wait f gets the first resource of this shelf, by a lease that is named n, and then so many places are taken
abbrev pub lent : List (ℕ × ℕ) → PoolByName → ℕ → ℕ → ℕ → Outcome
lent [] s n f taken = quietly s Unknown
lent (first ∷ rest) s n f taken =
    quietly (record s { taken = taken; shelf = rest; things = insert (remove s.things f) n (leases first.0 first.1) }) (Leased first.0 first.1)

-- wait f for a lease gets one where it may, and else waits, in its place or last
abbrev pub gets_or_waits : Bool → PoolByName → ℕ → ℕ → ℕ → Outcome
gets_or_waits gets s n f w = if gets then lent s.shelf s n f (s.taken + 1) else quietly (record s { waiting = registering s.waiting f w }) (Told answer.Pending)

-- while draining, one that was not granted is refused; before, one gets a lease where it does not wait and a place is free
abbrev pub polled_at : Bool → PoolByName → ℕ → ℕ → ℕ → Outcome
polled_at draining s n f w =
    if draining then quietly (record s { things = remove s.things f }) (Told answer.Gone)
    else gets_or_waits (not (waits s.waiting f) && nat_lt s.taken s.size) s n f w

-- wait f for a lease is polled by line n: one that was granted gets the lease
abbrev pub polled : Bool → PoolByName → ℕ → ℕ → ℕ → Outcome
polled granted s n f w = if granted then lent s.shelf s n f s.taken else polled_at s.draining s n f w

-- wait f for the end of the drain is polled
abbrev pub polled_drain : Bool → PoolByName → ℕ → ℕ → Outcome
polled_drain drained s f w =
    if drained then quietly (record s { things = remove s.things f }) (Told answer.Ready)
    else quietly (record s { drains = registering s.drains f w }) (Told answer.Pending)

-- wait f for a lease ends: a granted one gives its place to the next
abbrev pub ended : Bool → PoolByName → ℕ → Outcome
ended granted s f =
    if granted then passed_on (record s { things = remove s.things f })
    else quietly (record s { things = remove s.things f; waiting = without s.waiting f }) (Told answer.Done)

-- line n makes a wait
abbrev pub made : PoolByName → ℕ → Live → Outcome
made s n live = quietly (record s { things = insert s.things n live }) (Told answer.Made)

-- ---- by what lives under a name

-- what has the name f is polled by line n
abbrev pub poll_of : Option Live → PoolByName → ℕ → ℕ → ℕ → Outcome
poll_of None s n f w = quietly s Unknown
poll_of (Some (asks granted)) s n f w = polled granted s n f w
poll_of (Some awaits) s n f w = polled_drain (is_drained s) s f w
poll_of (Some (leases slot value)) s n f w = quietly s Unknown

-- what has the name f ends
abbrev pub end_of : Option Live → PoolByName → ℕ → Outcome
end_of None s f = quietly s Unknown
end_of (Some (asks granted)) s f = ended granted s f
end_of (Some awaits) s f = quietly (record s { things = remove s.things f; drains = without s.drains f }) (Told answer.Done)
end_of (Some (leases slot value)) s f = quietly s Unknown

-- what has the name l has the resource v now
abbrev pub use_of : Option Live → PoolByName → ℕ → ℕ → Outcome
use_of None s l v = quietly s Unknown
use_of (Some (asks granted)) s l v = quietly s Unknown
use_of (Some awaits) s l v = quietly s Unknown
use_of (Some (leases slot value)) s l v = quietly (record s { things = insert s.things l (leases slot v) }) (Told answer.Done)

-- a lease is put back: its resource goes to the end of the shelf, and its place to the first that waits
abbrev pub back_of : Option Live → PoolByName → ℕ → Outcome
back_of None s l = quietly s Unknown
back_of (Some (asks granted)) s l = quietly s Unknown
back_of (Some awaits) s l = quietly s Unknown
back_of (Some (leases slot value)) s l = passed_on (record s { shelf = s.shelf ++ (slot, value) ∷ []; things = remove s.things l })

-- the event of line n
unfoldable pub outcome : PoolByName → ℕ → PoolEvent → Outcome
outcome s n event.Ask = made s n (asks false)
outcome s n event.Wait = made s n awaits
outcome s n (event.Poll f w) = poll_of (get s.things f) s n f w
outcome s n (event.Use l v) = use_of (get s.things l) s l v
outcome s n (event.Back l) = back_of (get s.things l) s l
outcome s n (event.End f) = end_of (get s.things f) s f
outcome s n event.Drain = drained s
outcome s n event.Idle = quietly s (Told (answer.Count (length s.shelf)))
