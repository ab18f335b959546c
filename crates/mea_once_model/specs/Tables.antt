-- maps and groups by name, whose values are computed once for each key, with the futures that are of them
use Rattle.std.specs.Prelude.{ℕ, ◌==◌, Bool, false, List, [], Option, Some, None, is_some, if◌then◌else◌, refl}
use Rattle.std.specs.Coded.{Coded, code_by, coded×, coded_ℕ, coded_option}
use Rattle.std.specs.FinMap.{empty, get, insert, remove, len}
use Rattle.mea_family.specs.declared.answer.Answer.{Answer}
use Rattle.mea_family.specs.declared.answer.Answer.TheVariants as answers
use Rattle.mea_family.specs.Family.{Outcome, quietly}
use Rattle.mea_base.specs.Totals.{total}
use Rattle.mea_by_name.specs.ByName.{Names, names_code, own, count}
use Rattle.mea_by_name.specs.NamedQueue as named_queue
use Rattle.mea_by_name.specs.NamedQueue.{queue_of, waker_for}
use Rattle.mea_family.specs.Play.{found}
use Rattle.mea_once_model.specs.declared.errand.Initialiser.{Initialiser}
use Rattle.mea_once_model.specs.declared.errand.Initialiser.TheVariants.{Unsettled}
use Rattle.mea_once_model.specs.declared.errand.Errand.TheVariants.{Computes}
use Rattle.mea_once_model.specs.Cells as cells
use Rattle.mea_once_model.specs.Cells.{Cell, CellFuture, Step, waiting_at, new_cell, is_open, cell_code, init_code}

-- a map or a group. A key that was computed has its value here. A key that is being computed has a current round: the cell
-- that its callers share, by the number of the poll that made it. A round is there as long as it has a caller, also where
-- it is no key's current one any more: its key was taken out since, or its value was computed
pub record Table : Type 0 where
  pub values : Names ℕ
  pub current : Names ℕ
  pub rounds : Names Cell

-- a future: its map or group, its key, what its initialiser comes to, and its round, of which it is a caller from its first
-- poll on
pub record KeyFuture : Type 0 where
  pub table : ℕ
  pub key : ℕ
  pub init : Initialiser
  pub round : Option ℕ

-- maps, or groups, by name, and their futures by name
pub record Tables : Type 0 where
  pub tables : Names Table
  pub futures : Names KeyFuture

-- no map or group, and no future
abbrev pub no_tables : Tables
no_tables = record { tables = empty; futures = empty }

-- one in which no key was computed
abbrev pub new_table : Table
new_table = record { values = empty; current = empty; rounds = empty }

-- ---- what lives
-- whether o is a map or a group
abbrev pub is_table : Tables → ℕ → Bool
is_table h o = is_some (get h.tables o)

-- whether f is a future
abbrev pub is_future : Tables → ℕ → Bool
is_future h f = is_some (get h.futures f)

-- whether a future is there whose initialiser is not settled
abbrev pub settles_in : Option KeyFuture → Bool
settles_in None = false
settles_in (Some x) = is_open x.init

-- whether its initialiser is not settled
abbrev pub is_unsettled : Tables → ℕ → Bool
is_unsettled h f = settles_in (get h.futures f)

-- how many futures a map or a group has
abbrev pub futures_of : Tables → ℕ → ℕ
futures_of h o = len (own (λ (x : KeyFuture). x.table) o h.futures)

-- whether this is n
abbrev pub is_this : ℕ → Option ℕ → Bool
is_this n None = false
is_this n (Some m) = m == n

-- how many callers a round has beside f
abbrev pub others_of : Tables → ℕ → ℕ → ℕ → ℕ
others_of h f o n = count (λ x. is_this n x.round) (own (λ (x : KeyFuture). x.table) o (remove h.futures f))

-- how many wakers are registered
abbrev pub registered : Tables → ℕ
registered h = total (λ o t. named_queue.registered waiting_at t.rounds) h.tables

-- ---- the waker that is kept for a future: it stands in its round
-- the rounds of a map or a group; of one that is gone none
abbrev pub rounds_of : Option Table → Names Cell
rounds_of None = empty
rounds_of (Some t) = t.rounds

-- the waker that is kept for f in a round, if f has one
abbrev pub placed_in : Names Cell → ℕ → Option ℕ → Option ℕ
placed_in rs f None = None
placed_in rs f (Some n) = waker_for (queue_of waiting_at (get rs n)) f

-- the same in the round of this future, if it is there
abbrev pub placed_of : Names Table → ℕ → Option KeyFuture → Option ℕ
placed_of ts f None = None
placed_of ts f (Some x) = placed_in (rounds_of (get ts x.table)) f x.round

-- the waker that is kept for f
abbrev pub placed : Tables → ℕ → Option ℕ
placed h f = placed_of h.tables f (get h.futures f)

-- ---- what becomes of a map or a group
-- whether this is the key's current round
abbrev pub is_current : Table → ℕ → ℕ → Bool
is_current t k n = is_this n (get t.current k)

-- where the key's current round has come to a value, the key has it from now on, or, where a value is for its round alone,
-- the next future computes anew
abbrev pub closed : Bool → ℕ → ℕ → Option ℕ → Table → Table
closed once k n None t = t
closed once k n (Some v) t = if is_current t k n then record t { values = if once then t.values else insert t.values k v; current = remove t.current k } else t

-- a caller leaves its round, which is gone with the last of them
abbrev pub left : ℕ → ℕ → ℕ → Table → Table
left k n others t = if others == 0 then record t { rounds = remove t.rounds n; current = if is_current t k n then remove t.current k else t.current } else t

-- the key has neither a value nor a current round; callers go on
abbrev pub without_key : ℕ → Table → Table
without_key k t = record t { values = remove t.values k; current = remove t.current k }

-- what becomes of a map or a group and of one of its futures, which may be gone, the reply, and the wakers that are made
-- ready
pub record KeyStep : Type 0 where
  pub table : Table
  pub future : Option KeyFuture
  pub reply : Answer
  pub wakes : List ℕ

-- a future as one of its round's cell
abbrev pub caller : KeyFuture → CellFuture
caller x = record { cell = x.table; errand = Computes x.init; polled = is_some x.round }

-- a caller is as it was but for its initialiser, and has this round, or leaves
abbrev pub caller_after : ℕ → KeyFuture → Option CellFuture → Option KeyFuture
caller_after n x None = None
caller_after n x (Some y) = Some (record x { init = cells.init_of y.errand; round = Some n })

-- what becomes of a map or a group where a caller leaves; where it stays nothing does
abbrev pub left_by : Option CellFuture → ℕ → ℕ → ℕ → Table → Table
left_by None k n others t = left k n others t
left_by (Some y) k n others t = t

-- a step of a caller at its round, which has so many others
abbrev pub at_round : Bool → KeyFuture → ℕ → ℕ → Table → Step → KeyStep
at_round once x n others t s = record {
  table = left_by s.future x.key n others (closed once x.key n s.cell.value (record t { rounds = insert t.rounds n s.cell }));
  future = caller_after n x s.future;
  reply = s.reply;
  wakes = s.wakes;
}

-- the future finds a value there, and is gone
abbrev pub finds : Table → ℕ → KeyStep
finds t v = record { table = t; future = None; reply = answers.Value v; wakes = [] }

-- a step of the future f of this map or group
abbrev pub applied : Tables → ℕ → ℕ → KeyStep → Outcome Tables
applied h f o s = record { hall = record { tables = insert h.tables o s.table; futures = cells.turned_to h.futures f s.future }; reply = s.reply; wakes = s.wakes }

-- what the future f does with its round
abbrev pub in_round : Bool → Tables → ℕ → KeyFuture → Table → (CellFuture → Cell → Step) → ℕ → Outcome Tables
in_round once h f x t act n = found (get t.rounds n) h (λ c. applied h f x.table (at_round once x n (others_of h f x.table n) t (act (caller x) c)))

-- a first poll makes the key's round, under number i, and the future is its caller
abbrev pub open_round : Bool → Tables → ℕ → ℕ → ℕ → KeyFuture → Table → Outcome Tables
open_round once h i f w x t =
    applied h f x.table (at_round once x i (others_of h f x.table i) (record t { current = insert t.current x.key i }) (cells.poll f w (caller x) (new_cell None)))

-- or the future is a further caller of it
abbrev pub join_round : Bool → Tables → ℕ → ℕ → ℕ → KeyFuture → Table → Option ℕ → Outcome Tables
join_round once h i f w x t None = open_round once h i f w x t
join_round once h i f w x t (Some n) = in_round once h f x t (cells.poll f w) n

-- or the key has a value
abbrev pub first_poll : Bool → Tables → ℕ → ℕ → ℕ → KeyFuture → Table → Option ℕ → Outcome Tables
first_poll once h i f w x t None = join_round once h i f w x t (get t.current x.key)
first_poll once h i f w x t (Some v) = applied h f x.table (finds t v)

-- a future is polled in line i: a first poll, or one of a caller of its round
abbrev pub poll : Bool → Tables → ℕ → ℕ → ℕ → KeyFuture → Table → Option ℕ → Outcome Tables
poll once h i f w x t None = first_poll once h i f w x t (get t.values x.key)
poll once h i f w x t (Some n) = in_round once h f x t (cells.poll f w) n

-- the initialiser is settled, and the waker that it was last polled with is woken
abbrev pub settle : Bool → Tables → ℕ → Initialiser → KeyFuture → Table → Option ℕ → Outcome Tables
settle once h f r x t None = quietly (record h { futures = insert h.futures f (record x { init = r }) }) answers.Done
settle once h f r x t (Some n) = in_round once h f x t (cells.settle f r) n

-- the end of a future, whose round is there, if it has one, as its map or group is
abbrev pub forgets : Tables → ℕ → Outcome Tables
forgets h f = quietly (record h { futures = remove h.futures f }) answers.Done

-- the same at its round, which may be gone
abbrev pub end_at : Bool → Tables → ℕ → KeyFuture → Table → ℕ → Option Cell → Outcome Tables
end_at once h f x t n None = forgets h f
end_at once h f x t n (Some c) = applied h f x.table (at_round once x n (others_of h f x.table n) t (cells.end f (caller x) c))

-- the same by its round, if it has one
abbrev pub end_in : Bool → Tables → ℕ → KeyFuture → Table → Option ℕ → Outcome Tables
end_in once h f x t None = forgets h f
end_in once h f x t (Some n) = end_at once h f x t n (get t.rounds n)

-- the end of the future f: it is gone, and with the last caller its round
abbrev pub end : Bool → Tables → ℕ → KeyFuture → Option Table → Outcome Tables
end once h f x None = forgets h f
end once h f x (Some t) = end_in once h f x t x.round

-- the map or group o is this now
abbrev pub with_table : Tables → ℕ → Table → Tables
with_table h o t = record h { tables = insert h.tables o t }

-- a map or a group is made, with no key
abbrev pub make : Tables → ℕ → Outcome Tables
make h i = quietly (with_table h i new_table) answers.Made

-- a future of o for the key k is made, which was never polled
abbrev pub begin : Tables → ℕ → ℕ → ℕ → Outcome Tables
begin h i o k = quietly (record h { futures = insert h.futures i (record { table = o; key = k; init = Unsettled; round = None }) }) answers.Made

-- ---- codes, by which a proof tells two values apart
-- of a map or a group
abbrev pub table_code : Coded Table
table_code =
    code_by (Names ℕ × (Names ℕ × Names Cell)) (coded× (names_code coded_ℕ) (coded× (names_code coded_ℕ) (names_code cell_code)))
    (λ t. (t.values, (t.current, t.rounds))) (λ p. record { values = p.0; current = p.1.0; rounds = p.1.1 }) (λ _. refl)

-- of a future
abbrev pub future_code : Coded KeyFuture
future_code =
    code_by (ℕ × (ℕ × (Initialiser × Option ℕ))) (coded× coded_ℕ (coded× coded_ℕ (coded× init_code (coded_option coded_ℕ))))
    (λ x. (x.table, (x.key, (x.init, x.round)))) (λ p. record { table = p.0; key = p.1.0; init = p.1.1.0; round = p.1.1.1 }) (λ _. refl)

-- of maps or groups by name
abbrev pub tables_code : Coded Tables
tables_code = code_by (Names Table × Names KeyFuture) (coded× (names_code table_code) (names_code future_code)) (λ h. (h.tables, h.futures)) (λ p. record { tables = p.0; futures = p.1 }) (λ _. refl)
