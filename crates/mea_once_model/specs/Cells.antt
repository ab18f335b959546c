-- cells by name that are filled once, with the futures that are of them
use Rattle.std.specs.Prelude.{ℕ, zero, suc, ◌≡◌, ◌++◌, Bool, true, false, not, List, [], ◌∷◌, Option, Some, None, is_some, option_to_list, if◌then◌else◌, refl}
use Rattle.std.specs.Coded.{Coded, code_by, coded×, coded_ℕ, coded_bool, coded_list, coded_option}
use Rattle.std.specs.FinMap.{empty, get, insert, remove, len}
use Rattle.mea_family.specs.declared.answer.Answer.{Answer}
use Rattle.mea_family.specs.declared.answer.Answer.TheVariants as answers
use Rattle.mea_family.specs.Family.{Outcome, quietly}
use Rattle.mea_once_model.specs.declared.errand.Initialiser.{Initialiser}
use Rattle.mea_once_model.specs.declared.errand.Initialiser.TheVariants.{Unsettled, Gives, Fails}
use Rattle.mea_once_model.specs.declared.errand.Errand.{Errand}
use Rattle.mea_once_model.specs.declared.errand.Errand.TheVariants.{Calls, Computes, Alone, Sets, Inserts, Awaits}
use Rattle.mea_once_model.specs.declared.whole_use.WholeUse.{WholeUse}
use Rattle.mea_once_model.specs.declared.whole_use.WholeUse.TheVariants.{Tells, Writes}
use Rattle.mea_by_name.specs.ByName.{Names, names_code, own, count}
use Rattle.mea_by_name.specs.NamedQueue as named_queue
use Rattle.mea_by_name.specs.NamedQueue.{Waiting, waker_for, waits, with_waker, without, wakers, registering}
use Rattle.mea_family.specs.Play.{content}

-- a cell: its value or none; whether one of its callers has its turn; who waits for the turn, in order; whose initialiser
-- was polled with which waker, and is not settled; and who waits until it is full. A call that runs once is a cell whose
-- value tells nothing
pub record Cell : Type 0 where
  pub value : Option ℕ
  pub taken : Bool
  pub queue : Waiting
  pub runner : Waiting
  pub waits : Waiting

-- a future: its cell, what it does, and whether it has asked for its turn, which one that uses its cell alone does not. One
-- that has, and waits no more, has its turn
pub record CellFuture : Type 0 where
  pub cell : ℕ
  pub errand : Errand
  pub polled : Bool

-- cells by name, and their futures by name
pub record Cells : Type 0 where
  pub cells : Names Cell
  pub futures : Names CellFuture

-- no cell and no future
abbrev pub no_cells : Cells
no_cells = record { cells = empty; futures = empty }

-- ---- what lives
-- whether o is a cell
abbrev pub is_cell : Cells → ℕ → Bool
is_cell h o = is_some (get h.cells o)

-- whether f is a future
abbrev pub is_future : Cells → ℕ → Bool
is_future h f = is_some (get h.futures f)

-- whether an initialiser is not settled
abbrev pub is_open : Initialiser → Bool
is_open Unsettled = true
is_open _ = false

-- whether it has an initialiser that is not settled
abbrev pub can_settle : Errand → Bool
can_settle (Calls i) = is_open i
can_settle (Computes i) = is_open i
can_settle (Alone i) = is_open i
can_settle _ = false

-- the same of a future, which may be gone
abbrev pub settles_in : Option CellFuture → Bool
settles_in None = false
settles_in (Some x) = can_settle x.errand

-- the same of the future f
abbrev pub is_unsettled : Cells → ℕ → Bool
is_unsettled h f = settles_in (get h.futures f)

-- whether it uses its cell alone
abbrev pub is_alone : Errand → Bool
is_alone (Alone i) = true
is_alone _ = false

-- how many futures a cell has
abbrev pub futures_of : Cells → ℕ → ℕ
futures_of h o = len (own (λ (x : CellFuture). x.cell) o h.futures)

-- how many of them use it alone
abbrev pub alone_of : Cells → ℕ → ℕ
alone_of h o = count (λ x. is_alone x.errand) (own (λ (x : CellFuture). x.cell) o h.futures)

-- all whose wakers a cell keeps
abbrev pub waiting_at : Cell → Waiting
waiting_at c = c.queue ++ (c.runner ++ c.waits)

-- how many wakers are registered
abbrev pub registered : Cells → ℕ
registered h = named_queue.registered waiting_at h.cells

-- the waker that is kept for f
abbrev pub placed : Cells → ℕ → Option ℕ
placed h f = named_queue.placed waiting_at (λ (x : CellFuture). x.cell) h.cells h.futures f

-- ---- what is told
-- where the cell was full with v
abbrev pub found_full : Errand → ℕ → Answer
found_full (Computes i) v = answers.Value v
found_full (Alone i) v = answers.Value v
found_full (Sets u) v = answers.Back u
found_full (Inserts u) v = answers.Kept v u
found_full _ v = answers.Ready

-- where this future filled it with v
abbrev pub has_filled : Errand → ℕ → Answer
has_filled (Calls i) v = answers.Ready
has_filled (Sets u) v = answers.Accepted
has_filled Awaits v = answers.Ready
has_filled _ v = answers.Value v

-- ---- what becomes of a cell
-- a cell with this value or none, which nobody uses
abbrev pub new_cell : Option ℕ → Cell
new_cell v = record { value = v; taken = false; queue = []; runner = []; waits = [] }

-- the turn goes to the first of these, or to nobody
abbrev pub passed : Waiting → Cell → Cell
passed [] c = record c { taken = false; queue = [] }
passed (e ∷ q) c = record c { queue = q }

-- whom the turn wakes: the first of these, or nobody
abbrev pub woken_next : Waiting → List ℕ
woken_next [] = []
woken_next (e ∷ q) = e.1 ∷ []

-- f, whose turn it is, gives it up
abbrev pub given_up : ℕ → Cell → Cell
given_up f c = passed c.queue (record c { runner = without c.runner f })

-- f fills it, and all who wait for that are woken
abbrev pub filled : ℕ → ℕ → Cell → Cell
filled f v c = passed c.queue (record c { value = Some v; runner = without c.runner f; waits = [] })

-- ---- what a future does
-- what its initialiser comes to: a value to be set is one that is settled already
abbrev pub init_of : Errand → Initialiser
init_of (Calls i) = i
init_of (Computes i) = i
init_of (Alone i) = i
init_of (Sets v) = Gives v
init_of (Inserts v) = Gives v
init_of Awaits = Unsettled

-- what a future does, with this in place of its initialiser, if it has one
abbrev pub settled : Initialiser → Errand → Errand
settled r (Calls i) = Calls r
settled r (Computes i) = Computes r
settled r (Alone i) = Alone r
settled r (Sets v) = Sets v
settled r (Inserts v) = Inserts v
settled r Awaits = Awaits

-- the cell o is this now
abbrev pub with_cell : Cells → ℕ → Cell → Cells
with_cell h o c = record h { cells = insert h.cells o c }

-- a cell is made, with this value or none
abbrev pub make : Cells → ℕ → Option ℕ → Outcome Cells
make h i v = quietly (with_cell h i (new_cell v)) answers.Made

-- a future of o is made, which was never polled
abbrev pub begin : Cells → ℕ → ℕ → Errand → Outcome Cells
begin h i o errand = quietly (record h { futures = insert h.futures i (record { cell = o; errand = errand; polled = false }) }) answers.Made

-- what becomes of a cell and of one of its futures, which may be gone, the reply, and the wakers that are made ready
pub record Step : Type 0 where
  pub cell : Cell
  pub future : Option CellFuture
  pub reply : Answer
  pub wakes : List ℕ

-- the future waits on
abbrev pub pends : CellFuture → Cell → Step
pends x c = record { cell = c; future = Some x; reply = answers.Pending; wakes = [] }

-- the future is gone
abbrev pub leaves : Cell → Answer → List ℕ → Step
leaves c reply ws = record { cell = c; future = None; reply = reply; wakes = ws }

-- the initialiser of f, whose turn it is: it keeps the waker, or fills the cell, or fails
abbrev pub run : ℕ → ℕ → CellFuture → Cell → Initialiser → Step
run f w x c Unsettled = pends (record x { polled = not (is_alone x.errand) }) (record c { runner = c.runner ++ (f, w) ∷ [] })
run f w x c (Gives v) = leaves (filled f v c) (has_filled x.errand v) (wakers c.waits ++ woken_next c.queue)
run f w x c (Fails e) = leaves (given_up f c) (answers.Failure e) (woken_next c.queue)

-- whose turn has come looks again: a value that is there by now is enough, and the turn goes to the next
abbrev pub take_turn : ℕ → ℕ → CellFuture → Cell → Option ℕ → Step
take_turn f w x c None = run f w x c (init_of x.errand)
take_turn f w x c (Some v) = leaves (given_up f c) (found_full x.errand v) (woken_next c.queue)

-- f waits for its turn
abbrev pub queues : ℕ → ℕ → CellFuture → Cell → Step
queues f w x c = pends (record x { polled = true }) (record c { queue = c.queue ++ (f, w) ∷ [] })

-- f waits until the cell is full
abbrev pub awaits : ℕ → ℕ → CellFuture → Cell → Step
awaits f w x c = pends x (record c { waits = registering c.waits f w })

-- f waits for its turn, or has it at once
abbrev pub ask : ℕ → ℕ → CellFuture → Cell → Initialiser → Step
ask f w x c r = if c.taken then queues f w x c else run f w x (record c { taken = true }) r

-- what f does at an empty cell: it waits until that is full, or runs alone, or asks for its turn
abbrev pub start_in : ℕ → ℕ → CellFuture → Cell → Errand → Step
start_in f w x c (Calls r) = ask f w x c r
start_in f w x c (Computes r) = ask f w x c r
start_in f w x c (Alone r) = run f w x c r
start_in f w x c (Sets v) = ask f w x c (Gives v)
start_in f w x c (Inserts v) = ask f w x c (Gives v)
start_in f w x c Awaits = awaits f w x c

-- a first poll looks first
abbrev pub start : ℕ → ℕ → CellFuture → Cell → Option ℕ → Step
start f w x c None = start_in f w x c x.errand
start f w x c (Some v) = leaves c (found_full x.errand v) []

-- who waits for its turn, or has an initialiser that is not settled, or waits until the cell is full, waits on
abbrev pub poll : ℕ → ℕ → CellFuture → Cell → Step
poll f w x c =
    if waits c.queue f then pends x (record c { queue = with_waker c.queue f w })
    else if waits c.runner f then pends x (record c { runner = with_waker c.runner f w })
    else if waits c.waits f then awaits f w x c
    else if x.polled then take_turn f w x c c.value
    else start f w x c c.value

-- the initialiser of f is settled, and the waker that it was last polled with is woken
abbrev pub settle : ℕ → Initialiser → CellFuture → Cell → Step
settle f r x c = record { cell = record c { runner = without c.runner f }; future = Some (record x { errand = settled r x.errand }); reply = answers.Done; wakes = option_to_list (waker_for c.runner f) }

-- the end of a future: it leaves the queue, or gives up its turn; who waits until the cell is full stays registered
abbrev pub end : ℕ → CellFuture → Cell → Step
end f x c =
    if waits c.queue f then leaves (record c { queue = without c.queue f }) answers.Done []
    else if x.polled then leaves (given_up f c) answers.Done (woken_next c.queue)
    else leaves (record c { runner = without c.runner f }) answers.Done []

-- this is what becomes of a future
abbrev pub turned_to : {X : Type 0} → Names X → ℕ → Option X → Names X
turned_to fs f None = remove fs f
turned_to fs f (Some y) = insert fs f y

-- a step of the future f and its cell o
abbrev pub applied : Cells → ℕ → ℕ → Step → Outcome Cells
applied h f o s = record { hall = record { cells = insert h.cells o s.cell; futures = turned_to h.futures f s.future }; reply = s.reply; wakes = s.wakes }

-- the end of a future whose cell is there, as it is while the future is
abbrev pub end_at : Cells → ℕ → CellFuture → Option Cell → Outcome Cells
end_at h f x None = quietly (record h { futures = remove h.futures f }) answers.Done
end_at h f x (Some c) = applied h f x.cell (end f x c)

-- ---- for who has the whole cell
-- the value is told, or that there is none
abbrev pub tell : Cells → Cell → Outcome Cells
tell h c = quietly h (content c.value)

-- it is told whether there is a value
abbrev pub tell_full : Cells → Cell → Outcome Cells
tell_full h c = quietly h (if is_some c.value then answers.Yes else answers.No)

-- the value after a use of the whole cell
abbrev pub value_after : WholeUse → Option ℕ → Option ℕ
value_after Tells v = v
value_after (Writes u) (Some v) = Some u
value_after _ _ = None

-- the reply to it
abbrev pub reply_to : WholeUse → Option ℕ → Answer
reply_to (Writes u) None = answers.Lacking
reply_to (Writes u) (Some v) = answers.Done
reply_to _ v = content v

-- the value of a cell that has no future is used
abbrev pub use_whole : Cells → ℕ → WholeUse → Cell → Outcome Cells
use_whole h o u c = quietly (with_cell h o (record c { value = value_after u c.value })) (reply_to u c.value)

-- it is gone
abbrev pub gone : Cells → ℕ → Answer → Outcome Cells
gone h o reply = quietly (record h { cells = remove h.cells o }) reply

-- ---- codes, by which a proof tells two values apart
-- of those who wait, each with its waker
abbrev pub waiting_code : Coded Waiting
waiting_code = coded_list (coded× coded_ℕ coded_ℕ)

-- of a cell
abbrev pub cell_code : Coded Cell
cell_code =
    code_by (Option ℕ × (Bool × (Waiting × (Waiting × Waiting)))) (coded× (coded_option coded_ℕ) (coded× coded_bool (coded× waiting_code (coded× waiting_code waiting_code))))
    (λ c. (c.value, (c.taken, (c.queue, (c.runner, c.waits))))) (λ p. record { value = p.0; taken = p.1.0; queue = p.1.1.0; runner = p.1.1.1.0; waits = p.1.1.1.1 }) (λ _. refl)

-- an initialiser as two numbers
abbrev pub init_number : Initialiser → ℕ × ℕ
init_number Unsettled = (0, 0)
init_number (Gives v) = (1, v)
init_number (Fails e) = (2, e)

-- and back
abbrev pub init_of_number : ℕ × ℕ → Initialiser
init_of_number (zero, v) = Unsettled
init_of_number (suc zero, v) = Gives v
init_of_number (suc (suc n), v) = Fails v

-- from the numbers of an initialiser it comes back
pub init_back : (i : Initialiser) → init_of_number (init_number i) ≡ i
init_back Unsettled = refl
init_back _ = refl

-- of an initialiser
abbrev pub init_code : Coded Initialiser
init_code = code_by (ℕ × ℕ) (coded× coded_ℕ coded_ℕ) init_number init_of_number init_back

-- what a future does as a number, with its initialiser or its value
abbrev pub errand_number : Errand → ℕ × (Initialiser × ℕ)
errand_number (Calls i) = (0, (i, 0))
errand_number (Computes i) = (1, (i, 0))
errand_number (Alone i) = (2, (i, 0))
errand_number (Sets v) = (3, (Unsettled, v))
errand_number (Inserts v) = (4, (Unsettled, v))
errand_number Awaits = (5, (Unsettled, 0))

-- and back
abbrev pub errand_of_number : ℕ × (Initialiser × ℕ) → Errand
errand_of_number (zero, p) = Calls p.0
errand_of_number (suc zero, p) = Computes p.0
errand_of_number (suc (suc zero), p) = Alone p.0
errand_of_number (suc (suc (suc zero)), p) = Sets p.1
errand_of_number (suc (suc (suc (suc zero))), p) = Inserts p.1
errand_of_number (suc (suc (suc (suc (suc n)))), p) = Awaits

-- from them it comes back
pub errand_back : (x : Errand) → errand_of_number (errand_number x) ≡ x
errand_back (Calls i) = refl
errand_back _ = refl

-- of what a future does
abbrev pub errand_code : Coded Errand
errand_code = code_by (ℕ × (Initialiser × ℕ)) (coded× coded_ℕ (coded× init_code coded_ℕ)) errand_number errand_of_number errand_back

-- of a future
abbrev pub future_code : Coded CellFuture
future_code = code_by (ℕ × (Errand × Bool)) (coded× coded_ℕ (coded× errand_code coded_bool)) (λ x. (x.cell, (x.errand, x.polled))) (λ p. record { cell = p.0; errand = p.1.0; polled = p.1.1 }) (λ _. refl)

-- of cells by name
abbrev pub cells_code : Coded Cells
cells_code = code_by (Names Cell × Names CellFuture) (coded× (names_code cell_code) (names_code future_code)) (λ h. (h.cells, h.futures)) (λ p. record { cells = p.0; futures = p.1 }) (λ _. refl)
