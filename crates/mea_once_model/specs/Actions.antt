-- what can be done to cells by name: why it is refused, and what it does
use Rattle.std.specs.Prelude.{ℕ, ◌==◌, Bool, true, false, cond, Option, Some, None, if◌then◌else◌}
use Rattle.std.specs.FinMap.{get}
use Rattle.mea_family.specs.declared.answer.Answer.TheVariants as answers
use Rattle.mea_family.specs.declared.stop.Stop.{Stop}
use Rattle.mea_family.specs.Causes.{unknown_unless, borrowed_by}
use Rattle.mea_family.specs.Family.{Outcome}
use Rattle.mea_family.specs.Play.{found, content}
use Rattle.mea_once_model.specs.declared.errand.Initialiser.{Initialiser}
use Rattle.mea_once_model.specs.declared.errand.Errand.{Errand}
use Rattle.mea_once_model.specs.declared.whole_use.WholeUse.{WholeUse}
use Rattle.mea_once_model.specs.Cells as cells
use Rattle.mea_once_model.specs.Cells.{Cells, is_cell, is_future, is_unsettled, is_alone, futures_of, alone_of}

-- what is done to a cell, or by one of its futures
pub data Action : Type 0 where
  -- a cell, with this value or none
  Make : Option ℕ → Action
  -- a future of the cell that does this
  Begin : ℕ → Errand → Action
  -- a future is polled with a waker, its initialiser is settled, or it ends
  Poll : ℕ → ℕ → Action
  Settle : ℕ → Initialiser → Action
  End : ℕ → Action
  -- it is told whether the cell is full, or what its value is
  TellFull : ℕ → Action
  Tell : ℕ → Action
  -- the value of a cell that has no future is used; or the cell goes with it
  Use : ℕ → WholeUse → Action
  TakeOut : ℕ → Action
  Drop : ℕ → Action

-- how many futures are in the way of a new one: one that is to use the cell alone suffers none beside it, and else none
-- that does may be there
abbrev pub in_the_way : Cells → ℕ → Errand → ℕ
in_the_way h o errand = if is_alone errand then futures_of h o else alone_of h o

-- why an action is refused; none where it is not
abbrev pub cause_in : Cells → Action → Option Stop
cause_in h (Make v) = None
cause_in h (Begin o errand) = borrowed_by (is_cell h o) (in_the_way h o errand)
cause_in h (Poll f w) = unknown_unless (is_future h f)
cause_in h (Settle f r) = unknown_unless (is_unsettled h f)
cause_in h (End f) = unknown_unless (is_future h f)
cause_in h (TellFull o) = borrowed_by (is_cell h o) (alone_of h o)
cause_in h (Tell o) = borrowed_by (is_cell h o) (alone_of h o)
cause_in h (Use o u) = borrowed_by (is_cell h o) (futures_of h o)
cause_in h (TakeOut o) = borrowed_by (is_cell h o) (futures_of h o)
cause_in h (Drop o) = borrowed_by (is_cell h o) (futures_of h o)

-- what is done under number i
abbrev pub act_in : Cells → ℕ → Action → Outcome Cells
act_in h i (Make v) = cells.make h i v
act_in h i (Begin o errand) = cells.begin h i o errand
act_in h i (Poll f w) = found (get h.futures f) h (λ x. found (get h.cells x.cell) h (λ c. cells.applied h f x.cell (cells.poll f w x c)))
act_in h i (Settle f r) = found (get h.futures f) h (λ x. found (get h.cells x.cell) h (λ c. cells.applied h f x.cell (cells.settle f r x c)))
act_in h i (End f) = found (get h.futures f) h (λ x. cells.end_at h f x (get h.cells x.cell))
act_in h i (TellFull o) = found (get h.cells o) h (cells.tell_full h)
act_in h i (Tell o) = found (get h.cells o) h (cells.tell h)
act_in h i (Use o u) = found (get h.cells o) h (cells.use_whole h o u)
act_in h i (TakeOut o) = found (get h.cells o) h (λ c. cells.gone h o (content c.value))
act_in h i (Drop o) = found (get h.cells o) h (λ c. cells.gone h o answers.Done)

-- the waker with which f is polled, if it is
abbrev pub polled_in : Action → ℕ → Option ℕ
polled_in (Poll g w) f = cond (g == f) (Some w) None
polled_in _ f = None

-- whether f is ended
abbrev pub ends_in : Action → ℕ → Bool
ends_in (End k) f = k == f
ends_in _ f = false

-- whether a waker may be registered
abbrev pub registers_in : Action → Bool
registers_in (Poll f w) = true
registers_in _ = false
