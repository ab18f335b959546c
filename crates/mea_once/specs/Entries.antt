-- what a hall keeps of a cell, and what the calls of its entry do
use Rattle.std.specs.Prelude.{ℕ, ◌≡◌, ◌+◌, ◌-◌, ◌==◌, ◌++◌, Bool, true, false, cond, [], ◌∷◌, length, map, Option, Some, None, refl}
use Rattle.std.specs.Coded.{Coded, code_by, coded×, coded_ℕ, coded_option}
use Rattle.mea_family.specs.declared.answer.Answer.{Answer}
use Rattle.mea_family.specs.declared.answer.Answer.TheVariants as answers
use Rattle.mea_base.specs.Ready.{Waking}
use Rattle.mea_by_name.specs.declared.named_waker.NamedWaker.{NamedWaker}
use Rattle.mea_by_name.specs.NamedWaker.{waker_code}
use Rattle.mea_sem_core.specs.Core.{core_code}
use Rattle.mea_sets.specs.WaitSet.{registered_code}
use Rattle.mea_once_core.specs.declared.cell_turn.CellTurn.{CellTurn}
use Rattle.mea_once_core.specs.declared.cell_turn.CellTurn.TheVariants as turns
use Rattle.mea_once_model.specs.declared.errand.Initialiser.{Initialiser}
use Rattle.mea_once_model.specs.declared.errand.Initialiser.TheVariants.{Unsettled, Gives, Fails}
use Rattle.mea_once_model.specs.declared.errand.Errand.{Errand}
use Rattle.mea_once_model.specs.Cells.{init_of, is_alone, found_full, has_filled}
use Rattle.mea_once.specs.declared.poll_reply.PollReply.{PollReply}
use Rattle.mea_once.specs.Cores.{NamedCell, FillsCell, GivesUpCell}

-- a cell, the waker that an initialiser of its callers keeps, and how many futures it has, and how many of them use it
-- alone
pub record KeptCell : Type 0 where
  pub cell : NamedCell
  pub running : Option NamedWaker
  pub futures : ℕ
  pub alone : ℕ

abbrev pub named_cell_code : Coded NamedCell
named_cell_code =
    code_by (Option ℕ × (_ × _)) (coded× (coded_option coded_ℕ) (coded× (core_code waker_code) (registered_code waker_code)))
    (λ c. (c.value, (c.permit, c.waits))) (λ p. record { value = p.0; permit = p.1.0; waits = p.1.1 }) (λ _. refl)

abbrev pub kept_cell_code : Coded KeptCell
kept_cell_code =
    code_by (NamedCell × (Option NamedWaker × (ℕ × ℕ))) (coded× named_cell_code (coded× (coded_option waker_code) (coded× coded_ℕ coded_ℕ)))
    (λ e. (e.cell, (e.running, (e.futures, e.alone)))) (λ p. record { cell = p.0; running = p.1.0; futures = p.1.1.0; alone = p.1.1.1 }) (λ _. refl)

-- one future more
abbrev pub begun : KeptCell → Errand → KeptCell
begun e errand = record e { futures = e.futures + 1; alone = e.alone + cond (is_alone errand) 1 0 }

-- one less
abbrev pub finished : KeptCell → Errand → KeptCell
finished e errand = record e { futures = e.futures - 1; alone = e.alone - cond (is_alone errand) 1 0 }

-- whether the waker that is kept is that of f
abbrev pub runs : Option NamedWaker → ℕ → Bool
runs None f = false
runs (Some k) f = k.name == f

-- f's initialiser keeps none any more
abbrev pub stopped : KeptCell → ℕ → KeptCell
stopped e f = record e { running = cond (runs e.running f) None e.running }

-- the waker that f's initialiser keeps is ready
abbrev pub waking : Option NamedWaker → ℕ → Waking ℕ → Waking ℕ
waking None f r = r
waking (Some k) f r = cond (k.name == f) (record { wakers = r.wakers ++ k.waker ∷ []; registered = r.registered - 1 }) r

-- how many wakers are kept
abbrev pub of_running : Option NamedWaker → ℕ
of_running None = 0
of_running (Some k) = 1

abbrev pub keeps : KeptCell → ℕ
keeps e = length e.cell.permit.queue + of_running e.running + length e.cell.waits.wakers

-- no waker is ready
abbrev pub rested : NamedCell → NamedCell
rested c = record c { permit = record c.permit { wakes = [] } }

-- the wakers that were ready were handed on, and as many are registered as are kept
pub record HandsOn (old new : KeptCell) (more : ℕ) (before after : Waking ℕ) : Type 0 where
  pub entry : new ≡ record old { cell = rested old.cell }
  pub wakers : after.wakers ≡ before.wakers ++ map (λ (k : NamedWaker). k.waker) old.cell.permit.wakes
  pub counted : after.registered + more ≡ before.registered + keeps old

abbrev pub pending : PollReply
pending = record { answer = answers.Pending; over = false }

abbrev pub over : Answer → PollReply
over reply = record { answer = reply; over = true }

-- the initialiser of a future whose turn it is ran
abbrev pub Ran : Initialiser → KeptCell → NamedWaker → Errand → PollReply → KeptCell → Type 0
Ran Unsettled e k errand told e' = (told ≡ pending) × (e' ≡ record e { running = Some k })
Ran (Gives v) e k errand told e' =
    (c : NamedCell) × FillsCell e.cell v c × (told ≡ over (has_filled errand v)) × (e' ≡ finished (stopped (record e { cell = c }) k.name) errand)
Ran (Fails x) e k errand told e' =
    (c : NamedCell) × GivesUpCell e.cell c × (told ≡ over (answers.Failure x)) × (e' ≡ finished (stopped (record e { cell = c }) k.name) errand)

-- what follows from a poll for one's turn
abbrev pub Follows : CellTurn NamedWaker → KeptCell → NamedWaker → Errand → PollReply → KeptCell → Type 0
Follows turns.Pending e k errand told e' = (told ≡ pending) × (e' ≡ e)
Follows turns.Full e k errand told e' = (v : ℕ) × (e.cell.value ≡ Some v) × (told ≡ over (found_full errand v)) × (e' ≡ finished (stopped e k.name) errand)
Follows (turns.Mine k') e k errand told e' = Ran (init_of errand) e k errand told e'

-- a future after a poll, if it is there
abbrev pub left_by : {X : Type 0} → Bool → X → Option X
left_by true x = None
left_by false x = Some x

-- the initialiser of a future that uses the cell alone ran, where that was empty
abbrev pub RanAlone : Option ℕ → Initialiser → KeptCell → NamedWaker → Errand → PollReply → KeptCell → Type 0
RanAlone (Some v) r e k errand told e' = (told ≡ over (found_full errand v)) × (e' ≡ finished (stopped e k.name) errand)
RanAlone None Unsettled e k errand told e' = (told ≡ pending) × (e' ≡ record e { running = Some k })
RanAlone None (Gives v) e k errand told e' =
    (told ≡ over (found_full errand v)) × (e' ≡ finished (stopped (record e { cell = record e.cell { value = Some v } }) k.name) errand)
RanAlone None (Fails x) e k errand told e' = (told ≡ over (answers.Failure x)) × (e' ≡ finished (stopped e k.name) errand)
