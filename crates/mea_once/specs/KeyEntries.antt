-- what a hall keeps of a map or a group, and what the calls of its entry do
use Rattle.std.specs.Prelude.{ℕ, ◌≡◌, ◌+◌, ◌-◌, ◌==◌, ◌++◌, Bool, false, cond, [], map, Option, Some, None, Result, Ok, Err, nat_eq, refl}
use Rattle.std.specs.Coded.{Coded, code_by, coded×, coded_ℕ, coded_option}
use Rattle.std.specs.FinMap.{get, insert, remove}
use Rattle.mea_family.specs.declared.answer.Answer.TheVariants as answers
use Rattle.mea_base.specs.Ready.{Waking}
use Rattle.mea_sets.specs.Poll.{Poll, Ready, Pending}
use Rattle.mea_by_name.specs.declared.named_waker.NamedWaker.{NamedWaker}
use Rattle.mea_by_name.specs.ByName.{Names, names_code}
use Rattle.mea_once_core.specs.Keyed.{keyed_code, IsSameKeyed}
use Rattle.mea_once_core.specs.Waiting.{waiting_in}
use Rattle.mea_once_core.specs.declared.key_call.KeyStage.{KeyStage}
use Rattle.mea_once_core.specs.declared.key_call.KeyStage.TheVariants as key_stages
use Rattle.mea_once_core.specs.declared.cell_stage.CellStage.{CellStage}
use Rattle.mea_once_core.specs.declared.cell_stage.CellStage.TheVariants as stages
use Rattle.mea_once_model.specs.Tables.{is_this}
use Rattle.mea_once.specs.declared.key_future.KeyFuture.{KeyFuture}
use Rattle.mea_once.specs.declared.round.Round.{Round}
use Rattle.mea_once.specs.declared.poll_reply.PollReply.{PollReply}
use Rattle.mea_once.specs.KeyCores.{NamedKeyed}
use Rattle.mea_by_name.specs.NamedWaker.{waker_code}
use Rattle.mea_once.specs.Entries.{of_running, runs, pending, over}

-- a map or a group: its core, the current round of each key that is being computed, its rounds, and how many futures it has
pub record KeptTable : Type 0 where
  pub keyed : NamedKeyed
  pub current : Names ℕ
  pub rounds : Names Round
  pub futures : ℕ

abbrev pub round_code : Coded Round
round_code =
    code_by (ℕ × (ℕ × (Option NamedWaker × ℕ))) (coded× coded_ℕ (coded× coded_ℕ (coded× (coded_option waker_code) coded_ℕ)))
    (λ r. (r.key, (r.entry, (r.running, r.callers)))) (λ p. record { key = p.0; entry = p.1.0; running = p.1.1.0; callers = p.1.1.1 }) (λ _. refl)

abbrev pub kept_table_code : Coded KeptTable
kept_table_code =
    code_by (NamedKeyed × (Names ℕ × (Names Round × ℕ)))
    (coded× (keyed_code coded_ℕ coded_ℕ waker_code) (coded× (names_code coded_ℕ) (coded× (names_code round_code) coded_ℕ)))
    (λ e. (e.keyed, (e.current, (e.rounds, e.futures)))) (λ p. record { keyed = p.0; current = p.1.0; rounds = p.1.1.0; futures = p.1.1.1 }) (λ _. refl)

-- a new round of a key, with one caller
abbrev pub new_round : ℕ → Round
new_round k = record { key = k; entry = 0; running = None; callers = 1 }

-- with one caller more, or one less
abbrev pub joined : Round → Round
joined r = record r { callers = r.callers + 1 }

abbrev pub parted : Round → Round
parted r = record r { callers = r.callers - 1 }

-- the round that a poll of a future is at, of which it is a caller then: its own; its key's current one; or a new one
pub data Enters (e : KeptTable) (i : ℕ) (x : KeyFuture) : ℕ → KeptTable → Type 0 where
  Stays : (n : ℕ) → x.round ≡ Some n → Enters e i x n e
  Joins : (n : ℕ) (r : Round) → x.round ≡ None → get e.current x.key ≡ Some n → get e.rounds n ≡ Some r
      → Enters e i x n (record e { rounds = insert e.rounds n (joined r) })
  Opens : x.round ≡ None → get e.current x.key ≡ None
      → Enters e i x i (record e { rounds = insert e.rounds i (new_round x.key); current = insert e.current x.key i })

-- the round that a future is a caller of, under its name, if it is one
abbrev pub IsOwn : KeptTable → Option ℕ → Option (ℕ × Round) → Type 0
IsOwn e o None = o ≡ None
IsOwn e o (Some a) = (o ≡ Some a.0) × (get e.rounds a.0 ≡ Some a.1)

-- whether the initialiser of f, whose own round this is, keeps a waker
abbrev pub runs_own : Option (ℕ × Round) → ℕ → Bool
runs_own None f = false
runs_own (Some a) f = runs a.1.running f

-- the key has this round no more, where it was its current one
abbrev pub current_without : Names ℕ → ℕ → ℕ → Names ℕ
current_without m k n = cond (is_this n (get m k)) (remove m k) m

abbrev pub closed : KeptTable → ℕ → ℕ → KeptTable
closed e k n = record e { current = current_without e.current k n }

-- a caller leaves its round, which is gone with the last of them
abbrev pub left_round : KeptTable → ℕ → ℕ → Round → KeptTable
left_round e k n r = cond (r.callers == 1) (closed (record e { rounds = remove e.rounds n }) k n) (record e { rounds = insert e.rounds n (parted r) })

abbrev pub one_future_less : KeptTable → KeptTable
one_future_less e = record e { futures = e.futures - 1 }

-- the number of the entry that a call is at
abbrev pub entry_in : KeyStage ℕ → ℕ → ℕ
entry_in (key_stages.Calls number) n = number
entry_in _ n = n

-- the waker that the initialiser of a call keeps which was polled with k
abbrev pub running_in : CellStage → Option NamedWaker → NamedWaker → Option NamedWaker
running_in stages.Running r k = Some k
running_in _ r k = r

abbrev pub stayed : Round → KeyFuture → NamedWaker → Round
stayed r x k = record r { entry = entry_in x.call.stage r.entry; running = running_in x.call.call.stage r.running k }

-- what follows from a poll of a caller of round n
abbrev pub FollowsKey : Poll (Result ℕ ℕ) → KeptTable → ℕ → Round → KeyFuture → NamedWaker → PollReply → KeptTable → KeyFuture → Type 0
FollowsKey Pending e n r x k told e' x' = (told ≡ pending) × (e' ≡ record e { rounds = insert e.rounds n (stayed r x k) }) × (x' ≡ record x { round = Some n })
FollowsKey (Ready (Ok v)) e n r x k told e' x' = (told ≡ over (answers.Value v)) × (e' ≡ one_future_less (left_round (closed e x.key n) x.key n r))
FollowsKey (Ready (Err z)) e n r x k told e' x' = (told ≡ over (answers.Failure z)) × (e' ≡ one_future_less (left_round e x.key n r))

-- how many wakers its callers keep, and the initialiser of one round
abbrev pub kept_with : KeptTable → Option NamedWaker → ℕ
kept_with e r = waiting_in e.keyed.table.slots + of_running r

-- the wakers that were ready were handed on, and as many are registered as are kept
pub record HandsKeys (old : KeptTable) (r : Option NamedWaker) (new : KeptTable) (more : ℕ) (before after : Waking ℕ) : Type 0 where
  pub entry : new ≡ record old { keyed = record old.keyed { wakes = [] } }
  pub wakers : after.wakers ≡ before.wakers ++ map (λ (k : NamedWaker). k.waker) old.keyed.wakes
  pub counted : after.registered + more ≡ before.registered + kept_with old r

-- it is as it was
pub record IsSameTable (old new : KeptTable) : Type 0 where
  pub keyed : IsSameKeyed nat_eq old.keyed new.keyed
  pub current : new.current ≡ old.current
  pub rounds : new.rounds ≡ old.rounds
  pub futures : new.futures ≡ old.futures

-- whether the initialiser of f keeps a waker in what may be a round
abbrev pub runs_round : Option Round → ℕ → Bool
runs_round None f = false
runs_round (Some r) f = runs r.running f

-- the round n keeps this waker
abbrev pub with_running : KeptTable → ℕ → Round → Option NamedWaker → KeptTable
with_running e n r k = record e { rounds = insert e.rounds n (record r { running = k }) }

-- the waker of f, where it is the one that is kept
abbrev pub stopped_waker : Option NamedWaker → ℕ → Option ℕ
stopped_waker None f = None
stopped_waker (Some k) f = cond (k.name == f) (Some k.waker) None
