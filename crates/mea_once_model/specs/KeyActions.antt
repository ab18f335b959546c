-- what can be done to maps and groups by name: why it is refused, and what it does
use Rattle.std.specs.Prelude.{ℕ, ◌==◌, Bool, true, false, cond, Option, Some, None}
use Rattle.std.specs.FinMap.{get, remove}
use Rattle.mea_family.specs.declared.answer.Answer.TheVariants as answers
use Rattle.mea_family.specs.declared.stop.Stop.{Stop}
use Rattle.mea_family.specs.Causes.{unknown_unless, borrowed_by}
use Rattle.mea_family.specs.Family.{Outcome, quietly}
use Rattle.mea_family.specs.Play.{found, content}
use Rattle.mea_once_model.specs.declared.errand.Initialiser.{Initialiser}
use Rattle.mea_once_model.specs.Tables as tables
use Rattle.mea_once_model.specs.Tables.{Table, KeyFuture, Tables, is_table, is_future, is_unsettled, futures_of, without_key}

-- what is done to a map or a group, or by one of its futures
pub data KeyAction : Type 0 where
  -- a map or a group
  MakeTable : KeyAction
  -- a future of it that computes the value of a key
  BeginKey : ℕ → ℕ → KeyAction
  -- a future is polled with a waker, its initialiser is settled, or it ends
  PollKey : ℕ → ℕ → KeyAction
  SettleKey : ℕ → Initialiser → KeyAction
  EndKey : ℕ → KeyAction
  -- the value of a key is told; the key is taken out; or it is taken out and its value told
  TellKey : ℕ → ℕ → KeyAction
  DiscardKey : ℕ → ℕ → KeyAction
  RemoveKey : ℕ → ℕ → KeyAction
  -- it is gone
  DropTable : ℕ → KeyAction

-- why an action is refused; none where it is not
abbrev pub key_cause : Tables → KeyAction → Option Stop
key_cause h MakeTable = None
key_cause h (BeginKey o k) = unknown_unless (is_table h o)
key_cause h (PollKey f w) = unknown_unless (is_future h f)
key_cause h (SettleKey f r) = unknown_unless (is_unsettled h f)
key_cause h (EndKey f) = unknown_unless (is_future h f)
key_cause h (TellKey o k) = unknown_unless (is_table h o)
key_cause h (DiscardKey o k) = unknown_unless (is_table h o)
key_cause h (RemoveKey o k) = unknown_unless (is_table h o)
key_cause h (DropTable o) = borrowed_by (is_table h o) (futures_of h o)

-- what is done with the future f and its map or group
abbrev pub with_future : Tables → ℕ → (KeyFuture → Table → Outcome Tables) → Outcome Tables
with_future h f act = found (get h.futures f) h (λ x. found (get h.tables x.table) h (act x))

-- what is done under number i; `once` tells whether a value is for its round alone
abbrev pub key_act : Bool → Tables → ℕ → KeyAction → Outcome Tables
key_act once h i MakeTable = tables.make h i
key_act once h i (BeginKey o k) = tables.begin h i o k
key_act once h i (PollKey f w) = with_future h f (λ x t. tables.poll once h i f w x t x.round)
key_act once h i (SettleKey f r) = with_future h f (λ x t. tables.settle once h f r x t x.round)
key_act once h i (EndKey f) = found (get h.futures f) h (λ x. tables.end once h f x (get h.tables x.table))
key_act once h i (TellKey o k) = found (get h.tables o) h (λ t. quietly h (content (get t.values k)))
key_act once h i (DiscardKey o k) = found (get h.tables o) h (λ t. quietly (tables.with_table h o (without_key k t)) answers.Done)
key_act once h i (RemoveKey o k) = found (get h.tables o) h (λ t. quietly (tables.with_table h o (without_key k t)) (content (get t.values k)))
key_act once h i (DropTable o) = found (get h.tables o) h (λ t. quietly (record h { tables = remove h.tables o }) answers.Done)

-- the waker with which f is polled, if it is
abbrev pub key_polled : KeyAction → ℕ → Option ℕ
key_polled (PollKey g w) f = cond (g == f) (Some w) None
key_polled _ f = None

-- whether f is ended
abbrev pub key_ends : KeyAction → ℕ → Bool
key_ends (EndKey k) f = k == f
key_ends _ f = false

-- whether a waker may be registered
abbrev pub key_registers : KeyAction → Bool
key_registers (PollKey f w) = true
key_registers _ = false
