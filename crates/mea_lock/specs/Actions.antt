-- what the words of the code for what a line does stand for in the model, and what an action asks for
use Rattle.std.specs.Prelude.{◌≡◌, true}
use Rattle.mea_family.specs.Forms.{is_plain}
use Rattle.mea_lock_model.specs.Actions as model
use Rattle.mea_lock_model.specs.Actions.{Action}
use Rattle.mea_lock_model.specs.LockHall as kinds
use Rattle.mea_lock_model.specs.Meaning as model_meaning
use Rattle.mea_lock_model.specs.Meaning.{OnLocks, OnCondvars}
use Rattle.mea_lock.specs.declared.actions.LockAction.{LockAction}
use Rattle.mea_lock.specs.declared.actions.LockAction.TheVariants.{Make, Begin, Poll, Try, Get, Set, End, Peek, Put, Take, Drop}
use Rattle.mea_lock.specs.declared.meaning.Meaning.{Meaning}
use Rattle.mea_lock.specs.declared.meaning.Meaning.TheVariants.{Mutexes, RwLocks, Lowers, Condvars}
use Rattle.mea_lock.specs.Accesses.{writes}

-- what is done to locks of a kind
abbrev pub lock_action : LockAction → Action
lock_action (Make v most) = model.Make v most
lock_action (Begin o form access) = model.Begin o (is_plain form) (writes access)
lock_action (Poll f w) = model.Poll f w
lock_action (Try o form access) = model.Try o (is_plain form) (writes access)
lock_action (Get g) = model.Get g
lock_action (Set g v) = model.Set g v
lock_action (End x) = model.End x
lock_action (Peek o) = model.Peek o
lock_action (Put o v) = model.Put o v
lock_action (Take o) = model.Take o
lock_action (Drop o) = model.Drop o

-- what a line means, in the words of the model
abbrev pub meant : Meaning → model_meaning.Meaning
meant (Mutexes a) = OnLocks kinds.Mutexes (lock_action a)
meant (RwLocks a) = OnLocks kinds.RwLocks (lock_action a)
meant (Lowers g) = OnLocks kinds.RwLocks (model.Lower g)
meant (Condvars a) = OnCondvars a

-- a mutex has one permit, and its futures and guards write
abbrev pub FitsMutex : LockAction → Type 0
FitsMutex (Make v most) = most ≡ 1
FitsMutex (Begin o form access) = writes access ≡ true
FitsMutex (Try o form access) = writes access ≡ true
FitsMutex _ = Unit {0}

abbrev pub FitsMeaning : Meaning → Type 0
FitsMeaning (Mutexes a) = FitsMutex a
FitsMeaning _ = Unit {0}
