-- what an action comes to
use Rattle.std.specs.Prelude.{ℕ, Result}
use Rattle.mea_base.specs.Ready.{Waking}
use Rattle.mea_family.specs.declared.answer.Answer.{Answer}
use Rattle.mea_family.specs.declared.stop.Stop.{Stop}
use Rattle.mea_family.specs.Play.{Part}
use Rattle.mea_family.specs.Acts.{Acts, ActsQuietly}
use Rattle.mea_chan_model.specs.Broadcasts.{Broadcasts, registered}
use Rattle.mea_chan_model.specs.declared.broadcast_action.BroadcastAction.{BroadcastAction}
use Rattle.mea_chan_model.specs.declared.broadcast_action.BroadcastAction.TheVariants.{SendAll, EndSender, EndReceiver, EndHear}
use Rattle.mea_chan_model.specs.BroadcastActions.{broadcast_cause, broadcast_act}

-- what takes no memory: a message to all, and the ends
abbrev pub IsFreeBroadcast : BroadcastAction → Type 0
IsFreeBroadcast (SendAll s v) = Unit {0}
IsFreeBroadcast (EndSender s) = Unit {0}
IsFreeBroadcast (EndReceiver r) = Unit {0}
IsFreeBroadcast (EndHear f) = Unit {0}
IsFreeBroadcast _ = ⊥

-- event number i asked this of broadcast channels
abbrev pub BroadcastActs : Part Broadcasts → ℕ → BroadcastAction → Result Answer Stop → Part Broadcasts → Waking ℕ → Waking ℕ → Type 0
BroadcastActs old i a = Acts registered (broadcast_cause old.hall a) (IsFreeBroadcast a) old i (broadcast_act old.hall i a)

-- the same of what wakes nobody and registers no waker
abbrev pub BroadcastActsQuietly : Part Broadcasts → ℕ → BroadcastAction → Result Answer Stop → Part Broadcasts → Type 0
BroadcastActsQuietly old i a = ActsQuietly registered (broadcast_cause old.hall a) (IsFreeBroadcast a) old i (broadcast_act old.hall i a)
