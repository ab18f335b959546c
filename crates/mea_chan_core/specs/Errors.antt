-- the values that errors hand back
use Rattle.mea_chan_core.specs.declared.errors.TrySendError.{TrySendError}
use Rattle.mea_chan_core.specs.declared.errors.TrySendError.TheVariants.{Full, Disconnected}
use Rattle.mea_chan_core.specs.declared.errors.UnboundedError.{UnboundedError}
use Rattle.mea_chan_core.specs.declared.errors.UnboundedError.TheVariants as unbounded

abbrev pub unsent : {T : Type 0} → TrySendError T → T
unsent (Full value) = value
unsent (Disconnected value) = value

abbrev pub unqueued : {T : Type 0} → UnboundedError T → T
unqueued (unbounded.Closed value) = value
unqueued (unbounded.NoMemory value) = value
