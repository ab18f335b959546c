-- what a future with an initialiser asks of it
use Rattle.mea_keep.specs.declared.computing.ComputingStage.{ComputingStage}
use Rattle.mea_keep.specs.declared.computing.ComputingStage.TheVariants.{Waits, Computes, Keeps}

-- the initialiser may be polled, where it has not given its value yet
abbrev pub MayGoOn : {F C G I : Type 0} → (I → Type 0) → ComputingStage F C G → I → Type 0
MayGoOn may_poll (Waits _) init = may_poll init
MayGoOn may_poll (Computes _) init = may_poll init
MayGoOn may_poll (Keeps _) init = Unit {0}
