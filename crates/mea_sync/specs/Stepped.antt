-- what one poll of a wait on a condition variable came to
use Rattle.std.specs.Prelude.{◌≡◌, ⊤}
use Rattle.mea_sync.specs.declared.condvar.waits.Step.{Step}
use Rattle.mea_sync.specs.declared.condvar.waits.Step.TheVariants.{Ready, Pending, Refused}

-- where it was refused, the waker that it was given comes back
abbrev pub HandsWakerBack : {H T W : Type 0} → W → Step H T W → Type 0
HandsWakerBack given (Ready guard waker) = ⊤
HandsWakerBack given (Pending wait) = ⊤
HandsWakerBack given (Refused wait waker) = waker ≡ given
