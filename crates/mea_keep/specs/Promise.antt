-- what stands for a caller's initialiser under a lock
use Rattle.std.specs.Prelude.{◌≡◌, Option, None, Result, Ok, MatchOption}
use Rattle.mea_sets.specs.Poll.{Poll, Ready, Pending}
use Rattle.mea_once_core.specs.declared.never.Never.{Never}
use Rattle.mea_keep.specs.declared.promise.Promise.{Promise}

-- it is ready with its value where that was put, and else pending, with the waker handed over
abbrev pub Promises : {V W : Type 0} → Promise V W → Option W → Poll (Result V Never) → Promise V W → Type 0
Promises p w answer p' =
    MatchOption p.value ((answer ≡ Pending) × (p' ≡ record p { waker = w }))
    (λ v. (answer ≡ Ready (Ok v)) × (p' ≡ record p { value = None }))
