-- how an event of fair admission is spelled
use Rattle.std.specs.Prelude.{ℕ, List, codes}
use Rattle.mea_events.specs.declared.share_event.ShareEvent.{ShareEvent}
use Rattle.mea_events.specs.declared.share_event.ShareEvent.TheVariants as Share
use Rattle.mea_text.specs.declared.numbers.Numbers.{Numbers}
use Rattle.mea_text.specs.declared.numbers.Numbers.TheVariants.{One, Two, Three}
use Rattle.mea_text.specs.Number.{AreFit}
use Rattle.mea_text.specs.Words.{listed}

-- its word, and the numbers after it in their order
abbrev pub share_said : ShareEvent → List ℕ × Numbers
share_said (Share.FsNew n) = (codes "fs.new", One n)
share_said (Share.FsFree s) = (codes "fs.free", One s)
share_said (Share.FsWaiters s) = (codes "fs.waiters", One s)
share_said (Share.FsTry s k) = (codes "fs.try", Two s k)
share_said (Share.FsTryo s k) = (codes "fs.tryo", Two s k)
share_said (Share.FsAcq s k) = (codes "fs.acq", Two s k)
share_said (Share.FsAcqo s k) = (codes "fs.acqo", Two s k)
share_said (Share.FsPoll f w) = (codes "fs.poll", Two f w)
share_said (Share.FsKey p) = (codes "fs.key", One p)
share_said (Share.FsEnd x) = (codes "fs.end", One x)
share_said (Share.FsDrop s) = (codes "fs.drop", One s)
share_said (Share.FsWeight s k n) = (codes "fs.weight", Three s k n)
share_said (Share.FsWeightof s k) = (codes "fs.weightof", Two s k)

-- each number fits its type
abbrev pub ShareFits : ShareEvent → Type 0
ShareFits e = AreFit (listed (share_said e).1)
