-- how an event of a meeting point is spelled
use Rattle.std.specs.Prelude.{ℕ, ◌<◌, ◌^◌, List, codes}
use Rattle.mea_events.specs.declared.meet_event.MeetEvent.{MeetEvent}
use Rattle.mea_events.specs.declared.meet_event.MeetEvent.TheVariants as Meet
use Rattle.mea_text.specs.declared.numbers.Numbers.{Numbers}
use Rattle.mea_text.specs.declared.numbers.Numbers.TheVariants.{Bare, One, Two}
use Rattle.mea_text.specs.Number.{AreFit}
use Rattle.mea_text.specs.Words.{listed}

-- its word, and the numbers after it in their order
abbrev pub meet_said : MeetEvent → List ℕ × Numbers
meet_said (Meet.BarNew n) = (codes "bar.new", One n)
meet_said (Meet.BarWait b) = (codes "bar.wait", One b)
meet_said (Meet.BarPoll f w) = (codes "bar.poll", Two f w)
meet_said (Meet.BarEnd f) = (codes "bar.end", One f)
meet_said (Meet.BarDrop b) = (codes "bar.drop", One b)
meet_said (Meet.LatNew n) = (codes "lat.new", One n)
meet_said (Meet.LatCount l) = (codes "lat.count", One l)
meet_said (Meet.LatDown l) = (codes "lat.down", One l)
meet_said (Meet.LatArrive l n) = (codes "lat.arrive", Two l n)
meet_said (Meet.LatTry l) = (codes "lat.try", One l)
meet_said (Meet.LatWait l) = (codes "lat.wait", One l)
meet_said (Meet.LatWaito l) = (codes "lat.waito", One l)
meet_said (Meet.LatPoll f w) = (codes "lat.poll", Two f w)
meet_said (Meet.LatEnd f) = (codes "lat.end", One f)
meet_said (Meet.LatDrop l) = (codes "lat.drop", One l)
meet_said Meet.WgNew = (codes "wg.new", Bare)
meet_said (Meet.WgClone h) = (codes "wg.clone", One h)
meet_said (Meet.WgInto h) = (codes "wg.into", One h)
meet_said (Meet.WgCopy f) = (codes "wg.copy", One f)
meet_said (Meet.WgPoll f w) = (codes "wg.poll", Two f w)
meet_said (Meet.WgEnd x) = (codes "wg.end", One x)
meet_said Meet.SdNew = (codes "sd.new", Bare)
meet_said (Meet.SdCopys s) = (codes "sd.copys", One s)
meet_said (Meet.SdCopyr x) = (codes "sd.copyr", One x)
meet_said (Meet.SdSignal s) = (codes "sd.signal", One s)
meet_said (Meet.SdNow x) = (codes "sd.now", One x)
meet_said (Meet.SdWatch r) = (codes "sd.watch", One r)
meet_said (Meet.SdIs x) = (codes "sd.is", One x)
meet_said (Meet.SdIso x) = (codes "sd.iso", One x)
meet_said (Meet.SdAwait s) = (codes "sd.await", One s)
meet_said (Meet.SdPoll f w) = (codes "sd.poll", Two f w)
meet_said (Meet.SdEnd f) = (codes "sd.end", One f)
meet_said (Meet.SdEnds s) = (codes "sd.ends", One s)
meet_said (Meet.SdEndr x) = (codes "sd.endr", One x)

-- each number fits its type, and a count fits its own
abbrev pub MeetFits : MeetEvent → Type 0
MeetFits (Meet.BarNew n) = n < 2 ^ 32
MeetFits (Meet.LatNew n) = n < 2 ^ 32
MeetFits (Meet.LatArrive l n) = (l < 2 ^ 64) × (n < 2 ^ 32)
MeetFits e = AreFit (listed (meet_said e).1)
