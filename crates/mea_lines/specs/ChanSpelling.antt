-- how an event of a channel or a box is spelled
use Rattle.std.specs.Prelude.{ℕ, List, codes}
use Rattle.mea_events.specs.declared.chan_event.ChanEvent.{ChanEvent}
use Rattle.mea_events.specs.declared.chan_event.ChanEvent.TheVariants as Chan
use Rattle.mea_text.specs.declared.numbers.Numbers.{Numbers}
use Rattle.mea_text.specs.declared.numbers.Numbers.TheVariants.{Bare, One, Two}
use Rattle.mea_text.specs.Number.{AreFit}
use Rattle.mea_text.specs.Words.{listed}

-- its word, and the numbers after it in their order
abbrev pub chan_said : ChanEvent → List ℕ × Numbers
chan_said (Chan.MbNew n) = (codes "mb.new", One n)
chan_said (Chan.MbCopy s) = (codes "mb.copy", One s)
chan_said (Chan.MbTry s v) = (codes "mb.try", Two s v)
chan_said (Chan.MbSend s v) = (codes "mb.send", Two s v)
chan_said (Chan.MbPoll f w) = (codes "mb.poll", Two f w)
chan_said (Chan.MbEnd f) = (codes "mb.end", One f)
chan_said (Chan.MbTryr r) = (codes "mb.tryr", One r)
chan_said (Chan.MbRecv r w) = (codes "mb.recv", Two r w)
chan_said (Chan.MbEnds s) = (codes "mb.ends", One s)
chan_said (Chan.MbEndr r) = (codes "mb.endr", One r)
chan_said (Chan.BcNew n) = (codes "bc.new", One n)
chan_said (Chan.BcCopys s) = (codes "bc.copys", One s)
chan_said (Chan.BcSend s v) = (codes "bc.send", Two s v)
chan_said (Chan.BcSub s) = (codes "bc.sub", One s)
chan_said (Chan.BcResub r) = (codes "bc.resub", One r)
chan_said (Chan.BcCopyr r) = (codes "bc.copyr", One r)
chan_said (Chan.BcTry r) = (codes "bc.try", One r)
chan_said (Chan.BcRecv r) = (codes "bc.recv", One r)
chan_said (Chan.BcPoll f w) = (codes "bc.poll", Two f w)
chan_said (Chan.BcEnd f) = (codes "bc.end", One f)
chan_said (Chan.BcEndr r) = (codes "bc.endr", One r)
chan_said (Chan.BcEnds s) = (codes "bc.ends", One s)
chan_said Chan.MuNew = (codes "mu.new", Bare)
chan_said (Chan.MuCopy s) = (codes "mu.copy", One s)
chan_said (Chan.MuSend s v) = (codes "mu.send", Two s v)
chan_said (Chan.MuTryr r) = (codes "mu.tryr", One r)
chan_said (Chan.MuRecv r w) = (codes "mu.recv", Two r w)
chan_said (Chan.MuEnds s) = (codes "mu.ends", One s)
chan_said (Chan.MuEndr r) = (codes "mu.endr", One r)
chan_said Chan.OsNew = (codes "os.new", Bare)
chan_said (Chan.OsSend s v) = (codes "os.send", Two s v)
chan_said (Chan.OsEnds s) = (codes "os.ends", One s)
chan_said (Chan.OsClosed s) = (codes "os.closed", One s)
chan_said (Chan.OsClosedr r) = (codes "os.closedr", One r)
chan_said (Chan.OsHas r) = (codes "os.has", One r)
chan_said (Chan.OsTry r) = (codes "os.try", One r)
chan_said (Chan.OsInto r) = (codes "os.into", One r)
chan_said (Chan.OsPoll f w) = (codes "os.poll", Two f w)
chan_said (Chan.OsEndr r) = (codes "os.endr", One r)
chan_said (Chan.OsEnd f) = (codes "os.end", One f)
chan_said (Chan.AbNew v) = (codes "ab.new", One v)
chan_said (Chan.AbSwap b v) = (codes "ab.swap", Two b v)
chan_said (Chan.AbStore b v) = (codes "ab.store", Two b v)
chan_said (Chan.AbGet b) = (codes "ab.get", One b)
chan_said (Chan.AbInto b) = (codes "ab.into", One b)
chan_said (Chan.AbDrop b) = (codes "ab.drop", One b)
chan_said (Chan.AoNew v) = (codes "ao.new", One v)
chan_said Chan.AoNone = (codes "ao.none", Bare)
chan_said (Chan.AoSwap b v) = (codes "ao.swap", Two b v)
chan_said (Chan.AoStore b v) = (codes "ao.store", Two b v)
chan_said (Chan.AoClear b) = (codes "ao.clear", One b)
chan_said (Chan.AoTake b) = (codes "ao.take", One b)
chan_said (Chan.AoGet b) = (codes "ao.get", One b)
chan_said (Chan.AoInto b) = (codes "ao.into", One b)
chan_said (Chan.AoDrop b) = (codes "ao.drop", One b)

-- each number fits its type
abbrev pub ChanFits : ChanEvent → Type 0
ChanFits e = AreFit (listed (chan_said e).1)
