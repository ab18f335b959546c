-- the lines of channels and boxes
use Rattle.std.specs.Prelude.{List, [], ◌∷◌, codes}
use Rattle.mea_events.specs.declared.chan_event.ChanEvent.{ChanEvent}
use Rattle.mea_events.specs.declared.chan_event.ChanEvent.TheVariants as Chan
use Rattle.mea_text.specs.Tables.{Line, alone, one, two}

-- mb: the lines that use a channel with room for so many messages
unfoldable pub bounded_lines : List (Line ChanEvent)
bounded_lines =
    one (codes "new") Chan.MbNew ∷
    one (codes "copy") Chan.MbCopy ∷
    two (codes "try") Chan.MbTry ∷
    two (codes "send") Chan.MbSend ∷
    two (codes "poll") Chan.MbPoll ∷
    one (codes "end") Chan.MbEnd ∷
    one (codes "tryr") Chan.MbTryr ∷
    two (codes "recv") Chan.MbRecv ∷
    one (codes "ends") Chan.MbEnds ∷
    one (codes "endr") Chan.MbEndr ∷
    []

-- mu: the lines that use a channel for any number of messages
unfoldable pub unbounded_lines : List (Line ChanEvent)
unbounded_lines =
    alone (codes "new") Chan.MuNew ∷
    one (codes "copy") Chan.MuCopy ∷
    two (codes "send") Chan.MuSend ∷
    one (codes "tryr") Chan.MuTryr ∷
    two (codes "recv") Chan.MuRecv ∷
    one (codes "ends") Chan.MuEnds ∷
    one (codes "endr") Chan.MuEndr ∷
    []

-- os: the lines that use a channel for one message
unfoldable pub oneshot_lines : List (Line ChanEvent)
oneshot_lines =
    alone (codes "new") Chan.OsNew ∷
    two (codes "send") Chan.OsSend ∷
    one (codes "ends") Chan.OsEnds ∷
    one (codes "closed") Chan.OsClosed ∷
    one (codes "closedr") Chan.OsClosedr ∷
    one (codes "has") Chan.OsHas ∷
    one (codes "try") Chan.OsTry ∷
    one (codes "into") Chan.OsInto ∷
    two (codes "poll") Chan.OsPoll ∷
    one (codes "endr") Chan.OsEndr ∷
    one (codes "end") Chan.OsEnd ∷
    []

-- bc: the lines that use a broadcast channel
unfoldable pub broadcast_lines : List (Line ChanEvent)
broadcast_lines =
    one (codes "new") Chan.BcNew ∷
    one (codes "copys") Chan.BcCopys ∷
    two (codes "send") Chan.BcSend ∷
    one (codes "sub") Chan.BcSub ∷
    one (codes "resub") Chan.BcResub ∷
    one (codes "copyr") Chan.BcCopyr ∷
    one (codes "try") Chan.BcTry ∷
    one (codes "recv") Chan.BcRecv ∷
    two (codes "poll") Chan.BcPoll ∷
    one (codes "end") Chan.BcEnd ∷
    one (codes "endr") Chan.BcEndr ∷
    one (codes "ends") Chan.BcEnds ∷
    []

-- ab: the lines that speak of a box
unfoldable pub box_lines : List (Line ChanEvent)
box_lines =
    one (codes "new") Chan.AbNew ∷
    two (codes "swap") Chan.AbSwap ∷
    two (codes "store") Chan.AbStore ∷
    one (codes "get") Chan.AbGet ∷
    one (codes "into") Chan.AbInto ∷
    one (codes "drop") Chan.AbDrop ∷
    []

-- ao: the lines that speak of a box that may be empty
unfoldable pub option_box_lines : List (Line ChanEvent)
option_box_lines =
    one (codes "new") Chan.AoNew ∷
    alone (codes "none") Chan.AoNone ∷
    two (codes "swap") Chan.AoSwap ∷
    two (codes "store") Chan.AoStore ∷
    one (codes "clear") Chan.AoClear ∷
    one (codes "take") Chan.AoTake ∷
    one (codes "get") Chan.AoGet ∷
    one (codes "into") Chan.AoInto ∷
    one (codes "drop") Chan.AoDrop ∷
    []
