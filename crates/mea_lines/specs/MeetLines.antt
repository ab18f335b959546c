-- the lines of meeting points
use Rattle.std.specs.Prelude.{List, [], ◌∷◌, codes}
use Rattle.mea_events.specs.declared.meet_event.MeetEvent.{MeetEvent}
use Rattle.mea_events.specs.declared.meet_event.MeetEvent.TheVariants as Meet
use Rattle.mea_text.specs.Tables.{Line, alone, one, two, count, number_and_count}

-- bar: the lines that speak of a barrier
unfoldable pub barrier_lines : List (Line MeetEvent)
barrier_lines =
    count (codes "new") Meet.BarNew ∷
    one (codes "wait") Meet.BarWait ∷
    two (codes "poll") Meet.BarPoll ∷
    one (codes "end") Meet.BarEnd ∷
    one (codes "drop") Meet.BarDrop ∷
    []

-- lat: the lines that speak of a latch
unfoldable pub latch_lines : List (Line MeetEvent)
latch_lines =
    count (codes "new") Meet.LatNew ∷
    one (codes "count") Meet.LatCount ∷
    one (codes "down") Meet.LatDown ∷
    number_and_count (codes "arrive") Meet.LatArrive ∷
    one (codes "try") Meet.LatTry ∷
    one (codes "wait") Meet.LatWait ∷
    one (codes "waito") Meet.LatWaito ∷
    two (codes "poll") Meet.LatPoll ∷
    one (codes "end") Meet.LatEnd ∷
    one (codes "drop") Meet.LatDrop ∷
    []

-- wg: the lines that speak of a handle or a future of a wait group
unfoldable pub group_lines : List (Line MeetEvent)
group_lines =
    alone (codes "new") Meet.WgNew ∷
    one (codes "clone") Meet.WgClone ∷
    one (codes "into") Meet.WgInto ∷
    one (codes "copy") Meet.WgCopy ∷
    two (codes "poll") Meet.WgPoll ∷
    one (codes "end") Meet.WgEnd ∷
    []

-- sd: the lines that speak of a shutdown
unfoldable pub shutdown_lines : List (Line MeetEvent)
shutdown_lines =
    alone (codes "new") Meet.SdNew ∷
    one (codes "copys") Meet.SdCopys ∷
    one (codes "copyr") Meet.SdCopyr ∷
    one (codes "signal") Meet.SdSignal ∷
    one (codes "now") Meet.SdNow ∷
    one (codes "watch") Meet.SdWatch ∷
    one (codes "is") Meet.SdIs ∷
    one (codes "iso") Meet.SdIso ∷
    one (codes "await") Meet.SdAwait ∷
    two (codes "poll") Meet.SdPoll ∷
    one (codes "end") Meet.SdEnd ∷
    one (codes "ends") Meet.SdEnds ∷
    one (codes "endr") Meet.SdEndr ∷
    []
