-- the lines of once types
use Rattle.std.specs.Prelude.{List, [], ◌∷◌, codes}
use Rattle.mea_events.specs.declared.once_event.OnceEvent.{OnceEvent}
use Rattle.mea_events.specs.declared.once_event.OnceEvent.TheVariants as Once
use Rattle.mea_text.specs.Tables.{Line, alone, one, two}

-- on: the lines that speak of a call that runs once, and of its futures
unfoldable pub call_lines : List (Line OnceEvent)
call_lines =
    alone (codes "new") Once.OnNew ∷
    one (codes "done") Once.OnDone ∷
    one (codes "call") Once.OnCall ∷
    one (codes "wait") Once.OnWait ∷
    two (codes "poll") Once.OnPoll ∷
    one (codes "settle") Once.OnSettle ∷
    one (codes "end") Once.OnEnd ∷
    one (codes "drop") Once.OnDrop ∷
    []

-- oc: the lines that speak of a cell and its futures
unfoldable pub cell_lines : List (Line OnceEvent)
cell_lines =
    alone (codes "new") Once.OcNew ∷
    one (codes "from") Once.OcFrom ∷
    one (codes "get") Once.OcGet ∷
    one (codes "init") Once.OcInit ∷
    two (codes "set") Once.OcSet ∷
    two (codes "ins") Once.OcIns ∷
    one (codes "minit") Once.OcMinit ∷
    two (codes "poll") Once.OcPoll ∷
    two (codes "settle") Once.OcSettle ∷
    two (codes "fail") Once.OcFail ∷
    one (codes "end") Once.OcEnd ∷
    one (codes "peek") Once.OcPeek ∷
    two (codes "put") Once.OcPut ∷
    one (codes "take") Once.OcTake ∷
    one (codes "into") Once.OcInto ∷
    one (codes "drop") Once.OcDrop ∷
    []

-- om: the lines that speak of a map and its futures
unfoldable pub map_lines : List (Line OnceEvent)
map_lines =
    alone (codes "new") Once.OmNew ∷
    two (codes "get") Once.OmGet ∷
    two (codes "compute") Once.OmCompute ∷
    two (codes "poll") Once.OmPoll ∷
    two (codes "settle") Once.OmSettle ∷
    two (codes "fail") Once.OmFail ∷
    two (codes "discard") Once.OmDiscard ∷
    two (codes "remove") Once.OmRemove ∷
    one (codes "end") Once.OmEnd ∷
    one (codes "drop") Once.OmDrop ∷
    []

-- sf: the lines that speak of a group that works once for a key, and of its futures
unfoldable pub work_lines : List (Line OnceEvent)
work_lines =
    alone (codes "new") Once.SfNew ∷
    two (codes "work") Once.SfWork ∷
    two (codes "poll") Once.SfPoll ∷
    two (codes "settle") Once.SfSettle ∷
    two (codes "fail") Once.SfFail ∷
    two (codes "forget") Once.SfForget ∷
    one (codes "end") Once.SfEnd ∷
    one (codes "drop") Once.SfDrop ∷
    []
