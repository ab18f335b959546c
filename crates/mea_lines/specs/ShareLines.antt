-- the lines of fair admission
use Rattle.std.specs.Prelude.{List, [], ◌∷◌, codes}
use Rattle.mea_events.specs.declared.share_event.ShareEvent.{ShareEvent}
use Rattle.mea_events.specs.declared.share_event.ShareEvent.TheVariants as Share
use Rattle.mea_text.specs.Tables.{Line, one, two, three}

-- fs: the lines that speak of an admission, its futures and its permits
unfoldable pub admission_lines : List (Line ShareEvent)
admission_lines =
    one (codes "new") Share.FsNew ∷
    one (codes "free") Share.FsFree ∷
    one (codes "waiters") Share.FsWaiters ∷
    two (codes "try") Share.FsTry ∷
    two (codes "tryo") Share.FsTryo ∷
    two (codes "acq") Share.FsAcq ∷
    two (codes "acqo") Share.FsAcqo ∷
    two (codes "poll") Share.FsPoll ∷
    one (codes "key") Share.FsKey ∷
    one (codes "end") Share.FsEnd ∷
    one (codes "drop") Share.FsDrop ∷
    three (codes "weight") Share.FsWeight ∷
    two (codes "weightof") Share.FsWeightof ∷
    []
