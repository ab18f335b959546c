-- what tells one event of fair admission from another
use Rattle.std.specs.Prelude.{ℕ, List, ◌∷◌, []}
use Rattle.mea_events.specs.declared.share_event.ShareEvent.{ShareEvent}
use Rattle.mea_events.specs.declared.share_event.ShareEvent.TheVariants as Share

-- its place among the events of its family, and its numbers, 0 where it has fewer
unfoldable pub parts : ShareEvent → List ℕ
parts (Share.FsNew a) = 0 ∷ a ∷ 0 ∷ 0 ∷ []
parts (Share.FsFree a) = 1 ∷ a ∷ 0 ∷ 0 ∷ []
parts (Share.FsWaiters a) = 2 ∷ a ∷ 0 ∷ 0 ∷ []
parts (Share.FsTry a b) = 3 ∷ a ∷ b ∷ 0 ∷ []
parts (Share.FsTryo a b) = 4 ∷ a ∷ b ∷ 0 ∷ []
parts (Share.FsAcq a b) = 5 ∷ a ∷ b ∷ 0 ∷ []
parts (Share.FsAcqo a b) = 6 ∷ a ∷ b ∷ 0 ∷ []
parts (Share.FsPoll a b) = 7 ∷ a ∷ b ∷ 0 ∷ []
parts (Share.FsKey a) = 8 ∷ a ∷ 0 ∷ 0 ∷ []
parts (Share.FsEnd a) = 9 ∷ a ∷ 0 ∷ 0 ∷ []
parts (Share.FsDrop a) = 10 ∷ a ∷ 0 ∷ 0 ∷ []
parts (Share.FsWeight a b c) = 11 ∷ a ∷ b ∷ c ∷ []
parts (Share.FsWeightof a b) = 12 ∷ a ∷ b ∷ 0 ∷ []
