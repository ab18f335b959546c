use Rattle.std.proofs.Common.{[], ap, refl}
use Rattle.std.specs.FinMap.{entries}
use Rattle.mea_sem.specs.Store.{with_ended}
use Rattle.mea_sem.proofs.Things.{entries_none}
use Rattle.mea_sem.proofs.StandingSemaphores.{kept_empty, seen_empty}
use Rattle.mea_sem.proofs.Lists.{own}
use Rattle.mea_sem.proofs.Inside.{part_of}
use Rattle.mea_sem.proofs.family.SemFamily.new.Goals as goal

pub invariant_of-result : goal.invariant_of-result
invariant_of-result c =
    own (kept_empty (with_ended c.with_hasher.result.entries c.new-2.result.items) (entries c.new-3.result) (entries c.new-4.result) 0
    (λ j. with_ended (c.with_hasher.ensures.empty j) (c.new-2.ensures.items j)) (entries_none _ c.new-3.ensures) (entries_none _ c.new-4.ensures))

pub returns : goal.returns
returns c =
    ap part_of (seen_empty (with_ended c.with_hasher.result.entries c.new-2.result.items) (entries c.new-3.result) (entries c.new-4.result) []
    (λ j. with_ended (c.with_hasher.ensures.empty j) (c.new-2.ensures.items j)) (entries_none _ c.new-3.ensures) (entries_none _ c.new-4.ensures) refl)
