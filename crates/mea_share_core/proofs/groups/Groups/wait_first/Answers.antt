use Rattle.std.proofs.Common.{sym, ap, ◌∙◌}
use Rattle.std.specs.Ordering.{nat_cmp}
use Rattle.std.specs.FinMap.{get, get-empty}
use Rattle.mea_base.proofs.Maps.{get-there, is_there, inside}
use Rattle.mea_share_core.proofs.groups.Groups.wait_first.Goals as goal

pub queue-requires : goal.queue-requires
queue-requires g c = ap (λ s. get s.waiting c.args.number) c.new-group.ensures ∙ get-empty nat_cmp c.args.number

pub leave-requires : goal.leave-requires
leave-requires g c =
    is_there _ c.args.waker
    (ap (λ s. get s.waiting c.args.number) (c.in-Err-add_for.ensures.back ∙ c.in-Ok.ensures.ok) ∙ get-there c.new-group.result.waiting c.args.number c.args.waker)

pub returns-in-Err-add_for-clause-back : goal.returns-in-Err-add_for-clause-back
returns-in-Err-add_for-clause-back g c =
    inside
    (sym c.leave.ensures.waker ∙ ap (λ s. get s.waiting c.args.number) (c.in-Err-add_for.ensures.back ∙ c.in-Ok.ensures.ok) ∙ get-there c.new-group.result.waiting c.args.number c.args.waker)
