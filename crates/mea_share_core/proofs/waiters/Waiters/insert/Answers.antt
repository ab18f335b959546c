use Rattle.std.proofs.Common.{sym, ap, ◌∙◌}
use Rattle.std.specs.FinMap.{len, insert}
use Rattle.mea_share_core.specs.Share.{kept}
use Rattle.mea_share_core.specs.Waiters.{wakers_of}
use Rattle.mea_share_core.proofs.Alone.{put_alone}
use Rattle.mea_share_core.proofs.Kept.{tree_put, len-more}
use Rattle.mea_share_core.proofs.waiters.Waiters.insert.Goals as goal

pub returns-in-Empty-clause-more : goal.returns-in-Empty-clause-more
returns-in-Empty-clause-more g c = λ none.
    ap len (put_alone c.args.number c.args.waker ∙ ap (λ x. insert (kept (wakers_of x)) c.args.number c.args.waker) (sym c.in-Empty.is) ∙ ap (λ m. insert m c.args.number c.args.waker) c.self.view_is)
    ∙ len-more c.args.self.now c.args.number c.args.waker none

pub returns-in-Ok-inserted-clause-ok : goal.returns-in-Ok-inserted-clause-ok
returns-in-Ok-inserted-clause-ok g c =
    tree_put c.in-Ok.tree.entries c.insert-inserted.new.self.entries c.args.number c.args.waker c.in-Ok-inserted.ensures.updates.0
    ∙ ap (λ m. insert m c.args.number c.args.waker) c.in-Ok.ensures.tree

pub returns-in-Ok-inserted-clause-more : goal.returns-in-Ok-inserted-clause-more
returns-in-Ok-inserted-clause-more g c = λ none.
    ap len (returns-in-Ok-inserted-clause-ok g c) ∙ len-more c.args.self.now c.args.number c.args.waker none
