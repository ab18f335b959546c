use Rattle.std.proofs.Common.{ap, ◌∙◌}
use Rattle.std.specs.FinMap.{len, insert}
use Rattle.mea_base.proofs.NamedMaps.{named_put}
use Rattle.mea_share_core.specs.Share.{kept}
use Rattle.mea_share_core.specs.Admitted.{numbers_of}
use Rattle.mea_share_core.proofs.Alone.{put_alone}
use Rattle.mea_share_core.proofs.Kept.{len-more}
use Rattle.mea_share_core.proofs.admitted.Admitted.insert.Goals as goal

pub returns-in-Empty-clause-more : goal.returns-in-Empty-clause-more
returns-in-Empty-clause-more c = λ none.
    ap len (ap (λ x. kept (numbers_of x)) c.in-Empty.ensures.after ∙ put_alone c.args.number tt ∙ ap (λ x. insert (kept (numbers_of x)) c.args.number tt) c.in-Empty.ensures.value
    ∙ ap (λ (m : _). insert m.members c.args.number tt) c.self.view_is)
    ∙ len-more c.args.self.now.members c.args.number tt none

pub returns-in-Ok-clause-members : goal.returns-in-Ok-clause-members
returns-in-Ok-clause-members c =
    named_put (λ k x. x) c.deref_mut.result.now.entries c.insert-inserted.new.self.entries c.args.number tt c.in-Ok.ensures.updates.0
    ∙ ap (λ (t : _). insert (kept t.entries) c.args.number tt) c.deref_mut.ensures.value
    ∙ ap (λ x. insert (kept (numbers_of x)) c.args.number tt) c.in-Many.ensures.value
    ∙ ap (λ (m : _). insert m.members c.args.number tt) c.self.view_is

pub returns-in-Ok-clause-more : goal.returns-in-Ok-clause-more
returns-in-Ok-clause-more c = λ none. ap len (returns-in-Ok-clause-members c) ∙ len-more c.args.self.now.members c.args.number tt none
