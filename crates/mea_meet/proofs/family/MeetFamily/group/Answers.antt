use Rattle.std.proofs.Common.{◌≡◌, ◌∙◌, subst, is_some}
use Rattle.mea_family.specs.Play.{Part}
use Rattle.mea_meet_model.specs.Counts.{is_live}
use Rattle.mea_meet_model.specs.Hall.{Hall}
use Rattle.mea_meet.specs.Halls.{hall_of}
use Rattle.mea_meet.proofs.family.MeetFamily.group.Goals as goal

pub returns-clause-lives : goal.returns-clause-lives
returns-clause-lives c =
    let kinds = c.self.inside.kinds in
    subst (λ (p : Part Hall). is_some c.core.result ≡ is_live p.hall.groups c.args.name)
    c.self.view_is
    (c.core.ensures.there
    ∙ c.what_is_there_lives.ensures.groups (hall_of kinds.barriers kinds.latches kinds.groups kinds.shutdowns) c.self.inside.next c.self.invariant.valid
    c.args.name)
