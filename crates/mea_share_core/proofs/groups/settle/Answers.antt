use Rattle.std.proofs.Common.{sym, subst, arith}
use Rattle.mea_share_core.specs.Groups.{AreRanked}
use Rattle.mea_share_core.proofs.Ranked.{ranked_set}
use Rattle.mea_share_core.proofs.groups.settle.Goals as goal

pub returns-clause-ranked : goal.returns-clause-ranked
returns-clause-ranked g c =
    subst (λ leaves. AreRanked c.drop_idle.new.map.entries leaves) (sym c.set.ensures)
    (ranked_set c.drop_idle.new.map.entries c.drop_idle.new.tournament c.args.place c.rank_at-rank.result c.drop_idle.ensures.ranked c.rank_at-rank.ensures
    (omega (arith, c.requires.within, c.requires.room, c.drop_idle.ensures.as_many)))
