use Rattle.std.proofs.Common.{lit<}
use Rattle.mea_shot.proofs.Cases.{publish_allowed}
use Rattle.mea_shot.proofs.steps.publish.Goals as goal

pub compare_exchange-requires : goal.compare_exchange-requires
compare_exchange-requires g c =
    let fits = g.T.Message.fits in
    (c.requires.board.0, rw c.requires.board.1 (lit< tt), let s = c.requires.seat in rw (s.1, c.requires.board.2) (publish_allowed fits c.args.seat.now.id s.0))
