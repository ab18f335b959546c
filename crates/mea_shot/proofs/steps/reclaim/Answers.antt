use Rattle.std.proofs.Common.{lit<}
use Rattle.mea_shot.proofs.Cases.{reclaim_allowed}
use Rattle.mea_shot.proofs.steps.reclaim.Goals as goal

pub compare_exchange-requires : goal.compare_exchange-requires
compare_exchange-requires g c =
    let fits = g.T.Message.fits in
    (c.requires.board.0, rw c.requires.board.1 (lit< tt), rw c.requires.board.2 (reclaim_allowed fits c.args.seat.now.id c.args.seat.now.me c.requires.seat))
