use Rattle.std.proofs.Common.{lit<}
use Rattle.mea_shot.proofs.Cases.{close_allowed}
use Rattle.mea_shot.proofs.steps.close.Goals as goal

pub swap-requires : goal.swap-requires
swap-requires g c =
    let fits = g.T.Message.fits in
    (c.requires.board.0, rw c.requires.board.1 (lit< tt), rw c.requires.board.2 (close_allowed fits c.args.seat.now.id c.args.seat.now.me.0 c.args.seat.now.me.1 c.requires.seat))
