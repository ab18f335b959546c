use Rattle.std.proofs.Common.{lit<}
use Rattle.mea_shot.proofs.Cases.{grasp_allowed}
use Rattle.mea_shot.proofs.steps.grasp.Goals as goal

pub load-requires : goal.load-requires
load-requires g c =
    let fits = g.T.Message.fits in
    (c.requires.board.0, rw c.requires.board.1 (lit< tt), rw c.requires.board.2 (grasp_allowed fits c.args.seat.now.id c.args.seat.now.me c.requires.seat))
