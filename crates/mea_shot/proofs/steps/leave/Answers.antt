use Rattle.std.proofs.Common.{lit<}
use Rattle.mea_shot.proofs.Cases.{leave_allowed}
use Rattle.mea_shot.proofs.steps.leave.Goals as goal

pub swap-requires : goal.swap-requires
swap-requires g c =
    let fits = g.T.Message.fits in
    (c.requires.board.0, rw c.requires.board.1 (lit< tt), let s = c.requires.seat in rw (s.1, c.requires.board.2) (leave_allowed fits c.args.seat.now.id s.0))
