use Rattle.std.proofs.Common.{lit<}
use Rattle.mea_shot.proofs.Splitting.{splits}
use Rattle.mea_shot.proofs.steps.split.Goals as goal

pub split_seat-requires : goal.split_seat-requires
split_seat-requires g c =
    let fits = g.T.Message.fits in
    (c.requires.board.0, rw c.requires.board.1 (lit< tt), rw c.requires.seat (splits fits c.args.seat.now.id))
