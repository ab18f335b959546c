use Rattle.std.proofs.Common.{ap, lit<, ◌≡◌}
use Rattle.mea_shot.proofs.Cases.{put_allowed}
use Rattle.mea_shot.proofs.steps.put.Goals as goal

pub fetch_add-requires : goal.fetch_add-requires
fetch_add-requires g c =
    let fits = g.T.Message.fits in
    (c.requires.board.0, rw c.requires.board.1 (lit< tt), let x = c.requires.held in let e : c.args.seat.now.me ≡ (c.args.seat.now.me.0, _) = ap (λ xs. (c.args.seat.now.me.0, xs)) x.2 in rw (e, c.requires.board.2) (put_allowed fits c.args.seat.now.id c.args.seat.now.me.0 x.0 x.1 c.requires.stage))
