use Rattle.std.proofs.Common.{ap, lit<, ◌≡◌, []}
use Rattle.mea_shot.proofs.Cases.{flip_allowed}
use Rattle.mea_shot.proofs.steps.flip.Goals as goal

pub fetch_xor-requires : goal.fetch_xor-requires
fetch_xor-requires g c =
    let fits = g.T.Message.fits in
    (c.requires.board.0, rw c.requires.board.1 (lit< tt), let e : c.args.seat.now.me ≡ (c.args.seat.now.me.0, []) = ap (λ xs. (c.args.seat.now.me.0, xs)) c.requires.empty in rw (e, c.requires.board.2) (flip_allowed fits c.args.seat.now.id c.args.seat.now.me.0 c.requires.stage))
