use Rattle.std.proofs.lemmas.List.Elements.{All-push}
use Rattle.mea_recorded.specs.Closing.{Stands}
use Rattle.mea_recorded.proofs.closing.compare.Goals as goal

pub loop-n-preserved : goal.loop-n-preserved
loop-n-preserved c = All-push (Stands c.args.recorded.now) c.loop-n.yielded c.in-Some.n c.loop-n.invariant c.in_ok-compare_one.ensures.stands
