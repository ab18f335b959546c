use Rattle.std.proofs.Common.{◌<◌, List, Option, None, get_or, sym, subst, arith}
use Rattle.std.proofs.lemmas.List.{get_or_read}
use Rattle.std.proofs.lemmas.Bool.Decides.{nat_tests}
use Rattle.mea_share_core.specs.declared.rank.Rank.{Rank}
use Rattle.mea_share_core.specs.Rank.{IsNext}
use Rattle.mea_share_core.proofs.Tops.{tops}
use Rattle.mea_share_core.proofs.tournament.Tournament.next.Goals as goal

pub returns : goal.returns
returns c =
    let nodes = c.self.inside.nodes.items in
    let some : 0 < c.self.inside.groups = grind (arith, nat_tests, c.if-self-eq0.false) in
    subst (λ (r : Option Rank). IsNext c.args.self.now r) (sym (get_or_read nodes 1 c.index.result.now (omega (arith, c.self.invariant.size, some)) c.index.ensures None))
    (subst (λ (xs : List (Option Rank)). IsNext xs (get_or nodes 1 None)) c.self.view_is
    (tops c.self.inside.groups nodes c.self.invariant.played some c.self.invariant.size))
