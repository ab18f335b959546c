use Rattle.std.proofs.Common.{◌*◌, ◌+◌, ◌/◌, None, sym, ◌∙◌, arith}
use Rattle.std.proofs.lemmas.List.{get_or_read, get_or-set_other, length-set}
use Rattle.mea_share_core.proofs.Ranks.{same_ranks}
use Rattle.mea_share_core.proofs.Tops.{lesser_of, played_at, all_played}
use Rattle.mea_share_core.proofs.tournament.play.Goals as goal

pub returns-then-eq-clause-played : goal.returns-then-eq-clause-played
returns-then-eq-clause-played c =
    let tree = c.loop-node.nodes.items in
    let p = c.loop-node.node / 2 in
    let size = c.loop-node.invariant.size in
    let within = c.loop-node.invariant.within in
    let left = get_or_read tree (2 * p) c.index.result.now (omega arith) c.index.ensures None in
    let right = get_or_read tree (2 * p + 1) c.index-in-loop-node.result.now (omega arith) c.index-in-loop-node.ensures None in
    let here = get_or_read tree p c.index-in-loop-node-2.result.now (omega arith) c.index-in-loop-node-2.ensures None in
    let same = same_ranks c.lesser-winner.result c.index-in-loop-node-2.result.now (sym c.eq.ensures ∙ c.if-eq.true) in
    all_played p c.args.leaves tree c.loop-node.invariant.played (sym here ∙ sym same ∙ c.lesser-winner.ensures ∙ lesser_of left right)

pub loop-node-preserved : goal.loop-node-preserved
loop-node-preserved c =
    let tree = c.loop-node.nodes.items in
    let p = c.loop-node.node / 2 in
    let winner = c.lesser-winner.result in
    let size = c.loop-node.invariant.size in
    let within = c.loop-node.invariant.within in
    let left = get_or_read tree (2 * p) c.index.result.now (omega arith) c.index.ensures None in
    let right = get_or_read tree (2 * p + 1) c.index-in-loop-node.result.now (omega arith) c.index-in-loop-node.ensures None in
    record {
      size = length-set tree p winner ∙ size;
      above = omega arith;
      within = omega arith;
      played = played_at p c.args.leaves tree winner size (omega arith) (omega arith) c.loop-node.invariant.played (c.lesser-winner.ensures ∙ lesser_of left right);
      leaves = λ k low. get_or-set_other tree p k winner None (λ e. omega (arith, e, low)) ∙ c.loop-node.invariant.leaves k low;
    }
