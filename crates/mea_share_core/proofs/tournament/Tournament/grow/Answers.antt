use Rattle.std.proofs.Common.{◌≡◌, ◌+◌, List, Option, length, None, get_or, ap, sym, ◌∙◌, arith}
use Rattle.std.proofs.lemmas.List.{get_or-drop, with_items_is}
use Rattle.std.specs.Vec.{with_items}
use Rattle.mea_share_core.specs.declared.rank.Rank.{Rank}
use Rattle.mea_share_core.proofs.tournament.Tournament.grow.Goals as goal

pub returns-clause-kept : goal.returns-clause-kept
returns-clause-kept c = λ k.
    let empty = c.in_ok-nodes.nodes in
    let copied = c.copy_leaves.new.nodes in
    let played = c.play_all.new.nodes in
    let copied_all : length copied ≡ empty.len = omega (arith, c.copy_leaves.auto.nodes, ap length c.deref_mut.ensures.value, empty.ok.0) in
    let copied_is = with_items_is empty copied copied_all in
    let played_all : length played ≡ empty.len = omega (arith, c.play_all.auto.nodes, ap length c.deref_mut-2.ensures.value, ap length copied_is, copied_all) in
    get_or-drop c.args.groups (with_items (with_items empty copied) played).items k None
    ∙ ap (λ (nodes : List (Option Rank)). get_or nodes (c.args.groups + k) None) (with_items_is (with_items empty copied) played played_all)
    ∙ c.play_all.ensures.leaves (c.args.groups + k) (omega arith)
    ∙ ap (λ (nodes : List (Option Rank)). get_or nodes (c.args.groups + k) None) (c.deref_mut-2.ensures.value ∙ copied_is)
    ∙ c.copy_leaves.ensures k
    ∙ ap (λ (nodes : List (Option Rank)). get_or nodes (c.self.inside.groups + k) None) c.deref.ensures.value
    ∙ sym (get_or-drop c.self.inside.groups c.self.inside.nodes.items k None)
    ∙ ap (λ (leaves : List (Option Rank)). get_or leaves k None) c.self.view_is
