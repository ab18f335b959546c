use Rattle.std.proofs.Common.{◌≡◌, ◌∙◌, sym, ap, [], ◌∷◌, ◌++◌, length, vec_len, filter_map, map-id, rules, arith}
use Rattle.std.specs.List.{cons_option}
use Rattle.std.proofs.lemmas.Grind.{common_steps}
use Rattle.std.proofs.lemmas.Iterator.Adapters.{YieldsList-from_vec}
use Rattle.std.proofs.lemmas.Iterator.Consumers.{YieldsList-end}
use Rattle.std.proofs.lemmas.List.Elements.{filter_map-append, All-same}
use Rattle.mea_named_run.proofs.Kept.{all_kept, few_kept}
use Rattle.mea_named_run.proofs.gathering.together.Goals as goal

-- a worker that kept one
pub loop-own-preserved-in-Continue-1 : goal.loop-own-preserved-in-Continue-1
loop-own-preserved-in-Continue-1 g c =
    c.in_ok-push.ensures.items ∙ ap (λ l. l ++ c.in-Some-own.permit ∷ []) c.loop-own.invariant
    ∙ ap (λ o. filter_map (λ o. o) c.loop-own.yielded ++ cons_option o []) (sym c.in-Some-own.is)
    ∙ sym (filter_map-append (λ o. o) c.loop-own.yielded (c.in-Some.own ∷ []))

-- and one that kept none
pub loop-own-preserved : goal.loop-own-preserved
loop-own-preserved g c = grind (arith, common_steps, filter_map-append)

pub returns-clause-all : goal.returns-clause-all
returns-clause-all g c =
    let end = YieldsList-end (YieldsList-from_vec {s = c.into_iter-own-iterator.result} c.args.kept.items (search rules) (search rules))
    c.loop-own.yielded c.loop-own.own-iterator c.loop-own.yielded_by c.next.result c.next.new.self c.in-None.is c.next.ensures.steps in
    c.loop-own.invariant ∙ ap (filter_map (λ o. o)) (sym (map-id c.loop-own.yielded) ∙ end.0)

pub returns-clause-one : goal.returns-clause-one
returns-clause-one g c =
    All-same (λ p. p.permits ≡ 1) _ _ (returns-clause-all g c) (all_kept (λ p. p.permits ≡ 1) c.args.kept.items c.requires)

pub returns-clause-few : goal.returns-clause-few
returns-clause-few g c =
    let few = few_kept c.args.kept.items in
    let same = ap length (returns-clause-all g c) in
    let own : vec_len c.loop-own.permits ≡ length c.loop-own.permits.items = search rules in
    let its : vec_len c.args.kept ≡ length c.args.kept.items = search rules in
    omega arith
