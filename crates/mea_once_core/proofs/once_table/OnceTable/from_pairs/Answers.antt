use Rattle.std.proofs.Common.{◌≡◌, ◌∙◌, ◌∷◌, [], List, length, refl, ap, sym, append_assoc, append-nil, arith}
use Rattle.std.specs.Vec.Iter.{into_iter_items}
use Rattle.mea_once_core.specs.Inserts.{last_value}
use Rattle.mea_once_core.proofs.Inserts.{made-empty, made-more}
use Rattle.mea_once_core.proofs.once_table.OnceTable.from_pairs.Goals as goal

nothing_left : {X : Type 0} (l : List X) → length l ≡ 0 → l ≡ []
nothing_left [] h = refl
nothing_left (x ∷ xs) h = absurd (omega arith)

pub loop-key-init : goal.loop-key-init
loop-key-init g c = record { all = refl; counted = c.into_iter-key-iterator.ensures.into_iter_gives.1 ∙ c.args.pairs.ok.0 ∙ ap length (sym c.into_iter-key-iterator.ensures.into_iter_gives.0); made = made-empty g.K.PartialEq.eq c.in_ok-table.table c.in_ok-table.ensures.entries c.in_ok-table.ensures.numbers }

pub loop-key-preserved : goal.loop-key-preserved
loop-key-preserved g c =
    let at = c.loop-key in
    let x : g.row.K.Denot × g.row.V.Denot = (c.in-Some.key, c.in-Some.value) in
    let steps : into_iter_items at.key-iterator ≡ x ∷ into_iter_items c.next.new.self = c.in-Some.ensures.steps.0 in
    record {
      all = append_assoc at.yielded (x ∷ []) _ ∙ rw (← steps) at.invariant.all;
      counted = (let was = at.invariant.counted in let gone = c.in-Some.ensures.steps.1 in let short = ap length steps in omega arith);
      made = made-more g.K.PartialEq.eq g.met.K.Eq.laws at.table c.insert.new.self at.yielded c.in-Some.key c.in-Some.value at.invariant.made c.in-Ok.ensures.ok;
    }

pub returns-clause-values : goal.returns-clause-values
returns-clause-values g c =
    let at = c.loop-key in
    let none = c.in-None.ensures.steps in
    let empty : into_iter_items at.key-iterator ≡ [] = nothing_left _ (sym at.invariant.counted ∙ none.0) in
    let all = sym (append-nil at.yielded) ∙ rw empty at at.invariant.all ∙ c.into_iter-key-iterator.ensures.into_iter_gives.0 in
    λ key. at.invariant.made.values key ∙ ap (λ ps. last_value g.K.PartialEq.eq ps key) all
