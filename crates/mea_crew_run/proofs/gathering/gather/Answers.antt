use Rattle.std.proofs.Common.{rules, ◌≡◌, ◌+◌, ◌*◌, ◌++◌, ◌∷◌, ◌⊎◌, inr, [], None, IfSome, vec_len}
use Rattle.std.proofs.lemmas.List.Elements.{All-pop, All-push, All-same}
use Rattle.mea_crew_run.specs.Rounds.{AreRounds, StopsWorker}
use Rattle.mea_crew_run.proofs.Sums.{exactly, at_least, at_most}
use Rattle.mea_crew_run.proofs.gathering.gather.Goals as goal

pub loop-worker-preserved : goal.loop-worker-preserved
loop-worker-preserved g c =
    let before = c.loop-worker.invariant in
    let items : c.push-in-Some.new.self.items ≡ c.loop-worker.passes.items ++ c.in-Ok.pass ∷ [] = search rules in
    let one : vec_len c.loop-worker.list ≡ vec_len c.pop.new.self + 1 = search rules in (
      exactly (λ p. p.parts) _ _ _ items _ _ one _ before.0 c.in-Ok.ensures.pass.0,
      at_least (λ p. vec_len p.noted) _ _ _ items _ _ one c.args.rounds _ before.1 c.in-Ok.ensures.pass.1,
      at_most (λ p. vec_len p.noted) _ _ _ items _ _ one (2 * c.args.rounds) _ before.2 c.in-Ok.ensures.pass.2,
      (All-pop (λ w. (w.pass.parts ≡ 1) × (w.fault ≡ None → AreRounds c.args.rounds w.pass.noted.items)) c.loop-worker.list.items c.pop.new.self.items c.pop.result c.pop.ensures.items before.3).0,
      (All-pop (λ w. IfSome w.fault (λ r. StopsWorker r)) c.loop-worker.list.items c.pop.new.self.items c.pop.result c.pop.ensures.items before.4).0,
      All-same (λ p. (p.noted.items ≡ []) ⊎ AreRounds c.args.rounds p.noted.items) _ _ items
          (All-push (λ p. (p.noted.items ≡ []) ⊎ AreRounds c.args.rounds p.noted.items) c.loop-worker.passes.items c.in-Ok.pass before.5 (inr c.in-Ok.ensures.rounds)),
    )

pub finished-requires-clause-fault : goal.finished-requires-clause-fault
finished-requires-clause-fault g c =
    let stops = (All-pop (λ w. IfSome w.fault (λ r. StopsWorker r)) c.loop-worker.list.items c.pop.new.self.items c.pop.result c.pop.ensures.items c.loop-worker.invariant.4).1 in
    rw c.in-Some.is at stops

pub returns-clause-rounds : goal.returns-clause-rounds
returns-clause-rounds g c = c.loop-worker.invariant.5
