use Rattle.std.proofs.Common.{◌≡◌, ◌-◌, ◌<◌, ◌++◌, ◌∷◌}
use Rattle.mea_events.specs.declared.sem_event.SemEvent.TheVariants as events
use Rattle.mea_events.specs.declared.event.Event.TheVariants.{Sem}
use Rattle.mea_run.specs.Generated.{rounds_from, first_state}
use Rattle.mea_run.proofs.generator.make_script.Given as goal

-- what was made and the rounds that are left are the first event and all rounds
abbrev pub invariant-loop-number : goal.invariant-loop-number
invariant-loop-number l = record {
  made : l.script.items ++ rounds_from l.state l.number (l.rounds - l.number) ≡ Sem (events.New 0) ∷ rounds_from (first_state l.seed) 0 l.rounds;
  small : l.state < 2147483648;
}
