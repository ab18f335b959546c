use Rattle.std.proofs.Common.{◌≡◌, ℕ, ◌+◌, ◌*◌, List, length, ap, ◌∙◌, arith}
use Rattle.mea_events.specs.declared.event.Event.{Event}
use Rattle.mea_run.specs.Generated.{round_of}
use Rattle.mea_run.proofs.Legal.{length_script}
use Rattle.mea_run.proofs.Played.{first_memory, start_played, round_played, round_memory, last_memory, all_pending, all_wakes, last_reply}
use Rattle.mea_run.proofs.making.make_on.Goals as goal

-- a round has nine events
after_round : (state k before j : ℕ) (es : List Event) → es ≡ round_of state k → before ≡ 1 + 9 * j → before + length es ≡ 1 + 9 * (j + 1)
after_round state k before j es is so_far = let nine : length es ≡ 9 = ap length is in omega (arith, nine, so_far)

pub loop-number-init : goal.loop-number-init
loop-number-init c = record {
  played = start_played c.args.seed c.args.rounds c.first_state-state.result c.args.hall.now c.play_all.new.hall c.play_all.new.counts.pending
      c.play_all.new.counts.wakes
      c.first_state-state.ensures.state c.requires.hall c.in-Ok.ensures.allowed c.in-Ok.ensures.hall (omega (arith, c.in-Ok.ensures.pending))
      (omega (arith, c.in-Ok.ensures.wakes));
  small = c.first_state-state.ensures.small;
  quiet = ap (λ p. p.wakes) c.in-Ok.ensures.hall;
  events = ap (λ p. p.events) c.in-Ok.ensures.hall ∙ ap (λ p. p.events + 1) c.requires.hall;
  pending_fits = c.in-Ok.ensures.pending_fits;
  wakes_fit = c.in-Ok.ensures.wakes_fit;
}

pub returns-in-Err-clause-no_cause : goal.returns-in-Err-clause-no_cause
returns-in-Err-clause-no_cause c = first_memory c.args.hall.now.world c.args.hall.now.events c.in-Err.stop c.in-Err.ensures.refused

pub returns-in-Err-play_round-clause-no_cause : goal.returns-in-Err-play_round-clause-no_cause
returns-in-Err-play_round-clause-no_cause c =
    let refused = c.in-Err-play_round.ensures.refused in
    round_memory c.args.seed c.args.rounds c.loop-number.state c.loop-number.number refused.events c.loop-number.hall c.loop-number.counts.pending
    c.loop-number.counts.wakes c.loop-number-test.true c.loop-number.invariant.played
    (refused.is_round ∙ ap (round_of c.loop-number.state) c.from.ensures) c.in-Err-play_round.stop refused.caused

pub loop-number-preserved : goal.loop-number-preserved
loop-number-preserved c =
    let before = c.loop-number.invariant in
    let round = c.in-Ok-play_round.ensures.played in
    record {
      played = round_played c.args.seed c.args.rounds c.loop-number.state c.loop-number.number round.events c.loop-number.hall
          c.loop-number.counts.pending c.loop-number.counts.wakes c.loop-number-test.true before.played
          (round.is_round ∙ ap (round_of c.loop-number.state) c.from.ensures) c.in-Ok-play_round.next c.play_round.new.hall
          c.play_round.new.counts.pending c.play_round.new.counts.wakes
          c.in-Ok-play_round.ensures.state round.allowed round.hall round.pending_is round.wakes_is;
      small = c.in-Ok-play_round.ensures.small;
      quiet = ap (λ p. p.wakes) round.hall;
      events = ap (λ p. p.events) round.hall ∙ after_round c.loop-number.state c.from.result c.loop-number.hall.events c.loop-number.number round.events round.is_round before.events;
      pending_fits = c.in-Ok-play_round.ensures.pending_fits;
      wakes_fit = c.in-Ok-play_round.ensures.wakes_fit;
    }

pub returns-in-Err-play-clause-no_cause : goal.returns-in-Err-play-clause-no_cause
returns-in-Err-play-clause-no_cause c =
    last_memory c.args.seed c.args.rounds c.loop-number.state c.loop-number.number c.loop-number.hall c.loop-number.counts.pending c.loop-number.counts.wakes
    (omega (arith, c.loop-number-test.false, c.loop-number.auto.number-end)) c.loop-number.invariant.played c.in-Err-play.stop c.in-Err-play.ensures.refused

pub returns-clause-events : goal.returns-clause-events
returns-clause-events c =
    let after = ap (λ p. p.events) c.in-Ok-play.ensures.hall in
    let before = c.loop-number.invariant.events in
    omega (arith, c.events.ensures, after, before, length_script c.args.seed c.args.rounds, c.loop-number-test.false, c.loop-number.auto.number-end)

pub returns-clause-pending : goal.returns-clause-pending
returns-clause-pending c =
    all_pending c.args.seed c.args.rounds c.loop-number.state c.loop-number.number c.loop-number.hall c.loop-number.counts.pending c.loop-number.counts.wakes
    (omega (arith, c.loop-number-test.false, c.loop-number.auto.number-end)) c.loop-number.invariant.played c.play.new.counts.pending
    c.in-Ok-play.ensures.allowed c.in-Ok-play.ensures.pending

pub returns-clause-wakes : goal.returns-clause-wakes
returns-clause-wakes c =
    all_wakes c.args.seed c.args.rounds c.loop-number.state c.loop-number.number c.loop-number.hall c.loop-number.counts.pending c.loop-number.counts.wakes
    (omega (arith, c.loop-number-test.false, c.loop-number.auto.number-end)) c.loop-number.invariant.played c.play.new.counts.wakes
    c.in-Ok-play.ensures.allowed c.in-Ok-play.ensures.wakes

pub returns-clause-last : goal.returns-clause-last
returns-clause-last c =
    last_reply c.args.seed c.args.rounds c.loop-number.state c.loop-number.number c.loop-number.hall c.loop-number.counts.pending c.loop-number.counts.wakes
    (omega (arith, c.loop-number-test.false, c.loop-number.auto.number-end)) c.loop-number.invariant.played c.in-Ok-play.answer c.in-Ok-play.ensures.allowed
    c.in-Ok-play.ensures.reply
