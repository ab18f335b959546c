use Rattle.mea_run.proofs.making.play_round.Goals as goal

pub returns-in-Ok-clause-played : goal.returns-in-Ok-clause-played
returns-in-Ok-clause-played c = record {
  events = c.round_of-next.result.0;
  is_round = c.round_of-next.ensures.events;
  allowed = c.in-Ok.ensures.allowed;
  hall = c.in-Ok.ensures.hall;
  pending_is = c.in-Ok.ensures.pending;
  wakes_is = c.in-Ok.ensures.wakes;
}

pub returns-in-Err-clause-refused : goal.returns-in-Err-clause-refused
returns-in-Err-clause-refused c = record { events = c.round_of-next.result.0; is_round = c.round_of-next.ensures.events; caused = c.in-Err.ensures.refused }
